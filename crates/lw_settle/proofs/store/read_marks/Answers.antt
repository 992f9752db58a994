use Rattle.std.proofs.Common.{◌+◌, ◌<◌, ◌≡◌, [], ◌∷◌, ◌++◌, length, take, option_map, sym, ap, subst, subst₂, arith}
use Rattle.std.proofs.lemmas.List.{take_all}
use Rattle.lw_laws.specs.Marks.{HaveMarks, costs_in}
use Rattle.lw_cost.specs.Values.{marks_in, plain_mark}
use Rattle.lw_settle.proofs.Filling.{no_class}
use Rattle.lw_settle.proofs.Reading.{AreRead, read_more, marked_at}
use Rattle.lw_settle.proofs.store.read_marks.Goals as goal
use Rattle.lw_settle.proofs.store.read_marks.Goals.{in-Some, in_default}
use Rattle.lw_pool.specs.Numbers.{numbers}

pub loop-k-preserved : goal.loop-k-preserved
loop-k-preserved c =
    let l = c.loop-k in
    let marks = marks_in c.args.marks.now in
    let pins = c.args.pins.now in
    let (ks, read) = l.invariant in
    elim c.match-marks-pin.branch [
      | in-Some w ↦
          let k = plain_mark w.in-Some.mark in
          let room : l.k < length l.costs = omega (arith, c.requires.few) in
          let new = read_more marks pins l.k l.height w.max-height.result l.costs ks k no_class c.loop-k-test.true room read (ap (option_map plain_mark) w.in-Some.is) w.max-height.ensures in
          (ks ++ k ∷ [], subst₂ (λ h costs. AreRead marks pins (l.k + 1) h costs (ks ++ k ∷ [])) (sym w.height-is) (sym w.costs-is) new)
      | in_default w ↦
          let (k, at) = marked_at marks pins l.k no_class c.loop-k-test.true c.requires.marked in
          let none = ap (option_map plain_mark) w.in_default.is in
          absurd (cc)
    ]

pub returns : goal.returns
returns c =
    let l = c.loop-k in
    let (ks, read) = l.invariant in
    let all : l.k ≡ length c.args.pins.now = omega arith in
    let whole = take_all l.k c.args.pins.now (omega arith) in
    (ks, subst (λ ps. HaveMarks (marks_in c.args.marks.now) (numbers ps) ks) whole read.have, subst (λ n. take n l.costs ≡ costs_in ks) all read.costs_are, read.height_is)
