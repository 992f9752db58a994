use Rattle.std.proofs.Common.{◌∙◌, ◌+◌, All, arith, subst, sym, take}
use Rattle.std.proofs.lemmas.List.Elements.{All-push}
use Rattle.lw_equal.specs.Answers.{IsShared}
use Rattle.lw_equal.specs.Cases.{AreJudged, one_of, other_of}
use Rattle.lw_equal.specs.Pairs.{IsPair}
use Rattle.lw_equal.proofs.Paired.{all_equal, all_judged, judged_more, same_more, shared_point}
use Rattle.lw_equal.proofs.deciding.decide_all.Goals as goal
use Rattle.lw_equal.proofs.deciding.decide_all.Goals.{in-Same, in-Open+in_ok-copy_of-in-Open+in_ok-push-in-Open}

pub pairs-preserved : goal.pairs-preserved
pairs-preserved c =
    let one = one_of c.args.case.now in
    let other = other_of c.args.case.now in
    let pairs = c.args.pairs.now in
    let i = c.pairs.pair-index in
    let pair = c.pair-item.result in
    let lt = c.pairs-test.true in
    let here = c.pair-item.is in
    let was = c.pairs.invariant in
    let same = c.judge.ensures.kept ∙ was.same in
    elim c.match-branch-2.branch [
      | in-Same w ↦
          let value = rw w.in-Same.is at c.in_ok-judge.ensures.judged in
          record {
            same = same;
            shared = subst (All (IsShared one other)) (sym w.undecided-is) was.shared;
            judged = subst (AreJudged one other (take (i + 1) pairs)) (sym w.undecided-is) (same_more pairs i pair lt here one other c.pairs.undecided was.judged value);
          }
      | in-Open+in_ok-copy_of-in-Open+in_ok-push-in-Open w ↦
          let point = w.in_ok-copy_of-in-Open.field-0 in
          let copied = w.in_ok-copy_of-in-Open.ensures in
          let now = sym (w.undecided-is ∙ w.in_ok-push-in-Open.ensures) in
          let shared = shared_point one other pair (subst (IsPair one other) (sym here) (c.requires.pairs i pair lt)) in
          record {
            same = same;
            shared = subst (All (IsShared one other)) now (All-push (IsShared one other) c.pairs.undecided point was.shared (subst (IsShared one other) (sym copied) shared));
            judged = subst (AreJudged one other (take (i + 1) pairs)) now (judged_more pairs i pair lt here one other c.pairs.undecided was.judged point copied);
          }
    ]

pub returns-then-len-eq0 : goal.returns-then-len-eq0
returns-then-len-eq0 c =
    let case = c.args.case.now in
    all_equal (one_of case) (other_of case) c.args.pairs.now c.pairs.pair-index c.pairs.undecided c.pairs-test.false (sym c.len.ensures ∙ c.if-len-eq0.true) c.pairs.invariant.judged

pub returns : goal.returns
returns c =
    let case = c.args.case.now in
    let size = c.len.ensures in
    let some = c.if-len-eq0.false in
    record {
      some = omega (arith, size, some);
      shared = c.pairs.invariant.shared;
      judged = all_judged (one_of case) (other_of case) c.args.pairs.now c.pairs.pair-index c.pairs.undecided c.pairs-test.false c.pairs.invariant.judged;
    }
