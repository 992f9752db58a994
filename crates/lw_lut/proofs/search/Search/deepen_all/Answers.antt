use Rattle.std.proofs.Common.{◌≡◌, ◌/◌, ◌∙◌, ℕ, suc, length, ap, refl, sym, subst, arith}
use Rattle.lw_lut.specs.Reaches.{AreKnownBut}
use Rattle.lw_lut.specs.Searches.{AreCounts, AreDepthsUpTo, AreSettled, AreSettling, IsKnown, unknown_count}
use Rattle.lw_lut.proofs.Rounds.{further_cuts, further_pins}
use Rattle.lw_lut.proofs.Deep.{next_depths, last_depths}
use Rattle.lw_lut.proofs.search.Search.deepen_all.Goals as goal

pub lower_all-swept-requires-clause-may : goal.lower_all-swept-requires-clause-may
lower_all-swept-requires-clause-may c = record { low = c.requires.at.low; counts = (c.args.depth, c.requires.at.counts) }

pub settle_all-requires-clause-places : goal.settle_all-requires-clause-places
settle_all-requires-clause-places c =
    let l = c.lower_all-swept.ensures.counts c.args.depth c.requires.at.counts in
    let p = l.places in
    let few = c.classes.ensures.kept.few in
    record { one_pin = l.one_pin; two_depths = l.one_depth ∙ l.places; few_places = omega (arith, p, few) }

pub settle_all-requires-clause-reach : goal.settle_all-requires-clause-reach
settle_all-requires-clause-reach c =
    let l = c.lower_all-swept.ensures.counts c.args.depth c.requires.at.counts in
    let p = l.places in
    let r = c.args.task.now.reaches.one_each in
    omega (arith, p, r)

up : (c : goal.After-settle_all) → (d : ℕ) × (c.args.depth ≡ suc d) × AreDepthsUpTo c.args.task.now.graph.now c.args.task.now.leaves c.lower_all-swept.new.self.depths.items d
up c =
    let (d, same, old) = c.requires.at.depths in
    (d, same, subst (λ v. AreDepthsUpTo c.args.task.now.graph.now c.args.task.now.leaves v.items d) (sym c.lower_all-swept.ensures.depths) old)

settling : (c : goal.After-settle_all) → AreSettling c.args.task.now.graph.now c.args.task.now.leaves c.args.depth c.lower_all-swept.new.self
settling c =
    let s = c.lower_all-swept.new.self in
    let l = c.lower_all-swept.ensures.counts c.args.depth c.requires.at.counts in
    let (d, same, old) = up c in (
      further_pins c.args.task.now.graph.now c.args.task.now.leaves c.args.depth c.args.depth s.counts.items s.cuts.items s.pins.items s.depths.items l,
      λ n e at. let le = old.low n e at in omega (arith, le, same),
    )

-- lowered places are in the span that is settled
known_but : (c : goal.After-settle_all) → AreKnownBut c.args.task.now.leaves c.lower_all-swept.new.self.counts.items c.lower_all-swept.new.self.depths.items c.lower_all-swept.result
known_but c = λ n lt out few.
    let old = c.requires.at.counts.places in
    let new = (c.lower_all-swept.ensures.counts c.args.depth c.requires.at.counts).places in
    let same = c.lower_all-swept.ensures.elsewhere (n / 2) out in
    subst (λ v. IsKnown v.items n) (sym c.lower_all-swept.ensures.depths) (c.requires.swept.known n (omega (arith, lt, old, new)) (λ q e i. out q e (c.lower_all-swept.ensures.within q i)) (omega (arith, same, few)))

settled : (c : goal.After-settle_all) → (d : ℕ) → c.args.depth ≡ suc d → AreSettled c.args.task.now.leaves (suc d) c.lower_all-swept.new.self c.settle_all.new.self (length c.lower_all-swept.new.self.counts.items) c.settle_all.result
settled c d same = subst (λ n. AreSettled c.args.task.now.leaves n c.lower_all-swept.new.self c.settle_all.new.self (length c.lower_all-swept.new.self.counts.items) c.settle_all.result) same (c.settle_all.ensures.settled c.args.task.now.graph.now (settling c) (known_but c))

pub returns : goal.returns
returns c =
    let (d, same, old) = up c in
    let g = c.args.task.now.graph.now in
    let most = c.args.task.now.leaves in
    let first = c.lower_all-swept.new.self in
    let next = c.settle_all.new.self in
    let l = subst (λ n. AreCounts g most n first) same (c.lower_all-swept.ensures.counts c.args.depth c.requires.at.counts) in
    let is = settled c d same in
    let none_more = ap (λ v. unknown_count v.items) c.lower_all-swept.ensures.depths in
    record {
      at = record {
        low = c.requires.at.low;
        counts = further_cuts g most c.args.depth (suc c.args.depth) next.counts.items next.cuts.items next.pins.items next.depths.items (c.settle_all.ensures.lists g (settling c)).0;
        depths = (c.args.depth, refl, subst (λ n. AreDepthsUpTo g most next.depths.items n) (sym same) (next_depths g most d c.classes.ensures.kept first next l c.lower_all-swept.ensures.bounded old c.settle_all.result is));
      };
      swept = record {
        bounded = c.settle_all.ensures.bounded g c.args.task.now.reaches.reaches c.lower_all-swept.ensures.bounded;
        known = λ n lt out few. let one = is.one_each in is.all n (omega (arith, lt, one)) (c.settle_all.ensures.few (n / 2) few);
      };
      falls = λ e. let less = is.falls e in omega (arith, less, none_more);
      least = λ still two n. last_depths g most d c.classes.ensures.kept first next l c.lower_all-swept.ensures.bounded old c.settle_all.result is two still n;
    }
