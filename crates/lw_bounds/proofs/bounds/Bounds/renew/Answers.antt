use Rattle.std.proofs.Common.{◌≡◌, ◌∙◌, length, map, ap, sym, subst, subst₂, arith}
use Rattle.std.specs.Vec.{with_items}
use Rattle.std.proofs.lemmas.List.{with_items_is}
use Rattle.lw_bounds.specs.Bounds.{BoundsState, BoundsFit, AreRows, IsRowRenewed, reading_of}
use Rattle.lw_bounds.specs.Places.{AreGrouped}
use Rattle.lw_bounds.proofs.CutsOfBounds.{fits_with}
use Rattle.lw_bounds.proofs.Renewed.{IsRenewed, renewed}
use Rattle.lw_bounds.proofs.bounds.Bounds.renew.Goals as goal

pub renew_parts-requires : goal.renew_parts-requires
renew_parts-requires c =
    let graph = c.args.graph.now in
    let inside = subst (λ (b : BoundsState). AreRows b.parts b.starts b.numbers graph) (sym c.self.view_is) c.requires.rows in
    let numbers = subst₂ (λ starts numbers. AreRows c.self.inside.sides.parts.keys starts numbers graph) (sym c.deref.ensures.value) (sym c.deref_mut-2.ensures.value) inside in
    record {
      graph = c.classes.ensures.kept;
      class = c.requires.class;
      one_each = c.requires.one_each;
      rows = subst (λ parts. AreRows parts c.deref.result.now c.deref_mut-2.result.now graph) (sym c.as_slice.ensures.keys) numbers;
      grouped = subst₂ AreGrouped (sym c.as_slice.ensures.keys) (sym c.deref-2.ensures.value) c.self.invariant.grouped;
      least = ap length c.deref_mut.ensures.value ∙ (c.self.invariant.least_room ∙ ap length (sym c.as_slice.ensures.keys));
    }

pub invariant_of-self : goal.invariant_of-self
invariant_of-self c =
    let least = c.self.inside.rows.least in
    let new = c.renew_parts.new.least in
    record {
      grouped = c.self.invariant.grouped;
      least_room = ap length (with_items_is least new (omega (arith, c.renew_parts.auto.least, c.deref_mut.ensures.len))) ∙ (c.renew_parts.auto.least ∙ (ap length c.deref_mut.ensures.value ∙ c.self.invariant.least_room));
      roots_listed = c.self.invariant.roots_listed;
    }

-- what the table is seen as before
abbrev seen : (c : goal.After-self-2-1) → BoundsState
seen c =
    let b = c.self.inside in
    record { parts = b.sides.parts.keys; gaps = b.gaps.items; sides = map (λ side. side.items) b.sides.all.items; roots = b.sides.roots.items; starts = b.rows.starts.items; numbers = b.rows.numbers.items }

facts : (c : goal.After-self-2-1) → IsRenewed c.args.graph.now c.args.marks.now c.args.class.0 c.renew_parts.result (seen c) (with_items c.self.inside.rows.numbers c.renew_parts.new.numbers).items c.args.self.now
facts c =
    let b = c.self.inside in
    let graph = c.args.graph.now in
    let marks = c.args.marks.now in
    let new = c.renew_parts.new.numbers in
    let class = c.args.class.0 in
    let fell = c.renew_parts.result in
    let kept = with_items_is b.rows.numbers new (omega (arith, c.renew_parts.auto.numbers, c.deref_mut-2.ensures.len)) in
    let rows = subst₂ (λ starts numbers. IsRowRenewed graph (reading_of graph marks c.as_slice.result.now starts numbers) c.as_slice.result.now new class fell) c.deref.ensures.value c.deref_mut-2.ensures.value c.renew_parts.ensures in
    let row = subst (λ parts. IsRowRenewed graph (reading_of graph marks parts b.rows.starts.items b.rows.numbers.items) parts new class fell) c.as_slice.ensures.keys rows in
    renewed graph marks class fell (seen c) (with_items b.rows.numbers new).items new c.args.self.now c.self.view_is kept row

pub returns-clause-fits : goal.returns-clause-fits
returns-clause-fits c = λ pats fits.
    let numbers = c.self.inside.rows.numbers in
    let new = c.renew_parts.new.numbers in
    let kept = with_items_is numbers new (omega (arith, c.renew_parts.auto.numbers, c.deref_mut-2.ensures.len)) in
    let size : length new ≡ length numbers.items = c.renew_parts.auto.numbers ∙ ap length c.deref_mut-2.ensures.value in
    fits_with _ pats c.args.graph.now _ (ap length kept ∙ size) (subst (λ (b : BoundsState). BoundsFit b pats c.args.graph.now) (sym c.self.view_is) fits)

pub returns-clause-falls : goal.returns-clause-falls
returns-clause-falls c = (facts c).falls

pub returns-clause-same : goal.returns-clause-same
returns-clause-same c = (facts c).same

pub returns-clause-settled : goal.returns-clause-settled
returns-clause-settled c = (facts c).settled

pub returns-clause-never_rises : goal.returns-clause-never_rises
returns-clause-never_rises c = (facts c).never_rises

pub returns-clause-gaps : goal.returns-clause-gaps
returns-clause-gaps c = ap (λ (b : BoundsState). b.gaps) c.self.view_is

pub returns-clause-others : goal.returns-clause-others
returns-clause-others c = (facts c).others

pub returns-clause-lowered : goal.returns-clause-lowered
returns-clause-lowered c = (facts c).lowered
