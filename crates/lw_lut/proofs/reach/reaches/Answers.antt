use Rattle.std.proofs.Common.{◌*◌, ◌/◌, ◌∙◌, ap, sym, inl, inr, subst, arith}
use Rattle.std.proofs.lemmas.Bool.{cases_eq}
use Rattle.lw_laws.specs.Graphs.{HoldsPair}
use Rattle.lw_lut.specs.Reaches.{IsSeen}
use Rattle.lw_lut.proofs.Reaching.{row_seen}
use Rattle.lw_lut.proofs.reach.reaches.Goals as goal
use Rattle.lw_laws.proofs.Shared.{pair_within}

pub loop-class-preserved : goal.loop-class-preserved
loop-class-preserved c =
    let g = c.args.graph.now in
    let k = c.loop-class.class in
    let inv = c.loop-class.invariant in
    let new = c.note_row.new.reach.items in
    record {
      one_each = inv.one_each ∙ ap (λ n. 2 * n) (sym c.note_row.ensures.grown.one_each);
      noted = λ d x y lt h. elim (cases_eq d k) [
        | inl here ↦ subst (λ e. IsSeen new e x y) (sym here) (row_seen g k c.nands.result.now c.nands.ensures.pairs new c.note_row.ensures.noted x y (subst (λ e. HoldsPair g e x y) here h))
        | inr other ↦ let (a, b) = inv.noted d x y (omega (arith, lt, other)) h in (c.note_row.ensures.grown.spans (x / 2) d a, c.note_row.ensures.grown.spans (y / 2) d b)
      ];
    }

pub returns : goal.returns
returns c = record {
  one_each = c.loop-class.invariant.one_each;
  reaches = λ d x y h.
      let lt = pair_within c.args.graph.now d x y h in
      let end = c.loop-class-test.false in
      let all = c.classes-classes.ensures.classes in
      c.loop-class.invariant.noted d x y (omega (arith, lt, end, all)) h;
}
