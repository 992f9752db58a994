-- What a table of bounds cuts.
use Rattle.std.proofs.Common.{ℕ, ◌<◌, ◌≡◌, List, [], length, Option, Some, slice_get, slice_index_or, get_or, sym, subst, arith}
use Rattle.std.proofs.lemmas.Option.{slice_get_within, slice_get-get_or}
use Rattle.std.proofs.lemmas.List.{get_or_past}
use native.Mathlib.Decide.{dec_lt}
use Rattle.lw_laws.specs.Graphs.{Graph}
use Rattle.lw_laws.specs.Trees.{const_one}
use Rattle.lw_laws.specs.Covers.{Pattern}
use Rattle.lw_pattern.specs.Nodes.{tree_at, nodes_of}
use Rattle.lw_cost.specs.declared.mark.Mark.{Mark}
use Rattle.lw_bounds.specs.declared.parts.Side.{Side}
use Rattle.lw_bounds.specs.Shapes.{SideFits, gaps_of}
use Rattle.lw_bounds.specs.Numbers.{AreStarts, no_reading}
use Rattle.lw_bounds.specs.Bounds.{BoundsState, BoundsFit, AreBounds}
use Rattle.lw_bounds.specs.Cuts.{CutsState, CutsFit, AreCutsOf}
use Rattle.lw_bounds.proofs.MoreParts.{shape_fits}

abbrev pub cuts_of : BoundsState → CutsState
cuts_of b = record { sides = b.sides; roots = b.roots; width = length b.parts; starts = b.starts; numbers = b.numbers; gaps = b.gaps; height_sides = []; heights = no_reading }

pub no_side : (i place : ℕ) (side : Side) → slice_get (slice_index_or [] i []) place ≡ Some side → ⊥
no_side i place side at =
    let empty : slice_get [] place ≡ Some side = subst (λ (ss : List Side). slice_get ss place ≡ Some side) (get_or_past [] i [] (omega arith)) at in
    cc

pub bounds_cut : (b : BoundsState) (pats : List Pattern) (g : Graph) → BoundsFit b pats g → CutsFit (cuts_of b) g
bounds_cut b pats g fit = record {
  sides = λ i place side at. sides i place side at (dec_lt i (length pats));
  roots = roots;
  rows = fit.rows.rows;
  heights = λ i place side at. absurd (no_side i place side at);
}
  where
    roots : (i : ℕ) (side : Side) → slice_get b.roots i ≡ Some side → SideFits (length b.parts) side
    roots i side at =
        let none : Pattern = record { cell = 0; tree = const_one } in
        let p = get_or pats i none in
        let lt = slice_get_within b.roots i side at in
        let count = fit.root_count in
        shape_fits b.parts (gaps_of b.gaps i) 0 p.tree side (fit.roots i p side (slice_get-get_or pats i none (omega arith)) at)

    sides : (i place : ℕ) (side : Side) → slice_get (slice_index_or b.sides i []) place ≡ Some side → Dec (i < length pats) → SideFits (length b.parts) side
    sides i place side at (yes lt) =
        let none : Pattern = record { cell = 0; tree = const_one } in
        let p = get_or pats i none in
        shape_fits b.parts (gaps_of b.gaps i) 0 (tree_at (nodes_of p.tree) place) side (fit.sides i p (slice_get-get_or pats i none lt) place side at)
    sides i place side at (no ge) =
        let count = fit.count in
        let empty : slice_get [] place ≡ Some side = subst (λ (ss : List Side). slice_get ss place ≡ Some side) (get_or_past b.sides i [] (omega arith)) at in
        cc

pub bounds_cut_well : (b : BoundsState) (pats : List Pattern) (g : Graph) (marks : List (Option Mark)) → BoundsFit b pats g → AreBounds b g marks → AreCutsOf (cuts_of b) pats g marks
bounds_cut_well b pats g marks fit bounds = record {
  sides = λ i p place side e at. bounds (gaps_of b.gaps i) (tree_at (nodes_of p.tree) place) side (fit.sides i p e place side at);
  roots = λ i p side e at. bounds (gaps_of b.gaps i) p.tree side (fit.roots i p side e at);
  heights = λ i p place side e at. absurd (no_side i place side at);
}

-- other numbers, as many
pub fits_with : (b : BoundsState) (pats : List Pattern) (g : Graph) (numbers : List ℕ) → length numbers ≡ length b.numbers → BoundsFit b pats g → BoundsFit (record { parts = b.parts; gaps = b.gaps; sides = b.sides; roots = b.roots; starts = b.starts; numbers = numbers }) pats g
fits_with b pats g numbers size fit = record {
  rows = record {
    closed = fit.rows.closed;
    rows = subst (AreStarts (length b.parts) b.starts) (sym size) fit.rows.rows;
    bare = fit.rows.bare;
    apart = fit.rows.apart;
  };
  count = fit.count;
  sides = fit.sides;
  root_count = fit.root_count;
  roots = fit.roots;
}
