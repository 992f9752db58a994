-- What may stand at classes is in range: the classes of pins, the cells and their pins, and the delays.
use Rattle.std.proofs.Common.{◌≡◌, ℕ, suc, ◌<◌, ◌⊎◌, inl, inr, All, List, [], ◌∷◌, length, Contains, Some, slice_get, slice_index_or, refl, sym, ap, ◌∙◌, subst, arith}
use Rattle.std.specs.List.{AllByRecursion}
use Rattle.std.proofs.lemmas.Option.{same_Some, slice_get_within}
use Rattle.lw_graph.specs.Graphs.{IsGraph}
use Rattle.lw_laws.specs.Flip.{flip}
use Rattle.lw_laws.specs.Graphs.{Graph, Pair, HoldsPair, Stands}
use Rattle.lw_laws.specs.Trees.{Tree, leaf, const_one, const_zero, inv, nand, HasLeaf}
use Rattle.lw_cost.specs.Least.{AreOfCells}
use Rattle.lw_choices.specs.Areas.{area_cost}
use Rattle.lw_choices.specs.Choices.{Choice, Part, MayStand, AreListedChoices, IsWithin, IsOfLibrary}
use Rattle.lw_choices.specs.Choices.Part.{input, gate}
use Rattle.lw_choices.specs.Tasks.{Task}
use Rattle.lw_choices.specs.Rows.{IsRowFor}
use Rattle.lw_choices.proofs.Lists.{got}
use Rattle.lw_graph.proofs.Graphs.{flip_below}

all_by : (n : ℕ) (ps : List ℕ) → ((k p : ℕ) → slice_get ps k ≡ Some p → p < n) → AllByRecursion (λ p. p < n) ps
all_by n [] each = tt
all_by n (p ∷ ps) each = (each 0 p refl, all_by n ps (λ k q at. each (suc k) q at))

-- what stands below a class of the graph stands at classes of the graph
module _ (g : Graph) (is : IsGraph g) (ps : List ℕ) where
  held_below : (c x y : ℕ) → c < length g.pairs → Contains (slice_index_or g.pairs c []) (record { x = x; y = y }) → (x < length g.pairs) × (y < length g.pairs)
  held_below c x y lt (k, in', e) = subst (λ (p : Pair). (p.x < length g.pairs) × (p.y < length g.pairs)) e (is.pairs c [] lt k (record { x = x; y = y }) in')

  both_below : (c x y : ℕ) → c < length g.pairs → HoldsPair g c x y → (x < length g.pairs) × (y < length g.pairs)
  both_below c x y lt (inl h) = held_below c x y lt h
  both_below c x y lt (inr h) = let (a, b) = held_below c y x lt h in (b, a)

  pin_below : (t : Tree) (c k p : ℕ) → c < length g.pairs → Stands g ps t c → HasLeaf t k → slice_get ps k ≡ Some p → p < length g.pairs
  pin_below (leaf i) c k p lt at e pt =
      let same : c ≡ p = same_Some c p (sym at ∙ (ap (slice_get ps) e ∙ pt)) in
      subst (λ d. d < length g.pairs) same lt
  pin_below const_one c k p lt at none pt = absurd none
  pin_below const_zero c k p lt at none pt = absurd none
  pin_below (inv t) c k p lt at has pt = pin_below t (flip c) k p (flip_below (length g.pairs) c is.even lt) at has pt
  pin_below (nand t u) c k p lt (x, y, held, left, right) has pt =
      let (a, b) = both_below c x y lt held in
      by_side (λ l. pin_below t x k p a left l pt) (λ l. pin_below u y k p b right l pt) has
    where
      by_side : (HasLeaf t k → p < length g.pairs) → (HasLeaf u k → p < length g.pairs) → HasLeaf t k ⊎ HasLeaf u k → p < length g.pairs
      by_side f h (inl l) = f l
      by_side f h (inr l) = h l

module _ (s : Task) (is_graph : IsGraph s.graph) (of_cells : AreOfCells (area_cost s.cells).pin_counts s.patterns) where
  part_within : (c : ℕ) (part : Part) → c < length s.graph.pairs → MayStand s c part → IsWithin (length s.graph.pairs) part
  part_within c (input i) lt may = tt
  part_within c (gate cell ps) lt may =
      let is = of_cells may.pattern may.listed in
      let n : is.pin_count ≡ length ps = same_Some is.pin_count (length ps) (sym is.has ∙ (ap (slice_get (area_cost s.cells).pin_counts) may.cell_is ∙ may.pins)) in
      all_by (length s.graph.pairs) ps (λ k p at.
      let l = slice_get_within ps k p at in
      pin_below s.graph is_graph ps may.pattern.tree c k p lt may.stands ((is.pins k).1 (omega (arith, l, n))) at)

  part_of_library : (c : ℕ) (part : Part) → MayStand s c part → IsOfLibrary s.cells part
  part_of_library c (input i) may = tt
  part_of_library c (gate cell ps) may = may.pins

  module _ (rows : List Choice) (are : AreListedChoices s rows) where
    pub rows_for : All (IsRowFor s.cells (length s.graph.pairs)) rows
    rows_for k d lt =
        let r = slice_index_or rows k d in
        let at = got rows k d lt in
        record {
          part = record {
            within = part_within r.class r.part (are.within k r at) (are.each k r at);
            of_library = part_of_library r.class r.part (are.each k r at);
          };
          class_low = are.within k r at;
        }
