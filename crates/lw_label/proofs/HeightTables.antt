-- Tables of bounds on heights.
use Rattle.std.proofs.Common.{ℕ, zero, suc, ◌<◌, ◌≡◌, ◌/◌, inl, inr, Bool, false, IfSome, List, [], ◌∷◌, length, Option, Some, None, option_map, slice_index_or, slice_set, replicate, refl, ap, sym, ◌∙◌, subst, arith}
use Rattle.std.proofs.lemmas.List.{length-map, map-set}
use Rattle.lw_laws.specs.Flip.{flip}
use Rattle.lw_laws.specs.Graphs.{Graph}
use Rattle.lw_laws.specs.Costs.{Cost}
use Rattle.lw_laws.specs.Covers.{Pattern}
use Rattle.lw_graph.specs.Graphs.{IsGraph}
use Rattle.lw_bounds.specs.declared.heights.HeightBounds.{HeightBounds}
use Rattle.lw_cost.specs.declared.mark.Mark.{Mark}
use Rattle.lw_bounds.specs.Shapes.{AreClosed}
use Rattle.lw_bounds.specs.Bounds.{AreSettledAt, BoundsState, IsTableBut}
use Rattle.lw_match.specs.Cutting.{TopsState}
use Rattle.lw_bounds.specs.HeightBounds.{AreFlat, AreHeightBounds, height_mark, heights_of}
use Rattle.lw_bounds.proofs.Tables.{but_same, fits_but, lowered_settled, settled_low}
use Rattle.lw_label.specs.declared.heights.Given.{Given}
use Rattle.lw_label.specs.Heights.{AreSameBut, AreStill, IsHeightSearch, IsReachedFrom}
use Rattle.lw_label.specs.HeightTables.{AreHeightsFalling, HasHeightsOf, IsHeightTable, IsNewTable, IsTableAround, with_heights}
use Rattle.lw_label.specs.Lowering.{LabelState, state}
use Rattle.lw_label.specs.OneVisit.{AreZeroOrSettled}
use Rattle.lw_label.specs.Orders.{ArePartsStill, IsStillAfter, IsStillAt}
use Rattle.lw_label.proofs.OneVisit.{around_after, numbers_bound, numbers_kept, numbers_more, numbers_zero, still_turned}
use Rattle.lw_label.proofs.Still.{still_elsewhere, still_kept, still_more}

-- Heights as costs.

heights_set : (marks : List (Option Mark)) (c : ℕ) (m : Option Mark) → heights_of (slice_set marks c m) ≡ slice_set (heights_of marks) c (option_map height_mark m)
heights_set marks c m = map-set (λ (k : Option Mark). option_map height_mark k) marks c m

length-heights : (marks : List (Option Mark)) → length (heights_of marks) ≡ length marks
length-heights marks = length-map marks (λ (k : Option Mark). option_map height_mark k)

pub heights_none : (n : ℕ) → heights_of (replicate n None) ≡ replicate n None
heights_none zero = refl
heights_none (suc n) = ap (λ ms. None ∷ ms) (heights_none n)

height_at : (marks : List (Option Mark)) (c : ℕ) → slice_index_or (heights_of marks) c None ≡ option_map height_mark (slice_index_or marks c None)
height_at [] c = refl
height_at (m ∷ marks) zero = refl
height_at (m ∷ marks) (suc c) = height_at marks c

-- other marks at these classes, and other heights
same_heights : (at : ℕ → Type 0) (old new marks : List (Option Mark)) → marks ≡ heights_of old → AreSameBut at old new → AreSameBut at marks (heights_of new)
same_heights at old new marks is same c out =
    height_at new c ∙ (ap (option_map height_mark) (same c out) ∙ (sym (height_at old c) ∙ ap (λ ms. slice_index_or ms c None) (sym is)))

-- A table, or none, with heights.

pub with_same : (marks : List (Option Mark)) (table : Option LabelState) → IfSome table (HasHeightsOf marks) → table ≡ with_heights marks table
with_same marks None has = refl
with_same marks (Some t) has = ap (λ ms. Some (state t.bounds ms)) has

pub with_again : (mid new : List (Option Mark)) (table : Option LabelState) → with_heights new (with_heights mid table) ≡ with_heights new table
with_again mid new None = refl
with_again mid new (Some t) = refl

pub with_has : (marks : List (Option Mark)) (table : Option LabelState) → IfSome (with_heights marks table) (HasHeightsOf marks)
with_has marks None = tt
with_has marks (Some t) = refl

-- one class has got another mark
pub with_put : (marks : List (Option Mark)) (c : ℕ) (m : Option Mark) (table : Option LabelState) → IfSome table (HasHeightsOf marks) → option_map (λ (t : LabelState). state t.bounds (slice_set t.marks c (option_map height_mark m))) table ≡ with_heights (slice_set marks c m) table
with_put marks c m None has = refl
with_put marks c m (Some t) has =
    ap (λ ms. Some (state t.bounds ms)) (ap (λ ms. slice_set ms c (option_map height_mark m)) has ∙ sym (heights_set marks c m))

-- a class of the graph is one of the table
pub has_class : (marks : List (Option Mark)) (c : ℕ) (table : Option LabelState) → c < length marks → IfSome table (HasHeightsOf marks) → IfSome table (λ t. c < length t.marks)
has_class marks c None below has = tt
has_class marks c (Some t) below has =
    let same : length t.marks ≡ length marks = ap length has ∙ length-heights marks in
    omega (arith, below, same)

-- heights are found once more
pub with_next : (mid new : List (Option Mark)) (table next later : Option LabelState) → next ≡ with_heights mid table → later ≡ with_heights new next → later ≡ with_heights new table
with_next mid new table next later one two =
    two ∙ (ap (with_heights new) one ∙ with_again mid new table)

module _ (g : Graph) where
  -- the numbers stay bounds where only marks at a place have changed that is not still
  pub numbers_stay : (b : BoundsState) (old new : List (Option Mark)) (still : List Bool) (place : ℕ) → AreClosed b.parts → slice_index_or still place false ≡ false → AreSameBut (λ c. c / 2 ≡ place) old new → AreZeroOrSettled g (state b old) still → AreZeroOrSettled g (state b new) still
  numbers_stay b old new still place closed moves same are c = elim (are c) [
    | inl none ↦ inl none
    | inr (settled, there) ↦ inr (lowered_settled g b b old new (λ d. d / 2 ≡ place) (but_same (λ d. d / 2 ≡ place) b) same closed c (λ x y h. let (one, other) = there x y h in (out x one, out (flip x) (still_turned still x one), out y other, out (flip y) (still_turned still y other))) (settled_low b g old c settled), there)
  ]
    where
      out : (d : ℕ) → IsStillAt still d → d / 2 ≡ place → ⊥
      out = still_elsewhere still place moves

  module _ (pats : List Pattern) where
    -- the rows of a place are set
    pub table_set : (still : List Bool) (place : ℕ) (old new : LabelState) → slice_index_or still place false ≡ false → ((c : ℕ) → c / 2 ≡ place → ArePartsStill g still c) → new.marks ≡ old.marks → IsTableBut (λ c. c / 2 ≡ place) old.bounds new.bounds → ((c : ℕ) → c / 2 ≡ place → AreSettledAt new.bounds g new.marks c) → IsHeightTable g pats still old → IsHeightTable g pats still new
    table_set still place old new moves parts same but settled is = record {
      one_each = ap length same ∙ is.one_each;
      fits = fits_but (λ c. c / 2 ≡ place) old.bounds new.bounds pats g but is.fits;
      flat = subst (λ (b : BoundsState). AreFlat b.gaps) (sym but.table) is.flat;
      numbers = numbers_kept g old new still place is.fits.rows.closed moves (record { table = but; marks = λ c out. ap (λ ms. slice_index_or ms c None) same }) settled parts is.numbers;
    }

    -- no class has a number yet
    pub table_started : (marks : List (Option Mark)) (still : List Bool) (table : Option LabelState) → length marks ≡ length g.pairs → IfSome table (IsNewTable g pats) → IfSome (with_heights marks table) (IsHeightTable g pats still)
    table_started marks still None e is = tt
    table_started marks still (Some t) e is = record {
      one_each = length-heights marks ∙ e;
      fits = is.fits;
      flat = is.flat;
      numbers = numbers_zero g t.bounds (heights_of marks) still is.fits.rows is.zero;
    }

    pub new_has : (marks : List (Option Mark)) (table : Option LabelState) → marks ≡ replicate (length g.pairs) None → IfSome table (IsNewTable g pats) → IfSome table (HasHeightsOf marks)
    new_has marks None e is = tt
    new_has marks (Some t) e is =
        is.none ∙ (sym (heights_none (length g.pairs)) ∙ ap heights_of (sym e))

    -- a place that is not still is searched
    pub around_place : (marks : List (Option Mark)) (still : List Bool) (place : ℕ) (table : Option LabelState) → IsGraph g → slice_index_or still place false ≡ false → IfSome table (HasHeightsOf marks) → IfSome table (IsHeightTable g pats still) → IfSome table (IsTableAround g pats marks place)
    around_place marks still place None graph moves has is = tt
    around_place marks still place (Some t) graph moves has is = record {
      heights = has;
      fits = is.fits;
      flat = is.flat;
      around = λ other same. numbers_bound g (state t.bounds other) still graph pats is.fits (numbers_stay t.bounds t.marks other still place is.fits.rows.closed moves same is.numbers);
    }

    pub around_has : (marks : List (Option Mark)) (place : ℕ) (table : Option LabelState) → IfSome table (IsTableAround g pats marks place) → IfSome table (HasHeightsOf marks)
    around_has marks place None is = tt
    around_has marks place (Some t) is = is.heights

    -- classes of the place have got heights
    pub around_with : (old new : List (Option Mark)) (place : ℕ) (at : ℕ → Type 0) (table : Option LabelState) → ((c : ℕ) → at c → c / 2 ≡ place) → AreSameBut at old new → IfSome table (IsTableAround g pats old place) → IfSome (with_heights new table) (IsTableAround g pats new place)
    around_with old new place at None to same is = tt
    around_with old new place at (Some t) to same is = record {
      heights = refl;
      fits = is.fits;
      flat = is.flat;
      around = around_after t.bounds g t.marks (heights_of new) place at to (same_heights at old new t.marks is.heights same) is.around;
    }

    pub around_class : (old new : List (Option Mark)) (place class : ℕ) (table later : Option LabelState) → class / 2 ≡ place → AreSameBut (λ c. c / 2 ≡ place) old new → later ≡ with_heights new table → IfSome table (IsTableAround g pats old place) → IfSome later (IsTableAround g pats new (class / 2))
    around_class old new place class table later here same e is =
        subst (λ t. IfSome t (IsTableAround g pats new (class / 2))) (sym e) (subst (λ p. IfSome (with_heights new table) (IsTableAround g pats new p)) (sym here) (around_with old new place (λ c. c / 2 ≡ place) table (λ c f. f) same is))

    -- what searches see of the table
    pub seen_bounds : (marks : List (Option Mark)) (place : ℕ) (seen : Option HeightBounds) (table : Option LabelState) → option_map (λ (h : HeightBounds). state h.bounds.now h.marks.now) seen ≡ table → IfSome table (IsTableAround g pats marks place) → IfSome seen (λ h. AreHeightBounds h pats g marks)
    seen_bounds marks place None table e is = tt
    seen_bounds marks place (Some h) table e is =
        let at : IsTableAround g pats marks place (state h.bounds.now h.marks.now) = subst (λ t. IfSome t (IsTableAround g pats marks place)) (sym e) is in
        record { heights = at.heights; fit = at.fits; gaps = at.flat; bounds = at.around h.marks.now (λ c out. refl) }

    -- the place has been searched
    pub table_found : (old new : List (Option Mark)) (still : List Bool) (place : ℕ) (table : Option LabelState) → length new ≡ length g.pairs → slice_index_or still place false ≡ false → AreSameBut (λ c. c / 2 ≡ place) old new → IfSome table (HasHeightsOf old) → IfSome table (IsHeightTable g pats still) → IfSome (with_heights new table) (IsHeightTable g pats still)
    table_found old new still place None e moves same has is = tt
    table_found old new still place (Some t) e moves same has is = record {
      one_each = length-heights new ∙ e;
      fits = is.fits;
      flat = is.flat;
      numbers = numbers_stay t.bounds t.marks (heights_of new) still place is.fits.rows.closed moves (same_heights (λ c. c / 2 ≡ place) old new t.marks has same) is.numbers;
    }

    -- the place has become still
    pub table_more : (place : ℕ) (old new : List Bool) (table : Option LabelState) → IsStillAfter g place old new → ((c : ℕ) → IsStillAt old c → ArePartsStill g old c) → IfSome table (IsHeightTable g pats old) → IfSome table (IsHeightTable g pats new)
    table_more place old new None after parts is = tt
    table_more place old new (Some t) after parts is = record {
      one_each = is.one_each;
      fits = is.fits;
      flat = is.flat;
      numbers = numbers_more g t place old new after parts is.numbers;
    }

-- A visit of a place that is not still.
module _ {C : _} (cost : Cost) (d : Given C) (place : ℕ) (still : List Bool) (moves : slice_index_or still place false ≡ false) (marks others : List (Option Mark)) (same : AreSameBut (λ c. c / 2 ≡ place) marks others) (table later : Option LabelState) (has : IfSome table (HasHeightsOf marks)) (numbers : IfSome table (IsHeightTable d.task.now.graph.now d.task.now.pats.now still)) (found : later ≡ with_heights others table) (tops : TopsState) (search : IsHeightSearch cost d tops others) (kept : AreStill d.task.now.graph.now cost d.task.now.pats.now d.labels.now marks still) where
  found_heights : IfSome later (HasHeightsOf others)
  found_heights = subst (λ t. IfSome t (HasHeightsOf others)) (sym found) (with_has others table)

  found_table : IfSome later (IsHeightTable d.task.now.graph.now d.task.now.pats.now still)
  found_table = subst (λ t. IfSome t (IsHeightTable d.task.now.graph.now d.task.now.pats.now still)) (sym found) (table_found d.task.now.graph.now d.task.now.pats.now marks others still place table search.heights.one_each moves same has numbers)

  found_still : AreStill d.task.now.graph.now cost d.task.now.pats.now d.labels.now others still
  found_still = still_kept d.task.now.graph.now cost d.task.now.pats.now d.labels.now search.given.of_cells marks others still place moves same kept

  pub visit_found : AreHeightsFalling cost d tops later others still
  visit_found = record { search = search; kept = found_still; heights = found_heights; numbers = found_table }

  -- the place has become still
  pub visit_settled : (more : List Bool) → IsStillAfter d.task.now.graph.now place still more → ((c : ℕ) → c / 2 ≡ place → IsReachedFrom cost d others c) → AreHeightsFalling cost d tops later others more
  visit_settled more after reached = record {
    search = search;
    kept = still_more d.task.now.graph.now cost d.task.now.pats.now d.labels.now others place still more after reached found_still;
    heights = found_heights;
    numbers = table_more d.task.now.graph.now d.task.now.pats.now place still more later after kept.parts found_table;
  }
