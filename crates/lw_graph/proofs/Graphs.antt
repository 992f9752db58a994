-- What a graph's numbers are: in range, and those that it was made with.
use Rattle.std.proofs.Common.{◌≡◌, ℕ, Bool, true, false, ◌<◌, ◌/◌, ◌%◌, ◌==◌, if◌then◌else◌, List, [], length, map, slice_index, All, sym, ap, ◌∙◌, subst, arith}
use Rattle.std.specs.List.{slice_get, slice_range}
use Rattle.std.specs.Prelude.{Some, slice_index_or}
use Rattle.std.proofs.lemmas.List.Elements.{All-get_or}
use Rattle.std.proofs.lemmas.List.{get_or-map, length-map}
use Rattle.std.proofs.lemmas.Option.{slice_get_within, get_or_from_slice_get}
use Rattle.lw_pool.specs.declared.id.ClassId.{ClassId}
use Rattle.lw_laws.proofs.Flips.{half-flip}
use Rattle.lw_laws.specs.Flip.{flip}
use Rattle.lw_laws.specs.Graphs.{Graph as PlainGraph, AreRising, class_of}
use Rattle.lw_graph.specs.declared.pair.Pair.{Pair}
use Rattle.lw_graph.specs.Graphs.{plain_pair, plain_row, plain_graph, flat_graph, IsBelow, IsGraph}
use Rattle.lw_graph.specs.Rows.{rows_from, start_at}
use Rattle.lw_graph.proofs.Rows.{length-rows_from, row_at}
use Rattle.lw_pool.specs.Numbers.{numbers}

pub flip_below : (n c : ℕ) → n % 2 ≡ 0 → c < n → flip c < n
flip_below n c even lt = let h = half-flip c in omega arith

number_at : (classes : List ClassId) (i : ℕ) (c : ClassId) → slice_get classes i ≡ Some c → slice_index (numbers classes) i ≡ c.0
number_at classes i c at =
    get_or-map (λ (k : ClassId). k.0) classes i c 0 (slice_get_within classes i c at) ∙ ap (λ (k : ClassId). k.0) (get_or_from_slice_get classes i c c at)

number_below : (n : ℕ) (classes : List ClassId) (i : ℕ) (c : ClassId) → All (λ k. k < n) (numbers classes) → slice_get classes i ≡ Some c → c.0 < n
number_below n classes i c below at =
    let lt : i < length (numbers classes) = subst (λ m. i < m) (sym (length-map classes (λ (k : ClassId). k.0))) (slice_get_within classes i c at) in
    subst (λ k. k < n) (number_at classes i c at) (All-get_or (λ k. k < n) (numbers classes) i 0 lt below)

chosen_below : (n c : ℕ) (b : Bool) → n % 2 ≡ 0 → c < n → (if b then c else flip c) < n
chosen_below n c true even lt = lt
chosen_below n c false even lt = flip_below n c even lt

pub row_from : (rows : List (List Pair)) (c : ℕ) (row : List Pair) → slice_get rows c ≡ Some row → slice_index_or (map plain_row rows) c [] ≡ plain_row row
row_from rows c row at =
    get_or-map plain_row rows c row [] (slice_get_within rows c row at) ∙ ap plain_row (get_or_from_slice_get rows c row row at)

below_each : (n : ℕ) (row : List Pair) → All (IsBelow n) (plain_row row) → All (λ (p : Pair). (p.x.0 < n) × (p.y.0 < n)) row
below_each n row below k p lt =
    let q = All-get_or (IsBelow n) (plain_row row) k (plain_pair p) (subst (λ m. k < m) (sym (length-map row plain_pair)) lt) below in
    subst (IsBelow n) (get_or-map plain_pair row k p (plain_pair p) lt) q

module _ (one : ClassId) (leaves forms : List ClassId) (rows : List (List Pair)) where
  pub leaf_within : IsGraph (plain_graph one leaves forms rows) → (i : ℕ) (c : ClassId) → slice_get leaves i ≡ Some c → c.0 < length (plain_graph one leaves forms rows).pairs
  leaf_within kept i c at = number_below (length (map plain_row rows)) leaves i c kept.leaves at

  pub form_class : (f : ℕ) (c : ClassId) → slice_get forms (f / 2) ≡ Some c → class_of (plain_graph one leaves forms rows) f ≡ (if f % 2 == 0 then c.0 else flip c.0)
  form_class f c at = ap (λ k. if f % 2 == 0 then k else flip k) (number_at forms (f / 2) c at)

  pub form_within : IsGraph (plain_graph one leaves forms rows) → (f : ℕ) (c : ClassId) → slice_get forms (f / 2) ≡ Some c → class_of (plain_graph one leaves forms rows) f < length (plain_graph one leaves forms rows).pairs
  form_within kept f c at =
      let n = length (map plain_row rows) in
      subst (λ k. k < n) (sym (form_class f c at)) (chosen_below n c.0 (f % 2 == 0) kept.even (number_below n forms (f / 2) c kept.forms at))

  pub row_within : IsGraph (plain_graph one leaves forms rows) → (c : ℕ) (row : List Pair) → slice_get rows c ≡ Some row → All (λ (p : Pair). (p.x.0 < length (plain_graph one leaves forms rows).pairs) × (p.y.0 < length (plain_graph one leaves forms rows).pairs)) row
  row_within kept c row at =
      let n = length (map plain_row rows) in
      let lt : c < n = subst (λ m. c < m) (sym (length-map rows plain_row)) (slice_get_within rows c row at) in
      let below = All-get_or (λ r. All (IsBelow n) r) (map plain_row rows) c [] lt kept.pairs in
      below_each n row (subst (λ r. All (IsBelow n) r) (row_from rows c row at) below)

  pub row_rising : IsGraph (plain_graph one leaves forms rows) → (c : ℕ) (row : List Pair) → slice_get rows c ≡ Some row → AreRising (plain_row row)
  row_rising kept c row at = subst AreRising (row_from rows c row at) (kept.rising c)

  pub chosen_class : (f : ℕ) (c k : ClassId) (b : Bool) → slice_get forms (f / 2) ≡ Some c → (f % 2 == 0) ≡ b → k.0 ≡ (if b then c.0 else flip c.0) → k.0 ≡ class_of (plain_graph one leaves forms rows) f
  chosen_class f c k b at is e = e ∙ (ap (λ d. if d then c.0 else flip c.0) (sym is) ∙ sym (form_class f c at))

  pub class_within : (g : PlainGraph) (f : ℕ) (c k : ClassId) → IsGraph (plain_graph one leaves forms rows) → plain_graph one leaves forms rows ≡ g → slice_get forms (f / 2) ≡ Some c → k.0 ≡ class_of (plain_graph one leaves forms rows) f → k.0 < length g.pairs
  class_within g f c k kept is at e =
      subst (λ g. k.0 < length g.pairs) is (subst (λ n. n < length (plain_graph one leaves forms rows).pairs) (sym e) (form_within kept f c at))

-- each class has an end
pub class_count : (one : ClassId) (leaves forms : List ClassId) (ends : List ℕ) (pairs : List Pair) (g : PlainGraph) → flat_graph one leaves forms ends pairs ≡ g → length g.pairs ≡ length ends
class_count one leaves forms ends pairs g is =
    sym (ap (λ (h : PlainGraph). length h.pairs) is) ∙ (length-map (rows_from pairs 0 ends) plain_row ∙ length-rows_from pairs 0 ends)

-- the part of the pool that is lent for a class
pub row_there : (pairs : List Pair) (ends lent : List ℕ) (c : ℕ) (row : List Pair) → c < length ends → lent ≡ ends → row ≡ slice_range pairs (start_at 0 lent c) (slice_index lent c) → slice_get (rows_from pairs 0 ends) c ≡ Some row
row_there pairs ends lent c row lt same e =
    row_at pairs 0 ends c lt ∙ ap Some (sym (subst (λ es. row ≡ slice_range pairs (start_at 0 es c) (slice_index es c)) same e))
