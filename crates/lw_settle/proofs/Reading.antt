-- What a store's arrays tell of its matches.
use Rattle.std.proofs.Common.{ℕ, ◌+◌, ◌-◌, ◌^◌, ◌<◌, ◌≤◌, ◌≡◌, max, List, [], ◌∷◌, ◌++◌, length, take, drop, get_or, set, Option, Some, None, option_map, slice_get, refl, ap, sym, ◌∙◌, subst, lit<, arith}
use Rattle.std.specs.List.{slice_range, All, AllByRecursion}
use Rattle.std.proofs.lemmas.List.{length-map, length-take-le, length-drop, get_or-take, get_or-drop, map_more, take_more_set, get_or-map}
use Rattle.std.proofs.lemmas.List.Elements.{All-take, All-drop, All-map, All-get_or, All-from_recursion, recursion_from_All}
use Rattle.std.proofs.lemmas.Option.{slice_get-map, slice_get_read, same_Some}
use Rattle.lw_pool.specs.declared.id.CellId.{CellId}
use Rattle.lw_pool.specs.declared.id.ClassId.{ClassId}
use Rattle.lw_laws.specs.Costs.{Cost}
use Rattle.lw_laws.specs.Covers.{HasPins}
use Rattle.lw_laws.specs.Marks.{Mark as PlainMark, Marks, HaveMarks, costs_in, greatest_height, price}
use Rattle.lw_settle.specs.declared.store.Row.{Row}
use Rattle.lw_settle.specs.declared.store.Found.{Found}
use Rattle.lw_settle.specs.Stores.{Stored, Placed, placed, pins_of, pin_total, uses_of, uses_from, AreKeptLists, IsFound, IsHeadOf, IsPriceOf, HasMarkedPins, AreOfStoredCells}
use Rattle.lw_settle.specs.Kept.{cell_numbers, placed_row, placed_rows, grouped, start_at, IsKeptStore}
use Rattle.lw_settle.proofs.Grouping.{length-grouped_from, placed_class}
use Rattle.lw_settle.proofs.Tiling.{IsWithin, tiled_at, tiled_few, tiled_pins, length-row, length-all_pins}
use Rattle.lw_pool.specs.Numbers.{numbers}

from_map : {X Y : Type 0} (f : X → Y) (o : Option X) (y : Y) → option_map f o ≡ Some y → (x : X) × (o ≡ Some x) × (f x ≡ y)
from_map f None y e = cc
from_map f (Some x) y e = (x, refl, same_Some (f x) y e)

-- where a part of an array is, and what is at a place of it
length-part : (xs : List ℕ) (a b : ℕ) → b ≤ length xs → length (slice_range xs a b) ≡ b - a
length-part xs a b le = length-take-le (b - a) (drop a xs) (omega (arith, length-drop a xs))

part_at : (xs : List ℕ) (a b n x : ℕ) → b ≤ length xs → n < b - a → x ≡ get_or xs (a + n) x → slice_get (slice_range xs a b) n ≡ Some x
part_at xs a b n x le lt e =
    slice_get_read (slice_range xs a b) (b - a) n x (sym (length-part xs a b le)) lt (e ∙ (sym (get_or-drop a xs n x) ∙ sym (get_or-take (b - a) (drop a xs) n x lt)))

module _ (n : ℕ) (rows : List Row) (pins : List ClassId) (cells ends uses : List ℕ) (kept : IsKeptStore n rows pins cells ends uses) where
  abbrev matches : List Placed
  matches = placed_rows pins cells rows

  abbrev lists : List (List Stored)
  lists = grouped n matches

  pub count : length (placed lists) ≡ length rows
  count = ap length kept.numbered ∙ length-map rows (placed_row pins cells)

  pub list_count : length lists ≡ n
  list_count = length-grouped_from 0 n matches

  row_of : (i : ℕ) (m : Placed) → slice_get (placed lists) i ≡ Some m → (r : Row) × (slice_get rows i ≡ Some r) × (placed_row pins cells r ≡ m)
  row_of i m e =
      let f : slice_get matches i ≡ Some m = subst (λ ms. slice_get ms i ≡ Some m) kept.numbered e in
      from_map (placed_row pins cells) (slice_get rows i) m (sym (slice_get-map (placed_row pins cells) rows i) ∙ f)

  pub listed : (i : ℕ) (r : Row) → slice_get rows i ≡ Some r → slice_get (placed lists) i ≡ Some (placed_row pins cells r)
  listed i r e =
      subst (λ ms. slice_get ms i ≡ Some (placed_row pins cells r)) (sym kept.numbered) (slice_get-map (placed_row pins cells) rows i ∙ ap (option_map (placed_row pins cells)) e)

  pub within : (i : ℕ) (r : Row) → slice_get rows i ≡ Some r → IsWithin 0 r (length pins)
  within i r e = tiled_at 0 rows (length pins) i r kept.tiled e

  pub row_classes : (r : Row) → All (λ (c : ClassId). c.0 < n) (slice_range pins r.start (r.start + r.pins))
  row_classes r =
      All-take (λ (c : ClassId). c.0 < n) (r.start + r.pins - r.start) (drop r.start pins) (All-drop (λ (c : ClassId). c.0 < n) r.start pins kept.classes)

  row_pins_below : (r : Row) → AllByRecursion (λ p. p < length lists) (pins_of (placed_row pins cells r))
  row_pins_below r =
      subst (λ k. AllByRecursion (λ p. p < k) (pins_of (placed_row pins cells r))) (sym list_count) (recursion_from_All (λ p. p < n) (pins_of (placed_row pins cells r)) (All-map (λ p. p < n) (λ (c : ClassId). c.0) (slice_range pins r.start (r.start + r.pins)) (row_classes r)))

  pub kept_lists : AreKeptLists lists
  kept_lists = record {
    few = omega (arith, count, kept.few);
    few_pins = λ i m e.
        let (r, at, is) = row_of i m e in
        let w = within i r at in
        subst (λ (k : Placed). length (pins_of k) ≤ 16) is (omega (arith, length-row pins cells r w.to, w.few));
    pins = λ i m e. let (r, at, is) = row_of i m e in subst (λ (k : Placed). AllByRecursion (λ p. p < length lists) (pins_of k)) is (row_pins_below r);
    class = λ i m e. placed_class lists i m e;
  }

  pub head_of : (i : ℕ) (r : Row) → slice_get rows i ≡ Some r → IsHeadOf lists i r.class.0 r.pins
  head_of i r e = record {
    at = placed_row pins cells r;
    listed = listed i r e;
    class_is = refl;
    pins_are = sym (length-row pins cells r (within i r e).to);
  }

  pub found_at : (i : ℕ) (r : Row) (found : Found) → slice_get rows i ≡ Some r → found.class.0 ≡ r.class.0 → found.cell.0 ≡ get_or cells r.pat.0 0 → found.pins ≡ slice_range pins r.start (r.start + r.pins) → IsFound lists i found
  found_at i r found e class cell own = record {
    at = placed_row pins cells r;
    listed = listed i r e;
    class_is = class;
    cell_is = cell;
    pins_are = ap numbers own;
  }

  pub pins_are : length pins ≡ pin_total (placed lists)
  pins_are =
      sym (length-map pins (λ (c : ClassId). c.0)) ∙ (ap length (tiled_pins pins cells 0 rows kept.tiled) ∙ (length-all_pins matches ∙ ap pin_total (sym kept.numbered)))

  pub few_uses : length uses < 2 ^ 32
  few_uses = omega (arith, tiled_few 0 rows (length pins) kept.tiled, kept.few, kept.one_use_each)

  uses_are : (c : ℕ) → c < n → uses_of lists c ≡ slice_range uses (start_at ends c) (get_or ends c 0)
  uses_are c lt = ap (λ ms. uses_from 0 ms c) kept.numbered ∙ sym (kept.used c lt).part

  pub use_count : (c : ℕ) → c < n → length (uses_of lists c) ≡ get_or ends c 0 - start_at ends c
  use_count c lt =
      ap length (uses_are c lt) ∙ length-part uses (start_at ends c) (get_or ends c 0) (kept.used c lt).within

  pub use_within : (c i : ℕ) → c < n → i < length (uses_of lists c) → start_at ends c + i < length uses
  use_within c i lt within = omega (arith, use_count c lt, (kept.used c lt).within)

  pub use_is : (c i x : ℕ) → c < n → i < length (uses_of lists c) → x ≡ get_or uses (start_at ends c + i) x → slice_get (uses_of lists c) i ≡ Some x
  use_is c i x lt within e =
      subst (λ xs. slice_get xs i ≡ Some x) (sym (uses_are c lt)) (part_at uses (start_at ends c) (get_or ends c 0) i x (kept.used c lt).within (omega (arith, use_count c lt)) e)

  -- the price of a match, by the marks of its pins
  pub priced : (cost : Cost) (marks : Marks) (i : ℕ) (r : Row) (ks : List PlainMark) (mark : PlainMark) → slice_get rows i ≡ Some r → HaveMarks marks (numbers (slice_range pins r.start (r.start + r.pins))) ks → mark ≡ price cost (get_or cells r.pat.0 0) ks → IsPriceOf lists cost marks i mark
  priced cost marks i r ks mark e have is = record {
    at = placed_row pins cells r;
    listed = listed i r e;
    pin_marks = ks;
    have = have;
    mark_is = is;
  }

  pub cell_pins : (pin_counts : List ℕ) (i : ℕ) (r : Row) → AreOfStoredCells pin_counts lists → slice_get rows i ≡ Some r → HasPins pin_counts (get_or cells r.pat.0 0) r.pins
  cell_pins pin_counts i r of e =
      subst (λ k. HasPins pin_counts (get_or cells r.pat.0 0) k) (length-row pins cells r (within i r e).to) (of i (placed_row pins cells r) (listed i r e))

  pub marked_row : (marks : Marks) (i : ℕ) (r : Row) → HasMarkedPins lists marks i → slice_get rows i ≡ Some r → AllByRecursion (λ p. (k : PlainMark) × (marks p ≡ Some k)) (numbers (slice_range pins r.start (r.start + r.pins)))
  marked_row marks i r marked e = marked (placed_row pins cells r) (listed i r e)

-- marks of some pins, and of one more
have_push : (marks : Marks) (ps : List ℕ) (ks : List PlainMark) (p : ℕ) (k : PlainMark) → HaveMarks marks ps ks → marks p ≡ Some k → HaveMarks marks (ps ++ p ∷ []) (ks ++ k ∷ [])
have_push marks [] [] p k have e = (e, tt)
have_push marks [] (q ∷ ks) p k have e = absurd have
have_push marks (q ∷ ps) [] p k have e = absurd have
have_push marks (q ∷ ps) (j ∷ ks) p k (h, have) e = (h, have_push marks ps ks p k have e)

costs_push : (ks : List PlainMark) (k : PlainMark) → costs_in (ks ++ k ∷ []) ≡ costs_in ks ++ k.cost ∷ []
costs_push [] k = refl
costs_push (j ∷ ks) k = ap (λ x. j.cost ∷ x) (costs_push ks k)

greatest_push : (ks : List PlainMark) (k : PlainMark) → greatest_height (ks ++ k ∷ []) ≡ max k.height (greatest_height ks)
greatest_push [] k = refl
greatest_push (j ∷ ks) k = let ih = greatest_push ks k in omega arith

pub record AreRead (marks : Marks) (pins : List ClassId) (i height : ℕ) (costs : List ℕ) (ks : List PlainMark) : Type 0 where
  pub have : HaveMarks marks (numbers (take i pins)) ks
  pub costs_are : take i costs ≡ costs_in ks
  pub height_is : height ≡ greatest_height ks

pub read_more : (marks : Marks) (pins : List ClassId) (i height h : ℕ) (costs : List ℕ) (ks : List PlainMark) (k : PlainMark) (d : ClassId) → i < length pins → i < length costs → AreRead marks pins i height costs ks → marks (get_or pins i d).0 ≡ Some k → h ≡ max k.height height → AreRead marks pins (i + 1) h (set costs i k.cost) (ks ++ k ∷ [])
read_more marks pins i height h costs ks k d lt room read e is = record {
  have = subst (λ ps. HaveMarks marks ps (ks ++ k ∷ [])) (sym (map_more (λ (c : ClassId). c.0) pins i d lt)) (have_push marks (numbers (take i pins)) ks (get_or pins i d).0 k read.have e);
  costs_are = take_more_set costs i k.cost room ∙ (ap (λ x. x ++ k.cost ∷ []) read.costs_are ∙ sym (costs_push ks k));
  height_is = is ∙ (ap (λ n. max k.height n) read.height_is ∙ sym (greatest_push ks k));
}

-- the mark of one of the pins
pub marked_at : (marks : Marks) (pins : List ClassId) (i : ℕ) (d : ClassId) → i < length pins → AllByRecursion (λ p. (k : PlainMark) × (marks p ≡ Some k)) (numbers pins) → (k : PlainMark) × (marks (get_or pins i d).0 ≡ Some k)
marked_at marks pins i d lt all =
    let each = All-from_recursion (λ p. (k : PlainMark) × (marks p ≡ Some k)) (numbers pins) all in
    let h = All-get_or (λ p. (k : PlainMark) × (marks p ≡ Some k)) (numbers pins) i d.0 (omega (arith, length-map pins (λ (c : ClassId). c.0))) each in
    subst (λ p. (k : PlainMark) × (marks p ≡ Some k)) (get_or-map (λ (c : ClassId). c.0) pins i d d.0 lt) h

-- no height of these is so great that it cannot rise
pub greatest_low : (marks : Marks) (ps : List ℕ) (ks : List PlainMark) → ((c : ℕ) (k : PlainMark) → marks c ≡ Some k → k.height < 2 ^ 32 - 1) → HaveMarks marks ps ks → greatest_height ks < 2 ^ 32 - 1
greatest_low marks [] [] range have = lit< tt
greatest_low marks [] (k ∷ ks) range have = absurd have
greatest_low marks (p ∷ ps) [] range have = absurd have
greatest_low marks (p ∷ ps) (k ∷ ks) range (e, have) =
    let ih = greatest_low marks ps ks range have in
    let high = range p k e in
    omega arith

pub part_length : (pins : List ClassId) (r : Row) → r.start + r.pins ≤ length pins → length (slice_range pins r.start (r.start + r.pins)) ≡ r.pins
part_length pins r le =
    let k : r.start + r.pins - r.start ≡ r.pins = omega arith in
    length-take-le (r.start + r.pins - r.start) (drop r.start pins) (omega (arith, length-drop r.start pins)) ∙ k

-- the cell at a place
pub cell_is : (cells : List CellId) (i : ℕ) (cell : CellId) → i < length (cell_numbers cells) → cell ≡ get_or cells i cell → cell.0 ≡ get_or (cell_numbers cells) i 0
cell_is cells i cell lt e =
    ap (λ (k : CellId). k.0) e ∙ sym (get_or-map (λ (k : CellId). k.0) cells i cell 0 (omega (arith, length-map cells (λ (k : CellId). k.0))))
