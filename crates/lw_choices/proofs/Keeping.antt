-- Choices that are kept stay as they are where a listing grows.
use Rattle.std.proofs.Common.{◌≡◌, ℕ, suc, ◌+◌, ◌-◌, ◌≤◌, ◌⊎◌, inl, inr, length, map, min, take, drop, reverse, List, [], ◌∷◌, ◌++◌, Some, option_map, slice_get, refl, ap, sym, ◌∙◌, subst, arith}
use mathlib.Core.List.{reverse-cons}
use Rattle.std.specs.List.{slice_range}
use Rattle.std.proofs.Math.Seq.{drop-append_seam, take-length}
use Rattle.std.proofs.lemmas.List.{drop-map, length-map, length-take, map-append, take-map}
use Rattle.std.proofs.lemmas.List.Sorted.{Contains-permutation, IsPermutation-reverse, IsPermutation-sym}
use Rattle.std.proofs.lemmas.Option.{slice_get-map}
use Rattle.lw_facts.proofs.Lists.{slice_range_append}
use Rattle.lw_pool.specs.declared.id.CellId.{CellId}
use Rattle.lw_pool.specs.declared.id.ClassId.{ClassId}
use Rattle.lw_pool.specs.Numbers.{numbers}
use Rattle.lw_choices.specs.Choices.{pin_count}
use Rattle.lw_choices.specs.Choices.Part.{gate}
use Rattle.lw_choices.specs.declared.rows.KeptStand.{KeptStand}
use Rattle.lw_choices.specs.declared.rows.KeptStand.TheVariants.{Input, Gate}
use Rattle.lw_choices.specs.declared.rows.Row.{Row}
use Rattle.lw_choices.specs.Kept.{kept_part, kept_row, kept_rows, pin_end, AreKeptIn, IsKeptIn}
use Rattle.lw_choices.proofs.Lists.{at_contained, contained_at, push_cases}

-- the numbers of a part of the pins
pub numbers_part : (pins : List ClassId) (first end : ℕ) → numbers (slice_range pins first end) ≡ slice_range (numbers pins) first end
numbers_part pins first end =
    sym (take-map (λ (c : ClassId). c.0) (end - first) (drop first pins)) ∙ ap (take (end - first)) (sym (drop-map (λ (c : ClassId). c.0) first pins))

-- the part behind the first list
part_behind : (xs ys : List ℕ) (n : ℕ) → n ≡ length ys → slice_range (xs ++ ys) (length xs) (length xs + n) ≡ ys
part_behind xs ys n e =
    let size : length xs + n - length xs ≡ length ys = omega (arith, e) in
    ap (λ k. take k (drop (length xs) (xs ++ ys))) size ∙ (ap (take (length ys)) (drop-append_seam xs ys) ∙ take-length ys)

part_kept : (pins more : List ℕ) (s : KeptStand) → pin_end s ≤ length pins → kept_part (pins ++ more) s ≡ kept_part pins s
part_kept pins more (Input i) le = refl
part_kept pins more (Gate g) le =
    let low : g.first + g.count ≤ length pins = le in
    ap (gate g.cell.0) (slice_range_append pins more g.first (g.first + g.count) (omega (arith, low)) low)

rows_kept : (pins more : List ℕ) (rows : List Row) → ((k : ℕ) (r : Row) → slice_get rows k ≡ Some r → pin_end r.stand ≤ length pins) → map (kept_row (pins ++ more)) rows ≡ map (kept_row pins) rows
rows_kept pins more [] within = refl
rows_kept pins more (r ∷ rows) within =
    let first = part_kept pins more r.stand (within 0 r refl) in
    let rest = rows_kept pins more rows (λ k q at. within (suc k) q at) in
    λ j. (record { class = r.class.0; part = first j }) ∷ rest j

-- more pins behind the others change nothing
pub pins_more : (pins added : List ClassId) (rows : List Row) → AreKeptIn (length pins) rows → kept_rows (pins ++ added) rows ≡ kept_rows pins rows
pins_more pins added rows in' =
    let width = length-map pins (λ (c : ClassId). c.0) in
    ap (λ ps. map (kept_row ps) rows) (map-append (λ (c : ClassId). c.0) pins added) ∙ rows_kept (numbers pins) (numbers added) rows (λ k r at. let le = (in'.each k r at).within in omega (arith, width, le))

-- one row more
pub row_pushed : (pins : List ClassId) (rows : List Row) (r : Row) → kept_rows pins (rows ++ r ∷ []) ≡ kept_rows pins rows ++ kept_row (numbers pins) r ∷ []
row_pushed pins rows r = map-append (kept_row (numbers pins)) rows (r ∷ [])

-- so it is with a cell whose pins stand behind the others
pub gate_pushed : (pins added : List ClassId) (rows : List Row) (class : ClassId) (cell : CellId) (first n : ℕ) → first ≡ length pins → n ≡ length added → AreKeptIn (length pins) rows
    → kept_rows (pins ++ added) (rows ++ (record { class = class; stand = Gate (record { cell = cell; first = first; count = n }) }) ∷ []) ≡ kept_rows pins rows ++ (record { class = class.0; part = gate cell.0 (numbers added) }) ∷ []
gate_pushed pins added rows class cell first n f e in' =
    let r : Row = record { class = class; stand = Gate (record { cell = cell; first = first; count = n }) } in
    let width = length-map pins (λ (c : ClassId). c.0) in
    let size = length-map added (λ (c : ClassId). c.0) in
    let here : slice_range (numbers (pins ++ added)) first (first + n) ≡ numbers added =
    ap (λ ps. slice_range ps first (first + n)) (map-append (λ (c : ClassId). c.0) pins added) ∙ (ap (λ k. slice_range (numbers pins ++ numbers added) k (k + n)) (f ∙ sym width) ∙ part_behind (numbers pins) (numbers added) n (e ∙ sym size)) in
    row_pushed (pins ++ added) rows r ∙ (λ j. pins_more pins added rows in' j ++ (record { class = class.0; part = gate cell.0 (here j) }) ∷ [])

-- where a row stands behind the others
pub kept_in : (count more : ℕ) (rows : List Row) (r : Row) → count ≤ more → IsKeptIn more r.stand → AreKeptIn count rows → AreKeptIn more (rows ++ r ∷ [])
kept_in count more rows r le is in' = record {
  each = λ k q at. by_case k q (push_cases rows r k q at);
}
  where
    by_case : (k : ℕ) (q : Row) → (slice_get rows k ≡ Some q) ⊎ ((k ≡ length rows) × (r ≡ q)) → IsKeptIn more q.stand
    by_case k q (inl at) =
        let low = in'.each k q at in
        record { within = let here = low.within in omega (arith, here, le); few = low.few }
    by_case k q (inr (e, same)) = subst (λ (x : Row). IsKeptIn more x.stand) same is

-- where there are more pins
pub kept_later : (count more : ℕ) (rows : List Row) → count ≤ more → AreKeptIn count rows → AreKeptIn more rows
kept_later count more rows le in' = record {
  each = λ k q at.
      let low = in'.each k q at in
      record { within = let here = low.within in omega (arith, here, le); few = low.few };
}

-- the pins are few
pub few_kept : (count : ℕ) (pins : List ℕ) (s : KeptStand) → IsKeptIn count s → pin_count (kept_part pins s) ≤ 16
few_kept count pins (Input i) is = let none : 0 ≤ 16 = omega arith in none
few_kept count pins (Gate g) is =
    let few : g.count ≤ 16 = is.few in
    let size : length (slice_range pins g.first (g.first + g.count)) ≡ min (g.first + g.count - g.first) (length (drop g.first pins)) = length-take (g.first + g.count - g.first) (drop g.first pins) in
    let all : length (slice_range pins g.first (g.first + g.count)) ≤ 16 = omega (arith, size, few) in
    all

-- the order is turned round
pub rows_turned : (pins : List ℕ) (rows : List Row) → map (kept_row pins) (reverse rows) ≡ reverse (map (kept_row pins) rows)
rows_turned pins [] = refl
rows_turned pins (r ∷ rows) =
    ap (map (kept_row pins)) (reverse-cons r rows) ∙ (map-append (kept_row pins) (reverse rows) (r ∷ []) ∙ (ap (λ xs. xs ++ kept_row pins r ∷ []) (rows_turned pins rows) ∙ sym (reverse-cons (kept_row pins r) (map (kept_row pins) rows))))

pub kept_turned : (count : ℕ) (rows : List Row) → AreKeptIn count rows → AreKeptIn count (reverse rows)
kept_turned count rows in' = record { each = λ k q at. let (j, e) = there k q at in in'.each j q e }
  where
    there : (k : ℕ) (q : Row) → slice_get (reverse rows) k ≡ Some q → (j : ℕ) × (slice_get rows j ≡ Some q)
    there k q at = contained_at rows q (Contains-permutation (reverse rows) rows q (IsPermutation-sym rows (reverse rows) (IsPermutation-reverse rows)) (at_contained (reverse rows) k q at))

-- the row with a number is the choice with this number
pub row_kept : (pins : List ClassId) (rows : List Row) (k : ℕ) (r : Row) → slice_get rows k ≡ Some r → slice_get (kept_rows pins rows) k ≡ Some (kept_row (numbers pins) r)
row_kept pins rows k r at = slice_get-map (kept_row (numbers pins)) rows k ∙ ap (option_map (kept_row (numbers pins))) at
