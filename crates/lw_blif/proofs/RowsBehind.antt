-- Rows behind a node and its rows.
use Rattle.std.proofs.Common.{ℕ, ◌≡◌, false, not, ◌&&◌, ◌||◌, cond, List, [], ◌∷◌, length, map, reverse, Some, None, refl, ap, sym, ◌∙◌, append-nil, arith}
use Rattle.std.specs.Prelude.{nat_le}
use Rattle.std.specs.List.{flat_map}
use Rattle.std.specs.Str.{bytes_eq}
use Rattle.std.proofs.lemmas.List.{length-reverse, length-map}
use Rattle.std.proofs.Math.Bool.{or-false, or_self}
use Rattle.lw_words.specs.Lines.{LogicalLine, has_some}
use Rattle.lw_blif.specs.declared.fault.BlifKind.TheVariants as kind
use Rattle.lw_blif.specs.LineFaults.{last_word, fanins_on, has_shape, differs_from, first_broken, row_rules}
use Rattle.lw_blif.specs.Drafts.{node_of, row_of}
use Rattle.lw_blif.specs.Readers.{HaveValue, value_word, is_value_of, row_fault_of}

-- where all rows have one value, some row differs where there is one and the value does
pub differs-value : (words : List (List ℕ)) (value : List ℕ) (rows : List LogicalLine) → HaveValue value rows → differs_from words rows ≡ (has_some rows && not (bytes_eq value (last_word words)))
differs-value words value [] h = refl
differs-value words value (row ∷ []) h = ap (λ v. not (bytes_eq v (last_word words)) || false) h.0 ∙ or-false (not (bytes_eq value (last_word words)))
differs-value words value (row ∷ next ∷ rows) h =
    ap (λ v. not (bytes_eq v (last_word words)) || differs_from words (next ∷ rows)) h.0
    ∙ (ap (λ t. not (bytes_eq value (last_word words)) || t) (differs-value words value (next ∷ rows) h.1) ∙ or_self (not (bytes_eq value (last_word words))))

pub some-length : {A B : Type 0} (xs : List A) (ys : List B) → length xs ≡ length ys → has_some xs ≡ has_some ys
some-length [] [] e = refl
some-length [] (y ∷ ys) e = absurd (omega arith)
some-length (x ∷ xs) [] e = absurd (omega arith)
some-length (x ∷ xs) (y ∷ ys) e = refl

-- The first rule that a row breaks, from the node's own rows.
pub row_fault-node : (l : LogicalLine) (rows : List LogicalLine) (words : List (List ℕ)) → HaveValue (value_word (node_of l (reverse rows)).on) rows →
    first_broken (row_rules (l ∷ []) rows words) ≡ row_fault_of (Some (node_of l (reverse rows))) words
unfolding row_fault_of is_value_of
row_fault-node l rows words h =
    let node = node_of l (reverse rows) in
    let count : length (map row_of (reverse rows)) ≡ length rows = length-map (reverse rows) row_of ∙ length-reverse rows in
    let fanins : flat_map fanins_on (l ∷ []) ≡ fanins_on l = append-nil (fanins_on l) in
    let differs : differs_from words rows ≡ (has_some node.rows && not (bytes_eq (value_word node.on) (last_word words))) =
    differs-value words (value_word node.on) rows h ∙ ap (λ t. t && not (bytes_eq (value_word node.on) (last_word words))) (sym (some-length (map row_of (reverse rows)) rows count)) in
    ap (λ fs. cond (not (has_shape (length fs) words)) (Some kind.RowShape) (cond (differs_from words rows) (Some kind.RowMix) (cond (nat_le 4096 (length rows)) (Some kind.LimitRows) None))) fanins
    ∙ (ap (λ d. cond (not (has_shape (length (fanins_on l)) words)) (Some kind.RowShape) (cond d (Some kind.RowMix) (cond (nat_le 4096 (length rows)) (Some kind.LimitRows) None))) differs
    ∙ ap (λ n. cond (not (has_shape (length (fanins_on l)) words)) (Some kind.RowShape) (cond (has_some (node_of l (reverse rows)).rows && not (bytes_eq (value_word (node_of l (reverse rows)).on) (last_word words))) (Some kind.RowMix) (cond (nat_le 4096 n) (Some kind.LimitRows) None))) (sym count))

pub row_fault-none : (rows : List LogicalLine) (words : List (List ℕ)) → first_broken (row_rules [] rows words) ≡ row_fault_of None words
unfolding row_fault_of
row_fault-none rows words = refl
