-- The cells of a library, in the words of the laws.
use Rattle.std.proofs.Common.{ℕ, ◌<◌, ◌≡◌, ◌↔◌, List, length, map, Some, slice_get, Contains, sym, ap, ◌∙◌, subst}
use Rattle.std.specs.Prelude.{All}
use Rattle.std.proofs.lemmas.Option.{get_or_from_slice_get, slice_get_within, same_Some}
use Rattle.lw_laws.specs.Covers.{HasPins, ArePatterns}
use Rattle.lw_laws.specs.Netlists.{HaveCellTruths}
use Rattle.lw_laws.specs.Networks.{given}
use Rattle.lw_laws.specs.Cells.{AreCells}
use Rattle.lw_laws.specs.Expressions.{Expr, MentionsPin}
use Rattle.lw_laws.proofs.PatternLaws.{cells_patterns, cells_truths}
use Rattle.lw_laws.proofs.Lists.{all_contains}
use Rattle.lw_laws.proofs.Numbers.{slice_get_map_back}
use Rattle.lw_genlib.specs.Postfix.{first_expr}
use Rattle.lw_genlib.specs.Cells.{CellParts, IsForm, IsListed, IsLibrary}
use Rattle.lw_pattern.specs.Libraries.{forms_of, pin_count, pin_counts, library_patterns, library_truth}
use Rattle.lw_pattern.proofs.Keeping.{by_place}
use Rattle.lw_genlib.proofs.MergeLemmas.{first-among}

-- the cell at a place, with its forms and its number of pins
record IsAt (cells : List CellParts) (cell : ℕ) (forms : List Expr) (n : ℕ) : Type 0 where
  own : CellParts
  at : slice_get cells cell ≡ Some own
  kept : IsListed own
  forms_are : own.forms ≡ forms
  pins_are : pin_count own ≡ n

pub kept_at : (cells : List CellParts) (cell : ℕ) (own : CellParts) → All IsListed cells → slice_get cells cell ≡ Some own → IsListed own
kept_at cells cell own all at = subst IsListed (get_or_from_slice_get cells cell own own at) (all cell own (slice_get_within cells cell own at))

is_at : (cells : List CellParts) (cell n : ℕ) (forms : List Expr) → IsLibrary cells → slice_get (map forms_of cells) cell ≡ Some forms → HasPins (pin_counts cells) cell n → IsAt cells cell forms n
is_at cells cell n forms lib e has =
    let (own, at, same) = slice_get_map_back forms_of cells cell forms e in
    let (other, there, pins) = slice_get_map_back pin_count cells cell n has in
    let one : own ≡ other = same_Some own other (sym at ∙ there) in
    record { own = own; at = at; kept = kept_at cells cell own lib.each at; forms_are = same; pins_are = ap pin_count one ∙ pins }

pub are_cells : (cells : List CellParts) → IsLibrary cells → AreCells (pin_counts cells) (library_truth cells) (map forms_of cells)
are_cells cells lib = record {
  pins = λ cell n k forms e listed c has.
      let a = is_at cells cell n forms lib listed has in
      let own : Contains a.own.forms e = subst (λ fs. Contains fs e) (sym a.forms_are) c in
      let form : IsForm (pin_count a.own) e = all_contains (IsForm (pin_count a.own)) a.own.forms e (by_place (IsForm (pin_count a.own)) a.own.forms a.kept.kept.forms) own in
      subst (λ m. MentionsPin e k ↔ (k < m)) a.pins_are (form.over k);
  truths = λ cell forms e ys listed c has.
      let a = is_at cells cell (length ys) forms lib listed has in
      let own : Contains a.own.forms e = subst (λ fs. Contains fs e) (sym a.forms_are) c in
      a.kept.kept.one_truth e (first_expr a.own.forms) own (first-among a.own.forms a.kept.kept.some_form) (given ys)
      ∙ ap (λ o. Rattle.lw_pattern.specs.Libraries.value_of o ys) (sym a.at);
}

pub library_pins : (cells : List CellParts) → IsLibrary cells → ArePatterns (pin_counts cells) (library_patterns cells)
library_pins cells lib = cells_patterns (pin_counts cells) (library_truth cells) (map forms_of cells) (are_cells cells lib)

pub library_truths : (cells : List CellParts) → IsLibrary cells → HaveCellTruths (pin_counts cells) (library_truth cells) (library_patterns cells)
library_truths cells lib = cells_truths (pin_counts cells) (library_truth cells) (map forms_of cells) (are_cells cells lib)
