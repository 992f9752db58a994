-- Cells of entries: an entry makes a cell, or gives one more form to the cell of its name.
use Rattle.std.specs.Prelude.{ℕ, ◌≡◌, MatchOption, ◌^◌, Bool, true, false, not, ◌&&◌, ◌==◌, List, [], ◌∷◌, ◌++◌, length}
use Rattle.std.specs.Prelude.{map, Option, Some, None, Result, Ok, Err, unwrap_or, slice_index_or, if◌then◌else◌}
use Rattle.std.specs.List.{list_any, list_all, position, slice_set, zip, range_with_len}
use Rattle.std.specs.Str.{bytes_eq}
use Rattle.lw_fixed.specs.declared.micro.Micro.{Micro}
use Rattle.lw_laws.specs.Expressions.{Expr, expr_value}
use Rattle.lw_genlib.specs.declared.token.Token.{Token}
use Rattle.lw_genlib.specs.declared.token.Token.TheVariants.{Name, Punct}
use Rattle.lw_genlib.specs.declared.fault.LibKind.TheVariants.{PinMissing, CellDiffers}
use Rattle.lw_genlib.specs.declared.fault.LibFault.{LibFault}
use Rattle.lw_genlib.specs.declared.fault.LibFault.TheVariants.{Line}
use Rattle.lw_genlib.specs.Postfix.{first_expr}
use Rattle.lw_genlib.specs.Words.{assigned}
use Rattle.lw_genlib.specs.Cells.{CellParts}
use Rattle.lw_genlib.specs.Spelled.{expression_of, inner_of}
use Rattle.lw_genlib.specs.Entries.{Entry, pins_of, no_delay}

-- What an entry says.

abbrev pub name_first : List Token → List ℕ
name_first [] = []
name_first (Name name ∷ tokens) = name
name_first (Punct b ∷ tokens) = []

abbrev pub output_of : Entry → List ℕ
output_of entry = name_first entry.tokens

-- a delay that a pin's name was given wins over that of all pins
abbrev pub own_or : Option Micro → Option Micro → Option Micro
own_or every (Some delay) = Some delay
own_or every None = every

abbrev pub is_missing : Option Micro → Bool
is_missing None = true
is_missing (Some delay) = false

abbrev pub lacks_delay : Entry → Bool
lacks_delay entry = list_any (λ own. is_missing (own_or entry.every own)) entry.named

abbrev pub delay_by : Option Micro → Option Micro → Micro
delay_by every own = unwrap_or (own_or every own) no_delay

abbrev pub delays_of : Entry → List Micro
delays_of entry = map (delay_by entry.every) entry.named

-- these are the delays of the pins, or there are none where one pin lacks its delay
abbrev pub AreDelaysBy : Option Micro → List (Option Micro) → Option (List Micro) → Type 0
AreDelaysBy every named all =
    MatchOption all (list_any (λ own. is_missing (own_or every own)) named ≡ true)
    (λ (delays : List Micro). (list_any (λ own. is_missing (own_or every own)) named ≡ false)
    × (delays ≡ map (delay_by every) named))

-- the delay of each pin, or the fault that one lacks its delay
abbrev pub delays_or_fault : Entry → Result (List Micro) LibFault
delays_or_fault entry = if lacks_delay entry then Err (Line entry.line PinMissing) else Ok (delays_of entry)

-- the entry's expression over these pins
abbrev pub form_over : List (List ℕ) → Entry → Expr
form_over pins entry = expression_of pins (inner_of entry.tokens)

abbrev pub cell_of : Entry → CellParts
cell_of entry =
    record {
      name = entry.name;
      area = entry.area;
      output = output_of entry;
      pins = pins_of entry;
      delays = delays_of entry;
      forms = form_over (pins_of entry) entry ∷ [];
    }

-- Entries of one name.

abbrev pub is_same_pin : List ℕ × Micro → List ℕ × Micro → Bool
is_same_pin pin other = bytes_eq pin.0 other.0 && pin.1.0 == other.1.0

-- the pin with its delay is one of these
abbrev pub is_pin_among : List (List ℕ × Micro) → List ℕ × Micro → Bool
is_pin_among pins pin = list_any (is_same_pin pin) pins

-- both have the pins of the other with their delays, in any order
abbrev pub have_same_pins : List (List ℕ × Micro) → List (List ℕ × Micro) → Bool
have_same_pins pins others = list_all (is_pin_among others) pins && list_all (is_pin_among pins) others

abbrev pub is_same : Bool → Bool → Bool
is_same true b = b
is_same false b = not b

-- both functions have one value under each assignment of so many pins
unfoldable pub have_same_table : ℕ → Expr → Expr → Bool
have_same_table pins e f =
    list_all (λ n. is_same (expr_value (assigned n) e) (expr_value (assigned n) f)) (range_with_len 0 (2 ^ pins))

-- the output, the area and the pins with their delays are those of the cell
abbrev pub is_alike : CellParts → List ℕ → Micro → List (List ℕ × Micro) → Bool
is_alike cell output area pins =
    bytes_eq cell.output output && cell.area.0 == area.0 && have_same_pins pins (zip cell.pins cell.delays)

-- and so is the truth table
unfoldable pub agrees : CellParts → Entry → Bool
agrees cell entry =
    is_alike cell (output_of entry) entry.area (zip (pins_of entry) (delays_of entry))
    && have_same_table (length cell.pins) (first_expr cell.forms) (form_over cell.pins entry)

abbrev pub with_form : CellParts → Expr → CellParts
with_form cell form =
    record {
      name = cell.name;
      area = cell.area;
      output = cell.output;
      pins = cell.pins;
      delays = cell.delays;
      forms = cell.forms ++ form ∷ [];
    }

-- the cells with the entry's, where this is the place of its name among them
abbrev pub merged_at : List CellParts → Entry → Option ℕ → Result (List CellParts) LibFault
merged_at cells entry None = Ok (cells ++ cell_of entry ∷ [])
merged_at cells entry (Some place) =
    if agrees (slice_index_or cells place (cell_of entry)) entry
    then Ok (slice_set cells place
    (with_form (slice_index_or cells place (cell_of entry))
    (form_over (slice_index_or cells place (cell_of entry)).pins entry)))
    else Err (Line entry.line CellDiffers)

-- the place of the cell with the entry's name
abbrev pub place_of : List CellParts → Entry → Option ℕ
place_of cells entry = position (λ (cell : CellParts). bytes_eq entry.name cell.name) cells

-- The cells where one more entry is at its end.
unfoldable pub merged : List CellParts → Entry → Result (List CellParts) LibFault
merged cells entry =
    if lacks_delay entry then Err (Line entry.line PinMissing)
    else merged_at cells entry (place_of cells entry)
