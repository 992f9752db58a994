-- What holds of the entry whose words are read, by what is expected next.
use Rattle.std.specs.Prelude.{⊤, ◌<◌, List, Option, Some, None, IfSome, sum_by}
use Rattle.std.proofs.Props.{props}
use Rattle.lw_genlib.specs.declared.state_parts.Expect.{Expect}
use Rattle.lw_genlib.specs.declared.state_parts.Expect.TheVariants as expect
use Rattle.lw_genlib.specs.Cells.{CellParts, form_count, most_entries}
use Rattle.lw_genlib.specs.Entries.{Entry}

-- there is room for one more entry
abbrev pub HasRoom : List CellParts → Type 0
HasRoom cells = sum_by form_count cells < most_entries

abbrev pub CanExpect : Expect → List CellParts → Type 0
CanExpect (expect.Piece entry) cells = IfSome entry (λ e. HasRoom cells)
CanExpect expect.Latch cells = ⊤
CanExpect (expect.Name gate) cells = HasRoom cells
CanExpect (expect.Area gate) cells = HasRoom cells
CanExpect (expect.Function header text) cells = HasRoom cells
CanExpect (expect.Pin e) cells = HasRoom cells
CanExpect (expect.Field e pin field) cells = HasRoom cells

-- it is one fact

one_room : (cells : List CellParts) → IsProp (HasRoom cells)
one_room cells = hlevel props

pub one_open : (entry : Option Entry) (cells : List CellParts) → IsProp (IfSome entry (λ e. HasRoom cells))
one_open None cells = hlevel props
one_open (Some e) cells = one_room cells

pub one_expect : (p : Expect) (cells : List CellParts) → IsProp (CanExpect p cells)
one_expect (expect.Piece entry) cells = one_open entry cells
one_expect expect.Latch cells = hlevel props
one_expect (expect.Name gate) cells = one_room cells
one_expect (expect.Area gate) cells = one_room cells
one_expect (expect.Function header text) cells = one_room cells
one_expect (expect.Pin e) cells = one_room cells
one_expect (expect.Field e pin field) cells = one_room cells
