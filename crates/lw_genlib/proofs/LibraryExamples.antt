-- Libraries of small texts, and their faults.
use Rattle.std.proofs.Common.{ℕ, ◌≡◌, List, [], ◌∷◌, ◌++◌, true, false, refl}
use Rattle.std.specs.Prelude.{codes, Option, None, Result, Ok, Err, replicate}
use Rattle.std.specs.List.{flat_map}
use Rattle.lw_words.specs.Lines.{logical_lines}
use Rattle.lw_fixed.specs.Decimals.{decimal_of, value_of_decimals}
use Rattle.lw_fixed.specs.declared.fault.DecimalFault.TheVariants.{Fine}
use Rattle.lw_laws.specs.Expressions.Expr.{expr_const, expr_pin, expr_not, expr_and, expr_or}
use Rattle.lw_laws.specs.Expressions.Exprs.{no_exprs, more_exprs}
use Rattle.lw_genlib.specs.declared.fault.LibKind.{LibKind}
use Rattle.lw_genlib.specs.declared.fault.LibKind.TheVariants.{Expected, BadByte, PinMissing, PinUnknown, PhaseWord, Decimal, ConstInside, CellDiffers, LongWord, LimitText, LimitLiterals, LimitPins}
use Rattle.lw_genlib.specs.declared.fault.LibFault.{LibFault}
use Rattle.lw_genlib.specs.declared.fault.LibFault.TheVariants.{Line}
use Rattle.lw_genlib.specs.Cells.{CellParts}
use Rattle.lw_genlib.specs.Functions.{token_fault, first_fault}
use Rattle.lw_genlib.specs.Streams.{stream_of}
use Rattle.lw_genlib.specs.Spelled.{expression_of}
use Rattle.lw_genlib.specs.Entries.{text_from}
use Rattle.lw_genlib.specs.Merging.{have_same_table, agrees, merged}
use Rattle.lw_genlib.specs.Libraries.{behind_latch, piece, pieces, outcome_from, outcome_of, library_of, fault_so_far}

-- texts of lines
abbrev text : List (List ℕ) → List ℕ
text lines = flat_map (λ line. line ++ 10 ∷ []) lines

library_in : List (List ℕ) → Result (List CellParts) LibFault
unfolding logical_lines library_of
library_in lines = library_of (logical_lines false (text lines))

first_fault_of : List (List ℕ) → Option LibFault
unfolding logical_lines fault_so_far
first_fault_of lines = fault_so_far (logical_lines false (text lines))

abbrev fault : ℕ → LibKind → Result (List CellParts) LibFault
fault line kind = Err (Line line kind)

two_cells : library_in (codes "GATE inv 1 O=!a;" ∷ codes "PIN * INV 1 999 1 0 1 0" ∷ codes "GATE nand2 2 O=!(a*b);" ∷ codes "PIN * INV 1 999 1.5 0 1.5 0" ∷ []) ≡ Ok (record { name = codes "inv"; area = record { 0 = 1000000 }; output = codes "O"; pins = codes "a" ∷ []; delays = record { 0 = 1000000 } ∷ []; forms = (expr_not (expr_pin 0)) ∷ [] } ∷ record { name = codes "nand2"; area = record { 0 = 2000000 }; output = codes "O"; pins = codes "a" ∷ codes "b" ∷ []; delays = record { 0 = 1500000 } ∷ record { 0 = 1500000 } ∷ []; forms = (expr_not (expr_and (more_exprs (expr_pin 0) (more_exprs (expr_pin 1) (no_exprs))))) ∷ [] } ∷ [])
unfolding logical_lines stream_of text_from token_fault first_fault expression_of have_same_table agrees merged behind_latch piece pieces outcome_from outcome_of library_of fault_so_far decimal_of value_of_decimals library_in first_fault_of
two_cells = refl

-- quoted names, pins that begin with digits, and one cell in two forms
merged_forms : library_in (codes "GATE \"inv1:physical\" 16.00 O=!1A;" ∷ codes "PIN * INV 1 999 0.40 0.2 0.35 0.2" ∷ codes "GATE \"xor:physical\" 40 O=1A*!1B+!1A*1B;" ∷ codes "PIN * UNKNOWN 2 999 1.9 0.5 1.8 0.5" ∷ codes "GATE \"xor:physical\" 40 O=!(1A*1B+!1A*!1B);" ∷ codes "PIN * UNKNOWN 2 999 1.9 0.5 1.8 0.5" ∷ []) ≡ Ok (record { name = codes "inv1:physical"; area = record { 0 = 16000000 }; output = codes "O"; pins = codes "1A" ∷ []; delays = record { 0 = 400000 } ∷ []; forms = (expr_not (expr_pin 0)) ∷ [] } ∷ record { name = codes "xor:physical"; area = record { 0 = 40000000 }; output = codes "O"; pins = codes "1A" ∷ codes "1B" ∷ []; delays = record { 0 = 1900000 } ∷ record { 0 = 1900000 } ∷ []; forms = (expr_or (more_exprs (expr_and (more_exprs (expr_pin 0) (more_exprs (expr_not (expr_pin 1)) (no_exprs)))) (more_exprs (expr_and (more_exprs (expr_not (expr_pin 0)) (more_exprs (expr_pin 1) (no_exprs)))) (no_exprs)))) ∷ (expr_not (expr_or (more_exprs (expr_and (more_exprs (expr_pin 0) (more_exprs (expr_pin 1) (no_exprs)))) (more_exprs (expr_and (more_exprs (expr_not (expr_pin 0)) (more_exprs (expr_not (expr_pin 1)) (no_exprs)))) (no_exprs))))) ∷ [] } ∷ [])
unfolding logical_lines stream_of text_from token_fault first_fault expression_of have_same_table agrees merged behind_latch piece pieces outcome_from outcome_of library_of fault_so_far decimal_of value_of_decimals library_in first_fault_of
merged_forms = refl

other_delay : library_in (codes "GATE \"inv1:physical\" 16.00 O=!1A;" ∷ codes "PIN * INV 1 999 0.40 0.2 0.35 0.2" ∷ codes "GATE \"xor:physical\" 40 O=1A*!1B+!1A*1B;" ∷ codes "PIN * UNKNOWN 2 999 1.9 0.5 1.8 0.5" ∷ codes "GATE \"xor:physical\" 40 O=!(1A*1B+!1A*!1B);" ∷ codes "PIN * UNKNOWN 2 999 2.0 0.5 1.8 0.5" ∷ []) ≡ fault 5 CellDiffers
unfolding logical_lines stream_of text_from token_fault first_fault expression_of have_same_table agrees merged behind_latch piece pieces outcome_from outcome_of library_of fault_so_far decimal_of value_of_decimals library_in first_fault_of
other_delay = refl

-- the pins' numbers are those of the first entry
other_order : library_in (codes "GATE g 1 O=a*!b;" ∷ codes "PIN a INV 0 0 1 0 0 0 PIN b INV 0 0 2 0 0 0" ∷ codes "GATE g 1 O=!(b+a');" ∷ codes "PIN b INV 0 0 0 0 2 0" ∷ codes "PIN a INV 0 0 1 0 0 0" ∷ []) ≡ Ok (record { name = codes "g"; area = record { 0 = 1000000 }; output = codes "O"; pins = codes "a" ∷ codes "b" ∷ []; delays = record { 0 = 1000000 } ∷ record { 0 = 2000000 } ∷ []; forms = (expr_and (more_exprs (expr_pin 0) (more_exprs (expr_not (expr_pin 1)) (no_exprs)))) ∷ (expr_not (expr_or (more_exprs (expr_pin 1) (more_exprs (expr_not (expr_pin 0)) (no_exprs))))) ∷ [] } ∷ [])
unfolding logical_lines stream_of text_from token_fault first_fault expression_of have_same_table agrees merged behind_latch piece pieces outcome_from outcome_of library_of fault_so_far decimal_of value_of_decimals library_in first_fault_of
other_order = refl

-- the larger of both delays
twice_complemented : library_in (codes "GATE i 1 O=(a')';" ∷ codes "PIN a INV 1 999 1 0 2 0" ∷ []) ≡ Ok (record { name = codes "i"; area = record { 0 = 1000000 }; output = codes "O"; pins = codes "a" ∷ []; delays = record { 0 = 2000000 } ∷ []; forms = (expr_not (expr_not (expr_pin 0))) ∷ [] } ∷ [])
unfolding logical_lines stream_of text_from token_fault first_fault expression_of have_same_table agrees merged behind_latch piece pieces outcome_from outcome_of library_of fault_so_far decimal_of value_of_decimals library_in first_fault_of
twice_complemented = refl

-- a product without `*` over two lines, and a pin's own delay
inner_part : library_in (codes "GATE g 0 O = a " ∷ codes "( b + c ) d' ; PIN * INV 0 0 0 0 0 0 PIN b INV 0 0 .5 0 0 0" ∷ []) ≡ Ok (record { name = codes "g"; area = record { 0 = 0 }; output = codes "O"; pins = codes "a" ∷ codes "b" ∷ codes "c" ∷ codes "d" ∷ []; delays = record { 0 = 0 } ∷ record { 0 = 500000 } ∷ record { 0 = 0 } ∷ record { 0 = 0 } ∷ []; forms = (expr_and (more_exprs (expr_pin 0) (more_exprs (expr_or (more_exprs (expr_pin 1) (more_exprs (expr_pin 2) (no_exprs)))) (more_exprs (expr_not (expr_pin 3)) (no_exprs))))) ∷ [] } ∷ [])
unfolding logical_lines stream_of text_from token_fault first_fault expression_of have_same_table agrees merged behind_latch piece pieces outcome_from outcome_of library_of fault_so_far decimal_of value_of_decimals library_in first_fault_of
inner_part = refl

own_delay_wins : library_in (codes "GATE g 0 O=a;PIN a INV 0 0 1 0 0 0" ∷ codes "PIN * INV 0 0 2 0 0 0" ∷ []) ≡ Ok (record { name = codes "g"; area = record { 0 = 0 }; output = codes "O"; pins = codes "a" ∷ []; delays = record { 0 = 1000000 } ∷ []; forms = (expr_pin 0) ∷ [] } ∷ [])
unfolding logical_lines stream_of text_from token_fault first_fault expression_of have_same_table agrees merged behind_latch piece pieces outcome_from outcome_of library_of fault_so_far decimal_of value_of_decimals library_in first_fault_of
own_delay_wins = refl

left_operator : library_in (codes "GATE g 0 O=!a'+!(b);PIN * INV 0 0 0 0 0 0" ∷ []) ≡ Ok (record { name = codes "g"; area = record { 0 = 0 }; output = codes "O"; pins = codes "a" ∷ codes "b" ∷ []; delays = record { 0 = 0 } ∷ record { 0 = 0 } ∷ []; forms = (expr_or (more_exprs (expr_not (expr_not (expr_pin 0))) (more_exprs (expr_not (expr_pin 1)) (no_exprs)))) ∷ [] } ∷ [])
unfolding logical_lines stream_of text_from token_fault first_fault expression_of have_same_table agrees merged behind_latch piece pieces outcome_from outcome_of library_of fault_so_far decimal_of value_of_decimals library_in first_fault_of
left_operator = refl

constant_alone : library_in (codes "GATE one 0 O=(CONST1);" ∷ []) ≡ Ok (record { name = codes "one"; area = record { 0 = 0 }; output = codes "O"; pins = []; delays = []; forms = (expr_const true) ∷ [] } ∷ [])
unfolding logical_lines stream_of text_from token_fault first_fault expression_of have_same_table agrees merged behind_latch piece pieces outcome_from outcome_of library_of fault_so_far decimal_of value_of_decimals library_in first_fault_of
constant_alone = refl

constant_inside : library_in (codes "GATE one 0 O=CONST1" ∷ codes "';" ∷ []) ≡ fault 2 ConstInside
unfolding logical_lines stream_of text_from token_fault first_fault expression_of have_same_table agrees merged behind_latch piece pieces outcome_from outcome_of library_of fault_so_far decimal_of value_of_decimals library_in first_fault_of
constant_inside = refl

-- the test at an entry's end comes before the word that ends it
no_pin_line : library_in (codes "GATE a 1 O=!a;" ∷ codes "x" ∷ []) ≡ fault 1 PinMissing
unfolding logical_lines stream_of text_from token_fault first_fault expression_of have_same_table agrees merged behind_latch piece pieces outcome_from outcome_of library_of fault_so_far decimal_of value_of_decimals library_in first_fault_of
no_pin_line = refl

no_entry : library_in (codes "LATCH x PIN z" ∷ codes "GATE a 1 O=CONST0; x" ∷ []) ≡ fault 2 Expected
unfolding logical_lines stream_of text_from token_fault first_fault expression_of have_same_table agrees merged behind_latch piece pieces outcome_from outcome_of library_of fault_so_far decimal_of value_of_decimals library_in first_fault_of
no_entry = refl

ends_inside : library_in (codes "GATE a 1 O=!a" ∷ []) ≡ fault 1 Expected
unfolding logical_lines stream_of text_from token_fault first_fault expression_of have_same_table agrees merged behind_latch piece pieces outcome_from outcome_of library_of fault_so_far decimal_of value_of_decimals library_in first_fault_of
ends_inside = refl

-- and is no fault where more lines may follow
goes_on : first_fault_of (codes "GATE a 1 O=!a" ∷ []) ≡ None
unfolding logical_lines stream_of text_from token_fault first_fault expression_of have_same_table agrees merged behind_latch piece pieces outcome_from outcome_of library_of fault_so_far decimal_of value_of_decimals library_in first_fault_of
goes_on = refl

bad_byte : library_in (codes "GATE a 1 O=" ∷ codes "a&b;" ∷ []) ≡ fault 2 BadByte
unfolding logical_lines stream_of text_from token_fault first_fault expression_of have_same_table agrees merged behind_latch piece pieces outcome_from outcome_of library_of fault_so_far decimal_of value_of_decimals library_in first_fault_of
bad_byte = refl

second_equals : library_in (codes "GATE a 1 O=a=;" ∷ []) ≡ fault 1 BadByte
unfolding logical_lines stream_of text_from token_fault first_fault expression_of have_same_table agrees merged behind_latch piece pieces outcome_from outcome_of library_of fault_so_far decimal_of value_of_decimals library_in first_fault_of
second_equals = refl

first_equals : library_in (codes "GATE a 1 =a;" ∷ []) ≡ fault 1 Expected
unfolding logical_lines stream_of text_from token_fault first_fault expression_of have_same_table agrees merged behind_latch piece pieces outcome_from outcome_of library_of fault_so_far decimal_of value_of_decimals library_in first_fault_of
first_equals = refl

open_group : library_in (codes "GATE a 1 O=(a;" ∷ []) ≡ fault 1 Expected
unfolding logical_lines stream_of text_from token_fault first_fault expression_of have_same_table agrees merged behind_latch piece pieces outcome_from outcome_of library_of fault_so_far decimal_of value_of_decimals library_in first_fault_of
open_group = refl

fine_area : library_in (codes "GATE a 1.0000001 O=a&;" ∷ []) ≡ fault 1 (Decimal Fine)
unfolding logical_lines stream_of text_from token_fault first_fault expression_of have_same_table agrees merged behind_latch piece pieces outcome_from outcome_of library_of fault_so_far decimal_of value_of_decimals library_in first_fault_of
fine_area = refl

unknown_pin : library_in (codes "GATE a 1 O=a;" ∷ codes "PIN b INV" ∷ []) ≡ fault 2 PinUnknown
unfolding logical_lines stream_of text_from token_fault first_fault expression_of have_same_table agrees merged behind_latch piece pieces outcome_from outcome_of library_of fault_so_far decimal_of value_of_decimals library_in first_fault_of
unknown_pin = refl

unknown_phase : library_in (codes "GATE a 1 O=a;" ∷ codes "PIN a NON" ∷ []) ≡ fault 2 PhaseWord
unfolding logical_lines stream_of text_from token_fault first_fault expression_of have_same_table agrees merged behind_latch piece pieces outcome_from outcome_of library_of fault_so_far decimal_of value_of_decimals library_in first_fault_of
unknown_phase = refl

empty_library : library_in [] ≡ Ok []
unfolding logical_lines stream_of text_from token_fault first_fault expression_of have_same_table agrees merged behind_latch piece pieces outcome_from outcome_of library_of fault_so_far decimal_of value_of_decimals library_in first_fault_of
empty_library = refl

-- a group keeps its own operator
own_operator : library_in (codes "GATE g 1 O=a*(b*c);" ∷ codes "PIN * UNKNOWN 1 999 1 0 1 0" ∷ []) ≡ Ok (record { name = codes "g"; area = record { 0 = 1000000 }; output = codes "O"; pins = codes "a" ∷ codes "b" ∷ codes "c" ∷ []; delays = record { 0 = 1000000 } ∷ record { 0 = 1000000 } ∷ record { 0 = 1000000 } ∷ []; forms = (expr_and (more_exprs (expr_pin 0) (more_exprs (expr_and (more_exprs (expr_pin 1) (more_exprs (expr_pin 2) (no_exprs)))) (no_exprs)))) ∷ [] } ∷ [])
unfolding logical_lines stream_of text_from token_fault first_fault expression_of have_same_table agrees merged behind_latch piece pieces outcome_from outcome_of library_of fault_so_far decimal_of value_of_decimals library_in first_fault_of
own_operator = refl

-- a long line behind an entry comes before the test at the entry's end
long_line_first : library_in (codes "GATE a 1 O=!a;" ∷ (codes "x " ++ replicate 4096 97) ∷ []) ≡ fault 2 LongWord
unfolding logical_lines stream_of text_from token_fault first_fault expression_of have_same_table agrees merged behind_latch piece pieces outcome_from outcome_of library_of fault_so_far decimal_of value_of_decimals library_in first_fault_of
long_line_first = refl

many_literals : library_in (codes "GATE g 1 O=" ∷ flat_map {X = ℕ} (λ n. codes "a ") (replicate 63 0) ∷ codes "a" ∷ codes "a;" ∷ []) ≡ fault 4 LimitLiterals
unfolding logical_lines stream_of text_from token_fault first_fault expression_of have_same_table agrees merged behind_latch piece pieces outcome_from outcome_of library_of fault_so_far decimal_of value_of_decimals library_in first_fault_of
many_literals = refl

many_pins : library_in (codes "GATE g 1 O=a0 a1 a2 a3 a4 a5 a6 a7 a8 a9 b0 b1 b2 b3 b4 b5 a0" ∷ codes "b6;" ∷ []) ≡ fault 2 LimitPins
unfolding logical_lines stream_of text_from token_fault first_fault expression_of have_same_table agrees merged behind_latch piece pieces outcome_from outcome_of library_of fault_so_far decimal_of value_of_decimals library_in first_fault_of
many_pins = refl

-- the blank before a word is a byte of the text
long_function : library_in (codes "GATE g 1" ∷ (codes "O=" ++ replicate 2046 97) ∷ codes "a ;" ∷ []) ≡ fault 3 LimitText
unfolding logical_lines stream_of text_from token_fault first_fault expression_of have_same_table agrees merged behind_latch piece pieces outcome_from outcome_of library_of fault_so_far decimal_of value_of_decimals library_in first_fault_of
long_function = refl
