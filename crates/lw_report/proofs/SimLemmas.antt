-- Values of nets in words: bit k of the word of a net is its value in vector k.
use Rattle.std.proofs.Common.{ℕ, zero, suc, ◌+◌, ◌<◌, ◌≤◌, ◌≡◌, Bool, true, false, ◌&&◌, ◌||◌, List, [], ◌∷◌, ◌++◌, Some, length, map, take, drop, set, get_or, slice_get, refl, sym, ap, ap₂, subst, ◌∙◌, arith, append_assoc, append-nil, Option}
use mathlib.Core.Path.{fun_ext}
use Rattle.std.specs.Prelude.{bit_and, bit_or, slice_index}
use Rattle.std.specs.List.{flat_map, list_any, range_with_len}
use Rattle.std.proofs.Math.Bool.{and-true, or-false, and_assoc, or_assoc}
use Rattle.std.proofs.Math.ListN as anywhere
use Rattle.std.proofs.lemmas.List.{drop_all, drop_more, get_or-map, get_or-take, length-map, map-id, take_more, take_more_set}
use Rattle.std.proofs.lemmas.List.FromFn.{map-range_with_len_more}
use Rattle.std.proofs.lemmas.Grind.{flat_map-append}
use Rattle.lw_pool.specs.declared.id.NetId.{NetId}
use Rattle.lw_io.specs.declared.writer.Writer.{Writer}
use Rattle.lw_io.proofs.Putting.{Writes-both, Writes-none}
use Rattle.lw_laws.specs.Networks.{row_value, node_value, given}
use Rattle.lw_laws.specs.Expressions.{Expr, expr_value}
use Rattle.lw_net.specs.declared.node.Node.{Node}
use Rattle.lw_net.specs.Networks.{NetworkParts}
use Rattle.lw_net.specs.Plain as network
use Rattle.lw_net.specs.Signs.{asked, met_by}
use Rattle.lw_net.proofs.Filling.{row_step, filled_values as network_values}
use Rattle.lw_netlist.specs.declared.gate.Gate.{Gate}
use Rattle.lw_netlist.specs.Filling.{gate_value}
use Rattle.lw_netlist.specs.Netlists.{NetlistParts}
use Rattle.lw_netlist.proofs.NetValues.{filled_values as netlist_values}
use Rattle.lw_genlib.specs.Cells.{CellParts}
use Rattle.lw_genlib.specs.Words.{bit, pins_at}
use Rattle.lw_report.specs.declared.block.Block.{Block}
use Rattle.lw_report.specs.Blocks.{bits_at, block_vectors, vectors_in}
use Rattle.lw_report.specs.Writes.{WritesLines}
use Rattle.lw_report.specs.Reading.{words_of}
use Rattle.lw_report.specs.Simulated.{AreLines, IsNetworkLine, IsNetlistLine, value_line, port_net}
use Rattle.lw_report.specs.Simulated.AreLines.{no_lines, next_line}
use Rattle.lw_report.proofs.Bits.{bit_and_is, bit_or_is, bit_zero}
use Rattle.lw_report.proofs.BlockLemmas.{bits_read}
use Rattle.lw_pool.specs.Numbers.{net_number, values_at}

-- Rows.

-- one column more
pub row_more : (k : ℕ) (nets : List ℕ) (fanins : List NetId) (row : List ℕ) (i all met : ℕ) (whole : Bool) → length row ≡ length fanins → i < length row → (get_or fanins i (record { 0 = 0 })).0 < length nets → bit k met ≡ met_by (get_or row i 0) (bit k (get_or nets (get_or fanins i (record { 0 = 0 })).0 0)) → (bit k all && row_value (drop i (values_at (bits_at k nets) fanins)) (drop i (map asked row))) ≡ whole → (bit k (bit_and all met) && row_value (drop (i + 1) (values_at (bits_at k nets) fanins)) (drop (i + 1) (map asked row))) ≡ whole
row_more k nets fanins row i all met whole same below inside is before =
    let rest = row_value (drop (i + 1) (values_at (bits_at k nets) fanins)) (drop (i + 1) (map asked row)) in
    let read = sym (bits_read k nets (get_or fanins i (record { 0 = 0 })).0 inside) in
    let step = row_step (bits_at k nets) fanins row i (bit k met) same below (is ∙ ap (met_by (get_or row i 0)) read) in
    ap (λ b. b && rest) (bit_and_is k all met) ∙ (and_assoc (bit k all) (bit k met) rest ∙ (ap (λ b. bit k all && b) (sym step) ∙ before))

-- no column is left
pub row_done : (k : ℕ) (nets : List ℕ) (fanins : List NetId) (row : List ℕ) (i all : ℕ) (whole : Bool) → length row ≡ length fanins → length row ≤ i → (bit k all && row_value (drop i (values_at (bits_at k nets) fanins)) (drop i (map asked row))) ≡ whole → bit k all ≡ whole
row_done k nets fanins row i all whole same past before =
    let values = values_at (bits_at k nets) fanins in
    let one : length values ≡ length fanins = length-map (map net_number fanins) (λ net. get_or (bits_at k nets) net false) ∙ length-map fanins net_number in
    let two : length (map asked row) ≡ length row = length-map row asked in
    let left = drop_all i values (omega arith) in
    let right = drop_all i (map asked row) (omega arith) in
    let holds : row_value (drop i values) (drop i (map asked row)) ≡ true = ap₂ row_value left right in
    sym (and-true (bit k all)) ∙ (ap (λ b. bit k all && b) (sym holds) ∙ before)

-- one row more
pub rows_more : (k some word : ℕ) (test : List (Rattle.std.specs.Prelude.Option Bool) → Bool) (rows : List (List ℕ)) (i : ℕ) (row : List ℕ) (whole : Bool) → i < length rows → row ≡ get_or rows i row → bit k word ≡ test (map asked row) → (bit k some || list_any test (map (map asked) (drop i rows))) ≡ whole → (bit k (bit_or some word) || list_any test (map (map asked) (drop (i + 1) rows))) ≡ whole
rows_more k some word test rows i row whole below at is before =
    let rest = list_any test (map (map asked) (drop (i + 1) rows)) in
    let front : drop i rows ≡ row ∷ drop (i + 1) rows = drop_more rows i row below ∙ ap (λ r. r ∷ drop (i + 1) rows) (sym at) in
    let step : list_any test (map (map asked) (drop i rows)) ≡ (bit k word || rest) = ap (λ rs. list_any test (map (map asked) rs)) front ∙ ap (λ b. b || rest) (sym is) in
    ap (λ b. b || rest) (bit_or_is k some word) ∙ (or_assoc (bit k some) (bit k word) rest ∙ (ap (λ b. bit k some || b) (sym step) ∙ before))

-- no row is left
pub rows_done : (k some : ℕ) (test : List (Rattle.std.specs.Prelude.Option Bool) → Bool) (rows : List (List ℕ)) (i : ℕ) (whole : Bool) → length rows ≤ i → (bit k some || list_any test (map (map asked) (drop i rows))) ≡ whole → bit k some ≡ whole
rows_done k some test rows i whole past before =
    let none : list_any test (map (map asked) (drop i rows)) ≡ false = ap (λ rs. list_any test (map (map asked) rs)) (drop_all i rows past) in
    sym (or-false (bit k some)) ∙ (ap (λ b. bit k some || b) (sym none) ∙ before)

-- Cells.

-- a value of a net in a vector, or of none
pub bits_anywhere : (k : ℕ) (words : List ℕ) (i : ℕ) → get_or (bits_at k words) i false ≡ bit k (get_or words i 0)
bits_anywhere k words i = subst (λ d. get_or (bits_at k words) i d ≡ bit k (get_or words i 0)) (bit_zero k) (anywhere.get_or-map (bit k) words i 0)

pub values_of_words : (k : ℕ) (nets : List ℕ) (pins : List NetId) → values_at (bits_at k nets) pins ≡ bits_at k (words_of nets pins)
values_of_words k nets [] = refl
values_of_words k nets (pin ∷ pins) = ap₂ (λ (b : Bool) (bs : List Bool). b ∷ bs) (bits_anywhere k nets pin.0) (values_of_words k nets pins)

-- an expression has at bit k the value that it has in vector k
pub expr_of_words : (k : ℕ) (nets : List ℕ) (pins : List NetId) (e : Expr) → expr_value (pins_at k (words_of nets pins)) e ≡ expr_value (given (values_at (bits_at k nets) pins)) e
expr_of_words k nets pins e = ap (λ y. expr_value y e) (fun_ext (λ pin. sym (ap (λ (vs : List Bool). get_or vs pin false) (values_of_words k nets pins) ∙ bits_anywhere k (words_of nets pins) pin)))

-- the words of pins
pub words_count : (nets : List ℕ) (pins : List NetId) → length (words_of nets pins) ≡ length pins
words_count nets pins = length-map (map net_number pins) (slice_index nets) ∙ length-map pins net_number

word_read : (nets : List ℕ) (pins : List NetId) (i : ℕ) → i < length pins → get_or (words_of nets pins) i 0 ≡ get_or nets (get_or pins i (record { 0 = 0 })).0 0
word_read nets pins i below =
    let one : length (map net_number pins) ≡ length pins = length-map pins net_number in
    let inside : i < length (map net_number pins) = omega arith in
    get_or-map (slice_index nets) (map net_number pins) i 0 0 inside ∙ ap (λ net. get_or nets net 0) (get_or-map net_number pins i (record { 0 = 0 }) 0 below)

pub words_more : (nets : List ℕ) (pins : List NetId) (words : List ℕ) (i word : ℕ) → i < length pins → i < length words → word ≡ get_or nets (get_or pins i (record { 0 = 0 })).0 0 → take i words ≡ take i (words_of nets pins) → take (i + 1) (set words i word) ≡ take (i + 1) (words_of nets pins)
words_more nets pins words i word in_pins in_words is front =
    let count = words_count nets pins in
    let inside : i < length (words_of nets pins) = omega arith in
    take_more_set words i word in_words ∙ (ap₂ (λ (a : List ℕ) (w : ℕ). a ++ w ∷ []) front (is ∙ sym (word_read nets pins i in_pins)) ∙ sym (take_more (words_of nets pins) i 0 inside))

-- Lines.

pub range_more : (n : ℕ) → range_with_len 0 (n + 1) ≡ range_with_len 0 n ++ n ∷ []
range_more n =
    let zero_first : 0 + n ≡ n = omega arith in
    sym (map-id (range_with_len 0 (n + 1))) ∙ (map-range_with_len_more (λ (m : ℕ). m) 0 n n zero_first ∙ ap (λ (l : List ℕ). l ++ n ∷ []) (map-id (range_with_len 0 n)))

-- lines behind lines
pub lines_behind : {IsLine : List Bool → List ℕ → Type 0} {vectors others : List (List Bool)} {text more : List ℕ} → AreLines IsLine vectors text → AreLines IsLine others more → AreLines IsLine (vectors ++ others) (text ++ more)
lines_behind no_lines rest = rest
lines_behind {IsLine} {vectors} {others} {text} {more} (next_line {vector} {line} {vectors = front} {text = lines} is are) rest = subst (AreLines IsLine (vector ∷ (front ++ others))) (sym (append_assoc line lines more)) (next_line is (lines_behind are rest))

-- a line for each of some numbers
pub lines_of : (IsLine : List Bool → List ℕ → Type 0) (vector : ℕ → List Bool) (line : ℕ → List ℕ) (from n : ℕ) → ((k : ℕ) → from ≤ k → k < from + n → IsLine (vector k) (line k)) → AreLines IsLine (map vector (range_with_len from n)) (flat_map line (range_with_len from n))
lines_of IsLine vector line from zero each = no_lines
lines_of IsLine vector line from (suc n) each =
    next_line (each from (omega arith) (omega arith)) (lines_of IsLine vector line (from + 1) n (λ k low high. each k (omega arith) (omega arith)))

-- one number more
pub line_more : (line : ℕ → List ℕ) (n : ℕ) → flat_map line (range_with_len 0 (n + 1)) ≡ flat_map line (range_with_len 0 n) ++ line n
line_more line n = ap (flat_map line) (range_more n) ∙ (flat_map-append line (range_with_len 0 n) (n ∷ []) ∙ ap (λ (l : List ℕ). flat_map line (range_with_len 0 n) ++ l) (append-nil (line n)))

-- Lines of networks and netlists.

kept_front : (k : ℕ) (words before nets : List ℕ) → take (length words) before ≡ words → (i : ℕ) → i < length (bits_at k words) → get_or (bits_at k before) i false ≡ get_or (bits_at k words) i false
kept_front k words before nets front i below =
    let inside : i < length words = subst (λ n. i < n) (length-map words (bit k)) below in
    bits_anywhere k before i ∙ (ap (bit k) (sym (get_or-take (length words) before i 0 inside) ∙ ap (λ (l : List ℕ). get_or l i 0) front) ∙ sym (bits_anywhere k words i))

pub network_line : (n : NetworkParts) (words before nets : List ℕ) (k : ℕ) → length words ≡ n.inputs → length nets ≡ n.inputs + length n.nodes → take (length words) before ≡ words → ((i : ℕ) → i < length words → slice_index nets i ≡ slice_index before i) → ((j : ℕ) (node : Node) → slice_get n.nodes j ≡ Some node → get_or (bits_at k nets) (length words + j) false ≡ node_value (bits_at k nets) (network.plain_node node)) → IsNetworkLine n (bits_at k words) (value_line (bits_at k nets) n.outputs)
network_line n words before nets k one_x one_net front kept nodes =
    let size : length (bits_at k words) ≡ length words = length-map words (bit k) in
    record {
      values = bits_at k nets;
      are = network_values n (bits_at k words) (bits_at k before) (bits_at k nets) (size ∙ one_x) (length-map nets (bit k) ∙ one_net)
          (λ i below. let inside : i < length words = subst (λ m. i < m) size below in bits_anywhere k nets i ∙ (ap (bit k) (kept i inside) ∙ sym (bits_anywhere k before i)))
          (kept_front k words before nets front)
          (λ j node at. ap (λ m. get_or (bits_at k nets) (m + j) false) size ∙ nodes j node at);
      says = refl;
    }

pub netlist_line : (cells : List CellParts) (n : NetlistParts) (words before nets : List ℕ) (k : ℕ) → length words ≡ n.inputs → length nets ≡ n.inputs + length n.gates → take (length words) before ≡ words → ((i : ℕ) → i < length words → slice_index nets i ≡ slice_index before i) → ((j : ℕ) (gate : Gate) → slice_get n.gates j ≡ Some gate → get_or (bits_at k nets) (length words + j) false ≡ gate_value cells (bits_at k nets) gate) → IsNetlistLine cells n (bits_at k words) (value_line (bits_at k nets) (map port_net n.outputs))
netlist_line cells n words before nets k one_x one_net front kept gates =
    let size : length (bits_at k words) ≡ length words = length-map words (bit k) in
    record {
      values = bits_at k nets;
      are = netlist_values cells n (bits_at k words) (bits_at k before) (bits_at k nets) (size ∙ one_x) (length-map nets (bit k) ∙ one_net)
          (λ i below. let inside : i < length words = subst (λ m. i < m) size below in bits_anywhere k nets i ∙ (ap (bit k) (kept i inside) ∙ sym (bits_anywhere k before i)))
          (kept_front k words before nets front)
          (λ j gate at. ap (λ m. get_or (bits_at k nets) (m + j) false) size ∙ gates j gate at);
      says = refl;
    }

-- Lines of blocks.

-- one block more
pub vectors_more : (blocks : List Block) (i : ℕ) (d : Block) → i < length blocks → vectors_in (take (i + 1) blocks) ≡ vectors_in (take i blocks) ++ block_vectors (get_or blocks i d)
vectors_more blocks i d below =
    ap vectors_in (take_more blocks i d below) ∙ (flat_map-append block_vectors (take i blocks) (get_or blocks i d ∷ []) ∙ ap (λ (vs : List (List Bool)). vectors_in (take i blocks) ++ vs) (append-nil (block_vectors (get_or blocks i d))))

pub writes_lines_none : {IsLine : List Bool → List ℕ → Type 0} {S : Type 0} {taken : S → Option (List ℕ)} {faults : S → ℕ} {w : Writer S} → WritesLines IsLine [] taken faults w w
writes_lines_none = record { text = []; is = no_lines; writes = Writes-none }

pub writes_lines_more : {IsLine : List Bool → List ℕ → Type 0} {S : Type 0} {taken : S → Option (List ℕ)} {faults : S → ℕ} {u v w : Writer S} (blocks : List Block) (i : ℕ) (d : Block) → i < length blocks → WritesLines IsLine (vectors_in (take i blocks)) taken faults u v → WritesLines IsLine (block_vectors (get_or blocks i d)) taken faults v w → WritesLines IsLine (vectors_in (take (i + 1) blocks)) taken faults u w
writes_lines_more {IsLine} blocks i d below first second = record {
  text = first.text ++ second.text;
  is = subst (λ vs. AreLines IsLine vs (first.text ++ second.text)) (sym (vectors_more blocks i d below)) (lines_behind first.is second.is);
  writes = Writes-both first.writes second.writes;
}
