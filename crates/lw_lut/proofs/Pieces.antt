-- The text of a network of tables, part by part.
use Rattle.std.proofs.Common.{ℕ, zero, suc, ◌+◌, ◌-◌, ◌<◌, ◌≡◌, List, [], ◌∷◌, ◌++◌, length, map, take, get_or, if◌then◌else◌, refl, ap, sym, ◌∙◌, arith, append_assoc, append-nil}
use Rattle.std.specs.Prelude.{codes}
use Rattle.std.specs.Int.{bit_at}
use Rattle.std.specs.List.{flat_map}
use Rattle.std.proofs.lemmas.List.{take_more, take_all}
use Rattle.lw_pool.specs.declared.id.ClassId.{ClassId}
use Rattle.lw_lut.specs.Cuts.{is_set}
use Rattle.lw_lut.specs.Nets.{PlainTableNet}
use Rattle.lw_pool.specs.declared.latch.Frame.{Frame}
use Rattle.lw_lut.specs.Placed.{header_text}
use Rattle.lw_lut.specs.Texts.{binary, row, rows_from, wires, wire_text, net_name}
use Rattle.lw_lut.specs.declared.table.Table.{Table}
use Rattle.lw_words.specs.Texts.{ended, line}

pub binary_long : (k place : ℕ) → length (binary k place) ≡ k
binary_long zero place = refl
binary_long (suc k) place = ap suc (binary_long k place)

-- the names of some classes' nets, one more, and then a line end
pub ended_nets : (n : PlainTableNet) (classes : List ClassId) (last : List ℕ) → ended (map (λ (q : ClassId). net_name n q.0) classes ++ last ∷ []) ≡ flat_map (λ (q : ClassId). 32 ∷ net_name n q.0) classes ++ (32 ∷ (last ++ 10 ∷ []))
ended_nets n [] last = refl
ended_nets n (q ∷ classes) last = ap (λ l. 32 ∷ (net_name n q.0 ++ l)) (ended_nets n classes last) ∙ sym (append_assoc (32 ∷ net_name n q.0) (flat_map (λ (q : ClassId). 32 ∷ net_name n q.0) classes) (32 ∷ (last ++ 10 ∷ [])))

-- Rows.

binary_at : (bits place k d : ℕ) → k < bits → get_or (binary bits place) k d ≡ 48 + bit_at place (bits - 1 - k)
binary_at zero place k d lt = absurd (omega (arith, lt))
binary_at (suc bits) place zero d lt = let e : suc bits - 1 - 0 ≡ bits = omega arith in ap (λ b. 48 + bit_at place b) (sym e)
binary_at (suc bits) place (suc k) d lt =
    let e : bits - 1 - k ≡ suc bits - 1 - suc k = omega arith in
    binary_at bits place k d (omega (arith, lt)) ∙ ap (λ b. 48 + bit_at place b) e

-- one more digit
pub binary_more : (bits place k : ℕ) → k < bits → take (k + 1) (binary bits place) ≡ take k (binary bits place) ++ (48 + bit_at place (bits - 1 - k)) ∷ []
binary_more bits place k lt =
    let long = binary_long bits place in
    take_more (binary bits place) k 0 (omega (arith, long, lt)) ∙ ap (λ x. take k (binary bits place) ++ x ∷ []) (binary_at bits place k 0 lt)

-- all digits
pub binary_all : (bits place : ℕ) → take bits (binary bits place) ≡ binary bits place
binary_all bits place = let long = binary_long bits place in take_all bits (binary bits place) (omega (arith, long))

pub row_is : (bits place : ℕ) → (bits ≡ 0 → ⊥) → row bits place ≡ binary bits place ++ codes " 1\n"
row_is zero place some = absurd (some refl)
row_is (suc bits) place some = refl

abbrev pub row_at : Table → ℕ → List ℕ
row_at t place = if is_set t.bits place then row (length t.fanins) place else []

rows_suc : (t : Table) (place count : ℕ) → rows_from t place (suc count) ≡ rows_from t place count ++ row_at t (place + count)
rows_suc t place zero = let e : place ≡ place + 0 = omega arith in append-nil (row_at t place) ∙ ap (row_at t) e
rows_suc t place (suc count) =
    let e : suc place + count ≡ place + suc count = omega arith in
    ap (λ l. row_at t place ++ l) (rows_suc t (suc place) count ∙ ap (λ p. rows_from t (suc place) count ++ row_at t p) e)
    ∙ sym (append_assoc (row_at t place) (rows_from t (suc place) count) (row_at t (place + suc count)))

-- the rows of one more number
pub rows_more : (t : Table) (count : ℕ) → rows_from t 0 (count + 1) ≡ rows_from t 0 count ++ row_at t count
rows_more t count =
    let e : count + 1 ≡ suc count = omega arith in
    let z : 0 + count ≡ count = omega arith in
    ap (rows_from t 0) e ∙ (rows_suc t 0 count ∙ ap (λ p. rows_from t 0 count ++ row_at t p) z)

-- Wires.

wires_suc : (n : PlainTableNet) (outputs : List (List ℕ)) (roots : List ClassId) (k : ℕ) (name : List ℕ) (root : ClassId) → k < length outputs → k < length roots → wires n (take (suc k) outputs) (take (suc k) roots) ≡ wires n (take k outputs) (take k roots) ++ wire_text (net_name n (get_or roots k root).0) (get_or outputs k name)
wires_suc n (output ∷ outputs) (r ∷ roots) zero name root lt le = append-nil (wire_text (net_name n r.0) output)
wires_suc n (output ∷ outputs) (r ∷ roots) (suc k) name root lt le =
    ap (λ l. wire_text (net_name n r.0) output ++ l) (wires_suc n outputs roots k name root (omega (arith, lt)) (omega (arith, le)))
    ∙ sym (append_assoc (wire_text (net_name n r.0) output) (wires n (take k outputs) (take k roots)) (wire_text (net_name n (get_or roots k root).0) (get_or outputs k name)))
wires_suc n [] roots k name root lt le = absurd (omega (arith, lt))
wires_suc n (output ∷ outputs) [] k name root lt le = absurd (omega (arith, le))

-- the wire of one more root
pub wires_more : (n : PlainTableNet) (outputs : List (List ℕ)) (roots : List ClassId) (k : ℕ) (name : List ℕ) (root : ClassId) → k < length outputs → k < length roots → wires n (take (k + 1) outputs) (take (k + 1) roots) ≡ wires n (take k outputs) (take k roots) ++ wire_text (net_name n (get_or roots k root).0) (get_or outputs k name)
wires_more n outputs roots k name root lt le =
    let e : k + 1 ≡ suc k = omega arith in
    ap (λ j. wires n (take j outputs) (take j roots)) e ∙ wires_suc n outputs roots k name root lt le

-- The header.

-- the three lines of the header, and what comes behind them
pub header_first : (n : PlainTableNet) (frame : Frame) (rest : List ℕ) → header_text n frame ++ rest ≡ line (codes ".model") (n.ports.model ∷ []) ++ (line (codes ".inputs") (take frame.inputs n.ports.inputs) ++ (line (codes ".outputs") (take frame.outputs n.ports.outputs) ++ rest))
header_first n frame rest =
    let one = line (codes ".model") (n.ports.model ∷ []) in
    let two = line (codes ".inputs") (take frame.inputs n.ports.inputs) in
    let three = line (codes ".outputs") (take frame.outputs n.ports.outputs) in
    append_assoc one (two ++ three) rest ∙ ap (λ l. one ++ l) (append_assoc two three rest)
