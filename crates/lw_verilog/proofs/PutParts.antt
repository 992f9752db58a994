-- Texts that are put in parts.
use Rattle.std.proofs.Common.{ℕ, zero, suc, ◌≡◌, ◌≤◌, ◌<◌, ◌+◌, ◌-◌, ◌||◌, Bool, true, false, cond, List, [], ◌∷◌, ◌++◌, length, map, drop, take, get_or, Option, refl, ap, ap₂, sym, ◌∙◌, subst, arith, append_assoc, append-nil}
use Rattle.std.specs.List.{flat_map, list_any}
use Rattle.std.specs.Str.{bytes_eq}
use Rattle.std.specs.Cmp.Lexicographic.{bytes_decides}
use Rattle.std.proofs.lemmas.List.{take_all, drop_more, drop_all}
use Rattle.std.proofs.lemmas.Grind.{flat_map-append}
use Rattle.lw_io.specs.declared.writer.Writer.{Writer}
use Rattle.lw_io.specs.Writers.{Writes}
use Rattle.lw_io.proofs.Putting.{Writes-both}
use Rattle.lw_pool.specs.declared.id.NetId.{NetId}
use Rattle.lw_genlib.specs.Cells.{CellParts}
use Rattle.lw_netlist.specs.declared.gate.Gate.{Gate}
use Rattle.lw_named_netlist.specs.Closing.{is_among}
use Rattle.lw_mapped.specs.Texts.{net_name}
use Rattle.lw_verilog.specs.Texts.{begins_u, escaped, further, joined, gate_text, gates_text, instance_name, passed, pins_text, tie_text}

-- the same text
pub Writes-is : {S : Type 0} {taken : S → Option (List ℕ)} {faults : S → ℕ} {v w : Writer S} {p q : List ℕ} → Writes taken faults v w p → p ≡ q → Writes taken faults v w q
Writes-is {taken = taken} {faults = faults} {v = v} {w = w} h e = subst (Writes taken faults v w) e h

pub flat_map-map : {A B : Type 0} (f : B → List ℕ) (g : A → B) (xs : List A) → flat_map (λ x. f (g x)) xs ≡ flat_map f (map g xs)
flat_map-map f g [] = refl
flat_map-map f g (x ∷ xs) = ap (λ l. f (g x) ++ l) (flat_map-map f g xs)

-- the loop is over
pub all-put : {A B : Type 0} (f : B → List ℕ) (g : A → B) (xs : List A) (k : ℕ) → length xs ≤ k → flat_map (λ x. f (g x)) (take k xs) ≡ flat_map f (map g xs)
all-put f g xs k far = ap (flat_map (λ x. f (g x))) (take_all k xs far) ∙ flat_map-map f g xs

pub list_any-map : {A B : Type 0} (p : B → Bool) (f : A → B) (xs : List A) → list_any (λ x. p (f x)) xs ≡ list_any p (map f xs)
list_any-map p f [] = refl
list_any-map p f (x ∷ xs) = ap (λ b. p (f x) || b) (list_any-map p f xs)

pub joined-both : (name : List ℕ) (names others : List (List ℕ)) → escaped name ++ (further names ++ further others) ≡ joined ((name ∷ names) ++ others)
joined-both name names others = ap (λ l. escaped name ++ l) (sym (flat_map-append (λ n. 44 ∷ 32 ∷ escaped n) names others))

-- the pins with their nets, one more
pub pins-more : (names pins : List (List ℕ)) (nets : List NetId) (k : ℕ) → k < length pins → k < length nets → pins_text names (take (k + 1) pins) (take (k + 1) nets) ≡ pins_text names (take k pins) (take k nets) ++ (tie_text (get_or pins k []) (net_name names (get_or nets k (record { 0 = 0 }))) ++ 44 ∷ 32 ∷ [])
pins-more names [] nets k a b = absurd (omega arith)
pins-more names (pin ∷ pins) [] k a b = absurd (omega arith)
pins-more names (pin ∷ pins) (net ∷ nets) zero a b = last pins nets
  where
    last : (ps : List (List ℕ)) (ns : List NetId) → (tie_text pin (net_name names net) ++ 44 ∷ 32 ∷ []) ++ pins_text names (take 0 ps) (take 0 ns) ≡ [] ++ (tie_text pin (net_name names net) ++ 44 ∷ 32 ∷ [])
    last [] [] = append-nil _
    last [] (n ∷ ns) = append-nil _
    last (p ∷ ps) [] = append-nil _
    last (p ∷ ps) (n ∷ ns) = append-nil _
pins-more names (pin ∷ pins) (net ∷ nets) (suc k) a b =
    let more : suc k + 1 ≡ suc (k + 1) = omega arith in
    ap (λ n. pins_text names (take n (pin ∷ pins)) (take n (net ∷ nets))) more
    ∙ (ap (λ l. (tie_text pin (net_name names net) ++ 44 ∷ 32 ∷ []) ++ l) (pins-more names pins nets k (omega arith) (omega arith))
    ∙ sym (append_assoc (tie_text pin (net_name names net) ++ 44 ∷ 32 ∷ []) (pins_text names (take k pins) (take k nets)) (tie_text (get_or pins k []) (net_name names (get_or nets k (record { 0 = 0 }))) ++ 44 ∷ 32 ∷ [])))

-- No name that begins otherwise is an instance's.

none-begins : (taken : List (List ℕ)) (number : ℕ) → list_any begins_u taken ≡ false → is_among taken (instance_name number) ≡ false
none-begins [] number e = refl
none-begins (name ∷ taken) number e = by_test (begins_u name) (bytes_eq (instance_name number) name) refl refl e (none-begins taken number)
  where
    by_test : (b m : Bool) → begins_u name ≡ b → bytes_eq (instance_name number) name ≡ m → (b || list_any begins_u taken) ≡ false → (list_any begins_u taken ≡ false → is_among taken (instance_name number) ≡ false) → (m || is_among taken (instance_name number)) ≡ false
    by_test true m eb em f rest = cc
    by_test false false eb em f rest = rest f
    by_test false true eb em f rest =
        let same : instance_name number ≡ name = (bytes_decides (instance_name number) name).0 em in
        let hit : begins_u name ≡ true = sym (ap begins_u same) in
        let both : true ≡ false = sym hit ∙ eb in
        cc

pub none-passed : (taken : List (List ℕ)) (most number : ℕ) → list_any begins_u taken ≡ false → passed taken most number ≡ 0
unfolding passed
none-passed taken zero number e = refl
none-passed taken (suc most) number e = ap (λ b. cond b (1 + passed taken most (suc number)) 0) (none-begins taken number e)

pub passed-le : (taken : List (List ℕ)) (most number : ℕ) → passed taken most number ≤ most
unfolding passed
passed-le taken zero number = omega arith
passed-le taken (suc most) number = by_test (is_among taken (instance_name number)) (passed-le taken most (suc number))
  where
    by_test : (b : Bool) → passed taken most (suc number) ≤ most → cond b (1 + passed taken most (suc number)) 0 ≤ suc most
    by_test true le = omega (arith, le)
    by_test false le = omega arith

pub passed-more : (taken : List (List ℕ)) (most number : ℕ) → 0 < most → is_among taken (instance_name number) ≡ true → passed taken most number ≡ 1 + passed taken (most - 1) (number + 1)
unfolding passed
passed-more taken zero number lt e = absurd (omega arith)
passed-more taken (suc most) number lt e =
    let left : suc most - 1 ≡ most = omega arith in
    let next : suc number ≡ number + 1 = omega arith in
    ap (λ b. cond b (1 + passed taken most (suc number)) 0) e ∙ ap₂ (λ m n. 1 + passed taken m n) (sym left) next

pub passed-free : (taken : List (List ℕ)) (most number : ℕ) → is_among taken (instance_name number) ≡ false → passed taken most number ≡ 0
unfolding passed
passed-free taken zero number e = refl
passed-free taken (suc most) number e = ap (λ b. cond b (1 + passed taken most (suc number)) 0) e

pub passed-over : (taken : List (List ℕ)) (number : ℕ) → passed taken 0 number ≡ 0
unfolding passed
passed-over taken number = refl

-- one step of the loop that looks for a free number
pub passed-step : (taken : List (List ℕ)) (most number count all : ℕ) → count < most → is_among taken (instance_name (number + count)) ≡ true → all ≡ count + passed taken (most - count) (number + count) → all ≡ (count + 1) + passed taken (most - (count + 1)) (number + (count + 1))
passed-step taken most number count all lt e is =
    let left : most - count - 1 ≡ most - (count + 1) = omega arith in
    let next : number + count + 1 ≡ number + (count + 1) = omega arith in
    let more : passed taken (most - count) (number + count) ≡ 1 + passed taken (most - count - 1) (number + count + 1) = passed-more taken (most - count) (number + count) (omega arith) e in
    let same : passed taken (most - count - 1) (number + count + 1) ≡ passed taken (most - (count + 1)) (number + (count + 1)) = ap₂ (passed taken) left next in
    omega (arith, is, more, same)

pub gates-step : (cells : List CellParts) (names taken : List (List ℕ)) (most number : ℕ) (gates : List Gate) (i : ℕ) (d : Gate) → i < length gates →
    gates_text cells names taken most number (drop i gates)
    ≡ gate_text cells names (number + passed taken most number) (get_or gates i d) ++ gates_text cells names taken (most - passed taken most number) (number + passed taken most number + 1) (drop (i + 1) gates)
unfolding gates_text
gates-step cells names taken most number gates i d lt = ap (gates_text cells names taken most number) (drop_more gates i d lt)

pub gates-end : (cells : List CellParts) (names taken : List (List ℕ)) (most number : ℕ) (gates : List Gate) (i : ℕ) → length gates ≤ i → gates_text cells names taken most number (drop i gates) ≡ []
unfolding gates_text
gates-end cells names taken most number gates i far = ap (gates_text cells names taken most number) (drop_all i gates far)

-- some of the gates are put
pub record GatesPut (cells : List CellParts) (names taken : List (List ℕ)) (gates : List Gate) (i most number : ℕ) {S : Type 0} (sent : S → Option (List ℕ)) (faults : S → ℕ) (v w : Writer S) : Type 0 where
  pub text : List ℕ
  pub writes : Writes sent faults v w text
  pub whole : text ++ gates_text cells names taken most number (drop i gates) ≡ gates_text cells names taken (length taken) 1 gates
  pub few : number + most ≤ 1 + (length taken + i)

-- one gate more is put
pub gate-put : {cells : List CellParts} {names taken : List (List ℕ)} {gates : List Gate} {i most number : ℕ} {S : Type 0} {sent : S → Option (List ℕ)} {faults : S → ℕ} {u v w : Writer S} → GatesPut cells names taken gates i most number sent faults u v → i < length gates → (g : Gate) → g ≡ get_or gates i g → (count : ℕ) → count ≡ passed taken most number → Writes sent faults v w (gate_text cells names (number + count) g) → GatesPut cells names taken gates (i + 1) (most - count) (number + (count + 1)) sent faults u w
gate-put {cells = cells} {names = names} {taken = taken} {gates = gates} {i = i} {most = most} {number = number} h lt g here count is writes =
    let s = passed taken most number in
    let rest = drop (i + 1) gates in
    let next : number + (s + 1) ≡ number + s + 1 = omega arith in
    let step = gates-step cells names taken most number gates i g lt in
    let own : gate_text cells names (number + count) g ++ gates_text cells names taken (most - count) (number + (count + 1)) rest ≡ gates_text cells names taken most number (drop i gates) =
    ap (λ j. gate_text cells names (number + j) g ++ gates_text cells names taken (most - j) (number + (j + 1)) rest) is
    ∙ (ap (λ j. gate_text cells names (number + s) g ++ gates_text cells names taken (most - s) j rest) next
    ∙ (ap (λ e. gate_text cells names (number + s) e ++ gates_text cells names taken (most - s) (number + s + 1) rest) here ∙ sym step)) in
    record {
      text = h.text ++ gate_text cells names (number + count) g;
      writes = Writes-both h.writes writes;
      whole = append_assoc h.text (gate_text cells names (number + count) g) (gates_text cells names taken (most - count) (number + (count + 1)) rest) ∙ (ap (λ l. h.text ++ l) own ∙ h.whole);
      few = omega (arith, h.few, passed-le taken most number, is);
    }
