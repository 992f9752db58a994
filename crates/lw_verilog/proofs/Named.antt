-- Names among others, and the connections of an instance.
use Rattle.std.proofs.Common.{ℕ, zero, suc, ◌≡◌, ◌≤◌, ◌<◌, ◌+◌, Bool, true, false, ◌||◌, cond, List, [], ◌∷◌, length, drop, get_or, Some, Contains, refl, ap, sym, ◌∙◌, arith, length-drop}
use Rattle.std.specs.Prelude.{slice_get}
use Rattle.std.specs.List.{list_any}
use Rattle.std.specs.Str.{bytes_eq}
use Rattle.std.proofs.Math.Bool.{or-true}
use Rattle.std.proofs.lemmas.List.{drop_more}
use Rattle.lw_facts.proofs.Lists.{bytes_eq_same, bytes_eq_is}
use Rattle.lw_named_netlist.specs.Closing.{is_among}
use Rattle.lw_verilog.specs.Statements.{Tie, is_for, net_for, pairs}

pub among-at : (names : List (List ℕ)) (k : ℕ) (name : List ℕ) → slice_get names k ≡ Some name → is_among names name ≡ true
among-at [] k name e = cc
among-at (x ∷ xs) zero name e = let same : x ≡ name = cc in ap (λ b. b || is_among xs name) (bytes_eq_same name x (sym same))
among-at (x ∷ xs) (suc k) name e = ap (λ b. bytes_eq name x || b) (among-at xs k name e) ∙ or-true (bytes_eq name x)

pub none-among : (names : List (List ℕ)) (name : List ℕ) → (Contains names name → ⊥) → is_among names name ≡ false
none-among [] name never = refl
none-among (x ∷ xs) name never = by_test (bytes_eq name x) refl (none-among xs name (λ has. never (suc has.0, omega (arith, has.1), has.2)))
  where
    by_test : (b : Bool) → bytes_eq name x ≡ b → is_among xs name ≡ false → (b || is_among xs name) ≡ false
    by_test true e rest = absurd (never (0, omega arith, sym (bytes_eq_is name x e)))
    by_test false e rest = rest

-- Connections, two names at a time.

pub pair-at : (names : List (List ℕ)) (place : ℕ) (d : List ℕ) → place + 1 < length names → pairs (drop place names) ≡ record { formal = get_or names place d; net = get_or names (place + 1) d } ∷ pairs (drop (place + 2) names)
pair-at names place d lt =
    let twice : place + 1 + 1 ≡ place + 2 = omega arith in
    ap pairs (drop_more names place d (omega arith) ∙ ap (λ r. get_or names place d ∷ r) (drop_more names (place + 1) d lt))
    ∙ ap (λ n. let t : Tie = record { formal = get_or names place d; net = get_or names (place + 1) d } in t ∷ pairs (drop n names)) twice

short : (names : List (List ℕ)) → length names ≤ 1 → pairs names ≡ []
short [] le = refl
short (x ∷ []) le = refl
short (x ∷ y ∷ names) le = absurd (omega arith)

pub pair-none : (names : List (List ℕ)) (place : ℕ) → length names ≤ place + 1 → pairs (drop place names) ≡ []
pair-none names place far = short (drop place names) (omega (arith, length-drop place names))

pub given-here : (names : List (List ℕ)) (place : ℕ) (d formal : List ℕ) → place + 1 < length names → bytes_eq (get_or names place d) formal ≡ true → list_any (is_for formal) (pairs (drop place names)) ≡ true
given-here names place d formal lt hit = ap (list_any (is_for formal)) (pair-at names place d lt) ∙ ap (λ b. b || list_any (is_for formal) (pairs (drop (place + 2) names))) hit

pub given-later : (names : List (List ℕ)) (place : ℕ) (d formal : List ℕ) → place + 1 < length names → bytes_eq (get_or names place d) formal ≡ false → list_any (is_for formal) (pairs (drop place names)) ≡ list_any (is_for formal) (pairs (drop (place + 2) names))
given-later names place d formal lt miss = ap (list_any (is_for formal)) (pair-at names place d lt) ∙ ap (λ b. b || list_any (is_for formal) (pairs (drop (place + 2) names))) miss

pub net-here : (names : List (List ℕ)) (place : ℕ) (d formal : List ℕ) → place + 1 < length names → bytes_eq (get_or names place d) formal ≡ true → net_for (pairs (drop place names)) formal ≡ get_or names (place + 1) d
net-here names place d formal lt hit = ap (λ ts. net_for ts formal) (pair-at names place d lt) ∙ ap (λ b. cond b (get_or names (place + 1) d) (net_for (pairs (drop (place + 2) names)) formal)) hit

pub net-later : (names : List (List ℕ)) (place : ℕ) (d formal : List ℕ) → place + 1 < length names → bytes_eq (get_or names place d) formal ≡ false → net_for (pairs (drop place names)) formal ≡ net_for (pairs (drop (place + 2) names)) formal
net-later names place d formal lt miss = ap (λ ts. net_for ts formal) (pair-at names place d lt) ∙ ap (λ b. cond b (get_or names (place + 1) d) (net_for (pairs (drop (place + 2) names)) formal)) miss
