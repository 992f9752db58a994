-- A netlist has no more gates than its draft.
use Rattle.std.proofs.Common.{ℕ, zero, suc, ◌≡◌, ◌<◌, ◌≤◌, ◌+◌, ◌==◌, Bool, true, false, cond, List, [], ◌∷◌, ◌++◌, length, map, refl, ap, arith, length-append}
use Rattle.std.specs.Prelude.{filter}
use Rattle.std.specs.List.{flat_map, range_with_len}
use Rattle.std.proofs.lemmas.Bool.Decides.{nat_tests}
use Rattle.std.proofs.lemmas.List.{length-map}
use Rattle.lw_named_netlist.specs.declared.draft.DraftGate.{DraftGate}
use Rattle.lw_named_netlist.specs.declared.draft.GateDraft.{GateDraft}
use Rattle.lw_netlist.specs.Netlists.{NetlistParts}
use Rattle.lw_named_netlist.specs.Closing.{IsClosed, by_depth, closed_gate, greatest}

abbrev one_if : Bool → ℕ
one_if true = 1
one_if false = 0

-- whether a depth is among so many from one on
hits : ℕ → ℕ → ℕ → ℕ
hits depth from zero = 0
hits depth from (suc n) = one_if (depth == from) + hits depth (from + 1) n

hits-later : (depth from n : ℕ) → depth < from → hits depth from n ≡ 0
unfolding hits
hits-later depth from zero before = refl
hits-later depth from (suc n) before =
    let other : (depth == from) ≡ false = grind (arith, nat_tests, before) in
    let rest : hits depth (from + 1) n ≡ 0 = hits-later depth (from + 1) n (omega (arith, before)) in
    let none : one_if (depth == from) ≡ 0 = ap one_if other in
    omega (arith, rest, none)

hits-once : (depth from n : ℕ) → hits depth from n ≤ 1
unfolding hits
hits-once depth from zero = omega arith
hits-once depth from (suc n) = by_case (depth == from) refl (hits-once depth (from + 1) n)
  where
    by_case : (b : Bool) → (depth == from) ≡ b → hits depth (from + 1) n ≤ 1 → one_if b + hits depth (from + 1) n ≤ 1
    by_case true e others =
        let same : depth ≡ from = grind (arith, nat_tests, e) in
        let rest : hits depth (from + 1) n ≡ 0 = hits-later depth (from + 1) n (omega (arith, same)) in
        omega (arith, rest)
    by_case false e others = omega (arith, others)

total-none : (depth : List ℕ → ℕ) (from n : ℕ) → length (flat_map (λ d. filter (λ (gate : DraftGate). depth gate.out == d) []) (range_with_len from n)) ≡ 0
total-none depth from zero = refl
total-none depth from (suc n) = total-none depth (from + 1) n

total-more : (depth : List ℕ → ℕ) (gate : DraftGate) (gates : List DraftGate) (from n : ℕ) →
    length (flat_map (λ d. filter (λ (g : DraftGate). depth g.out == d) (gate ∷ gates)) (range_with_len from n)) ≡ hits (depth gate.out) from n + length (flat_map (λ d. filter (λ (g : DraftGate). depth g.out == d) gates) (range_with_len from n))
unfolding hits
total-more depth gate gates from zero = refl
total-more depth gate gates from (suc n) = by_case (depth gate.out == from) (total-more depth gate gates (from + 1) n)
  where
    here : List DraftGate
    here = filter (λ (g : DraftGate). depth g.out == from) gates

    later : List DraftGate → List DraftGate
    later gs = flat_map (λ d. filter (λ (g : DraftGate). depth g.out == d) gs) (range_with_len (from + 1) n)

    by_case : (b : Bool) → length (later (gate ∷ gates)) ≡ hits (depth gate.out) (from + 1) n + length (later gates) →
        length (cond b (gate ∷ here) here ++ later (gate ∷ gates)) ≡ (one_if b + hits (depth gate.out) (from + 1) n) + length (here ++ later gates)
    by_case true e = omega (arith, e, length-append (gate ∷ here) (later (gate ∷ gates)), length-append here (later gates))
    by_case false e = omega (arith, e, length-append here (later (gate ∷ gates)), length-append here (later gates))

total-few : (depth : List ℕ → ℕ) (gates : List DraftGate) (from n : ℕ) → length (flat_map (λ d. filter (λ (g : DraftGate). depth g.out == d) gates) (range_with_len from n)) ≤ length gates
total-few depth [] from n = omega (arith, total-none depth from n)
total-few depth (gate ∷ gates) from n = omega (arith, total-more depth gate gates from n, hits-once (depth gate.out) from n, total-few depth gates from n)

pub no-more-gates : (draft : GateDraft) (n : NetlistParts) → IsClosed draft n → length n.gates ≤ length draft.gates
no-more-gates draft n closed =
    let order : List DraftGate = by_depth closed.depth draft.gates in
    omega (arith, ap (λ (m : NetlistParts). length m.gates) closed.are, length-map order (closed_gate closed.net), total-few closed.depth draft.gates 1 (greatest (map (λ (gate : DraftGate). closed.depth gate.out) draft.gates)))
