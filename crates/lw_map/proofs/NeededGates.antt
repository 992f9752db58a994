-- Each gate of the netlist of the chosen matches is needed for an output.
use Rattle.std.proofs.Common.{ℕ, zero, suc, ◌+◌, ◌≡◌, List, [], ◌∷◌, Contains, Some, slice_get, refl, sym, subst, arith}
use Rattle.std.specs.List.{AllZip}
use Rattle.std.proofs.lemmas.Option.{slice_get_within}
use Rattle.lw_facts.proofs.Lists.{at_contained, contained_at}
use Rattle.lw_laws.specs.Graphs.{Graph}
use Rattle.lw_laws.specs.Costs.{Cost}
use Rattle.lw_laws.specs.Choices.{Labels}
use Rattle.lw_laws.specs.Covers.{Pattern}
use Rattle.lw_laws.specs.Netlists.{Gate, Netlist, IsGate}
use Rattle.lw_laws.specs.Extracts.{IsChosen, IsNeeded as IsNeededClass, AreGateClasses, IsNetOf, IsExtracted, AreDistinctLeaves}
use Rattle.lw_laws.specs.Extracts.IsNeeded.{by_root, by_pin as by_match}
use Rattle.lw_laws.proofs.ExtractLaws.{chosen_once, gates_apart}
use Rattle.lw_laws.proofs.Extracts.{slice_get_right}
use Rattle.lw_laws.proofs.Lists.{slice_get_some}
use Rattle.lw_laws.proofs.MatchLists.{class_net_once}
use Rattle.lw_trade.specs.Traded.{IsNeeded}
use Rattle.lw_trade.specs.Traded.IsNeeded.{by_output, by_pin}

-- what stands beside an element at its place
pub zip_place : {X Y : Type 0} (R : X → Y → Type 0) (xs : List X) (ys : List Y) (k : ℕ) (x : X) → AllZip R xs ys → slice_get xs k ≡ Some x → (y : Y) × (slice_get ys k ≡ Some y) × R x y
zip_place R [] ys k x a e = cc
zip_place R (z ∷ xs) [] k x a e = absurd a
zip_place R (z ∷ xs) (y ∷ ys) zero x (r, a) e = let same : z ≡ x = cc in (y, refl, subst (λ w. R w y) same r)
zip_place R (z ∷ xs) (y ∷ ys) (suc k) x (r, a) e = zip_place R xs ys k x a e

module _ (g : Graph) (cost : Cost) (pats : List Pattern) (labels : Labels) (heights : ℕ → ℕ) (roots gates : List ℕ) (classes : AreGateClasses g cost pats labels heights roots gates) (distinct : AreDistinctLeaves g) (n : Netlist) (is : IsExtracted g cost pats labels heights gates n) (outputs : List ℕ) (rooted : (c : ℕ) → Contains roots c → (net : ℕ) × IsNetOf g gates c net × Contains outputs net) where
  once : (c k l : ℕ) → IsNetOf g gates c k → IsNetOf g gates c l → k ≡ l
  once = class_net_once g gates (gates_apart g cost pats labels heights roots gates classes) distinct

  -- the net of a class with a gate
  gate_net : (j c : ℕ) → slice_get gates j ≡ Some c → IsNetOf g gates c (n.inputs + j)
  gate_net j c at = subst (λ m. IsNetOf g gates c (m + j)) (sym is.inputs) (slice_get_right g.leaves gates j c at)

  -- the net of a pin is needed where its gate is
  pin_needed : (j q net : ℕ) (gt : Gate) (pins : List ℕ) → IsGate n j gt → AllZip (λ q net. IsNetOf g gates q net) pins gt.pins → Contains pins q → IsNetOf g gates q net → IsNeeded outputs n (n.inputs + j) → IsNeeded outputs n net
  pin_needed j q net gt pins there nets held at needed =
      let (i, pin) = contained_at pins q held in
      let (pin_net, in_gate, pin_at) = zip_place (λ q net. IsNetOf g gates q net) pins gt.pins i q nets pin in
      subst (IsNeeded outputs n) (once q pin_net net pin_at at) (by_pin j gt needed there (at_contained gt.pins i pin_net in_gate))

  -- the net of a needed class is needed
  class_needed : {c : ℕ} → IsNeededClass g cost pats labels heights roots c → (net : ℕ) → IsNetOf g gates c net → IsNeeded outputs n net
  class_needed {c = c} (by_root held) net at =
      let (k, there, out) = rooted c held in
      subst (IsNeeded outputs n) (once c k net there at) (by_output out)
  class_needed (by_match {c = c} {q = q} {m = m} {p = p} need out chosen held) net at =
      by_gate (classes.all c need out) (λ j here. class_needed need (n.inputs + j) (gate_net j c here))
    where
      by_gate : (j : ℕ) × (slice_get gates j ≡ Some c) → ((j : ℕ) → slice_get gates j ≡ Some c → IsNeeded outputs n (n.inputs + j)) → IsNeeded outputs n net
      by_gate (j, here) needed =
          let lt = slice_get_within gates j c here in
          let count = is.one_each in
          let (gt, there) = slice_get_some n.gates j (omega arith) in
          let (d, k, r, bt, other, cell, nets) = is.chosen j gt there in
          let same : d ≡ c = cc in
          let one = chosen_once g cost pats labels heights c m k p r chosen (subst (λ z. IsChosen g cost pats labels heights z k r) same other) in
          pin_needed j q net gt k.pins there nets (subst (λ z. Contains z.pins q) one held) at (needed j here)

  pub gates_needed : (j : ℕ) (gt : Gate) → IsGate n j gt → IsNeeded outputs n (n.inputs + j)
  gates_needed j gt there =
      let lt = slice_get_within n.gates j gt there in
      let count = is.one_each in
      let (c, here) = slice_get_some gates j (omega arith) in
      class_needed (classes.needed j c here).0 (n.inputs + j) (gate_net j c here)
