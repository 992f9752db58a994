-- Values of nets, filled in one gate after another.
use Rattle.std.proofs.Common.{◌≡◌, ◌≢◌, ℕ, ◌+◌, ◌<◌, ◌⊎◌, inl, inr, List, [], length, get_or, set, slice_get, All, Some, sym, ap, ◌∙◌, arith, get_or-set_same, get_or-set_other}
use Rattle.std.proofs.lemmas.List.Elements.{All-weaker}
use Rattle.std.proofs.lemmas.Option.{same_Some}
use Rattle.std.proofs.lemmas.Bool.{cases_eq}
use Rattle.lw_pool.specs.declared.id.NetId.{NetId}
use Rattle.lw_netlist.specs.declared.gate.Gate.{Gate}
use Rattle.lw_netlist.specs.Netlists.{IsGateAt}

-- what a gate gives its net hangs on the nets of its pins alone
pub record IsLocal {A : Type 0} (f : List A → Gate → A) : Type 0 where
  pub kept : (values : List A) (at : ℕ) (v : A) (gate : Gate) → All (λ (net : NetId). net.0 < at) gate.pins → f (set values at v) gate ≡ f values gate

-- the nets of the first n gates have what the gates give
pub record IsFilled {A : Type 0} (d : A) (f : List A → Gate → A) (gates : List Gate) (first n : ℕ) (values : List A) : Type 0 where
  pub each : (j : ℕ) (gate : Gate) → j < n → slice_get gates j ≡ Some gate → get_or values (first + j) d ≡ f values gate

abbrev pub AreGates : List Gate → ℕ → Type 0
AreGates gates first = (j : ℕ) (gate : Gate) → slice_get gates j ≡ Some gate → IsGateAt first j gate

-- one more net
pub IsFilled-more : {A : Type 0} (d : A) (f : List A → Gate → A) (gates : List Gate) (first n : ℕ) (values : List A) (v : A) (gate : Gate) → IsLocal f → AreGates gates first → first + n < length values → slice_get gates n ≡ Some gate → v ≡ f values gate → IsFilled d f gates first n values → IsFilled d f gates first (n + 1) (set values (first + n) v)
IsFilled-more {A} d f gates first n values v gate local facts within here is filled = record { each = λ j other below at. at_gate j other below at (cases_eq j n) }
  where
    at_gate : (j : ℕ) (other : Gate) → j < n + 1 → slice_get gates j ≡ Some other → (j ≡ n) ⊎ (j ≡ n → ⊥) → get_or (set values (first + n) v) (first + j) d ≡ f (set values (first + n) v) other
    at_gate j other below at (inl same) =
        let same_gate : gate ≡ other = same_Some gate other (sym here ∙ (ap (λ k. slice_get gates k) (sym same) ∙ at)) in
        let kept = local.kept values (first + n) v gate (facts n gate here).before in
        ap (λ k. get_or (set values (first + n) v) (first + k) d) same ∙ (get_or-set_same values (first + n) v d within ∙ (is ∙ (sym kept ∙ ap (λ (m : Gate). f (set values (first + n) v) m) same_gate)))
    at_gate j other below at (inr differs) =
        let lower : j < n = omega arith in
        let apart : first + j ≢ first + n = omega arith in
        let before = All-weaker (λ (net : NetId). net.0 < first + j) (λ (net : NetId). net.0 < first + n) (λ net lt. omega arith) other.pins (facts j other at).before in
        get_or-set_other values (first + n) (first + j) v d apart ∙ (filled.each j other lower at ∙ sym (local.kept values (first + n) v other before))
