-- Sub-lists by their masks.
use Rattle.std.proofs.Common.{ℕ, zero, suc, ◌+◌, ◌*◌, ◌/◌, ◌%◌, ◌^◌, ◌<◌, ◌≡◌, ◌==◌, if◌then◌else◌, List, [], ◌∷◌, length, Some, slice_get, ap, ◌∙◌, arith, pow-suc}
use Rattle.lw_laws.specs.Forms.{Form}
use Rattle.lw_laws.specs.Occurring.{part, with_and_without, sublists}

with_at : (f : Form) (rest : List (List Form)) (k : ℕ) (hs : List Form) → slice_get rest k ≡ Some hs → (slice_get (with_and_without f rest) (2 * k) ≡ Some hs) × (slice_get (with_and_without f rest) (2 * k + 1) ≡ Some (f ∷ hs))
with_at f [] k hs e = cc
with_at f (fs ∷ rest) zero hs e = (e, ap Some (ap (λ ks. f ∷ ks) (inside fs hs e))) where
  inside : (a b : List Form) → Some a ≡ Some b → a ≡ b
  inside a b e = cc
with_at f (fs ∷ rest) (suc k) hs e =
    let r = with_at f rest k hs e in
    let even : 2 * suc k ≡ suc (suc (2 * k)) = omega arith in
    let odd : 2 * suc k + 1 ≡ suc (suc (2 * k + 1)) = omega arith in
    (ap (slice_get (fs ∷ (f ∷ fs) ∷ with_and_without f rest)) even ∙ r.0, ap (slice_get (fs ∷ (f ∷ fs) ∷ with_and_without f rest)) odd ∙ r.1)

by_bit : (f : Form) (fs hs : List Form) (mask r : ℕ) → r < 2 → mask ≡ 2 * (mask / 2) + r → (slice_get (sublists (f ∷ fs)) (2 * (mask / 2)) ≡ Some hs) × (slice_get (sublists (f ∷ fs)) (2 * (mask / 2) + 1) ≡ Some (f ∷ hs)) → slice_get (sublists (f ∷ fs)) mask ≡ Some (if r == 1 then f ∷ hs else hs)
by_bit f fs hs mask zero lt e p = let k : mask ≡ 2 * (mask / 2) = omega arith in ap (slice_get (sublists (f ∷ fs))) k ∙ p.0
by_bit f fs hs mask (suc zero) lt e p = ap (slice_get (sublists (f ∷ fs))) e ∙ p.1
by_bit f fs hs mask (suc (suc r)) lt e p = absurd (omega arith)

pub sublists_at : (fs : List Form) (mask : ℕ) → mask < 2 ^ length fs → slice_get (sublists fs) mask ≡ Some (part fs mask)
sublists_at [] mask lt = let z : mask ≡ 0 = omega arith in ap (slice_get ([] ∷ [])) z
sublists_at (f ∷ fs) mask lt =
    let p : 2 ^ length (f ∷ fs) ≡ 2 * 2 ^ length fs = double (length fs) in
    let half : mask / 2 < 2 ^ length fs = halved mask (2 ^ length fs) (2 ^ length (f ∷ fs)) p lt in
    let ih = sublists_at fs (mask / 2) half in
    by_bit f fs (part fs (mask / 2)) mask (mask % 2) (omega arith) (omega arith) (with_at f (sublists fs) (mask / 2) (part fs (mask / 2)) ih)
  where
    double : (n : ℕ) → 2 ^ suc n ≡ 2 * 2 ^ n
    double n = pow-suc 2 n ∙ swap (2 ^ n) where
      swap : (a : ℕ) → a * 2 ≡ 2 * a
      swap a = omega arith

    halved : (m a b : ℕ) → b ≡ 2 * a → m < b → m / 2 < a
    halved m a b e lt = omega arith
