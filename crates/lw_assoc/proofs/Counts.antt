-- How many splits there are.
use Rattle.std.proofs.Common.{◌≡◌, ◌+◌, ◌^◌, ◌<◌, ◌≤◌, ℕ, zero, suc, slice_index, arith, List, [], ◌∷◌, length, map, take, get_or, slice_get, Some, refl, ap, ap₂, sym, ◌∙◌}
use Rattle.std.specs.List.{sum_by}
use Rattle.std.proofs.lemmas.List.Sums.{sum_by-cons, sum_by_more}
use Rattle.std.proofs.lemmas.Option.{slice_get-get_or}
use Rattle.std.proofs.lemmas.List.{length-map}
use Rattle.lw_laws.specs.Modes.{Mode}
use Rattle.lw_laws.specs.NumberedForms.{Base}
use Rattle.lw_laws.specs.NumberedForms.Base.{base_true}
use Rattle.lw_laws.specs.Forms.{Form, items}
use Rattle.lw_laws.specs.Forms.Form.{var_form, true_form, not_form, and_form}
use Rattle.lw_laws.specs.Occurring.{splits_at, splits_of, split_count, occurring_forms}
use Rattle.lw_laws.specs.Numbering.{number, numbered_base}
use Rattle.lw_laws.specs.Networks.{Network}
use Rattle.lw_laws.specs.Mapped.{forms_of}
use Rattle.lw_assoc.specs.Splits.{base_splits, numbered_splits}

same_splits : (mode : Mode) (bases : List Form) (f : Form) → base_splits mode (numbered_base bases f) ≡ splits_at mode f
same_splits mode bases (var_form i) = refl
same_splits mode bases true_form = refl
same_splits mode bases (not_form f) = refl
same_splits mode bases (and_form fs) = ap (splits_of mode) (length-map (items fs) (number bases))

same_count : (mode : Mode) (bases fs : List Form) → sum_by (base_splits mode) (map (numbered_base bases) fs) ≡ split_count mode fs
same_count mode bases [] = refl
same_count mode bases (f ∷ fs) =
    sum_by-cons (base_splits mode) (numbered_base bases f) (map (numbered_base bases) fs) ∙ ap₂ (λ a b. a + b) (same_splits mode bases f) (same_count mode bases fs)

-- one more base form
pub count_next : (mode : Mode) (bases : List Base) (b old here new : ℕ) → b < length bases → old ≡ sum_by (base_splits mode) (take b bases) → ((base : Base) → slice_get bases b ≡ Some base → here ≡ base_splits mode base) → new ≡ old + here → new ≡ sum_by (base_splits mode) (take (b + 1) bases)
count_next mode bases b old here new lt e is s =
    s ∙ (ap₂ (λ a c. a + c) e (is (get_or bases b base_true) (slice_get-get_or bases b base_true lt)) ∙ sym (sum_by_more (base_splits mode) bases b base_true lt))

-- the splits of a network's forms
pub network_splits : (mode : Mode) (width : ℕ) (net : Network) → numbered_splits mode (forms_of width net) ≡ split_count mode (occurring_forms width net)
network_splits mode width net = same_count mode (occurring_forms width net) (occurring_forms width net)

-- the powers of three up to the eighth
pub power_is : (k : ℕ) → k ≤ 8 → slice_index (1 ∷ 3 ∷ 9 ∷ 27 ∷ 81 ∷ 243 ∷ 729 ∷ 2187 ∷ 6561 ∷ []) k ≡ 3 ^ k
power_is zero le = refl
power_is (suc zero) le = refl
power_is (suc (suc zero)) le = refl
power_is (suc (suc (suc zero))) le = refl
power_is (suc (suc (suc (suc zero)))) le = refl
power_is (suc (suc (suc (suc (suc zero))))) le = refl
power_is (suc (suc (suc (suc (suc (suc zero)))))) le = refl
power_is (suc (suc (suc (suc (suc (suc (suc zero))))))) le = refl
power_is (suc (suc (suc (suc (suc (suc (suc (suc zero)))))))) le = refl
power_is (suc (suc (suc (suc (suc (suc (suc (suc (suc k))))))))) le = absurd (omega arith)

-- they are at most the eighth
pub power_few : (k : ℕ) → 2 ≤ k → k ≤ 8 → (3 ^ k ≤ 6561) × (3 ≤ 3 ^ k)
power_few zero some le = absurd (omega arith)
power_few (suc zero) some le = absurd (omega arith)
power_few (suc (suc zero)) some le = (omega arith, omega arith)
power_few (suc (suc (suc zero))) some le = (omega arith, omega arith)
power_few (suc (suc (suc (suc zero)))) some le = (omega arith, omega arith)
power_few (suc (suc (suc (suc (suc zero))))) some le = (omega arith, omega arith)
power_few (suc (suc (suc (suc (suc (suc zero)))))) some le = (omega arith, omega arith)
power_few (suc (suc (suc (suc (suc (suc (suc zero))))))) some le = (omega arith, omega arith)
power_few (suc (suc (suc (suc (suc (suc (suc (suc zero)))))))) some le = (omega arith, omega arith)
power_few (suc (suc (suc (suc (suc (suc (suc (suc (suc k))))))))) some le = absurd (omega arith)
