-- The values of forms by their numbers.
use Rattle.std.proofs.Common.{ℕ, zero, suc, ◌*◌, ◌-◌, ◌/◌, ◌%◌, ◌<◌, ◌≡◌, ◌==◌, if◌then◌else◌, Bool, not, ◌&&◌, List, [], ◌∷◌, map, Some, slice_get, slice_index_or, refl, ap, ap₂, sym, ◌∙◌, arith, add-zero}
use Rattle.std.specs.List.{list_all, AllByRecursion}
use Rattle.std.proofs.Math.Bool.{not-not}
use Rattle.lw_laws.specs.Flip.{flip}
use Rattle.lw_laws.specs.Trees.{Tree, tree_value}
use Rattle.lw_laws.specs.NumberedForms.{family_of}
use Rattle.lw_laws.specs.NumberedValues.{base_value, AreNumberedValues}
use Rattle.lw_laws.specs.Forms.{Form, items, complement, form_value}
use Rattle.lw_laws.specs.Forms.Form.{var_form, true_form, not_form, and_form}
use Rattle.lw_laws.specs.Decompositions.{Occurs, HasTree}
use Rattle.lw_laws.specs.Numbering.{number, numbered_base, numbered}
use Rattle.lw_laws.specs.SignalValues.{form_of, number_value, SignalsAgree}
use Rattle.lw_laws.specs.Modes.{Mode}
use Rattle.lw_laws.specs.Listings.{Listing, base_form, IsListed, IsListing, sign_of}
use Rattle.lw_laws.proofs.Flips.{half-flip, odd-flip}
use Rattle.lw_laws.proofs.Truths.{Derives-value}
use Rattle.lw_laws.proofs.NumberedValues.{form_values_fit}
use Rattle.lw_laws.proofs.FormTruth.{complement_value, items_value}
use Rattle.lw_laws.proofs.Numbers.{slice_get_map_back, occurs_number, sign_two}
use Rattle.lw_laws.proofs.Agreement.{signal_back, same_trees}
use Rattle.lw_laws.proofs.Occurrences.{operands_occur, occurring_listed}
use Rattle.lw_laws.proofs.Words.{IsNumber}

index_at : {X : Type 0} (xs : List X) (i : ℕ) (x d : X) → slice_get xs i ≡ Some x → slice_index_or xs i d ≡ x
index_at [] i x d e = cc
index_at (y ∷ xs) zero x d e = cc
index_at (y ∷ xs) (suc i) x d e = index_at xs i x d e

complement_self : (f : Form) → sign_of f ≡ 0 → complement f ≡ not_form f
complement_self (var_form i) z = refl
complement_self true_form z = refl
complement_self (not_form f) z = absurd (omega arith)
complement_self (and_form fs) z = refl

abbrev by_bit : Form → ℕ → Form
by_bit f r = if r == 0 then f else complement f

bit_turned : (x : ℕ → Bool) (f : Form) (r : ℕ) → r < 2 → form_value x (by_bit f (1 - r)) ≡ not (form_value x (by_bit f r))
bit_turned x f zero lt = complement_value x f
bit_turned x f (suc zero) lt = sym (not-not (form_value x f)) ∙ ap not (sym (complement_value x f))
bit_turned x f (suc (suc r)) lt = absurd (omega arith)

module _ (inputs : ℕ) (o : Listing) (is : IsListing o) (x : ℕ → Bool) where
  value_flip : (n : ℕ) → number_value o x (flip n) ≡ not (number_value o x n)
  value_flip n = rw (half-flip n, odd-flip n) (bit_turned x (slice_index_or o.bases (n / 2) true_form) (n % 2) (omega arith))

  form_by_sign : (f : Form) (n b : ℕ) → slice_get o.bases b ≡ Some (base_form f) → sign_of (base_form f) ≡ 0 → n / 2 ≡ b → n % 2 ≡ sign_of f → form_of o.bases n ≡ f
  form_by_sign (var_form i) n b e z h r = rw (h, r) (index_at o.bases b (var_form i) true_form e)
  form_by_sign true_form n b e z h r = rw (h, r) (index_at o.bases b true_form true_form e)
  form_by_sign (not_form f) n b e z h r = rw (h, r) (ap complement (index_at o.bases b f true_form e) ∙ complement_self f z)
  form_by_sign (and_form fs) n b e z h r = rw (h, r) (index_at o.bases b (and_form fs) true_form e)

  form_of_number : (f : Form) (n : ℕ) → IsNumber o.bases f n → form_of o.bases n ≡ f
  form_of_number f n (b, e, s) = let one = sign_two f in form_by_sign f n b e (is.signs b (base_form f) e) (omega arith) (omega arith)

  pub value_of_number : (f : Form) → IsListed o f → number_value o x (number o.bases f) ≡ form_value x f
  value_of_number f occ = ap (form_value x) (form_of_number f (number o.bases f) (occurs_number o is f occ))

  values_of_numbers : (fs : List Form) → AllByRecursion (IsListed o) fs → list_all (number_value o x) (map (number o.bases) fs) ≡ list_all (form_value x) fs
  values_of_numbers [] a = refl
  values_of_numbers (f ∷ fs) (p, a) = ap₂ (λ b c. b && c) (value_of_number f p) (values_of_numbers fs a)

  base_has_value : (b : ℕ) (f : Form) → slice_get o.bases b ≡ Some f → number_value o x (2 * b) ≡ base_value x (number_value o x) (numbered_base o.bases f)
  base_has_value b (var_form i) e = ap (form_value x) (form_of_number (var_form i) (2 * b) (b, e, sym (add-zero (2 * b))))
  base_has_value b true_form e = ap (form_value x) (form_of_number true_form (2 * b) (b, e, sym (add-zero (2 * b))))
  base_has_value b (not_form f) e = let z = is.signs b (not_form f) e in absurd (omega arith)
  base_has_value b (and_form fs) e =
      ap (form_value x) (form_of_number (and_form fs) (2 * b) (b, e, sym (add-zero (2 * b))))
      ∙ (items_value x fs ∙ sym (values_of_numbers (items fs) (operands_occur o is b fs e)))

  pub numbers_have_values : SignalsAgree o.signals x → AreNumberedValues (numbered inputs o) x (number_value o x)
  numbers_have_values agree = record {
    flips = value_flip;
    bases = λ b base e.
        let (f, d, s) = slice_get_map_back (numbered_base o.bases) o.bases b base e in
        base_has_value b f d ∙ ap (base_value x (number_value o x)) s;
    signals = λ n m l.
        let r = signal_back inputs o is n m l in
        let occ = is.signals r.at r.signal r.listed in
        sym (ap (number_value o x) r.sop_is) ∙ (value_of_number r.signal.sop occ.0 ∙ (agree r.at r.signal r.listed ∙ (sym (value_of_number r.signal.fac occ.1) ∙ ap (number_value o x) r.fac_is)));
  }

  -- each tree of a listed form has the form's value
  pub trees_have_value : SignalsAgree o.signals x → (mode : Mode) (f : Form) (t : Tree) → IsListed o f → HasTree mode o.width o.signals f t → tree_value x t ≡ form_value x f
  trees_have_value agree mode f t occ d =
      Derives-value (family_of mode (numbered inputs o)) x (number_value o x) (form_values_fit (numbered inputs o) x (number_value o x) (numbers_have_values agree) mode) ((same_trees inputs o is mode f t occ).0 d)
      ∙ value_of_number f occ

  -- and so does each tree of an occurring form
  pub occurring_have_value : SignalsAgree o.signals x → (mode : Mode) (f : Form) (t : Tree) → Occurs o.signals f → HasTree mode o.width o.signals f t → tree_value x t ≡ form_value x f
  occurring_have_value agree mode f t occ d = trees_have_value agree mode f t (occurring_listed o is occ) d
