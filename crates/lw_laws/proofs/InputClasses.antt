-- In the graph of a network's forms class 0 is true, and the inputs have the classes after it in order.
use Rattle.std.proofs.Common.{ℕ, zero, suc, ◌+◌, ◌*◌, ◌/◌, ◌==◌, ◌<◌, ◌≤◌, ◌≡◌, ◌≢◌, ◌⊎◌, inl, inr, Bool, true, false, List, [], ◌∷◌, Some, slice_get, refl, ap, sym, ◌∙◌, subst, arith, add-zero}
use Rattle.std.proofs.lemmas.Bool.{eqb-true}
use Rattle.std.proofs.lemmas.Option.{slice_get_within}
use native.Mathlib.Nat.{eq-or-lt_of_le}
use Rattle.lw_laws.specs.Flip.{flip}
use Rattle.lw_laws.specs.Modes.{Mode}
use Rattle.lw_laws.specs.Networks.{Network}
use Rattle.lw_laws.specs.Forms.{Form, form_value}
use Rattle.lw_laws.specs.Forms.Form.{var_form, true_form, not_form}
use Rattle.lw_laws.specs.Occurring.{HasInputsFirst}
use Rattle.lw_laws.specs.Listings.{Listing, listing_of, IsListed, IsListing}
use Rattle.lw_laws.specs.SignalValues.{IsSoundListing}
use Rattle.lw_laws.specs.Graphs.{Graph, class_of, AreNumberedFrom}
use Rattle.lw_laws.specs.Extracts.{AreDistinctLeaves}
use Rattle.lw_laws.specs.Classes.{class_in, IsGraphOf}
use Rattle.lw_laws.proofs.Facts.{eq_same}
use Rattle.lw_laws.proofs.Flips.{flip_even, class_of-flip, even_or_odd}
use Rattle.lw_laws.proofs.Numbers.{number_of}
use Rattle.lw_laws.proofs.NumberValues.{trees_have_value}
use Rattle.lw_laws.proofs.ClassLaws.{base_class}
use Rattle.lw_laws.proofs.Sound.{network_is_sound}
use Rattle.lw_laws.proofs.Lists.{slice_get_some}

module _ (mode : Mode) (inputs : ℕ) (o : Listing) (g : Graph) (sound : IsSoundListing inputs o) (graph_is : IsGraphOf mode inputs o g) where
  is : IsListing o
  is = sound.listing

  first : HasInputsFirst inputs o.bases
  first = sound.first

  -- the base forms of the list up to the last input
  pub form_input_at : (i : ℕ) → i < inputs → slice_get o.bases (suc i) ≡ Some (var_form i)
  form_input_at i lt = let s : i + 1 ≡ suc i = omega arith in subst (λ b. slice_get o.bases b ≡ Some (var_form i)) s (first.inputs i lt)

  var_class : (i : ℕ) → i < inputs → class_of g (2 * suc i) ≡ class_in o g (var_form i)
  var_class i lt = ap (class_of g) (number_of o is (var_form i) (2 * suc i) (suc i, form_input_at i lt, sym (add-zero (2 * suc i))))

  not_var_class : (i : ℕ) → i < inputs → flip (class_of g (2 * suc i)) ≡ class_in o g (not_form (var_form i))
  not_var_class i lt =
      let s = flip_even (2 * suc i) (suc i) refl in
      sym (class_of-flip g (2 * suc i)) ∙ ap (class_of g) (number_of o is (not_form (var_form i)) (flip (2 * suc i)) (suc i, form_input_at i lt, s))

  true_class : class_of g 0 ≡ class_in o g true_form
  true_class = ap (class_of g) (number_of o is true_form 0 (0, first.first, refl))

  not_true_class : flip (class_of g 0) ≡ class_in o g (not_form true_form)
  not_true_class =
      let s = flip_even 0 0 refl in
      sym (class_of-flip g 0) ∙ ap (class_of g) (number_of o is (not_form true_form) (flip 0) (0, first.first, s))

  -- forms of one class have one value
  one_value : (f h : Form) → IsListed o f → IsListed o h → class_in o g f ≡ class_in o g h → (x : ℕ → Bool) → form_value x f ≡ form_value x h
  one_value f h p q e x =
      let (t, a, b) = (graph_is.classes f h p q).0 e in
      sym (trees_have_value inputs o is x (sound.agree x) mode f t p a) ∙ trees_have_value inputs o is x (sound.agree x) mode h t q b

  -- an input differs from true, from an input before it, and from their complements
  apart : (k j : ℕ) → j < k → k ≤ inputs → (class_of g (2 * k) ≢ class_of g (2 * j)) × (class_of g (2 * k) ≢ flip (class_of g (2 * j)))
  apart zero j lt le = absurd (omega arith)
  apart (suc i) zero lt le =
      let here = var_class i (omega arith) in
      let occ : IsListed o (var_form i) = (suc i, form_input_at i (omega arith)) in (
        λ e. let same = one_value (var_form i) true_form occ (0, first.first) (sym here ∙ (e ∙ true_class)) (λ k. false) in cc,
        λ e. let same = one_value (var_form i) (not_form true_form) occ (0, first.first) (sym here ∙ (e ∙ not_true_class)) (λ k. true) in cc,
      )
  apart (suc i) (suc m) lt le =
      let here = var_class i (omega arith) in
      let low : m < inputs = omega arith in
      let occ : IsListed o (var_form i) = (suc i, form_input_at i (omega arith)) in (
        λ e.
            let same : (i == i) ≡ (m == i) = one_value (var_form i) (var_form m) occ (suc m, form_input_at m low) (sym here ∙ (e ∙ var_class m low)) (λ k. k == i) in
            let equal = eqb-true m i (sym same ∙ eq_same i) in
            omega arith,
        λ e. let same = one_value (var_form i) (not_form (var_form m)) occ (suc m, form_input_at m low) (sym here ∙ (e ∙ not_var_class m low)) (λ k. false) in cc,
      )

  -- the class of a base form that is apart from those before it is the next
  next_class : (m c : ℕ) (cs : List ℕ) → m ≤ inputs → AreNumberedFrom m (c ∷ cs) → ((j : ℕ) → j < m → class_of g (2 * j) ≡ 2 * j) → class_of g (2 * m) ≡ c → (c ≡ 2 * m) × AreNumberedFrom (suc m) cs
  next_class m c cs le (inl (e, rest)) earlier here = (e, rest)
  next_class m c cs le (inr (old, rest)) earlier here = absurd (by_bit (even_or_odd c (c / 2) refl))
    where
      by_bit : (c ≡ 2 * (c / 2)) ⊎ (c ≡ 2 * (c / 2) + 1) → ⊥
      by_bit (inl e) = (apart m (c / 2) old le).0 (here ∙ (e ∙ sym (earlier (c / 2) old)))
      by_bit (inr e) = (apart m (c / 2) old le).1 (here ∙ (e ∙ sym (flip_even (class_of g (2 * (c / 2))) (c / 2) (earlier (c / 2) old))))

  here_class : (m d : ℕ) (ds : List ℕ) → ((k c : ℕ) → slice_get (d ∷ ds) k ≡ Some c → class_of g (2 * (m + k)) ≡ c) → class_of g (2 * m) ≡ d
  here_class m d ds from = let z : m + 0 ≡ m = omega arith in ap (λ j. class_of g (2 * j)) (sym z) ∙ from 0 d refl

  earlier_more : (m : ℕ) → ((j : ℕ) → j < m → class_of g (2 * j) ≡ 2 * j) → class_of g (2 * m) ≡ 2 * m → (j : ℕ) → j < suc m → class_of g (2 * j) ≡ 2 * j
  earlier_more m earlier here j lt = by_place (eq-or-lt_of_le {n = j} {m = m} (omega arith))
    where
      by_place : (j ≡ m) ⊎ (j < m) → class_of g (2 * j) ≡ 2 * j
      by_place (inl s) = ap (λ i. class_of g (2 * i)) s ∙ (here ∙ ap (λ i. 2 * i) (sym s))
      by_place (inr l) = earlier j l

  classes_from : (m : ℕ) (xs : List ℕ) → AreNumberedFrom m xs → ((j : ℕ) → j < m → class_of g (2 * j) ≡ 2 * j) → ((k c : ℕ) → slice_get xs k ≡ Some c → class_of g (2 * (m + k)) ≡ c) → (k c : ℕ) → slice_get xs k ≡ Some c → m + k ≤ inputs → c ≡ 2 * (m + k)
  classes_from m [] numbered earlier from k c e le = cc
  classes_from m (d ∷ ds) numbered earlier from zero c e le =
      let r = next_class m d ds (omega arith) numbered earlier (here_class m d ds from) in
      let same : d ≡ c = cc in
      let s = r.0 in
      omega arith
  classes_from m (d ∷ ds) numbered earlier from (suc k) c e le =
      let here = here_class m d ds from in
      let r = next_class m d ds (omega arith) numbered earlier here in
      let ih = classes_from (suc m) ds r.1 (earlier_more m earlier (here ∙ r.0)) (λ j b f. let s : suc m + j ≡ m + suc j = omega arith in ap (λ i. class_of g (2 * i)) s ∙ from (suc j) b f) k c e (omega arith) in
      omega arith

  -- true and the inputs have the first numbers
  pub first_classes : (k : ℕ) → k ≤ inputs → class_of g (2 * k) ≡ 2 * k
  first_classes k le =
      let count = graph_is.written.form_count in
      let lt = base_in k le in
      let (c, e) = slice_get_some g.forms k (omega arith) in
      let z : 0 + k ≡ k = omega arith in
      base_class g k c e ∙ (classes_from 0 g.forms graph_is.written.numbered (λ j l. absurd (omega arith)) (λ j b f. let r : 0 + j ≡ j = omega arith in ap (λ i. class_of g (2 * i)) r ∙ base_class g j b f) k c e (omega arith) ∙ ap (λ i. 2 * i) z)
    where
      base_in : (j : ℕ) → j ≤ inputs → j < Rattle.std.specs.Prelude.length o.bases
      base_in zero le = slice_get_within o.bases 0 true_form first.first
      base_in (suc i) le = slice_get_within o.bases (suc i) (var_form i) (form_input_at i (omega arith))

  pub form_one_first : g.one ≡ 0
  form_one_first = graph_is.one ∙ (sym true_class ∙ first_classes 0 (omega arith))

  pub form_input_class : (i : ℕ) → i < inputs → slice_get g.leaves i ≡ Some (2 + 2 * i)
  form_input_class i lt =
      let s : 2 * suc i ≡ 2 + 2 * i = omega arith in
      graph_is.leaves i lt ∙ ap Some (sym (var_class i lt) ∙ (first_classes (suc i) (omega arith) ∙ s))

  pub forms_leaves_differ : AreDistinctLeaves g
  forms_leaves_differ i j c e f =
      let count = graph_is.written.leaf_count in
      let a = slice_get_within g.leaves i c e in
      let b = slice_get_within g.leaves j c f in
      let p = form_input_class i (omega arith) in
      let q = form_input_class j (omega arith) in
      let r : 2 + 2 * i ≡ c = cc in
      let t : 2 + 2 * j ≡ c = cc in
      omega arith

-- the same in the graph of a network's forms
module _ (mode : Mode) (width : ℕ) (net : Network) (g : Graph) (wide : 2 ≤ width) (graph_is : IsGraphOf mode net.inputs (listing_of width net) g) where
  pub one_first : g.one ≡ 0
  one_first = form_one_first mode net.inputs (listing_of width net) g (network_is_sound width wide net) graph_is

  pub input_class : (i : ℕ) → i < net.inputs → slice_get g.leaves i ≡ Some (2 + 2 * i)
  input_class = form_input_class mode net.inputs (listing_of width net) g (network_is_sound width wide net) graph_is

  pub distinct_leaves : AreDistinctLeaves g
  distinct_leaves = forms_leaves_differ mode net.inputs (listing_of width net) g (network_is_sound width wide net) graph_is
