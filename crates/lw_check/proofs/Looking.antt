-- A look at each match at a class, and the labels of its pins.
use Rattle.std.proofs.Common.{ℕ, suc, ◌+◌, ◌<◌, ◌≤◌, ◌≡◌, ◌⊎◌, inl, inr, List, [], ◌∷◌, ◌++◌, length, take, Contains, Option, Some, None, slice_get, slice_set, refl, ap, sym, ◌∙◌, subst, arith}
use Rattle.std.proofs.lemmas.List.{map-append, take_more, take_more_set}
use Rattle.std.proofs.lemmas.Option.{same_Some, none-some, slice_get_within, get_or_from_slice_get}
use Rattle.lw_facts.proofs.Lists.{contains_cases}
use Rattle.lw_pool.specs.declared.id.ClassId.{ClassId}
use Rattle.lw_laws.specs.Choices.{HaveLabels, Labels}
use Rattle.lw_laws.specs.Costs.{Cost}
use Rattle.lw_laws.specs.Covers.{Pattern}
use Rattle.lw_laws.specs.Extracts.{Match}
use Rattle.lw_laws.specs.Graphs.{Graph}
use Rattle.lw_cost.specs.Coming.{AreMatches, IsPatternMatch}
use Rattle.lw_cost.specs.Least.{AreOfCells}
use Rattle.lw_dag.proofs.Rising.{contains_none}
use Rattle.lw_check.specs.Claims.{class_number}
use Rattle.lw_check.specs.Least.{CostsBy, IsLow, IsLowMatch}
use Rattle.lw_check.proofs.Failures.{at_cost}
use Rattle.lw_check.proofs.Places.{map_at, zip_right}
use Rattle.lw_pool.specs.Numbers.{numbers}

module _ (labels : Labels) where
  have_more : (ps ls : List ℕ) (p l : ℕ) → HaveLabels labels ps ls → labels p ≡ Some l → HaveLabels labels (ps ++ p ∷ []) (ls ++ l ∷ [])
  have_more [] [] p l have e = (e, tt)
  have_more [] (m ∷ ls) p l have e = absurd have
  have_more (q ∷ ps) [] p l have e = absurd have
  have_more (q ∷ ps) (m ∷ ls) p l (here, have) e = (here, have_more ps ls p l have e)

  -- the label of one more class
  pub labels_more : (classes : List ClassId) (values : List ℕ) (k : ℕ) (class : ClassId) (l : ℕ) → slice_get classes k ≡ Some class → k < length values → labels class.0 ≡ Some l → HaveLabels labels (numbers (take k classes)) (take k values) → HaveLabels labels (numbers (take (k + 1) classes)) (take (k + 1) (slice_set values k l))
  labels_more classes values k class l at room e have =
      let front : take (k + 1) classes ≡ take k classes ++ class ∷ [] = take_more classes k class (slice_get_within classes k class at) ∙ ap (λ (c : ClassId). take k classes ++ c ∷ []) (get_or_from_slice_get classes k class class at) in
      let named : numbers (take (k + 1) classes) ≡ numbers (take k classes) ++ class.0 ∷ [] = ap numbers front ∙ map-append class_number (take k classes) (class ∷ []) in
      subst (λ ps. HaveLabels labels ps (take (k + 1) (slice_set values k l))) (sym named)
      (subst (λ ls. HaveLabels labels (numbers (take k classes) ++ class.0 ∷ []) ls) (sym (take_more_set values k l room)) (have_more (numbers (take k classes)) (take k values) class.0 l have e))

  -- a class without a label
  pub no_labels : (classes : List ClassId) (k : ℕ) (class : ClassId) → slice_get classes k ≡ Some class → labels class.0 ≡ None → (ls : List ℕ) → HaveLabels labels (numbers classes) ls → ⊥
  no_labels classes k class at none ls have =
      let here = map_at class_number classes k class at in
      let (l, there, is) = zip_right (λ p l. labels p ≡ Some l) (numbers classes) ls k class.0 have here in
      none-some l (sym none ∙ is)

  -- a class's labels are of one list alone
  pub one_labels : (ps ls ms : List ℕ) → HaveLabels labels ps ls → HaveLabels labels ps ms → ls ≡ ms
  one_labels [] [] [] a b = refl
  one_labels [] [] (m ∷ ms) a b = absurd b
  one_labels [] (l ∷ ls) ms a b = absurd a
  one_labels (p ∷ ps) [] ms a b = absurd a
  one_labels (p ∷ ps) (l ∷ ls) [] a b = absurd b
  one_labels (p ∷ ps) (l ∷ ls) (m ∷ ms) (e, a) (f, b) =
      let head : l ≡ m = same_Some l m (sym e ∙ f) in
      let rest = one_labels ps ls ms a b in
      λ i. head i ∷ rest i

-- a match costs one number alone
pub costs_once : (cost : Cost) (pats : List Pattern) (labels : Labels) (m : Match) (d e : ℕ) → CostsBy cost pats labels m d → CostsBy cost pats labels m e → d ≡ e
costs_once cost pats labels m d e a b =
    let one : a.pattern ≡ b.pattern = same_Some a.pattern b.pattern (sym a.listed ∙ b.listed) in
    let same : a.pin_labels ≡ b.pin_labels = one_labels labels m.pins a.pin_labels b.pin_labels a.have b.have in
    a.value ∙ (ap (λ (p : Pattern). cost.value p.cell a.pin_labels) one ∙ (ap (cost.value b.pattern.cell) same ∙ sym b.value))

-- the same label
module _ (cost : Cost) (pats : List Pattern) (labels : Labels) (m : Match) (a b : Option ℕ) (same : a ≡ b) where
  pub low_on : IsLowMatch cost pats labels a m → IsLowMatch cost pats labels b m
  low_on is = subst (λ o. IsLowMatch cost pats labels o m) same is

  pub not_low_on : (IsLowMatch cost pats labels a m → ⊥) → IsLowMatch cost pats labels b m → ⊥
  not_low_on not is = not (subst (λ o. IsLowMatch cost pats labels o m) (sym same) is)

module _ (g : Graph) (cost : Cost) (pats : List Pattern) (labels : Labels) (c : ℕ) where
  abbrev label : Option ℕ
  label = labels c

  -- each match at the class is not low, or is still to come
  pub record IsLookingAt (coming : List Match) : Type 0 where
    pub each : (m : Match) → Contains coming m → IsPatternMatch g pats c m
    pub gone : (m : Match) → IsPatternMatch g pats c m → (IsLowMatch cost pats labels label m → ⊥) ⊎ Contains coming m

  pub looking_first : (coming : List Match) → AreMatches g pats c coming → IsLookingAt coming
  looking_first coming are = record {
    each = λ m has. (are.each m).0 has;
    gone = λ m is. inr ((are.each m).1 is);
  }

  pub looking_here : (coming rest : List Match) (found : Match) → coming ≡ found ∷ rest → IsLookingAt coming → IsPatternMatch g pats c found
  looking_here coming rest found e is = is.each found (subst (λ ms. Contains ms found) (sym e) (0, omega arith, refl))

  pub looking_more : (coming rest : List Match) (found : Match) → coming ≡ found ∷ rest → (IsLowMatch cost pats labels label found → ⊥) → IsLookingAt coming → IsLookingAt rest
  looking_more coming rest found e not is = record {
    each = λ m (k, lt, at). is.each m (subst (λ ms. Contains ms m) (sym e) (suc k, omega arith, at));
    gone = λ m match'. elim (is.gone m match') [
      | inl high ↦ inl high
      | inr has ↦ by_place m (contains_cases found rest m (subst (λ ms. Contains ms m) e has))
    ];
  }
    where
      by_place : (m : Match) → (found ≡ m) ⊎ Contains rest m → (IsLowMatch cost pats labels label m → ⊥) ⊎ Contains rest m
      by_place m (inl same) = inl (subst (λ x. IsLowMatch cost pats labels label x → ⊥) same not)
      by_place m (inr later) = inr later

  pub looking_over : (coming : List Match) → coming ≡ [] → AreOfCells cost.pin_counts pats → IsLookingAt coming → IsLow g cost pats labels c → ⊥
  looking_over coming e cells is (d, m, above) =
      let (found, match', by) = at_cost g cost pats labels c d cells m in
      elim (is.gone found match') [
        | inl high ↦ high (d, by, above)
        | inr has ↦ contains_none found (subst (λ ms. Contains ms found) e has)
      ]
