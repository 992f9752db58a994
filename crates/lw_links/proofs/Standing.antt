-- Literals that stand for base forms, in graphs that grow.
use Rattle.std.proofs.Common.{ℕ, zero, suc, ◌+◌, ◌-◌, ◌*◌, ◌/◌, ◌%◌, ◌<◌, ◌≡◌, ◌==◌, Bool, true, false, not, ◌&&◌, cond, List, [], ◌∷◌, ◌++◌, length, replicate, Option, Some, None, IfSome, Result, Ok, Err, IfOk, slice_get, slice_index_or, refl, ap, ap₂, sym, ◌∙◌, subst, subst₂, arith}
use Rattle.std.proofs.lemmas.List.{get_or_append_left, get_or_push, length-replicate, length_push}
use Rattle.std.proofs.lemmas.Option.{get_or_from_slice_get, slice_get_within}
use native.Mathlib.Decide.{dec_lt}
use Rattle.lw_aig.specs.declared.gate.Gate.{Gate}
use Rattle.lw_aig.specs.declared.gate.Gate.TheVariants.{Input, Zero}
use Rattle.lw_aig.specs.declared.literal.Literal.{Literal}
use Rattle.lw_aig.specs.Aigs.{AreNodeValues, IsAig, IsBelow, IsConjunction}
use Rattle.lw_aig.specs.Literals.{complement, literal_value, node_of}
use Rattle.lw_aig.proofs.Literals.{node-complement, value_of_complement, value_of_node}
use Rattle.lw_aig.proofs.Values.{inputs_are_free}
use Rattle.lw_laws.specs.Flip.{flip}
use Rattle.lw_laws.specs.NumberedForms.{NumberedForms}
use Rattle.lw_laws.specs.NumberedForms.Base.{base_input, base_true}
use Rattle.lw_laws.specs.NumberedValues.{AreNumberedValues}
use Rattle.lw_laws.proofs.Flips.{flip_even}
use Rattle.lw_form.specs.Links.{HaveOneValue}
use Rattle.lw_sweep.specs.Sweeps.{IsExtended, inputs_alone}
use Rattle.lw_sweep.proofs.Growing.{extended_both, extended_itself, values_before}
use Rattle.lw_links.specs.Linked.{AreHalves, CarryInputs, HasBaseValue, StandFor, TellPairs, signed_literal}

-- what is read where there is no literal
abbrev pub no_literal : Literal
no_literal = record { 0 = 0 }

not_not : (b : Bool) → not (not b) ≡ b
not_not true = refl
not_not false = refl

pub base_stays : (old new : List Gate) (forms : NumberedForms) (b : ℕ) (l : Literal) → IsExtended old new → HasBaseValue old forms b l → HasBaseValue new forms b l
base_stays old new forms b l grows has = record {
  within = omega (arith, has.within, grows.longer);
  always = λ v x value are carry values. has.always v x value (values_before old new v grows are) carry values;
}

module _ (value : ℕ → Bool) (flips : (n : ℕ) → value (flip n) ≡ not (value n)) where
  odd_value : (a : ℕ) → value (2 * a + 1) ≡ not (value (2 * a))
  odd_value a = ap value (sym (flip_even (2 * a) a refl)) ∙ flips (2 * a)

  -- the literal of a form has the form's value
  pub signed_value : (v : ℕ → Bool) (literals : List Literal) (f : ℕ) → literal_value v (slice_index_or literals (f / 2) no_literal) ≡ value (2 * (f / 2)) → literal_value v (signed_literal literals f) ≡ value f
  signed_value v literals f is = by (f % 2) refl (omega arith)
    where
      base : Literal
      base = slice_index_or literals (f / 2) no_literal

      by : (r : ℕ) → f % 2 ≡ r → r < 2 → literal_value v (cond (r == 0) base (complement base)) ≡ value f
      by zero e low = is ∙ ap value (omega (arith, e))
      by (suc zero) e low = value_of_complement v base ∙ (ap not is ∙ (sym (odd_value (f / 2)) ∙ ap value (omega (arith, e))))
      by (suc (suc r)) e low = absurd (omega (arith, low))

  -- and the form of a base form with a literal's sign has the value of the literal's node
  pub node_value_is : (v : ℕ → Bool) (a : ℕ) (l : Literal) → literal_value v l ≡ value (2 * a) → value (2 * a + l.0 % 2) ≡ v (node_of l)
  node_value_is v a l is = by (l.0 % 2) refl (omega arith) is
    where
      by : (r : ℕ) → l.0 % 2 ≡ r → r < 2 → cond (r == 0) (v (node_of l)) (not (v (node_of l))) ≡ value (2 * a) → value (2 * a + l.0 % 2) ≡ v (node_of l)
      by zero e low own = ap value (omega (arith, e)) ∙ sym own
      by (suc zero) e low own = ap value (omega (arith, e)) ∙ (odd_value a ∙ (ap not (sym own) ∙ not_not (v (node_of l))))
      by (suc (suc r)) e low own = absurd (omega (arith, low))

pub true_stands : (gates : List Gate) (forms : NumberedForms) (b : ℕ) (l : Literal) → IsAig gates → slice_get forms.bases b ≡ Some base_true → l.0 ≡ 1 → HasBaseValue gates forms b l
true_stands gates forms b l aig at one = record {
  within = omega (arith, one, slice_get_within gates 0 Zero aig.zero_first);
  always = λ v x value are carry values. value_one v (are.allowed 0 Zero aig.zero_first) ∙ sym (values.bases b base_true at);
}
  where
    value_one : (v : ℕ → Bool) → v 0 ≡ false → literal_value v l ≡ true
    value_one v z = ap (λ (n : ℕ). literal_value v (record { 0 = n })) one ∙ ap not z

pub input_stands : (gates : List Gate) (forms : NumberedForms) (b i : ℕ) (l : Literal) → IsExtended (inputs_alone forms.inputs) gates → slice_get forms.bases b ≡ Some (base_input i) → i < forms.inputs → l.0 ≡ 2 * (i + 1) → HasBaseValue gates forms b l
input_stands gates forms b i l grows at low is = record {
  within = let n = grows.longer in omega (arith, n, length-replicate forms.inputs Input, low, is);
  always = λ v x value are carry values. value_of_node v (i + 1) l is ∙ (carry i low ∙ sym (values.bases b (base_input i) at));
}

-- the literal of a form is one of the graph
pub signed_below : (gates : List Gate) (forms : NumberedForms) (literals : List Literal) (f : ℕ) → StandFor gates forms literals → f / 2 < length literals → IsBelow (length gates) (signed_literal literals f)
signed_below gates forms literals f stand low = by (f % 2 == 0)
  where
    base : Literal
    base = slice_index_or literals (f / 2) no_literal

    by : (t : Bool) → IsBelow (length gates) (cond t base (complement base))
    by true = (stand.each (f / 2) no_literal low).within
    by false = subst (λ n. n < length gates) (sym (node-complement base)) (stand.each (f / 2) no_literal low).within

-- the conjunction of the literals of two forms stands for a base form that has the conjunction of their values
and_stands : (old new : List Gate) (forms : NumberedForms) (literals : List Literal) (b p q : ℕ) (l : Literal) → StandFor old forms literals → IsExtended old new → length literals ≡ b → AreHalves forms b p q → IsConjunction new (signed_literal literals p) (signed_literal literals q) l → HasBaseValue new forms b l
and_stands old new forms literals b p q l stand grows count halves conj = record {
  within = conj.within;
  always = λ v x value are carry values.
      conj.always v are
      ∙ (ap₂ (λ (c d : Bool). c && d) (form_value v x value are carry values p halves.left) (form_value v x value are carry values q halves.right)
      ∙ sym (halves.always x value values));
}
  where
    form_value : (v x value : ℕ → Bool) → AreNodeValues new v → CarryInputs v forms.inputs x → AreNumberedValues forms x value → (f : ℕ) → f / 2 < b → literal_value v (signed_literal literals f) ≡ value f
    form_value v x value are carry values f low =
        signed_value value values.flips v literals f
        ((stand.each (f / 2) no_literal (omega (arith, low, count))).always v x value (values_before old new v grows are) carry values)

pub ands_stand : {E : Type 0} (old new : List Gate) (forms : NumberedForms) (literals : List Literal) (b p q : ℕ) (a d : Literal) (r : Result (Option Literal) E) → a ≡ signed_literal literals p → d ≡ signed_literal literals q → StandFor old forms literals → IsExtended old new → length literals ≡ b → AreHalves forms b p q → IfOk r (λ o. IfSome o (IsConjunction new a d)) → IfOk r (λ o. IfSome o (HasBaseValue new forms b))
ands_stand old new forms literals b p q a d (Ok (Some l)) left right stand grows count halves is =
    and_stands old new forms literals b p q l stand grows count halves
    (subst₂ (λ (m n : Literal). IsConjunction new m n l) left right is)
ands_stand old new forms literals b p q a d (Ok None) left right stand grows count halves is = tt
ands_stand old new forms literals b p q a d (Err e) left right stand grows count halves is = tt

pub stand_later : (old new : List Gate) (forms : NumberedForms) (literals : List Literal) → StandFor old forms literals → IsExtended old new → StandFor new forms literals
stand_later old new forms literals stand grows = record {
  inputs = extended_both (inputs_alone forms.inputs) old new stand.inputs grows;
  few = stand.few;
  each = λ b d low. base_stays old new forms b (slice_index_or literals b d) grows (stand.each b d low);
}

-- one more base form has its literal
pub stand_more : (old new : List Gate) (forms : NumberedForms) (literals : List Literal) (l : Literal) → StandFor old forms literals → IsExtended old new → length literals < length forms.bases → HasBaseValue new forms (length literals) l → StandFor new forms (literals ++ l ∷ [])
stand_more old new forms literals l stand grows room has = record {
  inputs = extended_both (inputs_alone forms.inputs) old new stand.inputs grows;
  few = omega (arith, length_push literals l, room);
  each = λ b d lt. by b d lt (dec_lt b (length literals));
}
  where
    by : (b : ℕ) (d : Literal) → b < length (literals ++ l ∷ []) → Dec (b < length literals) → HasBaseValue new forms b (slice_index_or (literals ++ l ∷ []) b d)
    by b d lt (yes low) =
        subst (HasBaseValue new forms b) (sym (get_or_append_left literals (l ∷ []) d b low))
        (base_stays old new forms b (slice_index_or literals b d) grows (stand.each b d low))
    by b d lt (no high) =
        let same : length literals ≡ b = omega (arith, high, length_push literals l, lt) in
        subst (HasBaseValue new forms b) (sym (get_or_push literals l d b same)) (subst (λ n. HasBaseValue new forms n l) same has)

-- none have theirs in the graph of the inputs
pub none_stand : (gates : List Gate) (forms : NumberedForms) (literals : List Literal) → gates ≡ inputs_alone forms.inputs → length literals ≡ 0 → StandFor gates forms literals
none_stand gates forms literals alone none = record {
  inputs = subst (IsExtended (inputs_alone forms.inputs)) (sym alone) (extended_itself (inputs_alone forms.inputs));
  few = omega (arith, none);
  each = λ b d low. absurd (omega (arith, none, low));
}

-- literals that stand for base forms tell which forms have one value
pub they_tell : (gates : List Gate) (forms : NumberedForms) (literals : List Literal) → IsAig gates → StandFor gates forms literals → TellPairs forms literals
they_tell gates forms literals aig stand = record { each = one }
  where
    known : (a : ℕ) (l : Literal) → slice_get literals a ≡ Some l → (2 * a + l.0 % 2) / 2 < length forms.bases
    known a l at = omega (arith, slice_get_within literals a l at, stand.few)

    input_at : (n i : ℕ) → i < n → slice_get (replicate n Input) i ≡ Some Input
    input_at zero i low = absurd (omega (arith, low))
    input_at (suc n) zero low = refl
    input_at (suc n) (suc i) low = input_at n i (omega (arith, low))

    carried : (x v : ℕ → Bool) → ((n : ℕ) → slice_get gates n ≡ Some Input → v n ≡ x (n - 1)) → CarryInputs v forms.inputs x
    carried x v free i low =
        let next : suc i ≡ i + 1 = omega arith in
        let place : slice_get (inputs_alone forms.inputs) (i + 1) ≡ Some Input = subst (λ k. slice_get (inputs_alone forms.inputs) k ≡ Some Input) next (input_at forms.inputs i low) in
        let before : i + 1 - 1 ≡ i = omega arith in
        free (i + 1) (stand.inputs.kept (i + 1) Input place) ∙ ap x before

    -- the value of the node of its literal
    at_node : (v x value : ℕ → Bool) (a : ℕ) (l : Literal) → AreNodeValues gates v → CarryInputs v forms.inputs x → AreNumberedValues forms x value → slice_get literals a ≡ Some l → value (2 * a + l.0 % 2) ≡ v (node_of l)
    at_node v x value a l are carry values at =
        node_value_is value values.flips v a l
        (ap (literal_value v) (sym (get_or_from_slice_get literals a l l at)) ∙ (stand.each a l (slice_get_within literals a l at)).always v x value are carry values)

    one : (a b : ℕ) (l m : Literal) → slice_get literals a ≡ Some l → slice_get literals b ≡ Some m → node_of l ≡ node_of m → HaveOneValue forms (2 * a + l.0 % 2) (2 * b + m.0 % 2)
    one a b l m at at' same = record {
      left = known a l at;
      right = known b m at';
      always = λ x value values.
          let has = inputs_are_free (λ n. x (n - 1)) gates aig in
          let carry = carried x has.values has.inputs in
          at_node has.values x value a l has.are carry values at
          ∙ (ap has.values same ∙ sym (at_node has.values x value b m has.are carry values at'));
    }
