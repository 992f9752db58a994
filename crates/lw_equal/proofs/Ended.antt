-- Pairs of nets whose literals are compared under all assignments.
use Rattle.std.proofs.Common.{ℕ, ◌+◌, ◌<◌, ◌≤◌, ◌≡◌, List, [], ◌∷◌, ◌++◌, length, take, get_or, All, Some, slice_get, sym, subst, subst₂, ◌∙◌, ap, arith}
use Rattle.std.proofs.lemmas.List.{get_or-take, get_or_append_left, get_or_default, get_or_push, length-take-le, length_push, take_all}
use Rattle.std.proofs.lemmas.Option.{get_or_from_slice_get, slice_get_within}
use native.Mathlib.Decide.{dec_lt}
use Rattle.lw_aig.specs.declared.gate.Gate.{Gate}
use Rattle.lw_aig.specs.declared.literal.Literal.{Literal}
use Rattle.lw_aig.specs.Aigs.{IsAig, IsBelow}
use Rattle.lw_equal.specs.declared.deciding.Case.{Case}
use Rattle.lw_equal.specs.declared.pairing.Pair.{Pair}
use Rattle.lw_equal.specs.declared.point.Kind.TheVariants.{Output}
use Rattle.lw_equal.specs.declared.trying.Ends.{Ends}
use Rattle.lw_equal.specs.Cases.{AreEnds, AreEndsOf, AreJudged, IsCase, one_of, other_of}
use Rattle.lw_equal.specs.Trying.{AreBelow, ArePairsEqual}
use Rattle.lw_equal.proofs.Laying.{one_value}

pub no_ends : (case : Case) (pairs : List Pair) → AreEnds case (take 0 pairs) []
no_ends case pairs = record { one_each = length-take-le 0 pairs (omega arith); each = λ j p d lt. absurd (let none = length-take-le 0 pairs (omega arith) in omega arith) }

-- one more pair
pub ends_more : (case : Case) (pairs : List Pair) (ends : List Ends) (i : ℕ) (pair : Pair) (both : Ends) → i < length pairs → pair ≡ get_or pairs i pair → AreEndsOf case pair both → AreEnds case (take i pairs) ends
    → AreEnds case (take (i + 1) pairs) (ends ++ both ∷ [])
ends_more case pairs ends i pair both lt here of are =
    let front = length-take-le i pairs (omega arith) in
    let whole = length-take-le (i + 1) pairs (omega arith) in
    let one = are.one_each in
    let more = length_push ends both in
    record { one_each = omega arith; each = λ j p d low. by j p d (dec_lt j i) (omega arith) }
  where
    by : (j : ℕ) (p : Pair) (d : Ends) → Dec (j < i) → j < i + 1 → AreEndsOf case (get_or (take (i + 1) pairs) j p) (get_or (ends ++ both ∷ []) j d)
    by j p d (yes low) lt' =
        let front = length-take-le i pairs (omega arith) in
        let one = are.one_each in
        subst₂ (AreEndsOf case) (get_or-take i pairs j p low ∙ sym (get_or-take (i + 1) pairs j p lt')) (sym (get_or_append_left ends (both ∷ []) d j (omega arith))) (are.each j p d (omega arith))
    by j p d (no high) lt' =
        let front = length-take-le i pairs (omega arith) in
        let one = are.one_each in
        let same : i ≡ j = omega arith in
        subst₂ (AreEndsOf case)
        (here ∙ (get_or_default pairs i pair p lt ∙ (ap (λ n. get_or pairs n p) same ∙ sym (get_or-take (i + 1) pairs j p lt'))))
        (sym (get_or_push ends both d j (omega arith))) of

pub all_ends : (case : Case) (pairs : List Pair) (ends : List Ends) (i : ℕ) → length pairs ≤ i → AreEnds case (take i pairs) ends → AreEnds case pairs ends
all_ends case pairs ends i past are = subst (λ ps. AreEnds case ps ends) (take_all i pairs past) are

-- a literal of a list of literals below a bound
below_at : (n : ℕ) (lits : List Literal) (k : ℕ) (l : Literal) → All (IsBelow n) lits → slice_get lits k ≡ Some l → IsBelow n l
below_at n lits k l all at = subst (IsBelow n) (get_or_from_slice_get lits k l l at) (all k l (slice_get_within lits k l at))

some_pair : Pair
some_pair = record { point = record { kind = Output; name = [] }; left = record { 0 = 0 }; right = record { 0 = 0 } }

module _ (gates : List Gate) (case : Case) (pairs : List Pair) (ends : List Ends) (is : IsCase gates case) (are : AreEnds case pairs ends) where
  pub ends_below : All (AreBelow (length gates)) ends
  ends_below j d lt =
      let one = are.one_each in
      let at = are.each j some_pair d (omega arith) in
      let both = get_or ends j d in
      let pair = get_or pairs j some_pair in (
        below_at (length gates) case.left.now.literals.items pair.left.0 both.left is.left.within at.left,
        below_at (length gates) case.right.now.literals.items pair.right.0 both.right is.right.within at.right,
      )

  -- where literals are equal, nets have one value
  pub all_one : IsAig gates → ArePairsEqual gates ends → AreJudged (one_of case) (other_of case) pairs []
  all_one aig equal pair (k, lt, e) absent =
      let one = are.one_each in
      let d : Ends = record { left = record { 0 = 0 }; right = record { 0 = 0 } } in
      let both = get_or ends k d in
      let at : AreEndsOf case pair both = subst (λ p. AreEndsOf case p both) e (are.each k pair d lt) in
      one_value gates (one_of case) (other_of case) case.left.now case.right.now pair.left.0 pair.right.0 both.left both.right aig is.begins is.left is.right at.left at.right (equal k d (omega arith))
