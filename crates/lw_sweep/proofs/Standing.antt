-- Literals that stand for nodes.
use Rattle.std.proofs.Common.{ℕ, ◌+◌, ◌*◌, ◌<◌, ◌≡◌, ◌≢◌, List, [], ◌∷◌, ◌++◌, length, get_or, set, sym, ◌∙◌, subst, arith, get_or-set_other, get_or-set_same}
use Rattle.std.proofs.lemmas.List.{get_or_append_left, get_or_push, length_push}
use Rattle.std.proofs.Math.ListN.{length-set}
use native.Mathlib.Decide.{dec_lt}
use Rattle.lw_aig.specs.declared.gate.Gate.{Gate}
use Rattle.lw_aig.specs.declared.literal.Literal.{Literal}
use Rattle.lw_aig.specs.Aigs.{AreEqual, IsBelow}
use Rattle.lw_aig.proofs.Literals.{value_of_node}
use Rattle.lw_sweep.specs.Sweeps.{AreStanding, StandsFor}
use Rattle.lw_sweep.proofs.Growing.{extended_push, stands_later}

-- a node's own literal stands for it
pub own_stands : (gates : List Gate) (n : ℕ) (l : Literal) → n < length gates → l.0 ≡ 2 * n → StandsFor gates n l
own_stands gates n l lt e = record { within = omega arith; always = λ v values. value_of_node v n l e }

-- what is equal to a node's own literal stands for it
pub equal_stands : (gates : List Gate) (n : ℕ) (l own : Literal) → IsBelow (length gates) l → own.0 ≡ 2 * n → AreEqual gates l own → StandsFor gates n l
equal_stands gates n l own low e equal = record { within = low; always = λ v values. equal.always v values ∙ value_of_node v n own e }

pub stands_set : (gates : List Gate) (stands : List Literal) (n : ℕ) (l : Literal) → AreStanding gates stands → n < length gates → StandsFor gates n l → AreStanding gates (set stands n l)
stands_set gates stands n l are lt new =
    let size : length (set stands n l) ≡ length stands = length-set stands n l in
    let one = are.one_each in
    record { one_each = size ∙ one; each = λ m d low. by_order m d (omega arith) (dec_lt m n) (dec_lt n m) }
  where
    other : (m : ℕ) (d : Literal) → m < length stands → m ≢ n → StandsFor gates m (get_or (set stands n l) m d)
    other m d low ne = subst (StandsFor gates m) (sym (get_or-set_other stands n m l d ne)) (are.each m d low)

    by_order : (m : ℕ) (d : Literal) → m < length stands → Dec (m < n) → Dec (n < m) → StandsFor gates m (get_or (set stands n l) m d)
    by_order m d low (yes a) b = other m d low (omega arith)
    by_order m d low (no a) (yes b) = other m d low (omega arith)
    by_order m d low (no a) (no b) =
        let same : m ≡ n = omega arith in
        let P : ℕ → Type 0 = λ k. StandsFor gates k (get_or (set stands n l) k d) in
        let one = are.one_each in
        subst P (sym same) (subst (StandsFor gates n) (sym (get_or-set_same stands n l d (omega arith))) new)

pub stands_push : (gates gates' : List Gate) (stands stands' : List Literal) (gate : Gate) (l : Literal) → AreStanding gates stands → gates' ≡ gates ++ gate ∷ [] → stands' ≡ stands ++ l ∷ [] → l.0 ≡ 2 * length gates → AreStanding gates' stands'
stands_push gates gates' stands stands' gate l are e f own =
    subst (AreStanding gates') (sym f) (subst (λ gs. AreStanding gs (stands ++ l ∷ [])) (sym e) pushed)
  where
    pushed : AreStanding (gates ++ gate ∷ []) (stands ++ l ∷ [])
    pushed =
        let a = length_push gates gate in
        let b = length_push stands l in
        let one = are.one_each in
        record { one_each = omega arith; each = λ m d low. by_order m d (omega arith) (dec_lt m (length stands)) }
      where
        by_order : (m : ℕ) (d : Literal) → m < length stands + 1 → Dec (m < length stands) → StandsFor (gates ++ gate ∷ []) m (get_or (stands ++ l ∷ []) m d)
        by_order m d low (yes a) =
            subst (StandsFor (gates ++ gate ∷ []) m) (sym (get_or_append_left stands (l ∷ []) d m a)) (stands_later gates (gates ++ gate ∷ []) m (get_or stands m d) (extended_push gates gate) (are.each m d a))
        by_order m d low (no a) =
            let one = are.one_each in
            let size = length_push gates gate in
            subst (StandsFor (gates ++ gate ∷ []) m) (sym (get_or_push stands l d m (omega arith))) (own_stands (gates ++ gate ∷ []) m l (omega arith) (own ∙ omega arith))

-- each node's own literal
pub owns_stand : (gates : List Gate) (stands : List Literal) → length stands ≡ length gates → ((n : ℕ) (d : Literal) → n < length stands → (get_or stands n d).0 ≡ 2 * n) → AreStanding gates stands
owns_stand gates stands one own = record { one_each = one; each = λ n d low. own_stands gates n (get_or stands n d) (omega arith) (own n d low) }
