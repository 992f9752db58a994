-- Chains stay links when a place is appended.
use Rattle.std.proofs.Common.{◌≡◌, ◌≢◌, ◌==◌, if◌then◌else◌, Bool, true, false, ℕ, zero, suc, ◌+◌, ◌<◌, ◌≤◌, ◌⊎◌, inl, inr, length, List, [], ◌∷◌, ◌++◌, Option, Some, None, slice_get, slice_set, refl, ap, sym, subst, subst₂, arith}
use Rattle.std.proofs.lemmas.Bool.{eqb-true}
use Rattle.std.proofs.lemmas.List.{length-set}
use Rattle.std.proofs.lemmas.Option.{same_Some, slice_get_within}
use Rattle.lw_pool.specs.declared.id.ClassId.{ClassId}
use Rattle.lw_pool.specs.Numbers.{numbers}
use Rattle.lw_choices.specs.Chains.{number_count, no_place, number_of, place_of, HasNone, IsLast, AreChains}
use Rattle.lw_choices.proofs.Lists.{length_push, get_last, get_push, push_cases, set_cases}

pub numbers_push : (classes : List ClassId) (c : ClassId) → numbers (classes ++ c ∷ []) ≡ numbers classes ++ c.0 ∷ []
numbers_push [] c = refl
numbers_push (d ∷ classes) c = ap (λ cs. d.0 ∷ cs) (numbers_push classes c)

pub number_at : (classes : List ClassId) (i : ℕ) (c : ClassId) → slice_get classes i ≡ Some c → slice_get (numbers classes) i ≡ Some c.0
number_at [] i c e = cc
number_at (d ∷ classes) zero c e = ap (λ (x : ClassId). Some x.0) (same_Some d c e)
number_at (d ∷ classes) (suc i) c e = number_at classes i c e

none_append : (cs : List ℕ) (x c from to : ℕ) → to ≤ length cs → HasNone cs c from to → HasNone (cs ++ x ∷ []) c from to
none_append cs x c from to le none j f l e = by_case (push_cases cs x j c e)
  where
    by_case : (slice_get cs j ≡ Some c) ⊎ ((j ≡ length cs) × (x ≡ c)) → ⊥
    by_case (inl at) = none j f l at
    by_case (inr (s, g)) = absurd (omega arith)

none_more : (cs : List ℕ) (x c from : ℕ) → x ≢ c → HasNone cs c from (length cs) → HasNone (cs ++ x ∷ []) c from (length cs + 1)
none_more cs x c from ne none j f l e = by_case (push_cases cs x j c e)
  where
    by_case : (slice_get cs j ≡ Some c) ⊎ ((j ≡ length cs) × (x ≡ c)) → ⊥
    by_case (inl at) = none j f (slice_get_within cs j c at) at
    by_case (inr (s, g)) = absurd (ne g)

last_append : (cs : List ℕ) (x c n : ℕ) (o : Option ℕ) → n ≤ length cs → IsLast cs c n o → IsLast (cs ++ x ∷ []) c n o
last_append cs x c n None le none = none_append cs x c 0 n le none
last_append cs x c n (Some i) le (lt, at, none) = (lt, get_push cs x i c at, none_append cs x c (i + 1) n le none)

last_more : (cs : List ℕ) (x c : ℕ) (o : Option ℕ) → x ≢ c → IsLast cs c (length cs) o → IsLast (cs ++ x ∷ []) c (length cs + 1) o
last_more cs x c None ne none = none_more cs x c 0 ne none
last_more cs x c (Some i) ne (lt, at, none) = (omega arith, get_push cs x i c at, none_more cs x c (i + 1) ne none)

module _ (cs : List ℕ) (befores heads : List (Option ℕ)) (class : ℕ) (before : Option ℕ) (lt : class < length heads) (room : length cs + 1 < number_count) (at : slice_get heads class ≡ Some before) (are : AreChains cs befores heads) where
  size : ◌≡◌ {A = ℕ} (length (cs ++ class ∷ [])) (length cs + 1)
  size = length_push cs class

  befores_size : ◌≡◌ {A = ℕ} (length (befores ++ before ∷ [])) (length befores + 1)
  befores_size = length_push befores before

  heads_size : length (slice_set heads class (Some (length cs))) ≡ length heads
  heads_size = length-set heads class (Some (length cs))

  within_all : (i c : ℕ) → (slice_get cs i ≡ Some c) ⊎ ((i ≡ length cs) × (class ≡ c)) → c < length (slice_set heads class (Some (length cs)))
  within_all i c (inl f) = let h = are.within i c f in omega (arith, heads_size, h)
  within_all i c (inr (s, f)) = omega (arith, heads_size, f, lt)

  all_heads : (c : ℕ) (o : Option ℕ) → ((c ≡ class) × (◌≡◌ {A = Option ℕ} (Some (length cs)) o)) ⊎ ((c ≢ class) × (slice_get heads c ≡ Some o)) → IsLast (cs ++ class ∷ []) c (length cs + 1) o
  all_heads c o (inl (s, f)) = subst₂ (λ d p. IsLast (cs ++ class ∷ []) d (length cs + 1) p) (sym s) f (omega arith, get_last cs class, λ j g l e. absurd (omega arith))
  all_heads c o (inr (ne, f)) = last_more cs class c o (λ s. ne (sym s)) (are.heads_are c o f)

  last_before : IsLast (cs ++ class ∷ []) class (length cs) before
  last_before = last_append cs class class (length cs) before (omega arith) (are.heads_are class before at)

  all_before : (i c : ℕ) (o : Option ℕ) → (slice_get cs i ≡ Some c) ⊎ ((i ≡ length cs) × (class ≡ c)) → (slice_get befores i ≡ Some o) ⊎ ((i ≡ length befores) × (◌≡◌ {A = Option ℕ} before o)) → IsLast (cs ++ class ∷ []) c i o
  all_before i c o (inl f) (inl g) = let h = slice_get_within cs i c f in last_append cs class c i o (omega arith) (are.before_is i c o f g)
  all_before i c o (inl f) (inr (t, g)) = let h = slice_get_within cs i c f in absurd (omega (arith, h, t, are.one_each))
  all_before i c o (inr (s, f)) (inl g) = let h = slice_get_within befores i o g in absurd (omega (arith, h, s, are.one_each))
  all_before i c o (inr (s, f)) (inr (t, g)) = subst₂ (λ d p. IsLast (cs ++ class ∷ []) d i p) f g (subst (λ j. IsLast (cs ++ class ∷ []) class j before) (sym s) last_before)

  pub links_push : AreChains (cs ++ class ∷ []) (befores ++ before ∷ []) (slice_set heads class (Some (length cs)))
  links_push = record {
    few = omega (arith, size, room);
    one_each = omega (arith, size, befores_size, are.one_each);
    within = λ i c e. within_all i c (push_cases cs class i c e);
    heads_are = λ c o e. subst (λ n. IsLast (cs ++ class ∷ []) c n o) (sym size) (all_heads c o (set_cases heads class c (Some (length cs)) o e));
    before_is = λ i c o e f. all_before i c o (push_cases cs class i c e) (push_cases befores before i o f);
  }

-- the number of a place is read as that place
pub place_back : (cs : List ℕ) (c n : ℕ) (o : Option ℕ) → n < no_place → IsLast cs c n o → place_of (number_of o) ≡ o
place_back cs c n None few last = refl
place_back cs c n (Some p) few (low, at, none) = by_case (p == no_place) refl
  where
    by_case : (b : Bool) → p == no_place ≡ b → (if b then None else Some p) ≡ Some p
    by_case true e = absurd (let same = eqb-true p no_place e in omega (arith, same, low, few))
    by_case false e = refl

-- a measure of a place and of the places before it
abbrev pub place_measure : Option ℕ → ℕ
place_measure None = 0
place_measure (Some p) = suc p

pub place_falls : (classes : List ℕ) (c place : ℕ) (o : Option ℕ) → IsLast classes c place o → place_measure o < suc place
place_falls classes c place None last = omega arith
place_falls classes c place (Some p) (lt, at, none) = omega arith

-- no place has a class that is added
pub links_grow : (cs : List ℕ) (befores heads : List (Option ℕ)) → AreChains cs befores heads → AreChains cs befores (heads ++ None ∷ [])
links_grow cs befores heads are = record {
  few = are.few;
  one_each = are.one_each;
  within = λ i c at. let lt = are.within i c at in let longer = length_push heads None in omega (arith, lt, longer);
  heads_are = λ c o at. by_case c o (push_cases heads None c o at);
  before_is = are.before_is;
}
  where
    by_case : (c : ℕ) (o : Option ℕ) → (slice_get heads c ≡ Some o) ⊎ ((c ≡ length heads) × (None ≡ o)) → IsLast cs c (length cs) o
    by_case c o (inl at) = are.heads_are c o at
    by_case c o (inr (e, f)) = subst (IsLast cs c (length cs)) f (λ j from to jt. let lt = are.within j c jt in absurd (omega (arith, lt, e)))
