-- The descent through classes, the deepest first: what has been chosen so far for those that are needed.
use Rattle.std.proofs.Common.{ℕ, zero, suc, ◌<◌, ◌≡◌, ◌⊎◌, inl, inr, Bool, false, List, [], ◌∷◌, ◌++◌, length, Contains, Some, slice_get, slice_index_or, ap, sym, ◌∙◌, subst, refl, arith}
use Rattle.std.proofs.lemmas.Bool.{true≢false}
use Rattle.std.proofs.lemmas.List.Elements.{Contains-push, Contains-push_cases, Contains-append_left}
use Rattle.std.proofs.lemmas.Option.{none-some, same_Some}
use Rattle.lw_facts.proofs.Lists.{at_contained, contains_cases, contains_tail}
use Rattle.lw_pool.specs.declared.id.ClassId.{ClassId}
use Rattle.lw_pool.specs.Numbers.{numbers}
use Rattle.lw_needed.specs.declared.places.Place.{Place}
use Rattle.lw_needed.specs.Needed.{IsNoted, AreNoted, AreRoots, HasAlso}
use Rattle.lw_needed.proofs.Noting.{still_noted}

-- Each choice is for a class, and needs the classes of its parts.
module _ {X : Type 0} (class_of : X → ℕ) (parts_of : X → List ClassId) (IsMade : X → Type 0) (Needed : List X → ℕ → Type 0) (Before : X → X → Type 0) (count : ℕ) (roots : List ClassId) where
  -- What holds when some of the places have been seen, with the choices so far, the last one first.
  pub record IsDown (seen : List Place) (needed : List Bool) (ups : List X) : Type 0 where
    pub one_each : length needed ≡ count
    pub sound : (c : ℕ) → IsNoted needed c → Needed ups c
    pub at_roots : AreNoted needed (numbers roots)
    pub at_parts : (x : X) → Contains ups x → AreNoted needed (numbers (parts_of x))
    pub each : (x : X) → Contains ups x → IsMade x
    pub noted : (x : X) → Contains ups x → IsNoted needed (class_of x)
    pub place : (x : X) → Contains ups x → (p : Place) × Contains seen p × (p.class.0 ≡ class_of x)
    pub all : (p : Place) → Contains seen p → IsNoted needed p.class.0 → (x : X) × Contains ups x × (class_of x ≡ p.class.0)
    pub sorted : (i j : ℕ) (x y : X) → slice_get ups i ≡ Some x → slice_get ups j ≡ Some y → i < j → Before x y

  pub down_start : (needed : List Bool) → ((c : ℕ) → Contains (numbers roots) c → Needed [] c) → AreRoots roots count needed → IsDown [] needed []
  down_start needed base are = record {
    one_each = are.one_each;
    sound = λ c e. base c ((are.are c).0 e);
    at_roots = λ c k. (are.are c).1 k;
    at_parts = λ x (k, lt, e) q i. absurd (omega arith);
    each = λ x (k, lt, e). absurd (omega arith);
    noted = λ x (k, lt, e). absurd (omega arith);
    place = λ x (k, lt, e). absurd (omega arith);
    all = λ p (k, lt, e) f. absurd (omega arith);
    sorted = λ i j x y e f lt. absurd (none-some x e);
  }

  -- a place of a class that is not needed
  pub down_skip : (seen : List Place) (needed : List Bool) (ups : List X) (p : Place) → slice_index_or needed p.class.0 false ≡ false → IsDown seen needed ups → IsDown (seen ++ p ∷ []) needed ups
  down_skip seen needed ups p not is = record {
    one_each = is.one_each;
    sound = is.sound;
    at_roots = is.at_roots;
    at_parts = is.at_parts;
    each = is.each;
    noted = is.noted;
    place = λ x k. let (q, at, e) = is.place x k in (q, Contains-append_left seen (p ∷ []) q at, e);
    all = λ q k e. all_at q e (Contains-push_cases seen p q k);
    sorted = is.sorted;
  }
    where
      all_at : (q : Place) → IsNoted needed q.class.0 → Contains seen q ⊎ (p ≡ q) → (x : X) × Contains ups x × (class_of x ≡ q.class.0)
      all_at q e (inl k) = is.all q k e
      all_at q e (inr s) = absurd (true≢false (sym e ∙ (ap (λ (z : Place). slice_index_or needed z.class.0 false) (sym s) ∙ not)))

  -- a place of a needed class, for which a choice is made
  module _ (seen : List Place) (needed new : List Bool) (ups : List X) (p : Place) (x : X) (noted : IsNoted needed (class_of x)) (same : class_of x ≡ p.class.0) (made : IsMade x) (also : HasAlso needed (parts_of x) new) (later : (c : ℕ) → Needed ups c → Needed (x ∷ ups) c) (parts : (c : ℕ) → Needed ups (class_of x) → Contains (numbers (parts_of x)) c → Needed (x ∷ ups) c) (out : (q : Place) → Contains seen q → Contains (numbers (parts_of x)) q.class.0 → ⊥) (first : (y : X) (q : Place) → Contains seen q → q.class.0 ≡ class_of y → Before x y) (is : IsDown seen needed ups) where
    sound_more : (c : ℕ) → IsNoted needed c ⊎ Contains (numbers (parts_of x)) c → Needed (x ∷ ups) c
    sound_more c (inl e) = later c (is.sound c e)
    sound_more c (inr k) = parts c (is.sound (class_of x) noted) k

    parts_more : (y : X) → (x ≡ y) ⊎ Contains ups y → AreNoted new (numbers (parts_of y))
    parts_more y (inl s) q i = (also.are q).1 (inr (subst (λ (z : X). Contains (numbers (parts_of z)) q) (sym s) i))
    parts_more y (inr k) q i = still_noted also q (is.at_parts y k q i)

    each_more : (y : X) → (x ≡ y) ⊎ Contains ups y → IsMade y
    each_more y (inl s) = subst IsMade s made
    each_more y (inr k) = is.each y k

    noted_more : (y : X) → (x ≡ y) ⊎ Contains ups y → IsNoted new (class_of y)
    noted_more y (inl s) = subst (λ (z : X). IsNoted new (class_of z)) s (still_noted also (class_of x) noted)
    noted_more y (inr k) = still_noted also (class_of y) (is.noted y k)

    place_more : (y : X) → (x ≡ y) ⊎ Contains ups y → (q : Place) × Contains (seen ++ p ∷ []) q × (q.class.0 ≡ class_of y)
    place_more y (inl s) = (p, Contains-push seen p, sym same ∙ ap class_of s)
    place_more y (inr k) = let (q, at, e) = is.place y k in (q, Contains-append_left seen (p ∷ []) q at, e)

    all_more : (q : Place) → IsNoted needed q.class.0 ⊎ Contains (numbers (parts_of x)) q.class.0 → Contains seen q ⊎ (p ≡ q) → (y : X) × Contains (x ∷ ups) y × (class_of y ≡ q.class.0)
    all_more q either (inr s) = (x, (0, omega arith, refl), same ∙ ap (λ (z : Place). z.class.0) s)
    all_more q (inl e) (inl k) = let (y, at, f) = is.all q k e in (y, contains_tail x ups y at, f)
    all_more q (inr i) (inl k) = absurd (out q k i)

    sorted_more : (i j : ℕ) (y z : X) → slice_get (x ∷ ups) i ≡ Some y → slice_get (x ∷ ups) j ≡ Some z → i < j → Before y z
    sorted_more i zero y z e f lt = absurd (omega arith)
    sorted_more (suc i) (suc j) y z e f lt = is.sorted i j y z e f (omega arith)
    sorted_more zero (suc j) y z e f lt =
        let (q, k, s) = is.place z (at_contained ups j z f) in
        subst (λ (w : X). Before w z) (same_Some x y e) (first z q k s)

    pub down_take : IsDown (seen ++ p ∷ []) new (x ∷ ups)
    down_take = record {
      one_each = also.one_each ∙ is.one_each;
      sound = λ c e. sound_more c ((also.are c).0 e);
      at_roots = λ c k. still_noted also c (is.at_roots c k);
      at_parts = λ y k. parts_more y (contains_cases x ups y k);
      each = λ y k. each_more y (contains_cases x ups y k);
      noted = λ y k. noted_more y (contains_cases x ups y k);
      place = λ y k. place_more y (contains_cases x ups y k);
      all = λ q k e. all_more q ((also.are q.class.0).0 e) (Contains-push_cases seen p q k);
      sorted = sorted_more;
    }
