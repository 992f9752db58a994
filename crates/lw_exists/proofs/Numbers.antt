-- Classes of base forms for an equivalence that can be decided: numbers in the order of first base forms.
use Rattle.std.proofs.Common.{ℕ, zero, suc, ◌+◌, ◌*◌, ◌/◌, ◌%◌, ◌<◌, ◌≤◌, ◌≡◌, ◌==◌, ◌⊎◌, ◌↔◌, inl, inr, List, [], ◌∷◌, ◌++◌, length, slice_index, if◌then◌else◌, refl, ap, sym, ◌∙◌, subst, arith, length-append}
use native.Mathlib.Nat.{eq-or-lt_of_le}
use Rattle.std.proofs.Math.ListN.{get_or-append}
use Rattle.std.proofs.Math.Seq.{get_or-append_seam}
use Rattle.lw_laws.specs.Flip.{flip}
use Rattle.lw_laws.specs.Graphs.{Graph, class_of, AreNumberedFrom, pair_count}
use Rattle.lw_laws.proofs.Flips.{flip-flip, flip_even, flip_other, half-flip, class_of-flip, even_or_odd}
use Rattle.lw_reduce.proofs.ClassNumbers.{count_here, count_there, count_more, numbered_more}
use Rattle.lw_exists.proofs.Weak.{Decided, find_below}

-- a graph with these classes of base forms, and nothing else
abbrev pub bare : List ℕ → Graph
bare cs = record { one = 0; leaves = []; forms = cs; pairs = [] }

abbrev pub class_by : List ℕ → ℕ → ℕ
class_by cs f = class_of (bare cs) f

-- an equivalence of forms of so many base forms, in which no form is its complement
pub record IsEquivalence (E : ℕ → ℕ → Type 0) (total : ℕ) : Type 0 where
  pub own : (f : ℕ) → f / 2 < total → E f f
  pub turn : (f h : ℕ) → E f h → E h f
  pub join : (f h k : ℕ) → E f h → E h k → E f k
  pub flips : (f h : ℕ) → E f h → E (flip f) (flip h)
  pub apart : (f : ℕ) → E (flip f) f → ⊥

-- these are the classes of the first base forms
pub record AreClassesOf (E : ℕ → ℕ → Type 0) (cs : List ℕ) : Type 0 where
  pub numbered : AreNumberedFrom 0 cs
  pub few : pair_count 0 cs ≤ length cs
  pub below : (k : ℕ) → k < length cs → slice_index cs k / 2 < pair_count 0 cs
  pub same : (f h : ℕ) → f / 2 < length cs → h / 2 < length cs → (class_by cs f ≡ class_by cs h) ↔ E f h

-- half of a class is that of its base form
pub half_class : (cs : List ℕ) (f : ℕ) → class_by cs f / 2 ≡ slice_index cs (f / 2) / 2
half_class cs f = by_bit (f % 2) (omega arith)
  where
    by_bit : (r : ℕ) → r < 2 → (if r == 0 then slice_index cs (f / 2) else flip (slice_index cs (f / 2))) / 2 ≡ slice_index cs (f / 2) / 2
    by_bit zero lt = refl
    by_bit (suc zero) lt = half-flip (slice_index cs (f / 2))
    by_bit (suc (suc r)) lt = absurd (omega arith)

pub class_even : (cs : List ℕ) (k : ℕ) → class_by cs (2 * k) ≡ slice_index cs k
class_even cs k =
    let even : (2 * k) % 2 ≡ 0 = omega arith in
    let half : (2 * k) / 2 ≡ k = omega arith in
    rw (even, half) refl

module _ (E : ℕ → ℕ → Type 0) (total : ℕ) (is : IsEquivalence E total) where
  module _ (cs : List ℕ) (lt : length cs < total) (are : AreClassesOf E cs) (c : ℕ) where
    abbrev more : List ℕ
    more = cs ++ c ∷ []

    length_more : length more ≡ length cs + 1
    length_more = length-append cs (c ∷ []) ∙ refl

    old : (k : ℕ) → k < length cs → slice_index more k ≡ slice_index cs k
    old k l = get_or-append cs (c ∷ []) 0 k l

    last : slice_index more (length cs) ≡ c
    last = get_or-append_seam cs c [] 0

    -- forms of earlier base forms keep their classes
    old_class : (f : ℕ) → f / 2 < length cs → class_by more f ≡ class_by cs f
    old_class f l = ap (λ x. if f % 2 == 0 then x else flip x) (old (f / 2) l)

    last_class : class_by more (2 * length cs) ≡ c
    last_class = class_even more (length cs) ∙ last

    -- the forms of the new base form
    data Place (f : ℕ) : Type 0 where
      is_old : f / 2 < length cs → Place f
      is_new : f ≡ 2 * length cs → Place f
      is_turned : f ≡ flip (2 * length cs) → Place f

    place_of : (f : ℕ) → f / 2 < length more → Place f
    place_of f l = by_half (eq-or-lt_of_le {n = f / 2} {m = length cs} (let m = length_more in omega arith))
      where
        by_bit : (f ≡ 2 * length cs) ⊎ (f ≡ 2 * length cs + 1) → Place f
        by_bit (inl e) = is_new e
        by_bit (inr e) = is_turned (e ∙ sym (flip_even (2 * length cs) (length cs) refl))

        by_half : (f / 2 ≡ length cs) ⊎ (f / 2 < length cs) → Place f
        by_half (inl e) = by_bit (even_or_odd f (length cs) e)
        by_half (inr m) = is_old m

    -- the new base form is equivalent to an earlier form
    module _ (b : ℕ) (before : b / 2 < length cs) (alike : E (2 * length cs) b) (takes : c ≡ class_by cs b) where
      low : c / 2 < pair_count 0 cs
      low = let h : c / 2 ≡ slice_index cs (b / 2) / 2 = ap (λ m. m / 2) takes ∙ half_class cs b in let m = are.below (b / 2) before in omega arith

      -- an earlier form in the form's place
      Stand : ℕ → ℕ → Type 0
      Stand f g = (g / 2 < length cs) × E f g × (class_by more f ≡ class_by cs g)

      stand : (f : ℕ) → Place f → (g : ℕ) × (g / 2 < length cs) × E f g × (class_by more f ≡ class_by cs g)
      stand f (is_old l) = (f, l, is.own f (omega arith), old_class f l)
      stand f (is_new e) = (b, before, subst (λ z. E z b) (sym e) alike, ap (class_by more) e ∙ (last_class ∙ takes))
      stand f (is_turned e) =
          let h = half-flip b in
          (flip b, omega arith, subst (λ z. E z (flip b)) (sym e) (is.flips (2 * length cs) b alike), ap (class_by more) e ∙ (class_of-flip (bare more) (2 * length cs) ∙ (ap flip (last_class ∙ takes) ∙ sym (class_of-flip (bare cs) b))))

      same_low : (f h : ℕ) → f / 2 < length more → h / 2 < length more → (class_by more f ≡ class_by more h) ↔ E f h
      same_low f h l m =
          let (g, gl, ge, gc) = stand f (place_of f l) in
          let (k, kl, ke, kc) = stand h (place_of h m) in
          let s = are.same g k gl kl in
          (λ e. is.join f g h ge (is.join g k h (s.0 (sym gc ∙ (e ∙ kc))) (is.turn h k ke)), λ e. gc ∙ (s.1 (is.join g f k (is.turn f g ge) (is.join f h k e ke)) ∙ sym kc))

      count_low : pair_count 0 more ≡ pair_count 0 cs
      count_low = count_more 0 cs c ∙ count_there (pair_count 0 cs) c low

      classes_low : AreClassesOf E more
      classes_low = record {
        numbered = numbered_more 0 cs c are.numbered (inr low);
        few = let n = count_low in let l = length_more in let f = are.few in omega arith;
        below = λ k l. by_place k (eq-or-lt_of_le {n = k} {m = length cs} (let m = length_more in omega arith));
        same = same_low;
      }
        where
          by_place : (k : ℕ) → (k ≡ length cs) ⊎ (k < length cs) → slice_index more k / 2 < pair_count 0 more
          by_place k (inl e) = let n = count_low in let h : slice_index more k / 2 ≡ c / 2 = ap (λ m. m / 2) (ap (slice_index more) e ∙ last) in let f = low in omega arith
          by_place k (inr l) = let n = count_low in let h : slice_index more k / 2 ≡ slice_index cs k / 2 = ap (λ m. m / 2) (old k l) in let f = are.below k l in omega arith

    -- the new base form is equivalent to no earlier form
    module _ (none : (b : ℕ) → b / 2 < length cs → E (2 * length cs) b → ⊥) (next : c ≡ 2 * pair_count 0 cs) where
      class_far : (f : ℕ) → f / 2 < length cs → class_by more f / 2 < pair_count 0 cs
      class_far f l = let h : class_by more f / 2 ≡ slice_index cs (f / 2) / 2 = ap (λ m. m / 2) (old_class f l) ∙ half_class cs f in let b = are.below (f / 2) l in omega arith

      class_new : class_by more (2 * length cs) / 2 ≡ pair_count 0 cs
      class_new = let h : class_by more (2 * length cs) / 2 ≡ c / 2 = ap (λ m. m / 2) last_class in omega arith

      class_turned : class_by more (flip (2 * length cs)) / 2 ≡ pair_count 0 cs
      class_turned = ap (λ m. m / 2) (class_of-flip (bare more) (2 * length cs)) ∙ (half-flip (class_by more (2 * length cs)) ∙ class_new)

      none_turned : (b : ℕ) → b / 2 < length cs → E (flip (2 * length cs)) b → ⊥
      none_turned b l e =
          let h = half-flip b in
          none (flip b) (omega arith) (subst (λ z. E z (flip b)) (flip-flip (2 * length cs)) (is.flips (flip (2 * length cs)) b e))

      in_range : 2 * length cs / 2 < total
      in_range = omega arith

      -- an old and a new form differ both ways
      differ : (f h : ℕ) → f / 2 < length cs → class_by more h / 2 ≡ pair_count 0 cs → (E h f → ⊥) → (class_by more f ≡ class_by more h) ↔ E f h
      differ f h l n out =
          (λ e. let q : class_by more f / 2 ≡ class_by more h / 2 = ap (λ m. m / 2) e in let r = class_far f l in absurd (omega arith), λ e. absurd (out (is.turn f h e)))

      swap : (f h : ℕ) → (class_by more f ≡ class_by more h) ↔ E f h → (class_by more h ≡ class_by more f) ↔ E h f
      swap f h s = (λ e. is.turn f h (s.0 (sym e)), λ e. sym (s.1 (is.turn h f e)))

      turned_apart : (class_by more (flip (2 * length cs)) ≡ class_by more (2 * length cs)) ↔ E (flip (2 * length cs)) (2 * length cs)
      turned_apart = (λ e. absurd (flip_other (class_by more (2 * length cs)) (sym (class_of-flip (bare more) (2 * length cs)) ∙ e)), λ e. absurd (is.apart (2 * length cs) e))

      same_next : (f h : ℕ) → Place f → Place h → (class_by more f ≡ class_by more h) ↔ E f h
      same_next f h (is_old l) (is_old m) =
          let s = are.same f h l m in
          (λ e. s.0 (sym (old_class f l) ∙ (e ∙ old_class h m)), λ e. old_class f l ∙ (s.1 e ∙ sym (old_class h m)))
      same_next f h (is_old l) (is_new e) = subst (λ z. (class_by more f ≡ class_by more z) ↔ E f z) (sym e) (differ f (2 * length cs) l class_new (none f l))
      same_next f h (is_old l) (is_turned e) = subst (λ z. (class_by more f ≡ class_by more z) ↔ E f z) (sym e) (differ f (flip (2 * length cs)) l class_turned (none_turned f l))
      same_next f h (is_new e) (is_old l) = subst (λ z. (class_by more z ≡ class_by more h) ↔ E z h) (sym e) (swap h (2 * length cs) (differ h (2 * length cs) l class_new (none h l)))
      same_next f h (is_turned e) (is_old l) = subst (λ z. (class_by more z ≡ class_by more h) ↔ E z h) (sym e) (swap h (flip (2 * length cs)) (differ h (flip (2 * length cs)) l class_turned (none_turned h l)))
      same_next f h (is_new e) (is_new k) = (λ g. subst (E f) (e ∙ sym k) (is.own f (omega arith)), λ g. ap (class_by more) (e ∙ sym k))
      same_next f h (is_turned e) (is_turned k) = let q = half-flip (2 * length cs) in (λ g. subst (E f) (e ∙ sym k) (is.own f (omega arith)), λ g. ap (class_by more) (e ∙ sym k))
      same_next f h (is_turned e) (is_new k) = subst (λ z. (class_by more z ≡ class_by more h) ↔ E z h) (sym e) (subst (λ z. (class_by more (flip (2 * length cs)) ≡ class_by more z) ↔ E (flip (2 * length cs)) z) (sym k) turned_apart)
      same_next f h (is_new e) (is_turned k) = swap h f (subst (λ z. (class_by more z ≡ class_by more f) ↔ E z f) (sym k) (subst (λ z. (class_by more (flip (2 * length cs)) ≡ class_by more z) ↔ E (flip (2 * length cs)) z) (sym e) turned_apart))

      count_next : pair_count 0 more ≡ suc (pair_count 0 cs)
      count_next = count_more 0 cs c ∙ count_here (pair_count 0 cs) c next

      classes_next : AreClassesOf E more
      classes_next = record {
        numbered = numbered_more 0 cs c are.numbered (inl next);
        few = let n = count_next in let l = length_more in let f = are.few in omega arith;
        below = λ k l. by_place k (eq-or-lt_of_le {n = k} {m = length cs} (let m = length_more in omega arith));
        same = λ f h l m. same_next f h (place_of f l) (place_of h m);
      }
        where
          by_place : (k : ℕ) → (k ≡ length cs) ⊎ (k < length cs) → slice_index more k / 2 < pair_count 0 more
          by_place k (inl e) = let n = count_next in let h : slice_index more k / 2 ≡ c / 2 = ap (λ m. m / 2) (ap (slice_index more) e ∙ last) in omega arith
          by_place k (inr l) = let n = count_next in let h : slice_index more k / 2 ≡ slice_index cs k / 2 = ap (λ m. m / 2) (old k l) in let f = are.below k l in omega arith

  -- the classes of so many base forms
  pub some_classes : ((f : ℕ) → f < 2 * total → Decided (E f) (2 * total)) → (n : ℕ) → n ≤ total → (cs : List ℕ) × (length cs ≡ n) × AreClassesOf E cs
  some_classes d zero le = ([], refl, record { numbered = tt; few = omega arith; below = λ k lt. absurd (omega arith); same = λ f h l m. absurd (omega arith) })
  some_classes d (suc n) le =
      let (cs, count, are) = some_classes d n (omega arith) in
      by_search cs count are (find_below (E (2 * length cs)) (2 * length cs) (λ i lt. d (2 * length cs) (omega arith) i (omega arith)))
    where
      by_search : (cs : List ℕ) → length cs ≡ n → AreClassesOf E cs → ((b : ℕ) × (b < 2 * length cs) × E (2 * length cs) b) ⊎ ((b : ℕ) → b < 2 * length cs → E (2 * length cs) b → ⊥) → (ds : List ℕ) × (length ds ≡ suc n) × AreClassesOf E ds
      by_search cs count are (inl (b, lt, e)) =
          let l = length_more cs (omega arith) are (class_by cs b) in
          (cs ++ class_by cs b ∷ [], omega arith, classes_low cs (omega arith) are (class_by cs b) b (omega arith) e refl)
      by_search cs count are (inr none) =
          let l = length_more cs (omega arith) are (2 * pair_count 0 cs) in
          (cs ++ 2 * pair_count 0 cs ∷ [], omega arith, classes_next cs (omega arith) are (2 * pair_count 0 cs) (λ b lt e. none b (omega arith) e) refl)
