-- Passes one after the other, and rounds of them.
use Rattle.std.proofs.Common.{ℕ, ◌+◌, ◌<◌, ◌≤◌, ◌≡◌, ◌/◌, ◌%◌, ◌*◌, ◌⊎◌, inl, inr, Bool, true, false, ◌||◌, List, length, Some, slice_get, refl, ap, sym, ◌∙◌, subst, arith, true≢false}
use Rattle.std.proofs.lemmas.Option.{slice_get-get_or, same_Some}
use Rattle.std.proofs.lemmas.Bool.{cases_eq}
use Rattle.lw_laws.specs.Graphs.{Graph}
use Rattle.lw_label.specs.Passes.{Passes}
use Rattle.lw_label.specs.Orders.{IsOrder, IsPassed, IsVisited, places_of}

module _ {S : Type 0} (weight : S → ℕ) (IsStill : S → ℕ → Type 0) where
  -- nothing would change at these classes
  pub passes_still : (s : S) (at : ℕ → Type 0) → ((c : ℕ) → at c → IsStill s c) → Passes weight IsStill s s at false
  passes_still s at still = record {
    falls = λ e. absurd (true≢false (sym e));
    same = λ e. refl;
    still = λ e. still;
  }

  -- something has changed
  pub passes_lower : (old new : S) (at : ℕ → Type 0) → weight new < weight old → Passes weight IsStill old new at true
  passes_lower old new at less = record {
    falls = λ e. less;
    same = λ e. absurd (true≢false e);
    still = λ e. absurd (true≢false e);
  }

  -- no pass raises the weight
  pub passes_low : (old new : S) (at : ℕ → Type 0) (changed : Bool) → Passes weight IsStill old new at changed → weight new ≤ weight old
  passes_low old new at true pass = let less = pass.falls refl in omega (arith, less)
  passes_low old new at false pass = let same : weight new ≡ weight old = ap weight (pass.same refl) in omega (arith, same)

  pub passes_fewer : (old new : S) (at fewer : ℕ → Type 0) (changed : Bool) → ((c : ℕ) → fewer c → at c) → Passes weight IsStill old new at changed → Passes weight IsStill old new fewer changed
  passes_fewer old new at fewer changed among pass = record {
    falls = pass.falls;
    same = pass.same;
    still = λ e c here. pass.still e c (among c here);
  }

  -- one pass and then another
  pub passes_both : (old mid new : S) (first second : ℕ → Type 0) (one other : Bool) → Passes weight IsStill old mid first one → Passes weight IsStill mid new second other → Passes weight IsStill old new (λ c. first c ⊎ second c) (other || one)
  passes_both old mid new first second one true before after =
      let less = after.falls refl in
      let low = passes_low old mid first one before in
      passes_lower old new (λ c. first c ⊎ second c) (omega (arith, less, low))
  passes_both old mid new first second true false before after =
      let less = before.falls refl in
      let same : weight new ≡ weight mid = ap weight (after.same refl) in
      passes_lower old new (λ c. first c ⊎ second c) (omega (arith, less, same))
  passes_both old mid new first second false false before after = record {
    falls = λ e. absurd (true≢false (sym e));
    same = λ e. after.same refl ∙ before.same refl;
    still = λ e c here. elim here [ inl a ↦ before.still refl c a | inr b ↦ subst (λ s. IsStill s c) (before.same refl) (after.still refl c b) ];
  }

-- a pass by which one thing is still, and then one by which another is
pub passes_two : {S : Type 0} (weight : S → ℕ) (IsOne IsOther : S → ℕ → Type 0) (old mid new : S) (at : ℕ → Type 0) (one other : Bool) → Passes weight IsOne old mid at one → Passes weight IsOther mid new at other → Passes weight (λ s c. IsOne s c × IsOther s c) old new at (other || one)
passes_two weight IsOne IsOther old mid new at one true a b =
    let less = b.falls refl in
    let low = passes_low weight IsOne old mid at one a in
    passes_lower weight (λ s c. IsOne s c × IsOther s c) old new at (omega (arith, less, low))
passes_two weight IsOne IsOther old mid new at true false a b =
    let less = a.falls refl in
    let same : weight new ≡ weight mid = ap weight (b.same refl) in
    passes_lower weight (λ s c. IsOne s c × IsOther s c) old new at (omega (arith, less, same))
passes_two weight IsOne IsOther old mid new at false false a b = record {
  falls = λ e. absurd (true≢false (sym e));
  same = λ e. b.same refl ∙ a.same refl;
  still = λ e c here. (a.still refl c here, subst (λ s. IsOther s c) (a.same refl) (b.still refl c here));
}

-- the classes of a place
pub of_place : (p c : ℕ) → c / 2 ≡ p → (c ≡ p * 2 + 1) ⊎ (c ≡ p * 2)
of_place p c e = cases (cases_eq c (p * 2))
  where
    cases : (c ≡ p * 2) ⊎ (c ≡ p * 2 → ⊥) → (c ≡ p * 2 + 1) ⊎ (c ≡ p * 2)
    cases (inl same) = inr same
    cases (inr other) = inl (omega (arith, e, other))

pub passed_next : (whole : Bool) (order : List ℕ) (count c : ℕ) → IsPassed whole order (count + 1) c → IsPassed whole order count c ⊎ IsVisited whole order count c
passed_next whole order count c (all, (i, below, at)) = cases (cases_eq i count)
  where
    cases : (i ≡ count) ⊎ (i ≡ count → ⊥) → IsPassed whole order count c ⊎ IsVisited whole order count c
    cases (inl same) = inr (all, subst (λ n. slice_get order n ≡ Some (c / 2)) same at)
    cases (inr other) = inl (all, (i, omega (arith, below, other), at))

-- a whole round comes by each class
pub passed_all : (g : Graph) (order : List ℕ) (c : ℕ) → length g.pairs % 2 ≡ 0 → IsOrder (places_of g) order → c < length g.pairs → IsPassed true order (length order) c
passed_all g order c even is below =
    let (i, inside, at) = is.whole (c / 2) (omega arith) in
    (refl, (i, inside, slice_get-get_or order i (c / 2) inside ∙ ap (λ n. Some n) at))

module _ {S : Type 0} (weight : S → ℕ) (IsStill : S → ℕ → Type 0) where
  -- a pass over each class of a place
  pub passes_place : (old first new : S) (p : ℕ) (one other : Bool) → Passes weight IsStill old first (λ c. c ≡ p * 2 + 1) one → Passes weight IsStill first new (λ c. c ≡ p * 2) other → Passes weight IsStill old new (λ c. c / 2 ≡ p) (other || one)
  passes_place old first new p one other a b =
      passes_fewer weight IsStill old new (λ n. (n ≡ p * 2 + 1) ⊎ (n ≡ p * 2)) (λ n. n / 2 ≡ p) (other || one) (of_place p) (passes_both weight IsStill old first new (λ n. n ≡ p * 2 + 1) (λ n. n ≡ p * 2) one other a b)

  -- a pass, and one more
  pub passes_again : (old mid new : S) (at : ℕ → Type 0) (one again : Bool) → Passes weight IsStill old mid at one → Passes weight IsStill mid new (λ c. ⊥) again → Passes weight IsStill old new at (again || one)
  passes_again old mid new at one again a b =
      passes_fewer weight IsStill old new (λ n. at n ⊎ ⊥) at (again || one) (λ n here. inl here) (passes_both weight IsStill old mid new at (λ n. ⊥) one again a b)

  -- a pass over the place of a visit
  pub passes_visit : (old new : S) (whole : Bool) (order : List ℕ) (number place : ℕ) (changed : Bool) → slice_get order number ≡ Some place → Passes weight IsStill old new (λ c. c / 2 ≡ place) changed → Passes weight IsStill old new (IsVisited whole order number) changed
  passes_visit old new whole order number place changed at pass =
      passes_fewer weight IsStill old new (λ c. c / 2 ≡ place) (IsVisited whole order number) changed (λ c here. same_Some (c / 2) place (sym here.1 ∙ at)) pass

  -- one more visit of a round
  pub passes_next : (old mid new : S) (whole : Bool) (order : List ℕ) (number : ℕ) (one other : Bool) → Passes weight IsStill old mid (IsPassed whole order number) one → Passes weight IsStill mid new (IsVisited whole order number) other → Passes weight IsStill old new (IsPassed whole order (number + 1)) (other || one)
  passes_next old mid new whole order number one other a b =
      passes_fewer weight IsStill old new (λ c. IsPassed whole order number c ⊎ IsVisited whole order number c) (IsPassed whole order (number + 1)) (other || one) (passed_next whole order number) (passes_both weight IsStill old mid new (IsPassed whole order number) (IsVisited whole order number) one other a b)

  -- a round that has made all its visits
  pub passes_round : (g : Graph) (old new : S) (whole : Bool) (order : List ℕ) (changed : Bool) → length g.pairs % 2 ≡ 0 → IsOrder (places_of g) order → Passes weight IsStill old new (IsPassed whole order (length order)) changed → Passes weight IsStill old new (λ c. (whole ≡ true) × (c < length g.pairs)) changed
  passes_round g old new whole order changed even is pass =
      passes_fewer weight IsStill old new (IsPassed whole order (length order)) (λ c. (whole ≡ true) × (c < length g.pairs)) changed (λ c here. subst (λ b. IsPassed b order (length order) c) (sym here.0) (passed_all g order c even is here.1)) pass

  -- a whole round that changed nothing
  pub passes_whole : (g : Graph) (old new : S) (changed : Bool) → Passes weight IsStill old new (λ c. (true ≡ true) × (c < length g.pairs)) changed → changed ≡ false → (c : ℕ) → c < length g.pairs → IsStill new c
  passes_whole g old new changed pass none c below = subst (λ s. IsStill s c) (sym (pass.same none)) (pass.still none c (refl, below))
