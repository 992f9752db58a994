-- A round that unifies nothing has given equivalent forms one representative.
use Rattle.std.proofs.Common.{ℕ, ◌+◌, ◌/◌, ◌<◌, ◌≤◌, ◌≡◌, ◌⊎◌, inl, inr, min, max, List, length, map, get_or, All, Contains, sym, ◌∙◌, subst, arith}
use native.Mathlib.Decide.{ℕ_discrete}
use Rattle.std.specs.List.Sorted.{IsNonDecreasingBy, IsPermutation}
use Rattle.std.proofs.lemmas.List.Elements.{All-map, All-contains, Contains-get_or}
use Rattle.std.proofs.lemmas.List.Sorted.{All-permutation}
use Rattle.lw_facts.proofs.Numbers.{min_max_cases}
use Rattle.lw_laws.specs.Families.{Equivalent}
use Rattle.lw_reduce.specs.declared.facts.Fact.{Fact}
use Rattle.lw_reduce.specs.declared.facts.Link.{Link}
use Rattle.lw_reduce.specs.Representatives.{AreRepresentatives, HasOperands, IsFlat, LinkAgrees, family, rep_of}
use Rattle.lw_reduce.specs.Settling.{AgreesAt, IsImplied, IsSettled, fact_key, canonical_fact}

module _ (n : ℕ) (nands : List Fact) (links : List Link) where
  -- the operands of a fact are equivalent to these forms, the lower one first
  pub operands_in_order : (p : Fact) (x y : ℕ) → Equivalent (family n nands links) p.left x → Equivalent (family n nands links) p.right y → HasOperands n nands links p (min x y) (max x y)
  operands_in_order p x y l r = by_order (min_max_cases x y)
    where
      by_order : ((min x y ≡ x) × (max x y ≡ y)) ⊎ ((min x y ≡ y) × (max x y ≡ x)) → HasOperands n nands links p (min x y) (max x y)
      by_order (inl (e, f)) =
          inl (subst (λ k. Equivalent (family n nands links) p.left k) (sym e) l, subst (λ k. Equivalent (family n nands links) p.right k) (sym f) r)
      by_order (inr (e, f)) =
          inr (subst (λ k. Equivalent (family n nands links) p.left k) (sym f) l, subst (λ k. Equivalent (family n nands links) p.right k) (sym e) r)

  pub fact_implied : (reps : List ℕ) (p : Fact) → AreRepresentatives n nands links reps → Contains nands p → IsImplied n nands links (canonical_fact reps p)
  fact_implied reps p valid listed =
      let in' = All-contains (λ q. (q.form / 2 < n) × (q.left / 2 < n) × (q.right / 2 < n)) nands p valid.nands_in listed in
      let f = valid.sound p.form in'.0 in
      let l = valid.sound p.left in'.1 in
      let r = valid.sound p.right in'.2 in
      record {
        fact = p;
        listed = listed;
        alike = f.1;
        operands = operands_in_order p (rep_of reps p.left) (rep_of reps p.right) l.1 r.1;
        within = f.0;
      }

  pub all_implied : (reps : List ℕ) (canonical : List Fact) → AreRepresentatives n nands links reps → IsPermutation (map (canonical_fact reps) nands) canonical → All (IsImplied n nands links) canonical
  all_implied reps canonical valid perm =
      All-permutation (IsImplied n nands links) (map (canonical_fact reps) nands) canonical perm (All-map (IsImplied n nands links) (canonical_fact reps) nands (λ k d lt. fact_implied reps (get_or nands k d) valid (Contains-get_or nands k d lt)))

  pub settled : (fl mid new : List ℕ) (canonical : List Fact) → AreRepresentatives n nands links new → IsFlat fl → (mid ≡ fl) × All (LinkAgrees fl) links → (IsFlat mid → (new ≡ mid) × ((place : ℕ) → 1 ≤ place → place < length canonical → AgreesAt mid canonical place)) → IsPermutation (map (canonical_fact mid) nands) canonical → IsNonDecreasingBy fact_key canonical → IsSettled n nands links new canonical
  settled fl mid new canonical valid flat (m, linked) more perm sorted =
      let flat' = subst IsFlat (sym m) flat in
      let (s, agree) = more flat' in
      record {
        valid = valid;
        flat = subst IsFlat (sym s) flat';
        linked = subst (λ ns. All (LinkAgrees ns) links) (sym s) (subst (λ ns. All (LinkAgrees ns) links) (sym m) linked);
        permutation = subst (λ ns. IsPermutation (map (canonical_fact ns) nands) canonical) (sym s) perm;
        sorted = sorted;
        agree = subst (λ ns. (place : ℕ) → 1 ≤ place → place < length canonical → AgreesAt ns canonical place) (sym s) agree;
      }

  pub agree_next : (old mid new : List ℕ) (canonical : List Fact) (i : ℕ) → IsFlat old → (mid ≡ old) × ((place : ℕ) → 1 ≤ place → place < i → AgreesAt old canonical place) → (IsFlat mid → (new ≡ mid) × AgreesAt mid canonical i) → (new ≡ old) × ((place : ℕ) → 1 ≤ place → place < i + 1 → AgreesAt old canonical place)
  agree_next old mid new canonical i flat (m, agree) more =
      let (s, here) = more (subst IsFlat (sym m) flat) in
      (s ∙ m, λ place a b. by_place place a b (ℕ_discrete place i) (subst (λ ns. AgreesAt ns canonical i) m here))
    where
      by_place : (place : ℕ) → 1 ≤ place → place < i + 1 → Dec (place ≡ i) → AgreesAt old canonical i → AgreesAt old canonical place
      by_place place a b (yes e) here = subst (λ k. AgreesAt old canonical k) (sym e) here
      by_place place a b (no ne) here = agree place a (omega arith)
