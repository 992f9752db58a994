-- Settled facts with the same operands are equal.
use Rattle.std.proofs.Common.{ℕ, zero, suc, ◌+◌, ◌-◌, ◌/◌, ◌^◌, ◌<◌, ◌≤◌, ◌≡◌, ◌⊎◌, inl, inr, min, max, List, [], ◌∷◌, length, map, get_or, All, Contains, refl, ap, sym, ◌∙◌, subst, arith}
use Rattle.std.proofs.lemmas.List.Elements.{All-get_or, All-map, All-contains, Contains-get_or}
use Rattle.std.proofs.lemmas.List.Sorted.{All-permutation}
use Rattle.lw_facts.proofs.Numbers.{min_max_cases}
use Rattle.lw_reduce.specs.declared.facts.Fact.{Fact}
use Rattle.lw_reduce.specs.declared.facts.Link.{Link}
use Rattle.lw_reduce.specs.Representatives.{IsFactIn, rep_of}
use Rattle.lw_reduce.specs.Settling.{IsSettled, fact_key, no_fact, canonical_fact}
use Rattle.lw_reduce.proofs.Roots.{IsRoot}

pub fact_is : (p q : Fact) → p.form ≡ q.form → p.left ≡ q.left → p.right ≡ q.right → p ≡ q
fact_is p q x y z = λ i. record { form = x i; left = y i; right = z i }

-- equal keys have equal operands
pub key_operands : (p q : Fact) → p.right < 2 ^ 32 → q.right < 2 ^ 32 → fact_key p ≡ fact_key q → (p.left ≡ q.left) × (p.right ≡ q.right)
key_operands p q a b e = (omega arith, omega arith)

pub default_same : (xs : List Fact) (k : ℕ) (d e : Fact) → k < length xs → get_or xs k d ≡ get_or xs k e
default_same [] k d e lt = absurd (omega arith)
default_same (x ∷ xs) zero d e lt = refl
default_same (x ∷ xs) (suc k) d e lt = default_same xs k d e (omega arith)

-- a fact over roots, the lower operand first
pub record IsCanonical (reps : List ℕ) (r : Fact) : Type 0 where
  pub form : IsRoot reps r.form
  pub left : IsRoot reps r.left
  pub right : IsRoot reps r.right
  pub order : r.left ≤ r.right

module _ (n : ℕ) (nands : List Fact) (links : List Link) (reps : List ℕ) (canonical : List Fact) (is : IsSettled n nands links reps canonical) (few : n < 2 ^ 31) where
  root : (f : ℕ) → f / 2 < n → IsRoot reps (rep_of reps f)
  root f lt =
      let c = is.valid.count in
      record {
        within = subst (λ m. rep_of reps f / 2 < m) (sym c) (is.valid.sound f lt).0;
        own = is.flat f (subst (λ m. f / 2 < m) (sym c) lt);
      }

  pub fact_canonical : (p : Fact) → Contains nands p → IsCanonical reps (canonical_fact reps p)
  fact_canonical p listed =
      let in' = All-contains (IsFactIn n) nands p is.valid.nands_in listed in
      let l = root p.left in'.1 in
      let r = root p.right in'.2 in
      record {
        form = root p.form in'.0;
        left = by_low l r (min_max_cases (rep_of reps p.left) (rep_of reps p.right));
        right = by_high l r (min_max_cases (rep_of reps p.left) (rep_of reps p.right));
        order = omega arith;
      }
    where
      by_low : {a b : ℕ} → IsRoot reps a → IsRoot reps b → ((min a b ≡ a) × (max a b ≡ b)) ⊎ ((min a b ≡ b) × (max a b ≡ a)) → IsRoot reps (min a b)
      by_low l r (inl (e, f)) = subst (IsRoot reps) (sym e) l
      by_low l r (inr (e, f)) = subst (IsRoot reps) (sym e) r

      by_high : {a b : ℕ} → IsRoot reps a → IsRoot reps b → ((min a b ≡ a) × (max a b ≡ b)) ⊎ ((min a b ≡ b) × (max a b ≡ a)) → IsRoot reps (max a b)
      by_high l r (inl (e, f)) = subst (IsRoot reps) (sym f) r
      by_high l r (inr (e, f)) = subst (IsRoot reps) (sym f) l

  pub all_canonical : All (IsCanonical reps) canonical
  all_canonical =
      All-permutation (IsCanonical reps) (map (canonical_fact reps) nands) canonical is.permutation (All-map (IsCanonical reps) (canonical_fact reps) nands (λ k d lt. fact_canonical (get_or nands k d) (Contains-get_or nands k d lt)))

  canonical_at : (i : ℕ) → i < length canonical → IsCanonical reps (get_or canonical i no_fact)
  canonical_at i lt = All-get_or (IsCanonical reps) canonical i no_fact lt all_canonical

  small : (r : Fact) → IsCanonical reps r → r.right < 2 ^ 32
  small r own = let w = own.right.within in let c = is.valid.count in omega arith

  -- settled facts with the same operands are equal
  run : (i k : ℕ) → i + k < length canonical → fact_key (get_or canonical i no_fact) ≡ fact_key (get_or canonical (i + k) no_fact) → get_or canonical i no_fact ≡ get_or canonical (i + k) no_fact
  run i zero lt e = let z : i ≡ i + 0 = omega arith in ap (λ j. get_or canonical j no_fact) z
  run i (suc k) lt e =
      let s1 = is.sorted i (i + k) no_fact (omega arith) (omega arith) in
      let s2 = is.sorted (i + k) (i + suc k) no_fact (omega arith) lt in
      let ih = run i k (omega arith) (omega arith) in
      let p = get_or canonical (i + k) no_fact in
      let q = get_or canonical (i + suc k) no_fact in
      let np = canonical_at (i + k) (omega arith) in
      let nq = canonical_at (i + suc k) lt in
      let (l, r) = key_operands p q (small p np) (small q nq) (omega arith) in
      let m : i + suc k - 1 ≡ i + k = omega arith in
      let a = subst (λ j. (get_or canonical j no_fact).left ≡ q.left → (get_or canonical j no_fact).right ≡ q.right → rep_of reps (get_or canonical j no_fact).form ≡ rep_of reps q.form) m (is.agree (i + suc k) (omega arith) lt) in
      ih ∙ fact_is p q (sym np.form.own ∙ (a l r ∙ nq.form.own)) l r

  pub same_rows : (i j : ℕ) → i ≤ j → j < length canonical → fact_key (get_or canonical i no_fact) ≡ fact_key (get_or canonical j no_fact) → get_or canonical i no_fact ≡ get_or canonical j no_fact
  same_rows i j le lt e =
      let s : j ≡ i + (j - i) = omega arith in
      subst (λ k. get_or canonical i no_fact ≡ get_or canonical k no_fact) (sym s) (run i (j - i) (omega arith) (e ∙ ap (λ k. fact_key (get_or canonical k no_fact)) s))
