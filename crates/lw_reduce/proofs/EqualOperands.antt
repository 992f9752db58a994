-- Facts whose operands are equivalent have equivalent forms.
use Rattle.std.proofs.Common.{ℕ, zero, suc, ◌-◌, ◌<◌, ◌≤◌, ◌≡◌, ◌≢◌, inl, inr, List, length, get_or, slice_index, All, Contains, Some, slice_get, refl, sym, subst, arith}
use Rattle.std.proofs.lemmas.List.Elements.{All-get_or, Contains-get_or}
use Rattle.std.proofs.lemmas.Option.{get_or_from_slice_get, none-some, slice_get-get_or, slice_get_within}
use Rattle.lw_laws.specs.Families.{Equivalent}
use Rattle.lw_laws.specs.Families.Equivalent.{turned as turned_by, joined, nanded}
use Rattle.lw_reduce.specs.declared.facts.Fact.{Fact}
use Rattle.lw_reduce.specs.declared.facts.Link.{Link}
use Rattle.lw_reduce.specs.Representatives.{family, HasOperands}
use Rattle.lw_reduce.specs.Lookups.{HasFact, entry_fact}
use Rattle.lw_reduce.specs.Settling.{IsImplied, no_fact}

pub equal_operands_alike : (n : ℕ) (nands : List Fact) (links : List Link) (p q : Fact) (low high : ℕ) → Contains nands p → Contains nands q → HasOperands n nands links p low high → HasOperands n nands links q low high → Equivalent (family n nands links) p.form q.form
equal_operands_alike n nands links p q low high a b (inl (c, d)) (inl (e, f)) =
    nanded (inl a) (inl b) (joined c (turned_by e)) (joined d (turned_by f))
equal_operands_alike n nands links p q low high a b (inl (c, d)) (inr (e, f)) =
    nanded (inl a) (inr b) (joined c (turned_by f)) (joined d (turned_by e))
equal_operands_alike n nands links p q low high a b (inr (c, d)) (inl (e, f)) =
    nanded (inl a) (inr b) (joined c (turned_by f)) (joined d (turned_by e))
equal_operands_alike n nands links p q low high a b (inr (c, d)) (inr (e, f)) =
    nanded (inl a) (inl b) (joined c (turned_by e)) (joined d (turned_by f))

-- the place of the fact of an entry of the table
pub entry_place : (nands : List Fact) (slots : List ℕ) (slot : ℕ) → All (λ e. e ≤ length nands) slots → slot < length slots → slice_index slots slot ≢ 0 → slice_index slots slot - 1 < length nands
entry_place nands slots slot places lt ne =
    let in' = All-get_or (λ e. e ≤ length nands) slots slot 0 lt places in
    omega arith

-- the fact of such an entry, which is a listed one
pub entry_is : (nands : List Fact) (entry : ℕ) → entry ≢ 0 → entry - 1 < length nands → Some (get_or nands (entry - 1) no_fact) ≡ entry_fact nands entry
entry_is nands zero ne lt = absurd (ne refl)
entry_is nands (suc place) ne lt =
    let e : place ≡ suc place - 1 = omega arith in
    subst (λ k. Some (get_or nands k no_fact) ≡ slice_get nands place) e (sym (slice_get-get_or nands place no_fact (omega (arith, lt))))

pub entry_listed : (nands : List Fact) (entry : ℕ) (f : Fact) → Some f ≡ entry_fact nands entry → Contains nands f
entry_listed nands zero f e = absurd (none-some f (sym e))
entry_listed nands (suc place) f e =
    subst (Contains nands) (get_or_from_slice_get nands place f no_fact (sym e)) (Contains-get_or nands place no_fact (slice_get_within nands place f (sym e)))

-- a fact and one that was looked up with the same operands
pub lookup_alike : (n m k : ℕ) (nands : List Fact) (links : List Link) (place low high form : ℕ) (d : Fact) → m ≡ n → k ≡ n → place < length nands → HasOperands n nands links (get_or nands place d) low high → HasFact m nands links low high form → Equivalent (family k nands links) (get_or nands place d).form form
lookup_alike n m k nands links place low high form d s t lt operands found =
    let (q, listed, other, is) = subst (λ j. HasFact j nands links low high form) s found in
    let e = equal_operands_alike n nands links (get_or nands place d) q low high (Contains-get_or nands place d lt) listed operands other in
    subst (λ j. Equivalent (family j nands links) (get_or nands place d).form form) (sym t) (subst (λ g. Equivalent (family n nands links) (get_or nands place d).form g) is e)

-- canonical facts at two places with the same operands
pub rows_alike : (n : ℕ) (nands : List Fact) (links : List Link) (canonical : List Fact) (place : ℕ) → All (IsImplied n nands links) canonical → place < length canonical → (get_or canonical (place - 1) no_fact).left ≡ (get_or canonical place no_fact).left → (get_or canonical (place - 1) no_fact).right ≡ (get_or canonical place no_fact).right → Equivalent (family n nands links) (get_or canonical (place - 1) no_fact).form (get_or canonical place no_fact).form
rows_alike n nands links canonical place all lt l r =
    let p = get_or canonical (place - 1) no_fact in
    let q = get_or canonical place no_fact in
    let a = All-get_or (IsImplied n nands links) canonical (place - 1) no_fact (omega arith) all in
    let b = All-get_or (IsImplied n nands links) canonical place no_fact lt all in
    let operands : HasOperands n nands links a.fact q.left q.right = subst (λ k. HasOperands n nands links a.fact q.left k) r (subst (λ k. HasOperands n nands links a.fact k p.right) l a.operands) in
    joined (turned_by a.alike) (joined (equal_operands_alike n nands links a.fact b.fact q.left q.right a.listed b.listed operands b.operands) b.alike)

-- a fact and a canonical one with the same operands
pub row_alike : (n k : ℕ) (nands : List Fact) (links : List Link) (canonical : List Fact) (place low high i : ℕ) → k ≡ n → All (IsImplied n nands links) canonical → place < length nands → i < length canonical → (get_or canonical i no_fact).left ≡ low → (get_or canonical i no_fact).right ≡ high → HasOperands n nands links (get_or nands place no_fact) low high → Equivalent (family k nands links) (get_or nands place no_fact).form (get_or canonical i no_fact).form
row_alike n k nands links canonical place low high i t all lt in' l r operands =
    let q = get_or canonical i no_fact in
    let b = All-get_or (IsImplied n nands links) canonical i no_fact in' all in
    let other : HasOperands n nands links b.fact low high = subst (λ h. HasOperands n nands links b.fact low h) r (subst (λ h. HasOperands n nands links b.fact h q.right) l b.operands) in
    let e = joined (equal_operands_alike n nands links (get_or nands place no_fact) b.fact low high (Contains-get_or nands place no_fact lt) b.listed operands other) b.alike in
    subst (λ j. Equivalent (family j nands links) (get_or nands place no_fact).form q.form) (sym t) e

pub operands_at : (n m : ℕ) (nands : List Fact) (links : List Link) (p : Fact) (low high : ℕ) → m ≡ n → HasOperands n nands links p low high → HasOperands m nands links p low high
operands_at n m nands links p low high e operands = subst (λ k. HasOperands k nands links p low high) (sym e) operands
