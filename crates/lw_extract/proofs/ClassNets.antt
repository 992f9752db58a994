-- Nets of classes, which are written one after another.
use Rattle.std.proofs.Common.{ℕ, ◌+◌, ◌<◌, ◌≤◌, ◌≡◌, ◌⊎◌, inl, inr, List, ◌++◌, length, Option, Some, None, IsSome, is_some, slice_get, slice_index_or, slice_set, refl, ap, sym, ◌∙◌, subst, arith, get_or-set_same, get_or-set_other}
use Rattle.std.proofs.lemmas.List.{length-set}
use Rattle.std.proofs.lemmas.Bool.{cases_eq}
use Rattle.std.proofs.lemmas.Option.{same_Some, slice_get_within}
use Rattle.lw_facts.proofs.Lists.{get_left, get_right}
use Rattle.lw_pool.specs.declared.id.NetId.{NetId}
use Rattle.lw_laws.specs.Graphs.{Graph}
use Rattle.lw_laws.specs.Extracts.{IsLeafClass, IsNetOf}
use Rattle.lw_laws.proofs.Lists.{slice_get_some}
use Rattle.lw_laws.proofs.Extracts.{slice_get_append}
use Rattle.lw_extract.specs.Nets.{Nets, AreInputNets, AreClassNets}

pub some_is : {X : Type 0} (o : Option X) (x : X) → o ≡ Some x → IsSome o
some_is o x e = ap is_some e

pub some_of : {X : Type 0} (o : Option X) → IsSome o → (x : X) × (o ≡ Some x)
some_of None h = absurd (cc)
some_of (Some x) h = (x, refl)

pub not_none : {X : Type 0} (o : Option X) → o ≡ None → IsSome o → ⊥
not_none o e h = let f = ap is_some e in cc

abbrev net_at : Nets → ℕ → Option NetId
net_at nets c = slice_index_or nets c None

-- a class that had a net has one behind a write
still_some : (nets : Nets) (k c : ℕ) (n : NetId) → k < length nets → IsSome (net_at nets c) → IsSome (net_at (slice_set nets k (Some n)) c)
still_some nets k c n inside h = by_case (cases_eq c k)
  where
    by_case : (c ≡ k) ⊎ (c ≡ k → ⊥) → IsSome (net_at (slice_set nets k (Some n)) c)
    by_case (inl same) = some_is (net_at (slice_set nets k (Some n)) c) n (ap (λ i. net_at (slice_set nets k (Some n)) i) same ∙ get_or-set_same nets k (Some n) None inside)
    by_case (inr other) = subst (λ o. IsSome o) (sym (get_or-set_other nets k c (Some n) None other)) h

-- what is written, or what was there
written_or : (nets : Nets) (k c : ℕ) (m n : NetId) → k < length nets → net_at (slice_set nets k (Some n)) c ≡ Some m → ((c ≡ k) × (m ≡ n)) ⊎ (net_at nets c ≡ Some m)
written_or nets k c m n inside e = by_case (cases_eq c k)
  where
    by_case : (c ≡ k) ⊎ (c ≡ k → ⊥) → ((c ≡ k) × (m ≡ n)) ⊎ (net_at nets c ≡ Some m)
    by_case (inl same) =
        let at : net_at (slice_set nets k (Some n)) c ≡ Some n = ap (λ i. net_at (slice_set nets k (Some n)) i) same ∙ get_or-set_same nets k (Some n) None inside in
        inl (same, same_Some m n (sym e ∙ at))
    by_case (inr other) = inr (sym (get_or-set_other nets k c (Some n) None other) ∙ e)

-- The first inputs have given their classes their nets.
pub record AreInputsUpTo (g : Graph) (count : ℕ) (nets : Nets) : Type 0 where
  pub one_each : length nets ≡ length g.pairs
  pub some : (c : ℕ) (n : NetId) → slice_index_or nets c None ≡ Some n → slice_get g.leaves n.0 ≡ Some c
  pub given : (i c : ℕ) → i < count → slice_get g.leaves i ≡ Some c → IsSome (slice_index_or nets c None)

module _ (g : Graph) where
  pub inputs_end : (count : ℕ) (nets : Nets) → length g.leaves ≤ count → AreInputsUpTo g count nets → AreInputNets g nets
  inputs_end count nets all are = record {
    one_each = are.one_each;
    some = are.some;
    none = λ c none (i, at). let inside = slice_get_within g.leaves i c at in let here = are.given i c (omega arith) at in not_none (net_at nets c) none here;
  }

-- The first gates have given their classes their nets, over those of the inputs.
pub record AreGatesUpTo (old : Nets) (inputs : ℕ) (classes : List ℕ) (count : ℕ) (nets : Nets) : Type 0 where
  pub one_each : length nets ≡ length old
  pub some : (c : ℕ) (n : NetId) → slice_index_or nets c None ≡ Some n → (slice_index_or old c None ≡ Some n) ⊎ ((j : ℕ) × (slice_get classes j ≡ Some c) × (n.0 ≡ inputs + j))
  pub kept : (c : ℕ) → IsSome (slice_index_or old c None) → IsSome (slice_index_or nets c None)
  pub given : (j c : ℕ) → j < count → slice_get classes j ≡ Some c → IsSome (slice_index_or nets c None)

module _ (old : Nets) (inputs : ℕ) (classes : List ℕ) where
  pub gates_more : (j c : ℕ) (nets : Nets) (n : NetId) → slice_get classes j ≡ Some c → c < length nets → n.0 ≡ inputs + j → AreGatesUpTo old inputs classes j nets → AreGatesUpTo old inputs classes (j + 1) (slice_set nets c (Some n))
  gates_more j c nets n here inside number are = record {
    one_each = length-set nets c (Some n) ∙ are.one_each;
    some = λ b m e. some_at b m (written_or nets c b m n inside e);
    kept = λ b h. still_some nets c b n inside (are.kept b h);
    given = λ i b below at. given_at i b below at (cases_eq i j);
  }
    where
      some_at : (b : ℕ) (m : NetId) → ((b ≡ c) × (m ≡ n)) ⊎ (net_at nets b ≡ Some m) → (slice_index_or old b None ≡ Some m) ⊎ ((k : ℕ) × (slice_get classes k ≡ Some b) × (m.0 ≡ inputs + k))
      some_at b m (inl (same, is)) = inr (j, here ∙ ap (λ k. Some k) (sym same), ap (λ (k : NetId). k.0) is ∙ number)
      some_at b m (inr before) = are.some b m before

      given_at : (i b : ℕ) → i < j + 1 → slice_get classes i ≡ Some b → (i ≡ j) ⊎ (i ≡ j → ⊥) → IsSome (net_at (slice_set nets c (Some n)) b)
      given_at i b below at (inl same) =
          let class : b ≡ c = same_Some b c (sym at ∙ (ap (λ k. slice_get classes k) same ∙ here)) in
          some_is (net_at (slice_set nets c (Some n)) b) n (ap (λ k. net_at (slice_set nets c (Some n)) k) class ∙ get_or-set_same nets c (Some n) None inside)
      given_at i b below at (inr other) = still_some nets c b n inside (are.given i b (omega arith) at)

  -- all gates have given their classes their nets
  pub gates_end : (count : ℕ) (nets : Nets) → length classes ≤ count → AreGatesUpTo old inputs classes count nets → (g : Graph) → length g.leaves ≡ inputs → AreInputNets g old → AreClassNets g classes nets
  gates_end count nets all are g one_input first = record {
    one_each = are.one_each ∙ first.one_each;
    some = λ c n e. some_at c n (are.some c n e);
    all = λ c n net. all_at c n (slice_get_append g.leaves classes n c net) net;
  }
    where
      some_at : (c : ℕ) (n : NetId) → (slice_index_or old c None ≡ Some n) ⊎ ((j : ℕ) × (slice_get classes j ≡ Some c) × (n.0 ≡ inputs + j)) → IsNetOf g classes c n.0
      some_at c n (inl before) = get_left g.leaves classes n.0 c (first.some c n before)
      some_at c n (inr (j, at, number)) =
          let place : length g.leaves + j ≡ n.0 = omega arith in
          subst (λ k. slice_get (g.leaves ++ classes) k ≡ Some c) place (get_right g.leaves classes j c at)

      old_some : (c : ℕ) (o : Option NetId) → net_at old c ≡ o → IsLeafClass g c → IsSome (net_at old c)
      old_some c None e leaf = absurd (first.none c e leaf)
      old_some c (Some n) e leaf = some_is (net_at old c) n e

      all_at : (c n : ℕ) → (n < length g.leaves) ⊎ ((i : ℕ) × (slice_get classes i ≡ Some c) × (n ≡ length g.leaves + i)) → IsNetOf g classes c n → IsSome (net_at nets c)
      all_at c n (inl lt) net =
          let (d, at) = slice_get_some g.leaves n lt in
          let same : d ≡ c = same_Some d c (sym (get_left g.leaves classes n d at) ∙ net) in
          are.kept c (old_some c (net_at old c) refl (n, at ∙ ap (λ k. Some k) same))
      all_at c n (inr (i, at, s)) net =
          let inside = slice_get_within classes i c at in
          are.given i c (omega arith) at
