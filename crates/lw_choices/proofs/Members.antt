-- The pins of groups are listed, one group after another.
use Rattle.std.proofs.Common.{◌≡◌, ℕ, ◌+◌, ◌<◌, ◌≤◌, ◌⊎◌, inl, inr, length, List, [], ◌∷◌, ◌++◌, Some, None, option_map, slice_get, slice_index_or, refl, ap, sym, ◌∙◌, subst, arith}
use native.Mathlib.Decide.{ℕ_discrete}
use Rattle.std.proofs.lemmas.Bool.{cases_lt}
use Rattle.std.proofs.lemmas.Option.{same_Some, slice_get-map, slice_get_within}
use Rattle.lw_facts.proofs.Lists.{index_at}
use Rattle.lw_choices.specs.Chains.{IsLast}
use Rattle.lw_choices.specs.GroupChoices.{IsBetween, IsGroupListed, AreMembersListed, AreOwnersAdded, AreOwnersListed, owners_of}
use Rattle.lw_choices.proofs.Lists.{get_last, get_push, length_push, push_cases}

pub owners_push : (owners places : List ℕ) (j : ℕ) → owners_of owners (places ++ j ∷ []) ≡ owners_of owners places ++ slice_index_or owners j 0 ∷ []
owners_push owners [] j = refl
owners_push owners (p ∷ places) j = ap (λ xs. slice_index_or owners p 0 ∷ xs) (owners_push owners places j)

-- the choice of the pin at a place
pub owner_at : (owners numbers places : List ℕ) (k j : ℕ) → numbers ≡ owners_of owners places → slice_get places k ≡ Some j → slice_get numbers k ≡ Some (slice_index_or owners j 0)
owner_at owners numbers places k j numbers_are kt =
    ap (λ ns. slice_get ns k) numbers_are ∙ (slice_get-map (λ i. slice_index_or owners i 0) places k ∙ ap (option_map (λ i. slice_index_or owners i 0)) kt)

pub owner_is : (owners numbers places : List ℕ) (k j n : ℕ) → numbers ≡ owners_of owners places → slice_get places k ≡ Some j → slice_get owners j ≡ Some n → slice_get numbers k ≡ Some n
owner_is owners numbers places k j n numbers_are kt nt =
    owner_at owners numbers places k j numbers_are kt ∙ ap Some (index_at owners j n nt)

-- The pins of a group from a bound on were appended.
pub record IsListing (groups : List ℕ) (g bound : ℕ) (old new : List ℕ) : Type 0 where
  pub longer : length old ≤ length new
  pub kept : (k j : ℕ) → slice_get old k ≡ Some j → slice_get new k ≡ Some j
  pub all : (j : ℕ) → bound ≤ j → slice_get groups j ≡ Some g → IsBetween new (length old) (length new) j

module _ (groups : List ℕ) (g : ℕ) (old : List ℕ) where
  listing_first : IsListing groups g (length groups) old old
  listing_first = record {
    longer = omega arith;
    kept = λ k j at. at;
    all = λ j le jt. let lt = slice_get_within groups j g jt in absurd (omega arith);
  }

  listing_next : (new : List ℕ) (bound place : ℕ) → IsLast groups g bound (Some place) → IsListing groups g bound old new → IsListing groups g place old (new ++ place ∷ [])
  listing_next new bound place last is = record {
    longer = let size = length_push new place in omega (arith, size, is.longer);
    kept = λ k j kt. get_push new place k j (is.kept k j kt);
    all = λ j le jt. by_case j le jt (ℕ_discrete j place);
  }
    where
      keep : (j : ℕ) → IsBetween new (length old) (length new) j → IsBetween (new ++ place ∷ []) (length old) (length (new ++ place ∷ [])) j
      keep j (k, low, high, kt) =
          let size = length_push new place in
          (k, low, omega (arith, size, high), get_push new place k j kt)

      by_case : (j : ℕ) → place ≤ j → slice_get groups j ≡ Some g → Dec (j ≡ place) → IsBetween (new ++ place ∷ []) (length old) (length (new ++ place ∷ [])) j
      by_case j le jt (yes e) =
          let size = length_push new place in
          (length new, is.longer, omega (arith, size), get_last new place ∙ ap Some (sym e))
      by_case j le jt (no ne) = by_bound (cases_lt j bound)
        where
          by_bound : (j < bound) ⊎ (bound ≤ j) → IsBetween (new ++ place ∷ []) (length old) (length (new ++ place ∷ [])) j
          by_bound (inl lt) = absurd (last.2 j (omega arith) lt jt)
          by_bound (inr ge) = keep j (is.all j ge jt)

  listing_over : (new : List ℕ) (bound : ℕ) → IsLast groups g bound None → IsListing groups g bound old new → IsGroupListed groups g old new
  listing_over new bound none is = record {
    longer = is.longer;
    kept = is.kept;
    all = λ j jt. by_bound j jt (cases_lt j bound);
  }
    where
      by_bound : (j : ℕ) → slice_get groups j ≡ Some g → (j < bound) ⊎ (bound ≤ j) → IsBetween new (length old) (length new) j
      by_bound j jt (inl lt) = absurd (none j (omega arith) lt jt)
      by_bound j jt (inr ge) = is.all j ge jt

-- The choices of these pins were.
abbrev pub AreAdding : List ℕ → List ℕ → ℕ → ℕ → List ℕ → List ℕ → Type 0
AreAdding groups owners g bound old new =
    (places : List ℕ) → old ≡ owners_of owners places → (more : List ℕ) × (new ≡ owners_of owners more) × IsListing groups g bound places more

module _ (groups owners : List ℕ) (g : ℕ) (old : List ℕ) where
  pub adding_first : AreAdding groups owners g (length groups) old old
  adding_first places e = (places, e, listing_first groups g places)

  pub adding_next : (new : List ℕ) (bound place : ℕ) → IsLast groups g bound (Some place) → AreAdding groups owners g bound old new → AreAdding groups owners g place old (new ++ slice_index_or owners place 0 ∷ [])
  adding_next new bound place last are places e =
      let (more, new_is, is) = are places e in
      (more ++ place ∷ [], ap (λ xs. xs ++ slice_index_or owners place 0 ∷ []) new_is ∙ sym (owners_push owners more place), listing_next groups g places more bound place last is)

  pub adding_over : (new : List ℕ) (bound : ℕ) → IsLast groups g bound None → AreAdding groups owners g bound old new → AreOwnersAdded groups owners g old new
  adding_over new bound none are places e =
      let (more, new_is, is) = are places e in
      (more, new_is, listing_over groups g places more bound none is)

-- The first groups were listed, and the last of them up to the end.
pub record AreListedTo (groups : List ℕ) (count : ℕ) (starts places : List ℕ) : Type 0 where
  pub one_each : length starts ≡ count
  pub low : (g first : ℕ) → slice_get starts g ≡ Some first → first ≤ length places
  pub all : (g first end j : ℕ) → slice_get starts g ≡ Some first → slice_get starts (g + 1) ≡ Some end → slice_get groups j ≡ Some g → IsBetween places first end j
  pub last : (g first j : ℕ) → g + 1 ≡ count → slice_get starts g ≡ Some first → slice_get groups j ≡ Some g → IsBetween places first (length places) j

abbrev pub AreOwnersTo : List ℕ → List ℕ → ℕ → List ℕ → List ℕ → Type 0
AreOwnersTo groups owners count starts numbers =
    (places : List ℕ) × (numbers ≡ owners_of owners places) × AreListedTo groups count starts places

pub length_owners : (owners places : List ℕ) → ◌≡◌ {A = ℕ} (length (owners_of owners places)) (length places)
length_owners owners [] = refl
length_owners owners (p ∷ places) = let ih = length_owners owners places in omega (arith, ih)

module _ (groups owners : List ℕ) where
  pub listed_none : AreOwnersTo groups owners 0 [] []
  listed_none = (
    [],
    refl,
    record {
      one_each = refl;
      low = λ g first at. cc;
      all = λ g first end j at et jt. cc;
      last = λ g first j e at jt. cc;
    },
  )

  started : (count : ℕ) (starts places : List ℕ) (begin : ℕ) → begin ≡ length places → AreListedTo groups count starts places → AreMembersListed groups count (starts ++ begin ∷ []) places
  started count starts places begin here are = record {
    one_more = length_push starts begin ∙ ap (λ n. n + 1) are.one_each;
    low = λ g first at. low g first (push_cases starts begin g first at);
    all = λ g first end j at et jt. by_end g first end j (push_cases starts begin g first at) (push_cases starts begin (g + 1) end et) jt;
  }
    where
      low : (g first : ℕ) → (slice_get starts g ≡ Some first) ⊎ ((g ≡ length starts) × (begin ≡ first)) → first ≤ length places
      low g first (inl at) = are.low g first at
      low g first (inr (e, f)) = omega (arith, f, here)

      by_end : (g first end j : ℕ) → (slice_get starts g ≡ Some first) ⊎ ((g ≡ length starts) × (begin ≡ first)) → (slice_get starts (g + 1) ≡ Some end) ⊎ ((g + 1 ≡ length starts) × (begin ≡ end)) → slice_get groups j ≡ Some g → IsBetween places first end j
      by_end g first end j (inl at) (inl et) jt = are.all g first end j at et jt
      by_end g first end j (inl at) (inr (e, f)) jt = subst (λ m. IsBetween places first m j) (sym here ∙ f) (are.last g first j (e ∙ are.one_each) at jt)
      by_end g first end j (inr (e, f)) (inl et) jt = let lt = slice_get_within starts (g + 1) end et in absurd (omega arith)
      by_end g first end j (inr (e, f)) (inr (e', f')) jt = absurd (omega arith)

  -- it is noted where the next group begins
  pub listed_started : (count : ℕ) (starts numbers : List ℕ) (begin : ℕ) → begin ≡ length numbers → AreOwnersTo groups owners count starts numbers → AreOwnersListed groups owners count (starts ++ begin ∷ []) numbers
  listed_started count starts numbers begin here (places, e, are) =
      (places, e, started count starts places begin (here ∙ (ap length e ∙ length_owners owners places)) are)

  more_listed : (count : ℕ) (starts places new : List ℕ) → AreMembersListed groups count starts places → slice_get starts count ≡ Some (length places) → IsGroupListed groups count places new → AreListedTo groups (count + 1) starts new
  more_listed count starts places new are here listed = record {
    one_each = are.one_more;
    low = λ g first at. let le = are.low g first at in omega (arith, le, listed.longer);
    all = λ g first end j at et jt. keep j first end (are.all g first end j at et jt);
    last = λ g first j e at jt. last g first j (omega arith) at jt;
  }
    where
      keep : (j first end : ℕ) → IsBetween places first end j → IsBetween new first end j
      keep j first end (k, low, high, kt) = (k, low, high, listed.kept k j kt)

      last : (g first j : ℕ) → g ≡ count → slice_get starts g ≡ Some first → slice_get groups j ≡ Some g → IsBetween new first (length new) j
      last g first j e at jt =
          let same : length places ≡ first = same_Some (length places) first (sym here ∙ (ap (slice_get starts) (sym e) ∙ at)) in
          subst (λ m. IsBetween new m (length new) j) same (listed.all j (subst (λ h. slice_get groups j ≡ Some h) e jt))

  -- the next group is listed
  pub listed_more : (count : ℕ) (starts numbers new : List ℕ) → AreOwnersListed groups owners count starts numbers → slice_get starts count ≡ Some (length numbers) → AreOwnersAdded groups owners count numbers new → AreOwnersTo groups owners (count + 1) starts new
  listed_more count starts numbers new (places, e, are) here added =
      let (more, new_is, listed) = added places e in
      let here' = here ∙ ap Some (ap length e ∙ length_owners owners places) in
      (more, new_is, more_listed count starts places more are here' listed)

-- the choices of each group end among the numbers
pub listed_low : (groups owners : List ℕ) (count : ℕ) (starts numbers : List ℕ) → AreOwnersListed groups owners count starts numbers → (g first : ℕ) → slice_get starts g ≡ Some first → first ≤ length numbers
listed_low groups owners count starts numbers (places, e, are) g first at =
    let low = are.low g first at in
    let size : length numbers ≡ length places = ap length e ∙ length_owners owners places in
    omega (arith, low, size)
