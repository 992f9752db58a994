-- A draft with one more fact or link, and how its samples keep forms and their complements apart.
use Rattle.std.proofs.Common.{ℕ, suc, zero, ◌*◌, ◌/◌, ◌%◌, ◌-◌, ◌^◌, ◌<◌, ◌≡◌, ◌==◌, not, Bool, true, false, List, [], ◌∷◌, ◌++◌, length, map, get_or, slice_index, All, Contains, refl, ap, sym, ◌∙◌, subst, arith, if◌then◌else◌, inl}
use Rattle.std.specs.Prelude.{slice_index_or}
use Rattle.std.proofs.lemmas.List.{map-append, length-append}
use Rattle.std.proofs.lemmas.List.Elements.{All-append, All-contains, Contains-get_or}
use Rattle.lw_facts.proofs.Lists.{contains_map}
use Rattle.lw_laws.specs.Families.{Equivalent}
use Rattle.lw_laws.specs.Families.Equivalent.{same}
use Rattle.lw_laws.specs.Flip.{flip}
use Rattle.lw_laws.specs.Truth.{IsValuation}
use Rattle.lw_laws.proofs.Flips.{half-flip, odd-flip}
use Rattle.lw_laws.proofs.Truths.{flip_not_equivalent}
use Rattle.lw_reduce.specs.declared.facts.Fact.{Fact}
use Rattle.lw_reduce.specs.declared.facts.Link.{Link}
use Rattle.lw_reduce.specs.Drafting.{FitsLink, FitsNand, IsDraft, plain_draft, plain_fact, plain_link, sample_of}
use Rattle.lw_reduce.specs.Representatives.{AreRepresentatives, family, rep_of}
use Rattle.lw_reduce.proofs.RepLemmas.{in_phase_half}

all_one : {X : Type 0} (P : X → Type 0) (y : X) → P y → All P (y ∷ [])
all_one P y p zero d lt = p
all_one P y p (suc k) d lt = absurd (omega arith)

pub nand_kept : (inputs : ℕ) (samples : List Bool) (nands : List Fact) (links : List Link) (p : Fact) (new : List Fact) → IsDraft (plain_draft inputs samples nands links) → FitsNand samples (plain_fact p) → length (map plain_fact nands) < 2 ^ 32 - 2 → new ≡ nands ++ p ∷ [] → IsDraft (plain_draft inputs samples new links)
nand_kept inputs samples nands links p new is fits room e = record {
  inputs = is.inputs;
  few_inputs = is.few_inputs;
  few = is.few;
  few_nands = let n = ap length (ap (map plain_fact) e ∙ map-append plain_fact nands (p ∷ [])) in let m = length-append (map plain_fact nands) (plain_fact p ∷ []) in omega arith;
  nands = subst (λ ps. All (FitsNand samples) ps) (sym (ap (map plain_fact) e ∙ map-append plain_fact nands (p ∷ []))) (All-append (FitsNand samples) (map plain_fact nands) (plain_fact p ∷ []) is.nands (all_one (FitsNand samples) (plain_fact p) fits));
  links = is.links;
}

pub link_kept : (inputs : ℕ) (samples : List Bool) (nands : List Fact) (links : List Link) (l : Link) (new : List Link) → IsDraft (plain_draft inputs samples nands links) → FitsLink samples (plain_link l) → new ≡ links ++ l ∷ [] → IsDraft (plain_draft inputs samples nands new)
link_kept inputs samples nands links l new is fits e = record {
  inputs = is.inputs;
  few_inputs = is.few_inputs;
  few = is.few;
  few_nands = is.few_nands;
  nands = is.nands;
  links = subst (λ ls. All (FitsLink samples) ls) (sym (ap (map plain_link) e ∙ map-append plain_link links (l ∷ []))) (All-append (FitsLink samples) (map plain_link links) (plain_link l ∷ []) is.links (all_one (FitsLink samples) (plain_link l) fits));
}

-- the sample value of a complement
sample_by_digit : (r : ℕ) (s : Bool) → r < 2 → (if 1 - r == 0 then s else not s) ≡ not (if r == 0 then s else not s)
sample_by_digit zero s lt = refl
sample_by_digit (suc zero) true lt = refl
sample_by_digit (suc zero) false lt = refl
sample_by_digit (suc (suc r)) s lt = absurd (omega arith)

pub sample_of-flip : (samples : List Bool) (f : ℕ) → sample_of samples (flip f) ≡ not (sample_of samples f)
sample_of-flip samples f =
    rw (half-flip f, odd-flip f) (sample_by_digit (f % 2) (slice_index_or samples (f / 2) false) (omega arith))

-- what holds of the plain facts of a draft
module _ (inputs : ℕ) (samples : List Bool) (nands : List Fact) (links : List Link) (is : IsDraft (plain_draft inputs samples nands links)) where
  fits_nand : (p : Fact) → Contains nands p → FitsNand samples (plain_fact p)
  fits_nand p c =
      All-contains (FitsNand samples) (map plain_fact nands) (plain_fact p) is.nands (contains_map plain_fact nands p c)

  fits_link : (l : Link) → Contains links l → FitsLink samples (plain_link l)
  fits_link l c =
      All-contains (FitsLink samples) (map plain_link links) (plain_link l) is.links (contains_map plain_link links l c)

  valuation : IsValuation (family (length samples) nands links) (λ i. false) (sample_of samples)
  valuation = record {
    inputs = λ f i h. absurd h;
    tops = λ f h. absurd h;
    flips = sample_of-flip samples;
    splits = λ f a b c. (fits_nand (record { form = f; left = a; right = b }) c).fits;
    links = λ f h c. (fits_link (record { left = f; right = h }) c).fits;
  }

  -- each base form is its own representative
  pub own_valid : (reps : List ℕ) → length reps ≡ length samples → ((b : ℕ) → b < length samples → slice_index reps b ≡ 2 * b) → AreRepresentatives (length reps) nands links reps
  own_valid reps count own = subst (λ n. AreRepresentatives n nands links reps) (sym count) (record {
    count = count;
    sound = λ f lt. let e : rep_of reps f ≡ f = ap (λ s. if f % 2 == 0 then s else flip s) (own (f / 2) lt) ∙ in_phase_half f in (subst (λ k. k / 2 < length samples) (sym e) lt, subst (λ k. Equivalent (family (length samples) nands links) f k) (sym e) (same lt));
    lower = λ b lt. inl (own b lt);
    nands_in = λ k d lt. let c = fits_nand (get_or nands k d) (Contains-get_or nands k d lt) in (c.form, c.left, c.right);
    links_in = λ k d lt. let c = fits_link (get_or links k d) (Contains-get_or links k d lt) in (c.left, c.right);
    consistent = λ f e. flip_not_equivalent (family (length samples) nands links) (λ i. false) (sample_of samples) valuation f e;
  })
