-- One more base form, split or link.
use Rattle.std.proofs.Common.{◌≡◌, ◌+◌, ◌-◌, ◌*◌, ◌/◌, ◌%◌, ◌^◌, ◌<◌, ◌≤◌, ◌⊎◌, inl, inr, ℕ, zero, suc, Bool, true, false, not, ◌&&◌, List, [], ◌∷◌, ◌++◌, length, Option, Some, Contains, slice_get, slice_index, slice_index_or, replicate, refl, ap, ap₂, sym, ◌∙◌, subst, arith, if◌then◌else◌, ◌==◌}
use native.Mathlib.Decide.{dec_lt}
use Rattle.std.proofs.lemmas.List.Elements.{Contains-append_left, Contains-push, Contains-push_cases}
use Rattle.lw_form.proofs.Parts.{unpicked, cut_by}
use Rattle.lw_facts.proofs.Lists.{falses_at}
use Rattle.lw_laws.specs.Modes.{Mode}
use Rattle.lw_laws.specs.Modes.Mode.{plain, idempotent}
use Rattle.lw_laws.specs.NumberedForms.{Base, NumberedForms, IsPart, IsCutOf, IsSplitOf, NumberOccurs, IsSignal}
use Rattle.lw_laws.specs.NumberedForms.Base.{base_true, base_input, base_and}
use Rattle.lw_laws.specs.NumberedValues.{AreNumberedValues}
use Rattle.lw_laws.specs.Drafts.{Draft, NandFact, FormLink}
use Rattle.lw_laws.proofs.Flips.{flip_even}
use Rattle.lw_laws.proofs.NumberedForms.{splits_occur}
use Rattle.lw_laws.proofs.NumberedValues.{form_values_fit}
use Rattle.lw_form.specs.Bases.{picked}
use Rattle.lw_form.specs.Kept.{AreForms, HasPart}
use Rattle.lw_assoc.specs.Drafting.{other, IsSplitBy, HasSplit, HasSplits, HasTwice, MakeSplit, HasSplitsUpTo, IsSplitting, HasLinksUpTo, HasSamples, HasBases, HasFactsUpTo, AddsNands, AddsLinks, AddsSplit, first_draft, with_nand, with_link}
use Rattle.lw_assoc.specs.Parts.{HasParts}
use Rattle.lw_reduce.specs.Drafting.{sample_of, IsKnown}
use Rattle.lw_assoc.proofs.Masks.{picked_other}

pub same_operands : (o : Option Base) (fs hs : List ℕ) → o ≡ Some (base_and fs) → o ≡ Some (base_and hs) → fs ≡ hs
same_operands o fs hs e d = cc

module _ (forms : NumberedForms) (are : AreForms forms) where
  pub first_bases : HasBases forms (forms.inputs + 1) (first_draft forms.inputs)
  first_bases = record { inputs = refl; count = count forms.inputs; samples = at } where
    count : (n : ℕ) → length (true ∷ replicate n false) ≡ n + 1
    count zero = refl
    count (suc n) = let c = count n in omega arith

    at : HasSamples forms (true ∷ replicate forms.inputs false)
    at value values zero lt = sym (values.bases 0 base_true are.in_order.first)
    at value values (suc j) lt =
        let c = count forms.inputs in
        let p : slice_get forms.bases (suc j) ≡ Some (base_input j) = subst (λ k. slice_get forms.bases k ≡ Some (base_input j)) (omega arith) (are.in_order.inputs j (omega arith)) in
        falses_at forms.inputs j ∙ sym (values.bases (suc j) (base_input j) p)

  module _ (d : Draft) (has : HasBases forms (length forms.bases) d) where
    -- the sample of a form is its value
    sample_is : (value : ℕ → Bool) → AreNumberedValues forms (λ i. false) value → (f : ℕ) → NumberOccurs forms f → sample_of d.samples f ≡ value f
    sample_is value values f o = by_bit (f % 2) refl where
      at : slice_index_or d.samples (f / 2) false ≡ value (2 * (f / 2))
      at = has.samples value values (f / 2) (subst (λ n. f / 2 < n) (sym has.count) o)

      by_bit : (k : ℕ) → f % 2 ≡ k → (if k == 0 then slice_index_or d.samples (f / 2) false else not (slice_index_or d.samples (f / 2) false)) ≡ value f
      by_bit zero e = at ∙ ap value (omega arith)
      by_bit (suc zero) e = ap not at ∙ (sym (values.flips (2 * (f / 2))) ∙ ap value (flip_even (2 * (f / 2)) (f / 2) refl ∙ omega arith))
      by_bit (suc (suc k)) e = absurd (omega arith)

    known : (f : ℕ) → NumberOccurs forms f → f / 2 < length d.samples
    known f o = subst (λ n. f / 2 < n) (sym has.count) o

    pub split_known : (f x y : ℕ) → IsSplitOf idempotent forms f x y → IsKnown d.samples f × IsKnown d.samples x × IsKnown d.samples y
    split_known f x y c =
        let (o, p, q) = splits_occur plain forms are.numbered idempotent f x y c in
        (known f o, known x p, known y q)

    pub split_sample : (f x y : ℕ) → IsSplitOf idempotent forms f x y → sample_of d.samples f ≡ not (sample_of d.samples x && sample_of d.samples y)
    split_sample f x y c =
        let (o, p, q) = splits_occur plain forms are.numbered idempotent f x y c in
        let (value, values) = are.values (λ i. false) in
        sample_is value values f o ∙ ((form_values_fit forms (λ i. false) value values idempotent).splits f x y c ∙ ap₂ (λ a b. not (a && b)) (sym (sample_is value values x p)) (sym (sample_is value values y q)))

    pub link_known : (f h : ℕ) → IsSignal forms f h → IsKnown d.samples f × IsKnown d.samples h
    link_known f h s = let (o, p) = are.numbered.signals f h s in (known f o, known h p)

    pub link_sample : (f h : ℕ) → IsSignal forms f h → sample_of d.samples f ≡ sample_of d.samples h
    link_sample f h s =
        let (o, p) = are.numbered.signals f h s in
        let (value, values) = are.values (λ i. false) in
        sample_is value values f o ∙ (values.signals f h s ∙ sym (sample_is value values h p))

  -- the two parts of a mask are a cut
  pub mask_cut : (b mask rest x y : ℕ) (fs : List ℕ) → slice_get forms.bases b ≡ Some (base_and fs) → mask < 2 ^ length fs → rest ≡ other fs mask → IsPart forms (picked fs mask) x → IsPart forms (picked fs rest) y → IsCutOf forms (2 * b + 1) x y
  mask_cut b mask rest x y fs e lt r p q =
      (b, fs, picked fs mask, unpicked fs mask, e, refl, cut_by fs mask, p, subst (λ hs. IsPart forms hs y) (ap (picked fs) r ∙ picked_other fs mask lt) q)

  pub cuts_make : (b mask rest : ℕ) (fs : List ℕ) → slice_get forms.bases b ≡ Some (base_and fs) → 1 ≤ mask → mask < 2 ^ length fs → 1 ≤ rest → rest ≡ other fs mask → MakeSplit forms b mask rest
  cuts_make b mask rest fs e one lt some r = record {
    left = (fs, e, one, lt);
    right = (fs, e, some, omega arith);
    is = is;
  } where
    is : (hs : List ℕ) (x y : ℕ) → slice_get forms.bases b ≡ Some (base_and hs) → IsPart forms (picked hs mask) x → IsPart forms (picked hs rest) y → IsSplitOf idempotent forms (2 * b + 1) x y
    is hs x y d p q =
        let same = same_operands (slice_get forms.bases b) fs hs e d in
        inl (mask_cut b mask rest x y hs d (subst (λ l. mask < 2 ^ length l) same lt) (subst (λ l. rest ≡ other l mask) same r) p q)

  -- the form of each part is where its mask is
  pub part_at : (parts : List ℕ) (b mask : ℕ) (fs : List ℕ) → HasParts forms b 1 parts → slice_get forms.bases b ≡ Some (base_and fs) → HasPart forms b mask → IsPart forms (picked fs mask) (slice_index parts mask)
  part_at parts b mask fs has e (hs, d, one, lt) =
      has.each fs mask e one (subst (λ l. mask < 2 ^ length l) (same_operands (slice_get forms.bases b) hs fs d e) lt)

  pub parts_split : (parts : List ℕ) (b mask rest : ℕ) → HasParts forms b 1 parts → MakeSplit forms b mask rest → IsSplitOf idempotent forms (2 * b + 1) (slice_index parts mask) (slice_index parts rest)
  parts_split parts b mask rest has make =
      let (fs, e, one, lt) = make.left in
      make.is fs (slice_index parts mask) (slice_index parts rest) e (has.each fs mask e one lt) (part_at parts b rest fs has e make.right)

  -- what is there stays there
  pub split_more : (old : List NandFact) (fact : NandFact) (a : ℕ) (hs : List ℕ) (m r : ℕ) → HasSplit forms old a hs m r → HasSplit forms (old ++ fact ∷ []) a hs m r
  split_more old fact a hs m r (n, c, is) = (n, Contains-append_left old (fact ∷ []) n c, is)

  pub twice_more : (old : List NandFact) (fact : NandFact) (a : ℕ) → HasTwice old a → HasTwice (old ++ fact ∷ []) a
  twice_more old fact a t = record { even = Contains-append_left old (fact ∷ []) (record { form = 2 * a; left = 2 * a + 1; right = 2 * a + 1 }) t.even; odd = Contains-append_left old (fact ∷ []) (record { form = 2 * a + 1; left = 2 * a; right = 2 * a }) t.odd }

  splits_more : (mode : Mode) (old : List NandFact) (fact : NandFact) (a : ℕ) → HasSplits mode forms old a → HasSplits mode forms (old ++ fact ∷ []) a
  splits_more plain old fact a has = λ hs m at one half. split_more old fact a hs m (other hs m) (has hs m at one half)
  splits_more idempotent old fact a (t, has) = (twice_more old fact a t, λ hs m r at o. split_more old fact a hs m r (has hs m r at o))

  -- one more fact of the mode
  pub up_to_more : (mode : Mode) (old : List NandFact) (fact : NandFact) (b : ℕ) → IsSplitOf mode forms fact.form fact.left fact.right → HasSplitsUpTo mode forms b old → HasSplitsUpTo mode forms b (old ++ fact ∷ [])
  up_to_more mode old fact b c up = record {
    are = λ n k. one_of n (Contains-push_cases old fact n k);
    all = λ a lt. splits_more mode old fact a (up.all a lt);
  } where
    one_of : (n : NandFact) → Contains old n ⊎ (fact ≡ n) → IsSplitOf mode forms n.form n.left n.right
    one_of n (inl k) = up.are n k
    one_of n (inr s) = subst (λ (k : NandFact). IsSplitOf mode forms k.form k.left k.right) s c

  -- one more base form, whose facts are all there
  pub up_to_next : (mode : Mode) (nands : List NandFact) (b : ℕ) → HasSplits mode forms nands b → HasSplitsUpTo mode forms b nands → HasSplitsUpTo mode forms (b + 1) nands
  up_to_next mode nands b has up = record { are = up.are; all = λ a lt. by_place a lt (dec_lt a b) } where
    by_place : (a : ℕ) → a < b + 1 → Dec (a < b) → HasSplits mode forms nands a
    by_place a lt (yes l) = up.all a l
    by_place a lt (no ge) = let same : b ≡ a = omega arith in subst (HasSplits mode forms nands) same has

  -- the same with the base forms
  pub facts_more : (mode : Mode) (old : Draft) (fact : NandFact) (b : ℕ) → IsSplitOf mode forms fact.form fact.left fact.right → HasFactsUpTo mode forms b old → HasFactsUpTo mode forms b (with_nand old fact)
  facts_more mode old fact b c has = record {
    bases = record { inputs = has.bases.inputs; count = has.bases.count; samples = has.bases.samples };
    splits = up_to_more mode old.nands fact b c has.splits;
  }

  pub facts_next : (mode : Mode) (d : Draft) (b : ℕ) → HasSplits mode forms d.nands b → HasFactsUpTo mode forms b d → HasFactsUpTo mode forms (b + 1) d
  facts_next mode d b new has = record { bases = has.bases; splits = up_to_next mode d.nands b new has.splits }

  -- the fact of a mask and the other one is a cut
  cut_of_split : (b mask rest : ℕ) (fs : List ℕ) (n : NandFact) → slice_get forms.bases b ≡ Some (base_and fs) → mask < 2 ^ length fs → rest ≡ other fs mask → IsSplitBy forms b fs mask rest n → IsCutOf forms n.form n.left n.right
  cut_of_split b mask rest fs n e lt r is =
      subst (λ f. IsCutOf forms f n.left n.right) (sym is.form) (mask_cut b mask rest n.left n.right fs e lt r is.left is.right)

  -- one more split
  pub splits_next : (old new : Draft) (b mask rest : ℕ) (fs : List ℕ) → slice_get forms.bases b ≡ Some (base_and fs) → mask < 2 ^ length fs → rest ≡ other fs mask → AddsSplit forms b mask rest old new → IsSplitting forms b mask old → IsSplitting forms b (mask + 1) new
  splits_next old new b mask rest fs e lt r adds so_far = subst (IsSplitting forms b (mask + 1)) (sym adds.added) (record {
    before = facts_more plain old adds.fact b (cut_of_split b mask rest fs adds.fact e lt r (adds.is fs e)) so_far.before;
    begun = λ hs m at one below half. by_place hs m at one half (dec_lt m mask) below;
  }) where
    by_place : (hs : List ℕ) (m : ℕ) → slice_get forms.bases b ≡ Some (base_and hs) → 1 ≤ m → m < 2 ^ (length hs - 1) → Dec (m < mask) → m < mask + 1 → HasSplit forms (old.nands ++ adds.fact ∷ []) b hs m (other hs m)
    by_place hs m at one half (yes below) le = split_more old.nands adds.fact b hs m (other hs m) (so_far.begun hs m at one below half)
    by_place hs m at one half (no ge) le =
        let same : mask ≡ m = omega arith in
        let is = adds.is hs at in
        let rest_is : rest ≡ other hs mask = subst (λ l. rest ≡ other l mask) (same_operands (slice_get forms.bases b) fs hs e at) r in
        subst (λ k. HasSplit forms (old.nands ++ adds.fact ∷ []) b hs k (other hs k)) same (adds.fact, Contains-push old.nands adds.fact, subst (λ k. IsSplitBy forms b hs mask k adds.fact) rest_is is)

  pub splits_end : (b bound : ℕ) (fs : List ℕ) (d : Draft) → slice_get forms.bases b ≡ Some (base_and fs) → 2 ^ (length fs - 1) ≤ bound → IsSplitting forms b bound d → HasFactsUpTo plain forms (b + 1) d
  splits_end b bound fs d e le so_far = facts_next plain d b (λ hs m at one half. there hs m at one half) so_far.before where
    there : (hs : List ℕ) (m : ℕ) → slice_get forms.bases b ≡ Some (base_and hs) → 1 ≤ m → m < 2 ^ (length hs - 1) → HasSplit forms d.nands b hs m (other hs m)
    there hs m at one half =
        let l = ap length (same_operands (slice_get forms.bases b) fs hs e at) in
        let top = subst (λ k. 2 ^ (k - 1) ≤ bound) l le in
        so_far.begun hs m at one (omega arith) half

  abbrev link_of : ℕ → ℕ → FormLink
  link_of f h = record { left = f; right = h }

  pub links_next : (old new : Draft) (s f h : ℕ) → slice_get forms.sops s ≡ Some f → slice_get forms.facs s ≡ Some h → new ≡ with_link old (record { left = f; right = h }) → HasLinksUpTo forms s old.links → HasLinksUpTo forms (s + 1) new.links
  links_next old new s f h e g added so_far = subst (λ (d : Draft). HasLinksUpTo forms (s + 1) d.links) (sym added) (record {
    are = λ l c. one_of l (Contains-push_cases old.links (link_of f h) l c);
    all = λ k p q lt at to. by_place k p q (dec_lt k s) lt at to;
  }) where
    one_of : (l : FormLink) → Contains old.links l ⊎ (link_of f h ≡ l) → IsSignal forms l.left l.right
    one_of l (inl c) = so_far.are l c
    one_of l (inr t) = subst (λ (k : FormLink). IsSignal forms k.left k.right) t (s, e, g)

    by_place : (k p q : ℕ) → Dec (k < s) → k < s + 1 → slice_get forms.sops k ≡ Some p → slice_get forms.facs k ≡ Some q → Contains (old.links ++ link_of f h ∷ []) (record { left = p; right = q })
    by_place k p q (yes lt) le at to = Contains-append_left old.links (link_of f h ∷ []) (record { left = p; right = q }) (so_far.all k p q lt at to)
    by_place k p q (no ge) le at to =
        let same : k ≡ s = omega arith in
        let at' = subst (λ j. slice_get forms.sops j ≡ Some p) same at in
        let to' = subst (λ j. slice_get forms.facs j ≡ Some q) same to in
        let fp : f ≡ p = cc in
        let hq : h ≡ q = cc in
        subst (λ k. Contains (old.links ++ link_of f h ∷ []) (record { left = p; right = k })) hq (subst (λ k. Contains (old.links ++ link_of f h ∷ []) (record { left = k; right = h })) fp (Contains-push old.links (link_of f h)))

-- what stays where only facts or links are added
pub bases_with_nands : (forms : NumberedForms) (n : ℕ) (old new : Draft) → AddsNands old new → HasBases forms n old → HasBases forms n new
bases_with_nands forms n old new adds has = record {
  inputs = adds.inputs ∙ has.inputs;
  count = ap length adds.samples ∙ has.count;
  samples = subst (HasSamples forms) (sym adds.samples) has.samples;
}

pub bases_with_links : (forms : NumberedForms) (n : ℕ) (old new : Draft) → AddsLinks old new → HasBases forms n old → HasBases forms n new
bases_with_links forms n old new adds has = record {
  inputs = adds.inputs ∙ has.inputs;
  count = ap length adds.samples ∙ has.count;
  samples = subst (HasSamples forms) (sym adds.samples) has.samples;
}

pub nands_by_split : (forms : NumberedForms) (b mask rest : ℕ) (old mid new : Draft) → AddsNands old mid → AddsSplit forms b mask rest mid new → AddsNands old new
nands_by_split forms b mask rest old mid new adds split = subst (AddsNands old) (sym split.added) (record { inputs = adds.inputs; samples = adds.samples; links = adds.links })

pub links_by_one : (old mid new : Draft) (l : FormLink) → AddsLinks old mid → new ≡ with_link mid l → AddsLinks old new
links_by_one old mid new l adds e = subst (AddsLinks old) (sym e) (record { inputs = adds.inputs; samples = adds.samples; nands = adds.nands })

no_splits_yet : (mode : Mode) (forms : NumberedForms) (nands : List NandFact) → nands ≡ [] → HasSplitsUpTo mode forms 0 nands
no_splits_yet mode forms nands e = subst (HasSplitsUpTo mode forms 0) (sym e) (record {
  are = λ n c. absurd (no_facts n c);
  all = λ a lt. absurd (omega arith);
}) where
  no_facts : (n : NandFact) → Contains [] n → ⊥
  no_facts n (x, lt, e) = absurd (omega arith)

pub no_facts_yet : (mode : Mode) (forms : NumberedForms) (d : Draft) → HasBases forms (length forms.bases) d → d.nands ≡ [] → HasFactsUpTo mode forms 0 d
no_facts_yet mode forms d bases e = record { bases = bases; splits = no_splits_yet mode forms d.nands e }

pub no_links_yet : (forms : NumberedForms) (links : List FormLink) → links ≡ [] → HasLinksUpTo forms 0 links
no_links_yet forms links e = subst (HasLinksUpTo forms 0) (sym e) (record {
  are = λ l c. absurd (no_links l c);
  all = λ k f h lt. absurd (omega arith);
}) where
  no_links : (l : FormLink) → Contains [] l → ⊥
  no_links l (x, lt, e) = absurd (omega arith)
