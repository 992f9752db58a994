-- Pairs of parts of an And that together have each operand, and forms by their complements twice.
use Rattle.std.proofs.Common.{◌≡◌, ◌+◌, ◌-◌, ◌*◌, ◌^◌, ◌<◌, ◌≤◌, ◌⊎◌, inl, inr, ℕ, bit_or, List, [], ◌∷◌, ◌++◌, length, Some, Contains, slice_get, refl, ap, sym, ◌∙◌, subst, subst₂, arith}
use native.Mathlib.Decide.{dec_lt}
use Rattle.std.proofs.lemmas.List.Elements.{Contains-append_left, Contains-push}
use Rattle.lw_laws.specs.Flip.{flip}
use Rattle.lw_laws.specs.Modes.Mode.{idempotent}
use Rattle.lw_laws.specs.NumberedForms.{Base, NumberedForms, IsPart, IsSplitOf, NumberOccurs}
use Rattle.lw_laws.specs.NumberedForms.Base.{base_and}
use Rattle.lw_laws.specs.Drafts.{Draft, NandFact}
use Rattle.lw_laws.proofs.Flips.{flip_even, flip_odd}
use Rattle.lw_form.specs.Bases.{picked, plain_base}
use Rattle.lw_form.specs.declared.base.Base.{Base as CodeBase}
use Rattle.lw_form.specs.declared.base.Base.TheVariants.{True, Input, And}
use Rattle.lw_form.specs.Kept.{AreForms}
use Rattle.lw_assoc.specs.Drafting.{IsSplitBy, HasSplit, AreOverlapping, HasFactsUpTo, IsOverlapping, AddsNands, AddsSplit, AddsInverter, with_nand}
use Rattle.lw_assoc.proofs.Drafts.{same_operands, facts_more, facts_next, split_more, twice_more}
use Rattle.lw_assoc.proofs.Masks.{covering_by, picked_once}
use Rattle.lw_assoc.proofs.SameFacts.{same_place}

module _ (forms : NumberedForms) (are : AreForms forms) where
  pub overlap_makes : (b left right : ℕ) (fs : List ℕ) → slice_get forms.bases b ≡ Some (base_and fs) → left < right → right < 2 ^ length fs → bit_or left right ≡ 2 ^ length fs - 1 → (hs : List ℕ) (x y : ℕ) → slice_get forms.bases b ≡ Some (base_and hs) → IsPart forms (picked hs left) x → IsPart forms (picked hs right) y → IsSplitOf idempotent forms (2 * b + 1) x y
  overlap_makes b left right fs e less within all hs x y d p q =
      let same = same_operands (slice_get forms.bases b) hs fs d e in
      inr (inl (b, fs, picked fs left, picked fs right, e, refl, covering_by fs left right all, λ s. different (picked_once fs left right (are.operands b fs e).apart (omega arith) within s), subst (λ l. IsPart forms (picked l left) x) same p, subst (λ l. IsPart forms (picked l right) y) same q))
    where
      different : left ≡ right → ⊥
      different s = omega arith

  overlap_split : (b left right : ℕ) (fs : List ℕ) (n : NandFact) → slice_get forms.bases b ≡ Some (base_and fs) → left < right → right < 2 ^ length fs → bit_or left right ≡ 2 ^ length fs - 1 → IsSplitBy forms b fs left right n → IsSplitOf idempotent forms n.form n.left n.right
  overlap_split b left right fs n e less within all is =
      subst (λ f. IsSplitOf idempotent forms f n.left n.right) (sym is.form) (overlap_makes b left right fs e less within all fs n.left n.right e is.left is.right)

  -- one more pair
  pub overlaps_next : (old new : Draft) (b left right : ℕ) (fs : List ℕ) → slice_get forms.bases b ≡ Some (base_and fs) → left < right → right < 2 ^ length fs → bit_or left right ≡ 2 ^ length fs - 1 → AddsSplit forms b left right old new → IsOverlapping forms b left right old → IsOverlapping forms b left (right + 1) new
  overlaps_next old new b left right fs e less within all adds so_far = subst (IsOverlapping forms b left (right + 1)) (sym adds.added) (record {
    before = facts_more forms are idempotent old adds.fact b (overlap_split b left right fs adds.fact e less within all (adds.is fs e)) so_far.before;
    twice = twice_more forms are old.nands adds.fact b so_far.twice;
    begun = by_place;
  }) where
    by_place : (hs : List ℕ) (m r : ℕ) → slice_get forms.bases b ≡ Some (base_and hs) → AreOverlapping (length hs) m r → (m < left) ⊎ ((m ≡ left) × (r < right + 1)) → HasSplit forms (old.nands ++ adds.fact ∷ []) b hs m r
    by_place hs m r at o (inl lt) = split_more forms are old.nands adds.fact b hs m r (so_far.begun hs m r at o (inl lt))
    by_place hs m r at o (inr (s, lt)) = by_order (dec_lt r right) where
      by_order : Dec (r < right) → HasSplit forms (old.nands ++ adds.fact ∷ []) b hs m r
      by_order (yes l) = split_more forms are old.nands adds.fact b hs m r (so_far.begun hs m r at o (inr (s, l)))
      by_order (no ge) =
          let same : right ≡ r = omega arith in
          (adds.fact, Contains-push old.nands adds.fact, subst₂ (λ j k. IsSplitBy forms b hs j k adds.fact) (sym s) same (adds.is hs at))

  -- a pair that does not have each operand
  pub overlaps_skip : (d : Draft) (b left right all : ℕ) → ((fs : List ℕ) → slice_get forms.bases b ≡ Some (base_and fs) → all ≡ 2 ^ length fs - 1) → (bit_or left right ≡ all → ⊥) → IsOverlapping forms b left right d → IsOverlapping forms b left (right + 1) d
  overlaps_skip d b left right all whole ne so_far = record { before = so_far.before; twice = so_far.twice; begun = by_place } where
    by_place : (hs : List ℕ) (m r : ℕ) → slice_get forms.bases b ≡ Some (base_and hs) → AreOverlapping (length hs) m r → (m < left) ⊎ ((m ≡ left) × (r < right + 1)) → HasSplit forms d.nands b hs m r
    by_place hs m r at o (inl lt) = so_far.begun hs m r at o (inl lt)
    by_place hs m r at o (inr (s, lt)) = by_order (dec_lt r right) where
      by_order : Dec (r < right) → HasSplit forms d.nands b hs m r
      by_order (yes l) = so_far.begun hs m r at o (inr (s, l))
      by_order (no ge) =
          let same : r ≡ right = omega arith in
          absurd (ne (subst₂ (λ j k. bit_or j k ≡ all) s same (o.all ∙ sym (whole hs at))))

  pub overlaps_whole : (d : Draft) (b low all : ℕ) → ((fs : List ℕ) → slice_get forms.bases b ≡ Some (base_and fs) → all ≡ 2 ^ length fs - 1) → all ≤ low → IsOverlapping forms b low 0 d → HasFactsUpTo idempotent forms (b + 1) d
  overlaps_whole d b low all whole le so_far = facts_next forms are idempotent d b (so_far.twice, there) so_far.before where
    there : (hs : List ℕ) (m r : ℕ) → slice_get forms.bases b ≡ Some (base_and hs) → AreOverlapping (length hs) m r → HasSplit forms d.nands b hs m r
    there hs m r at o =
        let w = whole hs at in
        let less = o.less in
        let within = o.within in
        so_far.begun hs m r at o (inl (omega arith))

  -- a base form that is no And has no pairs
  pub overlaps_none : (b : ℕ) (base : Base) (d : Draft) → slice_get forms.bases b ≡ Some base → ((fs : List ℕ) → base ≡ base_and fs → ⊥) → IsOverlapping forms b 0 0 d → HasFactsUpTo idempotent forms (b + 1) d
  overlaps_none b base d e ne so_far =
      facts_next forms are idempotent d b (so_far.twice, λ hs m r at o. absurd (ne hs (same_place (slice_get forms.bases b) base (base_and hs) e at))) so_far.before

  -- a mask of all operands is one of any list that stands there
  pub whole_mask : (b all : ℕ) (fs : List ℕ) → slice_get forms.bases b ≡ Some (base_and fs) → all ≡ 2 ^ length fs - 1 → (hs : List ℕ) → slice_get forms.bases b ≡ Some (base_and hs) → all ≡ 2 ^ length hs - 1
  whole_mask b all fs e is hs d = subst (λ l. all ≡ 2 ^ length l - 1) (same_operands (slice_get forms.bases b) fs hs e d) is

  -- a form is the NAND of its complement twice
  pub inverter_split : (f : ℕ) → NumberOccurs forms f → IsSplitOf idempotent forms f (flip f) (flip f)
  inverter_split f o = inr (inr (o, refl, refl))

  pub inverters_added : (old mid new : Draft) (b : ℕ) → b < length forms.bases → AddsInverter (2 * b) old mid → AddsInverter (2 * b + 1) mid new → HasFactsUpTo idempotent forms b old → IsOverlapping forms b 0 0 new
  inverters_added old mid new b lt first second up =
      subst (IsOverlapping forms b 0 0) (sym (second ∙ ap (λ d. with_nand d odd) first)) (record {
        before = facts_more forms are idempotent (with_nand old even) odd b (inverter_split (2 * b + 1) (omega arith)) (facts_more forms are idempotent old even b (inverter_split (2 * b) (omega arith)) up);
        twice = record {
          even = Contains-append_left (old.nands ++ even ∷ []) (odd ∷ []) (record { form = 2 * b; left = 2 * b + 1; right = 2 * b + 1 }) (subst (λ k. Contains (old.nands ++ even ∷ []) (record { form = 2 * b; left = k; right = k })) (flip_even (2 * b) b refl) (Contains-push old.nands even));
          odd = subst (λ k. Contains ((old.nands ++ even ∷ []) ++ odd ∷ []) (record { form = 2 * b + 1; left = k; right = k })) (flip_odd (2 * b + 1) b refl) (Contains-push (old.nands ++ even ∷ []) odd);
        };
        begun = none;
      })
    where
      even : NandFact
      even = record { form = 2 * b; left = flip (2 * b); right = flip (2 * b) }

      odd : NandFact
      odd = record { form = 2 * b + 1; left = flip (2 * b + 1); right = flip (2 * b + 1) }

      none : (hs : List ℕ) (m r : ℕ) → slice_get forms.bases b ≡ Some (base_and hs) → AreOverlapping (length hs) m r → (m < 0) ⊎ ((m ≡ 0) × (r < 0)) → HasSplit forms ((old.nands ++ even ∷ []) ++ odd ∷ []) b hs m r
      none hs m r at o (inl lt) = absurd (omega arith)
      none hs m r at o (inr (s, lt)) = absurd (omega arith)

-- a base form that is no And is none as plain data
pub no_and : (base : CodeBase) → ((ids : List ℕ) → base ≡ And ids → ⊥) → (fs : List ℕ) → plain_base base ≡ base_and fs → ⊥
no_and True ne fs e = cc
no_and (Input i) ne fs e = cc
no_and (And ids) ne fs e = ne ids refl

pub nands_by_inverter : (f : ℕ) (old mid new : Draft) → AddsNands old mid → AddsInverter f mid new → AddsNands old new
nands_by_inverter f old mid new adds e = subst (AddsNands old) (sym e) (record { inputs = adds.inputs; samples = adds.samples; links = adds.links })
