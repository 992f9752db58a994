-- Forms with further pairs of one value are those of a listing with links.
use Rattle.std.proofs.Common.{ℕ, zero, suc, ◌+◌, ◌*◌, ◌/◌, ◌%◌, ◌<◌, ◌≡◌, ◌==◌, if◌then◌else◌, List, [], ◌∷◌, ◌++◌, length, map, Some, slice_get, slice_index_or, Contains, refl, ap, ap₂, sym, ◌∙◌, subst, arith}
use Rattle.std.proofs.lemmas.List.{append-nil, length-map, map-append}
use Rattle.std.proofs.lemmas.Option.{none-some, slice_get-get_or}
use Rattle.lw_facts.proofs.Lists.{contained_at}
use Rattle.lw_laws.specs.Forms.{Form, complement}
use Rattle.lw_laws.specs.Forms.Form.{true_form}
use Rattle.lw_laws.specs.Listings.{IsListed, Listing, sign_of}
use Rattle.lw_laws.specs.NumberedForms.{Base, NumberedForms}
use Rattle.lw_laws.specs.Numbering.{fac_number, number, numbered, numbered_base, sop_number}
use Rattle.lw_laws.specs.Signals.{Signal}
use Rattle.lw_laws.specs.SignalValues.{IsLinkOf, IsSoundListing, form_of, number_value, with_links}
use Rattle.lw_laws.proofs.Flips.{flip_even}
use Rattle.lw_laws.proofs.Numbers.{base_self, number_complement, number_occurs, number_of}
use Rattle.lw_laws.proofs.NumberValues.{numbers_have_values}
use Rattle.lw_laws.proofs.Words.{IsNumber}
use Rattle.lw_form.specs.Links.{HaveOneValue}
use Rattle.lw_links.specs.Linked.{IsLinked}

abbrev pub link_at : List Form → ℕ → ℕ → Signal
link_at bases f h = record { sop = form_of bases f; fac = form_of bases h }

-- the pairs as forms
abbrev pub links_of : List Form → List ℕ → List ℕ → List Signal
links_of bases (f ∷ fs) (h ∷ hs) = link_at bases f h ∷ links_of bases fs hs
links_of bases _ _ = []

-- a link is a pair
link_from : (bases : List Form) (fs hs : List ℕ) (k : ℕ) (x : Signal) → slice_get (links_of bases fs hs) k ≡ Some x → (f : ℕ) × (h : ℕ) × (slice_get fs k ≡ Some f) × (slice_get hs k ≡ Some h) × (link_at bases f h ≡ x)
link_from bases [] hs k x at = cc
link_from bases (f ∷ fs) [] k x at = cc
link_from bases (f ∷ fs) (h ∷ hs) zero x at = (f, h, refl, refl, same_some at)
  where
    same_some : Some (link_at bases f h) ≡ Some x → link_at bases f h ≡ x
    same_some e = cc
link_from bases (f ∷ fs) (h ∷ hs) (suc k) x at = link_from bases fs hs k x at

module _ (o : Listing) (inputs : ℕ) (sound : IsSoundListing inputs o) where
  abbrev base_at : ℕ → Form
  base_at b = slice_index_or o.bases b true_form

  base_has_number : (b : ℕ) → b < length o.bases → IsNumber o.bases (base_at b) (2 * b)
  base_has_number b low =
      let at : slice_get o.bases b ≡ Some (base_at b) = slice_get-get_or o.bases b true_form low in
      let sign : sign_of (base_at b) ≡ 0 = sound.listing.signs b (base_at b) at in
      (b, at ∙ ap Some (sym (base_self (base_at b) sign)), omega (arith, sign))

  form_has_number : (n : ℕ) → n / 2 < length o.bases → IsNumber o.bases (form_of o.bases n) n
  form_has_number n low = by (n % 2) refl (omega arith)
    where
      by : (r : ℕ) → n % 2 ≡ r → r < 2 → IsNumber o.bases (if r == 0 then base_at (n / 2) else complement (base_at (n / 2))) n
      by zero e lt = subst (IsNumber o.bases (base_at (n / 2))) (let same : 2 * (n / 2) ≡ n = omega (arith, e) in same) (base_has_number (n / 2) low)
      by (suc zero) e lt =
          subst (IsNumber o.bases (complement (base_at (n / 2)))) (flip_even (2 * (n / 2)) (n / 2) refl ∙ (let same : 2 * (n / 2) + 1 ≡ n = omega (arith, e) in same))
          (number_complement o sound.listing (base_at (n / 2)) (2 * (n / 2)) (base_has_number (n / 2) low))
      by (suc (suc r)) e lt = absurd (omega (arith, lt))

  number_is_own : (n : ℕ) → n / 2 < length o.bases → number o.bases (form_of o.bases n) ≡ n
  number_is_own n low = sym (number_of o sound.listing (form_of o.bases n) n (form_has_number n low))

  form_is_listed : (n : ℕ) → n / 2 < length o.bases → IsListed o (form_of o.bases n)
  form_is_listed n low = number_occurs o sound.listing (form_of o.bases n) n (form_has_number n low)

  -- a pair of one value is a link
  pair_is_link : (f h : ℕ) → HaveOneValue (numbered inputs o) f h → IsLinkOf o (link_at o.bases f h)
  pair_is_link f h one =
      let count = length-map o.bases (numbered_base o.bases) in
      record {
        listed = (form_is_listed f (omega (arith, one.left, count)), form_is_listed h (omega (arith, one.right, count)));
        agree = λ x. one.always x (number_value o x) (numbers_have_values inputs o sound.listing x (sound.agree x));
      }

  module _ (new : NumberedForms) (linked : IsLinked (numbered inputs o) new) where
    pub links_hold : (x : Signal) → Contains (links_of o.bases linked.lefts linked.rights) x → IsLinkOf o x
    links_hold x has =
        let (k, at) = contained_at (links_of o.bases linked.lefts linked.rights) x has in
        let (f, h, left, right, same) = link_from o.bases linked.lefts linked.rights k x at in
        subst (IsLinkOf o) same (pair_is_link f h (linked.each k f h left right))

    lefts_are : (fs hs : List ℕ) → length fs ≡ length hs → ((k f h : ℕ) → slice_get fs k ≡ Some f → slice_get hs k ≡ Some h → HaveOneValue (numbered inputs o) f h) → map (sop_number o.bases) (links_of o.bases fs hs) ≡ fs
    lefts_are [] hs same each = refl
    lefts_are (f ∷ fs) [] same each = absurd (omega (arith, same))
    lefts_are (f ∷ fs) (h ∷ hs) same each =
        ap₂ (λ (n : ℕ) (ns : List ℕ). n ∷ ns) (number_is_own f (omega (arith, (each 0 f h refl refl).left, length-map o.bases (numbered_base o.bases))))
        (lefts_are fs hs (omega (arith, same)) (λ k l r e d. each (suc k) l r e d))

    rights_are : (fs hs : List ℕ) → length fs ≡ length hs → ((k f h : ℕ) → slice_get fs k ≡ Some f → slice_get hs k ≡ Some h → HaveOneValue (numbered inputs o) f h) → map (fac_number o.bases) (links_of o.bases fs hs) ≡ hs
    rights_are [] [] same each = refl
    rights_are [] (h ∷ hs) same each = absurd (omega (arith, same))
    rights_are (f ∷ fs) [] same each = absurd (omega (arith, same))
    rights_are (f ∷ fs) (h ∷ hs) same each =
        ap₂ (λ (n : ℕ) (ns : List ℕ). n ∷ ns) (number_is_own h (omega (arith, (each 0 f h refl refl).right, length-map o.bases (numbered_base o.bases))))
        (rights_are fs hs (omega (arith, same)) (λ k l r e d. each (suc k) l r e d))

    -- and the forms are those of the listing with the links
    pub forms_are : new ≡ numbered inputs (with_links o (links_of o.bases linked.lefts linked.rights))
    forms_are =
        same_parts new (numbered inputs (with_links o (links_of o.bases linked.lefts linked.rights))) linked.inputs linked.bases
        (linked.sops ∙ (ap (λ ns. map (sop_number o.bases) o.signals ++ ns) (sym (lefts_are linked.lefts linked.rights linked.one_each linked.each)) ∙ sym (map-append (sop_number o.bases) o.signals (links_of o.bases linked.lefts linked.rights))))
        (linked.facs ∙ (ap (λ ns. map (fac_number o.bases) o.signals ++ ns) (sym (rights_are linked.lefts linked.rights linked.one_each linked.each)) ∙ sym (map-append (fac_number o.bases) o.signals (links_of o.bases linked.lefts linked.rights))))
      where
        same_parts : (m n : NumberedForms) → m.inputs ≡ n.inputs → m.bases ≡ n.bases → m.sops ≡ n.sops → m.facs ≡ n.facs → m ≡ n
        same_parts m n a b c d =
            ap (λ (i : ℕ). record { inputs = i; bases = m.bases; sops = m.sops; facs = m.facs }) a
            ∙ (ap (λ (bs : List Base). record { inputs = n.inputs; bases = bs; sops = m.sops; facs = m.facs }) b
            ∙ (ap (λ (fs : List ℕ). record { inputs = n.inputs; bases = n.bases; sops = fs; facs = m.facs }) c
            ∙ ap (λ (fs : List ℕ). record { inputs = n.inputs; bases = n.bases; sops = n.sops; facs = fs }) d))

-- without links
abbrev pub no_links : (old new : NumberedForms) → new ≡ old → IsLinked old new
no_links old new is = record {
  inputs = ap (λ (f : NumberedForms). f.inputs) is;
  bases = ap (λ (f : NumberedForms). f.bases) is;
  lefts = [];
  rights = [];
  one_each = refl;
  sops = ap (λ (f : NumberedForms). f.sops) is ∙ sym (append-nil old.sops);
  facs = ap (λ (f : NumberedForms). f.facs) is ∙ sym (append-nil old.facs);
  each = λ k f h e d. absurd (none-some f e);
}
