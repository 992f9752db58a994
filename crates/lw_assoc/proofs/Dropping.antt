-- The operands of a mask are those of a mask with one bit more, less one.
use Rattle.std.proofs.Common.{◌≡◌, ◌+◌, ◌-◌, ◌*◌, ◌/◌, ◌%◌, ◌^◌, ◌==◌, ◌<◌, ◌≤◌, ℕ, zero, suc, if◌then◌else◌, List, [], ◌∷◌, length, Some, slice_get, slice_index, slice_set, refl, ap, sym, ◌∙◌, subst, arith, length-set, pow-suc, get_or-set_same, get_or-set_other}
use native.Mathlib.Decide.{ℕ_discrete, dec_lt}
use Rattle.std.proofs.Math.Pow.{pow-lt, pow_mono}
use Rattle.std.proofs.lemmas.Option.{slice_get_within}
use Rattle.lw_laws.specs.NumberedForms.{NumberedForms, IsPart}
use Rattle.lw_laws.specs.NumberedForms.Base.{base_and}
use Rattle.lw_form.specs.Bases.{picked}
use Rattle.lw_form.specs.Kept.{AreForms}
use Rattle.lw_form.proofs.Parts.{part_is}
use Rattle.lw_assoc.specs.Parts.{HasDrops, HasParts, IsFirstUnset, without}

pub some_pow : (k : ℕ) → 1 ≤ 2 ^ k
some_pow k = pow_mono {i = 0} {j = k} (omega arith)

odd_picked : (f : ℕ) (fs : List ℕ) (mask m : ℕ) → mask % 2 ≡ 1 → mask / 2 ≡ m → picked (f ∷ fs) mask ≡ f ∷ picked fs m
odd_picked f fs mask m e d =
    ap (λ (k : ℕ). if k == 1 then f ∷ picked fs (mask / 2) else picked fs (mask / 2)) e ∙ ap (λ h. f ∷ picked fs h) d

even_picked : (f : ℕ) (fs : List ℕ) (mask m : ℕ) → mask % 2 ≡ 0 → mask / 2 ≡ m → picked (f ∷ fs) mask ≡ picked fs m
even_picked f fs mask m e d =
    ap (λ (k : ℕ). if k == 1 then f ∷ picked fs (mask / 2) else picked fs (mask / 2)) e ∙ ap (picked fs) d

pub picked_all : (fs : List ℕ) → picked fs (2 ^ length fs - 1) ≡ fs
picked_all [] = refl
picked_all (f ∷ fs) =
    let p = pow-suc 2 (length fs) in
    let s = some_pow (length fs) in
    odd_picked f fs (2 ^ length (f ∷ fs) - 1) (2 ^ length fs - 1) (omega arith) (omega arith) ∙ ap (λ l. f ∷ l) (picked_all fs)

-- the mask of all operands but one
pub picked_others : (fs : List ℕ) (place : ℕ) → place < length fs → picked fs (2 ^ length fs - 1 - 2 ^ place) ≡ without fs place
picked_others [] place lt = absurd (omega arith)
picked_others (f ∷ fs) zero lt =
    let p = pow-suc 2 (length fs) in
    let s = some_pow (length fs) in
    even_picked f fs (2 ^ length (f ∷ fs) - 1 - 2 ^ 0) (2 ^ length fs - 1) (omega arith) (omega arith) ∙ picked_all fs
picked_others (f ∷ fs) (suc place) lt =
    let p = pow-suc 2 (length fs) in
    let q = pow-suc 2 place in
    let l : 2 ^ place < 2 ^ length fs = pow-lt {i = place} {j = length fs} (omega arith) in
    odd_picked f fs (2 ^ length (f ∷ fs) - 1 - 2 ^ suc place) (2 ^ length fs - 1 - 2 ^ place) (omega arith) (omega arith) ∙ ap (λ l. f ∷ l) (picked_others fs place (omega arith))

pub picked_less : (fs : List ℕ) (mask place : ℕ) → IsFirstUnset mask place → picked fs mask ≡ without (picked fs (mask + 2 ^ place)) place
picked_less [] mask place u = refl
picked_less (f ∷ fs) mask zero u =
    even_picked f fs mask (mask / 2) u refl ∙ sym (ap (λ l. without l 0) (odd_picked f fs (mask + 2 ^ 0) (mask / 2) (omega arith) (omega arith)))
picked_less (f ∷ fs) mask (suc place) (o, u) =
    let q = pow-suc 2 place in
    odd_picked f fs mask (mask / 2) o refl ∙ (ap (λ l. f ∷ l) (picked_less fs (mask / 2) place u) ∙ sym (ap (λ l. without l (suc place)) (odd_picked f fs (mask + 2 ^ suc place) (mask / 2 + 2 ^ place) (omega arith) (omega arith))))

place_within : (fs : List ℕ) (mask place : ℕ) → IsFirstUnset mask place → mask + 2 ^ place < 2 ^ length fs → place < length (picked fs (mask + 2 ^ place))
place_within [] mask place u lt = let s = some_pow place in absurd (omega arith)
place_within (f ∷ fs) mask zero u lt =
    subst (λ l. 0 < length l) (sym (odd_picked f fs (mask + 2 ^ 0) (mask / 2) (omega arith) (omega arith))) (omega arith)
place_within (f ∷ fs) mask (suc place) (o, u) lt =
    let p = pow-suc 2 (length fs) in
    let q = pow-suc 2 place in
    let ih = place_within fs (mask / 2) place u (omega arith) in
    subst (λ l. suc place < length l) (sym (odd_picked f fs (mask + 2 ^ suc place) (mask / 2 + 2 ^ place) (omega arith) (omega arith))) (omega arith)

low_place : (mask place : ℕ) → IsFirstUnset mask place → 2 ^ place ≤ mask + 1
low_place mask zero u = omega arith
low_place mask (suc place) (o, u) =
    let q = pow-suc 2 place in
    let ih = low_place (mask / 2) place u in
    omega arith

pub few_places : (mask place : ℕ) → mask < 255 → IsFirstUnset mask place → place < 8
few_places mask place lt u = by_place (dec_lt place 8)
  where
    by_place : Dec (place < 8) → place < 8
    by_place (yes l) = l
    by_place (no n) =
        let h = low_place mask place u in
        let m : 2 ^ 8 ≤ 2 ^ place = pow_mono {i = 8} {j = place} (omega arith) in
        absurd (omega arith)

pub more_within : (k mask place : ℕ) → IsFirstUnset mask place → mask + 1 < 2 ^ k → mask + 2 ^ place < 2 ^ k
more_within k mask zero u lt = omega arith
more_within zero mask (suc place) u lt = absurd (omega arith)
more_within (suc k) mask (suc place) (o, u) lt =
    let p = pow-suc 2 k in
    let q = pow-suc 2 place in
    let ih = more_within k (mask / 2) place u (omega arith) in
    omega arith

length_without : (fs : List ℕ) (place : ℕ) → place < length fs → length fs ≡ length (without fs place) + 1
length_without [] place lt = absurd (omega arith)
length_without (f ∷ fs) zero lt = omega arith
length_without (f ∷ fs) (suc place) lt = let ih = length_without fs place (omega arith) in omega arith

-- a part of two operands or more is a listed And
part_and : (forms : NumberedForms) (hs : List ℕ) (x : ℕ) → 2 ≤ length hs → IsPart forms hs x → (a : ℕ) × (slice_get forms.bases a ≡ Some (base_and hs)) × (x ≡ 2 * a)
part_and forms [] x two is = absurd (omega arith)
part_and forms (f ∷ []) x two is = absurd (omega arith)
part_and forms (f ∷ h ∷ hs) x two is = is

part_some : (forms : NumberedForms) (hs : List ℕ) (x : ℕ) → IsPart forms hs x → 1 ≤ length hs
part_some forms [] x is = absurd is
part_some forms (f ∷ hs) x is = omega arith

pub same_operands : (forms : NumberedForms) (b : ℕ) (fs hs : List ℕ) → slice_get forms.bases b ≡ Some (base_and fs) → slice_get forms.bases b ≡ Some (base_and hs) → fs ≡ hs
same_operands forms b fs hs e d = cc

module _ (forms : NumberedForms) (are : AreForms forms) (drops : List ℕ) (has : HasDrops forms (length forms.bases) drops) (b mask place : ℕ) (parts : List ℕ) (u : IsFirstUnset mask place) (fs : List ℕ) (e : slice_get forms.bases b ≡ Some (base_and fs)) (one : 1 ≤ mask) (lt : mask + 1 < 2 ^ length fs) (higher : HasParts forms b (mask + 1) parts) where
  pub above : mask + 2 ^ place < 2 ^ length fs
  above = more_within (length fs) mask place u lt

  pub most : 2 ^ length fs ≤ 256
  most = pow_mono {i = length fs} {j = 8} (are.operands b fs e).few

  abbrev hs : List ℕ
  hs = picked fs (mask + 2 ^ place)

  abbrev more : ℕ
  more = slice_index parts (mask + 2 ^ place)

  more_is : IsPart forms hs more
  more_is = higher.each fs (mask + 2 ^ place) e (let s = some_pow place in omega arith) above

  place_in : place < length hs
  place_in = place_within fs mask place u above

  two : 2 ≤ length hs
  two =
      let (x, is) = part_is forms are b fs mask e one (omega arith) in
      let s = part_some forms (picked fs mask) x is in
      let l = length_without hs place place_in in
      let k = ap length (picked_less fs mask place u) in
      omega arith

  pub more_in : more / 2 < length forms.bases
  more_in =
      let (a, d, f) = part_and forms hs more two more_is in
      let l = slice_get_within forms.bases a (base_and hs) d in
      omega arith

  pub less_is : IsPart forms (picked fs mask) (slice_index drops (8 * (more / 2) + place))
  less_is =
      let (a, d, f) = part_and forms hs more two more_is in
      let l = slice_get_within forms.bases a (base_and hs) d in
      let h : a ≡ more / 2 = omega arith in
      subst (λ k. IsPart forms (picked fs mask) (slice_index drops (8 * k + place))) h (subst (λ l. IsPart forms l (slice_index drops (8 * a + place))) (sym (picked_less fs mask place u)) (has.each a hs place l d place_in))

  pub parts_more : (x : ℕ) → x ≡ slice_index drops (8 * (more / 2) + place) → mask < length parts → HasParts forms b mask (slice_set parts mask x)
  parts_more x is in' = record { within = higher.within; size = length-set parts mask x ∙ higher.size; each = λ gs m d le lm. by_mask gs m d le lm (ℕ_discrete m mask) }
    where
      by_mask : (gs : List ℕ) (m : ℕ) → slice_get forms.bases b ≡ Some (base_and gs) → mask ≤ m → m < 2 ^ length gs → Dec (m ≡ mask) → IsPart forms (picked gs m) (slice_index (slice_set parts mask x) m)
      by_mask gs m d le lm (yes s) =
          let g : fs ≡ gs = same_operands forms b fs gs e d in
          let at : x ≡ slice_index (slice_set parts mask x) m = sym (ap (slice_index (slice_set parts mask x)) s ∙ get_or-set_same parts mask x 0 in') in
          subst (IsPart forms (picked gs m)) at (subst (λ k. IsPart forms (picked gs k) x) (sym s) (subst (λ l. IsPart forms (picked l mask) x) g (subst (IsPart forms (picked fs mask)) (sym is) less_is)))
      by_mask gs m d le lm (no ne) =
          subst (IsPart forms (picked gs m)) (sym (get_or-set_other parts mask m x 0 ne)) (higher.each gs m d (omega arith) lm)

-- the part of all operands
pub whole_parts : (forms : NumberedForms) → AreForms forms → (b all : ℕ) (ids parts : List ℕ) → slice_get forms.bases b ≡ Some (base_and ids) → all + 1 ≡ 2 ^ length ids → all < 256 → length parts ≡ 256 → HasParts forms b all (slice_set parts all (2 * b))
whole_parts forms are b all ids parts e n few size = record {
  within = slice_get_within forms.bases b (base_and ids) e;
  size = length-set parts all (2 * b) ∙ size;
  each = each;
} where
  in' : all < length parts
  in' = omega arith

  each : (fs : List ℕ) (m : ℕ) → slice_get forms.bases b ≡ Some (base_and fs) → all ≤ m → m < 2 ^ length fs → IsPart forms (picked fs m) (slice_index (slice_set parts all (2 * b)) m)
  each fs m d le lt =
      let same = same_operands forms b ids fs e d in
      let k = ap (λ l. 2 ^ length l) same in
      let s : m ≡ all = omega arith in
      let t : all ≡ 2 ^ length fs - 1 = omega arith in
      let p : IsPart forms (picked fs m) (2 * b) = subst (λ l. IsPart forms l (2 * b)) (sym (ap (picked fs) (s ∙ t) ∙ picked_all fs)) (whole fs (are.operands b fs d).two d) in
      subst (IsPart forms (picked fs m)) (sym (ap (slice_index (slice_set parts all (2 * b))) s ∙ get_or-set_same parts all (2 * b) 0 in')) p
    where
      whole : (hs : List ℕ) → 2 ≤ length hs → slice_get forms.bases b ≡ Some (base_and hs) → IsPart forms hs (2 * b)
      whole [] two g = absurd (omega arith)
      whole (f ∷ []) two g = absurd (omega arith)
      whole (f ∷ h ∷ hs) two g = (b, g, refl)

pub twice_half : (k n half : ℕ) → 1 ≤ k → n ≡ k → half ≡ 2 ^ (n - 1) → 2 * half - 1 + 1 ≡ 2 ^ k
twice_half k n half some e h = by_count k some (subst (λ j. half ≡ 2 ^ (j - 1)) e h)
  where
    by_count : (k : ℕ) → 1 ≤ k → half ≡ 2 ^ (k - 1) → 2 * half - 1 + 1 ≡ 2 ^ k
    by_count zero some h = absurd (omega arith)
    by_count (suc k) some h =
        let p = pow-suc 2 k in
        let q : 2 ^ (suc k - 1) ≡ 2 ^ k = ap (λ j. 2 ^ j) (omega arith) in
        let s = some_pow k in
        omega arith

pub twice : (k n half : ℕ) → 2 ≤ k → n ≡ k → half ≡ 2 ^ (n - 1) → (place : ℕ) → place < k → (2 ^ place ≤ half) × (2 ≤ half)
twice k n half two e h place lt =
    let m : 2 ^ place ≤ 2 ^ (n - 1) = pow_mono {i = place} {j = n - 1} (omega arith) in
    let l : 2 ^ 1 ≤ 2 ^ (n - 1) = pow_mono {i = 1} {j = n - 1} (omega arith) in
    (omega arith, omega arith)

module _ (forms : NumberedForms) (are : AreForms forms) (b : ℕ) (ids : List ℕ) (e : slice_get forms.bases b ≡ Some (base_and ids)) (drops : List ℕ) (place x : ℕ) (lt : place < length ids) (in' : 8 * b + place < length drops) where
  pub drops_before : HasDrops forms b drops → HasDrops forms b (slice_set drops (8 * b + place) x)
  drops_before has = record { size = length-set drops (8 * b + place) x ∙ has.size; each = each } where
    each : (a : ℕ) (fs : List ℕ) (q : ℕ) → a < b → slice_get forms.bases a ≡ Some (base_and fs) → q < length fs → IsPart forms (without fs q) (slice_index (slice_set drops (8 * b + place) x) (8 * a + q))
    each a fs q l d lq =
        let few = (are.operands a fs d).few in
        subst (IsPart forms (without fs q)) (sym (get_or-set_other drops (8 * b + place) (8 * a + q) x 0 (λ s. omega arith))) (has.each a fs q l d lq)

  pub drops_more : ((fs : List ℕ) (q : ℕ) → slice_get forms.bases b ≡ Some (base_and fs) → q < place → IsPart forms (without fs q) (slice_index drops (8 * b + q))) → IsPart forms (picked ids (2 ^ length ids - 1 - 2 ^ place)) x → (fs : List ℕ) (q : ℕ) → slice_get forms.bases b ≡ Some (base_and fs) → q < place + 1 → IsPart forms (without fs q) (slice_index (slice_set drops (8 * b + place) x) (8 * b + q))
  drops_more so_far is fs q d lq = by_place (ℕ_discrete q place)
    where
      by_place : Dec (q ≡ place) → IsPart forms (without fs q) (slice_index (slice_set drops (8 * b + place) x) (8 * b + q))
      by_place (yes s) =
          let g = same_operands forms b ids fs e d in
          let at : x ≡ slice_index (slice_set drops (8 * b + place) x) (8 * b + q) = sym (ap (λ k. slice_index (slice_set drops (8 * b + place) x) (8 * b + k)) s ∙ get_or-set_same drops (8 * b + place) x 0 in') in
          subst (IsPart forms (without fs q)) at (subst (λ k. IsPart forms (without fs k) x) (sym s) (subst (λ l. IsPart forms (without l place) x) g (subst (λ l. IsPart forms l x) (picked_others ids place lt) is)))
      by_place (no ne) =
          subst (IsPart forms (without fs q)) (sym (get_or-set_other drops (8 * b + place) (8 * b + q) x 0 (λ s. ne (omega arith)))) (so_far fs q d (omega arith))
