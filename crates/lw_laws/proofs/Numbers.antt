-- Numbers of occurring forms.
use Rattle.std.proofs.Common.{ℕ, zero, suc, ◌+◌, ◌*◌, ◌-◌, ◌≤◌, ◌≡◌, Bool, true, false, cond, List, [], ◌∷◌, map, Some, slice_get, refl, ap, ap₂, sym, ◌∙◌, subst, arith}
use Rattle.std.specs.List.{AllByRecursion}
use Rattle.std.proofs.lemmas.Option.{same_Some}
use Rattle.lw_laws.specs.Flip.{flip}
use Rattle.lw_laws.specs.Forms.{Form, same_form, complement}
use Rattle.lw_laws.specs.Forms.Form.{var_form, true_form, not_form, and_form}
use Rattle.lw_laws.specs.Numbering.{place, number}
use Rattle.lw_laws.specs.Listings.{Listing, base_form, IsListedAt, IsListed, IsListing, sign_of}
use Rattle.lw_laws.proofs.Flips.{flip_even, flip_odd}
use Rattle.lw_laws.proofs.Equality.{same_form_refl, same_form_eq}
use Rattle.lw_laws.proofs.Words.{IsNumber}

pub slice_get_map : {X Y : Type 0} (h : X → Y) (xs : List X) (i : ℕ) (x : X) → slice_get xs i ≡ Some x → slice_get (map h xs) i ≡ Some (h x)
slice_get_map h [] i x e = cc
slice_get_map h (y ∷ xs) zero x e = cc
slice_get_map h (y ∷ xs) (suc i) x e = slice_get_map h xs i x e

pub slice_get_map_back : {X Y : Type 0} (h : X → Y) (xs : List X) (i : ℕ) (y : Y) → slice_get (map h xs) i ≡ Some y → (x : X) × (slice_get xs i ≡ Some x) × (h x ≡ y)
slice_get_map_back h [] i y e = cc
slice_get_map_back h (x ∷ xs) zero y e = (x, refl, cc)
slice_get_map_back h (x ∷ xs) (suc i) y e = slice_get_map_back h xs i y e

-- the place of a listed form holds it
pub place_holds : (f : Form) (bases : List Form) (b : ℕ) → slice_get bases b ≡ Some f → slice_get bases (place f bases) ≡ Some f
place_holds f [] b e = cc
place_holds f (h ∷ hs) b e = by_test (same_form f h) refl b e (λ c k. place_holds f hs c k) where
  by_test : (t : Bool) → same_form f h ≡ t → (b : ℕ) → slice_get (h ∷ hs) b ≡ Some f → ((c : ℕ) → slice_get hs c ≡ Some f → slice_get hs (place f hs) ≡ Some f) → slice_get (h ∷ hs) (cond t 0 (suc (place f hs))) ≡ Some f
  by_test true s b e ih = ap Some (sym (same_form_eq f h s))
  by_test false s zero e ih = let k : h ≡ f = cc in let r = same_form_refl f in let w = subst (λ g. same_form f g ≡ false) k s in cc
  by_test false s (suc b) e ih = ih b e

pub number_is : (bases : List Form) (f : Form) (b : ℕ) → IsListedAt bases b f → IsNumber bases f (number bases f)
number_is bases f b e = (place (base_form f) bases, place_holds (base_form f) bases b e, refl)

-- a form is its base form or the complement
signs_decide : (f h : Form) → base_form f ≡ base_form h → sign_of f ≡ sign_of h → sign_of (base_form f) ≡ 0 → f ≡ h
signs_decide (not_form f) (not_form h) e s z = ap not_form e
signs_decide (var_form i) (not_form h) e s z = absurd (omega arith)
signs_decide true_form (not_form h) e s z = absurd (omega arith)
signs_decide (and_form fs) (not_form h) e s z = absurd (omega arith)
signs_decide (not_form f) (var_form i) e s z = absurd (omega arith)
signs_decide (not_form f) true_form e s z = absurd (omega arith)
signs_decide (not_form f) (and_form hs) e s z = absurd (omega arith)
signs_decide (var_form i) (var_form j) e s z = e
signs_decide (var_form i) true_form e s z = e
signs_decide (var_form i) (and_form hs) e s z = e
signs_decide true_form (var_form j) e s z = e
signs_decide true_form true_form e s z = e
signs_decide true_form (and_form hs) e s z = e
signs_decide (and_form fs) (var_form j) e s z = e
signs_decide (and_form fs) true_form e s z = e
signs_decide (and_form fs) (and_form hs) e s z = e

pub sign_two : (f : Form) → sign_of f ≤ 1
sign_two (var_form i) = omega arith
sign_two true_form = omega arith
sign_two (not_form f) = omega arith
sign_two (and_form fs) = omega arith

pub complement_base : (f : Form) → sign_of (base_form f) ≡ 0 → base_form (complement f) ≡ base_form f
complement_base (var_form i) z = refl
complement_base true_form z = refl
complement_base (not_form (var_form i)) z = refl
complement_base (not_form true_form) z = refl
complement_base (not_form (not_form f)) z = absurd (omega arith)
complement_base (not_form (and_form fs)) z = refl
complement_base (and_form fs) z = refl

complement_sign : (f : Form) → sign_of (base_form f) ≡ 0 → sign_of (complement f) ≡ 1 - sign_of f
complement_sign (var_form i) z = refl
complement_sign true_form z = refl
complement_sign (not_form (var_form i)) z = refl
complement_sign (not_form true_form) z = refl
complement_sign (not_form (not_form f)) z = absurd (omega arith)
complement_sign (not_form (and_form fs)) z = refl
complement_sign (and_form fs) z = refl

pub complement_twice : (f : Form) → sign_of (base_form f) ≡ 0 → complement (complement f) ≡ f
complement_twice (var_form i) z = refl
complement_twice true_form z = refl
complement_twice (not_form (var_form i)) z = refl
complement_twice (not_form true_form) z = refl
complement_twice (not_form (not_form f)) z = absurd (omega arith)
complement_twice (not_form (and_form fs)) z = refl
complement_twice (and_form fs) z = refl

-- a form that is no complement is its own base form
pub base_self : (f : Form) → sign_of f ≡ 0 → base_form f ≡ f
base_self (var_form i) z = refl
base_self true_form z = refl
base_self (not_form f) z = absurd (omega arith)
base_self (and_form fs) z = refl

module _ (o : Listing) (is : IsListing o) where
  base_sign : (f : Form) (b : ℕ) → IsListedAt o.bases b f → sign_of (base_form f) ≡ 0
  base_sign f b e = is.signs b (base_form f) e

  pub occurs_sign : (f : Form) → IsListed o f → sign_of (base_form f) ≡ 0
  occurs_sign f (b, e) = base_sign f b e

  pub number_once : (f : Form) (n m : ℕ) → IsNumber o.bases f n → IsNumber o.bases f m → n ≡ m
  number_once f n m (a, d, p) (b, e, q) = let s = is.once a b (base_form f) d e in omega arith

  pub number_of : (f : Form) (n : ℕ) → IsNumber o.bases f n → n ≡ number o.bases f
  number_of f n (b, e, s) = number_once f n (number o.bases f) (b, e, s) (number_is o.bases f b e)

  pub numbers_differ : (f h : Form) (n : ℕ) → IsNumber o.bases f n → IsNumber o.bases h n → f ≡ h
  numbers_differ f h n (a, d, p) (b, e, q) =
      let sf = sign_two f in
      let sh = sign_two h in
      let same : a ≡ b = omega arith in
      let signs : sign_of f ≡ sign_of h = omega arith in
      let bases : base_form f ≡ base_form h = same_Some (base_form f) (base_form h) (sym d ∙ (ap (slice_get o.bases) same ∙ e)) in
      signs_decide f h bases signs (base_sign f a d)

  pub occurs_complement : (f : Form) → IsListed o f → IsListed o (complement f)
  occurs_complement f (b, e) = (b, e ∙ ap Some (sym (complement_base f (base_sign f b e))))

  pub number_complement : (f : Form) (n : ℕ) → IsNumber o.bases f n → IsNumber o.bases (complement f) (flip n)
  number_complement f n (b, e, s) =
      let z = base_sign f b e in
      (b, e ∙ ap Some (sym (complement_base f z)), turned (sign_of f) (sign_two f) (complement_sign f z) s)
    where
      turned : (k : ℕ) → k ≤ 1 → sign_of (complement f) ≡ 1 - k → n ≡ 2 * b + k → flip n ≡ 2 * b + sign_of (complement f)
      turned zero le z s = let e = flip_even n b (omega arith) in omega arith
      turned (suc zero) le z s = let e = flip_odd n b (omega arith) in omega arith
      turned (suc (suc k)) le z s = absurd (omega arith)

  pub occurs_number : (f : Form) → IsListed o f → IsNumber o.bases f (number o.bases f)
  occurs_number f (b, e) = number_is o.bases f b e

  pub number_occurs : (f : Form) (n : ℕ) → IsNumber o.bases f n → IsListed o f
  number_occurs f n (b, e, s) = (b, e)

  -- the list of numbers names the list of forms
  pub numbers_injective : (fs hs : List Form) → AllByRecursion (IsListed o) fs → AllByRecursion (IsListed o) hs → map (number o.bases) fs ≡ map (number o.bases) hs → fs ≡ hs
  numbers_injective [] [] a b e = refl
  numbers_injective [] (h ∷ hs) a b e = cc
  numbers_injective (f ∷ fs) [] a b e = cc
  numbers_injective (f ∷ fs) (h ∷ hs) (p, a) (q, b) e =
      let first : number o.bases f ≡ number o.bases h = cc in
      let rest : map (number o.bases) fs ≡ map (number o.bases) hs = cc in
      let n = occurs_number h q in
      ap₂ (λ x xs. x ∷ xs) (numbers_differ f h (number o.bases f) (occurs_number f p) (subst (IsNumber o.bases h) (sym first) n)) (numbers_injective fs hs a b rest)
