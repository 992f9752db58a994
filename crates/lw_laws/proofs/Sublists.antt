-- Parts of lists of forms.
use Rattle.std.proofs.Common.{ℕ, ◌≤◌, ◌≡◌, Bool, false, List, [], ◌∷◌, length, refl, ap, ◌∙◌, arith, le-leb}
use Rattle.std.specs.List.{list_any, AllByRecursion}
use Rattle.std.proofs.lemmas.Bool.{or_parts, or_from}
use Rattle.lw_laws.specs.Forms.{Form, and_of, same_form, is_among, complement, without, kept, has_clash, joined, conjunction_within, conjunction}
use Rattle.lw_laws.specs.Forms.Form.{true_form, not_form}
use Rattle.lw_laws.specs.Decompositions.{AreParts, AreOverlapping}
use Rattle.lw_laws.specs.Decompositions.AreParts.{parts_none, parts_left, parts_right}
use Rattle.lw_laws.specs.Decompositions.AreOverlapping.{over_none, over_left, over_right, over_both}
use Rattle.lw_laws.specs.Listings.IsSub.{sub_none, sub_with, sub_without}
use Rattle.lw_laws.specs.Listings.{IsSub, AreDistinct, AreOperands}

pub parts_subs : {fs ls rs : List Form} → AreParts fs ls rs → IsSub ls fs × IsSub rs fs
parts_subs parts_none = (sub_none, sub_none)
parts_subs (parts_left p) = let r = parts_subs p in (sub_with r.0, sub_without r.1)
parts_subs (parts_right p) = let r = parts_subs p in (sub_without r.0, sub_with r.1)

pub parts_turned : {fs ls rs : List Form} → AreParts fs ls rs → AreParts fs rs ls
parts_turned parts_none = parts_none
parts_turned (parts_left p) = parts_right (parts_turned p)
parts_turned (parts_right p) = parts_left (parts_turned p)

pub overlapping_subs : {fs ls rs : List Form} → AreOverlapping fs ls rs → IsSub ls fs × IsSub rs fs
overlapping_subs over_none = (sub_none, sub_none)
overlapping_subs (over_left p) = let r = overlapping_subs p in (sub_with r.0, sub_without r.1)
overlapping_subs (over_right p) = let r = overlapping_subs p in (sub_without r.0, sub_with r.1)
overlapping_subs (over_both p) = let r = overlapping_subs p in (sub_with r.0, sub_with r.1)

pub overlapping_turned : {fs ls rs : List Form} → AreOverlapping fs ls rs → AreOverlapping fs rs ls
overlapping_turned over_none = over_none
overlapping_turned (over_left p) = over_right (overlapping_turned p)
overlapping_turned (over_right p) = over_left (overlapping_turned p)
overlapping_turned (over_both p) = over_both (overlapping_turned p)

pub IsSub_all : (P : Form → Type 0) {hs fs : List Form} → IsSub hs fs → AllByRecursion P fs → AllByRecursion P hs
IsSub_all P sub_none a = tt
IsSub_all P (sub_with s) (h, a) = (h, IsSub_all P s a)
IsSub_all P (sub_without s) (h, a) = IsSub_all P s a

pub IsSub_length : {hs fs : List Form} → IsSub hs fs → length hs ≤ length fs
IsSub_length sub_none = omega arith
IsSub_length (sub_with s) = let ih = IsSub_length s in omega arith
IsSub_length (sub_without s) = let ih = IsSub_length s in omega arith

pub IsSub_whole : {hs fs : List Form} → IsSub hs fs → length fs ≤ length hs → hs ≡ fs
IsSub_whole sub_none le = refl
IsSub_whole (sub_with {f = f} s) le = ap (λ xs. f ∷ xs) (IsSub_whole s (omega arith))
IsSub_whole (sub_without s) le = let l = IsSub_length s in absurd (omega arith)

-- what no form of a list has, no form of a sub-list has
any_sub : (test : Form → Bool) {hs fs : List Form} → IsSub hs fs → list_any test fs ≡ false → list_any test hs ≡ false
any_sub test sub_none e = refl
any_sub test (sub_with {f = f} {hs = hs} {fs = fs} s) e =
    let p = or_parts (test f) (list_any test fs) e in or_from (test f) (list_any test hs) p.0 (any_sub test s p.1)
any_sub test (sub_without {f = f} {fs = fs} s) e =
    let p = or_parts (test f) (list_any test fs) e in any_sub test s p.1

pub distinct_sub : {hs fs : List Form} → IsSub hs fs → AreDistinct fs → AreDistinct hs
distinct_sub sub_none d = tt
distinct_sub (sub_with {f = f} s) (t, o, d) = (t, any_sub (same_form f) s o, distinct_sub s d)
distinct_sub (sub_without s) (t, o, d) = distinct_sub s d

-- a test that fails wherever another does
any_weaker : (test other : Form → Bool) → ((f : Form) → test f ≡ false → other f ≡ false) → (fs : List Form) → list_any test fs ≡ false → list_any other fs ≡ false
any_weaker test other w [] e = refl
any_weaker test other w (f ∷ fs) e =
    let p = or_parts (test f) (list_any test fs) e in or_from (other f) (list_any other fs) (w f p.0) (any_weaker test other w fs p.1)

pub clash_sub : {hs fs : List Form} → IsSub hs fs → has_clash fs ≡ false → has_clash hs ≡ false
clash_sub {hs = hs} {fs = fs} s e =
    let p = or_parts (is_among (not_form true_form) fs) (list_any (λ f. is_among (complement f) fs) fs) e in
    or_from (is_among (not_form true_form) hs) (list_any (λ f. is_among (complement f) hs) hs) (any_sub (same_form (not_form true_form)) s p.0) (any_weaker (λ f. is_among (complement f) fs) (λ f. is_among (complement f) hs) (λ f. any_sub (same_form (complement f)) s) hs (any_sub (λ f. is_among (complement f) fs) s p.1))

without_none : (f : Form) (fs : List Form) → is_among f fs ≡ false → without f fs ≡ fs
without_none f [] e = refl
without_none f (h ∷ hs) e =
    let p = or_parts (same_form f h) (is_among f hs) e in
    let r = without_none f hs p.1 in
    rw p.0 (ap (λ xs. h ∷ xs) r)

pub kept_distinct : (fs : List Form) → AreDistinct fs → kept fs ≡ fs
kept_distinct [] d = refl
kept_distinct (f ∷ fs) (t, o, d) =
    rw (kept_distinct fs d) rw t (ap (λ xs. f ∷ xs) (without_none f fs o))

-- the And of one operand, and of more
joined_one : (again : List Form → Form) (width : ℕ) (f : Form) → joined again width (f ∷ []) false ≡ f
joined_one again width f = refl

joined_more : (again : List Form → Form) (width : ℕ) (f h : Form) (fs : List Form) → length (f ∷ h ∷ fs) ≤ width → joined again width (f ∷ h ∷ fs) false ≡ and_of (f ∷ h ∷ fs)
joined_more again width f h fs le = rw (le-leb (length (f ∷ h ∷ fs)) width le) refl

-- the And of operands that are distinct, do not clash, and are of the width at most
conjunction_clean : (width : ℕ) (fs : List Form) → AreDistinct fs → has_clash fs ≡ false → conjunction width fs ≡ joined (λ hs. conjunction_within (length fs) width hs) width fs false
conjunction_clean width fs d e = rw (kept_distinct fs d) rw e refl

module _ (width : ℕ) (fs : List Form) (are : AreOperands width fs) where
  pub conjunction_of_one : (f : Form) → IsSub (f ∷ []) fs → conjunction width (f ∷ []) ≡ f
  conjunction_of_one f s =
      conjunction_clean width (f ∷ []) (distinct_sub s are.distinct) (clash_sub s are.clashless)

  pub conjunction_of_more : (f h : Form) (hs : List Form) → IsSub (f ∷ h ∷ hs) fs → conjunction width (f ∷ h ∷ hs) ≡ and_of (f ∷ h ∷ hs)
  conjunction_of_more f h hs s =
      let le : length (f ∷ h ∷ hs) ≤ width = let l = IsSub_length s in let few = are.few in omega arith in
      conjunction_clean width (f ∷ h ∷ hs) (distinct_sub s are.distinct) (clash_sub s are.clashless) ∙ joined_more (λ xs. conjunction_within (length (f ∷ h ∷ hs)) width xs) width f h hs le
