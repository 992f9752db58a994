-- Lists of occurring forms, and what that of a network keeps.
use Rattle.std.specs.Prelude.{ℕ, ◌<◌, ◌≤◌, ◌≡◌, false, List, [], ◌∷◌, length, Some, slice_get}
use Rattle.std.specs.List.{AllByRecursion}
use Rattle.lw_laws.specs.Forms.{Form, FormList, items, and_of, same_form, is_among, has_clash}
use Rattle.lw_laws.specs.Forms.Form.{var_form, true_form, not_form, and_form}
use Rattle.lw_laws.specs.Networks.{Network}
use Rattle.lw_laws.specs.Signals.{Signal, signals_of}
use Rattle.lw_laws.specs.Occurring.{occurring_forms}
use Rattle.lw_laws.specs.Decompositions.{Occurs}

-- the width, the list of occurring base forms, and the pairs of linked forms: those of a network are the two forms of
-- each signal
pub record Listing : Type 0 where
  pub width : ℕ
  pub bases : List Form
  pub signals : List Signal

abbrev pub listing_of : ℕ → Network → Listing
listing_of width net = record { width = width; bases = occurring_forms width net; signals = signals_of width net }

abbrev pub base_form : Form → Form
base_form (not_form f) = f
base_form (var_form i) = var_form i
base_form true_form = true_form
base_form (and_form fs) = and_form fs

abbrev pub IsListedAt : List Form → ℕ → Form → Type 0
IsListedAt bases b f = slice_get bases b ≡ Some (base_form f)

-- the base form of the form is listed
abbrev pub IsListed : Listing → Form → Type 0
IsListed o f = (b : ℕ) × IsListedAt o.bases b f

-- a sub-list, in which order is kept
pub data IsSub : List Form → List Form → Type 0 where
  sub_none : IsSub [] []
  sub_with : {f : Form} {hs fs : List Form} → IsSub hs fs → IsSub (f ∷ hs) (f ∷ fs)
  sub_without : {f : Form} {hs fs : List Form} → IsSub hs fs → IsSub hs (f ∷ fs)

-- no form is true, or stands twice
abbrev pub AreDistinct : List Form → Type 0
AreDistinct [] = Unit {0}
AreDistinct (f ∷ fs) = (same_form f true_form ≡ false) × (is_among f fs ≡ false) × AreDistinct fs

-- the forms that an And may have
pub record AreOperands (width : ℕ) (fs : List Form) : Type 0 where
  pub two : 2 ≤ length fs
  pub few : length fs ≤ width
  pub distinct : AreDistinct fs
  pub clashless : has_clash fs ≡ false

abbrev pub IsListedBefore : List Form → ℕ → Form → Type 0
IsListedBefore bases b f = (k : ℕ) × IsListedAt bases k f × (k < b)

-- the operands of a listed And are listed before it, and so is the And of each shorter sub-list
pub record IsListedAndForm (width : ℕ) (bases : List Form) (b : ℕ) (fs : List Form) : Type 0 where
  pub operands_are : AreOperands width fs
  pub before : AllByRecursion (IsListedBefore bases b) fs
  pub subs : (hs : List Form) → IsSub hs fs → 2 ≤ length hs → length hs < length fs → IsListedBefore bases b (and_of hs)

-- 0 for a base form, and 1 for the complement of one
abbrev pub sign_of : Form → ℕ
sign_of (not_form f) = 1
sign_of (var_form i) = 0
sign_of true_form = 0
sign_of (and_form fs) = 0

-- each listed form is a base form, listed once, which occurs; true is listed, and so are the linked forms
pub record IsListing (o : Listing) : Type 0 where
  pub signs : (b : ℕ) (f : Form) → slice_get o.bases b ≡ Some f → sign_of f ≡ 0
  pub once : (a b : ℕ) (f : Form) → slice_get o.bases a ≡ Some f → slice_get o.bases b ≡ Some f → a ≡ b
  pub ands : (b : ℕ) (fs : FormList) → slice_get o.bases b ≡ Some (and_form fs)
      → IsListedAndForm o.width o.bases b (items fs)
  pub signals : (s : ℕ) (x : Signal) → slice_get o.signals s ≡ Some x → IsListed o x.sop × IsListed o x.fac
  pub top : IsListed o true_form
  pub only : (b : ℕ) (f : Form) → slice_get o.bases b ≡ Some f → Occurs o.signals f
