-- The graph of listed forms: its classes, their pairs, and their numbers.
use Rattle.std.specs.Prelude.{ℕ, ◌<◌, ◌≤◌, ◌≡◌, ◌≢◌, ◌↔◌, List, length, Some, slice_get}
use Rattle.lw_laws.specs.Trees.{Tree}
use Rattle.lw_laws.specs.Modes.{Mode}
use Rattle.lw_laws.specs.Modes.Mode.{idempotent}
use Rattle.lw_laws.specs.Forms.{Form, FormList, items, complement, conjunction}
use Rattle.lw_laws.specs.Forms.Form.{var_form, true_form, not_form, and_form}
use Rattle.lw_laws.specs.Decompositions.{AreParts, AreOverlapping, HasTree}
use Rattle.lw_laws.specs.Listings.{Listing, IsListed}
use Rattle.lw_laws.specs.Graphs.{Graph, class_of, HoldsPair, IsWritten}
use Rattle.lw_laws.specs.Numbering.{number}

-- the class of a form, by its place in the list of occurring base forms
abbrev pub class_in : Listing → Graph → Form → ℕ
class_in o g f = class_of g (number o.bases f)

-- The form is the NAND of two forms: of the Ands of the parts of a split, or in the further mode of the Ands of two
-- overlapping parts, or of its complement twice.
pub data IsNandForm (mode : Mode) (o : Listing) : Form → Form → Form → Type 0 where
  of_parts : {fs : FormList} {ls rs : List Form} → IsListed o (and_form fs) → AreParts (items fs) ls rs → 1 ≤ length ls
      → 1 ≤ length rs → IsNandForm mode o (not_form (and_form fs)) (conjunction o.width ls) (conjunction o.width rs)
  of_overlap : {fs : FormList} {ls rs : List Form} → mode ≡ idempotent → IsListed o (and_form fs)
      → AreOverlapping (items fs) ls rs → ls ≢ rs → 1 ≤ length ls → 1 ≤ length rs
      → IsNandForm mode o (not_form (and_form fs)) (conjunction o.width ls) (conjunction o.width rs)
  of_complement : {f : Form} → mode ≡ idempotent → IsListed o f → IsNandForm mode o f (complement f) (complement f)

-- some form of class c is the NAND of forms of classes x and y
pub record HasSplitAt (mode : Mode) (o : Listing) (g : Graph) (c x y : ℕ) : Type 0 where
  pub form : Form
  pub left : Form
  pub right : Form
  pub is_nand : IsNandForm mode o form left right
  pub form_at : class_in o g form ≡ c
  pub left_at : class_in o g left ≡ x
  pub right_at : class_in o g right ≡ y

-- The graph of the listed forms: two forms are of one class exactly where they have a common tree, a class holds the
-- pairs of the splits of its forms, and pairs of classes are numbered by their first base forms.
pub record IsGraphOf (mode : Mode) (inputs : ℕ) (o : Listing) (g : Graph) : Type 0 where
  pub written : IsWritten (length o.bases) inputs g
  pub one : g.one ≡ class_in o g true_form
  pub leaves : (i : ℕ) → i < inputs → slice_get g.leaves i ≡ Some (class_in o g (var_form i))
  pub classes : (f h : Form) → IsListed o f → IsListed o h
      → (class_in o g f ≡ class_in o g h)
      ↔ ((t : Tree) × HasTree mode o.width o.signals f t × HasTree mode o.width o.signals h t)
  pub pairs : (c x y : ℕ) → HoldsPair g c x y ↔ HasSplitAt mode o g c x y
