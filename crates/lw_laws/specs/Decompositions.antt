-- The forms that occur, and the trees that the rules of decomposition give a form, over forms as plain trees.
use Rattle.std.specs.Prelude.{ℕ, ◌≤◌, ◌≡◌, ◌≢◌, ◌⊎◌, List, [], ◌∷◌, length, Some, slice_get, Contains}
use Rattle.lw_laws.specs.Trees.{Tree, leaf, const_one, const_zero, inv, nand}
use Rattle.lw_laws.specs.Modes.Mode.{idempotent}
use Rattle.lw_laws.specs.Forms.{Form, FormList, items, and_of, complement, conjunction}
use Rattle.lw_laws.specs.Forms.Form.{var_form, true_form, not_form, and_form}
use Rattle.lw_laws.specs.Signals.{Signal}
use Rattle.lw_laws.specs.Modes.{Mode}

-- the operands are cut into two lists, in which their order is kept
pub data AreParts : List Form → List Form → List Form → Type 0 where
  parts_none : AreParts [] [] []
  parts_left : {f : Form} {fs ls rs : List Form} → AreParts fs ls rs → AreParts (f ∷ fs) (f ∷ ls) rs
  parts_right : {f : Form} {fs ls rs : List Form} → AreParts fs ls rs → AreParts (f ∷ fs) ls (f ∷ rs)

-- two lists that together hold every operand, in which their order is kept
pub data AreOverlapping : List Form → List Form → List Form → Type 0 where
  over_none : AreOverlapping [] [] []
  over_left : {f : Form} {fs ls rs : List Form} → AreOverlapping fs ls rs → AreOverlapping (f ∷ fs) (f ∷ ls) rs
  over_right : {f : Form} {fs ls rs : List Form} → AreOverlapping fs ls rs → AreOverlapping (f ∷ fs) ls (f ∷ rs)
  over_both : {f : Form} {fs ls rs : List Form} → AreOverlapping fs ls rs → AreOverlapping (f ∷ fs) (f ∷ ls) (f ∷ rs)

-- The forms that occur where these are the pairs of linked forms: true, the forms of the pairs, the operands of an And
-- that occurs, the Ands of two or more of its operands in their order, and the complements of all these.
pub data Occurs (signals : List Signal) : Form → Type 0 where
  true_occurs : Occurs signals true_form
  sop_occurs : {x : Signal} → Contains signals x → Occurs signals x.sop
  fac_occurs : {x : Signal} → Contains signals x → Occurs signals x.fac
  operand_occurs : {fs : FormList} {f : Form} → Occurs signals (and_form fs) → Contains (items fs) f → Occurs signals f
  part_occurs : {fs : FormList} {ls rs : List Form} → Occurs signals (and_form fs) → AreParts (items fs) ls rs
      → 2 ≤ length ls → Occurs signals (and_of ls)
  complement_occurs : {f : Form} → Occurs signals f → Occurs signals (complement f)

-- f and h are p and q in either order, or their complements
abbrev pub IsPairOf : Form → Form → Form → Form → Type 0
IsPairOf f h p q = ((f ≡ p) × (h ≡ q) ⊎ (f ≡ q) × (h ≡ p))
    ⊎ ((f ≡ complement p) × (h ≡ complement q) ⊎ (f ≡ complement q) × (h ≡ complement p))

-- the two forms of one signal in either order, or their complements
abbrev pub AreOfOneSignal : List Signal → Form → Form → Type 0
AreOfOneSignal signals f h = (s : ℕ) × (x : Signal) × (slice_get signals s ≡ Some x) × IsPairOf f h x.sop x.fac

-- the rules derive the tree for the form
pub data HasTree (mode : Mode) (width : ℕ) (signals : List Signal) : Form → Tree → Type 0 where
  input_law : {i : ℕ} → HasTree mode width signals (var_form i) (leaf i)
  true_law : HasTree mode width signals true_form const_one
  false_law : HasTree mode width signals (not_form true_form) const_zero
  inverter_law : {f : Form} {t : Tree} → Occurs signals f → HasTree mode width signals (complement f) t
      → HasTree mode width signals f (inv t)
  split_law : {fs : FormList} {ls rs : List Form} {t u : Tree} → Occurs signals (and_form fs)
      → AreParts (items fs) ls rs → 1 ≤ length ls → 1 ≤ length rs → HasTree mode width signals (conjunction width ls) t
      → HasTree mode width signals (conjunction width rs) u
      → HasTree mode width signals (not_form (and_form fs)) (nand t u)
  sharing_law : {f h : Form} {s t : Tree} → Occurs signals f → Occurs signals h → HasTree mode width signals f s
      → HasTree mode width signals h s → HasTree mode width signals h t → HasTree mode width signals f t
  factoring_law : {f h : Form} {t : Tree} → AreOfOneSignal signals f h → HasTree mode width signals h t
      → HasTree mode width signals f t
  overlap_law : {fs : FormList} {ls rs : List Form} {t u : Tree} → mode ≡ idempotent → Occurs signals (and_form fs)
      → AreOverlapping (items fs) ls rs → ls ≢ rs → 1 ≤ length ls → 1 ≤ length rs
      → HasTree mode width signals (conjunction width ls) t → HasTree mode width signals (conjunction width rs) u
      → HasTree mode width signals (not_form (and_form fs)) (nand t u)
  tied_inverter_law : {f : Form} {t u : Tree} → mode ≡ idempotent → Occurs signals f
      → HasTree mode width signals (complement f) t → HasTree mode width signals (complement f) u
      → HasTree mode width signals f (nand t u)
