-- The occurring forms as numbers: base form b of the list is form 2b, and its complement form 2b + 1.
use Rattle.std.specs.Prelude.{ℕ, suc, ◌+◌, ◌*◌, ◌↔◌, cond, List, [], ◌∷◌, map}
use Rattle.lw_laws.specs.Trees.{Tree}
use Rattle.lw_laws.specs.Families.{Derives}
use Rattle.lw_laws.specs.NumberedForms.{Base, NumberedForms, family_of}
use Rattle.lw_laws.specs.NumberedForms.Base.{base_true, base_input, base_and}
use Rattle.lw_laws.specs.Forms.{Form, items, same_form}
use Rattle.lw_laws.specs.Forms.Form.{var_form, true_form, not_form, and_form}
use Rattle.lw_laws.specs.Signals.{Signal}
use Rattle.lw_laws.specs.Decompositions.{HasTree}
use Rattle.lw_laws.specs.Modes.{Mode}
use Rattle.lw_laws.specs.Listings.{Listing, IsListed, base_form, sign_of}

-- the place of a form in the list, or its end
abbrev pub place : Form → List Form → ℕ
place f [] = 0
place f (h ∷ hs) = cond (same_form f h) 0 (suc (place f hs))

abbrev pub number : List Form → Form → ℕ
number bases f = 2 * place (base_form f) bases + sign_of f

abbrev pub numbered_base : List Form → Form → Base
numbered_base bases (var_form i) = base_input i
numbered_base bases true_form = base_true
numbered_base bases (not_form f) = base_true
numbered_base bases (and_form fs) = base_and (map (number bases) (items fs))

abbrev pub sop_number : List Form → Signal → ℕ
sop_number bases x = number bases x.sop

abbrev pub fac_number : List Form → Signal → ℕ
fac_number bases x = number bases x.fac

-- the listed forms by their numbers
abbrev pub numbered : ℕ → Listing → NumberedForms
numbered inputs o = record {
  inputs = inputs;
  bases = map (numbered_base o.bases) o.bases;
  sops = map (sop_number o.bases) o.signals;
  facs = map (fac_number o.bases) o.signals;
}

-- the rules over numbers derive for each occurring form the trees that the rules over plain forms give it
abbrev pub HasSameTrees : Mode → ℕ → Listing → Type 0
HasSameTrees mode inputs o =
    (f : Form) (t : Tree) → IsListed o f → HasTree mode o.width o.signals f t
    ↔ Derives (family_of mode (numbered inputs o)) (number o.bases f) t
