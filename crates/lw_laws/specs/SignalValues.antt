-- Truth values of the nets of a network, of linked forms, and of forms by their numbers.
use Rattle.std.specs.Prelude.{ℕ, ◌+◌, ◌<◌, ◌/◌, ◌%◌, ◌==◌, ◌≡◌, Bool, if◌then◌else◌, Some, List, ◌++◌, length}
use Rattle.std.specs.Prelude.{slice_get, slice_index_or}
use Rattle.lw_laws.specs.Forms.{Form, complement, form_value}
use Rattle.lw_laws.specs.Forms.Form.{true_form}
use Rattle.lw_laws.specs.Networks.{Network, AreValues}
use Rattle.lw_laws.specs.Signals.{Signal}
use Rattle.lw_laws.specs.Occurring.{HasInputsFirst}
use Rattle.lw_laws.specs.Listings.{Listing, IsListed, IsListing}

-- the form of a number
abbrev pub form_of : List Form → ℕ → Form
form_of bases n =
    if n % 2 == 0 then slice_index_or bases (n / 2) true_form else complement (slice_index_or bases (n / 2) true_form)

abbrev pub number_value : Listing → (ℕ → Bool) → ℕ → Bool
number_value o x n = form_value x (form_of o.bases n)

-- the two forms of a signal have one value
abbrev pub SignalsAgree : List Signal → (ℕ → Bool) → Type 0
SignalsAgree signals x =
    (s : ℕ) (signal : Signal) → slice_get signals s ≡ Some signal → form_value x signal.sop ≡ form_value x signal.fac

-- What the theorems ask of a listing over so many inputs: true is listed first and then the inputs, and linked forms
-- have one value.
pub record IsSoundListing (inputs : ℕ) (o : Listing) : Type 0 where
  pub listing : IsListing o
  pub first : HasInputsFirst inputs o.bases
  pub agree : (x : ℕ → Bool) → SignalsAgree o.signals x

-- the form of each net of the network is listed, and has the net's value
pub record AreNetForms (net : Network) (o : Listing) (form : ℕ → Form) : Type 0 where
  pub listed : (s : ℕ) → s < net.inputs + length net.nodes → IsListed o (form s)
  pub values : (x : ℕ → Bool) (values : List Bool) → AreValues net x values → (s : ℕ)
      → s < net.inputs + length net.nodes → slice_get values s ≡ Some (form_value x (form s))

-- a pair of listed forms that have one value
pub record IsLinkOf (o : Listing) (link : Signal) : Type 0 where
  pub listed : IsListed o link.sop × IsListed o link.fac
  pub agree : (x : ℕ → Bool) → form_value x link.sop ≡ form_value x link.fac

-- the listing with further pairs of linked forms
abbrev pub with_links : Listing → List Signal → Listing
with_links o links = record { width = o.width; bases = o.bases; signals = o.signals ++ links }
