-- The forms of nets by numbers.
use Rattle.std.specs.Prelude.{ℕ, ◌+◌, ◌/◌, ◌<◌, ◌≤◌, ◌≡◌, All, Option, Bool, Some, slice_get, List, [], ◌∷◌, length}
use Rattle.lw_pool.specs.Numbers.{most_signals}
use Rattle.lw_pool.specs.declared.id.NetId.{NetId}
use Rattle.lw_net.specs.declared.node.Node.{Node}
use Rattle.lw_laws.specs.Forms.{Form}
use Rattle.lw_laws.specs.Forms.Form.{true_form}
use Rattle.lw_laws.specs.Occurring.{add_signals}
use Rattle.lw_laws.specs.Signals.{Signal, sum_of_products, factored}
use Rattle.lw_laws.specs.SignalValues.{form_of}
use Rattle.lw_form.specs.declared.fault.FormFault.{FormFault}
use Rattle.lw_form.specs.declared.maker.Fanins.{Fanins}
use Rattle.lw_form.specs.declared.occurring.Occurring.{Occurring}
use Rattle.lw_form.specs.Listed.{bases_of, IsListed, IsTooLong}
use Rattle.lw_form.specs.Tables.{Table, made, AreBelow, HasMore, IsMadeAs, forms_at}

abbrev pub signal_at : List Form → ℕ → ℕ → Signal
signal_at forms sop fac = record { sop = form_of forms sop; fac = form_of forms fac }

abbrev pub signals_at : List Form → List ℕ → List ℕ → List Signal
signals_at forms (sop ∷ sops) (fac ∷ facs) = signal_at forms sop fac ∷ signals_at forms sops facs
signals_at forms _ _ = []

-- These are the forms of the nets so far, and what occurs in them is listed.
pub record AreListed (now : Table) (listed places sops facs : List ℕ) (signals : List Signal) : Type 0 where
  pub listed_is : IsListed (made now) listed places
  pub sops_below : AreBelow (length (made now)) sops
  pub facs_below : AreBelow (length (made now)) facs
  pub one_each : length sops ≡ length facs
  pub signals_are : signals_at (made now) sops facs ≡ signals
  pub bases : bases_of (made now) listed ≡ add_signals signals (true_form ∷ [])

-- Node j has fan-ins among the nets before its own, where there were so many nets before, and a sign for each.
abbrev pub AreNodes : ℕ → List Node → Type 0
AreNodes count nodes = (j : ℕ) (node : Node) → slice_get nodes j ≡ Some node
    → All (λ (net : NetId). net.0 < count + j) node.fanins
    × All (λ (row : List ℕ). length row ≡ length node.fanins) node.rows

-- these are the sum of products and the factored form of some rows
pub record AreBothForms (of : Fanins) (old new : Table) (rows : List (List (Option Bool))) (s f : ℕ) : Type 0 where
  pub sop : IsMadeAs old new s (sum_of_products of.maker.now.width (forms_at (made old) of.forms.now) rows)
  pub fac : IsMadeAs old new f (factored of.maker.now.width (forms_at (made old) of.forms.now) rows)

-- these are the signals of the nets so far
abbrev pub HasSignals : Occurring → List Signal → Type 0
HasSignals all signals =
    AreListed all.table all.listing.listed.items all.listing.places.items all.sops.items all.facs.items signals

-- a net can be added with these forms
pub record CanAddNet (all : Occurring) (s f : ℕ) : Type 0 where
  pub listed : (signals : List Signal) × HasSignals all signals
  pub sop : s / 2 < length (made all.table)
  pub fac : f / 2 < length (made all.table)

-- the net of a node can be added
pub record CanAddNode (all : Occurring) (node : Node) : Type 0 where
  pub listed : (signals : List Signal) × HasSignals all signals
  pub fanins : All (λ (net : NetId). net.0 < length all.sops.items) node.fanins
  pub columns : All (λ (row : List ℕ). length row ≡ length node.fanins) node.rows

-- and so can those of some nodes
pub record CanAddNodes (all : Occurring) (ns : List Node) : Type 0 where
  pub listed : (signals : List Signal) × HasSignals all signals
  pub nodes : AreNodes (length all.sops.items) ns

-- signals are added, while more forms are made
pub record AddsSignals (old new : Occurring) (add : List Signal → List Signal) : Type 0 where
  pub more : HasMore (made old.table) (made new.table)
  pub listed : (signals : List Signal) → HasSignals old signals → HasSignals new (add signals)

-- a fault where they are added
abbrev pub IsSignalFault : Occurring → (List Signal → List Signal) → FormFault → Type 0
IsSignalFault old add fault =
    (signals : List Signal) → HasSignals old signals → IsTooLong (add_signals (add signals) (true_form ∷ [])) fault

-- no net has been added, and there are so many inputs
pub record HasNoNets (inputs : ℕ) (all : Occurring) : Type 0 where
  pub few : inputs ≤ most_signals
  pub table : all.table ≡ record { inputs = inputs; keys = [] }
  pub listed : HasSignals all []
