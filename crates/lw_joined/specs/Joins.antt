-- What a network is mapped over: a union that begins with it, and links.
use Rattle.std.specs.Prelude.{ℕ, ◌+◌, ◌<◌, ◌≤◌, ◌≡◌, Bool, List, ◌++◌, length, take, Contains}
use Rattle.lw_laws.specs.Modes.{Mode}
use Rattle.lw_laws.specs.Networks.{AreValues, IsInOrder, Network, Node}
use Rattle.lw_laws.specs.Forms.{Form}
use Rattle.lw_laws.specs.Signals.{Signal, signals_of, sop_at}
use Rattle.lw_laws.specs.Listings.{Listing, listing_of}
use Rattle.lw_laws.specs.SignalValues.{IsLinkOf, with_links}
use Rattle.lw_laws.specs.Covers.{Pattern, Timing}
use Rattle.lw_laws.specs.Headline.{HasLeastTime}

-- The union has the inputs of the network, and its nodes first.
pub record BeginsWith (net union : Network) : Type 0 where
  pub inputs : union.inputs ≡ net.inputs
  pub further : List Node
  pub nodes : union.nodes ≡ net.nodes ++ further

-- the forms of a union, with its nets' pairs of forms and the links behind them
abbrev pub joined_listing : ℕ → Network → List Signal → Listing
joined_listing width union links = with_links (listing_of width union) links

-- the sum of products of each net of a network
abbrev pub own_form : ℕ → Network → ℕ → Form
own_form width net = sop_at (signals_of width net)

-- A union that begins with the network, and pairs of its forms that have one value.
pub record IsJoin (width : ℕ) (net union : Network) (links : List Signal) : Type 0 where
  pub begins : BeginsWith net union
  pub in_order : IsInOrder union
  pub links_hold : (x : Signal) → Contains links x → IsLinkOf (listing_of width union) x

-- The statements of the laws.

-- a union has the values of the network that it begins with
abbrev pub HasTheValues : Network → Network → Type 0
HasTheValues net union =
    (x : ℕ → Bool) (values : List Bool) → AreValues union x values
    → AreValues net x (take (net.inputs + length net.nodes) values)

-- the forms of the network's nets are the same in the union
abbrev pub HasTheForms : ℕ → Network → Network → Type 0
HasTheForms width net union =
    (s : ℕ) → s < net.inputs + length net.nodes → own_form width union s ≡ own_form width net s

-- with some pairs of forms a form is no earlier than with others
abbrev pub IsNoEarlier : Mode → ℕ → List Signal → List Signal → List Pattern → Timing → Form → Type 0
IsNoEarlier mode width signals others pats timing f =
    (d e : ℕ) → HasLeastTime mode width signals pats timing f d → HasLeastTime mode width others pats timing f e → e ≤ d

-- both forms of a pair have one least time
abbrev pub ArriveTogether : Mode → ℕ → List Signal → List Pattern → Timing → Signal → Type 0
ArriveTogether mode width signals pats timing x =
    (d e : ℕ) → HasLeastTime mode width signals pats timing x.sop d
    → HasLeastTime mode width signals pats timing x.fac e → d ≡ e
