-- The union of a network and of others over its inputs, and which others are taken.
use Rattle.std.specs.Prelude.{ℕ, zero, suc, ◌+◌, ◌<◌, ◌≡◌, Bool, true, false, Option, Some, None}
use Rattle.std.specs.Prelude.{List, [], ◌∷◌, ◌++◌, length, take, slice_get}
use Rattle.lw_pool.specs.Numbers.{most_signals}
use Rattle.lw_laws.specs.Mapped.{forms_of}
use Rattle.lw_net.specs.Networks.{NetworkParts, plain}
use Rattle.lw_net.specs.Unions.{ArePlacesIn, bare, joined_to}
use Rattle.lw_map.specs.Options.{Options, plain_options}
use Rattle.lw_map.specs.declared.options.Options as code
use Rattle.lw_map.specs.Mapped.{HasTooManyForms, HasTooManySplits, IsWithinLimits}
use Rattle.lw_map.specs.declared.fault.MapFault.{MapFault}
use Rattle.lw_map.specs.declared.fault.MapFault.TheVariants as fault
use Rattle.lw_joined.specs.declared.uniting.Other.{Other}
use Rattle.lw_joined.specs.declared.uniting.Union.{Union}
use Rattle.lw_joined.specs.declared.taking.Chosen.{Chosen}
use Rattle.lw_joined.specs.declared.taking.Left.{Left}
use Rattle.lw_joined.specs.declared.taking.Limit.{Limit}
use Rattle.lw_joined.specs.declared.taking.Limit.TheVariants.{Signals, Forms, Splits}
use Rattle.lw_joined.specs.declared.taking.Listed.{Listed}
use Rattle.lw_joined.specs.declared.taking.Listing.{Listing}
use Rattle.lw_joined.specs.declared.taking.Listing.TheVariants.{Within, Past}
use Rattle.lw_joined.specs.declared.taking.Offer.{Offer}
use Rattle.lw_joined.specs.declared.taking.Taken.{Taken}

-- each input of the other is one of the network
abbrev pub FitsOther : NetworkParts → Other → Type 0
FitsOther net other = ArePlacesIn net.inputs other.net.now other.places.now

abbrev pub places_from : ℕ → ℕ → List ℕ
places_from i zero = []
places_from i (suc n) = i ∷ places_from (suc i) n

-- each input at its own place
abbrev pub own_places : ℕ → List ℕ
own_places inputs = places_from 0 inputs

-- the network's inputs, and its nodes
abbrev pub first_of : NetworkParts → NetworkParts
first_of net = joined_to (bare net) net (own_places net.inputs)

-- a union with one other more, where that is taken
abbrev pub with_taken : NetworkParts → Other → Bool → NetworkParts
with_taken union other true = joined_to union other.net.now other.places.now
with_taken union other false = union

-- a union with those others that are taken
abbrev pub united_to : NetworkParts → List Other → List Bool → NetworkParts
united_to union (other ∷ others) (is_taken ∷ taken) = united_to (with_taken union other is_taken) others taken
united_to union _ _ = union

-- The inputs of a network, its nodes, and then the nodes of those others that are taken, in order.
abbrev pub united : NetworkParts → List Other → List Bool → NetworkParts
united net others taken = united_to (first_of net) others taken

-- how many nets there are behind a network, where that is taken
abbrev pub end_of : NetworkParts → Bool → List ℕ
end_of union true = length union.names ∷ []
end_of union false = []

-- how many nets there are behind each network of a union
abbrev pub ends_from : NetworkParts → List Other → List Bool → List ℕ
ends_from union (other ∷ others) (is_taken ∷ taken) =
    end_of (with_taken union other is_taken) is_taken ++ ends_from (with_taken union other is_taken) others taken
ends_from union _ _ = []

abbrev pub ends_of : NetworkParts → List Other → List Bool → List ℕ
ends_of net others taken = length (first_of net).names ∷ ends_from (first_of net) others taken

-- the network of all nodes, or that it has too many signals
abbrev pub IsUnionOf : NetworkParts → List ℕ → Option Union → Type 0
IsUnionOf net ends (Some u) = (u.net ≡ net) × (u.ends.items ≡ ends)
IsUnionOf net ends None = most_signals < length net.names

abbrev pub IsUnion : NetworkParts → List Other → List Bool → Option Union → Type 0
IsUnion net others taken u = IsUnionOf (united net others taken) (ends_of net others taken) u

-- the union passes this limit
abbrev pub IsPast : Options → NetworkParts → Limit → Type 0
IsPast options union Signals = most_signals < length union.names
IsPast options union Forms = HasTooManyForms options union
IsPast options union Splits = HasTooManySplits options union

-- why a network is refused that passes a limit alone; it never has too many signals
abbrev pub limit_fault : Limit → MapFault
limit_fault Forms = fault.Forms
limit_fault Splits = fault.Splits
limit_fault Signals = fault.Memory

abbrev pub union_in : Offer → List Bool → NetworkParts
union_in o taken = united o.net.now o.others.now taken

-- A union within the limits, how many nets there are behind each network, and its forms.
pub record IsListedAs (options : code.Options) (net : NetworkParts) (counts : List ℕ) (l : Listed) : Type 0 where
  pub union : l.union.net ≡ net
  pub ends : l.union.ends.items ≡ counts
  pub within : IsWithinLimits (plain_options options) net
  pub forms : l.forms ≡ forms_of options.width (plain net)

-- the union with its forms, or the limit that it passes
abbrev pub IsListingOf : code.Options → NetworkParts → List ℕ → Listing → Type 0
IsListingOf options net ends (Within listed) = IsListedAs options net ends listed
IsListingOf options net ends (Past limit) = IsPast (plain_options options) net limit

-- the same for the union of those that are taken
abbrev pub ListsTaken : Offer → List Bool → Listed → Type 0
ListsTaken o taken listed = IsListedAs o.options (union_in o taken) (ends_of o.net.now o.others.now taken) listed

abbrev pub ListsUnion : Offer → List Bool → Listing → Type 0
ListsUnion o taken listing =
    IsListingOf o.options (union_in o taken) (ends_of o.net.now o.others.now taken) listing

-- those that were taken before a place, and the one there
abbrev pub tried_at : ℕ → List Bool → List Bool
tried_at place taken = take place taken ++ true ∷ []

-- Each other that is not taken is told, with the limit that it passes together with those that were taken before it.
pub record AreLeftOut (options : code.Options) (net : NetworkParts) (others : List Other) (taken : List Bool)
    (left : List Left) : Type 0 where
  pub all : (place : ℕ) → slice_get taken place ≡ Some false
      → (k : ℕ) × (l : Left) × (slice_get left k ≡ Some l) × (l.place ≡ place)
  pub each : (k : ℕ) (l : Left) → slice_get left k ≡ Some l
      → (slice_get taken l.place ≡ Some false)
      × IsPast (plain_options options) (united net others (tried_at l.place taken)) l.limit

abbrev pub LeavesOut : Offer → List Bool → List Left → Type 0
LeavesOut o taken left = AreLeftOut o.options o.net.now o.others.now taken left

-- Whether each of the first others is taken, the union of those that are, and what is told of those that are not.
pub record AreChosen (o : Offer) (count : ℕ) (c : Chosen) : Type 0 where
  pub one_each : length c.taken.items ≡ count
  pub listed : ListsTaken o c.taken.items c.listed
  pub left_out : LeavesOut o c.taken.items c.left.items

pub record AreTaken (o : Offer) (taken : List Bool) (t : Taken) : Type 0 where
  pub one_each : length taken ≡ length o.others.now
  pub listed : ListsTaken o taken t.listed
  pub left_out : LeavesOut o taken t.left.items

abbrev pub IsTaking : Offer → Taken → Type 0
IsTaking o t = (taken : List Bool) × AreTaken o taken t
