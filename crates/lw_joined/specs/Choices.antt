-- The graph of a network and of others that were joined to it.
use Rattle.std.specs.Prelude.{ℕ, ◌<◌, ◌≤◌, ◌≡◌, Bool, true, false, List, [], length, All}
use Rattle.lw_pool.specs.declared.id.ClassId.{ClassId}
use Rattle.lw_pool.specs.Numbers.{numbers}
use Rattle.lw_laws.specs.Classes.{IsGraphOf}
use Rattle.lw_laws.specs.Encodings.{Encodes}
use Rattle.lw_laws.specs.Graphs.{Graph, IsWritten, most_classes}
use Rattle.lw_laws.specs.MappedNetlists.{form_classes}
use Rattle.lw_laws.specs.Modes.{Mode}
use Rattle.lw_laws.specs.NumberedForms.{NumberedForms, family_of}
use Rattle.lw_laws.specs.Signals.{Signal}
use Rattle.lw_net.specs.Networks.{NetworkParts, plain, ports_of}
use Rattle.lw_links.specs.Linked.{IsLinked}
use Rattle.lw_map.specs.Mapped.{IsWithinLimits, base_count}
use Rattle.lw_map.specs.Options.{IsWide, plain_options}
use Rattle.lw_map.specs.declared.options.Options as code
use Rattle.lw_joined.specs.declared.choices.Joined.{Joined}
use Rattle.lw_joined.specs.declared.taking.Left.{Left}
use Rattle.lw_joined.specs.declared.uniting.Other.{Other}
use Rattle.lw_joined.specs.declared.uniting.Union.{Union}
use Rattle.lw_joined.specs.Joins.{IsJoin, joined_listing, own_form}
use Rattle.lw_joined.specs.Unions.{AreLeftOut, ends_of, united}

-- How many base forms occur in a union that begins with the network, the graph of their classes, by pairs of forms that
-- have one value, and the classes of the sums of products of the network's outputs.
pub record IsJoined (net : NetworkParts) (j : Joined) : Type 0 where
  pub wide : IsWide (plain_options j.choices.options)
  pub links : List Signal
  pub is_join : IsJoin j.choices.options.width (plain net) (plain j.union) links
  pub within : IsWithinLimits (plain_options j.choices.options) j.union
  pub forms : j.choices.forms ≡ base_count (plain_options j.choices.options) j.union
  pub graph : IsGraphOf (plain_options j.choices.options).mode net.inputs
      (joined_listing j.choices.options.width (plain j.union) links) j.choices.graph
  pub few : length j.choices.graph.pairs ≤ most_classes
  pub roots : numbers j.choices.roots ≡ form_classes (joined_listing j.choices.options.width (plain j.union) links)
      (own_form j.choices.options.width (plain net)) j.choices.graph (ports_of net).outputs
  pub in_range : All (λ (root : ClassId). root.0 < length j.choices.graph.pairs) j.choices.roots

-- The graph of what is linked in a union, under these options. Where no links are asked for, there are none.
pub record IsJoinOf (net : NetworkParts) (options : code.Options) (linked : Bool) (u : Union) (left : List Left)
    (j : Joined) : Type 0 where
  pub joined : IsJoined net j
  pub options_are : j.choices.options ≡ options
  pub union : j.union ≡ u.net
  pub ends : j.ends.items ≡ u.ends.items
  pub told : j.left.items ≡ left
  pub unlinked : linked ≡ false → joined.links ≡ []

-- The union is that of the network and of the others that are taken, and those that are not are told with the limit
-- that they pass. Where no links are asked for, there are none.
pub record IsJoinedBy (net : NetworkParts) (others : List Other) (options : code.Options) (linked : Bool)
    (j : Joined) : Type 0 where
  pub joined : IsJoined net j
  pub options_are : j.choices.options ≡ options
  pub taken : List Bool
  pub union : j.union ≡ united net others taken
  pub ends : j.ends.items ≡ ends_of net others taken
  pub left_out : AreLeftOut options net others taken j.left.items
  pub unlinked : linked ≡ false → joined.links ≡ []

-- the forms with pairs of equal forms, where these are asked for
abbrev pub IsLinkedIf : Bool → NumberedForms → NumberedForms → Type 0
IsLinkedIf true old new = IsLinked old new
IsLinkedIf false old new = new ≡ old

-- the graph encodes the forms
pub record IsBuilt (mode : Mode) (forms : NumberedForms) (g : Graph) : Type 0 where
  pub encodes : Encodes (family_of mode forms) g
  pub written : IsWritten (length forms.bases) forms.inputs g
  pub few : length g.pairs ≤ most_classes
