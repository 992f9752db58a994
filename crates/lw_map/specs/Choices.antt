-- The choices of decomposition of a network.
use Rattle.std.specs.Prelude.{ℕ, ◌<◌, ◌≤◌, ◌≡◌, length, All, slice_index_or}
use Rattle.lw_pool.specs.declared.id.ClassId.{ClassId}
use Rattle.lw_pool.specs.declared.id.NetId.{NetId}
use Rattle.lw_laws.specs.Graphs.{Graph, class_of, most_classes}
use Rattle.lw_laws.specs.NumberedForms.{NumberedForms}
use Rattle.lw_laws.specs.Classes.{IsGraphOf}
use Rattle.lw_laws.specs.Listings.{listing_of}
use Rattle.lw_laws.specs.MappedNetlists.{root_classes}
use Rattle.lw_net.specs.Networks.{NetworkParts}
use Rattle.lw_net.specs.Plain.{plain}
use Rattle.lw_map.specs.declared.choices.Choices.{Choices}
use Rattle.lw_map.specs.Options.{IsWide, plain_options}
use Rattle.lw_map.specs.Mapped.{base_count, IsWithinLimits}
use Rattle.lw_pool.specs.Numbers.{numbers}
use Rattle.lw_net.specs.Ports.{ports_of}

-- the class of the sum of products of a net
abbrev pub root_of : NumberedForms → Graph → NetId → ℕ
root_of forms g output = class_of g (slice_index_or forms.sops output.0 0)

-- how many base forms occur in the network, the graph of their classes, and the classes of the outputs' sums of
-- products
pub record AreChoicesOf (net : NetworkParts) (c : Choices) : Type 0 where
  pub wide : IsWide (plain_options c.options)
  pub within : IsWithinLimits (plain_options c.options) net
  pub forms : c.forms ≡ base_count (plain_options c.options) net
  pub graph : IsGraphOf (plain_options c.options).mode net.inputs (listing_of c.options.width (plain net)) c.graph
  pub few : length c.graph.pairs ≤ most_classes
  pub roots : numbers c.roots ≡ root_classes c.options.width (plain net) c.graph (ports_of net).outputs
  pub in_range : All (λ (root : ClassId). root.0 < length c.graph.pairs) c.roots
