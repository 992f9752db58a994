-- A netlist with little area to which a network is mapped, and the text of one.
use Rattle.std.specs.Prelude.{ℕ, ◌≤◌, ◌≡◌, ⊤, Bool, true, false, List, [], length, map, Option, Some, None, option_map}
use Rattle.std.specs.Prelude.{slice_index_or}
use Rattle.lw_pool.specs.declared.id.ClassId.{ClassId}
use Rattle.std.specs.List.{AllZip}
use Rattle.lw_fixed.specs.declared.micro.Micro.{Micro}
use Rattle.lw_laws.specs.Graphs.{Graph}
use Rattle.lw_laws.specs.Forms.{Form}
use Rattle.lw_laws.specs.Headline.{CoversForms, HasLeastTime}
use Rattle.lw_laws.specs.Listings.{Listing}
use Rattle.lw_laws.specs.MappedNetlists.{IsMatchNetlistOfForms, IsNetlistOfForms}
use Rattle.lw_laws.specs.Networks.{Network}
use Rattle.lw_laws.specs.Signals.{Signal}
use Rattle.lw_laws.specs.Matches.{IsLeastCover}
use Rattle.lw_laws.specs.Netlists.{AreByDepth}
use Rattle.lw_net.specs.Networks.{NetworkParts}
use Rattle.lw_net.specs.Plain as network
use Rattle.lw_net.specs.Ports.{ports_of}
use Rattle.lw_blif.specs.declared.parsed.Parsed.{Parsed}
use Rattle.lw_genlib.specs.Cells.{CellParts}
use Rattle.lw_genlib.specs.Tables.{millionths, timing_of, truth_of_cells}
use Rattle.lw_pattern.specs.Libraries.{library_patterns}
use Rattle.lw_label.specs.Delays.{most_time, time_cost}
use Rattle.lw_netlist.specs.Netlists.{NetlistParts, IsNetlist}
use Rattle.lw_netlist.specs.Plain as netlist
use Rattle.lw_netlist.specs.Plain.{mapped_ports}
use Rattle.lw_mapped.specs.declared.certificate.Certificate.{Certificate}
use Rattle.lw_mapped.specs.Texts.{mapped_text}
use Rattle.lw_look.specs.Areas.{area_of}
use Rattle.lw_look.specs.Looks.{IsInTime}
use Rattle.lw_map.specs.Mapped.{IsWithinLimits}
use Rattle.lw_joined.specs.Joins.{IsJoin, joined_listing, own_form}
use Rattle.lw_area.specs.Deadlines.{deadlines_of}
use Rattle.lw_area.specs.declared.sources.Further.{Further}
use Rattle.lw_area.specs.Words.{Settings}
use Rattle.lw_area.specs.Sources.{IsUnionOf}

-- What a network is mapped over: a union that begins with it, and links, which are pairs of forms with one value.
pub record Space : Type 0 where
  pub union : Network
  pub links : List Signal

abbrev pub IsSpace : Settings → NetworkParts → Space → Type 0
IsSpace settings net space = IsJoin settings.options.width (network.plain net) space.union space.links

-- the forms of the union, with the pairs of its nets and the links
abbrev pub listing_in : Settings → Space → Listing
listing_in settings space = joined_listing settings.options.width space.union space.links

-- the form of each net of the network
abbrev pub form_in : Settings → NetworkParts → ℕ → Form
form_in settings net = own_form settings.options.width (network.plain net)

-- Of all covers by the library of all trees that the rules and the links derive for an output, the fastest takes so
-- long.
abbrev pub AreLeastTimesIn : Settings → List CellParts → NetworkParts → Space → List Micro → List Micro → Type 0
AreLeastTimesIn settings cells net space starts least =
    AllZip (λ p d. HasLeastTime settings.options.mode settings.options.width (listing_in settings space).signals
    (library_patterns cells) (timing_of cells starts) (form_in settings net p.net) d) (ports_of net).outputs
    (map millionths least)

-- the netlist of the chosen matches
abbrev pub IsFastestIn : Settings → List CellParts → NetworkParts → Space → List Micro → NetlistParts → Type 0
IsFastestIn settings cells net space starts n =
    IsNetlistOfForms settings.options.mode net.inputs (listing_in settings space) (form_in settings net) (ports_of net)
    (library_patterns cells) (timing_of cells starts) most_time (netlist.plain n) n.names (mapped_ports n)

-- The netlist has the network's ports, and gives each output the network's value under every assignment. Each output
-- stands for a cover of a tree that the rules and the links derive for it, and arrives by its deadline, which is never
-- before its least time. The area, each gate counted once, is at most that of the netlist of the chosen matches, which
-- it is where nothing was tried. Its gates are matches, one at a class, with the names that those have, and stand by
-- depth.
pub record IsRecovered (settings : Settings) (cells : List CellParts) (net : NetworkParts) (space : Space)
    (starts : List Micro) (n : NetlistParts) : Type 0 where
  pub kept : IsNetlist n
  pub model_name : n.model ≡ net.model
  pub covers : CoversForms settings.options.mode settings.options.width (listing_in settings space).signals
      (form_in settings net) (network.plain net) (ports_of net) (library_patterns cells) (timing_of cells starts)
      (truth_of_cells cells) (netlist.plain n) (mapped_ports n)
  pub least : List Micro
  pub least_are : AreLeastTimesIn settings cells net space starts least
  pub timely : IsInTime cells starts (deadlines_of settings.deadline least) n
  pub smaller : (fastest : NetlistParts) → IsFastestIn settings cells net space starts fastest
      → area_of cells n.gates ≤ area_of cells fastest.gates
  pub untried : settings.effort ≡ None → IsFastestIn settings cells net space starts n
  pub matches : IsMatchNetlistOfForms settings.options.mode net.inputs (listing_in settings space)
      (form_in settings net) (ports_of net) (library_patterns cells) (map length (timing_of cells starts).delays)
      (netlist.plain n) n.names (mapped_ports n)
  pub by_depth : AreByDepth (netlist.plain n)

-- Certificates.

abbrev pub class_number : ClassId → ℕ
class_number class = class.0

-- the least time of each class of the graph, none where it has no cover, and the classes of the gates
pub record IsCertificateOver (cells : List CellParts) (starts : List Micro) (g : Graph) (gates : List ℕ)
    (certificate : Certificate) : Type 0 where
  pub one_each : length certificate.labels ≡ length g.pairs
  pub least : (class : ℕ) → IsLeastCover g (library_patterns cells) (time_cost cells starts) class
      (option_map millionths (slice_index_or certificate.labels class None))
  pub classes : map (option_map class_number) certificate.nets ≡ map Some gates

-- there is one where it is asked for
abbrev pub IsAskedFor : List CellParts → List Micro → Graph → List ℕ → Bool → Option Certificate → Type 0
IsAskedFor cells starts g gates false None = ⊤
IsAskedFor cells starts g gates true (Some certificate) = IsCertificateOver cells starts g gates certificate
IsAskedFor cells starts g gates certified certificate = ⊥

-- The union is of the network and of others that were read, within the limits. Where links are not asked for there are
-- none.
pub record IsSpaceOf (settings : Settings) (net : NetworkParts) (further : List Further) (space : Space) : Type 0 where
  pub is_space : IsSpace settings net space
  pub union : NetworkParts
  pub united : IsUnionOf net further union
  pub is_union : space.union ≡ network.plain union
  pub within : IsWithinLimits settings.options union
  pub unlinked : settings.linked ≡ false → space.links ≡ []

-- The text is that of such a netlist, over the network and others that were joined to it, with the model's frame and
-- its starts, and with its certificate where it is asked for.
pub record IsRecoveredText (settings : Settings) (cells : List CellParts) (model : Parsed) (further : List Further)
    (text : List ℕ) : Type 0 where
  pub space : Space
  pub over : IsSpaceOf settings model.network further space
  pub netlist : NetlistParts
  pub recovered : IsRecovered settings cells model.network space model.starts netlist
  pub certificate : Option Certificate
  pub asked : IsAskedFor cells model.starts recovered.matches.graph recovered.matches.gates settings.certified
      certificate
  pub written : text ≡ mapped_text cells netlist model.frame model.starts certificate
