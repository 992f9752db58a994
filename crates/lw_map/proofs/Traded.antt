-- A netlist whose outputs' nets stand for covers of the outputs' classes that are of least area by their times.
use Rattle.std.proofs.Common.{ℕ, suc, ◌+◌, ◌<◌, ◌≤◌, ◌≡◌, Bool, List, [], ◌∷◌, map, length, Option, Some, slice_get, slice_index_or, refl, ap, ap₂, sym, ◌∙◌, subst, arith}
use Rattle.std.specs.List.{AllZip}
use Rattle.std.proofs.lemmas.List.{length-map}
use Rattle.std.proofs.lemmas.Option.{get_or_from_slice_get, slice_get-get_or}
use Rattle.lw_fixed.specs.declared.micro.Micro.{Micro}
use Rattle.lw_laws.specs.Trees.{Tree}
use Rattle.lw_laws.specs.Graphs.{Unfolds}
use Rattle.lw_laws.specs.Networks.{AreValues}
use Rattle.lw_laws.specs.Signals.{sop_at, signals_of}
use Rattle.lw_laws.specs.Costs.{Cost, cost_of, costs_of}
use Rattle.lw_laws.specs.Covers.{Cover, Covers, IsCover, tree_of, time_of}
use Rattle.lw_laws.specs.Covers.Cover.{wire, gate}
use Rattle.lw_laws.specs.Covers.Covers.{no_covers, cover}
use Rattle.lw_laws.specs.Netlists.{Netlist, AreArrivals, AreNetCosts, AreNetlistValues, StandsFor, StandForAll}
use Rattle.lw_laws.specs.Mapped.{root_class}
use Rattle.lw_laws.specs.Decompositions.{HasTree}
use Rattle.lw_laws.specs.Listings.{listing_of}
use Rattle.lw_laws.specs.Headline.{HasLeastArrival}
use Rattle.lw_laws.proofs.Mapping.{list_values, list_arrivals, sop_occurs, sop_value_is}
use Rattle.lw_laws.proofs.Netlists.{StandsFor-value, StandsFor-time}
use Rattle.lw_laws.proofs.GraphEncodes.{graph_trees}
use Rattle.lw_laws.proofs.NumberValues.{trees_have_value}
use Rattle.lw_laws.proofs.FormTruth.{signals_agree}
use Rattle.lw_laws.proofs.Listed.{occurring_is_listing}
use Rattle.lw_net.specs.Networks.{NetworkParts, IsNetwork}
use Rattle.lw_net.specs.Plain as network
use Rattle.lw_net.proofs.Rise.{in_order}
use Rattle.lw_genlib.specs.Cells.{CellParts, IsLibrary}
use Rattle.lw_genlib.specs.Tables.{delays_of_cells, timing_of, truth_of_cells}
use Rattle.lw_pattern.specs.Libraries.{library_patterns}
use Rattle.lw_netlist.specs.Netlists.{NetlistParts}
use Rattle.lw_netlist.specs.Plain as netlist
use Rattle.lw_choices.specs.Areas.{area_cost}
use Rattle.lw_map.specs.declared.choices.Choices.{Choices}
use Rattle.lw_map.specs.Options.{Options, plain_options}
use Rattle.lw_map.specs.Choices.{AreChoicesOf}
use Rattle.lw_map.specs.Trading.{IsInTime, HasLeastArea}
use Rattle.lw_map.proofs.CellLaws.{delay_patterns, delay_truths}

-- what holds at each place holds of both lists
pub zip_places : {X Y : Type 0} (R : X → Y → Type 0) (xs : List X) (ys : List Y) → length xs ≡ length ys → ((k : ℕ) (x : X) (y : Y) → slice_get xs k ≡ Some x → slice_get ys k ≡ Some y → R x y) → AllZip R xs ys
zip_places R [] [] e f = tt
zip_places R [] (y ∷ ys) e f = absurd (omega (arith, e))
zip_places R (x ∷ xs) [] e f = absurd (omega (arith, e))
zip_places R (x ∷ xs) (y ∷ ys) e f = (f 0 x y refl refl, zip_places R xs ys (omega (arith, e)) (λ k a b at bt. f (suc k) a b at bt))

-- a net costs what the cover costs that it stands for
module _ (n : Netlist) (cost : Cost) (costs : List ℕ) (are : AreNetCosts cost n costs) where
  mutual
    pub StandsFor-cost : (k : Cover) (net : ℕ) → StandsFor n k net → slice_index_or costs net 0 ≡ cost_of cost k
    StandsFor-cost (wire i) net (e, lt) = ap (λ m. slice_index_or costs m 0) e ∙ get_or_from_slice_get costs i (cost.leaf i) 0 (are.inputs i lt)
    StandsFor-cost (gate p ks) net (j, g, at, e, c, s) =
        ap (λ m. slice_index_or costs m 0) e
        ∙ (get_or_from_slice_get costs (n.inputs + j) _ 0 (are.gates j g at) ∙ ap₂ (λ cell ts. cost.value cell ts) c (StandForAll-costs ks g.pins s))

    StandForAll-costs : (ks : Covers) (nets : List ℕ) → StandForAll n ks nets → map (λ p. slice_index_or costs p 0) nets ≡ costs_of cost ks
    StandForAll-costs no_covers nets e = ap (map (λ p. slice_index_or costs p 0)) e
    StandForAll-costs (cover k ks) nets (net, rest, e, s, r) =
        ap (map (λ p. slice_index_or costs p 0)) e ∙ ap₂ (λ t ts. t ∷ ts) (StandsFor-cost k net s) (StandForAll-costs ks rest r)

module _ (net : NetworkParts) (starts : List Micro) (c : Choices) (cells : List CellParts) where
  -- the net stands for a cover of the class in time, and no other such cover has less area
  pub record IsBest (deadline : Option Micro) (n : NetlistParts) (earliest class place : ℕ) : Type 0 where
    pub by : Cover
    pub stands : StandsFor (netlist.plain n) by place
    pub is_cover : IsCover (map length (delays_of_cells cells)) (library_patterns cells) by
    pub unfolds : Unfolds c.graph (tree_of by) class
    pub in_time : IsInTime deadline earliest (time_of (timing_of cells starts) by)
    pub best : (other : Cover) → IsCover (map length (delays_of_cells cells)) (library_patterns cells) other → Unfolds c.graph (tree_of other) class → IsInTime deadline earliest (time_of (timing_of cells starts) other) → cost_of (area_cost cells) by ≤ cost_of (area_cost cells) other

  module _ (kept : IsNetwork net) (are : AreChoicesOf net c) where
    abbrev pub own : Options
    own = plain_options c.options

    abbrev pub class_of_net : ℕ → ℕ
    class_of_net o = root_class own.width (network.plain net) c.graph o

    in_nets : (o : ℕ) → o < length net.names → o < net.inputs + length (map network.plain_node net.nodes)
    in_nets o lt = let n = kept.named in let m = length-map net.nodes network.plain_node in omega arith

    -- the trees of an output's class are those that the rules derive for it
    pub tree_from : (o : ℕ) (t : Tree) → o < length net.names → Unfolds c.graph t (class_of_net o) → HasTree own.mode own.width (signals_of own.width (network.plain net)) (sop_at (signals_of own.width (network.plain net)) o) t
    tree_from o t lt = (graph_trees own.mode own.width (network.plain net) c.graph are.wide.least are.graph (sop_at (signals_of own.width (network.plain net)) o) t (sop_occurs own.width are.wide.least (network.plain net) o (in_nets o lt))).0

    pub tree_back : (o : ℕ) (t : Tree) → o < length net.names → HasTree own.mode own.width (signals_of own.width (network.plain net)) (sop_at (signals_of own.width (network.plain net)) o) t → Unfolds c.graph t (class_of_net o)
    tree_back o t lt = (graph_trees own.mode own.width (network.plain net) c.graph are.wide.least are.graph (sop_at (signals_of own.width (network.plain net)) o) t (sop_occurs own.width are.wide.least (network.plain net) o (in_nets o lt))).1

    -- such a net has the least area
    pub best_area : (deadline : Option Micro) (n : NetlistParts) (o place earliest : ℕ) (ds areas : List ℕ) → o < length net.names → HasLeastArrival own.mode own.width (network.plain net) (library_patterns cells) (timing_of cells starts) o earliest → IsBest deadline n earliest (class_of_net o) place → AreArrivals (timing_of cells starts) (netlist.plain n) ds → AreNetCosts (area_cost cells) (netlist.plain n) areas → HasLeastArea own cells net starts deadline n o place (slice_index_or ds place 0) (slice_index_or areas place 0)
    best_area deadline n o place earliest ds areas lt first is arrive cost =
        let time : slice_index_or ds place 0 ≡ time_of (timing_of cells starts) is.by = StandsFor-time (netlist.plain n) (timing_of cells starts) (λ k. slice_index_or ds k 0) (list_arrivals (timing_of cells starts) (netlist.plain n) ds arrive) is.by place is.stands in
        let area : slice_index_or areas place 0 ≡ cost_of (area_cost cells) is.by = StandsFor-cost (netlist.plain n) (area_cost cells) areas cost is.by place is.stands in
        record {
          earliest = earliest;
          is_earliest = first;
          by = is.by;
          is_cover = record { is_cover = is.is_cover; has_tree = tree_from o (tree_of is.by) lt is.unfolds };
          stands = is.stands;
          time_is = sym time;
          area_is = sym area;
          in_time = subst (IsInTime deadline earliest) (sym time) is.in_time;
          least = λ other other_is soon. subst (λ a. a ≤ cost_of (area_cost cells) other) (sym area) (is.best other other_is.is_cover (tree_back o (tree_of other) lt other_is.has_tree) soon);
        }

    -- and the network's values
    pub best_values : IsLibrary cells → (deadline : Option Micro) (n : NetlistParts) (o place earliest : ℕ) (x : ℕ → Bool) (vs ws : List Bool) → o < length net.names → place < n.inputs + length n.gates → IsBest deadline n earliest (class_of_net o) place → AreValues (network.plain net) x vs → AreNetlistValues (truth_of_cells cells) (netlist.plain n) x ws → slice_get vs o ≡ slice_get ws place
    best_values lib deadline n o place earliest x vs ws lt within is right also =
        let f = sop_at (signals_of own.width (network.plain net)) o in
        let value = StandsFor-value (netlist.plain n) (map length (delays_of_cells cells)) (library_patterns cells) (delay_patterns cells lib) (truth_of_cells cells) (delay_truths cells lib) x (λ k. slice_index_or ws k Bool.false) (list_values (truth_of_cells cells) (netlist.plain n) x ws also) is.by place is.is_cover is.stands in
        let tree = trees_have_value net.inputs (listing_of own.width (network.plain net)) (occurring_is_listing own.width are.wide.least (network.plain net)) x (signals_agree x own.width (network.plain net)) own.mode f (tree_of is.by) (sop_occurs own.width are.wide.least (network.plain net) o (in_nets o lt)) (tree_from o (tree_of is.by) lt is.unfolds) in
        let count = also.one_each in
        let gates = length-map n.gates netlist.plain_gate in
        sop_value_is own.width are.wide.least (network.plain net) (in_order net kept) x vs right o (in_nets o lt) ∙ (ap Some (sym (value ∙ tree)) ∙ sym (slice_get-get_or ws place Bool.false (omega arith)))
