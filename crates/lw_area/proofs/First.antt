-- The netlist of the chosen matches, by the least times of its outputs.
use Rattle.std.proofs.Common.{◌≡◌, ◌≤◌, ◌<◌, ◌+◌, ◌*◌, ℕ, All, List, [], ◌∷◌, Option, Some, length, map, slice_get, slice_index_or, refl, ap, ap₂, sym, subst, arith, mul-le-mul_right}
use Rattle.std.specs.List.{AllZip}
use Rattle.std.proofs.lemmas.List.{length-map}
use Rattle.lw_fixed.specs.declared.micro.Micro.{Micro}
use Rattle.lw_laws.specs.Classes.{IsGraphOf}
use Rattle.lw_laws.specs.Covers.{Timing}
use Rattle.lw_laws.specs.Delays.{delay_cost}
use Rattle.lw_laws.specs.Forms.{Form}
use Rattle.lw_laws.specs.Graphs.{Graph, most_classes}
use Rattle.lw_laws.specs.Headline.{HasLeastTime, MapsForms, Port as PlainPort}
use Rattle.lw_laws.specs.Laws.{IsCoverProblem}
use Rattle.lw_laws.specs.Listings.{Listing}
use Rattle.lw_laws.specs.Netlists.{AreArrivals}
use Rattle.lw_laws.specs.Rounds.{labels_in}
use Rattle.lw_laws.specs.SignalValues.{AreNetForms, IsSoundListing}
use Rattle.lw_laws.proofs.Delays.{delay_cost_is}
use Rattle.lw_laws.proofs.GraphEncodes.{forms_pairs_once}
use Rattle.lw_laws.proofs.LabelLaws.{labels_stay_low}
use Rattle.lw_laws.proofs.MatchNetlists.{forms_are_matches}
use Rattle.lw_laws.proofs.NetlistOf.{form_by_depth, least_costs_bound, netlist_maps_forms}
use Rattle.lw_laws.proofs.NetlistOnce.{form_netlist_once}
use Rattle.lw_net.specs.Networks.{NetworkParts, IsNetwork}
use Rattle.lw_net.specs.Plain as network
use Rattle.lw_net.specs.Ports.{ports_of}
use Rattle.lw_net.proofs.Rise.{in_order}
use Rattle.lw_genlib.specs.Cells.{CellParts, IsLibrary, IsSmall}
use Rattle.lw_genlib.specs.Tables.{millionths, timing_of, truth_of_cells}
use Rattle.lw_pattern.specs.Libraries.{library_patterns}
use Rattle.lw_cost.specs.declared.mark.Mark.{Mark}
use Rattle.lw_cost.specs.Labels.{AreLeastMarks, cost_in, costs_of}
use Rattle.lw_label.specs.Delays.{most_time, time_cost}
use Rattle.lw_label.proofs.CellLaws.{timing_up}
use Rattle.lw_netlist.specs.declared.gate.Gate.{Gate}
use Rattle.lw_netlist.specs.Netlists.{NetlistParts, IsNetlist}
use Rattle.lw_netlist.specs.Plain as netlist
use Rattle.lw_netlist.specs.Plain.{mapped_ports, plain_gate}
use Rattle.lw_look.specs.Areas.{area_in, area_of}
use Rattle.lw_map.specs.Options.{IsWide}
use Rattle.lw_map.proofs.CellLaws.{delay_patterns, delay_truths}
use Rattle.lw_map.proofs.PortNames.{has_ports}
use Rattle.lw_joined.proofs.Joins.{join_is_sound, own_forms_are}
use Rattle.lw_area.specs.Deadlines.{deadlines_of, put_off}
use Rattle.lw_area.specs.Recovered.{AreLeastTimesIn, IsFastestIn, IsRecovered, IsSpace, Space, form_in, listing_in}
use Rattle.lw_area.specs.Words.{Settings}
use Rattle.lw_area.proofs.Timely.{maps_by}

-- what holds of values holds of the list of them
zip_right : {X Y Z : Type 0} (R : X → Z → Type 0) (f : Y → Z) (xs : List X) (ys : List Y) → AllZip (λ (x : X) (y : Y). R x (f y)) xs ys → AllZip R xs (map f ys)
zip_right R f [] [] a = tt
zip_right R f [] (y ∷ ys) a = absurd a
zip_right R f (x ∷ xs) [] a = absurd a
zip_right R f (x ∷ xs) (y ∷ ys) (r, a) = (r, zip_right R f xs ys a)

-- no deadline is before its output's own time
pub none_early : (common : ℕ) (least : List Micro) → AllZip (λ (l t : ℕ). l ≤ t) (map millionths least) (map millionths (map (put_off common) least))
none_early common [] = tt
none_early common (time ∷ least) = (omega arith, none_early common least)

-- gates of the same cells take the same area
area_same : (cells : List CellParts) (gs hs : List Gate) → map plain_gate gs ≡ map plain_gate hs → area_of cells gs ≡ area_of cells hs
area_same cells [] [] e = refl
area_same cells [] (h ∷ hs) e = cc
area_same cells (g ∷ gs) [] e = cc
area_same cells (g ∷ gs) (h ∷ hs) e =
    let head : plain_gate g ≡ plain_gate h = cc in
    let tail : map plain_gate gs ≡ map plain_gate hs = cc in
    ap₂ (λ (a b : ℕ). a + b) (ap (λ (c : ℕ). area_in (slice_get cells c)) (ap (λ p. p.cell) head)) (area_same cells gs hs tail)

module _ (settings : Settings) (cells : List CellParts) (net : NetworkParts) (space : Space) (starts : List Micro) (wide : IsWide settings.options) (kept : IsNetwork net) (early : All IsSmall starts) (lib : IsLibrary cells) (is_space : IsSpace settings net space) where
  abbrev timing : Timing
  timing = timing_of cells starts

  abbrev pub o : Listing
  o = listing_in settings space

  abbrev pub form : ℕ → Form
  form = form_in settings net

  pub sound : IsSoundListing net.inputs o
  sound = join_is_sound settings.options.width (network.plain net) space.union space.links wide.least is_space

  pub forms_are : AreNetForms (network.plain net) o form
  forms_are = own_forms_are settings.options.width (network.plain net) space.union space.links wide.least is_space (in_order net kept)

  -- a time by few classes and small delays is one that is told
  pub labels_low : (g : Graph) → IsGraphOf settings.options.mode net.inputs o g → length g.pairs ≤ most_classes → (marks : List (Option Mark)) → AreLeastMarks g (time_cost cells starts) (library_patterns cells) marks → (c l : ℕ) → labels_in (costs_of marks) c ≡ Some l → l < most_time
  labels_low g is few marks are c l e =
      let problem : IsCoverProblem g (library_patterns cells) (delay_cost timing most_time) = record {
        few = let n = is.written.leaf_count in let a = kept.named in let b = kept.few in omega arith;
        once = forms_pairs_once settings.options.mode net.inputs o g sound is;
        patterns = delay_patterns cells lib;
        cost_is = delay_cost_is timing most_time;
      } in
      let (potential, attained) = least_costs_bound g (library_patterns cells) (delay_cost timing most_time) (costs_of marks) problem are.least in
      let low = labels_stay_low g (library_patterns cells) timing most_time (costs_of marks) 1000000000000 problem potential attained (timing_up cells lib starts early) (omega arith) c l e in
      let count : length (costs_of marks) ≡ length marks = length-map marks cost_in in
      let one = are.one_each in
      let room : length (costs_of marks) + 1 ≤ 4194305 = omega arith in
      let more : (length (costs_of marks) + 1) * 1000000000000 ≤ 4194305 * 1000000000000 = mul-le-mul_right {m = length (costs_of marks) + 1} {n = 4194305} 1000000000000 room in
      omega arith

  module _ (n : NetlistParts) (own : IsNetlist n) (model : n.model ≡ net.model) (is : IsFastestIn settings cells net space starts n) (low : (c l : ℕ) → labels_in is.labels c ≡ Some l → l < most_time) where
    pub maps : MapsForms settings.options.mode settings.options.width o.signals form (network.plain net) (ports_of net) (library_patterns cells) timing (truth_of_cells cells) (netlist.plain n) (mapped_ports n)
    maps =
        netlist_maps_forms settings.options.mode net.inputs o form sound (ports_of net) (library_patterns cells) timing most_time (netlist.plain n) n.names (mapped_ports n) (delay_patterns cells lib) is (network.plain net) refl (truth_of_cells cells) forms_are
        (let a = kept.named in let b = kept.few in omega arith) (has_ports net kept) (delay_truths cells lib) low

    -- there is one
    pub same_area : (other : NetlistParts) → IsFastestIn settings cells net space starts other → area_of cells n.gates ≡ area_of cells other.gates
    same_area other also =
        let (plains, names, ports) = form_netlist_once settings.options.mode net.inputs o form (ports_of net) (library_patterns cells) timing most_time (netlist.plain n) (netlist.plain other) n.names other.names (mapped_ports n) (mapped_ports other) sound is also in
        area_same cells n.gates other.gates (ap (λ x. x.gates) plains)

    module _ (ds : List ℕ) (arrive : AreArrivals timing (netlist.plain n) ds) (times : List Micro) (are : map millionths times ≡ map (λ (q : PlainPort). slice_index_or ds q.net 0) (mapped_ports n).outputs) where
      -- the outputs arrive at their least times
      pub times_least : AreLeastTimesIn settings cells net space starts times
      times_least =
          subst (λ (ts : List ℕ). AllZip (λ (p : PlainPort) (d : ℕ). HasLeastTime settings.options.mode settings.options.width o.signals (library_patterns cells) timing (form p.net) d) (ports_of net).outputs ts) (sym are)
          (zip_right (λ (p : PlainPort) (d : ℕ). HasLeastTime settings.options.mode settings.options.width o.signals (library_patterns cells) timing (form p.net) d) (λ (q : PlainPort). slice_index_or ds q.net 0) (ports_of net).outputs (mapped_ports n).outputs (maps.arrivals ds arrive))

      pub first_recovered : (r : IsRecovered settings cells net space starts n) × (r.matches.graph ≡ is.graph) × (r.matches.gates ≡ is.gates)
      first_recovered =
          let own_matches = forms_are_matches settings.options.mode net.inputs o form (ports_of net) (library_patterns cells) timing most_time (netlist.plain n) n.names (mapped_ports n) is in (
            record {
              kept = own;
              model_name = model;
              covers = maps.covering;
              least = times;
              least_are = times_least;
              timely = maps_by settings.options.mode settings.options.width o.signals form (library_patterns cells) timing (netlist.plain n) (network.plain net) (truth_of_cells cells) (ports_of net) (mapped_ports n) (map millionths times) (map millionths (deadlines_of settings.deadline times)) maps times_least (none_early _ times);
              smaller = λ other other_is. let same = same_area other other_is in omega arith;
              untried = λ e. is;
              matches = own_matches.0;
              by_depth = form_by_depth settings.options.mode net.inputs o form sound (ports_of net) (library_patterns cells) timing most_time (netlist.plain n) n.names (mapped_ports n) (delay_patterns cells lib) is;
            },
            own_matches.1,
            own_matches.2,
          )
