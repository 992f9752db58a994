-- A netlist of matches over the graph of listed forms covers these, and in time it is a mapping.
use Rattle.std.proofs.Common.{ℕ, ◌+◌, ◌<◌, ◌≤◌, ◌≡◌, List, [], ◌∷◌, length, map, slice_get, slice_index_or, refl, ◌∙◌, subst, arith}
use Rattle.std.specs.List.{AllZip}
use Rattle.std.proofs.lemmas.List.{length-append}
use Rattle.std.proofs.lemmas.Option.{slice_get_within}
use Rattle.lw_laws.proofs.Lists.{zip_weaker}
use Rattle.lw_facts.proofs.Lists.{index_at}
use Rattle.lw_laws.specs.Modes.{Mode}
use Rattle.lw_laws.specs.Networks.{Network, IsInOrder}
use Rattle.lw_laws.specs.Forms.{Form}
use Rattle.lw_laws.specs.Signals.{sop_at, signals_of}
use Rattle.lw_laws.specs.Listings.{Listing, listing_of}
use Rattle.lw_laws.specs.SignalValues.{IsSoundListing, AreNetForms}
use Rattle.lw_laws.specs.Classes.{class_in}
use Rattle.lw_laws.specs.Covers.{Timing, Pattern, ArePatterns}
use Rattle.lw_laws.specs.Delays.{delay_cost}
use Rattle.lw_laws.specs.Rounds.{labels_in}
use Rattle.lw_laws.specs.Netlists.{Netlist, CellTruth, HaveCellTruths, AreArrivals}
use Rattle.lw_laws.specs.Extracts.{IsNetOf, class_at, net_classes}
use Rattle.lw_laws.specs.Mapped.{IsCoveredOverForms, IsAtForm}
use Rattle.lw_laws.specs.Headline.{Port, Ports, CoversForms, HasLeastArrival, IsMapping, StandsForCover}
use Rattle.lw_laws.specs.InTime.{CoversNetwork, AreLeastTimes, ArriveBy}
use Rattle.lw_laws.specs.MappedNetlists.{HasPorts, form_classes, root_classes, IsMatchNetlistOfForms, IsMatchNetlistOf, IsNetlistOfForms, IsNetlistOf}
use Rattle.lw_laws.proofs.ExtractLaws.{extracted_is_matches}
use Rattle.lw_laws.proofs.GraphEncodes.{forms_encode}
use Rattle.lw_laws.proofs.Mapping.{forms_covered, sops_are_forms, timely_is_least}
use Rattle.lw_laws.proofs.Sound.{network_is_sound, netlist_of_sops}

-- the netlist of the chosen matches is one of matches
pub forms_are_matches : (mode : Mode) (inputs : ℕ) (o : Listing) (form : ℕ → Form) (ports : Ports) (pats : List Pattern) (timing : Timing) (cap : ℕ) (n : Netlist) (names : List (List ℕ)) (mapped : Ports) → (is : IsNetlistOfForms mode inputs o form ports pats timing cap n names mapped) → (also : IsMatchNetlistOfForms mode inputs o form ports pats (map length timing.delays) n names mapped) × (also.graph ≡ is.graph) × (also.gates ≡ is.gates)
forms_are_matches mode inputs o form ports pats timing cap n names mapped is = (
  record {
    graph = is.graph;
    is_graph = is.is_graph;
    gates = is.gates;
    matches = extracted_is_matches is.graph (delay_cost timing cap) pats (labels_in is.labels) is.heights (form_classes o form is.graph ports.outputs) is.gates is.gate_classes n is.extracted;
    input_names = is.input_names;
    outputs = is.outputs;
    names_are = is.names_are;
  },
  refl,
  refl,
)

pub mapping_is_matches : (mode : Mode) (width : ℕ) (net : Network) (ports : Ports) (pats : List Pattern) (timing : Timing) (cap : ℕ) (n : Netlist) (names : List (List ℕ)) (mapped : Ports) → (is : IsNetlistOf mode width net ports pats timing cap n names mapped) → (also : IsMatchNetlistOf mode width net ports pats (map length timing.delays) n names mapped) × (also.graph ≡ is.graph) × (also.gates ≡ is.gates)
mapping_is_matches mode width net ports pats timing cap n names mapped is =
    forms_are_matches mode net.inputs (listing_of width net) (sop_at (signals_of width net)) ports pats timing cap n names mapped (netlist_of_sops mode width net ports pats timing cap n names mapped is)

-- it covers the forms
pub matches_cover_forms : (mode : Mode) (inputs : ℕ) (o : Listing) (form : ℕ → Form) (ports : Ports) (pats : List Pattern) (timing : Timing) (truth : CellTruth) (n : Netlist) (names : List (List ℕ)) (mapped : Ports) (net : Network) → net.inputs ≡ inputs → IsSoundListing inputs o → AreNetForms net o form → HasPorts net ports → ArePatterns (map length timing.delays) pats → HaveCellTruths (map length timing.delays) truth pats → IsMatchNetlistOfForms mode inputs o form ports pats (map length timing.delays) n names mapped → CoversForms mode o.width o.signals form net ports pats timing truth n mapped
matches_cover_forms mode inputs o form ports pats timing truth n names mapped net same sound forms has patterns truths is =
    let over : IsCoveredOverForms mode inputs o is.graph pats timing n (class_at is.graph is.gates) = record {
      encodes = forms_encode mode inputs o is.graph sound is.is_graph;
      patterns = patterns;
      ordered = is.matches.ordered;
      mapped = is.matches.mapped;
    } in
    forms_covered mode inputs o sound is.graph pats timing n (class_at is.graph is.gates) over net form same forms truth truths ports mapped has (record {
      inputs_are = is.matches.inputs ∙ is.is_graph.written.leaf_count;
      input_names = is.input_names;
      outputs = zip_weaker (λ p q. (p.name ≡ q.name) × IsNetOf is.graph is.gates (class_in o is.graph (form p.net)) q.net) (λ p q. (p.name ≡ q.name) × IsAtForm o is.graph n (class_at is.graph is.gates) (form p.net) q.net) (λ p q r. (r.0, at_form (form p.net) q.net r.1)) ports.outputs mapped.outputs is.outputs;
    })
  where
    at_form : (f : Form) (k : ℕ) → IsNetOf is.graph is.gates (class_in o is.graph f) k → IsAtForm o is.graph n (class_at is.graph is.gates) f k
    at_form f k at =
        let a = is.matches.inputs in
        let b = is.matches.one_each in
        let c = length-append is.graph.leaves is.gates in
        let d = slice_get_within (net_classes is.graph is.gates) k (class_in o is.graph f) at in
        record { of_netlist = omega arith; at_class = index_at (net_classes is.graph is.gates) k (class_in o is.graph f) at }

pub matches_cover : (mode : Mode) (width : ℕ) (net : Network) (ports : Ports) (pats : List Pattern) (timing : Timing) (truth : CellTruth) (n : Netlist) (names : List (List ℕ)) (mapped : Ports) → 2 ≤ width → IsInOrder net → HasPorts net ports → ArePatterns (map length timing.delays) pats → HaveCellTruths (map length timing.delays) truth pats → IsMatchNetlistOf mode width net ports pats (map length timing.delays) n names mapped → CoversNetwork mode width net ports pats timing truth n mapped
matches_cover mode width net ports pats timing truth n names mapped wide order has patterns truths is =
    matches_cover_forms mode net.inputs (listing_of width net) (sop_at (signals_of width net)) ports pats timing truth n names mapped net refl (network_is_sound width wide net) (sops_are_forms width wide net order) has patterns truths is

-- a cover in time is a mapping
pub timely_mapping : (mode : Mode) (width : ℕ) (net : Network) (ports : Ports) (pats : List Pattern) (timing : Timing) (truth : CellTruth) (n : Netlist) (mapped : Ports) (times : List ℕ) → CoversNetwork mode width net ports pats timing truth n mapped → AreLeastTimes mode width net pats timing ports times → ArriveBy timing n mapped times → IsMapping mode width net ports pats timing truth n mapped
timely_mapping mode width net ports pats timing truth n mapped times covering least by = record {
  covering = covering;
  arrivals = λ ds are. beside ds ports.outputs mapped.outputs times (covering.covers ds are) least (by ds are);
}
  where
    beside : (ds : List ℕ) (ps qs : List Port) (ts : List ℕ) → AllZip (λ p q. StandsForCover mode width net pats timing n p.net q.net (slice_index_or ds q.net 0)) ps qs → AllZip (λ p d. HasLeastArrival mode width net pats timing p.net d) ps ts → AllZip (λ q t. slice_index_or ds q.net 0 ≤ t) qs ts → AllZip (λ p q. HasLeastArrival mode width net pats timing p.net (slice_index_or ds q.net 0)) ps qs
    beside ds [] [] ts a b c = tt
    beside ds [] (q ∷ qs) ts a b c = absurd a
    beside ds (p ∷ ps) [] ts a b c = absurd a
    beside ds (p ∷ ps) (q ∷ qs) [] a b c = absurd b
    beside ds (p ∷ ps) (q ∷ qs) (t ∷ ts) (s, a) (l, b) (le, c) = (timely_is_least mode width (signals_of width net) pats timing n (sop_at (signals_of width net) p.net) q.net (slice_index_or ds q.net 0) t s l le, beside ds ps qs ts a b c)
