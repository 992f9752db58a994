-- The case of a cover in hand, what a netlist that was made is, and why there is none.
use Rattle.std.proofs.Common.{◌≡◌, ◌∙◌, ℕ, All, List, [], ◌∷◌, map, refl, ap, sym, subst, arith}
use Rattle.std.specs.List.{AllByRecursion}
use Rattle.std.proofs.lemmas.List.{length-map, length-take-le}
use Rattle.std.proofs.lemmas.List.Elements.{All-from_recursion, recursion_from_All}
use Rattle.std.proofs.lemmas.Slice.Zip.{AllZip-long}
use Rattle.lw_pool.specs.Numbers.{numbers}
use Rattle.lw_pool.specs.declared.id.NetId.{NetId}
use Rattle.lw_laws.specs.Graphs.{Graph}
use Rattle.lw_laws.specs.Headline.{HasNoCoverOf}
use Rattle.lw_laws.specs.MappedNetlists.{IsNetlistOfForms}
use Rattle.lw_net.specs.Networks.{NetworkParts, name_in}
use Rattle.lw_net.specs.Plain as network
use Rattle.lw_net.specs.Ports.{output_port, ports_of}
use Rattle.lw_net.specs.Unions.{ArePlacesIn}
use Rattle.lw_genlib.specs.Tables.{timing_of}
use Rattle.lw_pattern.specs.Libraries.{library_patterns}
use Rattle.lw_cost.specs.Labels.{costs_of}
use Rattle.lw_label.specs.Delays.{most_time}
use Rattle.lw_netlist.specs.Plain as netlist
use Rattle.lw_netlist.specs.Plain.{mapped_ports, plain_port}
use Rattle.lw_mapped.specs.Texts.{IsFramed}
use Rattle.lw_map.specs.declared.fault.MapFault.{MapFault}
use Rattle.lw_map.specs.declared.fault.MapFault.TheVariants.{Forms, Splits, NoCover, Points, Memory}
use Rattle.lw_map.specs.declared.mapping.CertifiedNetlist.{CertifiedNetlist}
use Rattle.lw_map.specs.Faults.{IsChoiceFault}
use Rattle.lw_map.specs.Mapped.{IsWithinLimits}
use Rattle.lw_map.specs.Options.{Options, plain_options}
use Rattle.lw_joined.specs.declared.choices.Joined.{Joined}
use Rattle.lw_joined.specs.declared.covering.Covered.{Covered}
use Rattle.lw_joined.specs.declared.uniting.Other.{Other}
use Rattle.lw_joined.specs.Choices.{IsJoined}
use Rattle.lw_joined.specs.Covering.{IsCoverFault, IsCoveredBy}
use Rattle.lw_joined.specs.Joins.{IsJoin, joined_listing, own_form}
use Rattle.lw_joined.specs.Unions.{FitsOther}
use Rattle.lw_area.specs.declared.mapping.Made.{Made}
use Rattle.lw_area.specs.declared.recovering.Case.{Case}
use Rattle.lw_area.specs.declared.sources.Further.{Further}
use Rattle.lw_area.specs.declared.sources.Sources.{Sources}
use Rattle.lw_area.specs.Answers.{IsFaultOf}
use Rattle.lw_area.specs.Cases.{IsFirst}
use Rattle.lw_area.specs.Outcomes.{IsMade, IsMadeOf}
use Rattle.lw_area.specs.Recovered.{IsSpaceOf}
use Rattle.lw_area.specs.Sources.{AreSources, IsFurtherTo, others_in}
use Rattle.lw_area.specs.Spaces.{IsJoinedOf, space_of}
use Rattle.lw_area.specs.Words.{Settings}

-- the cover of joined networks by the options of the settings
pub first_of : (k : Case) → IsJoined k.model.now.network k.joined.now → plain_options k.joined.now.choices.options ≡ plain_options k.settings.options → (c : Covered) → k.labels.now ≡ c.labels → IsCoveredBy k.library.now k.model.now.network k.model.now.starts k.joined.now c → IsFirst k c.cover
first_of k joined same c labels is =
    let net = k.model.now.network in
    let n = c.cover.netlist in
    record {
      kept = (is.fastest joined).kept;
      model_name = (is.fastest joined).model_name;
      fastest = λ j.
          subst (λ (o : Options). (f : IsNetlistOfForms o.mode net.inputs (joined_listing o.width (network.plain k.joined.now.union) j.links) (own_form o.width (network.plain net)) (ports_of net) (library_patterns k.library.now) (timing_of k.library.now k.model.now.starts) most_time (netlist.plain n) n.names (mapped_ports n)) × (f.graph ≡ k.joined.now.choices.graph) × (f.labels ≡ costs_of k.labels.now) × (f.gates ≡ numbers c.cover.classes)) same
          ((is.fastest j).netlist, (is.fastest j).graph, (is.fastest j).labels ∙ ap costs_of (sym labels), (is.fastest j).gates);
      over = is.over;
      few = let few = is.few in omega arith;
    }

-- further networks over inputs of the first fit it
others_each : (net : NetworkParts) (further : List Further) (others : List Other) → AllByRecursion (IsFurtherTo net.inputs) further → others_in further others → AllByRecursion (FitsOther net) others
others_each net [] [] fit are = tt
others_each net [] (o ∷ others) fit are = absurd are
others_each net (f ∷ further) [] fit are = absurd are
others_each net (f ∷ further) (o ∷ others) (one, fit) ((same_net, same_places), are) =
    (subst (λ (n : NetworkParts). ArePlacesIn net.inputs n o.places.now) (sym same_net) (subst (λ (ps : List ℕ). ArePlacesIn net.inputs f.network ps) (sym same_places) one), others_each net further others fit are)

pub others_fit : (net : NetworkParts) (further : List Further) (others : List Other) → All (IsFurtherTo net.inputs) further → others_in further others → All (FitsOther net) others
others_fit net further others fit are =
    All-from_recursion (FitsOther net) others (others_each net further others (recursion_from_All (IsFurtherTo net.inputs) further fit) are)

-- an index changes nothing
pub indexed : (P : Joined → Type 0) (j : Joined) (g : Graph) → g ≡ j.choices.graph → P j → P (record { choices = record { options = j.choices.options; forms = j.choices.forms; graph = g; roots = j.choices.roots }; union = j.union; nets = j.nets; ends = j.ends; left = j.left; counts = j.counts })
indexed P j g same is = subst (λ (h : Graph). P (record { choices = record { options = j.choices.options; forms = j.choices.forms; graph = h; roots = j.choices.roots }; union = j.union; nets = j.nets; ends = j.ends; left = j.left; counts = j.counts })) (sym same) is

module _ (settings : Settings) (s : Sources) (j : Joined) (of : IsJoinedOf settings s j) where
  -- what they are mapped over
  pub space_over : IsSpaceOf settings s.model.network s.further.items (space_of s.model.network j of.joined)
  space_over = record {
    is_space = subst (λ (o : Options). IsJoin o.width (network.plain s.model.network) (network.plain j.union) of.joined.links) of.options_are of.joined.is_join;
    union = j.union;
    united = of.united;
    is_union = refl;
    within = subst (λ (o : Options). IsWithinLimits o j.union) of.options_are of.joined.within;
    unlinked = of.unlinked;
  }

  module _ (are : AreSources s) (made : CertifiedNetlist) (is : IsMade settings s.library s.model j made) where
    -- the frame and the starts fit the netlist
    framed : IsFramed made.netlist s.model.frame s.model.starts
    framed =
        let model = s.model in
        let covers = (is.each of.joined).0.covers in
        let inputs = covers.inputs in
        let own = are.model.frame.own_inputs in
        let roots = are.model.frame.own_outputs in
        let starts = are.model.starts.one_each in
        let zipped = AllZip-long _ (map (output_port model.network) model.network.outputs) (map plain_port made.netlist.outputs) covers.output_names in
        let a = length-map model.network.outputs (output_port model.network) in
        let b = length-map made.netlist.outputs plain_port in
        let d = length-map model.network.outputs (name_in model.network) in
        let named = are.model.network.named in
        let names = length-take-le model.network.inputs model.network.names (omega arith) in
        record {
          inputs = omega arith;
          outputs = omega arith;
          one_start = omega arith;
        }

    pub made_given : (m : Made) → m.mapped ≡ made → IsMadeOf settings s m
    made_given m same = subst Is (sym same) (
      record {
        space = space_of s.model.network j of.joined;
        over = space_over;
        netlist = made.netlist;
        recovered = (is.each of.joined).0;
        certificate = made.certificate;
        asked = (is.each of.joined).1;
        written = refl;
      },
      record { over = is.over; framed = framed; one_each = is.one_each },
    )
      where
        Is : CertifiedNetlist → Type 0
        Is c = IsMadeOf settings s (record { mapped = c; notes = m.notes })

  -- no cover by the options of the settings is of a tree
  abbrev LacksBy : Options → NetId → Type 0
  LacksBy o output =
      HasNoCoverOf o.mode o.width (joined_listing o.width (network.plain j.union) of.joined.links).signals (library_patterns s.library) (timing_of s.library s.model.starts) (own_form o.width (network.plain s.model.network) output.0)

  -- why there is none
  pub cover_fault : (fault : MapFault) → IsCoverFault s.library s.model.network s.model.starts j fault → IsFaultOf settings s.library s.model s.further.items fault
  cover_fault Forms is = absurd is
  cover_fault Splits is = absurd is
  cover_fault (NoCover name) is =
      let l = is of.joined in
      record {
        space = space_of s.model.network j of.joined;
        over = space_over;
        place = l.place;
        output = l.lack.output;
        at = l.lack.at;
        named = l.named;
        lacks = subst (λ (o : Options). LacksBy o l.lack.output) of.options_are l.lack.lacks;
        first = λ i other low at lacks. l.lack.first i other low at (subst (λ (o : Options). LacksBy o other) (sym of.options_are) lacks);
      }
  cover_fault Points is = absurd is
  cover_fault Memory is = tt

pub choice_fault : (settings : Settings) (s : Sources) (fault : MapFault) → IsChoiceFault settings.options s.model.network fault → IsFaultOf settings s.library s.model s.further.items fault
choice_fault settings s Forms is = is
choice_fault settings s Splits is = is
choice_fault settings s (NoCover name) is = absurd is
choice_fault settings s Points is = is
choice_fault settings s Memory is = is
