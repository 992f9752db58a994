-- The netlist of a case, with its certificate.
use Rattle.std.proofs.Common.{◌≡◌, ◌<◌, ◌∙◌, ℕ, Bool, true, false, All, List, [], ◌∷◌, map, Option, Some, None, length, slice_index_or, refl, ap, sym, subst}
use Rattle.lw_fixed.specs.declared.micro.Micro.{Micro}
use Rattle.lw_laws.specs.Classes.{IsGraphOf}
use Rattle.lw_laws.specs.Headline.{MapsForms, Port as PlainPort}
use Rattle.lw_laws.specs.Rounds.{labels_in}
use Rattle.lw_laws.proofs.NetlistValues.{some_arrivals}
use Rattle.lw_net.specs.Networks.{NetworkParts}
use Rattle.lw_net.specs.Plain as network
use Rattle.lw_net.specs.Ports.{ports_of}
use Rattle.lw_genlib.specs.Cells.{IsSmall}
use Rattle.lw_genlib.specs.Tables.{millionths, timing_of, truth_of_cells}
use Rattle.lw_pattern.specs.Libraries.{library_patterns}
use Rattle.lw_label.specs.Delays.{most_time}
use Rattle.lw_netlist.specs.Plain as netlist
use Rattle.lw_netlist.specs.Plain.{mapped_ports}
use Rattle.lw_mapped.specs.declared.certificate.Certificate.{Certificate}
use Rattle.lw_mapped.specs.Texts.{HasGateClasses}
use Rattle.lw_extract.specs.declared.ports.Cover.{Cover}
use Rattle.lw_map.specs.Options.{IsWide, Options}
use Rattle.lw_joined.specs.Choices.{IsJoined}
use Rattle.lw_joined.specs.Joins.{IsJoin, joined_listing}
use Rattle.lw_area.specs.declared.recovering.Case.{Case}
use Rattle.lw_area.specs.Cases.{IsCase, IsCertificateFor, IsChosen, IsFirst}
use Rattle.lw_area.specs.Outcomes.{IsMade}
use Rattle.lw_area.specs.Plain.{plain_settings}
use Rattle.lw_area.specs.Recovered.{IsAskedFor, IsSpace, Space, form_in, listing_in}
use Rattle.lw_area.specs.Spaces.{space_of}
use Rattle.lw_area.specs.Words.{Settings}
use Rattle.lw_area.proofs.Certificates.{certificate_asked, certificate_gates}
use Rattle.lw_area.proofs.First.{first_recovered, labels_low, maps}

abbrev micro : ℕ → Micro
micro t = record { 0 = t }

as_micros : (ts : PlainPort → ℕ) (qs : List PlainPort) → map millionths (map (λ (q : PlainPort). micro (ts q)) qs) ≡ map ts qs
as_micros ts [] = refl
as_micros ts (q ∷ qs) = ap (λ (xs : List ℕ). ts q ∷ xs) (as_micros ts qs)

module _ (k : Case) (is : IsCase k) where
  abbrev pub settings : Settings
  settings = plain_settings k.settings

  abbrev net : NetworkParts
  net = k.model.now.network

  pub case_wide : IsWide settings.options
  case_wide = subst IsWide is.options is.joined.wide

  pub case_early : All IsSmall k.model.now.starts
  case_early = is.model.starts.early

  module _ (joined : IsJoined k.model.now.network k.joined.now) where
    abbrev pub space : Space
    space = space_of net k.joined.now joined

    pub case_space : IsSpace settings net space
    case_space = subst (λ (o : Options). IsJoin o.width (network.plain net) (network.plain k.joined.now.union) joined.links) is.options joined.is_join

    case_graph : IsGraphOf settings.options.mode net.inputs (listing_in settings space) k.joined.now.choices.graph
    case_graph = subst (λ (o : Options). IsGraphOf o.mode net.inputs (joined_listing o.width (network.plain k.joined.now.union) joined.links) k.joined.now.choices.graph) is.options joined.graph

    module _ (first : Cover) (f : IsFirst k first) where
      pub first_low : (c l : ℕ) → labels_in (f.fastest joined).0.labels c ≡ Some l → l < most_time
      first_low c l e =
          labels_low settings k.library.now net space k.model.now.starts case_wide is.network case_early is.library case_space k.joined.now.choices.graph case_graph joined.few k.labels.now is.labels c l (ap (λ ls. labels_in ls c) (sym (f.fastest joined).2) ∙ e)

      pub first_maps : MapsForms settings.options.mode settings.options.width (listing_in settings space).signals (form_in settings net) (network.plain net) (ports_of net) (library_patterns k.library.now) (timing_of k.library.now k.model.now.starts) (truth_of_cells k.library.now) (netlist.plain first.netlist) (mapped_ports first.netlist)
      first_maps = maps settings k.library.now net space k.model.now.starts case_wide is.network case_early is.library case_space first.netlist f.kept f.model_name (f.fastest joined).0 first_low

  -- the first cover will do
  pub first_chosen : (first : Cover) → IsFirst k first → IsChosen k first
  first_chosen first f = record {
    each = λ joined.
        let timing = timing_of k.library.now k.model.now.starts in
        let (ds, arrive) = some_arrivals (netlist.plain first.netlist) (first_maps joined first f).covering.ordered timing in
        let at : PlainPort → ℕ = λ q. slice_index_or ds q.net 0 in
        let own = first_recovered settings k.library.now net (space joined) k.model.now.starts case_wide is.network case_early is.library (case_space joined) first.netlist f.kept f.model_name (f.fastest joined).0 (first_low joined first f) ds arrive (map (λ (q : PlainPort). micro (at q)) (mapped_ports first.netlist).outputs) (as_micros at (mapped_ports first.netlist).outputs) in
        (own.0, own.1 ∙ (f.fastest joined).1, own.2 ∙ (f.fastest joined).3);
    over = f.over;
  }

  asked_for : (joined : IsJoined k.model.now.network k.joined.now) (cover : Cover) → (c : IsChosen k cover) → (certified : Bool) (certificate : Option Certificate) → IsCertificateFor certified k.labels.now cover.classes certificate → IsAskedFor k.library.now k.model.now.starts (c.each joined).0.matches.graph (c.each joined).0.matches.gates certified certificate
  asked_for joined cover c false None a = tt
  asked_for joined cover c false (Some d) a = absurd a
  asked_for joined cover c true None a = absurd a
  asked_for joined cover c true (Some d) a =
      certificate_asked k.library.now k.model.now.starts k.joined.now.choices.graph k.labels.now cover.classes is.labels d a (c.each joined).0.matches.graph (c.each joined).0.matches.gates (c.each joined).1 (c.each joined).2

  gate_classes : (cover : Cover) → (c : IsChosen k cover) → (certified : Bool) (certificate : Option Certificate) → IsCertificateFor certified k.labels.now cover.classes certificate → HasGateClasses cover.netlist certificate
  gate_classes cover c false None a = tt
  gate_classes cover c false (Some d) a = absurd a
  gate_classes cover c true None a = absurd a
  gate_classes cover c true (Some d) a =
      certificate_gates k.library.now k.model.now.starts k.joined.now.choices.graph k.labels.now cover.classes is.labels d a cover.netlist ((c.each is.joined).0.matches.matches.one_each ∙ ap length (c.each is.joined).2)

  pub made_of : (cover : Cover) → IsChosen k cover → (certificate : Option Certificate) → IsCertificateFor k.settings.certified k.labels.now cover.classes certificate → IsMade (plain_settings k.settings) k.library.now k.model.now k.joined.now (record { netlist = cover.netlist; certificate = certificate })
  made_of cover c certificate a = record {
    each = λ joined. ((c.each joined).0, asked_for joined cover c k.settings.certified certificate a);
    over = c.over;
    one_each = gate_classes cover c k.settings.certified certificate a;
  }
