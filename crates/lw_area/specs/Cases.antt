-- What a smaller cover is looked for in, and what the cover is.
use Rattle.std.specs.Prelude.{ℕ, ◌≤◌, ◌≡◌, ⊤, Bool, true, false, List, length, map, Option, Some, None, slice_index_or}
use Rattle.lw_fixed.specs.declared.micro.Micro.{Micro}
use Rattle.lw_pool.specs.Numbers.{numbers}
use Rattle.lw_laws.specs.Headline.{Port as PlainPort}
use Rattle.lw_laws.specs.Netlists.{AreArrivals}
use Rattle.lw_genlib.specs.Cells.{IsLibrary}
use Rattle.lw_genlib.specs.Tables.{millionths, timing_of}
use Rattle.lw_net.specs.Networks.{IsNetwork}
use Rattle.lw_blif.specs.BlifNetworks.{IsModel}
use Rattle.lw_pattern.specs.Libraries.{library_patterns}
use Rattle.lw_pool.specs.declared.id.ClassId.{ClassId}
use Rattle.lw_cost.specs.declared.mark.Mark.{Mark}
use Rattle.lw_cost.specs.Labels.{AreLeastMarks, costs_of}
use Rattle.lw_label.specs.Delays.{time_cost}
use Rattle.lw_netlist.specs.declared.gate.Port.{Port}
use Rattle.lw_netlist.specs.Netlists.{IsNetlist, most_gates}
use Rattle.lw_netlist.specs.Plain.{IsOver, mapped_ports, plain}
use Rattle.lw_mapped.specs.declared.certificate.Certificate.{Certificate}
use Rattle.lw_extract.specs.declared.ports.Cover.{Cover}
use Rattle.lw_map.specs.Mappings.{AreCertified}
use Rattle.lw_map.specs.Options.{plain_options}
use Rattle.lw_joined.specs.Choices.{IsJoined}
use Rattle.lw_area.specs.declared.recovering.Case.{Case}
use Rattle.lw_area.specs.Plain.{plain_settings}
use Rattle.lw_area.specs.Recovered.{IsFastestIn, IsRecovered}
use Rattle.lw_area.specs.Spaces.{space_of}

-- when an output arrives, given when each net does
abbrev pub time_at : List Micro → Port → Micro
time_at arrivals port = slice_index_or arrivals port.net.0 (record { 0 = 0 })

-- the model of a network that was joined to others, with the choices of the settings, and least labels of their classes
pub record IsCase (k : Case) : Type 0 where
  pub library : IsLibrary k.library.now
  pub network : IsNetwork k.model.now.network
  pub model : IsModel k.model.now
  pub joined : IsJoined k.model.now.network k.joined.now
  pub options : plain_options k.joined.now.choices.options ≡ plain_options k.settings.options
  pub labels : AreLeastMarks k.joined.now.choices.graph (time_cost k.library.now k.model.now.starts)
      (library_patterns k.library.now) k.labels.now

-- the netlist of the chosen matches, by the labels and the classes at hand
abbrev pub IsFirstIn : (k : Case) → IsJoined k.model.now.network k.joined.now → Cover → Type 0
IsFirstIn k is cover =
    (fastest : IsFastestIn (plain_settings k.settings) k.library.now k.model.now.network
    (space_of k.model.now.network k.joined.now is) k.model.now.starts cover.netlist)
    × (fastest.graph ≡ k.joined.now.choices.graph) × (fastest.labels ≡ costs_of k.labels.now)
    × (fastest.gates ≡ numbers cover.classes)

-- the cover that least labels choose, by whatever links the graph is of
pub record IsFirst (k : Case) (cover : Cover) : Type 0 where
  pub kept : IsNetlist cover.netlist
  pub model_name : cover.netlist.model ≡ k.model.now.network.model
  pub fastest : (is : IsJoined k.model.now.network k.joined.now) → IsFirstIn k is cover
  pub over : IsOver k.library.now cover.netlist
  pub few : length cover.netlist.gates ≤ most_gates

-- when its outputs arrive
abbrev pub AreFirstTimes : Case → Cover → List Micro → Type 0
AreFirstTimes k cover times =
    (arrivals : List ℕ) → AreArrivals (timing_of k.library.now k.model.now.starts) (plain cover.netlist) arrivals
    → map millionths times ≡ map (λ (port : PlainPort). slice_index_or arrivals port.net 0)
    (mapped_ports cover.netlist).outputs

-- a netlist with little area, over the graph and with the classes at hand
abbrev pub IsChosenIn : (k : Case) → IsJoined k.model.now.network k.joined.now → Cover → Type 0
IsChosenIn k is cover =
    (recovered : IsRecovered (plain_settings k.settings) k.library.now k.model.now.network
    (space_of k.model.now.network k.joined.now is) k.model.now.starts cover.netlist)
    × (recovered.matches.graph ≡ k.joined.now.choices.graph) × (recovered.matches.gates ≡ numbers cover.classes)

-- a cover whose netlist has little area, by whatever links the graph is of
pub record IsChosen (k : Case) (cover : Cover) : Type 0 where
  pub each : (is : IsJoined k.model.now.network k.joined.now) → IsChosenIn k is cover
  pub over : IsOver k.library.now cover.netlist

-- a certificate of these labels and classes, where it is asked for
abbrev pub IsCertificateFor : Bool → List (Option Mark) → List ClassId → Option Certificate → Type 0
IsCertificateFor false marks classes None = ⊤
IsCertificateFor true marks classes (Some certificate) = AreCertified marks classes certificate
IsCertificateFor certified marks classes certificate = ⊥
