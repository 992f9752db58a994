-- A netlist whose outputs arrive at their own least times maps the forms of its network.
use Rattle.std.proofs.Common.{◌≡◌, ℕ, List, [], ◌∷◌, map, max, refl, ap₂, subst, arith}
use Rattle.lw_fixed.specs.declared.micro.Micro.{Micro}
use Rattle.lw_laws.specs.Headline.{MapsForms}
use Rattle.lw_laws.specs.InTime.{ArriveBy}
use Rattle.lw_net.specs.Plain as network
use Rattle.lw_net.specs.Ports.{ports_of}
use Rattle.lw_genlib.specs.Tables.{millionths, timing_of, truth_of_cells}
use Rattle.lw_pattern.specs.Libraries.{library_patterns}
use Rattle.lw_netlist.specs.Plain as netlist
use Rattle.lw_netlist.specs.Plain.{mapped_ports}
use Rattle.lw_look.specs.Looks.{IsInTime}
use Rattle.lw_files.specs.Steps.{Files}
use Rattle.lw_area.specs.declared.words.Deadline.{Deadline}
use Rattle.lw_area.specs.declared.words.Deadline.TheVariants.{Each}
use Rattle.lw_area.specs.Deadlines.{deadlines_of, put_off}
use Rattle.lw_area.specs.Promises.{IsFastestOf, IsRecoveryOf}
use Rattle.lw_area.specs.Recovered.{form_in, listing_in}
use Rattle.lw_area.specs.Words.{Task}
use Rattle.lw_area.proofs.Timely.{timely_maps}

own_times : (least : List Micro) → map millionths (map (put_off 0) least) ≡ map millionths least
own_times [] = refl
own_times (time ∷ least) =
    let same : max time.0 0 ≡ time.0 = omega arith in
    ap₂ (λ (t : ℕ) (ts : List ℕ). t ∷ ts) same (own_times least)

-- the netlist maps the network's forms
pub fastest_mapping : (task : Task) (files : Files) (text : List ℕ) → task.settings.deadline ≡ Each → (r : IsRecoveryOf task files text) → MapsForms task.settings.options.mode task.settings.options.width (listing_in task.settings r.is.space).signals (form_in task.settings r.read.model.network) (network.plain r.read.model.network) (ports_of r.read.model.network) (library_patterns r.read.cells) (timing_of r.read.cells r.read.model.starts) (truth_of_cells r.read.cells) (netlist.plain r.is.netlist) (mapped_ports r.is.netlist)
fastest_mapping task files text each r =
    let is = r.is.recovered in
    let cells = r.read.cells in
    let net = r.read.model.network in
    let starts = r.read.model.starts in
    let timing = timing_of cells starts in
    let n = r.is.netlist in
    let by_each : IsInTime cells starts (deadlines_of Each is.least) n = subst (λ (d : Deadline). IsInTime cells starts (deadlines_of d is.least) n) each is.timely in
    timely_maps task.settings.options.mode task.settings.options.width (listing_in task.settings r.is.space).signals (form_in task.settings net) (library_patterns cells) timing (netlist.plain n) (network.plain net) (truth_of_cells cells) (ports_of net) (mapped_ports n) (map millionths is.least) is.covers is.least_are
    (subst (ArriveBy timing (netlist.plain n) (mapped_ports n)) (own_times is.least) by_each)

pub fastest : (task : Task) (files : Files) (text : List ℕ) → task.settings.deadline ≡ Each → IsRecoveryOf task files text → IsFastestOf task files text
fastest task files text each r = record { recovery = r; mapping_is = fastest_mapping task files text each r }
