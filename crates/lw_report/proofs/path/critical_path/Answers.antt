use Rattle.std.proofs.Common.{◌≡◌, ◌≢◌, ◌<◌, ℕ, List, [], Some, length, map, reverse, get_or, slice_get, refl, sym, ap, subst, arith}
use Rattle.std.proofs.lemmas.List.{length-map, nil_from_length}
use Rattle.std.proofs.lemmas.Option.{slice_get_read}
use Rattle.lw_genlib.specs.Tables.{millionths}
use Rattle.lw_netlist.specs.declared.gate.Port.{Port}
use Rattle.lw_report.specs.declared.step.Step.{Step}
use Rattle.lw_report.specs.Timings.{port_arrival, output_arrivals, IsCriticalPath, IsPathTo, IsFirstAt}
use Rattle.lw_report.specs.Timings.IsCriticalPath.{without_outputs, to_output}
use Rattle.lw_report.proofs.PathLemmas.{greatest_there}
use Rattle.lw_report.proofs.path.critical_path.Goals as goal

pub returns-in_default : goal.returns-in_default
returns-in_default c =
    let cells = c.args.timed.now.lib.now in
    let n = c.args.timed.now.netlist.now in
    let arrivals = map millionths c.args.timed.now.time.now in
    let times = output_arrivals n arrivals in
    let told = subst (λ (ports : List Port). (j : ℕ) → slice_get (map (port_arrival arrivals) ports) j ≢ Some c.args.latest.0) c.outputs-ports.ensures.outputs c.in_default.ensures.none in
    let none = subst (λ t. (j : ℕ) → slice_get times j ≢ Some t) c.requires.latest told in
    let empty = greatest_there times none in
    let size : length times ≡ length n.outputs = length-map n.outputs (port_arrival arrivals) in
    let outputs : n.outputs ≡ [] = nil_from_length n.outputs (omega (arith, size, ap (λ (xs : List ℕ). length xs) empty)) in
    subst (λ (l : List Step). IsCriticalPath cells n arrivals l) (sym c.new.ensures.items) (without_outputs outputs)

pub path_back-requires-clause-end : goal.path_back-requires-clause-end
path_back-requires-clause-end c =
    let n = c.args.timed.now.netlist.now in
    let place = c.in-Some.place in
    let within = subst (λ (ports : List Port). place < length ports) c.outputs-ports.ensures.outputs c.in-Some.ensures.within in
    let low = c.outputs-ports.ensures.kept.outputs place c.index-ports-place.result within in
    subst (λ (ports : List Port). (get_or ports place c.index-ports-place.result).net.0 < length n.names) (sym c.outputs-ports.ensures.outputs) low

pub returns : goal.returns
returns c =
    let cells = c.args.timed.now.lib.now in
    let n = c.args.timed.now.netlist.now in
    let arrivals = map millionths c.args.timed.now.time.now in
    let place = c.in-Some.place in
    let ports = c.outputs-ports.result.now in
    let port = c.index-ports-place.result in
    let same = c.outputs-ports.ensures.outputs in
    let first = subst (λ (ps : List Port). IsFirstAt (map (port_arrival arrivals) ps) c.args.latest.0 place) same c.in-Some.ensures.found in
    let greatest_first = subst (λ t. IsFirstAt (output_arrivals n arrivals) t place) c.requires.latest first in
    let at : slice_get n.outputs place ≡ Some port = subst (λ (ps : List Port). slice_get ps place ≡ Some port) same (slice_get_read ports (length ports) place port refl c.in-Some.ensures.within c.index-ports-place.is) in
    let path = subst (λ (p : Port). IsPathTo cells n arrivals p.net.0 (reverse c.in_ok-path.path.items)) (sym c.index-ports-place.is) c.in_ok-path.ensures in
    subst (λ (l : List Step). IsCriticalPath cells n arrivals l) (sym c.reverse.ensures.items) (to_output greatest_first at path)
