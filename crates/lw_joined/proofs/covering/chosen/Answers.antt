use Rattle.std.proofs.Common.{Err, ap, refl}
use Rattle.std.proofs.lemmas.Result.{err_from_is_err_and}
use Rattle.lw_laws.proofs.NetlistOnce.{least_cover_once}
use Rattle.lw_label.specs.Delays.{time_cost}
use Rattle.lw_label.proofs.CellLaws.{patterns_of_cells}
use Rattle.lw_extract.specs.Choosing.{labels}
use Rattle.lw_map.proofs.CellLaws.{delay_patterns}
use Rattle.lw_joined.proofs.Covers.{cover_covers, lack_over, leaves_least, ports_fit}
use Rattle.lw_joined.proofs.covering.chosen.Goals as goal

pub relabel_with_bounds-requires : goal.relabel_with_bounds-requires
relabel_with_bounds-requires c =
    rw c.new-cost.ensures.lib (patterns_of_cells c.args.lib.now c.len.ensures.kept c.in_ok-pats.pats c.in_ok-pats.ensures.list c.in_ok-pats.ensures.pins)

pub extract_with-requires-clause-labels : goal.extract_with-requires-clause-labels
extract_with-requires-clause-labels c =
    let cost = time_cost c.args.lib.now c.args.starts.now in
    rw (c.new-cost.ensures.lib, c.new-cost.ensures.starts) (record {
      cells = refl;
      of_cells = patterns_of_cells c.args.lib.now c.len.ensures.kept c.in_ok-pats.pats c.in_ok-pats.ensures.list c.in_ok-pats.ensures.pins;
      least = rw (c.new-cost.ensures.lib, c.new-cost.ensures.starts) at c.in_ok-found.ensures.least;
      leaves = λ k i at.
          least_cover_once c.args.joined.now.choices.graph c.in_ok-pats.pats cost k _ _
          ((rw (c.new-cost.ensures.lib, c.new-cost.ensures.starts) at c.in_ok-found.ensures.least).least k)
          (leaves_least c.args.net.now c.args.joined.now c.requires.joined c.args.lib.now c.args.starts.now c.in_ok-pats.pats c.in_ok-pats.ensures.list (delay_patterns c.args.lib.now c.len.ensures.kept) i k at);
    })

pub extract_with-requires-clause-fit : goal.extract_with-requires-clause-fit
extract_with-requires-clause-fit c =
    ports_fit c.args.net.now c.args.joined.now c.in_ok-ports.ports c.inputs.ensures.kept c.in_ok-ports.ensures c.requires.joined c.requires.outputs

pub returns-in_err-cover-clause-lacks : goal.returns-in_err-cover-clause-lacks
returns-in_err-cover-clause-lacks c =
    let p = err_from_is_err_and c.from_residual-in_err-cover.result c.from_residual-in_err-cover.ensures.1 in
    rw (p.1, p.2) (
    lack_over c.args.net.now c.args.joined.now c.in_ok-ports.ports c.inputs.ensures.kept c.in_ok-ports.ensures c.args.lib.now c.args.starts.now c.in_ok-pats.pats c.in_ok-found.found.labels c.in_ok-pats.ensures.list
    (rw (c.new-cost.ensures.lib, c.new-cost.ensures.starts) at c.in_ok-found.ensures.least) _ (λ k e. (c.in_err-cover.ensures.no_cover k).0 (ap Err e)))

pub returns-clause-covered : goal.returns-clause-covered
returns-clause-covered c =
    cover_covers c.args.net.now c.args.joined.now c.in_ok-ports.ports c.inputs.ensures.kept c.in_ok-ports.ensures c.args.lib.now c.args.starts.now c.in_ok-pats.pats c.in_ok-found.found.labels c.in_ok-pats.ensures.list
    (rw (c.new-cost.ensures.lib, c.new-cost.ensures.starts) at c.in_ok-found.ensures.least) c.requires.joined.few c.in_ok-cover.cover c.gates.ensures.kept c.in_ok-cover.ensures.cover.over
    (rw (c.new-cost.ensures.lib, c.new-cost.ensures.starts) at c.in_ok-cover.ensures.cover.cover)
