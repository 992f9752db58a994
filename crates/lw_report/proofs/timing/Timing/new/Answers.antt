use Rattle.std.proofs.Common.{◌<◌, ◌^◌, List, All, map, sym, subst}
use Rattle.std.proofs.lemmas.Result.{IfOk-from_err}
use Rattle.lw_fixed.specs.declared.micro.Micro.{Micro}
use Rattle.lw_genlib.specs.Tables.{millionths}
use Rattle.lw_report.specs.Made.{AreArrivalsFor}
use Rattle.lw_report.proofs.timing.Timing.new.Goals as goal

pub arrivals_of-requires : goal.arrivals_of-requires
arrivals_of-requires c = record { over = c.requires.over; one_start = c.requires.one_start; small = c.requires.small; few = c.requires.few }

pub returns-in_err-arrivals : goal.returns-in_err-arrivals
returns-in_err-arrivals c = IfOk-from_err _ _ c.from_residual.ensures.0

pub critical_path-requires-clause-timed : goal.critical_path-requires-clause-timed
critical_path-requires-clause-timed c =
    let times = c.in_ok-arrivals.ensures in
    let same = sym c.as_slice-time.ensures.value in
    record {
      over = c.requires.over;
      are = subst (λ (ms : List Micro). AreArrivalsFor c.args.lib.now c.args.netlist.now (map millionths ms)) same (c.args.starts.now, times.are);
      low = subst (All (λ (time : Micro). time.0 < 2 ^ 63)) same times.low;
    }

pub returns-in_err-path : goal.returns-in_err-path
returns-in_err-path c = IfOk-from_err _ _ c.from_residual-in_err-path.ensures.0
