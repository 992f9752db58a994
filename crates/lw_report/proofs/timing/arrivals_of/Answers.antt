use Rattle.std.proofs.Common.{ℕ, ◌<◌, ◌^◌, ◌∙◌, List, All, length, map, sym, ap, subst, arith}
use Rattle.std.proofs.lemmas.List.{with_items_is}
use Rattle.std.proofs.lemmas.Result.{IfOk-from_err}
use Rattle.lw_fixed.specs.declared.micro.Micro.{Micro}
use Rattle.lw_laws.specs.Netlists.{AreArrivals}
use Rattle.lw_genlib.specs.Tables.{millionths, timing_of}
use Rattle.lw_netlist.specs.Plain.{plain}
use Rattle.lw_report.proofs.timing.arrivals_of.Goals as goal

pub returns-in_err-arrivals : goal.returns-in_err-arrivals
returns-in_err-arrivals c = IfOk-from_err _ _ c.from_residual.ensures.0

pub arrivals-requires-clause-over : goal.arrivals-requires-clause-over
arrivals-requires-clause-over c = c.requires.over

pub arrivals-requires-clause-one_start : goal.arrivals-requires-clause-one_start
arrivals-requires-clause-one_start c = c.requires.one_start

pub arrivals-requires-clause-small : goal.arrivals-requires-clause-small
arrivals-requires-clause-small c = c.requires.small

pub arrivals-requires-clause-few : goal.arrivals-requires-clause-few
arrivals-requires-clause-few c = c.requires.few

pub arrivals-requires-clause-one_net : goal.arrivals-requires-clause-one_net
arrivals-requires-clause-one_net c = omega (arith, ap (λ (ms : List Micro). length ms) c.deref_mut.ensures.value, c.in_ok-arrivals.ensures.len, c.in_ok-arrivals.arrivals.ok.0, ap (λ (ns : List (List ℕ)). length ns) c.names.ensures.names)

pub returns : goal.returns
returns c =
    let v = c.in_ok-arrivals.arrivals in
    let times = c.arrivals.new.nets in
    let lent = ap (λ (ms : List Micro). length ms) c.deref_mut.ensures.value in
    let back = with_items_is v times (c.arrivals.auto.nets ∙ (lent ∙ sym v.ok.0)) in
    record {
      are = subst (λ (ms : List Micro). AreArrivals (timing_of c.args.lib.now c.args.starts.now) (plain c.args.netlist.now) (map millionths ms)) (sym back) c.arrivals.ensures.arrivals;
      low = subst (All (λ (time : Micro). time.0 < 2 ^ 63)) (sym back) c.arrivals.ensures.low;
      len = ap (λ (ms : List Micro). length ms) back ∙ omega (arith, c.arrivals.auto.nets, lent, c.in_ok-arrivals.ensures.len, v.ok.0, ap (λ (ns : List (List ℕ)). length ns) c.names.ensures.names);
    }
