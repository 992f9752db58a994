use Rattle.std.proofs.Common.{◌≡◌, ◌+◌, ◌-◌, ◌<◌, List, [], ◌∷◌, map, reverse, sym, subst, arith}
use Rattle.lw_genlib.specs.Tables.{millionths}
use Rattle.lw_report.specs.declared.step.Step.{Step}
use Rattle.lw_report.specs.Pathways.{LeadsTo, IsLinkFrom}
use Rattle.lw_report.specs.Timings.{IsPathTo}
use Rattle.lw_report.proofs.PathLemmas.{leads_nowhere, leads_on, path_from, path_from_input}
use Rattle.lw_report.proofs.path.path_back.Goals as goal

pub returns-in-None : goal.returns-in-None
returns-in-None c =
    let cells = c.args.timed.now.lib.now in
    let n = c.args.timed.now.netlist.now in
    let arrivals = map millionths c.args.timed.now.time.now in
    let step = c.link_to-link.result.step in
    let net : n.inputs + (c.loop-net.net - c.inputs-inputs.result) ≡ c.loop-net.net = omega (arith, c.inputs-inputs.ensures.inputs, c.loop-net-test.true) in
    let link = subst (λ o. IsLinkFrom cells n arrivals (n.inputs + (c.loop-net.net - c.inputs-inputs.result)) step o) c.in-None.is c.link_to-link.ensures in
    let first = subst (λ m. IsPathTo cells n arrivals m (step ∷ [])) net link in
    subst (λ (l : List Step). IsPathTo cells n arrivals c.args.end.0 (reverse l)) (sym c.in_ok-push.ensures.items) (path_from cells n arrivals c.loop-net.net c.args.end.0 step c.loop-net.path.items first c.loop-net.invariant.leads)

pub loop-net-init : goal.loop-net-init
loop-net-init c =
    let cells = c.args.timed.now.lib.now in
    let n = c.args.timed.now.netlist.now in
    let arrivals = map millionths c.args.timed.now.time.now in
    record {
      within = c.requires.end;
      leads = subst (λ (l : List Step). LeadsTo cells n arrivals c.args.end.0 (reverse l) c.args.end.0) (sym c.new-path.ensures.items) (leads_nowhere cells n arrivals c.args.end.0);
    }

pub loop-net-preserved : goal.loop-net-preserved
loop-net-preserved c =
    let cells = c.args.timed.now.lib.now in
    let n = c.args.timed.now.netlist.now in
    let arrivals = map millionths c.args.timed.now.time.now in
    let step = c.link_to-link.result.step in
    let from = c.in-Some.from in
    let net : n.inputs + (c.loop-net.net - c.inputs-inputs.result) ≡ c.loop-net.net = omega (arith, c.inputs-inputs.ensures.inputs, c.loop-net-test.true) in
    let link = subst (λ o. IsLinkFrom cells n arrivals (n.inputs + (c.loop-net.net - c.inputs-inputs.result)) step o) c.in-Some.is c.link_to-link.ensures in
    let lower : from.0 < c.loop-net.net = subst (λ m. from.0 < m) net link.0 in
    let leads = subst (λ m. LeadsTo cells n arrivals from.0 (step ∷ []) m) net link.1 in
    record {
      within = omega (arith, lower, c.loop-net.invariant.within);
      leads = subst (λ (l : List Step). LeadsTo cells n arrivals from.0 (reverse l) c.args.end.0) (sym c.in_ok-push.ensures.items) (leads_on cells n arrivals from.0 c.loop-net.net c.args.end.0 step c.loop-net.path.items leads c.loop-net.invariant.leads);
    }

pub loop-net-smaller : goal.loop-net-smaller
loop-net-smaller c =
    let cells = c.args.timed.now.lib.now in
    let n = c.args.timed.now.netlist.now in
    let arrivals = map millionths c.args.timed.now.time.now in
    let from = c.in-Some.from in
    let net : n.inputs + (c.loop-net.net - c.inputs-inputs.result) ≡ c.loop-net.net = omega (arith, c.inputs-inputs.ensures.inputs, c.loop-net-test.true) in
    let link = subst (λ o. IsLinkFrom cells n arrivals (n.inputs + (c.loop-net.net - c.inputs-inputs.result)) c.link_to-link.result.step o) c.in-Some.is c.link_to-link.ensures in
    subst (λ m. from.0 < m) net link.0

pub returns : goal.returns
returns c =
    let below : c.loop-net.net < c.args.timed.now.netlist.now.inputs = omega (arith, c.inputs-inputs.ensures.inputs, c.loop-net-test.false) in
    path_from_input c.args.timed.now.lib.now c.args.timed.now.netlist.now (map millionths c.args.timed.now.time.now) c.loop-net.net c.args.end.0 c.loop-net.path.items below c.loop-net.invariant.leads
