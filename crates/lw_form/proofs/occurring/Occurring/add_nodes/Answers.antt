use Rattle.std.proofs.Common.{◌≡◌, ◌+◌, ◌<◌, All, refl, sym, subst, length, map, arith}
use Rattle.std.proofs.lemmas.Option.{slice_get_read}
use Rattle.lw_pool.specs.declared.id.NetId.{NetId}
use Rattle.lw_net.specs.Plain.{plain_node}
use Rattle.lw_laws.specs.Signals.{signals_after}
use Rattle.lw_form.specs.Nets.{HasSignals, IsSignalFault}
use Rattle.lw_form.proofs.ListedForms.{err_is}
use Rattle.lw_form.proofs.Signalled.{net_count, nodes_next, nodes_count, nodes_fault}
use Rattle.lw_form.proofs.occurring.Occurring.add_nodes.Goals as goal

pub add_node-requires : goal.add_node-requires
add_node-requires c = record {
  listed = let (signals, w) = c.requires.listed in (_, c.loop-node.invariant signals w);
  fanins = let (signals, w) = c.requires.listed in
      let a = net_count c.args.self.now.table c.args.self.now.listing.listed.items c.args.self.now.listing.places.items c.args.self.now.sops.items c.args.self.now.facs.items signals w in
      let b = net_count c.loop-node.self.table c.loop-node.self.listing.listed.items c.loop-node.self.listing.places.items c.loop-node.self.sops.items c.loop-node.self.facs.items _ (c.loop-node.invariant signals w) in
      let n = nodes_count c.args.maker.now.width signals c.args.nodes.now c.loop-node.node-index c.node-item.result c.loop-node-test.true c.node-item.is in
      let same : length c.args.self.now.sops.items + c.loop-node.node-index ≡ length c.loop-node.self.sops.items = omega arith in
      subst (λ k. All (λ (net : NetId). net.0 < k) c.node-item.result.fanins) same (c.requires.nodes c.loop-node.node-index c.node-item.result (slice_get_read c.args.nodes.now (length c.args.nodes.now) c.loop-node.node-index c.node-item.result refl c.loop-node-test.true c.node-item.is)).0;
  columns = (c.requires.nodes c.loop-node.node-index c.node-item.result (slice_get_read c.args.nodes.now (length c.args.nodes.now) c.loop-node.node-index c.node-item.result refl c.loop-node-test.true c.node-item.is)).1;
}

pub returns-in_err-add_node-clause-fault : goal.returns-in_err-add_node-clause-fault
returns-in_err-add_node-clause-fault c =
    err_is (IsSignalFault c.args.self.now (λ signals. signals_after c.args.maker.now.width signals (map plain_node c.args.nodes.now))) c.from_residual.result c.in_err-add_node.field-0.0 c.from_residual.ensures.1
    (λ signals w. nodes_fault c.args.maker.now.width signals c.args.nodes.now c.loop-node.node-index c.node-item.result c.loop-node-test.true c.node-item.is c.in_err-add_node.field-0.0 (c.in_err-add_node.ensures.fault _ (c.loop-node.invariant signals w)))

pub loop-node-preserved : goal.loop-node-preserved
loop-node-preserved c = λ signals w. subst (HasSignals c.add_node.new.self) (sym (nodes_next c.args.maker.now.width signals c.args.nodes.now c.loop-node.node-index c.node-item.result c.loop-node-test.true c.node-item.is)) (c.in_ok-add_node.ensures.adds.listed _ (c.loop-node.invariant signals w))
