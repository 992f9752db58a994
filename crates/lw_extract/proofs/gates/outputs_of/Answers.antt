use Rattle.std.proofs.Common.{◌<◌, ◌≡◌, ◌+◌, ◌∙◌, length, get_or, IsSome, List, [], ◌∷◌, ◌++◌, Vec, Global, sym, subst, ap}
use Rattle.lw_facts.proofs.Lists.{all_at, some_within}
use Rattle.lw_pool.specs.declared.id.ClassId.{ClassId}
use Rattle.lw_pool.specs.declared.name.Name.{Name}
use Rattle.lw_netlist.specs.declared.gate.Port.{Port}
use Rattle.lw_extract.specs.Nets.{net_in}
use Rattle.lw_extract.proofs.ClassNets.{some_of}
use Rattle.lw_extract.proofs.GateLists.{AreFirstOutputs, outputs_more}
use Rattle.lw_extract.proofs.gates.outputs_of.Goals as goal
use Rattle.lw_extract.proofs.gates.outputs_of.Goals.{in-Some+in_ok-name+in_ok-push, in_default}

pub bounds : goal.bounds
bounds c =
    let here = all_at (λ (class : ClassId). IsSome (net_in c.args.nets.now class)) c.args.ports.now.roots c.loop-k.k c.get.result c.requires.nets c.get.ensures in
    let (n, e) = some_of (net_in c.args.nets.now c.get.result) here in
    some_within c.args.nets.now c.get.result.0 n e

pub loop-k-preserved : goal.loop-k-preserved
loop-k-preserved c =
    let names = c.args.ports.now.outputs in
    let roots = c.args.ports.now.roots in
    let nets = c.args.nets.now in
    let k = c.loop-k.k in
    let name = c.name-item.result in
    let same = c.as_slice-name-items.ensures in
    let inside : k < length names = subst (λ (ns : List Name). k < length ns) same c.loop-k-test.true in
    let named : name ≡ get_or names k name = subst (λ (ns : List Name). name ≡ get_or ns k name) same c.name-item.is in
    elim c.match-nets-get.branch [
      | in-Some+in_ok-name+in_ok-push w ↦
          let port : Port = record { name = w.in_ok-name.name; net = w.in-Some.net } in
          let more = outputs_more names roots nets k name c.get.result c.loop-k.outputs.items port inside named c.get.ensures (w.in_ok-name.ensures ∙ w.as_bytes.ensures.bytes) w.in-Some.is c.loop-k.invariant in
          let items : c.match-nets-get.outputs.items ≡ c.loop-k.outputs.items ++ port ∷ [] = ap (λ (v : Vec Port Global). v.items) w.outputs-is ∙ w.in_ok-push.ensures.items in
          subst (λ (ps : List Port). AreFirstOutputs names roots nets (k + 1) ps) (sym items) more
      | in_default w ↦
          let here = all_at (λ (class : ClassId). IsSome (net_in nets class)) roots k c.get.result c.requires.nets c.get.ensures in
          let (n, e) = some_of (net_in nets c.get.result) here in
          absurd (w.in_default.not-Some n e)
    ]
