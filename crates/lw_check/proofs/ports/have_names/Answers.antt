use Rattle.std.proofs.Common.{◌≡◌, map, slice_get, refl, sym, ◌∙◌, arith}
use Rattle.std.proofs.lemmas.List.{length-map}
use Rattle.lw_pool.specs.declared.id.NetId.{NetId}
use Rattle.lw_net.specs.Networks.{name_in}
use Rattle.lw_check.proofs.Naming.{agree, differ, names_differ, names_here}
use Rattle.lw_check.proofs.Places.{same_lists}
use Rattle.lw_check.proofs.Timely.{below_next}
use Rattle.lw_check.proofs.ports.have_names.Goals as goal
use Rattle.lw_netlist.specs.Plain.{port_name}

pub returns-then-ne : goal.returns-then-ne
returns-then-ne c =
    let d : NetId = record { 0 = 0 } in
    let lt = c.loop-k-test.true in
    let beside = c.if-ports-outputs.false in (
      λ t. absurd (cc),
      λ e. absurd (differ c.as_bytes.result.now c.as_bytes-in-loop-k.result.now c.ne.result c.ne.ensures c.if-ne.true
          (c.as_bytes.ensures.bytes ∙ (names_differ c.args.ports.now c.args.net.now c.args.outputs.now c.loop-k.k c.index-ports-k.result d c.names.result.now c.index-names-outputs.result lt beside c.index-ports-k.is c.names.ensures.names (c.requires c.loop-k.k d (omega arith)) c.index-names-outputs.is e ∙ sym c.as_bytes-in-loop-k.ensures.bytes))),
    )

pub loop-k-preserved : goal.loop-k-preserved
loop-k-preserved c =
    let d : NetId = record { 0 = 0 } in
    let lt = c.loop-k-test.true in
    let beside = c.if-ports-outputs.false in
    below_next (λ j. slice_get (map port_name c.args.ports.now) j ≡ slice_get (map (name_in c.args.net.now) c.args.outputs.now) j) c.loop-k.k c.loop-k.invariant
    (names_here c.args.ports.now c.args.net.now c.args.outputs.now c.loop-k.k c.index-ports-k.result d c.names.result.now c.index-names-outputs.result lt beside c.index-ports-k.is c.names.ensures.names (c.requires c.loop-k.k d (omega arith)) c.index-names-outputs.is
    (sym c.as_bytes.ensures.bytes ∙ (agree c.as_bytes.result.now c.as_bytes-in-loop-k.result.now c.ne.result c.ne.ensures c.if-ne.false ∙ c.as_bytes-in-loop-k.ensures.bytes)))

pub returns : goal.returns
returns c =
    let beside = c.if-ports-outputs.false in
    let ports = length-map c.args.ports.now port_name in
    let outputs = length-map c.args.outputs.now (name_in c.args.net.now) in
    let all = c.loop-k-test.false in (
      λ t. same_lists (map port_name c.args.ports.now) (map (name_in c.args.net.now) c.args.outputs.now) (omega arith) (λ j lt. c.loop-k.invariant j (omega arith)),
      λ e. refl,
    )
