use Rattle.std.proofs.Common.{None, sym, subst}
use Rattle.std.specs.Prelude.{IfSome, slice_index_or, ◌<◌, ◌-◌, length}
use Rattle.lw_pool.specs.declared.id.ClassId.{ClassId}
use Rattle.lw_check.specs.Cases.{claim_of}
use Rattle.lw_check.proofs.Matching.{net_within}
use Rattle.lw_check.proofs.gates.class_of_net.Goals as goal

pub returns-then-place-nets-clause-within : goal.returns-then-place-nets-clause-within
returns-then-place-nets-clause-within c = λ known.
    subst (λ nets. IfSome (slice_index_or nets (c.args.net.0 - c.inputs-inputs.result) None) (λ (class : ClassId). class.0 < length c.args.case.now.graph.now.pairs)) (sym c.as_slice-nets.ensures) (net_within (claim_of c.args.case.now) known (c.args.net.0 - c.inputs-inputs.result))
