use Rattle.std.proofs.Common.{refl, ap, subst}
use Rattle.lw_net.specs.declared.draft.Draft.{Draft}
use Rattle.lw_net.specs.Networks.{NetworkParts}
use Rattle.lw_net.specs.Closing.{IsClosed}
use Rattle.lw_blif.proofs.Closing.{may-close, err-closes, model-fits}
use Rattle.lw_blif.proofs.parts.Parts.close.Goals as goal

pub close-requires : goal.close-requires
close-requires c = may-close c.args.self c.in_ok-said.said c.requires c.in_ok-said.ensures.said

pub returns-in_err-network-clause-closes : goal.returns-in_err-network-clause-closes
returns-in_err-network-clause-closes c = λ lines k.
    err-closes lines c.in_ok-said.said.draft c.in_err-network.field-0.0 c.from_residual-in_err-network.result (c.in_ok-said.ensures.said lines k).draft c.in_err-network.ensures.fault c.from_residual-in_err-network.ensures

pub returns-clause-closes : goal.returns-clause-closes
returns-clause-closes c = λ lines k.
    let is = c.in_ok-said.ensures.said lines k in
    record {
      network = subst (λ (d : Draft). IsClosed d c.in_ok-network.network) is.draft c.in_ok-network.ensures.closed;
      frame = is.frame;
      starts = is.starts;
    }

pub returns-clause-model : goal.returns-clause-model
returns-clause-model c =
    let said = c.in_ok-said.said in
    let closed = c.in_ok-network.ensures.closed in
    let draft = may-close c.args.self said c.requires c.in_ok-said.ensures.said in
    let net = c.in_ok-network.network in
    let law = c.closed_is_network.ensures in
    model-fits said _ (law.network said.draft net draft closed) (law.names said.draft net draft closed) draft c.in_ok-said.ensures.fits (c.closed_is_network.ensures.inputs said.draft c.in_ok-network.network draft closed)
    (c.closed_is_network.ensures.outputs said.draft c.in_ok-network.network draft closed) (ap (λ (n : NetworkParts). n.inputs) closed.network) refl refl
