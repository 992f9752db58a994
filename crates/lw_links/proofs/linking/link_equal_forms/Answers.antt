use Rattle.std.proofs.Common.{arith, subst, sym}
use Rattle.lw_aig.specs.Aigs.{IsAig}
use Rattle.lw_links.specs.Linked.{StandFor}
use Rattle.lw_links.proofs.Standing.{they_tell}
use Rattle.lw_links.proofs.linking.link_equal_forms.Goals as goal

pub new-requires : goal.new-requires
new-requires c = omega (arith, c.inputs.ensures.inputs, c.inputs.ensures.kept.nets.some, c.inputs.ensures.kept.nets.few)

pub link_all-requires-clause-tell : goal.link_all-requires-clause-tell
link_all-requires-clause-tell c =
    they_tell c.form_literals.new.sweep c.args.forms.now c.deref.result.now (subst IsAig c.aig.ensures c.gates-nodes.ensures.kept)
    (subst (StandFor c.form_literals.new.sweep c.args.forms.now) (sym c.deref.ensures.value) c.in_ok-literals.ensures)
