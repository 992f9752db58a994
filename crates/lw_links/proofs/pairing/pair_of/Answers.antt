use Rattle.std.proofs.Common.{sym, subst₂, arith}
use Rattle.std.proofs.lemmas.Option.{slice_get-get_or}
use Rattle.lw_form.specs.Links.{HaveOneValue}
use Rattle.lw_links.proofs.pairing.pair_of.Goals as goal

pub returns : goal.returns
returns c forms tell =
    subst₂ (HaveOneValue forms) (sym c.form_at.ensures) (sym c.form_at-2.ensures)
    (tell.each c.args.a c.args.b _ _
    (slice_get-get_or c.args.literals.now c.args.a _ (omega (arith, c.if-a-literals.false)))
    (slice_get-get_or c.args.literals.now c.args.b _ (omega (arith, c.if-b-literals.false)))
    (omega (arith, c.node.ensures, c.node-2.ensures, c.if-node.false)))
