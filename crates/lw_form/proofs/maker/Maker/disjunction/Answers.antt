use Rattle.std.proofs.Common.{◌∙◌, refl, sym, subst}
use Rattle.lw_form.specs.Tables.{AreBelow}
use Rattle.lw_form.proofs.Joining.{below_others, or_alone, or_made}
use Rattle.lw_form.proofs.maker.Maker.disjunction.Goals as goal

pub returns-then-forms-eq1 : goal.returns-then-forms-eq1
returns-then-forms-eq1 c = or_alone c.args.self.now.width c.args.self.now.wide.low c.args.table.now c.len-count.ensures.made c.args.forms.now _ c.if-forms-eq1.true refl c.requires

pub conjunction-requires : goal.conjunction-requires
conjunction-requires c = subst (AreBelow _) (sym (c.deref.ensures ∙ c.in_ok-none.ensures)) (below_others _ c.args.forms.now c.requires)

pub returns : goal.returns
returns c = or_made c.args.self.now.width c.args.table.now c.conjunction.new.table c.args.forms.now c.deref.result.now c.in_ok-all.all c.len-count.ensures.made c.len-more.ensures.made c.requires (c.deref.ensures ∙ c.in_ok-none.ensures) c.in_ok-all.ensures
