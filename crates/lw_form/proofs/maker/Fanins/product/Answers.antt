use Rattle.std.proofs.Common.{◌∙◌, sym, subst, map}
use Rattle.std.proofs.lemmas.Result.{IfOk-weaker}
use Rattle.lw_net.specs.Signs.{asked}
use Rattle.lw_form.specs.Tables.{AreBelow}
use Rattle.lw_form.proofs.Rows.{below_literals, cube_made}
use Rattle.lw_form.proofs.maker.Fanins.product.Goals as goal

pub conjunction-requires : goal.conjunction-requires
conjunction-requires c = subst (AreBelow _) (sym (c.deref.ensures ∙ c.in_ok-literals.ensures)) (below_literals _ c.args.self.now.forms.now (map asked c.args.signs.now) c.requires.fanins)

pub returns : goal.returns
returns c = IfOk-weaker c.conjunction.result _ _ (λ form m. cube_made c.args.self.now.maker.now.width c.args.table.now c.conjunction.new.table c.args.self.now.forms.now c.deref.result.now (map asked c.args.signs.now) form c.len-count.ensures.made c.requires.fanins (c.deref.ensures ∙ c.in_ok-literals.ensures) m) c.conjunction.ensures
