use Rattle.std.proofs.Common.{sym, subst, List, ℕ, length}
use Rattle.std.proofs.lemmas.Result.{IfOk-weaker}
use Rattle.lw_laws.specs.Forms.{disjunction}
use Rattle.lw_form.specs.Tables.{made, forms_at, AreBelow, IsMadeAs}
use Rattle.lw_form.proofs.Rows.{sum_made}
use Rattle.lw_form.proofs.maker.Fanins.sum_of_products.Goals as goal

pub disjunction-requires : goal.disjunction-requires
disjunction-requires c = subst (AreBelow (length (made c.cubes.new.table))) (sym c.deref.ensures) c.in_ok-cubes.ensures.within

pub returns : goal.returns
returns c = IfOk-weaker c.disjunction.result _ _ (λ form m. sum_made c.args.self.now.maker.now.width c.args.table.now c.cubes.new.table c.disjunction.new.table c.args.self.now.forms.now c.in_ok-cubes.cubes.items c.args.rows.now form c.in_ok-cubes.ensures (subst (λ (l : List ℕ). IsMadeAs c.cubes.new.table c.disjunction.new.table form (disjunction c.args.self.now.maker.now.width (forms_at (made c.cubes.new.table) l))) c.deref.ensures m)) c.disjunction.ensures
