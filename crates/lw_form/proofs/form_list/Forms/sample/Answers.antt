use Rattle.lw_form.proofs.Samples.{even_value, odd_value}
use Rattle.lw_form.proofs.form_list.Forms.sample.Goals as goal

pub returns-then-form-eq0 : goal.returns-then-form-eq0
returns-then-form-eq0 c =
    rw (← c.self.view_is)
    (even_value _ c.self.inside.samples.items c.args.form.0 c.index-value.result.now c.self.invariant.1 (rw (← c.self.view_is) at c.requires) c.index-value.ensures c.if-form-eq0.true)

pub returns-else-form-eq0 : goal.returns-else-form-eq0
returns-else-form-eq0 c =
    rw (← c.self.view_is)
    (odd_value _ c.self.inside.samples.items c.args.form.0 c.index-value.result.now c.self.invariant.1 (rw (← c.self.view_is) at c.requires) c.index-value.ensures c.if-form-eq0.false)
