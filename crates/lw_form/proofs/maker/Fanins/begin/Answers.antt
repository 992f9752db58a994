use Rattle.std.proofs.Common.{◌∙◌, sym, ap, length, arith}
use Rattle.std.proofs.lemmas.Result.{on_ok_weaker}
use Rattle.lw_laws.specs.Signals.{shared_literal}
use Rattle.lw_form.specs.Factoring.{plain_literal}
use Rattle.lw_form.specs.Tables.{made}
use Rattle.lw_form.proofs.Joining.{more_same}
use Rattle.lw_form.proofs.FactoringSteps.{begun_none, begun_some, shared_column, weight_cut}
use Rattle.lw_form.proofs.maker.Fanins.begin.Goals as goal

pub returns-in_default : goal.returns-in_default
returns-in_default c = record {
  working = begun_none c.args.self.now.maker.now.width c.args.table.now c.sum_of_products.new.table c.args.self.now.forms.now c.args.work.now.tasks.items c.args.work.now.done.items c.push.new.self.items c.args.rows c.deref.result.now c.deref-in_default.result.now c.in_ok-form.form c.deref.ensures.value c.deref-in_default.ensures.value c.in_default.ensures c.in_ok-form.ensures c.in_ok-push.ensures.items;
  less = omega arith;
  more = c.in_ok-form.ensures.more;
}

pub bounds-self-literal : goal.bounds-self-literal
bounds-self-literal c = shared_column c.args.rows.items c.deref.result.now (length c.args.self.now.forms.now) c.in-Some.literal c.deref.ensures.value c.in-Some.ensures

pub returns : goal.returns
returns c = on_ok_weaker c.push_cut.result (λ pushed. record {
  working = begun_some c.args.self.now.maker.now.width c.args.table.now c.args.self.now.forms.now c.args.work.now.tasks.items c.push_cut.new.tasks.items c.args.work.now.done.items c.args.rows c.in_ok-cut.cut.having c.in_ok-cut.cut.others c.deref.result.now c.in-Some.literal c.signed-form.result c.len-count.ensures.made c.requires.below c.deref.ensures.value c.in-Some.ensures c.in_ok-cut.ensures.having c.in_ok-cut.ensures.others c.signed-form.ensures pushed;
  less = weight_cut c.args.work.now.tasks.items c.push_cut.new.tasks.items c.args.rows c.in_ok-cut.cut.having c.in_ok-cut.cut.others (length c.args.self.now.forms.now) c.signed-form.result (plain_literal c.in-Some.literal) (ap (shared_literal (length c.args.self.now.forms.now)) (sym c.deref.ensures.value) ∙ sym c.in-Some.ensures) c.in_ok-cut.ensures.having c.in_ok-cut.ensures.others pushed;
  more = more_same (made c.args.table.now);
}) c.push_cut.ensures

pub offset_bounds-self-literal : goal.offset_bounds-self-literal
offset_bounds-self-literal c = let lt = shared_column c.args.rows.items c.deref.result.now (length c.args.self.now.forms.now) c.in-Some.literal c.deref.ensures.value c.in-Some.ensures in omega arith
