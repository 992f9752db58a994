use Rattle.std.proofs.Common.{◌∷◌, ◌++◌, [], sym, subst, arith, OnOk}
use Rattle.std.proofs.lemmas.Result.{on_ok_weaker}
use Rattle.lw_form.specs.Factoring.{DoesTask, IsWorking}
use Rattle.lw_form.proofs.FactoringSteps.{two_done, join_below, factor_columns}
use Rattle.lw_form.proofs.maker.Fanins.advance.Goals as goal

pub begin-requires : goal.begin-requires
begin-requires c =
    let (fs, f, w) = c.requires in
    let v = (subst (λ t. IsWorking c.args.self.now.maker.now.width fs c.args.self.now.forms.now c.args.table.now (c.args.work.now.tasks.items ++ t ∷ []) c.args.work.now.done.items (f ∷ [])) c.in-Factor.is w) in
    record {
      below = v.fanins_below;
      columns = factor_columns c.args.self.now.maker.now.width fs c.args.self.now.forms.now (f ∷ []) c.args.table.now c.args.work.now.tasks.items c.args.work.now.done.items c.in-Factor.rows v;
    }

pub join-requires : goal.join-requires
join-requires c =
    let (fs, f, w) = c.requires in
    let v = (subst (λ t. IsWorking c.args.self.now.maker.now.width fs c.args.self.now.forms.now c.args.table.now (c.args.work.now.tasks.items ++ t ∷ []) c.args.work.now.done.items (f ∷ [])) c.in-Join.is w) in
    record {
      two = two_done c.args.self.now.maker.now.width fs c.args.self.now.forms.now f c.args.table.now c.args.work.now.tasks.items c.args.work.now.done.items c.in-Join.literal v;
      literal = join_below c.args.self.now.maker.now.width fs c.args.self.now.forms.now (f ∷ []) c.args.table.now c.args.work.now.tasks.items c.args.work.now.done.items c.in-Join.literal v;
      below = v.done_below;
    }

pub returns-in-Factor : goal.returns-in-Factor
returns-in-Factor c = subst (λ t. OnOk c.begin.result (DoesTask c.args.self.now c.args.table.now c.begin.new.table c.args.work.now c.begin.new.work t)) (sym c.in-Factor.is) c.begin.ensures

pub returns-in-Join : goal.returns-in-Join
returns-in-Join c = subst (λ t. OnOk c.join.result (DoesTask c.args.self.now c.args.table.now c.join.new.table c.args.work.now c.join.new.work t)) (sym c.in-Join.is)
    (on_ok_weaker c.join.result (λ j. record { working = j.working c.args.self.now.forms.now; less = let e = j.same in omega arith; more = j.more }) c.join.ensures)
