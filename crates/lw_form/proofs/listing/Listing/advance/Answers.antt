use Rattle.std.proofs.Common.{◌<◌, ◌+◌, ◌∷◌, ◌++◌, [], List, sym, subst}
use Rattle.std.proofs.lemmas.Result.{on_ok_weaker}
use Rattle.lw_laws.specs.Forms.{Form}
use Rattle.lw_form.specs.declared.listing.Step.TheVariants.{Parts}
use Rattle.lw_form.specs.Listed.{plain_step, plain_steps, step_size, steps_size, IsAdding, Steps}
use Rattle.lw_form.specs.Tables.{made}
use Rattle.lw_form.proofs.ListedForms.{parts_added, parts_fault, parts_size, if_err}
use Rattle.lw_form.proofs.listing.Listing.advance.Goals as goal

works : (c : goal.After-list_and) (goals : List Form) → IsAdding c.args.table.now c.args.self.now.listed.items c.args.self.now.places.items (c.args.steps.now.items ++ c.args.step ∷ []) goals → IsAdding c.args.table.now c.args.self.now.listed.items c.args.self.now.places.items (c.args.steps.now.items ++ Parts c.in-Parts.b ∷ []) goals
works c goals w = subst (λ s. IsAdding c.args.table.now c.args.self.now.listed.items c.args.self.now.places.items (c.args.steps.now.items ++ s ∷ []) goals) c.in-Parts.is w

pub returns-in-Add : goal.returns-in-Add
returns-in-Add c = subst (Steps c.begin.result c.args.table.now c.args.table.now c.args.self.now c.begin.new.self c.args.steps.now.items c.begin.new.steps.items) (sym c.in-Add.is) c.begin.ensures

pub returns-in-Parts : goal.returns-in-Parts
returns-in-Parts c = record {
  taken =
      let (goals, w) = c.requires in
      on_ok_weaker c.list_and.result (λ l. record {
        more = l.more;
        adding = λ goals w. parts_added c.args.table.now c.list_and.new.table c.args.self.now.listed.items c.args.self.now.places.items c.list_and.new.self.listed.items c.list_and.new.self.places.items c.args.steps.now.items c.in-Parts.b goals (works c goals w) l.more l.listed l.bases;
        less = subst (λ s. steps_size (plain_steps (made c.list_and.new.table) c.args.steps.now.items) < step_size (plain_step (made c.args.table.now) s) + steps_size (plain_steps (made c.args.table.now) c.args.steps.now.items)) (sym c.in-Parts.is) (parts_size c.args.table.now c.list_and.new.table c.args.self.now.listed.items c.args.self.now.places.items c.args.self.now.listed.items c.args.self.now.places.items c.args.steps.now.items c.in-Parts.b goals (works c goals w) l.more);
      }) c.list_and.ensures.listed;
  fault = if_err c.list_and.result (λ e t goals w. parts_fault c.args.table.now c.list_and.new.table c.args.self.now.listed.items c.args.self.now.places.items c.args.self.now.listed.items c.args.self.now.places.items c.args.steps.now.items c.in-Parts.b goals (works c goals w) e t) c.list_and.ensures.fault;
}
