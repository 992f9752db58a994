use Rattle.std.proofs.Common.{◌≤◌, sym, subst}
use Rattle.std.proofs.lemmas.Option.{same_Some}
use Rattle.lw_queue.specs.Queues.{Waits}
use Rattle.lw_curves.proofs.Starts.{only_number}
use Rattle.lw_curves.proofs.first_choices.push_start.Goals as goal

pub returns : goal.returns
returns c =
    let due = c.in_ok-push_due.ensures in
    record {
      horizon = due.horizon;
      kept = due.kept;
      only = λ t m w. only_number c.args.queue.now c.in-Some.time c.args.number t m (due.only t m w);
      here = λ s t a e gives le.
          let same = same_Some c.in-Some.time t (c.in-Some.ensures s t a e gives) in
          subst (λ u. Waits c.push_due.new.queue u c.args.number) same (due.here (subst (λ u. u ≤ c.args.queue.now.horizon) (sym same) le));
    }
