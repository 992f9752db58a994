-- The tasks of factoring some rows, without recursion.
use Rattle.std.specs.Prelude.{ℕ, ◌+◌, ◌*◌, ◌/◌, ◌<◌, ◌≤◌, ◌≡◌, Bool, Option, Some, None, List, [], ◌∷◌, ◌++◌, map}
use Rattle.std.specs.Prelude.{length}
use Rattle.std.specs.List.{AllByRecursion}
use Rattle.lw_laws.specs.Forms.{Form, conjunction, disjunction}
use Rattle.lw_laws.specs.Signals as laws
use Rattle.lw_laws.specs.Signals.{factored}
use Rattle.lw_laws.specs.SignalValues.{form_of}
use Rattle.lw_form.specs.declared.factoring.Literal.{Literal}
use Rattle.lw_form.specs.declared.factoring.Task.{Task}
use Rattle.lw_form.specs.declared.factoring.Task.TheVariants.{Factor, Join}
use Rattle.lw_form.specs.declared.factoring.Work.{Work}
use Rattle.lw_form.specs.declared.maker.Fanins.{Fanins}
use Rattle.lw_form.specs.Products.{HaveColumns}
use Rattle.lw_form.specs.Tables.{Table, made, AreBelow, HasMore, forms_at}

abbrev pub plain_literal : Literal → laws.Literal
plain_literal l = record { column = l.column; sign = l.sign }

abbrev pub plain_choice : Option Literal → Option laws.Literal
plain_choice None = None
plain_choice (Some l) = Some (plain_literal l)

-- to factor rows, or to join the two forms made last, the first of which stands under the literal
pub data PlainTask : Type 0 where
  factor_rows : List (List (Option Bool)) → PlainTask
  join_under : Form → PlainTask

abbrev pub plain_task : List Form → Task → PlainTask
plain_task forms (Factor rows) = factor_rows rows.items
plain_task forms (Join l) = join_under (form_of forms l)

-- the last first
abbrev pub turned : {X : Type 0} → List X → List X
turned [] = []
turned (x ∷ xs) = turned xs ++ x ∷ []

-- the forms when the tasks are done, the last form first
abbrev pub outcome : ℕ → List Form → List PlainTask → List Form → List Form
outcome width fs [] done = done
outcome width fs (factor_rows rows ∷ tasks) done = outcome width fs tasks (factored width fs rows ∷ done)
outcome width fs (join_under l ∷ tasks) [] = []
outcome width fs (join_under l ∷ tasks) (r ∷ []) = []
outcome width fs (join_under l ∷ tasks) (r ∷ q ∷ done) =
    outcome width fs tasks (disjunction width (conjunction width (l ∷ q ∷ []) ∷ r ∷ []) ∷ done)

-- rows have a sign for each fan-in, and forms were made
abbrev pub TaskFits : ℕ → ℕ → Task → Type 0
TaskFits count columns (Factor rows) = HaveColumns columns rows.items
TaskFits count columns (Join l) = l / 2 < count

-- The tasks lead to these forms.
pub record IsWorking (width : ℕ) (fs : List Form) (fanins : List ℕ) (now : Table) (tasks : List Task) (done : List ℕ)
    (goal : List Form) : Type 0 where
  pub fanins_below : AreBelow (length (made now)) fanins
  pub fanins_are : forms_at (made now) fanins ≡ fs
  pub done_below : AreBelow (length (made now)) done
  pub fit : AllByRecursion (TaskFits (length (made now)) (length fanins)) tasks
  pub same : outcome width fs (turned (map (plain_task (made now)) tasks)) (turned (forms_at (made now) done)) ≡ goal

-- how many columns of a row have a sign
abbrev pub sign_count : List (Option Bool) → ℕ
sign_count [] = 0
sign_count (Some b ∷ row) = 1 + sign_count row
sign_count (None ∷ row) = sign_count row

abbrev pub signs_of_rows : List (List (Option Bool)) → ℕ
signs_of_rows [] = 0
signs_of_rows (row ∷ rows) = sign_count row + signs_of_rows rows

abbrev pub weight : Task → ℕ
weight (Factor rows) = 1 + 2 * signs_of_rows rows.items
weight (Join l) = 1

abbrev pub weights : List Task → ℕ
weights [] = 0
weights (t ∷ tasks) = weight t + weights tasks

-- the task is done: the tasks lead to the same forms, and less is left to do
pub record DoesTask (of : Fanins) (old new : Table) (before after : Work) (task : Task) : Type 0 where
  pub working : (fs goal : List Form) → IsWorking of.maker.now.width fs of.forms.now old
      (before.tasks.items ++ task ∷ []) before.done.items goal
      → IsWorking of.maker.now.width fs of.forms.now new after.tasks.items after.done.items goal
  pub less : weights after.tasks.items < weights before.tasks.items + weight task
  pub more : HasMore (made old) (made new)

-- two forms are there, which can be joined under a literal
pub record CanJoin (table : Table) (l : ℕ) (done : List ℕ) : Type 0 where
  pub two : 2 ≤ length done
  pub literal : l / 2 < length (made table)
  pub below : AreBelow (length (made table)) done

-- they are joined, whatever the fan-ins
pub record Joins (width : ℕ) (old new : Table) (before after : Work) (literal : ℕ) : Type 0 where
  pub working : (fanins : List ℕ) (fs goal : List Form)
      → IsWorking width fs fanins old (before.tasks.items ++ Join literal ∷ []) before.done.items goal
      → IsWorking width fs fanins new after.tasks.items after.done.items goal
  pub same : weights after.tasks.items ≡ weights before.tasks.items
  pub more : HasMore (made old) (made new)
