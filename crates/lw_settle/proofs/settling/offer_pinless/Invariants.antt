use Rattle.std.proofs.Common.{ℕ, ◌≡◌, [], length}
use Rattle.lw_laws.specs.Graphs.{Graph}
use Rattle.lw_settle.specs.Settling.{IsSettling, first_stage}
use Rattle.lw_settle.proofs.settling.offer_pinless.Given as goal

abbrev pub invariant-loop-place : goal.invariant-loop-place
invariant-loop-place t l = record {
  lists : l.store.lists ≡ l.initial.store.lists;
  settling : (g : Graph) (start : ℕ) → IsSettling (t.C.Cost.costs l.cost) l.initial.store.lists (first_stage g start) (length g.leaves) 0 [] l.initial.store.done l.marks l.initial.queue l.left → IsSettling (t.C.Cost.costs l.cost) l.store.lists (first_stage g start) (length g.leaves) l.place [] l.store.done l.marks l.queue l.left;
}
