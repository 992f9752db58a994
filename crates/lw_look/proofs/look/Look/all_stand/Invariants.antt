use Rattle.std.proofs.Common.{◌≡◌, ◌<◌, ℕ, Some, slice_get}
use Rattle.lw_extract.specs.declared.choosing.Chosen.{Chosen}
use Rattle.lw_extract.specs.Choosing.{chosen_classes}
use Rattle.lw_look.specs.Lists.{AreSeen, MayStand}
use Rattle.lw_look.proofs.look.Look.all_stand.Given as goal

abbrev pub invariant-loop-j : goal.invariant-loop-j
invariant-loop-j l = record {
  stand : (i : ℕ) (x : Chosen) → i < l.j → slice_get l.list i ≡ Some x → MayStand l.self (chosen_classes l.list) i x;
  seen : AreSeen l.self.graph.now (chosen_classes l.list) l.j l.seen;
}
