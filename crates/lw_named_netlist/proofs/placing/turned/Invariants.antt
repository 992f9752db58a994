use Rattle.std.proofs.Common.{◌≡◌, ◌+◌, ◌<◌, ℕ, length}
use Rattle.lw_named_netlist.specs.Numbered.{start_at}
use Rattle.lw_named_netlist.proofs.placing.turned.Given as goal

abbrev pub invariant-places : goal.invariant-places
invariant-places l = record {
  one_each : length l.turned.items ≡ l.signals;
  own : (s : ℕ) → s < l.inputs → start_at l.turned.items s ≡ s;
  gates : (j : ℕ) → j < l.k → start_at l.turned.items (l.inputs + start_at l.places j) ≡ l.inputs + j;
}
