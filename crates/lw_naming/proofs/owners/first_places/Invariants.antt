use Rattle.std.proofs.Common.{◌≡◌, ◌==◌, ℕ, ◌<◌, ◌≤◌, None, length, drop, get_or}
use Rattle.std.specs.List.{position_from}
use Rattle.lw_pool.specs.declared.id.ClassId.{ClassId}
use Rattle.lw_naming.proofs.owners.first_places.Given as goal

abbrev pub invariant-loop-place : goal.invariant-loop-place
invariant-loop-place l = record {
  within : l.place ≤ length l.roots;
  one_each : length l.firsts.items ≡ l.classes;
  are : (c : ℕ) → c < l.classes → get_or l.firsts.items c None ≡ position_from (λ (root : ClassId). root.0 == c) l.place (drop l.place l.roots);
}
