use Rattle.std.proofs.Common.{◌≡◌, map, take, slice_index_or}
use Rattle.lw_form.proofs.occurring.fanins_of.Given as goal
use Rattle.lw_pool.specs.Numbers.{net_number}

abbrev pub invariant-loop-net : goal.invariant-loop-net
invariant-loop-net l = l.fanins.items ≡ map (λ net. slice_index_or l.sops net 0) (map net_number (take l.net-index l.nets))
