-- Nets by their numbers.
use Rattle.std.proofs.Common.{ℕ, ◌≡◌, ap}
use Rattle.lw_pool.specs.declared.id.NetId.{NetId}

abbrev pub net_of : ℕ → NetId
net_of n = record { 0 = n }

pub same_net : (x y : NetId) → x.0 ≡ y.0 → x ≡ y
same_net x y e = ap net_of e
