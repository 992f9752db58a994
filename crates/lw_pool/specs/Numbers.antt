-- The numbers of classes and nets.
use Rattle.std.specs.Prelude.{ℕ, Bool, false, List, map, slice_index_or}
use Rattle.lw_pool.specs.declared.id.ClassId.{ClassId}
use Rattle.lw_pool.specs.declared.id.NetId.{NetId}

abbrev pub numbers : List ClassId → List ℕ
numbers classes = map (λ (c : ClassId). c.0) classes

-- how many signals a network has at most
abbrev pub most_signals : ℕ
most_signals = 262144

abbrev pub net_number : NetId → ℕ
net_number net = net.0

-- the values of some nets, at these values of all nets
abbrev pub values_at : List Bool → List NetId → List Bool
values_at values nets = map (λ net. slice_index_or values net false) (map net_number nets)
