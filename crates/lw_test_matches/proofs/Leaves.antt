-- Inputs that cost nothing have the least cost.
use Rattle.std.proofs.Common.{ℕ, ◌≡◌, List, [], arith}
use Rattle.lw_laws.specs.Costs.{Cost}
use Rattle.lw_laws.specs.Graphs.{Graph}
use Rattle.lw_laws.specs.Choices.HasCost.{by_wire}
use Rattle.lw_settle.specs.Settled.{HaveLeafCosts}
use Rattle.lw_settle.specs.Stores.{Stored}

pub zero_leaves : (g : Graph) (cost : Cost) (lists : List (List Stored)) → ((i : ℕ) → cost.leaf i ≡ 0) → HaveLeafCosts g cost lists
zero_leaves g cost lists none i c at = (by_wire at, λ e h. let z = none i in omega arith)
