-- Rows of numbers that are renewed.
use Rattle.std.specs.Prelude.{ℕ, Bool, List}
use Rattle.lw_bounds.specs.declared.lowering.Plan.{Plan}
use Rattle.lw_bounds.specs.declared.renewing.Renewal.{Renewal}
use Rattle.lw_bounds.specs.Bounds.{reading_of, IsRowRenewed}
use Rattle.lw_bounds.specs.Numbers.{Reading}

-- what the numbers of sides are read from
abbrev pub reading_by : Renewal → Plan → List ℕ → Reading
reading_by renewal plan numbers =
    reading_of renewal.graph.now renewal.marks.now plan.parts.now renewal.starts.now numbers

-- the numbers of the class fell to what its pairs gave, or they were that and stayed
abbrev pub IsRenewedBy : Renewal → Plan → List ℕ → List ℕ → Bool → Type 0
IsRenewedBy renewal plan old new fell =
    IsRowRenewed renewal.graph.now (reading_by renewal plan old) plan.parts.now new renewal.class.0 fell
