-- Labels in hand, with the graph and the prices that they are for.
use Rattle.std.specs.Prelude.{ℕ, ◌<◌, ◌⊎◌, Option, length}
use Rattle.lw_laws.specs.Costs.{Cost}
use Rattle.lw_laws.specs.Extracts.{Match}
use Rattle.lw_laws.specs.Rounds.{labels_in}
use Rattle.lw_cost.specs.Least.{AreOfCells}
use Rattle.lw_check.specs.declared.labelling.Labelling.{Labelling}
use Rattle.lw_check.specs.declared.labelling.Trial.{Trial}
use Rattle.lw_check.specs.declared.trial.Unbounded.{Unbounded}
use Rattle.lw_check.specs.Failing.{IsMatchCost}
use Rattle.lw_check.specs.Least.{FindsUnbounded, IsByPattern, IsCostOf, IsLate, IsLeastAt, IsLow, IsLowMatch}
use Rattle.lw_check.specs.Least.{IsTableFor}

-- the patterns are of the cells that the costs are for
abbrev pub HasCells : {C : Type 0} → (C → Cost) → Labelling C → Type 0
HasCells costs l = AreOfCells (costs l.by.cost.now).pin_counts l.by.pats.now

-- the match is by a pattern of the list, with a class for each pin of its cell
abbrev pub HasPattern : {C : Type 0} → (C → Cost) → Labelling C → Match → Type 0
HasPattern costs l m = IsByPattern (costs l.by.cost.now).pin_counts l.by.pats.now m

-- what the match costs, or none where a pin has no label
abbrev pub IsCostBy : {C : Type 0} → (C → Cost) → Labelling C → Match → Option ℕ → Type 0
IsCostBy costs l m d = IsCostOf (costs l.by.cost.now) l.by.pats.now (labels_in l.labels.now) m d

-- the match has labelled pins and costs less than the label, or there is none
abbrev pub IsLowBy : {C : Type 0} → (C → Cost) → Labelling C → Option ℕ → Match → Type 0
IsLowBy costs l label m = IsLowMatch (costs l.by.cost.now) l.by.pats.now (labels_in l.labels.now) label m

-- an input of the class costs less than its label, or the class has none
abbrev pub IsLateIn : {C : Type 0} → (C → Cost) → Labelling C → ℕ → Type 0
IsLateIn costs l c = IsLate l.graph.now (costs l.by.cost.now) (labels_in l.labels.now) c

-- a match at the class with labelled pins costs less than its label, or the class has none
abbrev pub IsLowIn : {C : Type 0} → (C → Cost) → Labelling C → ℕ → Type 0
IsLowIn costs l c = IsLow l.graph.now (costs l.by.cost.now) l.by.pats.now (labels_in l.labels.now) c

-- the class fails: an input of it or a match at it costs too little
abbrev pub FailsIn : {C : Type 0} → (C → Cost) → Labelling C → ℕ → Type 0
FailsIn costs l c = IsLateIn costs l c ⊎ IsLowIn costs l c

-- the labels are a potential, or this is the first class that fails, and the least that it is given
abbrev pub FindsUnboundedIn : {C : Type 0} → (C → Cost) → Labelling C → Option Unbounded → Type 0
FindsUnboundedIn costs l found = FindsUnbounded l.graph.now (costs l.by.cost.now) l.by.pats.now l.labels.now found

-- Labels on trial.

-- the table bounds what matches cost under the labels
abbrev pub HasTable : {C : Type 0} → (C → Cost) → ℕ → Trial C → Type 0
HasTable costs most t = IsTableFor t.given.now.graph.now
    (costs t.given.now.by.cost.now) t.given.now.by.pats.now most t.bounds.now t.marks.now

-- so that the class, which is one of the graph, can be searched
pub record CanSearch {C : Type 0} (costs : C → Cost) (most : ℕ) (t : Trial C) (c : ℕ) : Type 0 where
  pub inside : c < length t.given.now.graph.now.pairs
  pub table : HasTable costs most t

-- a match at the class with labelled pins costs d
abbrev pub IsMatchCostIn : {C : Type 0} → (C → Cost) → Trial C → ℕ → ℕ → Type 0
IsMatchCostIn costs t c d = IsMatchCost t.given.now.graph.now (costs t.given.now.by.cost.now) t.given.now.by.pats.now
    (labels_in t.given.now.labels.now) c d

-- the least that a class is given, with the class, or none where it is given nothing
abbrev pub IsLeastIn : {C : Type 0} → (C → Cost) → Trial C → ℕ → Option Unbounded → Type 0
IsLeastIn costs t c found = IsLeastAt t.given.now.graph.now (costs t.given.now.by.cost.now) t.given.now.by.pats.now
    (labels_in t.given.now.labels.now) c found
