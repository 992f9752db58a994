-- What a query refutes.
use Rattle.std.specs.Prelude.{ℕ, ◌≡◌, Bool, true, ⊤, Option, Some, None, List, All, Contains}
use Rattle.lw_aig.specs.declared.gate.Gate.{Gate}
use Rattle.lw_aig.specs.declared.literal.Literal.{Literal}
use Rattle.lw_aig.specs.Aigs.{AreEqual, AreNodeValues}
use Rattle.lw_aig.specs.Literals.{complement, literal_value}
use Rattle.lw_search.specs.declared.found.Found.{Found}
use Rattle.lw_search.specs.declared.found.Found.TheVariants.{Equal, Apart, Open}

-- No values of the inputs make all of these literals true.
pub record AreNeverTrue (gates : List Gate) (roots : List Literal) : Type 0 where
  pub never : (v : ℕ → Bool) → AreNodeValues gates v → All (λ l. literal_value v l ≡ true) roots → ⊥

-- each literal is the complement of a root
abbrev pub ArePartOfComplements : List Literal → List Literal → Type 0
ArePartOfComplements roots clause = All (λ l. Contains roots (complement l)) clause

-- Where the search of an assignment under which all roots are true ended as `Equal`, there is none.
abbrev pub Refutes : List Gate → List Literal → Found → Type 0
Refutes gates roots Equal = AreNeverTrue gates roots
Refutes gates roots Apart = ⊤
Refutes gates roots Open = ⊤

-- the same, where the search may go on
abbrev pub MayRefute : List Gate → List Literal → Option Found → Type 0
MayRefute gates roots None = ⊤
MayRefute gates roots (Some found) = Refutes gates roots found

-- where a query ended as `Equal`, both literals have one value
abbrev pub Tells : List Gate → Literal → Literal → Found → Type 0
Tells gates left right Equal = AreEqual gates left right
Tells gates left right Apart = ⊤
Tells gates left right Open = ⊤
