-- Literals that have the values of nets.
use Rattle.std.specs.Prelude.{ℕ, ◌<◌, ◌≡◌, Bool, false, ◌&&◌, ◌||◌, List, map, length, slice_index_or, All}
use Rattle.std.specs.List.{list_any}
use Rattle.lw_aig.specs.declared.gate.Gate.{Gate}
use Rattle.lw_aig.specs.declared.literal.Literal.{Literal}
use Rattle.lw_aig.specs.Aigs.{AreNodeValues, IsBelow}
use Rattle.lw_aig.specs.Literals.{literal_value}
use Rattle.lw_laws.specs.Networks.{AreValues, Network, row_value}
use Rattle.lw_pool.specs.declared.id.NetId.{NetId}
use Rattle.lw_pool.specs.Numbers.{values_at}
use Rattle.lw_net.specs.Signs.{asked, met_by}

-- these values of the nodes give literals the values of nets, in order
abbrev pub Carry : (ℕ → Bool) → List Literal → List Bool → Type 0
Carry v lits values =
    (k : ℕ) (d : Literal) → k < length lits → literal_value v (slice_index_or lits k d) ≡ slice_index_or values k false

-- The literal has the value that f gives, wherever others have the values of nets.
pub record Computes (gates : List Gate) (lits : List Literal) (f : List Bool → Bool) (l : Literal) : Type 0 where
  pub within : IsBelow (length gates) l
  pub always : (v : ℕ → Bool) (values : List Bool) → AreNodeValues gates v → Carry v lits values
      → literal_value v l ≡ f values

-- The literal is the conjunction of one and of a column with this sign.
pub record IsWithColumn (gates : List Gate) (before : Literal) (sign : ℕ) (column l : Literal) : Type 0 where
  pub within : IsBelow (length gates) l
  pub always : (v : ℕ → Bool) → AreNodeValues gates v → literal_value v l ≡
      (literal_value v before && met_by sign (literal_value v column))

-- The literal is the disjunction of two others.
pub record IsDisjunction (gates : List Gate) (a b l : Literal) : Type 0 where
  pub within : IsBelow (length gates) l
  pub always : (v : ℕ → Bool) → AreNodeValues gates v → literal_value v l ≡ (literal_value v a || literal_value v b)

-- whether a row holds
abbrev pub row_of : List NetId → List ℕ → List Bool → Bool
row_of fanins row values = row_value (values_at values fanins) (map asked row)

-- whether some row holds
abbrev pub sum_of : List NetId → List (List ℕ) → List Bool → Bool
sum_of fanins rows values = list_any (row_value (values_at values fanins)) (map (map asked) rows)

-- the literals have these values
abbrev pub AreInputs : (ℕ → Bool) → List Literal → (ℕ → Bool) → Type 0
AreInputs v inputs x = (i : ℕ) (d : Literal) → i < length inputs → literal_value v (slice_index_or inputs i d) ≡ x i

-- The literals have the values of the nets of a network, from the first net on, wherever those of its inputs have the
-- values of the inputs.
pub record HaveNetValues (gates : List Gate) (net : Network) (inputs lits : List Literal) : Type 0 where
  pub within : All (IsBelow (length gates)) lits
  pub always : (v x : ℕ → Bool) (values : List Bool) → AreNodeValues gates v → AreInputs v inputs x
      → AreValues net x values → Carry v lits values
