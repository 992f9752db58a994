-- A match has one class for each pin of its cell.
use Rattle.std.proofs.Common.{ℕ, ◌<◌, ◌≡◌, ◌↔◌, List, length, subst}
use Rattle.lw_laws.specs.Graphs.{Graph}
use Rattle.lw_laws.specs.Trees.{HasLeaf}
use Rattle.lw_laws.specs.Covers.{Pattern}
use Rattle.lw_laws.specs.Costs.{Cost}
use Rattle.lw_laws.specs.Extracts.{Match, IsMatchOf}
use Rattle.lw_cost.specs.Least.{AreOfCells}
use Rattle.lw_cost.specs.Coming.{IsPatternMatch}
use Rattle.lw_cost.proofs.PinCounts.{pattern_pins}
use Rattle.lw_laws.proofs.Extracts.{listed_at}

pub of_cell : (g : Graph) (cost : Cost) (pats : List Pattern) (c : ℕ) (m : Match) → AreOfCells cost.pin_counts pats → IsPatternMatch g pats c m → (p : Pattern) × IsMatchOf g cost pats c m p
of_cell g cost pats c m of i = (
  i.pattern,
  record {
    listed = i.listed;
    pins = pattern_pins cost.pin_counts i.pattern (length m.pins) (of i.pattern (listed_at pats m.pattern i.pattern i.listed)) i.pins;
    stands = i.stands;
  },
)

pub of_pattern : (g : Graph) (cost : Cost) (pats : List Pattern) (c : ℕ) (m : Match) → AreOfCells cost.pin_counts pats → ((p : Pattern) × IsMatchOf g cost pats c m p) → IsPatternMatch g pats c m
of_pattern g cost pats c m of (p, i) =
    let cell = of p (listed_at pats m.pattern p i.listed) in
    let has = cell.has in
    let also = i.pins in
    let same : cell.pin_count ≡ length m.pins = cc in
    record {
      pattern = p;
      listed = i.listed;
      pins = subst (λ n. (k : ℕ) → HasLeaf p.tree k ↔ (k < n)) same cell.pins;
      stands = i.stands;
    }
