-- Drawn marks are in range.
use Rattle.std.proofs.Common.{zero, suc, ◌-◌, ◌^◌, ◌<◌, ◌≤◌, ◌≡◌, List, [], ◌∷◌, Option, Some, None, option_map, subst, arith}
use Rattle.std.specs.Prelude.{All}
use Rattle.std.proofs.lemmas.Option.{same_Some}
use Rattle.lw_laws.specs.Marks.{Mark as PlainMark}
use Rattle.lw_cost.specs.declared.mark.Mark.{Mark}
use Rattle.lw_cost.specs.Values.{plain_mark, AreInRange}
use Rattle.lw_label.specs.Delays.{most_time}
use Rattle.lw_test_matches.specs.Drawing.{IsInRange}

abbrev IsLow : PlainMark → Type 0
IsLow k = (k.cost ≤ most_time) × (k.height < 2 ^ 32 - 1)

at_place : (mark : Option Mark) (k : PlainMark) → IsInRange mark → option_map plain_mark mark ≡ Some k → IsLow k
at_place None k is e = cc
at_place (Some m) k is e = subst IsLow (same_Some (plain_mark m) k e) is

pub in_range : (marks : List (Option Mark)) → All IsInRange marks → AreInRange most_time marks
in_range [] a c k e = cc
in_range (m ∷ marks) a zero k e = at_place m k (a 0 m (omega arith)) e
in_range (m ∷ marks) a (suc c) k e = in_range marks (λ i d lt. a (suc i) d (omega arith)) c k e
