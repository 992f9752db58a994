-- The plain values that marks and matches stand for.
use Rattle.std.specs.Prelude.{ℕ, ◌-◌, ◌^◌, ◌<◌, ◌≤◌, ◌≡◌, List, Option, Some, None, option_map, slice_index_or}
use Rattle.lw_laws.specs.Marks.{Mark as PlainMark, Marks}
use Rattle.lw_laws.specs.Extracts.{Match as PlainMatch}
use Rattle.lw_cost.specs.declared.mark.Mark.{Mark}
use Rattle.lw_cost.specs.declared.mark.Match.{Match}
use Rattle.lw_pool.specs.Numbers.{numbers}

abbrev pub plain_mark : Mark → PlainMark
plain_mark k = record { cost = k.cost; height = k.height }

-- the marks that a list has by class numbers, and none past its end
abbrev pub marks_in : List (Option Mark) → Marks
marks_in ks c = option_map plain_mark (slice_index_or ks c None)

-- no cost above the cap, and heights that can rise by one
abbrev pub AreInRange : ℕ → List (Option Mark) → Type 0
AreInRange cap ks =
    (c : ℕ) (k : PlainMark) → marks_in ks c ≡ Some k → (k.cost ≤ cap) × (k.height < 2 ^ 32 - 1)

abbrev pub plain_match : Match → PlainMatch
plain_match m = record { pattern = m.pat.0; pins = numbers m.pins }
