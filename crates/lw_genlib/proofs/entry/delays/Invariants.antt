use Rattle.std.proofs.Common.{◌≡◌, false, map, take}
use Rattle.std.specs.List.{list_any}
use Rattle.lw_genlib.specs.Merging.{is_missing, own_or, delay_by}
use Rattle.lw_genlib.proofs.entry.delays.Given as goal

abbrev pub invariant-loop-own : goal.invariant-loop-own
invariant-loop-own l =
    (l.delays.items ≡ map (delay_by l.every) (take l.own-index l.named))
    × (list_any (λ own. is_missing (own_or l.every own)) (take l.own-index l.named) ≡ false)
