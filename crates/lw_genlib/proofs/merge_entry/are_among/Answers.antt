use Rattle.std.specs.List.{zip}
use Rattle.lw_genlib.specs.Merging.{is_pin_among}
use Rattle.std.proofs.Common.{subst, ◌≤◌}
use Rattle.lw_genlib.proofs.Zips.{all-end}
use Rattle.lw_genlib.proofs.merge_entry.are_among.Goals as goal

pub returns : goal.returns
returns c = all-end (is_pin_among (zip c.args.pins.now c.args.delays.now)) c.args.names.now c.args.others.now c.loop-place.place (subst (λ n. n ≤ c.loop-place.place) (c.min-place-end.ensures) c.loop-place-test.false) c.loop-place.invariant
