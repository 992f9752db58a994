use Rattle.lw_genlib.specs.Merging.{is_same_pin}
use Rattle.std.proofs.Common.{subst, ◌≤◌}
use Rattle.lw_genlib.proofs.Zips.{any-end}
use Rattle.lw_genlib.proofs.merge_entry.is_pin_among.Goals as goal

pub returns : goal.returns
returns c = any-end (is_same_pin (c.args.name.now, c.args.delay)) c.args.pins.now c.args.delays.now c.loop-place.place (subst (λ n. n ≤ c.loop-place.place) (c.min-place-end.ensures) c.loop-place-test.false) c.loop-place.invariant
