use Rattle.std.proofs.Common.{length}
use Rattle.lw_sweep.proofs.Growing.{extended_both}
use Rattle.lw_equal.specs.Sides.{inputs_of}
use Rattle.lw_equal.proofs.Laying.{begins_later, laid_later}
use Rattle.lw_equal.proofs.Paired.{all_left}
use Rattle.lw_equal.proofs.comparing.solve_in.Goals as goal

pub returns-in_default : goal.returns-in_default
returns-in_default c = all_left c.args.one.now.side.now c.args.other.now c.args.pairs.now c.in_ok-all_open.field-0 c.requires.pairs c.requires.some c.in_ok-all_open.ensures

pub lay_more-requires-clause-inputs : goal.lay_more-requires-clause-inputs
lay_more-requires-clause-inputs c = begins_later c.args.sweep.now c.lay.new.sweep (length (inputs_of c.args.one.now.side.now.logic)) c.lay.ensures.grows c.requires.inputs

pub lay-requires-2-clause-inputs : goal.lay-requires-2-clause-inputs
lay-requires-2-clause-inputs c =
    let grows = extended_both c.args.sweep.now c.lay.new.sweep c.lay_more.new.sweep c.lay.ensures.grows c.lay_more.ensures in
    begins_later c.args.sweep.now c.lay_more.new.sweep (length (inputs_of c.args.one.now.side.now.logic)) grows c.requires.inputs

pub returns-in_default-2 : goal.returns-in_default-2
returns-in_default-2 c = all_left c.args.one.now.side.now c.args.other.now c.args.pairs.now c.in_ok-all_open-2.field-0 c.requires.pairs c.requires.some c.in_ok-all_open-2.ensures

pub decide_all-requires-clause-case : goal.decide_all-requires-clause-case
decide_all-requires-clause-case c =
    let one = c.args.one.now.side.now in
    let names = inputs_of one.logic in
    let first = c.lay.new.sweep in
    let more = c.lay_more.new.sweep in
    let last = c.lay-2.new.sweep in
    let later = extended_both first more last c.lay_more.ensures c.lay-2.ensures.grows in
    let grows = extended_both c.args.sweep.now first last c.lay.ensures.grows later in
    let left = rw c.in-Some.is at c.in_ok-left.ensures.laid in
    let right = rw c.in-Some-2.is at c.in_ok-right.ensures.laid in
    record {
      looked = record { known = c.requires.known; other = c.requires.other; places = right.places };
      begins = begins_later c.args.sweep.now last (length names) grows c.requires.inputs;
      left = laid_later first last names one c.in-Some.left later left;
      right = right;
    }
