use Rattle.std.proofs.Common.{◌≡◌, ◌<◌, ◌+◌, true, length, get_or, arith}
use Rattle.lw_words.specs.Lines.{is_blank}
use Rattle.lw_words.proofs.Runs.{over-run, over-blank}
use Rattle.lw_words.proofs.reading.over_plain.Goals as goal

pub returns-then-at-bytes-clause-plain : goal.returns-then-at-bytes-clause-plain
returns-then-at-bytes-clause-plain c =
    let run = c.in_ok-at.ensures in
    (over-run _ _ c.over_ink.new.gathering _ _ c.in_ok-at.field-0 c.loop-at.invariant run.within run.plain run.gathered).plain

pub returns-then-at-bytes-clause-gathered : goal.returns-then-at-bytes-clause-gathered
returns-then-at-bytes-clause-gathered c =
    let run = c.in_ok-at.ensures in
    (over-run _ _ c.over_ink.new.gathering _ _ c.in_ok-at.field-0 c.loop-at.invariant run.within run.plain run.gathered).gathered

pub loop-at-preserved : goal.loop-at-preserved
loop-at-preserved c =
    let bytes = c.args.bytes.now in
    let at = c.loop-at.at + c.in_ok-at.field-0 in
    let run = c.in_ok-at.ensures in
    let o = over-run _ _ c.over_ink.new.gathering _ _ c.in_ok-at.field-0 c.loop-at.invariant run.within run.plain run.gathered in
    let more : at < length bytes = omega (arith, o.within) in
    let is : is_blank (get_or bytes at 0) ≡ true = cc in
    over-blank _ _ c.end_word.new.self _ _ o more is c.in_ok-end_word.ensures
