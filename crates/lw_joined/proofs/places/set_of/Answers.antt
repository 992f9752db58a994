use Rattle.std.proofs.Common.{◌∙◌}
use Rattle.std.proofs.lemmas.List.{get_or_default}
use Rattle.lw_joined.proofs.Placing.{keys_more}
use Rattle.lw_joined.proofs.places.set_of.Goals as goal

pub loop-name-preserved : goal.loop-name-preserved
loop-name-preserved c =
    let key = c.in_ok-from_slice.field-0 in
    let here = c.in_ok-from_slice.ensures ∙ (c.as_bytes.ensures.bytes ∙ (c.name-item.is ∙ get_or_default c.args.names.now c.loop-name.name-index c.name-item.result key c.loop-name-test.true)) in
    keys_more c.args.names.now c.loop-name.set.keys c.insert.new.self.keys c.loop-name.name-index key c.requires c.loop-name-test.true here c.loop-name.invariant c.in_ok-insert.ensures.keys
