use Rattle.std.proofs.Common.{take, get_or, max, ap, sym, ◌∙◌}
use Rattle.std.proofs.lemmas.List.{take_more}
use Rattle.lw_map.specs.Trading.{latest_of, micros}
use Rattle.lw_map.proofs.Deadlines.{latest_more}
use Rattle.lw_map.proofs.trading.latest_of.Goals as goal

pub loop-time-preserved : goal.loop-time-preserved
loop-time-preserved c =
    c.max-latest.ensures
    ∙ (ap (λ m. max m (get_or c.args.times.now c.loop-time.time-index (record { 0 = 0 })).0) c.loop-time.invariant
    ∙ (sym (latest_more c.args.deadline.0 (take c.loop-time.time-index c.args.times.now) (get_or c.args.times.now c.loop-time.time-index (record { 0 = 0 }))) ∙ ap (λ us. latest_of c.args.deadline.0 (micros us)) (sym (take_more c.args.times.now c.loop-time.time-index (record { 0 = 0 }) c.loop-time-test.true))))
