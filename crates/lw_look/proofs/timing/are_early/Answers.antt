use Rattle.std.proofs.Common.{◌<◌, length, get_or, refl, arith}
use Rattle.std.proofs.lemmas.Option.{slice_get_read, slice_get_within, slice_get-get_or}
use Rattle.lw_fixed.specs.declared.micro.Micro.{Micro}
use Rattle.lw_look.proofs.Early.{early_all, early_at, early_length, early_more}
use Rattle.lw_look.proofs.timing.are_early.Goals as goal

pub returns-then-outputs-times : goal.returns-then-outputs-times
returns-then-outputs-times c = (
  λ f. absurd (cc),
  λ early. absurd (omega (arith, c.if-outputs-times.true, early_length c.args.arrivals.now c.args.outputs.now c.args.times.now early)),
)

pub returns-then-arrivals-port : goal.returns-then-arrivals-port
returns-then-arrivals-port c =
    let outputs = c.args.outputs.now in
    let times = c.args.times.now in
    let k = c.loop-k.k in
    let d : Micro = record { 0 = 0 } in
    let port = c.index-outputs-k.result in
    let at = slice_get_read outputs (length outputs) k port refl c.loop-k-test.true c.index-outputs-k.is in
    let inside : k < length times = omega (arith, c.if-outputs-times.false, c.loop-k-test.true) in (
      λ f. absurd (cc),
      λ early. absurd (let low = early_at c.args.arrivals.now outputs times k port (get_or times k d) early at (slice_get-get_or times k d inside) in omega (arith, c.if-arrivals-port.true, low)),
    )

pub loop-k-preserved : goal.loop-k-preserved
loop-k-preserved c =
    let outputs = c.args.outputs.now in
    let times = c.args.times.now in
    let k = c.loop-k.k in
    let d : Micro = record { 0 = 0 } in
    let port = c.index-outputs-k.result in
    let at = slice_get_read outputs (length outputs) k port refl c.loop-k-test.true c.index-outputs-k.is in
    let inside : k < length times = omega (arith, c.if-outputs-times.false, c.loop-k-test.true) in
    early_more c.args.arrivals.now outputs times k port (get_or times k d) at (slice_get-get_or times k d inside) (omega (arith, c.if-arrivals-port.false)) c.loop-k.invariant

pub returns : goal.returns
returns c = (
  λ t. early_all c.args.arrivals.now c.args.outputs.now c.args.times.now (omega (arith, c.if-outputs-times.false)) (λ i port time at there. let inside = slice_get_within c.args.outputs.now i port at in c.loop-k.invariant i port time (omega (arith, inside, c.loop-k-test.false)) at there),
  λ early. refl,
)
