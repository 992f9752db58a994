use Rattle.std.proofs.Common.{◌<◌, ◌^◌, ◌≡◌, length, take, length-take, sym, ap, ◌∙◌, subst, arith}
use Rattle.std.proofs.lemmas.List.{take_all}
use Rattle.lw_genlib.specs.FunctionChecks.{HasRoom, fault_at, check_of}
use Rattle.lw_genlib.specs.declared.function_check.FunctionCheck.{FunctionCheck}
use Rattle.lw_genlib.proofs.CheckLemmas.{fault_same, has_room, found, goes_on, check_next, no_fault}
use Rattle.lw_genlib.proofs.check_tokens.pins_of.Goals as goal

pub returns-in-Some : goal.returns-in-Some
returns-in-Some c =
    found c.args.lines.now c.args.tokens.now c.loop-place.place c.index-tokens-place.result c.loop-place-test.true c.requires.paired c.index-tokens-place.is c.in-Some.kind
    (c.in-Some.ensures ∙ (ap (λ (s : FunctionCheck). fault_at s c.index-tokens-place.result) c.loop-place.invariant.0 ∙ fault_same (take c.loop-place.place c.args.tokens.now) c.index-tokens-place.result)) c.loop-place.invariant.1

pub add-requires : goal.add-requires
add-requires c =
    let short : length (take c.loop-place.place c.args.tokens.now) < 2 ^ 32 = omega (arith, length-take c.loop-place.place c.args.tokens.now, c.requires.short) in
    subst HasRoom (sym c.loop-place.invariant.0) (has_room (take c.loop-place.place c.args.tokens.now) short)

pub loop-place-preserved : goal.loop-place-preserved
loop-place-preserved c = (
  check_next c.args.lines.now c.args.tokens.now c.loop-place.place c.index-tokens-place.result c.loop-place-test.true c.requires.paired c.index-tokens-place.is c.loop-place.check c.add.new.check c.loop-place.invariant.0 c.in-Ok.ensures,
  goes_on c.args.lines.now c.args.tokens.now c.loop-place.place c.index-tokens-place.result c.loop-place-test.true c.requires.paired c.index-tokens-place.is
      (c.in_default.ensures ∙ (ap (λ (s : FunctionCheck). fault_at s c.index-tokens-place.result) c.loop-place.invariant.0 ∙ fault_same (take c.loop-place.place c.args.tokens.now) c.index-tokens-place.result)) c.loop-place.invariant.1,
)

pub returns : goal.returns
returns c =
    let whole : take c.loop-place.place c.args.tokens.now ≡ c.args.tokens.now = take_all c.loop-place.place c.args.tokens.now c.loop-place-test.false in
    (ap (λ (s : FunctionCheck). s.pins) (c.loop-place.invariant.0 ∙ ap check_of whole), no_fault c.args.lines.now c.args.tokens.now c.loop-place.place c.loop-place-test.false c.loop-place.invariant.1)
