use Rattle.std.proofs.Common.{◌≡◌, [], take, drop}
use Rattle.lw_genlib.specs.Functions.{first_fault}
use Rattle.lw_genlib.specs.FunctionChecks.{check_of}
use Rattle.lw_genlib.proofs.check_tokens.pins_of.Given as goal

abbrev pub invariant-loop-place : goal.invariant-loop-place
invariant-loop-place l =
    (l.check ≡ check_of (take l.place l.tokens))
    × (first_fault (take l.place l.tokens) (drop l.place l.lines) (drop l.place l.tokens) ≡ first_fault [] l.lines l.tokens)
