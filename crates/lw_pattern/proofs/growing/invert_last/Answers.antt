use Rattle.std.proofs.Common.{map, ap, ◌∙◌, arith}
use Rattle.lw_laws.specs.Patterns.{inverted}
use Rattle.lw_pattern.proofs.Growth.{last_inverted}
use Rattle.lw_pattern.proofs.growing.invert_last.Goals as goal

pub returns : goal.returns
returns c = last_inverted c.args.stack.now.items _ _ c.invert.new.self c.index_mut.result.now (omega arith) (omega arith) (c.in_ok-invert.ensures ∙ ap (map inverted) c.index_mut.ensures.value)
