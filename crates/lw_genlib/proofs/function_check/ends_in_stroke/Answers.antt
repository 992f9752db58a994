use Rattle.std.proofs.Common.{arith}
use Rattle.lw_genlib.proofs.Strokes.{stroke_last}
use Rattle.lw_genlib.proofs.function_check.ends_in_stroke.Goals as goal

pub returns-in-len1-up : goal.returns-in-len1-up
returns-in-len1-up c = stroke_last c.args.name.now (omega arith)
