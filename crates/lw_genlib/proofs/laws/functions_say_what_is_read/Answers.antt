use Rattle.lw_genlib.proofs.Fronts.{function_says}
use Rattle.lw_genlib.proofs.laws.functions_say_what_is_read.Goals as goal

pub returns : goal.returns
returns c = function_says
