use Rattle.lw_fixed.proofs.Texts.{shortest_is_text}
use Rattle.lw_fixed.proofs.laws.shortest_is_printed.Goals as goal

pub returns : goal.returns
returns c s is = shortest_is_text c.args.text.now c.args.value s is
