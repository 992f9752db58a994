use Rattle.lw_lut_text.proofs.NamedApart.{named_apart}
use Rattle.lw_lut_text.proofs.laws.table_nets_are_named_apart.Goals as goal

pub returns : goal.returns
returns c = λ g most lists ports n least fit apart is kept few. named_apart g most lists ports n least fit apart is kept few
