use Rattle.lw_verilog.specs.Readings.{nothing_read, read}
use Rattle.lw_verilog.specs.Tokens.{tokens}
use Rattle.lw_verilog.proofs.OneMeaning.{comes-once}
use Rattle.lw_verilog.proofs.laws.texts_have_one_meaning.Goals as goal

pub returns : goal.returns
returns c = λ cells text a b p q na nb. comes-once cells (read cells nothing_read (tokens text)) a b p q na nb
