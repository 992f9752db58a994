use Rattle.std.proofs.Common.{ap}
use Rattle.lw_verilog.specs.Readings.{is_word}
use Rattle.lw_verilog.proofs.NamedMoves.{word_named}
use Rattle.lw_verilog.proofs.contents.Contents.take.Goals as goal

pub fault-requires : goal.fault-requires
fault-requires c = λ is. c.requires (word_named c.args.self.now.place c.args.kind c.in-Some.step c.in-Some.ensures.step (ap is_word is))

pub act-requires-clause-some : goal.act-requires-clause-some
act-requires-clause-some c = λ word. c.requires (word_named c.args.self.now.place c.args.kind c.in-Some.step c.in-Some.ensures.step word)
