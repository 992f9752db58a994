use Rattle.lw_named_netlist.proofs.Spelling.{copied-more}
use Rattle.lw_verilog.proofs.contents.append_header.Goals as goal

pub loop-place-preserved : goal.loop-place-preserved
loop-place-preserved c = copied-more c.args.header.now c.args.more.now c.loop-place.header c.push.new.self c.loop-place.place c.get.result.now c.get.ensures.name c.loop-place.invariant c.in_ok-push.ensures.ok
