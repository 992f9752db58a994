use Rattle.std.proofs.Common.{Some, ap, sym, ◌∙◌}
use Rattle.lw_named_netlist.proofs.Spelling.{copied-more}
use Rattle.lw_verilog.proofs.contents.append.Goals as goal

pub loop-place-preserved : goal.loop-place-preserved
loop-place-preserved c = copied-more c.args.names.now c.args.more.now c.loop-place.names c.push.new.self c.loop-place.place c.in_ok-from_slice.field-0 (c.get.ensures.name ∙ ap (λ n. Some n) (sym c.in_ok-from_slice.ensures)) c.loop-place.invariant c.in_ok-push.ensures
