use Rattle.std.proofs.Common.{length, sym, arith}
use Rattle.std.proofs.lemmas.List.{length-take-le}
use Rattle.lw_named_netlist.proofs.Spelling.{spelled-first}
use Rattle.lw_named_netlist.proofs.spelled.front.Goals as goal

pub slice_bounds-result-end : goal.slice_bounds-result-end
slice_bounds-result-end c = sym (length-take-le c.args.out c.args.bytes.now (spelled-first c.args.out (length c.args.bytes.now) c.args.ends.now c.requires.spelled))

pub returns-clause-some : goal.returns-clause-some
returns-clause-some c = omega (arith, c.requires.some, length-take-le c.args.out c.args.bytes.now (spelled-first c.args.out (length c.args.bytes.now) c.args.ends.now c.requires.spelled))
