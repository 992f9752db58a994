use Rattle.std.proofs.Common.{subst}
use Rattle.lw_naming.specs.Naming.{HoldsAlso}
use Rattle.lw_naming.proofs.FreeNames.{first_frees}
use Rattle.lw_naming.proofs.free_names.FreeNames.new.Goals as goal

pub returns : goal.returns
returns c count =
    let ins = subst (HoldsAlso c.in_ok-taken.taken c.add_all.new.self) c.as_slice.ensures c.in_ok-add_all.ensures in
    let outs = subst (HoldsAlso c.add_all.new.self c.add_all-2.new.self) c.as_slice-2.ensures c.in_ok-add_all-2.ensures in
    first_frees c.in_ok-taken.taken c.add_all.new.self c.add_all-2.new.self c.args.inputs.now c.args.outputs.now count c.in_ok-taken.ensures ins outs
