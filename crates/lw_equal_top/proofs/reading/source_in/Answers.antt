use Rattle.std.proofs.Common.{◌∙◌, Bool, subst, sym}
use Rattle.lw_files.specs.Reading.{Comes}
use Rattle.lw_equal_top.specs.Sources.{HasEither}
use Rattle.lw_equal_top.proofs.reading.source_in.Goals as goal

pub returns-then-branch-clause-comes : goal.returns-then-branch-clause-comes
returns-then-branch-clause-comes c = subst (λ (b : Bool). Comes (λ source. source) (HasEither b c.args.library.now c.args.bytes.now) c.netlist_in.result) (sym c.if-branch.true ∙ c.in_ok-is_netlist.ensures) c.netlist_in.ensures.comes

pub returns-clause-comes : goal.returns-clause-comes
returns-clause-comes c = subst (λ (b : Bool). Comes (λ source. source) (HasEither b c.args.library.now c.args.bytes.now) c.network_in.result) (sym c.if-branch.false ∙ c.in_ok-is_netlist.ensures) c.network_in.ensures.comes
