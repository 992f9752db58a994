use Rattle.std.proofs.Common.{◌≡◌, drop, None, subst}
use Rattle.lw_verilog.specs.declared.place.Task.{Task}
use Rattle.lw_verilog.specs.Readings.{rule_fault}
use Rattle.lw_verilog.proofs.Unbroken.{declare-new, instance-given}
use Rattle.lw_verilog.proofs.contents.Contents.act.Goals as goal

pub declare-requires-clause-new : goal.declare-requires-clause-new
declare-requires-clause-new c =
    let s = c.args.self.now in
    declare-new c.args.lib.now s.names (drop 1 s.header) s.declared c.args.name.now
    (subst (λ (t : Task). rule_fault c.args.lib.now s.names (drop 1 s.header) s.declared t c.args.name.now ≡ None) c.in-Declare.is c.requires.rule)

pub end-requires : goal.end-requires
end-requires c =
    let s = c.args.self.now in
    λ e. instance-given c.args.lib.now s.names (drop 1 s.header) s.declared c.args.name.now
    (subst (λ (t : Task). rule_fault c.args.lib.now s.names (drop 1 s.header) s.declared t c.args.name.now ≡ None) e c.requires.rule)
