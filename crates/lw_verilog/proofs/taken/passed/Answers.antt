use Rattle.std.proofs.Common.{◌≡◌, ◌+◌, ◌-◌, ◌++◌, map, ap, sym, ◌∙◌, arith}
use Rattle.lw_verilog.specs.Texts.{passed}
use Rattle.lw_verilog.proofs.PutParts.{passed-free, passed-over, passed-step}
use Rattle.lw_verilog.proofs.taken.passed.Goals as goal
use Rattle.lw_netlist.specs.Plain.{port_name}

pub returns-then-not-is_taken-clause-passed : goal.returns-then-not-is_taken-clause-passed
returns-then-not-is_taken-clause-passed c =
    let taken = c.args.all.now.names.now ++ map port_name c.args.all.now.outputs.now in
    omega (arith, c.loop-count.invariant.so_far, passed-free taken (c.args.most - c.loop-count.count) (c.args.number + c.loop-count.count) (sym c.is_taken.ensures.taken ∙ c.if-not-is_taken.true))

pub loop-count-preserved : goal.loop-count-preserved
loop-count-preserved c =
    let taken = c.args.all.now.names.now ++ map port_name c.args.all.now.outputs.now in
    record {
      stands = c.is_taken.ensures.stands;
      so_far = passed-step taken c.args.most c.args.number c.loop-count.count (passed taken c.args.most c.args.number) c.loop-count-test.true (sym c.is_taken.ensures.taken ∙ c.if-not-is_taken.false) c.loop-count.invariant.so_far;
    }

pub returns-clause-passed : goal.returns-clause-passed
returns-clause-passed c =
    let taken = c.args.all.now.names.now ++ map port_name c.args.all.now.outputs.now in
    let count = c.loop-count.count in
    let over : c.args.most - count ≡ 0 = omega (arith, c.loop-count-test.false) in
    let none : passed taken (c.args.most - count) (c.args.number + count) ≡ 0 = ap (λ m. passed taken m (c.args.number + count)) over ∙ passed-over taken (c.args.number + count) in
    omega (arith, c.loop-count.invariant.so_far, none, c.loop-count-test.false, c.loop-count.auto.count-end)
