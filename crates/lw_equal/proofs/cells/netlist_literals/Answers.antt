use Rattle.std.proofs.Common.{◌+◌, ◌∙◌, ◌≡◌, ap, arith, length, map, refl, subst, sym}
use Rattle.std.proofs.lemmas.List.{length_push}
use Rattle.std.proofs.lemmas.Option.{slice_get_read}
use Rattle.lw_genlib.specs.Tables.{truth_of_cells}
use Rattle.lw_netlist.specs.Filling.{gate_value}
use Rattle.lw_netlist.specs.Netlists.{plain, plain_gate}
use Rattle.lw_sweep.proofs.Growing.{extended_both}
use Rattle.lw_joint.specs.Joint.{Computes}
use Rattle.lw_equal.specs.Cells.{HaveNetlistValues}
use Rattle.lw_equal.proofs.Netlists.{gate_has_value}
use Rattle.lw_equal.proofs.cells.netlist_literals.Goals as goal

pub gates-preserved : goal.gates-preserved
gates-preserved c =
    let cells = c.args.lib.now in
    let lits = c.gates.literals.items in
    let gates = c.gates-gate-items.result.now in
    let i = c.gates.gate-index in
    let item = c.gate-item.result in
    let is = rw c.in-Some.is at c.in_ok-literal.ensures.literal in
    let at = slice_get_read gates _ i item refl c.gates-test.true c.gate-item.is in
    let size = c.gates.invariant.size in
    let more = length_push lits c.in-Some.literal in
    let long : length c.push.new.self.items ≡ c.args.netlist.now.inputs + (i + 1) = ap length c.in_ok-push.ensures.items ∙ omega arith in
    record {
      grown = extended_both c.args.sweep.now c.gates.sweep c.gate_literal.new.sweep c.gates.invariant.grown c.gate_literal.ensures.grows;
      size = long;
      have = subst (HaveNetlistValues c.gate_literal.new.sweep (truth_of_cells cells) (plain c.args.netlist.now) c.args.inputs.now) (sym c.in_ok-push.ensures.items)
          (gate_has_value c.gates.sweep c.gate_literal.new.sweep cells (plain c.args.netlist.now) gates c.args.inputs.now lits i item c.in-Some.literal c.gate_literal.ensures.grows (sym (ap (map plain_gate) c.gates-gate-items.ensures.gates)) size at c.gates.invariant.have
          (subst (λ ls. Computes c.gate_literal.new.sweep ls (λ values. gate_value cells values item) c.in-Some.literal) c.deref.ensures.value is));
    }
