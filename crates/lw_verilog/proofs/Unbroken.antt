-- What a rule says that is not broken.
use Rattle.std.proofs.Common.{ℕ, ◌≡◌, Bool, true, false, cond, List, Option, Some, None, refl}
use Rattle.std.specs.Option.{option_or}
use Rattle.lw_genlib.specs.Cells.{CellParts}
use Rattle.lw_named_netlist.specs.Closing.{is_among}
use Rattle.lw_verilog.specs.declared.fault.VerilogKind.{VerilogKind}
use Rattle.lw_verilog.specs.declared.fault.VerilogKind.TheVariants as kind
use Rattle.lw_verilog.specs.declared.place.Task.TheVariants as task
use Rattle.lw_verilog.specs.Readings.{rule_fault, name_fault, missing_fault, cell_in}
use Rattle.lw_verilog.specs.Statements.{ties_in}

pub declare-new : (cells : List CellParts) (names ports declared : List (List ℕ)) (name : List ℕ) → rule_fault cells names ports declared task.Declare name ≡ None → is_among declared name ≡ false
unfolding rule_fault
declare-new cells names ports declared name e = by_test (name_fault name) (is_among declared name) e
  where
    by_test : (o : Option VerilogKind) (b : Bool) → option_or o (cond b (Some kind.Port) None) ≡ None → b ≡ false
    by_test None false f = refl
    by_test None true f = cc
    by_test (Some k) b f = cc

pub instance-given : (cells : List CellParts) (names ports declared : List (List ℕ)) (name : List ℕ) → rule_fault cells names ports declared task.Instance name ≡ None → missing_fault (cell_in cells names) (ties_in names) ≡ None
unfolding rule_fault
instance-given cells names ports declared name e = e
