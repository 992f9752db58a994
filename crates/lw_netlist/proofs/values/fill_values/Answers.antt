use Rattle.std.proofs.Common.{◌≡◌, ◌≢◌, ◌+◌, ◌∙◌, false, length, refl, sym, ap, subst, arith, get_or-set_other}
use Rattle.std.proofs.lemmas.List.{length-set}
use Rattle.std.proofs.lemmas.Option.{slice_get_within, slice_get_read}
use Rattle.lw_genlib.specs.Cells.{cell_value}
use Rattle.lw_genlib.specs.Tables.{truth_in}
use Rattle.lw_netlist.specs.Filling.{gate_value}
use Rattle.lw_netlist.proofs.Filling.{IsFilled-more}
use Rattle.lw_netlist.proofs.NetValues.{values_are_local}
use Rattle.lw_netlist.proofs.values.fill_values.Goals as goal
use Rattle.lw_pool.specs.Numbers.{values_at}

pub loop-j-preserved : goal.loop-j-preserved
loop-j-preserved c = record {
  inputs = λ i below. let other : i ≢ c.args.first + c.loop-j.j = omega arith in get_or-set_other c.loop-j.nets (c.args.first + c.loop-j.j) i c.value_of.result false other ∙ c.loop-j.invariant.inputs i below;
  filled = IsFilled-more false (gate_value c.args.lib.now) c.args.gates.now c.args.first c.loop-j.j c.loop-j.nets c.value_of.result c.index-gates-j.result (values_are_local c.args.lib.now) c.requires.gates (omega arith) (slice_get_read c.args.gates.now (length c.args.gates.now) c.loop-j.j c.index-gates-j.result refl (omega arith) c.index-gates-j.is) (subst (λ ps. c.value_of.result ≡ cell_value c.cell_of.result.now (values_at c.loop-j.nets ps)) c.as_slice.ensures c.value_of.ensures ∙ ap (λ o. truth_in o (values_at c.loop-j.nets c.index-gates-j.result.pins)) (sym c.cell_of.ensures.cell)) c.loop-j.invariant.filled;
  length = length-set c.loop-j.nets (c.args.first + c.loop-j.j) c.value_of.result ∙ c.loop-j.invariant.length;
}

pub returns-clause-values : goal.returns-clause-values
returns-clause-values c = λ j gate at. let inside = slice_get_within c.args.gates.now j gate at in c.loop-j.invariant.filled.each j gate (omega arith) at
