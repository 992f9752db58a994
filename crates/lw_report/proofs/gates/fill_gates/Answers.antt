use Rattle.std.proofs.Common.{All, ◌≡◌, ◌≢◌, ◌+◌, ◌<◌, ◌∙◌, List, false, length, refl, sym, ap, subst, arith, get_or-set_other}
use Rattle.std.proofs.lemmas.List.{length-map, length-set, map-set}
use Rattle.std.proofs.lemmas.Option.{slice_get_within, slice_get_read}
use Rattle.std.proofs.lemmas.List.Elements.{All-weaker}
use Rattle.lw_facts.proofs.Lists.{all_at}
use Rattle.lw_netlist.specs.Plain.{HasCell}
use Rattle.lw_pool.specs.declared.id.NetId.{NetId}
use Rattle.lw_genlib.specs.Cells.{cell_value}
use Rattle.lw_genlib.specs.Tables.{truth_in}
use Rattle.lw_genlib.specs.Words.{bit}
use Rattle.lw_netlist.specs.Filling.{gate_value}
use Rattle.lw_netlist.proofs.Filling.{IsFilled, IsFilled-more}
use Rattle.lw_netlist.proofs.NetValues.{values_are_local}
use Rattle.lw_report.specs.Blocks.{bits_at}
use Rattle.lw_report.proofs.gates.fill_gates.Goals as goal
use Rattle.lw_pool.specs.Numbers.{values_at}

pub loop-j-init : goal.loop-j-init
loop-j-init c = record {
  inputs = λ i below. refl;
  filled = λ k lt. record { each = λ j gate below at. absurd (omega arith) };
  length = refl;
}

pub cell_of-requires : goal.cell_of-requires
cell_of-requires c = all_at (HasCell c.args.lib.now) c.args.gates.now c.loop-j.j c.index-gates-j.result c.requires.over (slice_get_read c.args.gates.now (length c.args.gates.now) c.loop-j.j c.index-gates-j.result refl c.loop-j-test.true c.index-gates-j.is)

pub cell_word-requires-clause-one_each : goal.cell_word-requires-clause-one_each
cell_word-requires-clause-one_each c = ap (λ (ps : List NetId). length ps) c.as_slice.ensures ∙ c.cell_of.ensures.pins

pub cell_word-requires-clause-known : goal.cell_word-requires-clause-known
cell_word-requires-clause-known c =
    let gates = c.args.gates.now in
    let first = c.args.first in
    let j = c.loop-j.j in
    let nets = c.loop-j.nets in
    let gate = c.index-gates-j.result in
    let inside : first + j < length nets = omega (arith, c.loop-j.invariant.length, c.loop-j-test.true, c.requires.one_each) in
    let at = slice_get_read gates (length gates) j gate refl c.loop-j-test.true c.index-gates-j.is in
    let known : All (λ (net : NetId). net.0 < length nets) gate.pins = All-weaker (λ (net : NetId). net.0 < first + j) (λ (net : NetId). net.0 < length nets) (λ net lt. omega (arith, lt, inside)) gate.pins (c.requires.gates j gate at).before in
    subst (All (λ (net : NetId). net.0 < length nets)) (sym c.as_slice.ensures) known

pub bounds-nets-first : goal.bounds-nets-first
bounds-nets-first c = omega (arith, c.loop-j.invariant.length, c.loop-j-test.true, c.requires.one_each)

pub loop-j-preserved : goal.loop-j-preserved
loop-j-preserved c =
    let cells = c.args.lib.now in
    let gates = c.args.gates.now in
    let first = c.args.first in
    let j = c.loop-j.j in
    let nets = c.loop-j.nets in
    let word = c.cell_word.result in
    let gate = c.index-gates-j.result in
    let inside : first + j < length nets = omega (arith, c.loop-j.invariant.length, c.loop-j-test.true, c.requires.one_each) in
    let at = slice_get_read gates (length gates) j gate refl c.loop-j-test.true c.index-gates-j.is in
    record {
      inputs = λ i below. let other : i ≢ first + j = omega arith in get_or-set_other nets (first + j) i word 0 other ∙ c.loop-j.invariant.inputs i below;
      filled = λ k lt.
          let within : first + j < length (bits_at k nets) = omega (arith, inside, length-map nets (bit k)) in
          let value = subst (λ (ps : List NetId). bit k word ≡ cell_value c.cell_of.result.now (values_at (bits_at k nets) ps)) c.as_slice.ensures (c.cell_word.ensures k lt) ∙ ap (λ o. truth_in o (values_at (bits_at k nets) gate.pins)) (sym c.cell_of.ensures.cell) in
          subst (IsFilled false (gate_value cells) gates first (j + 1)) (sym (map-set (bit k) nets (first + j) word)) (IsFilled-more false (gate_value cells) gates first j (bits_at k nets) (bit k word) gate (values_are_local cells) c.requires.gates within at value (c.loop-j.invariant.filled k lt));
      length = length-set nets (first + j) word ∙ c.loop-j.invariant.length;
    }

pub returns : goal.returns
returns c = record {
  inputs = c.loop-j.invariant.inputs;
  values = λ k lt j gate at. let inside = slice_get_within c.args.gates.now j gate at in (c.loop-j.invariant.filled k lt).each j gate (omega (arith, inside, c.loop-j-test.false)) at;
}
