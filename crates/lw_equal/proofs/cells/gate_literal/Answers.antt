use Rattle.std.proofs.Common.{◌<◌, All, length, subst, sym, take}
use Rattle.std.proofs.lemmas.Option.{IfSome_then}
use Rattle.std.proofs.lemmas.Result.{IfOk-weaker}
use Rattle.lw_aig.specs.Aigs.{IsBelow}
use Rattle.lw_genlib.specs.Cells.{cell_value}
use Rattle.lw_pool.specs.declared.id.NetId.{NetId}
use Rattle.lw_equal.specs.Cells.{Makes, literals_at}
use Rattle.lw_equal.proofs.Netlists.{gate_computes, pins_below}
use Rattle.lw_equal.proofs.cells.gate_literal.Goals as goal

pub cell_literal-requires-clause-within : goal.cell_literal-requires-clause-within
cell_literal-requires-clause-within c =
    let gates = c.args.sweep.now in
    let lits = c.args.literals.now in
    let pins = c.as_slice-pins.result.now in
    let known = subst (All (λ (net : NetId). net.0 < length lits)) (sym c.as_slice-pins.ensures) c.requires.known in
    subst (All (IsBelow (length gates))) (sym c.read_nets.ensures.literals) (pins_below gates lits pins known c.requires.within)

pub returns-clause-literal : goal.returns-clause-literal
returns-clause-literal c =
    let lits = c.args.literals.now in
    let cell = c.cell-cell.result.now in
    let new = c.cell_literal.new.sweep in
    IfOk-weaker c.cell_literal.result _ _ (λ o h. IfSome_then o h (λ l made.
    let read = subst (λ ps. Makes new ps (cell_value cell) l) c.read_nets.ensures.literals made in
    let pinned = subst (λ ps. Makes new (literals_at lits ps) (cell_value cell) l) c.as_slice-pins.ensures read in
    gate_computes new c.args.lib.now c.args.gate.now cell lits l c.cell-cell.ensures c.requires.known pinned)) c.cell_literal.ensures.literal
