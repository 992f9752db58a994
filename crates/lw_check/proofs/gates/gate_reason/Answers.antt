use Rattle.std.proofs.Common.{arith}
use Rattle.lw_check.specs.Cases.{claim_of}
use Rattle.lw_check.proofs.Matching.{no_match_found}
use Rattle.lw_check.proofs.Spanning.{cells_below}
use Rattle.lw_check.proofs.gates.gate_reason.Goals as goal

pub spans_of-requires : goal.spans_of-requires
spans_of-requires c = λ j p at.
    let low = cells_below c.args.case.now.lib.now c.args.case.now.starts.now c.args.case.now.pats.now c.requires.askable.of_cells j p at in
    let count = c.len.ensures.len in
    omega arith

pub returns-in-Some : goal.returns-in-Some
returns-in-Some c = (c.requires.ports, c.requires.classes, no_match_found (claim_of c.args.case.now) c.in-Some.place c.in_ok-name_of_gate-in-Some.field-0 c.in-Some.ensures c.in_ok-name_of_gate-in-Some.ensures)
