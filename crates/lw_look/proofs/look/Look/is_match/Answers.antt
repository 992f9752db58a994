use Rattle.std.proofs.Common.{◌≡◌, List, length, ap, subst, arith}
use Rattle.lw_pool.specs.declared.id.ClassId.{ClassId}
use Rattle.lw_pool.specs.Numbers.{numbers}
use Rattle.lw_check.specs.Standing.{StandsAlone}
use Rattle.lw_pattern.specs.Listed.{pattern_of}
use Rattle.lw_look.proofs.CellMatches.{cell_within, as_many, stands_there}
use Rattle.lw_look.proofs.look.Look.is_match.Goals as goal

pub cell-cell-requires : goal.cell-cell-requires
cell-cell-requires c = cell_within c.args.self.now c.args.gate.now (pattern_of c.get-pattern.result.now) c.get-pattern.ensures.listed c.requires.of_cells

pub returns-then-pins-len : goal.returns-then-pins-len
returns-then-pins-len c = (
  λ f. absurd (cc),
  λ is. absurd (let many = as_many c.args.self.now c.args.gate.now (pattern_of c.get-pattern.result.now) c.get-pattern.ensures.listed c.cell-cell.result.now c.cell-cell.ensures c.pins.ensures.kept.delays is in let same = ap length c.pins.ensures.pins in omega (arith, c.if-pins-len.true, many, same, c.len-3.ensures.len)),
)

pub returns : goal.returns
returns c =
    let gate = c.args.gate.now in
    let p = pattern_of c.get-pattern.result.now in
    let same = ap length c.pins.ensures.pins in
    let many : length c.cell-cell.result.now.pins ≡ length gate.found.pins = omega (arith, c.if-pins-len.false, same, c.len-3.ensures.len) in
    let alone = subst (λ (ps : List ClassId). StandsAlone c.args.self.now.graph.now (numbers ps) p.tree c.class_of_pattern-found.result) c.as_slice.ensures.classes c.class_of_pattern-found.ensures in
    let is = stands_there c.args.self.now gate p c.get-pattern.ensures.listed c.cell-cell.result.now c.cell-cell.ensures c.pins.ensures.kept.delays many c.class_of_pattern-found.result alone in
    (λ t. is.0 (c.is_at.ensures.0 t), λ m. c.is_at.ensures.1 (is.1 m))
