use Rattle.std.proofs.Common.{◌≡◌, ◌∙◌, min, map, length, ap, sym, subst}
use Rattle.lw_laws.specs.Covers.{latest}
use Rattle.lw_genlib.specs.Tables.{millionths}
use Rattle.lw_label.specs.Delays.{most_time}
use Rattle.lw_cost.proofs.CellPins.{pins_at}
use Rattle.lw_label.proofs.delay.DelayCostCost.value.Goals as goal
use Rattle.lw_genlib.proofs.Shared.{delays_at}

pub latest-requires : goal.latest-requires
latest-requires c = ap length c.delays-delays.ensures.delays ∙ pins_at c.args.self.now.lib.now c.args.cell.0 (length c.args.pins.now) c.cell.result.now c.cell.ensures c.requires

pub returns : goal.returns
returns c =
    let delays = c.delays-delays.ensures.delays in
    let cut : min c.latest.result most_time ≡ min most_time (latest (map millionths c.cell.result.now.delays) c.args.pins.now) = subst (λ ds. min c.latest.result most_time ≡ min most_time (latest (map millionths ds) c.args.pins.now)) delays c.latest.ensures in
    c.earlier.ensures ∙ (cut ∙ ap (λ ds. min most_time (latest ds c.args.pins.now)) (sym (delays_at c.args.self.now.lib.now c.args.cell.0 c.cell.result.now c.cell.ensures)))
