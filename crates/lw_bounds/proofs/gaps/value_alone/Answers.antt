use Rattle.std.proofs.Common.{ap, ◌∙◌}
use Rattle.lw_bounds.proofs.CertifiedGaps.{alone_among}
use Rattle.lw_bounds.proofs.gaps.value_alone.Goals as goal

pub returns : goal.returns
returns g c =
    c.value.ensures ∙ ap ((g.C.Cost.costs c.args.cost.now).value c.args.cell.0) (alone_among c.args.pins 16 c.args.pin c.args.amount c.requires.pins.few c.requires.pin)
