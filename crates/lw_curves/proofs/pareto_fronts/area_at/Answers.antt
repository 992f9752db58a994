use Rattle.std.proofs.Common.{◌≡◌, ◌<◌, ◌∙◌, Some, ap, length, slice_index_or, arith}
use Rattle.lw_curves.specs.declared.point.Found.{Found}
use Rattle.lw_curves.proofs.Fronting.{seek_at, seek_found}
use Rattle.lw_choices.proofs.Lists.{got}
use Rattle.lw_curves.proofs.pareto_fronts.area_at.Goals as goal

pub returns : goal.returns
returns c =
    let d : Found = record { time = record { 0 = 0 }; area = 0; order = 0; choice = 0; depth = 0; jump = 0 } in
    let cs = c.args.links.now.classes in
    let ps = c.args.points.now in
    let p = slice_index_or ps c.args.place d in
    let lt : c.args.place < length ps = omega (arith, c.if-place-points.false) in
    let at = got ps c.args.place d lt in
    let same : p.time.0 ≡ c.args.time = c.if-found-time.false in
    let seeking = seek_at cs ps c.args.class.0 c.args.time c.args.place p c.requires.apart (c.class.ensures.class ∙ ap Some c.if-class.false) at (omega (arith, same)) in
    seek_found cs ps c.args.class.0 c.args.time c.args.place p c.requires.apart seeking at (omega (arith, same))
