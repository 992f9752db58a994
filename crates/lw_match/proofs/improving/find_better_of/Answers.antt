use Rattle.std.proofs.Common.{subst}
use Rattle.lw_match.specs.declared.want.Want.{Want}
use Rattle.lw_match.specs.Hunts.{IsHunt}
use Rattle.lw_match.proofs.Sites.{new_hunt}
use Rattle.lw_match.proofs.improving.find_better_of.Goals as goal

pub loop-pat-init : goal.loop-pat-init
loop-pat-init g c =
    let q = c.args.query.now in
    let start = c.new-hunt in
    subst (λ (w : Want). IsHunt g.C.Cost.costs q w.bound start.result) c.any.ensures (new_hunt g.C.Cost.costs q c.any.result start.result start.ensures)
