use Rattle.std.proofs.Common.{◌/◌, ◌<◌, arith, length}
use Rattle.lw_map.proofs.Roots.{sop_listed_at}
use Rattle.lw_joined.proofs.choices.first_classes.Goals as goal

pub class_of-requires : goal.class_of-requires
class_of-requires c =
    let low : c.sop.result.0 / 2 < length c.args.forms.now.bases = sop_listed_at c.args.forms.now _ c.sop.result.0 c.nets.ensures.kept c.sop.ensures in
    omega arith
