-- By the lemma.
use Rattle.lw_joined.proofs.Joins.{join_is_sound, own_forms_are}
use Rattle.lw_joined.proofs.laws.joins_are_sound.Goals as goal

pub returns : goal.returns
returns c = λ width net union links wide order is. (join_is_sound width net union links wide is, own_forms_are width net union links wide is order)
