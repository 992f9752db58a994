use Rattle.std.proofs.Common.{refl}
use Rattle.lw_naming.proofs.NamesHeld.{added}
use Rattle.lw_naming.proofs.name_set.NameSet.add.Goals as goal

pub returns : goal.returns
returns c =
    added (λ k. k.items) c.self.inside.names.keys c.insert.new.self.keys _ _ _ c.args.name.now c.self.view_is refl c.in_ok-insert.ensures.keys c.in_ok-name.ensures.items
