use Rattle.std.proofs.Common.{◌∙◌, ap}
use Rattle.lw_laws.specs.Names.{is_name_among}
use Rattle.lw_naming.proofs.NamesHeld.{held}
use Rattle.lw_naming.proofs.name_set.NameSet.contains.Goals as goal

pub returns : goal.returns
returns c = c.contains.ensures ∙ held (λ k. k.items) c.self.inside.names.keys c.args.name.now ∙ ap (is_name_among c.args.name.now) c.self.view_is
