use Rattle.std.proofs.Common.{◌≡◌, ap, ◌∙◌, arith}
use Rattle.lw_net.specs.Written.{name_at}
use Rattle.lw_net.proofs.Writing.{stored_name}
use Rattle.lw_net.proofs.naming.number.Goals as goal

pub returns-clause-named : goal.returns-clause-named
returns-clause-named c =
    let names = c.insert_full.new.self.keys in
    let same : c.in-Ok.number ≡ c.in_ok-place.place = omega (arith, c.in-Ok.ensures) in
    ap (name_at names) same ∙ stored_name names c.in_ok-place.place c.args.name c.in_ok-place.ensures.stored
