use Rattle.std.proofs.Common.{◌≡◌, length}
use Rattle.lw_links.specs.Linked.{StandFor}
use Rattle.lw_links.proofs.literals.form_literals.Given as goal

abbrev pub invariant-bases : goal.invariant-bases
invariant-bases l = record { stand : StandFor l.sweep l.forms l.literals.items; count : length l.literals.items ≡ l.b }
