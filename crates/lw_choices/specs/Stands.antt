-- What may stand at a class, as the code reads it.
use Rattle.lw_pool.specs.declared.id.ClassId.{ClassId}
use Rattle.lw_pool.specs.Numbers.{numbers}
use Rattle.lw_choices.specs.declared.rows.Gate.{Gate as GateOfMatch}
use Rattle.lw_choices.specs.declared.rows.ListedChoice.{ListedChoice}
use Rattle.lw_choices.specs.declared.rows.Stand.{Stand}
use Rattle.lw_choices.specs.declared.rows.Stand.TheVariants.{Input, Gate}
use Rattle.lw_choices.specs.Choices.{Part, Choice}
use Rattle.lw_choices.specs.Choices.Part.{input, gate}

abbrev pub plain_part : Stand → Part
plain_part (Input i) = input i
plain_part (Gate g) = gate g.cell.0 (numbers g.pins.now)

abbrev pub plain_row : ListedChoice → Choice
plain_row r = record { class = r.class.0; part = plain_part r.stand }

abbrev pub choice_of : ClassId → GateOfMatch → Choice
choice_of class g = record { class = class.0; part = gate g.cell.0 (numbers g.pins.now) }
