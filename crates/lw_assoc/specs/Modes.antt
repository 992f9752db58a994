-- The mode of the laws that the code's mode stands for.
use Rattle.lw_laws.specs.Modes as laws
use Rattle.lw_laws.specs.Modes.Mode.{plain, idempotent}
use Rattle.lw_assoc.specs.declared.mode.Mode.{Mode}
use Rattle.lw_assoc.specs.declared.mode.Mode.TheVariants.{Plain, Idempotent}

abbrev pub law_mode : Mode → laws.Mode
law_mode Plain = plain
law_mode Idempotent = idempotent
