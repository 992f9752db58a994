-- The texts of the rules that a line breaks.
use Rattle.std.specs.Prelude.{ℕ, List, codes}
use Rattle.lw_fixed.specs.declared.fault.DecimalFault.{DecimalFault}
use Rattle.lw_fixed.specs.declared.fault.DecimalFault.TheVariants as decimal
use Rattle.lw_genlib.specs.declared.fault.LibKind.{LibKind}
use Rattle.lw_genlib.specs.declared.fault.LibKind.TheVariants as lib
use Rattle.lw_blif.specs.declared.fault.BlifKind.{BlifKind}
use Rattle.lw_blif.specs.declared.fault.BlifKind.TheVariants as blif
use Rattle.lw_mapped.specs.declared.fault.MappedKind.{MappedKind}
use Rattle.lw_mapped.specs.declared.fault.MappedKind.TheVariants as mapped

abbrev pub decimal_fault_text : DecimalFault → List ℕ
decimal_fault_text decimal.Shape = codes "not a decimal"
decimal_fault_text decimal.Large = codes "decimal too large"
decimal_fault_text decimal.Fine = codes "decimal too fine"
decimal_fault_text decimal.Negative = codes "decimal below 0"

abbrev pub blif_text : BlifKind → List ℕ
blif_text blif.UnknownCommand = codes "unknown command"
blif_text blif.Unsupported = codes "command not supported"
blif_text blif.RowOutside = codes "row outside a node"
blif_text blif.RowShape = codes "row of wrong shape"
blif_text blif.RowMix = codes "rows of both kinds"
blif_text blif.Redefined = codes "signal defined twice"
blif_text blif.WordCount = codes "wrong number of words"
blif_text blif.BadName = codes "bad name"
blif_text blif.LongWord = codes "word too long"
blif_text blif.LimitFanin = codes "more than 256 fan-ins"
blif_text blif.LimitRows = codes "more than 4096 rows"
blif_text blif.LimitSignals = codes "more than 262144 signals"
blif_text (blif.Decimal fault) = decimal_fault_text fault

abbrev pub lib_text : LibKind → List ℕ
lib_text lib.Expected = codes "something else expected"
lib_text lib.BadByte = codes "byte not allowed in a function"
lib_text lib.PinMissing = codes "pin without delay"
lib_text lib.PinUnknown = codes "no such pin"
lib_text lib.PhaseWord = codes "unknown phase"
lib_text (lib.Decimal fault) = decimal_fault_text fault
lib_text lib.ConstInside = codes "constant inside a function"
lib_text lib.CellDiffers = codes "cell differs from its first entry"
lib_text lib.LongWord = codes "word too long"
lib_text lib.LimitText = codes "function longer than 2048 bytes"
lib_text lib.LimitLiterals = codes "more than 64 names in a function"
lib_text lib.LimitPins = codes "more than 16 pins"
lib_text lib.LimitCells = codes "more than 4096 cells"

abbrev pub mapped_kind_text : MappedKind → List ℕ
mapped_kind_text mapped.UnknownCommand = codes "unknown command"
mapped_kind_text mapped.Shape = codes "line of wrong shape"
mapped_kind_text mapped.NoCell = codes "no such cell"
mapped_kind_text mapped.PinUnknown = codes "no such pin"
mapped_kind_text mapped.PinTwice = codes "pin given twice"
mapped_kind_text mapped.PinMissing = codes "pin not given"
mapped_kind_text mapped.Certificate = codes "bad certificate line"
mapped_kind_text mapped.BadName = codes "bad name"
mapped_kind_text mapped.LongWord = codes "word too long"
mapped_kind_text (mapped.Decimal fault) = decimal_fault_text fault
