use Rattle.std.proofs.Common.{◌≡◌, ◌-◌, map, string_bytes, length}
use Rattle.lw_area.specs.Words.{no_option, options_of}
use Rattle.lw_area.specs.Plain.{plain_settings}
use Rattle.lw_area.proofs.words.options_of.Given as goal

abbrev pub invariant-loop : goal.invariant-loop
invariant-loop l = options_of (l.end - l.counter) l.checked (plain_settings l.settings) (map string_bytes l.rest) ≡ options_of (length l.words) l.checked no_option (map string_bytes l.words)
