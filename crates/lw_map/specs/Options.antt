-- How a network is decomposed.
use Rattle.std.specs.Prelude.{ℕ, ◌≤◌}
use Rattle.lw_laws.specs.Modes.{Mode}
use Rattle.lw_assoc.specs.Modes.{law_mode}
use Rattle.lw_map.specs.declared.options.Options as code

-- the most operands of an And, and the laws
pub record Options : Type 0 where
  pub width : ℕ
  pub mode : Mode

abbrev pub plain_options : code.Options → Options
plain_options options = record { width = options.width; mode = law_mode options.mode }

-- the width is one that forms are listed for
pub record IsWide (options : Options) : Type 0 where
  pub least : 2 ≤ options.width
  pub most : options.width ≤ 8
