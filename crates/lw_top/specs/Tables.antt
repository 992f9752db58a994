-- What a network comes to in lookup tables: a text of tables of least depth, or why there is none.
use Rattle.std.specs.Prelude.{ℕ, ◌≡◌, List, Ok, Err}
use Rattle.lw_blif.specs.declared.parsed.Parsed.{Parsed}
use Rattle.lw_lut.specs.Nets.{PlainTableNet}
use Rattle.lw_lut.specs.Texts.{tables_text}
use Rattle.lw_map.specs.Options.{Options}
use Rattle.lw_map.specs.Mapped.{IsWithinLimits}
use Rattle.lw_map.specs.Tabled.{IsTabled}
use Rattle.lw_top.specs.Steps.{Step}
use Rattle.lw_top.specs.Maps.{LacksGraph}

-- the text is that of tables of at most so many fan-ins that the network is covered by, with the model's latches
pub record IsTablesText (leaves : ℕ) (options : Options) (model : Parsed) (text : List ℕ) : Type 0 where
  pub within : IsWithinLimits options model.network
  pub net : PlainTableNet
  pub tabled : IsTabled options leaves model.network net
  pub says : text ≡ tables_text net model.frame

-- What the model comes to, whatever the files. Which tables stand for a class is not determined, so that there may be
-- several texts.
abbrev pub Tabulates : ℕ → Options → Parsed → Step (List ℕ)
Tabulates leaves options model files (Ok text) = IsTablesText leaves options model text
Tabulates leaves options model files (Err r) = LacksGraph options model.network r
