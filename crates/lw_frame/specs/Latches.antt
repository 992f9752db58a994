-- Latches as lines of a text.
use Rattle.std.specs.Prelude.{◌≤◌, length, All}
use Rattle.lw_pool.specs.declared.latch.Latch.{Latch}
use Rattle.lw_words.specs.Words.{IsSignalName}
pub use Rattle.lw_frame.specs.Frames.{latch_line}

-- two names, and up to three further ones
pub record IsReadableLatch (latch : Latch) : Type 0 where
  pub input : IsSignalName latch.input
  pub output : IsSignalName latch.output
  pub rest : All IsSignalName latch.rest
  pub few : length latch.rest ≤ 3
