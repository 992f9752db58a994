-- Up to 64 vectors in words: bit k of the word of an input is its value in vector k.
use Rattle.std.specs.Prelude.{ℕ, ◌-◌, ◌^◌, ◌<◌, ◌≤◌, ◌≡◌, Bool, List, Some, length, map, slice_get, All}
use Rattle.std.specs.List.{flat_map, range_with_len}
use Rattle.lw_genlib.specs.Words.{bit}
use Rattle.lw_report.specs.declared.block.Block.{Block}

-- the values that words have at bit k
abbrev pub bits_at : ℕ → List ℕ → List Bool
bits_at k words = map (bit k) words

-- the vectors of a block
abbrev pub block_vectors : Block → List (List Bool)
block_vectors block = map (λ k. bits_at k block.words.items) (range_with_len 0 block.count)

-- the vectors of blocks, in order
abbrev pub vectors_in : List Block → List (List Bool)
vectors_in blocks = flat_map block_vectors blocks

-- the last block has room for one more vector
pub record HasRoom (blocks : List Block) : Type 0 where
  pub last : Block
  pub at : slice_get blocks (length blocks - 1) ≡ Some last
  pub room : last.count < 64

-- One word for each input, of at most 64 vectors. The bits of no vector are not set.
pub record IsBlock (inputs : ℕ) (block : Block) : Type 0 where
  pub one_each : length block.words.items ≡ inputs
  pub few : block.count ≤ 64
  pub clear : All (λ word. word < 2 ^ block.count) block.words.items
