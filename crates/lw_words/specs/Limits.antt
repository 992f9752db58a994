-- What texts are limited to, in bytes.
use Rattle.std.specs.Prelude.{ℕ}

-- a file that is read
abbrev pub most_bytes : ℕ
most_bytes = 67108864

-- what is kept of a word
abbrev pub longest_word : ℕ
longest_word = 4095

-- a name
abbrev pub longest_name : ℕ
longest_name = 2000
