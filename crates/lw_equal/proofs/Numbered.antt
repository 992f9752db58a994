-- Assignments of inputs by numbers: what the words of inputs say, and that each assignment has a block and a place in it.
use Rattle.std.proofs.Common.{ℕ, ◌+◌, ◌-◌, ◌*◌, ◌/◌, ◌%◌, ◌^◌, ◌<◌, ◌≡◌, Bool, ap, ◌∙◌, arith}
use Rattle.lw_genlib.specs.Words.{bit, block_count}
use Rattle.lw_genlib.proofs.Assignments.{number_of, number_small, number_bit, block_within}

-- an assignment is assignment k of a block
pub record IsNumbered (y : ℕ → Bool) (inputs : ℕ) : Type 0 where
  pub block : ℕ
  pub within : block < block_count inputs
  pub k : ℕ
  pub below : k < 64
  pub bits : (i : ℕ) → i < inputs → bit i (block * 64 + k) ≡ y i

pub each_has_number : (y : ℕ → Bool) (inputs : ℕ) → IsNumbered y inputs
each_has_number y inputs =
    let small : number_of y inputs < 2 ^ inputs = number_small y inputs in
    let parts : number_of y inputs / 64 * 64 + number_of y inputs % 64 ≡ number_of y inputs = omega arith in
    record {
      block = number_of y inputs / 64;
      within = block_within inputs (number_of y inputs) small;
      k = number_of y inputs % 64;
      below = omega arith;
      bits = λ i lt. ap (bit i) parts ∙ number_bit y inputs i lt;
    }
