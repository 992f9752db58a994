-- Numbers in a row.
use Rattle.std.proofs.Common.{◌≡◌, ℕ, zero, suc, ◌+◌, ◌-◌, drop, ap, ap₂, ◌∙◌, arith}
use Rattle.std.specs.List.{range_with_len}

-- the same numbers, by equal ends
same_range : (a b m n : ℕ) → a ≡ b → m ≡ n → range_with_len a m ≡ range_with_len b n
same_range a b m n start count = ap₂ range_with_len start count

pub drop-range : (k a n : ℕ) → drop k (range_with_len a n) ≡ range_with_len (a + k) (n - k)
drop-range zero a n = same_range a (a + 0) n (n - 0) (omega arith) (omega arith)
drop-range (suc k) a zero = let none : 0 ≡ 0 - suc k = omega arith in ap (range_with_len (a + suc k)) none
drop-range (suc k) a (suc n) = drop-range k (a + 1) n ∙ same_range (a + 1 + k) (a + suc k) (n - k) (suc n - suc k) (omega arith) (omega arith)
