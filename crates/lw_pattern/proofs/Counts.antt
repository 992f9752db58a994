-- How many bracketings there are, none counted past 65.
use Rattle.std.proofs.Common.{ℕ, zero, suc, ◌+◌, ◌*◌, ◌<◌, ◌≤◌, ◌≡◌, ◌==◌, List, [], ◌∷◌, ◌++◌, length, map, refl, sym, ap, ap₂, ◌∙◌, arith, length-append, cond, true, false, Bool}
use Rattle.std.proofs.lemmas.List.{length-map}
use native.Mathlib.Decide.{dec_lt}
use Rattle.std.proofs.lemmas.Bool.Decides.{nat_tests}
use Rattle.std.proofs.Math.Nat.{mul_assoc, mul_comm, mul-le-mul_left, mul-le-mul_right}
use Rattle.lw_laws.specs.Trees.{Tree}
use Rattle.lw_laws.specs.Patterns.{Operator, tree_by, each_with, all_pairs, three, four, left_chain, bracketings}
use Rattle.lw_pattern.specs.Growing.{capped, capped_product, shape_count}

large_left : (a b : ℕ) → 65 ≤ a → 1 ≤ b → 65 ≤ a * b
large_left a b big some = let k : a * 1 ≤ a * b = mul-le-mul_left a some in omega arith

large_right : (a b : ℕ) → 1 ≤ a → 65 ≤ b → 65 ≤ a * b
large_right a b some big = let k : 1 * b ≤ a * b = mul-le-mul_right b some in omega arith

is_capped : (n : ℕ) → 65 ≤ n → capped n ≡ 65
is_capped n big = omega arith

is_itself : (n : ℕ) → n < 65 → capped n ≡ n
is_itself n small = omega arith

times_zero : (n : ℕ) → n * 0 ≡ 0
times_zero n = omega arith

zero_times : (n : ℕ) → 0 * n ≡ 0
zero_times n = omega arith

pub capped_times : (a b : ℕ) → capped (capped a * capped b) ≡ capped (a * b)
capped_times zero b = ap capped (zero_times (capped b) ∙ sym (zero_times b))
capped_times (suc a) zero = ap capped (times_zero (capped (suc a)) ∙ sym (times_zero (suc a)))
capped_times (suc a) (suc b) = by_size (dec_lt (suc a) 65) (dec_lt (suc b) 65)
  where
    by_size : Dec (suc a < 65) → Dec (suc b < 65) → capped (capped (suc a) * capped (suc b)) ≡ capped (suc a * suc b)
    by_size (yes p) (yes q) = ap₂ (λ x y. capped (x * y)) (is_itself (suc a) p) (is_itself (suc b) q)
    by_size (no p) q =
        is_capped (capped (suc a) * capped (suc b)) (large_left (capped (suc a)) (capped (suc b)) (omega arith) (omega arith))
        ∙ sym (is_capped (suc a * suc b) (large_left (suc a) (suc b) (omega arith) (omega arith)))
    by_size (yes p) (no q) =
        is_capped (capped (suc a) * capped (suc b)) (large_right (capped (suc a)) (capped (suc b)) (omega arith) (omega arith))
        ∙ sym (is_capped (suc a * suc b) (large_right (suc a) (suc b) (omega arith) (omega arith)))

-- one number times all of the list
product : ℕ → List ℕ → ℕ
product n [] = n
product n (x ∷ xs) = product (n * x) xs

product_capped : (n : ℕ) (xs : List ℕ) → capped_product (capped n) (map capped xs) ≡ capped (product n xs)
unfolding product
product_capped n [] = refl
product_capped n (x ∷ xs) = ap (λ m. capped_product m (map capped xs)) (capped_times n x) ∙ product_capped (n * x) xs

abbrev pub sizes : List (List Tree) → List ℕ
sizes parts = map (λ ts. length ts) parts

pub length_pairs : (op : Operator) (ts us : List Tree) → length (all_pairs op ts us) ≡ length ts * length us
length_pairs op [] us = sym (zero_times (length us))
length_pairs op (t ∷ ts) us =
    let one : length (each_with op t us) ≡ length us = length-map us (tree_by op t) in
    let both : length (each_with op t us ++ all_pairs op ts us) ≡ length (each_with op t us) + length (all_pairs op ts us) = length-append (each_with op t us) (all_pairs op ts us) in
    let rest : length (all_pairs op ts us) ≡ length ts * length us = length_pairs op ts us in
    let more : suc (length ts) * length us ≡ length us + length ts * length us = omega arith in
    omega arith

length_three : (op : Operator) (a b c : List Tree) → length (three op a b c) ≡ 2 * length a * length b * length c
length_three op a b c =
    let x = length a in
    let y = length b in
    let z = length c in
    let both : length (three op a b c) ≡ length (all_pairs op (all_pairs op a b) c) + length (all_pairs op a (all_pairs op b c)) = length-append (all_pairs op (all_pairs op a b) c) (all_pairs op a (all_pairs op b c)) in
    let left : length (all_pairs op (all_pairs op a b) c) ≡ x * y * z = length_pairs op (all_pairs op a b) c ∙ ap (λ n. n * z) (length_pairs op a b) in
    let right : length (all_pairs op a (all_pairs op b c)) ≡ x * y * z = length_pairs op a (all_pairs op b c) ∙ (ap (λ n. x * n) (length_pairs op b c) ∙ sym (mul_assoc x y z)) in
    let all : 2 * x * y * z ≡ 2 * (x * y * z) = ap (λ n. n * z) (mul_assoc 2 x y) ∙ mul_assoc 2 (x * y) z in
    omega arith

length_four : (op : Operator) (a b c d : List Tree) → length (four op a b c d) ≡ 5 * length a * length b * length c * length d
length_four op a b c d =
    let x = length a in
    let y = length b in
    let z = length c in
    let w = length d in
    let first = all_pairs op (three op a b c) d in
    let second = all_pairs op (all_pairs op a b) (all_pairs op c d) in
    let third = all_pairs op a (three op b c d) in
    let all = x * y * z * w in
    let split : length (four op a b c d) ≡ length first + (length second + length third) = length-append first (second ++ third) ∙ ap (λ n. length first + n) (length-append second third) in
    let one : length first ≡ 2 * all =
    length_pairs op (three op a b c) d ∙ (ap (λ n. n * w) (length_three op a b c ∙ (ap (λ n. n * z) (mul_assoc 2 x y) ∙ mul_assoc 2 (x * y) z)) ∙ mul_assoc 2 (x * y * z) w) in
    let two : length second ≡ all = length_pairs op (all_pairs op a b) (all_pairs op c d) ∙ (ap₂ (λ m n. m * n) (length_pairs op a b) (length_pairs op c d) ∙ sym (mul_assoc (x * y) z w)) in
    let inner : x * (y * z * w) ≡ all = sym (mul_assoc x (y * z) w) ∙ ap (λ n. n * w) (sym (mul_assoc x y z)) in
    let twice : x * (2 * (y * z * w)) ≡ 2 * (x * (y * z * w)) = sym (mul_assoc x 2 (y * z * w)) ∙ (ap (λ n. n * (y * z * w)) (mul_comm x 2) ∙ mul_assoc 2 x (y * z * w)) in
    let three' : length third ≡ 2 * (x * (y * z * w)) =
    length_pairs op a (three op b c d) ∙ (ap (λ n. x * n) (length_three op b c d ∙ (ap (λ n. n * w) (mul_assoc 2 y z) ∙ mul_assoc 2 (y * z) w)) ∙ twice) in
    let whole : 5 * x * y * z * w ≡ 5 * all = ap (λ n. n * w) (ap (λ n. n * z) (mul_assoc 5 x y) ∙ mul_assoc 5 (x * y) z) ∙ mul_assoc 5 (x * y * z) w in
    omega arith

length_chain : (op : Operator) (ts : List Tree) (rest : List (List Tree)) → length (left_chain op ts rest) ≡ product (length ts) (sizes rest)
unfolding product
length_chain op ts [] = refl
length_chain op ts (us ∷ rest) = length_chain op (all_pairs op ts us) rest ∙ ap (λ n. product n (sizes rest)) (length_pairs op ts us)

times_one : (n : ℕ) → n ≡ 1 * n
times_one n = omega arith

chain_shape : (n : ℕ) → 5 ≤ n → shape_count n ≡ 1
chain_shape n many =
    let three : (n == 3) ≡ false = grind (arith, nat_tests) in
    let four : (n == 4) ≡ false = grind (arith, nat_tests) in
    ap₂ (λ a b. cond a 2 (cond b 5 1)) three four

-- the bracketings are as many as the shapes, times the trees of each operand
length_bracketings : (op : Operator) (parts : List (List Tree)) → length (bracketings op parts) ≡ product (shape_count (length parts)) (sizes parts)
unfolding product
length_bracketings op [] = refl
length_bracketings op (a ∷ []) = times_one (length a)
length_bracketings op (a ∷ b ∷ []) = length_pairs op a b ∙ ap (λ n. n * length b) (times_one (length a))
length_bracketings op (a ∷ b ∷ c ∷ []) = length_three op a b c
length_bracketings op (a ∷ b ∷ c ∷ d ∷ []) = length_four op a b c d
length_bracketings op (a ∷ b ∷ c ∷ d ∷ e ∷ rest) =
    length_chain op a (b ∷ c ∷ d ∷ e ∷ rest)
    ∙ ap (λ n. product n (sizes (b ∷ c ∷ d ∷ e ∷ rest))) (times_one (length a) ∙ ap (λ n. n * length a) (sym (chain_shape (length (a ∷ b ∷ c ∷ d ∷ e ∷ rest)) (omega arith))))

small_choice : (three four : Bool) → capped (cond three 2 (cond four 5 1)) ≡ cond three 2 (cond four 5 1)
small_choice true four = refl
small_choice false true = refl
small_choice false false = refl

small_shapes : (n : ℕ) → capped (shape_count n) ≡ shape_count n
small_shapes n = small_choice (n == 3) (n == 4)

capped_sizes : (parts : List (List Tree)) → map (λ ts. capped (length ts)) parts ≡ map capped (sizes parts)
capped_sizes [] = refl
capped_sizes (ts ∷ parts) = ap (λ ns. capped (length ts) ∷ ns) (capped_sizes parts)

pub capped_bracketings : (op : Operator) (parts : List (List Tree)) → capped_product (shape_count (length parts)) (map (λ ts. capped (length ts)) parts) ≡ capped (length (bracketings op parts))
capped_bracketings op parts =
    ap₂ capped_product (sym (small_shapes (length parts))) (capped_sizes parts)
    ∙ (product_capped (shape_count (length parts)) (sizes parts) ∙ ap capped (sym (length_bracketings op parts)))
