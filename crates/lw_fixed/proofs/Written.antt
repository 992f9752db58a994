-- What is written to the end of the buffer, and what of it is copied.
use Rattle.std.proofs.Common.{ℕ, ◌+◌, ◌-◌, ◌<◌, ◌≤◌, ◌≡◌, ◌/◌, ◌%◌, List, [], ◌∷◌, ◌++◌, length, take, drop, set, refl, sym, ap, ap₂, ◌∙◌, arith, zero, suc, eqb}
use Rattle.std.specs.Prelude.{decimal}
use Rattle.std.specs.List.{suffix_len}
use Rattle.std.proofs.lemmas.List.{drop-set, drop-drop, drop_all, append-nil, take_at, take_all}
use Rattle.std.proofs.Math.Seq.{take-append-add}
use Rattle.lw_fixed.specs.Printed.{six_decimals, with_decimals, decimal_text}
use Rattle.lw_fixed.proofs.Six.{seven, six_decimals_are}
use Rattle.lw_fixed.proofs.Shapes.{behind_point}

-- the point over the first of seven digits
pub point_over : (n start : ℕ) (before after : List ℕ) → n < 1000000 → length after ≡ 21 → start + length (decimal (1000000 + n)) ≡ 21
    → drop start after ≡ decimal (1000000 + n) ++ drop 21 before → length before ≡ 21
    → drop 14 (set after 14 46) ≡ 46 ∷ six_decimals n
point_over n start before after below long place digits whole =
    let size : length (decimal (1000000 + n)) ≡ 7 = seven n below in
    let at : start ≡ 14 = omega arith in
    let none : drop 21 before ≡ [] = drop_all 21 before (omega arith) in
    let all : drop 14 after ≡ decimal (1000000 + n) = ap (λ s. drop s after) (sym at) ∙ (digits ∙ (ap (λ r. decimal (1000000 + n) ++ r) none ∙ append-nil _)) in
    drop-set after 14 46 (omega arith) ∙ ap (λ r. 46 ∷ r) (sym (drop-drop 1 14 after) ∙ ap (drop 1) all)

-- up to the last decimal that is kept
cut : (text whole six : List ℕ) (start places end : ℕ) → start + length whole ≡ 14 → drop start text ≡ whole ++ 46 ∷ six → places ≤ length six
    → (places ≡ 0 → end ≡ 14) → (0 < places → end ≡ 15 + places) → take (end - start) (drop start text) ≡ with_decimals whole (take places six)
cut text whole six start zero end place at most none some =
    let here : end ≡ 14 = none refl in
    ap (take (end - start)) at ∙ take_at whole (46 ∷ six) (end - start) (omega arith)
cut text whole [] start (suc places) end place at most none some = absurd (omega arith)
cut text whole (d ∷ ds) start (suc places) end place at most none some =
    let here : end ≡ 15 + suc places = some (omega arith) in
    let long : end - start ≡ length whole + suc (suc places) = omega arith in
    ap₂ take long at ∙ take-append-add whole (46 ∷ d ∷ ds) (suc (suc places))

-- the decimals stand behind the point
decimals_at : (text whole six : List ℕ) (start : ℕ) → start + length whole ≡ 14 → drop start text ≡ whole ++ 46 ∷ six → length six ≡ 6 → take 6 (drop 15 text) ≡ six
decimals_at text whole six start place at long =
    let behind : drop (length whole + 1) (whole ++ 46 ∷ six) ≡ six = behind_point whole six in
    let same : start + (length whole + 1) ≡ 15 = omega arith in
    let there : drop 15 text ≡ six = ap (λ n. drop n text) (sym same) ∙ (sym (drop-drop (length whole + 1) start text) ∙ (ap (drop (length whole + 1)) at ∙ behind)) in
    ap (take 6) there ∙ take_all 6 six (omega arith)

pub printed : (n start places end : ℕ) (text : List ℕ) → start + length (decimal (n / 1000000)) ≡ 14
    → drop start text ≡ decimal (n / 1000000) ++ 46 ∷ six_decimals (n % 1000000)
    → places ≡ length (take 6 (drop 15 text)) - suffix_len (λ d. eqb d 48) (take 6 (drop 15 text))
    → (places ≡ 0 → end ≡ 14) → (0 < places → end ≡ 15 + places) → take (end - start) (drop start text) ≡ decimal_text n
unfolding decimal_text
printed n start places end text place at kept none some =
    let six : List ℕ = six_decimals (n % 1000000) in
    let long : length six ≡ 6 = (six_decimals_are (n % 1000000) (omega arith)).long in
    let same : take 6 (drop 15 text) ≡ six = decimals_at text (decimal (n / 1000000)) six start place at long in
    let kept' : places ≡ length six - suffix_len (λ d. eqb d 48) six = kept ∙ ap (λ ds. length ds - suffix_len (λ d. eqb d 48) ds) same in
    cut text (decimal (n / 1000000)) six start places end place at (omega arith) none some ∙ ap (λ k. with_decimals (decimal (n / 1000000)) (take k six)) kept'
