-- Only gaps have line feeds.
use Rattle.std.proofs.Common.{ℕ, zero, suc, ◌≡◌, ◌<◌, ◌+◌, ◌==◌, ◌&&◌, Bool, true, false, not, cond, List, [], ◌∷◌, length, take, drop, get_or, refl, ap, sym, subst, ◌∙◌, arith}
use Rattle.std.specs.Prelude.{nat_lt}
use Rattle.std.specs.List.{position_or_len}
use Rattle.std.proofs.lemmas.Bool.{eqb-true, false≢true}
use Rattle.std.proofs.lemmas.Bool.Decides.{nat_tests}
use Rattle.std.proofs.lemmas.List.Sums.{prefix_len_passes, sum_by-cons}
use Rattle.lw_verilog.specs.declared.kind.Kind.TheVariants as kind
use Rattle.lw_verilog.specs.declared.kind.Piece.{Piece}
use Rattle.lw_verilog.specs.Pieces.{before_pair, begins_name, byte_at, closed, comment_or_sign, escaped, first_piece, is_name_byte, is_separator, is_visible, line_bytes, name_bytes, piece, separators, sign_kind, visibles, word}
use Rattle.lw_verilog.specs.Tokens.{is_gap, line_feeds}
use Rattle.lw_words.specs.Lines.{is_line_feed}

-- no byte is a line feed
none-fed : (n : ℕ) (xs : List ℕ) → ((k : ℕ) → k < n → is_line_feed (get_or xs k 0) ≡ false) → line_feeds (take n xs) ≡ 0
none-fed zero xs none = refl
none-fed (suc n) [] none = refl
none-fed (suc n) (x ∷ xs) none =
    let first : ◌≡◌ {A = ℕ} (cond (is_line_feed x) 1 0) 0 = ap (λ b. cond b 1 0) (none 0 (omega arith)) in
    let rest : line_feeds (take n xs) ≡ 0 = none-fed n xs (λ k lt. none (suc k) (omega (arith, lt))) in
    sum_by-cons (λ b. cond (is_line_feed b) 1 0) x (take n xs) ∙ omega (arith, first, rest)

-- a byte that passes a test which a line feed does not
apart : (p : ℕ → Bool) → p 10 ≡ false → (x : ℕ) → p x ≡ true → is_line_feed x ≡ false
apart p never x passes = by_test (x == 10) refl
  where
    by_test : (b : Bool) → (x == 10) ≡ b → b ≡ false
    by_test true e =
        let ten : x ≡ 10 = eqb-true x 10 e in
        absurd (false≢true (sym never ∙ (ap p (sym ten) ∙ passes)))
    by_test false e = refl

-- a first byte that is no line feed, and those behind it that pass
word-fed : (p : ℕ → Bool) → p 10 ≡ false → (x : ℕ) (xs : List ℕ) → is_line_feed x ≡ false → line_feeds (take (1 + position_or_len (λ b. not (p b)) xs) (x ∷ xs)) ≡ 0
word-fed p never x xs first = none-fed (1 + position_or_len (λ b. not (p b)) xs) (x ∷ xs) each
  where
    twice : (b : Bool) → not (not b) ≡ true → b ≡ true
    twice true e = e
    twice false e = e

    each : (k : ℕ) → k < 1 + position_or_len (λ b. not (p b)) xs → is_line_feed (get_or (x ∷ xs) k 0) ≡ false
    each zero lt = first
    each (suc k) lt = apart p never (get_or xs k 0) (twice (p (get_or xs k 0)) (prefix_len_passes (λ b. not (not (p b))) xs k 0 (omega (arith, lt))))

one-fed : (x : ℕ) (xs : List ℕ) → is_line_feed x ≡ false → line_feeds (take 1 (x ∷ xs)) ≡ 0
one-fed x xs first = none-fed 1 (x ∷ xs) each
  where
    each : (k : ℕ) → k < 1 → is_line_feed (get_or (x ∷ xs) k 0) ≡ false
    each zero lt = first
    each (suc k) lt = absurd (omega (arith, lt))

abbrev IsQuiet : List ℕ → Piece → Type 0
IsQuiet bytes p = is_gap p.kind ≡ false → line_feeds (take p.size bytes) ≡ 0

closed-quiet : (x : ℕ) (xs inside : List ℕ) (n : ℕ) → is_line_feed x ≡ false → IsQuiet (x ∷ xs) (closed inside n)
closed-quiet x xs inside n first = by_test (nat_lt n (length inside))
  where
    by_test : (b : Bool) → IsQuiet (x ∷ xs) (cond b (piece kind.Gap (n + 4)) (piece kind.Unclosed 1))
    by_test true told = cc
    by_test false told = one-fed x xs first

escaped-quiet : (x : ℕ) (xs : List ℕ) → is_line_feed x ≡ false → IsQuiet (x ∷ xs) (escaped (visibles xs))
escaped-quiet x xs first = by_test (visibles xs == 0)
  where
    by_test : (b : Bool) → IsQuiet (x ∷ xs) (cond b (piece kind.Strange 1) (piece kind.Name (visibles xs + 1)))
    by_test true told = one-fed x xs first
    by_test false told =
        let size : 1 + visibles xs ≡ visibles xs + 1 = omega arith in
        ap (λ k. line_feeds (take k (x ∷ xs))) (sym size) ∙ word-fed is_visible refl x xs first

sign-quiet : (x : ℕ) (xs : List ℕ) → is_line_feed x ≡ false → IsQuiet (x ∷ xs) (comment_or_sign (x ∷ xs))
unfolding comment_or_sign
sign-quiet x xs first = by_test (x == 47 && byte_at (x ∷ xs) 1 == 47) (x == 47 && byte_at (x ∷ xs) 1 == 42) (x == 40 && byte_at (x ∷ xs) 1 == 42)
  where
    by_test : (a b c : Bool) → IsQuiet (x ∷ xs) (cond a (piece kind.Gap (2 + line_bytes (drop 2 (x ∷ xs)))) (cond b (closed (drop 2 (x ∷ xs)) (before_pair 42 47 (drop 2 (x ∷ xs)))) (cond c (closed (drop 2 (x ∷ xs)) (before_pair 42 41 (drop 2 (x ∷ xs)))) (piece (sign_kind x) 1))))
    by_test true b c told = cc
    by_test false true c told = closed-quiet x xs (drop 2 (x ∷ xs)) (before_pair 42 47 (drop 2 (x ∷ xs))) first told
    by_test false false true told = closed-quiet x xs (drop 2 (x ∷ xs)) (before_pair 42 41 (drop 2 (x ∷ xs))) first told
    by_test false false false told = one-fed x xs first

pub first-quiet : (bytes : List ℕ) → IsQuiet bytes (first_piece bytes)
unfolding first_piece
first-quiet [] told = refl
first-quiet (x ∷ xs) told =
    let long : (length (x ∷ xs) == 0) ≡ false = grind (arith, nat_tests) in
    let is : first_piece (x ∷ xs) ≡ cond (is_separator x) (piece kind.Gap (1 + separators xs)) (cond (x == 92) (escaped (visibles xs)) (cond (begins_name x) (word (x ∷ xs) (1 + name_bytes xs)) (comment_or_sign (x ∷ xs)))) =
    ap (λ b. cond b (piece kind.End 0) (cond (is_separator x) (piece kind.Gap (1 + separators xs)) (cond (x == 92) (escaped (visibles xs)) (cond (begins_name x) (word (x ∷ xs) (1 + name_bytes xs)) (comment_or_sign (x ∷ xs)))))) long in
    let quiet : IsQuiet (x ∷ xs) (first_piece (x ∷ xs)) = subst (IsQuiet (x ∷ xs)) (sym is) (by_test (is_separator x) refl (x == 92) (begins_name x)) in
    quiet told
  where
    fed : is_separator x ≡ false → is_line_feed x ≡ false
    fed e = apart (λ b. not (is_separator b)) refl x (ap not e)

    by_test : (a : Bool) → is_separator x ≡ a → (b c : Bool) → IsQuiet (x ∷ xs) (cond a (piece kind.Gap (1 + separators xs)) (cond b (escaped (visibles xs)) (cond c (word (x ∷ xs) (1 + name_bytes xs)) (comment_or_sign (x ∷ xs)))))
    by_test true e b c was = cc
    by_test false e true c was = escaped-quiet x xs (fed e) was
    by_test false e false true was = word-fed is_name_byte refl x xs (fed e)
    by_test false e false false was = sign-quiet x xs (fed e) was
