-- How long pieces are.
use Rattle.std.proofs.Common.{ℕ, suc, ◌≡◌, ◌<◌, ◌≤◌, ◌+◌, ◌==◌, ◌&&◌, Bool, true, false, cond, List, [], ◌∷◌, length, take, refl, ap, sym, subst, ◌∙◌, arith}
use Rattle.std.specs.Prelude.{nat_lt}
use Rattle.std.proofs.lemmas.Bool.{false≢true}
use Rattle.std.proofs.lemmas.Bool.Decides.{nat_tests}
use Rattle.std.proofs.lemmas.List.{length-take-le}
use Rattle.std.proofs.lemmas.List.Sums.{prefix_len-le-length}
use Rattle.lw_verilog.specs.declared.kind.Kind.TheVariants as kind
use Rattle.lw_verilog.specs.declared.kind.Piece.{Piece}
use Rattle.lw_verilog.specs.Pieces.{before_pair, begins_name, closed, comment_or_sign, escaped, first_piece, is_separator, line_bytes, name_bytes, piece, separators, sign_kind, visibles, word}
use Rattle.lw_verilog.specs.Tokens.{IsNameless, is_end, is_name, name_of}
use Rattle.lw_verilog.proofs.Runs.{pair-inside}

pub separators_le : (bytes : List ℕ) → separators bytes ≤ length bytes
separators_le bytes = prefix_len-le-length _ bytes

pub visibles_le : (bytes : List ℕ) → visibles bytes ≤ length bytes
visibles_le bytes = prefix_len-le-length _ bytes

pub name_bytes_le : (bytes : List ℕ) → name_bytes bytes ≤ length bytes
name_bytes_le bytes = prefix_len-le-length _ bytes

pub line_bytes_le : (bytes : List ℕ) → line_bytes bytes ≤ length bytes
line_bytes_le bytes = prefix_len-le-length _ bytes

sign-nameless : (b : ℕ) → is_name (sign_kind b) ≡ false
unfolding sign_kind
sign-nameless b = by_test (b == 40) (b == 41) (b == 44) (b == 59) (b == 46) (b == 61)
  where
    by_test : (a b c d e f : Bool) → is_name (cond a kind.Open (cond b kind.Close (cond c kind.Comma (cond d kind.Semicolon (cond e kind.Point (cond f kind.Equals kind.Strange)))))) ≡ false
    by_test true b c d e f = refl
    by_test false true c d e f = refl
    by_test false false true d e f = refl
    by_test false false false true e f = refl
    by_test false false false false true f = refl
    by_test false false false false false true = refl
    by_test false false false false false false = refl

-- a sign of one byte
one-nameless : (b most : ℕ) → 0 < most → IsNameless most (piece (sign_kind b) 1)
one-nameless b most some = record { sign = sign-nameless b; some = omega arith; within = omega (arith, some) }

closed-nameless : (inside : List ℕ) (n most : ℕ) → (n < length inside → n + 1 < length inside) → length inside + 2 ≤ most → IsNameless most (closed inside n)
closed-nameless inside n most pair room = by_test (nat_lt n (length inside)) refl
  where
    by_test : (t : Bool) → nat_lt n (length inside) ≡ t → IsNameless most (cond t (piece kind.Gap (n + 4)) (piece kind.Unclosed 1))
    by_test true e =
        let lt : n < length inside = grind (arith, nat_tests, e) in
        let two : n + 1 < length inside = pair lt in
        record { sign = refl; some = omega arith; within = omega (arith, two, room) }
    by_test false e = record { sign = refl; some = omega arith; within = omega (arith, room) }

comment-nameless : (x : ℕ) (xs : List ℕ) → IsNameless (length (x ∷ xs)) (comment_or_sign (x ∷ xs))
unfolding comment_or_sign
comment-nameless x [] = by_test (x == 47) (x == 40)
  where
    by_test : (a b : Bool) → IsNameless 1 (cond (a && (0 == 47)) (piece kind.Gap (2 + line_bytes [])) (cond (a && (0 == 42)) (closed [] (before_pair 42 47 [])) (cond (b && (0 == 42)) (closed [] (before_pair 42 41 [])) (piece (sign_kind x) 1))))
    by_test true true = one-nameless x 1 (omega arith)
    by_test true false = one-nameless x 1 (omega arith)
    by_test false true = one-nameless x 1 (omega arith)
    by_test false false = one-nameless x 1 (omega arith)
comment-nameless x (y ∷ ys) = by_test (x == 47 && y == 47) (x == 47 && y == 42) (x == 40 && y == 42)
  where
    room : length ys + 2 ≤ length (x ∷ y ∷ ys)
    room = omega arith

    by_test : (a b c : Bool) → IsNameless (length (x ∷ y ∷ ys)) (cond a (piece kind.Gap (2 + line_bytes ys)) (cond b (closed ys (before_pair 42 47 ys)) (cond c (closed ys (before_pair 42 41 ys)) (piece (sign_kind x) 1))))
    by_test true b c = record { sign = refl; some = omega arith; within = omega (arith, line_bytes_le ys) }
    by_test false true c = closed-nameless ys (before_pair 42 47 ys) (length (x ∷ y ∷ ys)) (pair-inside 42 47 ys (omega arith)) room
    by_test false false true = closed-nameless ys (before_pair 42 41 ys) (length (x ∷ y ∷ ys)) (pair-inside 42 41 ys (omega arith)) room
    by_test false false false = one-nameless x (length (x ∷ y ∷ ys)) (omega arith)

-- The first piece has a byte or more, or else is the end; it is no longer than the text, and a name is not empty.
record IsPieceOf (bytes : List ℕ) (p : Piece) : Type 0 where
  some : is_end p.kind ≡ false → 0 < p.size
  within : p.size ≤ length bytes
  named : is_name p.kind ≡ true → 0 < length (name_of (take p.size bytes))

nameless-sized : (bytes : List ℕ) (p : Piece) → IsNameless (length bytes) p → IsPieceOf bytes p
nameless-sized bytes p is = record { some = λ e. is.some; within = is.within; named = λ e. absurd (false≢true (sym is.sign ∙ e)) }

escaped-sized : (x : ℕ) (xs : List ℕ) → (x == 92) ≡ true → IsPieceOf (x ∷ xs) (escaped (visibles xs))
escaped-sized x xs stroke = by_test (visibles xs == 0) refl
  where
    by_test : (t : Bool) → (visibles xs == 0) ≡ t → IsPieceOf (x ∷ xs) (cond t (piece kind.Strange 1) (piece kind.Name (visibles xs + 1)))
    by_test true e = record { some = λ is. omega arith; within = omega arith; named = λ is. absurd (false≢true is) }
    by_test false e =
        let some : 0 < visibles xs = grind (arith, nat_tests, e) in
        let size : suc (visibles xs) ≡ visibles xs + 1 = omega arith in
        let long : length (take (visibles xs) xs) ≡ visibles xs = length-take-le (visibles xs) xs (visibles_le xs) in
        let name : name_of (take (suc (visibles xs)) (x ∷ xs)) ≡ take (visibles xs) xs = ap (λ t. cond t (take (visibles xs) xs) (x ∷ take (visibles xs) xs)) stroke in
        record {
          some = λ is. omega arith;
          within = omega (arith, visibles_le xs);
          named = λ is. subst (λ k. 0 < length (name_of (take k (x ∷ xs)))) size (subst (λ l. 0 < length l) (sym name) (omega (arith, long, some)));
        }

word-sized : (x : ℕ) (xs : List ℕ) → (x == 92) ≡ false → IsPieceOf (x ∷ xs) (word (x ∷ xs) (1 + name_bytes xs))
word-sized x xs plain =
    let size : suc (name_bytes xs) ≡ 1 + name_bytes xs = omega arith in
    let name : name_of (take (suc (name_bytes xs)) (x ∷ xs)) ≡ x ∷ take (name_bytes xs) xs = ap (λ t. cond t (take (name_bytes xs) xs) (x ∷ take (name_bytes xs) xs)) plain in
    record {
      some = λ is. omega arith;
      within = omega (arith, name_bytes_le xs);
      named = λ is. subst (λ k. 0 < length (name_of (take k (x ∷ xs)))) size (subst (λ l. 0 < length l) (sym name) (omega arith));
    }

first-sized : (bytes : List ℕ) → IsPieceOf bytes (first_piece bytes)
unfolding first_piece
first-sized [] = record { some = λ is. absurd (false≢true (sym is)); within = omega arith; named = λ is. absurd (false≢true is) }
first-sized (x ∷ xs) =
    let long : (length (x ∷ xs) == 0) ≡ false = grind (arith, nat_tests) in
    let is : first_piece (x ∷ xs) ≡ cond (is_separator x) (piece kind.Gap (1 + separators xs)) (cond (x == 92) (escaped (visibles xs)) (cond (begins_name x) (word (x ∷ xs) (1 + name_bytes xs)) (comment_or_sign (x ∷ xs)))) =
    ap (λ b. cond b (piece kind.End 0) (cond (is_separator x) (piece kind.Gap (1 + separators xs)) (cond (x == 92) (escaped (visibles xs)) (cond (begins_name x) (word (x ∷ xs) (1 + name_bytes xs)) (comment_or_sign (x ∷ xs)))))) long in
    subst (IsPieceOf (x ∷ xs)) (sym is) (by_test (is_separator x) (x == 92) refl (begins_name x))
  where
    by_test : (a b : Bool) → (x == 92) ≡ b → (c : Bool) → IsPieceOf (x ∷ xs) (cond a (piece kind.Gap (1 + separators xs)) (cond b (escaped (visibles xs)) (cond c (word (x ∷ xs) (1 + name_bytes xs)) (comment_or_sign (x ∷ xs)))))
    by_test true b e c = record { some = λ is. omega arith; within = omega (arith, separators_le xs); named = λ is. absurd (false≢true is) }
    by_test false true e c = escaped-sized x xs e
    by_test false false e true = word-sized x xs e
    by_test false false e false = nameless-sized (x ∷ xs) (comment_or_sign (x ∷ xs)) (comment-nameless x xs)

-- What the first piece is not longer than, and that it and its name are not empty.

pub piece_within : (bytes : List ℕ) (p : Piece) → p ≡ first_piece bytes → p.size ≤ length bytes
piece_within bytes p is = (subst (IsPieceOf bytes) (sym is) (first-sized bytes)).within

pub piece_some : (bytes : List ℕ) (p : Piece) → p ≡ first_piece bytes → is_end p.kind ≡ false → 0 < p.size
piece_some bytes p is = (subst (IsPieceOf bytes) (sym is) (first-sized bytes)).some

pub piece_named : (bytes : List ℕ) (p : Piece) → p ≡ first_piece bytes → is_name p.kind ≡ true → 0 < length (name_of (take p.size bytes))
piece_named bytes p is = (subst (IsPieceOf bytes) (sym is) (first-sized bytes)).named
