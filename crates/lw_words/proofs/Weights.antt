-- The bytes of all words and the number of words are at most one more than the bytes of the text.
use Rattle.std.proofs.Common.{ℕ, suc, ◌+◌, ◌≤◌, ◌<◌, ◌≡◌, ◌==◌, Bool, true, false, ◌&&◌, not, cond, List, [], ◌∷◌, length, map, take, filter, refl, arith, length-append}
use Rattle.std.specs.List.{slice_split, onto_first}
use Rattle.std.proofs.lemmas.List.{length-take}
use Rattle.lw_words.specs.Lines.{Text, is_blank, is_line_feed, has_some, lines_among, physical_lines, before_hash, has_mark, uncommented, before_trimmed, trimmed, text_of, is_continued, with_blank, continued_by, texts_from, words_of, line_of, has_words, lines_of, logical_lines, weight, lines_weight}

abbrev texts_weight : List Text → ℕ
texts_weight [] = 0
texts_weight (text ∷ texts) = length text.bytes + 1 + texts_weight texts

weight_onto : (x : ℕ) (words : List (List ℕ)) → 0 < weight words → weight (onto_first x words) ≡ weight words + 1
weight_onto x [] some = absurd (omega arith)
weight_onto x (word ∷ words) some = omega arith

weight_split : (p : ℕ → Bool) (xs : List ℕ) → weight (slice_split p xs) ≡ length xs + 1
weight_split p [] = omega arith
weight_split p (x ∷ xs) = by_case (p x) (weight_split p xs)
  where
    by_case : (b : Bool) → weight (slice_split p xs) ≡ length xs + 1 → weight (cond b ([] ∷ slice_split p xs) (onto_first x (slice_split p xs))) ≡ suc (length xs) + 1
    by_case true e = omega arith
    by_case false e = let f = weight_onto x (slice_split p xs) (omega arith) in omega arith

weight_filter : (p : List ℕ → Bool) (words : List (List ℕ)) → weight (filter p words) ≤ weight words
weight_filter p [] = omega arith
weight_filter p (word ∷ words) = by_case (p word) (weight_filter p words)
  where
    by_case : (b : Bool) → weight (filter p words) ≤ weight words → weight (cond b (word ∷ filter p words) (filter p words)) ≤ length word + 1 + weight words
    by_case true e = omega arith
    by_case false e = omega arith

weight_cut : (n : ℕ) (words : List (List ℕ)) → weight (map (take n) words) ≤ weight words
weight_cut n [] = omega arith
weight_cut n (word ∷ words) = let e = weight_cut n words in let f = length-take n word in omega arith

line_weight : (text : Text) → weight (line_of text).words ≤ length text.bytes + 1
line_weight text =
    let cut = weight_cut 4095 (words_of text.bytes) in
    let kept = weight_filter has_some (slice_split is_blank text.bytes) in
    let all = weight_split is_blank text.bytes in
    omega arith

before_hash_length : (line : List ℕ) → length (before_hash line) ≤ length line
before_hash_length [] = omega arith
before_hash_length (b ∷ line) = by_case (b == 35) (before_hash_length line)
  where
    by_case : (t : Bool) → length (before_hash line) ≤ length line → length (cond t [] (b ∷ before_hash line)) ≤ suc (length line)
    by_case true e = omega arith
    by_case false e = omega arith

uncommented_length : (counts : Bool) (line : List ℕ) → length (uncommented counts line) ≤ length line
uncommented_length false line = before_hash_length line
uncommented_length true [] = omega arith
uncommented_length true (b ∷ line) = by_case (has_mark (b ∷ line)) (before_hash_length line) (before_hash_length (b ∷ line))
  where
    by_case : (t : Bool) → length (before_hash line) ≤ length line → length (before_hash (b ∷ line)) ≤ suc (length line) → length (cond t (35 ∷ before_hash line) (before_hash (b ∷ line))) ≤ suc (length line)
    by_case true e f = omega arith
    by_case false e f = f

before_trimmed_length : (b : ℕ) (rest : List ℕ) → length (before_trimmed b rest) ≤ length rest + 1
before_trimmed_length b [] = by_case (is_blank b)
  where
    by_case : (t : Bool) → length (cond t [] (b ∷ [])) ≤ 0 + 1
    by_case true = omega arith
    by_case false = omega arith
before_trimmed_length b (next ∷ rest) = omega arith

trimmed_length : (bytes : List ℕ) → length (trimmed bytes) ≤ length bytes
trimmed_length [] = omega arith
trimmed_length (b ∷ bytes) = let e = trimmed_length bytes in let f = before_trimmed_length b (trimmed bytes) in omega arith

text_length : (counts : Bool) (line : List ℕ) → length (text_of counts line) ≤ length line
text_length counts line =
    let e = trimmed_length (uncommented counts line) in
    let f = uncommented_length counts line in
    omega arith

with_blank_length : (text : List ℕ) → length (with_blank text) ≡ length text
with_blank_length [] = refl
with_blank_length (b ∷ []) = refl
with_blank_length (b ∷ next ∷ bytes) = let e = with_blank_length (next ∷ bytes) in omega arith

continued_weight : (ends : Bool) (number : ℕ) (bytes : List ℕ) (texts : List Text) → texts_weight (continued_by ends number bytes texts) ≤ length bytes + 1 + texts_weight texts
continued_weight true number bytes [] = omega arith
continued_weight false number bytes [] = omega arith
continued_weight ends number bytes (text ∷ texts) = let e = length-append bytes text.bytes in omega arith

texts_fit : (ends marked begins : Bool) (number : ℕ) (lines : List (List ℕ)) → texts_weight (texts_from ends marked begins number lines) ≤ weight lines
texts_fit ends marked begins number [] = omega arith
texts_fit ends marked begins number (line ∷ lines) =
    let text = text_of (marked && begins) line in
    let next = not (is_continued text) in
    by_case text (texts_from ends marked next (number + 1) lines) (is_continued text) (text_length (marked && begins) line) (texts_fit ends marked next (number + 1) lines)
  where
    by_case : (text : List ℕ) (others : List Text) (b : Bool) → length text ≤ length line → texts_weight others ≤ weight lines →
        texts_weight (cond b (continued_by ends number (with_blank text) others) (record { number = number; bytes = text } ∷ others)) ≤ length line + 1 + weight lines
    by_case text others true short fit =
        let f = with_blank_length text in
        let c = continued_weight ends number (with_blank text) others in
        omega arith
    by_case text others false short fit = omega arith

among_weight : (ends : Bool) (parts : List (List ℕ)) → weight (lines_among ends parts) ≤ weight parts
among_weight ends [] = omega arith
among_weight ends (part ∷ []) = by_case (ends && has_some part)
  where
    by_case : (b : Bool) → weight (cond b (part ∷ []) []) ≤ length part + 1 + 0
    by_case true = omega arith
    by_case false = omega arith
among_weight ends (part ∷ next ∷ parts) = let e = among_weight ends (next ∷ parts) in omega arith

lines_fit : (texts : List Text) → lines_weight (lines_of texts) ≤ texts_weight texts
lines_fit [] = omega arith
lines_fit (text ∷ texts) = by_case (has_words (line_of text)) (line_weight text) (lines_fit texts)
  where
    by_case : (b : Bool) → weight (line_of text).words ≤ length text.bytes + 1 → lines_weight (lines_of texts) ≤ texts_weight texts →
        lines_weight (cond b (line_of text ∷ lines_of texts) (lines_of texts)) ≤ length text.bytes + 1 + texts_weight texts
    by_case true e f = omega arith
    by_case false e f = omega arith

pub weights_fit : (marked : Bool) (bytes : List ℕ) → lines_weight (logical_lines marked bytes) ≤ length bytes + 1
unfolding logical_lines
weights_fit marked bytes =
    let lines = lines_fit (texts_from true marked true 1 (physical_lines true bytes)) in
    let texts = texts_fit true marked true 1 (physical_lines true bytes) in
    let last = among_weight true (slice_split is_line_feed bytes) in
    let all = weight_split is_line_feed bytes in
    omega arith
