-- Options, one after another.
use Rattle.std.proofs.Common.{◌≡◌, ◌<◌, ◌≤◌, ◌+◌, ◌-◌, ◌∙◌, ℕ, zero, suc, Bool, true, false, cond, List, [], ◌∷◌, Some, length, get_or, slice_get, take, drop, map, refl, ap, sym, subst, arith}
use Rattle.std.specs.Prelude.{codes}
use Rattle.std.specs.Str.{bytes_eq}
use Rattle.std.proofs.lemmas.List.{length-map, take_all}
use Rattle.lw_top.specs.Words.{is_file_word}
use Rattle.lw_area.specs.Words.{Settings, checked_from, checked_of, checking_first, checking_of, files_behind, files_of, no_option, option_of, options_of, then_options}

split : {S : Type 0} (bytes : S → List ℕ) (rest : List S) (d : S) → 1 ≤ length rest → d ≡ get_or rest 0 d → map bytes rest ≡ bytes d ∷ map bytes (drop 1 rest)
split bytes [] d le same = absurd (omega arith)
split bytes (x ∷ rest) d le same = ap (λ y. bytes y ∷ map bytes rest) (sym same)

-- all words behind the first
pub all_behind : {S : Type 0} (rest : List S) → take (length rest - 1) (drop 1 rest) ≡ drop 1 rest
all_behind [] = refl
all_behind (x ∷ rest) = take_all (length (x ∷ rest) - 1) rest (omega arith)

-- as many options as there are words were read
pub ended : (checked : Bool) (s : Settings) (end counter : ℕ) → end ≤ counter → (words : List (List ℕ)) → options_of (end - counter) checked s words ≡ files_behind checked s words
ended checked s end counter le words =
    let e : end - counter ≡ 0 = omega arith in
    ap (λ n. options_of n checked s words) e ∙ by_words words
  where
    by_words : (words : List (List ℕ)) → options_of 0 checked s words ≡ files_behind checked s words
    by_words [] = refl
    by_words (word ∷ words) = refl

-- no word is left
pub no_word : {S : Type 0} (bytes : S → List ℕ) (rest : List S) → length rest < 1 → (checked : Bool) (s : Settings) (n : ℕ) → options_of n checked s (map bytes rest) ≡ files_behind checked s (map bytes rest)
no_word bytes [] lt checked s zero = refl
no_word bytes [] lt checked s (suc n) = refl
no_word bytes (x ∷ rest) lt checked s n = absurd (omega arith)

module _ {S : Type 0} (bytes : S → List ℕ) (rest : List S) (d : S) (some : 1 ≤ length rest) (same : d ≡ get_or rest 0 d) (checked : Bool) (s : Settings) where
  abbrev word : List ℕ
  word = bytes d

  abbrev more : List (List ℕ)
  more = map bytes (drop 1 rest)

  -- the word is an option
  pub one_more : (end counter : ℕ) → counter < end → is_file_word word ≡ false → options_of (end - counter) checked s (map bytes rest) ≡ then_options (options_of (end - (counter + 1)) checked) (option_of checked s word more)
  one_more end counter lt is =
      let e : end - counter ≡ suc (end - (counter + 1)) = omega arith in
      ap (λ n. options_of n checked s (map bytes rest)) e
      ∙ (ap (options_of (suc (end - (counter + 1))) checked s) (split bytes rest d some same) ∙ ap (λ b. cond b (files_behind checked s (word ∷ more)) (then_options (options_of (end - (counter + 1)) checked) (option_of checked s word more))) is)

  -- the word names a file
  pub files_begin : (n : ℕ) → is_file_word word ≡ true → options_of n checked s (map bytes rest) ≡ files_behind checked s (map bytes rest)
  files_begin n is = subst (λ ws. options_of n checked s ws ≡ files_behind checked s ws) (sym (split bytes rest d some same)) (by_count n)
    where
      by_count : (n : ℕ) → options_of n checked s (word ∷ more) ≡ files_behind checked s (word ∷ more)
      by_count zero = refl
      by_count (suc n) = ap (λ b. cond b (files_behind checked s (word ∷ more)) (then_options (options_of n checked) (option_of checked s word more))) is

-- the word at a place, and the words before it
word_at : {S : Type 0} (bytes : S → List ℕ) (words : List S) (k : ℕ) (d : S) → k < length words → d ≡ get_or words k d → slice_get (map bytes words) k ≡ Some (bytes d)
word_at bytes [] k d lt same = absurd (omega arith)
word_at bytes (x ∷ words) zero d lt same = ap (λ y. Some (bytes y)) (sym same)
word_at bytes (x ∷ words) (suc k) d lt same = word_at bytes words k d (omega arith) same

words_before : {S : Type 0} (bytes : S → List ℕ) (words : List S) (n : ℕ) → take n (map bytes words) ≡ map bytes (take n words)
words_before bytes words zero = refl
words_before bytes [] (suc n) = refl
words_before bytes (x ∷ words) (suc n) = ap (λ (ws : List (List ℕ)). bytes x ∷ ws) (words_before bytes words n)

-- the last word is the netlist that is checked
pub checked_last : {S : Type 0} (bytes : S → List ℕ) (words : List S) (d : S) → 1 ≤ length words → d ≡ get_or words (length words - 1) d → (s : Settings) → checked_of s (map bytes words) ≡ checking_of (bytes d) (files_of s (map bytes (take (length words - 1) words)))
checked_last {S} bytes words d le same s =
    let ws : List (List ℕ) = map bytes words in
    let count : length ws ≡ length words = length-map words bytes in
    let at : slice_get ws (length words - 1) ≡ Some (bytes d) = word_at bytes words (length words - 1) d (omega arith) same in
    ap (λ (n : ℕ). checked_from s ws (slice_get ws (n - 1))) count
    ∙ (ap (checked_from s ws) at
    ∙ (ap (λ (n : ℕ). checking_of (bytes d) (files_of s (take (n - 1) ws))) count
    ∙ ap (λ (xs : List (List ℕ)). checking_of (bytes d) (files_of s xs)) (words_before bytes words (length words - 1))))

-- where `-k` does not stand first
pub none_first : {S : Type 0} (bytes : S → List ℕ) (words : List S) → length words < 1 → options_of (length words) false no_option (map bytes words) ≡ checking_first (map bytes words)
none_first bytes [] lt = refl
none_first bytes (x ∷ words) lt = absurd (omega arith)

pub other_first : {S : Type 0} (bytes : S → List ℕ) (words : List S) (d : S) → 1 ≤ length words → d ≡ get_or words 0 d → bytes_eq (bytes d) (codes "-k") ≡ false → options_of (length words) false no_option (map bytes words) ≡ checking_first (map bytes words)
other_first bytes [] d le same is = absurd (omega arith)
other_first {S} bytes (x ∷ words) d le same is =
    let test : bytes_eq (bytes x) (codes "-k") ≡ false = subst (λ (y : S). bytes_eq (bytes y) (codes "-k") ≡ false) same is in
    ap (λ (n : ℕ). options_of (suc n) false no_option (bytes x ∷ map bytes words)) (sym (length-map words bytes))
    ∙ sym (ap (λ (b : Bool). cond b (options_of (length (map bytes words)) true no_option (map bytes words)) (options_of (length (bytes x ∷ map bytes words)) false no_option (bytes x ∷ map bytes words))) test)
