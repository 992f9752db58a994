-- What is gathered of a text are its words.
use Rattle.std.proofs.Common.{ℕ, ◌<◌, ◌≤◌, ◌≡◌, Bool, true, false, ◌||◌, cond, ltb, List, [], ◌∷◌, ◌++◌, length, map, take, filter, Some, None, refl, ap, sym, ◌∙◌, subst, arith, length-append, append_assoc, append-nil}
use Rattle.std.specs.Prelude.{option_to_list, All}
use Rattle.std.specs.List.{slice_split, onto_first, list_any}
use Rattle.std.proofs.lemmas.Bool.{lt-ltb, le-ltb, ltb-true, ltb-false}
use Rattle.std.proofs.lemmas.List.{take-append-le, take_all, length-take-le, length-take}
use Rattle.std.proofs.lemmas.List.Elements.{All-head, All-tail}
use Rattle.std.proofs.Math.Bool.{or-false, or-true}
use Rattle.std.proofs.lemmas.List.Folds.{list_any-append}
use Rattle.lw_words.specs.Lines.{LogicalLine, is_blank, has_some, is_long, words_of, line_of, lines_of, has_words, before_trimmed, trimmed}
use Rattle.lw_words.specs.Gathering.{Gathered, nothing_gathered, with_byte, with_bytes, ended, line_gathered, IsInk}
use Rattle.lw_words.specs.Reading.{over_byte, over_bytes, gathered_from}

pub over_bytes-append : (g : Gathered) (xs ys : List ℕ) → over_bytes g (xs ++ ys) ≡ over_bytes (over_bytes g xs) ys
over_bytes-append g [] ys = refl
over_bytes-append g (x ∷ xs) ys = over_bytes-append (over_byte g x) xs ys

-- bytes of a word make it longer
pub over_bytes-ink : (g : Gathered) (bytes : List ℕ) → All IsInk bytes → over_bytes g bytes ≡ with_bytes bytes g
over_bytes-ink g [] ink = refl
over_bytes-ink g (b ∷ bytes) ink =
    ap (λ t. over_bytes (cond t (ended g) (with_byte b g)) bytes) (All-head IsInk b bytes ink).0
    ∙ over_bytes-ink (with_byte b g) bytes (All-tail IsInk b bytes ink)

-- to end a word twice is to end it once
pub ended-twice : (g : Gathered) → ended (ended g) ≡ ended g
ended-twice g = of_last g.last refl
  where
    of_last : (last : List ℕ) → g.last ≡ last → ended (ended g) ≡ ended g
    of_last [] e =
        let no : has_some g.last ≡ false = ap has_some e in
        let same : ended g ≡ g = ap (λ t. cond t (record { words = g.words ++ g.last ∷ []; last = []; long = g.long }) g) no in
        ap ended same
    of_last (b ∷ last) e =
        let yes : has_some g.last ≡ true = ap has_some e in
        let same : ended g ≡ record { words = g.words ++ g.last ∷ []; last = []; long = g.long } = ap (λ t. cond t (record { words = g.words ++ g.last ∷ []; last = []; long = g.long }) g) yes in
        ap ended same ∙ sym same

-- blanks at the end count for nothing
ended-before_trimmed : (g : Gathered) (b : ℕ) (rest : List ℕ) → ended (over_bytes g (before_trimmed b rest)) ≡ ended (over_bytes (over_byte g b) rest)
ended-before_trimmed g b (x ∷ rest) = refl
ended-before_trimmed g b [] = by_kind (is_blank b) refl
  where
    by_kind : (t : Bool) → is_blank b ≡ t → ended (over_bytes g (cond (is_blank b) [] (b ∷ []))) ≡ ended (over_byte g b)
    by_kind true e =
        ap (λ u. ended (over_bytes g (cond u [] (b ∷ [])))) e
        ∙ sym (ap (λ u. ended (cond u (ended g) (with_byte b g))) e ∙ ended-twice g)
    by_kind false e = ap (λ u. ended (over_bytes g (cond u [] (b ∷ [])))) e

pub ended-trimmed : (g : Gathered) (bytes : List ℕ) → ended (over_bytes g (trimmed bytes)) ≡ ended (over_bytes g bytes)
ended-trimmed g [] = refl
ended-trimmed g (b ∷ bytes) = ended-before_trimmed g b (trimmed bytes) ∙ ended-trimmed (over_byte g b) bytes

-- These words, each whole, and this one, which is not ended, are gathered.
record Has (g : Gathered) (words : List (List ℕ)) (last : List ℕ) : Type 0 where
  pub words_are : g.words ≡ map (take 4095) words
  pub last_is : g.last ≡ take 4095 last
  pub long_is : g.long ≡ list_any is_long (words ++ last ∷ [])

-- words before the first of others
abbrev pub onto : List ℕ → List (List ℕ) → List (List ℕ)
onto last [] = last ∷ []
onto last (word ∷ words) = (last ++ word) ∷ words

map-append : (f : List ℕ → List ℕ) (xs ys : List (List ℕ)) → map f (xs ++ ys) ≡ map f xs ++ map f ys
map-append f [] ys = refl
map-append f (x ∷ xs) ys = ap (λ r. f x ∷ r) (map-append f xs ys)

-- an empty word is not long
long-none : (words : List (List ℕ)) → list_any is_long (words ++ [] ∷ []) ≡ list_any is_long words
long-none words = list_any-append is_long words ([] ∷ []) ∙ or-false (list_any is_long words)

-- the last word ends
Has-ended : (g : Gathered) (words : List (List ℕ)) (last : List ℕ) → Has g words last → (ended g).words ≡ map (take 4095) (words ++ filter has_some (last ∷ []))
Has-ended g words [] h =
    let no : has_some g.last ≡ false = ap has_some h.last_is in
    ap (λ (e : Gathered). e.words) (ap (λ t. cond t (record { words = g.words ++ g.last ∷ []; last = []; long = g.long }) g) no)
    ∙ (h.words_are ∙ ap (map (take 4095)) (sym (append-nil words)))
Has-ended g words (b ∷ last) h =
    let yes : has_some g.last ≡ true = ap has_some h.last_is in
    ap (λ (e : Gathered). e.words) (ap (λ t. cond t (record { words = g.words ++ g.last ∷ []; last = []; long = g.long }) g) yes)
    ∙ (ap (λ ws. ws ++ g.last ∷ []) h.words_are
    ∙ (ap (λ l. map (take 4095) words ++ l ∷ []) h.last_is ∙ sym (map-append (take 4095) words ((b ∷ last) ∷ []))))

Has-behind : (g : Gathered) (words : List (List ℕ)) (last : List ℕ) → Has g words last → Has (ended g) (words ++ filter has_some (last ∷ [])) []
Has-behind g words [] h =
    let no : has_some g.last ≡ false = ap has_some h.last_is in
    let same : ended g ≡ g = ap (λ t. cond t (record { words = g.words ++ g.last ∷ []; last = []; long = g.long }) g) no in
    record {
      words_are = Has-ended g words [] h;
      last_is = ap (λ (e : Gathered). e.last) same ∙ h.last_is;
      long_is = ap (λ (e : Gathered). e.long) same ∙ (h.long_is ∙ ap (λ ws. list_any is_long (ws ++ [] ∷ [])) (sym (append-nil words)));
    }
Has-behind g words (b ∷ last) h =
    let yes : has_some g.last ≡ true = ap has_some h.last_is in
    let same : ended g ≡ record { words = g.words ++ g.last ∷ []; last = []; long = g.long } = ap (λ t. cond t (record { words = g.words ++ g.last ∷ []; last = []; long = g.long }) g) yes in
    record {
      words_are = Has-ended g words (b ∷ last) h;
      last_is = ap (λ (e : Gathered). e.last) same;
      long_is = ap (λ (e : Gathered). e.long) same ∙ (h.long_is ∙ sym (long-none (words ++ (b ∷ last) ∷ [])));
    }

-- one more byte of the last word
Has-byte : (g : Gathered) (words : List (List ℕ)) (last : List ℕ) (b : ℕ) → Has g words last → Has (with_byte b g) words (last ++ b ∷ [])
Has-byte g words last b h = by_length (ltb (length g.last) 4095) refl
  where
    is_short : length g.last < 4095 → length last < 4095
    is_short lt = by_le (ltb (length last) 4095) refl
      where
        by_le : (t : Bool) → ltb (length last) 4095 ≡ t → length last < 4095
        by_le true e = ltb-true _ _ e
        by_le false e = absurd (omega (arith, lt, ltb-false _ _ e, ap length h.last_is, length-take-le 4095 last (ltb-false _ _ e)))

    is_full : 4095 ≤ length g.last → 4095 ≤ length last
    is_full le = omega (arith, le, ap length h.last_is, (length-take 4095 last))

    long_more : (t : Bool) → is_long (last ++ b ∷ []) ≡ t → list_any is_long (words ++ (last ++ b ∷ []) ∷ []) ≡ (list_any is_long words || t)
    long_more t e = list_any-append is_long words ((last ++ b ∷ []) ∷ []) ∙ (ap (λ u. list_any is_long words || (u || false)) e ∙ ap (λ u. list_any is_long words || u) (or-false t))

    by_length : (t : Bool) → ltb (length g.last) 4095 ≡ t → Has (with_byte b g) words (last ++ b ∷ [])
    by_length true e =
        let lt = is_short (ltb-true _ _ e) in
        let longer = length-append last (b ∷ []) in
        let same : with_byte b g ≡ record { words = g.words; last = g.last ++ b ∷ []; long = g.long } = ap (λ u. cond u (record { words = g.words; last = g.last ++ b ∷ []; long = g.long }) (record { words = g.words; last = g.last; long = true })) e in
        let whole : g.last ≡ last = h.last_is ∙ take_all 4095 last (omega arith) in
        let short : is_long (last ++ b ∷ []) ≡ false = le-ltb _ _ (omega arith) in
        let was_short : is_long last ≡ false = le-ltb _ _ (omega arith) in
        record {
          words_are = ap (λ (e : Gathered). e.words) same ∙ h.words_are;
          last_is = ap (λ (e : Gathered). e.last) same ∙ (ap (λ l. l ++ b ∷ []) whole ∙ sym (take_all 4095 (last ++ b ∷ []) (omega arith)));
          long_is = ap (λ (e : Gathered). e.long) same ∙ (h.long_is ∙ ((list_any-append is_long words (last ∷ []) ∙ ap (λ u. list_any is_long words || (u || false)) was_short) ∙ sym (long_more false short)));
        }
    by_length false e =
        let le = is_full (ltb-false _ _ e) in
        let longer = length-append last (b ∷ []) in
        let same : with_byte b g ≡ record { words = g.words; last = g.last; long = true } = ap (λ u. cond u (record { words = g.words; last = g.last ++ b ∷ []; long = g.long }) (record { words = g.words; last = g.last; long = true })) e in
        let long : is_long (last ++ b ∷ []) ≡ true = lt-ltb _ _ (omega arith) in
        record {
          words_are = ap (λ (e : Gathered). e.words) same ∙ h.words_are;
          last_is = ap (λ (e : Gathered). e.last) same ∙ (h.last_is ∙ sym (take-append-le 4095 last (b ∷ []) le));
          long_is = ap (λ (e : Gathered). e.long) same ∙ sym (long_more true long ∙ or-true (list_any is_long words));
        }

pub onto-nil : (p : ℕ → Bool) (bytes : List ℕ) → onto [] (slice_split p bytes) ≡ slice_split p bytes
onto-nil p [] = refl
onto-nil p (b ∷ bytes) = by_kind (p b) (slice_split p bytes)
  where
    by_kind : (t : Bool) (parts : List (List ℕ)) → onto [] (cond t ([] ∷ parts) (onto_first b parts)) ≡ cond t ([] ∷ parts) (onto_first b parts)
    by_kind true parts = refl
    by_kind false [] = refl
    by_kind false (part ∷ parts) = refl

pub onto-byte : (last : List ℕ) (b : ℕ) (parts : List (List ℕ)) → onto last (onto_first b parts) ≡ onto (last ++ b ∷ []) parts
onto-byte last b [] = refl
onto-byte last b (part ∷ parts) = ap (λ w. w ∷ parts) (sym (append_assoc last (b ∷ []) part))

filter-first : (p : List ℕ → Bool) (word : List ℕ) (words : List (List ℕ)) → filter p (word ∷ words) ≡ filter p (word ∷ []) ++ filter p words
filter-first p word words = by_kind (p word)
  where
    by_kind : (t : Bool) → cond t (word ∷ filter p words) (filter p words) ≡ cond t (word ∷ []) [] ++ filter p words
    by_kind true = refl
    by_kind false = refl

-- the words of a text behind those
gathered-words : (g : Gathered) (words : List (List ℕ)) (last : List ℕ) (bytes : List ℕ) → Has g words last →
    Has (ended (over_bytes g bytes)) (words ++ filter has_some (onto last (slice_split is_blank bytes))) []
gathered-words g words last [] h =
    let whole : last ++ [] ≡ last = append-nil last in
    rw whole (Has-behind g words last h)
gathered-words g words last (b ∷ bytes) h = by_kind (λ g' words' last' h'. gathered-words g' words' last' bytes h') (is_blank b) refl
  where
    Rest : Type 0
    Rest = (g' : Gathered) (words' : List (List ℕ)) (last' : List ℕ) → Has g' words' last' → Has (ended (over_bytes g' bytes)) (words' ++ filter has_some (onto last' (slice_split is_blank bytes))) []

    by_kind : Rest → (t : Bool) → is_blank b ≡ t → Has (ended (over_bytes (cond (is_blank b) (ended g) (with_byte b g)) bytes)) (words ++ filter has_some (onto last (cond (is_blank b) ([] ∷ slice_split is_blank bytes) (onto_first b (slice_split is_blank bytes))))) []
    by_kind behind true e =
        let whole : last ++ [] ≡ last = append-nil last in
        let others = behind (ended g) (words ++ filter has_some (last ∷ [])) [] (Has-behind g words last h) in
        let as_parts : filter has_some (onto [] (slice_split is_blank bytes)) ≡ filter has_some (slice_split is_blank bytes) = ap (filter has_some) (onto-nil is_blank bytes) in
        let at_first : (words ++ filter has_some (last ∷ [])) ++ filter has_some (onto [] (slice_split is_blank bytes)) ≡ words ++ filter has_some (last ∷ slice_split is_blank bytes) =
        append_assoc words (filter has_some (last ∷ [])) (filter has_some (onto [] (slice_split is_blank bytes)))
        ∙ ap (λ r. words ++ r) (ap (λ r. filter has_some (last ∷ []) ++ r) as_parts ∙ sym (filter-first has_some last (slice_split is_blank bytes))) in
        rw (e, whole) (subst (λ (ws : List (List ℕ)). Has (ended (over_bytes (ended g) bytes)) ws []) at_first others)
    by_kind behind false e =
        let others = behind (with_byte b g) words (last ++ b ∷ []) (Has-byte g words last b h) in
        rw (e, onto-byte last b (slice_split is_blank bytes)) others

option-filter : (line : LogicalLine) → option_to_list (cond (has_some line.words) (Some line) None) ≡ filter has_words (line ∷ [])
option-filter line = by_words line.words refl
  where
    by_words : (words : List (List ℕ)) → line.words ≡ words → option_to_list (cond (has_some line.words) (Some line) None) ≡ cond (has_some line.words) (line ∷ []) []
    by_words [] e = ap (λ ws. option_to_list (cond (has_some ws) (Some line) None)) e ∙ sym (ap (λ ws. cond (has_some ws) (line ∷ []) []) e)
    by_words (w ∷ words) e = ap (λ ws. option_to_list (cond (has_some ws) (Some line) None)) e ∙ sym (ap (λ ws. cond (has_some ws) (line ∷ []) []) e)

-- the line of what is gathered is that of the text
pub lines_of-gathered : (number : ℕ) (bytes : List ℕ) → lines_of (record { number = number; bytes = bytes } ∷ []) ≡ option_to_list (line_gathered number (ended (gathered_from bytes)))
lines_of-gathered number bytes =
    let start : Has nothing_gathered [] [] = record { words_are = refl; last_is = refl; long_is = refl } in
    let h = gathered-words nothing_gathered [] [] bytes start in
    let parts : filter has_some (onto [] (slice_split is_blank bytes)) ≡ words_of bytes = ap (filter has_some) (onto-nil is_blank bytes) in
    let words = h.words_are ∙ ap (map (take 4095)) parts in
    let long = h.long_is ∙ (long-none (filter has_some (onto [] (slice_split is_blank bytes))) ∙ ap (list_any is_long) parts) in
    sym (
    ap (λ ws. option_to_list (cond (has_some ws) (Some (record { number = number; long = (ended (gathered_from bytes)).long; words = ws })) None)) words
    ∙ (ap (λ l. option_to_list (cond (has_some (map (take 4095) (words_of bytes))) (Some (record { number = number; long = l; words = map (take 4095) (words_of bytes) })) None)) long
    ∙ option-filter (line_of (record { number = number; bytes = bytes }))))
