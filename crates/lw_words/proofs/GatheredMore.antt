-- What is gathered grows.
use Rattle.std.proofs.Common.{ℕ, ◌+◌, ◌-◌, ◌<◌, ◌≤◌, ◌≡◌, Bool, true, false, cond, Some, None, ltb, List, [], ◌∷◌, ◌++◌, length, take, drop, refl, ap, sym, ◌∙◌, arith, length-append, append_assoc, append-nil}
use Rattle.std.specs.Prelude.{All}
use Rattle.std.specs.List.{slice_range}
use Rattle.std.specs.Str.{bytes_eq}
use Rattle.std.proofs.lemmas.Bool.{lt-ltb, le-ltb}
use Rattle.std.proofs.lemmas.List.{drop-append-le, length-drop, length-take-le, take-append-drop, take_all, drop_all}
use Rattle.std.proofs.lemmas.List.Elements.{All-append, All-push, All-nil, All-cons, All-take}
use Rattle.lw_words.specs.Lines.{has_some}
use Rattle.lw_words.specs.Arenas.{words_at, last_end}
use Rattle.lw_words.specs.Gathering.{Gathered, with_byte, with_bytes, ended, IsInk, IsNoHash, IsWord, HasNoHash, IsGathered, IsKept, IsLine, line_gathered}
use Rattle.lw_words.proofs.WordsAt.{AreEnds-more, AreEnds-push, last_end-push, words_at-push, words_at-append, length-words_at}

has_some-length : {A : Type 0} (xs : List A) → 0 < length xs → has_some xs ≡ true
has_some-length [] some = absurd (omega arith)
has_some-length (x ∷ xs) some = refl

abbrev pub gathered : List ℕ → List ℕ → ℕ → Bool → Gathered
gathered bytes ends start long = record { words = words_at 0 bytes ends; last = drop start bytes; long = long }

-- more bytes of the last word
pub gathered-append : (bytes ends : List ℕ) (start : ℕ) (long : Bool) (more : List ℕ) → IsKept bytes ends start long → gathered (bytes ++ more) ends start long ≡ record { words = words_at 0 bytes ends; last = drop start bytes ++ more; long = long }
gathered-append bytes ends start long more h =
    ap (λ ws. record { words = ws; last = drop start (bytes ++ more); long = long }) (words_at-append 0 bytes more ends h.are_ends)
    ∙ ap (λ l. record { words = words_at 0 bytes ends; last = l; long = long }) (drop-append-le start bytes more h.within)

pub gathered-push : (bytes ends : List ℕ) (start : ℕ) (long : Bool) (b : ℕ) → IsKept bytes ends start long → length bytes - start < 4095 → gathered (bytes ++ b ∷ []) ends start long ≡ with_byte b (gathered bytes ends start long)
gathered-push bytes ends start long b h few =
    let short : ltb (length (drop start bytes)) 4095 ≡ true = lt-ltb _ _ (omega (arith, length-drop start bytes)) in
    gathered-append bytes ends start long (b ∷ []) h
    ∙ sym (ap (λ t. cond t (record { words = words_at 0 bytes ends; last = drop start bytes ++ b ∷ []; long = long }) (record { words = words_at 0 bytes ends; last = drop start bytes; long = true })) short)

IsGathered-append : (words : List (List ℕ)) (last : List ℕ) (long : Bool) (more : List ℕ) → IsGathered (record { words = words; last = last; long = long }) → length last + length more ≤ 4095 → All IsInk more → All IsNoHash more → IsGathered (record { words = words; last = last ++ more; long = long })
IsGathered-append words last long more h few ink plain = record {
  are_words = h.are_words;
  no_hash = h.no_hash;
  few = omega (arith, length-append last more);
  ink = All-append IsInk last more h.ink ink;
  plain = All-append IsNoHash last more h.plain plain;
  cut = λ e. omega (arith, h.cut e, length-append last more);
}

pub IsKept-append : (bytes ends : List ℕ) (start : ℕ) (long : Bool) (more : List ℕ) → IsKept bytes ends start long → length bytes - start + length more ≤ 4095 → All IsInk more → All IsNoHash more → IsKept (bytes ++ more) ends start long
IsKept-append bytes ends start long more h few ink plain =
    let longer = length-append bytes more in
    record {
      are_ends = AreEnds-more 0 (length bytes) (length (bytes ++ more)) ends (omega arith) h.are_ends;
      is_start = h.is_start;
      within = omega (arith, h.within);
      gathered =
          rw (words_at-append 0 bytes more ends h.are_ends, drop-append-le start bytes more h.within)
          (IsGathered-append _ _ long more h.gathered (omega (arith, length-drop start bytes)) ink plain);
    }

pub IsKept-push : (bytes ends : List ℕ) (start : ℕ) (long : Bool) (b : ℕ) → IsKept bytes ends start long → length bytes - start < 4095 → IsInk b → IsNoHash b → IsKept (bytes ++ b ∷ []) ends start long
IsKept-push bytes ends start long b h few ink plain =
    IsKept-append bytes ends start long (b ∷ []) h (omega arith) (All-cons IsInk b [] ink (All-nil IsInk)) (All-cons IsNoHash b [] plain (All-nil IsNoHash))

-- a word without `#` keeps this
HasNoHash-push : (words : List (List ℕ)) (word : List ℕ) → HasNoHash words → All IsNoHash word → HasNoHash (words ++ word ∷ [])
HasNoHash-push [] word h plain = of_first (bytes_eq word (35 ∷ 64 ∷ []))
  where
    of_first : (b : Bool) → All (All IsNoHash) (cond b [] (word ∷ []))
    of_first true = All-nil (All IsNoHash)
    of_first false = All-cons (All IsNoHash) word [] plain (All-nil (All IsNoHash))
HasNoHash-push (first ∷ words) word h plain = of_first (bytes_eq first (35 ∷ 64 ∷ [])) h
  where
    of_first : (b : Bool) → All (All IsNoHash) (cond b words (first ∷ words)) → All (All IsNoHash) (cond b (words ++ word ∷ []) (first ∷ words ++ word ∷ []))
    of_first true k = All-push (All IsNoHash) words word k plain
    of_first false k = All-push (All IsNoHash) (first ∷ words) word k plain

IsGathered-end : (words : List (List ℕ)) (last : List ℕ) (long : Bool) → 0 < length last → IsGathered (record { words = words; last = last; long = long }) → IsGathered (record { words = words ++ last ∷ []; last = []; long = long })
IsGathered-end words last long some h = record {
  are_words = All-push IsWord words last h.are_words (record { some = some; few = h.few; ink = h.ink });
  no_hash = HasNoHash-push words last h.no_hash h.plain;
  few = omega arith;
  ink = All-nil IsInk;
  plain = All-nil IsNoHash;
  cut = λ e. omega (arith, length-append words (last ∷ []));
}

words_at-end : (bytes ends : List ℕ) (start : ℕ) → start ≡ last_end 0 ends → words_at 0 bytes (ends ++ length bytes ∷ []) ≡ words_at 0 bytes ends ++ drop start bytes ∷ []
words_at-end bytes ends start is =
    words_at-push 0 bytes ends (length bytes)
    ∙ ap (λ w. words_at 0 bytes ends ++ w ∷ [])
    (ap (λ s. slice_range bytes s (length bytes)) (sym is) ∙ take_all (length bytes - start) (drop start bytes) (omega (arith, length-drop start bytes)))

pub gathered-end : (bytes ends : List ℕ) (start : ℕ) (long : Bool) → IsKept bytes ends start long → start < length bytes → gathered bytes (ends ++ length bytes ∷ []) (length bytes) long ≡ ended (gathered bytes ends start long)
gathered-end bytes ends start long h some =
    let is = has_some-length (drop start bytes) (omega (arith, length-drop start bytes)) in
    ap (λ ws. record { words = ws; last = drop (length bytes) bytes; long = long }) (words_at-end bytes ends start h.is_start)
    ∙ (ap (λ l. record { words = words_at 0 bytes ends ++ drop start bytes ∷ []; last = l; long = long }) (drop_all (length bytes) bytes (omega arith))
    ∙ sym (ap (λ t. cond t (record { words = words_at 0 bytes ends ++ drop start bytes ∷ []; last = []; long = long }) (record { words = words_at 0 bytes ends; last = drop start bytes; long = long })) is))

pub IsKept-end : (bytes ends : List ℕ) (start : ℕ) (long : Bool) → IsKept bytes ends start long → start < length bytes → IsKept bytes (ends ++ length bytes ∷ []) (length bytes) long
IsKept-end bytes ends start long h some =
    let few = h.gathered.few in
    record {
      are_ends = AreEnds-push 0 (length bytes) ends (length bytes) h.are_ends (omega (arith, h.is_start)) (omega (arith, h.is_start, few, length-drop start bytes)) (omega arith);
      is_start = sym (last_end-push 0 ends (length bytes));
      within = omega arith;
      gathered =
          rw (words_at-end bytes ends start h.is_start, drop_all (length bytes) bytes (omega arith))
          (IsGathered-end _ _ long (omega (arith, length-drop start bytes)) h.gathered);
    }

-- words that are gathered are those of a line
pub IsLine-gathered : (bytes ends : List ℕ) (start : ℕ) (long : Bool) → IsKept bytes ends start long → 0 < length ends → IsLine (words_at 0 bytes ends)
IsLine-gathered bytes ends start long h some = record {
  some = omega (arith, length-words_at 0 bytes ends);
  are_words = h.gathered.are_words;
  no_hash = h.gathered.no_hash;
}

pub line-gathered : (bytes ends : List ℕ) (start : ℕ) (long : Bool) (number : ℕ) → 0 < length ends → Some (record { number = number; long = long; words = words_at 0 bytes ends }) ≡ line_gathered number (gathered bytes ends start long)
line-gathered bytes ends start long number some =
    let is = has_some-length (words_at 0 bytes ends) (omega (arith, length-words_at 0 bytes ends)) in
    sym (ap (λ t. cond t (Some (record { number = number; long = long; words = words_at 0 bytes ends })) None) is)

-- More bytes at once.

with_bytes-append : (g : Gathered) (xs ys : List ℕ) → with_bytes (xs ++ ys) g ≡ with_bytes ys (with_bytes xs g)
with_bytes-append g [] ys = refl
with_bytes-append g (x ∷ xs) ys = with_bytes-append (with_byte x g) xs ys

-- there is room for all of them
with_bytes-all : (words : List (List ℕ)) (last : List ℕ) (long : Bool) (bytes : List ℕ) → length last + length bytes ≤ 4095 → with_bytes bytes (record { words = words; last = last; long = long }) ≡ record { words = words; last = last ++ bytes; long = long }
with_bytes-all words last long [] room = ap (λ l. record { words = words; last = l; long = long }) (sym (append-nil last))
with_bytes-all words last long (b ∷ bytes) room =
    let short : ltb (length last) 4095 ≡ true = lt-ltb _ _ (omega arith) in
    ap (λ t. with_bytes bytes (cond t (record { words = words; last = last ++ b ∷ []; long = long }) (record { words = words; last = last; long = true }))) short
    ∙ (with_bytes-all words (last ++ b ∷ []) long bytes (omega (arith, length-append last (b ∷ [])))
    ∙ ap (λ l. record { words = words; last = l; long = long }) (append_assoc last (b ∷ []) bytes))

-- there is no room for any
with_bytes-none : (words : List (List ℕ)) (last : List ℕ) (bytes : List ℕ) → 4095 ≤ length last → with_bytes bytes (record { words = words; last = last; long = true }) ≡ record { words = words; last = last; long = true }
with_bytes-none words last [] full = refl
with_bytes-none words last (b ∷ bytes) full =
    let cut : ltb (length last) 4095 ≡ false = le-ltb _ _ full in
    ap (λ t. with_bytes bytes (cond t (record { words = words; last = last ++ b ∷ []; long = true }) (record { words = words; last = last; long = true }))) cut
    ∙ with_bytes-none words last bytes full

-- some of them are cut
with_bytes-cut : (words : List (List ℕ)) (last : List ℕ) (long : Bool) (bytes : List ℕ) → 4095 ≤ length last → 0 < length bytes → with_bytes bytes (record { words = words; last = last; long = long }) ≡ record { words = words; last = last; long = true }
with_bytes-cut words last long [] full some = absurd (omega arith)
with_bytes-cut words last long (b ∷ bytes) full some =
    let cut : ltb (length last) 4095 ≡ false = le-ltb _ _ full in
    ap (λ t. with_bytes bytes (cond t (record { words = words; last = last ++ b ∷ []; long = long }) (record { words = words; last = last; long = true }))) cut
    ∙ with_bytes-none words last bytes full

-- so many of them are kept
pub gathered-push_all : (bytes ends : List ℕ) (start : ℕ) (long : Bool) (more : List ℕ) → IsKept bytes ends start long → length bytes - start + length more ≤ 4095 → gathered (bytes ++ more) ends start long ≡ with_bytes more (gathered bytes ends start long)
gathered-push_all bytes ends start long more h few =
    gathered-append bytes ends start long more h
    ∙ sym (with_bytes-all (words_at 0 bytes ends) (drop start bytes) long more (omega (arith, length-drop start bytes)))

pub gathered-push_cut : (bytes ends : List ℕ) (start : ℕ) (long : Bool) (more : List ℕ) (n : ℕ) → IsKept bytes ends start long → n < length more → length bytes - start + n ≡ 4095 → gathered (bytes ++ take n more) ends start true ≡ with_bytes more (gathered bytes ends start long)
gathered-push_cut bytes ends start long more n h cut full =
    let words = words_at 0 bytes ends in
    let last = drop start bytes in
    let len = length-drop start bytes in
    let kept : length (take n more) ≡ n = length-take-le n more (omega arith) in
    let longer = length-append last (take n more) in
    ap (λ (g : Gathered). record { words = g.words; last = g.last; long = true }) (gathered-append bytes ends start long (take n more) h)
    ∙ sym (
    ap (λ bs. with_bytes bs (gathered bytes ends start long)) (sym (take-append-drop n more))
    ∙ (with_bytes-append (gathered bytes ends start long) (take n more) (drop n more)
    ∙ (ap (with_bytes (drop n more)) (with_bytes-all words last long (take n more) (omega arith))
    ∙ with_bytes-cut words (last ++ take n more) long (drop n more) (omega arith) (omega (arith, length-drop n more)))))

pub IsKept-cut : (bytes ends : List ℕ) (start : ℕ) (long : Bool) (more : List ℕ) (n : ℕ) → IsKept bytes ends start long → n < length more → length bytes - start + n ≡ 4095 → All IsInk more → All IsNoHash more → IsKept (bytes ++ take n more) ends start true
IsKept-cut bytes ends start long more n h cut full ink plain =
    let kept = length-take-le n more (omega arith) in
    let longer = length-append bytes (take n more) in
    let k = IsKept-append bytes ends start long (take n more) h (omega arith) (All-take IsInk n more ink) (All-take IsNoHash n more plain) in
    record {
      are_ends = k.are_ends;
      is_start = k.is_start;
      within = k.within;
      gathered = record {
        are_words = k.gathered.are_words;
        no_hash = k.gathered.no_hash;
        few = k.gathered.few;
        ink = k.gathered.ink;
        plain = k.gathered.plain;
        cut = λ e. omega (arith, length-drop start (bytes ++ take n more), k.within, h.within);
      };
    }
