-- The texts of logical lines, byte by byte.
use Rattle.std.proofs.Common.{ℕ, ◌≡◌, ◌+◌, ◌==◌, Bool, true, false, ◌&&◌, not, cond, List, [], ◌∷◌, ◌++◌, map, filter, refl, ap, sym, ◌∙◌, append_assoc, append-nil}
use Rattle.std.specs.List.{slice_split, onto_first}
use Rattle.std.proofs.lemmas.List.Elements.{filter-append}
use Rattle.lw_words.specs.Lines.{Text, LogicalLine, is_line_feed, lines_among, is_continued, with_blank, continued_by, text_before, text_of, texts_from, line_of, has_words, lines_of, logical_lines, finished_lines}
use Rattle.lw_words.specs.Reading.{Unfinished, at_start, line_ended, behind_byte, behind_bytes, unfinished}
use Rattle.lw_words.proofs.GatheredWords.{onto, onto-nil, onto-byte}

-- the texts behind a line's start
abbrev pub joined : Bool → Bool → ℕ → List ℕ → List Text → List Text
joined true ends number text texts = texts
joined false ends number text texts = continued_by ends number text texts

-- of a line that begins, nothing ended
pub record IsUnfinished (u : Unfinished) : Type 0 where
  pub no_text : u.begins ≡ true → u.text ≡ []
  pub same_number : u.begins ≡ true → u.number ≡ u.at

abbrev pub texts_behind : Bool → Bool → Unfinished → List (List ℕ) → List Text
texts_behind ends marked u lines = u.done ++ joined u.begins ends u.number u.text (texts_from ends marked u.begins u.at lines)

-- the texts where the bytes end here, or those of finished lines
abbrev pub texts_at : Bool → Bool → Unfinished → List Text
texts_at ends marked u = texts_behind ends marked u (lines_among ends (u.line ∷ []))

lines_among-more : (ends : Bool) (line bytes : List ℕ) → lines_among ends (line ∷ slice_split is_line_feed bytes) ≡ line ∷ lines_among ends (slice_split is_line_feed bytes)
lines_among-more ends line [] = refl
lines_among-more ends line (b ∷ bytes) = by_kind (is_line_feed b) (slice_split is_line_feed bytes)
  where
    by_kind : (t : Bool) (parts : List (List ℕ)) → lines_among ends (line ∷ cond t ([] ∷ parts) (onto_first b parts)) ≡ line ∷ lines_among ends (cond t ([] ∷ parts) (onto_first b parts))
    by_kind true parts = refl
    by_kind false [] = refl
    by_kind false (part ∷ parts) = refl

continued-twice : (ends : Bool) (number at : ℕ) (text more : List ℕ) (texts : List Text) → continued_by ends number text (continued_by ends at more texts) ≡ continued_by ends number (text ++ more) texts
continued-twice true number at text more [] = refl
continued-twice false number at text more [] = refl
continued-twice ends number at text more (next ∷ texts) = ap (λ bs. record { number = number; bytes = bs } ∷ texts) (sym (append_assoc text more next.bytes))

-- a continued line's start
joined-go : (begins ends : Bool) (number at : ℕ) (text more : List ℕ) (texts : List Text) → (begins ≡ true → text ≡ []) → (begins ≡ true → number ≡ at) → joined begins ends number text (continued_by ends at more texts) ≡ continued_by ends number (text ++ more) texts
joined-go true ends number at text more texts none same =
    ap (λ n. continued_by ends n more texts) (sym (same refl)) ∙ ap (λ t. continued_by ends number (t ++ more) texts) (sym (none refl))
joined-go false ends number at text more texts none same = continued-twice ends number at text more texts

-- a whole line
pub joined-stop : (begins ends : Bool) (number at : ℕ) (text more : List ℕ) (texts : List Text) → (begins ≡ true → text ≡ []) → (begins ≡ true → number ≡ at) → joined begins ends number text (record { number = at; bytes = more } ∷ texts) ≡ record { number = number; bytes = text ++ more } ∷ texts
joined-stop true ends number at text more texts none same =
    ap (λ n. record { number = n; bytes = more } ∷ texts) (sym (same refl)) ∙ ap (λ t. record { number = number; bytes = t ++ more } ∷ texts) (sym (none refl))
joined-stop false ends number at text more texts none same = refl

IsUnfinished-ended : (u : Unfinished) (text : List ℕ) → IsUnfinished (line_ended u text)
IsUnfinished-ended u text = by_kind (is_continued text)
  where
    by_kind : (t : Bool) → IsUnfinished (cond {A = Unfinished} t (record { done = u.done; begins = false; number = u.number; at = u.at + 1; text = u.text ++ with_blank text; line = [] }) (record { done = u.done ++ record { number = u.number; bytes = u.text ++ text } ∷ []; begins = true; number = u.at + 1; at = u.at + 1; text = []; line = [] }))
    by_kind true = record { no_text = λ e. cc; same_number = λ e. cc }
    by_kind false = record { no_text = λ e. refl; same_number = λ e. refl }

pub IsUnfinished-byte : (marked : Bool) (u : Unfinished) (b : ℕ) → IsUnfinished u → IsUnfinished (behind_byte marked u b)
IsUnfinished-byte marked u b h = by_kind (b == 10)
  where
    by_kind : (t : Bool) → IsUnfinished (cond {A = Unfinished} t (line_ended u (text_of (marked && u.begins) u.line)) (record { done = u.done; begins = u.begins; number = u.number; at = u.at; text = u.text; line = u.line ++ b ∷ [] }))
    by_kind true = IsUnfinished-ended u (text_of (marked && u.begins) u.line)
    by_kind false = record { no_text = h.no_text; same_number = h.same_number }

-- the end of a physical line, before the others
texts_behind-ended : (ends marked : Bool) (u : Unfinished) (text : List ℕ) (lines : List (List ℕ)) → IsUnfinished u →
    texts_behind ends marked (line_ended u text) lines ≡ u.done ++ joined u.begins ends u.number u.text (text_before ends u.at text (texts_from ends marked (not (is_continued text)) (u.at + 1) lines))
texts_behind-ended ends marked u text lines h = by_kind (is_continued text)
  where
    by_kind : (t : Bool) → texts_behind ends marked (cond {A = Unfinished} t (record { done = u.done; begins = false; number = u.number; at = u.at + 1; text = u.text ++ with_blank text; line = [] }) (record { done = u.done ++ record { number = u.number; bytes = u.text ++ text } ∷ []; begins = true; number = u.at + 1; at = u.at + 1; text = []; line = [] })) lines
        ≡ u.done ++ joined u.begins ends u.number u.text (cond t (continued_by ends u.at (with_blank text) (texts_from ends marked (not t) (u.at + 1) lines)) (record { number = u.at; bytes = text } ∷ texts_from ends marked (not t) (u.at + 1) lines))
    by_kind true = ap (λ r. u.done ++ r) (sym (joined-go u.begins ends u.number u.at u.text (with_blank text) (texts_from ends marked false (u.at + 1) lines) h.no_text h.same_number))
    by_kind false =
        append_assoc u.done (record { number = u.number; bytes = u.text ++ text } ∷ []) (texts_from ends marked true (u.at + 1) lines)
        ∙ ap (λ r. u.done ++ r) (sym (joined-stop u.begins ends u.number u.at u.text text (texts_from ends marked true (u.at + 1) lines) h.no_text h.same_number))

-- the line of what follows an ended line is empty
line-ended : (u : Unfinished) (text : List ℕ) → (line_ended u text).line ≡ []
line-ended u text = by_kind (is_continued text)
  where
    by_kind : (t : Bool) → (cond {A = Unfinished} t (record { done = u.done; begins = false; number = u.number; at = u.at + 1; text = u.text ++ with_blank text; line = [] }) (record { done = u.done ++ record { number = u.number; bytes = u.text ++ text } ∷ []; begins = true; number = u.at + 1; at = u.at + 1; text = []; line = [] })).line ≡ []
    by_kind true = refl
    by_kind false = refl

-- More bytes go on with what is unfinished.
pub texts_at-behind : (ends marked : Bool) (u : Unfinished) (bytes : List ℕ) → IsUnfinished u →
    texts_at ends marked (behind_bytes marked u bytes) ≡ texts_behind ends marked u (lines_among ends (onto u.line (slice_split is_line_feed bytes)))
texts_at-behind ends marked u [] h = ap (λ l. texts_behind ends marked u (lines_among ends (l ∷ []))) (sym (append-nil u.line))
texts_at-behind ends marked u (b ∷ bytes) h =
    texts_at-behind ends marked (behind_byte marked u b) bytes (IsUnfinished-byte marked u b h) ∙ by_kind (b == 10)
  where
    parts : List (List ℕ)
    parts = slice_split is_line_feed bytes

    by_kind : (t : Bool) →
        texts_behind ends marked (cond {A = Unfinished} t (line_ended u (text_of (marked && u.begins) u.line)) (record { done = u.done; begins = u.begins; number = u.number; at = u.at; text = u.text; line = u.line ++ b ∷ [] }))
        (lines_among ends (onto (cond {A = Unfinished} t (line_ended u (text_of (marked && u.begins) u.line)) (record { done = u.done; begins = u.begins; number = u.number; at = u.at; text = u.text; line = u.line ++ b ∷ [] })).line (slice_split is_line_feed bytes)))
        ≡ texts_behind ends marked u (lines_among ends (onto u.line (cond t ([] ∷ slice_split is_line_feed bytes) (onto_first b (slice_split is_line_feed bytes)))))
    by_kind true =
        let text = text_of (marked && u.begins) u.line in
        ap (λ l. texts_behind ends marked (line_ended u text) (lines_among ends (onto l (slice_split is_line_feed bytes)))) (line-ended u text)
        ∙ (ap (λ ps. texts_behind ends marked (line_ended u text) (lines_among ends ps)) (onto-nil is_line_feed bytes)
        ∙ (texts_behind-ended ends marked u text (lines_among ends (slice_split is_line_feed bytes)) h
        ∙ (ap (λ ls. texts_behind ends marked u ls) (sym (lines_among-more ends u.line bytes))
        ∙ ap (λ l. texts_behind ends marked u (lines_among ends (l ∷ slice_split is_line_feed bytes))) (sym (append-nil u.line)))))
    by_kind false = ap (λ ps. texts_behind ends marked u (lines_among ends ps)) (sym (onto-byte u.line b (slice_split is_line_feed bytes)))

pub IsUnfinished-start : IsUnfinished at_start
IsUnfinished-start = record { no_text = λ e. refl; same_number = λ e. refl }

pub IsUnfinished-bytes : (marked : Bool) (u : Unfinished) (bytes : List ℕ) → IsUnfinished u → IsUnfinished (behind_bytes marked u bytes)
IsUnfinished-bytes marked u [] h = h
IsUnfinished-bytes marked u (b ∷ bytes) h = IsUnfinished-bytes marked (behind_byte marked u b) bytes (IsUnfinished-byte marked u b h)

behind_bytes-append : (marked : Bool) (u : Unfinished) (xs ys : List ℕ) → behind_bytes marked u (xs ++ ys) ≡ behind_bytes marked (behind_bytes marked u xs) ys
behind_bytes-append marked u [] ys = refl
behind_bytes-append marked u (x ∷ xs) ys = behind_bytes-append marked (behind_byte marked u x) xs ys

pub unfinished-byte : (marked : Bool) (bytes : List ℕ) (b : ℕ) → unfinished marked (bytes ++ b ∷ []) ≡ behind_byte marked (unfinished marked bytes) b
unfolding unfinished
unfinished-byte marked bytes b = behind_bytes-append marked at_start bytes (b ∷ [])

pub IsUnfinished-unfinished : (marked : Bool) (bytes : List ℕ) → IsUnfinished (unfinished marked bytes)
unfolding unfinished
IsUnfinished-unfinished marked bytes = IsUnfinished-bytes marked at_start bytes IsUnfinished-start

pub lines_of-append : (xs ys : List Text) → lines_of (xs ++ ys) ≡ lines_of xs ++ lines_of ys
lines_of-append xs ys = ap (filter has_words) (map-both xs ys) ∙ filter-append has_words (map line_of xs) (map line_of ys)
  where
    map-both : (xs ys : List Text) → map line_of (xs ++ ys) ≡ map line_of xs ++ map line_of ys
    map-both [] ys = refl
    map-both (x ∷ xs) ys = ap (λ r. line_of x ∷ r) (map-both xs ys)

joined-none : (begins : Bool) (number : ℕ) (text : List ℕ) → joined begins false number text [] ≡ []
joined-none true number text = refl
joined-none false number text = refl

-- the finished lines are those that ended
pub finished_lines-are : (marked : Bool) (bytes : List ℕ) → finished_lines marked bytes ≡ lines_of (unfinished marked bytes).done
unfolding finished_lines unfinished
finished_lines-are marked bytes =
    let u = behind_bytes marked at_start bytes in
    sym (ap lines_of (
    sym (ap (λ ts. u.done ++ ts) (joined-none u.begins u.number u.text) ∙ append-nil u.done)
    ∙ (texts_at-behind false marked at_start bytes IsUnfinished-start
    ∙ ap (λ ps. texts_from false marked true 1 (lines_among false ps)) (onto-nil is_line_feed bytes))))

-- all lines are those, and what the text's end makes of the rest
pub logical_lines-are : (marked : Bool) (bytes : List ℕ) → logical_lines marked bytes ≡ lines_of (texts_at true marked (unfinished marked bytes))
unfolding logical_lines unfinished
logical_lines-are marked bytes =
    sym (ap lines_of (
    texts_at-behind true marked at_start bytes IsUnfinished-start
    ∙ ap (λ ps. texts_from true marked true 1 (lines_among true ps)) (onto-nil is_line_feed bytes)))

-- Finished lines stay the first, whatever bytes follow.
pub logical_lines-behind : (marked : Bool) (bytes more : List ℕ) → (rest : List LogicalLine) × (logical_lines marked (bytes ++ more) ≡ finished_lines marked bytes ++ rest)
unfolding unfinished
logical_lines-behind marked bytes more =
    let u = unfinished marked bytes in
    let rest = joined u.begins true u.number u.text (texts_from true marked u.begins u.at (lines_among true (onto u.line (slice_split is_line_feed more)))) in (
      lines_of rest,
      logical_lines-are marked (bytes ++ more)
          ∙ (ap (λ v. lines_of (texts_at true marked v)) (behind_bytes-append marked at_start bytes more)
          ∙ (ap lines_of (texts_at-behind true marked u more (IsUnfinished-bytes marked at_start bytes IsUnfinished-start))
          ∙ (lines_of-append u.done rest ∙ ap (λ ls. ls ++ lines_of rest) (sym (finished_lines-are marked bytes))))),
    )
