-- What a place and what is gathered say of a line stays true over a byte.
use Rattle.std.proofs.Common.{ℕ, ◌≡◌, ◌==◌, Bool, true, false, ◌&&◌, cond, List, [], ◌∷◌, ◌++◌, refl, ap, sym, ◌∙◌, subst, append_assoc, append-nil}
use Rattle.std.proofs.lemmas.Bool.{eqb-true}
use Rattle.lw_words.specs.declared.place.Place.{Place}
use Rattle.lw_words.specs.declared.place.Place.TheVariants.{Start, Hash, Mark, Text, Stroke, Gap, Comment, ContinuedComment}
use Rattle.lw_words.specs.Lines.{is_blank, has_mark, is_cut, before_hash, uncommented, trimmed, is_continued, with_blank}
use Rattle.lw_words.specs.Gathering.{Gathered, nothing_gathered, mark_gathered, with_byte, ended}
use Rattle.lw_words.specs.Reading.{Unfinished, after_ink, after_text, after_stroke, place_after, with_ink, over_text, over_stroke, gathered_after, over_byte, over_bytes, gathered_from, IsPlain, IsBehindStroke, IsContinued, IsFirst, HasNoComment, HasComment, Fits}
use Rattle.lw_words.proofs.Trimming.{trimmed-blank, trimmed-ink, is_continued-last, with_blank-last}
use Rattle.lw_words.proofs.GatheredWords.{over_bytes-append, ended-twice}

-- the line has one more byte
abbrev pub with_more : Unfinished → ℕ → Unfinished
with_more u b = record { done = u.done; begins = u.begins; number = u.number; at = u.at; text = u.text; line = u.line ++ b ∷ [] }

gathered-more : (text line : List ℕ) (b : ℕ) (g : Gathered) → gathered_from (text ++ line) ≡ g → gathered_from (text ++ (line ++ b ∷ [])) ≡ over_byte g b
gathered-more text line b g e =
    ap gathered_from (sym (append_assoc text line (b ∷ [])))
    ∙ (over_bytes-append nothing_gathered (text ++ line) (b ∷ []) ∙ ap (λ h. over_byte h b) e)

over-blank : (g : Gathered) (b : ℕ) → is_blank b ≡ true → over_byte g b ≡ ended g
over-blank g b e = ap (λ t. cond t (ended g) (with_byte b g)) e

over-ink : (g : Gathered) (b : ℕ) → is_blank b ≡ false → over_byte g b ≡ with_byte b g
over-ink g b e = ap (λ t. cond t (ended g) (with_byte b g)) e

no_comment-more : (counts : Bool) (line : List ℕ) (b : ℕ) → (b == 35) ≡ false → HasNoComment counts line → HasNoComment counts (line ++ b ∷ [])
no_comment-more counts line b fails h = record {
  more = λ more.
      ap (uncommented counts) (append_assoc line (b ∷ []) more)
      ∙ (h.more (b ∷ more)
      ∙ (ap (λ t. line ++ cond t [] (b ∷ before_hash more)) fails ∙ sym (append_assoc line (b ∷ []) (before_hash more))));
}

comment-begins : (counts : Bool) (line : List ℕ) (b : ℕ) (more : List ℕ) → (b == 35) ≡ true → HasNoComment counts line → uncommented counts ((line ++ b ∷ []) ++ more) ≡ line
comment-begins counts line b more holds h =
    ap (uncommented counts) (append_assoc line (b ∷ []) more)
    ∙ (h.more (b ∷ more) ∙ (ap (λ t. line ++ cond t [] (b ∷ before_hash more)) holds ∙ append-nil line))

comment-kept : (counts : Bool) (line : List ℕ) (b : ℕ) → (b == 35) ≡ true → HasNoComment counts line → uncommented counts (line ++ b ∷ []) ≡ line
comment-kept counts line b holds h =
    ap (uncommented counts) (sym (append-nil (line ++ b ∷ []))) ∙ comment-begins counts line b [] holds h

has_comment-begins : (counts : Bool) (line : List ℕ) (b : ℕ) → (b == 35) ≡ true → HasNoComment counts line → HasComment counts (line ++ b ∷ [])
has_comment-begins counts line b holds h = record {
  more = λ more. comment-begins counts line b more holds h ∙ sym (comment-kept counts line b holds h);
}

has_comment-more : (counts : Bool) (line : List ℕ) (b : ℕ) → HasComment counts line → HasComment counts (line ++ b ∷ [])
has_comment-more counts line b h = record {
  more = λ more. ap (uncommented counts) (append_assoc line (b ∷ []) more) ∙ (h.more (b ∷ more) ∙ sym (h.more (b ∷ [])));
}

-- Over a byte that is no blank and no `#`, behind all that these bytes gather.
fits-ink : (counts : Bool) (u : Unfinished) (b : ℕ) (g : Gathered) → is_blank b ≡ false → HasNoComment counts (u.line ++ b ∷ []) → gathered_from (u.text ++ u.line) ≡ g → Fits counts (with_more u b) (after_ink b) (with_ink b g)
fits-ink counts u b g ink no_comment bytes = by_kind (b == 92) refl
  where
    by_kind : (t : Bool) → (b == 92) ≡ t → Fits counts (with_more u b) (cond t Stroke Text) (cond t g (with_byte b g))
    by_kind true e =
        let is : b ≡ 92 = eqb-true b 92 e in
        let ends : trimmed (u.line ++ b ∷ []) ≡ u.line ++ b ∷ [] = trimmed-ink u.line b ink in (
          no_comment,
          record {
            ends = ap is_continued ends ∙ (is_continued-last u.line b ∙ e);
            bytes = gathered-more u.text u.line b g bytes ∙ (over-ink g b ink ∙ ap (λ n. with_byte n g) is);
            before = ap (λ k. gathered_from (u.text ++ with_blank k)) ends ∙ (ap (λ k. gathered_from (u.text ++ k)) (with_blank-last u.line b) ∙ gathered-more u.text u.line 32 g bytes);
          },
        )
    by_kind false e =
        let ends : trimmed (u.line ++ b ∷ []) ≡ u.line ++ b ∷ [] = trimmed-ink u.line b ink in (
          no_comment,
          record {
            ends = ap is_continued ends ∙ (is_continued-last u.line b ∙ e);
            bytes = gathered-more u.text u.line b g bytes ∙ over-ink g b ink;
          },
        )

-- Over a byte that is no `#`, behind text.
fits-plain : (counts : Bool) (u : Unfinished) (b : ℕ) (g : Gathered) → HasNoComment counts (u.line ++ b ∷ []) → IsPlain u.text u.line g → Fits counts (with_more u b) (cond (is_blank b) Text (after_ink b)) (cond (is_blank b) (ended g) (with_ink b g))
fits-plain counts u b g no_comment h = by_kind (is_blank b) refl
  where
    by_kind : (t : Bool) → is_blank b ≡ t → Fits counts (with_more u b) (cond t Text (after_ink b)) (cond t (ended g) (with_ink b g))
    by_kind true e = (
      no_comment,
      record {
        ends = ap is_continued (trimmed-blank u.line b e) ∙ h.ends;
        bytes = gathered-more u.text u.line b g h.bytes ∙ over-blank g b e;
      },
    )
    by_kind false e = fits-ink counts u b g e no_comment h.bytes

fits-text : (counts : Bool) (u : Unfinished) (b : ℕ) (g : Gathered) → HasNoComment counts u.line → IsPlain u.text u.line g → Fits counts (with_more u b) (after_text b) (over_text b g)
fits-text counts u b g no_comment h = by_kind (b == 35) refl
  where
    by_kind : (t : Bool) → (b == 35) ≡ t → Fits counts (with_more u b) (cond t Comment (cond (is_blank b) Text (after_ink b))) (cond t g (cond (is_blank b) (ended g) (with_ink b g)))
    by_kind true e = (
      has_comment-begins counts u.line b e no_comment,
      subst (λ (k : List ℕ). IsPlain u.text k g) (sym (comment-kept counts u.line b e no_comment)) h,
    )
    by_kind false e = fits-plain counts u b g (no_comment-more counts u.line b e no_comment) h

fits-stroke : (counts : Bool) (u : Unfinished) (b : ℕ) (g flushed : Gathered) → ended flushed ≡ ended (with_byte 92 g) → HasNoComment counts u.line → IsBehindStroke u.text u.line g flushed → Fits counts (with_more u b) (after_stroke b) (over_stroke b g flushed)
fits-stroke counts u b g flushed same no_comment h = by_hash (b == 35) refl
  where
    by_blank : (b == 35) ≡ false → (t : Bool) → is_blank b ≡ t → Fits counts (with_more u b) (cond t Gap (after_ink b)) (cond t g (with_ink b flushed))
    by_blank fails true e = (
      no_comment-more counts u.line b fails no_comment,
      record {
        ends = ap is_continued (trimmed-blank u.line b e) ∙ h.ends;
        bytes = gathered-more u.text u.line b flushed h.bytes ∙ (over-blank flushed b e ∙ same);
        before = ap (λ k. gathered_from (u.text ++ with_blank k)) (trimmed-blank u.line b e) ∙ h.before;
      },
    )
    by_blank fails false e = fits-ink counts u b flushed e (no_comment-more counts u.line b fails no_comment) h.bytes

    by_hash : (t : Bool) → (b == 35) ≡ t → Fits counts (with_more u b) (cond t ContinuedComment (cond (is_blank b) Gap (after_ink b))) (cond t g (cond (is_blank b) g (with_ink b flushed)))
    by_hash true e = (
      has_comment-begins counts u.line b e no_comment,
      subst (λ (k : List ℕ). IsContinued u.text k g) (sym (comment-kept counts u.line b e no_comment)) (record { ends = h.ends; before = h.before }),
    )
    by_hash false e = by_blank e (is_blank b) refl

-- The first bytes of a line on which a mark may stand.

no_mark : (b : ℕ) (more : List ℕ) → (b == 35) ≡ false → has_mark (b ∷ more) ≡ false
no_mark b [] fails = refl
no_mark b (x ∷ more) fails = ap (λ t. (t && x == 64) && is_cut more) fails

starts-plain : (b : ℕ) → (b == 35) ≡ false → HasNoComment true (b ∷ [])
starts-plain b fails = record {
  more = λ more.
      ap (λ t. cond t (35 ∷ before_hash more) (before_hash (b ∷ more))) (no_mark b more fails)
      ∙ ap (λ t. cond t [] (b ∷ before_hash more)) fails;
}

hash-alone : (b : ℕ) → (b == 64) ≡ false → HasComment true (35 ∷ b ∷ [])
hash-alone b fails = record {
  more = λ more.
      ap (λ t. cond (t && is_cut more) (35 ∷ before_hash (b ∷ more)) []) fails
      ∙ sym (ap (λ t. cond (t && true) (35 ∷ before_hash (b ∷ [])) []) fails);
}

hash-kept : (b : ℕ) → (b == 64) ≡ false → uncommented true (35 ∷ b ∷ []) ≡ []
hash-kept b fails = ap (λ t. cond (t && true) (35 ∷ before_hash (b ∷ [])) []) fails

mark-broken : (b : ℕ) → is_blank b ≡ false → HasComment true (35 ∷ 64 ∷ b ∷ [])
mark-broken b fails = record {
  more = λ more.
      ap (λ t. cond t (35 ∷ 64 ∷ before_hash (b ∷ more)) []) fails
      ∙ sym (ap (λ t. cond t (35 ∷ 64 ∷ before_hash (b ∷ [])) []) fails);
}

mark-broken-kept : (b : ℕ) → is_blank b ≡ false → uncommented true (35 ∷ 64 ∷ b ∷ []) ≡ []
mark-broken-kept b fails = ap (λ t. cond t (35 ∷ 64 ∷ before_hash (b ∷ [])) []) fails

blank-no_hash : (b : ℕ) → is_blank b ≡ true → (b == 35) ≡ false
blank-no_hash b e = by_kind (b == 35) refl
  where
    by_kind : (t : Bool) → (b == 35) ≡ t → (b == 35) ≡ false
    by_kind false n = n
    by_kind true n = let is : b ≡ 35 = eqb-true b 35 n in let k : is_blank 35 ≡ true = ap is_blank (sym is) ∙ e in cc

mark-whole : (b : ℕ) → is_blank b ≡ true → HasNoComment true (35 ∷ 64 ∷ b ∷ [])
mark-whole b e = record {
  more = λ more.
      ap (λ t. cond t (35 ∷ 64 ∷ before_hash (b ∷ more)) []) e
      ∙ ap (λ t. 35 ∷ 64 ∷ cond t [] (b ∷ before_hash more)) (blank-no_hash b e);
}

none-plain : IsPlain [] [] nothing_gathered
none-plain = record { ends = refl; bytes = refl }

mark-plain : (b : ℕ) → is_blank b ≡ true → IsPlain [] (35 ∷ 64 ∷ b ∷ []) mark_gathered
mark-plain b e = record {
  ends = ap is_continued (trimmed-blank (35 ∷ 64 ∷ []) b e);
  bytes = over-blank (over_bytes nothing_gathered (35 ∷ 64 ∷ [])) b e;
}

fits-start : (counts : Bool) (u : Unfinished) (b : ℕ) (g : Gathered) → IsFirst counts u [] g → Fits counts (with_more u b) (place_after Start b) (gathered_after Start b g)
fits-start counts u b g h = by_kind (b == 35) refl
  where
    by_kind : (t : Bool) → (b == 35) ≡ t → Fits counts (with_more u b) (cond t Hash (cond t Comment (cond (is_blank b) Text (after_ink b)))) (cond t g (cond (is_blank b) (ended g) (with_ink b g)))
    by_kind true e =
        let is : b ≡ 35 = eqb-true b 35 e in
        record {
          counted = h.counted;
          no_text = h.no_text;
          only = ap (λ l. l ++ b ∷ []) h.only ∙ ap (λ n. n ∷ []) is;
          nothing = h.nothing;
        }
    by_kind false e =
        let here : u.line ++ b ∷ [] ≡ b ∷ [] = ap (λ l. l ++ b ∷ []) h.only in
        fits-plain counts u b g
        (subst (λ (c : Bool). HasNoComment c (u.line ++ b ∷ [])) (sym h.counted) (subst (λ (l : List ℕ). HasNoComment true l) (sym here) (starts-plain b e)))
        (subst (λ (t : List ℕ). IsPlain t u.line g) (sym h.no_text) (subst (λ (l : List ℕ). IsPlain [] l g) (sym h.only) (subst (λ (k : Gathered). IsPlain [] [] k) (sym h.nothing) none-plain)))

-- a comment that begins where nothing is gathered
fits-nothing : (counts : Bool) (u : Unfinished) (b : ℕ) (g : Gathered) (line : List ℕ) → counts ≡ true → u.text ≡ [] → u.line ++ b ∷ [] ≡ line → g ≡ nothing_gathered → HasComment true line → uncommented true line ≡ [] →
    HasComment counts (u.line ++ b ∷ []) × IsPlain u.text (uncommented counts (u.line ++ b ∷ [])) g
fits-nothing counts u b g line counted no_text here nothing comment kept =
    let k : uncommented counts (u.line ++ b ∷ []) ≡ [] = ap (λ c. uncommented c (u.line ++ b ∷ [])) counted ∙ (ap (uncommented true) here ∙ kept) in (
      subst (λ (c : Bool). HasComment c (u.line ++ b ∷ [])) (sym counted) (subst (λ (l : List ℕ). HasComment true l) (sym here) comment),
      subst (λ (t : List ℕ). IsPlain t (uncommented counts (u.line ++ b ∷ [])) g) (sym no_text)
          (subst (λ (l : List ℕ). IsPlain [] l g) (sym k) (subst (λ (m : Gathered). IsPlain [] [] m) (sym nothing) none-plain)),
    )

fits-hash : (counts : Bool) (u : Unfinished) (b : ℕ) (g : Gathered) → IsFirst counts u (35 ∷ []) g → Fits counts (with_more u b) (place_after Hash b) g
fits-hash counts u b g h = by_kind (b == 64) refl
  where
    by_kind : (t : Bool) → (b == 64) ≡ t → Fits counts (with_more u b) (cond t Mark Comment) g
    by_kind true e =
        let is : b ≡ 64 = eqb-true b 64 e in
        record {
          counted = h.counted;
          no_text = h.no_text;
          only = ap (λ l. l ++ b ∷ []) h.only ∙ ap (λ n. 35 ∷ n ∷ []) is;
          nothing = h.nothing;
        }
    by_kind false e =
        fits-nothing counts u b g (35 ∷ b ∷ []) h.counted h.no_text (ap (λ l. l ++ b ∷ []) h.only) h.nothing (hash-alone b e) (hash-kept b e)

fits-mark : (counts : Bool) (u : Unfinished) (b : ℕ) (g : Gathered) → IsFirst counts u (35 ∷ 64 ∷ []) g → Fits counts (with_more u b) (place_after Mark b) (gathered_after Mark b g)
fits-mark counts u b g h = by_kind (is_blank b) refl
  where
    here : u.line ++ b ∷ [] ≡ 35 ∷ 64 ∷ b ∷ []
    here = ap (λ l. l ++ b ∷ []) h.only

    by_kind : (t : Bool) → is_blank b ≡ t → Fits counts (with_more u b) (cond t Text Comment) (cond t mark_gathered g)
    by_kind true e = (
      subst (λ (c : Bool). HasNoComment c (u.line ++ b ∷ [])) (sym h.counted) (subst (λ (l : List ℕ). HasNoComment true l) (sym here) (mark-whole b e)),
      subst (λ (t : List ℕ). IsPlain t (u.line ++ b ∷ []) mark_gathered) (sym h.no_text) (subst (λ (l : List ℕ). IsPlain [] l mark_gathered) (sym here) (mark-plain b e)),
    )
    by_kind false e =
        fits-nothing counts u b g (35 ∷ 64 ∷ b ∷ []) h.counted h.no_text here h.nothing (mark-broken b e) (mark-broken-kept b e)

-- Over any byte that is no line feed.
pub fits-byte : (counts : Bool) (u : Unfinished) (b : ℕ) (place : Place) (g : Gathered) → Fits counts u place g → Fits counts (with_more u b) (place_after place b) (gathered_after place b g)
fits-byte counts u b Start g h = fits-start counts u b g h
fits-byte counts u b Hash g h = fits-hash counts u b g h
fits-byte counts u b Mark g h = fits-mark counts u b g h
fits-byte counts u b Text g h = fits-text counts u b g h.0 h.1
fits-byte counts u b Stroke g h = fits-stroke counts u b g (with_byte 92 g) refl h.0 h.1
fits-byte counts u b Gap g h = fits-stroke counts u b g (ended (with_byte 92 g)) (ended-twice (with_byte 92 g)) h.0 h.1
fits-byte counts u b Comment g h =
    (has_comment-more counts u.line b h.0, subst (λ (k : List ℕ). IsPlain u.text k g) (sym (h.0.more (b ∷ []))) h.1)
fits-byte counts u b ContinuedComment g h =
    (has_comment-more counts u.line b h.0, subst (λ (k : List ℕ). IsContinued u.text k g) (sym (h.0.more (b ∷ []))) h.1)
