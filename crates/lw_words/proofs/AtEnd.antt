-- What a place and what is gathered say of a line, at its end.
use Rattle.std.proofs.Common.{ℕ, ◌≡◌, ◌+◌, ◌==◌, Bool, true, false, ◌&&◌, cond, List, [], ◌∷◌, ◌++◌, refl, ap, sym, ◌∙◌, subst, append-nil}
use Rattle.std.specs.Prelude.{option_to_list}
use Rattle.std.proofs.Math.Bool.{and-false}
use Rattle.lw_words.specs.declared.place.Place.{Place}
use Rattle.lw_words.specs.declared.place.Place.TheVariants.{Start, Hash, Mark, Text, Stroke, Gap, Comment, ContinuedComment}
use Rattle.lw_words.specs.Lines.{uncommented, trimmed, text_of, is_continued, with_blank, lines_among, continued_by, texts_from, lines_of, logical_lines, finished_lines}
use Rattle.lw_words.specs.Gathering.{Gathered, nothing_gathered, ended, line_gathered}
use Rattle.lw_words.specs.Reading.{Unfinished, unfinished, line_ended, behind_byte, goes_on, gathered_at_end, first_place, gathered_from, IsPlain, IsContinued, IsFirst, HasNoComment, Fits, IsReading, next_place, next_gathered, next_number, next_at, next_lines, ended_lines}
use Rattle.lw_words.proofs.GatheredWords.{over_bytes-append, ended-twice, ended-trimmed, lines_of-gathered}
use Rattle.lw_words.proofs.Behind.{joined, joined-stop, lines_of-append, IsUnfinished-unfinished, finished_lines-are, logical_lines-are}
use Rattle.lw_words.proofs.Fitting.{fits-byte, with_more}

-- the line ends with this text: whether it goes on, and what is gathered
record Ends (text kept : List ℕ) (place : Place) (g : Gathered) : Type 0 where
  pub goes : is_continued kept ≡ goes_on place
  pub stop : goes_on place ≡ false → ended (gathered_from (text ++ kept)) ≡ gathered_at_end place g
  pub go : goes_on place ≡ true → gathered_from (text ++ with_blank kept) ≡ gathered_at_end place g

-- without the blanks at its end the same is gathered
stop-trimmed : (text kept : List ℕ) (g : Gathered) → gathered_from (text ++ kept) ≡ g → ended (gathered_from (text ++ trimmed kept)) ≡ ended g
stop-trimmed text kept g e =
    ap ended (over_bytes-append nothing_gathered text (trimmed kept))
    ∙ (ended-trimmed (gathered_from text) kept
    ∙ ap ended (sym (over_bytes-append nothing_gathered text kept) ∙ e))

no_comment-kept : (counts : Bool) (line : List ℕ) → HasNoComment counts line → uncommented counts line ≡ line
no_comment-kept counts line h = ap (uncommented counts) (sym (append-nil line)) ∙ (h.more [] ∙ append-nil line)

ends-plain : (text kept : List ℕ) (place : Place) (g : Gathered) → goes_on place ≡ false → gathered_at_end place g ≡ ended g → IsPlain text kept g → Ends text (trimmed kept) place g
ends-plain text kept place g stops same h = record {
  goes = h.ends ∙ sym stops;
  stop = λ e. stop-trimmed text kept g h.bytes ∙ sym same;
  go = λ e. cc;
}

ends-continued : (text kept : List ℕ) (place : Place) (g : Gathered) → goes_on place ≡ true → gathered_at_end place g ≡ ended g → IsContinued text kept g → Ends text (trimmed kept) place g
ends-continued text kept place g goes same h = record {
  goes = h.ends ∙ sym goes;
  stop = λ e. cc;
  go = λ e. h.before ∙ sym same;
}

ends-first : (counts : Bool) (u : Unfinished) (bytes : List ℕ) (place : Place) (g : Gathered) → goes_on place ≡ false → IsFirst counts u bytes g → Ends [] (text_of true bytes) place nothing_gathered → Ends u.text (text_of counts u.line) place g
ends-first counts u bytes place g stops h e =
    let here : text_of counts u.line ≡ text_of true bytes = ap (λ c. text_of c u.line) h.counted ∙ ap (text_of true) h.only in
    subst (λ (t : List ℕ). Ends t (text_of counts u.line) place g) (sym h.no_text)
    (subst (λ (k : List ℕ). Ends [] k place g) (sym here) (subst (λ (m : Gathered). Ends [] (text_of true bytes) place m) (sym h.nothing) e))

-- at the end of a physical line
ends : (counts : Bool) (u : Unfinished) (place : Place) (g : Gathered) → Fits counts u place g → Ends u.text (text_of counts u.line) place g
ends counts u Start g h = ends-first counts u [] Start g refl h (record { goes = refl; stop = λ e. refl; go = λ e. cc })
ends counts u Hash g h = ends-first counts u (35 ∷ []) Hash g refl h (record { goes = refl; stop = λ e. refl; go = λ e. cc })
ends counts u Mark g h = ends-first counts u (35 ∷ 64 ∷ []) Mark g refl h (record { goes = refl; stop = λ e. refl; go = λ e. cc })
ends counts u Text g h =
    subst (λ (k : List ℕ). Ends u.text (trimmed k) Text g) (sym (no_comment-kept counts u.line h.0)) (ends-plain u.text u.line Text g refl refl h.1)
ends counts u Stroke g h =
    subst (λ (k : List ℕ). Ends u.text (trimmed k) Stroke g) (sym (no_comment-kept counts u.line h.0)) (ends-continued u.text u.line Stroke g refl refl (record { ends = h.1.ends; before = h.1.before }))
ends counts u Gap g h =
    subst (λ (k : List ℕ). Ends u.text (trimmed k) Gap g) (sym (no_comment-kept counts u.line h.0)) (ends-continued u.text u.line Gap g refl refl (record { ends = h.1.ends; before = h.1.before }))
ends counts u Comment g h = ends-plain u.text (uncommented counts u.line) Comment g refl refl h.1
ends counts u ContinuedComment g h = ends-continued u.text (uncommented counts u.line) ContinuedComment g refl refl h.1

-- a line begins that no mark may begin
begins-plain : (text : List ℕ) (g : Gathered) → gathered_from text ≡ g → HasNoComment false [] × IsPlain text [] g
begins-plain text g e = (record { more = λ more. refl }, record { ends = refl; bytes = ap gathered_from (append-nil text) ∙ e })

pub fits-begin : (marked : Bool) (u : Unfinished) → u.text ≡ [] → u.line ≡ [] → Fits (marked && true) u (first_place marked) nothing_gathered
fits-begin true u no_text no_line = record { counted = refl; no_text = no_text; only = no_line; nothing = refl }
fits-begin false u no_text no_line =
    subst (λ (l : List ℕ). HasNoComment false l × IsPlain u.text l nothing_gathered) (sym no_line)
    (begins-plain u.text nothing_gathered (ap gathered_from no_text))

-- Over the end of a physical line.
reading-end : (marked : Bool) (u : Unfinished) (number at : ℕ) (place : Place) (g : Gathered) → IsReading marked u number at place g →
    IsReading marked (line_ended u (text_of (marked && u.begins) u.line)) (cond (goes_on place) number (at + 1)) (at + 1) (cond (goes_on place) Text (first_place marked)) (cond (goes_on place) (gathered_at_end place g) nothing_gathered)
reading-end marked u number at place g h =
    by_kind (text_of (marked && u.begins) u.line) (goes_on place) refl (ends (marked && u.begins) u place g h.fits)
  where
    by_kind : (text : List ℕ) (t : Bool) → goes_on place ≡ t → Ends u.text text place g →
        IsReading marked (line_ended u text) (cond t number (at + 1)) (at + 1) (cond t Text (first_place marked)) (cond t (gathered_at_end place g) nothing_gathered)
    by_kind text true e k =
        let is : is_continued text ≡ true = k.goes ∙ e in
        let next : line_ended u text ≡ record { done = u.done; begins = false; number = u.number; at = u.at + 1; text = u.text ++ with_blank text; line = [] } =
        ap (λ t. cond t (record { done = u.done; begins = false; number = u.number; at = u.at + 1; text = u.text ++ with_blank text; line = [] }) (record { done = u.done ++ record { number = u.number; bytes = u.text ++ text } ∷ []; begins = true; number = u.at + 1; at = u.at + 1; text = []; line = [] })) is in
        subst (λ (v : Unfinished). IsReading marked v number (at + 1) Text (gathered_at_end place g)) (sym next)
        (record {
          same_number = h.same_number;
          same_at = ap (λ n. n + 1) h.same_at;
          fits = subst (λ (c : Bool). HasNoComment c [] × IsPlain (u.text ++ with_blank text) [] (gathered_at_end place g)) (sym (and-false marked)) (begins-plain (u.text ++ with_blank text) (gathered_at_end place g) (k.go e));
        })
    by_kind text false e k =
        let is : is_continued text ≡ false = k.goes ∙ e in
        let next : line_ended u text ≡ record { done = u.done ++ record { number = u.number; bytes = u.text ++ text } ∷ []; begins = true; number = u.at + 1; at = u.at + 1; text = []; line = [] } =
        ap (λ t. cond t (record { done = u.done; begins = false; number = u.number; at = u.at + 1; text = u.text ++ with_blank text; line = [] }) (record { done = u.done ++ record { number = u.number; bytes = u.text ++ text } ∷ []; begins = true; number = u.at + 1; at = u.at + 1; text = []; line = [] })) is in
        subst (λ (v : Unfinished). IsReading marked v (at + 1) (at + 1) (first_place marked) nothing_gathered) (sym next)
        (record {
          same_number = ap (λ n. n + 1) h.same_at;
          same_at = ap (λ n. n + 1) h.same_at;
          fits = fits-begin marked (record { done = u.done ++ record { number = u.number; bytes = u.text ++ text } ∷ []; begins = true; number = u.at + 1; at = u.at + 1; text = []; line = [] }) refl refl;
        })

-- the lines that ended, with that which ends now
done-end : (marked : Bool) (u : Unfinished) (number at : ℕ) (place : Place) (g : Gathered) → IsReading marked u number at place g →
    lines_of (line_ended u (text_of (marked && u.begins) u.line)).done ≡ lines_of u.done ++ cond (goes_on place) [] (ended_lines number place g)
done-end marked u number at place g h =
    by_kind (text_of (marked && u.begins) u.line) (goes_on place) refl (ends (marked && u.begins) u place g h.fits)
  where
    by_kind : (text : List ℕ) (t : Bool) → goes_on place ≡ t → Ends u.text text place g →
        lines_of (line_ended u text).done ≡ lines_of u.done ++ cond t [] (ended_lines number place g)
    by_kind text true e k =
        let is : is_continued text ≡ true = k.goes ∙ e in
        ap (λ t. lines_of (cond {A = Unfinished} t (record { done = u.done; begins = false; number = u.number; at = u.at + 1; text = u.text ++ with_blank text; line = [] }) (record { done = u.done ++ record { number = u.number; bytes = u.text ++ text } ∷ []; begins = true; number = u.at + 1; at = u.at + 1; text = []; line = [] })).done) is
        ∙ sym (append-nil (lines_of u.done))
    by_kind text false e k =
        let is : is_continued text ≡ false = k.goes ∙ e in
        ap (λ t. lines_of (cond {A = Unfinished} t (record { done = u.done; begins = false; number = u.number; at = u.at + 1; text = u.text ++ with_blank text; line = [] }) (record { done = u.done ++ record { number = u.number; bytes = u.text ++ text } ∷ []; begins = true; number = u.at + 1; at = u.at + 1; text = []; line = [] })).done) is
        ∙ (lines_of-append u.done (record { number = u.number; bytes = u.text ++ text } ∷ [])
        ∙ ap (λ ls. lines_of u.done ++ ls)
        (lines_of-gathered u.number (u.text ++ text)
        ∙ (ap (λ m. option_to_list (line_gathered u.number m)) (k.stop e) ∙ ap (λ n. ended_lines n place g) (sym h.same_number))))

-- Over any byte.
pub reading-byte : (marked : Bool) (u : Unfinished) (number at : ℕ) (place : Place) (g : Gathered) (b : ℕ) → IsReading marked u number at place g →
    IsReading marked (behind_byte marked u b) (next_number place b at number) (next_at b at) (next_place marked place b) (next_gathered place b g)
reading-byte marked u number at place g b h = by_kind (b == 10)
  where
    by_kind : (t : Bool) → IsReading marked (cond {A = Unfinished} t (line_ended u (text_of (marked && u.begins) u.line)) (with_more u b)) (cond t (cond (goes_on place) number (at + 1)) number) (cond t (at + 1) at) (cond t (cond (goes_on place) Text (first_place marked)) (Rattle.lw_words.specs.Reading.place_after place b)) (cond t (cond (goes_on place) (gathered_at_end place g) nothing_gathered) (Rattle.lw_words.specs.Reading.gathered_after place b g))
    by_kind true = reading-end marked u number at place g h
    by_kind false = record { same_number = h.same_number; same_at = h.same_at; fits = fits-byte (marked && u.begins) u b place g h.fits }

pub done-byte : (marked : Bool) (u : Unfinished) (number at : ℕ) (place : Place) (g : Gathered) (b : ℕ) → IsReading marked u number at place g →
    lines_of (behind_byte marked u b).done ≡ lines_of u.done ++ next_lines place b number g
done-byte marked u number at place g b h = by_kind (b == 10)
  where
    by_kind : (t : Bool) → lines_of (cond {A = Unfinished} t (line_ended u (text_of (marked && u.begins) u.line)) (with_more u b)).done ≡ lines_of u.done ++ cond t (cond (goes_on place) [] (ended_lines number place g)) []
    by_kind true = done-end marked u number at place g h
    by_kind false = sym (append-nil (lines_of u.done))

-- At the end of the text.

text_none : (counts : Bool) → text_of counts [] ≡ []
text_none true = refl
text_none false = refl

-- the last physical line
last-text : (marked begins : Bool) (number at : ℕ) (text line : List ℕ) → (begins ≡ true → text ≡ []) → (begins ≡ true → number ≡ at) →
    lines_of (joined begins true number text (texts_from true marked begins at (lines_among true (line ∷ []))))
    ≡ lines_of (record { number = number; bytes = text ++ cond (is_continued (text_of (marked && begins) line)) (with_blank (text_of (marked && begins) line)) (text_of (marked && begins) line) } ∷ [])
last-text marked true number at text [] none same = sym (
    ap (λ k. lines_of (record { number = number; bytes = text ++ cond (is_continued k) (with_blank k) k } ∷ [])) (text_none (marked && true))
    ∙ ap (λ t. lines_of (record { number = number; bytes = t ++ [] } ∷ [])) (none refl))
last-text marked false number at text [] none same = sym (
    ap (λ k. lines_of (record { number = number; bytes = text ++ cond (is_continued k) (with_blank k) k } ∷ [])) (text_none (marked && false))
    ∙ ap (λ t. lines_of (record { number = number; bytes = t } ∷ [])) (append-nil text))
last-text marked begins number at text (b ∷ line) none same = by_kind (text_of (marked && begins) (b ∷ line)) (is_continued (text_of (marked && begins) (b ∷ line)))
  where
    by_kind : (k : List ℕ) (t : Bool) → lines_of (joined begins true number text (cond t (continued_by true at (with_blank k) []) (record { number = at; bytes = k } ∷ []))) ≡ lines_of (record { number = number; bytes = text ++ cond t (with_blank k) k } ∷ [])
    by_kind k true = ap lines_of (joined-stop begins true number at text (with_blank k) [] none same)
    by_kind k false = ap lines_of (joined-stop begins true number at text k [] none same)

ended-at_end : (place : Place) (g : Gathered) → ended (gathered_at_end place g) ≡ gathered_at_end place g
ended-at_end Start g = ended-twice g
ended-at_end Hash g = ended-twice g
ended-at_end Mark g = refl
ended-at_end Text g = ended-twice g
ended-at_end Stroke g = ended-twice g
ended-at_end Gap g = ended-twice g
ended-at_end Comment g = ended-twice g
ended-at_end ContinuedComment g = ended-twice g

-- the last line is what is gathered
last-gathered : (text kept : List ℕ) (place : Place) (g : Gathered) → Ends text kept place g → ended (gathered_from (text ++ cond (is_continued kept) (with_blank kept) kept)) ≡ gathered_at_end place g
last-gathered text kept place g h = by_kind (goes_on place) refl
  where
    by_kind : (t : Bool) → goes_on place ≡ t → ended (gathered_from (text ++ cond (is_continued kept) (with_blank kept) kept)) ≡ gathered_at_end place g
    by_kind true e =
        ap (λ t. ended (gathered_from (text ++ cond t (with_blank kept) kept))) (h.goes ∙ e) ∙ (ap ended (h.go e) ∙ ended-at_end place g)
    by_kind false e =
        ap (λ t. ended (gathered_from (text ++ cond t (with_blank kept) kept))) (h.goes ∙ e) ∙ h.stop e

pub logical_lines-end : (marked : Bool) (fed : List ℕ) (number at : ℕ) (place : Place) (g : Gathered) → IsReading marked (unfinished marked fed) number at place g →
    logical_lines marked fed ≡ finished_lines marked fed ++ ended_lines number place g
logical_lines-end marked fed number at place g h =
    let u = unfinished marked fed in
    let first = IsUnfinished-unfinished marked fed in
    let kept = text_of (marked && u.begins) u.line in
    let tail = joined u.begins true u.number u.text (texts_from true marked u.begins u.at (lines_among true (u.line ∷ []))) in
    logical_lines-are marked fed
    ∙ (lines_of-append u.done tail
    ∙ (ap (λ ls. ls ++ lines_of tail) (sym (finished_lines-are marked fed))
    ∙ ap (λ ls. finished_lines marked fed ++ ls)
    (last-text marked u.begins u.number u.at u.text u.line first.no_text first.same_number
    ∙ (lines_of-gathered u.number (u.text ++ cond (is_continued kept) (with_blank kept) kept)
    ∙ (ap (λ m. option_to_list (line_gathered u.number m)) (last-gathered u.text kept place g (ends (marked && u.begins) u place g h.fits))
    ∙ ap (λ n. ended_lines n place g) (sym h.same_number))))))
