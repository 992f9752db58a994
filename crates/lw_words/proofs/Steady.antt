-- Bytes over which the place stays.
use Rattle.std.proofs.Common.{ℕ, ◌≡◌, ◌≢◌, ◌+◌, ◌==◌, Bool, true, false, cond, List, [], ◌∷◌, ◌++◌, length, drop, refl, ap, sym, ◌∙◌, subst, arith, length-append, append_assoc, append-nil}
use Rattle.std.specs.Prelude.{All}
use Rattle.std.proofs.lemmas.Bool.{ne_eqb}
use Rattle.std.proofs.lemmas.List.Elements.{All-head, All-tail}
use Rattle.lw_words.specs.declared.place.Place.{Place}
use Rattle.lw_words.specs.declared.place.Place.TheVariants.{Text, Stroke, Comment, ContinuedComment}
use Rattle.lw_words.specs.declared.lines.Lines.{Lines}
use Rattle.lw_words.specs.Lines.{is_blank, finished_lines}
use Rattle.lw_words.specs.Gathering.{Gathered, with_byte, ended, IsPlainByte}
use Rattle.lw_words.specs.Reading.{unfinished, place_after, gathered_after, after_ink, with_ink, over_byte, over_bytes, ended_lines, goes_on, first_place, gathered_at_end, IsReading, IsComment}
use Rattle.lw_words.specs.Standing.{StandsFor, ReadsAll, ReadsByte, lines_so_far}
use Rattle.lw_words.proofs.Stands.{reading-next, finished-byte, same-reading, so_far-open, stands-byte}

-- over the byte the place stays, and this becomes of what is gathered
record Steady (p : Place) (f : ℕ → Gathered → Gathered) (b : ℕ) : Type 0 where
  pub no_end : (b == 10) ≡ false
  pub stays : place_after p b ≡ p
  pub grows : (g : Gathered) → gathered_after p b g ≡ f b g

abbrev AreSteady : Place → (ℕ → Gathered → Gathered) → List ℕ → Type 0
AreSteady p f [] = Unit {0}
AreSteady p f (b ∷ run) = Steady p f b × AreSteady p f run

abbrev over : (ℕ → Gathered → Gathered) → List ℕ → Gathered → Gathered
over f [] g = g
over f (b ∷ run) g = over f run (f b g)

record Kept (marked : Bool) (fed run : List ℕ) (number at : ℕ) (p : Place) (g : Gathered) : Type 0 where
  pub reading : IsReading marked (unfinished marked (fed ++ run)) number at p g
  pub lines : finished_lines marked (fed ++ run) ≡ finished_lines marked fed

keeps-byte : (marked : Bool) (fed : List ℕ) (number at : ℕ) (p : Place) (f : ℕ → Gathered → Gathered) (g : Gathered) (b : ℕ) → Steady p f b → IsReading marked (unfinished marked fed) number at p g → Kept marked fed (b ∷ []) number at p (f b g)
keeps-byte marked fed number at p f g b s h = record {
  reading = same-reading marked marked (fed ++ b ∷ []) _ number _ at _ p _ (f b g) refl
      (sym (ap (λ t. cond t (cond (goes_on p) number (at + 1)) number) s.no_end))
      (sym (ap (λ t. cond t (at + 1) at) s.no_end))
      (sym (ap (λ t. cond t (cond (goes_on p) Text (first_place marked)) (place_after p b)) s.no_end ∙ s.stays))
      (sym (ap (λ t. cond t (cond (goes_on p) (gathered_at_end p g) (record { words = []; last = []; long = false })) (gathered_after p b g)) s.no_end ∙ s.grows g))
      (reading-next marked fed number at p g b h);
  lines =
      finished-byte marked fed number at p g b h
      ∙ (ap (λ t. finished_lines marked fed ++ cond t (cond (goes_on p) [] (ended_lines number p g)) []) s.no_end ∙ append-nil (finished_lines marked fed));
}

keeps : (marked : Bool) (fed run : List ℕ) (number at : ℕ) (p : Place) (f : ℕ → Gathered → Gathered) (g : Gathered) → AreSteady p f run → IsReading marked (unfinished marked fed) number at p g → Kept marked fed run number at p (over f run g)
keeps marked fed [] number at p f g s h = record {
  reading = subst (λ (bs : List ℕ). IsReading marked (unfinished marked bs) number at p g) (sym (append-nil fed)) h;
  lines = ap (finished_lines marked) (append-nil fed);
}
keeps marked fed (b ∷ run) number at p f g s h =
    let first = keeps-byte marked fed number at p f g b s.0 h in
    let others = keeps marked (fed ++ b ∷ []) run number at p f (f b g) s.1 first.reading in
    let same = append_assoc fed (b ∷ []) run in
    record {
      reading = subst (λ (bs : List ℕ). IsReading marked (unfinished marked bs) number at p (over f run (f b g))) same others.reading;
      lines = ap (finished_lines marked) (sym same) ∙ (others.lines ∙ first.lines);
    }

-- a run of bytes, by what becomes of the fields
pub record ReadsRun (old : Lines) (run : List ℕ) (g : Gathered) (new : Lines) : Type 0 where
  pub marked : new.marked ≡ old.marked
  pub finished : new.finished ≡ old.finished
  pub fed : new.fed ≡ old.fed + length run
  pub place : new.place ≡ old.place
  pub gathering : new.gathering ≡ g
  pub number : new.number ≡ old.number
  pub at : new.at ≡ old.at
  pub ready : new.ready.items ≡ old.ready.items

stands-run : (old new : Lines) (f : ℕ → Gathered → Gathered) (run fed : List ℕ) (taken : ℕ) → ReadsRun old run (over f run old.gathering) new → AreSteady old.place f run → old.finished ≡ false → StandsFor old fed taken → StandsFor new (fed ++ run) taken
stands-run old new f run fed taken r s still h =
    let k = keeps old.marked fed run old.number old.at old.place f old.gathering s (h.open_line still) in
    let same : lines_so_far new (fed ++ run) ≡ lines_so_far old fed =
    so_far-open new (fed ++ run) (r.finished ∙ still)
    ∙ (ap (λ m. finished_lines m (fed ++ run)) r.marked ∙ (k.lines ∙ sym (so_far-open old fed still))) in
    record {
      count = omega (arith, r.fed, h.count, length-append fed run);
      within = omega (arith, h.within, ap length same);
      left = r.ready ∙ (h.left ∙ ap (drop taken) (sym same));
      open_line = λ e. same-reading old.marked new.marked (fed ++ run) _ new.number _ new.at _ new.place _ new.gathering r.marked r.number r.at r.place r.gathering k.reading;
    }

reads-run : (old new : Lines) (f : ℕ → Gathered → Gathered) (run : List ℕ) → ReadsRun old run (over f run old.gathering) new → AreSteady old.place f run → ReadsAll old run new
reads-run old new f run r s = record {
  marked = r.marked;
  finished = r.finished;
  fed = r.fed;
  stands = λ fed taken still h. stands-run old new f run fed taken r s still h;
}

-- Blanks and the bytes of words.

steady-plain : (b : ℕ) → IsPlainByte b → Steady Text (λ n g. over_byte g n) b
steady-plain b h =
    let no_hash : (b == 35) ≡ false = ne_eqb b 35 h.1 in
    let no_stroke : (b == 92) ≡ false = ne_eqb b 92 h.2 in
    record {
      no_end = ne_eqb b 10 h.0;
      stays =
          ap (λ t. cond t Comment (cond (is_blank b) Text (after_ink b))) no_hash
          ∙ (ap (λ t. cond (is_blank b) Text (cond t Stroke Text)) no_stroke ∙ same_either (is_blank b));
      grows = λ g.
          ap (λ t. cond t g (cond (is_blank b) (ended g) (with_ink b g))) no_hash
          ∙ ap (λ t. cond (is_blank b) (ended g) (cond t g (with_byte b g))) no_stroke;
    }
  where
    same_either : (t : Bool) → cond t Text Text ≡ Text
    same_either true = refl
    same_either false = refl

all-plain : (run : List ℕ) → All IsPlainByte run → AreSteady Text (λ n g. over_byte g n) run
all-plain [] h = tt
all-plain (b ∷ run) h = (steady-plain b (All-head IsPlainByte b run h), all-plain run (All-tail IsPlainByte b run h))

over-bytes : (run : List ℕ) (g : Gathered) → over_bytes g run ≡ over (λ n h. over_byte h n) run g
over-bytes [] g = refl
over-bytes (b ∷ run) g = over-bytes run (over_byte g b)

pub reads-plain : (old new : Lines) (run : List ℕ) → ReadsRun old run (over_bytes old.gathering run) new → old.place ≡ Text → All IsPlainByte run → ReadsAll old run new
reads-plain old new run r text plain =
    reads-run old new (λ n g. over_byte g n) run
    (subst (λ (g : Gathered). ReadsRun old run g new) (over-bytes run old.gathering) r)
    (subst (λ (p : Place). AreSteady p (λ n g. over_byte g n) run) (sym text) (all-plain run plain))

-- The bytes of a comment.

steady-comment : (p : Place) (b : ℕ) → IsComment p → b ≢ 10 → Steady p (λ n g. g) b
steady-comment Comment b is no_end = record { no_end = ne_eqb b 10 no_end; stays = refl; grows = λ g. refl }
steady-comment ContinuedComment b is no_end = record { no_end = ne_eqb b 10 no_end; stays = refl; grows = λ g. refl }
steady-comment other b is no_end = absurd is

all-comment : (p : Place) (run : List ℕ) → IsComment p → All (λ b. b ≢ 10) run → AreSteady p (λ n g. g) run
all-comment p [] is none = tt
all-comment p (b ∷ run) is none = (steady-comment p b is (All-head (λ n. n ≢ 10) b run none), all-comment p run is (All-tail (λ n. n ≢ 10) b run none))

over-none : (run : List ℕ) (g : Gathered) → g ≡ over (λ n h. h) run g
over-none [] g = refl
over-none (b ∷ run) g = over-none run g

pub reads-comment : (old new : Lines) (run : List ℕ) → ReadsRun old run old.gathering new → IsComment old.place → All (λ b. b ≢ 10) run → ReadsAll old run new
reads-comment old new run r is none =
    reads-run old new (λ n g. g) run
    (subst (λ (g : Gathered). ReadsRun old run g new) (over-none run old.gathering) r)
    (all-comment old.place run is none)

-- no bytes
pub reads-none : (lines : Lines) → ReadsAll lines [] lines
reads-none lines = record {
  marked = refl;
  finished = refl;
  fed = omega arith;
  stands = λ fed taken still h. subst (λ (bs : List ℕ). StandsFor lines bs taken) (sym (append-nil fed)) h;
}

-- bytes, and one more
pub reads-more : (old mid new : Lines) (run : List ℕ) (b : ℕ) (all : List ℕ) → ReadsAll old run mid → ReadsByte mid b new → all ≡ run ++ b ∷ [] → ReadsAll old all new
reads-more old mid new run b all before r whole = record {
  marked = r.marked ∙ before.marked;
  finished = r.finished ∙ before.finished;
  fed = omega (arith, r.fed, before.fed, ap length whole, length-append run (b ∷ []));
  stands = λ fed taken still h.
      subst (λ (bs : List ℕ). StandsFor new bs taken) (append_assoc fed run (b ∷ []) ∙ ap (λ bs. fed ++ bs) (sym whole))
      (stands-byte mid new b (fed ++ run) taken r (before.finished ∙ still) (before.stands fed taken still h));
}
