-- What a value stands for, call by call.
use Rattle.std.proofs.Common.{ℕ, zero, suc, ◌≡◌, ◌+◌, ◌≤◌, Bool, true, false, ◌&&◌, cond, List, [], ◌∷◌, ◌++◌, length, drop, Option, None, refl, ap, sym, ◌∙◌, subst, arith, length-append}
use Rattle.std.specs.Prelude.{option_to_list}
use Rattle.std.proofs.lemmas.List.{drop-append-le}
use Rattle.lw_words.specs.declared.place.Place.{Place}
use Rattle.lw_words.specs.declared.lines.Lines.{Lines}
use Rattle.lw_words.specs.Lines.{LogicalLine, lines_of, logical_lines, finished_lines}
use Rattle.lw_words.specs.Gathering.{Gathered, nothing_gathered}
use Rattle.lw_words.specs.Reading.{Unfinished, at_start, unfinished, first_place, next_place, next_gathered, next_number, next_at, next_lines, ended_lines, Fits, IsReading}
use Rattle.lw_words.specs.Standing.{StandsFor, ReadsByte, lines_so_far}
use Rattle.lw_words.proofs.Behind.{unfinished-byte, finished_lines-are}
use Rattle.lw_words.proofs.AtEnd.{fits-begin, reading-byte, done-byte, logical_lines-end}

pub record IsNew (lines : Lines) : Type 0 where
  pub finished : lines.finished ≡ false
  pub fed : lines.fed ≡ 0
  pub number : lines.number ≡ 1
  pub at : lines.at ≡ 1
  pub place : lines.place ≡ first_place lines.marked
  pub gathering : lines.gathering ≡ nothing_gathered
  pub ready : lines.ready.items ≡ []

none_finished : (marked : Bool) → finished_lines marked [] ≡ []
unfolding finished_lines
none_finished marked = refl

reading-start : (marked : Bool) (number at : ℕ) (place : Place) (g : Gathered) → number ≡ 1 → at ≡ 1 → place ≡ first_place marked → g ≡ nothing_gathered → IsReading marked (unfinished marked []) number at place g
unfolding unfinished
reading-start marked number at place g number_is at_is place_is nothing = record {
  same_number = number_is;
  same_at = at_is;
  fits =
      subst (λ (p : Place). Fits (marked && true) at_start p g) (sym place_is)
      (subst (λ (m : Gathered). Fits (marked && true) at_start (first_place marked) m) (sym nothing) (fits-begin marked at_start refl refl));
}

pub stands-new : (lines : Lines) → IsNew lines → StandsFor lines [] 0
stands-new lines h =
    let none : lines_so_far lines [] ≡ [] = ap (λ t. cond t (logical_lines lines.marked []) (finished_lines lines.marked [])) h.finished ∙ none_finished lines.marked in
    record {
      count = h.fed;
      within = omega arith;
      left = h.ready ∙ sym (ap (drop 0) none);
      open_line = λ e. reading-start lines.marked lines.number lines.at lines.place lines.gathering h.number h.at h.place h.gathering;
    }

-- the lines finished with one more byte
pub finished-byte : (marked : Bool) (fed : List ℕ) (number at : ℕ) (place : Place) (g : Gathered) (b : ℕ) → IsReading marked (unfinished marked fed) number at place g → finished_lines marked (fed ++ b ∷ []) ≡ finished_lines marked fed ++ next_lines place b number g
finished-byte marked fed number at place g b h =
    finished_lines-are marked (fed ++ b ∷ [])
    ∙ (ap (λ (u : Unfinished). lines_of u.done) (unfinished-byte marked fed b)
    ∙ (done-byte marked (unfinished marked fed) number at place g b h
    ∙ ap (λ ls. ls ++ next_lines place b number g) (sym (finished_lines-are marked fed))))

pub reading-next : (marked : Bool) (fed : List ℕ) (number at : ℕ) (place : Place) (g : Gathered) (b : ℕ) → IsReading marked (unfinished marked fed) number at place g →
    IsReading marked (unfinished marked (fed ++ b ∷ [])) (next_number place b at number) (next_at b at) (next_place marked place b) (next_gathered place b g)
reading-next marked fed number at place g b h =
    subst (λ (u : Unfinished). IsReading marked u (next_number place b at number) (next_at b at) (next_place marked place b) (next_gathered place b g)) (sym (unfinished-byte marked fed b))
    (reading-byte marked (unfinished marked fed) number at place g b h)

pub same-reading : (marked marked' : Bool) (fed : List ℕ) (number number' at at' : ℕ) (place place' : Place) (g g' : Gathered) → marked' ≡ marked → number' ≡ number → at' ≡ at → place' ≡ place → g' ≡ g →
    IsReading marked (unfinished marked fed) number at place g → IsReading marked' (unfinished marked' fed) number' at' place' g'
same-reading marked marked' fed number number' at at' place place' g g' em en ea ep eg h =
    subst (λ (m : Bool). IsReading m (unfinished m fed) number' at' place' g') (sym em)
    (subst (λ (n : ℕ). IsReading marked (unfinished marked fed) n at' place' g') (sym en)
    (subst (λ (n : ℕ). IsReading marked (unfinished marked fed) number n place' g') (sym ea)
    (subst (λ (p : Place). IsReading marked (unfinished marked fed) number at p g') (sym ep)
    (subst (λ (m : Gathered). IsReading marked (unfinished marked fed) number at place m) (sym eg) h))))

pub so_far-open : (lines : Lines) (fed : List ℕ) → lines.finished ≡ false → lines_so_far lines fed ≡ finished_lines lines.marked fed
so_far-open lines fed e = ap (λ t. cond t (logical_lines lines.marked fed) (finished_lines lines.marked fed)) e

so_far-all : (lines : Lines) (fed : List ℕ) → lines.finished ≡ true → lines_so_far lines fed ≡ logical_lines lines.marked fed
so_far-all lines fed e = ap (λ t. cond t (logical_lines lines.marked fed) (finished_lines lines.marked fed)) e

-- lines are left behind those taken
left-more : (taken : ℕ) (before more left all : List LogicalLine) → taken ≤ length before → left ≡ drop taken before → all ≡ before ++ more → left ++ more ≡ drop taken all
left-more taken before more left all within is whole =
    ap (λ ls. ls ++ more) is ∙ (sym (drop-append-le taken before more within) ∙ ap (drop taken) (sym whole))

within-more : (taken : ℕ) (before more all : List LogicalLine) → taken ≤ length before → all ≡ before ++ more → taken ≤ length all
within-more taken before more all within whole = omega (arith, ap length whole, length-append before more)

-- one more byte
pub stands-byte : (old new : Lines) (b : ℕ) (fed : List ℕ) (taken : ℕ) → ReadsByte old b new → old.finished ≡ false → StandsFor old fed taken → StandsFor new (fed ++ b ∷ []) taken
stands-byte old new b fed taken r still h =
    let reading = h.open_line still in
    let next = next_lines old.place b old.number old.gathering in
    let before = so_far-open old fed still in
    let after : lines_so_far new (fed ++ b ∷ []) ≡ lines_so_far old fed ++ next =
    so_far-open new (fed ++ b ∷ []) (r.finished ∙ still)
    ∙ (ap (λ m. finished_lines m (fed ++ b ∷ [])) r.marked
    ∙ (finished-byte old.marked fed old.number old.at old.place old.gathering b reading ∙ ap (λ ls. ls ++ next) (sym before))) in
    record {
      count = omega (arith, r.fed, h.count, length-append fed (b ∷ []));
      within = within-more taken (lines_so_far old fed) next _ h.within after;
      left = r.ready ∙ left-more taken (lines_so_far old fed) next old.ready.items _ h.within h.left after;
      open_line = λ e. same-reading old.marked new.marked (fed ++ b ∷ []) _ new.number _ new.at _ new.place _ new.gathering r.marked r.number r.at r.place r.gathering
          (reading-next old.marked fed old.number old.at old.place old.gathering b reading);
    }

-- the end of the bytes
pub record Finishes (old new : Lines) : Type 0 where
  pub marked : new.marked ≡ old.marked
  pub finished : new.finished ≡ true
  pub fed : new.fed ≡ old.fed
  pub ready : new.ready.items ≡ old.ready.items ++ ended_lines old.number old.place old.gathering

pub stands-finish : (old new : Lines) (fed : List ℕ) (taken : ℕ) → Finishes old new → old.finished ≡ false → StandsFor old fed taken → StandsFor new fed taken
stands-finish old new fed taken r still h =
    let reading = h.open_line still in
    let last = ended_lines old.number old.place old.gathering in
    let after : lines_so_far new fed ≡ lines_so_far old fed ++ last =
    so_far-all new fed r.finished
    ∙ (ap (λ m. logical_lines m fed) r.marked
    ∙ (logical_lines-end old.marked fed old.number old.at old.place old.gathering reading ∙ ap (λ ls. ls ++ last) (sym (so_far-open old fed still)))) in
    record {
      count = r.fed ∙ h.count;
      within = within-more taken (lines_so_far old fed) last _ h.within after;
      left = r.ready ∙ left-more taken (lines_so_far old fed) last old.ready.items _ h.within h.left after;
      open_line = λ e. let wrong : true ≡ false = sym r.finished ∙ e in cc;
    }

pub record Takes (old : Lines) (line : Option LogicalLine) (new : Lines) : Type 0 where
  pub marked : new.marked ≡ old.marked
  pub finished : new.finished ≡ old.finished
  pub fed : new.fed ≡ old.fed
  pub number : new.number ≡ old.number
  pub at : new.at ≡ old.at
  pub place : new.place ≡ old.place
  pub gathering : new.gathering ≡ old.gathering
  pub ready : old.ready.items ≡ option_to_list line ++ new.ready.items
  pub none : line ≡ None → old.ready.items ≡ []
