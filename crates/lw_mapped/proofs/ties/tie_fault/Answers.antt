use Rattle.std.proofs.Common.{ℕ, ◌≡◌, ◌==◌, Bool, true, false, not, ◌&&◌, cond, nat_lt, List, [], length, get_or, slice_get, Option, Some, None, refl, sym, ap, ap₂, ◌∙◌, arith}
use Rattle.std.specs.List.{before_first, after_first, slice_range}
use Rattle.std.proofs.lemmas.Bool.Decides.{nat_tests}
use Rattle.std.proofs.lemmas.Option.{get_or_from_slice_get}
use Rattle.lw_genlib.specs.Cells.{CellParts}
use Rattle.lw_words.specs.Words.{is_name}
use Rattle.lw_mapped.specs.declared.fault.MappedKind.{MappedKind}
use Rattle.lw_mapped.specs.declared.fault.MappedKind.TheVariants as kind
use Rattle.lw_mapped.specs.GateLines.{formal_of, actual_of, is_equals, is_tie, is_formal, gives, tie_fault}
use Rattle.lw_mapped.proofs.ties.tie_fault.Goals.{then-is_empty-via-then-is_empty, then-is_empty-via-else-is_empty+then-is_empty-2}
use Rattle.lw_mapped.proofs.ties.tie_fault.Goals as goal

-- the first rule that is broken: both parts are there, the first is a pin or the output, it has no net before, and the second is a name
abbrev told : Bool → Bool → Bool → Bool → Option MappedKind
told tie formal given name = cond (not tie) (Some kind.Shape) (cond (not formal) (Some kind.PinUnknown) (cond given (Some kind.PinTwice) (cond (not name) (Some kind.BadName) None)))

is-told : (cell : CellParts) (before : List (List ℕ)) (word : List ℕ) (t f g n : Bool) → is_tie word ≡ t → is_formal cell (formal_of word) ≡ f → gives before (formal_of word) ≡ g → is_name (actual_of word) ≡ n → told t f g n ≡ tie_fault cell before word
unfolding tie_fault
is-told cell before word t f g n et ef eg en =
    sym (ap (λ b. told b (is_formal cell (formal_of word)) (gives before (formal_of word)) (is_name (actual_of word))) et
    ∙ (ap (λ b. told t b (gives before (formal_of word)) (is_name (actual_of word))) ef
    ∙ (ap (λ b. told t f b (is_name (actual_of word))) eg
    ∙ ap (λ b. told t f g b) en)))

at-told : (cell : CellParts) (words : List (List ℕ)) (place : ℕ) (word formal actual : List ℕ) (t f g n : Bool) → slice_get words place ≡ Some word → formal ≡ before_first is_equals word → actual ≡ after_first is_equals word →
    (nat_lt 0 (length formal) && nat_lt 0 (length actual)) ≡ t → is_formal cell formal ≡ f → gives (slice_range words 2 place) formal ≡ g → is_name actual ≡ n → told t f g n ≡ tie_fault cell (slice_range words 2 place) (get_or words place [])
at-told cell words place word formal actual t f g n at fi ai et ef eg en =
    is-told cell (slice_range words 2 place) word t f g n
    (ap₂ (λ (a b : List ℕ). nat_lt 0 (length a) && nat_lt 0 (length b)) (sym fi) (sym ai) ∙ et)
    (ap (is_formal cell) (sym fi) ∙ ef)
    (ap (gives (slice_range words 2 place)) (sym fi) ∙ eg)
    (ap is_name (sym ai) ∙ en)
    ∙ ap (tie_fault cell (slice_range words 2 place)) (sym (get_or_from_slice_get words place word [] at))

both : (a b : ℕ) → (a == 0) ≡ false → (b == 0) ≡ false → (nat_lt 0 a && nat_lt 0 b) ≡ true
both a b e f = grind (arith, nat_tests, e, f)

no-first : (a b : ℕ) → (a == 0) ≡ true → (nat_lt 0 a && nat_lt 0 b) ≡ false
no-first a b e = grind (arith, nat_tests, e)

no-second : (a b : ℕ) → (b == 0) ≡ true → (nat_lt 0 a && nat_lt 0 b) ≡ false
no-second a b e = grind (arith, nat_tests, e)

pub returns-then-is_empty : goal.returns-then-is_empty
returns-then-is_empty c = elim c.then-is_empty.branch [
  | then-is_empty-via-then-is_empty w ↦
      at-told c.args.cell.now c.args.words.now c.args.place c.get.result.now c.cut.result.0.now c.cut.result.1.now false _ _ _ c.get.ensures.word c.cut.ensures.before c.cut.ensures.after
      (no-first (length c.cut.result.0.now) (length c.cut.result.1.now) (sym c.is_empty.ensures ∙ w.if-is_empty.true)) refl refl refl
  | then-is_empty-via-else-is_empty+then-is_empty-2 w ↦
      at-told c.args.cell.now c.args.words.now c.args.place c.get.result.now c.cut.result.0.now c.cut.result.1.now false _ _ _ c.get.ensures.word c.cut.ensures.before c.cut.ensures.after
      (no-second (length c.cut.result.0.now) (length c.cut.result.1.now) (sym w.is_empty-else-is_empty.ensures ∙ w.if-is_empty-2.true)) refl refl refl
]

pub returns-then-not-is_formal : goal.returns-then-not-is_formal
returns-then-not-is_formal c =
    at-told c.args.cell.now c.args.words.now c.args.place c.get.result.now c.cut.result.0.now c.cut.result.1.now true false _ _ c.get.ensures.word c.cut.ensures.before c.cut.ensures.after
    (both (length c.cut.result.0.now) (length c.cut.result.1.now) (sym c.is_empty.ensures ∙ c.if-is_empty.false) (sym c.is_empty-else-is_empty.ensures ∙ c.if-is_empty-2.false))
    (sym c.is_formal.ensures ∙ c.if-not-is_formal.true) refl refl

pub returns-then-gives : goal.returns-then-gives
returns-then-gives c =
    at-told c.args.cell.now c.args.words.now c.args.place c.get.result.now c.cut.result.0.now c.cut.result.1.now true true true _ c.get.ensures.word c.cut.ensures.before c.cut.ensures.after
    (both (length c.cut.result.0.now) (length c.cut.result.1.now) (sym c.is_empty.ensures ∙ c.if-is_empty.false) (sym c.is_empty-else-is_empty.ensures ∙ c.if-is_empty-2.false))
    (sym c.is_formal.ensures ∙ c.if-not-is_formal.false) (sym c.gives.ensures ∙ c.if-gives.true) refl

pub returns-then-not-is_name : goal.returns-then-not-is_name
returns-then-not-is_name c =
    at-told c.args.cell.now c.args.words.now c.args.place c.get.result.now c.cut.result.0.now c.cut.result.1.now true true false false c.get.ensures.word c.cut.ensures.before c.cut.ensures.after
    (both (length c.cut.result.0.now) (length c.cut.result.1.now) (sym c.is_empty.ensures ∙ c.if-is_empty.false) (sym c.is_empty-else-is_empty.ensures ∙ c.if-is_empty-2.false))
    (sym c.is_formal.ensures ∙ c.if-not-is_formal.false) (sym c.gives.ensures ∙ c.if-gives.false) (sym c.is_name.ensures ∙ c.if-not-is_name.true)

pub returns : goal.returns
returns c =
    at-told c.args.cell.now c.args.words.now c.args.place c.get.result.now c.cut.result.0.now c.cut.result.1.now true true false true c.get.ensures.word c.cut.ensures.before c.cut.ensures.after
    (both (length c.cut.result.0.now) (length c.cut.result.1.now) (sym c.is_empty.ensures ∙ c.if-is_empty.false) (sym c.is_empty-else-is_empty.ensures ∙ c.if-is_empty-2.false))
    (sym c.is_formal.ensures ∙ c.if-not-is_formal.false) (sym c.gives.ensures ∙ c.if-gives.false) (sym c.is_name.ensures ∙ c.if-not-is_name.false)
