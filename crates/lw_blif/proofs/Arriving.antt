-- Arrival lines.
use Rattle.std.proofs.Common.{ℕ, ◌≡◌, ◌+◌, ◌<◌, ◌≤◌, ◌⊎◌, inl, inr, arith, Bool, true, false, not, ◌&&◌, cond, List, [], ◌∷◌, length, drop, Option, Some, None, Result, Ok, Err, refl, ap, sym, ◌∙◌, subst}
use Rattle.std.specs.Prelude.{slice_get, nat_le, ◌==◌}
use Rattle.std.proofs.lemmas.Bool.Decides.{nat_tests}
use Rattle.std.specs.List.{list_all}
use Rattle.lw_fixed.specs.declared.micro.Micro.{Micro}
use Rattle.lw_fixed.specs.declared.fault.DecimalFault.{DecimalFault}
use Rattle.lw_frame.specs.Starts.{start_said}
use Rattle.lw_blif.specs.declared.command.Command.{Command}
use Rattle.lw_blif.specs.declared.command.Command.TheVariants.{Model, Inputs, Outputs, Names, Arrival, DefaultArrival, End, Ignored, Unsupported, Unknown, Row}
use Rattle.lw_blif.specs.declared.fault.BlifKind.{BlifKind}
use Rattle.lw_blif.specs.declared.fault.BlifKind.TheVariants as kind
use Rattle.lw_blif.specs.LineFaults.{first_broken, other_words, wants_words, names_for, times_for, times_place, is_arrival_command, start_in, start_rules, arrival_rules}
use Rattle.lw_blif.specs.Drafts.{arrival_of, arrivals_for, latch_of}
use Rattle.lw_pool.specs.declared.latch.Latch.{Latch}
use Rattle.lw_blif.specs.declared.command.Command.TheVariants as asks
use Rattle.std.proofs.lemmas.Bool.{and_parts, eqb-true}
use Rattle.lw_facts.proofs.Lists.{drop_get}
use Rattle.lw_blif.specs.Readers.{start_or_kind, start_said_on}
use Rattle.lw_words.specs.Words.{first_word, is_name}

arrival-cases : (c : Command) → is_arrival_command c ≡ true → (c ≡ Arrival) ⊎ (c ≡ DefaultArrival)
arrival-cases Arrival is = inl refl
arrival-cases DefaultArrival is = inr refl
arrival-cases Model is = cc
arrival-cases Inputs is = cc
arrival-cases Outputs is = cc
arrival-cases Names is = cc
arrival-cases asks.Latch is = cc
arrival-cases End is = cc
arrival-cases Ignored is = cc
arrival-cases Unsupported is = cc
arrival-cases Unknown is = cc
arrival-cases Row is = cc

pub arrival-left : (c : Command) → is_arrival_command c ≡ true → (c ≡ Arrival → ⊥) → c ≡ DefaultArrival
arrival-left c is other = by_cases (arrival-cases c is)
  where
    by_cases : (c ≡ Arrival) ⊎ (c ≡ DefaultArrival) → c ≡ DefaultArrival
    by_cases (inl e) = absurd (other e)
    by_cases (inr e) = e

-- the times of an arrival line
pub times-drop : (c : Command) (words : List (List ℕ)) → is_arrival_command c ≡ true → times_for c words ≡ drop (times_place c) words
times-drop c words is = by_cases (arrival-cases c is)
  where
    by_cases : (c ≡ Arrival) ⊎ (c ≡ DefaultArrival) → times_for c words ≡ drop (times_place c) words
    by_cases (inl e) = ap (λ d. times_for d words) e ∙ ap (λ d. drop (times_place d) words) (sym e)
    by_cases (inr e) = ap (λ d. times_for d words) e ∙ ap (λ d. drop (times_place d) words) (sym e)

pub start-words : (words : List (List ℕ)) (from : ℕ) (rise fall : List ℕ) → slice_get words from ≡ Some rise → slice_get words (from + 1) ≡ Some fall → start_in (drop from words) ≡ start_said rise fall
start-words words from rise fall e f = ap start_in (drop_get words from rise e) ∙ ap (λ ws. start_in (rise ∷ ws)) (drop_get words (from + 1) fall f)

pub said-count : (c : Command) (words : List (List ℕ)) → wants_words c words ≡ false → start_said_on c words ≡ Err kind.WordCount
unfolding start_said_on
said-count c words e = ap (λ b. cond (not b) (Err kind.WordCount) (cond (not (list_all is_name (names_for c words))) (Err kind.BadName) (start_or_kind (start_in (times_for c words))))) e

pub said-names : (c : Command) (words : List (List ℕ)) → wants_words c words ≡ true → list_all is_name (names_for c words) ≡ false → start_said_on c words ≡ Err kind.BadName
unfolding start_said_on
said-names c words e f =
    ap (λ b. cond (not b) (Err kind.WordCount) (cond (not (list_all is_name (names_for c words))) (Err kind.BadName) (start_or_kind (start_in (times_for c words))))) e
    ∙ ap (λ b. cond (not b) (Err kind.BadName) (start_or_kind (start_in (times_for c words)))) f

pub said-start : (c : Command) (words : List (List ℕ)) → wants_words c words ≡ true → list_all is_name (names_for c words) ≡ true → start_said_on c words ≡ start_or_kind (start_in (times_for c words))
unfolding start_said_on
said-start c words e f =
    ap (λ b. cond (not b) (Err kind.WordCount) (cond (not (list_all is_name (names_for c words))) (Err kind.BadName) (start_or_kind (start_in (times_for c words))))) e
    ∙ ap (λ b. cond (not b) (Err kind.BadName) (start_or_kind (start_in (times_for c words)))) f

-- the rule that is broken, where there is one
abbrev broken_in : Result Micro BlifKind → Option BlifKind
broken_in (Ok start) = None
broken_in (Err kind) = Some kind

broken-said : (c : Command) (words : List (List ℕ)) → first_broken (arrival_rules c words) ≡ broken_in (start_said_on c words)
unfolding start_said_on
broken-said c words = by_parts (wants_words c words) (list_all is_name (names_for c words)) (start_in (times_for c words))
  where
    by_parts : (w n : Bool) (r : Result Micro DecimalFault) → cond (not w) (Some kind.WordCount) (cond (not n) (Some kind.BadName) (first_broken (start_rules r))) ≡ broken_in (cond (not w) (Err kind.WordCount) (cond (not n) (Err kind.BadName) (start_or_kind r)))
    by_parts false n r = refl
    by_parts true false r = refl
    by_parts true true (Ok start) = refl
    by_parts true true (Err fault) = refl

pub arrival-broken : (c : Command) (words : List (List ℕ)) (k : BlifKind) → Err k ≡ start_said_on c words → Some k ≡ first_broken (arrival_rules c words)
arrival-broken c words k e = ap broken_in e ∙ sym (broken-said c words)

pub arrival-sound : (c : Command) (words : List (List ℕ)) (start : Micro) → Ok start ≡ start_said_on c words → None ≡ first_broken (arrival_rules c words)
arrival-sound c words start e = ap broken_in e ∙ sym (broken-said c words)

-- what a line says

first-get : (words : List (List ℕ)) (name : List ℕ) → slice_get words 1 ≡ Some name → first_word (other_words words) ≡ name
first-get words name e = ap first_word (drop_get words 1 name e)

pub arrivals-own : (c : Command) (words : List (List ℕ)) (start : Micro) (name : List ℕ) → c ≡ Arrival → start_in (times_for c words) ≡ Ok start → slice_get words 1 ≡ Some name → record { named = Some name; start = start } ∷ [] ≡ arrivals_for c words
arrivals-own c words start name e said at =
    sym (ap (λ d. arrivals_for d words) e
    ∙ (ap (λ n. arrival_of (Some n) (start_in (times_for Arrival words))) (first-get words name at)
    ∙ ap (arrival_of (Some name)) (ap (λ d. start_in (times_for d words)) (sym e) ∙ said)))

pub arrivals-every : (c : Command) (words : List (List ℕ)) (start : Micro) → c ≡ DefaultArrival → start_in (times_for c words) ≡ Ok start → record { named = None; start = start } ∷ [] ≡ arrivals_for c words
arrivals-every c words start e said =
    sym (ap (λ d. arrivals_for d words) e
    ∙ ap (arrival_of None) (ap (λ d. start_in (times_for d words)) (sym e) ∙ said))

-- Latch lines.

pub latch-words : (words rest : List (List ℕ)) (input output : List ℕ) → slice_get words 1 ≡ Some input → slice_get words 2 ≡ Some output → rest ≡ drop 3 words → latch_of (drop 1 words) ≡ record { input = input; output = output; rest = rest } ∷ []
latch-words words rest input output e f r =
    ap latch_of (drop_get words 1 input e ∙ ap (λ ws. input ∷ ws) (drop_get words 2 output f ∙ ap (λ ws. output ∷ ws) (sym r)))

-- Where the times stand.

four : (n : ℕ) → nat_le 4 n ≡ true → 2 + 1 < n
four n e = grind (arith, nat_tests)

three : (n : ℕ) → nat_le 3 n ≡ true → 1 + 1 < n
three n e = grind (arith, nat_tests)

pub own-within : (c : Command) (words : List (List ℕ)) → c ≡ Arrival → wants_words c words ≡ true → 2 + 1 < length words
own-within c words e w = four (length words) (ap (λ d. wants_words d words) (sym e) ∙ w)

pub every-within : (c : Command) (words : List (List ℕ)) → c ≡ DefaultArrival → wants_words c words ≡ true → 1 + 1 < length words
every-within c words e w = three (length words) (ap (λ d. wants_words d words) (sym e) ∙ w)

-- a line of a latch that has as many words as it may have
pub latch-long : (c : Command) (words : List (List ℕ)) → c ≡ asks.Latch → wants_words c words ≡ true → 3 ≤ length words
latch-long c words e w = at (length words) (ap (λ d. wants_words d words) (sym e) ∙ w)
  where
    at : (n : ℕ) → (nat_le 3 n && nat_le n 6) ≡ true → 3 ≤ n
    at n h = let parts = and_parts (nat_le 3 n) (nat_le n 6) h in omega (arith, three n parts.0)

-- a line of a node, and of a model, that has as many words as it may have
pub names-long : (c : Command) (words : List (List ℕ)) → c ≡ Names → wants_words c words ≡ true → 2 ≤ length words
names-long c words e w = at (length words) (ap (λ d. wants_words d words) (sym e) ∙ w)
  where
    at : (n : ℕ) → nat_le 2 n ≡ true → 2 ≤ n
    at n h = grind (arith, nat_tests)

pub model-long : (c : Command) (words : List (List ℕ)) → c ≡ Model → wants_words c words ≡ true → 2 ≤ length words
model-long c words e w = at (length words) (ap (λ d. wants_words d words) (sym e) ∙ w)
  where
    at : (n : ℕ) → (n == 2) ≡ true → 2 ≤ n
    at n h = omega (arith, eqb-true n 2 h)

pub times-within : (c : Command) (words : List (List ℕ)) → is_arrival_command c ≡ true → wants_words c words ≡ true → times_place c + 1 < length words
times-within c words is w = by_cases (arrival-cases c is)
  where
    by_cases : (c ≡ Arrival) ⊎ (c ≡ DefaultArrival) → times_place c + 1 < length words
    by_cases (inl e) = subst (λ d. times_place d + 1 < length words) (sym e) (own-within c words e w)
    by_cases (inr e) = subst (λ d. times_place d + 1 < length words) (sym e) (every-within c words e w)

pub own-long : (c : Command) (words : List (List ℕ)) → c ≡ Arrival → wants_words c words ≡ true → 1 < length words
own-long c words e w = omega (arith, own-within c words e w)

-- A start that is said: the line has its words, and the times say it.
module _ (c : Command) (words : List (List ℕ)) (start : Micro) (said : start_said_on c words ≡ Ok start) where
  pub said-wanted : wants_words c words ≡ true
  said-wanted = by_test (wants_words c words) refl
    where
      by_test : (b : Bool) → wants_words c words ≡ b → b ≡ true
      by_test true e = refl
      by_test false e = let no : ◌≡◌ {A = Result Micro BlifKind} (Err kind.WordCount) (Ok start) = sym (said-count c words e) ∙ said in cc

  named : list_all is_name (names_for c words) ≡ true
  named = by_test (list_all is_name (names_for c words)) refl
    where
      by_test : (b : Bool) → list_all is_name (names_for c words) ≡ b → b ≡ true
      by_test true e = refl
      by_test false e = let no : ◌≡◌ {A = Result Micro BlifKind} (Err kind.BadName) (Ok start) = sym (said-names c words said-wanted e) ∙ said in cc

  pub said-times : start_in (times_for c words) ≡ Ok start
  said-times = by_result (start_in (times_for c words)) (sym (said-start c words said-wanted named) ∙ said)
    where
      by_result : (r : Result Micro DecimalFault) → start_or_kind r ≡ Ok start → r ≡ Ok start
      by_result (Ok m) e = let same : m ≡ start = cc in ap (λ n. Ok n) same
      by_result (Err fault) e = let no : ◌≡◌ {A = Result Micro BlifKind} (Err (kind.Decimal fault)) (Ok start) = e in cc
