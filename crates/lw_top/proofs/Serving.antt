-- A text that the definition gives was written, or a part of it.
use Rattle.std.proofs.Common.{◌≡◌, ℕ, Bool, inr, List, Option, Some, None, Result, Ok, Err, refl, sym, subst, arith}
use Rattle.lw_io.specs.declared.file.File.{File}
use Rattle.lw_top.specs.declared.answer.Answer.{Answer}
use Rattle.lw_top.specs.declared.refusal.Refusal.{Refusal}
use Rattle.lw_top.specs.declared.refusal.Refusal.TheVariants.{Words}
use Rattle.lw_files.specs.Steps.{gives}
use Rattle.lw_top.specs.Steps.{Step}
use Rattle.lw_top.specs.Words.{Command}
use Rattle.lw_top.specs.declared.words.Command.{Command as Asked}
use Rattle.lw_top.specs.Commands.{plain_command, asked}
use Rattle.lw_top.specs.Answers.{asked_for, IsAnswerTo, IsCommandAnswer}
use Rattle.lw_top.specs.Named.{IsTextOf}
use Rattle.lw_files.specs.Reading.{Known}
use Rattle.lw_top.specs.Reading.{HasReason, Reaches}
use Rattle.lw_top.specs.declared.outcome.Outcome.{Outcome}
use Rattle.lw_top.specs.declared.outcome.Outcome.TheVariants.{Done, WriteFault, Refused}
use Rattle.lw_top.specs.Outcome.{WritesAnswer, Meets, IsReachedBy}
use Rattle.lw_files.proofs.Steps.{answered}
use Rattle.lw_top.proofs.Steps.{refused_later}

-- a text of the answer was written, or a part of it
pub served : {O : Type 0} (told : Option (List File)) (before now : ℕ) (taken : O → Option (List ℕ)) (is_finished : O → Bool) (faults : O → ℕ) (old new : O) (step : Step (List ℕ)) (a : Answer) (o : Outcome) → ((text : List ℕ) → IsTextOf a text → Known told step (Ok text)) → WritesAnswer taken is_finished faults old new a o → Meets told before now taken is_finished faults old new step o
served told before now taken is_finished faults old new step a Done known (text, is, done) = (text, known text is, done)
served told before now taken is_finished faults old new step a WriteFault known (text, is, cut) = (text, known text is, cut)
served told before now taken is_finished faults old new step a (Refused r) known written = absurd written

-- what was written is no refusal
pub reached_written : {O : Type 0} (told : Option (List File)) (command : Option Command) (taken : O → Option (List ℕ)) (is_finished : O → Bool) (faults : O → ℕ) (old new : O) (a : Answer) (o : Outcome) → WritesAnswer taken is_finished faults old new a o → IsReachedBy told command o
reached_written told None taken is_finished faults old new a o w = tt
reached_written told (Some command) taken is_finished faults old new a Done w = tt
reached_written told (Some command) taken is_finished faults old new a WriteFault w = tt
reached_written told (Some command) taken is_finished faults old new a (Refused r) w = absurd w

-- what a command comes to is what words that ask for it come to
pub asked_answers : (told : Option (List File)) (o : Option Asked) (c : Asked) (r : Result (List ℕ) Refusal) → o ≡ Some c → Known told (IsCommandAnswer (plain_command c)) r → Known told (IsAnswerTo (asked o)) r
asked_answers told o c r is known =
    subst (λ (p : Option Asked). Known told (IsAnswerTo (asked p)) r) (sym is)
    (answered told (gives (λ files. asked_for (Some (plain_command c)))) IsCommandAnswer (plain_command c) r (λ files is. refl) known)

pub asked_refuses : (told : Option (List File)) (before now : ℕ) (o : Option Asked) (c : Asked) (e : Refusal) → o ≡ Some c → HasReason told before now (IsCommandAnswer (plain_command c)) e → HasReason told before now (IsAnswerTo (asked o)) e
asked_refuses told before now o c e is reason =
    subst (λ (p : Option Asked). HasReason told before now (IsAnswerTo (asked p)) e) (sym is)
    (refused_later told (gives (λ files. asked_for (Some (plain_command c)))) IsCommandAnswer before before now (plain_command c) e (omega arith) (λ files is. refl) reason)

-- a command that was asked for has its turn
pub asked_reached : (told : Option (List File)) (o : Option Asked) (c : Asked) (r : Refusal) → o ≡ Some c → Reaches told (plain_command c) r → IsReachedBy told (asked o) (Refused r)
asked_reached told o c r is reached = subst (λ (p : Option Asked). IsReachedBy told (asked p) (Refused r)) (sym is) reached

pub unasked : (told : Option (List File)) (o : Option Asked) → ((c : Asked) → o ≡ Some c → ⊥) → Known told (IsAnswerTo (asked o)) (Err Words)
unasked told None not files is = inr (Words, refl, refl)
unasked told (Some c) not files is = absurd (not c refl)

-- words of no form reach no file
pub words_reached : (told : Option (List File)) (o : Option Asked) → IsReachedBy told (asked o) (Refused Words)
words_reached told None = tt
words_reached told (Some c) = tt
