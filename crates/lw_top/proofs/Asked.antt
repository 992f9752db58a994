-- What an answer to words says of the command that they are, and of the network that was read.
use Rattle.std.proofs.Common.{ℕ, ◌≡◌, inl, inr, List, Option, Some, Result, Ok, Err, sym, ◌∙◌, subst}
use Rattle.lw_blif.specs.declared.parsed.Parsed.{Parsed}
use Rattle.lw_files.specs.Steps.{Files}
use Rattle.lw_top.specs.declared.refusal.Refusal.{Refusal}
use Rattle.lw_top.specs.Words.{Command, command_of}
use Rattle.lw_top.specs.Answers.{ReadsModel, asked_for, IsCommandAnswer, IsAnswer}
use Rattle.lw_files.proofs.SignalNames.{IsNamed, model_named}
use Rattle.lw_top.proofs.Sound.{asked_some}

pub names_read : (name : List ℕ) (files : Files) (model : Parsed) → ReadsModel name files (Ok model) → IsNamed model
names_read name files model (inl (bytes, text, is)) = model_named bytes model is
names_read name files model (inr (e, refused, is)) = cc

-- what words of a command come to is what the command does
pub asked_answer : (words : List (List ℕ)) (files : Files) (c : Command) (a : Result (List ℕ) Refusal) → command_of words ≡ Some c → IsAnswer words files a → IsCommandAnswer c files a
asked_answer words files c a form (inl (d, is, comes)) =
    let both : Some d ≡ Some c = sym (asked_some (command_of words) d is) ∙ form in
    let same : d ≡ c = cc in
    subst (λ (x : Command). IsCommandAnswer x files a) same comes
asked_answer words files c a form (inr (e, refused, is)) =
    let no : ◌≡◌ {A = Result Command Refusal} (Ok c) (Err e) = subst (λ (o : Option Command). ◌≡◌ {A = Result Command Refusal} (asked_for o) (Err e)) form refused in
    cc

pub asked_text : (words : List (List ℕ)) (files : Files) (c : Command) (text : List ℕ) → command_of words ≡ Some c → IsAnswer words files (Ok text) → IsCommandAnswer c files (Ok text)
asked_text words files c text form answer = asked_answer words files c (Ok text) form answer
