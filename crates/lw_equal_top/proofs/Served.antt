-- What a run comes to, and what its status says.
use Rattle.std.proofs.Common.{inl, inr, ℕ, ◌≡◌, ◌⊎◌, ◌<◌, ◌≤◌, Bool, true, List, length, take, Option, Some, None, Result, Ok, Err, IsOk, refl, sym, ◌∙◌, subst, arith}
use Rattle.std.specs.Io.KnownBytes.{Appends, Keeps}
use Rattle.std.proofs.lemmas.List.{take_all}
use Rattle.lw_io.specs.Causes.{Rose}
use Rattle.lw_io.specs.declared.failed.Failed.{Failed}
use Rattle.lw_io.specs.declared.file.File.{File}
use Rattle.lw_io.specs.Files.{bytes_of}
use Rattle.lw_io.specs.Waitings.{IsTaken}
use Rattle.lw_files.specs.declared.fault.FileFault.{FileFault}
use Rattle.lw_files.specs.declared.fault.FileFault.TheVariants as fault
use Rattle.lw_equal.specs.declared.answer.Answer.{Answer}
use Rattle.lw_equal.specs.declared.answer.Answer.TheVariants.{Equal, Differ, Undecided}
use Rattle.lw_equal_top.specs.declared.fault.Refusal.{Refusal}
use Rattle.lw_equal_top.specs.declared.fault.Refusal.TheVariants.{Library, File as FileAt, Ports, Memory}
use Rattle.lw_equal_top.specs.declared.outcome.Compared.{Compared}
use Rattle.lw_equal_top.specs.declared.outcome.Ending.{Ending}
use Rattle.lw_equal_top.specs.declared.outcome.Ending.TheVariants.{Told, Answered, WriteFault, Refused}
use Rattle.lw_equal_top.specs.declared.source.Source.{Source}
use Rattle.lw_equal_top.specs.Outcomes.{IsAnsweredOr, IsCutShort, IsDone, IsResult, IsToldOr, Meets, WritesOut, names_in}
use Rattle.lw_equal_top.specs.Pages.{help_text, version_text}
use Rattle.lw_equal_top.specs.Promises.{AreEqualFiles, AsksToCompare, DifferAsWritten, LineTold}
use Rattle.lw_equal_top.specs.Statuses.{answer_status, ending_status, file_status, refusal_status}
use Rattle.lw_equal_top.specs.Texts.{answer_text}
use Rattle.lw_equal_top.specs.Words.{Comparison, Request, WordFault, help, version, comparing, request_of}

-- a line, or a prefix of it and a fault
pub line_told : {E : Type 0} (taken : E → Option (List ℕ)) (faults : E → ℕ) (old new : E) (text : List ℕ) (r : Result (Unit {0}) Failed) → IsTaken (taken old) (faults old) (taken new) (faults new) text r → LineTold taken faults old new text
line_told taken faults old new text (Ok x) is = inl is.ok
line_told taken faults old new text (Err e) is = inr (is.cause.failed, is.failed)

-- What is written, and then handed on.

kept_behind : (a b c : Option (List ℕ)) (bytes : List ℕ) → Appends a b bytes → Keeps b c → Appends a c bytes
kept_behind None b c bytes was kept = tt
kept_behind (Some xs) None c bytes was kept = absurd was
kept_behind (Some xs) (Some ys) None bytes was kept = absurd kept
kept_behind (Some xs) (Some ys) (Some zs) bytes was kept = kept ∙ was

module _ {O : Type 0} (taken : O → Option (List ℕ)) (faults : O → ℕ) (old mid new : O) (text : List ℕ) (kept : Keeps (taken mid) (taken new)) where
  grown : (bytes : List ℕ) → Appends (taken old) (taken mid) bytes → Appends (taken old) (taken new) bytes
  grown bytes was = kept_behind (taken old) (taken mid) (taken new) bytes was kept

  pub cut_out : (written : Result (Unit {0}) Failed) → IsTaken (taken old) (faults old) (taken mid) (faults mid) text written → faults mid ≤ faults new → (IsOk written → Rose (faults mid) (faults new)) → IsCutShort taken faults old new text
  cut_out (Ok x) is later failed =
      let rose = failed refl in
      let before = is.cause.later in
      let all : take (length text) text ≡ text = take_all (length text) text (omega arith) in
      record {
        grown = (length text, omega arith, subst (λ bytes. Appends (taken old) (taken new) bytes) (sym all) (grown text is.ok));
        cause = omega (arith, before, rose);
      }
  cut_out (Err e) is later failed =
      let rose = is.cause.failed in
      record {
        grown = (is.failed.0, is.failed.1, grown (take is.failed.0 text) is.failed.2);
        cause = omega (arith, rose, later);
      }

-- What a request comes to.

module _ {O : Type 0} (told : Option (List File)) (before now : ℕ) (taken : O → Option (List ℕ)) (is_finished : O → Bool) (faults : O → ℕ) (old new : O) where
  abbrev Came : Request → Ending → Type 0
  Came request ending = Meets told before now taken is_finished faults old new request ending

  pub helped : (ending : Ending) → WritesOut taken is_finished faults old new help_text ending → IsToldOr ending → Came help ending
  helped Told is kind = is
  helped WriteFault is kind = (help_text, refl, is)
  helped (Answered compared) is kind = absurd kind
  helped (Refused why) is kind = absurd kind

  pub versioned : (ending : Ending) → WritesOut taken is_finished faults old new version_text ending → IsToldOr ending → Came version ending
  versioned Told is kind = is
  versioned WriteFault is kind = (version_text, refl, is)
  versioned (Answered compared) is kind = absurd kind
  versioned (Refused why) is kind = absurd kind

  module _ (c : Comparison) (compared : Compared) (right : IsResult told c compared.sources.items compared.outcome.answer) where
    abbrev text_of : Compared → List ℕ
    text_of it = answer_text (names_in it.sources.items) it.outcome.answer

    pub served : (ending : Ending) → WritesOut taken is_finished faults old new (text_of compared) ending → IsAnsweredOr compared ending → Came (comparing c) ending
    served Told is kind = absurd kind
    served WriteFault is kind = (text_of compared, record { sources = compared.sources.items; answer = compared.outcome.answer; result = right; is = refl }, is)
    served (Answered same) is kind = subst (λ (it : Compared). IsResult told c it.sources.items it.outcome.answer × IsDone taken is_finished old new (text_of it)) (sym kind) (right, is)
    served (Refused why) is kind = absurd kind

-- Statuses.

-- a refusal has a status of its own
file_over : (f : FileFault) → 2 < file_status f
file_over fault.Unread = omega arith
file_over other = omega arith

refusal_over : (why : Refusal) → 2 < refusal_status why
refusal_over (Library f) = file_over f
refusal_over (FileAt place f) = file_over f
refusal_over (Ports p) = omega arith
refusal_over Memory = omega arith

-- at 0 the files are equal
equal_answer : (told : Option (List File)) (c : Comparison) (sources : List Source) (answer : Answer) → IsResult told c sources answer → answer_status answer ≡ 0 → (files : List File) → told ≡ Some files → AreEqualFiles c (bytes_of files)
equal_answer told c sources Equal is zero files known = record {
  cells = is.cells;
  sources = sources;
  said = is.said files known;
  sides = is.right.sides;
  ports = is.right.right.ports;
  agree = is.right.right.claims;
}
equal_answer told c sources (Differ d) is zero files known = absurd (omega (arith, zero))
equal_answer told c sources (Undecided points) is zero files known = absurd (omega (arith, zero))

pub equal_files : {O : Type 0} (told : Option (List File)) (before now : ℕ) (taken : O → Option (List ℕ)) (is_finished : O → Bool) (faults : O → ℕ) (old new : O) (c : Comparison) (ending : Ending) → Meets told before now taken is_finished faults old new (comparing c) ending → ending_status ending ≡ 0 → (files : List File) → told ≡ Some files → AreEqualFiles c (bytes_of files)
equal_files told before now taken is_finished faults old new c Told is zero files known = absurd is
equal_files told before now taken is_finished faults old new c (Answered compared) is zero files known = equal_answer told c compared.sources.items compared.outcome.answer is.0 zero files known
equal_files told before now taken is_finished faults old new c WriteFault is zero files known = absurd (omega (arith, zero))
equal_files told before now taken is_finished faults old new c (Refused why) is zero files known = let over = refusal_over why in absurd (omega (arith, zero, over))

-- at 1 they differ
module _ {O : Type 0} (words : List (List ℕ)) (told : Option (List File)) (before now : ℕ) (taken : O → Option (List ℕ)) (is_finished : O → Bool) (faults : O → ℕ) (old new : O) where
  differ_answer : (c : Comparison) (sources : List Source) (answer : Answer) → AsksToCompare words c → IsResult told c sources answer → IsDone taken is_finished old new (answer_text (names_in sources) answer) → answer_status answer ≡ 1 → (files : List File) → told ≡ Some files → DifferAsWritten words (bytes_of files) taken is_finished old new
  differ_answer c sources Equal asks is done one files known = absurd (omega (arith, one))
  differ_answer c sources (Undecided points) asks is done one files known = absurd (omega (arith, one))
  differ_answer c sources (Differ d) asks is done one files known = record {
    comparison = c;
    asked = asks;
    cells = is.cells;
    sources = sources;
    said = is.said files known;
    sides = is.right.sides;
    ports = is.right.right.ports;
    difference = d;
    differs = is.right.right.claims;
    written = done;
  }

  differ_ending : (c : Comparison) (ending : Ending) → AsksToCompare words c → Meets told before now taken is_finished faults old new (comparing c) ending → ending_status ending ≡ 1 → (files : List File) → told ≡ Some files → DifferAsWritten words (bytes_of files) taken is_finished old new
  differ_ending c Told asks is one files known = absurd is
  differ_ending c (Answered compared) asks is one files known = differ_answer c compared.sources.items compared.outcome.answer asks is.0 is.1 one files known
  differ_ending c WriteFault asks is one files known = absurd (omega (arith, one))
  differ_ending c (Refused why) asks is one files known = let over = refusal_over why in absurd (omega (arith, one, over))

  page_ending : (ending : Ending) → Meets told before now taken is_finished faults old new help ending ⊎ Meets told before now taken is_finished faults old new version ending → ending_status ending ≡ 1 → ⊥
  page_ending Told is one = omega (arith, one)
  page_ending (Answered compared) (inl is) one = is
  page_ending (Answered compared) (inr is) one = is
  page_ending WriteFault is one = omega (arith, one)
  page_ending (Refused why) is one = let over = refusal_over why in omega (arith, one, over)

  pub differ_files : (request : Request) (ending : Ending) → request_of words ≡ Ok request → Meets told before now taken is_finished faults old new request ending → ending_status ending ≡ 1 → (files : List File) → told ≡ Some files → DifferAsWritten words (bytes_of files) taken is_finished old new
  differ_files help ending asks is one files known = absurd (page_ending ending (inl is) one)
  differ_files version ending asks is one files known = absurd (page_ending ending (inr is) one)
  differ_files (comparing c) ending asks is one files known = differ_ending c ending asks is one files known

-- What words ask for.

ok_same : (a b : Request) (r s : Result Request WordFault) → r ≡ Ok a → s ≡ Ok b → r ≡ s → a ≡ b
ok_same a b r s first second same = cc

pub asked_once : (words : List (List ℕ)) (a b : Request) → Ok a ≡ request_of words → request_of words ≡ Ok b → a ≡ b
asked_once words a b first second = ok_same a b (Ok a) (request_of words) refl second first
