-- What a run promises.
use Rattle.std.specs.Prelude.{◌≡◌, ◌⊎◌, ℕ, Bool, List, Option, None, Result, Ok, Err}
use Rattle.std.specs.Io.KnownBytes.{Appends}
use Rattle.lw_io.specs.declared.file.File.{File}
use Rattle.lw_io.specs.Causes.{Rose}
use Rattle.lw_io.specs.Moves.{AppendsPrefix}
use Rattle.lw_files.specs.Steps.{Files}
use Rattle.lw_genlib.specs.Cells.{CellParts}
use Rattle.lw_equal.specs.declared.answer.Answer.TheVariants.{Equal, Differ}
use Rattle.lw_equal.specs.declared.answer.Difference.{Difference}
use Rattle.lw_equal.specs.declared.point.Point.{Point}
use Rattle.lw_equal.specs.Answers.{AgreeAt, IsDifference}
use Rattle.lw_equal.specs.Ports.{both_faults}
use Rattle.lw_equal_top.specs.declared.source.Source.{Source}
use Rattle.lw_equal_top.specs.declared.outcome.Ending.{Ending}
use Rattle.lw_equal_top.specs.Words.{Comparison, Request, comparing, WordFault, request_of}
use Rattle.lw_equal_top.specs.Compared.{Sides}
use Rattle.lw_equal_top.specs.Texts.{answer_text}
use Rattle.lw_equal_top.specs.Telling.{ending_line, words_line}
use Rattle.lw_equal_top.specs.Statuses.{ending_status}
use Rattle.lw_equal_top.specs.Outcomes.{AreSaid, IsDone, Meets, names_in}

abbrev pub AsksToCompare : List (List ℕ) → Comparison → Type 0
AsksToCompare words c = request_of words ≡ Ok (comparing c)

-- The files of a comparison say these sources, of which the first two have the same inputs, outputs and latches, and
-- agree at each point.
pub record AreEqualFiles (c : Comparison) (files : Files) : Type 0 where
  pub cells : List CellParts
  pub sources : List Source
  pub said : AreSaid c files cells sources
  pub sides : Sides cells sources
  pub ports : both_faults sides.one sides.other ≡ None
  pub agree : (point : Point) → AgreeAt sides.one sides.other point

-- The words ask for a comparison of files, of which the first two have the same inputs, outputs and latches, and the
-- text that went out tells a difference between them.
pub record DifferAsWritten {O : Type 0} (words : List (List ℕ)) (files : Files) (taken : O → Option (List ℕ))
    (is_finished : O → Bool) (old new : O) : Type 0 where
  pub comparison : Comparison
  pub asked : AsksToCompare words comparison
  pub cells : List CellParts
  pub sources : List Source
  pub said : AreSaid comparison files cells sources
  pub sides : Sides cells sources
  pub ports : both_faults sides.one sides.other ≡ None
  pub difference : Difference
  pub differs : IsDifference sides.one sides.other difference.point difference.inputs.items
  pub written : IsDone taken is_finished old new (answer_text (names_in sources) (Differ difference))

-- a line was written, or a prefix of it where the stream failed
abbrev pub LineTold : {E : Type 0} → (E → Option (List ℕ)) → (E → ℕ) → E → E → List ℕ → Type 0
LineTold taken faults old new text =
    Appends (taken old) (taken new) text ⊎ (Rose (faults old) (faults new) × AppendsPrefix (taken old) (taken new) text)

-- Some ending has this status: it is what happened, and its line went to err.
pub record EndsAs {O E : Type 0} (told : Option (List File)) (before now : ℕ) (taken : O → Option (List ℕ))
    (is_finished : O → Bool) (faults : O → ℕ) (old new : O) (err_taken : E → Option (List ℕ)) (err_faults : E → ℕ)
    (err_old err_new : E) (request : Request) (status : ℕ) : Type 0 where
  pub ending : Ending
  pub is : status ≡ ending_status ending
  pub meets : Meets told before now taken is_finished faults old new request ending
  pub line : LineTold err_taken err_faults err_old err_new (ending_line request ending)

-- Words have this status: a request has what it asks for, and of words that are wrong a line went to err, and nothing
-- else happened.
abbrev pub IsTold : {O E : Type 0} → Option (List File) → ℕ → ℕ → (O → Option (List ℕ)) → (O → Bool) → (O → ℕ) → O → O
    → (E → Option (List ℕ)) → (E → ℕ) → E → E → Result Request WordFault → ℕ → Type 0
IsTold told before now taken is_finished faults old new err_taken err_faults err_old err_new (Ok request) status =
    EndsAs told before now taken is_finished faults old new err_taken err_faults err_old err_new request status
IsTold told before now taken is_finished faults old new err_taken err_faults err_old err_new (Err fault) status =
    (status ≡ 11) × (new ≡ old) × LineTold err_taken err_faults err_old err_new (words_line fault)
