-- What a reader stands for, line by line.
use Rattle.std.proofs.Common.{ℕ, ◌≡◌, List, [], ◌∷◌, ◌++◌, Option, None, Err, refl, ap, sym, ◌∙◌, subst, append-nil}
use Rattle.lw_words.specs.Lines.{LogicalLine}
use Rattle.lw_genlib.specs.declared.fault.LibFault.{LibFault}
use Rattle.lw_genlib.specs.declared.fault.LibFault.TheVariants.{Line, Memory}
use Rattle.lw_genlib.specs.declared.state_parts.Expect.{Expect}
use Rattle.lw_genlib.specs.declared.state_parts.Expect.TheVariants as expect
use Rattle.lw_genlib.specs.declared.reader_state.ReaderState.{ReaderState}
use Rattle.lw_genlib.specs.declared.reader.Status.TheVariants.{Reading, Stopped}
use Rattle.lw_genlib.specs.Streams.{StreamItem, text_end, items_on, stream_of, last_number}
use Rattle.lw_genlib.specs.Libraries.{CellsSoFar, Outcome, no_cells, with_open, piece, outcome_from, outcome_of, library_of, library_by, cells_or_fault, fault_so_far}
use Rattle.lw_genlib.specs.Standing.{IsAt, Tells, resume, reads_on, piece_at, BreaksAt}
use Rattle.lw_genlib.specs.Tells.{TellsErr}
use Rattle.lw_genlib.proofs.Steps.{piece-again}
use Rattle.lw_genlib.proofs.Lines.{none-resume, stream-on, last-more}

no-stream : (rest : List StreamItem) → stream_of [] ++ rest ≡ rest
unfolding stream_of
no-stream rest = refl

from-nothing : (stream : List StreamItem) → outcome_of stream ≡ outcome_from no_cells stream
unfolding outcome_of
from-nothing stream = refl

at-start : (state : ReaderState) (rest : List StreamItem) → state.so_far ≡ no_cells → state.expect ≡ expect.Piece None → outcome_from no_cells rest ≡ resume state rest
unfolding resume
at-start state rest so_far is =
    piece-again no_cells rest
    ∙ (ap (λ (b : CellsSoFar). reads_on (piece (with_open b None) rest)) (sym so_far)
    ∙ ap (λ (p : Expect). reads_on (piece_at state.so_far p rest)) (sym is))

pub stands-new : (state : ReaderState) → state.so_far ≡ no_cells → state.expect ≡ expect.Piece None → IsAt (Reading state) 0 []
stands-new state so_far is = (refl, λ rest. ap outcome_of (no-stream rest) ∙ (from-nothing rest ∙ at-start state rest so_far is))

pub stands-read : (last number : ℕ) (p more : ReaderState) (lines : List LogicalLine) (line : LogicalLine) → IsAt (Reading p) last lines → number ≡ line.number
    → ((rest : List StreamItem) → resume p (items_on line ++ rest) ≡ resume more rest) → IsAt (Reading more) number (lines ++ line ∷ [])
stands-read last number p more lines line h same goes =
    (same ∙ sym (last-more lines line), λ rest. ap outcome_of (stream-on lines line rest) ∙ (h.1 (items_on line ++ rest) ∙ goes rest))

pub stands-broken : (last number : ℕ) (p : ReaderState) (fault : LibFault) (lines : List LogicalLine) (line : LogicalLine) → IsAt (Reading p) last lines
    → ((rest : List StreamItem) → BreaksAt (resume p (items_on line ++ rest)) fault) → IsAt (Stopped fault) number (lines ++ line ∷ [])
stands-broken last number p fault lines line h breaks = λ rest.
    subst (λ (o : Outcome). BreaksAt o fault) (sym (ap outcome_of (stream-on lines line rest) ∙ h.1 (items_on line ++ rest))) (breaks rest)

pub stands-stopped : (last : ℕ) (fault : LibFault) (lines : List LogicalLine) (line : LogicalLine) → IsAt (Stopped fault) last lines → IsAt (Stopped fault) last (lines ++ line ∷ [])
stands-stopped last fault lines line h = λ rest. subst (λ (ts : List StreamItem). BreaksAt (outcome_of ts) fault) (sym (stream-on lines line rest)) (h (items_on line ++ rest))

pub outcome-read : (last : ℕ) (p : ReaderState) (lines : List LogicalLine) → IsAt (Reading p) last lines → outcome_of (stream_of lines) ≡ record { fault = None; cells = [] }
outcome-read last p lines h = ap outcome_of (sym (append-nil (stream_of lines))) ∙ (h.1 [] ∙ none-resume p)

pub answer-read : (last : ℕ) (p : ReaderState) (lines : List LogicalLine) → IsAt (Reading p) last lines → fault_so_far lines ≡ None
unfolding fault_so_far
answer-read last p lines h = ap (λ (o : Outcome). o.fault) (outcome-read last p lines h)

pub answer-stopped : (last : ℕ) (fault : LibFault) (lines : List LogicalLine) → IsAt (Stopped fault) last lines → Tells (Err fault) (fault_so_far lines)
unfolding fault_so_far
answer-stopped last (Line line kind) lines h = ap (λ (ts : List StreamItem). (outcome_of ts).fault) (sym (append-nil (stream_of lines))) ∙ h []
answer-stopped last Memory lines h = tt

pub library-read : (last : ℕ) (p : ReaderState) (lines : List LogicalLine) → IsAt (Reading p) last lines → library_of lines ≡ library_by (resume p (text_end last ∷ []))
unfolding library_of
library-read last p lines h = ap (λ (n : ℕ). library_by (outcome_of (stream_of lines ++ text_end n ∷ []))) (sym h.0) ∙ ap library_by (h.1 (text_end last ∷ []))

pub library-stopped : (last : ℕ) (fault : LibFault) (lines : List LogicalLine) → IsAt (Stopped fault) last lines → TellsErr (library_of lines) fault
unfolding library_of
library-stopped last (Line line kind) lines h = ap (λ (f : Option LibFault). cells_or_fault f (outcome_of (stream_of lines ++ text_end (last_number lines) ∷ [])).cells) (h (text_end (last_number lines) ∷ []))
library-stopped last Memory lines h = tt
