use Rattle.std.proofs.Common.{ap, sym, ◌∙◌, ◌-◌, length, arith}
use Rattle.std.specs.Prelude.{drop, Some}
use Rattle.std.specs.List.{slice_range}
use Rattle.std.proofs.lemmas.List.{take_all, length-drop}
use Rattle.lw_blif.proofs.Arriving.{latch-words}
use Rattle.lw_blif.proofs.defining.new_latch.Goals as goal

pub returns : goal.returns
returns c =
    let words = c.args.line.now.words.now in
    latch-words words c.in_ok-rest.rest c.in_ok-input.input c.in_ok-output.output
    (c.get.ensures.word ∙ ap (λ w. Some w) (sym c.in_ok-input.ensures))
    (c.get-2.ensures.word ∙ ap (λ w. Some w) (sym c.in_ok-output.ensures))
    (c.in_ok-rest.ensures ∙ (ap (slice_range words 3) c.len.ensures ∙ take_all (length words - 3) (drop 3 words) (omega (arith, length-drop 3 words))))
