use Prim.{search}
use Rattle.std.proofs.Common.{◌≡◌, true, false, List, String, Global, sym, ◌∙◌, ap, subst, drop, map, string_bytes}
use Rattle.std.proofs.lemmas.Result.{err_from_is_err_and}
use Rattle.lw_top.specs.Words.{is_file_word}
use Rattle.lw_area.specs.Words.{option_of, then_options}
use Rattle.lw_area.specs.Plain.{plain_settings, begun_result}
use Rattle.lw_area.proofs.Options.{all_behind, one_more, files_begin, ended, no_word}
use Rattle.lw_area.proofs.words.options_of.Goals as goal
use Rattle.lw_area.proofs.words.options_of.Goals.{else-loop-test, then-loop-test+in_default, then-loop-test+in_default-2}

pub returns-in_err-begun-in-len1-up : goal.returns-in_err-begun-in-len1-up
returns-in_err-begun-in-len1-up c =
    let option : is_file_word (string_bytes c.option-item.result) ≡ false = search in
    let r : begun_result c.read.result ≡ option_of c.args.checked (plain_settings c.loop.settings) (string_bytes c.option-item.result) (map string_bytes (drop 1 c.loop.rest.now)) = subst (λ (more : List (String Global)). begun_result c.read.result ≡ option_of c.args.checked (plain_settings c.loop.settings) (string_bytes c.option-item.result) (map string_bytes more)) (all_behind c.loop.rest.now) (rw c.as_str-in-len1-up.ensures.value at c.read.ensures) in
    let e = one_more string_bytes c.loop.rest.now c.option-item.result c.in-len1-up.len_at_least c.option-item.is c.args.checked (plain_settings c.loop.settings) _ c.loop.counter c.loop-test.true option in
    let p = err_from_is_err_and c.from_residual.result c.from_residual.ensures.1 in
    rw (p.1, p.2) (sym (e ∙ ap (then_options _) (sym r ∙ ap begun_result c.in_err-begun-in-len1-up.was)) ∙ c.loop.invariant)

pub loop-preserved : goal.loop-preserved
loop-preserved c =
    let option : is_file_word (string_bytes c.option-item.result) ≡ false = search in
    let r : begun_result c.read.result ≡ option_of c.args.checked (plain_settings c.loop.settings) (string_bytes c.option-item.result) (map string_bytes (drop 1 c.loop.rest.now)) = subst (λ (more : List (String Global)). begun_result c.read.result ≡ option_of c.args.checked (plain_settings c.loop.settings) (string_bytes c.option-item.result) (map string_bytes more)) (all_behind c.loop.rest.now) (rw c.as_str-in-len1-up.ensures.value at c.read.ensures) in
    let e = one_more string_bytes c.loop.rest.now c.option-item.result c.in-len1-up.len_at_least c.option-item.is c.args.checked (plain_settings c.loop.settings) _ c.loop.counter c.loop-test.true option in
    sym (e ∙ ap (then_options _) (sym r ∙ ap begun_result c.in_ok-begun-in-len1-up.was)) ∙ c.loop.invariant

pub returns : goal.returns
returns c =
    let s = plain_settings c.loop.settings in
    c.files_behind.ensures
    ∙ ((elim c.loop-test.branch [
      | else-loop-test w ↦ sym (ended c.args.checked s _ c.loop.counter w.loop-test.false _)
      | then-loop-test+in_default w ↦ sym (no_word string_bytes c.loop.rest.now w.in_default.len_below c.args.checked s _)
      | then-loop-test+in_default-2 w ↦
          let file : is_file_word (string_bytes w.option-item.result) ≡ true = search in
          sym (files_begin string_bytes c.loop.rest.now w.option-item.result w.in-len1-up.len_at_least w.option-item.is c.args.checked s _ file)
    ]) ∙ c.loop.invariant)
