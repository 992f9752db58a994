use Prim.{search}
use Rattle.std.proofs.Common.{◌≡◌, Bool, true, false, cond, Ok, Err, string_bytes, ap, sym, ◌∙◌}
use Rattle.std.proofs.lemmas.Result.{err_from_is_err_and}
use Rattle.lw_top.specs.Words.{is_file_word}
use Rattle.lw_area.specs.declared.words.Wrong.TheVariants.{Late}
use Rattle.lw_area.specs.Words.{checking, checking_of, refused}
use Rattle.lw_area.specs.Plain.{plain_settings, plain_task, task_result}
use Rattle.lw_area.proofs.Options.{checked_last}
use Rattle.lw_area.proofs.words.checked_of.Goals as goal

pub returns-in_err-task : goal.returns-in_err-task
returns-in_err-task c =
    let e = checked_last string_bytes c.args.words.now c.mapped-item.result c.in-len1-up.len_at_least c.mapped-item.is (plain_settings c.args.settings) in
    let p = err_from_is_err_and c.from_residual.result c.from_residual.ensures.1 in
    rw (p.1, p.2) (sym (e ∙ ap (checking_of (string_bytes c.mapped-item.result)) (sym c.files_of.ensures ∙ ap task_result c.in_err-task.was)))

pub returns-then-not-is_file_word : goal.returns-then-not-is_file_word
returns-then-not-is_file_word c =
    let mapped = string_bytes c.mapped-item.result in
    let test : is_file_word mapped ≡ false = search in
    let e = checked_last string_bytes c.args.words.now c.mapped-item.result c.in-len1-up.len_at_least c.mapped-item.is (plain_settings c.args.settings) in
    ap Err (rw c.as_str-then-not-is_file_word.ensures.value at c.refuse-then-not-is_file_word.ensures)
    ∙ sym (e
    ∙ (ap (checking_of mapped) (sym c.files_of.ensures ∙ ap task_result c.in_ok-task.was)
    ∙ ap (λ (b : Bool). cond b (Ok (checking (plain_task c.in_ok-task.task) mapped)) (refused mapped Late)) test))

pub returns : goal.returns
returns c =
    let mapped = string_bytes c.mapped-item.result in
    let test : is_file_word mapped ≡ true = search in
    let e = checked_last string_bytes c.args.words.now c.mapped-item.result c.in-len1-up.len_at_least c.mapped-item.is (plain_settings c.args.settings) in
    rw c.as_str-2.ensures.value (sym (e
    ∙ (ap (checking_of mapped) (sym c.files_of.ensures ∙ ap task_result c.in_ok-task.was)
    ∙ ap (λ (b : Bool). cond b (Ok (checking (plain_task c.in_ok-task.task) mapped)) (refused mapped Late)) test)))
