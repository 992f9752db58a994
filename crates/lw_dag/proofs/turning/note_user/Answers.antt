use Rattle.std.proofs.Common.{◌∙◌, ◌-◌, ◌<◌, ◌++◌, ◌∷◌, [], ℕ, All, ap, arith, length, refl, vec_len}
use Rattle.std.proofs.lemmas.List.{get_or_read}
use Rattle.std.proofs.lemmas.List.Elements.{All-get_or, All-push, All-same, All-set}
use Rattle.std.proofs.lemmas.Result.{IfOk-from_err}
use Rattle.lw_dag.proofs.turning.note_user.Goals as goal

pub returns-then-s-inputs : goal.returns-then-s-inputs
returns-then-s-inputs c = c.requires.rows

pub index_mut-row-requires : goal.index_mut-row-requires
index_mut-row-requires c = omega (arith, c.requires.signal, c.if-s-inputs.false)

pub returns-in_err-push : goal.returns-in_err-push
returns-in_err-push c = IfOk-from_err _ _ c.from_residual.ensures.0

pub returns : goal.returns
returns c =
    let rows = c.args.rows.now in
    let n = vec_len rows in
    let at : ℕ = c.args.s - c.args.inputs in
    let within : at < length rows.items = omega (arith, rows.ok.0, c.requires.signal, c.if-s-inputs.false) in
    let old = get_or_read rows.items at c.index_mut-row.result.now within c.index_mut-row.ensures.value [] in
    let pushed = c.in_ok-push.ensures ∙ ap (λ l. l ++ c.args.user ∷ []) old in
    let grown = All-push (λ j. j < n) _ c.args.user (All-get_or (All (λ j. j < n)) rows.items at [] within c.requires.rows.within) c.requires.user in
    record { len = refl; within = All-set (All (λ j. j < n)) rows.items at c.push.new.self (All-same (λ j. j < n) _ _ pushed grown) c.requires.rows.within }
