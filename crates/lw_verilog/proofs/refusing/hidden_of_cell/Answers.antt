use Rattle.std.proofs.Common.{[], ◌∷◌, ◌++◌, ap, ap₂, sym, ◌∙◌}
use Rattle.std.specs.Prelude.{find}
use Rattle.std.specs.Option.{option_or}
use Rattle.std.proofs.lemmas.List.Folds.{find-append}
use Rattle.lw_verilog.specs.Sayable.{is_hidden}
use Rattle.lw_verilog.proofs.refusing.hidden_of_cell.Goals as goal

pub returns : goal.returns
returns c =
    let cell = c.args.cell.now in
    let net = c.args.net.now in
    c.first_of-2.ensures
    ∙ (ap₂ option_or (c.hidden-3.ensures ∙ ap (λ n. find is_hidden (n ∷ [])) c.name.ensures)
    (c.first_of.ensures
    ∙ ap₂ option_or (c.hidden_name.ensures ∙ ap (find is_hidden) c.pins.ensures.pins)
    (c.first_of-behind.ensures ∙ ap₂ option_or (c.hidden.ensures ∙ ap (λ n. find is_hidden (n ∷ [])) c.output.ensures) c.hidden-2.ensures))
    ∙ sym (find-append is_hidden (cell.name ∷ []) (cell.pins ++ (cell.output ∷ net ∷ []))
    ∙ ap (option_or (find is_hidden (cell.name ∷ [])))
    (find-append is_hidden cell.pins (cell.output ∷ net ∷ []) ∙ ap (option_or (find is_hidden cell.pins)) (find-append is_hidden (cell.output ∷ []) (net ∷ [])))))
