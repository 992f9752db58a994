use Rattle.std.proofs.Common.{◌≡◌, ◌∙◌, ℕ, List, length, take, get_or, ap, subst, arith}
use Rattle.lw_laws.specs.Expressions.{Expr, expr_value}
use Rattle.lw_laws.specs.Networks.{given}
use Rattle.lw_genlib.specs.Postfix.{first_expr}
use Rattle.lw_genlib.specs.Words.{pins_at}
use Rattle.lw_report.specs.Blocks.{bits_at}
use Rattle.lw_report.specs.Reading.{words_of}
use Rattle.lw_report.proofs.SimLemmas.{expr_of_words}
use Rattle.lw_report.proofs.gates.cell_word.Goals as goal
use Rattle.lw_pool.specs.Numbers.{values_at}
use Rattle.lw_genlib.proofs.Agreeing.{first-form}

pub returns : goal.returns
returns c = λ k below.
    let nets = c.args.nets.now in
    let pins = c.args.pins.now in
    let e : Expr = c.index-forms-0.result in
    let some = c.forms.ensures.kept.some_form in
    let first = subst (λ (es : List Expr). e ≡ get_or es 0 e) c.forms.ensures.forms c.index-forms-0.is in
    let form : e ≡ first_expr c.args.cell.now.forms = first-form c.args.cell.now.forms e some first in
    let count : length c.pins-count.result.now ≡ length pins = omega (arith, ap (λ (ns : List (List ℕ)). length ns) c.pins-count.ensures.pins, c.requires.one_each) in
    let front : take (length c.pins-count.result.now) c.read_nets.new.words ≡ words_of nets pins = ap (λ n. take n c.read_nets.new.words) count ∙ c.read_nets.ensures.words in
    c.words.ensures k below
    ∙ (ap (λ (ws : List ℕ). expr_value (pins_at k ws) e) front
    ∙ (expr_of_words k nets pins e
    ∙ ap (expr_value (given (values_at (bits_at k nets) pins))) form))
