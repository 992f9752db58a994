use Rattle.std.proofs.Common.{◌≡◌, ◌<◌, ℕ, List, sym, ap, ◌∙◌, true, false, subst, refl, length, get_or, ◌≤◌, ◌^◌, arith}
use Rattle.std.specs.List.{zip}
use Rattle.std.proofs.lemmas.Bool.{false≢true}
use Rattle.lw_laws.specs.Expressions.{Expr}
use Rattle.lw_fixed.specs.declared.micro.Micro.{Micro}
use Rattle.lw_genlib.specs.Cells.{IsForm, HaveOneTruth}
use Rattle.lw_genlib.specs.Postfix.{first_expr}
use Rattle.lw_genlib.specs.Entries as words
use Rattle.lw_genlib.specs.Merging as merging
use Rattle.lw_genlib.specs.declared.token.Token.{Token}
use Rattle.lw_genlib.specs.Grammar.{go_on, names_in}
use Rattle.lw_genlib.proofs.Faultless.{inner_at}
use Rattle.lw_genlib.proofs.MergeLemmas.{cell-with_form}
use Rattle.lw_genlib.proofs.Agreeing.{Mergeable, mergeable, agrees-by, first-form, table-true, table-false}
use Rattle.lw_genlib.proofs.merge_entry.merge.Goals as goal

pub returns-then-not-is_alike-clause-agrees : goal.returns-then-not-is_alike-clause-agrees
returns-then-not-is_alike-clause-agrees c =
    let unlike : merging.is_alike c.args.cell.now (merging.output_of c.args.entry.now) c.args.entry.now.area (zip (words.pins_of c.args.entry.now) (merging.delays_of c.args.entry.now)) ≡ false =
    sym (c.if-not-is_alike.ensures ∙ ap (λ (ds : List Micro). merging.is_alike c.args.cell.now (merging.output_of c.args.entry.now) c.args.entry.now.area (zip (words.pins_of c.args.entry.now) ds)) (c.as_slice.ensures ∙ c.requires.delays)) in
    sym (agrees-by c.args.cell.now c.args.entry.now false (merging.have_same_table (length c.args.cell.now.pins) (first_expr c.args.cell.now.forms) (merging.form_over c.args.cell.now.pins c.args.entry.now)) unlike refl)

pub have_one_truth-requires-clause-other : goal.have_one_truth-requires-clause-other
have_one_truth-requires-clause-other c = λ k m.
    let j : Mergeable c.args.cell.now c.args.entry.now c.in_ok-form.form = mergeable c.args.cell.now c.args.entry.now c.entry.inside.tokens.items c.entry.inside.function.output c.entry.inside.function.pins c.entry.inside.function.form c.entry.inside.named.items c.entry.inside.every
    c.as_slice.result.now c.between.result.now c.deref.result.now c.pins.result.now c.in_ok-form.form
    c.entry.invariant.function c.entry.invariant.delays (ap (λ (w : words.Entry). w.tokens) c.entry.view_is) (ap (λ (w : words.Entry). w.named) c.entry.view_is)
    (c.as_slice.ensures ∙ c.requires.delays) c.pins.ensures.kept c.requires.pins_differ c.if-not-is_alike.ensures c.between.ensures c.deref.ensures.value c.pins.ensures.pins c.in_ok-form.ensures in
    subst (λ (ps : List (List ℕ)). k < length ps) (sym c.pins-2.ensures.pins) ((j.is_form.over k).0 m)

pub returns-then-not-have_one_truth-clause-agrees : goal.returns-then-not-have_one_truth-clause-agrees
returns-then-not-have_one_truth-clause-agrees c =
    let j : Mergeable c.args.cell.now c.args.entry.now c.in_ok-form.form = mergeable c.args.cell.now c.args.entry.now c.entry.inside.tokens.items c.entry.inside.function.output c.entry.inside.function.pins c.entry.inside.function.form c.entry.inside.named.items c.entry.inside.every
    c.as_slice.result.now c.between.result.now c.deref.result.now c.pins.result.now c.in_ok-form.form
    c.entry.invariant.function c.entry.invariant.delays (ap (λ (w : words.Entry). w.tokens) c.entry.view_is) (ap (λ (w : words.Entry). w.named) c.entry.view_is)
    (c.as_slice.ensures ∙ c.requires.delays) c.pins.ensures.kept c.requires.pins_differ c.if-not-is_alike.ensures c.between.ensures c.deref.ensures.value c.pins.ensures.pins c.in_ok-form.ensures in
    let first : c.index-forms-0.result ≡ first_expr c.args.cell.now.forms = first-form c.args.cell.now.forms c.index-forms-0.result c.forms.ensures.kept.some_form (c.index-forms-0.is ∙ ap (λ (fs : List Expr). get_or fs 0 c.index-forms-0.result) c.forms.ensures.forms) in
    let form : IsForm (length c.args.cell.now.pins) c.index-forms-0.result =
    subst (IsForm (length c.args.cell.now.pins)) (sym (c.index-forms-0.is ∙ ap (λ (fs : List Expr). get_or fs 0 c.index-forms-0.result) c.forms.ensures.forms))
    (c.forms.ensures.kept.forms 0 c.index-forms-0.result c.forms.ensures.kept.some_form) in
    sym (agrees-by c.args.cell.now c.args.entry.now true false j.alike
    (table-false c.args.cell.now c.args.entry.now c.index-forms-0.result c.in_ok-form.form first j.read form j.is_form (λ h. false≢true (c.if-not-have_one_truth.ensures.1 h))))

pub add_form-requires-clause-form : goal.add_form-requires-clause-form
add_form-requires-clause-form c =
    let j : Mergeable c.args.cell.now c.args.entry.now c.in_ok-form.form = mergeable c.args.cell.now c.args.entry.now c.entry.inside.tokens.items c.entry.inside.function.output c.entry.inside.function.pins c.entry.inside.function.form c.entry.inside.named.items c.entry.inside.every
    c.as_slice.result.now c.between.result.now c.deref.result.now c.pins.result.now c.in_ok-form.form
    c.entry.invariant.function c.entry.invariant.delays (ap (λ (w : words.Entry). w.tokens) c.entry.view_is) (ap (λ (w : words.Entry). w.named) c.entry.view_is)
    (c.as_slice.ensures ∙ c.requires.delays) c.pins.ensures.kept c.requires.pins_differ c.if-not-is_alike.ensures c.between.ensures c.deref.ensures.value c.pins.ensures.pins c.in_ok-form.ensures in
    j.is_form

pub returns-clause-agrees : goal.returns-clause-agrees
returns-clause-agrees c =
    let j : Mergeable c.args.cell.now c.args.entry.now c.in_ok-form.form = mergeable c.args.cell.now c.args.entry.now c.entry.inside.tokens.items c.entry.inside.function.output c.entry.inside.function.pins c.entry.inside.function.form c.entry.inside.named.items c.entry.inside.every
    c.as_slice.result.now c.between.result.now c.deref.result.now c.pins.result.now c.in_ok-form.form
    c.entry.invariant.function c.entry.invariant.delays (ap (λ (w : words.Entry). w.tokens) c.entry.view_is) (ap (λ (w : words.Entry). w.named) c.entry.view_is)
    (c.as_slice.ensures ∙ c.requires.delays) c.pins.ensures.kept c.requires.pins_differ c.if-not-is_alike.ensures c.between.ensures c.deref.ensures.value c.pins.ensures.pins c.in_ok-form.ensures in
    let first : c.index-forms-0.result ≡ first_expr c.args.cell.now.forms = first-form c.args.cell.now.forms c.index-forms-0.result c.forms.ensures.kept.some_form (c.index-forms-0.is ∙ ap (λ (fs : List Expr). get_or fs 0 c.index-forms-0.result) c.forms.ensures.forms) in
    sym (agrees-by c.args.cell.now c.args.entry.now true true j.alike
    (table-true c.args.cell.now c.args.entry.now c.index-forms-0.result c.in_ok-form.form first j.read (c.if-not-have_one_truth.ensures.0 refl)))

pub returns-clause-form : goal.returns-clause-form
returns-clause-form c = λ yes.
    let j : Mergeable c.args.cell.now c.args.entry.now c.in_ok-form.form = mergeable c.args.cell.now c.args.entry.now c.entry.inside.tokens.items c.entry.inside.function.output c.entry.inside.function.pins c.entry.inside.function.form c.entry.inside.named.items c.entry.inside.every
    c.as_slice.result.now c.between.result.now c.deref.result.now c.pins.result.now c.in_ok-form.form
    c.entry.invariant.function c.entry.invariant.delays (ap (λ (w : words.Entry). w.tokens) c.entry.view_is) (ap (λ (w : words.Entry). w.named) c.entry.view_is)
    (c.as_slice.ensures ∙ c.requires.delays) c.pins.ensures.kept c.requires.pins_differ c.if-not-is_alike.ensures c.between.ensures c.deref.ensures.value c.pins.ensures.pins c.in_ok-form.ensures in
    c.in_ok-add_form.ensures ∙ ap (merging.with_form c.args.cell.now) (sym j.read)

pub returns-clause-kept : goal.returns-clause-kept
returns-clause-kept c = λ yes.
    let j : Mergeable c.args.cell.now c.args.entry.now c.in_ok-form.form = mergeable c.args.cell.now c.args.entry.now c.entry.inside.tokens.items c.entry.inside.function.output c.entry.inside.function.pins c.entry.inside.function.form c.entry.inside.named.items c.entry.inside.every
    c.as_slice.result.now c.between.result.now c.deref.result.now c.pins.result.now c.in_ok-form.form
    c.entry.invariant.function c.entry.invariant.delays (ap (λ (w : words.Entry). w.tokens) c.entry.view_is) (ap (λ (w : words.Entry). w.named) c.entry.view_is)
    (c.as_slice.ensures ∙ c.requires.delays) c.pins.ensures.kept c.requires.pins_differ c.if-not-is_alike.ensures c.between.ensures c.deref.ensures.value c.pins.ensures.pins c.in_ok-form.ensures in
    let first : c.index-forms-0.result ≡ first_expr c.args.cell.now.forms = first-form c.args.cell.now.forms c.index-forms-0.result c.forms.ensures.kept.some_form (c.index-forms-0.is ∙ ap (λ (fs : List Expr). get_or fs 0 c.index-forms-0.result) c.forms.ensures.forms) in
    cell-with_form c.args.cell.now (merging.form_over c.args.cell.now.pins c.args.entry.now) c.pins.ensures.kept
    (subst (IsForm (length c.args.cell.now.pins)) (sym j.read) j.is_form)
    (subst (HaveOneTruth (first_expr c.args.cell.now.forms)) (sym j.read) (subst (λ (e : Expr). HaveOneTruth e c.in_ok-form.form) first (c.if-not-have_one_truth.ensures.0 refl)))

pub expression-requires-clause-fits : goal.expression-requires-clause-fits
expression-requires-clause-fits c =
    let f = c.entry.invariant.function in
    let at = inner_at c.deref.result.now f.inner c.entry.inside.function.output (c.deref.ensures.value ∙ f.whole) in
    subst (λ (s : List Token). go_on true 0 s ≡ true) (sym (c.between.ensures ∙ at.1)) f.goes_on

pub expression-requires-clause-few : goal.expression-requires-clause-few
expression-requires-clause-few c =
    let f = c.entry.invariant.function in
    let at = inner_at c.deref.result.now f.inner c.entry.inside.function.output (c.deref.ensures.value ∙ f.whole) in
    subst (λ (s : List Token). names_in s ≤ 64) (sym (c.between.ensures ∙ at.1)) f.names

pub expression-requires-clause-short : goal.expression-requires-clause-short
expression-requires-clause-short c =
    let f = c.entry.invariant.function in
    let at = inner_at c.deref.result.now f.inner c.entry.inside.function.output (c.deref.ensures.value ∙ f.whole) in
    subst (λ (s : List Token). length s ≤ 2 ^ 32) (sym (c.between.ensures ∙ at.1)) (omega (arith, f.short))

pub returns-then-not-is_alike-clause-form : goal.returns-then-not-is_alike-clause-form
returns-then-not-is_alike-clause-form c = λ yes. absurd (false≢true yes)

pub returns-then-not-is_alike-clause-kept : goal.returns-then-not-is_alike-clause-kept
returns-then-not-is_alike-clause-kept c = λ yes. absurd (false≢true yes)

pub returns-then-not-have_one_truth-clause-form : goal.returns-then-not-have_one_truth-clause-form
returns-then-not-have_one_truth-clause-form c = λ yes. absurd (false≢true yes)

pub returns-then-not-have_one_truth-clause-kept : goal.returns-then-not-have_one_truth-clause-kept
returns-then-not-have_one_truth-clause-kept c = λ yes. absurd (false≢true yes)

pub add_form-requires-clause-one_truth : goal.add_form-requires-clause-one_truth
add_form-requires-clause-one_truth c =
    let first : c.index-forms-0.result ≡ first_expr c.args.cell.now.forms = first-form c.args.cell.now.forms c.index-forms-0.result c.forms.ensures.kept.some_form (c.index-forms-0.is ∙ ap (λ (fs : List Expr). get_or fs 0 c.index-forms-0.result) c.forms.ensures.forms) in
    subst (λ (e : Expr). HaveOneTruth e c.in_ok-form.form) first (c.if-not-have_one_truth.ensures.0 refl)
