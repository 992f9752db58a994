use Rattle.std.proofs.Common.{◌+◌, ◌<◌, length, drop, ap, sym, ◌∙◌, subst, arith}
use Rattle.lw_blif.specs.LineFaults.{start_in}
use Rattle.lw_blif.specs.Readers.{start_or_kind}
use Rattle.lw_blif.proofs.Arriving.{said-count, said-names, said-start, start-words, times-drop, times-within}
use Rattle.lw_blif.proofs.arrival.start_on.Goals as goal

pub returns-then-not-wants_words : goal.returns-then-not-wants_words
returns-then-not-wants_words c = sym (said-count c.args.line.now.command c.args.line.now.words.now (sym c.wants_words.ensures ∙ c.if-not-wants_words.true))

pub returns-then-not-has_names : goal.returns-then-not-has_names
returns-then-not-has_names c =
    sym (said-names c.args.line.now.command c.args.line.now.words.now (sym c.wants_words.ensures ∙ c.if-not-wants_words.false) (sym c.has_names.ensures ∙ c.if-not-has_names.true))

pub get-requires-2 : goal.get-requires-2
get-requires-2 c =
    let line = c.args.line.now in
    subst (λ n. n + 1 < length line.words.now) (sym c.times_at-from.ensures) (times-within line.command line.words.now line.arrival (sym c.wants_words.ensures ∙ c.if-not-wants_words.false))

pub get-requires : goal.get-requires
get-requires c =
    let line = c.args.line.now in
    let within : c.times_at-from.result + 1 < length line.words.now = subst (λ n. n + 1 < length line.words.now) (sym c.times_at-from.ensures) (times-within line.command line.words.now line.arrival (sym c.wants_words.ensures ∙ c.if-not-wants_words.false)) in
    omega (arith, within)

pub returns-in-Ok : goal.returns-in-Ok
returns-in-Ok c =
    let line = c.args.line.now in
    let words = line.words.now in
    let said = start-words words c.times_at-from.result c.get.result.now c.get-2.result.now c.get.ensures.word c.get-2.ensures.word in
    let times = times-drop line.command words line.arrival ∙ ap (λ n. drop n words) (sym c.times_at-from.ensures) in
    sym (said-start line.command words (sym c.wants_words.ensures ∙ c.if-not-wants_words.false) (sym c.has_names.ensures ∙ c.if-not-has_names.false)
    ∙ ap start_or_kind (ap start_in times ∙ (said ∙ sym c.in-Ok.ensures.start)))

pub returns-in-Err : goal.returns-in-Err
returns-in-Err c =
    let line = c.args.line.now in
    let words = line.words.now in
    let said = start-words words c.times_at-from.result c.get.result.now c.get-2.result.now c.get.ensures.word c.get-2.ensures.word in
    let times = times-drop line.command words line.arrival ∙ ap (λ n. drop n words) (sym c.times_at-from.ensures) in
    sym (said-start line.command words (sym c.wants_words.ensures ∙ c.if-not-wants_words.false) (sym c.has_names.ensures ∙ c.if-not-has_names.false)
    ∙ ap start_or_kind (ap start_in times ∙ (said ∙ sym c.in-Err.ensures.start)))
