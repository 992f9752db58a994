use Rattle.std.proofs.Common.{◌≡◌, ◌++◌, ◌∷◌, [], List, ℕ, drop, refl, sym, ap, ◌∙◌, subst, append-nil, arith}
use Rattle.std.proofs.lemmas.Result.{IfOk-weaker}
use Rattle.lw_blif.specs.LineFaults.{defined_for}
use Rattle.lw_blif.specs.Readers.{AreDefined, are_fresh}
use Rattle.lw_blif.proofs.Arriving.{latch-long, names-long}
use Rattle.lw_blif.proofs.Reading.{defines-none}
use Rattle.lw_blif.proofs.WordLists.{third_word-get}
use Rattle.lw_blif.proofs.parts.Parts.define.Goals as goal

pub last_word-requires : goal.last_word-requires
last_word-requires c = omega (arith, names-long c.args.line.now.command c.args.line.now.words.now c.in-Names.is c.args.line.now.wanted)

pub get-requires : goal.get-requires
get-requires c = omega (arith, latch-long c.args.line.now.command c.args.line.now.words.now c.in-Latch.is c.args.line.now.wanted)

pub returns-in-Inputs : goal.returns-in-Inputs
returns-in-Inputs c =
    let old = c.args.self.now.defined.keys in
    let words = c.args.line.now.words.now in
    let names : drop 1 words ≡ defined_for c.args.line.now.command words = ap (λ k. defined_for k words) (sym c.in-Inputs.is) in
    IfOk-weaker c.define_all.result _ _
    (λ b is.
    let all = subst (λ (ns : List (List ℕ)). AreDefined old ns c.define_all.new.defined.keys b) names is in
    record { fresh = all.fresh; defined = λ e. record { model = refl; inputs = refl; outputs = refl; defined = all.defined e; nodes = refl; latches = refl; arrivals = refl; node = refl } })
    c.define_all.ensures

pub returns-in_ok-name-in-Names : goal.returns-in_ok-name-in-Names
returns-in_ok-name-in-Names c =
    let old = c.args.self.now.defined.keys in
    let words = c.args.line.now.words.now in
    let names : c.in_ok-name-in-Names.name ∷ [] ≡ defined_for c.args.line.now.command words = ap (λ w. w ∷ []) (c.in_ok-name-in-Names.ensures ∙ c.last_word.ensures.word) ∙ ap (λ k. defined_for k words) (sym c.in-Names.is) in
    IfOk-weaker c.define_one.result _ _
    (λ b is.
    let all = subst (λ (ns : List (List ℕ)). AreDefined old ns c.define_one.new.defined.keys b) names is in
    record { fresh = all.fresh; defined = λ e. record { model = refl; inputs = refl; outputs = refl; defined = all.defined e; nodes = refl; latches = refl; arrivals = refl; node = refl } })
    c.define_one.ensures

pub returns-in_ok-output-in-Latch : goal.returns-in_ok-output-in-Latch
returns-in_ok-output-in-Latch c =
    let old = c.args.self.now.defined.keys in
    let words = c.args.line.now.words.now in
    let names : c.in_ok-output-in-Latch.output ∷ [] ≡ defined_for c.args.line.now.command words = ap (λ w. w ∷ []) c.in_ok-output-in-Latch.ensures ∙ third_word-get words c.get.result.now c.get.ensures.word ∙ ap (λ k. defined_for k words) (sym c.in-Latch.is) in
    IfOk-weaker c.define_one-in-Latch.result _ _
    (λ b is.
    let all = subst (λ (ns : List (List ℕ)). AreDefined old ns c.define_one-in-Latch.new.defined.keys b) names is in
    record { fresh = all.fresh; defined = λ e. record { model = refl; inputs = refl; outputs = refl; defined = all.defined e; nodes = refl; latches = refl; arrivals = refl; node = refl } })
    c.define_one-in-Latch.ensures

pub returns-in_default : goal.returns-in_default
returns-in_default c =
    let old = c.args.self.now.defined.keys in
    let none : defined_for c.args.line.now.command c.args.line.now.words.now ≡ [] = defines-none c.args.line.now.command c.args.line.now.words.now c.in_default.not-Inputs c.in_default.not-Names c.in_default.not-Latch in
    record {
      fresh = ap (are_fresh old) (sym none);
      defined = λ e. record { model = refl; inputs = refl; outputs = refl; defined = sym (append-nil old) ∙ ap (λ ns. old ++ ns) (sym none); nodes = refl; latches = refl; arrivals = refl; node = refl };
    }
