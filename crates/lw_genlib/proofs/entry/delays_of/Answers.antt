use Rattle.std.proofs.Common.{◌≡◌, ℕ, true, false, cond, List, Option, Ok, Err, sym, ap, ap₂, ◌∙◌, map}
use Rattle.std.specs.List.{list_any}
use Rattle.lw_fixed.specs.declared.micro.Micro.{Micro}
use Rattle.lw_genlib.specs.declared.fault.LibFault.TheVariants.{Line}
use Rattle.lw_genlib.specs.declared.fault.LibKind.TheVariants.{PinMissing}
use Rattle.lw_genlib.specs.Entries as words
use Rattle.lw_genlib.specs.Merging as merging
use Rattle.lw_genlib.proofs.Listed.{lacks-by, of-some, of-none}
use Rattle.lw_genlib.proofs.entry.delays_of.Goals as goal

pub returns-in-Some : goal.returns-in-Some
returns-in-Some c =
    let said = of-some c.in_ok-found.found c.in-Some.delays (list_any (λ (own : Option Micro). merging.is_missing (merging.own_or c.entry.inside.every own)) c.deref.result.now ≡ true)
    (λ (ds : List Micro). (list_any (λ (own : Option Micro). merging.is_missing (merging.own_or c.entry.inside.every own)) c.deref.result.now ≡ false) × (ds ≡ map (merging.delay_by c.entry.inside.every) c.deref.result.now))
    c.in-Some.is c.in_ok-found.ensures in
    let named : c.deref.result.now ≡ c.args.entry.now.named = c.deref.ensures.value ∙ ap (λ (e : words.Entry). e.named) c.entry.view_is in
    let every : c.entry.inside.every ≡ c.args.entry.now.every = ap (λ (e : words.Entry). e.every) c.entry.view_is in
    let has : merging.lacks_delay c.args.entry.now ≡ false = lacks-by c.args.entry.now c.deref.result.now c.entry.inside.every false named every said.0 in
    ap (λ b. cond b (Err (Line c.args.entry.now.line PinMissing)) (Ok (merging.delays_of c.args.entry.now))) has
    ∙ ap Ok (sym (said.1 ∙ ap₂ (λ (e : Option Micro) (ns : List (Option Micro)). map (merging.delay_by e) ns) every named))

pub returns-in-None : goal.returns-in-None
returns-in-None c =
    let said = of-none c.in_ok-found.found (list_any (λ (own : Option Micro). merging.is_missing (merging.own_or c.entry.inside.every own)) c.deref.result.now ≡ true)
    (λ (ds : List Micro). (list_any (λ (own : Option Micro). merging.is_missing (merging.own_or c.entry.inside.every own)) c.deref.result.now ≡ false) × (ds ≡ map (merging.delay_by c.entry.inside.every) c.deref.result.now))
    c.in-None.is c.in_ok-found.ensures in
    let named : c.deref.result.now ≡ c.args.entry.now.named = c.deref.ensures.value ∙ ap (λ (e : words.Entry). e.named) c.entry.view_is in
    let every : c.entry.inside.every ≡ c.args.entry.now.every = ap (λ (e : words.Entry). e.every) c.entry.view_is in
    let lacks : merging.lacks_delay c.args.entry.now ≡ true = lacks-by c.args.entry.now c.deref.result.now c.entry.inside.every true named every said in
    ap (λ b. cond b (Err (Line c.args.entry.now.line PinMissing)) (Ok (merging.delays_of c.args.entry.now))) lacks
    ∙ ap (λ (n : ℕ). Err (Line n PinMissing)) (sym (ap (λ (e : words.Entry). e.line) c.entry.view_is))
