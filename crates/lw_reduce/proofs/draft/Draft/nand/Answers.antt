use Rattle.std.proofs.Common.{◌-◌, ◌^◌, ◌<◌, length, sym, ap, subst}
use Rattle.lw_laws.specs.Drafts.{Draft as PlainDraft}
use Rattle.lw_reduce.specs.declared.facts.Fact.{Fact}
use Rattle.lw_reduce.specs.Drafting.{FitsNand, plain_fact}
use Rattle.lw_reduce.proofs.Drafting.{nand_kept}
use Rattle.lw_reduce.proofs.draft.Draft.nand.Goals as goal

pub invariant_of-self-2 : goal.invariant_of-self-2
invariant_of-self-2 c =
    let d = c.self.inside in
    let p : Fact = record { form = c.args.form.0; left = c.args.left.0; right = c.args.right.0 } in
    let s = ap (λ (e : PlainDraft). e.samples) c.self.view_is in
    let fits = subst (λ ss. FitsNand ss (plain_fact p)) (sym s) (record { form = c.requires.form; left = c.requires.left; right = c.requires.right; fits = c.requires.samples }) in
    nand_kept d.inputs d.samples.items d.nands.items d.links.items p c.push.new.self.items c.self.invariant fits (subst (λ (e : PlainDraft). length e.nands < 2 ^ 32 - 2) (sym c.self.view_is) c.requires.few) c.in_ok-push.ensures.items
