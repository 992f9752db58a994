use Rattle.std.proofs.Common.{sym, ap, subst}
use Rattle.lw_laws.specs.Drafts.{Draft as PlainDraft}
use Rattle.lw_reduce.specs.declared.facts.Link.{Link}
use Rattle.lw_reduce.specs.Drafting.{FitsLink, plain_link}
use Rattle.lw_reduce.proofs.Drafting.{link_kept}
use Rattle.lw_reduce.proofs.draft.Draft.link.Goals as goal

pub invariant_of-self-2 : goal.invariant_of-self-2
invariant_of-self-2 c =
    let d = c.self.inside in
    let l : Link = record { left = c.args.left.0; right = c.args.right.0 } in
    let s = ap (λ (e : PlainDraft). e.samples) c.self.view_is in
    let fits = subst (λ ss. FitsLink ss (plain_link l)) (sym s) (record { left = c.requires.left; right = c.requires.right; fits = c.requires.samples }) in
    link_kept d.inputs d.samples.items d.nands.items d.links.items l c.push.new.self.items c.self.invariant fits c.in_ok-push.ensures.items
