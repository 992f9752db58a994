use Rattle.std.proofs.Common.{◌∙◌, ◌+◌, length, ap, sym, subst}
use Rattle.std.proofs.lemmas.Result.{IfOk-from_err}
use Rattle.lw_assoc.specs.Drafting.{HasBases, HasSplitsUpTo, first_draft}
use Rattle.lw_assoc.specs.Modes.{law_mode}
use Rattle.lw_laws.specs.Drafts.{Draft}
use Rattle.lw_assoc.proofs.Drafts.{bases_with_links, first_bases, no_facts_yet, no_links_yet}
use Rattle.lw_assoc.proofs.drafting.draft_of.Goals as goal

pub add_bases-requires : goal.add_bases-requires
add_bases-requires c =
    let forms = c.args.forms.now in
    subst (HasBases forms (forms.inputs + 1)) (sym (c.in_ok-draft.ensures ∙ ap first_draft c.inputs.ensures.inputs)) (first_bases forms c.inputs.ensures.kept)

pub find_splits-requires : goal.find_splits-requires
find_splits-requires c =
    no_facts_yet (law_mode c.args.mode) c.args.forms.now c.add_bases.new.draft c.in_ok-add_bases.ensures.bases (c.in_ok-add_bases.ensures.kept.nands ∙ ap (λ (d : Draft). d.nands) c.in_ok-draft.ensures)

pub add_links-requires-clause-bases : goal.add_links-requires-clause-bases
add_links-requires-clause-bases c = c.in_ok-find_splits.ensures.facts.bases

pub add_links-requires-clause-none : goal.add_links-requires-clause-none
add_links-requires-clause-none c =
    no_links_yet c.args.forms.now c.find_splits.new.draft.links (c.in_ok-find_splits.ensures.kept.links ∙ (c.in_ok-add_bases.ensures.kept.links ∙ ap (λ (d : Draft). d.links) c.in_ok-draft.ensures))

pub returns-in_err-draft : goal.returns-in_err-draft
returns-in_err-draft c = IfOk-from_err _ _ c.from_residual.ensures.0

pub returns-in_err-add_bases : goal.returns-in_err-add_bases
returns-in_err-add_bases c = IfOk-from_err _ _ c.from_residual-in_err-add_bases.ensures.0

pub returns-in_err-find_splits : goal.returns-in_err-find_splits
returns-in_err-find_splits c = IfOk-from_err _ _ c.from_residual-in_err-find_splits.ensures.0

pub returns-in_err-add_links : goal.returns-in_err-add_links
returns-in_err-add_links c = IfOk-from_err _ _ c.from_residual-in_err-add_links.ensures.0

pub returns : goal.returns
returns c =
    let forms = c.args.forms.now in
    let found = c.in_ok-find_splits.ensures.facts in
    let kept = c.in_ok-add_links.ensures.kept in
    record {
      bases = bases_with_links forms (length forms.bases) c.find_splits.new.draft c.add_links.new.draft kept found.bases;
      splits = subst (HasSplitsUpTo (law_mode c.args.mode) forms (length forms.bases)) (sym kept.nands) found.splits;
      links = c.in_ok-add_links.ensures.links;
    }
