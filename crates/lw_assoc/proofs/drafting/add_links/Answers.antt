use Rattle.std.proofs.Common.{length}
use Rattle.lw_assoc.proofs.Drafts.{bases_with_links, link_known, link_sample, links_by_one, links_next}
use Rattle.lw_assoc.proofs.drafting.add_links.Goals as goal

pub link-requires-clause-left : goal.link-requires-clause-left
link-requires-clause-left c =
    let forms = c.args.forms.now in
    let l = c.loop-net in
    let has = bases_with_links forms (length forms.bases) c.args.draft.now l.draft l.invariant.kept c.requires.bases in
    (link_known forms c.nets-net-end.ensures.kept l.draft has c.sop.result.0 c.fac.result.0 (l.net, c.sop.ensures, c.fac.ensures)).0

pub link-requires-clause-right : goal.link-requires-clause-right
link-requires-clause-right c =
    let forms = c.args.forms.now in
    let l = c.loop-net in
    let has = bases_with_links forms (length forms.bases) c.args.draft.now l.draft l.invariant.kept c.requires.bases in
    (link_known forms c.nets-net-end.ensures.kept l.draft has c.sop.result.0 c.fac.result.0 (l.net, c.sop.ensures, c.fac.ensures)).1

pub link-requires-clause-samples : goal.link-requires-clause-samples
link-requires-clause-samples c =
    let forms = c.args.forms.now in
    let l = c.loop-net in
    let has = bases_with_links forms (length forms.bases) c.args.draft.now l.draft l.invariant.kept c.requires.bases in
    link_sample forms c.nets-net-end.ensures.kept l.draft has c.sop.result.0 c.fac.result.0 (l.net, c.sop.ensures, c.fac.ensures)

pub loop-net-preserved : goal.loop-net-preserved
loop-net-preserved c =
    let forms = c.args.forms.now in
    let l = c.loop-net in
    record {
      links = links_next forms c.nets-net-end.ensures.kept l.draft c.link.new.self l.net c.sop.result.0 c.fac.result.0 c.sop.ensures c.fac.ensures c.in_ok-link.ensures.ok l.invariant.links;
      kept = links_by_one c.args.draft.now l.draft c.link.new.self (record { left = c.sop.result.0; right = c.fac.result.0 }) l.invariant.kept c.in_ok-link.ensures.ok;
    }
