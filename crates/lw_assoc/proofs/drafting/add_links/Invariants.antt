use Rattle.lw_assoc.specs.Drafting.{AddsLinks, HasLinksUpTo}
use Rattle.lw_assoc.proofs.drafting.add_links.Given as goal

abbrev pub invariant-loop-net : goal.invariant-loop-net
invariant-loop-net l = record {
  links : HasLinksUpTo l.forms l.net l.draft.links;
  kept : AddsLinks l.fn.draft l.draft;
}
