use Rattle.lw_links.specs.Linked.{IsLinked}
use Rattle.lw_links.proofs.linking.link_all.Given as goal

abbrev pub invariant-bases : goal.invariant-bases
invariant-bases l = IsLinked l.fn.forms l.forms
