use Rattle.lw_links.proofs.Pairs.{linked_more, linked_result}
use Rattle.lw_links.proofs.linking.link_base.Goals as goal

pub returns-in-Some : goal.returns-in-Some
returns-in-Some c before linked tell =
    linked_result before c.args.forms.now c.link.new.self c.in-Some.pair.left.0 c.in-Some.pair.right.0 c.link.result c.link.ensures
    (linked_more before c.args.forms.now c.in-Some.pair.left.0 c.in-Some.pair.right.0 linked (c.in-Some.ensures before tell))
