use Rattle.std.proofs.Common.{◌∙◌, ap, rules}
use Rattle.lw_assoc.specs.Modes.{law_mode}
use Rattle.lw_assoc.specs.Splits.{numbered_splits}
use Rattle.lw_assoc.proofs.Built.{built_encodes, built_few, built_graph, built_once, built_trees, built_values}
use Rattle.lw_assoc.proofs.Counts.{network_splits}
use Rattle.lw_assoc.proofs.graph.build.Goals as goal

pub returns-then-split_count-gt-MOST_SPLITS-clause-limit_of_network :
    goal.returns-then-split_count-gt-MOST_SPLITS-clause-limit_of_network
returns-then-split_count-gt-MOST_SPLITS-clause-limit_of_network c = λ width net e.
    let s = ap (numbered_splits (law_mode c.args.mode)) e ∙ network_splits (law_mode c.args.mode) width net in
    rw (← s) (search rules)

pub returns-in_err-draft-clause-limit_of_network :
    goal.returns-in_err-draft-clause-limit_of_network
returns-in_err-draft-clause-limit_of_network c = λ width net e.
    let s = ap (numbered_splits (law_mode c.args.mode)) e ∙ network_splits (law_mode c.args.mode) width net in
    rw (← s) (search rules)

pub returns-in_err-reduce-clause-limit_of_network :
    goal.returns-in_err-reduce-clause-limit_of_network
returns-in_err-reduce-clause-limit_of_network c = λ width net e.
    let s = ap (numbered_splits (law_mode c.args.mode)) e ∙ network_splits (law_mode c.args.mode) width net in
    rw (← s) (search rules)

pub returns-clause-limit_of_network : goal.returns-clause-limit_of_network
returns-clause-limit_of_network c = λ width net e.
    let s = ap (numbered_splits (law_mode c.args.mode)) e ∙ network_splits (law_mode c.args.mode) width net in
    rw (← s) (search rules)

pub returns-clause-graph : goal.returns-clause-graph
returns-clause-graph c = built_graph (law_mode c.args.mode) c.args.forms.now c.split_count.ensures.kept c.in_ok-draft.draft c.in_ok-draft.ensures c.in_ok-reduce.field-0 c.in_ok-reduce.ensures

pub returns-clause-few : goal.returns-clause-few
returns-clause-few c = built_few (law_mode c.args.mode) c.args.forms.now c.split_count.ensures.kept c.in_ok-draft.draft c.in_ok-draft.ensures c.in_ok-reduce.field-0 c.in_ok-reduce.ensures

pub returns-clause-encodes : goal.returns-clause-encodes
returns-clause-encodes c = built_encodes (law_mode c.args.mode) c.args.forms.now c.split_count.ensures.kept c.in_ok-draft.draft c.in_ok-draft.ensures c.in_ok-reduce.field-0 c.in_ok-reduce.ensures

pub returns-clause-trees : goal.returns-clause-trees
returns-clause-trees c = built_trees (law_mode c.args.mode) c.args.forms.now c.split_count.ensures.kept c.in_ok-draft.draft c.in_ok-draft.ensures c.in_ok-reduce.field-0 c.in_ok-reduce.ensures

pub returns-clause-values : goal.returns-clause-values
returns-clause-values c = built_values (law_mode c.args.mode) c.args.forms.now c.split_count.ensures.kept c.in_ok-draft.draft c.in_ok-draft.ensures c.in_ok-reduce.field-0 c.in_ok-reduce.ensures

pub returns-clause-once : goal.returns-clause-once
returns-clause-once c = built_once (law_mode c.args.mode) c.args.forms.now c.split_count.ensures.kept c.in_ok-draft.draft c.in_ok-draft.ensures c.in_ok-reduce.field-0 c.in_ok-reduce.ensures
