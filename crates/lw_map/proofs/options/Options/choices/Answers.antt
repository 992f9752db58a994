use Rattle.std.proofs.Common.{refl, ◌∙◌}
use Rattle.std.proofs.lemmas.Result.{err_from_is_err_and}
use Rattle.lw_net.specs.Plain as network
use Rattle.lw_map.specs.Options.{plain_options}
use Rattle.lw_map.specs.Mapped.{splits_count}
use Rattle.lw_map.proofs.ChoiceLemmas.{wide_options, few_bases, base_number, few_splits, graph_refused, sops_count, roots_are}
use Rattle.lw_map.proofs.options.Options.choices.Goals as goal

pub returns-in_err-graph-clause-fault : goal.returns-in_err-graph-clause-fault
returns-in_err-graph-clause-fault c =
    let p = err_from_is_err_and c.from_residual.result c.from_residual.ensures.1 in
    let options = plain_options c.args.self in
    let bases = few_bases options c.args.net.now c.args.forms.now c.len-count.ensures.kept c.requires in
    let limit = c.in_err-graph.ensures.limit_of_network options.width (network.plain c.args.net.now) c.requires in
    rw (p.1, p.2) (graph_refused options c.args.net.now c.in_err-graph.field-0.0 bases (λ e. limit.0 (cc)))

pub roots-requires-clause-sops : goal.roots-requires-clause-sops
roots-requires-clause-sops c = sops_count c.args.self.width c.args.net.now c.args.forms.now c.inputs.ensures.kept c.requires

pub returns-clause-choices : goal.returns-clause-choices
returns-clause-choices c =
    let options = plain_options c.args.self in
    let net = c.args.net.now in
    let forms = c.args.forms.now in
    let listed = c.requires in (
      refl,
      record {
        wide = wide_options c.args.self;
        within = record {
          forms = few_bases options net forms c.len-count.ensures.kept listed;
          splits = few_splits c.in_ok-graph.graph (splits_count options net) (c.in_ok-graph.ensures.limit_of_network options.width (network.plain net) listed);
        };
        forms = c.len-count.ensures.len ∙ base_number options net forms listed;
        graph = c.in_ok-graph.ensures.graph options.width (network.plain net) c.args.self.wide.0 listed;
        few = c.in_ok-graph.ensures.few;
        roots = c.in_ok-roots.ensures.roots ∙ roots_are options.width net forms c.in_ok-graph.graph c.inputs.ensures.kept listed;
        in_range = c.in_ok-roots.ensures.within;
      },
    )
