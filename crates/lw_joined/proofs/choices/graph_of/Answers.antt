use Rattle.std.proofs.Common.{◌<◌, ◌∙◌, All, ap, arith, length, map, refl, subst, sym}
use Rattle.lw_pool.specs.declared.id.NetId.{NetId}
use Rattle.lw_net.specs.Networks.{plain}
use Rattle.lw_assoc.specs.Modes.{law_mode}
use Rattle.lw_map.specs.Choices.{root_of}
use Rattle.lw_joined.proofs.MadeJoins.{few_linked, few_listed, join_of, names_enough, outputs_listed, sops_enough}
use Rattle.lw_joined.proofs.choices.graph_of.Goals as goal

pub built-requires : goal.built-requires
built-requires c =
    few_linked c.args.linked (law_mode c.args.options.mode) c.args.options.width (plain c.args.listed.union.net) c.args.listed.forms c.link.new.forms c.requires.listed.forms c.in_ok-counts.ensures (few_listed c.args.options c.args.listed.union.net c.requires.listed.within)

pub classes_of-requires-clause-listed : goal.classes_of-requires-clause-listed
classes_of-requires-clause-listed c =
    let union = c.args.listed.union.net in
    let more = names_enough c.args.net.now union c.inputs.ensures.kept c.nets-nets.ensures.kept c.requires.begins in
    let enough = sops_enough c.args.linked c.args.options.width union c.args.listed.forms c.link.new.forms c.nets-nets.ensures.kept c.requires.listed.forms c.in_ok-counts.ensures in
    subst (All (λ (n : NetId). n.0 < length c.link.new.forms.sops)) (sym c.outputs.ensures.outputs)
    (outputs_listed c.args.net.now (length c.link.new.forms.sops) c.inputs.ensures.kept (omega (arith, more, enough)))

pub classes_of-requires-clause-bases : goal.classes_of-requires-clause-bases
classes_of-requires-clause-bases c = omega (arith, c.in_ok-graph.ensures.written.form_count)

pub first_classes-requires-clause-listed : goal.first_classes-requires-clause-listed
first_classes-requires-clause-listed c =
    let enough = sops_enough c.args.linked c.args.options.width c.args.listed.union.net c.args.listed.forms c.link.new.forms c.nets-nets.ensures.kept c.requires.listed.forms c.in_ok-counts.ensures in
    omega (arith, enough, c.nets-nets.ensures.nets)

pub first_classes-requires-clause-bases : goal.first_classes-requires-clause-bases
first_classes-requires-clause-bases c = omega (arith, c.in_ok-graph.ensures.written.form_count)

pub returns : goal.returns
returns c =
    join_of c.args.net.now c.args.linked c.args.listed.union c.args.left.items c.args.listed.forms c.link.new.forms _ c.inputs.ensures.kept c.nets-nets.ensures.kept c.requires.begins c.requires.listed.within c.requires.listed.forms c.in_ok-counts.ensures refl refl refl c.len-count.ensures.len c.in_ok-graph.ensures
    (c.in_ok-roots.ensures.classes ∙ ap (map (root_of c.link.new.forms c.in_ok-graph.graph)) c.outputs.ensures.outputs) c.in_ok-roots.ensures.within
