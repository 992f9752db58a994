use Rattle.std.proofs.Common.{◌≡◌, ◌+◌, ◌<◌, All, IfOk, length, map, ap, sym, ◌∙◌, subst, subst₂, arith}
use Rattle.std.specs.List.{range_with_len}
use Rattle.std.proofs.lemmas.List.{length-map}
use Rattle.std.proofs.lemmas.List.FromFn.{length-range_with_len, get_or-range_with_len}
use Rattle.lw_laws.specs.Names.{net_names}
use Rattle.lw_pool.specs.declared.id.ClassId.{ClassId}
use Rattle.lw_pool.specs.Numbers.{numbers}
use Rattle.lw_trade.specs.Traded.{port_net}
use Rattle.lw_trade.proofs.Moved.{below_by}
use Rattle.lw_trade.proofs.assembly.names_of.Goals as goal

pub net_names-requires-clause-few : goal.net_names-requires-clause-few
net_names-requires-clause-few c =
    let own : length (numbers c.deref-2.result.now) ≡ c.args.gates = ap (λ l. length (numbers l)) c.deref-2.ensures.value ∙ (ap length c.in_ok-own.ensures ∙ length-range_with_len c.args.inputs c.args.gates) in
    omega (arith, own, length-map c.deref-2.result.now (λ (k : ClassId). k.0), c.requires.one_name, c.requires.few_outputs, c.requires.few)

pub net_names-requires-clause-few_outputs : goal.net_names-requires-clause-few_outputs
net_names-requires-clause-few_outputs c = c.requires.few_outputs

pub net_names-requires-clause-one_root : goal.net_names-requires-clause-one_root
net_names-requires-clause-one_root c =
    let same : length (numbers c.deref.result.now) ≡ length (map port_net c.args.outputs.now) = ap (λ l. length (numbers l)) c.deref.ensures.value ∙ ap length c.in_ok-roots.ensures in
    omega (arith, same, length-map c.deref.result.now (λ (k : ClassId). k.0), length-map c.args.outputs.now port_net, c.requires.one_each)

pub net_names-requires-clause-roots : goal.net_names-requires-clause-roots
net_names-requires-clause-roots c =
    let same : numbers c.deref.result.now ≡ map port_net c.args.outputs.now = ap numbers c.deref.ensures.value ∙ c.in_ok-roots.ensures in
    below_by (λ (k : ClassId). k.0) (c.args.inputs + c.args.gates) c.deref.result.now (subst (All (λ x. x < c.args.inputs + c.args.gates)) (sym same) c.requires.nets)

pub net_names-requires-clause-gates : goal.net_names-requires-clause-gates
net_names-requires-clause-gates c =
    let same : numbers c.deref-2.result.now ≡ range_with_len c.args.inputs c.args.gates = ap numbers c.deref-2.ensures.value ∙ c.in_ok-own.ensures in
    below_by (λ (k : ClassId). k.0) (c.args.inputs + c.args.gates) c.deref-2.result.now (subst (All (λ x. x < c.args.inputs + c.args.gates)) (sym same) (λ k d lt.
    let many = length-range_with_len c.args.inputs c.args.gates in
    let f = get_or-range_with_len c.args.inputs c.args.gates k d (omega (arith, lt, many)) in
    omega (arith, f, lt, many)))

pub returns : goal.returns
returns c =
    let roots : numbers c.deref.result.now ≡ map port_net c.args.outputs.now = ap numbers c.deref.ensures.value ∙ c.in_ok-roots.ensures in
    let own : numbers c.deref-2.result.now ≡ range_with_len c.args.inputs c.args.gates = ap numbers c.deref-2.ensures.value ∙ c.in_ok-own.ensures in
    subst₂ (λ rs gs. IfOk c.net_names.result (λ names. names ≡ net_names c.args.targets.now.inputs c.args.targets.now.outputs rs gs)) roots own c.net_names.ensures
