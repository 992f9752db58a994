use Rattle.std.proofs.Common.{◌≡◌, ◌<◌, ◌∙◌, ℕ, All, length, ap, sym, subst, arith}
use Rattle.lw_extract.specs.declared.choosing.Chosen.{Chosen}
use Rattle.lw_extract.proofs.Assembly.{few_chosen}
use Rattle.lw_extract.proofs.assembling.assemble.Goals as goal

pub add_gates-requires-clause-few : goal.add_gates-requires-clause-few
add_gates-requires-clause-few c =
    let few = few_chosen c.args.graph.now c.args.pats.now c.args.ports.now c.args.chosen.now c.requires in
    omega (arith, few, c.requires.fit.few, c.requires.fit.few_inputs, c.inputs.ensures.inputs)

pub add_gates-requires-clause-in_range : goal.add_gates-requires-clause-in_range
add_gates-requires-clause-in_range c =
    let one_each : length c.deref_mut.result.now ≡ length c.args.graph.now.pairs = ap length c.deref_mut.ensures.value ∙ c.in_ok-nets.ensures.one_each in
    subst (λ (n : ℕ). All (λ (x : Chosen). x.class.0 < n) c.args.chosen.now) (sym one_each) c.requires.within
