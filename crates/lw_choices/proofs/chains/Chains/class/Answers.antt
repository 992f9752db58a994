use Rattle.std.proofs.Common.{◌<◌, length, sym, subst, arith}
use Rattle.std.proofs.lemmas.List.{length-map}
use Rattle.lw_pool.specs.declared.id.ClassId.{ClassId}
use Rattle.lw_choices.specs.Chains.{ChainState}
use Rattle.lw_choices.proofs.Lists.{read_at}
use Rattle.lw_choices.proofs.Linking.{number_at}
use Rattle.lw_choices.proofs.chains.Chains.class.Goals as goal

pub returns-clause-within : goal.returns-clause-within
returns-clause-within c =
    let classes = c.self.inside.classes.items in
    let there = subst (λ (s : ChainState). c.args.place < length s.classes) (sym c.self.view_is) c.requires in
    let lt : c.args.place < length classes = omega (arith, length-map classes (λ (d : ClassId). d.0), there) in
    let within = c.self.invariant.within c.args.place c.index.result.now.0 (number_at classes c.args.place c.index.result.now (read_at classes c.args.place c.index.result.now lt c.index.ensures)) in
    subst (λ (s : ChainState). c.index.result.now.0 < s.count) c.self.view_is within
