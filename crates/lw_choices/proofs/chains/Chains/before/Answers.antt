use Rattle.std.proofs.Common.{◌≡◌, ◌<◌, ◌∙◌, Some, ap, length, option_map, slice_get, sym, subst, arith}
use Rattle.std.proofs.lemmas.List.{length-map}
use Rattle.std.proofs.lemmas.Option.{slice_get-map, slice_get_within}
use Rattle.lw_choices.specs.Chains.{ChainState, IsLast, place_of}
use Rattle.lw_choices.proofs.Lists.{read_at}
use Rattle.lw_choices.proofs.chains.Chains.before.Goals as goal

pub returns : goal.returns
returns c k at =
    let befores = c.self.inside.befores.items in
    let number = c.index.result.now in
    let here = subst (λ (s : ChainState). slice_get s.classes c.args.place ≡ Some k) (sym c.self.view_is) at in
    let within = slice_get_within _ c.args.place k here in
    let lt : c.args.place < length befores = omega (arith, within, c.self.invariant.one_each, length-map befores place_of) in
    let bt = slice_get-map place_of befores c.args.place ∙ ap (option_map place_of) (read_at befores c.args.place number lt c.index.ensures) in
    let last = c.self.invariant.before_is c.args.place k (place_of number) here bt in
    subst (λ (s : ChainState). IsLast s.classes k c.args.place c.place_of.result) c.self.view_is (subst (IsLast _ k c.args.place) (sym c.place_of.ensures) last)
