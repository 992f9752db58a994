use Rattle.std.proofs.Common.{◌≡◌, ◌<◌, ◌+◌, ◌∷◌, [], ◌++◌, ◌∙◌, List, Option, Some, length, map, ℕ, sym, ap, subst, slice_set, arith}
use Rattle.std.proofs.lemmas.List.{length-map, map-append}
use Rattle.lw_pool.specs.declared.id.ClassId.{ClassId}
use Rattle.lw_pool.specs.Numbers.{numbers}
use Rattle.lw_choices.specs.Chains.{ChainState, AreChains, place_of}
use Rattle.lw_choices.proofs.Lists.{read_at}
use Rattle.lw_choices.proofs.Linking.{numbers_push, links_push, place_back}
use Rattle.lw_choices.proofs.chains.Chains.push.Goals as goal

pub invariant_of-self-2 : goal.invariant_of-self-2
invariant_of-self-2 c =
    let classes = c.self.inside.classes.items in
    let raw = c.self.inside.befores.items in
    let befores = map place_of raw in
    let heads = c.self.inside.heads.items in
    let cs = numbers classes in
    let before = c.index-before.result.now in
    let width = length-map classes (λ (d : ClassId). d.0) in
    let lt : c.args.class.0 < length heads = subst (λ (s : ChainState). c.args.class.0 < s.count) (sym c.self.view_is) c.requires in
    let at = read_at heads c.args.class.0 before lt c.index-before.ensures in
    let room : length cs + 1 < 4294967296 = omega (arith, width, c.if-len-ge4294967295.false) in
    let all = links_push cs befores heads c.args.class.0 before lt room at c.self.invariant in
    let n : length cs ≡ c.len-place.result = omega (arith, width, c.len-place.ensures) in
    let new = sym (numbers_push classes c.args.class) ∙ ap numbers (sym c.in_ok-push.ensures.items) in
    let code = c.number_of.result in
    let back : place_of code ≡ before = ap place_of c.number_of.ensures ∙ place_back cs c.args.class.0 (length cs) before (omega (arith, room)) (c.self.invariant.heads_are c.args.class.0 before at) in
    let raw_behind = ap (λ (bs : List ℕ). bs ++ code ∷ []) (sym c.in_ok-reserve.ensures.items) ∙ sym c.in_ok-push-2.ensures.items in
    let behind : befores ++ before ∷ [] ≡ map place_of c.push-2.new.self.items = ap (λ (o : Option ℕ). befores ++ o ∷ []) (sym back) ∙ (sym (map-append place_of raw (code ∷ [])) ∙ ap (map place_of) raw_behind) in
    subst (λ xs. AreChains xs (map place_of c.push-2.new.self.items) (slice_set heads c.args.class.0 (Some c.len-place.result))) new (subst (λ bs. AreChains (cs ++ c.args.class.0 ∷ []) bs (slice_set heads c.args.class.0 (Some c.len-place.result))) behind (subst (λ m. AreChains (cs ++ c.args.class.0 ∷ []) (befores ++ before ∷ []) (slice_set heads c.args.class.0 (Some m))) n all))
