use Rattle.std.proofs.Common.{◌≡◌, ◌≤◌, ◌<◌, ◌∙◌, ◌∷◌, length, take, drop, sym, ap, ap₂, subst}
use Rattle.std.specs.List.{prefix_len}
use Rattle.std.proofs.lemmas.List.Sums.{prefix_len-le-length}
use Rattle.lw_genlib.specs.declared.token.Token.TheVariants.{Name}
use Rattle.lw_genlib.specs.Functions.{tokens_in}
use Rattle.lw_genlib.proofs.NameRuns.{is_name_byte, name_first, some_name, goes_on_by}
use Rattle.lw_genlib.proofs.tokenize.push_tokens.Goals as goal

pub split_at-requires : goal.split_at-requires
split_at-requires c =
    let most : prefix_len is_name_byte c.loop-byte.rest.now ≤ length c.loop-byte.rest.now = prefix_len-le-length is_name_byte c.loop-byte.rest.now in
    subst (λ n. n ≤ length c.loop-byte.rest.now) (sym c.name_len.ensures) most

pub loop-byte-preserved : goal.loop-byte-preserved
loop-byte-preserved c =
    let some : 0 < prefix_len is_name_byte c.loop-byte.rest.now = some_name c.loop-byte.rest.now c.in-Some.byte.now c.in-Some.ensures.value (sym c.if-is_punct_byte.false ∙ c.is_punct_byte.ensures) in
    let name : take (prefix_len is_name_byte c.loop-byte.rest.now) c.loop-byte.rest.now ≡ c.in_ok-from_slice.field-0 =
    sym (c.in_ok-from_slice.ensures ∙ (c.split_at.ensures.front ∙ ap (λ n. take n c.loop-byte.rest.now) c.name_len.ensures)) in
    let behind : drop (prefix_len is_name_byte c.loop-byte.rest.now) c.loop-byte.rest.now ≡ c.split_at.result.1.now =
    sym (c.split_at.ensures.back ∙ ap (λ n. drop n c.loop-byte.rest.now) c.name_len.ensures) in
    goes_on_by c.args.given.now.word.now c.loop-byte.rest.now c.split_at.result.1.now c.args.tokens.now.items c.loop-byte.tokens.items _ (Name c.in_ok-from_slice.field-0) c.loop-byte.invariant
    (name_first c.loop-byte.rest.now some ∙ ap₂ (λ n b. Name n ∷ tokens_in b) name behind) c.in_ok-push-2.ensures.items
