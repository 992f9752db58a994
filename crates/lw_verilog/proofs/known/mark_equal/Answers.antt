use Rattle.std.proofs.Common.{suc, ◌≡◌, ◌<◌, ◌||◌, false, [], length, set, get_or, ap, sym, ◌∙◌, subst, arith}
use Rattle.std.specs.Str.{bytes_eq}
use Rattle.std.proofs.lemmas.List.{get_or_default}
use Rattle.lw_verilog.specs.Chains.{known_width, name_at}
use Rattle.lw_verilog.proofs.Chains.{IsWalked, bucket_low, walked-all, walked-first, walked-more}
use Rattle.lw_verilog.proofs.known.mark_equal.Goals as goal

pub places-init : goal.places-init
places-init c = walked-first c.args.names.now c.args.heads.now c.args.next.now c.args.name.now c.bucket_of.result c.args.flags.now c.requires.chained.chains c.bucket_of.ensures (subst (λ b. b < known_width) (sym c.bucket_of.ensures) (bucket_low c.args.name.now)) c.requires.one_each

pub places-preserved : goal.places-preserved
places-preserved c =
    let names = c.args.names.now in
    let name = c.args.name.now in
    let next = c.args.next.now in
    let place = c.from-place.result in
    let is : c.places.left ≡ suc place = omega (arith, c.from-place.ensures, c.places-test.true) in
    let within : place < length names = omega (arith, is, c.places.invariant.low) in
    let same : c.eq-same.result ≡ bytes_eq (name_at names place) name =
    c.eq-same.ensures ∙ ap (λ l. bytes_eq l name) (c.as_bytes.ensures.bytes ∙ (c.index-names-place.is ∙ get_or_default names place c.index-names-place.result [] within)) in
    subst (λ t. IsWalked names name (get_or next place 0) c.args.flags.now (set c.places.flags place (get_or c.places.flags place false || t))) (sym same)
    (walked-more names c.args.heads.now next name c.places.left place c.args.flags.now c.places.flags c.requires.chained.chains is c.requires.one_each c.places.invariant)

pub returns : goal.returns
returns c = walked-all c.args.names.now c.args.name.now c.places.left c.args.flags.now c.places.flags c.places-test.false c.places.invariant
