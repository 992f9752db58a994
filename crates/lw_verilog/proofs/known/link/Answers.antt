use Rattle.std.proofs.Common.{◌≡◌, ◌<◌, [], length, refl, ap, sym, ◌∙◌, subst, arith}
use Rattle.std.specs.Prelude.{⊤}
use Rattle.std.proofs.lemmas.List.{length-set, get_or_default}
use Rattle.lw_verilog.specs.Chains.{AreChains, bucket_of, known_width}
use Rattle.lw_verilog.proofs.Chains.{bucket_low}
use Rattle.lw_named_netlist.proofs.Chains.{chains-more, chains-none}
use Rattle.lw_verilog.proofs.known.link.Goals as goal

pub loop-place-init : goal.loop-place-init
loop-place-init c = record {
  chains = chains-none bucket_of known_width (λ k. ⊤) c.args.names.now c.fill.new.self c.args.next.now (λ b lt. c.fill.ensures.clones b 0 (omega (arith, lt, c.requires.buckets)) refl);
  buckets = c.fill.ensures.len ∙ c.requires.buckets;
  places = c.requires.places;
}

pub loop-place-preserved : goal.loop-place-preserved
loop-place-preserved c =
    let names = c.args.names.now in
    let place = c.loop-place.place in
    let heads = c.loop-place.heads in
    let next = c.loop-place.next in
    let bucket = c.bucket_of-bucket.result in
    let low : bucket < known_width = subst (λ b. b < known_width) (sym c.bucket_of-bucket.ensures) (bucket_low c.as_bytes.result.now) in
    let own = c.bucket_of-bucket.ensures ∙ ap bucket_of (c.as_bytes.ensures.bytes ∙ (c.index-names-place.is ∙ get_or_default names place c.index-names-place.result [] c.loop-place-test.true)) in
    record {
      chains = chains-more bucket_of known_width (λ k. ⊤) names place heads next bucket own (omega (arith, low, c.loop-place.invariant.buckets)) (omega (arith, c.loop-place-test.true, c.requires.few, c.loop-place.invariant.places)) c.loop-place.invariant.buckets c.loop-place.invariant.chains;
      buckets = length-set heads bucket _ ∙ c.loop-place.invariant.buckets;
      places = length-set next place _ ∙ c.loop-place.invariant.places;
    }

pub returns : goal.returns
returns c =
    let all : c.loop-place.place ≡ length c.args.names.now = omega arith in
    record {
      chains = subst (λ n. AreChains bucket_of known_width (λ k. ⊤) c.args.names.now n c.loop-place.heads c.loop-place.next) all c.loop-place.invariant.chains;
      room = record {
        few = c.requires.few;
        buckets = c.loop-place.invariant.buckets;
        places = c.loop-place.invariant.places;
      };
    }
