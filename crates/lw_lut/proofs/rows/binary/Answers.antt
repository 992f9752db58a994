use Rattle.std.proofs.Common.{◌≡◌, ◌<◌, ◌++◌, [], ◌∷◌, length, take, ap₂, sym, ◌∙◌, subst, arith}
use Rattle.std.proofs.lemmas.List.{take_more_set, length-set}
use Rattle.lw_lut.specs.Texts.{binary}
use Rattle.lw_lut.proofs.Pieces.{binary_more, binary_all}
use Rattle.lw_lut.proofs.rows.binary.Goals as goal

pub loop-k-preserved : goal.loop-k-preserved
loop-k-preserved c =
    let k = c.loop-k.k in
    let digits = c.loop-k.digits in
    let long = c.loop-k.invariant.long in
    let lt : k < length digits = let t = c.loop-k-test.true in let six = c.args.bits.few in omega (arith, t, six, long) in
    record {
      long = length-set digits k c.digit.result ∙ long;
      same = take_more_set digits k c.digit.result lt ∙ (ap₂ (λ ds d. ds ++ d ∷ []) c.loop-k.invariant.same c.digit.ensures ∙ sym (binary_more c.args.bits.count c.args.place k c.loop-k-test.true));
    }

pub returns : goal.returns
returns c =
    let end : c.loop-k.k ≡ c.args.bits.count = let t = c.loop-k-test.false in let u = c.loop-k.auto.k-end in omega (arith, t, u) in
    subst (λ k. take k c.loop-k.digits ≡ take k (binary c.args.bits.count c.args.place)) end c.loop-k.invariant.same ∙ binary_all c.args.bits.count c.args.place
