use Rattle.std.proofs.Common.{◌∙◌, refl, ap, length, map, Some}
use Rattle.std.proofs.lemmas.Option.{slice_get_read}
use Rattle.lw_laws.proofs.Numbers.{slice_get_map}
use Rattle.lw_form.specs.Bases.{plain_base}
use Rattle.lw_form.specs.Sampled.{sample_base}
use Rattle.lw_form.proofs.SampleValues.{sampled_first, sampled_more, sampled_done}
use Rattle.lw_form.proofs.sampling.samples.Goals as goal

pub loop-base-preserved : goal.loop-base-preserved
loop-base-preserved c =
    let at = slice_get_map plain_base c.args.bases.now c.loop-base.base-index c.base-item.result (slice_get_read c.args.bases.now (length c.args.bases.now) c.loop-base.base-index c.base-item.result refl c.loop-base-test.true c.base-item.is) in
    sampled_more (map plain_base c.args.bases.now) c.loop-base.base-index c.loop-base.samples.items c.push.new.self.items (plain_base c.base-item.result) c.sample_of-sample.result at (λ fs e. c.requires c.loop-base.base-index fs (at ∙ ap Some e)) (c.sample_of-sample.ensures ∙ ap (λ l. sample_base l (plain_base c.base-item.result)) c.deref.ensures.value) c.in_ok-push.ensures.items c.loop-base.invariant

pub loop-base-init : goal.loop-base-init
loop-base-init c = sampled_first (map plain_base c.args.bases.now) c.in_ok-samples.samples.items c.in_ok-samples.ensures.items

pub returns : goal.returns
returns c = sampled_done c.args.bases.now c.loop-base.samples.items c.loop-base.base-index c.loop-base-test.false c.loop-base.auto.base-index-end c.loop-base.invariant
