use Rattle.std.proofs.Common.{map}
use Rattle.lw_form.specs.Bases.{plain_base}
use Rattle.lw_form.proofs.SampleValues.{SampledSoFar}
use Rattle.lw_form.proofs.sampling.samples.Given as goal

abbrev pub invariant-loop-base : goal.invariant-loop-base
invariant-loop-base l = SampledSoFar (map plain_base l.bases) l.base-index l.samples.items
