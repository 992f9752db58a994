use Rattle.std.proofs.Common.{◌≡◌, drop}
use Rattle.std.specs.List.{list_all}
use Rattle.lw_form.specs.Sampled.{sample_value}
use Rattle.lw_form.proofs.sampling.are_true.Given as goal

abbrev pub invariant-loop-place : goal.invariant-loop-place
invariant-loop-place l = list_all (sample_value l.samples) (drop l.place l.forms) ≡ list_all (sample_value l.samples) l.forms
