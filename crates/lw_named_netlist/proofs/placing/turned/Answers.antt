use Rattle.std.proofs.Common.{◌<◌, get_or, length, ap, ◌∙◌, arith}
use Rattle.std.proofs.lemmas.List.FromFn.{length-range_with_len, get_or-range_with_len}
use Rattle.lw_named_netlist.proofs.placing.turned.Goals as goal

pub places-init : goal.places-init
places-init c = record {
  one_each = ap length c.in_ok-turned.ensures ∙ length-range_with_len 0 c.args.signals;
  own = λ s lt. let inside : s < c.args.signals = omega (arith, lt, c.requires.first) in omega (arith, ap (λ l. get_or l s 0) c.in_ok-turned.ensures, get_or-range_with_len 0 c.args.signals s 0 inside);
  gates = λ j lt. absurd (omega (arith, lt));
}
