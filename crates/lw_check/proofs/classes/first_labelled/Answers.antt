use Rattle.std.proofs.Common.{◌+◌, ◌≡◌, drop, find, nat_le, ap, ◌∙◌, arith}
use Rattle.lw_check.specs.Claims.{labelled_from}
use Rattle.lw_check.proofs.Unknown.{skipped}
use Rattle.lw_check.proofs.classes.first_labelled.Goals as goal

pub loop-class-init : goal.loop-class-init
loop-class-init c =
    let e : 0 + c.args.classes ≡ c.args.classes = omega arith in
    record {
      least = omega arith;
      rest = skipped c.args.classes c.args.labels.now 0 c.args.classes (omega arith) ∙ ap (λ m. find (nat_le c.args.classes) (labelled_from m (drop c.args.classes c.args.labels.now))) e;
    }
