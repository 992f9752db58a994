use Rattle.std.proofs.Common.{List, sym, subst₂}
use Rattle.lw_fixed.specs.declared.micro.Micro.{Micro}
use Rattle.lw_netlist.specs.declared.gate.Port.{Port}
use Rattle.lw_look.specs.Looks.{AreEarly}
use Rattle.lw_look.proofs.Early.{timely}
use Rattle.lw_look.proofs.timing.is_in_time.Goals as goal

pub returns : goal.returns
returns c =
    let is = timely c.args.lib.now c.args.starts.now c.args.times.now c.args.netlist.now c.outputs.ensures.kept c.in_ok-arrivals.arrivals.items c.in_ok-arrivals.ensures.are in (
      λ t. is.0 (subst₂ (λ (xs : List Micro) (ps : List Port). AreEarly xs ps c.args.times.now) c.deref.ensures.value c.outputs.ensures.outputs (c.are_early.ensures.0 t)),
      λ by. c.are_early.ensures.1 (subst₂ (λ (xs : List Micro) (ps : List Port). AreEarly xs ps c.args.times.now) (sym c.deref.ensures.value) (sym c.outputs.ensures.outputs) (is.1 by)),
    )
