use Rattle.std.proofs.Common.{◌≡◌, Option, Some, None, sym, subst}
use Rattle.lw_frame.specs.Standing.{StandsFor}
use Rattle.lw_frame.specs.declared.arrivals.Arrivals.{Arrivals}
use Rattle.lw_blif.specs.declared.fault.BlifKind.{BlifKind}
use Rattle.lw_blif.proofs.Arriving.{arrival-broken, arrival-sound}
use Rattle.lw_blif.proofs.parts.Parts.read_arrival.Goals as goal

pub returns-in-Err : goal.returns-in-Err
returns-in-Err c = record {
  fault = arrival-broken c.args.line.now.command c.args.line.now.words.now c.in-Err.kind c.in-Err.ensures;
  arrival = λ none. let no : ◌≡◌ {A = Option BlifKind} (Some c.in-Err.kind) None = none in cc;
}

pub returns-in_ok-add_start-in-Ok : goal.returns-in_ok-add_start-in-Ok
returns-in_ok-add_start-in-Ok c =
    let e = c.in_ok-end_node-in-Ok.ensures in
    record {
      fault = arrival-sound c.args.line.now.command c.args.line.now.words.now c.in-Ok.start c.in-Ok.ensures;
      arrival = λ none. record {
        model = e.model;
        inputs = e.inputs;
        outputs = e.outputs;
        defined = e.defined;
        nodes = e.nodes;
        node = e.node;
        latches = e.latches;
        arrivals = λ said h. c.in_ok-add_start-in-Ok.ensures said (subst (λ (a : Arrivals). StandsFor a said) (sym e.arrivals) h);
      };
    }
