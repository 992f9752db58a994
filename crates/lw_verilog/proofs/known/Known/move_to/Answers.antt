use Rattle.std.proofs.Common.{map, ap, ◌∙◌}
use Rattle.lw_named_netlist.specs.Closing.{is_among}
use Rattle.lw_verilog.proofs.known.Known.move_to.Goals as goal
use Rattle.lw_netlist.specs.Plain.{port_name}

pub returns-clause-stands : goal.returns-clause-stands
returns-clause-stands c = record {
  many = c.fill.ensures.many;
  each = λ i lt within.
      let inside = c.window-names.ensures.enough i lt within in
      c.fill.ensures.each i inside ∙ ap (is_among (map port_name c.args.outputs.now)) (c.window-names.ensures.each i inside);
}
