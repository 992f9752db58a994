use Rattle.std.proofs.Common.{◌||◌, map, ap, sym, ◌∙◌}
use Rattle.std.specs.List.{list_any}
use Rattle.std.proofs.lemmas.List.Folds.{list_any-append}
use Rattle.lw_verilog.specs.Texts.{begins_u}
use Rattle.lw_verilog.proofs.PutParts.{list_any-map}
use Rattle.lw_verilog.proofs.taken.has_begun.Goals as goal
use Rattle.lw_netlist.specs.Plain.{port_name}

pub returns-else-is_begun : goal.returns-else-is_begun
returns-else-is_begun c =
    let outputs = map port_name c.args.all.now.outputs.now in
    c.is_output_begun.ensures
    ∙ (list_any-map begins_u port_name c.args.all.now.outputs.now
    ∙ sym (list_any-append begins_u c.args.all.now.names.now outputs ∙ ap (λ b. b || list_any begins_u outputs) (sym c.is_begun.ensures ∙ c.if-is_begun.false)))
