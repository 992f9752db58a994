use Rattle.std.proofs.Common.{◌+◌, ◌<◌, ◌++◌, ◌^◌, ◌∙◌, All, List, length, ap, subst, subst₂, sym, arith}
use Rattle.std.proofs.lemmas.List.{length-map}
use Rattle.lw_laws.specs.Names.{free_names}
use Rattle.lw_pool.specs.declared.id.ClassId.{ClassId}
use Rattle.lw_lut.specs.Choosing.{AreTables}
use Rattle.lw_lut.specs.Nets.{table_classes, table_names}
use Rattle.lw_lut.specs.Placed.{HasPlaces, IsPlaced}
use Rattle.lw_lut.specs.Searches.{IsKnown}
use Rattle.lw_lut.specs.declared.ports.TablePorts.{TablePorts}
use Rattle.lw_lut.specs.declared.table.Table.{Table}
use Rattle.lw_laws.proofs.MappedNames.{gate_names_each}
use Rattle.lw_lut.proofs.PlacedNames.{IsOnce}
use Rattle.lw_lut.proofs.NetsPlaced.{below_numbers, few_nets}
use Rattle.lw_lut.proofs.TableNets.{outs_below, net_kept}
use Rattle.lw_lut.proofs.making.tables.Goals as goal
use Rattle.lw_pool.specs.Numbers.{numbers}

pub choose-requires-clause-roots : goal.choose-requires-clause-roots
choose-requires-clause-roots c = record {
  least = (c.args.graph.now, c.args.leaves, c.requires.depths);
  within = subst₂ (λ rs n. All (λ (root : ClassId). root.0 < n) rs) (sym c.as_slice.ensures) (sym c.requires.depths.one_each) c.requires.fit.in_range;
}

pub names_of-requires-clause-tables : goal.names_of-requires-clause-tables
names_of-requires-clause-tables c =
    let g = c.args.graph.now in
    let most = c.args.leaves in
    let lists = c.args.depths.now in
    let ports = c.args.ports.now in
    let covered = subst (λ rs. All (λ (root : ClassId). IsKnown lists.depths root.0) rs) (sym c.as_slice.ensures) c.requires.known in
    let are : AreTables g most lists.depths (numbers ports.roots) c.in_ok-chosen.chosen.items = subst (λ rs. AreTables g most lists.depths (numbers rs) c.in_ok-chosen.chosen.items) c.as_slice.ensures (c.in_ok-chosen.ensures.tables g most c.requires.depths covered) in
    subst₂ (λ n ts. All (λ (t : Table). t.out.0 < n) ts) (sym c.len.ensures) (sym c.deref.ensures.value) (outs_below g most lists c.requires.depths ports c.requires.fit c.requires.known c.in_ok-chosen.chosen.items are)

pub names_of-requires-clause-roots : goal.names_of-requires-clause-roots
names_of-requires-clause-roots c =
    let fit = c.requires.fit in
    record {
      few_outputs = fit.few_outputs;
      one_root = fit.one_root;
      below = subst (λ n. All (λ (root : ClassId). root.0 < n) c.args.ports.now.roots) (sym (c.len.ensures ∙ c.requires.depths.one_each)) fit.in_range;
    }

pub places_of-requires : goal.places_of-requires
places_of-requires c =
    let g = c.args.graph.now in
    let most = c.args.leaves in
    let lists = c.args.depths.now in
    let ports = c.args.ports.now in
    let inputs = c.in_ok-inputs.inputs in
    let chosen = c.in_ok-chosen.chosen.items in
    let covered = subst (λ rs. All (λ (root : ClassId). IsKnown lists.depths root.0) rs) (sym c.as_slice.ensures) c.requires.known in
    let are : AreTables g most lists.depths (numbers ports.roots) chosen = subst (λ rs. AreTables g most lists.depths (numbers rs) chosen) c.as_slice.ensures (c.in_ok-chosen.ensures.tables g most c.requires.depths covered) in
    let kept = net_kept g most lists c.requires.depths ports c.requires.fit c.requires.known chosen are inputs c.in_ok-inputs.ensures c.in_ok-names.names in
    let one_each = c.requires.depths.one_each in
    let leaves = subst (λ m. All (λ q. q < m) g.leaves) (sym one_each) c.classes.ensures.kept.leaves in
    let ins = below_numbers inputs g.leaves (length lists.depths) c.in_ok-inputs.ensures leaves in
    let outs = outs_below g most lists c.requires.depths ports c.requires.fit c.requires.known chosen are in
    let count = few_nets inputs chosen (length lists.depths) kept.once ins outs in
    let few = c.classes.ensures.kept.few in
    record {
      few = subst₂ (λ (is : List ClassId) (ts : List Table). length is + length ts < 2 ^ 32) (sym c.as_slice-2.ensures) (sym c.deref-2.ensures.value) (omega (arith, count, few, one_each));
      inputs_below = subst₂ (λ is m. All (λ (x : ClassId). x.0 < m) is) (sym c.as_slice-2.ensures) (sym c.len-2.ensures) ins;
      tables_below = subst₂ (λ ts m. All (λ (x : Table). x.out.0 < m) ts) (sym c.deref-2.ensures.value) (sym c.len-2.ensures) outs;
      once = subst₂ (λ is ts. IsOnce (numbers is ++ table_classes ts)) (sym c.as_slice-2.ensures) (sym c.deref-2.ensures.value) kept.once;
    }

pub invariant_of-result : goal.invariant_of-result
invariant_of-result c =
    let g = c.args.graph.now in
    let most = c.args.leaves in
    let lists = c.args.depths.now in
    let ports = c.args.ports.now in
    let inputs = c.in_ok-inputs.inputs in
    let names = c.in_ok-names.names in
    let places = c.in_ok-places.places.items in
    let chosen = c.in_ok-chosen.chosen.items in
    let covered = subst (λ rs. All (λ (root : ClassId). IsKnown lists.depths root.0) rs) (sym c.as_slice.ensures) c.requires.known in
    let are : AreTables g most lists.depths (numbers ports.roots) chosen = subst (λ rs. AreTables g most lists.depths (numbers rs) chosen) c.as_slice.ensures (c.in_ok-chosen.ensures.tables g most c.requires.depths covered) in
    let classes = c.deref.result.now in
    let frees = free_names (ports.inputs ++ ports.outputs) (length classes) in
    let placed : IsPlaced (record { ports = ports; inputs = inputs; tables = chosen; names = names }) places = record {
      kept = net_kept g most lists c.requires.depths ports c.requires.fit c.requires.known chosen are inputs c.in_ok-inputs.ensures names;
      inputs = c.requires.fit.one_name ∙ (sym (ap length c.in_ok-inputs.ensures) ∙ length-map inputs (λ (q : ClassId). q.0));
      names = ap length c.in_ok-names.ensures ∙ (gate_names_each ports.outputs (numbers ports.roots) frees (table_classes classes) ∙ (length-map classes (λ (t : Table). t.out.0) ∙ ap length c.deref.ensures.value));
      roots = c.requires.fit.one_root;
      few = c.in_ok-chosen.ensures.few;
      placed = subst₂ (λ is ts. HasPlaces (numbers is ++ table_classes ts) places) c.as_slice-2.ensures c.deref-2.ensures.value c.in_ok-places.ensures;
    } in
    subst (λ (p : TablePorts). IsPlaced (record { ports = p; inputs = inputs; tables = c.from_vec.result; names = names }) places) (sym c.in_ok-copy_ports.ensures) (subst (λ (ts : List Table). IsPlaced (record { ports = ports; inputs = inputs; tables = ts; names = names }) places) (sym c.from_vec.ensures) placed)

pub returns : goal.returns
returns c =
    let g = c.args.graph.now in
    let most = c.args.leaves in
    let lists = c.args.depths.now in
    let ports = c.args.ports.now in
    let chosen = c.in_ok-chosen.chosen.items in
    let covered = subst (λ rs. All (λ (root : ClassId). IsKnown lists.depths root.0) rs) (sym c.as_slice.ensures) c.requires.known in
    let are : AreTables g most lists.depths (numbers ports.roots) chosen = subst (λ rs. AreTables g most lists.depths (numbers rs) chosen) c.as_slice.ensures (c.in_ok-chosen.ensures.tables g most c.requires.depths covered) in
    record {
      ports_are = c.in_ok-copy_ports.ensures;
      inputs = c.in_ok-inputs.ensures;
      tables = subst (λ (ts : List Table). AreTables g most lists.depths (numbers ports.roots) ts) (sym c.from_vec.ensures) are;
      names = c.in_ok-names.ensures ∙ ap (table_names ports) (c.deref.ensures.value ∙ sym c.from_vec.ensures);
    }
