-- The names of a network of tables tell its nets apart.
use Rattle.std.proofs.Common.{◌≡◌, ◌+◌, ◌^◌, ◌<◌, ◌≤◌, ℕ, suc, List, ◌++◌, length, Some, slice_get, slice_index_or, sym, ap, ap₂, ◌∙◌, subst, arith, length-append}
use Rattle.std.proofs.lemmas.List.{length-map}
use Rattle.std.proofs.lemmas.Option.{get_or_from_slice_get}
use Rattle.lw_facts.proofs.Lists.{at_contained, some_within}
use Rattle.indexmap.proofs.IndexTableLemmas.Probe.{pigeonhole}
use Rattle.lw_laws.specs.Graphs.{Graph}
use Rattle.lw_laws.specs.Names.{AreDifferent, AreNameable, free_names, gate_names}
use Rattle.lw_laws.specs.Names as laws
use Rattle.lw_laws.proofs.Lists.{slice_get_some}
use Rattle.lw_laws.proofs.NameLaws.{names_differ, names_owned}
use Rattle.lw_laws.proofs.Numbers.{slice_get_map_back}
use Rattle.lw_lut.specs.Depths.{DepthLists, AreLeastDepths}
use Rattle.lw_lut_text.specs.Meaning.{AreNamedApart, ArePortsApart, net_names}
use Rattle.lw_lut.specs.Nets.{AreFit, PlainTableNet, IsTableNetOf, IsTableNet, table_classes}
use Rattle.lw_lut.specs.declared.ports.TablePorts.{TablePorts}
use Rattle.lw_lut.specs.declared.table.Table.{Table}
use Rattle.lw_naming.proofs.NameCount.{name_count}
use Rattle.lw_lut.proofs.TableNets.{no_input, outs_once}
use Rattle.lw_lut.proofs.Numbers.{long}
use Rattle.lw_pool.specs.Numbers.{numbers}

module _ (g : Graph) (most : ℕ) (lists : DepthLists) (ports : TablePorts) (n : PlainTableNet) (least : AreLeastDepths g most lists) (fit : AreFit g ports) (apart : ArePortsApart g ports) (is : IsTableNetOf g most lists.depths ports n) (kept : IsTableNet n) (few : 1 + (length g.pairs + (length ports.inputs + length ports.outputs)) < 2 ^ 64) where
  abbrev gates : List ℕ
  gates = table_classes n.tables

  -- there are no more tables than classes
  few_gates : length gates ≤ length g.pairs
  few_gates = pigeonhole (length gates) (length g.pairs) (λ i. slice_index_or gates i 0) into once
    where
      into : (i : ℕ) → i < length gates → slice_index_or gates i 0 < length g.pairs
      into i lt =
          let (c, at) = slice_get_some gates i lt in
          let (t, here, e) = slice_get_map_back (λ (t : Table). t.out.0) n.tables i c at in
          let made = is.tables.each t (at_contained n.tables i t here) in
          let below = some_within lists.depths t.out.0 (suc made.depth) made.depth_is in
          let read = get_or_from_slice_get gates i c 0 at in
          let one = least.one_each in
          omega (arith, e, below, read, one)

      once : (i j : ℕ) → i < length gates → j < length gates → slice_index_or gates i 0 ≡ slice_index_or gates j 0 → i ≡ j
      once i j a b e =
          let (c, at) = slice_get_some gates i a in
          let (d, bt) = slice_get_some gates j b in
          let same : d ≡ c = sym (get_or_from_slice_get gates j d 0 bt) ∙ (sym e ∙ get_or_from_slice_get gates i c 0 at) in
          outs_once n kept i j c at (bt ∙ ap Some same)

  nameable : AreNameable ports.inputs ports.outputs g.leaves (numbers ports.roots) gates
  nameable = record {
    few = let a = length-append ports.inputs ports.outputs in let b = few_gates in omega (arith, a, b, few);
    inputs_differ = apart.inputs;
    outputs_differ = apart.outputs;
    tied = apart.tied;
    once = outs_once n kept;
    no_leaf = no_input n kept g.leaves is.inputs;
  }

  one_gate : length gates ≡ length n.tables
  one_gate = length-map n.tables (λ (t : Table). t.out.0)

  same_names : net_names n ≡ laws.net_names ports.inputs ports.outputs (numbers ports.roots) gates
  same_names =
      ap₂ (λ (p : TablePorts) names. p.inputs ++ names) is.ports_are is.names
      ∙ ap (λ count. ports.inputs ++ gate_names ports.outputs (numbers ports.roots) (free_names (ports.inputs ++ ports.outputs) count) gates) (sym one_gate)

  one_leaf : length g.leaves ≡ length ports.inputs
  one_leaf = sym fit.one_name

  pub named_apart : AreNamedApart n
  named_apart = record {
    one_input =
        let a = ap (λ (p : TablePorts). length p.inputs) is.ports_are in
        let b = ap (λ cs. length {A = ℕ} cs) is.inputs in
        let c = long n.inputs in
        let d = one_leaf in
        omega (arith, a, b, c, d);
    one_name =
        let a = ap (λ (p : TablePorts). length p.inputs) is.ports_are in
        let b = ap (λ names. length {A = List ℕ} names) same_names in
        let c = name_count ports.inputs ports.outputs (numbers ports.roots) gates in
        let d = length-append n.ports.inputs n.names in
        let e = one_gate in
        omega (arith, a, b, c, d, e);
    one_root = subst (λ (p : TablePorts). length p.roots ≡ length p.outputs) (sym is.ports_are) fit.one_root;
    nets = subst AreDifferent (sym same_names) (names_differ ports.inputs ports.outputs g.leaves (numbers ports.roots) gates nameable);
    outputs = subst (λ (p : TablePorts). AreDifferent p.outputs) (sym is.ports_are) apart.outputs;
    owned = λ j k name at out.
        let named : slice_get (laws.net_names ports.inputs ports.outputs (numbers ports.roots) gates) j ≡ Some name = subst (λ names. slice_get names j ≡ Some name) same_names at in
        let output : slice_get ports.outputs k ≡ Some name = subst (λ (p : TablePorts). slice_get p.outputs k ≡ Some name) is.ports_are out in
        ap (λ cs. slice_get (cs ++ gates) j) is.inputs
        ∙ (names_owned ports.inputs ports.outputs g.leaves (numbers ports.roots) gates nameable one_leaf j k name named output
        ∙ ap (λ (p : TablePorts). slice_get (numbers p.roots) k) (sym is.ports_are));
  }
