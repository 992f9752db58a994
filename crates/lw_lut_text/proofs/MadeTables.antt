-- The network of tables that is made of ports can be said where the ports' names allow it.
use Rattle.std.proofs.Common.{ℕ, ◌+◌, ◌<◌, ◌≤◌, ◌^◌, ◌≡◌, List, ◌++◌, length, take, All, Contains, Option, Some, slice_get, ap, sym, ◌∙◌, subst, arith}
use Rattle.std.specs.List.{IsDistinct}
use Rattle.std.specs.Str.{bytes_eq}
use Rattle.std.proofs.lemmas.List.{length-map}
use Rattle.std.proofs.lemmas.List.Elements.{All-append, All-from_recursion, recursion_from_All}
use Rattle.lw_pool.specs.declared.id.ClassId.{ClassId}
use Rattle.lw_pool.specs.declared.latch.Frame.{Frame}
use Rattle.lw_frame.proofs.Once.{roots_differ}
use Rattle.lw_laws.specs.Graphs.{Graph}
use Rattle.lw_laws.specs.Names.{AreDifferent, AreNameable, free_names, gate_names, net_names}
use Rattle.lw_laws.proofs.Lists.{contains_all}
use Rattle.lw_laws.proofs.NameLaws.{names_differ, names_owned}
use Rattle.lw_lut.specs.Choosing.{AreTables}
use Rattle.lw_lut.specs.Nets.{PlainTableNet, AreFit, IsTableNetOf, IsTableNet, net_classes, table_classes}
use Rattle.lw_lut_text.specs.Readable.{AreSayablePorts, IsSayable, names_of_nets}
use Rattle.lw_lut.specs.declared.ports.TablePorts.{TablePorts}
use Rattle.lw_lut.specs.declared.table.Table.{Table}
use Rattle.lw_lut_text.proofs.GivenNames.{given_each}
use Rattle.lw_lut_text.proofs.ReadNames.{different_of}
use Rattle.lw_lut.proofs.TableNets.{no_input, outs_once}
use Rattle.lw_words.specs.Words.{IsSignalName}
use Rattle.lw_pool.specs.Numbers.{numbers}
use Rattle.lw_laws.proofs.MappedNames.{gate_names_each}

-- what is made of the network's own ports
record IsMade (g : Graph) (most : ℕ) (depths : List (Option ℕ)) (n : PlainTableNet) (frame : Frame) : Type 0 where
  fit : AreFit g n.ports
  ports : AreSayablePorts n.ports g.leaves frame
  inputs : numbers n.inputs ≡ g.leaves
  tables : AreTables g most depths (numbers n.ports.roots) n.tables
  names : n.names ≡ gate_names n.ports.outputs (numbers n.ports.roots) (free_names (n.ports.inputs ++ n.ports.outputs) (length n.tables)) (table_classes n.tables)

module _ (g : Graph) (most : ℕ) (depths : List (Option ℕ)) (n : PlainTableNet) (frame : Frame) (small : most ≤ 6) (net : IsTableNet n) (room : 1 + (length n.tables + length (n.ports.inputs ++ n.ports.outputs)) < 2 ^ 64)
    (made : IsMade g most depths n frame) where
  abbrev gates : List ℕ
  gates = table_classes n.tables

  abbrev roots : List ℕ
  roots = numbers n.ports.roots

  count : length gates ≡ length n.tables
  count = length-map n.tables (λ (t : Table). t.out.0)

  classes_are : net_classes n ≡ g.leaves ++ gates
  classes_are = ap (λ l. l ++ gates) made.inputs

  outputs_differ : AreDifferent n.ports.outputs
  outputs_differ = different_of n.ports.outputs (subst (IsDistinct bytes_eq) (sym made.ports.frame_fits.roots) (roots_differ (take frame.outputs n.ports.outputs) frame.latches))

  few : 1 + (length gates + length (n.ports.inputs ++ n.ports.outputs)) < 2 ^ 64
  few = subst (λ k. 1 + (k + length (n.ports.inputs ++ n.ports.outputs)) < 2 ^ 64) (sym count) room

  nameable : AreNameable n.ports.inputs n.ports.outputs g.leaves roots gates
  nameable = record {
    few = few;
    inputs_differ = made.ports.inputs_differ;
    outputs_differ = outputs_differ;
    tied = made.ports.tied;
    once = outs_once n net;
    no_leaf = no_input n net g.leaves made.inputs;
  }

  names_are : n.names ≡ gate_names n.ports.outputs roots (free_names (n.ports.inputs ++ n.ports.outputs) (length gates)) gates
  names_are = made.names ∙ ap (λ k. gate_names n.ports.outputs roots (free_names (n.ports.inputs ++ n.ports.outputs) k) gates) (sym count)

  all_names : names_of_nets n ≡ net_names n.ports.inputs n.ports.outputs roots gates
  all_names = ap (λ l. n.ports.inputs ++ l) names_are

  tables_named : All IsSignalName n.names
  tables_named =
      subst (All IsSignalName) (sym names_are)
      (All-from_recursion IsSignalName (gate_names n.ports.outputs roots (free_names (n.ports.inputs ++ n.ports.outputs) (length gates)) gates)
      (given_each (n.ports.inputs ++ n.ports.outputs) n.ports.outputs roots gates few (recursion_from_All IsSignalName n.ports.outputs made.ports.outputs)))

  few_fanins : (t : Table) → Contains n.tables t → length t.fanins ≤ 6
  few_fanins t k = let own = (made.tables.each t k).few in omega (arith, own, small)

  one_input : length n.inputs ≡ length n.ports.inputs
  one_input = sym (length-map n.inputs (λ (c : ClassId). c.0)) ∙ (ap length made.inputs ∙ sym made.fit.one_name)

  sayable : IsSayable n frame
  sayable = record {
    net = net;
    few_fanins = All-from_recursion (λ (t : Table). length t.fanins ≤ 6) n.tables (contains_all (λ (t : Table). length t.fanins ≤ 6) n.tables few_fanins);
    one_input = one_input;
    one_name = ap length names_are ∙ (gate_names_each n.ports.outputs roots (free_names (n.ports.inputs ++ n.ports.outputs) (length gates)) gates ∙ count);
    one_root = made.fit.one_root;
    model = made.ports.model;
    signals = All-append IsSignalName n.ports.inputs n.names made.ports.inputs tables_named;
    outputs = made.ports.outputs;
    differ = subst AreDifferent (sym all_names) (names_differ n.ports.inputs n.ports.outputs g.leaves roots gates nameable);
    owned = λ j k name e f.
        ap (λ cs. slice_get cs j) classes_are
        ∙ names_owned n.ports.inputs n.ports.outputs g.leaves roots gates nameable (sym made.fit.one_name) j k name (subst (λ ns. slice_get ns j ≡ Some name) all_names e) f;
    frame_fits = made.ports.frame_fits;
    latches = made.ports.latches;
  }

pub made_are_sayable : (g : Graph) (most : ℕ) (depths : List (Option ℕ)) (ports : TablePorts) (n : PlainTableNet) (frame : Frame) → most ≤ 6 → AreFit g ports → AreSayablePorts ports g.leaves frame → IsTableNetOf g most depths ports n → IsTableNet n →
    1 + (length n.tables + length (ports.inputs ++ ports.outputs)) < 2 ^ 64 → IsSayable n frame
made_are_sayable g most depths ports n frame small fit can is net room =
    let own : n.ports ≡ ports = is.ports_are in
    sayable g most depths n frame small net (subst (λ (p : TablePorts). 1 + (length n.tables + length (p.inputs ++ p.outputs)) < 2 ^ 64) (sym own) room)
    (record {
      fit = subst (AreFit g) (sym own) fit;
      ports = subst (λ p. AreSayablePorts p g.leaves frame) (sym own) can;
      inputs = is.inputs;
      tables = subst (λ (p : TablePorts). AreTables g most depths (numbers p.roots) n.tables) (sym own) is.tables;
      names = subst (λ (p : TablePorts). n.names ≡ gate_names p.outputs (numbers p.roots) (free_names (p.inputs ++ p.outputs) (length n.tables)) (table_classes n.tables)) (sym own) is.names;
    })
