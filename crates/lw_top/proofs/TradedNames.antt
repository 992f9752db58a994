-- A netlist of least area has names of the format where the network was read.
use Rattle.std.proofs.Common.{ℕ, ◌^◌, ◌<◌, ◌≡◌, ◌⊎◌, inl, inr, List, [], ◌∷◌, map, All, Option, Contains, slice_index_or, refl, ap₂, sym, subst}
use Rattle.std.specs.List.{AllZip}
use Rattle.std.proofs.lemmas.List.{get_or_default}
use Rattle.lw_pool.specs.declared.id.NetId.{NetId}
use Rattle.lw_fixed.specs.declared.micro.Micro.{Micro}
use Rattle.lw_laws.specs.Names.{numbered_name}
use Rattle.lw_net.specs.Networks.{NetworkParts, input_names, output_names, name_in}
use Rattle.lw_genlib.specs.Cells.{CellParts}
use Rattle.lw_blif.specs.declared.parsed.Parsed.{Parsed}
use Rattle.lw_netlist.specs.declared.gate.Port.{Port}
use Rattle.lw_netlist.specs.Netlists.{NetlistParts}
use Rattle.lw_mapped.specs.Readable.{IsNamed}
use Rattle.lw_map.specs.Options.{Options}
use Rattle.lw_map.specs.Trading.{IsTradedNetlist}
use Rattle.lw_files.proofs.SignalNames.{IsNamed as IsNamedModel}
use Rattle.lw_files.proofs.Kept.{AreKept}
use Rattle.lw_words.specs.Words.{IsSignalName}
use Rattle.lw_net.specs.Ports.{output_port}
use Rattle.lw_netlist.specs.Plain.{plain_port, port_name}
use Rattle.lw_lut_text.proofs.GivenNames.{numbered_one}

-- a name among names that are all of the format
among : (names : List (List ℕ)) (name : List ℕ) → All IsSignalName names → Contains names name → IsSignalName name
among names name all (place, lt, is) = subst IsSignalName is (all place name lt)

-- the names of outputs side by side
names_beside : (net : NetworkParts) (outputs : List NetId) (ports : List Port) → AllZip (λ p q. p.name ≡ q.name) (map (output_port net) outputs) (map plain_port ports) → map port_name ports ≡ map (name_in net) outputs
names_beside net [] [] z = refl
names_beside net [] (q ∷ ports) z = absurd z
names_beside net (o ∷ outputs) [] z = absurd z
names_beside net (o ∷ outputs) (q ∷ ports) (e, z) = ap₂ (λ n ns. n ∷ ns) (sym e) (names_beside net outputs ports z)

module _ (options : Options) (cells : List CellParts) (model : Parsed) (deadline : Option Micro) (n : NetlistParts) (is : IsTradedNetlist options cells model.network model.starts deadline n) (kept : AreKept model) (named : IsNamedModel model) where
  net_named : (name : List ℕ) → Contains (input_names model.network) name ⊎ (Contains (output_names model.network) name ⊎ ((k : ℕ) × (k < 2 ^ 64) × (name ≡ numbered_name k))) → IsSignalName name
  net_named name (inl input) = among (input_names model.network) name named.inputs input
  net_named name (inr (inl output)) = among (output_names model.network) name named.outputs output
  net_named name (inr (inr (k, lt, e))) = subst IsSignalName (sym e) (numbered_one k lt)

  pub traded_outputs : map port_name n.outputs ≡ output_names model.network
  traded_outputs = names_beside model.network model.network.outputs n.outputs is.outputs_named

  pub traded_named : IsNamed n
  traded_named = record {
    by_depth = is.by_depth;
    model = subst IsSignalName (sym is.model_name) named.model;
    signals = λ k d lt. net_named (slice_index_or n.names k d) (is.own_names (slice_index_or n.names k d) (k, lt, get_or_default n.names k (slice_index_or n.names k d) d lt));
    outputs = subst (All IsSignalName) (sym traded_outputs) named.outputs;
    names = is.names kept.names_differ kept.fits.inputs kept.fits.outputs;
  }
