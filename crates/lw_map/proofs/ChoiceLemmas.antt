-- What forms and their graph come to are the choices of the network.
use Rattle.std.proofs.Common.{ℕ, ◌<◌, ◌≤◌, ◌≡◌, ◌↔◌, List, [], ◌∷◌, map, length, Result, Ok, Err, slice_index_or, refl, ap, ap₂, sym, ◌∙◌, arith}
use Rattle.std.specs.List.{AllByRecursion}
use Rattle.std.proofs.lemmas.List.{length-map}
use Rattle.std.proofs.lemmas.Option.{get_or_from_slice_get}
use Rattle.std.proofs.lemmas.List.Elements.{recursion_from_All}
use Rattle.lw_pool.specs.declared.id.NetId.{NetId}
use Rattle.lw_laws.specs.Graphs.{Graph, class_of}
use Rattle.lw_laws.specs.Signals.{signals_of}
use Rattle.lw_laws.specs.Occurring.{occurring_forms}
use Rattle.lw_laws.specs.Numbering.{number, numbered_base, sop_number}
use Rattle.lw_laws.specs.NumberedForms.{NumberedForms}
use Rattle.lw_laws.specs.Mapped.{forms_of, root_class}
use Rattle.lw_laws.specs.MappedNetlists.{root_classes}
use Rattle.lw_laws.proofs.Numbers.{slice_get_map}
use Rattle.lw_laws.proofs.Mapping.{signals_length, sop_listed}
use Rattle.lw_net.specs.Networks.{NetworkParts, IsNetwork}
use Rattle.lw_net.specs.Plain as network
use Rattle.lw_form.specs.Limits.{most_bases}
use Rattle.lw_form.specs.Kept.{AreForms}
use Rattle.lw_assoc.specs.Splits.{most_splits}
use Rattle.lw_assoc.specs.declared.fault.GraphFault.{GraphFault}
use Rattle.lw_assoc.specs.declared.fault.GraphFault.TheVariants as graph_fault
use Rattle.lw_map.specs.declared.options.Options as code
use Rattle.lw_map.specs.Options.{Options, IsWide, plain_options}
use Rattle.lw_map.specs.Mapped.{base_count, splits_count}
use Rattle.lw_map.specs.Choices.{root_of}
use Rattle.lw_map.specs.Faults as faults
use Rattle.lw_map.specs.Faults.{IsChoiceFault}
use Rattle.lw_net.specs.Ports.{output_port}

-- the width of options is in range
pub wide_options : (options : code.Options) → IsWide (plain_options options)
wide_options options = record { least = options.wide.0; most = options.wide.1 }

-- listed forms are few
pub few_bases : (options : Options) (net : NetworkParts) (forms : NumberedForms) → AreForms forms → forms ≡ forms_of options.width (network.plain net) → base_count options net ≤ most_bases
few_bases options net forms are e =
    let few = are.few in
    let same : length forms.bases ≡ length (map (numbered_base (occurring_forms options.width (network.plain net))) (occurring_forms options.width (network.plain net))) = ap (λ (f : NumberedForms). length f.bases) e in
    let n = length-map (occurring_forms options.width (network.plain net)) (numbered_base (occurring_forms options.width (network.plain net))) in
    omega arith

-- there are as many as occur
pub base_number : (options : Options) (net : NetworkParts) (forms : NumberedForms) → forms ≡ forms_of options.width (network.plain net) → length forms.bases ≡ base_count options net
base_number options net forms e =
    ap (λ (f : NumberedForms). length f.bases) e ∙ length-map (occurring_forms options.width (network.plain net)) (numbered_base (occurring_forms options.width (network.plain net)))

-- a graph was built, and so there are few splits
pub few_splits : (g : Graph) (n : ℕ) → (◌≡◌ {A = Result Graph GraphFault} (Ok g) (Err graph_fault.Limit)) ↔ (most_splits < n) → n ≤ most_splits
few_splits g n is = let not : most_splits < n → ⊥ = λ lt. let e = is.1 lt in cc in omega arith

-- too many splits
pub graph_refused : (options : Options) (net : NetworkParts) (fault : GraphFault) → base_count options net ≤ most_bases → (fault ≡ graph_fault.Limit → most_splits < splits_count options net) → IsChoiceFault options net (faults.graph_fault fault)
graph_refused options net graph_fault.Limit few is = (few, is refl)
graph_refused options net graph_fault.Memory few is = tt

-- each net has a sum of products
pub sops_count : (width : ℕ) (net : NetworkParts) (forms : NumberedForms) → IsNetwork net → forms ≡ forms_of width (network.plain net) → length forms.sops ≡ length net.names
sops_count width net forms kept e =
    let signals = signals_of width (network.plain net) in
    let same : length forms.sops ≡ length (map (sop_number (occurring_forms width (network.plain net))) signals) = ap (λ (f : NumberedForms). length f.sops) e in
    let n = length-map signals (sop_number (occurring_forms width (network.plain net))) in
    let s = signals_length width (network.plain net) in
    let m = length-map net.nodes network.plain_node in
    let k = kept.named in
    omega arith

module _ (width : ℕ) (net : NetworkParts) (forms : NumberedForms) (g : Graph) (kept : IsNetwork net) (forms_are : forms ≡ forms_of width (network.plain net)) where
  -- the class of an output is that of its sum of products
  root_is : (o : NetId) → o.0 < length net.names → root_of forms g o ≡ root_class width (network.plain net) g o.0
  root_is o lt =
      let n = kept.named in
      let m = length-map net.nodes network.plain_node in
      let signals = signals_of width (network.plain net) in
      let bases = occurring_forms width (network.plain net) in
      let (x, e, same) = sop_listed width (network.plain net) o.0 (omega arith) in
      let there : slice_index_or (map (sop_number bases) signals) o.0 0 ≡ sop_number bases x = get_or_from_slice_get (map (sop_number bases) signals) o.0 (sop_number bases x) 0 (slice_get_map (sop_number bases) signals o.0 x e) in
      ap (λ (f : NumberedForms). root_of f g o) forms_are ∙ ap (class_of g) (there ∙ ap (number bases) (sym same))

  roots_in : (outputs : List NetId) → AllByRecursion (λ (o : NetId). o.0 < length net.names) outputs → map (root_of forms g) outputs ≡ root_classes width (network.plain net) g (map (output_port net) outputs)
  roots_in [] a = refl
  roots_in (o ∷ outputs) (lt, a) = ap₂ (λ (c : ℕ) (cs : List ℕ). c ∷ cs) (root_is o lt) (roots_in outputs a)

  -- the classes of the outputs
  pub roots_are : map (root_of forms g) net.outputs ≡ root_classes width (network.plain net) g (map (output_port net) net.outputs)
  roots_are = roots_in net.outputs (recursion_from_All (λ (o : NetId). o.0 < length net.names) net.outputs kept.outputs)
