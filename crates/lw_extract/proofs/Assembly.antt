-- The netlist that a list of matches makes.
use Rattle.std.proofs.Common.{ℕ, ◌+◌, ◌<◌, ◌≤◌, ◌≡◌, List, [], ◌∷◌, ◌++◌, length, map, All, Option, Some, None, IsSome, slice_get, slice_index_or, refl, ap, ap₂, sym, ◌∙◌, subst, arith, length-append}
use Rattle.std.specs.List.{AllZip, AllByRecursion}
use Rattle.std.proofs.lemmas.List.{length-map}
use Rattle.std.proofs.lemmas.List.Elements.{All-from_recursion}
use Rattle.std.proofs.lemmas.Option.{slice_get_within}
use Rattle.lw_facts.proofs.Lists.{all_at}
use Rattle.lw_pool.specs.declared.id.ClassId.{ClassId}
use Rattle.lw_pool.specs.declared.id.NetId.{NetId}
use Rattle.lw_pool.specs.Numbers.{numbers, net_number}
use Rattle.lw_laws.specs.Graphs.{Graph}
use Rattle.lw_laws.specs.Covers.{Pattern, HasPins}
use Rattle.lw_laws.specs.Names.{net_names}
use Rattle.lw_laws.specs.Netlists as laws
use Rattle.lw_laws.specs.Extracts.{IsMatchBy, IsNetOf}
use Rattle.lw_laws.specs.MatchLists.{Gated, gated_classes, AreGatesApart, AreMatchesInOrder, HasNetBefore, IsGateOf, IsMadeOf}
use Rattle.lw_laws.proofs.Lists.{all_at as each_at}
use Rattle.lw_laws.proofs.MatchLists.{made_is_matches}
use Rattle.lw_laws.proofs.Numbers.{slice_get_map, slice_get_map_back}
use Rattle.lw_genlib.specs.Cells.{CellParts, IsLibrary, IsListed}
use Rattle.lw_genlib.specs.Tables.{cell_delays, delays_of_cells, millionths}
use Rattle.lw_netlist.specs.declared.gate.Gate.{Gate}
use Rattle.lw_netlist.specs.declared.gate.Port.{Port}
use Rattle.lw_netlist.specs.Netlists.{NetlistParts, IsNetlist, IsGateAt}
use Rattle.lw_netlist.specs.Plain.{plain_gate, plain, HasCell, IsOver}
use Rattle.lw_naming.proofs.NameCount.{name_count}
use Rattle.lw_extract.specs.declared.choosing.Chosen.{Chosen}
use Rattle.lw_extract.specs.declared.ports.Ports.{Ports}
use Rattle.lw_extract.specs.declared.ports.Cover.{Cover}
use Rattle.lw_extract.specs.Nets.{Nets, net_in, AreClassNets}
use Rattle.lw_extract.specs.Gates.{AreGatesOf, HaveNets}
use Rattle.lw_extract.specs.Choosing.{chosen_classes, plain_chosen, plain_matches}
use Rattle.lw_extract.specs.Assembling.{CanAssemble, IsAssembled}
use Rattle.lw_extract.proofs.Places.{all_places, place_beside, zip_read, zip_maps, zip_right, from_all_map, few_distinct}

-- What the parts of the netlist are: the gates of the matches, and the outputs at the nets of their roots.
pub record AreParts (g : Graph) (pats : List Pattern) (ports : Ports) (chosen : List Chosen) (nets : Nets) (n : NetlistParts) : Type 0 where
  pub inputs : n.inputs ≡ length g.leaves
  pub gates : AreGatesOf pats nets n.inputs chosen n.gates
  pub model : n.model ≡ ports.model
  pub names : n.names ≡ net_names ports.inputs ports.outputs (numbers ports.roots) (chosen_classes chosen)
  pub output_names : map (λ (port : Port). port.name) n.outputs ≡ ports.outputs
  pub output_nets : map (λ (port : Port). Some port.net) n.outputs ≡ map (net_in nets) ports.roots

-- the classes of the plain matches
pub classes_same : (chosen : List Chosen) → gated_classes (plain_matches chosen) ≡ chosen_classes chosen
classes_same [] = refl
classes_same (x ∷ chosen) = ap (λ cs. x.class.0 ∷ cs) (classes_same chosen)

pub plain_at : (chosen : List Chosen) (j : ℕ) (x : Chosen) → slice_get chosen j ≡ Some x → slice_get (plain_matches chosen) j ≡ Some (plain_chosen x)
plain_at chosen j x at = slice_get_map plain_chosen chosen j x at

zip_length : {X Y : Type 0} (R : X → Y → Type 0) (xs : List X) (ys : List Y) → AllZip R xs ys → length xs ≡ length ys
zip_length R [] [] a = refl
zip_length R [] (y ∷ ys) a = absurd a
zip_length R (x ∷ xs) [] a = absurd a
zip_length R (x ∷ xs) (y ∷ ys) (r, a) = let rest = zip_length R xs ys a in omega arith

module _ (g : Graph) (pats : List Pattern) (ports : Ports) (chosen : List Chosen) (can : CanAssemble g pats ports chosen) where
  pub apart : AreGatesApart g (chosen_classes chosen)
  apart = subst (AreGatesApart g) (classes_same chosen) can.matches.apart

  before : (j : ℕ) (x : Chosen) → slice_get chosen j ≡ Some x → AllByRecursion (HasNetBefore g (chosen_classes chosen) j) (numbers x.found.pins)
  before j x at = subst (λ cs. AllByRecursion (HasNetBefore g cs j) (numbers x.found.pins)) (classes_same chosen) (can.matches.before j (plain_chosen x) (plain_at chosen j x at))

  pub few_chosen : length chosen ≤ length g.pairs
  few_chosen =
      let most = few_distinct (chosen_classes chosen) (length g.pairs) differ below in
      let same = length-map chosen (λ (x : Chosen). x.class.0) in
      omega arith
    where
      differ : (i j c : ℕ) → slice_get (chosen_classes chosen) i ≡ Some c → slice_get (chosen_classes chosen) j ≡ Some c → i < j → ⊥
      differ i j c a b lt = let same = apart.once i j c a b in omega (arith, same, lt)

      below : (i c : ℕ) → slice_get (chosen_classes chosen) i ≡ Some c → c < length g.pairs
      below i c at =
          let (x, here, same) = slice_get_map_back (λ (y : Chosen). y.class.0) chosen i c at in
          subst (λ k. k < length g.pairs) same (all_at (λ (y : Chosen). y.class.0 < length g.pairs) chosen i x can.within here)

  pub patterns_within : All (λ (x : Chosen). x.found.pat.0 < length pats) chosen
  patterns_within =
      all_places (λ (x : Chosen). x.found.pat.0 < length pats) chosen (λ j x at. let (p, is) = can.matches.matches j (plain_chosen x) (plain_at chosen j x at) in slice_get_within pats x.found.pat.0 p is.listed)

  module _ (nets : Nets) (have : AreClassNets g (chosen_classes chosen) nets) where
    pub roots_have_nets : HaveNets nets ports.roots
    roots_have_nets =
        all_places (λ (q : ClassId). IsSome (net_in nets q)) ports.roots (λ k q at. let (net, is) = all_at (λ (c : ClassId). (net : ℕ) × IsNetOf g (chosen_classes chosen) c.0 net) ports.roots k q can.roots at in have.all q.0 net is)

    pub pins_have_nets : All (λ (x : Chosen). HaveNets nets x.found.pins) chosen
    pins_have_nets = all_places (λ (x : Chosen). HaveNets nets x.found.pins) chosen of_match
      where
        of_match : (j : ℕ) (x : Chosen) → slice_get chosen j ≡ Some x → HaveNets nets x.found.pins
        of_match j x at =
            all_places (λ (q : ClassId). IsSome (net_in nets q)) x.found.pins (λ k q here. let (net, lt, is) = each_at (HasNetBefore g (chosen_classes chosen) j) (numbers x.found.pins) (before j x at) k q.0 (slice_get_map (λ (c : ClassId). c.0) x.found.pins k q here) in have.all q.0 net is)

    module _ (n : NetlistParts) (parts : AreParts g pats ports chosen nets n) where
      pub made : IsMadeOf g pats (plain_matches chosen) (plain n)
      made = record {
        inputs = parts.inputs;
        one_each = length-map n.gates plain_gate ∙ (parts.gates.one_each ∙ sym (length-map chosen plain_chosen));
        gates = λ j y gt at here. of_gate j y gt (slice_get_map_back plain_chosen chosen j y at) (slice_get_map_back plain_gate n.gates j gt here);
      }
        where
          of_gate : (j : ℕ) (y : Gated) (gt : laws.Gate) → (x : Chosen) × (slice_get chosen j ≡ Some x) × (plain_chosen x ≡ y) → (gate : Gate) × (slice_get n.gates j ≡ Some gate) × (plain_gate gate ≡ gt) → IsGateOf g pats (gated_classes (plain_matches chosen)) y.found gt
          of_gate j y gt (x, at, same) (gate, here, is_gate) =
              let of = parts.gates.each j x gate at here in
              let pins = zip_read (λ (q : ClassId) (net : NetId). IsNetOf g (chosen_classes chosen) q.0 net.0) (net_in nets) Some x.found.pins gate.pins of.pins (λ q net e. have.some q.0 net e) in
              let plain_pins = zip_maps (λ q net. IsNetOf g (chosen_classes chosen) q net) (λ (c : ClassId). c.0) net_number x.found.pins gate.pins pins in
              let is : IsGateOf g pats (chosen_classes chosen) (plain_chosen x).found (plain_gate gate) = record { cell = of.cell; pins = plain_pins } in
              subst (λ (z : Gated). IsGateOf g pats (gated_classes (plain_matches chosen)) z.found gt) same
              (subst (λ (k : laws.Gate). IsGateOf g pats (gated_classes (plain_matches chosen)) (plain_chosen x).found k) is_gate
              (subst (λ cs. IsGateOf g pats cs (plain_chosen x).found (plain_gate gate)) (sym (classes_same chosen)) is))

      outputs_at : AllZip (λ (root : ClassId) (port : Port). IsNetOf g (chosen_classes chosen) root.0 port.net.0) ports.roots n.outputs
      outputs_at =
          zip_read (λ (root : ClassId) (port : Port). IsNetOf g (chosen_classes chosen) root.0 port.net.0) (net_in nets) (λ (port : Port). Some port.net) ports.roots n.outputs parts.output_nets (λ root port e. have.some root.0 port.net e)

      named : length n.names ≡ length g.leaves + length (chosen_classes chosen)
      named = ap length parts.names ∙ (name_count ports.inputs ports.outputs (numbers ports.roots) (chosen_classes chosen) ∙ ap (λ k. k + length (chosen_classes chosen)) can.fit.one_name)

      pub is_netlist : IsNetlist n
      is_netlist = record {
        named = named ∙ (ap (λ k. k + length (chosen_classes chosen)) (sym parts.inputs) ∙ ap (λ k. n.inputs + k) (class_count ∙ sym parts.gates.one_each));
        few = let a = named in let b = few_chosen in let c = class_count in let d = can.fit.few in let e = can.fit.few_inputs in omega arith;
        gates = λ j gate at. gate_at j gate at;
        outputs = All-from_recursion (λ (port : Port). port.net.0 < length n.names) n.outputs (zip_right (λ (root : ClassId) (port : Port). IsNetOf g (chosen_classes chosen) root.0 port.net.0) (λ (port : Port). port.net.0 < length n.names) ports.roots n.outputs net_within outputs_at);
      }
        where
          class_count : length (chosen_classes chosen) ≡ length chosen
          class_count = length-map chosen (λ (x : Chosen). x.class.0)

          net_within : (root : ClassId) (port : Port) → IsNetOf g (chosen_classes chosen) root.0 port.net.0 → port.net.0 < length n.names
          net_within root port net =
              let inside = slice_get_within (g.leaves ++ chosen_classes chosen) port.net.0 root.0 net in
              let sum = length-append g.leaves (chosen_classes chosen) in
              let all = named in
              omega arith

          gate_at : (j : ℕ) (gate : Gate) → slice_get n.gates j ≡ Some gate → IsGateAt n.inputs j gate
          gate_at j gate at =
              let (x, here) = place_beside n.gates chosen j gate parts.gates.one_each at in
              let of = parts.gates.each j x gate here at in
              let matches = made_is_matches g can.pin_counts pats (plain_matches chosen) (plain n) can.matches made in
              let lower = matches.ordered j (plain_gate gate) (slice_get_map plain_gate n.gates j gate at) in
              record {
                drives = of.out;
                before = All-from_recursion (λ (net : NetId). net.0 < n.inputs + j) gate.pins (from_all_map (λ p. p < n.inputs + j) net_number gate.pins lower);
              }

      pub is_assembled : (classes : List ClassId) → numbers classes ≡ chosen_classes chosen → IsAssembled g pats ports chosen (record { netlist = n; classes = classes })
      is_assembled classes e = record {
        classes = e;
        made = made;
        model = parts.model;
        names = parts.names ∙ ap (λ cs. net_names ports.inputs ports.outputs (numbers ports.roots) cs) (sym e);
        output_names = parts.output_names;
        outputs = subst (λ cs. AllZip (λ (root : ClassId) (port : Port). IsNetOf g cs root.0 port.net.0) ports.roots n.outputs) (sym e) outputs_at;
      }

-- the netlist is one of the library's cells, where the matches are
pub assembled_over : (g : Graph) (pats : List Pattern) (lib : List CellParts) (chosen : List Chosen) (n : NetlistParts) → IsLibrary lib → AreMatchesInOrder g (map length (delays_of_cells lib)) pats (plain_matches chosen) → IsMadeOf g pats (plain_matches chosen) (plain n) → IsOver lib n
assembled_over g pats lib chosen n is_library are made = all_places (HasCell lib) n.gates of_gate
  where
    of_gate : (j : ℕ) (gate : Gate) → slice_get n.gates j ≡ Some gate → HasCell lib gate
    of_gate j gate at =
        let count : length n.gates ≡ length (plain_matches chosen) = sym (length-map n.gates plain_gate) ∙ made.one_each in
        let (x, here) = place_beside n.gates (plain_matches chosen) j gate count at in
        let (p, is) = are.matches j x here in
        let of = made.gates j x (plain_gate gate) here (slice_get_map plain_gate n.gates j gate at) in
        let (delays, delays_at, one_delay) = slice_get_map_back length (delays_of_cells lib) p.cell (length x.found.pins) is.pins in
        let (cell, cell_at, same) = slice_get_map_back cell_delays lib p.cell delays delays_at in
        let listed = all_at IsListed lib p.cell cell is_library.each cell_at in
        let nets_of_gate : length x.found.pins ≡ length gate.pins = zip_length (λ q net. IsNetOf g (gated_classes (plain_matches chosen)) q net) x.found.pins (map net_number gate.pins) of.pins ∙ length-map gate.pins net_number in
        let delays_of_cell : length cell.delays ≡ length delays = sym (length-map cell.delays millionths) ∙ ap length same in
        let one_each = listed.kept.delays in
        record {
          cell = cell;
          at = ap (λ k. slice_get lib k) (of.cell p is.listed) ∙ cell_at;
          pins = sym nets_of_gate ∙ (sym one_delay ∙ (sym delays_of_cell ∙ one_each));
        }
