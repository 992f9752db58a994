-- The graph that is kept of a draft, and the nets of names whose gates stand at given places.
use Rattle.std.proofs.Common.{◌≡◌, ℕ, ◌+◌, ◌-◌, ◌<◌, ◌≤◌, ◌⊎◌, inl, inr, List, [], ◌∷◌, ◌++◌, length, map, take, get_or, Contains, All, refl, sym, ap, ap₂, subst, ◌∙◌, arith, length-append}
use Rattle.std.proofs.lemmas.List.{get_or_default, get_or-map, get_or_append_left, get_or-append_right, length-map, map_more, map-append}
use Rattle.std.proofs.lemmas.List.Elements.{All-map, All-weaker, All-head, All-tail}
use Rattle.std.proofs.lemmas.Bool.{cases_lt}
use Rattle.std.specs.List.{IsDistinct}
use Rattle.std.specs.Str.{bytes_eq}
use Rattle.std.proofs.Math.Nat.{add-sub_cancel_left}
use Rattle.lw_pool.specs.declared.id.CellId.{CellId}
use Rattle.lw_pool.specs.declared.id.NetId.{NetId}
use Rattle.lw_named_netlist.specs.declared.draft.DraftGate.{DraftGate}
use Rattle.lw_named_netlist.specs.declared.draft.GateDraft.{GateDraft}
use Rattle.lw_netlist.specs.declared.gate.Gate.{Gate}
use Rattle.lw_netlist.specs.declared.gate.Port.{Port}
use Rattle.lw_named_netlist.specs.declared.graph.Graph.{Graph}
use Rattle.lw_named_netlist.specs.Closing.{Link, closed_gate, drivers, links, name_of, netlist_in, out_of, port_at}
use Rattle.lw_netlist.specs.Netlists.{NetlistParts}
use Rattle.lw_dag.specs.Graphs.{fanins_at}
use Rattle.lw_dag.specs.Names.{number_in}
use Rattle.lw_named_netlist.specs.Numbered.{net_at, start_at}
use Rattle.lw_named_netlist.specs.Ordering.{TellNets, net_by, start_in}
use Rattle.lw_named_netlist.specs.Placing.{AreTurned, IsMadeOf, IsPlaced, cell_of, gate_at, gates_at, names_at, signal_at}
use Rattle.lw_named_netlist.proofs.Names.{once_distinct}
use Rattle.lw_dag.proofs.Numbering.{number_at, number_below, number_of}
use Rattle.lw_named_netlist.proofs.Paths.{many, many_links, driven_needs, graph_at, link_name_at}
use Rattle.lw_named_netlist.proofs.Starting.{bare_gate, link_of_gate, links_many}

abbrev pub net_id : (List ℕ → ℕ) → List ℕ → NetId
net_id net name = record { 0 = net name }

-- the gate with these nets
abbrev pub gate_with : CellId → List NetId → NetId → Gate
gate_with cell pins out = record { cell = cell; pins = pins; out = out }

pub nets_all : (driven : List (List ℕ)) (nets : List NetId) (net : List ℕ → ℕ) (pins : List (List ℕ)) → TellNets driven nets net → All (Contains driven) pins → map (net_at nets) (map (number_in driven) pins) ≡ map (net_id net) pins
nets_all driven nets net [] tell among = refl
nets_all driven nets net (f ∷ pins) tell among =
    ap₂ (λ n ns. n ∷ ns) (tell f (All-head (Contains driven) f pins among)) (nets_all driven nets net pins tell (All-tail (Contains driven) f pins among))

-- the gates at some places, and one more
pub gates_more : (net : List ℕ → ℕ) (gates : List DraftGate) (places : List ℕ) (i : ℕ) (old new : List Gate) (gate : Gate) → i < length places → gate ≡ closed_gate net (gate_at gates (get_or places i 0)) → old ≡ map (closed_gate net) (gates_at gates (take i places)) → new ≡ old ++ gate ∷ [] → new ≡ map (closed_gate net) (gates_at gates (take (i + 1) places))
gates_more net gates places i old new gate below is was grown =
    let more : gates_at gates (take (i + 1) places) ≡ gates_at gates (take i places) ++ gate_at gates (get_or places i 0) ∷ [] = map_more (gate_at gates) places i 0 below in
    grown ∙ (ap₂ (λ l g. l ++ g ∷ []) was is ∙ sym (ap (map (closed_gate net)) more ∙ map-append (closed_gate net) (gates_at gates (take i places)) (gate_at gates (get_or places i 0) ∷ [])))

-- what is kept of a draft
module _ (draft : GateDraft) (graph : Graph) (made : IsMadeOf draft graph) where
  abbrev m : ℕ
  m = length draft.inputs

  abbrev g : ℕ
  g = length draft.gates

  abbrev keys : List (List ℕ)
  keys = graph.signals

  abbrev rows : List (List ℕ)
  rows = graph.rows.items

  once : IsDistinct bytes_eq (drivers draft)
  once = once_distinct (drivers draft) made.graph.once

  pub keys_distinct : IsDistinct bytes_eq keys
  keys_distinct = subst (IsDistinct bytes_eq) (sym made.graph.names) once

  pub keys_many : length keys ≡ m + (g + length draft.wires)
  keys_many = ap length made.graph.names ∙ (many draft once made.graph.known ∙ ap (λ n. m + n) (links_many draft))

  pub rows_many : length rows ≡ g + length draft.wires
  rows_many = ap length made.graph.rows ∙ (many_links draft once made.graph.known ∙ links_many draft)

  pub cells_many : length graph.cells.items ≡ g
  cells_many = ap length made.cells ∙ length-map draft.gates cell_of

  pub cell_at : (p : ℕ) (d : CellId) → p < g → get_or graph.cells.items p d ≡ (gate_at draft.gates p).cell
  cell_at p d lt = ap (λ l. get_or l p d) made.cells ∙ get_or-map cell_of draft.gates p bare_gate d lt

  input_name : (k : ℕ) → k < m → get_or keys k [] ≡ get_or draft.inputs k []
  input_name k lt = ap (λ l. get_or l k []) made.graph.names ∙ get_or_append_left draft.inputs (map name_of (links draft)) [] k lt

  in_links : (p : ℕ) → p < g → p < length (links draft)
  in_links p lt = omega (arith, links_many draft)

  pub gate_name : (p : ℕ) → p < g → get_or keys (m + p) [] ≡ (gate_at draft.gates p).out
  gate_name p lt = ap (λ l. get_or l (m + p) []) made.graph.names ∙ (link_name_at draft once made.graph.known p (in_links p lt) ∙ ap name_of (link_of_gate draft p lt))

  pub gate_row : (p : ℕ) → p < g → fanins_at rows p ≡ map (number_in keys) (gate_at draft.gates p).pins
  gate_row p lt =
      ap (λ r. fanins_at r p) made.graph.rows
      ∙ (graph_at draft once made.graph.known p (in_links p lt)
      ∙ (ap (λ (l : Link). map (number_in (drivers draft)) l.needs) (link_of_gate draft p lt)
      ∙ ap (λ l. map (number_in l) (gate_at draft.gates p).pins) (sym made.graph.names)))

  pub pins_known : (p : ℕ) → p < g → All (Contains keys) (gate_at draft.gates p).pins
  pins_known p lt =
      subst (λ l. All (Contains l) (gate_at draft.gates p).pins) (sym made.graph.names)
      (subst (λ (l : Link). All (Contains (drivers draft)) l.needs) (link_of_gate draft p lt) (driven_needs draft once made.graph.known p))

  gate_inside : (p : ℕ) → p < g → m + p < length keys
  gate_inside p lt = omega (arith, keys_many)

  pub gate_number : (p : ℕ) → p < g → number_in keys (gate_at draft.gates p).out ≡ m + p
  gate_number p lt = ap (number_in keys) (sym (gate_name p lt)) ∙ number_at keys (m + p) [] keys_distinct (gate_inside p lt)

  pub gate_known : (p : ℕ) → p < g → Contains keys (gate_at draft.gates p).out
  gate_known p lt = (m + p, gate_inside p lt, get_or_default keys (m + p) (gate_at draft.gates p).out [] (gate_inside p lt) ∙ gate_name p lt)

  -- the numbers of a row are in range
  pub row_below : (p count : ℕ) → p < g → count ≡ length keys → All (λ s. s < count) (fanins_at rows p)
  row_below p count lt is =
      subst (All (λ s. s < count)) (sym (gate_row p lt))
      (All-map (λ s. s < count) (number_in keys) (gate_at draft.gates p).pins
      (All-weaker (Contains keys) (λ f. number_in keys f < count) (λ f among. omega (arith, number_below keys f keys_distinct among, is)) (gate_at draft.gates p).pins (pins_known p lt)))

  gate_names : (ps : List ℕ) → All (λ p. p < g) ps → map (signal_at m keys) ps ≡ map out_of (gates_at draft.gates ps)
  gate_names [] within = refl
  gate_names (p ∷ ps) within =
      ap₂ (λ n ns. n ∷ ns) (gate_name p (All-head (λ q. q < g) p ps within)) (gate_names ps (All-tail (λ q. q < g) p ps within))

  pub names_are : (inputs : ℕ) (places : List ℕ) → inputs ≡ m → All (λ p. p < g) places → graph.first ++ map (signal_at inputs keys) places ≡ names_at draft places
  names_are inputs places is within =
      ap (λ n. graph.first ++ map (signal_at n keys) places) is
      ∙ ap₂ (λ a b. a ++ b) made.first (gate_names places within)

  module _ (starts places : List ℕ) (is : IsPlaced draft graph starts places) where
    abbrev names : List (List ℕ)
    names = names_at draft places

    many_names : length names ≡ m + length places
    many_names =
        length-append draft.inputs (map out_of (gates_at draft.gates places))
        ∙ ap (λ n. m + n) (length-map (gates_at draft.gates places) out_of ∙ length-map places (gate_at draft.gates))

    place_within : (q : ℕ) → q < length places → get_or places q 0 < g
    place_within q lt = is.within q 0 lt

    named_input : (k : ℕ) → k < m → get_or names k [] ≡ get_or draft.inputs k []
    named_input k lt = get_or_append_left draft.inputs (map out_of (gates_at draft.gates places)) [] k lt

    named_gate : (q : ℕ) → q < length places → get_or names (m + q) [] ≡ (gate_at draft.gates (get_or places q 0)).out
    named_gate q lt =
        get_or-append_right draft.inputs (map out_of (gates_at draft.gates places)) m (m + q) [] refl (omega arith)
        ∙ (ap (λ k. get_or (map out_of (gates_at draft.gates places)) k []) (add-sub_cancel_left m q)
        ∙ (get_or-map out_of (gates_at draft.gates places) q bare_gate [] (omega (arith, length-map places (gate_at draft.gates)))
        ∙ ap out_of (get_or-map (gate_at draft.gates) places q 0 bare_gate lt)))

    -- no gate stands at two places
    pub differ : (j k : ℕ) → j < k → k < length places → get_or places j 0 ≡ get_or places k 0 → ⊥
    differ j k lt inside same =
        let a = number_at names (m + j) [] is.distinct (omega (arith, many_names)) in
        let b = number_at names (m + k) [] is.distinct (omega (arith, many_names)) in
        let one : get_or names (m + j) [] ≡ get_or names (m + k) [] = named_gate j (omega arith) ∙ (ap (λ p. (gate_at draft.gates p).out) same ∙ sym (named_gate k inside)) in
        omega (arith, a, b, ap (number_in names) one)

    module _ (turned : List ℕ) (turns : AreTurned m places turned) where
      -- a signal that is one of the names
      number_turned : (x : ℕ) → x < length keys → (among : Contains names (get_or keys x [])) → start_at turned x ≡ among.0
      number_turned x inside (k, lt, e) = by_place (cases_lt k m)
        where
          named : get_or names k [] ≡ get_or keys x []
          named = get_or_default names k [] (get_or keys x []) lt ∙ e

          same_place : (y : ℕ) → y < length keys → get_or keys y [] ≡ get_or keys x [] → x ≡ y
          same_place y below same = sym (number_at keys x [] keys_distinct inside) ∙ (ap (number_in keys) (sym same) ∙ number_at keys y [] keys_distinct below)

          by_gate : (q : ℕ) → q < length places → k ≡ m + q → start_at turned x ≡ k
          by_gate q below at =
              let p = get_or places q 0 in
              let here : get_or keys (m + p) [] ≡ get_or keys x [] = gate_name p (place_within q below) ∙ (sym (named_gate q below) ∙ (ap (λ n. get_or names n []) (sym at) ∙ named)) in
              ap (start_at turned) (same_place (m + p) (omega (arith, keys_many, place_within q below)) here) ∙ (turns.gates q below ∙ sym at)

          by_place : (k < m) ⊎ (m ≤ k) → start_at turned x ≡ k
          by_place (inl input) = ap (start_at turned) (same_place k (omega (arith, keys_many)) (input_name k input ∙ (sym (named_input k input) ∙ named))) ∙ turns.own k input
          by_place (inr gate) = by_gate (k - m) (omega (arith, many_names)) (omega arith)

      -- the nets of names, by the signals at which they start
      pub nets_tell : (nets : List NetId) → nets ≡ map (λ s. record { 0 = start_at turned s }) starts → TellNets keys nets (net_by keys starts names)
      nets_tell nets are name among =
          let n = number_in keys name in
          let below : n < length starts = omega (arith, number_below keys name keys_distinct among, is.starts_each) in
          let from = is.started name among in
          let number : start_at turned (start_at starts n) ≡ net_by keys starts names name = number_turned (start_at starts n) (is.below n 0 below) from ∙ sym (number_of names (start_in keys starts name) is.distinct from) in
          ap (λ l. net_at l n) are
          ∙ (get_or-map (λ s. record { 0 = start_at turned s }) starts n 0 (record { 0 = 0 }) below
          ∙ ap (λ (k : ℕ). let e : NetId = record { 0 = k } in e) number)

abbrev with_parts : List ℕ → List (List ℕ) → ℕ → List Gate → List Port → NetlistParts
with_parts model names inputs gates outputs = record { model = model; names = names; inputs = inputs; gates = gates; outputs = outputs }

-- the parts of a netlist, one by one
pub parts_are : (draft : GateDraft) (places : List ℕ) (net : List ℕ → ℕ) (model : List ℕ) (names : List (List ℕ)) (inputs : ℕ) (gates : List Gate) (outputs : List Port) → model ≡ draft.model → names ≡ names_at draft places → inputs ≡ length draft.inputs → gates ≡ map (closed_gate net) (gates_at draft.gates places) → outputs ≡ map (port_at net) draft.outputs → ◌≡◌ {A = NetlistParts} (record { model = model; names = names; inputs = inputs; gates = gates; outputs = outputs }) (netlist_in draft (gates_at draft.gates places) net)
parts_are draft places net model names inputs gates outputs modelled named counted closed ports =
    let order = gates_at draft.gates places in
    ap (λ l. with_parts l names inputs gates outputs) modelled
    ∙ (ap (λ ns. with_parts draft.model ns inputs gates outputs) named
    ∙ (ap (λ n. with_parts draft.model (names_at draft places) n gates outputs) counted
    ∙ (ap (λ gs. with_parts draft.model (names_at draft places) (length draft.inputs) gs outputs) closed
    ∙ ap (λ ps. with_parts draft.model (names_at draft places) (length draft.inputs) (map (closed_gate net) order) ps) ports)))

-- the parts that are made
pub placed_parts : (draft : GateDraft) (graph : Graph) (starts places : List ℕ) (is : IsPlaced draft graph starts places) (signals names taken : List (List ℕ)) (turned read : List ℕ) (nets gate_nets port_nets : List NetId) (gates : List Gate) (outputs : List Port) → signals ≡ graph.signals → names ≡ graph.first ++ map (signal_at graph.inputs signals) places → AreTurned graph.inputs places turned → read ≡ turned → nets ≡ map (λ s. record { 0 = start_at read s }) starts → gate_nets ≡ nets → port_nets ≡ nets → ((d : GateDraft) (net : List ℕ → ℕ) → IsMadeOf d graph → TellNets graph.signals gate_nets net → gates ≡ map (closed_gate net) (gates_at d.gates places)) → ((net : List ℕ → ℕ) → TellNets graph.signals port_nets net → outputs ≡ map (port_at net) taken) → taken ≡ graph.outputs → ◌≡◌ {A = NetlistParts} (record { model = graph.model; names = names; inputs = graph.inputs; gates = gates; outputs = outputs }) (netlist_in draft (gates_at draft.gates places) (net_by graph.signals starts (names_at draft places)))
placed_parts draft graph starts places is signals names taken turned read nets gate_nets port_nets gates outputs same named turns as_read are for_gates for_ports closed ports took =
    let made = is.made in
    let keys = graph.signals in
    let net : List ℕ → ℕ = net_by keys starts (names_at draft places) in
    let turns' : AreTurned (length draft.inputs) places turned = subst (λ n. AreTurned n places turned) made.inputs turns in
    let tell : TellNets keys nets net = nets_tell draft graph made starts places is turned turns' nets (are ∙ ap (λ (t : List ℕ). map (λ s. let e : NetId = record { 0 = start_at t s } in e) starts) as_read) in
    parts_are draft places net graph.model names graph.inputs gates outputs made.model
    (named ∙ (ap (λ (l : List (List ℕ)). graph.first ++ map (signal_at graph.inputs l) places) same ∙ names_are draft graph made graph.inputs places made.inputs is.within))
    made.inputs
    (closed draft net made (subst (λ l. TellNets keys l net) (sym for_gates) tell))
    (ports net (subst (λ l. TellNets keys l net) (sym for_ports) tell) ∙ ap (map (port_at net)) (took ∙ made.outputs))
