-- The netlist that listed forms are mapped to is one, and so is that of a network.
use Rattle.std.proofs.Common.{ℕ, suc, ◌<◌, ◌≤◌, ◌≡◌, ◌⊎◌, List, [], ◌∷◌, length, map, Option, Some, None, slice_get, refl, ap, ap₂, sym, ◌∙◌, subst, subst₂, arith}
use mathlib.Core.Path.{fun_ext}
use Rattle.std.specs.List.{AllZip, AllByRecursion}
use Rattle.std.proofs.lemmas.Option.{slice_get_within}
use Rattle.lw_laws.proofs.MatchLists.{class_net_once}
use Rattle.lw_laws.specs.Modes.{Mode}
use Rattle.lw_laws.specs.Networks.{Network}
use Rattle.lw_laws.specs.Signals.{Signal, sop_at, signals_of}
use Rattle.lw_laws.specs.Listings.{Listing, listing_of}
use Rattle.lw_laws.specs.SignalValues.{IsSoundListing}
use Rattle.lw_laws.specs.Classes.{class_in}
use Rattle.lw_laws.specs.Forms.{Form}
use Rattle.lw_laws.specs.Graphs.{Graph}
use Rattle.lw_laws.specs.Costs.{Cost}
use Rattle.lw_laws.specs.Covers.{Timing, Pattern}
use Rattle.lw_laws.specs.Choices.{Labels, HaveLabels, IsHeight}
use Rattle.lw_laws.specs.Matches.{choices_of, IsLeastCover}
use Rattle.lw_laws.specs.Rounds.{labels_in}
use Rattle.lw_laws.specs.Delays.{delay_cost}
use Rattle.lw_laws.specs.Netlists.{Netlist}
use Rattle.lw_laws.specs.Extracts.{Match, Supports, IsChosen, IsNeeded, AreGateClasses, IsNetOf, IsExtracted, AreDistinctLeaves}
use Rattle.lw_laws.specs.Extracts.IsNeeded.{by_root, by_pin}
use Rattle.lw_laws.specs.Names.{net_names}
use Rattle.lw_laws.specs.Headline.{Port, Ports, HasLeastTime}
use Rattle.lw_laws.specs.MappedNetlists.{form_classes, IsNetlistOfForms, IsNetlistOf}
use Rattle.lw_laws.proofs.Unique.{IsHeight_once}
use Rattle.lw_laws.proofs.ClassLaws.{graphs_once}
use Rattle.lw_laws.proofs.InputClasses.{forms_leaves_differ}
use Rattle.lw_laws.proofs.ExtractLaws.{gate_classes_once, extracted_once, gates_apart}
use Rattle.lw_laws.proofs.Sound.{network_is_sound, netlist_of_sops}
use Rattle.lw_laws.proofs.Lists.{slice_get_some}

-- the least time of a form is one
pub least_time_once : (mode : Mode) (width : ℕ) (signals : List Signal) (pats : List Pattern) (timing : Timing) (f : Form) (d e : ℕ) → HasLeastTime mode width signals pats timing f d → HasLeastTime mode width signals pats timing f e → d ≡ e
least_time_once mode width signals pats timing f d e a b =
    let (k, is, tree, time) = a.attained in
    let (j, js, tree', time') = b.attained in
    let p = b.least k is tree in
    let q = a.least j js tree' in
    omega arith

-- the least cost of a class is one
pub least_cover_once : (g : Graph) (pats : List Pattern) (cost : Cost) (c : ℕ) (o p : Option ℕ) → IsLeastCover g pats cost c o → IsLeastCover g pats cost c p → o ≡ p
least_cover_once g pats cost c None None a b = refl
least_cover_once g pats cost c None (Some e) a ((k, is, u, v), low) = absurd (a k is u)
least_cover_once g pats cost c (Some d) None ((k, is, u, v), low) b = absurd (b k is u)
least_cover_once g pats cost c (Some d) (Some e) ((k, is, u, v), low) ((j, js, w, z), low') =
    let p = low j js w in
    let q = low' k is u in
    let same : d ≡ e = omega arith in
    ap Some same

-- heights that agree where there are labels choose the same matches
module _ (g : Graph) (cost : Cost) (pats : List Pattern) (labels : Labels) where
  abbrev Agree : (ℕ → ℕ) → (ℕ → ℕ) → Type 0
  Agree heights others = (c l : ℕ) → labels c ≡ Some l → heights c ≡ others c

  lower_too : (heights others : ℕ → ℕ) → Agree heights others → (h : ℕ) (ps ls : List ℕ) → HaveLabels labels ps ls → AllByRecursion (λ q. suc (heights q) ≤ h) ps → AllByRecursion (λ q. suc (others q) ≤ h) ps
  lower_too heights others agree h [] ls a b = tt
  lower_too heights others agree h (p ∷ ps) [] a b = absurd a
  lower_too heights others agree h (p ∷ ps) (l ∷ ls) (e, a) (lt, b) = let s = agree p l e in (omega arith, lower_too heights others agree h ps ls a b)

  supports_too : (heights others : ℕ → ℕ) → Agree heights others → (c : ℕ) (m : Match) (p : Pattern) → Supports g cost pats labels heights c m p → Supports g cost pats labels others c m p
  supports_too heights others agree c m p s = record {
    matches = s.matches;
    pin_labels = s.pin_labels;
    have = s.have;
    value = s.value;
    lower = subst (λ h. AllByRecursion (λ q. suc (others q) ≤ h) m.pins) (agree c (cost.value p.cell s.pin_labels) s.value) (lower_too heights others agree (heights c) m.pins s.pin_labels s.have s.lower);
  }

  chosen_too : (heights others : ℕ → ℕ) → Agree heights others → Agree others heights → (c : ℕ) (m : Match) (p : Pattern) → IsChosen g cost pats labels heights c m p → IsChosen g cost pats labels others c m p
  chosen_too heights others agree back c m p is = record {
    supports = supports_too heights others agree c m p is.supports;
    first = λ k q s. is.first k q (supports_too others heights back c k q s);
  }

  module _ (roots : List ℕ) where
    needed_too : (heights others : ℕ → ℕ) → Agree heights others → Agree others heights → {c : ℕ} → IsNeeded g cost pats labels heights roots c → IsNeeded g cost pats labels others roots c
    needed_too heights others agree back (by_root at) = by_root at
    needed_too heights others agree back (by_pin {c = c} {q = q} {m = m} {p = p} n out is at) = by_pin (needed_too heights others agree back n) out (chosen_too heights others agree back c m p is) at

    module _ (heights others : ℕ → ℕ) (agree : Agree heights others) (back : Agree others heights) (gates : List ℕ) (n : Netlist) where
      extracted_too : IsExtracted g cost pats labels heights gates n → IsExtracted g cost pats labels others gates n
      extracted_too is = record {
        inputs = is.inputs;
        one_each = is.one_each;
        chosen = λ j gt e. let (c, m, p, at, chosen, cell, nets) = is.chosen j gt e in (c, m, p, at, chosen_too heights others agree back c m p chosen, cell, nets);
      }

      -- each class with a gate has a label
      gate_label : IsExtracted g cost pats labels heights gates n → (j c : ℕ) → slice_get gates j ≡ Some c → (l : ℕ) × (labels c ≡ Some l)
      gate_label is j c e =
          let lt = slice_get_within gates j c e in
          let count = is.one_each in
          let (gt, f) = slice_get_some n.gates j (omega arith) in
          let (d, m, p, at, chosen, cell, nets) = is.chosen j gt f in
          let same : d ≡ c = cc in
          (cost.value p.cell chosen.supports.pin_labels, subst (λ k. labels k ≡ Some (cost.value p.cell chosen.supports.pin_labels)) same chosen.supports.value)

      pub gates_too : IsExtracted g cost pats labels heights gates n → AreGateClasses g cost pats labels heights roots gates → AreGateClasses g cost pats labels others roots gates
      gates_too is are = record {
        needed = λ j c e. let (need, out) = are.needed j c e in (needed_too heights others agree back need, out);
        all = λ c need out. are.all c (needed_too others heights back agree need) out;
        sorted = λ i j c d e f lt.
            let (k, at) = gate_label is i c e in
            let (l, bt) = gate_label is j d f in
            subst₂ (λ x y. (x < y) ⊎ ((x ≡ y) × (c < d))) (agree c k at) (agree d l bt) (are.sorted i j c d e f lt);
      }

-- a netlist over a given graph, labels and heights
record IsOver (o : Listing) (form : ℕ → Form) (ports : Ports) (pats : List Pattern) (timing : Timing) (cap : ℕ) (n : Netlist) (names : List (List ℕ)) (mapped : Ports) (g : Graph) : Type 0 where
  labels : List (Option ℕ)
  least : (c : ℕ) → IsLeastCover g pats (delay_cost timing cap) c (labels_in labels c)
  heights : ℕ → ℕ
  height : (c l : ℕ) → labels_in labels c ≡ Some l → IsHeight (choices_of g (map length timing.delays) pats) (delay_cost timing cap) (labels_in labels) c (heights c)
  gates : List ℕ
  gate_classes : AreGateClasses g (delay_cost timing cap) pats (labels_in labels) heights (form_classes o form g ports.outputs) gates
  extracted : IsExtracted g (delay_cost timing cap) pats (labels_in labels) heights gates n
  input_names : mapped.inputs ≡ ports.inputs
  outputs : AllZip (λ p q. (p.name ≡ q.name) × IsNetOf g gates (class_in o g (form p.net)) q.net) ports.outputs mapped.outputs
  names_are : names ≡ net_names ports.inputs (map (λ p. p.name) ports.outputs) (form_classes o form g ports.outputs) gates

module _ (inputs : ℕ) (o : Listing) (form : ℕ → Form) (ports : Ports) (pats : List Pattern) (timing : Timing) (cap : ℕ) where
  over_graph : (mode : Mode) (n : Netlist) (names : List (List ℕ)) (mapped : Ports) → (is : IsNetlistOfForms mode inputs o form ports pats timing cap n names mapped) → IsOver o form ports pats timing cap n names mapped is.graph
  over_graph mode n names mapped is = record { labels = is.labels; least = is.least; heights = is.heights; height = is.height; gates = is.gates; gate_classes = is.gate_classes; extracted = is.extracted; input_names = is.input_names; outputs = is.outputs; names_are = is.names_are }

  module _ (g : Graph) (distinct : AreDistinctLeaves g) where
    abbrev cost : Cost
    cost = delay_cost timing cap

    abbrev roots : List ℕ
    roots = form_classes o form g ports.outputs

    -- the netlist over labels, heights and gate classes that are given
    abbrev OutputsAt : List ℕ → List Port → List Port → Type 0
    OutputsAt gates ps qs = AllZip (λ p q. (p.name ≡ q.name) × IsNetOf g gates (class_in o g (form p.net)) q.net) ps qs

    outputs_once : (labels : Labels) (heights : ℕ → ℕ) (gates : List ℕ) → AreGateClasses g cost pats labels heights roots gates → (ps qs rs : List Port) → OutputsAt gates ps qs → OutputsAt gates ps rs → qs ≡ rs
    outputs_once labels heights gates are [] [] [] a b = refl
    outputs_once labels heights gates are [] [] (r ∷ rs) a b = absurd b
    outputs_once labels heights gates are [] (q ∷ qs) rs a b = absurd a
    outputs_once labels heights gates are (p ∷ ps) [] rs a b = absurd a
    outputs_once labels heights gates are (p ∷ ps) (q ∷ qs) [] a b = absurd b
    outputs_once labels heights gates are (p ∷ ps) (q ∷ qs) (r ∷ rs) ((e, at), a) ((f, bt), b) =
        let net_same = class_net_once g gates (gates_apart g cost pats labels heights roots gates are) distinct (class_in o g (form p.net)) q.net r.net at bt in
        ap₂ (λ z zs. z ∷ zs) (ap₂ (λ x y. record { name = x; net = y }) (sym e ∙ f) net_same) (outputs_once labels heights gates are ps qs rs a b)

    ports_once : (labels : Labels) (heights : ℕ → ℕ) (gates : List ℕ) → AreGateClasses g cost pats labels heights roots gates → (mapped also : Ports) → mapped.inputs ≡ ports.inputs → also.inputs ≡ ports.inputs → OutputsAt gates ports.outputs mapped.outputs → OutputsAt gates ports.outputs also.outputs → mapped ≡ also
    ports_once labels heights gates are mapped also e f a b = ap₂ (λ x y. record { inputs = x; outputs = y }) (e ∙ sym f) (outputs_once labels heights gates are ports.outputs mapped.outputs also.outputs a b)

    over_once : (n m : Netlist) (names others : List (List ℕ)) (mapped also : Ports) → IsOver o form ports pats timing cap n names mapped g → IsOver o form ports pats timing cap m others also g → (n ≡ m) × (names ≡ others) × (mapped ≡ also)
    over_once n m names others mapped also a b =
        let same : labels_in b.labels ≡ labels_in a.labels = fun_ext (λ c. least_cover_once g pats cost c (labels_in b.labels c) (labels_in a.labels c) (b.least c) (a.least c)) in
        let height = subst (λ (ls : Labels). (c l : ℕ) → ls c ≡ Some l → IsHeight (choices_of g (map length timing.delays) pats) cost ls c (b.heights c)) same b.height in
        let classes = subst (λ (ls : Labels). AreGateClasses g cost pats ls b.heights roots b.gates) same b.gate_classes in
        let extracted = subst (λ (ls : Labels). IsExtracted g cost pats ls b.heights b.gates m) same b.extracted in
        let agree : (c l : ℕ) → labels_in a.labels c ≡ Some l → b.heights c ≡ a.heights c = λ c l e. IsHeight_once (choices_of g (map length timing.delays) pats) cost (labels_in a.labels) c (b.heights c) (a.heights c) (height c l e) (a.height c l e) in
        let back : (c l : ℕ) → labels_in a.labels c ≡ Some l → a.heights c ≡ b.heights c = λ c l e. sym (agree c l e) in
        let classes' = gates_too g cost pats (labels_in a.labels) roots b.heights a.heights agree back b.gates m extracted classes in
        let extracted' = extracted_too g cost pats (labels_in a.labels) roots b.heights a.heights agree back b.gates m extracted in
        let gates = gate_classes_once g cost pats (labels_in a.labels) a.heights roots b.gates a.gates classes' a.gate_classes in (
          extracted_once g cost pats (labels_in a.labels) a.heights roots a.gates a.gate_classes distinct n m a.extracted (subst (λ gs. IsExtracted g cost pats (labels_in a.labels) a.heights gs m) gates extracted'),
          a.names_are ∙ (ap (λ gs. net_names ports.inputs (map (λ p. p.name) ports.outputs) roots gs) (sym gates) ∙ sym b.names_are),
          ports_once (labels_in a.labels) a.heights a.gates a.gate_classes mapped also a.input_names b.input_names a.outputs (subst (λ gs. OutputsAt gs ports.outputs also.outputs) gates b.outputs),
        )

-- the netlist that forms are mapped to is one, with its names and ports
pub form_netlist_once : (mode : Mode) (inputs : ℕ) (o : Listing) (form : ℕ → Form) (ports : Ports) (pats : List Pattern) (timing : Timing) (cap : ℕ) (n m : Netlist) (names others : List (List ℕ)) (mapped also : Ports) → IsSoundListing inputs o → IsNetlistOfForms mode inputs o form ports pats timing cap n names mapped → IsNetlistOfForms mode inputs o form ports pats timing cap m others also → (n ≡ m) × (names ≡ others) × (mapped ≡ also)
form_netlist_once mode inputs o form ports pats timing cap n m names others mapped also sound a b =
    let graph = graphs_once mode inputs o sound.listing b.graph a.graph b.is_graph a.is_graph in
    over_once inputs o form ports pats timing cap a.graph (forms_leaves_differ mode inputs o a.graph sound a.is_graph) n m names others mapped also
    (over_graph inputs o form ports pats timing cap mode n names mapped a)
    (subst (λ g. IsOver o form ports pats timing cap m others also g) graph (over_graph inputs o form ports pats timing cap mode m others also b))

-- so is that of a network
pub netlist_once : (mode : Mode) (width : ℕ) (net : Network) (ports : Ports) (pats : List Pattern) (timing : Timing) (cap : ℕ) (n m : Netlist) (names others : List (List ℕ)) (mapped also : Ports) → 2 ≤ width → IsNetlistOf mode width net ports pats timing cap n names mapped → IsNetlistOf mode width net ports pats timing cap m others also → (n ≡ m) × (names ≡ others) × (mapped ≡ also)
netlist_once mode width net ports pats timing cap n m names others mapped also wide a b =
    form_netlist_once mode net.inputs (listing_of width net) (sop_at (signals_of width net)) ports pats timing cap n m names others mapped also (network_is_sound width wide net)
    (netlist_of_sops mode width net ports pats timing cap n names mapped a) (netlist_of_sops mode width net ports pats timing cap m others also b)
