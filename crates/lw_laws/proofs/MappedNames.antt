-- The names of the nets of a mapped netlist tell them apart.
use Rattle.std.proofs.Common.{ℕ, zero, suc, ◌+◌, ◌<◌, ◌≤◌, ◌^◌, ◌≡◌, Option, Some, None, List, [], ◌∷◌, ◌++◌, length, map, drop, slice_get, slice_index_or, refl, ap, ap₂, sym, ◌∙◌, subst, arith}
use Rattle.std.specs.List.{AllZip}
use Rattle.std.proofs.lemmas.Option.{get_or_from_slice_get, slice_get_within}
use Rattle.std.proofs.lemmas.List.{length-map}
use Rattle.lw_laws.specs.Modes.{Mode}
use Rattle.lw_laws.specs.Networks.{Network}
use Rattle.lw_laws.specs.Forms.Form.{var_form}
use Rattle.lw_laws.specs.Signals.{Signal, signal_of_input, input_signals, signals_of, sop_at}
use Rattle.lw_laws.specs.Covers.{Timing, Pattern}
use Rattle.lw_laws.specs.Netlists.{Netlist}
use Rattle.lw_laws.specs.Extracts.{IsNetOf}
use Rattle.lw_laws.specs.Forms.{Form}
use Rattle.lw_laws.specs.Listings.{Listing, listing_of}
use Rattle.lw_laws.specs.SignalValues.{IsSoundListing}
use Rattle.lw_laws.specs.Classes.{class_in}
use Rattle.lw_laws.specs.Names.{AreDifferent, AreNameable, free_names, gate_names, output_name}
use Rattle.lw_laws.specs.Headline.{Port, Ports}
use Rattle.lw_laws.specs.MappedNetlists.{form_classes, IsMatchNetlistOfForms, IsMatchNetlistOf, IsNetlistOf, ArePortNames, AreNetNames}
use Rattle.lw_laws.proofs.InputClasses.{forms_leaves_differ}
use Rattle.lw_laws.proofs.MatchLists.{class_net_once}
use Rattle.lw_laws.proofs.MatchNetlists.{mapping_is_matches}
use Rattle.lw_laws.proofs.NameLaws.{names_differ, names_owned}
use Rattle.lw_laws.proofs.Numbers.{slice_get_map, slice_get_map_back}
use Rattle.lw_laws.proofs.Listed.{come_first}
use Rattle.lw_laws.proofs.Sound.{network_is_sound}

length_both : {X : Type 0} (xs ys : List X) → length (xs ++ ys) ≡ length xs + length ys
length_both [] ys = omega arith
length_both (x ∷ xs) ys = let ih = length_both xs ys in omega arith

-- the signals of the inputs come first
input_signal : (i n k : ℕ) (rest : List Signal) → k < n → slice_get (input_signals i n ++ rest) k ≡ Some (signal_of_input (i + k))
input_signal i zero k rest lt = absurd (omega arith)
input_signal i (suc n) zero rest lt = let e : i ≡ i + 0 = omega arith in ap (λ m. Some (signal_of_input m)) e
input_signal i (suc n) (suc k) rest lt =
    let e : (i + 1) + k ≡ i + suc k = omega arith in
    input_signal (i + 1) n k rest (omega arith) ∙ ap (λ m. Some (signal_of_input m)) e

-- the sum of products of an input's net is the input
pub input_sop : (width : ℕ) (net : Network) (i : ℕ) → i < net.inputs → sop_at (signals_of width net) i ≡ var_form i
input_sop width net i lt =
    let s = come_first width (input_signals 0 net.inputs) net.nodes in
    let e : 0 + i ≡ i = omega arith in
    let at = ap (λ xs. slice_get xs i) s.are ∙ (input_signal 0 net.inputs i s.rest lt ∙ ap (λ m. Some (signal_of_input m)) e) in
    ap (λ (x : Signal). x.sop) (get_or_from_slice_get (signals_of width net) i (signal_of_input i) _ at)

pub gate_names_each : (outputs : List (List ℕ)) (roots : List ℕ) (free : List (List ℕ)) (gates : List ℕ) → length (gate_names outputs roots free gates) ≡ length gates
gate_names_each outputs roots free [] = refl
gate_names_each outputs roots free (c ∷ gates) = by_name (output_name outputs roots c) (gate_names_each outputs roots free gates) (gate_names_each outputs roots (drop 1 free) gates)
  where
    by_name : (n : Option (List ℕ)) → length (gate_names outputs roots free gates) ≡ length gates → length (gate_names outputs roots (drop 1 free) gates) ≡ length gates → length (elim n as (λ o. List (List ℕ)) [ Some name ↦ name ∷ gate_names outputs roots free gates | None ↦ slice_index_or free 0 [] ∷ gate_names outputs roots (drop 1 free) gates ]) ≡ suc (length gates)
    by_name (Some name) p q = ap suc p
    by_name None p q = ap suc q

-- outputs that are paired have the same names, and a pair stands at each place
same_names : (R : Port → Port → Type 0) (ps qs : List Port) → AllZip (λ p q. (p.name ≡ q.name) × R p q) ps qs → map (λ p. p.name) ps ≡ map (λ p. p.name) qs
same_names R [] [] a = refl
same_names R [] (q ∷ qs) a = absurd a
same_names R (p ∷ ps) [] a = absurd a
same_names R (p ∷ ps) (q ∷ qs) ((e, r), a) = ap₂ (λ x xs. x ∷ xs) e (same_names R ps qs a)

paired_at : (R : Port → Port → Type 0) (ps qs : List Port) → AllZip (λ p q. (p.name ≡ q.name) × R p q) ps qs → (k : ℕ) (q : Port) → slice_get qs k ≡ Some q → (p : Port) × (slice_get ps k ≡ Some p) × (p.name ≡ q.name) × R p q
paired_at R [] [] a k q e = cc
paired_at R [] (r ∷ qs) a k q e = absurd a
paired_at R (p ∷ ps) [] a k q e = absurd a
paired_at R (p ∷ ps) (r ∷ qs) ((s, t), a) zero q e = let same : r ≡ q = cc in (p, refl, s ∙ ap (λ z. z.name) same, subst (R p) same t)
paired_at R (p ∷ ps) (r ∷ qs) (b, a) (suc k) q e = paired_at R ps qs a k q e

module _ (mode : Mode) (inputs : ℕ) (o : Listing) (form : ℕ → Form) (sound : IsSoundListing inputs o) (net : Network) (same_inputs : net.inputs ≡ inputs) (input_forms : (i : ℕ) → i < inputs → form i ≡ var_form i) (ports : Ports) (pats : List Pattern) (pin_counts : List ℕ) (n : Netlist) (names : List (List ℕ)) (mapped : Ports) (is : IsMatchNetlistOfForms mode inputs o form ports pats pin_counts n names mapped) (named : ArePortNames net ports) (few : 1 + (length n.gates + (length ports.inputs + length ports.outputs)) < 2 ^ 64) where
  abbrev roots : List ℕ
  roots = form_classes o form is.graph ports.outputs

  abbrev output_names : List (List ℕ)
  output_names = map (λ p. p.name) ports.outputs

  -- an output with an input's name is at the input's class
  tied : (i k : ℕ) (name : List ℕ) → slice_get ports.inputs i ≡ Some name → slice_get output_names k ≡ Some name → slice_get roots k ≡ slice_get is.graph.leaves i
  tied i k name at e =
      let (p, bt, same) = slice_get_map_back (λ p. p.name) ports.outputs k name e in
      let lt = slice_get_within ports.inputs i name at in
      let count = named.one_each in
      let inside : i < inputs = omega arith in
      let place = named.tied i k p bt (at ∙ ap Some (sym same)) in
      let class : class_in o is.graph (form p.net) ≡ class_in o is.graph (form i) = ap (λ s. class_in o is.graph (form s)) place in
      slice_get_map (λ p. class_in o is.graph (form p.net)) ports.outputs k p bt
      ∙ (ap Some (class ∙ ap (λ f. class_in o is.graph f) (input_forms i inside)) ∙ sym (is.is_graph.leaves i inside))

  nameable : AreNameable ports.inputs output_names is.graph.leaves roots is.gates
  nameable = record {
    few =
        let a = is.matches.one_each in
        let b = length_both ports.inputs output_names in
        let c = length-map ports.outputs (λ p. p.name) in
        omega arith;
    inputs_differ = named.inputs_differ;
    outputs_differ = named.outputs_differ;
    tied = tied;
    once = is.matches.apart.once;
    no_leaf = λ i j c e f. is.matches.apart.no_leaf i c e (j, f);
  }

  owned : (j k : ℕ) (p : Port) → slice_get mapped.outputs k ≡ Some p → slice_get names j ≡ Some p.name → j ≡ p.net
  owned j k p at e =
      let (q, bt, same, net_of) = paired_at (λ p q. IsNetOf is.graph is.gates (class_in o is.graph (form p.net)) q.net) ports.outputs mapped.outputs is.outputs k p at in
      let leaf_count = is.is_graph.written.leaf_count in
      let count = named.one_each in
      let one_each : length is.graph.leaves ≡ length ports.inputs = omega arith in
      let here = names_owned ports.inputs output_names is.graph.leaves roots is.gates nameable one_each j k p.name (ap (λ ns. slice_get ns j) (sym is.names_are) ∙ e) (slice_get_map (λ p. p.name) ports.outputs k q bt ∙ ap Some same) in
      let root = slice_get_map (λ p. class_in o is.graph (form p.net)) ports.outputs k q bt in
      class_net_once is.graph is.gates is.matches.apart (forms_leaves_differ mode inputs o is.graph sound is.is_graph) (class_in o is.graph (form q.net)) j p.net (here ∙ root) net_of

  -- the names of the nets and of the outputs tell them apart
  pub form_names_are : AreNetNames n names mapped
  form_names_are = record {
    one_each =
        let a = is.matches.one_each in
        let b = is.matches.inputs in
        let c = is.is_graph.written.leaf_count in
        let d = named.one_each in
        let e = length_both ports.inputs (gate_names output_names roots (free_names (ports.inputs ++ output_names) (length is.gates)) is.gates) in
        let f = gate_names_each output_names roots (free_names (ports.inputs ++ output_names) (length is.gates)) is.gates in
        ap length is.names_are ∙ omega arith;
    nets_differ = subst AreDifferent (sym is.names_are) (names_differ ports.inputs output_names is.graph.leaves roots is.gates nameable);
    outputs_differ = subst AreDifferent (same_names (λ p q. IsNetOf is.graph is.gates (class_in o is.graph (form p.net)) q.net) ports.outputs mapped.outputs is.outputs) named.outputs_differ;
    owned = owned;
  }

-- the same for the netlist of matches of a network, and for the one that it is mapped to
pub match_names_are : (mode : Mode) (width : ℕ) (net : Network) (ports : Ports) (pats : List Pattern) (pin_counts : List ℕ) (n : Netlist) (names : List (List ℕ)) (mapped : Ports) → 2 ≤ width → IsMatchNetlistOf mode width net ports pats pin_counts n names mapped → ArePortNames net ports → 1 + (length n.gates + (length ports.inputs + length ports.outputs)) < 2 ^ 64 → AreNetNames n names mapped
match_names_are mode width net ports pats pin_counts n names mapped wide is =
    form_names_are mode net.inputs (listing_of width net) (sop_at (signals_of width net)) (network_is_sound width wide net) net refl (input_sop width net) ports pats pin_counts n names mapped is

pub net_names_are : (mode : Mode) (width : ℕ) (net : Network) (ports : Ports) (pats : List Pattern) (timing : Timing) (cap : ℕ) (n : Netlist) (names : List (List ℕ)) (mapped : Ports) → 2 ≤ width → IsNetlistOf mode width net ports pats timing cap n names mapped → ArePortNames net ports → 1 + (length n.gates + (length ports.inputs + length ports.outputs)) < 2 ^ 64 → AreNetNames n names mapped
net_names_are mode width net ports pats timing cap n names mapped wide is =
    match_names_are mode width net ports pats (map length timing.delays) n names mapped wide (mapping_is_matches mode width net ports pats timing cap n names mapped is).0
