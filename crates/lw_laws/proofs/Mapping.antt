-- A netlist over a graph that encodes listed forms computes their values at the least arrivals, and so do those of a network.
use Rattle.std.proofs.Common.{ℕ, suc, ◌+◌, ◌<◌, ◌≤◌, ◌≡◌, Bool, false, Contains, List, [], ◌∷◌, ◌++◌, length, map, Option, Some, None, slice_get, slice_index_or, refl, ap, sym, ◌∙◌, subst, arith, length-append}
use Rattle.std.specs.List.{AllZip, AllByRecursion}
use Rattle.std.proofs.lemmas.List.{length-map}
use Rattle.std.proofs.lemmas.Option.{get_or_from_slice_get, slice_get-get_or}
use Rattle.lw_laws.specs.Modes.{Mode}
use Rattle.lw_laws.specs.Networks.{Node, Network, AreValues, IsInOrder}
use Rattle.lw_laws.specs.Forms.{Form, form_value}
use Rattle.lw_laws.specs.Signals.{Signal, signal_of_node, signals_after, input_signals, signals_of, sop_at}
use Rattle.lw_laws.specs.Classes.{class_in}
use Rattle.lw_laws.specs.Listings.{Listing, listing_of, IsListed, IsListing}
use Rattle.lw_laws.specs.Numbering.{number, numbered}
use Rattle.lw_laws.specs.SignalValues.{IsSoundListing, AreNetForms}
use Rattle.lw_laws.specs.Graphs.{Graph, Unfolds}
use Rattle.lw_laws.specs.Covers.{Timing, start_of, Pattern, HasPins, ArePatterns, tree_of}
use Rattle.lw_laws.specs.Rounds.{labels_in}
use Rattle.lw_laws.specs.Netlists.{Netlist, AreOrdered, CellTruth, HasCellTruth, HaveCellTruths, AreNetlistValues, AreArrivals}
use Rattle.lw_laws.specs.Mapped.{root_class, IsLabelledOverForms, IsMappedOverForms, IsCoveredOverForms, IsAtForm, AreAtForms, IsRootedAtForm, AreRootedAtForms, IsLabelledOver, IsMappedOver, IsCoveredOver, IsAtNet, IsRootedAt, AreRooted, IsMapped, IsCoverAt}
use Rattle.lw_laws.specs.MappedNetlists.{HasPorts}
use Rattle.lw_laws.specs.Headline.{HasLeastTime, HasLeastArrival, HasNoCoverOf, HasNoCover, Port, Ports, StandsForCoverOf, StandsForCover, CoversForms, MapsForms, IsMapping}
use Rattle.lw_laws.proofs.Numbers.{slice_get_map, occurs_number}
use Rattle.lw_laws.proofs.Agreement.{number_in, numbered_are_forms, same_trees}
use Rattle.lw_laws.proofs.Listed.{occurring_is_listing}
use Rattle.lw_laws.proofs.Sound.{network_is_sound}
use Rattle.lw_laws.proofs.NetValues.{sops_are_values}
use Rattle.lw_laws.proofs.NetlistValues.{arrivals_once}
use Rattle.lw_laws.proofs.Netlists.{net_covered, StandsFor-value, StandsFor-time}
use Rattle.lw_laws.proofs.Headline.{certified_plain_least, has_plain_trees, classes_valued}
use Rattle.lw_laws.proofs.Together.{unlabelled_has_no_cover}
use Rattle.lw_laws.proofs.Lists.{slice_get_some}
use Rattle.lw_laws.proofs.Words.{AreNetValues, AreNetArrivals, IsCertified, IsOutput}

-- values and arrivals in lists, as functions
pub list_values : (truth : CellTruth) (n : Netlist) (x : ℕ → Bool) (ws : List Bool) → AreNetlistValues truth n x ws → AreNetValues truth n x (λ k. slice_index_or ws k false)
list_values truth n x ws are = record {
  inputs = λ i lt. get_or_from_slice_get ws i (x i) false (are.inputs i lt);
  gates = λ j g e. get_or_from_slice_get ws (n.inputs + j) (truth g.cell (map (λ p. slice_index_or ws p false) g.pins)) false (are.gates j g e);
}

pub list_arrivals : (timing : Timing) (n : Netlist) (ds : List ℕ) → AreArrivals timing n ds → AreNetArrivals timing n (λ k. slice_index_or ds k 0)
list_arrivals timing n ds are = record {
  inputs = λ i lt. get_or_from_slice_get ds i (start_of timing.starts i) 0 (are.inputs i lt);
  gates = λ j g e. get_or_from_slice_get ds (n.inputs + j) _ 0 (are.gates j g e);
}

-- there is a signal for each net
pub after_length : (width : ℕ) (signals : List Signal) (nodes : List Node) → length (signals_after width signals nodes) ≡ length signals + length nodes
after_length width signals [] = omega arith
after_length width signals (node ∷ nodes) =
    let x = signal_of_node width signals node in
    omega (arith, after_length width (signals ++ x ∷ []) nodes, length-append signals (x ∷ []))

pub inputs_length : (i n : ℕ) → length (input_signals i n) ≡ n
inputs_length i ℕ.zero = refl
inputs_length i (suc n) = ap suc (inputs_length (i + 1) n)

pub signals_length : (width : ℕ) (net : Network) → length (signals_of width net) ≡ net.inputs + length net.nodes
signals_length width net = omega (arith, after_length width (input_signals 0 net.inputs) net.nodes, inputs_length 0 net.inputs)

-- the sum of products of a net, as the signal at its place
pub sop_listed : (width : ℕ) (net : Network) (s : ℕ) → s < net.inputs + length net.nodes → (x : Signal) × (slice_get (signals_of width net) s ≡ Some x) × (sop_at (signals_of width net) s ≡ x.sop)
sop_listed width net s lt =
    let (x, e) = slice_get_some (signals_of width net) s (omega (arith, signals_length width net)) in
    (x, e, ap (λ y. y.sop) (get_or_from_slice_get (signals_of width net) s x _ e))

module _ (width : ℕ) (wide : 2 ≤ width) (net : Network) where
  pub sop_occurs : (s : ℕ) → s < net.inputs + length net.nodes → IsListed (listing_of width net) (sop_at (signals_of width net) s)
  sop_occurs s lt =
      let (x, e, same) = sop_listed width net s lt in
      subst (λ f. IsListed (listing_of width net) f) (sym same) ((occurring_is_listing width wide net).signals s x e).0

  -- the value of a net's sum of products is the net's
  pub sop_value_is : IsInOrder net → (x : ℕ → Bool) (vs : List Bool) → AreValues net x vs → (s : ℕ) → s < net.inputs + length net.nodes → slice_get vs s ≡ Some (form_value x (sop_at (signals_of width net) s))
  sop_value_is order x vs are s lt =
      let (sig, e, same) = sop_listed width net s lt in
      ap (λ ws. slice_get ws s) (sym (sops_are_values net order x width vs are))
      ∙ (slice_get_map (λ t. form_value x t.sop) (signals_of width net) s sig e ∙ ap (λ f. Some (form_value x f)) (sym same))

  -- the sums of products are forms of the nets
  pub sops_are_forms : IsInOrder net → AreNetForms net (listing_of width net) (sop_at (signals_of width net))
  sops_are_forms order = record { listed = sop_occurs; values = sop_value_is order }

-- a net of a mapped netlist is a cover at its class
pub covered_net : (g : Graph) (pats : List Pattern) (timing : Timing) (truth : CellTruth) (n : Netlist) (class : ℕ → ℕ) → ArePatterns (map length timing.delays) pats → HaveCellTruths (map length timing.delays) truth pats → AreOrdered n → IsMapped g (map length timing.delays) pats n class → (net : ℕ) → net < n.inputs + length n.gates → IsCoverAt g pats timing truth n class net
covered_net g pats timing truth n class patterns true_patterns ordered mapped net lt =
    let k = net_covered g (map length timing.delays) pats n class ordered mapped net lt in
    record {
      by = k.by;
      is_cover = k.is_cover;
      stands = k.stands;
      unfolds = k.unfolds;
      value = λ x values are.
          let len = are.one_each in
          slice_get-get_or values net false (omega arith)
          ∙ ap Some (StandsFor-value n (map length timing.delays) pats patterns truth true_patterns x (λ p. slice_index_or values p false) (list_values truth n x values are) k.by net k.is_cover k.stands);
      arrival = λ ds are.
          let len = are.one_each in
          slice_get-get_or ds net 0 (omega arith)
          ∙ ap Some (StandsFor-time n timing (λ p. slice_index_or ds p 0) (list_arrivals timing n ds are) k.by net k.stands);
    }

-- places of ports beside one another
each : (P : Port → Type 0) (Q R : Port → Port → Type 0) → ((p q : Port) → P p → Q p q → R p q) → (ps qs : List Port) → AllByRecursion P ps → AllZip Q ps qs → AllZip R ps qs
each P Q R f [] [] h a = tt
each P Q R f [] (q ∷ qs) h a = absurd a
each P Q R f (p ∷ ps) [] h a = absurd a
each P Q R f (p ∷ ps) (q ∷ qs) (lt, h) (r, a) = (f p q lt r, each P Q R f ps qs h a)

module _ (mode : Mode) (inputs : ℕ) (o : Listing) (sound : IsSoundListing inputs o) (g : Graph) (pats : List Pattern) (timing : Timing) (n : Netlist) (class : ℕ → ℕ) (over : IsCoveredOverForms mode inputs o g pats timing n class) where
  -- the value of a net at a form's class is the form's
  pub form_value_at : (truth : CellTruth) → HaveCellTruths (map length timing.delays) truth pats → (x : ℕ → Bool) (ws : List Bool) → AreNetlistValues truth n x ws → (f : Form) (k : ℕ) → IsListed o f → IsAtForm o g n class f k → slice_get ws k ≡ Some (form_value x f)
  form_value_at truth true_patterns x ws are f k occ at =
      let c = covered_net g pats timing truth n class over.patterns true_patterns over.ordered over.mapped k at.of_netlist in
      c.value x ws are ∙ ap Some (classes_valued mode inputs o g x sound.listing (sound.agree x) over.encodes f (tree_of c.by) occ (subst (λ d. Unfolds g (tree_of c.by) d) at.at_class c.unfolds))

  -- a net at a form's class stands for a cover of a tree of the form, and arrives at the cover's time
  pub form_covered_at : (ds : List ℕ) → AreArrivals timing n ds → (f : Form) (k : ℕ) → IsListed o f → IsAtForm o g n class f k → StandsForCoverOf mode o.width o.signals pats timing n f k (slice_index_or ds k 0)
  form_covered_at ds are f k occ at =
      let c = net_covered g (map length timing.delays) pats n class over.ordered over.mapped k at.of_netlist in
      let trees = has_plain_trees mode inputs o g sound.listing over.encodes f (tree_of c.by) occ in
      record {
        by = c.by;
        is_cover = c.is_cover;
        stands = c.stands;
        has_tree = trees.0 (subst (λ d. Unfolds g (tree_of c.by) d) at.at_class c.unfolds);
        time = sym (StandsFor-time n timing (λ p. slice_index_or ds p 0) (list_arrivals timing n ds are) c.by k c.stands);
      }

  -- a netlist all of whose outputs are at the forms of the network's outputs covers these
  pub forms_covered : (net : Network) (form : ℕ → Form) → net.inputs ≡ inputs → AreNetForms net o form → (truth : CellTruth) → HaveCellTruths (map length timing.delays) truth pats → (ports mapped : Ports) → HasPorts net ports → AreAtForms inputs o form g n class ports mapped → CoversForms mode o.width o.signals form net ports pats timing truth n mapped
  forms_covered net form same_inputs forms truth true_patterns ports mapped has is =
      let IsNet : Port → Type 0 = λ p. p.net < net.inputs + length net.nodes in
      let At : Port → Port → Type 0 = λ p q. (p.name ≡ q.name) × IsAtForm o g n class (form p.net) q.net in
      record {
        ordered = over.ordered;
        cells = λ j gt e. subst (λ k. HasPins (map length timing.delays) gt.cell k) (length-map gt.pins class) (over.mapped.gates j gt e).pins;
        inputs = is.inputs_are ∙ sym same_inputs;
        input_names = is.input_names;
        output_names = each IsNet At (λ p q. p.name ≡ q.name) (λ p q lt r. r.0) ports.outputs mapped.outputs has is.outputs;
        values = λ x vs ws right also. each IsNet At (λ p q. slice_get vs p.net ≡ slice_get ws q.net) (λ p q lt r. forms.values x vs right p.net lt ∙ sym (form_value_at truth true_patterns x ws also (form p.net) q.net (forms.listed p.net lt) r.1)) ports.outputs mapped.outputs has is.outputs;
        covers = λ ds are. each IsNet At (λ p q. StandsForCoverOf mode o.width o.signals pats timing n (form p.net) q.net (slice_index_or ds q.net 0)) (λ p q lt r. form_covered_at ds are (form p.net) q.net (forms.listed p.net lt) r.1) ports.outputs mapped.outputs has is.outputs;
      }

-- a form has no second least time, and a cover in time is the least
pub timely_is_least : (mode : Mode) (width : ℕ) (signals : List Signal) (pats : List Pattern) (timing : Timing) (n : Netlist) (f : Form) (k d e : ℕ) → StandsForCoverOf mode width signals pats timing n f k d → HasLeastTime mode width signals pats timing f e → d ≤ e → HasLeastTime mode width signals pats timing f d
timely_is_least mode width signals pats timing n f k d e stands least low = record {
  attained = (stands.by, stands.is_cover, stands.has_tree, stands.time);
  least = λ j is_cover tree. let le = least.least j is_cover tree in omega arith;
}

module _ (mode : Mode) (inputs : ℕ) (o : Listing) (sound : IsSoundListing inputs o) (g : Graph) (pats : List Pattern) (timing : Timing) (cap : ℕ) (labels : List (Option ℕ)) (n : Netlist) (class : ℕ → ℕ) (over : IsMappedOverForms mode inputs o g pats timing cap labels n class) where
  certified : (arrivals : ℕ → ℕ) → AreNetArrivals timing n arrivals → IsCertified mode (numbered inputs o) g pats timing cap labels n class arrivals
  certified arrivals are = record {
    forms_are = numbered_are_forms inputs o sound.listing;
    encodes = over.labelled.encodes;
    few = over.labelled.few;
    patterns = over.labelled.patterns;
    potential = over.labelled.potential;
    ordered = over.ordered;
    mapped = over.mapped;
    arrivals_are = are;
  }

  rooted : (ds : List ℕ) (f : Form) (k : ℕ) → IsRootedAtForm o g labels n class ds f k → IsOutput g labels n class (λ p. slice_index_or ds p 0) k (number o.bases f)
  rooted ds f k at = record { in_range = at.at_form.of_netlist; at_class = at.at_form.at_class; at_label = at.at_label }

  pub covered_over : IsCoveredOverForms mode inputs o g pats timing n class
  covered_over = record { encodes = over.labelled.encodes; patterns = over.labelled.patterns; ordered = over.ordered; mapped = over.mapped }

  -- the arrival of a rooted net is the least
  pub form_rooted_least : (ds : List ℕ) → AreArrivals timing n ds → (f : Form) (k : ℕ) → IsListed o f → IsRootedAtForm o g labels n class ds f k → HasLeastTime mode o.width o.signals pats timing f (slice_index_or ds k 0)
  form_rooted_least ds are f k occ at =
      certified_plain_least mode inputs o g pats timing cap labels n class (λ p. slice_index_or ds p 0) sound.listing (certified (λ p. slice_index_or ds p 0) (list_arrivals timing n ds are)) k f occ (rooted ds f k at)

  -- a netlist all of whose outputs are rooted maps the forms of the network's outputs
  pub forms_mapped : (net : Network) (form : ℕ → Form) → net.inputs ≡ inputs → AreNetForms net o form → (truth : CellTruth) → HaveCellTruths (map length timing.delays) truth pats → (ds : List ℕ) → AreArrivals timing n ds → (ports mapped : Ports) → HasPorts net ports → AreRootedAtForms inputs o form g labels n class ds ports mapped → MapsForms mode o.width o.signals form net ports pats timing truth n mapped
  forms_mapped net form same_inputs forms truth true_patterns ds are ports mapped has is =
      let IsNet : Port → Type 0 = λ p. p.net < net.inputs + length net.nodes in
      let At : Port → Port → Type 0 = λ p q. (p.name ≡ q.name) × IsRootedAtForm o g labels n class ds (form p.net) q.net in
      let outputs = each IsNet At (λ p q. (p.name ≡ q.name) × IsAtForm o g n class (form p.net) q.net) (λ p q lt r. (r.0, r.1.at_form)) ports.outputs mapped.outputs has is.outputs in
      record {
        covering = forms_covered mode inputs o sound g pats timing n class covered_over net form same_inputs forms truth true_patterns ports mapped has (record { inputs_are = is.inputs_are; input_names = is.input_names; outputs = outputs });
        arrivals = λ es also.
            let same = arrivals_once n over.ordered timing ds es are also in
            each IsNet At (λ p q. HasLeastTime mode o.width o.signals pats timing (form p.net) (slice_index_or es q.net 0)) (λ p q lt r. subst (λ ts. HasLeastTime mode o.width o.signals pats timing (form p.net) (slice_index_or ts q.net 0)) same (form_rooted_least ds are (form p.net) q.net (forms.listed p.net lt) r.1)) ports.outputs mapped.outputs has is.outputs;
      }

-- where a form's class has no label, the form has no cover
pub unlabelled_form : (mode : Mode) (inputs : ℕ) (o : Listing) (g : Graph) (pats : List Pattern) (timing : Timing) (cap : ℕ) (labels : List (Option ℕ)) → IsListing o → IsLabelledOverForms mode inputs o g pats timing cap labels → (f : Form) → IsListed o f → labels_in labels (class_in o g f) ≡ None → HasNoCoverOf mode o.width o.signals pats timing f
unlabelled_form mode inputs o g pats timing cap labels is over f occ none k cover d =
    unlabelled_has_no_cover mode (numbered inputs o) g pats timing cap labels (numbered_are_forms inputs o is) over.encodes over.few over.patterns over.potential (number o.bases f) (number_in inputs o is f (number o.bases f) (occurs_number o is f occ)) none k cover ((same_trees inputs o is mode f (tree_of k) occ).0 d)

-- the same for the sums of products of a network
module _ (mode : Mode) (width : ℕ) (net : Network) (g : Graph) (pats : List Pattern) (timing : Timing) (cap : ℕ) (labels : List (Option ℕ)) (n : Netlist) (class : ℕ → ℕ) (mapped_over : IsMappedOver mode width net g pats timing cap labels n class) where
  abbrev o : Listing
  o = listing_of width net

  abbrev sop : ℕ → Form
  sop = sop_at (signals_of width net)

  sound : IsSoundListing net.inputs o
  sound = network_is_sound width mapped_over.wide net

  pub rooted_least : (ds : List ℕ) → AreArrivals timing n ds → (s k : ℕ) → IsRootedAt width net g labels n class ds s k → HasLeastArrival mode width net pats timing s (slice_index_or ds k 0)
  rooted_least ds are s k at =
      form_rooted_least mode net.inputs o sound g pats timing cap labels n class mapped_over.over ds are (sop s) k (sop_occurs width mapped_over.wide net s at.of_network) at.rooted

  -- a netlist all of whose outputs are rooted is a mapping of the network
  pub rooted_mapping : IsInOrder net → (truth : CellTruth) → HaveCellTruths (map length timing.delays) truth pats → (ds : List ℕ) → AreArrivals timing n ds → (ports mapped : Ports) → AreRooted width net g labels n class ds ports mapped → IsMapping mode width net ports pats timing truth n mapped
  rooted_mapping order truth true_patterns ds are ports mapped is =
      let (has, at) = split ports.outputs mapped.outputs is.outputs in
      forms_mapped mode net.inputs o sound g pats timing cap labels n class mapped_over.over net sop refl (sops_are_forms width mapped_over.wide net order) truth true_patterns ds are ports mapped has (record { inputs_are = is.inputs; input_names = is.input_names; outputs = at })
    where
      split : (ps qs : List Port) → AllZip (λ p q. (p.name ≡ q.name) × IsRootedAt width net g labels n class ds p.net q.net) ps qs → AllByRecursion (λ p. p.net < net.inputs + length net.nodes) ps × AllZip (λ p q. (p.name ≡ q.name) × IsRootedAtForm o g labels n class ds (sop p.net) q.net) ps qs
      split [] [] a = (tt, tt)
      split [] (q ∷ qs) a = absurd a
      split (p ∷ ps) [] a = absurd a
      split (p ∷ ps) (q ∷ qs) ((e, r), a) = let (h, b) = split ps qs a in ((r.of_network, h), ((e, r.rooted), b))

module _ (mode : Mode) (width : ℕ) (net : Network) (g : Graph) (pats : List Pattern) (timing : Timing) (cap : ℕ) (labels : List (Option ℕ)) (labelled : IsLabelledOver mode width net g pats timing cap labels) where
  pub unlabelled_root : (s : ℕ) → s < net.inputs + length net.nodes → labels_in labels (root_class width net g s) ≡ None → HasNoCover mode width net pats timing s
  unlabelled_root s lt none =
      unlabelled_form mode net.inputs (listing_of width net) g pats timing cap labels (occurring_is_listing width labelled.wide net) labelled.over (sop_at (signals_of width net) s) (sop_occurs width labelled.wide net s lt) none

module _ (mode : Mode) (width : ℕ) (net : Network) (g : Graph) (pats : List Pattern) (timing : Timing) (n : Netlist) (class : ℕ → ℕ) (over : IsCoveredOver mode width net g pats timing n class) where
  -- a net at the class of a network's net has its value
  pub value_at : IsInOrder net → (truth : CellTruth) → HaveCellTruths (map length timing.delays) truth pats → (x : ℕ → Bool) (vs ws : List Bool) → AreValues net x vs → AreNetlistValues truth n x ws → (s k : ℕ) → IsAtNet width net g n class s k → slice_get vs s ≡ slice_get ws k
  value_at order truth true_patterns x vs ws right also s k at =
      sop_value_is width over.wide net order x vs right s at.of_network
      ∙ sym (form_value_at mode net.inputs (listing_of width net) (network_is_sound width over.wide net) g pats timing n class over.over truth true_patterns x ws also (sop_at (signals_of width net) s) k (sop_occurs width over.wide net s at.of_network) at.at_form)

  -- and stands for a cover of a tree of it
  pub covered_at : (ds : List ℕ) → AreArrivals timing n ds → (s k : ℕ) → IsAtNet width net g n class s k → StandsForCover mode width net pats timing n s k (slice_index_or ds k 0)
  covered_at ds are s k at =
      form_covered_at mode net.inputs (listing_of width net) (network_is_sound width over.wide net) g pats timing n class over.over ds are (sop_at (signals_of width net) s) k (sop_occurs width over.wide net s at.of_network) at.at_form
