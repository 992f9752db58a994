-- The graph of a union with links is the graph of a join.
use Rattle.std.proofs.Common.{ℕ, ◌+◌, ◌<◌, ◌≤◌, ◌≡◌, ◌↔◌, Bool, true, false, List, [], ◌∷◌, ◌++◌, length, map, Result, Err, slice_index_or, All, Contains, refl, ap, ap₂, sym, ◌∙◌, subst, subst₂, arith, append_assoc}
use Rattle.std.specs.List.{AllByRecursion, sum_by}
use Rattle.std.proofs.lemmas.List.{append-nil, length-append, length-map, map-append}
use Rattle.std.proofs.lemmas.List.Elements.{All-weaker, recursion_from_All}
use Rattle.std.proofs.lemmas.Option.{get_or_from_slice_get}
use Rattle.lw_facts.proofs.Lists.{get_left}
use Rattle.lw_pool.specs.declared.id.NetId.{NetId}
use Rattle.lw_pool.specs.declared.id.ClassId.{ClassId}
use Rattle.lw_pool.specs.Numbers.{numbers}
use Rattle.lw_laws.specs.Classes.{IsGraphOf, class_in}
use Rattle.lw_laws.specs.Encodings.{Encodes}
use Rattle.lw_laws.specs.Graphs.{Graph, IsWritten, class_of}
use Rattle.lw_laws.specs.Listings.{Listing, listing_of}
use Rattle.lw_laws.specs.Mapped.{forms_of}
use Rattle.lw_laws.specs.MappedNetlists.{form_classes}
use Rattle.lw_laws.specs.Modes.{Mode}
use Rattle.lw_laws.specs.Networks as laws
use Rattle.lw_laws.specs.NumberedForms.{Base, NumberedForms, family_of}
use Rattle.lw_laws.specs.Numbering.{number, numbered, numbered_base, sop_number}
use Rattle.lw_laws.specs.Signals.{Signal}
use Rattle.lw_laws.specs.SignalValues.{IsLinkOf, IsSoundListing}
use Rattle.lw_laws.proofs.ClassLaws.{encoding_of_forms}
use Rattle.lw_laws.proofs.Mapping.{sop_listed}
use Rattle.lw_laws.proofs.Numbers.{slice_get_map}
use Rattle.lw_laws.proofs.Sound.{links_sound, network_is_sound}
use Rattle.lw_net.specs.declared.node.Node.{Node}
use Rattle.lw_net.specs.Networks.{IsNetwork, NetworkParts, plain, plain_node}
use Rattle.lw_net.specs.Ports.{output_port}
use Rattle.lw_net.specs.Unions.{placed_node}
use Rattle.lw_net.proofs.Rise.{in_order}
use Rattle.lw_assoc.specs.declared.fault.GraphFault.{GraphFault}
use Rattle.lw_assoc.specs.declared.fault.GraphFault.TheVariants as graph_fault
use Rattle.lw_assoc.specs.Modes.{law_mode}
use Rattle.lw_assoc.specs.Splits.{base_splits, most_splits, numbered_splits}
use Rattle.lw_assoc.proofs.Counts.{network_splits}
use Rattle.lw_links.specs.Linked.{IsLinked}
use Rattle.lw_map.specs.declared.options.Options as code
use Rattle.lw_map.specs.Choices.{root_of}
use Rattle.lw_map.specs.Mapped.{IsWithinLimits}
use Rattle.lw_map.specs.Options.{plain_options}
use Rattle.lw_map.proofs.ChoiceLemmas.{base_number, sops_count, wide_options}
use Rattle.lw_joined.specs.declared.choices.Joined.{Joined}
use Rattle.lw_joined.specs.declared.taking.Left.{Left}
use Rattle.lw_joined.specs.declared.taking.Listed.{Listed}
use Rattle.lw_joined.specs.declared.uniting.Other.{Other}
use Rattle.lw_joined.specs.declared.uniting.Union.{Union}
use Rattle.lw_joined.specs.Choices.{IsBuilt, IsJoinOf, IsJoined, IsLinkedIf}
use Rattle.lw_joined.specs.Joins.{BeginsWith, joined_listing, own_form}
use Rattle.lw_joined.specs.Unions.{IsListedAs, first_of, united, united_to, with_taken}
use Rattle.lw_joined.proofs.Alone.{plain_alone}
use Rattle.lw_joined.proofs.Joins.{has_the_forms}
use Rattle.lw_joined.proofs.LinkedForms.{forms_are, links_hold, links_of, no_links}
use Rattle.lw_joined.proofs.Unions.{inputs_stay}

-- A union begins with the network.

record AreMore (first union : NetworkParts) : Type 0 where
  further : List Node
  nodes : union.nodes ≡ first.nodes ++ further

more_nodes : (union : NetworkParts) (others : List Other) (taken : List Bool) → AreMore union (united_to union others taken)
more_nodes union [] taken = record { further = []; nodes = sym (append-nil union.nodes) }
more_nodes union (x ∷ others) [] = record { further = []; nodes = sym (append-nil union.nodes) }
more_nodes union (x ∷ others) (true ∷ taken) =
    let rest = more_nodes (with_taken union x true) others taken in
    let placed = map (placed_node x.net.now.inputs (length union.names) x.places.now) x.net.now.nodes in
    record { further = placed ++ rest.further; nodes = rest.nodes ∙ append_assoc union.nodes placed rest.further }
more_nodes union (x ∷ others) (false ∷ taken) = more_nodes (with_taken union x false) others taken

pub begins_united : (net : NetworkParts) (others : List Other) (taken : List Bool) → IsNetwork net → BeginsWith (plain net) (plain (united net others taken))
begins_united net others taken kept =
    let more = more_nodes (first_of net) others taken in
    record {
      inputs = inputs_stay (first_of net) others taken;
      further = map plain_node more.further;
      nodes = ap (map plain_node) more.nodes
          ∙ (map-append plain_node (first_of net).nodes more.further
          ∙ ap (λ (ns : List laws.Node). ns ++ map plain_node more.further) (ap (λ (n : laws.Network). n.nodes) (plain_alone net kept)));
    }

pub listed_itself : (options : code.Options) (net : NetworkParts) (ends : List ℕ) (l : Listed) → IsListedAs options net ends l → IsListedAs options l.union.net l.union.ends.items l
listed_itself options net ends l is = record {
  union = refl;
  ends = refl;
  within = subst (IsWithinLimits (plain_options options)) (sym is.union) is.within;
  forms = is.forms ∙ ap (λ (n : NetworkParts). forms_of options.width (plain n)) (sym is.union);
}

-- The graph is built.

pub few_linked : (linked : Bool) (mode : Mode) (width : ℕ) (net : laws.Network) (old new : NumberedForms) → old ≡ forms_of width net → IsLinkedIf linked old new → numbered_splits mode (forms_of width net) ≤ most_splits → numbered_splits mode new ≤ most_splits
few_linked true mode width net old new is linked few = subst (λ (bs : List Base). sum_by (base_splits mode) bs ≤ most_splits) (sym (linked.bases ∙ ap (λ (f : NumberedForms). f.bases) is)) few
few_linked false mode width net old new is same few = subst (λ (f : NumberedForms). numbered_splits mode f ≤ most_splits) (sym (same ∙ is)) few

pub few_listed : (options : code.Options) (net : NetworkParts) → IsWithinLimits (plain_options options) net → numbered_splits (law_mode options.mode) (forms_of options.width (plain net)) ≤ most_splits
few_listed options net within = subst (λ n. n ≤ most_splits) (sym (network_splits (law_mode options.mode) options.width (plain net))) within.splits

pub no_limit : (fault : GraphFault) (count : ℕ) → fault ≡ graph_fault.Limit → (◌≡◌ {A = Result Graph GraphFault} (Err fault) (Err graph_fault.Limit)) ↔ (most_splits < count) → count ≤ most_splits → ⊥
no_limit fault count same is few =
    let many = is.0 (ap Err same) in
    omega (arith, many, few)

-- The nets' forms are listed.

pub sops_enough : (linked : Bool) (width : ℕ) (net : NetworkParts) (old new : NumberedForms) → IsNetwork net → old ≡ forms_of width (plain net) → IsLinkedIf linked old new → length net.names ≤ length new.sops
sops_enough true width net old new kept is linked =
    omega (arith, sops_count width net old kept is, ap (λ (fs : List ℕ). length fs) linked.sops, length-append old.sops linked.lefts)
sops_enough false width net old new kept is same = omega (arith, sops_count width net new kept (same ∙ is))

pub names_enough : (net union : NetworkParts) → IsNetwork net → IsNetwork union → BeginsWith (plain net) (plain union) → length net.names ≤ length union.names
names_enough net union kept also begins =
    omega (arith, kept.named, also.named, begins.inputs, ap (λ (ns : List laws.Node). length ns) begins.nodes, length-append (map plain_node net.nodes) begins.further, length-map net.nodes plain_node, length-map union.nodes plain_node)

pub outputs_listed : (net : NetworkParts) (count : ℕ) → IsNetwork net → length net.names ≤ count → All (λ (n : NetId). n.0 < count) net.outputs
outputs_listed net count kept enough =
    All-weaker (λ (n : NetId). n.0 < length net.names) (λ (n : NetId). n.0 < count) (λ n low. omega (arith, low, enough)) net.outputs kept.outputs

-- What is made is a join.

module _ (net : NetworkParts) (j : Joined) (new : NumberedForms) (kept : IsNetwork net) (also : IsNetwork j.union) (begins : BeginsWith (plain net) (plain j.union)) (within : IsWithinLimits (plain_options j.choices.options) j.union) (linked : IsLinked (forms_of j.choices.options.width (plain j.union)) new) (count : j.choices.forms ≡ length new.bases) (built : IsBuilt (law_mode j.choices.options.mode) new j.choices.graph) (roots : numbers j.choices.roots ≡ map (root_of new j.choices.graph) net.outputs) (in_range : All (λ (root : ClassId). root.0 < length j.choices.graph.pairs) j.choices.roots) where
  abbrev width : ℕ
  width = j.choices.options.width

  abbrev mode : Mode
  mode = law_mode j.choices.options.mode

  abbrev g : Graph
  g = j.choices.graph

  abbrev o : Listing
  o = listing_of width (plain j.union)

  sound : IsSoundListing j.union.inputs o
  sound = network_is_sound width (wide_options j.choices.options).least (plain j.union)

  abbrev links : List Signal
  links = links_of o.bases linked.lefts linked.rights

  abbrev all : Listing
  all = joined_listing width (plain j.union) links

  pub hold : (x : Signal) → Contains links x → IsLinkOf o x
  hold = links_hold o j.union.inputs sound new linked

  new_are : new ≡ numbered j.union.inputs all
  new_are = forms_are o j.union.inputs sound new linked

  pub is_graph : IsGraphOf mode net.inputs all g
  is_graph =
      let all_sound = links_sound j.union.inputs o links sound hold in
      let long : length new.bases ≡ length all.bases = ap (λ (f : NumberedForms). length f.bases) new_are ∙ length-map all.bases (numbered_base all.bases) in
      subst (λ n. IsGraphOf mode n all g) begins.inputs
      (encoding_of_forms mode j.union.inputs all g all_sound.listing all_sound.first (subst (λ (f : NumberedForms). Encodes (family_of mode f) g) new_are built.encodes)
      (subst₂ (λ (n i : ℕ). IsWritten n i g) long (ap (λ (f : NumberedForms). f.inputs) new_are) built.written))

  -- the class of an output is that of its own form
  root_is : (s : NetId) → s.0 < length net.names → root_of new g s ≡ class_in all g (own_form width (plain net) s.0)
  root_is s low =
      let own_long = length-map net.nodes plain_node in
      let all_long = length-map j.union.nodes plain_node in
      let there : s.0 < j.union.inputs + length (map plain_node j.union.nodes) = omega (arith, low, names_enough net j.union kept also begins, also.named, all_long) in
      let own : s.0 < net.inputs + length (map plain_node net.nodes) = omega (arith, low, kept.named, own_long) in
      let (x, e, same) = sop_listed width (plain j.union) s.0 there in
      let at : slice_index_or (map (sop_number o.bases) (o.signals ++ links)) s.0 0 ≡ sop_number o.bases x = get_or_from_slice_get (map (sop_number o.bases) (o.signals ++ links)) s.0 (sop_number o.bases x) 0 (slice_get_map (sop_number o.bases) (o.signals ++ links) s.0 x (get_left o.signals links s.0 x e)) in
      ap (λ (f : NumberedForms). root_of f g s) new_are
      ∙ ap (class_of g) (at ∙ ap (number o.bases) (sym same ∙ has_the_forms (plain net) (plain j.union) begins width s.0 own))

  pub roots_in : (outputs : List NetId) → AllByRecursion (λ (s : NetId). s.0 < length net.names) outputs → map (root_of new g) outputs ≡ form_classes all (own_form width (plain net)) g (map (output_port net) outputs)
  roots_in [] low = refl
  roots_in (s ∷ outputs) (low, rest) = ap₂ (λ (c : ℕ) (cs : List ℕ). c ∷ cs) (root_is s low) (roots_in outputs rest)

  abbrev pub is_joined : IsJoined net j
  is_joined = record {
    wide = wide_options j.choices.options;
    links = links_of o.bases linked.lefts linked.rights;
    is_join = record { begins = begins; in_order = in_order j.union also; links_hold = hold };
    within = within;
    forms = count ∙ (ap (λ (bs : List Base). length bs) linked.bases ∙ base_number (plain_options j.choices.options) j.union (forms_of width (plain j.union)) refl);
    graph = is_graph;
    few = built.few;
    roots = roots ∙ roots_in net.outputs (recursion_from_All (λ (s : NetId). s.0 < length net.names) net.outputs kept.outputs);
    in_range = in_range;
  }

pub join_of : (net : NetworkParts) (linked : Bool) (u : Union) (left : List Left) (old new : NumberedForms) (j : Joined) → IsNetwork net → IsNetwork j.union → BeginsWith (plain net) (plain j.union) → IsWithinLimits (plain_options j.choices.options) j.union → old ≡ forms_of j.choices.options.width (plain j.union) → IsLinkedIf linked old new → j.union ≡ u.net → j.ends.items ≡ u.ends.items → j.left.items ≡ left → j.choices.forms ≡ length new.bases → IsBuilt (law_mode j.choices.options.mode) new j.choices.graph → numbers j.choices.roots ≡ map (root_of new j.choices.graph) net.outputs → All (λ (root : ClassId). root.0 < length j.choices.graph.pairs) j.choices.roots → IsJoinOf net j.choices.options linked u left j
join_of net true u left old new j kept also begins within is linked union ends told count built roots in_range = record {
  joined = is_joined net j new kept also begins within (subst (λ (f : NumberedForms). IsLinked f new) is linked) count built roots in_range;
  options_are = refl;
  union = union;
  ends = ends;
  told = told;
  unlinked = λ no. cc;
}
join_of net false u left old new j kept also begins within is same union ends told count built roots in_range = record {
  joined = is_joined net j new kept also begins within (no_links (forms_of j.choices.options.width (plain j.union)) new (same ∙ is)) count built roots in_range;
  options_are = refl;
  union = union;
  ends = ends;
  told = told;
  unlinked = λ no. refl;
}
