-- The graph of a network's forms encodes them.
use Rattle.std.proofs.Common.{ℕ, Bool, ◌+◌, ◌/◌, ◌*◌, ◌<◌, ◌≤◌, ◌≡◌, ◌↔◌, length, Some, slice_get, refl, ap, sym, ◌∙◌, subst, subst₂, arith, add-zero}
use Rattle.std.proofs.lemmas.List.{length-map}
use Rattle.std.proofs.lemmas.Option.{slice_get_within}
use native.Mathlib.Decide.{dec_lt}
use Rattle.lw_laws.specs.Modes.{Mode}
use Rattle.lw_laws.specs.Networks.{Network}
use Rattle.lw_laws.specs.Trees.{Tree}
use Rattle.lw_laws.specs.Forms.{Form}
use Rattle.lw_laws.specs.Forms.Form.{var_form, true_form}
use Rattle.lw_laws.specs.Occurring.{HasInputsFirst}
use Rattle.lw_laws.specs.Decompositions.{HasTree}
use Rattle.lw_laws.specs.Listings.{Listing, listing_of, IsListing}
use Rattle.lw_laws.specs.SignalValues.{IsSoundListing}
use Rattle.lw_laws.specs.Graphs.{Graph, class_of, IsWritten, PairsInOneClass}
use Rattle.lw_laws.specs.Laws.{HasTheTrees, ClassesHaveValue}
use Rattle.lw_laws.specs.Families.{Family, Derives, Equivalent}
use Rattle.lw_laws.specs.Families.Equivalent.{same}
use Rattle.lw_laws.specs.NumberedForms.{family_of, NumberOccurs}
use Rattle.lw_laws.specs.Encodings.{Encodes}
use Rattle.lw_laws.specs.Drafts.{Draft, facts_of, IsReduced, HaveSameFacts}
use Rattle.lw_laws.specs.Numbering.{number, numbered, numbered_base}
use Rattle.lw_laws.specs.Mapped.{forms_of}
use Rattle.lw_laws.specs.Classes.{class_in, IsGraphOf}
use Rattle.lw_laws.proofs.Numbers.{number_of, number_once, number_occurs}
use Rattle.lw_laws.proofs.Agreement.{number_in, input_at as numbered_input, true_at, form_of_number, same_trees, numbered_are_forms}
use Rattle.lw_laws.proofs.NumberedForms.{forms_are_family}
use Rattle.lw_laws.proofs.Encoding.{pairs_in_one_class}
use Rattle.lw_laws.proofs.Headline.{has_plain_trees, classes_valued}
use Rattle.lw_laws.proofs.CommonTrees.{AreSingle, common_tree_equivalent}
use Rattle.lw_laws.proofs.Drafts.{Encodes-same, IsReduced-encodes}
use Rattle.lw_laws.proofs.ClassLaws.{split_of_nand, nand_of_split, true_number, input_number, encoding_of_forms}
use Rattle.lw_laws.proofs.Sound.{network_is_sound}
use Rattle.lw_laws.proofs.Words.{IsNumber}

module _ (mode : Mode) (inputs : ℕ) (o : Listing) (g : Graph) (sound : IsSoundListing inputs o) (graph_is : IsGraphOf mode inputs o g) where
  abbrev F : Family
  F = family_of mode (numbered inputs o)

  abbrev N : Form → ℕ
  N f = number o.bases f

  is : IsListing o
  is = sound.listing

  first : HasInputsFirst inputs o.bases
  first = sound.first

  top_at : (n : ℕ) → F.IsTop n → IsNumber o.bases true_form n
  top_at n (c, e, s) = (c, true_at inputs o is c e, s ∙ sym (add-zero (2 * c)))

  -- each input is one form, and so is true
  single : AreSingle F
  single = record {
    inputs = λ f h i (b, e, s) (c, k, r). by_number (var_form i) f h (numbered_input inputs o is b i f e s) (numbered_input inputs o is c i h k r);
    tops = λ f h a b. by_number true_form f h (top_at f a) (top_at h b);
  }
    where
      by_number : (p : Form) (f h : ℕ) → IsNumber o.bases p f → IsNumber o.bases p h → Equivalent F f h
      by_number p f h m n = subst (λ k. Equivalent F f k) (number_once o is p f h m n) (same (number_in inputs o is p f m))

  equivalent_trees : (f h : ℕ) → ((t : Tree) × Derives F f t × Derives F h t) ↔ Equivalent F f h
  equivalent_trees f h = common_tree_equivalent F single (λ k. k / 2) (forms_are_family mode (numbered inputs o) (numbered_are_forms inputs o is)) f h

  class_is : (p : Form) (f : ℕ) → IsNumber o.bases p f → class_of g f ≡ class_in o g p
  class_is p f m = ap (class_of g) (number_of o is p f m)

  trees_are : (p : Form) (f : ℕ) → IsNumber o.bases p f → (t : Tree) → HasTree mode o.width o.signals p t ↔ Derives F f t
  trees_are p f m t = subst (λ k. HasTree mode o.width o.signals p t ↔ Derives F k t) (sym (number_of o is p f m)) (same_trees inputs o is mode p t (number_occurs o is p f m))

  classes_equivalent : (f h : ℕ) → NumberOccurs (numbered inputs o) f → NumberOccurs (numbered inputs o) h → (class_of g f ≡ class_of g h) ↔ Equivalent F f h
  classes_equivalent f h occ_f occ_h =
      let (p, m) = form_of_number inputs o is f occ_f in
      let (q, n) = form_of_number inputs o is h occ_h in
      let shared = graph_is.classes p q (number_occurs o is p f m) (number_occurs o is q h n) in (
        λ e. let (t, a, b) = shared.0 (sym (class_is p f m) ∙ (e ∙ class_is q h n)) in (equivalent_trees f h).0 (t, (trees_are p f m t).0 a, (trees_are q h n t).0 b),
        λ e. let (t, a, b) = (equivalent_trees f h).1 e in class_is p f m ∙ (shared.1 (t, (trees_are p f m t).1 a, (trees_are q h n t).1 b) ∙ sym (class_is q h n)),
      )

  leaf_to : (i c : ℕ) → slice_get g.leaves i ≡ Some c → (f : ℕ) × F.IsInput f i × (class_of g f ≡ c)
  leaf_to i c e =
      let lt = slice_get_within g.leaves i c e in
      let count = graph_is.written.leaf_count in
      let in' : i < inputs = omega arith in
      let at = graph_is.leaves i in' in
      (N (var_form i), input_number mode inputs o is i (first.inputs i in'), cc)

  leaf_from : (i c : ℕ) → (f : ℕ) × F.IsInput f i × (class_of g f ≡ c) → slice_get g.leaves i ≡ Some c
  leaf_from i c (f, (b, e, s), k) =
      let m = numbered_input inputs o is b i f e s in
      graph_is.leaves i (first.below m.0 i m.1) ∙ ap Some (sym (class_is (var_form i) f m) ∙ k)

  one_to : (c : ℕ) → c ≡ g.one → (f : ℕ) × F.IsTop f × (class_of g f ≡ c)
  one_to c e = (N true_form, true_number mode inputs o is first.first, sym graph_is.one ∙ sym e)

  one_from : (c : ℕ) → (f : ℕ) × F.IsTop f × (class_of g f ≡ c) → c ≡ g.one
  one_from c (f, top, k) = sym k ∙ (class_is true_form f (top_at f top) ∙ sym graph_is.one)

  -- the graph of the forms encodes them
  pub forms_encode : Encodes F g
  forms_encode = record {
    classes = classes_equivalent;
    pairs = λ c x y. (λ h. nand_of_split mode inputs o is g c x y ((graph_is.pairs c x y).0 h), λ n. (graph_is.pairs c x y).1 (split_of_nand mode inputs o is g c x y n));
    leaves = λ i c. (leaf_to i c, leaf_from i c);
    one = λ c. (one_to c, one_from c);
  }

  pub forms_pairs_once : PairsInOneClass g
  forms_pairs_once = pairs_in_one_class F (λ k. k / 2) (forms_are_family mode (numbered inputs o) (numbered_are_forms inputs o is)) g forms_encode

  pub forms_trees : HasTheTrees mode o g
  forms_trees = has_plain_trees mode inputs o g is forms_encode

  pub forms_values : (x : ℕ → Bool) → ClassesHaveValue o g x
  forms_values x = classes_valued mode inputs o g x is (sound.agree x) forms_encode

-- the same of the forms of a network
module _ (mode : Mode) (width : ℕ) (net : Network) (g : Graph) (wide : 2 ≤ width) (graph_is : IsGraphOf mode net.inputs (listing_of width net) g) where
  pub graph_encodes : Encodes (family_of mode (forms_of width net)) g
  graph_encodes = forms_encode mode net.inputs (listing_of width net) g (network_is_sound width wide net) graph_is

  pub graph_pairs_once : PairsInOneClass g
  graph_pairs_once = forms_pairs_once mode net.inputs (listing_of width net) g (network_is_sound width wide net) graph_is

  pub graph_trees : HasTheTrees mode (listing_of width net) g
  graph_trees = forms_trees mode net.inputs (listing_of width net) g (network_is_sound width wide net) graph_is

same_bound : (a b : ℕ) → ((i : ℕ) → i < a → i < b) → ((i : ℕ) → i < b → i < a) → a ≡ b
same_bound a b to from = by_order (dec_lt a b) (dec_lt b a)
  where
    by_order : Dec (a < b) → Dec (b < a) → a ≡ b
    by_order (yes lt) q = let x = from a lt in absurd (omega arith)
    by_order (no out) (yes lt) = let x = to b lt in absurd (omega arith)
    by_order (no out) (no out') = omega arith

-- a draft with the facts of listed forms has as many base forms and inputs
module _ (mode : Mode) (inputs : ℕ) (o : Listing) (d : Draft) (g : Graph) (sound : IsSoundListing inputs o) (facts : HaveSameFacts (family_of mode (numbered inputs o)) (facts_of d)) where
  base_count : length d.samples ≡ length o.bases
  base_count =
      let all = o.bases in
      same_bound (length d.samples) (length (numbered inputs o).bases) (λ i lt. halved (2 * i) i (omega arith) (λ h. (facts.occurs (2 * i)).1 h) lt) (λ i lt. halved (2 * i) i (omega arith) (λ h. (facts.occurs (2 * i)).0 h) lt) ∙ length-map all (numbered_base all)
    where
      halved : {a b : ℕ} (f i : ℕ) → f / 2 ≡ i → (f / 2 < a → f / 2 < b) → i < a → i < b
      halved {a} {b} f i e h lt = let lt' : f / 2 < a = omega arith in let r = h lt' in omega arith

  input_count : d.inputs ≡ inputs
  input_count = same_bound d.inputs inputs to from
    where
      is : IsListing o
      is = sound.listing

      first : HasInputsFirst inputs o.bases
      first = sound.first

      to : (i : ℕ) → i < d.inputs → i < inputs
      to i lt =
          let (b, e, s) = (facts.inputs (2 * (i + 1)) i).1 (lt, refl) in
          let m = numbered_input inputs o is b i (2 * (i + 1)) e s in
          first.below m.0 i m.1

      from : (i : ℕ) → i < inputs → i < d.inputs
      from i lt =
          let f = number o.bases (var_form i) in
          ((facts.inputs f i).0 (input_number mode inputs o is i (first.inputs i lt))).0

  -- the reduction of such a draft is the graph of the forms
  pub reduction_of_forms : IsReduced d g → IsGraphOf mode inputs o g
  reduction_of_forms reduced =
      let encodes = Encodes-same (family_of mode (numbered inputs o)) (facts_of d) facts g (IsReduced-encodes d g reduced) in
      encoding_of_forms mode inputs o g sound.listing sound.first encodes (subst₂ (λ a b. IsWritten a b g) base_count input_count reduced.written)

-- the reduction of a draft with the facts of a network's forms is their graph
pub reduction_is_graph : (mode : Mode) (width : ℕ) (net : Network) (d : Draft) (g : Graph) → 2 ≤ width → HaveSameFacts (family_of mode (forms_of width net)) (facts_of d) → IsReduced d g → IsGraphOf mode net.inputs (listing_of width net) g
reduction_is_graph mode width net d g wide facts = reduction_of_forms mode net.inputs (listing_of width net) d g (network_is_sound width wide net) facts

pub graph_values : (mode : Mode) (width : ℕ) (net : Network) (g : Graph) (x : ℕ → Bool) → 2 ≤ width → IsGraphOf mode net.inputs (listing_of width net) g → ClassesHaveValue (listing_of width net) g x
graph_values mode width net g x wide graph_is = forms_values mode net.inputs (listing_of width net) g (network_is_sound width wide net) graph_is x
