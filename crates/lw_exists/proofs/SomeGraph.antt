-- The graph of listed forms cannot fail to be there: equivalence is decided for finitely many forms, and so is which pairs a class holds.
use Rattle.std.proofs.Common.{ℕ, true, ◌+◌, ◌*◌, ◌/◌, ◌<◌, ◌≤◌, ◌≡◌, ◌↔◌, inl, inr, List, [], length, Some, slice_get, slice_index_or, Contains, refl, ap, sym, ◌∙◌, subst, arith}
use Rattle.std.proofs.lemmas.List.{length-map, get_or_past}
use Rattle.std.proofs.lemmas.Option.{slice_get_within, get_or_from_slice_get}
use native.Mathlib.Decide.{dec_lt}
use Rattle.lw_laws.specs.Modes.{Mode}
use Rattle.lw_laws.specs.Networks.{Network}
use Rattle.lw_laws.specs.Forms.Form.{var_form, true_form}
use Rattle.lw_laws.specs.Occurring.{HasInputsFirst}
use Rattle.lw_laws.specs.Listings.{Listing, listing_of, IsListing}
use Rattle.lw_laws.specs.SignalValues.{IsSoundListing, number_value}
use Rattle.lw_laws.specs.Graphs.{Pair, Graph, class_of, HoldsPair, AreRising, pair_count, IsWritten}
use Rattle.lw_laws.specs.Families.{Family, IsNand, Equivalent}
use Rattle.lw_laws.specs.Families.Equivalent.{same, turned, joined, flipped}
use Rattle.lw_laws.specs.NumberedForms.{family_of, NumberOccurs}
use Rattle.lw_laws.specs.Encodings.{HasNand, Encodes}
use Rattle.lw_laws.specs.Numbering.{numbered, numbered_base}
use Rattle.lw_laws.specs.Classes.{IsGraphOf}
use Rattle.lw_laws.proofs.Numbers.{slice_get_map}
use Rattle.lw_laws.proofs.Agreement.{input_at, true_at, numbered_are_forms}
use Rattle.lw_laws.proofs.NumberedForms.{splits_occur}
use Rattle.lw_laws.proofs.NumberedValues.{form_values_fit}
use Rattle.lw_laws.proofs.NumberValues.{numbers_have_values}
use Rattle.lw_laws.proofs.Truths.{flip_not_equivalent}
use Rattle.lw_laws.proofs.ClassLaws.{encoding_of_forms}
use Rattle.lw_laws.proofs.Sound.{network_is_sound}
use Rattle.lw_laws.proofs.Lists.{slice_get_some, held_in}
use Rattle.lw_exists.specs.Weakly.{Weakly}
use Rattle.lw_exists.proofs.Weak.{and_then, weaker, weak_all, Decided, weak_decided, some_list}
use Rattle.lw_exists.proofs.Numbers.{bare, class_by, IsEquivalence, AreClassesOf, half_class, some_classes}
use Rattle.lw_exists.proofs.Rows.{some_row}

module _ (mode : Mode) (inputs : ℕ) (o : Listing) (sound : IsSoundListing inputs o) where
  abbrev F : Family
  F = family_of mode (numbered inputs o)

  abbrev total : ℕ
  total = length o.bases

  is : IsListing o
  is = sound.listing

  first : HasInputsFirst inputs o.bases
  first = sound.first

  each_one : length (numbered inputs o).bases ≡ total
  each_one = length-map o.bases (numbered_base o.bases)

  equivalence : IsEquivalence (λ f h. Equivalent F f h) total
  equivalence = record {
    own = λ f lt. same (let n = each_one in omega arith);
    turn = λ f h e. turned e;
    join = λ f h k d e. joined d e;
    flips = λ f h e. flipped e;
    apart = flip_not_equivalent F (λ i. true) (number_value o (λ i. true)) (form_values_fit (numbered inputs o) (λ i. true) (number_value o (λ i. true)) (numbers_have_values inputs o is (λ i. true) (sound.agree (λ i. true))) mode);
  }

  nand_occurs : (f x y : ℕ) → IsNand F f x y → NumberOccurs (numbered inputs o) f × NumberOccurs (numbered inputs o) x × NumberOccurs (numbered inputs o) y
  nand_occurs f x y (inl s) = splits_occur mode (numbered inputs o) (numbered_are_forms inputs o is) mode f x y s
  nand_occurs f x y (inr s) = let (a, b, c) = splits_occur mode (numbered inputs o) (numbered_are_forms inputs o is) mode f y x s in (a, c, b)

  nand_turned : (f x y : ℕ) → IsNand F f x y → IsNand F f y x
  nand_turned f x y (inl s) = inr s
  nand_turned f x y (inr s) = inl s

  turned_pair : (g : Graph) (c x y : ℕ) → HasNand F g c x y → HasNand F g c y x
  turned_pair g c x y n = record { form = n.form; left = n.right; right = n.left; is_nand = nand_turned n.form n.left n.right n.is_nand; form_at = n.form_at; left_at = n.right_at; right_at = n.left_at }

  -- the classes, and which pairs each holds
  module _ (cs : List ℕ) (count : length cs ≡ total) (are : AreClassesOf (λ f h. Equivalent F f h) cs) where
    abbrev classes : ℕ
    classes = 2 * pair_count 0 cs

    class_low : (f : ℕ) → NumberOccurs (numbered inputs o) f → class_by cs f < classes
    class_low f occ = let n = each_one in let h = half_class cs f in let b = are.below (f / 2) (omega arith) in omega arith

    pair_low : (c x y : ℕ) → HasNand F (bare cs) c x y → (c < classes) × (x < classes) × (y < classes)
    pair_low c x y n =
        let (a, b, d) = nand_occurs n.form n.left n.right n.is_nand in
        let p = class_low n.form a in
        let q = class_low n.left b in
        let r = class_low n.right d in
        let i = n.form_at in
        let j = n.left_at in
        let k = n.right_at in
        (omega arith, omega arith, omega arith)

    abbrev Known : Type 0
    Known = (c : ℕ) → c < classes → (x : ℕ) → x < classes → Decided (λ y. HasNand F (bare cs) c x y) classes

    weakly_known : Weakly Known
    weakly_known =
        weak_all (λ c. (x : ℕ) → x < classes → Decided (λ y. HasNand F (bare cs) c x y) classes) classes (λ c l.
        weak_all (λ x. Decided (λ y. HasNand F (bare cs) c x y) classes) classes (λ x m. weak_decided (λ y. HasNand F (bare cs) c x y) classes))

    -- the pairs of a class, in rising order
    abbrev IsRow : ℕ → List Pair → Type 0
    IsRow c ps =
        AreRising ps × ((p : Pair) → Contains ps p ↔ ((p.x ≤ p.y) × (p.y < classes) × HasNand F (bare cs) c p.x p.y))

    some_rows : Known → (rows : List (List Pair)) × (length rows ≡ classes) × ((c : ℕ) (ps : List Pair) → slice_get rows c ≡ Some ps → IsRow c ps)
    some_rows known =
        some_list IsRow classes (λ c l. let (ps, rises, held) = some_row (λ x y. HasNand F (bare cs) c x y) classes (λ x y m k. known c l x m y k) in (ps, (rises, held)))

    some_leaves : (leaves : List ℕ) × (length leaves ≡ inputs) × ((i c : ℕ) → slice_get leaves i ≡ Some c → c ≡ class_by cs (2 * (i + 1)))
    some_leaves = some_list (λ i c. c ≡ class_by cs (2 * (i + 1))) inputs (λ i lt. (class_by cs (2 * (i + 1)), refl))

    module _ (rows : List (List Pair)) (each : length rows ≡ classes) (row_is : (c : ℕ) (ps : List Pair) → slice_get rows c ≡ Some ps → IsRow c ps) (leaves : List ℕ) (all : length leaves ≡ inputs) (leaf_is : (i c : ℕ) → slice_get leaves i ≡ Some c → c ≡ class_by cs (2 * (i + 1))) where
      abbrev graph : Graph
      graph = record { one = class_by cs 0; leaves = leaves; forms = cs; pairs = rows }

      moved : (c x y : ℕ) → HasNand F (bare cs) c x y → HasNand F graph c x y
      moved c x y n = record { form = n.form; left = n.left; right = n.right; is_nand = n.is_nand; form_at = n.form_at; left_at = n.left_at; right_at = n.right_at }

      back : (c x y : ℕ) → HasNand F graph c x y → HasNand F (bare cs) c x y
      back c x y n = record { form = n.form; left = n.left; right = n.right; is_nand = n.is_nand; form_at = n.form_at; left_at = n.left_at; right_at = n.right_at }

      row_at : (c : ℕ) → c < length rows → IsRow c (slice_index_or rows c [])
      row_at c lt =
          let (row, e) = slice_get_some rows c lt in
          subst (IsRow c) (sym (get_or_from_slice_get rows c row [] e)) (row_is c row e)

      rises : (c : ℕ) → AreRising (slice_index_or rows c [])
      rises c = by_place (dec_lt c (length rows))
        where
          by_place : Dec (c < length rows) → AreRising (slice_index_or rows c [])
          by_place (yes l) = (row_at c l).0
          by_place (no n) = subst AreRising (sym (get_or_past rows c [] (omega arith))) tt

      held : (c x y : ℕ) → Contains (slice_index_or rows c []) (record { x = x; y = y }) → HasNand F (bare cs) c x y
      held c x y at = (((row_at c (held_in rows c (record { x = x; y = y }) at)).1 (record { x = x; y = y })).0 at).2

      pairs_to : (c x y : ℕ) → HoldsPair graph c x y → HasNand F graph c x y
      pairs_to c x y (inl at) = moved c x y (held c x y at)
      pairs_to c x y (inr at) = moved c x y (turned_pair (bare cs) c y x (held c y x at))

      stands : (c x y : ℕ) → x ≤ y → HasNand F (bare cs) c x y → Contains (slice_index_or rows c []) (record { x = x; y = y })
      stands c x y le n =
          let (a, b, d) = pair_low c x y n in
          ((row_at c (omega arith)).1 (record { x = x; y = y })).1 (le, d, n)

      pairs_from : (c x y : ℕ) → HasNand F graph c x y → HoldsPair graph c x y
      pairs_from c x y n = by_order (dec_lt y x)
        where
          by_order : Dec (y < x) → HoldsPair graph c x y
          by_order (yes l) = inr (stands c y x (omega arith) (turned_pair (bare cs) c x y (back c x y n)))
          by_order (no l) = inl (stands c x y (omega arith) (back c x y n))

      leaf_to : (i c : ℕ) → slice_get leaves i ≡ Some c → (f : ℕ) × F.IsInput f i × (class_of graph f ≡ c)
      leaf_to i c e =
          let lt = slice_get_within leaves i c e in
          (2 * (i + 1), (i + 1, slice_get_map (numbered_base o.bases) o.bases (i + 1) (var_form i) (first.inputs i (omega arith)), refl), sym (leaf_is i c e))

      leaf_from : (i c : ℕ) → (f : ℕ) × F.IsInput f i × (class_of graph f ≡ c) → slice_get leaves i ≡ Some c
      leaf_from i c (f, (b, e, s), k) =
          let m = input_at inputs o is b i f e s in
          let lt = first.below m.0 i m.1 in
          let place : m.0 ≡ i + 1 = is.once m.0 (i + 1) (var_form i) m.1 (first.inputs i lt) in
          let own : f ≡ 2 * m.0 + 0 = m.2 in
          let (d, at) = slice_get_some leaves i (omega arith) in
          let same : 2 * (i + 1) ≡ f = omega arith in
          at ∙ ap Some (leaf_is i d at ∙ (ap (class_by cs) same ∙ k))

      one_to : (c : ℕ) → c ≡ graph.one → (f : ℕ) × F.IsTop f × (class_of graph f ≡ c)
      one_to c e = (0, (0, slice_get_map (numbered_base o.bases) o.bases 0 true_form first.first, refl), sym e)

      one_from : (c : ℕ) → (f : ℕ) × F.IsTop f × (class_of graph f ≡ c) → c ≡ graph.one
      one_from c (f, (b, e, s), k) =
          let place : b ≡ 0 = is.once b 0 true_form (true_at inputs o is b e) first.first in
          let same : f ≡ 0 = omega arith in
          sym k ∙ ap (class_by cs) same

      encodes : Encodes F graph
      encodes = record {
        classes = λ f h p q. are.same f h (let n = each_one in omega arith) (let n = each_one in omega arith);
        pairs = λ c x y. (pairs_to c x y, pairs_from c x y);
        leaves = λ i c. (leaf_to i c, leaf_from i c);
        one = λ c. (one_to c, one_from c);
      }

      written : IsWritten total inputs graph
      written = record { form_count = count; leaf_count = all; numbered = are.numbered; class_count = each; rising = rises }

      graph_is : IsGraphOf mode inputs o graph
      graph_is = encoding_of_forms mode inputs o graph is first encodes written

    by_rows : Known → (g : Graph) × IsGraphOf mode inputs o g
    by_rows known =
        let (rows, each, row_is) = some_rows known in
        let (leaves, all, leaf_is) = some_leaves in
        (graph rows each row_is leaves all leaf_is, graph_is rows each row_is leaves all leaf_is)

  weakly_equivalent : Weakly ((f : ℕ) → f < 2 * total → Decided (λ h. Equivalent F f h) (2 * total))
  weakly_equivalent =
      weak_all (λ f. Decided (λ h. Equivalent F f h) (2 * total)) (2 * total) (λ f lt. weak_decided (λ h. Equivalent F f h) (2 * total))

  pub some_graph_of : Weakly ((g : Graph) × IsGraphOf mode inputs o g)
  some_graph_of =
      and_then weakly_equivalent (λ d.
      let (cs, count, are) = some_classes (λ f h. Equivalent F f h) total equivalence d total (omega arith) in
      weaker (by_rows cs count are) (weakly_known cs count are))

pub some_graph : (mode : Mode) (width : ℕ) (net : Network) → 2 ≤ width → Weakly ((g : Graph) × IsGraphOf mode net.inputs (listing_of width net) g)
some_graph mode width net wide = some_graph_of mode net.inputs (listing_of width net) (network_is_sound width wide net)
