-- A form that is linked to one of a network that the union holds is no later than that network alone.
use Rattle.std.proofs.Common.{ℕ, zero, suc, ◌+◌, ◌-◌, ◌<◌, ◌≤◌, ◌≡◌, inl, Contains, List, [], ◌∷◌, ◌++◌, length, map, take, drop, Some, slice_get, slice_index_or, refl, ap, ap₂, sym, ◌∙◌, subst, subst₂, arith}
use Rattle.std.proofs.lemmas.List.{length-take-le, take-append-drop}
use Rattle.std.proofs.lemmas.Option.{get_or_from_slice_get, slice_get-get_or, slice_get_within}
use native.Mathlib.Decide.{dec_lt}
use Rattle.lw_facts.proofs.Lists.{at_contained, contained_at, drop_get, get_last, get_left, get_right}
use Rattle.lw_laws.specs.Modes.{Mode}
use Rattle.lw_laws.specs.Networks.{IsInOrder, Network, Node}
use Rattle.lw_laws.specs.Forms.{Form}
use Rattle.lw_laws.specs.Signals.{Signal, factored, input_signals, signal_of_input, signal_of_node, signals_after, signals_of, signed, sop_at, sum_of_products}
use Rattle.lw_laws.specs.Covers.{ArePatterns, Pattern, Timing, start_of, tree_of}
use Rattle.lw_laws.specs.Decompositions.{HasTree}
use Rattle.lw_laws.specs.Decompositions.HasTree.{factoring_law}
use Rattle.lw_laws.specs.Headline.{HasLeastTime}
use Rattle.lw_laws.proofs.Lists.{slice_get_some}
use Rattle.lw_laws.proofs.Mapping.{after_length, inputs_length, signals_length, sop_listed}
use Rattle.lw_form.proofs.KeptForms as kept_forms
use Rattle.lw_form.proofs.KeptForms.{after_front}
use Rattle.lw_form.proofs.Signalled.{after_apart}
use Rattle.lw_joined.specs.Joins.{own_form}
use Rattle.lw_joined.specs.Renaming.{Holds, net_at, node_at, starting}
use Rattle.lw_joined.proofs.Held.{rewired, rewired_cover, rewired_time, rewired_tree, signal_renamed, trees_renamed}
use Rattle.lw_joined.proofs.Renamed.{factored_renamed, renamed, signed_renamed, sum_renamed}

past : {X : Type 0} (xs : List X) (i : ℕ) (d : X) → length xs ≤ i → slice_index_or xs i d ≡ d
past [] i d le = refl
past (x ∷ xs) zero d le = absurd (omega arith)
past (x ∷ xs) (suc i) d le = past xs i d (omega arith)

-- the signal of a net by those of all nets
sop_is : (signals : List Signal) (s : ℕ) (x : Signal) → slice_get signals s ≡ Some x → sop_at signals s ≡ x.sop
sop_is signals s x e = ap (λ (y : Signal). y.sop) (get_or_from_slice_get signals s x _ e)

module _ (width : ℕ) (u : Network) where
  input_signal : (i : ℕ) → i < u.inputs → slice_get (signals_of width u) i ≡ Some (signal_of_input i)
  input_signal i lt =
      let same : 0 + i ≡ i = omega arith in
      after_front width (input_signals 0 u.inputs) u.nodes i (signal_of_input i) (kept_forms.input_signal 0 u.inputs i lt ∙ ap (λ k. Some (signal_of_input k)) same)

  fanins_same : (before all : List Signal) → ((t : ℕ) → t < length before → sop_at before t ≡ sop_at all t) → (fanins : List ℕ) → ((t : ℕ) → Contains fanins t → t < length before) → map (sop_at before) fanins ≡ map (sop_at all) fanins
  fanins_same before all same [] low = refl
  fanins_same before all same (t ∷ fanins) low =
      ap₂ (λ (x : Form) (xs : List Form). x ∷ xs) (same t (low t (0, omega arith, refl))) (fanins_same before all same fanins (λ r (i, lt, e). low r (suc i, omega arith, e)))

  node_signal : (k : ℕ) (node : Node) → slice_get u.nodes k ≡ Some node → ((t : ℕ) → Contains node.fanins t → t < u.inputs + k) → slice_get (signals_of width u) (u.inputs + k) ≡ Some (signal_of_node width (signals_of width u) node)
  node_signal k node e low =
      let lt = slice_get_within u.nodes k node e in
      let some = length-take-le k u.nodes (omega arith) in
      let first = input_signals 0 u.inputs in
      let before = signals_after width first (take k u.nodes) in
      let rest = drop (k + 1) u.nodes in
      let s = signal_of_node width before node in
      let count : length before ≡ u.inputs + k = omega (arith, after_length width first (take k u.nodes), inputs_length 0 u.inputs) in
      let nodes : u.nodes ≡ take k u.nodes ++ (node ∷ rest) = sym (take-append-drop k u.nodes) ∙ ap (λ (xs : List Node). take k u.nodes ++ xs) (drop_get u.nodes k node e) in
      let all : signals_of width u ≡ signals_after width before (node ∷ rest) = ap (signals_after width first) nodes ∙ after_apart width first (take k u.nodes) (node ∷ rest) in
      let here : slice_get (signals_of width u) (length before) ≡ Some s = ap (λ ss. slice_get ss (length before)) all ∙ after_front width (before ++ s ∷ []) rest (length before) s (get_last before s) in
      let same : (t : ℕ) → t < length before → sop_at before t ≡ sop_at (signals_of width u) t = λ t below.
      let (y, at) = slice_get_some before t below in
      sop_is before t y at ∙ sym (sop_is (signals_of width u) t y (ap (λ ss. slice_get ss t) all ∙ after_front width before (node ∷ rest) t y at)) in
      let fanins = fanins_same before (signals_of width u) same node.fanins (λ t c. let l = low t c in omega arith) in
      ap (slice_get (signals_of width u)) (sym count)
      ∙ (here ∙ ap (λ (fs : List Form). Some (record { sop = signed node.on (sum_of_products width fs node.rows); fac = signed node.on (factored width fs node.rows) })) fanins)

module _ (width : ℕ) (net union : Network) (places : List ℕ) (first : ℕ) (order : IsInOrder net) (holds : Holds union net places first) (start : ℕ) (after : union.inputs ≤ start) where
  -- the inputs of the network are those of the union, and past them no number stands twice
  abbrev ρ : ℕ → ℕ
  ρ i = slice_index_or places i (start + i)

  placed : (i : ℕ) → i < net.inputs → slice_get places i ≡ Some (ρ i)
  placed i lt = let one = holds.one_each in slice_get-get_or places i (start + i) (omega arith)

  pub one : (i j : ℕ) → ρ i ≡ ρ j → i ≡ j
  one i j e = by (dec_lt i net.inputs) (dec_lt j net.inputs)
    where
      by : Dec (i < net.inputs) → Dec (j < net.inputs) → i ≡ j
      by (yes l) (yes m) = holds.differ i j (ρ i) (placed i l) (placed j m ∙ ap Some (sym e))
      by (yes l) (no m) =
          let low = holds.inputs i (ρ i) (placed i l) in
          let count = holds.one_each in
          let high = past places j (start + j) (omega arith) in
          absurd (omega arith)
      by (no l) (yes m) =
          let low = holds.inputs j (ρ j) (placed j m) in
          let count = holds.one_each in
          let high = past places i (start + i) (omega arith) in
          absurd (omega arith)
      by (no l) (no m) =
          let count = holds.one_each in
          let high = past places i (start + i) (omega arith) in
          let also = past places j (start + j) (omega arith) in
          omega arith

  abbrev at : ℕ → ℕ
  at s = net_at net places first s

  at_input : (s : ℕ) → s < net.inputs → at s ≡ ρ s
  at_input s lt = get_or_from_slice_get places s (ρ s) (first + (s - net.inputs)) (placed s lt)

  at_node : (s : ℕ) → net.inputs ≤ s → at s ≡ first + (s - net.inputs)
  at_node s le = let count = holds.one_each in past places s (first + (s - net.inputs)) (omega arith)

  -- a net before a node stands before it in the union
  at_below : (j s : ℕ) → s < net.inputs + j → at s < first + j
  at_below j s lt = by (dec_lt s net.inputs)
    where
      by : Dec (s < net.inputs) → at s < first + j
      by (yes l) = let e = at_input s l in let low = holds.inputs s (ρ s) (placed s l) in let behind = holds.behind in omega arith
      by (no m) = let e = at_node s (omega arith) in omega arith

  abbrev moved : Signal → Signal
  moved x = signal_renamed ρ one x

  forms_moved : (fanins : List ℕ) → ((s : ℕ) → Contains fanins s → sop_at (signals_of width union) (at s) ≡ renamed ρ (sop_at (signals_of width net) s)) → map (sop_at (signals_of width union)) (map at fanins) ≡ map (renamed ρ) (map (sop_at (signals_of width net)) fanins)
  forms_moved [] each = refl
  forms_moved (s ∷ fanins) each =
      ap₂ (λ (x : Form) (xs : List Form). x ∷ xs) (each s (0, omega arith, refl)) (forms_moved fanins (λ r (i, lt, e). each r (suc i, omega arith, e)))

  node_moved : (node : Node) → ((s : ℕ) → Contains node.fanins s → sop_at (signals_of width union) (at s) ≡ renamed ρ (sop_at (signals_of width net) s)) → signal_of_node width (signals_of width union) (node_at net places first node) ≡ moved (signal_of_node width (signals_of width net) node)
  node_moved node each =
      let fs = map (sop_at (signals_of width net)) node.fanins in
      ap (λ (hs : List Form). record { sop = signed node.on (sum_of_products width hs node.rows); fac = signed node.on (factored width hs node.rows) }) (forms_moved node.fanins each)
      ∙ ap₂ (λ (a b : Form). record { sop = a; fac = b })
      (ap (signed node.on) (sum_renamed ρ one width fs node.rows) ∙ signed_renamed ρ one node.on (sum_of_products width fs node.rows))
      (ap (signed node.on) (factored_renamed ρ one width fs node.rows) ∙ signed_renamed ρ one node.on (factored width fs node.rows))

  below_contained : (fanins : List ℕ) (j : ℕ) → ((s : ℕ) → Contains fanins s → s < net.inputs + j) → (t : ℕ) → Contains (map at fanins) t → t < first + j
  below_contained [] j low t (k, lt, e) = absurd (omega arith)
  below_contained (s ∷ fanins) j low t (zero, lt, e) = subst (λ n. n < first + j) e (at_below j s (low s (0, omega arith, refl)))
  below_contained (s ∷ fanins) j low t (suc k, lt, e) = below_contained fanins j (λ r (i, l, f). low r (suc i, omega arith, f)) t (k, omega arith, e)

  held_below : (n s : ℕ) (x : Signal) → s < n → slice_get (signals_of width net) s ≡ Some x → slice_get (signals_of width union) (at s) ≡ Some (moved x)
  held_below zero s x lt e = absurd (omega arith)
  held_below (suc n) s x lt e = by (dec_lt s net.inputs) (λ r y l f. held_below n r y l f)
    where
      by : Dec (s < net.inputs) → ((r : ℕ) (y : Signal) → r < n → slice_get (signals_of width net) r ≡ Some y → slice_get (signals_of width union) (at r) ≡ Some (moved y)) → slice_get (signals_of width union) (at s) ≡ Some (moved x)
      by (yes l) ih =
          let own = input_signal width net s l in
          let is : x ≡ signal_of_input s = cc in
          ap (slice_get (signals_of width union)) (at_input s l) ∙ (input_signal width union (ρ s) (holds.inputs s (ρ s) (placed s l)) ∙ ap (λ (y : Signal). Some (moved y)) (sym is))
      by (no m) ih =
          let j = s - net.inputs in
          let here : net.inputs + j ≡ s = omega arith in
          let within = slice_get_within (signals_of width net) s x e in
          let count = signals_length width net in
          let (node, f) = slice_get_some net.nodes j (omega arith) in
          let before : (r : ℕ) → Contains node.fanins r → r < net.inputs + j = λ r c. order.before j r node f c in
          let own = node_signal width net j node f before in
          let is : x ≡ signal_of_node width (signals_of width net) node = let same = ap (slice_get (signals_of width net)) here in cc in
          let k = first + j - union.inputs in
          let behind = holds.behind in
          let there : union.inputs + k ≡ first + j = omega arith in
          let other = node_signal width union k (node_at net places first node) (holds.nodes j node f) (λ t c. let b = below_contained node.fanins j before t c in omega arith) in
          let each : (r : ℕ) → Contains node.fanins r → sop_at (signals_of width union) (at r) ≡ renamed ρ (sop_at (signals_of width net) r) = λ r c.
          let low = before r c in
          let (y, g) = slice_get_some (signals_of width net) r (omega arith) in
          sop_is (signals_of width union) (at r) (moved y) (ih r y (omega arith) g) ∙ ap (renamed ρ) (sym (sop_is (signals_of width net) r y g)) in
          let at_s : at s ≡ union.inputs + k = at_node s (omega arith) ∙ sym there in
          ap (slice_get (signals_of width union)) at_s ∙ (other ∙ (ap Some (node_moved node each) ∙ ap (λ (y : Signal). Some (moved y)) (sym is)))

  pub held : (s : ℕ) (x : Signal) → slice_get (signals_of width net) s ≡ Some x → slice_get (signals_of width union) (at s) ≡ Some (moved x)
  held s x e = held_below (suc s) s x (omega arith) e

  pub own_moved : (s : ℕ) → s < net.inputs + length net.nodes → own_form width union (at s) ≡ renamed ρ (own_form width net s)
  own_moved s lt =
      let (x, e, same) = sop_listed width net s lt in
      sop_is (signals_of width union) (at s) (moved x) (held s x e) ∙ ap (renamed ρ) (sym same)

starts_same : (starts places : List ℕ) (start : ℕ) → length starts ≤ start → (i : ℕ) → start_of starts (slice_index_or places i (start + i)) ≡ start_of (map (λ place. slice_index_or starts place 0) places) i
starts_same starts places start le i = by places i (start + i) (omega arith)
  where
    by : (places : List ℕ) (i d : ℕ) → length starts ≤ d → start_of starts (slice_index_or places i d) ≡ start_of (map (λ place. slice_index_or starts place 0) places) i
    by [] i d low = past starts d 0 low
    by (p ∷ places) zero d low = refl
    by (p ∷ places) (suc i) d low = by places i d low

pub no_later_than_alone : (mode : Mode) (width : ℕ) (net union : Network) (places : List ℕ) (first : ℕ) (links : List Signal) (pats : List Pattern) (timing : Timing) (x : Signal) (s d e : ℕ) → IsInOrder net → Holds union net places first → ArePatterns (map length timing.delays) pats → Contains links x → s < net.inputs + length net.nodes → x.fac ≡ own_form width union (net_at net places first s) → HasLeastTime mode width (signals_of width net) pats (starting places timing) (own_form width net s) d → HasLeastTime mode width (signals_of width union ++ links) pats timing x.sop e → e ≤ d
no_later_than_alone mode width net union places first links pats timing x s d e order holds patterns linked within same alone least =
    let start = union.inputs + length timing.starts in
    let after : union.inputs ≤ start = omega arith in
    let names : ℕ → ℕ = λ i. slice_index_or places i (start + i) in
    let one_name = one width net union places first order holds start after in
    let all = signals_of width union ++ links in
    let (k, is_cover, tree, time) = alone.attained in
    let there : (y : Signal) → Contains (signals_of width net) y → Contains all (signal_renamed names one_name y) = λ y c.
    let (i, at_net) = contained_at (signals_of width net) y c in
    at_contained all _ _ (get_left (signals_of width union) links _ _ (held width net union places first order holds start after i y at_net)) in
    let also = trees_renamed names one_name mode width (signals_of width net) all there tree in
    let form_is : renamed names (own_form width net s) ≡ x.fac = sym (own_moved width net union places first order holds start after s within) ∙ sym same in
    let by_fac : HasTree mode width all x.fac (tree_of (rewired names k)) =
    subst₂ (λ f t. HasTree mode width all f t) form_is (sym (rewired_tree names (map length timing.delays) pats patterns k is_cover)) also in
    let (i, at_link) = contained_at links x linked in
    let by_sop = factoring_law (length (signals_of width union) + i, x, get_right (signals_of width union) links i x at_link, inl (inl (refl, refl))) by_fac in
    let low = least.least (rewired names k) (rewired_cover names (map length timing.delays) pats patterns k is_cover) by_sop in
    let times = rewired_time names timing (starting places timing) refl (starts_same timing.starts places start (omega arith)) k in
    omega arith
