-- A union has the values and the forms of the network that it begins with, and with links its forms are a sound listing.
use Rattle.std.proofs.Common.{ℕ, zero, suc, ◌+◌, ◌<◌, ◌≤◌, ◌≡◌, false, Contains, List, [], ◌∷◌, length, take, Some, slice_get, refl, ap, sym, ◌∙◌, subst, arith}
use Rattle.std.proofs.lemmas.List.{get_or-take, length-append, length-take-le}
use Rattle.std.proofs.lemmas.Option.{get_or_from_slice_get, slice_get_within}
use Rattle.std.specs.List.{list_any}
use Rattle.lw_facts.proofs.Lists.{get_left}
use Rattle.lw_laws.specs.Networks.{IsInOrder, Network, Node, agrees, row_value}
use Rattle.lw_laws.specs.Signals.{Signal, input_signals, signals_after, signals_of}
use Rattle.lw_laws.specs.Listings.{IsListed, listing_of}
use Rattle.lw_laws.specs.SignalValues.{AreNetForms, IsSoundListing}
use Rattle.lw_laws.proofs.Mapping.{sop_listed, sop_occurs, sop_value_is}
use Rattle.lw_laws.proofs.NetValues.{entries_agree}
use Rattle.lw_laws.proofs.Sound.{links_sound, network_is_sound}
use Rattle.lw_form.proofs.KeptForms.{after_front}
use Rattle.lw_form.proofs.Signalled.{after_apart}
use Rattle.lw_joined.specs.Joins.{BeginsWith, HasTheForms, HasTheValues, IsJoin, joined_listing, own_form}

-- an element of the first ones
pub get_front : {X : Type 0} (k : ℕ) (xs : List X) (i : ℕ) → i < k → slice_get (take k xs) i ≡ slice_get xs i
get_front zero xs i lt = absurd (omega arith)
get_front (suc k) [] i lt = refl
get_front (suc k) (x ∷ xs) zero lt = refl
get_front (suc k) (x ∷ xs) (suc i) lt = get_front k xs i (omega arith)

module _ (net union : Network) (begins : BeginsWith net union) where
  node_in : (j : ℕ) (node : Node) → slice_get net.nodes j ≡ Some node → slice_get union.nodes j ≡ Some node
  node_in j node e = ap (λ ns. slice_get ns j) begins.nodes ∙ get_left net.nodes begins.further j node e

  pub has_the_values : IsInOrder union → HasTheValues net union
  has_the_values order x values are =
      let nets = net.inputs + length net.nodes in
      let first = take nets values in
      let same = begins.inputs in
      let one = are.one_each in
      let more = ap length begins.nodes ∙ length-append net.nodes begins.further in
      record {
        one_each = length-take-le nets values (omega arith);
        inputs = λ i lt. get_front nets values i (omega arith) ∙ are.inputs i (omega arith);
        nodes = λ j node e.
            let there = node_in j node e in
            let within = slice_get_within net.nodes j node e in
            let low : (s : ℕ) → Contains node.fanins s → s < nets = λ s c. let b = order.before j s node there c in omega arith in
            get_front nets values (net.inputs + j) (omega arith)
            ∙ (ap (λ i. slice_get values (i + j)) (sym same)
            ∙ (are.nodes j node there
            ∙ ap Some (ap (λ vs. agrees node.on (list_any (row_value vs) node.rows)) (sym (entries_agree false nets first values (λ i lt. get_or-take nets values i false lt) node.fanins low)))));
      }

  pub has_the_forms : (width : ℕ) → HasTheForms width net union
  has_the_forms width s lt =
      let (x, e, own) = sop_listed width net s lt in
      let all : signals_of width union ≡ signals_after width (signals_of width net) begins.further =
      ap (λ i. signals_after width (input_signals 0 i) union.nodes) begins.inputs
      ∙ (ap (signals_after width (input_signals 0 net.inputs)) begins.nodes ∙ after_apart width (input_signals 0 net.inputs) net.nodes begins.further) in
      let there : slice_get (signals_of width union) s ≡ Some x = ap (λ ss. slice_get ss s) all ∙ after_front width (signals_of width net) begins.further s x e in
      ap (λ (y : Signal). y.sop) (get_or_from_slice_get (signals_of width union) s x _ there) ∙ sym own

module _ (width : ℕ) (net union : Network) (links : List Signal) (wide : 2 ≤ width) (is : IsJoin width net union links) where
  pub join_is_sound : IsSoundListing net.inputs (joined_listing width union links)
  join_is_sound =
      subst (λ i. IsSoundListing i (joined_listing width union links)) is.begins.inputs (links_sound union.inputs (listing_of width union) links (network_is_sound width wide union) is.links_hold)

  pub own_listed : (s : ℕ) → s < net.inputs + length net.nodes → IsListed (joined_listing width union links) (own_form width net s)
  own_listed s lt =
      let same = is.begins.inputs in
      let more = ap length is.begins.nodes ∙ length-append net.nodes is.begins.further in
      subst (IsListed (joined_listing width union links)) (has_the_forms net union is.begins width s lt) (sop_occurs width wide union s (omega arith))

  pub own_forms_are : IsInOrder net → AreNetForms net (joined_listing width union links) (own_form width net)
  own_forms_are order = record { listed = own_listed; values = sop_value_is width wide net order }
