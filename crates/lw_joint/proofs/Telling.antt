-- What equal literals tell of the nets that they stand for.
use Rattle.std.proofs.Common.{ℕ, ◌+◌, ◌-◌, ◌*◌, ◌<◌, ◌≡◌, Bool, false, Some, List, [], ◌∷◌, ◌++◌, All, map, take, length, get_or, slice_get, refl, ap, sym, ◌∙◌, arith}
use Rattle.std.proofs.lemmas.List.{get_or-map, length-map, map-append, take_more}
use Rattle.std.proofs.lemmas.List.Elements.{All-map}
use Rattle.std.proofs.lemmas.Option.{slice_get_within}
use Rattle.lw_aig.specs.declared.gate.Gate.{Gate}
use Rattle.lw_aig.specs.declared.gate.Gate.TheVariants.{Input}
use Rattle.lw_aig.specs.declared.literal.Literal.{Literal}
use Rattle.lw_aig.specs.Aigs.{AreEqual, HasValues, IsAig, IsBelow}
use Rattle.lw_aig.specs.Literals.{literal_value}
use Rattle.lw_aig.proofs.Literals.{value_of_node}
use Rattle.lw_aig.proofs.Values.{inputs_are_free}
use Rattle.lw_laws.specs.Networks.{AreValues, Network}
use Rattle.lw_net.specs.Networks.{NetworkParts}
use Rattle.lw_net.specs.Plain.{plain}
use Rattle.lw_search.specs.declared.found.Found.{Found}
use Rattle.lw_search.specs.declared.found.Found.TheVariants.{Equal, Apart, Open}
use Rattle.lw_search.specs.Queries.{Tells}
use Rattle.lw_joint.specs.Joint.{AreInputs, HaveNetValues}
use Rattle.lw_joint.specs.Pairs.{HasInputs, HaveEqualValues, IsPlaced, TellsNets, input_literal}

module _ (gates : List Gate) (aig : IsAig gates) (x : ℕ → Bool) where
  -- an assignment of the shared inputs, by node
  abbrev by_node : ℕ → Bool
  by_node n = x (n - 1)

  inputs_agree : (v : ℕ → Bool) → ((n : ℕ) → slice_get gates n ≡ Some Input → v n ≡ by_node n) → (places : List ℕ) → HasInputs gates places → AreInputs v (map input_literal places) (λ i. x (get_or places i 0))
  inputs_agree v free places has i d lt =
      let size = length-map places input_literal in
      let low : i < length places = omega arith in
      let place = get_or places i 0 in
      let before : place + 1 - 1 ≡ place = omega arith in
      ap (literal_value v) (get_or-map input_literal places i 0 d low)
      ∙ (value_of_node v (place + 1) (input_literal place) refl
      ∙ (free (place + 1) (has i 0 low) ∙ ap x before))

  pub net_agrees : (has : HasValues gates by_node) (net : Network) (places : List ℕ) (lits : List Literal) (k : ℕ) (d : Literal) (values : List Bool) → HasInputs gates places → HaveNetValues gates net (map input_literal places) lits → k < length lits → AreValues net (λ i. x (get_or places i 0)) values → literal_value has.values (get_or lits k d) ≡ get_or values k false
  net_agrees has net places lits k d values inputs have lt right =
      have.always has.values (λ i. x (get_or places i 0)) values has.are (inputs_agree has.values has.inputs places inputs) right k d lt

pub nets_equal : (gates : List Gate) (one other : Network) (ones others : List ℕ) (lits lits' : List Literal) (k m : ℕ) (d : Literal) → IsAig gates → HasInputs gates ones → HasInputs gates others → HaveNetValues gates one (map input_literal ones) lits → HaveNetValues gates other (map input_literal others) lits' → k < length lits → m < length lits' → AreEqual gates (get_or lits k d) (get_or lits' m d) → HaveEqualValues one ones k other others m
nets_equal gates one other ones others lits lits' k m d aig first second have have' low low' equal = record {
  always = λ x values values' right right'.
      let has = inputs_are_free (λ n. x (n - 1)) gates aig in
      sym (net_agrees gates aig x has one ones lits k d values first have low right)
      ∙ (equal.always has.values has.are ∙ net_agrees gates aig x has other others lits' m d values' second have' low' right');
}

-- the same of a comparison
pub pair_tells : (gates : List Gate) (one other : NetworkParts) (ones others : List ℕ) (lits lits' : List Literal) (k m : ℕ) (d : Literal) (left right : Literal) (found : Found) → IsAig gates → IsPlaced gates one ones lits → IsPlaced gates other others lits' → k < length lits → m < length lits' → left ≡ get_or lits k d → right ≡ get_or lits' m d → Tells gates left right found → TellsNets one ones k other others m found
pair_tells gates one other ones others lits lits' k m d left right Equal aig first second low low' e f tells =
    nets_equal gates (plain one) (plain other) ones others lits lits' k m d aig first.inputs second.inputs first.values second.values low low'
    (record { always = λ v values. sym (ap (literal_value v) e) ∙ (tells.always v values ∙ ap (literal_value v) f) })
pair_tells gates one other ones others lits lits' k m d left right Apart aig first second low low' e f tells = tt
pair_tells gates one other ones others lits lits' k m d left right Open aig first second low low' e f tells = tt

-- one more input has its literal
pub inputs_more : (places : List ℕ) (i : ℕ) (l : Literal) (lits : List Literal) → i < length places → lits ≡ map input_literal (take i places) → l.0 ≡ 2 * (get_or places i 0 + 1) → lits ++ l ∷ [] ≡ map input_literal (take (i + 1) places)
inputs_more places i l lits lt e own =
    ap (λ ls. ls ++ l ∷ []) e
    ∙ (ap (λ n. map input_literal (take i places) ++ record { 0 = n } ∷ []) own
    ∙ sym (ap (map input_literal) (take_more places i 0 lt) ∙ map-append input_literal (take i places) (get_or places i 0 ∷ [])))

-- shared inputs are nodes of the graph
pub inputs_below : (gates : List Gate) (places : List ℕ) → HasInputs gates places → All (IsBelow (length gates)) (map input_literal places)
inputs_below gates places has = All-map (IsBelow (length gates)) input_literal places (λ i d lt.
    let low = slice_get_within gates (get_or places i d + 1) Input (has i d lt) in
    omega arith)
