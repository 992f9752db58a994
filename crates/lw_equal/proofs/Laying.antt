-- Sides that are laid over the inputs of the first.
use Rattle.std.proofs.Common.{ℕ, ◌+◌, ◌-◌, ◌*◌, ◌<◌, ◌≤◌, ◌≡◌, Bool, false, Some, List, [], ◌∷◌, ◌++◌, length, map, take, get_or, slice_get, All, refl, ap, sym, subst, ◌∙◌, arith, Bor}
use Rattle.std.proofs.lemmas.List.{get_or-map, get_or-take, get_or_append_left, get_or_default, get_or_push, length-map, length-take-le, length_push, take_all}
use Rattle.std.proofs.lemmas.Option.{get_or_from_slice_get, slice_get_within}
use native.Mathlib.Decide.{dec_lt}
use Rattle.lw_aig.specs.declared.gate.Gate.{Gate}
use Rattle.lw_aig.specs.declared.gate.Gate.TheVariants.{Input}
use Rattle.lw_aig.specs.declared.literal.Literal.{Literal}
use Rattle.lw_aig.specs.Aigs.{AreEqual, AreNodeValues, HasValues, IsAig, IsBelow}
use Rattle.lw_aig.specs.Literals.{literal_value}
use Rattle.lw_aig.proofs.Literals.{value_of_node}
use Rattle.lw_aig.proofs.Values.{inputs_are_free}
use Rattle.lw_joint.specs.Joint.{AreInputs, Carry, HaveNetValues}
use Rattle.lw_genlib.specs.Cells.{CellParts}
use Rattle.lw_genlib.specs.Tables.{truth_of_cells}
use Rattle.lw_net.specs.Networks as rows
use Rattle.lw_netlist.specs.Netlists as cells
use Rattle.lw_equal.specs.Cells.{HaveNetlistValues}
use Rattle.lw_equal.specs.declared.side.Logic.TheVariants.{Rows, Cells}
use Rattle.lw_joint.specs.Pairs.{HasInputs, input_literal}
use Rattle.lw_joint.proofs.Columns.{all_below}
use Rattle.lw_sweep.specs.Sweeps.{IsExtended, inputs_alone}
use Rattle.lw_sweep.proofs.Growing.{values_before}
use Rattle.lw_joint.proofs.Staying.{inputs_begin}
use Rattle.lw_equal.specs.declared.placing.Laid.{Laid}
use Rattle.lw_equal.specs.declared.side.Logic.{Logic}
use Rattle.lw_equal.specs.declared.side.Side.{Side}
use Rattle.lw_equal.specs.Answers.{HaveOneValue}
use Rattle.lw_equal.specs.Laid.{ArePlaces, BeginsWith, GivesNames, HaveValuesOf, IsLaid}
use Rattle.lw_equal.specs.Sides.{AreValuesUnder, inputs_of}

-- a graph of inputs alone begins with them, and still does when it has grown
pub begins : (inputs : ℕ) → BeginsWith (inputs_alone inputs) inputs
begins inputs i lt = inputs_begin inputs (i ∷ []) below 0 0 (omega arith)
  where
    below : All (λ n. n < inputs) (i ∷ [])
    below ℕ.zero d low = lt
    below (ℕ.suc k) d low = absurd (omega arith)

pub begins_later : (old new : List Gate) (inputs : ℕ) → IsExtended old new → BeginsWith old inputs → BeginsWith new inputs
begins_later old new inputs extended has i lt = extended.kept (i + 1) Input (has i lt)

-- the places of names among the inputs of a graph
pub places_are_inputs : (gates : List Gate) (all names : List (List ℕ)) (places : List ℕ) → BeginsWith gates (length all) → ArePlaces all names places → HasInputs gates places
places_are_inputs gates all names places begins are i d lt =
    let one = are.one_each in
    let at = are.each i (omega arith) in
    let same : get_or places i d ≡ get_or places i 0 = get_or_default places i d 0 lt in
    ap (λ n. slice_get gates (n + 1)) same ∙ begins (get_or places i 0) (slice_get_within all (get_or places i 0) (get_or names i []) at)

-- one more place
pub places_more : (all names : List (List ℕ)) (places : List ℕ) (i place : ℕ) (name : List ℕ) → i < length names → name ≡ get_or names i name → slice_get all place ≡ Some name → ArePlaces all (take i names) places → ArePlaces all (take (i + 1) names) (places ++ place ∷ [])
places_more all names places i place name lt here at are =
    let front = length-take-le i names (omega arith) in
    let whole = length-take-le (i + 1) names (omega arith) in
    let one = are.one_each in
    let more = length_push places place in
    record { one_each = omega arith; each = λ j low. by j (dec_lt j i) (omega arith) }
  where
    by : (j : ℕ) → Dec (j < i) → j < i + 1 → slice_get all (get_or (places ++ place ∷ []) j 0) ≡ Some (get_or (take (i + 1) names) j [])
    by j (yes low) lt' =
        let front = length-take-le i names (omega arith) in
        let one = are.one_each in
        ap (slice_get all) (get_or_append_left places (place ∷ []) 0 j (omega arith))
        ∙ (are.each j (omega arith)
        ∙ ap Some (get_or-take i names j [] low ∙ sym (get_or-take (i + 1) names j [] lt')))
    by j (no high) lt' =
        let front = length-take-le i names (omega arith) in
        let one = are.one_each in
        let same : i ≡ j = omega arith in
        ap (slice_get all) (get_or_push places place 0 j (omega arith))
        ∙ (at
        ∙ ap Some (here ∙ (get_or_default names i name [] lt ∙ (ap (λ n. get_or names n []) same ∙ sym (get_or-take (i + 1) names j [] lt')))))

pub all_places : (all names : List (List ℕ)) (places : List ℕ) (i : ℕ) → length names ≤ i → ArePlaces all (take i names) places → ArePlaces all names places
all_places all names places i past are = subst (λ ns. ArePlaces all ns places) (take_all i names past) are

-- the literals of inputs have the values of their names
inputs_agree : (v : ℕ → Bool) (all names : List (List ℕ)) (places : List ℕ) (x : List ℕ → Bool) → GivesNames v all x → ArePlaces all names places → AreInputs v (map input_literal places) (λ i. x (get_or names i []))
inputs_agree v all names places x gives are i d lt =
    let size = length-map places input_literal in
    let one = are.one_each in
    let low : i < length places = omega arith in
    let place = get_or places i 0 in
    let at = are.each i (omega arith) in
    ap (literal_value v) (get_or-map input_literal places i 0 d low)
    ∙ (value_of_node v (place + 1) (input_literal place) refl
    ∙ (gives place (slice_get_within all place (get_or names i []) at)
    ∙ ap x (get_or_from_slice_get all place (get_or names i []) [] at)))

pub is_laid : (gates : List Gate) (all : List (List ℕ)) (side : Side) (laid : Laid) (inputs : List Literal) → inputs ≡ map input_literal laid.places.items → ArePlaces all (inputs_of side.logic) laid.places.items → HaveValuesOf gates side.logic inputs laid.literals.items → IsLaid gates all side laid
is_laid gates all side laid inputs same are have = record {
  places = are;
  within = have.within;
  always = λ v x values nodes gives under.
      let agree = inputs_agree v all (inputs_of side.logic) laid.places.items x gives are in
      have.always v (λ i. x (get_or (inputs_of side.logic) i [])) values nodes
      (λ i d lt. ap (λ (ls : List Literal). literal_value v (get_or ls i d)) same ∙ agree i d (let long = ap length same in omega arith)) under;
}

-- the literals of a network with rows, or of cells
pub rows_have : (gates : List Gate) (logic : Logic) (inputs lits : List Literal) (net : Bor rows.NetworkParts) → logic ≡ Rows net → HaveNetValues gates (rows.plain net.now) inputs lits → HaveValuesOf gates logic inputs lits
rows_have gates logic inputs lits net is have = subst (λ l. HaveValuesOf gates l inputs lits) (sym is) (record { within = have.within; always = have.always })

pub cells_have : (gates : List Gate) (logic : Logic) (inputs lits : List Literal) (n : Bor cells.NetlistParts) (lib : Bor (List CellParts)) → logic ≡ Cells n lib → HaveNetlistValues gates (truth_of_cells lib.now) (cells.plain n.now) inputs lits → HaveValuesOf gates logic inputs lits
cells_have gates logic inputs lits n lib is have = subst (λ l. HaveValuesOf gates l inputs lits) (sym is) (record { within = have.within; always = have.always })

-- what is laid stays laid when the graph grows
pub laid_later : (old new : List Gate) (all : List (List ℕ)) (side : Side) (laid : Laid) → IsExtended old new → IsLaid old all side laid → IsLaid new all side laid
laid_later old new all side laid extended is = record {
  places = is.places;
  within = all_below old new laid.literals.items extended is.within;
  always = λ v x values nodes gives under. is.always v x values (values_before old new v extended nodes) gives under;
}

-- equal literals are of nets that have one value
pub one_value : (gates : List Gate) (one other : Side) (left right : Laid) (k m : ℕ) (l r : Literal) → IsAig gates → BeginsWith gates (length (inputs_of one.logic))
    → IsLaid gates (inputs_of one.logic) one left → IsLaid gates (inputs_of one.logic) other right → slice_get left.literals.items k ≡ Some l → slice_get right.literals.items m ≡ Some r → AreEqual gates l r → HaveOneValue one other k m
one_value gates one other left right k m l r aig begins first second at at' equal = record {
  always = λ x vs ws under under'.
      let names = inputs_of one.logic in
      let has = inputs_are_free (λ n. x (get_or names (n - 1) [])) gates aig in
      let gives : GivesNames has.values names x = λ i lt. has.inputs (i + 1) (begins i lt) ∙ ap (λ n. x (get_or names n [])) (let back : i + 1 - 1 ≡ i = omega arith in back) in
      let lefts = first.always has.values x vs has.are gives under k l (slice_get_within left.literals.items k l at) in
      let rights = second.always has.values x ws has.are gives under' m r (slice_get_within right.literals.items m r at') in
      sym lefts
      ∙ (ap (literal_value has.values) (get_or_from_slice_get left.literals.items k l l at)
      ∙ (equal.always has.values has.are
      ∙ (sym (ap (literal_value has.values) (get_or_from_slice_get right.literals.items m r r at')) ∙ rights)));
}
