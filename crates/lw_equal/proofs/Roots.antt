-- Roots, latches and their only nets.
use Rattle.std.proofs.Common.{ℕ, ◌+◌, ◌-◌, ◌<◌, ◌≤◌, ◌≡◌, List, [], ◌∷◌, Option, Some, None, length, map, take, drop, get_or, slice_get, refl, ap, sym, subst, ◌∙◌, arith, Contains, Bor, MatchOption}
use Rattle.std.specs.List.{IsDistinct, position}
use Rattle.std.specs.Option.{option_map}
use Rattle.std.specs.Str.{bytes_eq}
use Rattle.std.proofs.lemmas.List.{get_or-take, length-take}
use Rattle.std.proofs.lemmas.Option.{get_or_from_slice_get, none-some, same_Some, slice_get-get_or, slice_get-map, slice_get_past, slice_get_within}
use Rattle.lw_facts.proofs.Lists.{at_contained, contains_map, get_drop}
use Rattle.lw_frame.specs.Frames.{control_among, output_of}
use Rattle.lw_laws.specs.Headline.{Port}
use Rattle.lw_pool.specs.declared.latch.Latch.{Latch}
use Rattle.lw_equal.specs.declared.point.Kind.TheVariants.{Output, Data, Control}
use Rattle.lw_equal.specs.declared.side.Side.{Side}
use Rattle.lw_equal.specs.Known.{HasNoLatch, HasNoNet, HasNoRoot, IsLatchOf, IsOnlyNet, IsOnlyRoot}
use Rattle.lw_equal.specs.Sides.{IsControl, IsOutput, IsSide, IsStored, inputs_of, port_name, root_names, roots_of}
use Rattle.lw_equal.proofs.Names.{place_found, place_nowhere, place_only}

-- a root by its name
pub root_named : (side : Side) (place : ℕ) (port : Port) → slice_get (roots_of side.logic) place ≡ Some port → slice_get (root_names side.logic) place ≡ Some port.name
root_named side place port at = slice_get-map port_name (roots_of side.logic) place ∙ ap (option_map port_name) at

abbrev port_of : List ℕ → ℕ → Port
port_of name net = record { name = name; net = net }

same_net : (a b : Port) → a ≡ b → a.net ≡ b.net
same_net a b e = ap (λ (p : Port). p.net) e

module _ (side : Side) (is : IsSide side) (name : List ℕ) where
  module _ (place : ℕ) (found : position (bytes_eq name) (root_names side.logic) ≡ Some place) (port : Port) (at : slice_get (roots_of side.logic) place ≡ Some port) where
    its_name : port.name ≡ name
    its_name = same_Some port.name name (sym (root_named side place port at) ∙ place_found (root_names side.logic) place name found)

    its_place : slice_get (roots_of side.logic) place ≡ Some (port_of name port.net)
    its_place = at ∙ ap (λ n. Some (port_of n port.net)) its_name

    only_there : (other m : ℕ) → slice_get (roots_of side.logic) other ≡ Some (port_of name m) → (other ≡ place) × (m ≡ port.net)
    only_there other m there =
        let same = place_only (root_names side.logic) place other name is.roots found (root_named side other (port_of name m) there) in
        (same, same_net (port_of name m) port (same_Some (port_of name m) port (sym there ∙ (ap (slice_get (roots_of side.logic)) same ∙ at))))

    pub only_root : IsOnlyRoot side name port.net
    only_root = record { place = place; at = its_place; only = λ other m there. (only_there other m there).1 }

    pub only_output : place < side.frame.now.outputs → IsOnlyNet Output side name port.net
    only_output own =
        let it : IsOutput side name port.net = record { place = place; own = own; at = its_place } in
        record { is = it; only = λ m there. (only_there there.place m there.at).1 }

  pub past_outputs : (place : ℕ) → position (bytes_eq name) (root_names side.logic) ≡ Some place → side.frame.now.outputs ≤ place → HasNoNet Output side name
  past_outputs place found past net there =
      let same = place_only (root_names side.logic) place there.place name is.roots found (root_named side there.place (port_of name net) there.at) in
      let own = there.own in
      absurd (omega arith)

  pub no_root : position (bytes_eq name) (root_names side.logic) ≡ None → HasNoRoot side name
  no_root none place net at = place_nowhere (root_names side.logic) place name is.roots none (root_named side place (port_of name net) at)

  pub no_output : position (bytes_eq name) (root_names side.logic) ≡ None → HasNoNet Output side name
  no_output none net there = no_root none there.place net there.at

  -- Latches.

  -- the output of a latch is an input, behind the circuit's own
  latch_input : (place : ℕ) (latch : Latch) → slice_get side.frame.now.latches place ≡ Some latch → slice_get (inputs_of side.logic) (side.frame.now.inputs + place) ≡ Some latch.output
  latch_input place latch at =
      sym (get_drop (inputs_of side.logic) side.frame.now.inputs place)
      ∙ (ap (λ names. slice_get names place) is.frame.latch_outputs
      ∙ (slice_get-map output_of side.frame.now.latches place ∙ ap (option_map output_of) at))

  latch_named : (place : ℕ) (latch : Latch) → slice_get side.frame.now.latches place ≡ Some latch → latch.output ≡ name → slice_get (inputs_of side.logic) (side.frame.now.inputs + place) ≡ Some name
  latch_named place latch at named = latch_input place latch at ∙ ap Some named

  pub no_input : position (bytes_eq name) (inputs_of side.logic) ≡ None → HasNoLatch side name
  no_input none place latch at named = place_nowhere (inputs_of side.logic) (side.frame.now.inputs + place) name is.inputs none (latch_named place latch at named)

  module _ (place : ℕ) (found : position (bytes_eq name) (inputs_of side.logic) ≡ Some place) where
    same_place : (other : ℕ) (latch : Latch) → slice_get side.frame.now.latches other ≡ Some latch → latch.output ≡ name → side.frame.now.inputs + other ≡ place
    same_place other latch at named = place_only (inputs_of side.logic) place (side.frame.now.inputs + other) name is.inputs found (latch_named other latch at named)

    pub own_input : place < side.frame.now.inputs → HasNoLatch side name
    own_input low other latch at named = let same = same_place other latch at named in absurd (omega arith)

    pub only_latch : (number : ℕ) (latch : Latch) → side.frame.now.inputs ≤ place → number ≡ place - side.frame.now.inputs → slice_get side.frame.now.latches number ≡ Some latch → IsLatchOf side name latch
    only_latch number latch low is_number at = record {
      place = number;
      at = at;
      named =
          let back : side.frame.now.inputs + number ≡ place = omega arith in
          same_Some latch.output name (sym (latch_input number latch at) ∙ (ap (slice_get (inputs_of side.logic)) back ∙ place_found (inputs_of side.logic) place name found));
      only = λ other d there named.
          let same = same_place other d there named in
          let number_is : other ≡ number = omega arith in
          same_Some d latch (sym there ∙ (ap (slice_get side.frame.now.latches) number_is ∙ at));
    }

    pub past_latches : (number : ℕ) → side.frame.now.inputs ≤ place → number ≡ place - side.frame.now.inputs → slice_get side.frame.now.latches number ≡ None → HasNoLatch side name
    past_latches number low is_number none other latch at named =
        let same = same_place other latch at named in
        let number_is : other ≡ number = omega arith in
        none-some latch (sym none ∙ (ap (slice_get side.frame.now.latches) (sym number_is) ∙ at))

    -- the latch at its place, if there is one
    pub latch_found : (number : ℕ) → side.frame.now.inputs ≤ place → number ≡ place - side.frame.now.inputs → (latch : Option (Bor Latch))
        → MatchOption latch (length side.frame.now.latches ≤ number) (λ d. (number < length side.frame.now.latches) × ((e : Latch) → d.now ≡ get_or side.frame.now.latches number e)) → MatchOption latch (HasNoLatch side name) (λ d. IsLatchOf side name d.now)
    latch_found number low is_number None past = past_latches number low is_number (slice_get_past side.frame.now.latches number past)
    latch_found number low is_number (Some d) at = only_latch number d.now low is_number (slice_get-get_or side.frame.now.latches number d.now at.0 ∙ ap Some (sym (at.1 d.now)))

  -- What a latch reads.

  module _ (latch : Latch) (of : IsLatchOf side name latch) where
    pub stored_net : (net : ℕ) → IsOnlyRoot side latch.input net → IsOnlyNet Data side name net
    stored_net net root = record {
      is = record { place = of.place; latch = latch; at = of.at; named = of.named; root = root.place; read = root.at };
      only = λ m there. root.only there.root m (there.read ∙ ap (λ (d : Latch). Some (port_of d.input m)) (of.only there.place there.latch there.at there.named));
    }

    pub stores_none : HasNoRoot side latch.input → HasNoNet Data side name
    stores_none none net there = none there.root net (there.read ∙ ap (λ (d : Latch). Some (port_of d.input net)) (of.only there.place there.latch there.at there.named))

    same_control : (m : ℕ) (there : IsControl side name m) (control : List ℕ) → control_among latch.rest ≡ control ∷ [] → there.control ≡ control
    same_control m there control is = first_same there.control control (sym there.controlled ∙ (ap (λ (d : Latch). control_among d.rest) (of.only there.place there.latch there.at there.named) ∙ is))
      where
        first_same : (x y : List ℕ) → x ∷ [] ≡ y ∷ [] → x ≡ y
        first_same x y e = cc

    pub control_net : (control : List ℕ) (net : ℕ) → control_among latch.rest ≡ control ∷ [] → IsOnlyRoot side control net → IsOnlyNet Control side name net
    control_net control net is root = record {
      is = record { place = of.place; latch = latch; at = of.at; named = of.named; control = control; controlled = is; root = root.place; read = root.at };
      only = λ m there. root.only there.root m (there.read ∙ ap (λ n. Some (port_of n m)) (same_control m there control is));
    }

    pub controls_none : (control : List ℕ) → control_among latch.rest ≡ control ∷ [] → HasNoRoot side control → HasNoNet Control side name
    controls_none control is none net there = none there.root net (there.read ∙ ap (λ n. Some (port_of n net)) (same_control net there control is))

    pub uncontrolled : control_among latch.rest ≡ [] → HasNoNet Control side name
    uncontrolled is net there = no_first there.control (sym there.controlled ∙ (ap (λ (d : Latch). control_among d.rest) (of.only there.place there.latch there.at there.named) ∙ is))
      where
        no_first : (x : List ℕ) → x ∷ [] ≡ [] → ⊥
        no_first x e = cc

  pub no_latch_stored : HasNoLatch side name → HasNoNet Data side name
  no_latch_stored none net there = none there.place there.latch there.at there.named

  pub no_latch_control : HasNoLatch side name → HasNoNet Control side name
  no_latch_control none net there = none there.place there.latch there.at there.named

-- Names of points.

contains_take : {X : Type 0} (xs : List X) (n k : ℕ) (x : X) → k < n → slice_get xs k ≡ Some x → Contains (take n xs) x
contains_take xs n k x lt at =
    let size = length-take n xs in
    let within = slice_get_within xs k x at in
    (k, omega (arith, size, lt, within), get_or-take n xs k x lt ∙ get_or_from_slice_get xs k x x at)

pub output_named : (side : Side) (name : List ℕ) (net : ℕ) → IsOutput side name net → Contains (take side.frame.now.outputs (root_names side.logic)) name
output_named side name net out = contains_take (root_names side.logic) side.frame.now.outputs out.place name out.own (root_named side out.place (port_of name net) out.at)

pub stored_named : (side : Side) (name : List ℕ) (net : ℕ) → IsStored side name net → Contains (map output_of side.frame.now.latches) name
stored_named side name net of = subst (Contains (map output_of side.frame.now.latches)) of.named (contains_map output_of side.frame.now.latches of.latch (at_contained side.frame.now.latches of.place of.latch of.at))

pub control_named : (side : Side) (name : List ℕ) (net : ℕ) → IsControl side name net → Contains (map output_of side.frame.now.latches) name
control_named side name net of = subst (Contains (map output_of side.frame.now.latches)) of.named (contains_map output_of side.frame.now.latches of.latch (at_contained side.frame.now.latches of.place of.latch of.at))
