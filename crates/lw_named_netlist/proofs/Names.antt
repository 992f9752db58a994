-- Names that differ, and their numbers.
use Rattle.std.proofs.Common.{◌≡◌, ℕ, ◌+◌, ◌<◌, Bool, true, false, not, cond, List, [], ◌∷◌, ◌++◌, length, map, take, drop, get_or, slice_get, Option, Some, None, refl, sym, ap, ap₂, subst, ◌∙◌, append_assoc}
use Rattle.std.proofs.lemmas.List.{at_drop_more, map_more, map-append, append-nil}
use Rattle.std.proofs.lemmas.Option.{slice_get_within, get_or_from_slice_get}
use Rattle.std.specs.List.{flat_map, IsDistinct}
use Rattle.std.specs.Str.{bytes_eq}
use Rattle.lw_facts.proofs.Lists.{distinct_push}
use Rattle.lw_dag.proofs.Names.{find_first, find_later}
use Rattle.lw_named_netlist.specs.declared.draft.DraftGate.{DraftGate}
use Rattle.lw_named_netlist.specs.declared.draft.GateDraft.{GateDraft}
use Rattle.lw_named_netlist.specs.declared.draft.Wire.{Wire}
use Rattle.lw_named_netlist.specs.declared.fault.NetlistFault.{NetlistFault}
use Rattle.lw_named_netlist.specs.declared.fault.NetlistFault.TheVariants.{Twice, Undriven, Cycle, Memory}
use Rattle.lw_named_netlist.specs.Closing.{Link, drivers, gate_link, is_among, name_of, needs_of, out_of, twice_after, undriven_in, wire_link}
use Rattle.lw_dag.specs.Names.{number_in}
use Rattle.lw_named_netlist.specs.Numbered.{TellsUndriven, numbered}

-- one more link is numbered
pub numbered_more : {X : Type 0} (driven : List (List ℕ)) (link : X → Link) (xs : List X) (old new : List (List ℕ)) (i : ℕ) (x : X) (ns : List ℕ) → i < length xs → x ≡ get_or xs i x → old ≡ numbered driven (map link (take i xs)) → ns ≡ map (number_in driven) (link x).needs → new ≡ old ++ ns ∷ [] → new ≡ numbered driven (map link (take (i + 1) xs))
numbered_more {X = X} driven link xs old new i x ns below here was is grown =
    let one : Link → List ℕ = λ l. map (number_in driven) l.needs in
    let more : map link (take (i + 1) xs) ≡ map link (take i xs) ++ link (get_or xs i x) ∷ [] = map_more link xs i x below in
    grown ∙ (ap₂ (λ l n. l ++ n ∷ []) was (is ∙ ap (λ (y : X). one (link y)) here) ∙ sym (ap (map one) more ∙ map-append one (map link (take i xs)) (link (get_or xs i x) ∷ [])))

-- an undriven name of the first names is the first of all
pub undriven_first : (signals xs ys : List (List ℕ)) (fault : NetlistFault) → TellsUndriven signals xs fault → TellsUndriven signals (xs ++ ys) fault
undriven_first signals xs ys (Undriven name) e = find_first (λ n. not (is_among signals n)) xs ys name e
undriven_first signals xs ys (Cycle name) e = e
undriven_first signals xs ys (Twice name) e = e
undriven_first signals xs ys Memory e = e

pub undriven_later : (signals xs ys : List (List ℕ)) → undriven_in signals xs ≡ None → undriven_in signals (xs ++ ys) ≡ undriven_in signals ys
undriven_later signals xs ys e = find_later (λ n. not (is_among signals n)) xs ys e

-- where none of the first names is undriven, the first of the others is the first of all
pub undriven_then : (signals xs ys : List (List ℕ)) (fault : NetlistFault) → undriven_in signals xs ≡ None → TellsUndriven signals ys fault → TellsUndriven signals (xs ++ ys) fault
undriven_then signals xs ys (Undriven name) none e = undriven_later signals xs ys none ∙ e
undriven_then signals xs ys (Cycle name) none e = e
undriven_then signals xs ys (Twice name) none e = e
undriven_then signals xs ys Memory none e = e

-- none of the first names is undriven where none of all is
pub undriven_before : (signals xs ys : List (List ℕ)) → undriven_in signals (xs ++ ys) ≡ None → undriven_in signals xs ≡ None
undriven_before signals xs ys none = by_found (undriven_in signals xs) refl
  where
    by_found : (found : Option (List ℕ)) → undriven_in signals xs ≡ found → undriven_in signals xs ≡ None
    by_found None is = is
    by_found (Some name) is = let first = find_first (λ n. not (is_among signals n)) xs ys name is in cc

-- of lists with the same first undriven name
undriven_same : (signals xs ys : List (List ℕ)) (fault : NetlistFault) → undriven_in signals xs ≡ undriven_in signals ys → TellsUndriven signals xs fault → TellsUndriven signals ys fault
undriven_same signals xs ys (Undriven name) same e = sym same ∙ e
undriven_same signals xs ys (Cycle name) same e = e
undriven_same signals xs ys (Twice name) same e = e
undriven_same signals xs ys Memory same e = e

-- one of some names, and those behind it
name_from : (driven names : List (List ℕ)) (i : ℕ) (name : List ℕ) → slice_get names i ≡ Some name → undriven_in driven (drop i names) ≡ undriven_in driven (name ∷ drop (i + 1) names)
name_from driven names i name at = at_drop_more (undriven_in driven) names i [] (slice_get_within names i name at) ∙ ap (λ n. undriven_in driven (n ∷ drop (i + 1) names)) (get_or_from_slice_get names i name [] at)

pub undriven_at : (driven names : List (List ℕ)) (i : ℕ) (name : List ℕ) (fault : NetlistFault) → slice_get names i ≡ Some name → undriven_in driven (drop i names) ≡ undriven_in driven names → TellsUndriven driven (name ∷ []) fault → TellsUndriven driven names fault
undriven_at driven names i name fault at rest e =
    undriven_same driven (name ∷ drop (i + 1) names) names fault (sym (name_from driven names i name at) ∙ rest) (undriven_first driven (name ∷ []) (drop (i + 1) names) fault e)

pub undriven_behind : (driven names : List (List ℕ)) (i : ℕ) (name : List ℕ) → slice_get names i ≡ Some name → undriven_in driven (drop i names) ≡ undriven_in driven names → undriven_in driven (name ∷ []) ≡ None → undriven_in driven (drop (i + 1) names) ≡ undriven_in driven names
undriven_behind driven names i name at rest e = sym (undriven_later driven (name ∷ []) (drop (i + 1) names) e) ∙ (sym (name_from driven names i name at) ∙ rest)

-- one more name is numbered
pub number_more : (driven names : List (List ℕ)) (i : ℕ) (name : List ℕ) (n : ℕ) (old new : List ℕ) → slice_get names i ≡ Some name → n ≡ number_in driven name → old ≡ map (number_in driven) (take i names) → new ≡ old ++ n ∷ [] → new ≡ map (number_in driven) (take (i + 1) names)
number_more driven names i name n old new at is was grown =
    let below = slice_get_within names i name at in
    grown
    ∙ (ap₂ (λ l k. l ++ k ∷ []) was (is ∙ ap (number_in driven) (sym (get_or_from_slice_get names i name [] at)))
    ∙ sym (map_more (number_in driven) names i [] below))

-- what one link hangs on, and what those behind it do
needs_from : {X : Type 0} (link : X → Link) (xs : List X) (i : ℕ) (x : X) → i < length xs → x ≡ get_or xs i x → flat_map needs_of (map link (drop i xs)) ≡ (link x).needs ++ flat_map needs_of (map link (drop (i + 1) xs))
needs_from {X = X} link xs i x below here = at_drop_more (λ (ys : List X). flat_map needs_of (map link ys)) xs i x below ∙ ap (λ (y : X). (link y).needs ++ flat_map needs_of (map link (drop (i + 1) xs))) (sym here)

pub undriven_in_link : {X : Type 0} (driven : List (List ℕ)) (link : X → Link) (xs : List X) (i : ℕ) (x : X) (fault : NetlistFault) → i < length xs → x ≡ get_or xs i x → undriven_in driven (flat_map needs_of (map link (drop i xs))) ≡ undriven_in driven (flat_map needs_of (map link xs)) → TellsUndriven driven (link x).needs fault → TellsUndriven driven (flat_map needs_of (map link xs)) fault
undriven_in_link driven link xs i x fault below here rest e =
    let others = flat_map needs_of (map link (drop (i + 1) xs)) in
    undriven_same driven ((link x).needs ++ others) (flat_map needs_of (map link xs)) fault (ap (undriven_in driven) (sym (needs_from link xs i x below here)) ∙ rest) (undriven_first driven (link x).needs others fault e)

pub undriven_behind_link : {X : Type 0} (driven : List (List ℕ)) (link : X → Link) (xs : List X) (i : ℕ) (x : X) → i < length xs → x ≡ get_or xs i x → undriven_in driven (flat_map needs_of (map link (drop i xs))) ≡ undriven_in driven (flat_map needs_of (map link xs)) → undriven_in driven (link x).needs ≡ None → undriven_in driven (flat_map needs_of (map link (drop (i + 1) xs))) ≡ undriven_in driven (flat_map needs_of (map link xs))
undriven_behind_link driven link xs i x below here rest e =
    sym (undriven_later driven (link x).needs (flat_map needs_of (map link (drop (i + 1) xs))) e) ∙ (ap (undriven_in driven) (sym (needs_from link xs i x below here)) ∙ rest)

once_after : (seen names : List (List ℕ)) → IsDistinct bytes_eq seen → twice_after seen names ≡ None → IsDistinct bytes_eq (seen ++ names)
once_after seen [] distinct e = subst (IsDistinct bytes_eq) (sym (append-nil seen)) distinct
once_after seen (name ∷ names) distinct e = by_test (is_among seen name) refl e (once_after (seen ++ name ∷ []) names)
  where
    by_test : (b : Bool) → is_among seen name ≡ b → cond b (Some name) (twice_after (seen ++ name ∷ []) names) ≡ None → (IsDistinct bytes_eq (seen ++ name ∷ []) → twice_after (seen ++ name ∷ []) names ≡ None → IsDistinct bytes_eq ((seen ++ name ∷ []) ++ names)) → IsDistinct bytes_eq (seen ++ name ∷ names)
    by_test true is now rest = cc
    by_test false is now rest = subst (IsDistinct bytes_eq) (append_assoc seen (name ∷ []) names) (rest (distinct_push seen name distinct is) now)

pub once_distinct : (names : List (List ℕ)) → twice_after [] names ≡ None → IsDistinct bytes_eq names
unfolding IsDistinct
once_distinct names e = once_after [] names tt e

abbrev pub to_of : Wire → List ℕ
to_of wire = wire.to

names_of_gates : (gates : List DraftGate) → map name_of (map gate_link gates) ≡ map out_of gates
names_of_gates [] = refl
names_of_gates (gate ∷ gates) = ap (λ l. gate.out ∷ l) (names_of_gates gates)

names_of_wires : (wires : List Wire) → map name_of (map wire_link wires) ≡ map to_of wires
names_of_wires [] = refl
names_of_wires (wire ∷ wires) = ap (λ l. wire.to ∷ l) (names_of_wires wires)

-- what is driven, by inputs, gates and wires
pub drivers_are : (draft : GateDraft) → drivers draft ≡ (draft.inputs ++ map out_of draft.gates) ++ map to_of draft.wires
drivers_are draft =
    ap (λ l. draft.inputs ++ l) (map-append name_of (map gate_link draft.gates) (map wire_link draft.wires) ∙ ap₂ (λ a b. a ++ b) (names_of_gates draft.gates) (names_of_wires draft.wires))
    ∙ sym (append_assoc draft.inputs (map out_of draft.gates) (map to_of draft.wires))

-- what gates and then wires hang on
pub rows_joined : (driven : List (List ℕ)) (first second : List Link) (old new : List (List ℕ)) → old ≡ numbered driven first → new ≡ old ++ numbered driven second → new ≡ numbered driven (first ++ second)
rows_joined driven first second old new was is = is ∙ (ap (λ l. l ++ numbered driven second) was ∙ sym (map-append (λ (link : Link). map (number_in driven) link.needs) first second))

needs_joined : (first second : List Link) → flat_map needs_of (first ++ second) ≡ flat_map needs_of first ++ flat_map needs_of second
needs_joined [] second = refl
needs_joined (link ∷ first) second = ap (λ l. link.needs ++ l) (needs_joined first second) ∙ sym (append_assoc link.needs (flat_map needs_of first) (flat_map needs_of second))

pub known_joined : (driven : List (List ℕ)) (first second : List Link) → undriven_in driven (flat_map needs_of first) ≡ None → undriven_in driven (flat_map needs_of second) ≡ None → undriven_in driven (flat_map needs_of (first ++ second)) ≡ None
known_joined driven first second a b = ap (undriven_in driven) (needs_joined first second) ∙ (undriven_later driven (flat_map needs_of first) (flat_map needs_of second) a ∙ b)

pub fault_in_first : (driven : List (List ℕ)) (first second : List Link) (fault : NetlistFault) → TellsUndriven driven (flat_map needs_of first) fault → TellsUndriven driven (flat_map needs_of (first ++ second)) fault
fault_in_first driven first second fault e = subst (λ l. TellsUndriven driven l fault) (sym (needs_joined first second)) (undriven_first driven (flat_map needs_of first) (flat_map needs_of second) fault e)

pub fault_in_second : (driven : List (List ℕ)) (first second : List Link) (fault : NetlistFault) → undriven_in driven (flat_map needs_of first) ≡ None → TellsUndriven driven (flat_map needs_of second) fault → TellsUndriven driven (flat_map needs_of (first ++ second)) fault
fault_in_second driven first second fault a e =
    undriven_same driven (flat_map needs_of second) (flat_map needs_of (first ++ second)) fault
    (sym (undriven_later driven (flat_map needs_of first) (flat_map needs_of second) a) ∙ ap (undriven_in driven) (sym (needs_joined first second))) e
