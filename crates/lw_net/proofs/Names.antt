-- Names that differ, and their numbers.
use Rattle.std.proofs.Common.{◌≡◌, ℕ, ◌+◌, ◌<◌, Bool, true, false, not, cond, List, [], ◌∷◌, ◌++◌, length, map, take, drop, get_or, None, sym, ap, ap₂, ◌∙◌, append_assoc, length-append, arith}
use Rattle.std.proofs.Math.Seq.{take-append-add}
use Rattle.std.proofs.lemmas.List.{take_more, at_drop_more, get_or_read, get_or-append-add, map_more}
use Rattle.std.proofs.lemmas.Bool.{false≢true}
use Rattle.std.specs.List.{list_any, flat_map, IsDistinct}
use Rattle.std.specs.Str.{bytes_eq}
use Rattle.lw_facts.proofs.Lists.{none_before}
use Rattle.indexmap.specs.IndexSet.{insert_key}
use Rattle.lw_dag.proofs.Names.{find_first, find_later}
use Rattle.lw_net.specs.declared.draft.DraftNode.{DraftNode}
use Rattle.lw_net.specs.declared.fault.NetFault.{NetFault}
use Rattle.lw_net.specs.declared.fault.NetFault.TheVariants.{Undefined, Cycle, Memory}
use Rattle.lw_net.specs.Closing.{is_among, undefined_in, fanins_of, number_in}
use Rattle.lw_net.specs.Numbered.{TellsUndefined, numbered}

-- one more node is numbered
pub numbered_more : (signals : List (List ℕ)) (nodes : List DraftNode) (old new : List (List ℕ)) (i : ℕ) (node : DraftNode) (ns : List ℕ) → i < length nodes → node ≡ get_or nodes i node → old ≡ numbered signals (take i nodes) → ns ≡ map (number_in signals) node.fanins → new ≡ old ++ ns ∷ [] → new ≡ numbered signals (take (i + 1) nodes)
numbered_more signals nodes old new i node ns below here was is grown =
    let one : DraftNode → List ℕ = λ n. map (number_in signals) n.fanins in
    grown ∙ (ap₂ (λ l n. l ++ n ∷ []) was (is ∙ ap one here) ∙ sym (map_more one nodes i node below))

-- an undefined name of the first names is the first of all
pub undefined_first : (signals xs ys : List (List ℕ)) (fault : NetFault) → TellsUndefined signals xs fault → TellsUndefined signals (xs ++ ys) fault
undefined_first signals xs ys (Undefined name) e = find_first (λ n. not (is_among signals n)) xs ys name e
undefined_first signals xs ys (Cycle name) e = e
undefined_first signals xs ys Memory e = e

pub undefined_later : (signals xs ys : List (List ℕ)) → undefined_in signals xs ≡ None → undefined_in signals (xs ++ ys) ≡ undefined_in signals ys
undefined_later signals xs ys e = find_later (λ n. not (is_among signals n)) xs ys e

-- of lists with the same first undefined name
pub undefined_same : (signals xs ys : List (List ℕ)) (fault : NetFault) → undefined_in signals xs ≡ undefined_in signals ys → TellsUndefined signals xs fault → TellsUndefined signals ys fault
undefined_same signals xs ys (Undefined name) same e = sym same ∙ e
undefined_same signals xs ys (Cycle name) same e = e
undefined_same signals xs ys Memory same e = e

-- the fan-ins of one node, and those of the nodes behind it
fanins_from : (nodes : List DraftNode) (i : ℕ) (node : DraftNode) → i < length nodes → node ≡ get_or nodes i node → flat_map fanins_of (drop i nodes) ≡ node.fanins ++ flat_map fanins_of (drop (i + 1) nodes)
fanins_from nodes i node below here = at_drop_more (flat_map fanins_of) nodes i node below ∙ ap (λ (n : DraftNode). n.fanins ++ flat_map fanins_of (drop (i + 1) nodes)) (sym here)

pub undefined_in_node : (signals : List (List ℕ)) (nodes : List DraftNode) (i : ℕ) (node : DraftNode) (fault : NetFault) → i < length nodes → node ≡ get_or nodes i node → undefined_in signals (flat_map fanins_of (drop i nodes)) ≡ undefined_in signals (flat_map fanins_of nodes) → TellsUndefined signals node.fanins fault → TellsUndefined signals (flat_map fanins_of nodes) fault
undefined_in_node signals nodes i node fault below here rest e =
    let others = flat_map fanins_of (drop (i + 1) nodes) in
    undefined_same signals (node.fanins ++ others) (flat_map fanins_of nodes) fault (ap (undefined_in signals) (sym (fanins_from nodes i node below here)) ∙ rest) (undefined_first signals node.fanins others fault e)

pub undefined_behind_node : (signals : List (List ℕ)) (nodes : List DraftNode) (i : ℕ) (node : DraftNode) → i < length nodes → node ≡ get_or nodes i node → undefined_in signals (flat_map fanins_of (drop i nodes)) ≡ undefined_in signals (flat_map fanins_of nodes) → undefined_in signals node.fanins ≡ None → undefined_in signals (flat_map fanins_of (drop (i + 1) nodes)) ≡ undefined_in signals (flat_map fanins_of nodes)
undefined_behind_node signals nodes i node below here rest e =
    sym (undefined_later signals node.fanins (flat_map fanins_of (drop (i + 1) nodes)) e) ∙ (ap (undefined_in signals) (sym (fanins_from nodes i node below here)) ∙ rest)

-- among distinct names none stands before its place
none_behind : (start names : List (List ℕ)) (i : ℕ) (d : List ℕ) → IsDistinct bytes_eq (start ++ names) → i < length names → is_among (start ++ take i names) (get_or names i d) ≡ false
none_behind start names i d distinct below =
    let place = length start + i in
    let here : get_or (start ++ names) place d ≡ get_or names i d = get_or-append-add start names i d in
    let front : take place (start ++ names) ≡ start ++ take i names = take-append-add start names i in
    let inside : place < length (start ++ names) = omega (arith, length-append start names) in
    ap₂ (λ ns n. is_among ns n) (sym front) (sym here) ∙ none_before (start ++ names) place d distinct inside

-- a name that is not among those before it, and one that is
pub fresh_more : (start names old new : List (List ℕ)) (i : ℕ) (name item : List ℕ) (fresh : Bool) → i < length names → item ≡ get_or names i item → name ≡ item → old ≡ start ++ take i names → fresh ≡ not (list_any (bytes_eq name) old) → new ≡ insert_key bytes_eq old name → fresh ≡ true → new ≡ start ++ take (i + 1) names
fresh_more start names old new i name item fresh below read copied was told is now =
    let here : name ≡ get_or names i name = copied ∙ get_or_read names i item below read name in
    by_test (list_any (bytes_eq name) old) (sym told ∙ now) is here
  where
    by_test : (b : Bool) → not b ≡ true → new ≡ cond b old (old ++ name ∷ []) → name ≡ get_or names i name → new ≡ start ++ take (i + 1) names
    by_test false e grown here =
        grown
        ∙ (ap (λ l. l ++ name ∷ []) was
        ∙ (append_assoc start (take i names) (name ∷ [])
        ∙ (ap (λ n. start ++ (take i names ++ n ∷ [])) here ∙ ap (λ l. start ++ l) (sym (take_more names i name below)))))
    by_test true e grown here = cc

pub twice : (start names old : List (List ℕ)) (i : ℕ) (name item : List ℕ) (fresh : Bool) → i < length names → item ≡ get_or names i item → name ≡ item → old ≡ start ++ take i names → fresh ≡ not (list_any (bytes_eq name) old) → fresh ≡ false → IsDistinct bytes_eq (start ++ names) → ⊥
twice start names old i name item fresh below read copied was told now distinct =
    let here : name ≡ get_or names i name = copied ∙ get_or_read names i item below read name in
    let none : list_any (bytes_eq name) old ≡ false = ap (λ l. list_any (bytes_eq name) l) was ∙ (ap (λ n. list_any (bytes_eq n) (start ++ take i names)) here ∙ none_behind start names i name distinct below) in
    false≢true (sym now ∙ (told ∙ ap not none))
