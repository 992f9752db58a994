-- The sides of the roots of patterns.
use Rattle.std.proofs.Common.{Vec, Global, ℕ, ◌⊎◌, ◌-◌, ◌<◌, ◌≡◌, List, [], ◌∷◌, ◌++◌, map, length, Some, option_map, slice_get, get_or, refl, sym, ap, subst, ◌∙◌, inl, inr, arith}
use Rattle.std.proofs.lemmas.Option.{slice_get-map, slice_get_read, slice_get-get_or, get_or_from_slice_get}
use Rattle.std.proofs.lemmas.List.{get_or_past}
use Rattle.lw_facts.proofs.Lists.{get_last_cases}
use native.Mathlib.Decide.{dec_lt}
use Rattle.lw_laws.specs.Trees.{Tree, leaf, const_one, const_zero, inv, nand}
use Rattle.lw_laws.specs.Covers.{Pattern}
use Rattle.lw_pattern.specs.Nodes.{tree_at, tree_of, nodes_of}
use Rattle.lw_pattern.specs.Codes.{tree_of-nodes}
use Rattle.lw_bounds.specs.declared.parts.Kind.TheVariants.{Any}
use Rattle.lw_bounds.specs.declared.parts.Side.{Side}
use Rattle.lw_bounds.specs.declared.parts.Part.{Part}
use Rattle.lw_bounds.specs.Shapes.{plain, turned, HasShape, HaveShapes, AllHaveShapes, HaveRootShapes, gaps_of}
use Rattle.lw_bounds.proofs.MoreParts.{items_of}

any_shape : (parts : List Part) (gaps : List ℕ) (t : Tree) (s : Side) → s.kind ≡ Any → HasShape parts gaps 0 t s
any_shape parts gaps (leaf k) s e = inl e
any_shape parts gaps const_one s e = inl e
any_shape parts gaps const_zero s e = inl e
any_shape parts gaps (inv t) s e = any_shape parts gaps t (turned s) e
any_shape parts gaps (nand t u) s e = inl e

last_tree : (t : Tree) → tree_at (nodes_of t) (length (nodes_of t) - 1) ≡ t
unfolding tree_of
last_tree t = tree_of-nodes t

-- the side of the last place, or any tree
root_shape : (parts : List Part) (gaps : List ℕ) (t : Tree) (sides : List Side) → HaveShapes parts gaps (nodes_of t) sides → HasShape parts gaps 0 t (get_or sides (length (nodes_of t) - 1) (plain Any))
root_shape parts gaps t sides have = by_place (dec_lt (length (nodes_of t) - 1) (length sides))
  where
    by_place : Dec (length (nodes_of t) - 1 < length sides) → HasShape parts gaps 0 t (get_or sides (length (nodes_of t) - 1) (plain Any))
    by_place (yes lt) =
        let place = length (nodes_of t) - 1 in
        subst (λ u. HasShape parts gaps 0 u (get_or sides place (plain Any))) (last_tree t) (have place (get_or sides place (plain Any)) (slice_get-get_or sides place (plain Any) lt))
    by_place (no ge) =
        any_shape parts gaps t (get_or sides (length (nodes_of t) - 1) (plain Any)) (ap (λ (s : Side). s.kind) (get_or_past sides (length (nodes_of t) - 1) (plain Any) (omega arith)))

pub roots_more : (parts : List Part) (gaps : List (List ℕ)) (pats : List Pattern) (all : List (Vec Side Global)) (roots : List Side) (n : ℕ) (p : Pattern) (sides : Vec Side Global) (root : Side) → length roots ≡ n → slice_get pats n ≡ Some p → n < length all → sides ≡ get_or all n sides → root ≡ get_or sides.items (length (nodes_of p.tree) - 1) (plain Any) → AllHaveShapes parts gaps pats (map items_of all) → HaveRootShapes parts gaps pats roots → HaveRootShapes parts gaps pats (roots ++ root ∷ [])
roots_more parts gaps pats all roots n p sides root count listed lt at is have before i q s e f = by_place (get_last_cases roots root i s f)
  where
    here : get_or (map items_of all) n [] ≡ sides.items
    here =
        let found : slice_get all n ≡ Some sides = slice_get_read all (length all) n sides refl lt at in
        get_or_from_slice_get (map items_of all) n sides.items [] (slice_get-map items_of all n ∙ ap (option_map items_of) found)

    new : HasShape parts (gaps_of gaps n) 0 p.tree root
    new = subst (λ (s : Side). HasShape parts (gaps_of gaps n) 0 p.tree s) (sym is) (root_shape parts (gaps_of gaps n) p.tree sides.items (subst (λ ss. HaveShapes parts (gaps_of gaps n) (nodes_of p.tree) ss) here (have n p listed)))

    by_place : (slice_get roots i ≡ Some s) ⊎ ((i ≡ length roots) × (s ≡ root)) → HasShape parts (gaps_of gaps i) 0 q.tree s
    by_place (inl g) = before i q s e g
    by_place (inr (g, h)) =
        let there : slice_get pats n ≡ Some q = subst (λ j. slice_get pats j ≡ Some q) (g ∙ count) e in
        let same : p ≡ q = cc in
        subst (λ j. HasShape parts (gaps_of gaps j) 0 q.tree s) (sym (g ∙ count)) (subst (λ (s : Side). HasShape parts (gaps_of gaps n) 0 q.tree s) (sym h) (subst (λ (p : Pattern). HasShape parts (gaps_of gaps n) 0 p.tree root) same new))
