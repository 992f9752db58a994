-- Trees are told apart by their nodes.
use Rattle.std.specs.Prelude.{ℕ, zero, suc, ◌+◌, ◌-◌, ◌≡◌, List, [], ◌∷◌, ◌++◌, length, map, refl}
use Rattle.std.specs.Coded.{Coded, code_by, coded×, coded_ℕ, coded_list}
use Rattle.std.proofs.Common.{ap, ap₂, sym, ◌∙◌, append_assoc, append-nil, length-append, arith}
use Rattle.std.proofs.lemmas.List.{get_or_at}
use Rattle.std.proofs.lemmas.List.Sums.{fold-append}
use Rattle.lw_laws.specs.Trees.{Tree, leaf, const_one, const_zero, inv, nand}
use Rattle.lw_laws.specs.Covers.{Pattern}
use Rattle.lw_pattern.specs.declared.node.PatNode.{PatNode}
use Rattle.lw_pattern.specs.declared.node.PatNode.TheVariants.{Pin, One, Zero, Inv, Nand}
use Rattle.lw_pattern.specs.Nodes.{tree_in, tree_by, with_trees, trees_of, tree_of, node_count, nodes_from, nodes_of}

-- the trees of the nodes of a tree: those of its operands, and then the tree itself
abbrev pub subtrees : Tree → List Tree
subtrees (leaf k) = leaf k ∷ []
subtrees const_one = const_one ∷ []
subtrees const_zero = const_zero ∷ []
subtrees (inv t) = subtrees t ++ inv t ∷ []
subtrees (nand t u) = subtrees t ++ (subtrees u ++ nand t u ∷ [])

abbrev pub below : Tree → List Tree
below (leaf k) = []
below const_one = []
below const_zero = []
below (inv t) = subtrees t
below (nand t u) = subtrees t ++ subtrees u

pub subtrees_split : (t : Tree) → subtrees t ≡ below t ++ t ∷ []
subtrees_split (leaf k) = refl
subtrees_split const_one = refl
subtrees_split const_zero = refl
subtrees_split (inv t) = refl
subtrees_split (nand t u) = sym (append_assoc (subtrees t) (subtrees u) (nand t u ∷ []))

pub length_subtrees : (t : Tree) → length (subtrees t) ≡ node_count t
length_subtrees (leaf k) = refl
length_subtrees const_one = refl
length_subtrees const_zero = refl
length_subtrees (inv t) =
    let h : length (subtrees t ++ inv t ∷ []) ≡ length (subtrees t) + 1 = length-append (subtrees t) (inv t ∷ []) in
    let i : length (subtrees t) ≡ node_count t = length_subtrees t in omega arith
length_subtrees (nand t u) =
    let h : length (subtrees t ++ (subtrees u ++ nand t u ∷ [])) ≡ length (subtrees t) + length
    (subtrees u ++ nand t u ∷ []) = length-append (subtrees t) (subtrees u ++ nand t u ∷ []) in
    let k : length (subtrees u ++ nand t u ∷ []) ≡ length (subtrees u) + 1 =
    length-append (subtrees u) (nand t u ∷ []) in
    let i : length (subtrees t) ≡ node_count t = length_subtrees t in
    let j : length (subtrees u) ≡ node_count u = length_subtrees u in
    omega arith

pub length_nodes : (first : ℕ) (t : Tree) → length (nodes_from first t) ≡ node_count t
length_nodes first (leaf k) = refl
length_nodes first const_one = refl
length_nodes first const_zero = refl
length_nodes first (inv t) =
    let own = Inv (first + node_count t - 1) ∷ [] in
    let h : length (nodes_from first t ++ own) ≡ length (nodes_from first t) + 1 =
    length-append (nodes_from first t) own in
    let i : length (nodes_from first t) ≡ node_count t = length_nodes first t in omega arith
length_nodes first (nand t u) =
    let own = Nand (first + node_count t - 1) (first + node_count t + node_count u - 1) ∷ [] in
    let right = nodes_from (first + node_count t) u in
    let h : length (nodes_from first t ++ (right ++ own)) ≡ length (nodes_from first t) + length (right ++ own) =
    length-append (nodes_from first t) (right ++ own) in
    let k : length (right ++ own) ≡ length right + 1 = length-append right own in
    let i : length (nodes_from first t) ≡ node_count t = length_nodes first t in
    let j : length right ≡ node_count u = length_nodes (first + node_count t) u in
    omega arith

pub length_below : (t : Tree) → length (below t) + 1 ≡ node_count t
length_below t =
    let h : length (below t ++ t ∷ []) ≡ length (below t) + 1 = length-append (below t) (t ∷ []) in
    let i : length (subtrees t) ≡ node_count t = length_subtrees t in
    let j : length (subtrees t) ≡ length (below t ++ t ∷ []) = ap length (subtrees_split t) in
    omega arith

-- a tree stands at the last of its nodes
pub root_at : (before after : List Tree) (t : Tree) (first : ℕ) → length before ≡ first
    → tree_in (before ++ (subtrees t ++ after)) (first + node_count t - 1) ≡ t
root_at before after t first e =
    let size : length (before ++ below t) ≡ length before + length (below t) = length-append before (below t) in
    let one : length (below t) + 1 ≡ node_count t = length_below t in
    let place : length (before ++ below t) ≡ first + node_count t - 1 = omega arith in
    let split : before ++ (subtrees t ++ after) ≡ (before ++ below t) ++ t ∷ after =
    ap (λ ts. before ++ (ts ++ after)) (subtrees_split t)
    ∙ (ap (λ ts. before ++ ts) (append_assoc (below t) (t ∷ []) after)
    ∙ sym (append_assoc before (below t) (t ∷ after))) in
    ap (λ ts. tree_in ts (first + node_count t - 1)) split
    ∙ get_or_at (before ++ below t) t after const_one (first + node_count t - 1) place

abbrev step : List Tree → PatNode → List Tree
step before node = before ++ tree_by before node ∷ []

-- the nodes of a tree add its trees
pub with_nodes : (t : Tree) (first : ℕ) (before : List Tree) → length before ≡ first
    → with_trees before (nodes_from first t) ≡ before ++ subtrees t
with_nodes (leaf k) first before e = refl
with_nodes const_one first before e = refl
with_nodes const_zero first before e = refl
with_nodes (inv t) first before e =
    let own = Inv (first + node_count t - 1) in
    let root : tree_in (before ++ subtrees t) (first + node_count t - 1) ≡ t =
    ap (λ ts. tree_in (before ++ ts) (first + node_count t - 1)) (sym (append-nil (subtrees t)))
    ∙ root_at before [] t first e in
    fold-append step before (nodes_from first t) (own ∷ [])
    ∙ (ap (λ ts. step ts own) (with_nodes t first before e)
    ∙ (ap (λ r. (before ++ subtrees t) ++ inv r ∷ []) root ∙ append_assoc before (subtrees t) (inv t ∷ [])))
with_nodes (nand t u) first before e =
    let left = first + node_count t - 1 in
    let right = first + node_count t + node_count u - 1 in
    let own = Nand left right in
    let us = nodes_from (first + node_count t) u in
    let size : length (before ++ subtrees t) ≡ length before + length (subtrees t) =
    length-append before (subtrees t) in
    let count : length (subtrees t) ≡ node_count t = length_subtrees t in
    let second : length (before ++ subtrees t) ≡ first + node_count t = omega arith in
    let both = (before ++ subtrees t) ++ subtrees u in
    let left_root : tree_in both left ≡ t = ap (λ ts. tree_in ts left) (append_assoc before (subtrees t) (subtrees u))
    ∙ root_at before (subtrees u) t first e in
    let right_root : tree_in both right ≡ u =
    ap (λ ts. tree_in ((before ++ subtrees t) ++ ts) right) (sym (append-nil (subtrees u)))
    ∙ root_at (before ++ subtrees t) [] u (first + node_count t) second in
    fold-append step before (nodes_from first t) (us ++ own ∷ [])
    ∙ (ap (λ ts. with_trees ts (us ++ own ∷ [])) (with_nodes t first before e)
    ∙ (fold-append step (before ++ subtrees t) us (own ∷ [])
    ∙ (ap (λ ts. step ts own) (with_nodes u (first + node_count t) (before ++ subtrees t) second)
    ∙ (ap₂ (λ a b. both ++ nand a b ∷ []) left_root right_root
    ∙ (append_assoc (before ++ subtrees t) (subtrees u) (nand t u ∷ [])
    ∙ append_assoc before (subtrees t) (subtrees u ++ nand t u ∷ []))))))

pub trees_of-nodes : (t : Tree) → trees_of (nodes_of t) ≡ subtrees t
unfolding trees_of
trees_of-nodes t = with_nodes t 0 [] refl

-- the nodes of a tree spell it
pub tree_of-nodes : (t : Tree) → tree_of (nodes_of t) ≡ t
unfolding tree_of
tree_of-nodes t =
    let place : length (nodes_of t) - 1 ≡ 0 + node_count t - 1 =
    (let n : length (nodes_of t) ≡ node_count t = length_nodes 0 t in omega arith) in
    ap₂ tree_in (trees_of-nodes t ∙ sym (append-nil (subtrees t))) place ∙ root_at [] [] t 0 refl

-- a node as three numbers
abbrev pub numbers_of : PatNode → ℕ × (ℕ × ℕ)
numbers_of (Pin k) = (0, (k, 0))
numbers_of One = (1, (0, 0))
numbers_of Zero = (2, (0, 0))
numbers_of (Inv p) = (3, (p, 0))
numbers_of (Nand p q) = (4, (p, q))

abbrev pub node_of : ℕ × (ℕ × ℕ) → PatNode
node_of (zero, (p, q)) = Pin p
node_of (suc zero, (p, q)) = One
node_of (suc (suc zero), (p, q)) = Zero
node_of (suc (suc (suc zero)), (p, q)) = Inv p
node_of (suc (suc (suc (suc n))), (p, q)) = Nand p q

node_back : (node : PatNode) → node_of (numbers_of node) ≡ node
node_back (Pin k) = refl
node_back One = refl
node_back Zero = refl
node_back (Inv p) = refl
node_back (Nand p q) = refl

nodes_back : (nodes : List PatNode) → map node_of (map numbers_of nodes) ≡ nodes
nodes_back [] = refl
nodes_back (node ∷ nodes) = ap₂ (λ n ns. n ∷ ns) (node_back node) (nodes_back nodes)

pub tree_back : (t : Tree) → tree_of (map node_of (map numbers_of (nodes_of t))) ≡ t
tree_back t = ap tree_of (nodes_back (nodes_of t)) ∙ tree_of-nodes t

abbrev pub tree_code : Coded Tree
tree_code = code_by (List (ℕ × (ℕ × ℕ))) (coded_list (coded× coded_ℕ (coded× coded_ℕ coded_ℕ)))
    (λ t. map numbers_of (nodes_of t)) (λ ns. tree_of (map node_of ns)) tree_back

-- a pattern by its cell and its tree
abbrev pub pattern_code : Coded Pattern
pattern_code = code_by (ℕ × Tree) (coded× coded_ℕ tree_code) (λ p. (p.cell, p.tree))
    (λ p. record { cell = p.0; tree = p.1 }) (λ _. refl)
