-- What is kept of the nodes of a pattern, and of the patterns of a library.
use Rattle.std.proofs.Common.{ℕ, zero, suc, ◌+◌, ◌-◌, ◌*◌, ◌<◌, ◌≤◌, ◌≡◌, ◌↔◌, List, [], ◌∷◌, ◌++◌, length, map, drop, Some, slice_get, Contains, refl, sym, ap, ap₂, ◌∙◌, subst, append_assoc, append-nil, length-append, inl, inr, arith}
use Rattle.std.specs.Prelude.{All, sum_by, fold}
use Rattle.std.proofs.lemmas.List.{length-map, map-append, drop_more, drop_all}
use Rattle.std.proofs.lemmas.Option.{get_or_from_slice_get, slice_get_within}
use Rattle.std.specs.List.{AllByRecursion}
use Rattle.lw_laws.specs.Trees.{Tree, leaf, const_one, const_zero, inv, nand, HasLeaf}
use Rattle.lw_laws.specs.Covers.{Pattern as TreeOfCell}
use Rattle.lw_laws.specs.Expressions.{Expr}
use Rattle.lw_laws.specs.Patterns.{trees_of_expr, pattern_of_cell, patterns_of_cell, patterns_from}
use Rattle.lw_laws.proofs.Lists.{all_append, all_map, contains_all}
use Rattle.lw_laws.proofs.PatternLaws.{trees_leaves}
use Rattle.lw_genlib.specs.Cells.{CellParts, IsForm, IsListed, IsLibrary, form_count}
use Rattle.lw_pattern.specs.declared.node.PatNode.{PatNode}
use Rattle.lw_pattern.specs.declared.node.PatNode.TheVariants.{Pin, One, Zero, Inv, Nand}
use Rattle.lw_pattern.specs.declared.pattern.Pattern.{Pattern}
use Rattle.lw_pattern.specs.Nodes.{tree_in, trees_of, node_count, nodes_from, nodes_of}
use Rattle.lw_pattern.specs.Codes.{subtrees, length_nodes, root_at, trees_of-nodes, tree_of-nodes}
use Rattle.lw_pattern.specs.Listed.{IsNodeAt, IsKept, AreKept, pattern_of, listed}
use Rattle.lw_pattern.specs.Libraries.{forms_of, pin_count, library_patterns}
use Rattle.lw_pattern.proofs.Sizes.{few_nodes, few_trees}

-- the node at a place, by the trees of the nodes
abbrev IsIn : List Tree → ℕ → PatNode → Type 0
IsIn trees place (Pin k) = (k < 16) × (tree_in trees place ≡ leaf k)
IsIn trees place One = tree_in trees place ≡ const_one
IsIn trees place Zero = tree_in trees place ≡ const_zero
IsIn trees place (Inv p) = (p < place) × (tree_in trees place ≡ inv (tree_in trees p))
IsIn trees place (Nand p q) = (p < place) × (q < place) × (tree_in trees place ≡ nand (tree_in trees p) (tree_in trees q))

abbrev AllIn : List Tree → ℕ → List PatNode → Type 0
AllIn trees first [] = Unit {0}
AllIn trees first (node ∷ nodes) = IsIn trees first node × AllIn trees (first + 1) nodes

all_in_append : (trees : List Tree) (first : ℕ) (xs ys : List PatNode) → AllIn trees first xs → AllIn trees (first + length xs) ys → AllIn trees first (xs ++ ys)
all_in_append trees first [] ys a b = subst (λ n. AllIn trees n ys) (omega arith) b
all_in_append trees first (x ∷ xs) ys (p, a) b =
    let next : first + length (x ∷ xs) ≡ first + 1 + length xs = omega arith in
    (p, all_in_append trees (first + 1) xs ys a (subst (λ n. AllIn trees n ys) next b))

in_at : (trees : List Tree) (first : ℕ) (nodes : List PatNode) (i : ℕ) (node : PatNode) → AllIn trees first nodes → slice_get nodes i ≡ Some node → IsIn trees (first + i) node
in_at trees first [] i node a e = cc
in_at trees first (n ∷ nodes) zero node (p, a) e =
    let same : n ≡ node = cc in
    let here : first ≡ first + 0 = omega arith in
    subst (λ k. IsIn trees k node) here (subst (IsIn trees first) same p)
in_at trees first (n ∷ nodes) (suc i) node (p, a) e =
    let there : first + 1 + i ≡ first + suc i = omega arith in
    subst (λ k. IsIn trees k node) there (in_at trees (first + 1) nodes i node a e)

-- a tree has a node
pub node_count_positive : (t : Tree) → 1 ≤ node_count t
node_count_positive (leaf k) = omega arith
node_count_positive const_one = omega arith
node_count_positive const_zero = omega arith
node_count_positive (inv t) = omega arith
node_count_positive (nand t u) = omega arith

module _ (trees : List Tree) where
  -- the last of the nodes has this tree
  root_in : (before after : List Tree) (t : Tree) (first place : ℕ) → trees ≡ before ++ (subtrees t ++ after) → length before ≡ first → place ≡ first + node_count t - 1 → tree_in trees place ≡ t
  root_in before after t first place whole size at = ap₂ tree_in whole at ∙ root_at before after t first size

  nodes_in : (t : Tree) (first : ℕ) (before after : List Tree) → trees ≡ before ++ (subtrees t ++ after) → length before ≡ first → ((k : ℕ) → HasLeaf t k → k < 16) → AllIn trees first (nodes_from first t)
  nodes_in (leaf k) first before after whole size small = ((small k refl, root_in before after (leaf k) first first whole size (omega arith)), tt)
  nodes_in const_one first before after whole size small = (root_in before after const_one first first whole size (omega arith), tt)
  nodes_in const_zero first before after whole size small = (root_in before after const_zero first first whole size (omega arith), tt)
  nodes_in (inv t) first before after whole size small =
      let p = first + node_count t - 1 in
      let some : 1 ≤ node_count t = node_count_positive t in
      let inner : trees ≡ before ++ (subtrees t ++ inv t ∷ after) = whole ∙ ap (λ ts. before ++ ts) (append_assoc (subtrees t) (inv t ∷ []) after) in
      let long : length (nodes_from first t) ≡ node_count t = length_nodes first t in
      let own : tree_in trees (first + length (nodes_from first t)) ≡ inv t = root_in before after (inv t) first (first + length (nodes_from first t)) whole size (omega arith) in
      let operand : tree_in trees p ≡ t = root_in before (inv t ∷ after) t first p inner size refl in
      all_in_append trees first (nodes_from first t) (Inv p ∷ []) (nodes_in t first before (inv t ∷ after) inner size small) ((omega arith, own ∙ ap inv (sym operand)), tt)
  nodes_in (nand t u) first before after whole size small =
      let p = first + node_count t - 1 in
      let q = first + node_count t + node_count u - 1 in
      let second = first + node_count t in
      let us = nodes_from second u in
      let some : 1 ≤ node_count t = node_count_positive t in
      let more : 1 ≤ node_count u = node_count_positive u in
      let rest : trees ≡ before ++ (subtrees t ++ (subtrees u ++ nand t u ∷ after)) =
      whole ∙ (ap (λ ts. before ++ ts) (append_assoc (subtrees t) (subtrees u ++ nand t u ∷ []) after ∙ ap (λ ts. subtrees t ++ ts) (append_assoc (subtrees u) (nand t u ∷ []) after))) in
      let split : trees ≡ (before ++ subtrees t) ++ (subtrees u ++ nand t u ∷ after) = rest ∙ sym (append_assoc before (subtrees t) (subtrees u ++ nand t u ∷ after)) in
      let left_long : length (nodes_from first t) ≡ node_count t = length_nodes first t in
      let right_long : length us ≡ node_count u = length_nodes second u in
      let left_size : length (subtrees t) ≡ node_count t = Rattle.lw_pattern.specs.Codes.length_subtrees t in
      let ahead : length (before ++ subtrees t) ≡ length before + length (subtrees t) = length-append before (subtrees t) in
      let place = second + length us in
      let own : tree_in trees place ≡ nand t u = root_in before after (nand t u) first place whole size (omega arith) in
      let left : tree_in trees p ≡ t = root_in before (subtrees u ++ nand t u ∷ after) t first p rest size refl in
      let right : tree_in trees q ≡ u = root_in (before ++ subtrees t) (nand t u ∷ after) u second q split (omega arith) refl in
      let at : first + length (nodes_from first t) ≡ second = omega arith in
      all_in_append trees first (nodes_from first t) (us ++ Nand p q ∷ []) (nodes_in t first before (subtrees u ++ nand t u ∷ after) rest size (λ k h. small k (inl h)))
      (subst (λ n. AllIn trees n (us ++ Nand p q ∷ [])) (sym at)
      (all_in_append trees second us (Nand p q ∷ []) (nodes_in u second (before ++ subtrees t) (nand t u ∷ after) split (omega arith) (λ k h. small k (inr h)))
      ((omega arith, omega arith, own ∙ ap₂ nand (sym left) (sym right)), tt)))

is_node_at : (nodes : List PatNode) (place : ℕ) (node : PatNode) → IsIn (trees_of nodes) place node → IsNodeAt nodes place node
is_node_at nodes place (Pin k) p = p
is_node_at nodes place One p = p
is_node_at nodes place Zero p = p
is_node_at nodes place (Inv p) q = q
is_node_at nodes place (Nand p q) r = r

-- a tree whose leaves are the pins from 0 on
kept_nodes : (t : Tree) (pins : ℕ) → pins ≤ 16 → ((k : ℕ) → HasLeaf t k ↔ (k < pins)) → node_count t ≤ 254 → IsKept (nodes_of t)
kept_nodes t pins few leaves size =
    let long : length (nodes_of t) ≡ node_count t = length_nodes 0 t in
    let one : 1 ≤ node_count t = node_count_positive t in
    record {
      some = omega arith;
      few = omega arith;
      whole = ap nodes_of (tree_of-nodes t);
      each = λ place node e. is_node_at (nodes_of t) place node
          (subst (λ n. IsIn (trees_of (nodes_of t)) n node) (omega arith) (in_at (trees_of (nodes_of t)) 0 (nodes_of t) place node
          (nodes_in (trees_of (nodes_of t)) t 0 [] [] (trees_of-nodes t ∙ sym (append-nil (subtrees t))) refl (λ k h. let b : k < pins = (leaves k).0 h in omega arith)) e));
      pin_count = pins;
      few_pins = few;
      pins = λ k. subst (λ u. HasLeaf u k ↔ (k < pins)) (sym (tree_of-nodes t)) (leaves k);
    }

-- what is kept of a pattern with a tree
abbrev KeepsTree : TreeOfCell → Type 0
KeepsTree p = IsKept (nodes_of p.tree)

tree_kept : (pins : ℕ) (e : Expr) → pins ≤ 16 → IsForm pins e → (t : Tree) → Contains (trees_of_expr e) t → IsKept (nodes_of t)
tree_kept pins e few form t c =
    kept_nodes t pins few (λ k. let p = trees_leaves k e t c in let q = form.over k in (λ l. q.0 (p.0 l), λ m. p.1 (q.1 m))) (few_nodes e form.wide form.few t c)

form_kept : (pins cell : ℕ) (e : Expr) → pins ≤ 16 → IsForm pins e → AllByRecursion KeepsTree (map (pattern_of_cell cell) (trees_of_expr e))
form_kept pins cell e few form =
    all_map (λ t. IsKept (nodes_of t)) KeepsTree (pattern_of_cell cell) (trees_of_expr e) (λ t k. k) (contains_all (λ t. IsKept (nodes_of t)) (trees_of_expr e) (tree_kept pins e few form))

pub by_place : {X : Type 0} (P : X → Type 0) (xs : List X) → All P xs → AllByRecursion P xs
by_place P [] a = tt
by_place P (x ∷ xs) a = (a 0 x (omega arith), by_place P xs (λ k d lt. a (suc k) d (omega arith)))

pub to_places : {X : Type 0} (P : X → Type 0) (xs : List X) → AllByRecursion P xs → All P xs
to_places P [] a k d lt = absurd (omega arith)
to_places P (x ∷ xs) (p, a) zero d lt = p
to_places P (x ∷ xs) (p, a) (suc k) d lt = to_places P xs a k d (omega arith)

forms_kept : (pins cell : ℕ) (forms : List Expr) → pins ≤ 16 → AllByRecursion (IsForm pins) forms → AllByRecursion KeepsTree (patterns_of_cell cell forms)
forms_kept pins cell [] few a = tt
forms_kept pins cell (e ∷ forms) few (f, a) = all_append KeepsTree (map (pattern_of_cell cell) (trees_of_expr e)) (patterns_of_cell cell forms) (form_kept pins cell e few f) (forms_kept pins cell forms few a)

cells_kept : (first : ℕ) (cells : List CellParts) → AllByRecursion IsListed cells → AllByRecursion KeepsTree (patterns_from first (map forms_of cells))
cells_kept first [] a = tt
cells_kept first (cell ∷ cells) (c, a) =
    all_append KeepsTree (patterns_of_cell first cell.forms) (patterns_from (suc first) (map forms_of cells))
    (forms_kept (pin_count cell) first cell.forms c.kept.few_pins (by_place (IsForm (pin_count cell)) cell.forms c.kept.forms)) (cells_kept (suc first) cells a)

-- how many patterns there are
length_forms : (cell : ℕ) (forms : List Expr) → length (patterns_of_cell cell forms) ≤ 64 * length forms
length_forms cell [] = omega arith
length_forms cell (e ∷ forms) =
    let own : length (map (pattern_of_cell cell) (trees_of_expr e)) ≡ length (trees_of_expr e) = length-map (trees_of_expr e) (pattern_of_cell cell) in
    let few : length (trees_of_expr e) ≤ 64 = few_trees e in
    let both : length (map (pattern_of_cell cell) (trees_of_expr e) ++ patterns_of_cell cell forms) ≡ length (map (pattern_of_cell cell) (trees_of_expr e)) + length (patterns_of_cell cell forms) = length-append (map (pattern_of_cell cell) (trees_of_expr e)) (patterns_of_cell cell forms) in
    let rest : length (patterns_of_cell cell forms) ≤ 64 * length forms = length_forms cell forms in
    omega arith

length_cells : (first n : ℕ) (cells : List CellParts) → length (patterns_from first (map forms_of cells)) + 64 * n ≤ 64 * fold (λ a cell. a + form_count cell) n cells
length_cells first n [] = omega arith
length_cells first n (cell ∷ cells) =
    let own : length (patterns_of_cell first cell.forms) ≤ 64 * length cell.forms = length_forms first cell.forms in
    let both : length (patterns_of_cell first cell.forms ++ patterns_from (suc first) (map forms_of cells)) ≡ length (patterns_of_cell first cell.forms) + length (patterns_from (suc first) (map forms_of cells)) = length-append (patterns_of_cell first cell.forms) (patterns_from (suc first) (map forms_of cells)) in
    let rest : length (patterns_from (suc first) (map forms_of cells)) + 64 * (n + length cell.forms) ≤ 64 * fold (λ a cell. a + form_count cell) (n + form_count cell) cells = length_cells (suc first) (n + form_count cell) cells in
    omega arith

listed_kept : (ps : List TreeOfCell) → AllByRecursion KeepsTree ps → AllByRecursion (λ (p : Pattern). IsKept p.nodes) (map listed ps)
listed_kept ps a = all_map KeepsTree (λ (p : Pattern). IsKept p.nodes) listed ps (λ p k. k) a

pub library_kept : (cells : List CellParts) → IsLibrary cells → AreKept (map listed (library_patterns cells))
library_kept cells lib = record {
  few =
      let long : length (map listed (library_patterns cells)) ≡ length (library_patterns cells) = length-map (library_patterns cells) listed in
      let count : length (library_patterns cells) + 64 * 0 ≤ 64 * sum_by form_count cells = length_cells 0 0 cells in
      let few : sum_by form_count cells ≤ 4096 = lib.few in
      omega arith;
  each = to_places (λ (p : Pattern). IsKept p.nodes) (map listed (library_patterns cells)) (listed_kept (library_patterns cells) (cells_kept 0 cells (by_place IsListed cells lib.each)));
}

pub listed_back : (ps : List TreeOfCell) → map pattern_of (map listed ps) ≡ ps
listed_back [] = refl
listed_back (p ∷ ps) = ap₂ (λ t qs. record { cell = p.cell; tree = t } ∷ qs) (tree_of-nodes p.tree) (listed_back ps)

-- the loop over the cells
module _ (lib : List CellParts) (items : List Pattern) (n : ℕ) (gives : items ++ map listed (patterns_from n (map forms_of (drop n lib))) ≡ map listed (library_patterns lib)) where
  pub cells_next : (own : CellParts) (items' : List Pattern) → slice_get lib n ≡ Some own → items' ≡ items ++ map listed (patterns_of_cell n own.forms) → items' ++ map listed (patterns_from (n + 1) (map forms_of (drop (n + 1) lib))) ≡ map listed (library_patterns lib)
  cells_next own items' at e =
      let rest = map forms_of (drop (n + 1) lib) in
      let next : n + 1 ≡ suc n = omega arith in
      let split : drop n lib ≡ own ∷ drop (n + 1) lib = drop_more lib n own (slice_get_within lib n own at) ∙ ap (λ o. o ∷ drop (n + 1) lib) (get_or_from_slice_get lib n own own at) in
      ap₂ (λ xs m. xs ++ map listed (patterns_from m rest)) e next
      ∙ (append_assoc items (map listed (patterns_of_cell n own.forms)) (map listed (patterns_from (suc n) rest))
      ∙ (ap (λ ps. items ++ ps) (sym (map-append listed (patterns_of_cell n own.forms) (patterns_from (suc n) rest)))
      ∙ (ap (λ cs. items ++ map listed (patterns_from n (map forms_of cs))) (sym split) ∙ gives)))

  pub cells_end : length lib ≤ n → items ≡ map listed (library_patterns lib)
  cells_end past = sym (append-nil items) ∙ (ap (λ cs. items ++ map listed (patterns_from n (map forms_of cs))) (sym (drop_all n lib past)) ∙ gives)
