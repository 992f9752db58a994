-- The patterns of a library's cells have their cells' truth and pins.
use Rattle.std.proofs.Common.{ℕ, suc, ◌+◌, ◌==◌, ◌≡◌, ◌⊎◌, ◌↔◌, inl, inr, Bool, true, false, not, ◌&&◌, ◌||◌, List, [], ◌∷◌, map, Contains, Some, slice_get, slice_index_or, refl, ap, ap₂, sym, ◌∙◌, arith}
use Rattle.std.specs.List.{AllByRecursion}
use Rattle.std.proofs.lemmas.Bool.Decides.{nat_tests}
use Rattle.std.proofs.Math.Bool.{or_assoc, or-false, not-not, and-true, and_assoc}
use Rattle.lw_laws.specs.Trees.{Tree, leaf, const_one, const_zero, inv, nand, tree_value, HasLeaf}
use Rattle.lw_laws.specs.Covers.{Pattern, IsPattern, ArePatterns}
use Rattle.lw_laws.specs.Netlists.{CellTruth, HasCellTruth, HaveCellTruths}
use Rattle.lw_laws.specs.Expressions.{Expr, Exprs, expr_value, all_true, some_true, MentionsPin, SomeMentionsPin}
use Rattle.lw_laws.specs.Expressions.Expr.{expr_const, expr_pin, expr_not, expr_and, expr_or}
use Rattle.lw_laws.specs.Expressions.Exprs.{no_exprs, more_exprs}
use Rattle.lw_laws.specs.Patterns.{inverted, Operator, tree_by, trees_of_expr, pattern_of_cell, patterns_of_cell, patterns_from, patterns_of}
use Rattle.lw_laws.specs.Patterns.Operator.{and_op, or_op}
use Rattle.lw_laws.specs.Cells.{AreCells}
use Rattle.lw_laws.proofs.PatternTruth.{over, expr_gives, exprs_give, trees_have}
use Rattle.lw_laws.proofs.Lists.{all_contains, contains_all, all_append, all_map}

pub or_by_and : (a b : Bool) → not (not a && not b) ≡ (a || b)
or_by_and true b = refl
or_by_and false b = not-not b

-- truth values
abbrev by_value : Operator → Bool → Bool → Bool
by_value and_op a b = a && b
by_value or_op a b = a || b

value_assoc : (op : Operator) (a b c : Bool) → by_value op (by_value op a b) c ≡ by_value op a (by_value op b c)
value_assoc and_op a b c = and_assoc a b c
value_assoc or_op a b c = or_assoc a b c

module _ (y : ℕ → Bool) where
  value_turns : (t : Tree) → tree_value y (inverted t) ≡ not (tree_value y t)
  value_turns (leaf k) = refl
  value_turns const_one = refl
  value_turns const_zero = refl
  value_turns (inv t) = sym (not-not (tree_value y t))
  value_turns (nand t u) = refl

  value_joins : (op : Operator) (t u : Tree) → tree_value y (tree_by op t u) ≡ by_value op (tree_value y t) (tree_value y u)
  value_joins and_op t u = not-not (tree_value y t && tree_value y u)
  value_joins or_op t u = ap₂ (λ a b. not (a && b)) (value_turns t) (value_turns u) ∙ or_by_and (tree_value y t) (tree_value y u)

  abbrev gives : Expr → Bool
  gives e = expr_gives (tree_value y) by_value not value_turns value_joins value_assoc e

  abbrev give : Exprs → List Bool
  give es = exprs_give (tree_value y) by_value not value_turns value_joins value_assoc es

  abbrev fold : Operator → Bool → List Bool → Bool
  fold op v vs = over (tree_value y) by_value not value_turns value_joins value_assoc op v vs

  mutual
    gives_value : (e : Expr) → gives e ≡ expr_value y e
    gives_value (expr_const true) = refl
    gives_value (expr_const false) = refl
    gives_value (expr_pin k) = refl
    gives_value (expr_not e) = ap not (gives_value e)
    gives_value (expr_and no_exprs) = refl
    gives_value (expr_and (more_exprs e es)) = ands_value (gives e) es ∙ ap (λ b. b && all_true y es) (gives_value e)
    gives_value (expr_or no_exprs) = refl
    gives_value (expr_or (more_exprs e es)) = ors_value (gives e) es ∙ ap (λ b. b || some_true y es) (gives_value e)

    ands_value : (v : Bool) (es : Exprs) → fold and_op v (give es) ≡ (v && all_true y es)
    ands_value v no_exprs = sym (and-true v)
    ands_value v (more_exprs e es) = ands_value (v && gives e) es ∙ (and_assoc v (gives e) (all_true y es) ∙ ap (λ b. v && (b && all_true y es)) (gives_value e))

    ors_value : (v : Bool) (es : Exprs) → fold or_op v (give es) ≡ (v || some_true y es)
    ors_value v no_exprs = sym (or-false v)
    ors_value v (more_exprs e es) = ors_value (v || gives e) es ∙ (or_assoc v (gives e) (some_true y es) ∙ ap (λ b. v || (b || some_true y es)) (gives_value e))

  -- each tree of an expression has its value
  pub trees_value : (e : Expr) (t : Tree) → Contains (trees_of_expr e) t → tree_value y t ≡ expr_value y e
  trees_value e t c = all_contains (λ t. tree_value y t ≡ gives e) (trees_of_expr e) t (trees_have (tree_value y) by_value not value_turns value_joins value_assoc e) c ∙ gives_value e

-- leaves
module _ (k : ℕ) where
  abbrev pub has_leaf : Tree → Bool
  has_leaf (leaf i) = i == k
  has_leaf const_one = false
  has_leaf const_zero = false
  has_leaf (inv t) = has_leaf t
  has_leaf (nand t u) = has_leaf t || has_leaf u

  abbrev either : Operator → Bool → Bool → Bool
  either op a b = a || b

  abbrev itself : Bool → Bool
  itself b = b

  leaf_turns : (t : Tree) → has_leaf (inverted t) ≡ itself (has_leaf t)
  leaf_turns (leaf i) = refl
  leaf_turns const_one = refl
  leaf_turns const_zero = refl
  leaf_turns (inv t) = refl
  leaf_turns (nand t u) = refl

  leaf_joins : (op : Operator) (t u : Tree) → has_leaf (tree_by op t u) ≡ either op (has_leaf t) (has_leaf u)
  leaf_joins and_op t u = refl
  leaf_joins or_op t u = ap₂ (λ a b. a || b) (leaf_turns t) (leaf_turns u)

  either_assoc : (op : Operator) (a b c : Bool) → either op (either op a b) c ≡ either op a (either op b c)
  either_assoc op a b c = or_assoc a b c

  abbrev leaves : Expr → Bool
  leaves e = expr_gives has_leaf either itself leaf_turns leaf_joins either_assoc e

  abbrev each_leaves : Exprs → List Bool
  each_leaves es = exprs_give has_leaf either itself leaf_turns leaf_joins either_assoc es

  abbrev any : Operator → Bool → List Bool → Bool
  any op v vs = over has_leaf either itself leaf_turns leaf_joins either_assoc op v vs

  or_is : (a b : Bool) → ((a || b) ≡ true) ↔ ((a ≡ true) ⊎ (b ≡ true))
  or_is true b = (λ e. inl refl, λ e. refl)
  or_is false b = (λ e. inr e, λ e. by_side e)
    where
      by_side : (false ≡ true) ⊎ (b ≡ true) → b ≡ true
      by_side (inl e) = cc
      by_side (inr e) = e

  same_number : (i : ℕ) → ((i == k) ≡ true) ↔ (i ≡ k)
  same_number i = (λ e. grind (arith, nat_tests), λ e. grind (arith, nat_tests))

  either_is : (a b : Bool) (A B : Type 0) → (a ≡ true) ↔ A → (b ≡ true) ↔ B → ((a || b) ≡ true) ↔ (A ⊎ B)
  either_is a b A B p q = (λ e. to ((or_is a b).0 e), λ e. (or_is a b).1 (from e))
    where
      to : (a ≡ true) ⊎ (b ≡ true) → A ⊎ B
      to (inl e) = inl (p.0 e)
      to (inr e) = inr (q.0 e)

      from : A ⊎ B → (a ≡ true) ⊎ (b ≡ true)
      from (inl e) = inl (p.1 e)
      from (inr e) = inr (q.1 e)

  pub leaf_is : (t : Tree) → (has_leaf t ≡ true) ↔ HasLeaf t k
  leaf_is (leaf i) = same_number i
  leaf_is const_one = (λ e. cc, λ e. absurd e)
  leaf_is const_zero = (λ e. cc, λ e. absurd e)
  leaf_is (inv t) = leaf_is t
  leaf_is (nand t u) = either_is (has_leaf t) (has_leaf u) (HasLeaf t k) (HasLeaf u k) (leaf_is t) (leaf_is u)

  left_alone : {A : Type 0} → A ⊎ ⊥ → A
  left_alone (inl a) = a
  left_alone (inr b) = absurd b

  first_or : {A B C D : Type 0} → A ↔ B → C ↔ (A ⊎ D) → C ↔ (B ⊎ D)
  first_or {A} {B} {C} {D} p q = (λ c. to (q.0 c), λ b. q.1 (from b))
    where
      to : A ⊎ D → B ⊎ D
      to (inl a) = inl (p.0 a)
      to (inr d) = inr d

      from : B ⊎ D → A ⊎ D
      from (inl b) = inl (p.1 b)
      from (inr d) = inr d

  regrouped : {V W X M S : Type 0} → X ↔ (V ⊎ W) → W ↔ M → {C : Type 0} → C ↔ (X ⊎ S) → C ↔ (V ⊎ (M ⊎ S))
  regrouped {V} {W} {X} {M} {S} x w q = (λ c. to (q.0 c), λ b. q.1 (from b))
    where
      into : V ⊎ W → V ⊎ (M ⊎ S)
      into (inl v) = inl v
      into (inr w1) = inr (inl (w.0 w1))

      to : X ⊎ S → V ⊎ (M ⊎ S)
      to (inl a) = into (x.0 a)
      to (inr s) = inr (inr s)

      from : V ⊎ (M ⊎ S) → X ⊎ S
      from (inl v) = inl (x.1 (inl v))
      from (inr (inl m)) = inl (x.1 (inr (w.1 m)))
      from (inr (inr s)) = inr s

  mutual
    leaves_are : (e : Expr) → (leaves e ≡ true) ↔ MentionsPin e k
    leaves_are (expr_const true) = (λ e. cc, λ e. absurd e)
    leaves_are (expr_const false) = (λ e. cc, λ e. absurd e)
    leaves_are (expr_pin i) = same_number i
    leaves_are (expr_not e) = leaves_are e
    leaves_are (expr_and no_exprs) = (λ e. cc, λ e. absurd e)
    leaves_are (expr_and (more_exprs e es)) = first_or (leaves_are e) (any_are and_op (leaves e) es)
    leaves_are (expr_or no_exprs) = (λ e. cc, λ e. absurd e)
    leaves_are (expr_or (more_exprs e es)) = first_or (leaves_are e) (any_are or_op (leaves e) es)

    any_are : (op : Operator) (v : Bool) (es : Exprs) → (any op v (each_leaves es) ≡ true) ↔ ((v ≡ true) ⊎ SomeMentionsPin es k)
    any_are op v no_exprs = (λ e. inl e, λ e. left_alone e)
    any_are op v (more_exprs e es) = regrouped (or_is v (leaves e)) (leaves_are e) (any_are op (v || leaves e) es)

  -- each tree of an expression has its pins as leaves, and no other leaf
  pub trees_leaves : (e : Expr) (t : Tree) → Contains (trees_of_expr e) t → HasLeaf t k ↔ MentionsPin e k
  trees_leaves e t c =
      let same = all_contains (λ t. has_leaf t ≡ leaves e) (trees_of_expr e) t (trees_have has_leaf either itself leaf_turns leaf_joins either_assoc e) c in
      let p = leaf_is t in
      let q = leaves_are e in
      (λ l. q.0 (sym same ∙ p.1 l), λ m. p.0 (same ∙ q.1 m))

-- the patterns of cells
module _ (pin_counts : List ℕ) (truth : CellTruth) (cells : List (List Expr)) (are : AreCells pin_counts truth cells) where
  abbrev IsGood : Pattern → Type 0
  IsGood p = IsPattern pin_counts p × HasCellTruth pin_counts truth p

  cell_good : (cell : ℕ) (all : List Expr) → slice_get cells cell ≡ Some all → (forms : List Expr) → AllByRecursion (Contains all) forms → AllByRecursion IsGood (patterns_of_cell cell forms)
  cell_good cell all at [] a = tt
  cell_good cell all at (e ∷ forms) (listed, a) =
      all_append IsGood (map (pattern_of_cell cell) (trees_of_expr e)) (patterns_of_cell cell forms)
      (all_map (λ t. IsGood (pattern_of_cell cell t)) IsGood (pattern_of_cell cell) (trees_of_expr e) (λ t q. q) (contains_all (λ t. IsGood (pattern_of_cell cell t)) (trees_of_expr e) (λ t c. (is_pattern t c, is_true t c))))
      (cell_good cell all at forms a)
    where
      is_pattern : (t : Tree) → Contains (trees_of_expr e) t → IsPattern pin_counts (pattern_of_cell cell t)
      is_pattern t c = record {
        pins = λ n k has.
            let p = trees_leaves k e t c in
            let q = are.pins cell n k all e at listed has in
            (λ l. q.0 (p.0 l), λ m. p.1 (q.1 m));
      }

      is_true : (t : Tree) → Contains (trees_of_expr e) t → HasCellTruth pin_counts truth (pattern_of_cell cell t)
      is_true t c ys has = trees_value (λ k. slice_index_or ys k false) e t c ∙ are.truths cell all e ys at listed has

  from_good : (first : ℕ) (rest : List (List Expr)) → ((j : ℕ) (forms : List Expr) → slice_get rest j ≡ Some forms → slice_get cells (first + j) ≡ Some forms) → AllByRecursion IsGood (patterns_from first rest)
  from_good first [] at = tt
  from_good first (forms ∷ rest) at =
      all_append IsGood (patterns_of_cell first forms) (patterns_from (suc first) rest)
      (cell_good first forms (let z : first ≡ first + 0 = omega arith in ap (slice_get cells) z ∙ at 0 forms refl) forms (contains_all (Contains forms) forms (λ x c. c)))
      (from_good (suc first) rest (λ j fs e. let s : suc first + j ≡ first + suc j = omega arith in ap (slice_get cells) s ∙ at (suc j) fs e))

  all_good : AllByRecursion IsGood (patterns_of cells)
  all_good = from_good 0 cells (λ j forms e. let z : 0 + j ≡ j = omega arith in ap (slice_get cells) z ∙ e)

  pub cells_patterns : ArePatterns pin_counts (patterns_of cells)
  cells_patterns p c = (all_contains IsGood (patterns_of cells) p all_good c).0

  pub cells_truths : HaveCellTruths pin_counts truth (patterns_of cells)
  cells_truths p c = (all_contains IsGood (patterns_of cells) p all_good c).1
