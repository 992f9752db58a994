-- The trees of an expression have few nodes: at most four for each pin and constant, less two.
use Rattle.std.proofs.Common.{ℕ, ◌+◌, ◌*◌, ◌≤◌, ◌≡◌, Bool, true, false, cond, leb, List, [], ◌∷◌, ◌++◌, length, get_or, refl, subst, arith, Contains}
use Rattle.std.specs.Prelude.{All}
use Rattle.std.specs.List.{AllByRecursion}
use Rattle.std.proofs.lemmas.List.{get_or_default}
use Rattle.std.proofs.lemmas.Bool.{leb-true}
use Rattle.lw_laws.specs.Trees.{Tree, leaf, const_one, const_zero, inv, nand}
use Rattle.lw_laws.specs.Expressions.{Expr, Exprs}
use Rattle.lw_laws.specs.Expressions.Expr.{expr_const, expr_pin, expr_not, expr_and, expr_or}
use Rattle.lw_laws.specs.Expressions.Exprs.{no_exprs, more_exprs}
use Rattle.lw_laws.specs.Patterns.{Operator, inverted, tree_by, each_with, all_pairs, three, four, left_chain, bracketings, constant_tree, bracketed, each_bracketed, chain_from, chained, each_chained, trees_of_expr}
use Rattle.lw_laws.specs.Patterns.Operator.{and_op, or_op}
use Rattle.lw_laws.proofs.Lists.{all_append, all_map, all_contains}
use Rattle.lw_genlib.specs.Postfix.{literals, literals_of_all, IsWide, AreWide}
use Rattle.lw_pattern.specs.Nodes.{node_count}

pub record Fits (n : ℕ) (t : Tree) : Type 0 where
  pub tree : node_count t + 2 ≤ 4 * n
  pub complement : node_count (inverted t) + 2 ≤ 4 * n

twice_inverted : (t : Tree) → node_count (inverted (inverted t)) ≤ node_count t
twice_inverted (leaf k) = omega arith
twice_inverted const_one = omega arith
twice_inverted const_zero = omega arith
twice_inverted (nand t u) = omega arith
twice_inverted (inv (leaf k)) = omega arith
twice_inverted (inv const_one) = omega arith
twice_inverted (inv const_zero) = omega arith
twice_inverted (inv (inv t)) = omega arith
twice_inverted (inv (nand t u)) = omega arith

fits_inverted : (n : ℕ) (t : Tree) → Fits n t → Fits n (inverted t)
fits_inverted n t f = record { tree = f.complement; complement = let less : node_count (inverted (inverted t)) ≤ node_count t = twice_inverted t in let whole : node_count t + 2 ≤ 4 * n = f.tree in omega arith }

fits_joined : (op : Operator) (n m : ℕ) (t u : Tree) → Fits n t → Fits m u → Fits (n + m) (tree_by op t u)
fits_joined and_op n m t u f g =
    let a : node_count t + 2 ≤ 4 * n = f.tree in
    let b : node_count u + 2 ≤ 4 * m = g.tree in
    record { tree = omega arith; complement = omega arith }
fits_joined or_op n m t u f g =
    let a : node_count (inverted t) + 2 ≤ 4 * n = f.complement in
    let b : node_count (inverted u) + 2 ≤ 4 * m = g.complement in
    record { tree = omega arith; complement = omega arith }

fits_constant : (b : Bool) → Fits 1 (constant_tree b)
fits_constant true = record { tree = omega arith; complement = omega arith }
fits_constant false = record { tree = omega arith; complement = omega arith }

fits_pin : (k : ℕ) → Fits 1 (leaf k)
fits_pin k = record { tree = omega arith; complement = omega arith }

abbrev AllFit : ℕ → List Tree → Type 0
AllFit n ts = AllByRecursion (Fits n) ts

all_fit_as : (n m : ℕ) (ts : List Tree) → n ≡ m → AllFit n ts → AllFit m ts
all_fit_as n m ts e a = subst (λ k. AllFit k ts) e a

pairs_fit : (op : Operator) (n m : ℕ) (ts us : List Tree) → AllFit n ts → AllFit m us → AllFit (n + m) (all_pairs op ts us)
pairs_fit op n m [] us a b = tt
pairs_fit op n m (t ∷ ts) us (f, a) b =
    all_append (Fits (n + m)) (each_with op t us) (all_pairs op ts us)
    (all_map (Fits m) (Fits (n + m)) (tree_by op t) us (λ u g. fits_joined op n m t u f g) b) (pairs_fit op n m ts us a b)

three_fit : (op : Operator) (n m k : ℕ) (a b c : List Tree) → AllFit n a → AllFit m b → AllFit k c → AllFit (n + m + k) (three op a b c)
three_fit op n m k a b c p q r =
    all_append (Fits (n + m + k)) (all_pairs op (all_pairs op a b) c) (all_pairs op a (all_pairs op b c))
    (pairs_fit op (n + m) k (all_pairs op a b) c (pairs_fit op n m a b p q) r)
    (all_fit_as (n + (m + k)) (n + m + k) (all_pairs op a (all_pairs op b c)) (omega arith) (pairs_fit op n (m + k) a (all_pairs op b c) p (pairs_fit op m k b c q r)))

four_fit : (op : Operator) (n m k l : ℕ) (a b c d : List Tree) → AllFit n a → AllFit m b → AllFit k c → AllFit l d → AllFit (n + m + k + l) (four op a b c d)
four_fit op n m k l a b c d p q r s =
    all_append (Fits (n + m + k + l)) (all_pairs op (three op a b c) d) (all_pairs op (all_pairs op a b) (all_pairs op c d) ++ all_pairs op a (three op b c d))
    (pairs_fit op (n + m + k) l (three op a b c) d (three_fit op n m k a b c p q r) s)
    (all_append (Fits (n + m + k + l)) (all_pairs op (all_pairs op a b) (all_pairs op c d)) (all_pairs op a (three op b c d))
    (all_fit_as (n + m + (k + l)) (n + m + k + l) (all_pairs op (all_pairs op a b) (all_pairs op c d)) (omega arith)
    (pairs_fit op (n + m) (k + l) (all_pairs op a b) (all_pairs op c d) (pairs_fit op n m a b p q) (pairs_fit op k l c d r s)))
    (all_fit_as (n + (m + k + l)) (n + m + k + l) (all_pairs op a (three op b c d)) (omega arith) (pairs_fit op n (m + k + l) a (three op b c d) p (three_fit op m k l b c d q r s))))

-- the trees of expressions fit, one by one
abbrev ListsFit : Exprs → List (List Tree) → Type 0
ListsFit no_exprs [] = Unit {0}
ListsFit no_exprs (ts ∷ rest) = ⊥
ListsFit (more_exprs e es) [] = ⊥
ListsFit (more_exprs e es) (ts ∷ rest) = AllFit (literals e) ts × ListsFit es rest

chain_fit : (op : Operator) (n : ℕ) (es : Exprs) (ts : List Tree) (rest : List (List Tree)) → AllFit n ts → ListsFit es rest → AllFit (n + literals_of_all es) (left_chain op ts rest)
chain_fit op n no_exprs ts [] a b = all_fit_as n (n + 0) ts (omega arith) a
chain_fit op n no_exprs ts (us ∷ rest) a b = absurd b
chain_fit op n (more_exprs e es) ts [] a b = absurd b
chain_fit op n (more_exprs e es) ts (us ∷ rest) a (f, b) =
    all_fit_as (n + literals e + literals_of_all es) (n + (literals e + literals_of_all es)) (left_chain op (all_pairs op ts us) rest) (omega arith)
    (chain_fit op (n + literals e) es (all_pairs op ts us) rest (pairs_fit op n (literals e) ts us a f) b)

bracketings_fit : (op : Operator) (e f : Expr) (es : Exprs) (ts us : List Tree) (rest : List (List Tree)) → AllFit (literals e) ts → AllFit (literals f) us → ListsFit es rest
    → AllFit (literals e + (literals f + literals_of_all es)) (bracketings op (ts ∷ us ∷ rest))
bracketings_fit op e f no_exprs a b [] p q x = all_fit_as (literals e + literals f) (literals e + (literals f + 0)) (all_pairs op a b) (omega arith) (pairs_fit op (literals e) (literals f) a b p q)
bracketings_fit op e f no_exprs a b (c ∷ rest) p q x = absurd x
bracketings_fit op e f (more_exprs g es) a b [] p q x = absurd x
bracketings_fit op e f (more_exprs g no_exprs) a b (c ∷ []) p q (r, x) =
    all_fit_as (literals e + literals f + literals g) (literals e + (literals f + (literals g + 0))) (three op a b c) (omega arith) (three_fit op (literals e) (literals f) (literals g) a b c p q r)
bracketings_fit op e f (more_exprs g no_exprs) a b (c ∷ d ∷ rest) p q (r, x) = absurd x
bracketings_fit op e f (more_exprs g (more_exprs h es)) a b (c ∷ []) p q (r, x) = absurd x
bracketings_fit op e f (more_exprs g (more_exprs h no_exprs)) a b (c ∷ d ∷ []) p q (r, (s, x)) =
    all_fit_as (literals e + literals f + literals g + literals h) (literals e + (literals f + (literals g + (literals h + 0)))) (four op a b c d) (omega arith)
    (four_fit op (literals e) (literals f) (literals g) (literals h) a b c d p q r s)
bracketings_fit op e f (more_exprs g (more_exprs h no_exprs)) a b (c ∷ d ∷ ts ∷ rest) p q (r, (s, x)) = absurd x
bracketings_fit op e f (more_exprs g (more_exprs h (more_exprs i es))) a b (c ∷ d ∷ []) p q (r, (s, x)) = absurd x
bracketings_fit op e f (more_exprs g (more_exprs h (more_exprs i es))) a b (c ∷ d ∷ ts ∷ rest) p q x =
    chain_fit op (literals e) (more_exprs f (more_exprs g (more_exprs h (more_exprs i es)))) a (b ∷ c ∷ d ∷ ts ∷ rest) p (q, x)

all_bracketings_fit : (op : Operator) (e f : Expr) (es : Exprs) → ListsFit (more_exprs e (more_exprs f es)) (each_bracketed (more_exprs e (more_exprs f es)))
    → AllFit (literals e + (literals f + literals_of_all es)) (bracketings op (each_bracketed (more_exprs e (more_exprs f es))))
all_bracketings_fit op e f es (p, (q, x)) = bracketings_fit op e f es (bracketed e) (bracketed f) (each_bracketed es) p q x

mutual
  bracketed_fit : (e : Expr) → IsWide e → AllFit (literals e) (bracketed e)
  bracketed_fit (expr_const b) wide = (fits_constant b, tt)
  bracketed_fit (expr_pin k) wide = (fits_pin k, tt)
  bracketed_fit (expr_not e) wide = all_map (Fits (literals e)) (Fits (literals e)) inverted (bracketed e) (fits_inverted (literals e)) (bracketed_fit e wide)
  bracketed_fit (expr_and no_exprs) wide = absurd (omega (arith, wide.0))
  bracketed_fit (expr_and (more_exprs e no_exprs)) wide = absurd (omega (arith, wide.0))
  bracketed_fit (expr_and (more_exprs e (more_exprs f es))) wide = all_bracketings_fit and_op e f es (each_fit (more_exprs e (more_exprs f es)) wide.1)
  bracketed_fit (expr_or no_exprs) wide = absurd (omega (arith, wide.0))
  bracketed_fit (expr_or (more_exprs e no_exprs)) wide = absurd (omega (arith, wide.0))
  bracketed_fit (expr_or (more_exprs e (more_exprs f es))) wide = all_bracketings_fit or_op e f es (each_fit (more_exprs e (more_exprs f es)) wide.1)

  each_fit : (es : Exprs) → AreWide es → ListsFit es (each_bracketed es)
  each_fit no_exprs wide = tt
  each_fit (more_exprs e es) wide = (bracketed_fit e wide.0, each_fit es wide.1)

-- left chains
abbrev EachFits : Exprs → List Tree → Type 0
EachFits no_exprs [] = Unit {0}
EachFits no_exprs (t ∷ ts) = ⊥
EachFits (more_exprs e es) [] = ⊥
EachFits (more_exprs e es) (t ∷ ts) = Fits (literals e) t × EachFits es ts

fits_as : (n m : ℕ) (t : Tree) → n ≡ m → Fits n t → Fits m t
fits_as n m t e f = subst (λ k. Fits k t) e f

chain_fits : (op : Operator) (n : ℕ) (es : Exprs) (t : Tree) (ts : List Tree) → Fits n t → EachFits es ts → Fits (n + literals_of_all es) (chain_from op t ts)
chain_fits op n no_exprs t [] f a = fits_as n (n + 0) t (omega arith) f
chain_fits op n no_exprs t (u ∷ ts) f a = absurd a
chain_fits op n (more_exprs e es) t [] f a = absurd a
chain_fits op n (more_exprs e es) t (u ∷ ts) f (g, a) =
    fits_as (n + literals e + literals_of_all es) (n + (literals e + literals_of_all es)) (chain_from op (tree_by op t u) ts) (omega arith)
    (chain_fits op (n + literals e) es (tree_by op t u) ts (fits_joined op n (literals e) t u f g) a)

mutual
  chained_fits : (e : Expr) → IsWide e → Fits (literals e) (chained e)
  chained_fits (expr_const b) wide = fits_constant b
  chained_fits (expr_pin k) wide = fits_pin k
  chained_fits (expr_not e) wide = fits_inverted (literals e) (chained e) (chained_fits e wide)
  chained_fits (expr_and no_exprs) wide = absurd (omega (arith, wide.0))
  chained_fits (expr_and (more_exprs e es)) wide = chain_fits and_op (literals e) es (chained e) (each_chained es) (chained_fits e wide.1.0) (each_chained_fits es wide.1.1)
  chained_fits (expr_or no_exprs) wide = absurd (omega (arith, wide.0))
  chained_fits (expr_or (more_exprs e es)) wide = chain_fits or_op (literals e) es (chained e) (each_chained es) (chained_fits e wide.1.0) (each_chained_fits es wide.1.1)

  each_chained_fits : (es : Exprs) → AreWide es → EachFits es (each_chained es)
  each_chained_fits no_exprs wide = tt
  each_chained_fits (more_exprs e es) wide = (chained_fits e wide.0, each_chained_fits es wide.1)

trees_fit : (e : Expr) → IsWide e → AllFit (literals e) (trees_of_expr e)
trees_fit e wide = by_count (leb (length (bracketed e)) 64)
  where
    by_count : (few : Bool) → AllFit (literals e) (cond few (bracketed e) (chained e ∷ []))
    by_count true = bracketed_fit e wide
    by_count false = (chained_fits e wide, tt)

-- each tree of an expression of at most 64 pins and constants has at most 254 nodes
pub few_nodes : (e : Expr) → IsWide e → literals e ≤ 64 → (t : Tree) → Contains (trees_of_expr e) t → node_count t ≤ 254
few_nodes e wide few t c = let f : node_count t + 2 ≤ 4 * literals e = (all_contains (Fits (literals e)) (trees_of_expr e) t (trees_fit e wide) c).tree in omega arith

-- and there are at most 64
pub few_trees : (e : Expr) → length (trees_of_expr e) ≤ 64
few_trees e = by_count (leb (length (bracketed e)) 64) refl
  where
    by_count : (few : Bool) → leb (length (bracketed e)) 64 ≡ few → length (cond few (bracketed e) (chained e ∷ [])) ≤ 64
    by_count true small = leb-true (length (bracketed e)) 64 small
    by_count false large = omega arith

pub all_few_nodes : (e : Expr) → IsWide e → literals e ≤ 64 → All (λ t. node_count t ≤ 254) (trees_of_expr e)
all_few_nodes e wide few k d lt = few_nodes e wide few (get_or (trees_of_expr e) k d) (k, lt, get_or_default (trees_of_expr e) k (get_or (trees_of_expr e) k d) d lt)
