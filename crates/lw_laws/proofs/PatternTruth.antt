-- Each tree of an expression has its truth value, and its pins as leaves.
use Rattle.std.proofs.Common.{◌≡◌, Bool, true, false, cond, leb, List, [], ◌∷◌, ◌++◌, map, length, refl, ap, ap₂, sym, ◌∙◌, subst}
use Rattle.std.specs.List.{AllByRecursion}
use Rattle.lw_laws.specs.Trees.{Tree, leaf}
use Rattle.lw_laws.specs.Expressions.{Expr, Exprs}
use Rattle.lw_laws.specs.Expressions.Expr.{expr_const, expr_pin, expr_not, expr_and, expr_or}
use Rattle.lw_laws.specs.Expressions.Exprs.{no_exprs, more_exprs}
use Rattle.lw_laws.specs.Patterns.{inverted, Operator, tree_by, empty_tree, each_with, all_pairs, three, four, left_chain, bracketings, constant_tree, bracketed, each_bracketed, chain_from, chain_of, chained, each_chained, trees_of_expr}
use Rattle.lw_laws.specs.Patterns.Operator.{and_op, or_op}
use Rattle.lw_laws.proofs.Lists.{all_append}

-- a Bool of trees that hangs on the operators alone: f and g say how
module _ (h : Tree → Bool) (f : Operator → Bool → Bool → Bool) (g : Bool → Bool) (turns : (t : Tree) → h (inverted t) ≡ g (h t)) (joins : (op : Operator) (t u : Tree) → h (tree_by op t u) ≡ f op (h t) (h u)) (assoc : (op : Operator) (a b c : Bool) → f op (f op a b) c ≡ f op a (f op b c)) where
  abbrev pub AllHave : Bool → List Tree → Type 0
  AllHave v ts = AllByRecursion (λ t. h t ≡ v) ts

  -- the operator over some values
  abbrev pub over : Operator → Bool → List Bool → Bool
  over op v [] = v
  over op v (w ∷ ws) = over op (f op v w) ws

  abbrev pub over_all : Operator → List Bool → Bool
  over_all op [] = h (empty_tree op)
  over_all op (v ∷ vs) = over op v vs

  with_each : (op : Operator) (t : Tree) (us : List Tree) (v w : Bool) → h t ≡ v → AllHave w us → AllHave (f op v w) (each_with op t us)
  with_each op t [] v w e a = tt
  with_each op t (u ∷ us) v w e (k, a) = (joins op t u ∙ ap₂ (f op) e k, with_each op t us v w e a)

  pairs_have : (op : Operator) (ts us : List Tree) (v w : Bool) → AllHave v ts → AllHave w us → AllHave (f op v w) (all_pairs op ts us)
  pairs_have op [] us v w a b = tt
  pairs_have op (t ∷ ts) us v w (e, a) b =
      all_append (λ t. h t ≡ f op v w) (each_with op t us) (all_pairs op ts us) (with_each op t us v w e b) (pairs_have op ts us v w a b)

  three_have : (op : Operator) (a b c : List Tree) (u v w : Bool) → AllHave u a → AllHave v b → AllHave w c → AllHave (f op (f op u v) w) (three op a b c)
  three_have op a b c u v w p q r =
      all_append (λ t. h t ≡ f op (f op u v) w) (all_pairs op (all_pairs op a b) c) (all_pairs op a (all_pairs op b c))
      (pairs_have op (all_pairs op a b) c (f op u v) w (pairs_have op a b u v p q) r)
      (subst (λ x. AllHave x (all_pairs op a (all_pairs op b c))) (sym (assoc op u v w)) (pairs_have op a (all_pairs op b c) u (f op v w) p (pairs_have op b c v w q r)))

  four_have : (op : Operator) (a b c d : List Tree) (u v w x : Bool) → AllHave u a → AllHave v b → AllHave w c → AllHave x d → AllHave (f op (f op (f op u v) w) x) (four op a b c d)
  four_have op a b c d u v w x p q r s =
      let all = f op (f op (f op u v) w) x in
      let mid : f op (f op u v) (f op w x) ≡ all = sym (assoc op (f op u v) w x) in
      let last : f op u (f op (f op v w) x) ≡ all = sym (assoc op u (f op v w) x) ∙ ap (λ y. f op y x) (sym (assoc op u v w)) in
      all_append (λ t. h t ≡ all) (all_pairs op (three op a b c) d) (all_pairs op (all_pairs op a b) (all_pairs op c d) ++ all_pairs op a (three op b c d))
      (pairs_have op (three op a b c) d (f op (f op u v) w) x (three_have op a b c u v w p q r) s)
      (all_append (λ t. h t ≡ all) (all_pairs op (all_pairs op a b) (all_pairs op c d)) (all_pairs op a (three op b c d))
      (subst (λ y. AllHave y (all_pairs op (all_pairs op a b) (all_pairs op c d))) mid (pairs_have op (all_pairs op a b) (all_pairs op c d) (f op u v) (f op w x) (pairs_have op a b u v p q) (pairs_have op c d w x r s)))
      (subst (λ y. AllHave y (all_pairs op a (three op b c d))) last (pairs_have op a (three op b c d) u (f op (f op v w) x) p (three_have op b c d v w x q r s))))

  -- the lists of trees have the values, list by list
  abbrev ListsHave : List Bool → List (List Tree) → Type 0
  ListsHave [] [] = Unit {0}
  ListsHave [] (ts ∷ rest) = ⊥
  ListsHave (v ∷ vs) [] = ⊥
  ListsHave (v ∷ vs) (ts ∷ rest) = AllHave v ts × ListsHave vs rest

  chain_have : (op : Operator) (v : Bool) (vs : List Bool) (ts : List Tree) (rest : List (List Tree)) → AllHave v ts → ListsHave vs rest → AllHave (over op v vs) (left_chain op ts rest)
  chain_have op v [] ts [] a b = a
  chain_have op v [] ts (us ∷ rest) a b = absurd b
  chain_have op v (w ∷ vs) ts [] a b = absurd b
  chain_have op v (w ∷ vs) ts (us ∷ rest) a (k, b) = chain_have op (f op v w) vs (all_pairs op ts us) rest (pairs_have op ts us v w a k) b

  bracketings_have : (op : Operator) (vs : List Bool) (rest : List (List Tree)) → ListsHave vs rest → AllHave (over_all op vs) (bracketings op rest)
  bracketings_have op [] [] b = (refl, tt)
  bracketings_have op [] (a ∷ rest) b = absurd b
  bracketings_have op (u ∷ vs) [] b = absurd b
  bracketings_have op (u ∷ []) (a ∷ []) (p, b) = p
  bracketings_have op (u ∷ []) (a ∷ ts ∷ rest) (p, b) = absurd b
  bracketings_have op (u ∷ v ∷ vs) (a ∷ []) (p, b) = absurd b
  bracketings_have op (u ∷ v ∷ []) (a ∷ b ∷ []) (p, (q, _)) = pairs_have op a b u v p q
  bracketings_have op (u ∷ v ∷ []) (a ∷ b ∷ ts ∷ rest) (p, (q, c)) = absurd c
  bracketings_have op (u ∷ v ∷ w ∷ vs) (a ∷ b ∷ []) (p, (q, c)) = absurd c
  bracketings_have op (u ∷ v ∷ w ∷ []) (a ∷ b ∷ c ∷ []) (p, (q, (r, _))) = three_have op a b c u v w p q r
  bracketings_have op (u ∷ v ∷ w ∷ []) (a ∷ b ∷ c ∷ ts ∷ rest) (p, (q, (r, e))) = absurd e
  bracketings_have op (u ∷ v ∷ w ∷ x ∷ vs) (a ∷ b ∷ c ∷ []) (p, (q, (r, e))) = absurd e
  bracketings_have op (u ∷ v ∷ w ∷ x ∷ []) (a ∷ b ∷ c ∷ d ∷ []) (p, (q, (r, (s, _)))) = four_have op a b c d u v w x p q r s
  bracketings_have op (u ∷ v ∷ w ∷ x ∷ []) (a ∷ b ∷ c ∷ d ∷ ts ∷ rest) (p, (q, (r, (s, e)))) = absurd e
  bracketings_have op (u ∷ v ∷ w ∷ x ∷ y ∷ vs) (a ∷ b ∷ c ∷ d ∷ []) (p, (q, (r, (s, e)))) = absurd e
  bracketings_have op (u ∷ v ∷ w ∷ x ∷ y ∷ vs) (a ∷ b ∷ c ∷ d ∷ e ∷ rest) (p, k) = chain_have op u (v ∷ w ∷ x ∷ y ∷ vs) a (b ∷ c ∷ d ∷ e ∷ rest) p k

  -- what the expression gives
  abbrev mutual
    pub expr_gives : Expr → Bool
    expr_gives (expr_const b) = h (constant_tree b)
    expr_gives (expr_pin k) = h (leaf k)
    expr_gives (expr_not e) = g (expr_gives e)
    expr_gives (expr_and es) = over_all and_op (exprs_give es)
    expr_gives (expr_or es) = over_all or_op (exprs_give es)

    pub exprs_give : Exprs → List Bool
    exprs_give no_exprs = []
    exprs_give (more_exprs e es) = expr_gives e ∷ exprs_give es

  turned_have : (v : Bool) (ts : List Tree) → AllHave v ts → AllHave (g v) (map inverted ts)
  turned_have v [] a = tt
  turned_have v (t ∷ ts) (e, a) = (turns t ∙ ap g e, turned_have v ts a)

  mutual
    bracketed_have : (e : Expr) → AllHave (expr_gives e) (bracketed e)
    bracketed_have (expr_const b) = (refl, tt)
    bracketed_have (expr_pin k) = (refl, tt)
    bracketed_have (expr_not e) = turned_have (expr_gives e) (bracketed e) (bracketed_have e)
    bracketed_have (expr_and es) = bracketings_have and_op (exprs_give es) (each_bracketed es) (each_have es)
    bracketed_have (expr_or es) = bracketings_have or_op (exprs_give es) (each_bracketed es) (each_have es)

    each_have : (es : Exprs) → ListsHave (exprs_give es) (each_bracketed es)
    each_have no_exprs = tt
    each_have (more_exprs e es) = (bracketed_have e, each_have es)

  chain_from_has : (op : Operator) (t : Tree) (v : Bool) (us : List Tree) (vs : List Bool) → h t ≡ v → map h us ≡ vs → h (chain_from op t us) ≡ over op v vs
  chain_from_has op t v [] [] e k = e
  chain_from_has op t v [] (w ∷ vs) e k = cc
  chain_from_has op t v (u ∷ us) [] e k = cc
  chain_from_has op t v (u ∷ us) (w ∷ vs) e k =
      let first : h u ≡ w = cc in
      let rest : map h us ≡ vs = cc in
      chain_from_has op (tree_by op t u) (f op v w) us vs (joins op t u ∙ ap₂ (f op) e first) rest

  chain_has : (op : Operator) (ts : List Tree) (vs : List Bool) → map h ts ≡ vs → h (chain_of op ts) ≡ over_all op vs
  chain_has op [] [] k = refl
  chain_has op [] (v ∷ vs) k = cc
  chain_has op (t ∷ ts) [] k = cc
  chain_has op (t ∷ ts) (v ∷ vs) k =
      let first : h t ≡ v = cc in
      let rest : map h ts ≡ vs = cc in
      chain_from_has op t v ts vs first rest

  mutual
    chained_has : (e : Expr) → h (chained e) ≡ expr_gives e
    chained_has (expr_const b) = refl
    chained_has (expr_pin k) = refl
    chained_has (expr_not e) = turns (chained e) ∙ ap g (chained_has e)
    chained_has (expr_and es) = chain_has and_op (each_chained es) (exprs_give es) (each_chained_has es)
    chained_has (expr_or es) = chain_has or_op (each_chained es) (exprs_give es) (each_chained_has es)

    each_chained_has : (es : Exprs) → map h (each_chained es) ≡ exprs_give es
    each_chained_has no_exprs = refl
    each_chained_has (more_exprs e es) = ap₂ (λ v vs. v ∷ vs) (chained_has e) (each_chained_has es)

  pub trees_have : (e : Expr) → AllHave (expr_gives e) (trees_of_expr e)
  trees_have e = by_count (leb (length (bracketed e)) 64)
    where
      by_count : (few : Bool) → AllHave (expr_gives e) (cond few (bracketed e) (chained e ∷ []))
      by_count true = bracketed_have e
      by_count false = (chained_has e, tt)
