-- What the steps of an expression leave: its trees, and how many these are.
use Rattle.std.proofs.Common.{ℕ, ◌<◌, ◌≤◌, ◌≡◌, true, false, cond, leb, List, [], ◌∷◌, length, map, refl, sym, ap, ap₂, ◌∙◌, arith}
use Rattle.std.proofs.lemmas.List.{length-map}
use Rattle.std.proofs.lemmas.Bool.{le-leb}
use Rattle.lw_laws.specs.Trees.{Tree}
use Rattle.lw_laws.specs.Expressions.{Expr, Exprs}
use Rattle.lw_laws.specs.Expressions.Expr.{expr_const, expr_pin, expr_not, expr_and, expr_or}
use Rattle.lw_laws.specs.Expressions.Exprs.{no_exprs, more_exprs}
use Rattle.lw_laws.specs.Patterns.{Operator, tree_by, inverted, left_chain, bracketings, bracketed, each_bracketed, chain_from, chain_of, chained, each_chained, trees_of_expr}
use Rattle.lw_laws.specs.Patterns.Operator.{and_op, or_op}
use Rattle.lw_genlib.specs.Postfix.{part_count, postfix, run}
use Rattle.lw_genlib.specs.Codes.{meaning, meanings, run_whole}
use Rattle.lw_pattern.specs.declared.step.Bracketing.TheVariants.{Every, LeftChain}
use Rattle.lw_pattern.specs.Growing.{chained_all, trees_by, capped, capped_product, shape_count, count_by}
use Rattle.lw_pattern.proofs.Counts.{capped_bracketings}

-- all bracketings
mutual
  every_meaning : (e : Expr) → meaning (trees_by Every) e ≡ bracketed e
  every_meaning (expr_const b) = refl
  every_meaning (expr_pin k) = refl
  every_meaning (expr_not e) = ap (map inverted) (every_meaning e)
  every_meaning (expr_and es) = ap (bracketings and_op) (every_meanings es)
  every_meaning (expr_or es) = ap (bracketings or_op) (every_meanings es)

  every_meanings : (es : Exprs) → meanings (trees_by Every) es ≡ each_bracketed es
  every_meanings no_exprs = refl
  every_meanings (more_exprs e es) = ap₂ (λ ts rest. ts ∷ rest) (every_meaning e) (every_meanings es)

-- left chains
abbrev alone : Tree → List Tree
alone t = t ∷ []

chain_alone : (op : Operator) (t : Tree) (us : List Tree) → left_chain op (alone t) (map alone us) ≡ alone (chain_from op t us)
chain_alone op t [] = refl
chain_alone op t (u ∷ us) = chain_alone op (tree_by op t u) us

chain_all_alone : (op : Operator) (ts : List Tree) → chained_all op (map alone ts) ≡ alone (chain_of op ts)
chain_all_alone op [] = refl
chain_all_alone op (t ∷ ts) = chain_alone op t ts

mutual
  chain_meaning : (e : Expr) → meaning (trees_by LeftChain) e ≡ alone (chained e)
  chain_meaning (expr_const b) = refl
  chain_meaning (expr_pin k) = refl
  chain_meaning (expr_not e) = ap (map inverted) (chain_meaning e)
  chain_meaning (expr_and es) = ap (chained_all and_op) (chain_meanings es) ∙ chain_all_alone and_op (each_chained es)
  chain_meaning (expr_or es) = ap (chained_all or_op) (chain_meanings es) ∙ chain_all_alone or_op (each_chained es)

  chain_meanings : (es : Exprs) → meanings (trees_by LeftChain) es ≡ map alone (each_chained es)
  chain_meanings no_exprs = refl
  chain_meanings (more_exprs e es) = ap₂ (λ ts rest. ts ∷ rest) (chain_meaning e) (chain_meanings es)

-- numbers of trees
abbrev size : List Tree → ℕ
size ts = capped (length ts)

part_length : (es : Exprs) → part_count es ≡ length (each_bracketed es)
part_length no_exprs = refl
part_length (more_exprs e es) = let rest : part_count es ≡ length (each_bracketed es) = part_length es in omega arith

mutual
  count_meaning : (e : Expr) → meaning count_by e ≡ size (bracketed e)
  count_meaning (expr_const b) = refl
  count_meaning (expr_pin k) = refl
  count_meaning (expr_not e) = count_meaning e ∙ ap capped (sym (length-map (bracketed e) inverted))
  count_meaning (expr_and es) = ap₂ (λ n ns. capped_product (shape_count n) ns) (part_length es) (count_meanings es) ∙ capped_bracketings and_op (each_bracketed es)
  count_meaning (expr_or es) = ap₂ (λ n ns. capped_product (shape_count n) ns) (part_length es) (count_meanings es) ∙ capped_bracketings or_op (each_bracketed es)

  count_meanings : (es : Exprs) → meanings count_by es ≡ map size (each_bracketed es)
  count_meanings no_exprs = refl
  count_meanings (more_exprs e es) = ap₂ (λ n ns. n ∷ ns) (count_meaning e) (count_meanings es)

-- the one value that is left
left_alone : {A : Type 0} (x y : A) → x ∷ [] ≡ y ∷ [] → x ≡ y
left_alone x y e = cc

pub count_left : (e : Expr) (n : ℕ) → run count_by (postfix e) [] ≡ n ∷ [] → n ≡ capped (length (bracketed e))
count_left e n left = left_alone n (meaning count_by e) (sym left ∙ run_whole count_by e) ∙ count_meaning e

pub every_left : (e : Expr) (ts : List Tree) → run (trees_by Every) (postfix e) [] ≡ ts ∷ [] → capped (length (bracketed e)) ≤ 64 → ts ≡ trees_of_expr e
every_left e ts left few =
    let small : leb (length (bracketed e)) 64 ≡ true = le-leb (length (bracketed e)) 64 (omega arith) in
    left_alone ts (meaning (trees_by Every) e) (sym left ∙ run_whole (trees_by Every) e) ∙ (every_meaning e ∙ ap (λ b. cond b (bracketed e) (chained e ∷ [])) (sym small))

pub chain_left : (e : Expr) (ts : List Tree) → run (trees_by LeftChain) (postfix e) [] ≡ ts ∷ [] → 64 < capped (length (bracketed e)) → ts ≡ trees_of_expr e
chain_left e ts left many =
    let large : leb (length (bracketed e)) 64 ≡ false = grind (arith, many) in
    left_alone ts (meaning (trees_by LeftChain) e) (sym left ∙ run_whole (trees_by LeftChain) e) ∙ (chain_meaning e ∙ ap (λ b. cond b (bracketed e) (chained e ∷ [])) (sym large))
