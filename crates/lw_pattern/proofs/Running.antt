-- The loop over the steps of an expression: those that are left can go on with the values so far, and give what all give.
use Rattle.std.proofs.Common.{ℕ, ◌+◌, ◌-◌, ◌<◌, ◌≤◌, ◌≡◌, false, List, [], ◌∷◌, ◌++◌, length, take, drop, get_or, min, sym, subst, ap, ◌∙◌, refl, arith, append_assoc, append-nil, length-append, length-take}
use Rattle.std.proofs.lemmas.List.{drop_more, drop_all}
use Rattle.lw_laws.specs.Expressions.{Expr, Exprs}
use Rattle.lw_laws.specs.Expressions.Expr.{expr_const, expr_pin, expr_not, expr_and, expr_or}
use Rattle.lw_laws.specs.Expressions.Exprs.{no_exprs, more_exprs}
use Rattle.lw_genlib.specs.declared.op.ExprOp.{ExprOp}
use Rattle.lw_genlib.specs.declared.op.ExprOp.TheVariants.{Const, Not, And, Or}
use Rattle.lw_genlib.specs.Postfix.{part_count, postfix, postfixes, arity, IsWide, AreWide, stepped, run}
use Rattle.lw_pattern.specs.Growing.{IsWideStep, CanGrow}

mutual
  pub can_grow : (e : Expr) (rest : List ExprOp) (size : ℕ) → IsWide e → CanGrow (size + 1) rest → CanGrow size (postfix e ++ rest)
  can_grow (expr_const b) rest size wide then = (omega arith, tt, subst (λ n. CanGrow (n + 1) rest) (omega arith) then)
  can_grow (expr_pin k) rest size wide then = (omega arith, tt, subst (λ n. CanGrow (n + 1) rest) (omega arith) then)
  can_grow (expr_not e) rest size wide then =
      let here : CanGrow (size + 1) (Not ∷ rest) = (omega arith, tt, subst (λ n. CanGrow (n + 1) rest) (omega arith) then) in
      subst (CanGrow size) (sym (append_assoc (postfix e) (Not ∷ []) rest)) (can_grow e (Not ∷ rest) size wide here)
  can_grow (expr_and es) rest size wide then =
      let left : size + 1 ≡ size + part_count es - part_count es + 1 = omega arith in
      let here : CanGrow (size + part_count es) (And (part_count es) ∷ rest) = (omega arith, wide.0, subst (λ n. CanGrow n rest) left then) in
      subst (CanGrow size) (sym (append_assoc (postfixes es) (And (part_count es) ∷ []) rest)) (can_grow_all es (And (part_count es) ∷ rest) size wide.1 here)
  can_grow (expr_or es) rest size wide then =
      let left : size + 1 ≡ size + part_count es - part_count es + 1 = omega arith in
      let here : CanGrow (size + part_count es) (Or (part_count es) ∷ rest) = (omega arith, wide.0, subst (λ n. CanGrow n rest) left then) in
      subst (CanGrow size) (sym (append_assoc (postfixes es) (Or (part_count es) ∷ []) rest)) (can_grow_all es (Or (part_count es) ∷ rest) size wide.1 here)

  pub can_grow_all : (es : Exprs) (rest : List ExprOp) (size : ℕ) → AreWide es → CanGrow (size + part_count es) rest → CanGrow size (postfixes es ++ rest)
  can_grow_all no_exprs rest size wide then = subst (λ n. CanGrow n rest) (omega arith) then
  can_grow_all (more_exprs e es) rest size wide then =
      let step : size + part_count (more_exprs e es) ≡ (size + 1) + part_count es = omega arith in
      subst (CanGrow size) (sym (append_assoc (postfix e) (postfixes es) rest))
      (can_grow e (postfixes es ++ rest) size wide.0 (can_grow_all es rest (size + 1) wide.1 (subst (λ n. CanGrow n rest) step then)))

pub can_grow_whole : (e : Expr) → IsWide e → CanGrow 0 (postfix e)
can_grow_whole e wide = subst (CanGrow 0) (append-nil (postfix e)) (can_grow e [] 0 wide refl)

module _ {A : Type 0} (by : ExprOp → List A → A) (ops : List ExprOp) where
  pub record IsGrowing (at : ℕ) (stack : List A) : Type 0 where
    pub can : CanGrow (length stack) (drop at ops)
    pub gives : run by (drop at ops) stack ≡ run by ops []

  pub starts : (stack : List A) → stack ≡ [] → CanGrow 0 ops → IsGrowing 0 stack
  starts stack none can = record { can = subst (λ s. CanGrow (length s) ops) (sym none) can; gives = ap (run by ops) none }

  length_stepped : (op : ExprOp) (stack : List A) → length (stepped by op stack) ≡ length stack - arity op + 1
  length_stepped op stack =
      let n = length stack - arity op in
      let size : length (take n stack ++ by op (drop n stack) ∷ []) ≡ length (take n stack) + 1 = length-append (take n stack) (by op (drop n stack) ∷ []) in
      let front : length (take n stack) ≡ min n (length stack) = length-take n stack in
      omega arith

  module _ (at : ℕ) (stack : List A) (growing : IsGrowing at stack) where
    module _ (lt : at < length ops) where
      can_now : CanGrow (length stack) (get_or ops at (Const false) ∷ drop (at + 1) ops)
      can_now = subst (CanGrow (length stack)) (drop_more ops at (Const false) lt) growing.can

      pub next_takes : arity (get_or ops at (Const false)) ≤ length stack
      next_takes = can_now.0

      pub next_wide : IsWideStep (get_or ops at (Const false))
      next_wide = can_now.1

      pub next_is : (stack' : List A) → stack' ≡ stepped by (get_or ops at (Const false)) stack → IsGrowing (at + 1) stack'
      next_is stack' e = record {
        can = subst (λ n. CanGrow n (drop (at + 1) ops)) (sym (ap length e ∙ length_stepped (get_or ops at (Const false)) stack)) can_now.2;
        gives = ap (run by (drop (at + 1) ops)) e ∙ (ap (λ left. run by left stack) (sym (drop_more ops at (Const false) lt)) ∙ growing.gives);
      }

    pub whole_long : length ops ≤ at → length stack ≡ 1
    whole_long past = subst (CanGrow (length stack)) (drop_all at ops past) growing.can

    pub whole_run : length ops ≤ at → run by ops [] ≡ stack
    whole_run past = sym growing.gives ∙ ap (λ left. run by left stack) (drop_all at ops past)

pub first_alone : {A : Type 0} (stack : List A) (x : A) → length stack ≡ 1 → x ≡ get_or stack 0 x → stack ≡ x ∷ []
first_alone [] x long e = absurd (omega arith)
first_alone (y ∷ []) x long e = ap (λ z. z ∷ []) (sym e)
first_alone (y ∷ z ∷ rest) x long e = absurd (omega arith)
