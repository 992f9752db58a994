-- The steps of an expression can run, and what they leave.
use Rattle.std.proofs.Common.{ℕ, ◌+◌, ◌-◌, ◌<◌, ◌≤◌, ◌≡◌, false, List, [], ◌∷◌, ◌++◌, length, take, drop, get_or, sym, subst, ap, ◌∙◌, refl, inl, inr, arith, append_assoc}
use Rattle.std.proofs.lemmas.List.{drop_more, drop_all}
use Rattle.lw_laws.specs.Expressions.{Expr, Exprs, MentionsPin, SomeMentionsPin}
use Rattle.lw_laws.specs.Expressions.Expr.{expr_const, expr_pin, expr_not, expr_and, expr_or}
use Rattle.lw_laws.specs.Expressions.Exprs.{no_exprs, more_exprs}
use Rattle.lw_genlib.specs.declared.op.ExprOp.{ExprOp}
use Rattle.lw_genlib.specs.declared.op.ExprOp.TheVariants.{Const, Not, And, Or}
use Rattle.lw_genlib.specs.Postfix.{part_count, postfix, postfixes, arity, literals, literals_of_all, IsWide, AreWide, stepped, run}
use Rattle.lw_genlib.specs.Runs.{CanRun, IsPinOf}

-- an expression has a literal, and expressions have one each at least
mutual
  pub some_literal : (e : Expr) → IsWide e → 1 ≤ literals e
  some_literal (expr_const b) wide = omega arith
  some_literal (expr_pin k) wide = omega arith
  some_literal (expr_not e) wide = some_literal e wide
  some_literal (expr_and es) wide = omega (arith, some_literals es wide.1, wide.0)
  some_literal (expr_or es) wide = omega (arith, some_literals es wide.1, wide.0)

  pub some_literals : (es : Exprs) → AreWide es → part_count es ≤ literals_of_all es
  some_literals no_exprs wide = omega arith
  some_literals (more_exprs e es) wide = omega (arith, some_literal e wide.0, some_literals es wide.1)

first_alone : (xs : List ℕ) → 0 < length xs → take 1 xs ≡ get_or xs 0 0 ∷ []
first_alone [] some = absurd (omega arith)
first_alone (x ∷ xs) some = refl

-- The loop over the steps: those that are left can run on the values so far, and give what all give.
pub record IsRunning (by : ExprOp → List ℕ → ℕ) (pins : ℕ) (ops : List ExprOp) (at size : ℕ) (stack : List ℕ) : Type 0 where
  pub held : size ≤ 64
  pub long : length stack ≡ 64
  pub can : CanRun pins size (drop at ops)
  pub gives : run by (drop at ops) (take size stack) ≡ run by ops []

pub starts : (by : ExprOp → List ℕ → ℕ) (pins : ℕ) (ops : List ExprOp) (stack : List ℕ) → length stack ≡ 64 → CanRun pins 0 ops → IsRunning by pins ops 0 0 stack
starts by pins ops stack long can = record { held = omega arith; long = long; can = can; gives = refl }

module _ (by : ExprOp → List ℕ → ℕ) (pins : ℕ) (ops : List ExprOp) (at size : ℕ) (stack : List ℕ) (running : IsRunning by pins ops at size stack) where
  module _ (lt : at < length ops) where
    can_now : CanRun pins size (get_or ops at (Const false) ∷ drop (at + 1) ops)
    can_now = subst (CanRun pins size) (drop_more ops at (Const false) lt) running.can

    pub next_step : (arity (get_or ops at (Const false)) ≤ size) × (size - arity (get_or ops at (Const false)) < 64) × IsPinOf pins (get_or ops at (Const false))
    next_step = (can_now.0, can_now.1, can_now.2)

    pub next_is : (size' : ℕ) (stack' : List ℕ) → size' ≡ size - arity (get_or ops at (Const false)) + 1 → take size' stack' ≡ stepped by (get_or ops at (Const false)) (take size stack) → length stack' ≡ 64
        → IsRunning by pins ops (at + 1) size' stack'
    next_is size' stack' grown values long = record {
      held = let room : size - arity (get_or ops at (Const false)) < 64 = can_now.1 in omega arith;
      long = long;
      can = subst (λ n. CanRun pins n (drop (at + 1) ops)) (sym grown) can_now.3;
      gives = ap (run by (drop (at + 1) ops)) values ∙ (ap (λ left. run by left (take size stack)) (sym (drop_more ops at (Const false) lt)) ∙ running.gives);
    }

  pub whole_run : length ops ≤ at → run by ops [] ≡ get_or stack 0 0 ∷ []
  whole_run past =
      let none : drop at ops ≡ [] = drop_all at ops past in
      let one : size ≡ 1 = subst (CanRun pins size) none running.can in
      let long : length stack ≡ 64 = running.long in
      sym running.gives ∙ (ap (λ left. run by left (take size stack)) none ∙ (ap (λ n. take n stack) one ∙ first_alone stack (omega arith)))

module _ (pins : ℕ) where
  mutual
    pub can_run : (e : Expr) (rest : List ExprOp) (size : ℕ) → IsWide e → ((k : ℕ) → MentionsPin e k → k < pins) → size + literals e ≤ 64 → CanRun pins (size + 1) rest → CanRun pins size (postfix e ++ rest)
    can_run (expr_const b) rest size wide below few then = (omega arith, omega arith, tt, subst (λ n. CanRun pins (n + 1) rest) (omega arith) then)
    can_run (expr_pin k) rest size wide below few then = (omega arith, omega arith, below k refl, subst (λ n. CanRun pins (n + 1) rest) (omega arith) then)
    can_run (expr_not e) rest size wide below few then =
        let one : 1 ≤ literals e = some_literal e wide in
        let few' : size + literals e ≤ 64 = few in
        let here : CanRun pins (size + 1) (Not ∷ rest) = (omega arith, omega arith, tt, subst (λ n. CanRun pins (n + 1) rest) (omega arith) then) in
        subst (CanRun pins size) (sym (append_assoc (postfix e) (Not ∷ []) rest)) (can_run e (Not ∷ rest) size wide below few here)
    can_run (expr_and es) rest size wide below few then =
        let parts : part_count es ≤ literals_of_all es = some_literals es wide.1 in
        let many : 2 ≤ part_count es = wide.0 in
        let left : size + 1 ≡ size + part_count es - part_count es + 1 = omega arith in
        let here : CanRun pins (size + part_count es) (And (part_count es) ∷ rest) = (omega arith, omega arith, tt, subst (λ n. CanRun pins n rest) left then) in
        subst (CanRun pins size) (sym (append_assoc (postfixes es) (And (part_count es) ∷ []) rest)) (can_run_all es (And (part_count es) ∷ rest) size wide.1 below few here)
    can_run (expr_or es) rest size wide below few then =
        let parts : part_count es ≤ literals_of_all es = some_literals es wide.1 in
        let many : 2 ≤ part_count es = wide.0 in
        let left : size + 1 ≡ size + part_count es - part_count es + 1 = omega arith in
        let here : CanRun pins (size + part_count es) (Or (part_count es) ∷ rest) = (omega arith, omega arith, tt, subst (λ n. CanRun pins n rest) left then) in
        subst (CanRun pins size) (sym (append_assoc (postfixes es) (Or (part_count es) ∷ []) rest)) (can_run_all es (Or (part_count es) ∷ rest) size wide.1 below few here)

    pub can_run_all : (es : Exprs) (rest : List ExprOp) (size : ℕ) → AreWide es → ((k : ℕ) → SomeMentionsPin es k → k < pins) → size + literals_of_all es ≤ 64 → CanRun pins (size + part_count es) rest → CanRun pins size (postfixes es ++ rest)
    can_run_all no_exprs rest size wide below few then = subst (λ n. CanRun pins n rest) (omega arith) then
    can_run_all (more_exprs e es) rest size wide below few then =
        let one : 1 ≤ literals e = some_literal e wide.0 in
        let others : CanRun pins (size + 1) (postfixes es ++ rest) =
        can_run_all es rest (size + 1) wide.1 (λ k m. below k (inr m)) (omega arith) (subst (λ n. CanRun pins n rest) (omega arith) then) in
        subst (CanRun pins size) (sym (append_assoc (postfix e) (postfixes es) rest)) (can_run e (postfixes es ++ rest) size wide.0 (λ k m. below k (inl m)) (omega arith) others)
