-- Expressions are told apart by the steps that spell them.
use Rattle.std.specs.Prelude.{ℕ, zero, suc, ◌+◌, ◌-◌, ◌≡◌, true, false, List, [], ◌∷◌, ◌++◌, length, take, drop, map}
use Rattle.std.specs.Prelude.{refl}
use Rattle.std.specs.Coded.{Coded, code_by, coded×, coded_ℕ, coded_list}
use Rattle.std.proofs.Common.{ap, ap₂, sym, ◌∙◌, append_assoc, append-nil, length-append, arith}
use Rattle.std.proofs.lemmas.List.{take_at, drop_at}
use Rattle.lw_laws.specs.Expressions.{Expr, Exprs}
use Rattle.lw_laws.specs.Expressions.Expr.{expr_const, expr_pin, expr_not, expr_and, expr_or}
use Rattle.lw_laws.specs.Expressions.Exprs.{no_exprs, more_exprs}
use Rattle.lw_genlib.specs.declared.op.ExprOp.{ExprOp}
use Rattle.lw_genlib.specs.declared.op.ExprOp.TheVariants.{Const, Pin, Not, And, Or}
use Rattle.lw_fixed.specs.declared.micro.Micro.{Micro}
use Rattle.lw_genlib.specs.Cells.{CellParts}
use Rattle.lw_genlib.specs.Postfix.{part_count, postfix, postfixes, arity, exprs_of, first_expr, expr_by, stepped, run}
use Rattle.lw_genlib.specs.Postfix.{tree_of}

module _ {A : Type 0} (by : ExprOp → List A → A) where
  -- the value of an expression, by what each step makes of the values of its operands
  abbrev mutual
    pub meaning : Expr → A
    meaning (expr_const b) = by (Const b) []
    meaning (expr_pin k) = by (Pin k) []
    meaning (expr_not e) = by Not (meaning e ∷ [])
    meaning (expr_and es) = by (And (part_count es)) (meanings es)
    meaning (expr_or es) = by (Or (part_count es)) (meanings es)

    pub meanings : Exprs → List A
    meanings no_exprs = []
    meanings (more_exprs e es) = meaning e ∷ meanings es

  pub length_meanings : (es : Exprs) → length (meanings es) ≡ part_count es
  length_meanings no_exprs = refl
  length_meanings (more_exprs e es) =
      let others : length (meanings es) ≡ part_count es = length_meanings es in omega arith

  -- a step that takes just the last values
  pub stepped_last : (op : ExprOp) (before values : List A) → length values ≡ arity op
      → stepped by op (before ++ values) ≡ before ++ by op values ∷ []
  stepped_last op before values takes =
      let size : length (before ++ values) ≡ length before + length values = length-append before values in
      let left : length (before ++ values) - arity op ≡ length before = omega arith in
      ap₂ (λ f b. f ++ by op b ∷ [])
      (ap (λ n. take n (before ++ values)) left ∙ take_at before values (length before) refl)
      (ap (λ n. drop n (before ++ values)) left ∙ drop_at before values (length before) refl)

  -- the steps of an expression put its value behind the others
  mutual
    pub run_postfix : (e : Expr) (rest : List ExprOp) (before : List A)
        → run by (postfix e ++ rest) before ≡ run by rest (before ++ meaning e ∷ [])
    run_postfix (expr_const b) rest before =
        ap (run by rest) (ap (stepped by (Const b)) (sym (append-nil before)) ∙ stepped_last (Const b) before [] refl)
    run_postfix (expr_pin k) rest before =
        ap (run by rest) (ap (stepped by (Pin k)) (sym (append-nil before)) ∙ stepped_last (Pin k) before [] refl)
    run_postfix (expr_not e) rest before =
        ap (λ ops. run by ops before) (append_assoc (postfix e) (Not ∷ []) rest)
        ∙ (run_postfix e (Not ∷ rest) before ∙ ap (run by rest) (stepped_last Not before (meaning e ∷ []) refl))
    run_postfix (expr_and es) rest before =
        ap (λ ops. run by ops before) (append_assoc (postfixes es) (And (part_count es) ∷ []) rest)
        ∙ (run_postfixes es (And (part_count es) ∷ rest) before
        ∙ ap (run by rest) (stepped_last (And (part_count es)) before (meanings es) (length_meanings es)))
    run_postfix (expr_or es) rest before =
        ap (λ ops. run by ops before) (append_assoc (postfixes es) (Or (part_count es) ∷ []) rest)
        ∙ (run_postfixes es (Or (part_count es) ∷ rest) before
        ∙ ap (run by rest) (stepped_last (Or (part_count es)) before (meanings es) (length_meanings es)))

    pub run_postfixes : (es : Exprs) (rest : List ExprOp) (before : List A)
        → run by (postfixes es ++ rest) before ≡ run by rest (before ++ meanings es)
    run_postfixes no_exprs rest before = ap (run by rest) (sym (append-nil before))
    run_postfixes (more_exprs e es) rest before =
        ap (λ ops. run by ops before) (append_assoc (postfix e) (postfixes es) rest)
        ∙ (run_postfix e (postfixes es ++ rest) before
        ∙ (run_postfixes es rest (before ++ meaning e ∷ [])
        ∙ ap (run by rest) (append_assoc before (meaning e ∷ []) (meanings es))))

  -- run by themselves, they leave the value alone
  pub run_whole : (e : Expr) → run by (postfix e) [] ≡ meaning e ∷ []
  run_whole e = ap (λ ops. run by ops []) (sym (append-nil (postfix e))) ∙ run_postfix e [] []

mutual
  pub expr_meaning : (e : Expr) → meaning expr_by e ≡ e
  expr_meaning (expr_const b) = refl
  expr_meaning (expr_pin k) = refl
  expr_meaning (expr_not e) = ap expr_not (expr_meaning e)
  expr_meaning (expr_and es) = ap expr_and (exprs_meaning es)
  expr_meaning (expr_or es) = ap expr_or (exprs_meaning es)

  pub exprs_meaning : (es : Exprs) → exprs_of (meanings expr_by es) ≡ es
  exprs_meaning no_exprs = refl
  exprs_meaning (more_exprs e es) = ap₂ more_exprs (expr_meaning e) (exprs_meaning es)

-- the steps of an expression spell it
pub tree_of-postfix : (e : Expr) → tree_of (postfix e) ≡ e
unfolding tree_of
tree_of-postfix e = ap first_expr (run_whole expr_by e) ∙ expr_meaning e

-- a step as two numbers
abbrev pub numbers_of : ExprOp → ℕ × ℕ
numbers_of (Const false) = (0, 0)
numbers_of (Const true) = (0, 1)
numbers_of (Pin k) = (1, k)
numbers_of Not = (2, 0)
numbers_of (And n) = (3, n)
numbers_of (Or n) = (4, n)

abbrev pub op_of : ℕ × ℕ → ExprOp
op_of (zero, zero) = Const false
op_of (zero, suc n) = Const true
op_of (suc zero, n) = Pin n
op_of (suc (suc zero), n) = Not
op_of (suc (suc (suc zero)), n) = And n
op_of (suc (suc (suc (suc m))), n) = Or n

op_back : (op : ExprOp) → op_of (numbers_of op) ≡ op
op_back (Const false) = refl
op_back (Const true) = refl
op_back (Pin k) = refl
op_back Not = refl
op_back (And n) = refl
op_back (Or n) = refl

ops_back : (ops : List ExprOp) → map op_of (map numbers_of ops) ≡ ops
ops_back [] = refl
ops_back (op ∷ ops) = ap₂ (λ o os. o ∷ os) (op_back op) (ops_back ops)

pub expr_back : (e : Expr) → tree_of (map op_of (map numbers_of (postfix e))) ≡ e
expr_back e = ap tree_of (ops_back (postfix e)) ∙ tree_of-postfix e

abbrev pub expr_code : Coded Expr
expr_code = code_by (List (ℕ × ℕ)) (coded_list (coded× coded_ℕ coded_ℕ)) (λ e. map numbers_of (postfix e))
    (λ ns. tree_of (map op_of ns)) expr_back

-- a number of millionths
abbrev pub micro_code : Coded Micro
micro_code = code_by ℕ coded_ℕ (λ m. m.0) (λ n. record { 0 = n }) (λ _. refl)

abbrev pub bytes_code : Coded (List ℕ)
bytes_code = coded_list coded_ℕ

-- a cell by its fields
abbrev pub cell_code : Coded CellParts
cell_code =
    code_by ((List ℕ × Micro) × ((List ℕ × List (List ℕ)) × (List Micro × List Expr)))
    (coded× (coded× bytes_code micro_code)
    (coded× (coded× bytes_code (coded_list bytes_code)) (coded× (coded_list micro_code) (coded_list expr_code))))
    (λ c. ((c.name, c.area), ((c.output, c.pins), (c.delays, c.forms))))
    (λ p. record { name = p.0.0; area = p.0.1; output = p.1.0.0; pins = p.1.0.1; delays = p.1.1.0; forms = p.1.1.1 })
    (λ _. refl)

abbrev pub cells_code : Coded (List CellParts)
cells_code = coded_list cell_code
