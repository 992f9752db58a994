-- Steps of expressions over literals.
use Rattle.std.proofs.Common.{ℕ, ◌+◌, ◌-◌, ◌<◌, ◌≤◌, ◌≡◌, Bool, true, false, not, cond, ◌&&◌, ◌||◌, List, [], ◌∷◌, ◌++◌, map, length, take, drop, get_or, All, refl, ap, ap₂, sym, subst, ◌∙◌, arith, inl, inr, append_assoc, append-nil}
use Rattle.std.specs.List.{list_all, list_any}
use Rattle.std.specs.Int.{from_bool}
use Rattle.std.proofs.lemmas.List.{drop-map, drop_all, drop_more, get_or-map, length-drop, length-map, length-take-le, length_push, map_more, map_push, take-map, take_all}
use Rattle.std.proofs.lemmas.List.Elements.{All-push, All-take}
use Rattle.std.proofs.lemmas.List.Folds.{list_all-append, list_any-append}
use Rattle.lw_aig.specs.declared.gate.Gate.{Gate}
use Rattle.lw_aig.specs.declared.gate.Gate.TheVariants.{Zero}
use Rattle.lw_aig.specs.declared.literal.Literal.{Literal}
use Rattle.lw_aig.specs.Aigs.{AreNodeValues, IsAig, IsBelow, IsConjunction}
use Rattle.lw_aig.specs.Literals.{complement, literal_value}
use Rattle.lw_aig.proofs.Literals.{value_of_complement}
use Rattle.lw_genlib.specs.declared.op.ExprOp.{ExprOp}
use Rattle.lw_genlib.specs.declared.op.ExprOp.TheVariants.{Const, Pin, Not, And, Or}
use Rattle.lw_genlib.specs.Codes.{meaning, meanings, run_whole}
use Rattle.lw_genlib.specs.Cells.{CellParts, IsCell, cell_value}
use Rattle.lw_genlib.specs.Postfix.{arity, first_expr, part_count, postfix, postfixes, run, stepped}
use Rattle.lw_genlib.specs.Runs.{IsPinOf}
use Rattle.lw_genlib.proofs.Agreeing.{first-form}
use Rattle.lw_joint.specs.Joint.{IsDisjunction}
use Rattle.lw_joint.proofs.Columns.{all_below, complement_below, constant_below}
use Rattle.lw_laws.specs.Expressions.{Expr, Exprs, MentionsPin, SomeMentionsPin, all_true, expr_value, some_true}
use Rattle.lw_laws.specs.Expressions.Expr.{expr_const, expr_pin, expr_not, expr_and, expr_or}
use Rattle.lw_laws.specs.Expressions.Exprs.{no_exprs, more_exprs}
use Rattle.lw_laws.specs.Networks.{given}
use Rattle.lw_sweep.specs.Sweeps.{IsExtended}
use Rattle.lw_sweep.proofs.Growing.{values_before}
use Rattle.lw_equal.specs.Cells.{IsMade, IsStep, Makes, itself, truth_by, values_of}

-- What literals make.

pub makes_later : (old new : List Gate) (lits : List Literal) (f : List Bool → Bool) (l : Literal) → IsExtended old new → Makes old lits f l → Makes new lits f l
makes_later old new lits f l extended is =
    let low = is.within in
    let longer = extended.longer in
    record { within = omega arith; always = λ v nodes. is.always v (values_before old new v extended nodes) }

pub all_of_none : (gates : List Gate) → IsAig gates → Makes gates [] (list_all itself) (record { 0 = 1 })
all_of_none gates aig =
    let first = constant_below gates aig in
    record { within = omega arith; always = λ v nodes. ap not (nodes.allowed 0 Zero aig.zero_first) }

pub some_of_none : (gates : List Gate) → IsAig gates → Makes gates [] (list_any itself) (record { 0 = 0 })
some_of_none gates aig =
    let first = constant_below gates aig in
    record { within = omega arith; always = λ v nodes. nodes.allowed 0 Zero aig.zero_first }

and_true : (b : Bool) → (b && true) ≡ b
and_true true = refl
and_true false = refl

or_false : (b : Bool) → (b || false) ≡ b
or_false true = refl
or_false false = refl

module _ (old new : List Gate) (parts : List Literal) (i : ℕ) (part before l : Literal) (extended : IsExtended old new) (lt : i < length parts) (here : part ≡ get_or parts i part) where
  one_more : (v : ℕ → Bool) → values_of v (take (i + 1) parts) ≡ values_of v (take i parts) ++ literal_value v part ∷ []
  one_more v = map_more (literal_value v) parts i part lt ∙ ap (λ p. values_of v (take i parts) ++ literal_value v p ∷ []) (sym here)

  pub all_of_more : Makes old (take i parts) (list_all itself) before → IsConjunction new before part l → Makes new (take (i + 1) parts) (list_all itself) l
  all_of_more was is = record {
    within = is.within;
    always = λ v nodes.
        is.always v nodes
        ∙ (ap (λ b. b && literal_value v part) (was.always v (values_before old new v extended nodes))
        ∙ (ap (λ b. list_all itself (values_of v (take i parts)) && b) (sym (and_true (literal_value v part)))
        ∙ (sym (list_all-append itself (values_of v (take i parts)) (literal_value v part ∷ []))
        ∙ ap (list_all itself) (sym (one_more v)))));
  }

  pub some_of_more : Makes old (take i parts) (list_any itself) before → IsDisjunction new before part l → Makes new (take (i + 1) parts) (list_any itself) l
  some_of_more was is = record {
    within = is.within;
    always = λ v nodes.
        is.always v nodes
        ∙ (ap (λ b. b || literal_value v part) (was.always v (values_before old new v extended nodes))
        ∙ (ap (λ b. list_any itself (values_of v (take i parts)) || b) (sym (or_false (literal_value v part)))
        ∙ (sym (list_any-append itself (values_of v (take i parts)) (literal_value v part ∷ []))
        ∙ ap (list_any itself) (sym (one_more v)))));
  }

-- The literal of a step.

pub made_constant : (gates : List Gate) (pins parts : List Literal) (b : Bool) (l : Literal) → IsAig gates → l.0 ≡ from_bool b → IsMade gates pins (Const b) parts l
made_constant gates pins parts true l aig is =
    let first = constant_below gates aig in
    record { within = omega arith; always = λ v nodes. ap (λ n. literal_value v (record { 0 = n })) is ∙ ap not (nodes.allowed 0 Zero aig.zero_first) }
made_constant gates pins parts false l aig is =
    let first = constant_below gates aig in
    record { within = omega arith; always = λ v nodes. ap (λ n. literal_value v (record { 0 = n })) is ∙ nodes.allowed 0 Zero aig.zero_first }

pub made_pin : (gates : List Gate) (pins parts : List Literal) (k : ℕ) (d l : Literal) → k < length pins → All (IsBelow (length gates)) pins → l ≡ get_or pins k d → IsMade gates pins (Pin k) parts l
made_pin gates pins parts k d l lt below is = record {
  within = subst (IsBelow (length gates)) (sym is) (below k d lt);
  always = λ v nodes. ap (literal_value v) is ∙ sym (get_or-map (literal_value v) pins k d false lt);
}

pub made_not : (gates : List Gate) (pins parts : List Literal) (d l : Literal) → 0 < length parts → All (IsBelow (length gates)) parts → l ≡ complement (get_or parts 0 d) → IsMade gates pins Not parts l
made_not gates pins parts d l lt below is = record {
  within = complement_below (length gates) (get_or parts 0 d) l is (below 0 d lt);
  always = λ v nodes. ap (literal_value v) is ∙ (value_of_complement v (get_or parts 0 d) ∙ ap not (sym (get_or-map (literal_value v) parts 0 d false lt)));
}

pub made_and : (gates : List Gate) (pins parts : List Literal) (n : ℕ) (l : Literal) → Makes gates parts (list_all itself) l → IsMade gates pins (And n) parts l
made_and gates pins parts n l is = record { within = is.within; always = is.always }

pub made_or : (gates : List Gate) (pins parts : List Literal) (n : ℕ) (l : Literal) → Makes gates parts (list_any itself) l → IsMade gates pins (Or n) parts l
made_or gates pins parts n l is = record { within = is.within; always = is.always }

-- the literals from a place on
pub behind : (base : ℕ) (stack : List Literal) → take (length stack - base) (drop base stack) ≡ drop base stack
behind base stack = let size = length-drop base stack in take_all (length stack - base) (drop base stack) (omega (arith, size))

-- a step over a stack
pub stack_step : (old new : List Gate) (pins : List Literal) (op : ExprOp) (stack : List Literal) (base : ℕ) (l : Literal) → IsExtended old new → arity op ≤ length stack → base ≡ length stack - arity op
    → All (IsBelow (length old)) stack → IsMade new pins op (drop base stack) l → IsStep new pins op stack (take base stack ++ l ∷ [])
stack_step old new pins op stack base l extended takes is_base below made = record {
  within = All-push (IsBelow (length new)) (take base stack) l (All-take (IsBelow (length new)) base stack (all_below old new stack extended below)) made.within;
  long =
      let front = length-take-le base stack (omega arith) in
      let more = length_push (take base stack) l in
      omega arith;
  always = λ v nodes.
      let size = length-map stack (literal_value v) in
      let same : base ≡ length (values_of v stack) - arity op = omega arith in
      map_push (literal_value v) (take base stack) l
      ∙ ap₂ (λ (f : List Bool) (b : Bool). f ++ b ∷ [])
      (sym (take-map (literal_value v) base stack) ∙ ap (λ n. take n (values_of v stack)) same)
      (made.always v nodes ∙ ap (truth_by (values_of v pins) op) (sym (drop-map (literal_value v) base stack) ∙ ap (λ n. drop n (values_of v stack)) same));
}

-- Which steps can run.

-- On so many literals the steps find those that they take, and leave one.
abbrev pub CanRun : ℕ → ℕ → List ExprOp → Type 0
CanRun pins size [] = size ≡ 1
CanRun pins size (op ∷ ops) = (arity op ≤ size) × IsPinOf pins op × CanRun pins (size - arity op + 1) ops

module _ (pins : ℕ) where
  mutual
    can_run : (e : Expr) (rest : List ExprOp) (size : ℕ) → ((k : ℕ) → MentionsPin e k → k < pins) → CanRun pins (size + 1) rest → CanRun pins size (postfix e ++ rest)
    can_run (expr_const b) rest size below then = (omega arith, tt, subst (λ n. CanRun pins (n + 1) rest) (omega arith) then)
    can_run (expr_pin k) rest size below then = (omega arith, below k refl, subst (λ n. CanRun pins (n + 1) rest) (omega arith) then)
    can_run (expr_not e) rest size below then =
        let here : CanRun pins (size + 1) (Not ∷ rest) = (omega arith, tt, subst (λ n. CanRun pins (n + 1) rest) (omega arith) then) in
        subst (CanRun pins size) (sym (append_assoc (postfix e) (Not ∷ []) rest)) (can_run e (Not ∷ rest) size below here)
    can_run (expr_and es) rest size below then =
        let left : size + 1 ≡ size + part_count es - part_count es + 1 = omega arith in
        let here : CanRun pins (size + part_count es) (And (part_count es) ∷ rest) = (omega arith, tt, subst (λ n. CanRun pins n rest) left then) in
        subst (CanRun pins size) (sym (append_assoc (postfixes es) (And (part_count es) ∷ []) rest)) (can_run_all es (And (part_count es) ∷ rest) size below here)
    can_run (expr_or es) rest size below then =
        let left : size + 1 ≡ size + part_count es - part_count es + 1 = omega arith in
        let here : CanRun pins (size + part_count es) (Or (part_count es) ∷ rest) = (omega arith, tt, subst (λ n. CanRun pins n rest) left then) in
        subst (CanRun pins size) (sym (append_assoc (postfixes es) (Or (part_count es) ∷ []) rest)) (can_run_all es (Or (part_count es) ∷ rest) size below here)

    can_run_all : (es : Exprs) (rest : List ExprOp) (size : ℕ) → ((k : ℕ) → SomeMentionsPin es k → k < pins) → CanRun pins (size + part_count es) rest → CanRun pins size (postfixes es ++ rest)
    can_run_all no_exprs rest size below then = subst (λ n. CanRun pins n rest) (omega arith) then
    can_run_all (more_exprs e es) rest size below then =
        let others : CanRun pins (size + 1) (postfixes es ++ rest) = can_run_all es rest (size + 1) (λ k m. below k (inr m)) (subst (λ n. CanRun pins n rest) (omega arith) then) in
        subst (CanRun pins size) (sym (append_assoc (postfix e) (postfixes es) rest)) (can_run e (postfixes es ++ rest) size (λ k m. below k (inl m)) others)

module _ (cell : CellParts) (forms : List Expr) (e : Expr) (is : IsCell cell) (same : forms ≡ cell.forms) (here : e ≡ get_or forms 0 e) where
  at_first : e ≡ get_or cell.forms 0 e
  at_first = subst (λ (es : List Expr). e ≡ get_or es 0 e) same here

  -- the steps of the first form of a cell can run
  pub form_can_run : (pins : ℕ) → pins ≡ length cell.pins → CanRun pins 0 (postfix e)
  form_can_run pins count =
      let some = is.some_form in
      let form = is.forms 0 e some in
      subst (CanRun pins 0) (append-nil (postfix e))
      (can_run pins e [] 0 (λ k m.
      let low : k < length cell.pins = (form.over k).0 (subst (λ f. MentionsPin f k) at_first m) in
      omega (arith, low, count)) refl)

  -- and they leave the value of the cell
  pub cell_of_form : (gates : List Gate) (pins : List Literal) (l : Literal) → Makes gates pins (λ ys. expr_value (given ys) e) l → Makes gates pins (cell_value cell) l
  cell_of_form gates pins l made = subst (λ f. Makes gates pins (λ ys. expr_value (given ys) f) l) (first-form cell.forms e is.some_form at_first) made

-- The loop over the steps: those that are left can run on the literals so far, and give what all give.
pub record IsRunning (gates : List Gate) (pins : List Literal) (ops : List ExprOp) (at : ℕ) (stack : List Literal) : Type 0 where
  pub within : All (IsBelow (length gates)) stack
  pub can : CanRun (length pins) (length stack) (drop at ops)
  pub gives : (v : ℕ → Bool) → AreNodeValues gates v → run (truth_by (values_of v pins)) (drop at ops) (values_of v stack) ≡ run (truth_by (values_of v pins)) ops []

pub starts : (gates : List Gate) (pins : List Literal) (ops : List ExprOp) → CanRun (length pins) 0 ops → IsRunning gates pins ops 0 []
starts gates pins ops can = record { within = λ k d lt. absurd (omega arith); can = can; gives = λ v nodes. refl }

module _ (gates : List Gate) (pins : List Literal) (ops : List ExprOp) (at : ℕ) (stack : List Literal) (op : ExprOp) (running : IsRunning gates pins ops at stack) (lt : at < length ops) (here : op ≡ get_or ops at op) where
  left_is : drop at ops ≡ op ∷ drop (at + 1) ops
  left_is = drop_more ops at op lt ∙ ap (λ o. o ∷ drop (at + 1) ops) (sym here)

  pub can_step : CanRun (length pins) (length stack) (op ∷ drop (at + 1) ops)
  can_step = subst (CanRun (length pins) (length stack)) left_is running.can

  pub runs_on : (new : List Gate) (stack' : List Literal) → IsExtended gates new → IsStep new pins op stack stack' → IsRunning new pins ops (at + 1) stack'
  runs_on new stack' extended step = record {
    within = step.within;
    can = subst (λ n. CanRun (length pins) n (drop (at + 1) ops)) (sym step.long) can_step.2;
    gives = λ v nodes.
        ap (run (truth_by (values_of v pins)) (drop (at + 1) ops)) (step.always v nodes)
        ∙ (ap (λ (left : List ExprOp). run (truth_by (values_of v pins)) left (values_of v stack)) (sym left_is)
        ∙ running.gives v (values_before gates new v extended nodes));
  }

-- What steps mean.

module _ (y : List Bool) where
  mutual
    pub meaning_is : (e : Expr) → meaning (truth_by y) e ≡ expr_value (given y) e
    meaning_is (expr_const b) = refl
    meaning_is (expr_pin k) = refl
    meaning_is (expr_not e) = ap not (meaning_is e)
    meaning_is (expr_and es) = all_is es
    meaning_is (expr_or es) = some_is es

    all_is : (es : Exprs) → list_all itself (meanings (truth_by y) es) ≡ all_true (given y) es
    all_is no_exprs = refl
    all_is (more_exprs e es) = ap₂ (λ a b. a && b) (meaning_is e) (all_is es)

    some_is : (es : Exprs) → list_any itself (meanings (truth_by y) es) ≡ some_true (given y) es
    some_is no_exprs = refl
    some_is (more_exprs e es) = ap₂ (λ a b. a || b) (meaning_is e) (some_is es)

first_of_one : (b : Bool) (bs : List Bool) → bs ≡ b ∷ [] → get_or bs 0 false ≡ b
first_of_one b bs e = ap (λ (xs : List Bool). get_or xs 0 false) e

-- the whole run leaves the literal of the expression
pub whole_run : (gates : List Gate) (pins : List Literal) (e : Expr) (at : ℕ) (stack : List Literal) (d : Literal) → IsRunning gates pins (postfix e) at stack → length (postfix e) ≤ at → (0 < length stack) × Makes gates pins (λ ys. expr_value (given ys) e) (get_or stack 0 d)
whole_run gates pins e at stack d running past =
    let none : drop at (postfix e) ≡ [] = drop_all at (postfix e) past in
    let one : length stack ≡ 1 = subst (CanRun (length pins) (length stack)) none running.can in
    let some : 0 < length stack = omega arith in (
      some,
      record {
        within = running.within 0 d some;
        always = λ v nodes.
            let values = values_of v stack in
            let gives = running.gives v nodes in
            let leaves : values ≡ meaning (truth_by (values_of v pins)) e ∷ [] =
            ap (λ (left : List ExprOp). run (truth_by (values_of v pins)) left values) (sym none) ∙ (gives ∙ run_whole (truth_by (values_of v pins)) e) in
            sym (get_or-map (literal_value v) stack 0 d false some)
            ∙ (first_of_one (meaning (truth_by (values_of v pins)) e) values leaves
            ∙ meaning_is (values_of v pins) e);
      },
    )
