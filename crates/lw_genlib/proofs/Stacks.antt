-- A stack in an array: its first entries are the values so far.
use Rattle.std.proofs.Common.{ℕ, ◌+◌, ◌-◌, ◌<◌, ◌≤◌, ◌≡◌, List, [], ◌∷◌, ◌++◌, length, take, drop, set, sym, ap, ap₂, ◌∙◌, arith}
use Rattle.std.proofs.lemmas.List.{take-take, take_more_set, drop-take, length-take-le}
use Rattle.lw_genlib.specs.declared.op.ExprOp.{ExprOp}
use Rattle.lw_genlib.specs.Postfix.{arity, stepped}

pub stack_stepped : (by : ExprOp → List ℕ → ℕ) (op : ExprOp) (stack : List ℕ) (size base v : ℕ) → size ≤ length stack → base + arity op ≡ size → base < length stack
    → v ≡ by op (take (size - base) (drop base stack)) → take (base + 1) (set stack base v) ≡ stepped by op (take size stack)
stack_stepped by op stack size base v held takes room value =
    let long : length (take size stack) ≡ size = length-take-le size stack held in
    let left : length (take size stack) - arity op ≡ base = omega arith in
    let whole : base + (size - base) ≡ size = omega arith in
    let front : take (length (take size stack) - arity op) (take size stack) ≡ take base stack =
    ap (λ n. take n (take size stack)) left ∙ take-take base size stack (omega arith) in
    let last : drop (length (take size stack) - arity op) (take size stack) ≡ take (size - base) (drop base stack) =
    ap (λ n. drop n (take size stack)) left ∙ (ap (λ n. drop base (take n stack)) (sym whole) ∙ drop-take base (size - base) stack) in
    take_more_set stack base v room ∙ ap₂ (λ f b. f ++ b ∷ []) (sym front) (value ∙ ap (by op) (sym last))
