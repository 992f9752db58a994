use Rattle.std.proofs.Common.{◌+◌, sym, subst, take}
use Rattle.std.proofs.lemmas.List.{take_all}
use Rattle.lw_clauses.specs.Checks.{IsLeft}
use Rattle.lw_clauses.proofs.Leaving.{left_without, left_with}
use Rattle.lw_clauses.proofs.denied.Denied.left_of.Goals as goal
use Rattle.lw_clauses.proofs.denied.Denied.left_of.Goals.{then-not-has+in-Nothing, else-not-has}

pub loop-literal-preserved : goal.loop-literal-preserved
loop-literal-preserved c =
    let i = c.loop-literal.literal-index in
    elim c.if-not-has.branch [
      | then-not-has+in-Nothing w ↦
          subst (IsLeft c.args.self.now (take (i + 1) c.args.antecedent.now)) (sym w.left-is) (left_with _ _ i _ c.loop-literal-test.true c.loop-literal.left w.in-Nothing.is c.loop-literal.invariant)
      | else-not-has w ↦
          subst (IsLeft c.args.self.now (take (i + 1) c.args.antecedent.now)) (sym w.left-is) (left_without _ _ i _ c.loop-literal-test.true c.loop-literal.left c.loop-literal.invariant (c.has.ensures w.if-not-has.false))
    ]

pub returns : goal.returns
returns c = subst (λ xs. IsLeft c.args.self.now xs c.loop-literal.left) (take_all c.loop-literal.literal-index c.args.antecedent.now c.loop-literal-test.false) c.loop-literal.invariant
