use Rattle.std.proofs.Common.{◌≡◌, ◌+◌, ◌∷◌, ◌++◌, [], List, Some, false, slice_get, slice_index_or, sym, subst, ap, ◌∙◌}
use Rattle.std.proofs.lemmas.Option.{slice_get-get_or}
use Rattle.lw_bounds.specs.declared.parts.Kind.TheVariants.{Any}
use Rattle.lw_bounds.specs.declared.parts.Part.{Part}
use Rattle.lw_bounds.specs.declared.parts.Rule.{Rule}
use Rattle.lw_bounds.specs.Places.{rule_of, AreRulesOf, HaveRules}
use Rattle.lw_bounds.proofs.Placing.{rules_more, have_more_rules, have_passed}
use Rattle.lw_bounds.proofs.places.group_of.Goals as goal
use Rattle.lw_bounds.proofs.places.group_of.Goals.{then-is_in+in_ok-push, else-is_in}

pub loop-number-preserved : goal.loop-number-preserved
loop-number-preserved c =
    let l = c.loop-number in
    let parts = c.args.parts.now in
    let none : Part = record { left = record { kind = Any; flipped = false }; right = record { kind = Any; flipped = false } } in
    let part = slice_index_or parts l.number none in
    let at : slice_get parts l.number ≡ Some part = slice_get-get_or parts l.number none c.loop-number-test.true in
    elim c.if-is_in.branch [
      | then-is_in+in_ok-push w ↦
          let (first, second) = c.is_in.ensures.0 w.if-is_in.true in
          let items : c.if-is_in.rules.items ≡ l.rules.items ++ rule_of l.number part ∷ [] = ap (λ v. v.items) w.rules-is ∙ (w.in_ok-push.ensures.items ∙ ap (λ (q : Rule). l.rules.items ++ q ∷ []) w.rule_of.ensures) in
          record {
            rules = subst (λ (rs : List Rule). AreRulesOf parts c.args.left c.args.right rs) (sym items) (rules_more parts c.args.left c.args.right l.rules.items l.number part at first second l.invariant.rules);
            whole = subst (λ (rs : List Rule). HaveRules parts c.args.left c.args.right rs (l.number + 1)) (sym items) (have_more_rules parts c.args.left c.args.right l.rules.items l.number part at l.invariant.whole);
          }
      | else-is_in w ↦
          let items : c.if-is_in.rules.items ≡ l.rules.items = ap (λ v. v.items) w.rules-is in
          record {
            rules = subst (λ (rs : List Rule). AreRulesOf parts c.args.left c.args.right rs) (sym items) l.invariant.rules;
            whole = subst (λ (rs : List Rule). HaveRules parts c.args.left c.args.right rs (l.number + 1)) (sym items) (have_passed parts c.args.left c.args.right l.rules.items l.number part at (λ first second. let yes = c.is_in.ensures.1 (first, second) in let no = w.if-is_in.false in cc) l.invariant.whole);
          }
    ]
