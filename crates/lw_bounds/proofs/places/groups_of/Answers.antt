use Rattle.std.proofs.Common.{◌≡◌, ◌+◌, ◌/◌, ◌%◌, ◌∷◌, ◌++◌, [], List, length, eqb-true, sym, subst, ap, ◌∙◌, arith}
use Rattle.std.specs.Vec.{vec_len}
use Rattle.lw_bounds.specs.declared.parts.Group.{Group}
use Rattle.lw_bounds.specs.Places.{AreGroupsOf, IsGroupOf}
use Rattle.lw_bounds.proofs.Placing.{HaveRulesBelow, groups_more, have_more_groups, have_no_more, all_grouped}
use Rattle.lw_bounds.proofs.places.groups_of.Goals as goal
use Rattle.lw_bounds.proofs.places.groups_of.Goals.{then-not-is_empty+in_ok-push, else-not-is_empty}

pub loop-number-preserved : goal.loop-number-preserved
loop-number-preserved c =
    let l = c.loop-number in
    let parts = c.args.parts.now in
    let group = c.in_ok-group.group in
    let is : IsGroupOf parts (l.number / 3) (l.number % 3) group = c.in_ok-group.ensures in
    elim c.if-not-is_empty.branch [
      | then-not-is_empty+in_ok-push w ↦
          let items : c.if-not-is_empty.groups.items ≡ l.groups.items ++ group ∷ [] = ap (λ v. v.items) w.groups-is ∙ w.in_ok-push.ensures.items in
          record {
            rules = subst (AreGroupsOf parts) (sym items) (groups_more parts l.groups.items l.number group c.loop-number-test.true is l.invariant.rules);
            whole = subst (λ (gs : List Group). HaveRulesBelow parts gs (l.number + 1)) (sym items) (have_more_groups parts l.groups.items l.number group c.loop-number-test.true is l.invariant.whole);
          }
      | else-not-is_empty w ↦
          let items : c.if-not-is_empty.groups.items ≡ l.groups.items = ap (λ v. v.items) w.groups-is in
          let none : length group.rules.items ≡ 0 =
          let empty = eqb-true (vec_len group.rules) 0 (sym c.is_empty.ensures ∙ w.if-not-is_empty.false) in
          omega (arith, group.rules.ok.0) in
          record {
            rules = subst (AreGroupsOf parts) (sym items) l.invariant.rules;
            whole = subst (λ (gs : List Group). HaveRulesBelow parts gs (l.number + 1)) (sym items) (have_no_more parts l.groups.items l.number group c.loop-number-test.true is none l.invariant.whole);
          }
    ]

pub returns : goal.returns
returns c =
    all_grouped c.args.parts.now c.loop-number.groups.items c.loop-number.number (omega arith) c.loop-number.invariant.rules c.loop-number.invariant.whole
