-- The rules of parts, in groups.
use Rattle.std.proofs.Common.{ℕ, ◌⊎◌, ◌+◌, ◌*◌, ◌/◌, ◌%◌, ◌<◌, ◌≤◌, ◌≡◌, Bool, true, false, List, [], ◌∷◌, ◌++◌, length, Some, slice_get, sym, ap, subst, ◌∙◌, inl, inr, arith}
use Rattle.std.proofs.lemmas.Option.{slice_get_within, same_Some}
use Rattle.lw_facts.proofs.Lists.{get_last, get_left, get_last_cases}
use native.Mathlib.Nat.{eq-or-lt_of_le}
use Rattle.lw_bounds.specs.declared.parts.Kind.{Kind}
use Rattle.lw_bounds.specs.declared.parts.Kind.TheVariants.{Any, Leaf, One, Joined}
use Rattle.lw_bounds.specs.declared.parts.Side.{Side}
use Rattle.lw_bounds.specs.declared.parts.Part.{Part}
use Rattle.lw_bounds.specs.declared.parts.Rule.{Rule}
use Rattle.lw_bounds.specs.declared.parts.Group.{Group}
use Rattle.lw_bounds.specs.Places.{list_by, list_of, rule_of, AreRulesOf, HaveRules, IsGroupOf, HasRule, AreGroupsOf, AreGrouped}

pub list_small : (s : Side) → list_of s ≤ 2
list_small s = by_kind s.kind s.flipped
  where
    by_kind : (k : Kind) (b : Bool) → list_by k b ≤ 2
    by_kind Any b = omega arith
    by_kind (Leaf d) b = omega arith
    by_kind One b = omega arith
    by_kind (Joined p d) true = omega arith
    by_kind (Joined p d) false = omega arith

-- one more part, of which the rule is added
pub rules_more : (parts : List Part) (left right : ℕ) (rules : List Rule) (n : ℕ) (p : Part) → slice_get parts n ≡ Some p → list_of p.left ≡ left → list_of p.right ≡ right → AreRulesOf parts left right rules → AreRulesOf parts left right (rules ++ rule_of n p ∷ [])
rules_more parts left right rules n p at l r are i q e = by_place (get_last_cases rules (rule_of n p) i q e)
  where
    by_place : (slice_get rules i ≡ Some q) ⊎ ((i ≡ length rules) × (q ≡ rule_of n p)) → (n : ℕ) × (p : Part) × (slice_get parts n ≡ Some p) × (q ≡ rule_of n p) × (list_of p.left ≡ left) × (list_of p.right ≡ right)
    by_place (inl f) = are i q f
    by_place (inr (f, same)) = (n, p, at, same, l, r)

pub have_more_rules : (parts : List Part) (left right : ℕ) (rules : List Rule) (n : ℕ) (p : Part) → slice_get parts n ≡ Some p → HaveRules parts left right rules n → HaveRules parts left right (rules ++ rule_of n p ∷ []) (n + 1)
have_more_rules parts left right rules n p at have k q lt here l r = by_place (eq-or-lt_of_le {n = k} {m = n} (omega arith))
  where
    by_place : (k ≡ n) ⊎ (k < n) → (i : ℕ) × (slice_get (rules ++ rule_of n p ∷ []) i ≡ Some (rule_of k q))
    by_place (inl same) =
        let there : slice_get parts n ≡ Some q = subst (λ (j : ℕ). slice_get parts j ≡ Some q) same here in
        let part_is : p ≡ q = same_Some p q (sym at ∙ there) in
        let rule_is : rule_of n p ≡ rule_of k q = ap (rule_of n) part_is ∙ ap (λ (j : ℕ). rule_of j q) (sym same) in
        (length rules, get_last rules (rule_of n p) ∙ ap Some rule_is)
    by_place (inr before) =
        let (i, e) = have k q before here l r in
        (i, get_left rules (rule_of n p ∷ []) i (rule_of k q) e)

-- one more part, which is not in the two lists
pub have_passed : (parts : List Part) (left right : ℕ) (rules : List Rule) (n : ℕ) (p : Part) → slice_get parts n ≡ Some p → (list_of p.left ≡ left → list_of p.right ≡ right → ⊥) → HaveRules parts left right rules n → HaveRules parts left right rules (n + 1)
have_passed parts left right rules n p at not have k q lt here l r = by_place (eq-or-lt_of_le {n = k} {m = n} (omega arith))
  where
    by_place : (k ≡ n) ⊎ (k < n) → (i : ℕ) × (slice_get rules i ≡ Some (rule_of k q))
    by_place (inl same) =
        let there : slice_get parts n ≡ Some q = subst (λ (j : ℕ). slice_get parts j ≡ Some q) same here in
        let part_is : q ≡ p = same_Some q p (sym there ∙ at) in
        absurd (not (subst (λ (x : Part). list_of x.left ≡ left) part_is l) (subst (λ (x : Part). list_of x.right ≡ right) part_is r))
    by_place (inr before) = have k q before here l r

-- the parts whose sides are in the first pairs of lists have their rules
abbrev pub HaveRulesBelow : List Part → List Group → ℕ → Type 0
HaveRulesBelow parts groups count =
    (n : ℕ) (p : Part) → slice_get parts n ≡ Some p → 3 * list_of p.left + list_of p.right < count → HasRule groups n p

module _ (parts : List Part) (groups : List Group) (count : ℕ) (group : Group) (few : count < 9) (is : IsGroupOf parts (count / 3) (count % 3) group) where
  pub groups_more : AreGroupsOf parts groups → AreGroupsOf parts (groups ++ group ∷ [])
  groups_more are i g e = by_place (get_last_cases groups group i g e)
    where
      left : group.left ≤ 2
      left = let l = is.left_is in omega arith

      right : group.right ≤ 2
      right = let r = is.right_is in omega arith

      rules : AreRulesOf parts group.left group.right group.rules.items
      rules =
          subst (λ (l : ℕ). AreRulesOf parts l group.right group.rules.items) (sym is.left_is) (subst (λ (r : ℕ). AreRulesOf parts (count / 3) r group.rules.items) (sym is.right_is) is.rules)

      by_place : (slice_get groups i ≡ Some g) ⊎ ((i ≡ length groups) × (g ≡ group)) → (g.left ≤ 2) × (g.right ≤ 2) × AreRulesOf parts g.left g.right g.rules.items
      by_place (inl f) = are i g f
      by_place (inr (f, same)) =
          subst (λ (g : Group). (g.left ≤ 2) × (g.right ≤ 2) × AreRulesOf parts g.left g.right g.rules.items) (sym same) (left, right, rules)

  -- the part is in the lists of the group
  in_group : (n : ℕ) (p : Part) → slice_get parts n ≡ Some p → 3 * list_of p.left + list_of p.right ≡ count → (list_of p.left ≡ count / 3) × (list_of p.right ≡ count % 3) × ((i : ℕ) × (slice_get group.rules.items i ≡ Some (rule_of n p)))
  in_group n p at same =
      let small = list_small p.right in
      let left : list_of p.left ≡ count / 3 = omega arith in
      let right : list_of p.right ≡ count % 3 = omega arith in
      (left, right, is.whole n p (slice_get_within parts n p at) at left right)

  pub have_more_groups : HaveRulesBelow parts groups count → HaveRulesBelow parts (groups ++ group ∷ []) (count + 1)
  have_more_groups have n p at lt = by_place (eq-or-lt_of_le {n = 3 * list_of p.left + list_of p.right} {m = count} (omega arith))
    where
      by_place : (3 * list_of p.left + list_of p.right ≡ count) ⊎ (3 * list_of p.left + list_of p.right < count) → HasRule (groups ++ group ∷ []) n p
      by_place (inl same) =
          let (left, right, (j, e)) = in_group n p at same in
          (length groups, j, group, get_last groups group, is.left_is ∙ sym left, is.right_is ∙ sym right, e)
      by_place (inr before) =
          let (i, j, g, at_i, left, right, e) = have n p at before in
          (i, j, g, get_left groups (group ∷ []) i g at_i, left, right, e)

  pub have_no_more : length group.rules.items ≡ 0 → HaveRulesBelow parts groups count → HaveRulesBelow parts groups (count + 1)
  have_no_more none have n p at lt = by_place (eq-or-lt_of_le {n = 3 * list_of p.left + list_of p.right} {m = count} (omega arith))
    where
      by_place : (3 * list_of p.left + list_of p.right ≡ count) ⊎ (3 * list_of p.left + list_of p.right < count) → HasRule groups n p
      by_place (inl same) =
          let (left, right, (j, e)) = in_group n p at same in
          let within = slice_get_within group.rules.items j (rule_of n p) e in
          absurd (omega arith)
      by_place (inr before) = have n p at before

pub all_grouped : (parts : List Part) (groups : List Group) (count : ℕ) → 9 ≤ count → AreGroupsOf parts groups → HaveRulesBelow parts groups count → AreGrouped parts groups
all_grouped parts groups count many are have = record {
  rules = are;
  whole = λ n p at. let l = list_small p.left in let r = list_small p.right in have n p at (omega arith);
}
