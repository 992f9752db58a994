-- The least match of a class by the marks of its pins is the chosen one.
use Rattle.std.proofs.Common.{ℕ, zero, suc, ◌+◌, ◌-◌, ◌^◌, ◌<◌, ◌≤◌, ◌≡◌, List, [], ◌∷◌, Contains, All, IsSome, length, Option, Some, None, option_map, unwrap_or, slice_index_or, inl, inr, refl, ap, sym, ◌∙◌, subst, arith}
use mathlib.Core.Path.{fun_ext}
use Rattle.std.proofs.lemmas.List.Elements.{All-map, All-contains, All-weaker}
use Rattle.std.proofs.lemmas.Option.{none-some, same_Some}
use Rattle.std.specs.List.{AllByRecursion}
use Rattle.lw_facts.proofs.Lists.{some_within}
use Rattle.lw_pool.specs.declared.id.ClassId.{ClassId}
use Rattle.lw_laws.specs.Graphs.{Graph}
use Rattle.lw_laws.specs.Costs.{Cost}
use Rattle.lw_laws.specs.Covers.{Pattern}
use Rattle.lw_laws.specs.Marks.{Mark as PlainMark, labels_of}
use Rattle.lw_laws.specs.Matches.{choices_of}
use Rattle.lw_laws.specs.Choices.{Labels, HaveLabels, IsPotential, IsHeight}
use Rattle.lw_laws.specs.Priced.{IsPriced, AreMarks}
use Rattle.lw_laws.specs.Extracts.{IsChosen, IsLeafClass}
use Rattle.lw_laws.proofs.MarkLaws.{priced_above, supports_priced, some_supports, least_chosen}
use Rattle.lw_cost.specs.declared.mark.Mark.{Mark}
use Rattle.lw_cost.specs.declared.mark.Best.{Best}
use Rattle.lw_cost.specs.Values.{marks_in, plain_mark, plain_match}
use Rattle.lw_cost.specs.Least.{Priced, IsPricedAt, IsLeastMatch, IsLeastBelow, IsMarkBefore}
use Rattle.lw_match.specs.Picks.{IsLastBefore, AreLastBefore}
use Rattle.lw_cost.specs.Labels.{AreLeastMarks}
use Rattle.lw_cost.proofs.MarksAsLabels.{label_at, mark_of_label}
use Rattle.lw_extract.specs.Choosing.{labels, heights, RootsHaveMarks, IsChoice}
use Rattle.lw_extract.proofs.ClassNets.{some_of}
use Rattle.lw_pool.specs.Numbers.{numbers}

-- the labels of marks as one function
pub labels_are : (marks : List (Option Mark)) → labels marks ≡ labels_of (marks_in marks)
labels_are marks = fun_ext (label_at marks)

-- the mark of a class, as the list has it
pub plain_at : (marks : List (Option Mark)) (c : ℕ) (m : Mark) → slice_index_or marks c None ≡ Some m → marks_in marks c ≡ Some (plain_mark m)
plain_at marks c m e = ap (option_map plain_mark) e

pub mark_at : (marks : List (Option Mark)) (c l : ℕ) → labels marks c ≡ Some l → (m : Mark) × (slice_index_or marks c None ≡ Some m)
mark_at marks c l e = by_mark (slice_index_or marks c None) refl (mark_of_label marks c l e).1
  where
    by_mark : (o : Option Mark) → slice_index_or marks c None ≡ o → option_map plain_mark o ≡ Some (mark_of_label marks c l e).0 → (m : Mark) × (slice_index_or marks c None ≡ Some m)
    by_mark None s f = absurd (none-some (mark_of_label marks c l e).0 f)
    by_mark (Some m) s f = (m, s)

-- the height of a class
pub height_at : (marks : List (Option Mark)) (c : ℕ) (m : Mark) → slice_index_or marks c None ≡ Some m → heights marks c ≡ m.height
height_at marks c m e = ap (λ (o : Option Mark). unwrap_or (option_map (λ (k : PlainMark). k.height) (option_map plain_mark o)) 0) e

-- each of some labelled classes has a mark
pub pin_label : (known : Labels) (ps ls : List ℕ) (q : ℕ) → HaveLabels known ps ls → Contains ps q → (l : ℕ) × (known q ≡ Some l)
pin_label known [] ls q a (k, lt, e) = absurd (omega arith)
pin_label known (p ∷ ps) [] q a k = absurd a
pin_label known (p ∷ ps) (l ∷ ls) q (at, a) (zero, lt, e) = (l, ap known (sym e) ∙ at)
pin_label known (p ∷ ps) (l ∷ ls) q (at, a) (suc k, lt, e) = pin_label known ps ls q a (k, omega arith, e)

-- the pins of a match with labels are in range
pub pins_below : (n : ℕ) (known : Labels) (cs : List ClassId) (ls : List ℕ) → ((q l : ℕ) → known q ≡ Some l → q < n) → HaveLabels known (numbers cs) ls → AllByRecursion (λ (c : ClassId). c.0 < n) cs
pins_below n known [] ls below a = tt
pins_below n known (c ∷ cs) [] below a = absurd a
pins_below n known (c ∷ cs) (l ∷ ls) below (e, a) = (below c.0 l e, pins_below n known cs ls below a)

-- each of the roots has a mark
pub root_mark : (marks : List (Option Mark)) (roots : List ClassId) (c : ℕ) → RootsHaveMarks marks roots → Contains (numbers roots) c → (m : Mark) × (slice_index_or marks c None ≡ Some m)
root_mark marks roots c covered inside = some_of (slice_index_or marks c None)
    (All-contains (λ n. IsSome (slice_index_or marks n None)) (numbers roots) c (All-map (λ n. IsSome (slice_index_or marks n None)) (λ (x : ClassId). x.0) roots covered) inside)

-- so each is a class that marks are kept for
pub marked_within : (marks : List (Option Mark)) (roots : List ClassId) (n : ℕ) → length marks ≡ n → RootsHaveMarks marks roots → All (λ (root : ClassId). root.0 < n) roots
marked_within marks roots n e = All-weaker (λ (root : ClassId). IsSome (slice_index_or marks root.0 None)) (λ (root : ClassId). root.0 < n)
    (λ root some.
    let (m, at) = some_of (slice_index_or marks root.0 None) some in
    subst (λ k. root.0 < k) e (some_within marks root.0 m at))
    roots

-- a mark is before one of the same cost that is one higher
pub before_next : (m next : PlainMark) → next.cost ≡ m.cost → next.height ≡ m.height + 1 → IsMarkBefore m next
before_next m next cost height = inr (sym cost, omega arith)

module _ (g : Graph) (cost : Cost) (pats : List Pattern) (marks : List (Option Mark)) (least : AreLeastMarks g cost pats marks) where
  are_marks : AreMarks g cost pats (marks_in marks)
  are_marks = record {
    potential = subst (λ (known : Labels). IsPotential (choices_of g cost.pin_counts pats) cost known) (labels_are marks) least.potential;
    heights = λ c m e. subst (λ (known : Labels). IsHeight (choices_of g cost.pin_counts pats) cost known c m.height) (labels_are marks) (least.heights c m e);
  }

  -- the least match is the chosen one
  pub chosen_by : (c : ℕ) (m : Mark) (b : Best) → (IsLeafClass g c → ⊥) → slice_index_or marks c None ≡ Some m → IsLeastMatch g cost pats (marks_in marks) c (Some b) → IsChoice g cost pats marks c b.found
  chosen_by c m b out at (is, before) = (
    is.pattern,
    subst (λ (known : Labels). IsChosen g cost pats known (heights marks) c (plain_match b.found) is.pattern) (sym (labels_are marks))
        (least_chosen g cost pats (marks_in marks) are_marks c (plain_match b.found) is.pattern (plain_mark b.mark) (plain_mark m) out (plain_at marks c m at)
        (record { matches = is.matches; pin_marks = is.pin_marks; have = is.have; mark_is = is.mark })
        (λ n q i p. before (record { mark = i; found = n }) (record { pattern = q; matches = p.matches; pin_marks = p.pin_marks; have = p.have; mark = p.mark_is }))).1,
  )

  -- there is a match before each mark that the class's own is before
  pub some_match : (c : ℕ) (m : Mark) (bound : PlainMark) → (IsLeafClass g c → ⊥) → slice_index_or marks c None ≡ Some m → IsMarkBefore (plain_mark m) bound → IsLeastBelow g cost pats (marks_in marks) c bound None → ⊥
  some_match c m bound out at before none =
      let (n, q, s) = some_supports g cost pats (marks_in marks) are_marks c (plain_mark m) out (plain_at marks c m at) in
      let p : IsPriced g cost pats (marks_in marks) c n q (plain_mark m) = (supports_priced g cost pats (marks_in marks) are_marks c n q (plain_mark m) out (plain_at marks c m at)).0 s in
      none (record { mark = plain_mark m; found = n }) (record { pattern = q; matches = p.matches; pin_marks = p.pin_marks; have = p.have; mark = p.mark_is }) before

  -- the height of a mark can rise by one
  pub can_rise : (c : ℕ) (m : Mark) → slice_index_or marks c None ≡ Some m → m.height < 2 ^ 32 - 1
  can_rise c m at = (least.in_range c (plain_mark m) (plain_at marks c m at)).1

  -- the matches of a class are not before the mark that comes next after the class's own, if they are one higher
  pub last_before : (c : ℕ) (m : Mark) (next : PlainMark) → slice_index_or marks c None ≡ Some m → next.cost ≡ m.cost → next.height ≡ m.height + 1 → AreLastBefore g cost pats (marks_in marks) c next
  last_before c m next at cost_is height_is = record {
    capped = let low = (least.in_range c (plain_mark m) (plain_at marks c m at)).0 in omega (arith, low, cost_is);
    last = last;
  }
    where
      last : (b : Priced) → IsPricedAt g cost pats (marks_in marks) c b → IsLastBefore next b.mark
      last b is before =
          let (k, there, above) = priced_above g cost pats (marks_in marks) are_marks c b.found is.pattern b.mark (record { matches = is.matches; pin_marks = is.pin_marks; have = is.have; mark_is = is.mark }) in
          let own : plain_mark m ≡ k = same_Some (plain_mark m) k (sym (plain_at marks c m at) ∙ there) in
          let low : m.cost ≤ b.mark.cost = subst (λ (j : PlainMark). j.cost ≤ b.mark.cost) (sym own) above.cost in
          let high : m.cost ≡ b.mark.cost → m.height ≤ b.mark.height = subst (λ (j : PlainMark). j.cost ≡ b.mark.cost → j.height ≤ b.mark.height) (sym own) above.height in
          by_mark low high before
        where
          by_mark : m.cost ≤ b.mark.cost → (m.cost ≡ b.mark.cost → m.height ≤ b.mark.height) → IsMarkBefore (record { cost = b.mark.cost; height = b.mark.height + 1 }) next → ⊥
          by_mark low high (inl lt) = omega (arith, low, lt, cost_is)
          by_mark low high (inr (e, lt)) =
              let most = high (sym (e ∙ cost_is)) in omega (arith, most, lt, height_is)
