-- The choice of the least match at a class where it is known that no mark is before a certain one.
use Rattle.std.proofs.Common.{ℕ, min, ◌⊎◌, ◌+◌, ◌<◌, ◌≤◌, ◌≡◌, List, length, slice_get, false, Option, Some, refl, sym, ap, subst, ◌∙◌, inl, inr, arith}
use Rattle.std.proofs.lemmas.Option.{slice_get_within, slice_get-get_or, same_Some}
use native.Mathlib.Decide.{dec_lt}
use native.Mathlib.Nat.{eq-or-lt_of_le}
use Rattle.lw_laws.specs.Costs.{Cost, IsCost}
use Rattle.lw_laws.specs.Graphs.{Graph}
use Rattle.lw_laws.specs.Covers.{Pattern}
use Rattle.lw_laws.specs.Marks.{Marks}
use Rattle.lw_cost.specs.declared.mark.Best.{Best}
use Rattle.lw_cost.specs.declared.mark.Mark.{Mark}
use Rattle.lw_branch.specs.declared.job.Scope.{Scope}
use Rattle.lw_bounds.specs.declared.parts.Kind.TheVariants.{Any}
use Rattle.lw_bounds.specs.declared.parts.Root.{Root}
use Rattle.lw_match.specs.declared.query.Query.{Query}
use Rattle.lw_match.specs.declared.target.Target.{Target}
use Rattle.lw_match.specs.declared.choosing.Pick.{Pick}
use Rattle.lw_cost.specs.Values.{plain_mark, marks_in, AreInRange}
use Rattle.lw_bounds.specs.Numbers.{never}
use Rattle.lw_bounds.specs.Shapes.{plain}
use Rattle.lw_cost.specs.Least.{Priced, IsPricedAt, IsPricedBy, IsPricedAtMost, IsMarkBefore, plain_best}
use Rattle.lw_bounds.specs.Places.{list_of, list_at, root_of, AreListed, IsFar}
use Rattle.lw_bounds.specs.Cuts.{cuts_state, root_side, IsCertifiedBy}
use Rattle.lw_match.specs.Cutting.{AreSureCuts, IsFloor, IsTopOf}
use Rattle.lw_match.specs.Queries.{IsQuery, IsPricedIn}
use Rattle.lw_branch.specs.Searching.{Improves, HasAtMost, always}
use Rattle.lw_match.specs.Picks.{IsLastBefore, AreLastBefore, IsPick, IsBelow, IsInList, IsByRoot, those}
use Rattle.lw_branch.proofs.Improving.{above_kept, improves_cut}
use Rattle.lw_match.proofs.RootLists.{by_lists, far}

-- what is before the bound is before each match that is last before it by a pattern behind its own
pub ahead_of : (old : Best) (bound : Mark) (b : Priced) → IsMarkBefore (plain_mark old.mark) (plain_mark bound) → IsLastBefore (plain_mark bound) b.mark → old.found.pat.0 < b.found.pattern → IsPricedAtMost (plain_best old) b
ahead_of old bound b before last less = by_cost (dec_lt old.mark.cost b.mark.cost)
  where
    no_less : b.mark.cost < bound.cost → ⊥
    no_less lt = last (inl lt)

    by_height : old.mark.cost ≡ b.mark.cost → (old.mark.height ≡ b.mark.height) ⊎ (old.mark.height < b.mark.height) → IsPricedAtMost (plain_best old) b
    by_height e (inl same) = inr (e, inr (same, inl less))
    by_height e (inr lower) = inr (e, inl lower)

    low : old.mark.cost ≡ b.mark.cost → Dec (b.mark.height < old.mark.height) → IsMarkBefore (plain_mark old.mark) (plain_mark bound) → old.mark.height ≤ b.mark.height
    low e (no ge) is = omega arith
    low e (yes lt) (inl cheap) = absurd (no_less (omega arith))
    low e (yes lt) (inr (same, lower)) = absurd (last (inr (omega arith, omega arith)))

    not_more : Dec (b.mark.cost < bound.cost) → IsMarkBefore (plain_mark old.mark) (plain_mark bound) → old.mark.cost ≤ b.mark.cost
    not_more (yes lt) is = absurd (no_less lt)
    not_more (no ge) (inl cheap) = omega arith
    not_more (no ge) (inr (same, lower)) = omega arith

    by_cost : Dec (old.mark.cost < b.mark.cost) → IsPricedAtMost (plain_best old) b
    by_cost (yes lt) = inl lt
    by_cost (no ge) =
        let most = not_more (dec_lt b.mark.cost bound.cost) before in
        let e : old.mark.cost ≡ b.mark.cost = omega arith in
        by_height e (eq-or-lt_of_le {n = old.mark.height} {m = b.mark.height} (low e (dec_lt b.mark.height old.mark.height) before))

-- a number is less than the next one, if that is not the greatest one
pub below_next : (n top : ℕ) → top ≡ min (n + 1) never → (top ≡ never → ⊥) → n < top
below_next n top e not = by_top (dec_lt n top)
  where
    by_top : Dec (n < top) → n < top
    by_top (yes lt) = lt
    by_top (no ge) = absurd (not (omega arith))

-- no match costs less than the bound
pub last_floor : (g : Graph) (cost : Cost) (pats : List Pattern) (marks : Marks) (c : ℕ) (bound : Mark) → AreLastBefore g cost pats marks c (plain_mark bound) → IsFloor g cost pats marks c bound.cost
last_floor g cost pats marks c bound last = record {
  capped = last.capped;
  below = λ b at. by_cost b at (dec_lt b.mark.cost bound.cost);
}
  where
    by_cost : (b : Priced) → IsPricedAt g cost pats marks c b → Dec (b.mark.cost < bound.cost) → bound.cost ≤ b.mark.cost
    by_cost b at (yes lt) = absurd (last.last b at (inl lt))
    by_cost b at (no ge) = omega arith

module _ (P : Priced → Type 0) where
  -- fewer of the matches
  pub improves_fewer : (Q R : Priced → Type 0) (old new : Option Best) → ((b : Priced) → P b → R b → Q b) → Improves (those Q) P old new → Improves (those R) P old new
  improves_fewer Q R old new to i =
      record { from = i.from; kept = i.kept; all = λ b r p. i.all b (to b p r) p }

  -- some of the matches and then others
  pub improves_either : (Q R S : Priced → Type 0) (old mid new : Option Best) → ((b : Priced) → S b → Q b ⊎ R b) → Improves (those Q) P old mid → Improves (those R) P mid new → Improves (those S) P old new
  improves_either Q R S old mid new either i j = record {
    from = after i.from j.from;
    kept = λ b e. above_kept mid new (plain_best b) (i.kept b e) j.kept;
    all = λ b s p. all b p (either b s);
  }
    where
      first : mid ≡ new → ((mid ≡ old) ⊎ ((b : Best) × (mid ≡ Some b) × P (plain_best b))) → (new ≡ old) ⊎ ((b : Best) × (new ≡ Some b) × P (plain_best b))
      first e (inl f) = inl cc
      first e (inr (b, f, p)) = inr (b, cc, p)

      after : ((mid ≡ old) ⊎ ((b : Best) × (mid ≡ Some b) × P (plain_best b))) → ((new ≡ mid) ⊎ ((b : Best) × (new ≡ Some b) × P (plain_best b))) → (new ≡ old) ⊎ ((b : Best) × (new ≡ Some b) × P (plain_best b))
      after f (inl e) = first (sym e) f
      after f (inr found) = inr found

      all : (b : Priced) → P b → Q b ⊎ R b → HasAtMost new b
      all b p (inl q) = above_kept mid new b (i.all b q p) j.kept
      all b p (inr r) = j.all b r p

  -- all of the matches, where what was to beat costs less than the top
  pub improves_below : (Q : Type 0) (top : ℕ) (start : Best) (old new : Option Best) → old ≡ Some start → start.mark.cost < top → Improves (those (IsBelow top)) P old new → Improves (always Q) P old new
  improves_below Q top start old new is low i =
      record { from = i.from; kept = i.kept; all = λ b t p. by_cost b p (dec_lt b.mark.cost top) }
    where
      by_cost : (b : Priced) → P b → Dec (b.mark.cost < top) → HasAtMost new b
      by_cost b p (yes lt) = i.all b lt p
      by_cost b p (no ge) = above_kept old new b (start, is, inl (omega arith)) i.kept

module _ {C : Type 0} (costs : C → Cost) (q : Query C) where
  -- the match is by the pattern of one of the first n roots
  abbrev pub IsAmong : ℕ → ℕ → List Root → ℕ → Priced → Type 0
  IsAmong top list roots n b =
      IsInList q top list b × ((k : ℕ) × (k < n) × (slice_get roots k ≡ Some (root_of b.found.pattern (root_side (cuts_state q.site.cuts.now) b.found.pattern))))

  pub among_start : (top list : ℕ) (roots : List Root) (best : Option Best) → Improves (those (IsAmong top list roots 0)) (IsPricedIn costs q) best best
  among_start top list roots best =
      improves_cut (those (IsAmong top list roots 0)) (IsPricedIn costs q) best (λ b (here, (k, lt, at)) p. absurd (omega arith))

  pub among_next : (top list : ℕ) (roots : List Root) (n : ℕ) (root : Root) (old mid new : Option Best) → slice_get roots n ≡ Some root → Improves (those (IsAmong top list roots n)) (IsPricedIn costs q) old mid → Improves (those (IsByRoot q top (list_at q.view list) root)) (IsPricedIn costs q) mid new → Improves (those (IsAmong top list roots (n + 1))) (IsPricedIn costs q) old new
  among_next top list roots n root old mid new there i j =
      improves_either (IsPricedIn costs q) (IsAmong top list roots n) (IsByRoot q top (list_at q.view list) root) (IsAmong top list roots (n + 1)) old mid new (λ b (here, (k, lt, at)). by_place b here k at (eq-or-lt_of_le {n = k} {m = n} (omega arith))) i j
    where
      by_place : (b : Priced) → IsInList q top list b → (k : ℕ) → slice_get roots k ≡ Some (root_of b.found.pattern (root_side (cuts_state q.site.cuts.now) b.found.pattern)) → (k ≡ n) ⊎ (k < n) → IsAmong top list roots n b ⊎ IsByRoot q top (list_at q.view list) root b
      by_place b here k at (inl same) =
          let r = root_of b.found.pattern (root_side (cuts_state q.site.cuts.now) b.found.pattern) in
          let mine : slice_get roots n ≡ Some r = subst (λ (j : ℕ). slice_get roots j ≡ Some r) same at in
          inr (here.0, ap (list_at q.view) here.1, same_Some root r (sym there ∙ mine))
      by_place b here k at (inr less) = inl (here, (k, less, at))

  -- each root is in one of the lists
  pub improves_lists : (top : ℕ) (old first second new : Option Best) → Improves (those (IsInList q top 0)) (IsPricedIn costs q) old first → Improves (those (IsInList q top 1)) (IsPricedIn costs q) first second → Improves (those (IsInList q top 2)) (IsPricedIn costs q) second new → Improves (those (IsBelow top)) (IsPricedIn costs q) old new
  improves_lists top old first second new i j k =
      improves_either P Two (IsInList q top 2) (IsBelow top) old second new late (improves_either P (IsInList q top 0) (IsInList q top 1) Two old first second (λ b e. e) i j) k
    where
      P : Priced → Type 0
      P = IsPricedIn costs q

      Two : Priced → Type 0
      Two b = IsInList q top 0 b ⊎ IsInList q top 1 b

      late : (b : Priced) → IsBelow top b → Two b ⊎ IsInList q top 2 b
      late b low = by_lists (root_side (cuts_state q.site.cuts.now) b.found.pattern) (Two b ⊎ IsInList q top 2 b)
          (λ is. inl (inl (low, is)))
          (λ is. inl (inr (low, is)))
          (λ is. inr (low, is))

  module _ (p : Pick) (pick : IsPick costs q p) where
    pattern_within : (b : Priced) → IsPricedIn costs q b → b.found.pattern < length q.site.pats.now
    pattern_within b at =
        slice_get_within q.site.pats.now b.found.pattern at.pattern at.matches.listed

    rooted : (b : Priced) → IsPricedIn costs q b → b.found.pattern < length q.site.cuts.now.roots.now
    rooted b at =
        let lt = pattern_within b at in let le = pick.rooted in omega (arith, lt, le)

    pub among_all : (list : ℕ) (roots : List Root) (n : ℕ) (old new : Option Best) → AreListed q.site.cuts.now.roots.now list roots (length q.site.cuts.now.roots.now) → length roots ≤ n → Improves (those (IsAmong p.top list roots n)) (IsPricedIn costs q) old new → Improves (those (IsInList q p.top list)) (IsPricedIn costs q) old new
    among_all list roots n old new listed whole i =
        improves_fewer (IsPricedIn costs q) (IsAmong p.top list roots n) (IsInList q p.top list) old new (λ b at here. (here, place b at here.1)) i
      where
        place : (b : Priced) → IsPricedIn costs q b → list_of (root_side (cuts_state q.site.cuts.now) b.found.pattern) ≡ list → (k : ℕ) × (k < n) × (slice_get roots k ≡ Some (root_of b.found.pattern (root_side (cuts_state q.site.cuts.now) b.found.pattern)))
        place b at in_list =
            let j = b.found.pattern in
            let s = root_side (cuts_state q.site.cuts.now) j in
            let known = rooted b at in
            let (k, there) = listed j s known (slice_get-get_or q.site.cuts.now.roots.now j (plain Any) known) in_list in
            let lt = slice_get_within roots k (root_of j s) there in
            (k, omega (arith, lt, whole), there)

    -- no pattern of the library has the root
    pub past_root : (numbers : List ℕ) (root : Root) (best : Option Best) → length q.site.pats.now ≤ root.pattern → Improves (those (IsByRoot q p.top numbers root)) (IsPricedIn costs q) best best
    past_root numbers root best past =
        improves_cut (those (IsByRoot q p.top numbers root)) (IsPricedIn costs q) best (λ b (low, there, is) at. absurd (none b is at))
      where
        none : (b : Priced) → root ≡ root_of b.found.pattern (root_side (cuts_state q.site.cuts.now) b.found.pattern) → IsPricedIn costs q b → ⊥
        none b is at =
            let same : root.pattern ≡ b.found.pattern = ap (λ (r : Root). r.pattern) is in
            let lt = pattern_within b at in
            omega (arith, same, lt, past)

    -- the best is ahead of the pattern
    pub ahead_root : (numbers : List ℕ) (root : Root) (best : Option Best) → ((b : Priced) → IsLastBefore (plain_mark p.bound) b.mark → b.found.pattern ≡ root.pattern → HasAtMost best b) → Improves (those (IsByRoot q p.top numbers root)) (IsPricedIn costs q) best best
    ahead_root numbers root best ahead =
        improves_cut (those (IsByRoot q p.top numbers root)) (IsPricedIn costs q) best (λ b (low, there, is) at. ahead b (pick.last.last b at) (sym (ap (λ (r : Root). r.pattern) is)))

    -- the pattern was searched
    pub searched_root : (numbers : List ℕ) (root : Root) (scope : Scope) (old new : Option Best) → scope.limit ≡ p.top → scope.hunts ≡ false → scope.by_marks ≡ false → Improves (AreSureCuts (cuts_state q.site.cuts.now) q.site.graph.now (costs q.site.cost.now) q.site.pats.now q.site.marks.now root.pattern scope) (IsPricedBy q.site.graph.now (costs q.site.cost.now) q.site.pats.now (marks_in q.site.marks.now) q.site.class.0 root.pattern) old new → Improves (those (IsByRoot q p.top numbers root)) (IsPricedIn costs q) old new
    searched_root numbers root scope old new limit not_hunts not_marks i = record {
      from = from i.from;
      kept = i.kept;
      all = λ b (low, there, is) at. i.all b sure (at, sym (ap (λ (r : Root). r.pattern) is));
    }
      where
        sure : {b : Priced} → AreSureCuts (cuts_state q.site.cuts.now) q.site.graph.now (costs q.site.cost.now) q.site.pats.now q.site.marks.now root.pattern scope b new
        sure = record {
          bounds = pick.bounds;
          sure = inr (subst (λ (n : ℕ). IsCertifiedBy (costs q.site.cost.now) q.site.pats.now (cuts_state q.site.cuts.now).gaps root.pattern n) (sym limit) (pick.sure root.pattern));
          hunting = λ e. cc;
          ahead = λ e. cc;
        }

        from : ((new ≡ old) ⊎ ((b : Best) × (new ≡ Some b) × IsPricedBy q.site.graph.now (costs q.site.cost.now) q.site.pats.now (marks_in q.site.marks.now) q.site.class.0 root.pattern (plain_best b))) → (new ≡ old) ⊎ ((b : Best) × (new ≡ Some b) × IsPricedIn costs q (plain_best b))
        from (inl e) = inl e
        from (inr (b, e, by)) = inr (b, e, by.0)

    module _ (cap : ℕ) (is_cost : IsCost (costs q.site.cost.now)) (in_range : AreInRange (costs q.site.cost.now).cap q.site.marks.now) (is : IsQuery cap costs q) where
      is_top : (top : ℕ) → IsTopOf (Some (record { cost = top; height = 0 })) top
      is_top top k high some le (inl lt) = omega arith
      is_top top k high some le (inr (e, lt)) = omega arith

      abbrev target : Target
      target = record {
        bound = Some (record { cost = p.top; height = 0 });
        top = p.top;
        by_marks = false;
        is_top = is_top p.top;
      }

      nowhere : (numbers : List ℕ) (b : Priced) (root : Root) → IsByRoot q p.top numbers root b → IsPricedIn costs q b → IsFar numbers root.place root.shift p.top → ⊥
      nowhere numbers b root (low, there, root_is) at f =
          far costs q cap is_cost in_range is numbers root b.found.pattern target (record { within = pattern_within b at; known = rooted b at; in_list = there; is = root_is }) f pick.bounds (inr (pick.sure b.found.pattern)) b (at, refl) (inl low)

      -- the number of the root is not below the top
      pub far_root : (numbers : List ℕ) (root : Root) (best : Option Best) → IsFar numbers root.place root.shift p.top → Improves (those (IsByRoot q p.top numbers root)) (IsPricedIn costs q) best best
      far_root numbers root best f =
          improves_cut (those (IsByRoot q p.top numbers root)) (IsPricedIn costs q) best (λ b here at. absurd (nowhere numbers b root here at f))

      -- no number of the list is
      pub far_list : (list : ℕ) (numbers : List ℕ) (best : Option Best) → numbers ≡ list_at q.view list → ((place shift : ℕ) → IsFar numbers place shift p.top) → Improves (those (IsInList q p.top list)) (IsPricedIn costs q) best best
      far_list list numbers best numbers_is f =
          improves_cut (those (IsInList q p.top list)) (IsPricedIn costs q) best (λ b here at. absurd (by_root b here at (root_of b.found.pattern (root_side (cuts_state q.site.cuts.now) b.found.pattern)) refl))
        where
          by_root : (b : Priced) → IsInList q p.top list b → IsPricedIn costs q b → (root : Root) → root ≡ root_of b.found.pattern (root_side (cuts_state q.site.cuts.now) b.found.pattern) → ⊥
          by_root b here at root root_is =
              nowhere numbers b root (here.0, ap (list_at q.view) here.1 ∙ sym numbers_is, root_is) at (f root.place root.shift)
