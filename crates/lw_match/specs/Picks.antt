-- The choice of the least match at a class of which the least mark is known.
use Rattle.std.specs.Prelude.{ℕ, ◌+◌, ◌<◌, ◌≤◌, ◌≡◌, List, length, Option}
use Rattle.lw_laws.specs.Graphs.{Graph}
use Rattle.lw_laws.specs.Covers.{Pattern}
use Rattle.lw_laws.specs.Costs.{Cost}
use Rattle.lw_laws.specs.Marks.{Mark, Marks}
use Rattle.lw_cost.specs.declared.mark.Best.{Best}
use Rattle.lw_match.specs.declared.choosing.Pick.{Pick}
use Rattle.lw_bounds.specs.declared.parts.Root.{Root}
use Rattle.lw_match.specs.declared.query.Query.{Query}
use Rattle.lw_cost.specs.Values.{plain_mark, marks_in}
use Rattle.lw_cost.specs.Least.{Priced, IsPricedAt, IsMarkBefore}
use Rattle.lw_bounds.specs.Cuts.{cuts_state, root_side}
use Rattle.lw_match.specs.Cutting.{AreCertified}
use Rattle.lw_bounds.specs.Places.{list_at, list_of, root_of}
use Rattle.lw_match.specs.Queries.{AreCertifiedFor, AreTrue, IsPricedIn, IsQuery}
use Rattle.lw_branch.specs.Searching.{Improves}

-- a mark that is not before the bound when it is one higher
abbrev pub IsLastBefore : Mark → Mark → Type 0
IsLastBefore bound k =
    IsMarkBefore (record { cost = k.cost; height = k.height + 1 }) bound → ⊥

-- such are the marks of all matches at the class, and the bound is no greater than costs can be
pub record AreLastBefore (g : Graph) (cost : Cost) (pats : List Pattern) (marks : Marks) (c : ℕ)
    (bound : Mark) : Type 0 where
  pub capped : bound.cost ≤ cost.cap
  pub last : (b : Priced) → IsPricedAt g cost pats marks c b → IsLastBefore bound b.mark

-- so it is for a query
abbrev pub AreLastIn : {C : Type 0} → (C → Cost) → Query C → Mark → Type 0
AreLastIn costs q bound =
    AreLastBefore q.site.graph.now (costs q.site.cost.now) q.site.pats.now
    (marks_in q.site.marks.now) q.site.class.0 bound

-- The numbers are bounds, and each pattern has a root. The gaps are certified at the top, and the matches are last
-- before the bound.
pub record IsPick {C : Type 0} (costs : C → Cost) (q : Query C) (p : Pick) : Type 0 where
  pub bounds : AreTrue q
  pub rooted : length q.site.pats.now ≤ length q.site.cuts.now.roots.now
  pub sure : AreCertified (costs q.site.cost.now) q.site.pats.now (cuts_state q.site.cuts.now).gaps p.top
  pub last : AreLastIn costs q (plain_mark p.bound)

-- the gaps are certified at the top, which is above the cost of the bound, and the matches are last before that
pub record IsSurePick {C : Type 0} (costs : C → Cost) (q : Query C) (p : Pick) : Type 0 where
  pub sure : AreCertifiedFor costs q p.top
  pub below : p.bound.cost < p.top
  pub last : AreLastIn costs q (plain_mark p.bound)

-- such a choice, by a query
pub record IsPickAt {C : Type 0} (cap : ℕ) (costs : C → Cost) (q : Query C) (p : Pick) : Type 0 where
  pub query : IsQuery cap costs q
  pub pick : IsPick costs q p

-- whatever the best is
abbrev pub those : (Priced → Type 0) → Priced → Option Best → Type 0
those P b best = P b

abbrev pub IsBelow : ℕ → Priced → Type 0
IsBelow top b = b.mark.cost < top

-- the match is by a pattern whose root has its number in the list, and costs less than the top
abbrev pub IsInList : {C : Type 0} → Query C → ℕ → ℕ → Priced → Type 0
IsInList q top list b =
    IsBelow top b × (list_of (root_side (cuts_state q.site.cuts.now) b.found.pattern) ≡ list)

-- it is by the pattern of this root, which has its number in these, and costs less than the top
abbrev pub IsByRoot : {C : Type 0} → Query C → ℕ → List ℕ → Root → Priced → Type 0
IsByRoot q top numbers root b =
    IsBelow top b × (list_at q.view (list_of (root_side (cuts_state q.site.cuts.now) b.found.pattern)) ≡ numbers)
    × (root ≡ root_of b.found.pattern (root_side (cuts_state q.site.cuts.now) b.found.pattern))

-- the best becomes the least of what it was and these matches
abbrev pub PicksOf : {C : Type 0} → (C → Cost) → Query C → (Priced → Type 0) → Option Best → Option Best → Type 0
PicksOf costs q P old new = Improves (those P) (IsPricedIn costs q) old new
