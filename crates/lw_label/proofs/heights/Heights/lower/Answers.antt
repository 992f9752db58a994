use Rattle.std.proofs.Common.{◌<◌, ◌≡◌, ◌/◌, ◌∙◌, Some, None, IfSome, length, true, refl, ap, sym, subst, subst₂, arith, true≢false}
use Rattle.lw_bounds.specs.declared.heights.HeightBounds.{HeightBounds}
use Rattle.lw_bounds.specs.Bounds.{AreBounds}
use Rattle.lw_bounds.specs.HeightBounds.{AreHeightBounds}
use Rattle.lw_cost.specs.Values.{plain_mark, marks_in, AreInRange}
use Rattle.lw_match.specs.Cutting.{AreKnown, IsFloor, IsLeastWithin, IsMatchWithin, bound_after}
use Rattle.lw_label.specs.Heights.{AreSameBut, IsReached, height_limit}
use Rattle.lw_cost.specs.Labels.{cost_in}
use Rattle.lw_label.proofs.Falling.{label_is_cost}
use Rattle.lw_label.proofs.HeightPasses.{heights_in_range, heights_bounds, label_is_floor, reached_unlabelled, reached_under}
use Rattle.lw_label.proofs.HeightTables.{around_has, seen_bounds, with_same}
use Rattle.lw_label.proofs.Still.{others_kept, reached_by}
use Rattle.lw_label.proofs.heights.Heights.lower.Goals as goal

pub mark-requires : goal.mark-requires
mark-requires g c =
    omega (arith, c.requires.place, c.requires.may.search.heights.one_each)

pub put-lowered-requires-clause-class : goal.put-lowered-requires-clause-class
put-lowered-requires-clause-class g c =
    omega (arith, c.requires.place, c.requires.may.search.heights.one_each)

pub put-lowered-requires-clause-table : goal.put-lowered-requires-clause-table
put-lowered-requires-clause-table g c =
    let task = c.args.given.now.task.now in
    let own = c.args.self.now in
    around_has task.graph.now task.pats.now own.marks.items (c.args.class.0 / 2) own.table c.requires.may.table

pub lower_within-found-requires-clause-may : goal.lower_within-found-requires-clause-may
lower_within-found-requires-clause-may g c =
    let given = c.args.given.now in
    let task = given.task.now in
    let costs = g.C.Cost.costs task.cost.now in
    let search = c.requires.may.search in
    let marks = c.args.self.now.marks.items in
    record {
      class = omega (arith, c.requires.place, search.heights.one_each);
      one_each = subst (λ ms. length ms ≡ length task.graph.now.pairs) (sym c.deref.ensures.value) search.heights.one_each;
      in_range = subst₂ AreInRange (g.met.C.Cost.cap task.cost.now) (sym c.deref.ensures.value) (heights_in_range task.graph.now costs task.pats.now given.labels.now marks search.given.problem search.given.graph search.given.lowering search.heights);
      of_cells = search.given.of_cells;
      fits = search.given.fits;
    }

pub lower_within-found-requires-clause-floor : goal.lower_within-found-requires-clause-floor
lower_within-found-requires-clause-floor g c =
    let given = c.args.given.now in
    let graph = given.task.now.graph.now in
    let pats = given.task.now.pats.now in
    let costs = g.C.Cost.costs given.task.now.cost.now in
    let labels = given.labels.now in
    let class = c.args.class.0 in
    let search = c.requires.may.search in
    let floor = c.in-Some.label.cost in
    let label = label_is_cost graph costs pats labels class ∙ ap cost_in c.in-Some.is in
    subst (λ ms. IsFloor graph costs pats (marks_in ms) class floor) (sym c.deref.ensures.value) (label_is_floor graph costs pats labels c.args.self.now.marks.items search.given.problem search.given.lowering search.heights search.given.bounded class floor label)

pub lower_within-found-requires-clause-heights : goal.lower_within-found-requires-clause-heights
lower_within-found-requires-clause-heights g c =
    let task = c.args.given.now.task.now in
    let own = c.args.self.now in
    let seen = c.seen_in-seen.result in
    subst (λ ms. IfSome seen (λ (h : HeightBounds). AreHeightBounds h task.pats.now task.graph.now ms)) (sym c.deref.ensures.value) (seen_bounds task.graph.now task.pats.now own.marks.items (c.args.class.0 / 2) seen own.table c.seen_in-seen.ensures c.requires.may.table)

pub lower_within-found-requires-clause-known : goal.lower_within-found-requires-clause-known
lower_within-found-requires-clause-known g c = c.requires.may.search.known

pub returns-in_default : goal.returns-in_default
returns-in_default g c =
    let given = c.args.given.now in
    let graph = given.task.now.graph.now in
    let pats = given.task.now.pats.now in
    let costs = g.C.Cost.costs given.task.now.cost.now in
    let labels = given.labels.now in
    let own = c.args.self.now in
    let marks = own.marks.items in
    let class = c.args.class.0 in
    let none = label_is_cost graph costs pats labels class ∙ ap cost_in c.in_default.is in
    let reached = reached_unlabelled graph costs pats labels marks class none in
    record {
      search = c.requires.may.search;
      takes = record { heights = c.requires.may.search.heights; falls = λ e. absurd (true≢false (sym e ∙ c.idle_visit.ensures.lowered)); same = λ e. refl };
      reached = λ e. reached;
      still = λ e. reached;
      others = λ n out. refl;
      table = with_same marks own.table (around_has graph pats marks (class / 2) own.table c.requires.may.table);
    }

pub returns : goal.returns
returns g c =
    let given = c.args.given.now in
    let graph = given.task.now.graph.now in
    let pats = given.task.now.pats.now in
    let costs = g.C.Cost.costs given.task.now.cost.now in
    let labels = given.labels.now in
    let marks = c.args.self.now.marks.items in
    let class = c.args.class.0 in
    let search = c.requires.may.search in
    let bound = c.height_bound in
    let found = c.lower_within-found in
    let best = found.result.best in
    let put = c.put-lowered in
    let label = label_is_cost graph costs pats labels class ∙ ap cost_in c.in-Some.is in
    let below : class < length marks = omega (arith, c.requires.place, search.heights.one_each) in
    let bounds = heights_bounds graph costs pats labels given.bounds.now marks search.given.bounds search.heights in
    let height = bound.ensures.height ∙ ap height_limit c.mark.ensures in
    let sound = subst (λ ms. IsMatchWithin graph costs pats (marks_in ms) class (Some bound.result) best) c.deref.ensures.value found.ensures.outcome.sound in
    let least = subst (λ ms. found.result.is_least ≡ true → AreBounds given.bounds.now graph ms → IsLeastWithin graph costs pats (marks_in ms) class (bound_after best (Some bound.result)) None) c.deref.ensures.value found.ensures.outcome.least in
    let takes = put.ensures.takes graph costs pats labels bound.result search.given.bounded search.heights (label ∙ ap Some (sym bound.ensures.cost)) height sound in
    record {
      search = record {
        given = search.given;
        known = subst (λ t. AreKnown costs pats given.bounds.now.gaps t) (sym put.ensures.tops) found.ensures.known;
        heights = takes.heights;
      };
      takes = takes;
      reached = λ e.
          let none = put.ensures.none e in
          reached_under graph costs pats labels marks search.heights class c.in-Some.label.cost (plain_mark bound.result) label bound.ensures.cost height search.given.graph below (subst (λ found. IsLeastWithin graph costs pats (marks_in marks) class (bound_after found (Some bound.result)) None) none (least (found.ensures.outcome.none none) bounds));
      still = λ e. subst (λ new. IsReached graph costs pats labels new class) (sym put.ensures.marks) (reached_by graph costs pats labels marks search.heights class c.in-Some.label.cost (plain_mark bound.result) label bound.ensures.cost height search.given.graph below search.given.bounded bound.result refl best sound (least e bounds));
      others = subst (λ new. AreSameBut (λ b. b ≡ class) marks new) (sym put.ensures.marks) (others_kept marks class best);
      table = put.ensures.table;
    }
