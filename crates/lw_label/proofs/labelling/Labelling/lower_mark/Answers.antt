use Rattle.std.proofs.Common.{◌<◌, ◌≡◌, None, length, true, slice_index_or, sym, subst, subst₂, arith}
use Rattle.lw_bounds.specs.Bounds.{AreBounds}
use Rattle.lw_match.specs.Cutting.{AreKnown, IsLeastWithin, IsMatchWithin, bound_below}
use Rattle.lw_cost.specs.Values.{AreInRange, marks_in}
use Rattle.lw_label.specs.Heights.{AreSameBut}
use Rattle.lw_label.specs.Lowering.{AreLowering, IsBounded}
use Rattle.lw_label.specs.OneVisit.{IsSearch}
use Rattle.lw_label.proofs.Marked.{lowering_in_range}
use Rattle.lw_label.proofs.OneVisit.{bounded_now, label_others_kept, search_on}
use Rattle.lw_label.proofs.labelling.Labelling.lower_mark.Goals as goal

pub mark-old-requires : goal.mark-old-requires
mark-old-requires g c =
    omega (arith, c.requires.class, c.requires.may.sought.lowering.one_each)

pub put-lowered-requires : goal.put-lowered-requires
put-lowered-requires g c =
    omega (arith, c.requires.class, c.requires.may.sought.lowering.one_each)

pub better_within-found-requires-clause-may : goal.better_within-found-requires-clause-may
better_within-found-requires-clause-may g c =
    let task = c.args.task.now in
    let sought = c.requires.may.sought in
    let costs = g.C.Cost.costs task.cost.now in
    let marks = c.args.self.now.marks.items in
    record {
      class = c.requires.class;
      one_each = subst (λ ms. length ms ≡ length task.graph.now.pairs) (sym c.deref.ensures.value) sought.lowering.one_each;
      in_range = subst₂ AreInRange (g.met.C.Cost.cap task.cost.now) (sym c.deref.ensures.value) (lowering_in_range task.graph.now costs task.pats.now marks sought.problem sought.lowering);
      of_cells = sought.of_cells;
      fits = sought.fits;
    }

pub better_within-found-requires-clause-known : goal.better_within-found-requires-clause-known
better_within-found-requires-clause-known g c = c.requires.may.known

pub returns : goal.returns
returns g c =
    let task = c.args.task.now in
    let graph = task.graph.now in
    let costs = g.C.Cost.costs task.cost.now in
    let pats = task.pats.now in
    let bounds = c.args.self.now.bounds in
    let marks = c.args.self.now.marks.items in
    let class = c.args.class.0 in
    let old = slice_index_or marks class None in
    let before = c.requires.may.sought in
    let found = c.better_within-found in
    let best = found.result.best in
    let put = c.put-lowered in
    let sound = subst₂ (λ ms o. IsMatchWithin graph costs pats (marks_in ms) class o best) c.deref.ensures.value c.mark-old.ensures found.ensures.outcome.sound in
    let least = subst₂ (λ ms o. found.result.is_least ≡ true → AreBounds bounds graph ms → IsLeastWithin graph costs pats (marks_in ms) class (bound_below best o) None) c.deref.ensures.value c.mark-old.ensures found.ensures.outcome.least in
    let takes = put.ensures.takes graph costs pats before.problem before.lowering sound in
    let low = subst (λ ms. AreLowering graph costs pats ms) put.ensures.marks takes.lowering in
    let below : class < length marks = omega (arith, c.requires.class, before.lowering.one_each) in
    let new = put.new.self in
    record {
      marks = record {
        search = subst (λ b. IsSearch graph costs pats b new.tops.now new.marks.items) (sym put.ensures.table) (search_on graph costs pats bounds new.tops.now marks new.marks.items before (subst (λ t. AreKnown costs pats bounds.gaps t) (sym put.ensures.tops) found.ensures.known) takes.lowering);
        table = put.ensures.table;
        takes = takes;
        others = subst (λ ms. AreSameBut (λ b. b ≡ class) marks ms) (sym put.ensures.marks) (label_others_kept marks class best);
      };
      none = λ e. found.ensures.outcome.none (put.ensures.none e);
      bounded = λ still are. subst (λ ms. IsBounded graph costs pats ms class) (sym put.ensures.marks) (bounded_now graph costs pats before.problem marks class best below low (least still are));
    }
