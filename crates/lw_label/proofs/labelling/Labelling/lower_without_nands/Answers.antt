use Rattle.std.proofs.Common.{◌≡◌, length, sym, subst, subst₂, arith}
use Rattle.lw_match.specs.Cutting.{AreKnown, IsMatchWithin}
use Rattle.lw_cost.specs.Values.{AreInRange, marks_in}
use Rattle.lw_label.specs.Heights.{AreSameBut}
use Rattle.lw_label.specs.OneVisit.{IsSearch}
use Rattle.lw_label.proofs.Marked.{lowering_in_range}
use Rattle.lw_label.proofs.OneVisit.{label_others_kept, search_on}
use Rattle.lw_label.proofs.labelling.Labelling.lower_without_nands.Goals as goal

pub mark-old-requires : goal.mark-old-requires
mark-old-requires g c =
    omega (arith, c.requires.class, c.requires.may.sought.lowering.one_each)

pub put-requires : goal.put-requires
put-requires g c =
    omega (arith, c.requires.class, c.requires.may.sought.lowering.one_each)

pub better_without_nands-found-requires-clause-may : goal.better_without_nands-found-requires-clause-may
better_without_nands-found-requires-clause-may g c =
    let task = c.args.task.now in
    let sought = c.requires.may.sought in
    let costs = g.C.Cost.costs task.cost.now in
    let marks = c.args.self.now.marks.items in
    record {
      class = c.requires.class;
      one_each = subst (λ ms. length ms ≡ length task.graph.now.pairs) (sym c.deref.ensures.value) sought.lowering.one_each;
      in_range = subst₂ AreInRange (g.met.C.Cost.cap task.cost.now) (sym c.deref.ensures.value) (lowering_in_range task.graph.now costs task.pats.now marks sought.problem sought.lowering);
      of_cells = sought.of_cells;
      fits = sought.fits;
    }

pub returns : goal.returns
returns g c =
    let task = c.args.task.now in
    let graph = task.graph.now in
    let costs = g.C.Cost.costs task.cost.now in
    let pats = task.pats.now in
    let bounds = c.args.self.now.bounds in
    let marks = c.args.self.now.marks.items in
    let class = c.args.class.0 in
    let before = c.requires.may.sought in
    let best = c.better_without_nands-found.result in
    let put = c.put in
    let new = put.new.self in
    let sound = subst₂ (λ ms o. IsMatchWithin graph costs pats (marks_in ms) class o best) c.deref.ensures.value c.mark-old.ensures c.better_without_nands-found.ensures in
    let takes = put.ensures.takes graph costs pats before.problem before.lowering sound in
    record {
      search = subst (λ b. IsSearch graph costs pats b new.tops.now new.marks.items) (sym put.ensures.table) (search_on graph costs pats bounds new.tops.now marks new.marks.items before (subst (λ t. AreKnown costs pats bounds.gaps t) (sym put.ensures.tops) c.requires.may.known) takes.lowering);
      table = put.ensures.table;
      takes = takes;
      others = subst (λ ms. AreSameBut (λ b. b ≡ class) marks ms) (sym put.ensures.marks) (label_others_kept marks class best);
    }
