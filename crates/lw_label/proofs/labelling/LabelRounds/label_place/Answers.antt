use Rattle.std.proofs.Common.{◌≡◌, ◌<◌, ◌/◌, sym, subst, subst₂}
use Rattle.lw_label.specs.Heights.{AreSameBut}
use Rattle.lw_label.specs.Lowering.{state}
use Rattle.lw_label.specs.OneVisit.{IsFirstRound, IsSearch, IsSearchAround}
use Rattle.lw_label.proofs.OneVisit.{found_round, kept_round, parts_elsewhere, set_around}
use Rattle.lw_label.proofs.labelling.LabelRounds.label_place.Goals as goal

pub ready-requires : goal.ready-requires
ready-requires g c = record {
  number = c.requires.number;
  places = c.requires.first.round.places;
}

pub set_pair-requires-clause-place : goal.set_pair-requires-clause-place
set_pair-requires-clause-place g c =
    subst (λ n. c.in-Some.place < n) c.requires.first.round.places c.in-Some.ensures.within

pub set_pair-requires-clause-around : goal.set_pair-requires-clause-around
set_pair-requires-clause-around g c =
    let own = c.args.self.now in
    let sought = c.requires.first.round.falling.search.sought in
    record {
      one_each = sought.lowering.one_each;
      rows = sought.fits.rows;
      elsewhere = parts_elsewhere c.args.task.now.graph.now own.visits.still c.in-Some.place c.in-Some.ensures.moving c.in-Some.ensures.parts;
    }

pub label_pair-requires-clause-place : goal.label_pair-requires-clause-place
label_pair-requires-clause-place g c =
    subst (λ n. c.in-Some.place < n) c.requires.first.round.places c.in-Some.ensures.within

pub label_pair-requires-clause-may : goal.label_pair-requires-clause-may
label_pair-requires-clause-may g c =
    let task = c.args.task.now in
    let graph = task.graph.now in
    let costs = g.C.Cost.costs task.cost.now in
    let pats = task.pats.now in
    let own = c.args.self.now in
    let place = c.in-Some.place in
    let set = c.set_pair.ensures in
    let new = c.set_pair.new.self.bounds in
    subst₂ (λ ms t. IsSearchAround graph costs pats new t ms place) (sym set.marks) (sym set.tops) (set_around graph costs pats own.labelling.bounds new own.labelling.marks.items own.labelling.tops.now own.visits place c.requires.first c.in-Some.ensures set.set)

pub keep-requires-clause-place : goal.keep-requires-clause-place
keep-requires-clause-place g c = c.in-Some.ensures.within

pub keep-requires-clause-parts : goal.keep-requires-clause-parts
keep-requires-clause-parts g c = c.in-Some.ensures.parts

pub returns-in_default-clause-first : goal.returns-in_default-clause-first
returns-in_default-clause-first g c = c.requires.first

pub returns-else-label_pair-clause-first : goal.returns-else-label_pair-clause-first
returns-else-label_pair-clause-first g c =
    let task = c.args.task.now in
    let graph = task.graph.now in
    let costs = g.C.Cost.costs task.cost.now in
    let pats = task.pats.now in
    let own = c.args.self.now in
    let place = c.in-Some.place in
    let set = c.set_pair.ensures in
    let found = c.label_pair.ensures.found in
    let later = c.label_pair.new.self in
    let search = subst (λ b. IsSearch graph costs pats b later.tops.now later.marks.items) found.table found.search in
    let others = subst (λ ms. AreSameBut (λ n. n / 2 ≡ place) ms later.marks.items) set.marks found.others in
    subst (λ b. IsFirstRound graph costs pats own.visits (state b later.marks.items) later.tops.now) (sym found.table) (found_round graph costs pats own.labelling.bounds c.set_pair.new.self.bounds own.labelling.marks.items own.labelling.tops.now own.visits place c.requires.first c.in-Some.ensures set.set later.marks.items later.tops.now search others)

pub returns-then-label_pair-clause-order : goal.returns-then-label_pair-clause-order
returns-then-label_pair-clause-order g c = c.keep.ensures.order

pub returns-then-label_pair-clause-first : goal.returns-then-label_pair-clause-first
returns-then-label_pair-clause-first g c =
    let task = c.args.task.now in
    let graph = task.graph.now in
    let costs = g.C.Cost.costs task.cost.now in
    let pats = task.pats.now in
    let own = c.args.self.now in
    let place = c.in-Some.place in
    let set = c.set_pair.ensures in
    let found = c.label_pair.ensures.found in
    let later = c.label_pair.new.self in
    let search = subst (λ b. IsSearch graph costs pats b later.tops.now later.marks.items) found.table found.search in
    let others = subst (λ ms. AreSameBut (λ n. n / 2 ≡ place) ms later.marks.items) set.marks found.others in
    subst (λ b. IsFirstRound graph costs pats c.keep.new.self (state b later.marks.items) later.tops.now) (sym found.table) (kept_round graph costs pats own.labelling.bounds c.set_pair.new.self.bounds own.labelling.marks.items own.labelling.tops.now own.visits place c.requires.first c.in-Some.ensures set.set later.marks.items later.tops.now search others c.keep.new.self c.keep.ensures (c.label_pair.ensures.bounded c.if-label_pair.true))
