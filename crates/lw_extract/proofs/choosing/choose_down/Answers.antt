use Rattle.std.proofs.Common.{◌≡◌, ◌∙◌, ◌<◌, ◌++◌, All, List, [], ◌∷◌, Bool, false, length, reverse, take, drop, sym, ap, subst, arith}
use Rattle.std.proofs.lemmas.List.{with_items_is, get_or_read}
use Rattle.std.proofs.lemmas.List.Elements.{All-same}
use Rattle.std.proofs.lemmas.Iterator.Adapters.{YieldsList-from_rev_slice}
use Rattle.std.proofs.lemmas.Iterator.Consumers.{YieldsList-turn, YieldsList-end}
use Rattle.lw_pool.specs.declared.id.ClassId.{ClassId}
use Rattle.lw_extract.specs.declared.choosing.Chosen.{Chosen}
use Rattle.lw_extract.specs.Choosing.{RootsHaveMarks}
use Rattle.lw_needed.specs.Needed.{AreRoots, HasAlso}
use Rattle.lw_extract.proofs.Descent.{IsDown, IsTurn, down_start, turn_no_leaf, turn_within, turn_choice, turn_some, turn_pins, turn_skip, turn_take, turns_end}
use Rattle.lw_extract.proofs.Picking.{marked_within}
use Rattle.lw_extract.proofs.choosing.choose_down.Goals as goal

pub loop-place-init : goal.loop-place-init
loop-place-init g c = record {
  can_next = tt;
  is_finite = tt;
  known = c.in_ok-tops.ensures;
  down =
      let needed = subst (λ (rs : List ClassId). AreRoots rs c.classes.result c.in_ok-needed.needed.items) c.as_slice-roots.ensures c.in_ok-needed.ensures in
      let roots = subst (λ n. AreRoots c.args.job.now.ports.now.roots n c.in_ok-needed.needed.items) c.classes.ensures.classes needed in
      let start = down_start c.args.job.now.graph.now (g.C.Cost.costs c.args.job.now.cost.now) c.args.job.now.pats.now c.args.job.now.marks.now c.args.job.now.ports.now.roots c.in_ok-needed.needed.items roots in
      subst (λ (chosen : List Chosen). IsDown c.args.job.now.graph.now (g.C.Cost.costs c.args.job.now.cost.now) c.args.job.now.pats.now c.args.job.now.marks.now c.args.job.now.ports.now.roots [] c.in_ok-needed.needed.items (reverse chosen)) (sym c.new-chosen.ensures.items) start;
}

pub needed_by-requires : goal.needed_by-requires
needed_by-requires g c =
    let marks = c.args.job.now.marks.now in
    let covered = subst (λ (rs : List ClassId). RootsHaveMarks marks rs) (sym c.as_slice-roots.ensures) c.requires.ready.covered in
    marked_within marks c.as_slice-roots.result.now c.classes.result (c.requires.ready.labels.least.one_each ∙ sym c.classes.ensures.classes) covered

pub index-requires : goal.index-requires
index-requires g c =
    let turn : IsTurn c.args.places.now (length c.loop-place.yielded) c.in-Some.place.now = YieldsList-turn (YieldsList-from_rev_slice c.args.places.now cc) c.loop-place.yielded _ c.loop-place.yielded_by _ _ c.in-Some.place c.in-Some.is c.next.ensures.steps in
    let below = turn_within c.args.job.now.graph.now (g.C.Cost.costs c.args.job.now.cost.now) c.args.job.now.pats.now c.args.job.now.marks.now c.args.job.now.ports.now.roots c.args.places.now c.requires.places (length c.loop-place.yielded) c.in-Some.place.now c.requires.ready.labels.least.one_each turn in
    omega (arith, below, c.loop-place.invariant.down.one_each)

pub choice-requires-clause-class : goal.choice-requires-clause-class
choice-requires-clause-class g c =
    let turn : IsTurn c.args.places.now (length c.loop-place.yielded) c.in-Some.place.now = YieldsList-turn (YieldsList-from_rev_slice c.args.places.now cc) c.loop-place.yielded _ c.loop-place.yielded_by _ _ c.in-Some.place c.in-Some.is c.next.ensures.steps in
    record {
      within = turn_within c.args.job.now.graph.now (g.C.Cost.costs c.args.job.now.cost.now) c.args.job.now.pats.now c.args.job.now.marks.now c.args.job.now.ports.now.roots c.args.places.now c.requires.places (length c.loop-place.yielded) c.in-Some.place.now c.requires.ready.labels.least.one_each turn;
      no_leaf = turn_no_leaf c.args.job.now.graph.now (g.C.Cost.costs c.args.job.now.cost.now) c.args.job.now.pats.now c.args.job.now.marks.now c.args.job.now.ports.now.roots c.args.places.now c.requires.places (length c.loop-place.yielded) c.in-Some.place.now turn;
    }

pub need-requires : goal.need-requires
need-requires g c =
    let turn : IsTurn c.args.places.now (length c.loop-place.yielded) c.in-Some.place.now = YieldsList-turn (YieldsList-from_rev_slice c.args.places.now cc) c.loop-place.yielded _ c.loop-place.yielded_by _ _ c.in-Some.place c.in-Some.is c.next.ensures.steps in
    let choice = turn_choice c.args.job.now.graph.now (g.C.Cost.costs c.args.job.now.cost.now) c.args.job.now.pats.now c.args.job.now.marks.now c.args.job.now.ports.now.roots c.args.places.now c.requires.places (length c.loop-place.yielded) c.in-Some.place.now c.in-Some-choice.found turn c.in-Some-choice.ensures.choice in
    let pins = turn_pins c.args.job.now.graph.now (g.C.Cost.costs c.args.job.now.cost.now) c.args.job.now.pats.now c.args.job.now.marks.now c.args.job.now.ports.now.roots c.args.places.now c.requires.places (length c.loop-place.yielded) c.in-Some.place.now c.in-Some-choice.found c.requires.ready.labels.least.one_each turn choice in
    let size : length c.args.job.now.graph.now.pairs ≡ length c.deref_mut.result.now = sym c.loop-place.invariant.down.one_each ∙ ap length (sym c.deref_mut.ensures.value) in
    subst (λ n. All (λ (x : ClassId). x.0 < n) c.as_slice.result.now) size (All-same (λ (x : ClassId). x.0 < length c.args.job.now.graph.now.pairs) c.as_slice.result.now c.in-Some-choice.found.pins c.as_slice.ensures.classes pins)

pub loop-place-preserved-in-Continue-branch-3 : goal.loop-place-preserved-in-Continue-branch-3
loop-place-preserved-in-Continue-branch-3 g c =
    let turn : IsTurn c.args.places.now (length c.loop-place.yielded) c.in-Some.place.now = YieldsList-turn (YieldsList-from_rev_slice c.args.places.now cc) c.loop-place.yielded _ c.loop-place.yielded_by _ _ c.in-Some.place c.in-Some.is c.next.ensures.steps in
    let choice = turn_choice c.args.job.now.graph.now (g.C.Cost.costs c.args.job.now.cost.now) c.args.job.now.pats.now c.args.job.now.marks.now c.args.job.now.ports.now.roots c.args.places.now c.requires.places (length c.loop-place.yielded) c.in-Some.place.now c.in-Some-choice.found turn c.in-Some-choice.ensures.choice in
    let within = turn_within c.args.job.now.graph.now (g.C.Cost.costs c.args.job.now.cost.now) c.args.job.now.pats.now c.args.job.now.marks.now c.args.job.now.ports.now.roots c.args.places.now c.requires.places (length c.loop-place.yielded) c.in-Some.place.now c.requires.ready.labels.least.one_each turn in
    let below : c.in-Some.place.now.class.0 < length c.loop-place.needed.items = omega (arith, within, c.loop-place.invariant.down.one_each) in
    let flag = sym (get_or_read c.loop-place.needed.items c.in-Some.place.now.class.0 c.index.result.now below c.index.ensures false) ∙ c.if-index.true in
    let also : HasAlso c.loop-place.needed.items c.in-Some-choice.found.pins c.need.new.needed = subst (λ (old : List Bool). HasAlso old c.in-Some-choice.found.pins c.need.new.needed) c.deref_mut.ensures.value (subst (λ (pins : List ClassId). HasAlso c.deref_mut.result.now pins c.need.new.needed) c.as_slice.ensures.classes c.need.ensures) in
    let kept : take c.loop-place.needed.len (c.need.new.needed ++ drop (length c.need.new.needed) c.loop-place.needed.items) ≡ c.need.new.needed = with_items_is c.loop-place.needed c.need.new.needed (c.need.ensures.one_each ∙ c.deref_mut.ensures.len) in
    let down = turn_take c.args.job.now.graph.now (g.C.Cost.costs c.args.job.now.cost.now) c.args.job.now.pats.now c.args.job.now.marks.now c.args.job.now.ports.now.roots c.args.places.now c.requires.places c.loop-place.yielded c.in-Some.place c.in-Some.place.now c.loop-place.needed.items c.need.new.needed c.loop-place.chosen.items c.push.new.self.items c.in-Some-choice.found turn flag choice also c.in_ok-push.ensures.items c.loop-place.invariant.down in
    record {
      can_next = tt;
      is_finite = tt;
      known = c.in-Some-choice.ensures.known;
      down = subst (λ (new : List Bool). IsDown c.args.job.now.graph.now (g.C.Cost.costs c.args.job.now.cost.now) c.args.job.now.pats.now c.args.job.now.marks.now c.args.job.now.ports.now.roots (take (length (c.loop-place.yielded ++ c.in-Some.place ∷ [])) (reverse c.args.places.now)) new (reverse c.push.new.self.items)) (sym kept) down;
    }

pub loop-place-preserved-in_default : goal.loop-place-preserved-in_default
loop-place-preserved-in_default g c =
    let turn : IsTurn c.args.places.now (length c.loop-place.yielded) c.in-Some.place.now = YieldsList-turn (YieldsList-from_rev_slice c.args.places.now cc) c.loop-place.yielded _ c.loop-place.yielded_by _ _ c.in-Some.place c.in-Some.is c.next.ensures.steps in
    absurd (turn_some c.args.job.now.graph.now (g.C.Cost.costs c.args.job.now.cost.now) c.args.job.now.pats.now c.args.job.now.marks.now c.args.job.now.ports.now.roots c.args.places.now c.requires.places (length c.loop-place.yielded) c.in-Some.place.now turn c.in_default.ensures.choice)

pub loop-place-preserved : goal.loop-place-preserved
loop-place-preserved g c =
    let turn : IsTurn c.args.places.now (length c.loop-place.yielded) c.in-Some.place.now = YieldsList-turn (YieldsList-from_rev_slice c.args.places.now cc) c.loop-place.yielded _ c.loop-place.yielded_by _ _ c.in-Some.place c.in-Some.is c.next.ensures.steps in
    let within = turn_within c.args.job.now.graph.now (g.C.Cost.costs c.args.job.now.cost.now) c.args.job.now.pats.now c.args.job.now.marks.now c.args.job.now.ports.now.roots c.args.places.now c.requires.places (length c.loop-place.yielded) c.in-Some.place.now c.requires.ready.labels.least.one_each turn in
    let below : c.in-Some.place.now.class.0 < length c.loop-place.needed.items = omega (arith, within, c.loop-place.invariant.down.one_each) in
    let flag = sym (get_or_read c.loop-place.needed.items c.in-Some.place.now.class.0 c.index.result.now below c.index.ensures false) ∙ c.if-index.false in
    record { can_next = tt; is_finite = tt; known = c.loop-place.invariant.known; down = turn_skip c.args.job.now.graph.now (g.C.Cost.costs c.args.job.now.cost.now) c.args.job.now.pats.now c.args.job.now.marks.now c.args.job.now.ports.now.roots c.args.places.now c.requires.places c.loop-place.yielded c.in-Some.place c.in-Some.place.now c.loop-place.needed.items c.loop-place.chosen.items turn flag c.loop-place.invariant.down }

pub returns : goal.returns
returns g c =
    let end = YieldsList-end (YieldsList-from_rev_slice c.args.places.now cc) c.loop-place.yielded _ c.loop-place.yielded_by _ _ c.in-None.is c.next.ensures.steps in
    turns_end c.args.job.now.graph.now (g.C.Cost.costs c.args.job.now.cost.now) c.args.job.now.pats.now c.args.job.now.marks.now c.args.job.now.ports.now.roots c.args.places.now c.requires.places (length c.loop-place.yielded) c.loop-place.needed.items c.loop-place.chosen.items end.1 c.requires.ready.covered c.loop-place.invariant.down

pub choice-requires-clause-known : goal.choice-requires-clause-known
choice-requires-clause-known g c = c.loop-place.invariant.known
