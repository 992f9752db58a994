use Rattle.std.proofs.Common.{◌≡◌, Some, slice_get, slice_index_or, refl, sym, ap, subst, ◌∙◌, arith}
use Rattle.std.proofs.lemmas.Option.{slice_get-get_or}
use Rattle.lw_bounds.specs.declared.parts.Root.{Root}
use Rattle.lw_cost.specs.Values.{AreInRange}
use Rattle.lw_bounds.specs.Cuts.{cuts_state, root_side}
use Rattle.lw_bounds.specs.Places.{list_at, root_of}
use Rattle.lw_match.specs.Hunts.{HasNoneByRoot}
use Rattle.lw_match.specs.Queries.{IsRootOf}
use Rattle.lw_match.proofs.RootLists.{far, hunts_on, stays_on, done_start, done_next, done_all}
use Rattle.lw_match.proofs.sweeping.hunt_list.Goals as goal

pub returns-then-is_bare-clause-none : goal.returns-then-is_bare-clause-none
returns-then-is_bare-clause-none g c = λ e i within known in_list.
    let q = c.args.query.now in
    let root = root_of i (root_side (cuts_state q.site.cuts.now) i) in
    let here : IsRootOf q c.list_at-numbers.result.now root i = record {
      within = within;
      known = known;
      in_list = ap (list_at q.view) in_list ∙ sym c.list_at-numbers.ensures;
      is = refl;
    } in
    far g.C.Cost.costs q _ (g.met.C.Cost.laws q.site.cost.now) (subst (λ n. AreInRange n q.site.marks.now) (sym (g.met.C.Cost.cap q.site.cost.now)) c.requires.query.in_range) c.requires.query c.list_at-numbers.result.now root i c.args.hunt.now.target here (c.is_bare.ensures c.if-is_bare.true root.place root.shift)

pub loop-number-init : goal.loop-number-init
loop-number-init g c =
    let q = c.args.query.now in
    record {
      goes_on = stays_on g.C.Cost.costs q c.args.hunt.now c.args.hunt.now.scratch;
      done = done_start g.C.Cost.costs q c.args.list c.args.roots.now c.args.hunt.now;
    }

pub loop-number-preserved : goal.loop-number-preserved
loop-number-preserved g c =
    let q = c.args.query.now in
    let costs = g.C.Cost.costs in
    let l = c.loop-number in
    let roots = c.args.roots.now in
    let none : Root = record { pattern = 0; place = 0; shift = 0 } in
    let root = slice_index_or roots l.number none in
    let here : slice_get roots l.number ≡ Some root = slice_get-get_or roots l.number none c.loop-number-test.true in
    let hunt = c.hunt_root.new.hunt in
    record {
      goes_on = hunts_on costs q c.args.hunt.now l.hunt hunt l.invariant.goes_on c.hunt_root.ensures.goes_on;
      done = done_next costs q c.args.list roots l.number l.hunt hunt root here c.hunt_root.ensures.goes_on (subst (λ numbers. HasNoneByRoot costs q hunt numbers root) c.list_at-numbers.ensures c.hunt_root.ensures.none) l.invariant.done;
    }

pub returns-clause-none : goal.returns-clause-none
returns-clause-none g c = λ e i within known in_list.
    let q = c.args.query.now in
    let l = c.loop-number in
    done_all g.C.Cost.costs q c.args.list c.args.roots.now l.number l.hunt c.requires.listed (omega (arith, c.loop-number-test.false)) l.invariant.done e i within known in_list
