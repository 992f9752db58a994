use Rattle.std.proofs.Common.{◌≡◌, Some, slice_get, slice_index_or, sym, subst, arith}
use Rattle.std.proofs.lemmas.Option.{slice_get-get_or}
use Rattle.lw_bounds.specs.declared.parts.Root.{Root}
use Rattle.lw_cost.specs.Values.{AreInRange}
use Rattle.lw_match.specs.Picks.{IsByRoot, PicksOf}
use Rattle.lw_match.proofs.Picks.{far_list, among_start, among_next, among_all}
use Rattle.lw_match.proofs.choosing.pick_list.Goals as goal

pub returns-then-is_bare : goal.returns-then-is_bare
returns-then-is_bare g c =
    let q = c.args.query.now in
    far_list g.C.Cost.costs q c.args.pick c.requires.pick.pick _ (g.met.C.Cost.laws q.site.cost.now) (subst (λ n. AreInRange n q.site.marks.now) (sym (g.met.C.Cost.cap q.site.cost.now)) c.requires.pick.query.in_range) c.requires.pick.query c.args.list c.list_at-numbers.result.now c.args.best.now c.list_at-numbers.ensures (c.is_bare.ensures c.if-is_bare.true)

pub loop-number-init : goal.loop-number-init
loop-number-init g c =
    let q = c.args.query.now in
    among_start g.C.Cost.costs q c.args.pick.top c.args.list c.args.roots.now c.args.best.now

pub loop-number-preserved : goal.loop-number-preserved
loop-number-preserved g c =
    let q = c.args.query.now in
    let l = c.loop-number in
    let roots = c.args.roots.now in
    let none : Root = record { pattern = 0; place = 0; shift = 0 } in
    let root = slice_index_or roots l.number none in
    let here : slice_get roots l.number ≡ Some root = slice_get-get_or roots l.number none c.loop-number-test.true in
    among_next g.C.Cost.costs q c.args.pick.top c.args.list roots l.number root c.args.best.now l.best c.pick_root.new.best here l.invariant (subst (λ numbers. PicksOf g.C.Cost.costs q (IsByRoot q c.args.pick.top numbers root) l.best c.pick_root.new.best) c.list_at-numbers.ensures c.pick_root.ensures)

pub returns : goal.returns
returns g c =
    let q = c.args.query.now in
    let l = c.loop-number in
    among_all g.C.Cost.costs q c.args.pick c.requires.pick.pick c.args.list c.args.roots.now l.number c.args.best.now l.best c.requires.listed (omega (arith, c.loop-number-test.false)) l.invariant
