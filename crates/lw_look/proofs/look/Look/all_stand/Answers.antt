use Rattle.std.proofs.Common.{length, refl, arith}
use Rattle.std.proofs.lemmas.Option.{slice_get_read, slice_get_within}
use Rattle.lw_extract.specs.Choosing.{chosen_classes}
use Rattle.lw_look.proofs.RightLists.{place_seen, stand_more}
use Rattle.lw_look.proofs.look.Look.all_stand.Goals as goal

pub returns-then-not-may_stand-clause-stand : goal.returns-then-not-may_stand-clause-stand
returns-then-not-may_stand-clause-stand c =
    let list = c.args.list.now in
    let j = c.loop-j.j in
    let at = slice_get_read list (length list) j c.index-list-j.result refl c.loop-j-test.true c.index-list-j.is in (
      λ f. absurd (cc),
      λ all. (c.if-not-may_stand.ensures (chosen_classes list) j c.loop-j.invariant.seen).1 (all j c.index-list-j.result at),
    )

pub bounds-seen-gate : goal.bounds-seen-gate
bounds-seen-gate c =
    let stands = (c.if-not-may_stand.ensures (chosen_classes c.args.list.now) c.loop-j.j c.loop-j.invariant.seen).0 refl in
    omega (arith, stands.within, c.loop-j.invariant.seen.one_each)

pub loop-j-preserved : goal.loop-j-preserved
loop-j-preserved c =
    let list = c.args.list.now in
    let j = c.loop-j.j in
    let x = c.index-list-j.result in
    let at = slice_get_read list (length list) j x refl c.loop-j-test.true c.index-list-j.is in
    let stands = (c.if-not-may_stand.ensures (chosen_classes list) j c.loop-j.invariant.seen).0 refl in
    record {
      stand = stand_more c.args.self.now list j x at stands c.loop-j.invariant.stand;
      seen = place_seen c.args.self.now list j x c.loop-j.seen at stands c.loop-j.invariant.seen;
    }

pub returns-clause-stand : goal.returns-clause-stand
returns-clause-stand c = (
  λ t j x at. let inside = slice_get_within c.args.list.now j x at in c.loop-j.invariant.stand j x (omega (arith, inside, c.loop-j-test.false)) at,
  λ all. refl,
)
