use Rattle.std.proofs.Common.{◌≡◌, ◌+◌, suc, refl, subst, arith}
use Rattle.lw_lut.specs.Sweeps.{IsAtDepth}
use Rattle.lw_lut.proofs.Rounds.{few_unknown}
use Rattle.lw_lut.proofs.search.Search.find_all.Goals as goal

pub loop-span-init : goal.loop-span-init
loop-span-init c =
    let few = few_unknown c.args.self.now.depths.items in
    let counts = c.requires.at.counts in
    let l = counts.one_depth in
    let all = c.classes-high.ensures.classes in
    let p = counts.places in
    record {
      at = c.requires.at;
      swept = record {
        bounded = λ n lt out. absurd (out (record { first = omega arith; last = omega (arith, lt, all) }));
        known = λ n lt out. absurd (out n refl (record { first = omega arith; last = omega (arith, lt, all, p) }));
      };
      room = omega (arith, few, l);
    }

pub loop-span-preserved : goal.loop-span-preserved
loop-span-preserved c =
    let d = c.loop-span.depth in
    let e : suc d ≡ d + 1 = omega arith in
    let less = c.deepen_all.ensures.falls c.loop-span-test.true in
    let room = c.loop-span.invariant.room in
    record {
      at = subst (λ n. IsAtDepth c.args.task.now.graph.now c.args.task.now.leaves n c.deepen_all.new.self) e c.deepen_all.ensures.at;
      swept = c.deepen_all.ensures.swept;
      room = omega (arith, less, room);
    }

pub returns : goal.returns
returns c = record {
  counts = (suc c.loop-span.depth, c.deepen_all.ensures.at.counts);
  least = c.deepen_all.ensures.least c.loop-span-test.false c.requires.some;
}
