use Rattle.std.proofs.Common.{◌∙◌, ◌+◌, ◌<◌, drop, refl, subst, arith, vec_len}
use Rattle.std.proofs.lemmas.List.{drop_all, drop_more}
use Rattle.std.proofs.lemmas.List.Elements.{All-get_or}
use Rattle.std.proofs.lemmas.Result.{IfOk-from_err}
use Rattle.lw_dag.specs.Ranking.{AreRanked}
use Rattle.lw_dag.proofs.ranking.Ranking.rank_all.Goals as goal

pub loop-s-init : goal.loop-s-init
loop-s-init c = record { ranking = λ graph r. r; less = omega arith; len = refl }

pub rank_one-requires-clause-signal : goal.rank_one-requires-clause-signal
rank_one-requires-clause-signal c = omega (arith, c.loop-s.invariant.len, All-get_or (λ s. s < c.args.inputs + vec_len c.args.self.now.ranks) c.args.fanins.now c.loop-s.s-index 0 c.loop-s-test.true c.requires.signals)

pub loop-s-preserved : goal.loop-s-preserved
loop-s-preserved c =
    let fanins = c.args.fanins.now in
    let i = c.loop-s.s-index in
    let before = subst (λ later. AreRanked c.args.inputs c.args.rank fanins later c.args.self.now c.loop-s.self) (drop_more fanins i 0 c.loop-s-test.true) c.loop-s.invariant in
    let one = c.in_ok-rank_one.ensures (drop (i + 1) fanins) in
    record {
      ranking = λ graph r. one.ranking graph (before.ranking graph r);
      less = omega (arith, one.less, before.less);
      len = one.len ∙ before.len;
    }

pub returns-in_err-rank_one : goal.returns-in_err-rank_one
returns-in_err-rank_one c = IfOk-from_err _ _ c.from_residual.ensures.0

pub returns : goal.returns
returns c =
    subst (λ later. AreRanked c.args.inputs c.args.rank c.args.fanins.now later c.args.self.now c.loop-s.self) (drop_all c.loop-s.s-index c.args.fanins.now (omega (arith, c.loop-s-test.false))) c.loop-s.invariant
