use Rattle.std.proofs.Common.{◌≡◌, ◌<◌, ◌-◌, ℕ, ◌∷◌, length, refl, sym, ap, ◌∙◌, arith}
use Rattle.std.proofs.lemmas.List.{get_or_read}
use Rattle.std.proofs.lemmas.Result.{IfOk-from_err}
use Rattle.lw_dag.specs.Ranking.{rank_at}
use Rattle.lw_dag.proofs.Ranks.{ranking_known, ranking_given}
use Rattle.lw_dag.proofs.Rising.{unknown-set}
use Rattle.lw_dag.proofs.ranking.Ranking.rank_one.Goals as goal

pub index-requires : goal.index-requires
index-requires c = omega (arith, c.requires.signal, c.if-s-inputs.false)

pub returns-then-s-inputs : goal.returns-then-s-inputs
returns-then-s-inputs c = λ later. record {
  ranking = λ graph ranking. ranking_known c.args.inputs graph c.args.rank c.args.self.now.ranks.items c.args.self.now.ready.items (c.args.s ∷ later) 0 c.args.s c.requires.some (omega arith) refl ranking (λ y is. absurd (omega (arith, c.if-s-inputs.true, is)));
  less = omega arith;
  len = refl;
}

pub returns-then-index-ne0 : goal.returns-then-index-ne0
returns-then-index-ne0 c =
    let s = c.args.s in
    let ranks = c.args.self.now.ranks.items in
    let node : ℕ = s - c.args.inputs in
    let within : node < length ranks = omega (arith, c.args.self.now.ranks.ok.0, c.requires.signal, c.if-s-inputs.false) in
    let read = get_or_read ranks node c.index.result.now within c.index.ensures 0 in
    let has : 0 < rank_at ranks node = omega (arith, read, c.if-index-ne0.true) in
    λ later. record {
      ranking = λ graph ranking. ranking_known c.args.inputs graph c.args.rank ranks c.args.self.now.ready.items (s ∷ later) 0 s c.requires.some (omega arith) refl ranking (λ y is. let e : node ≡ y = omega (arith, is, c.if-s-inputs.false) in omega (arith, has, ap (rank_at ranks) e));
      less = omega arith;
      len = refl;
    }

pub returns-in_err-push : goal.returns-in_err-push
returns-in_err-push c = IfOk-from_err _ _ c.from_residual.ensures.0

pub returns : goal.returns
returns c =
    let s = c.args.s in
    let ranks = c.args.self.now.ranks.items in
    let node : ℕ = s - c.args.inputs in
    let within : node < length ranks = omega (arith, c.args.self.now.ranks.ok.0, c.requires.signal, c.if-s-inputs.false) in
    let none : rank_at ranks node ≡ 0 = sym (get_or_read ranks node c.index.result.now within c.index.ensures 0) ∙ c.if-index-ne0.false in
    λ later. record {
      ranking = λ graph ranking. rw c.in_ok-push.ensures.items (ranking_given c.args.inputs graph c.args.rank ranks c.args.self.now.ready.items (s ∷ later) 0 s c.requires.some (omega arith) refl ranking node (omega (arith, c.if-s-inputs.false)) within none);
      less = omega (arith, c.in_ok-push.ensures.len, unknown-set ranks node c.args.rank within none c.requires.some);
      len = refl;
    }
