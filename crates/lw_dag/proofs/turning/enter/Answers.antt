use Rattle.std.proofs.Common.{◌∙◌, ◌<◌, length-set, refl, true, vec_len}
use Rattle.std.proofs.lemmas.List.Elements.{All-push, All-same}
use Rattle.std.proofs.lemmas.Result.{IfOk-from_err}
use Rattle.lw_dag.specs.declared.turning.Stop.{Stop}
use Rattle.lw_dag.proofs.turning.enter.Goals as goal

pub returns-then-index-clause-len : goal.returns-then-index-clause-len
returns-then-index-clause-len c = refl

pub returns-then-index-clause-walk : goal.returns-then-index-clause-walk
returns-then-index-clause-walk c = c.requires.walk

pub returns-in_err-push-clause-len : goal.returns-in_err-push-clause-len
returns-in_err-push-clause-len c = refl

pub returns-in_err-push-clause-walk : goal.returns-in_err-push-clause-walk
returns-in_err-push-clause-walk c = IfOk-from_err _ _ c.from_residual.ensures.0

pub returns-clause-len : goal.returns-clause-len
returns-clause-len c = refl

pub returns-clause-walk : goal.returns-clause-walk
returns-clause-walk c =
    let n = vec_len c.args.walk.now.seen in
    let walk = c.requires.walk in
    let stop : Stop = record { node = c.args.node; at = 0 } in
    record {
      flags = length-set c.args.walk.now.seen.items c.args.node true ∙ walk.flags;
      way = All-same (λ (s : Stop). s.node < n) _ _ c.in_ok-push.ensures.items (All-push (λ (s : Stop). s.node < n) c.args.walk.now.way.items stop walk.way c.requires.node);
      left = walk.left;
    }
