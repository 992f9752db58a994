use Rattle.std.proofs.Common.{◌≡◌, ◌+◌, ◌<◌, ◌++◌, ◌∷◌, ◌∙◌, ℕ, [], List, Some, None, All, length, vec_len, subst, arith}
use Rattle.std.proofs.lemmas.List.{get_or_read}
use Rattle.std.proofs.lemmas.List.Elements.{All-get_or, All-pop, All-push, All-same}
use Rattle.std.proofs.lemmas.Result.{IfOk-from_err}
use Rattle.lw_dag.specs.declared.turning.Stop.{Stop}
use Rattle.lw_dag.specs.declared.turning.Walk.{Walk}
use Rattle.lw_dag.specs.Ranking.{IsWalk}
use Rattle.lw_dag.proofs.turning.step.Goals as goal

abbrev IsStop : ℕ → Stop → Type 0
IsStop n stop = stop.node < n

-- the stop that is taken from the way, and those that are left, are at nodes
popped_within : (n : ℕ) (way rest : List Stop) (stop : Stop) → way ≡ rest ++ stop ∷ [] → All (IsStop n) way → All (IsStop n) rest × (stop.node < n)
popped_within n way rest stop popped all = All-pop (IsStop n) way rest (Some stop) popped all

pub returns-in_default : goal.returns-in_default
returns-in_default c =
    let walk = c.requires.walk in
    record {
      walk = record {
        flags = walk.flags;
        way = (All-pop (IsStop (length c.args.rows.now)) c.args.walk.now.way.items c.pop.new.self.items None c.in_default.ensures.items walk.way).0;
        left = walk.left;
      };
    }

pub bounds-rows-node : goal.bounds-rows-node
bounds-rows-node c = (popped_within (length c.args.rows.now) c.args.walk.now.way.items c.pop.new.self.items c.in-Some.stop c.in-Some.ensures.items c.requires.walk.way).1

pub returns-in_err-push : goal.returns-in_err-push
returns-in_err-push c = record { walk = IfOk-from_err _ _ c.from_residual.ensures.0 }

pub returns-then-at-users : goal.returns-then-at-users
returns-then-at-users c =
    let walk = c.requires.walk in
    let popped = popped_within (length c.args.rows.now) c.args.walk.now.way.items c.pop.new.self.items c.in-Some.stop c.in-Some.ensures.items walk.way in
    record {
      walk = record {
        flags = walk.flags;
        way = popped.0;
        left = All-same (λ j. j < length c.args.rows.now) _ _ c.in_ok-push.ensures.items (All-push (λ j. j < length c.args.rows.now) c.args.walk.now.left.items c.in-Some.stop.node walk.left popped.1);
      };
    }

pub returns-in_err-push-2 : goal.returns-in_err-push-2
returns-in_err-push-2 c = record { walk = IfOk-from_err _ _ c.from_residual-in_err-push-2.ensures.0 }

pub enter-requires-clause-walk : goal.enter-requires-clause-walk
enter-requires-clause-walk c =
    let n = length c.args.rows.now in
    let walk = c.requires.walk in
    let popped = popped_within n c.args.walk.now.way.items c.pop.new.self.items c.in-Some.stop c.in-Some.ensures.items walk.way in
    let stop : Stop = record { node = c.in-Some.stop.node; at = c.in-Some.stop.at + 1 } in
    let now : Walk = record { seen = c.args.walk.now.seen; way = c.push-2.new.self; left = c.args.walk.now.left } in
    let flags : n ≡ vec_len c.args.walk.now.seen = omega (arith, walk.flags) in
    let is : IsWalk n now = record {
      flags = walk.flags;
      way = All-same (IsStop n) _ _ c.in_ok-push-2.ensures.items (All-push (IsStop n) c.pop.new.self.items stop popped.0 popped.1);
      left = walk.left;
    } in
    subst (λ m. IsWalk m now) flags is

pub enter-requires-clause-node : goal.enter-requires-clause-node
enter-requires-clause-node c =
    let rows = c.args.rows.now in
    let node = c.in-Some.stop.node in
    let within : node < length rows = (popped_within (length rows) c.args.walk.now.way.items c.pop.new.self.items c.in-Some.stop c.in-Some.ensures.items c.requires.walk.way).1 in
    let users = c.as_slice-users.ensures ∙ get_or_read rows node c.index-rows-node.result within c.index-rows-node.is [] in
    let all = All-same (λ j. j < length rows) _ _ users (All-get_or (All (λ j. j < length rows)) rows node [] within c.requires.rows) in
    omega (arith, c.requires.walk.flags, All-get_or (λ j. j < length rows) c.as_slice-users.result.now c.in-Some.stop.at 0 c.if-at-users.false all)

pub returns-in_err-enter : goal.returns-in_err-enter
returns-in_err-enter c = record { walk = IfOk-from_err _ _ c.from_residual-in_err-enter.ensures.0 }

pub returns : goal.returns
returns c =
    let flags : vec_len c.enter.new.walk.seen ≡ length c.args.rows.now = omega (arith, c.enter.ensures.len, c.requires.walk.flags) in
    record { walk = subst (λ n. IsWalk n c.enter.new.walk) flags c.in_ok-enter.ensures.walk }
