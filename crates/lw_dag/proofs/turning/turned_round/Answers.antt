use Rattle.std.proofs.Common.{◌≡◌, ◌+◌, ◌<◌, [], All, length, refl, sym, subst, ap, vec_len, ◌∙◌, arith}
use Rattle.std.proofs.lemmas.List.{get_or_default, length-replicate}
use Rattle.std.proofs.lemmas.List.Elements.{All-nil, All-replicate, All-same}
use Rattle.std.proofs.lemmas.Result.{IfOk-from_err}
use Rattle.lw_dag.specs.Graphs.{fanins_at}
use Rattle.lw_dag.specs.Ranking.{AreUserRows, AreWithin}
use Rattle.lw_dag.proofs.turning.turned_round.Goals as goal

pub note_users-requires-clause-signals : goal.note_users-requires-clause-signals
note_users-requires-clause-signals c =
    let graph = c.args.graph.now.nodes.now in
    let j = c.loop-j.j in
    let within : j < length graph = c.loop-j-test.true in
    let fanins : c.as_slice.result.now ≡ fanins_at graph j = c.as_slice.ensures ∙ get_or_default graph j c.index-graph-j.result [] within in
    let rows : length graph ≡ vec_len c.loop-j.rows = omega (arith, c.loop-j.invariant.len) in
    subst (λ n. All (λ s. s < c.args.graph.now.inputs + n) c.as_slice.result.now) rows
    (subst (All (λ s. s < c.args.graph.now.inputs + length graph)) (sym fanins) (c.args.graph.now.small.graph j))

pub returns-in_err-rows : goal.returns-in_err-rows
returns-in_err-rows c = IfOk-from_err _ _ c.from_residual.ensures.0

pub loop-j-init : goal.loop-j-init
loop-j-init c =
    let n = length c.args.graph.now.nodes.now in
    let many : length c.in_ok-rows.rows.items ≡ n = ap length c.in_ok-rows.ensures ∙ length-replicate n [] in
    record {
      len = omega (arith, many, c.in_ok-rows.rows.ok.0);
      within = All-same (All (λ j. j < n)) _ _ c.in_ok-rows.ensures (All-replicate (All (λ j. j < n)) n [] (All-nil (λ j. j < n)));
    }

pub note_users-requires-clause-user : goal.note_users-requires-clause-user
note_users-requires-clause-user c = omega (arith, c.loop-j.invariant.len, c.loop-j-test.true)

pub note_users-requires-clause-rows : goal.note_users-requires-clause-rows
note_users-requires-clause-rows c = record { len = refl; within = subst (λ n. AreWithin n c.loop-j.rows.items) (sym c.loop-j.invariant.len) c.loop-j.invariant.within }

pub returns-in_err-note_users : goal.returns-in_err-note_users
returns-in_err-note_users c = IfOk-from_err _ _ c.from_residual-in_err-note_users.ensures.0

pub loop-j-preserved : goal.loop-j-preserved
loop-j-preserved c = subst (λ n. AreUserRows n c.note_users.new.rows) c.loop-j.invariant.len c.in_ok-note_users.ensures

pub returns : goal.returns
returns c = c.loop-j.invariant
