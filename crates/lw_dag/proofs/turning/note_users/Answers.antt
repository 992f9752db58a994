use Rattle.std.proofs.Common.{◌+◌, ◌<◌, arith, refl, subst, sym, vec_len}
use Rattle.std.proofs.lemmas.List.Elements.{All-get_or}
use Rattle.std.proofs.lemmas.Result.{IfOk-from_err}
use Rattle.lw_dag.specs.Ranking.{AreUserRows, AreWithin}
use Rattle.lw_dag.proofs.turning.note_users.Goals as goal

pub loop-s-init : goal.loop-s-init
loop-s-init c = c.requires.rows

pub note_user-requires-clause-signal : goal.note_user-requires-clause-signal
note_user-requires-clause-signal c = omega (arith, c.loop-s.invariant.len, All-get_or (λ s. s < c.args.inputs + vec_len c.args.rows.now) c.args.fanins.now c.loop-s.s-index 0 c.loop-s-test.true c.requires.signals)

pub note_user-requires-clause-user : goal.note_user-requires-clause-user
note_user-requires-clause-user c = omega (arith, c.loop-s.invariant.len, c.requires.user)

pub note_user-requires-clause-rows : goal.note_user-requires-clause-rows
note_user-requires-clause-rows c = record { len = refl; within = subst (λ n. AreWithin n c.loop-s.rows.items) (sym c.loop-s.invariant.len) c.loop-s.invariant.within }

pub returns-in_err-note_user : goal.returns-in_err-note_user
returns-in_err-note_user c = IfOk-from_err _ _ c.from_residual.ensures.0

pub loop-s-preserved : goal.loop-s-preserved
loop-s-preserved c = subst (λ n. AreUserRows n c.note_user.new.rows) c.loop-s.invariant.len c.in_ok-note_user.ensures

pub returns : goal.returns
returns c = c.loop-s.invariant
