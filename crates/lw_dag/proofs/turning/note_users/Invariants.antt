use Rattle.std.proofs.Common.{vec_len}
use Rattle.lw_dag.specs.Ranking.{AreUserRows}
use Rattle.lw_dag.proofs.turning.note_users.Given as goal

abbrev pub invariant-loop-s : goal.invariant-loop-s
invariant-loop-s l = AreUserRows (vec_len l.initial.rows) l.rows
