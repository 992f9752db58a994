use Rattle.std.proofs.Common.{refl, arith}
use Rattle.std.proofs.lemmas.Result.{IfOk-weaker}
use Rattle.lw_curves.proofs.settling.gain_at.Goals as goal

pub look_at_groups-requires : goal.look_at_groups-requires
look_at_groups-requires c = c.requires

pub next_gain-requires-clause-under_way : goal.next_gain-requires-clause-under_way
next_gain-requires-clause-under_way c = record {
  setup = c.requires.setup;
  time = omega (arith, c.requires.time, c.in_ok-look_at_groups.ensures.horizon);
  tallied = c.in_ok-look_at_groups.ensures.tallied;
  seen = c.in_ok-look_at_groups.ensures.over.seen;
  still = let (g, pats, st) = c.requires.still in (g, pats, c.in_ok-look_at_groups.ensures.over.still g pats st);
}

pub next_gain-requires-clause-over : goal.next_gain-requires-clause-over
next_gain-requires-clause-over c = c.in_ok-look_at_groups.ensures.over.over

pub returns-in_err-look_at_groups-clause-kept : goal.returns-in_err-look_at_groups-clause-kept
returns-in_err-look_at_groups-clause-kept c = record {
  horizon = c.in_err-look_at_groups.ensures.horizon;
  count = refl;
  tallied = c.in_err-look_at_groups.ensures.tallied;
}

pub returns-clause-kept : goal.returns-clause-kept
returns-clause-kept c = record {
  horizon = c.in_ok-look_at_groups.ensures.horizon;
  count = c.next_gain.ensures.count;
  tallied = c.in_ok-look_at_groups.ensures.tallied;
}

pub returns-clause-gain : goal.returns-clause-gain
returns-clause-gain c =
    let still = c.in_ok-look_at_groups.ensures.over.still in
    IfOk-weaker c.next_gain.result _ _ (λ gain is. record {
      after = λ g pats st. is.after g pats (still g pats st);
      seen = is.seen;
      falls = is.falls;
      backed = λ g pats st. is.backed g pats (still g pats st);
    }) c.next_gain.ensures.gain
