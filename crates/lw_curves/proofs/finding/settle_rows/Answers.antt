use Rattle.lw_curves.proofs.finding.settle_rows.Goals as goal

pub pin_groups_of-requires : goal.pin_groups_of-requires
pin_groups_of-requires c = record {
  few = c.requires.rows.few;
  parts = λ k d lt. (c.requires.rows.each k d lt).part;
}

pub started-requires : goal.started-requires
started-requires c = c.requires.rows.few

pub settle_setup-requires-clause-setup : goal.settle_setup-requires-clause-setup
settle_setup-requires-clause-setup c = record {
  rows = c.requires.rows.each;
  count = c.in_ok-pin_groups.ensures.count;
  pin_groups = c.in_ok-pin_groups.ensures.pin_groups;
}

pub settle_setup-requires-clause-begun : goal.settle_setup-requires-clause-begun
settle_setup-requires-clause-begun c = record {
  horizon_is = c.in_ok-queue.ensures.horizon_is;
  listed = c.requires.listed;
  first = λ g pats are. c.in_ok-queue.ensures.first g pats c.args.lib.now are;
}

pub returns-clause-settled : goal.returns-clause-settled
returns-clause-settled c = c.settle_setup.ensures.settled

pub returns-clause-stop : goal.returns-clause-stop
returns-clause-stop c = c.settle_setup.ensures.stop
