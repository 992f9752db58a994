use Rattle.std.proofs.Common.{sym, subst}
use Rattle.lw_curves.specs.Setups.{HaveFronts, IsSetup}
use Rattle.lw_curves.proofs.finding.settle_setup.Goals as goal

pub settle_fronts-requires-clause-setup : goal.settle_fronts-requires-clause-setup
settle_fronts-requires-clause-setup c = subst (λ n. IsSetup n c.args.setup.now) (sym c.in_ok-fronts.ensures.classes) c.requires.setup

pub settle_fronts-requires-clause-begun : goal.settle_fronts-requires-clause-begun
settle_fronts-requires-clause-begun c = c.requires.begun

pub settle_fronts-requires-clause-none : goal.settle_fronts-requires-clause-none
settle_fronts-requires-clause-none c = record { spots_none = c.in_ok-fronts.ensures.spots; held_none = c.in_ok-fronts.ensures.held }

pub returns-clause-settled : goal.returns-clause-settled
returns-clause-settled c =
    let setup = c.args.setup.now in
    subst (λ n. HaveFronts setup.lib.now setup.starts.now setup.rows.now n c.args.horizon c.settle_fronts.new.fronts) c.in_ok-fronts.ensures.classes c.in_ok-settle_fronts.ensures.settled
