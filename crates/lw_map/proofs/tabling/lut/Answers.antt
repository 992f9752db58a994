use Rattle.std.proofs.Common.{ap, subst}
use Rattle.lw_map.specs.Mapped.{IsWithinLimits}
use Rattle.lw_map.specs.Options.{Options, plain_options}
use Rattle.lw_map.specs.Tabled.{IsTabled}
use Rattle.lw_map.proofs.tabling.lut.Goals as goal

pub returns-clause-within : goal.returns-clause-within
returns-clause-within c = subst (λ (o : Options). IsWithinLimits o c.args.model.now.network) (ap plain_options c.in_ok-choices.ensures.choices.0) c.in_ok-choices.ensures.choices.1.within

pub returns-clause-tables : goal.returns-clause-tables
returns-clause-tables c =
    subst (λ (o : Options). IsTabled o c.args.leaves c.args.model.now.network c.in_ok-net.field-0) (ap plain_options c.in_ok-choices.ensures.choices.0) c.in_ok-net.ensures
