use Rattle.std.proofs.Common.{◌≡◌, ℕ, List}
use Rattle.lw_genlib.specs.Cells.{CellParts}
use Rattle.lw_choices.specs.Choices.{Choice}
use Rattle.lw_choices.specs.GroupChoices.{AreMembersListed, owners_of}
use Rattle.lw_curves.specs.Tallies.{AreTallies, HasFallen}
use Rattle.lw_choices.specs.PinGroups.{AreUses}
use Rattle.lw_curves.proofs.Falling.{IsFalling}
use Rattle.lw_curves.proofs.tallies.lower_tallies.Given as goal

abbrev pub invariant-loop-at : goal.invariant-loop-at
invariant-loop-at l =
    (cells : List CellParts) (xs : List Choice) (seen fallen places : List ℕ) → AreUses cells xs l.pin_groups → HasFallen l.group l.fall seen fallen → l.pin_groups.by_group.numbers.items ≡ owners_of l.pin_groups.owners.items places → AreMembersListed l.pin_groups.members.classes l.pin_groups.members.count l.pin_groups.by_group.starts.items places → AreTallies cells xs l.pin_groups seen l.initial.tallies → IsFalling cells xs l.pin_groups fallen l.fall places l.at l.end l.tallies
