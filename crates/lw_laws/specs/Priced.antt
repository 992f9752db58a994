-- Matches priced by the marks of their pins, and the marks of classes.
use Rattle.std.specs.Prelude.{ℕ, ◌<◌, ◌≡◌, ◌⊎◌, List, Some}
use Rattle.lw_laws.specs.Graphs.{Graph}
use Rattle.lw_laws.specs.Costs.{Cost}
use Rattle.lw_laws.specs.Covers.{Pattern}
use Rattle.lw_laws.specs.Matches.{choices_of}
use Rattle.lw_laws.specs.Choices.{IsPotential, IsHeight}
use Rattle.lw_laws.specs.Marks.{Mark, Marks, HaveMarks, price, labels_of}
use Rattle.lw_laws.specs.Extracts.{Match, IsMatchOf, IsMatchAtMost}

-- the match stands at the class, its pins have marks, and these price it at this mark
pub record IsPriced (g : Graph) (cost : Cost) (pats : List Pattern) (marks : Marks) (c : ℕ) (m : Match) (p : Pattern)
    (mark : Mark) : Type 0 where
  pub matches : IsMatchOf g cost pats c m p
  pub pin_marks : List Mark
  pub have : HaveMarks marks m.pins pin_marks
  pub mark_is : mark ≡ price cost p.cell pin_marks

-- by cost, then height, then pattern number, then the classes of the pins
abbrev pub IsPricedAtMost : Mark → Match → Mark → Match → Type 0
IsPricedAtMost k m j n =
    (k.cost < j.cost) ⊎ ((k.cost ≡ j.cost) × ((k.height < j.height) ⊎ ((k.height ≡ j.height) × IsMatchAtMost m n)))

-- the marks of the classes: their labels are a potential, and each comes with the height of its class
pub record AreMarks (g : Graph) (cost : Cost) (pats : List Pattern) (marks : Marks) : Type 0 where
  pub potential : IsPotential (choices_of g cost.pin_counts pats) cost (labels_of marks)
  pub heights : (c : ℕ) (m : Mark) → marks c ≡ Some m → IsHeight (choices_of g cost.pin_counts pats) cost
      (labels_of marks) c m.height
