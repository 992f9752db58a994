-- What more pairs of forms derive, and what the two forms of a pair do.
use Rattle.std.proofs.Common.{ℕ, ◌≤◌, inl, inr, List, Contains, refl, subst, arith}
use Rattle.lw_facts.proofs.Lists.{at_contained, contained_at}
use Rattle.lw_laws.specs.Modes.{Mode}
use Rattle.lw_laws.specs.Trees.{Tree}
use Rattle.lw_laws.specs.Forms.{Form}
use Rattle.lw_laws.specs.Signals.{Signal}
use Rattle.lw_laws.specs.Covers.{Pattern, Timing}
use Rattle.lw_laws.specs.Decompositions.{AreOfOneSignal, HasTree, Occurs}
use Rattle.lw_laws.specs.Decompositions.Occurs.{true_occurs, sop_occurs, fac_occurs, operand_occurs, part_occurs, complement_occurs}
use Rattle.lw_laws.specs.Decompositions.HasTree.{input_law, true_law, false_law, inverter_law, split_law, sharing_law, factoring_law, overlap_law, tied_inverter_law}
use Rattle.lw_joined.specs.Joins.{ArriveTogether, IsNoEarlier}

module _ (mode : Mode) (width : ℕ) (signals others : List Signal) (more : (x : Signal) → Contains signals x → Contains others x) where
  more_occur : {f : Form} → Occurs signals f → Occurs others f
  more_occur true_occurs = true_occurs
  more_occur (sop_occurs {x = x} c) = sop_occurs (more x c)
  more_occur (fac_occurs {x = x} c) = fac_occurs (more x c)
  more_occur (operand_occurs occ c) = operand_occurs (more_occur occ) c
  more_occur (part_occurs occ parts two) = part_occurs (more_occur occ) parts two
  more_occur (complement_occurs occ) = complement_occurs (more_occur occ)

  one_signal : (f h : Form) → AreOfOneSignal signals f h → AreOfOneSignal others f h
  one_signal f h (s, x, at, pair) = let (k, e) = contained_at others x (more x (at_contained signals s x at)) in (k, x, e, pair)

  pub more_trees : {f : Form} {t : Tree} → HasTree mode width signals f t → HasTree mode width others f t
  more_trees input_law = input_law
  more_trees true_law = true_law
  more_trees false_law = false_law
  more_trees (inverter_law occ t) = inverter_law (more_occur occ) (more_trees t)
  more_trees (split_law occ parts some many t u) = split_law (more_occur occ) parts some many (more_trees t) (more_trees u)
  more_trees (sharing_law occ also s u t) = sharing_law (more_occur occ) (more_occur also) (more_trees s) (more_trees u) (more_trees t)
  more_trees (factoring_law {f = f} {h = h} one t) = factoring_law (one_signal f h one) (more_trees t)
  more_trees (overlap_law further occ parts differ some many t u) = overlap_law further (more_occur occ) parts differ some many (more_trees t) (more_trees u)
  more_trees (tied_inverter_law further occ t u) = tied_inverter_law further (more_occur occ) (more_trees t) (more_trees u)

  pub no_earlier : (pats : List Pattern) (timing : Timing) (f : Form) → IsNoEarlier mode width signals others pats timing f
  no_earlier pats timing f d e least also =
      let (k, is_cover, tree, time) = least.attained in
      subst (λ n. e ≤ n) time (also.least k is_cover (more_trees tree))

pub arrive_together : (mode : Mode) (width : ℕ) (signals : List Signal) (pats : List Pattern) (timing : Timing) (x : Signal) → Contains signals x → ArriveTogether mode width signals pats timing x
arrive_together mode width signals pats timing x c d e left right =
    let (s, at) = contained_at signals x c in
    let (k, is_cover, tree, time) = left.attained in
    let (j, also, other, then) = right.attained in
    let low = right.least k is_cover (factoring_law (s, x, at, inl (inr (refl, refl))) tree) in
    let high = left.least j also (factoring_law (s, x, at, inl (inl (refl, refl))) other) in
    omega arith
