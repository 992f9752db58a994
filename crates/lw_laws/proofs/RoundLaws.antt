-- Rounds of labels and of heights over a graph.
use Rattle.std.proofs.Common.{ℕ, zero, suc, ◌+◌, ◌<◌, ◌≤◌, ◌≡◌, List, [], ◌∷◌, length, Option, Some, slice_get, slice_set, inl, inr, sym, subst, arith}
use Rattle.lw_laws.proofs.Deciding.{label_listed}
use Rattle.lw_laws.proofs.Lists.{held_in}
use Rattle.lw_laws.specs.Flip.{flip}
use Rattle.lw_laws.specs.Trees.{Tree, leaf, const_one, const_zero, inv, nand}
use Rattle.lw_laws.specs.Graphs.{Graph, Stands}
use Rattle.lw_laws.specs.Costs.{Cost}
use Rattle.lw_laws.specs.Covers.{Pattern}
use Rattle.lw_laws.specs.Choices.{Choices, HasCost, HaveLabels, HasLabelAtMost, IsInputClass, IsHeight}
use Rattle.lw_laws.specs.Choices.HasCost.{by_wire}
use Rattle.lw_laws.specs.Matches.{choices_of, IsMatchAt, IsLeastCover}
use Rattle.lw_laws.specs.Rounds.{labels_in, label_weight}
use Rattle.lw_laws.specs.HeightRounds.{IsHeightRound}
use Rattle.lw_laws.specs.Mapped.{IsPotentialOf}
use Rattle.lw_laws.specs.Laws.{IsCoverProblem, IsAttainedIn, AreSoundIn, AreBoundedIn, IsLeafCost, AreHeightsUpToIn, AreHeightsClosed, HasClasses}
use Rattle.lw_laws.proofs.Flips.{half-flip}
use Rattle.lw_laws.proofs.Potentials.{HasCost-capped}
use Rattle.lw_laws.proofs.Rounds.{match_cost, sound_set, sound_and_bounded}
use Rattle.lw_laws.proofs.HeightRounds.{heights_start, heights_next, heights_end}
use Rattle.lw_laws.proofs.Together.{graph_choices, least_covers}
use Rattle.lw_laws.proofs.LabelLaws.{class_height}

module _ (g : Graph) (pats : List Pattern) (cost : Cost) where
  abbrev M : Choices
  M = choices_of g cost.pin_counts pats

  -- the costs of the inputs alone
  pub first_sound : (labels : List (Option ℕ)) → ((c l : ℕ) → labels_in labels c ≡ Some l → IsLeafCost g cost c l) → ((c i : ℕ) → slice_get g.leaves i ≡ Some c → HasLabelAtMost (labels_in labels) c (cost.leaf i)) → AreSoundIn g pats cost labels
  first_sound labels only inputs = record {
    attained = λ c l e. let (i, at, s) = only c l e in subst (λ d. HasCost M cost c d) (sym s) (by_wire at);
    inputs = inputs;
  }

  -- a label that a match with labelled pins lowers
  pub lowered_sound : (labels : List (Option ℕ)) (c cell : ℕ) (ps ls : List ℕ) → AreSoundIn g pats cost labels → c < length labels → IsMatchAt g cost.pin_counts pats c cell ps → HaveLabels (labels_in labels) ps ls → cost.value cell ls < label_weight cost.cap (labels_in labels c) → AreSoundIn g pats cost (slice_set labels c (Some (cost.value cell ls)))
  lowered_sound labels c cell ps ls sound in' m have lt =
      sound_set M cost labels c (cost.value cell ls) in' sound (match_cost M cost (labels_in labels) c cell ps ls sound.attained m have) lt

  pub labels_capped : (labels : List (Option ℕ)) → IsCoverProblem g pats cost → IsAttainedIn g pats cost labels → (c l : ℕ) → labels_in labels c ≡ Some l → l ≤ cost.cap
  labels_capped labels is attained c l e = HasCost-capped M cost is.cost_is (graph_choices g pats cost is.few) (attained c l e)

  pub values_capped : (labels : List (Option ℕ)) (c cell : ℕ) (ps ls : List ℕ) → IsCoverProblem g pats cost → IsAttainedIn g pats cost labels → IsMatchAt g cost.pin_counts pats c cell ps → HaveLabels (labels_in labels) ps ls → cost.value cell ls ≤ cost.cap
  values_capped labels c cell ps ls is attained m have = HasCost-capped M cost is.cost_is (graph_choices g pats cost is.few) (match_cost M cost (labels_in labels) c cell ps ls attained m have)

  -- sound labels that no match would lower are the least costs
  pub bounded_least : (labels : List (Option ℕ)) → IsCoverProblem g pats cost → AreSoundIn g pats cost labels → AreBoundedIn g pats cost labels → IsPotentialOf g pats cost labels × IsAttainedIn g pats cost labels × ((c : ℕ) → IsLeastCover g pats cost c (labels_in labels c))
  bounded_least labels is sound bounded =
      let potential = sound_and_bounded M cost (labels_in labels) sound bounded in
      (potential, sound.attained, least_covers g pats cost labels is.few is.once is.patterns is.cost_is potential sound.attained)

  module _ (labels : List (Option ℕ)) where
    pin_listed : (ps ls : List ℕ) (k c : ℕ) → HaveLabels (labels_in labels) ps ls → slice_get ps k ≡ Some c → c < length labels
    pin_listed [] ls k c a e = cc
    pin_listed (p ∷ ps) [] k c a e = absurd a
    pin_listed (p ∷ ps) (l ∷ ls) zero c (h, a) e = let s : p ≡ c = cc in label_listed labels c l (subst (λ q. labels_in labels q ≡ Some l) s h)
    pin_listed (p ∷ ps) (l ∷ ls) (suc k) c (h, a) e = pin_listed ps ls k c a e

    module _ (classes : HasClasses g (length labels)) where
      flip_in : (c : ℕ) → flip c < length labels → c < length labels
      flip_in c lt = let half = half-flip c in let even = classes.even in omega arith

      flipped_in : (c : ℕ) → c < length labels → flip c < length labels
      flipped_in c lt = let half = half-flip c in let even = classes.even in omega arith

      stands_in : (t : Tree) (c : ℕ) (ps ls : List ℕ) → HaveLabels (labels_in labels) ps ls → Stands g ps t c → c < length labels
      stands_in (leaf k) c ps ls a s = pin_listed ps ls k c a s
      stands_in const_one c ps ls a s = let lt = classes.one in omega arith
      stands_in const_zero c ps ls a s = let lt = flipped_in g.one classes.one in omega arith
      stands_in (inv t) c ps ls a s = flip_in c (stands_in t (flip c) ps ls a s)
      stands_in (nand t u) c ps ls a (x, y, inl h, s, r) = let lt = held_in g.pairs c (record { x = x; y = y }) h in let all = classes.all in omega arith
      stands_in (nand t u) c ps ls a (x, y, inr h, s, r) = let lt = held_in g.pairs c (record { x = y; y = x }) h in let all = classes.all in omega arith

      -- a match with labelled pins stands at a class of the graph
      pub match_in : (c cell : ℕ) (ps ls : List ℕ) → IsMatchAt g cost.pin_counts pats c cell ps → HaveLabels (labels_in labels) ps ls → c < length labels
      match_in c cell ps ls m have = stands_in m.pattern.tree c ps ls have m.stands

    -- heights
    pub first_heights : (heights : ℕ → Option ℕ) → ((c i : ℕ) → slice_get g.leaves i ≡ Some c → heights c ≡ Some 0) → ((c k : ℕ) → heights c ≡ Some k → IsInputClass M c × (k ≡ 0)) → AreHeightsUpToIn g pats cost labels heights 0
    first_heights heights inputs only = heights_start M cost (labels_in labels) heights inputs only

    pub next_heights : (heights next : ℕ → Option ℕ) (h : ℕ) → AreHeightsUpToIn g pats cost labels heights h → IsHeightRound M cost (labels_in labels) heights next h → AreHeightsUpToIn g pats cost labels next (h + 1)
    next_heights heights next h are round = let s : suc h ≡ h + 1 = omega arith in subst (AreHeightsUpToIn g pats cost labels next) s (heights_next M cost (labels_in labels) heights next h are round)

    pub last_heights : (heights : ℕ → Option ℕ) (h : ℕ) → IsCoverProblem g pats cost → IsPotentialOf g pats cost labels → IsAttainedIn g pats cost labels → AreHeightsUpToIn g pats cost labels heights h → AreHeightsClosed g pats cost labels heights → (c l : ℕ) → labels_in labels c ≡ Some l → (k : ℕ) × (heights c ≡ Some k) × IsHeight M cost (labels_in labels) c k
    last_heights heights h is potential attained are closed c l e =
        let (n, height) = class_height g pats cost labels is potential attained c l e in
        let (k, at) = heights_end M cost (labels_in labels) heights (λ d i s. are.all d (input_within h d (i, s))) closed n c height.within in
        (k, at, are.right c k at)
      where
        input_within : (n d : ℕ) → IsInputClass M d → Rattle.lw_laws.specs.Choices.IsWithin M cost (labels_in labels) d n
        input_within zero d i = i
        input_within (suc n) d i = inl i
