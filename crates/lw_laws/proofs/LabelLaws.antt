-- Heights and bounds of the labels of a graph.
use Rattle.std.proofs.Common.{ℕ, zero, suc, ◌+◌, ◌*◌, ◌<◌, ◌≤◌, ◌≡◌, List, [], ◌∷◌, length, map, Option, Some, refl, arith, inl, inr, ◌⊎◌, None, slice_get}
use Rattle.std.specs.List.{AllByRecursion}
use Rattle.lw_laws.specs.Graphs.{Graph}
use Rattle.lw_laws.specs.Costs.{Cost}
use Rattle.lw_laws.specs.Covers.{Timing, Pattern, latest, start_of, delays_of}
use Rattle.lw_laws.specs.Choices.{Choices, HaveLabels, Attains, IsInputClass, IsWithin, IsHeight, AreHeights}
use Rattle.lw_laws.specs.Matches.{choices_of}
use Rattle.lw_laws.specs.Rounds.{labels_in}
use Rattle.lw_laws.specs.Delays.{delay_cost}
use Rattle.lw_laws.specs.Mapped.{IsPotentialOf}
use Rattle.lw_laws.specs.Laws.{IsCoverProblem, IsAttainedIn, AreLeafLabels, AreDelaysUpTo, IsTimingUpTo}
use Rattle.lw_laws.proofs.Heights.{IsWithin_more, has_height, heights_are, heights_attain}
use Rattle.lw_laws.proofs.Delays.{label_low}
use Rattle.lw_laws.proofs.Together.{graph_choices}
use Rattle.lw_laws.proofs.Deciding.{dec_within, least_number, label_listed}

pub class_height : (g : Graph) (pats : List Pattern) (cost : Cost) (labels : List (Option ℕ)) → IsCoverProblem g pats cost → IsPotentialOf g pats cost labels → IsAttainedIn g pats cost labels → (c l : ℕ) → labels_in labels c ≡ Some l → (h : ℕ) × IsHeight (choices_of g cost.pin_counts pats) cost (labels_in labels) c h
class_height g pats cost labels is potential attained c l e =
    let (n, within) = has_height (choices_of g cost.pin_counts pats) cost (labels_in labels) is.cost_is (graph_choices g pats cost is.few) potential attained c l e in
    let (h, there, least) = least_number (λ k. IsWithin (choices_of g cost.pin_counts pats) cost (labels_in labels) c k) (λ k. dec_within labels g pats cost k c) n within in
    (h, record { within = there; least = least })

pub local_heights : (g : Graph) (pats : List Pattern) (cost : Cost) (labels : List (Option ℕ)) (heights : ℕ → ℕ) → AreHeights (choices_of g cost.pin_counts pats) cost (labels_in labels) heights → (c l : ℕ) → labels_in labels c ≡ Some l → IsHeight (choices_of g cost.pin_counts pats) cost (labels_in labels) c (heights c)
local_heights g pats cost labels heights are c l e = heights_are (choices_of g cost.pin_counts pats) cost (labels_in labels) heights are c l e

pub along_heights : (g : Graph) (pats : List Pattern) (cost : Cost) (labels : List (Option ℕ)) (heights : ℕ → ℕ) → AreHeights (choices_of g cost.pin_counts pats) cost (labels_in labels) heights → AreLeafLabels g cost labels → IsAttainedIn g pats cost labels
along_heights g pats cost labels heights are leaves c l e =
    heights_attain (choices_of g cost.pin_counts pats) cost (labels_in labels) heights are (λ c i l at f. leaves c i l at f) c l e

-- the latest of some times is above none by more than the largest delay
latest_up : (delay m : ℕ) (ds ls : List ℕ) → AllByRecursion (λ d. d ≤ delay) ds → AllByRecursion (λ l. l ≤ m) ls → latest ds ls ≤ m + delay
latest_up delay m [] ls a b = omega arith
latest_up delay m (d ∷ ds) [] a b = omega arith
latest_up delay m (d ∷ ds) (l ∷ ls) (h, a) (k, b) = let ih = latest_up delay m ds ls a b in omega arith

delays_up : (delay : ℕ) (delays : List (List ℕ)) (cell : ℕ) → AreDelaysUpTo delay delays → AllByRecursion (λ d. d ≤ delay) (delays_of delays cell)
delays_up delay [] cell a = tt
delays_up delay (ds ∷ delays) zero (h, a) = h
delays_up delay (ds ∷ delays) (suc cell) (h, a) = delays_up delay delays cell a

pub latest_none : (ds : List ℕ) → latest ds [] ≡ 0
latest_none [] = refl
latest_none (d ∷ ds) = refl

start_up : (delay : ℕ) (starts : List ℕ) (i : ℕ) → AllByRecursion (λ s. s ≤ delay) starts → start_of starts i ≤ delay
start_up delay [] i a = omega arith
start_up delay (s ∷ starts) zero (h, a) = h
start_up delay (s ∷ starts) (suc i) (h, a) = start_up delay starts i a

-- labels along heights are low, where those of the inputs' classes are
pub labels_low : (g : Graph) (pats : List Pattern) (timing : Timing) (cap : ℕ) (labels : List (Option ℕ)) (heights : ℕ → ℕ) (delay : ℕ) → AreHeights (choices_of g (map length timing.delays) pats) (delay_cost timing cap) (labels_in labels) heights → ((c i l : ℕ) → slice_get g.leaves i ≡ Some c → labels_in labels c ≡ Some l → l ≤ delay) → AreDelaysUpTo delay timing.delays → 0 < delay → (c l : ℕ) → labels_in labels c ≡ Some l → l < (length labels + 1) * delay
labels_low g pats timing cap labels heights delay are leaves up pos c l e =
    label_low (choices_of g (map length timing.delays) pats) (delay_cost timing cap) (labels_in labels) heights are (length labels) delay
    (λ cell ls m a. let h = latest_up delay m (delays_of timing.delays cell) ls (delays_up delay timing.delays cell up) a in omega arith)
    (λ cell. let z = latest_none (delays_of timing.delays cell) in omega arith)
    (λ c i l at f. leaves c i l at f)
    (λ c l f. label_listed labels c l f)
    c l e pos

-- the heights of the labelled classes as numbers
module _ (g : Graph) (pats : List Pattern) (cost : Cost) (labels : List (Option ℕ)) (problem : IsCoverProblem g pats cost) (potential : IsPotentialOf g pats cost labels) (attained : IsAttainedIn g pats cost labels) where
  abbrev M : Choices
  M = choices_of g cost.pin_counts pats

  abbrev known : ℕ → Option ℕ
  known = labels_in labels

  found : (c : ℕ) (o : Option ℕ) → known c ≡ o → ℕ
  found c None e = 0
  found c (Some l) e = (class_height g pats cost labels problem potential attained c l e).0

  pub height_of : ℕ → ℕ
  height_of c = found c (known c) refl

  found_is : (c l : ℕ) (o : Option ℕ) (e : known c ≡ o) → known c ≡ Some l → IsHeight M cost known c (found c o e)
  unfolding found
  found_is c l None e f = cc
  found_is c l (Some m) e f = (class_height g pats cost labels problem potential attained c m e).1

  height_is : (c l : ℕ) → known c ≡ Some l → IsHeight M cost known c (height_of c)
  unfolding height_of
  height_is c l e = found_is c l (known c) refl e

  pins_within : (h : ℕ) (ps ls : List ℕ) → HaveLabels known ps ls → AllByRecursion (λ p. height_of p ≤ h) ps → AllByRecursion (λ p. IsWithin M cost known p h) ps
  pins_within h [] ls a b = tt
  pins_within h (p ∷ ps) [] a b = absurd a
  pins_within h (p ∷ ps) (l ∷ ls) (e, a) (le, b) = (IsWithin_more M cost known (height_of p) h le p (height_is p l e).within, pins_within h ps ls a b)

  pins_low : (h : ℕ) (ps ls : List ℕ) → HaveLabels known ps ls → AllByRecursion (λ p. IsWithin M cost known p h) ps → AllByRecursion (λ p. height_of p ≤ h) ps
  pins_low h [] ls a b = tt
  pins_low h (p ∷ ps) [] a b = absurd a
  pins_low h (p ∷ ps) (l ∷ ls) (e, a) (w, b) = ((height_is p l e).least h w, pins_low h ps ls a b)

  pub some_heights : AreHeights M cost known height_of
  some_heights = record {
    inputs = λ c i is. let (l, e, le) = potential.inputs c i is in let low = (height_is c l e).least 0 (i, is) in omega arith;
    reached = λ c l e. by_within c l e (height_of c) refl (height_is c l e).within;
    bounded = λ c cell ps h a b. (height_is c (cost.value cell a.pin_labels) a.value).least (suc h) (inr (cell, ps, a, pins_within h ps a.pin_labels a.have b));
  }
    where
      by_within : (c l : ℕ) → known c ≡ Some l → (h : ℕ) → height_of c ≡ h → IsWithin M cost known c h → IsInputClass M c ⊎ ((cell : ℕ) × (ps : List ℕ) × (h : ℕ) × Attains M cost known c cell ps × AllByRecursion (λ p. height_of p ≤ h) ps × (suc h ≤ height_of c))
      by_within c l e zero s w = inl w
      by_within c l e (suc h) s (inl i) = inl i
      by_within c l e (suc h) s (inr (cell, ps, a, w)) = inr (cell, ps, h, a, pins_low h ps a.pin_labels a.have w, omega arith)

-- labels of times stay low
pub labels_stay_low : (g : Graph) (pats : List Pattern) (timing : Timing) (cap : ℕ) (labels : List (Option ℕ)) (delay : ℕ) → IsCoverProblem g pats (delay_cost timing cap) → IsPotentialOf g pats (delay_cost timing cap) labels → IsAttainedIn g pats (delay_cost timing cap) labels → IsTimingUpTo delay timing → 0 < delay → (c l : ℕ) → labels_in labels c ≡ Some l → l < (length labels + 1) * delay
labels_stay_low g pats timing cap labels delay problem potential attained (up, starts_up) pos c l e =
    labels_low g pats timing cap labels (height_of g pats (delay_cost timing cap) labels problem potential attained) delay (some_heights g pats (delay_cost timing cap) labels problem potential attained) leaf up pos c l e
  where
    leaf : (c i l : ℕ) → slice_get g.leaves i ≡ Some c → labels_in labels c ≡ Some l → l ≤ delay
    leaf c i l at e =
        let (m, f, le) = potential.inputs c i at in
        let same : m ≡ l = cc in
        let start = start_up delay timing.starts i starts_up in
        omega arith

-- some heights are there
pub heights_there : (g : Graph) (pats : List Pattern) (cost : Cost) (labels : List (Option ℕ)) → IsCoverProblem g pats cost → IsPotentialOf g pats cost labels → IsAttainedIn g pats cost labels → (heights : ℕ → ℕ) × AreHeights (choices_of g cost.pin_counts pats) cost (labels_in labels) heights
heights_there g pats cost labels problem potential attained = (height_of g pats cost labels problem potential attained, some_heights g pats cost labels problem potential attained)
