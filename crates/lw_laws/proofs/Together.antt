-- The laws, put together.
use Rattle.std.proofs.Common.{ℕ, map, Contains, ◌/◌, ◌<◌, ◌≡◌, ◌^◌, List, length, Option, Some, None, Bool, sym, ◌∙◌, subst, arith}
use Rattle.std.proofs.lemmas.Option.{slice_get_within}
use Rattle.lw_laws.specs.Graphs.{Graph, PairsInOneClass, Unfolds, class_of}
use Rattle.lw_laws.specs.NumberedForms.{NumberedForms, family_of, AreNumberedForms, NumberOccurs}
use Rattle.lw_laws.specs.Encodings.{Encodes}
use Rattle.lw_laws.specs.Truth.{IsValuation}
use Rattle.lw_laws.specs.Costs.{Cost, IsCost, cost_of}
use Rattle.lw_laws.specs.Choices.{IsLeastCost, IsAttained}
use Rattle.lw_laws.specs.Covers.{Timing, Pattern, ArePatterns, tree_of}
use Rattle.lw_laws.specs.Rounds.{labels_in}
use Rattle.lw_laws.specs.Delays.{delay_cost}
use Rattle.lw_laws.specs.Netlists.{Netlist, CellTruth, HasCellTruth}
use Rattle.lw_laws.specs.Laws.{HasNumberedTrees, HasNumberedTruth, BoundsCovers}
use Rattle.lw_laws.specs.Modes.{Mode}
use Rattle.lw_laws.specs.Matches.{choices_of, IsLeastCover}
use Rattle.lw_laws.specs.Mapped.{IsPotentialOf}
use Rattle.lw_laws.proofs.NumberedForms.{forms_are_family}
use Rattle.lw_laws.proofs.Encoding.{Unfolds-Derives, pairs_in_one_class}
use Rattle.lw_laws.proofs.Truths.{Derives-value}
use Rattle.lw_laws.proofs.Covering.{cover_costs, cost_covered}
use Rattle.lw_laws.proofs.Potentials.{potential_bounds, labels_are_least, IsLeast_once}
use Rattle.lw_laws.proofs.Netlists.{net_covered, StandsFor-time, StandsFor-value}
use Rattle.lw_laws.proofs.Delays.{delay_cost_is, cost_of-time}
use Rattle.lw_laws.proofs.Words.{AreChoices, HasLeastNumberedTime, HasNoNumberedCover, AreNetValues, IsCertified, IsOutput}

pub has_the_trees : (mode : Mode) (forms : NumberedForms) (g : Graph) → AreNumberedForms forms → Encodes (family_of mode forms) g → HasNumberedTrees mode forms g
has_the_trees mode forms g are encodes f t o =
    Unfolds-Derives (family_of mode forms) (λ h. h / 2) (forms_are_family mode forms are) g encodes f t o

pub has_truth : (mode : Mode) (forms : NumberedForms) (g : Graph) (x value : ℕ → Bool) → AreNumberedForms forms → Encodes (family_of mode forms) g → IsValuation (family_of mode forms) x value → HasNumberedTruth mode forms g x value
has_truth mode forms g x value are encodes is f t o u =
    Derives-value (family_of mode forms) x value is ((has_the_trees mode forms g are encodes f t o).0 u)

pub graph_choices : (g : Graph) (pats : List Pattern) (cost : Cost) → length g.leaves < 2 ^ 32 → AreChoices (choices_of g cost.pin_counts pats) cost
graph_choices g pats cost few = record {
  inputs = λ c i e. let in' = slice_get_within g.leaves i c e in omega arith;
  matches = λ c cell ps m. m.pins;
}

pub bounds_covers : (g : Graph) (pats : List Pattern) (cost : Cost) (labels : List (Option ℕ)) → length g.leaves < 2 ^ 32 → PairsInOneClass g → ArePatterns cost.pin_counts pats → IsCost cost → IsPotentialOf g pats cost labels → BoundsCovers g pats cost labels
bounds_covers g pats cost labels few once patterns is_cost potential k c is u =
    potential_bounds (choices_of g cost.pin_counts pats) cost is_cost (graph_choices g pats cost few) (labels_in labels) potential (cover_costs g once cost pats patterns k c is u)

-- the least cost over covers is that over matches put together
pub IsLeastCost-covers : (g : Graph) (pats : List Pattern) (cost : Cost) → PairsInOneClass g → ArePatterns cost.pin_counts pats → (c : ℕ) (o : Option ℕ) → IsLeastCost (choices_of g cost.pin_counts pats) cost c o → IsLeastCover g pats cost c o
IsLeastCost-covers g pats cost once patterns c (Some d) (k, least) =
    let h = cost_covered g cost pats k in
    ((h.by, h.is_cover, h.unfolds, h.costs), λ k is u. least (cost_of cost k) (cover_costs g once cost pats patterns k c is u))
IsLeastCost-covers g pats cost once patterns c None none = λ k is u. none (cost_of cost k) (cover_costs g once cost pats patterns k c is u)

pub least_covers : (g : Graph) (pats : List Pattern) (cost : Cost) (labels : List (Option ℕ)) → length g.leaves < 2 ^ 32 → PairsInOneClass g → ArePatterns cost.pin_counts pats → IsCost cost → IsPotentialOf g pats cost labels → IsAttained (choices_of g cost.pin_counts pats) cost (labels_in labels) → (c : ℕ) → IsLeastCover g pats cost c (labels_in labels c)
least_covers g pats cost labels few once patterns is_cost potential attained c =
    IsLeastCost-covers g pats cost once patterns c (labels_in labels c) (labels_are_least (choices_of g cost.pin_counts pats) cost is_cost (graph_choices g pats cost few) (labels_in labels) potential attained c)

-- the net of a certified netlist that is at a form's class, with the label as its arrival, has the least time
pub certified_least : (mode : Mode) (forms : NumberedForms) (g : Graph) (pats : List Pattern) (timing : Timing) (cap : ℕ) (labels : List (Option ℕ)) (n : Netlist) (class arrivals : ℕ → ℕ) → IsCertified mode forms g pats timing cap labels n class arrivals → (net f : ℕ) → NumberOccurs forms f → IsOutput g labels n class arrivals net f → HasLeastNumberedTime mode forms pats timing f (arrivals net)
certified_least mode forms g pats timing cap labels n class arrivals is net f o out =
    let trees = has_the_trees mode forms g is.forms_are is.encodes in
    let once = pairs_in_one_class (family_of mode forms) (λ h. h / 2) (forms_are_family mode forms is.forms_are) g is.encodes in
    let k = net_covered g (map length timing.delays) pats n class is.ordered is.mapped net out.in_range in
    record {
      attained = (k.by, k.is_cover, (trees f (tree_of k.by) o).0 (subst (λ c. Unfolds g (tree_of k.by) c) out.at_class k.unfolds), sym (StandsFor-time n timing arrivals is.arrivals_are k.by net k.stands));
      least = λ j is_cover derived.
          let u = subst (λ c. Unfolds g (tree_of j) c) (sym out.at_class) ((trees f (tree_of j) o).1 derived) in
          let (l, e, le) = bounds_covers g pats (delay_cost timing cap) labels is.few once is.patterns (delay_cost_is timing cap) is.potential j (class net) is_cover u in
          let t = cost_of-time timing cap j in
          let s : l ≡ arrivals net = cc (out.at_label) in
          omega arith;
    }

-- where the form's class has no label, no cover of a tree of the form is there
pub unlabelled_has_no_cover : (mode : Mode) (forms : NumberedForms) (g : Graph) (pats : List Pattern) (timing : Timing) (cap : ℕ) (labels : List (Option ℕ)) → AreNumberedForms forms → Encodes (family_of mode forms) g → length g.leaves < 2 ^ 32 → ArePatterns (map length timing.delays) pats → IsPotentialOf g pats (delay_cost timing cap) labels → (f : ℕ) → NumberOccurs forms f → labels_in labels (class_of g f) ≡ None → HasNoNumberedCover mode forms pats timing f
unlabelled_has_no_cover mode forms g pats timing cap labels are encodes few patterns potential f o none k is_cover derived =
    let once = pairs_in_one_class (family_of mode forms) (λ h. h / 2) (forms_are_family mode forms are) g encodes in
    let u = (has_the_trees mode forms g are encodes f (tree_of k) o).1 derived in
    let (l, e, le) = bounds_covers g pats (delay_cost timing cap) labels few once patterns (delay_cost_is timing cap) potential k (class_of g f) is_cover u in
    cc

pub same_labels : (g : Graph) (pats : List Pattern) (cost : Cost) (rounds settled : List (Option ℕ)) → length g.leaves < 2 ^ 32 → IsCost cost → IsPotentialOf g pats cost rounds → IsAttained (choices_of g cost.pin_counts pats) cost (labels_in rounds) → IsPotentialOf g pats cost settled → IsAttained (choices_of g cost.pin_counts pats) cost (labels_in settled) → (c : ℕ) → labels_in rounds c ≡ labels_in settled c
same_labels g pats cost rounds settled few is_cost p a q b c =
    let M = choices_of g cost.pin_counts pats in
    let are = graph_choices g pats cost few in
    IsLeast_once M cost is_cost are c (labels_in rounds c) (labels_in settled c) (labels_are_least M cost is_cost are (labels_in rounds) p a c) (labels_are_least M cost is_cost are (labels_in settled) q b c)
