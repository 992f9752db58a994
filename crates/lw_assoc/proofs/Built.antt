-- What holds of the graph that the draft of listed forms is reduced to.
use Rattle.std.proofs.Common.{ℕ, suc, ◌+◌, ◌*◌, ◌/◌, ◌==◌, ◌≤◌, ◌≡◌, Bool, true, false, if◌then◌else◌, List, [], ◌∷◌, length, subst, arith}
use Rattle.lw_laws.specs.Modes.{Mode}
use Rattle.lw_laws.specs.Networks.{Network}
use Rattle.lw_laws.specs.Graphs.{Graph, PairsInOneClass, pair_count, most_classes}
use Rattle.lw_laws.specs.Encodings.{Encodes}
use Rattle.lw_laws.specs.NumberedForms.{NumberedForms, family_of}
use Rattle.lw_laws.specs.NumberedValues.{AreNumberedValues}
use Rattle.lw_laws.specs.Laws.{HasNumberedTrees, HasNumberedTruth}
use Rattle.lw_laws.specs.Classes.{IsGraphOf}
use Rattle.lw_laws.specs.Listings.{listing_of}
use Rattle.lw_laws.specs.Mapped.{forms_of}
use Rattle.lw_laws.specs.Drafts.{Draft, IsReduced, HaveSameFacts, facts_of}
use Rattle.lw_laws.proofs.Drafts.{Encodes-same, IsReduced-encodes}
use Rattle.lw_laws.proofs.Encoding.{pairs_in_one_class}
use Rattle.lw_laws.proofs.GraphEncodes.{reduction_is_graph}
use Rattle.lw_laws.proofs.NumberedForms.{forms_are_family}
use Rattle.lw_laws.proofs.NumberedValues.{form_values_fit}
use Rattle.lw_laws.proofs.Together.{has_the_trees, has_truth}
use Rattle.lw_form.specs.Kept.{AreForms}
use Rattle.lw_assoc.specs.Drafting.{IsDraftOf}
use Rattle.lw_assoc.proofs.SameFacts.{same_facts}

pub pairs_bound : (next : ℕ) (cs : List ℕ) → pair_count next cs ≤ next + length cs
pairs_bound next [] = omega arith
pairs_bound next (c ∷ cs) = by_test (c == 2 * next) (λ k. pairs_bound k cs) where
  by_test : (t : Bool) → ((k : ℕ) → pair_count k cs ≤ k + length cs) → pair_count (if t then suc next else next) cs ≤ next + length (c ∷ cs)
  by_test true rest = let p = rest (suc next) in omega arith
  by_test false rest = let p = rest next in omega arith

module _ (mode : Mode) (forms : NumberedForms) (are : AreForms forms) (d : Draft) (is : IsDraftOf mode forms d) (g : Graph) (reduced : IsReduced d g) where
  pub built_encodes : Encodes (family_of mode forms) g
  built_encodes = Encodes-same (family_of mode forms) (facts_of d) (same_facts forms are mode d is) g (IsReduced-encodes d g reduced)

  -- there are no more pairs of classes than base forms
  pub built_few : length g.pairs ≤ most_classes
  built_few =
      let w = reduced.written in
      let p = pairs_bound 0 g.forms in
      let c = w.class_count in
      let f = w.form_count in
      let n = is.bases.count in
      let m = are.few in
      omega arith

  pub built_once : PairsInOneClass g
  built_once = pairs_in_one_class (family_of mode forms) (λ h. h / 2) (forms_are_family mode forms are.numbered) g built_encodes

  pub built_trees : HasNumberedTrees mode forms g
  built_trees = has_the_trees mode forms g are.numbered built_encodes

  pub built_values : (x value : ℕ → Bool) → AreNumberedValues forms x value → HasNumberedTruth mode forms g x value
  built_values x value values = has_truth mode forms g x value are.numbered built_encodes (form_values_fit forms x value values mode)

  pub built_graph : (width : ℕ) (net : Network) → 2 ≤ width → forms ≡ forms_of width net → IsGraphOf mode net.inputs (listing_of width net) g
  built_graph width net wide e =
      reduction_is_graph mode width net d g wide (subst (λ f. HaveSameFacts (family_of mode f) (facts_of d)) e (same_facts forms are mode d is)) reduced
