-- The first class that fails, and the labels of a certificate.
use Rattle.std.proofs.Common.{ℕ, zero, suc, ◌<◌, ◌≤◌, ◌≡◌, List, [], ◌∷◌, length, IfSome, Option, Some, None, option_map, slice_index_or, refl, sym, ◌∙◌, subst, arith}
use Rattle.lw_facts.proofs.Lists.{some_within}
use native.Mathlib.Decide.{dec_lt}
use Rattle.lw_fixed.specs.declared.micro.Micro.{Micro}
use Rattle.lw_laws.specs.Choices.{IsPotential, Labels}
use Rattle.lw_laws.specs.Costs.{Cost}
use Rattle.lw_laws.specs.Covers.{Pattern}
use Rattle.lw_laws.specs.Graphs.{Graph}
use Rattle.lw_laws.specs.Matches.{choices_of}
use Rattle.lw_laws.specs.Rounds.{labels_in}
use Rattle.lw_genlib.specs.Cells.{CellParts}
use Rattle.lw_genlib.specs.Tables.{millionths}
use Rattle.lw_graph.specs.Graphs.{IsGraph}
use Rattle.lw_label.specs.Delays.{time_cost}
use Rattle.lw_mapped.specs.Parsed.{IsLabel}
use Rattle.lw_mapped.specs.Standing.{AreLabels}
use Rattle.lw_check.specs.Claims.{Claim, HasKnownClasses, HasPotential, IsFirstUnbounded, cost_in, label_of_class, plain_labels}
use Rattle.lw_check.specs.Failing.{Gives, IsFirstFailing}
use Rattle.lw_check.specs.Least.{FindsUnbounded, IsLeastAt, IsLeastOf}
use Rattle.lw_check.specs.declared.trial.Unbounded.{Unbounded}
use Rattle.lw_check.proofs.Failures.{Fails, failing_of, first_fails}
use Rattle.lw_check.proofs.Places.{read_map, some_mapped}
use Rattle.lw_check.proofs.Unknown.{label_known}

module _ (g : Graph) (cost : Cost) (pats : List Pattern) (labels : List (Option ℕ)) where
  -- the least that the first failing class is given
  pub unbounded_from : IsGraph g → length labels ≡ length g.pairs → (c : ℕ) → IsLeastOf (Fails g cost pats labels) (Some c) → (r : Option Unbounded) → IsLeastAt g cost pats (labels_in labels) c r → FindsUnbounded g cost pats labels r
  unbounded_from is one_each c (at, least) None none = let fails = failing_of g cost pats (labels_in labels) c at in absurd (none fails.value fails.gives)
  unbounded_from is one_each c at (Some u) (same, given') = (
    subst (λ b. IsFirstFailing g cost pats (labels_in labels) b) (sym same) (first_fails g cost pats labels is one_each c at),
    subst (λ b. IsLeastOf (Gives g cost pats (labels_in labels) b) (Some u.value)) (sym same) given',
  )

read_past : {A : Type 0} (xs : List (Option A)) (j : ℕ) → length xs ≤ j → slice_index_or xs j None ≡ None
read_past [] j le = refl
read_past (x ∷ xs) zero le = absurd (omega arith)
read_past (x ∷ xs) (suc j) le = read_past xs j (omega arith)

module _ (k : Claim) (known : HasKnownClasses k) (labels : List (Option ℕ)) (one_each : length labels ≡ length k.graph.pairs) (read : (c : ℕ) → c < length k.graph.pairs → labels_in labels c ≡ option_map millionths (label_of_class k c)) where
  -- the labels of the certificate, of which none is past the last class
  pub labels_same : ◌≡◌ {A = Labels} (labels_in labels) (labels_in (plain_labels k.mapped.cert))
  labels_same = λ i c. at c (dec_lt c (length k.graph.pairs)) i
    where
      past : (c : ℕ) (o : Option Micro) → label_of_class k c ≡ o → (c < length k.graph.pairs → ⊥) → option_map millionths o ≡ None
      past c None e not = refl
      past c (Some l) e not = absurd (not (label_known (length k.graph.pairs) k.mapped.cert known c l e))

      at : (c : ℕ) → Dec (c < length k.graph.pairs) → labels_in labels c ≡ labels_in (plain_labels k.mapped.cert) c
      at c (yes lt) = read c lt ∙ sym (read_map (option_map millionths) refl k.mapped.cert.labels c)
      at c (no ge) = read_past labels c (omega arith) ∙ sym (read_map (option_map millionths) refl k.mapped.cert.labels c ∙ past c (label_of_class k c) refl ge)

  pub has_potential : FindsUnbounded k.graph (cost_in k) k.pats labels None → HasPotential k
  has_potential is = subst (λ (f : Labels). IsPotential (choices_of k.graph (cost_in k).pin_counts k.pats) (cost_in k) f) labels_same is

  pub is_unbounded : (u : Unbounded) (label : Option Micro) (value : Micro) → value.0 ≡ u.value → label ≡ label_of_class k u.class.0 → FindsUnbounded k.graph (cost_in k) k.pats labels (Some u) → IsFirstUnbounded k u.class label value
  is_unbounded u label value same has (first, (given', least)) = record {
    first = subst (λ (f : Labels). IsFirstFailing k.graph (cost_in k) k.pats f u.class.0) labels_same first;
    label_is = sym has;
    gives = subst (λ d. Gives k.graph (cost_in k) k.pats (labels_in (plain_labels k.mapped.cert)) u.class.0 d) (sym same) (subst (λ (f : Labels). Gives k.graph (cost_in k) k.pats f u.class.0 u.value) labels_same given');
    least = λ d is. (let le : u.value ≤ d = least d (subst (λ (f : Labels). Gives k.graph (cost_in k) k.pats f u.class.0 d) (sym labels_same) is) in omega arith);
  }

  pub capped : AreLabels k.mapped.cert → (c l : ℕ) → labels_in labels c ≡ Some l → l ≤ 9223372036854775807
  capped are c l e =
      let inside : c < length k.graph.pairs = let lt = some_within labels c l e in omega arith in
      let (label, at, same) = some_mapped millionths (label_of_class k c) l (sym (read c inside) ∙ e) in
      let small : IsLabel label = subst (λ o. IfSome o IsLabel) at (are.labels c None (some_within k.mapped.cert.labels c label at)) in
      omega (arith, small, same)

-- what is found of the labels that a claim gives
pub found_moved : (g : Graph) (pats : List Pattern) (cells lib : List CellParts) (starts times : List Micro) (labels ls : List (Option ℕ)) (found o : Option Unbounded) → cells ≡ lib → starts ≡ times → labels ≡ ls → found ≡ o → FindsUnbounded g (time_cost cells starts) pats labels found → FindsUnbounded g (time_cost lib times) pats ls o
found_moved g pats cells lib starts times labels ls found o a b c d is =
    subst (λ x. FindsUnbounded g (time_cost lib times) pats ls x) d
    (subst (λ x. FindsUnbounded g (time_cost lib times) pats x found) c
    (subst (λ x. FindsUnbounded g (time_cost lib x) pats labels found) b
    (subst (λ x. FindsUnbounded g (time_cost x starts) pats labels found) a is)))
