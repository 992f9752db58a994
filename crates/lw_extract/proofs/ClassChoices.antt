-- What is found for the classes, one after another.
use Rattle.std.proofs.Common.{ℕ, ◌+◌, ◌≡◌, ◌⊎◌, inl, inr, List, [], ◌∷◌, ◌++◌, length, Option, Some, None, slice_get, slice_index_or, sym, ◌∙◌, subst, subst₂, arith}
use Rattle.std.proofs.lemmas.List.{length_push}
use Rattle.lw_facts.proofs.Lists.{get_last_cases}
use Rattle.lw_pool.specs.declared.id.NetId.{NetId}
use Rattle.lw_laws.specs.Graphs.{Graph}
use Rattle.lw_laws.specs.Costs.{Cost}
use Rattle.lw_laws.specs.Covers.{Pattern}
use Rattle.lw_laws.specs.Extracts.{IsLeafClass}
use Rattle.lw_cost.specs.declared.mark.Mark.{Mark}
use Rattle.lw_cost.specs.declared.mark.Match.{Match}
use Rattle.lw_extract.specs.Choosing.{IsChoice, IsClassChoice}
use Rattle.lw_extract.specs.Nets.{AreInputNets}

-- a class with a net is an input's
pub leaf_of : (g : Graph) (nets : List (Option NetId)) (c : ℕ) (n : NetId) → AreInputNets g nets → slice_index_or nets c None ≡ Some n → IsLeafClass g c
leaf_of g nets c n are e = (n.0, are.some c n e)

module _ (g : Graph) (cost : Cost) (pats : List Pattern) (marks : List (Option Mark)) where
  -- what is found for a class that has a mark and is no input's
  pub choice_found : (c : ℕ) (result : Option Match) (mark : Mark) → slice_index_or marks c None ≡ Some mark → (IsLeafClass g c → ⊥) → ((m : Mark) → slice_index_or marks c None ≡ Some m → (found : Match) × (result ≡ Some found) × IsChoice g cost pats marks c found) → IsClassChoice g cost pats marks c result
  choice_found c result mark at out finds =
      let (found, is, choice) = finds mark at in subst (λ (x : Option Match). IsClassChoice g cost pats marks c x) (sym is) (out, choice)

  -- the first classes have been seen
  pub record AreChoicesBelow (count : ℕ) (all : List (Option Match)) : Type 0 where
    pub many : length all ≡ count
    pub each : (c : ℕ) (found : Option Match) → slice_get all c ≡ Some found → IsClassChoice g cost pats marks c found

  pub choices_more : (count : ℕ) (all : List (Option Match)) (found : Option Match) → IsClassChoice g cost pats marks count found → AreChoicesBelow count all → AreChoicesBelow (count + 1) (all ++ found ∷ [])
  choices_more count all found is are = record {
    many = let long = length_push all found in omega (arith, long, are.many);
    each = λ c x at. by_place c x (get_last_cases all found c x at);
  }
    where
      by_place : (c : ℕ) (x : Option Match) → (slice_get all c ≡ Some x) ⊎ ((c ≡ length all) × (x ≡ found)) → IsClassChoice g cost pats marks c x
      by_place c x (inl at) = are.each c x at
      by_place c x (inr (last, same)) = subst₂ (λ (d : ℕ) (y : Option Match). IsClassChoice g cost pats marks d y) (sym (last ∙ are.many)) (sym same) is
