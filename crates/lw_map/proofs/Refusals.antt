-- A network is refused by the name of its first output that has no cover.
use Rattle.std.proofs.Common.{ℕ, ◌<◌, ◌≡◌, ◌⊎◌, inl, inr, List, Option, Some, Result, Ok, Err, length, slice_get, refl, sym, subst}
use Rattle.std.specs.Prelude.{IfErr}
use Rattle.lw_pool.specs.declared.id.ClassId.{ClassId}
use Rattle.lw_pool.specs.declared.id.NetId.{NetId}
use Rattle.lw_fixed.specs.declared.micro.Micro.{Micro}
use Rattle.lw_laws.specs.Covers.{Pattern}
use Rattle.lw_net.specs.Networks.{NetworkParts, IsNetwork, name_in}
use Rattle.lw_genlib.specs.Cells.{CellParts}
use Rattle.lw_pattern.specs.Libraries.{library_patterns}
use Rattle.lw_cost.specs.declared.mark.Mark.{Mark}
use Rattle.lw_label.specs.Delays.{time_cost}
use Rattle.lw_cost.specs.Labels.{AreLeastMarks}
use Rattle.lw_extract.specs.declared.fault.ExtractFault.{ExtractFault}
use Rattle.lw_extract.specs.declared.fault.ExtractFault.TheVariants as extract
use Rattle.lw_extract.specs.Covers.{IsFirstUncovered}
use Rattle.lw_map.specs.declared.choices.Choices.{Choices}
use Rattle.lw_map.specs.declared.fault.MapFault.{MapFault}
use Rattle.lw_map.specs.declared.fault.MapFault.TheVariants as map_fault
use Rattle.lw_map.specs.Options.{plain_options}
use Rattle.lw_map.specs.Choices.{AreChoicesOf}
use Rattle.lw_map.specs.Faults.{IsCoverFault}
use Rattle.lw_map.specs.Mapped.{LacksCover}
use Rattle.lw_map.specs.Trading.{LacksLabel}
use Rattle.lw_map.proofs.Composed.{first_lack, lack_place}
use Rattle.lw_map.proofs.Earliest.{ports_for, are_ports}

-- what is returned as it comes from a search for the first root that has no label
pub label_lacked : {X : Type 0} (marks : List (Option Mark)) (roots others : List ClassId) (r : Result X ExtractFault) → roots ≡ others → ((k : ℕ) → r ≡ Err (extract.NoCover k) → IsFirstUncovered marks roots k) → IfErr r (LacksLabel marks others)
label_lacked marks roots others (Ok x) same first = tt
label_lacked marks roots others (Err (extract.NoCover k)) same first = subst (λ rs. IsFirstUncovered marks rs k) same (first k refl)
label_lacked marks roots others (Err extract.Memory) same first = tt

module _ (net : NetworkParts) (starts : List Micro) (c : Choices) (kept : IsNetwork net) (are : AreChoicesOf net c) (cells : List CellParts) (pats : List Pattern) (pats_are : pats ≡ library_patterns cells) where
  -- by the marks of least times the root at a place is the first that has none
  abbrev pub IsLack : ℕ → Type 0
  IsLack k = (marks : List (Option Mark)) × AreLeastMarks c.graph (time_cost cells starts) pats marks × IsFirstUncovered marks c.roots k

  pub lack_within : (k : ℕ) → IsLack k → k < length net.outputs
  lack_within k (marks, least, is) = lack_place net starts c (ports_for net c) kept are (are_ports net c) cells pats marks pats_are least k is

  told : (e : MapFault) (name : List ℕ) → LacksCover (plain_options c.options) cells net starts name → (e ≡ map_fault.Memory) ⊎ (e ≡ map_fault.NoCover name) → IsCoverFault cells net starts c e
  told e name lacks (inl same) = subst (IsCoverFault cells net starts c) (sym same) tt
  told e name lacks (inr same) = subst (IsCoverFault cells net starts c) (sym same) lacks

  pub cover_refused : (fault : ExtractFault) (e : MapFault) → ((k : ℕ) → fault ≡ extract.NoCover k → IsLack k) → ((k : ℕ) (o : NetId) → fault ≡ extract.NoCover k → slice_get net.outputs k ≡ Some o → (e ≡ map_fault.Memory) ⊎ (e ≡ map_fault.NoCover (name_in net o))) → (fault ≡ extract.Memory → e ≡ map_fault.Memory) → IsCoverFault cells net starts c e
  cover_refused (extract.NoCover k) e lacks named memory =
      let (marks, least, is) = lacks k refl in
      let (o, at, refused) = first_lack net starts c (ports_for net c) kept are (are_ports net c) cells pats marks pats_are least k is in
      told e (name_in net o) refused (named k o refl at)
  cover_refused extract.Memory e lacks named memory = subst (IsCoverFault cells net starts c) (sym (memory refl)) tt
