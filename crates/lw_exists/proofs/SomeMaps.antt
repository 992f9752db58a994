-- What cells and a network come to cannot fail to be there: a netlist, or why there is none.
use Rattle.std.proofs.Common.{ℕ, ◌<◌, ◌≡◌, ◌⊎◌, inl, inr, Bool, List, length, Some, Result, Ok, Err, slice_get, refl, sym, subst, arith}
use Rattle.std.proofs.lemmas.Option.{slice_get_within}
use native.Mathlib.Decide.{dec_lt}
use Rattle.lw_fixed.specs.declared.micro.Micro.{Micro}
use Rattle.lw_pool.specs.declared.id.NetId.{NetId}
use Rattle.lw_laws.proofs.Lists.{slice_get_some}
use Rattle.lw_net.specs.Networks.{NetworkParts, IsNetwork, name_in}
use Rattle.lw_genlib.specs.Cells.{CellParts, IsLibrary}
use Rattle.lw_form.specs.Limits.{most_bases}
use Rattle.lw_assoc.specs.Splits.{most_splits}
use Rattle.lw_blif.specs.declared.parsed.Parsed.{Parsed}
use Rattle.lw_files.specs.Steps.{Files}
use Rattle.lw_mapped.specs.Texts.{mapped_text}
use Rattle.lw_map.specs.Options.{Options, IsWide}
use Rattle.lw_map.specs.Mapped.{base_count, splits_count, IsWithinLimits, IsCovered}
use Rattle.lw_top.specs.declared.refusal.Refusal.{Refusal}
use Rattle.lw_top.specs.declared.refusal.Refusal.TheVariants.{Forms, Splits, NoCover}
use Rattle.lw_top.specs.Maps.{LacksMapping, Maps}
use Rattle.lw_exists.specs.Weakly.{Weakly}
use Rattle.lw_exists.proofs.Weak.{sure, and_then, weaker, HoldsBefore, weak_all_or_first}
use Rattle.lw_exists.proofs.SomeNetlist.{HasNetlist, some_netlist}

module _ (options : Options) (certified : Bool) (cells : List CellParts) (net : NetworkParts) (starts : List Micro) (wide : IsWide options) (kept : IsNetwork net) (lib : IsLibrary cells) where
  -- there is a netlist, or a reason that there is none
  abbrev pub HasMapping : Type 0
  HasMapping =
      (IsWithinLimits options net × HasNetlist options certified cells net starts)
      ⊎ ((r : Refusal) × LacksMapping options cells net starts r)

  -- the output at this place has a cover
  abbrev IsCoveredAt : ℕ → Type 0
  IsCoveredAt k = (o : NetId) → slice_get net.outputs k ≡ Some o → IsCovered options cells net o

  module _ (within : IsWithinLimits options net) where
    lacks_cover : (m : ℕ) → m < length net.outputs → (IsCoveredAt m → ⊥) → ((k : ℕ) → k < m → IsCoveredAt k) → HasMapping
    lacks_cover m lt out before =
        let (o, at) = slice_get_some net.outputs m lt in
        inr (
          NoCover (name_in net o),
          record {
            within = within;
            place = m;
            output = o;
            at = at;
            named = refl;
            lacks = λ k k_is tree. out (λ p here. let same : p ≡ o = cc in subst (IsCovered options cells net) (sym same) (k, record { is_cover = k_is; has_tree = tree }));
            first = λ i other less e. before i less other e;
          },
        )

    by_outputs : HoldsBefore IsCoveredAt (length net.outputs) → Weakly HasMapping
    by_outputs (inl all) =
        weaker (λ n. inl (within, n)) (some_netlist options cells net starts wide kept lib within.forms (λ k o at. all k (slice_get_within net.outputs k o at) o at) certified)
    by_outputs (inr (m, (lt, out, before))) = sure (lacks_cover m lt out before)

    within_limits : Weakly HasMapping
    within_limits = and_then (weak_all_or_first IsCoveredAt (length net.outputs)) by_outputs

  by_limits : Dec (most_bases < base_count options net) → Dec (most_splits < splits_count options net) → Weakly HasMapping
  by_limits (yes many) d = sure (inr (Forms, many))
  by_limits (no few) (yes many) = sure (inr (Splits, (omega arith, many)))
  by_limits (no few) (no none) = within_limits (record { forms = omega arith; splits = omega arith })

  pub some_mapping : Weakly HasMapping
  some_mapping = by_limits (dec_lt most_bases (base_count options net)) (dec_lt most_splits (splits_count options net))

module _ (options : Options) (certified : Bool) (cells : List CellParts) (model : Parsed) (files : Files) (wide : IsWide options) (kept : IsNetwork model.network) (lib : IsLibrary cells) where
  by_mapping : HasMapping options certified cells model.network model.starts wide kept lib → (a : Result (List ℕ) Refusal) × Maps options certified cells model files a
  by_mapping (inl (within, (n, is, certificate, asked))) =
      (Ok (mapped_text cells n model.frame model.starts certificate), record { within = within; netlist = n; is_mapped = is; certificate = certificate; asked = asked; written = refl })
  by_mapping (inr (r, lacks)) = (Err r, lacks)

  pub some_maps : Weakly ((a : Result (List ℕ) Refusal) × Maps options certified cells model files a)
  some_maps = weaker by_mapping (some_mapping options certified cells model.network model.starts wide kept lib)
