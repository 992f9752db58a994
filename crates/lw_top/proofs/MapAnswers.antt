-- What a network and cells come to, by cases, and that it is one thing.
use Rattle.std.proofs.Common.{◌≡◌, ℕ, Bool, true, false, List, All, Option, Some, None, Result, Ok, Err, refl, ap, sym, ◌∙◌, subst, arith}
use Rattle.lw_fixed.specs.declared.micro.Micro.{Micro}
use Rattle.lw_net.specs.Networks.{NetworkParts, IsNetwork}
use Rattle.lw_genlib.specs.Cells.{CellParts, IsLibrary, IsSmall}
use Rattle.lw_blif.specs.declared.parsed.Parsed.{Parsed}
use Rattle.lw_netlist.specs.Netlists.{NetlistParts}
use Rattle.lw_mapped.specs.declared.certificate.Certificate.{Certificate}
use Rattle.lw_mapped.specs.Texts.{mapped_text}
use Rattle.lw_map.specs.Options.{Options, IsWide}
use Rattle.lw_map.specs.Mapped.{IsMappedNetlist, IsWithinLimits, HasTooManyForms, HasTooManySplits, LacksCover}
use Rattle.lw_map.proofs.Once.{mapped_once, lack_once, covered}
use Rattle.lw_map.proofs.CertificateOnce.{certificate_once}
use Rattle.lw_top.specs.declared.refusal.Refusal.{Refusal}
use Rattle.lw_top.specs.declared.refusal.Refusal.TheVariants.{Forms, Splits, NoCover}
use Rattle.lw_files.specs.Steps.{Files}
use Rattle.lw_top.specs.Maps.{IsAskedFor, IsMappedText, LacksMapping, Maps}

-- why a network is not mapped, by cases
pub data Lack (options : Options) (cells : List CellParts) (net : NetworkParts) (starts : List Micro) : Refusal → Type 0 where
  of_forms : HasTooManyForms options net → Lack options cells net starts Forms
  of_splits : HasTooManySplits options net → Lack options cells net starts Splits
  of_cover : {name : List ℕ} → LacksCover options cells net starts name → Lack options cells net starts (NoCover name)

pub by_lack : (options : Options) (cells : List CellParts) (net : NetworkParts) (starts : List Micro) (r : Refusal) → LacksMapping options cells net starts r → Lack options cells net starts r
by_lack options cells net starts Forms m = of_forms m
by_lack options cells net starts Splits m = of_splits m
by_lack options cells net starts (NoCover name) m = of_cover m
by_lack options cells net starts other m = absurd m

module _ (options : Options) (cells : List CellParts) (net : NetworkParts) (starts : List Micro) (wide : IsWide options) where
  lacks_one : {r s : Refusal} → Lack options cells net starts r → Lack options cells net starts s → r ≡ s
  lacks_one (of_forms p) (of_forms q) = refl
  lacks_one (of_forms p) (of_splits q) = let f = q.0 in absurd (omega arith)
  lacks_one (of_forms p) (of_cover q) = let f = q.within.forms in absurd (omega arith)
  lacks_one (of_splits p) (of_forms q) = let f = p.0 in absurd (omega arith)
  lacks_one (of_splits p) (of_splits q) = refl
  lacks_one (of_splits p) (of_cover q) = let f = q.within.splits in let g = p.1 in absurd (omega arith)
  lacks_one (of_cover p) (of_forms q) = let f = p.within.forms in absurd (omega arith)
  lacks_one (of_cover p) (of_splits q) = let f = p.within.splits in let g = q.1 in absurd (omega arith)
  lacks_one (of_cover {name = s} p) (of_cover {name = t} q) = ap NoCover (lack_once options cells net starts wide s t p q)

  -- why a network is not mapped is one thing
  pub lack_one : (r s : Refusal) → LacksMapping options cells net starts r → LacksMapping options cells net starts s → r ≡ s
  lack_one r s p q = lacks_one (by_lack options cells net starts r p) (by_lack options cells net starts s q)

  -- a network within the limits is mapped, or an output has no cover
  pub within_lacks : {r : Refusal} → IsWithinLimits options net → Lack options cells net starts r → (name : List ℕ) × LacksCover options cells net starts name
  within_lacks w (of_forms p) = let f = w.forms in absurd (omega arith)
  within_lacks w (of_splits p) = let f = w.splits in let g = p.1 in absurd (omega arith)
  within_lacks w (of_cover {name = name} p) = (name, p)

  -- a network that is mapped is not refused
  pub not_both : IsNetwork net → All IsSmall starts → IsLibrary cells → IsWithinLimits options net → (n : NetlistParts) → IsMappedNetlist options cells net starts n → (r : Refusal) → LacksMapping options cells net starts r → ⊥
  not_both kept early lib w n is r lacks =
      let (name, p) = within_lacks w (by_lack options cells net starts r lacks) in
      covered options cells net starts wide kept early lib w.forms n is p.place p.output p.at p.lacks

module _ (options : Options) (cells : List CellParts) (model : Parsed) (wide : IsWide options) (kept : IsNetwork model.network) (early : All IsSmall model.starts) (lib : IsLibrary cells) where
  asked_one : (n : NetlistParts) (a b : IsMappedNetlist options cells model.network model.starts n) (certified : Bool) (c d : Option Certificate) → IsAskedFor options cells model.network model.starts n a certified c → IsAskedFor options cells model.network model.starts n b certified d → c ≡ d
  asked_one n a b false None None p q = refl
  asked_one n a b false None (Some d) p q = absurd q
  asked_one n a b false (Some c) d p q = absurd p
  asked_one n a b true (Some c) (Some d) p q = ap Some (certificate_once options cells model.network model.starts wide n n a b c d p.is_of q.is_of p.one_each q.one_each)
  asked_one n a b true None d p q = absurd p
  asked_one n a b true (Some c) None p q = absurd q

  -- this netlist is mapped to, and the text is its text with the certificate that is asked for
  abbrev Says : Bool → List ℕ → Option Certificate → NetlistParts → Type 0
  Says certified text certificate n =
      (p : IsMappedNetlist options cells model.network model.starts n) × IsAskedFor options cells model.network model.starts n p certified certificate
      × (text ≡ mapped_text cells n model.frame model.starts certificate)

  -- the text is one
  text_one : (certified : Bool) (text other : List ℕ) → IsMappedText options certified cells model text → IsMappedText options certified cells model other → text ≡ other
  text_one certified text other a b =
      let same = mapped_once options cells model.network model.starts wide b.netlist a.netlist b.is_mapped a.is_mapped in
      let (q, asked, says) = subst (Says certified other b.certificate) same (b.is_mapped, b.asked, b.written) in
      a.written ∙ (ap (λ (c : Option Certificate). mapped_text cells a.netlist model.frame model.starts c) (asked_one a.netlist a.is_mapped q certified a.certificate b.certificate a.asked asked) ∙ sym says)

  pub maps_one : (certified : Bool) (files : Files) (a b : Result (List ℕ) Refusal) → Maps options certified cells model files a → Maps options certified cells model files b → a ≡ b
  maps_one certified files (Ok text) (Ok other) p q = ap (λ (x : List ℕ). Ok x) (text_one certified text other p q)
  maps_one certified files (Ok text) (Err r) p q = absurd (not_both options cells model.network model.starts wide kept early lib p.within p.netlist p.is_mapped r q)
  maps_one certified files (Err r) (Ok other) p q = absurd (not_both options cells model.network model.starts wide kept early lib q.within q.netlist q.is_mapped r p)
  maps_one certified files (Err r) (Err s) p q = ap (λ (x : Refusal). Err x) (lack_one options cells model.network model.starts wide r s p q)
