-- There is no cover for the answer exactly where some root has none.
use Rattle.std.proofs.Common.{◌≡◌, ◌↔◌, inl, inr, ℕ, Bool, List, Some, Result, Ok, Err, Contains, slice_get, refl, sym, ◌∙◌, subst, arith}
use Rattle.std.proofs.lemmas.Option.{get_or_from_slice_get, slice_get_within}
use Rattle.lw_pool.specs.declared.id.NetId.{NetId}
use Rattle.lw_laws.proofs.Lists.{slice_get_some}
use Rattle.lw_genlib.specs.Cells.{CellParts}
use Rattle.lw_blif.specs.declared.parsed.Parsed.{Parsed}
use Rattle.lw_top.specs.declared.refusal.Refusal.{Refusal}
use Rattle.lw_top.specs.declared.refusal.Refusal.TheVariants.{NoCover, Forms, Splits}
use Rattle.lw_files.specs.Steps.{Files}
use Rattle.lw_map.specs.Options.{Options}
use Rattle.lw_map.specs.Mapped.{IsWithinLimits, IsUncovered}
use Rattle.lw_map.proofs.Once.{covered}
use Rattle.lw_top.specs.Words.{Command, mapping}
use Rattle.lw_top.specs.Maps.{Maps}
use Rattle.lw_top.specs.Mappings.{AreRead}
use Rattle.lw_top.specs.Answers.{IsMappingAnswer, IsAnswer, status_in}
use Rattle.lw_top.proofs.InRange.{command_in_range}
use Rattle.lw_files.proofs.Kept.{cells_kept, model_kept}
use Rattle.lw_top.proofs.Asked.{asked_answer}
use Rattle.lw_answers.proofs.One.{library_one, model_read_one}
use Rattle.lw_top.proofs.MapAnswers.{Lack, of_forms, of_splits, of_cover, by_lack}

pub contained : (outputs : List NetId) (place : ℕ) (root : NetId) → slice_get outputs place ≡ Some root → Contains outputs root
contained outputs place root at = (place, slice_get_within outputs place root at, get_or_from_slice_get outputs place root root at)

pub at_place : (outputs : List NetId) (root : NetId) → Contains outputs root → (place : ℕ) × (slice_get outputs place ≡ Some root)
at_place outputs root (place, lt, is) =
    let (other, at) = slice_get_some outputs place lt in
    let same : other ≡ root = sym (get_or_from_slice_get outputs place other root at) ∙ is in
    (place, subst (λ (o : NetId). slice_get outputs place ≡ Some o) same at)

module _ (words : List (List ℕ)) (files : Files) (options : Options) (certified : Bool) (cells : List CellParts) (model : Parsed) (read : AreRead words files options certified cells model) where
  abbrev own : Command
  own = mapping options certified read.library_word read.network_word

  -- what the cells and the model come to is the answer
  maps-mapping : (a : Result (List ℕ) Refusal) → IsMappingAnswer options certified read.library_word read.network_word files a → Maps options certified cells model files a
  maps-mapping a (inl (xs, r, inl (m, s, comes))) =
      let cells_are : ◌≡◌ {A = Result (List CellParts) Refusal} (Ok xs) (Ok cells) = library_one read.library_word files (Ok xs) (Ok cells) r read.library in
      let model_is : ◌≡◌ {A = Result Parsed Refusal} (Ok m) (Ok model) = model_read_one read.network_word files (Ok m) (Ok model) s read.network in
      let one : xs ≡ cells = cc in
      let two : m ≡ model = cc in
      subst (λ (n : Parsed). Maps options certified cells n files a) two (subst (λ (ys : List CellParts). Maps options certified ys m files a) one comes)
  maps-mapping a (inl (xs, r, inr (e, refused, is))) =
      let no : ◌≡◌ {A = Result Parsed Refusal} (Err e) (Ok model) = model_read_one read.network_word files (Err e) (Ok model) refused read.network in
      cc
  maps-mapping a (inr (e, refused, is)) =
      let no : ◌≡◌ {A = Result (List CellParts) Refusal} (Err e) (Ok cells) = library_one read.library_word files (Err e) (Ok cells) refused read.library in
      cc

  answer-maps : (a : Result (List ℕ) Refusal) → IsAnswer words files a → Maps options certified cells model files a
  answer-maps a answer = maps-mapping a (asked_answer words files own a read.form answer)

  abbrev HasLack : Type 0
  HasLack = (root : NetId) × Contains model.network.outputs root × IsUncovered options cells model.network model.starts root

  named : (a : Result (List ℕ) Refusal) → Maps options certified cells model files a → status_in a ≡ 6 → HasLack
  named (Err (NoCover name)) m e = (m.output, contained model.network.outputs m.place m.output m.at, m.lacks)
  named (Ok text) m e = absurd (omega (arith, e))
  named (Err Forms) m e = absurd (omega (arith, e))
  named (Err Splits) m e = absurd (omega (arith, e))
  named (Err other) m e = absurd m

  six_lack : {r : Refusal} → Lack options cells model.network model.starts r → IsWithinLimits options model.network → status_in (Err r) ≡ 6
  six_lack (of_forms p) within = let f = within.forms in absurd (omega arith)
  six_lack (of_splits p) within = let f = within.splits in let g = p.1 in absurd (omega arith)
  six_lack (of_cover p) within = refl

  six : (a : Result (List ℕ) Refusal) → Maps options certified cells model files a → IsWithinLimits options model.network → HasLack → status_in a ≡ 6
  six (Ok text) p within (root, c, lacks) =
      let (place, at) = at_place model.network.outputs root c in
      let kept = model_kept read.network_word files model read.network in
      absurd (covered options cells model.network model.starts (command_in_range words own read.form) kept.network kept.fits.starts.early (cells_kept read.library_word files cells read.library) p.within.forms p.netlist p.is_mapped place root at lacks)
  six (Err r) p within lack = six_lack (by_lack options cells model.network model.starts r p) within

  pub no_cover_exactly : IsWithinLimits options model.network → (a : Result (List ℕ) Refusal) → IsAnswer words files a → (status_in a ≡ 6) ↔ HasLack
  no_cover_exactly within a answer =
      let m = answer-maps a answer in
      (named a m, six a m within)
