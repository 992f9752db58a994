-- There is no netlist of least area exactly where some root has no cover, or a limit is passed.
use Rattle.std.proofs.Common.{◌≡◌, ◌↔◌, ◌⊎◌, inl, inr, ℕ, List, Option, Some, None, Result, Ok, Err, Contains, refl, ap, subst, arith}
use Rattle.lw_pool.specs.declared.id.NetId.{NetId}
use Rattle.lw_fixed.specs.declared.micro.Micro.{Micro}
use Rattle.lw_laws.specs.Headline.{HasLeastArrival}
use Rattle.lw_net.specs.Plain.{plain}
use Rattle.lw_genlib.specs.Cells.{CellParts}
use Rattle.lw_genlib.specs.Tables.{timing_of}
use Rattle.lw_pattern.specs.Libraries.{library_patterns}
use Rattle.lw_blif.specs.declared.parsed.Parsed.{Parsed}
use Rattle.lw_files.specs.Steps.{Files}
use Rattle.lw_map.specs.Options.{Options}
use Rattle.lw_map.specs.Mapped.{IsWithinLimits, IsUncovered, HasTooManyForms, HasTooManySplits}
use Rattle.lw_map.specs.Trading.{AreEarliest}
use Rattle.lw_map.proofs.Once.{zip_at}
use Rattle.lw_top.specs.declared.refusal.Refusal.{Refusal}
use Rattle.lw_top.specs.declared.refusal.Refusal.TheVariants.{NoCover, Forms, Splits, Points}
use Rattle.lw_top.specs.Words.{Command, trading}
use Rattle.lw_top.specs.Trades.{Trades, LacksPoints}
use Rattle.lw_top.specs.Answers.{AreAlike, IsTradingAnswer, IsAnswer, status_in, status_of}
use Rattle.lw_top.proofs.InRange.{command_in_range}
use Rattle.lw_top.proofs.Asked.{asked_answer}
use Rattle.lw_top.proofs.TradeAnswers.{trades_alike}
use Rattle.lw_answers.specs.Trades.{AreReadToTrade}
use Rattle.lw_answers.proofs.One.{library_one, model_read_one}
use Rattle.lw_answers.proofs.Uncovered.{contained, at_place}

-- an answer that is alike a refusal has its status
pub alike_status : (a : Result (List ℕ) Refusal) (r : Refusal) → AreAlike (λ s t. Unit {0}) a (Err r) → status_in a ≡ status_of r
alike_status (Ok text) r alike = absurd alike
alike_status (Err s) r same = ap status_of same

module _ (words : List (List ℕ)) (files : Files) (deadline : Option Micro) (options : Options) (cells : List CellParts) (model : Parsed) (read : AreReadToTrade words files deadline options cells model) where
  abbrev own : Command
  own = trading deadline options read.library_word read.network_word

  -- what the cells and the model come to is the answer
  trades-trading : (a : Result (List ℕ) Refusal) → IsTradingAnswer deadline options read.library_word read.network_word files a → Trades deadline options cells model files a
  trades-trading a (inl (xs, r, inl (m, s, comes))) =
      let cells_are : ◌≡◌ {A = Result (List CellParts) Refusal} (Ok xs) (Ok cells) = library_one read.library_word files (Ok xs) (Ok cells) r read.library in
      let model_is : ◌≡◌ {A = Result Parsed Refusal} (Ok m) (Ok model) = model_read_one read.network_word files (Ok m) (Ok model) s read.network in
      let one : xs ≡ cells = cc in
      let two : m ≡ model = cc in
      subst (λ (n : Parsed). Trades deadline options cells n files a) two (subst (λ (ys : List CellParts). Trades deadline options ys m files a) one comes)
  trades-trading a (inl (xs, r, inr (e, refused, is))) =
      let no : ◌≡◌ {A = Result Parsed Refusal} (Err e) (Ok model) = model_read_one read.network_word files (Err e) (Ok model) refused read.network in
      cc
  trades-trading a (inr (e, refused, is)) =
      let no : ◌≡◌ {A = Result (List CellParts) Refusal} (Err e) (Ok cells) = library_one read.library_word files (Err e) (Ok cells) refused read.library in
      cc

  answer-trades : (a : Result (List ℕ) Refusal) → IsAnswer words files a → Trades deadline options cells model files a
  answer-trades a answer = trades-trading a (asked_answer words files own a read.form answer)

  -- a refusal that the cells and the model come to is the answer's, and its status
  status_by : (a : Result (List ℕ) Refusal) (r : Refusal) → Trades deadline options cells model files a → Trades deadline options cells model files (Err r) → status_in a ≡ status_of r
  status_by a r m p =
      let wide = command_in_range words own read.form in
      alike_status a r (trades_alike options cells model deadline wide.1 files a (Err r) m p)

  abbrev HasLack : Type 0
  HasLack = (root : NetId) × Contains model.network.outputs root × IsUncovered options cells model.network model.starts root

  named : (a : Result (List ℕ) Refusal) → Trades deadline options cells model files a → status_in a ≡ 6 → HasLack
  named (Err (NoCover name)) m e = (m.output, contained model.network.outputs m.place m.output m.at, m.lacks)
  named (Ok text) m e = absurd (omega (arith, e))
  named (Err Forms) m e = absurd (omega (arith, e))
  named (Err Splits) m e = absurd (omega (arith, e))
  named (Err Points) m e = absurd (omega (arith, e))
  named (Err other) m e = absurd m

  -- where each root has a least time, none lacks a cover
  none_lacks : (times : List ℕ) → AreEarliest options cells model.network model.starts times → HasLack → ⊥
  none_lacks times earliest (root, c, lacks) =
      let (place, at) = at_place model.network.outputs root c in
      let (d, least) = zip_at (λ (output : NetId) (d : ℕ). HasLeastArrival options.mode options.width (plain model.network) (library_patterns cells) (timing_of cells model.starts) output.0 d) model.network.outputs times place root earliest at in
      let (k, k_is, tree, time) = least.attained in
      lacks k k_is tree

  -- nor where there are too many points
  points_lack : (limit : Option Micro) → LacksPoints options cells model.network model.starts limit → HasLack → ⊥
  points_lack None p lack = absurd p
  points_lack (Some limit) p lack = none_lacks p.times p.earliest lack

  six : (a : Result (List ℕ) Refusal) → Trades deadline options cells model files a → IsWithinLimits options model.network → HasLack → status_in a ≡ 6
  six (Err (NoCover name)) m within lack = refl
  six (Ok text) m within lack = absurd (none_lacks m.tradeable.times m.tradeable.earliest lack)
  six (Err Forms) m within lack = let f = within.forms in absurd (omega arith)
  six (Err Splits) m within lack = let f = within.splits in let g = m.1 in absurd (omega arith)
  six (Err Points) m within lack = absurd (points_lack deadline m lack)
  six (Err other) m within lack = absurd m

  pub no_cover_to_trade : IsWithinLimits options model.network → (a : Result (List ℕ) Refusal) → IsAnswer words files a → (status_in a ≡ 6) ↔ HasLack
  no_cover_to_trade within a answer =
      let m = answer-trades a answer in
      (named a m, six a m within)

  abbrev HasTooMany : Type 0
  HasTooMany = HasTooManyForms options model.network ⊎ (HasTooManySplits options model.network ⊎ LacksPoints options cells model.network model.starts deadline)

  passed : (a : Result (List ℕ) Refusal) → Trades deadline options cells model files a → status_in a ≡ 5 → HasTooMany
  passed (Err Forms) m e = inl m
  passed (Err Splits) m e = inr (inl m)
  passed (Err Points) m e = inr (inr m)
  passed (Ok text) m e = absurd (omega (arith, e))
  passed (Err (NoCover name)) m e = absurd (omega (arith, e))
  passed (Err other) m e = absurd m

  five : (a : Result (List ℕ) Refusal) → Trades deadline options cells model files a → HasTooMany → status_in a ≡ 5
  five a m (inl p) = status_by a Forms m p
  five a m (inr (inl p)) = status_by a Splits m p
  five a m (inr (inr p)) = status_by a Points m p

  pub too_many_to_trade : (a : Result (List ℕ) Refusal) → IsAnswer words files a → (status_in a ≡ 5) ↔ HasTooMany
  too_many_to_trade a answer =
      let m = answer-trades a answer in
      (passed a m, five a m)
