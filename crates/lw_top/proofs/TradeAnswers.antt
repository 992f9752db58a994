-- What a network and cells come to by a deadline: an answer with a text, and that there is one refusal at most.
use Rattle.std.proofs.Common.{◌≡◌, ◌⊎◌, inl, inr, ℕ, List, Option, Some, None, Result, Ok, Err, map, refl, sym, ◌∙◌, subst, arith}
use Rattle.std.proofs.lemmas.List.{length-map, length-take-le}
use Rattle.std.proofs.lemmas.Slice.Zip.{AllZip-long}
use Rattle.lw_fixed.specs.declared.micro.Micro.{Micro}
use Rattle.lw_pool.specs.declared.id.NetId.{NetId}
use Rattle.lw_net.specs.Networks.{NetworkParts, name_in}
use Rattle.lw_genlib.specs.Cells.{CellParts}
use Rattle.lw_blif.specs.declared.parsed.Parsed.{Parsed}
use Rattle.lw_blif.specs.BlifNetworks.{IsModel}
use Rattle.lw_laws.specs.Headline.{HasLeastArrival}
use Rattle.lw_net.specs.Plain.{plain}
use Rattle.lw_genlib.specs.Tables.{timing_of, library_patterns}
use Rattle.lw_netlist.specs.Netlists.{NetlistParts}
use Rattle.lw_mapped.specs.Texts.{IsFramed}
use Rattle.lw_map.specs.declared.fault.MapFault.{MapFault}
use Rattle.lw_map.specs.declared.fault.MapFault.TheVariants as map_fault
use Rattle.lw_map.specs.Options.{Options, IsWide}
use Rattle.lw_map.specs.Mapped.{IsWithinLimits, LacksCover}
use Rattle.lw_map.specs.Faults.{IsTradingFault}
use Rattle.lw_map.specs.Trading.{IsTradeable, IsTradedNetlist, HasFewPoints, AreEarliest}
use Rattle.lw_map.specs.Trades.{IsTraded}
use Rattle.lw_map.proofs.Once.{zip_at}
use Rattle.lw_top.specs.declared.answer.Answer.TheVariants as answer
use Rattle.lw_top.specs.declared.refusal.Refusal.{Refusal}
use Rattle.lw_top.specs.declared.refusal.Refusal.TheVariants.{Points}
use Rattle.lw_files.specs.Steps.{Files}
use Rattle.lw_top.specs.Maps.{LacksMapping}
use Rattle.lw_top.specs.Named.{map_refusal}
use Rattle.lw_top.specs.Answered.{Gives}
use Rattle.lw_top.specs.Answers.{AreAlike}
use Rattle.lw_top.specs.Trades.{LacksPoints, LacksTrade, Trades}
use Rattle.lw_top.proofs.MapAnswers.{by_lack, lack_one, within_lacks}
use Rattle.lw_net.specs.Ports.{output_port}
use Rattle.lw_netlist.specs.Plain.{plain_port}

module _ (options : Options) (cells : List CellParts) (net : NetworkParts) (starts : List Micro) (wide : IsWide options) where
  -- where each output has a least time, none lacks a cover
  none_lacks : (times : List ℕ) → AreEarliest options cells net starts times → (name : List ℕ) → LacksCover options cells net starts name → ⊥
  none_lacks times earliest name lack =
      let (d, least) = zip_at (λ (output : NetId) (d : ℕ). HasLeastArrival options.mode options.width (plain net) (library_patterns cells) (timing_of cells starts) output.0 d) net.outputs times lack.place lack.output earliest lack.at in
      let (k, k_is, tree, time) = least.attained in
      lack.lacks k k_is tree

  -- nor is there another reason within the limits
  not_lacking : (times : List ℕ) → AreEarliest options cells net starts times → IsWithinLimits options net → (r : Refusal) → LacksMapping options cells net starts r → ⊥
  not_lacking times earliest within r lacks =
      let (name, lack) = within_lacks options cells net starts wide within (by_lack options cells net starts r lacks) in
      none_lacks times earliest name lack

  module _ (deadline : Option Micro) where
    points_or_lack : (r : Refusal) → LacksTrade deadline options cells net starts r → ((r ≡ Points) × LacksPoints options cells net starts deadline) ⊎ LacksMapping options cells net starts r
    points_or_lack Points q = inl (refl, q)
    points_or_lack other q = inr q

  points_apart : (deadline : Option Micro) (s : Refusal) → LacksPoints options cells net starts deadline → LacksMapping options cells net starts s → ⊥
  points_apart None s p q = absurd p
  points_apart (Some deadline) s p q = not_lacking p.times p.earliest p.within s q

  few_points : (deadline : Option Micro) → HasFewPoints options cells net starts deadline → LacksPoints options cells net starts deadline → ⊥
  few_points None few p = absurd p
  few_points (Some deadline) few p = few p

  -- why there is no such netlist is one thing
  trade_lack_one : (deadline : Option Micro) (r s : Refusal) → LacksTrade deadline options cells net starts r → LacksTrade deadline options cells net starts s → r ≡ s
  trade_lack_one deadline r s p q = both (points_or_lack deadline r p) (points_or_lack deadline s q)
    where
      both : ((r ≡ Points) × LacksPoints options cells net starts deadline) ⊎ LacksMapping options cells net starts r → ((s ≡ Points) × LacksPoints options cells net starts deadline) ⊎ LacksMapping options cells net starts s → r ≡ s
      both (inl (e, a)) (inl (f, b)) = e ∙ sym f
      both (inl (e, a)) (inr b) = absurd (points_apart deadline s a b)
      both (inr a) (inl (f, b)) = absurd (points_apart deadline r b a)
      both (inr a) (inr b) = lack_one options cells net starts wide r s a b

  -- where there is one nothing is refused
  traded_stands : (deadline : Option Micro) (r : Refusal) → IsWithinLimits options net → IsTradeable options cells net starts deadline → LacksTrade deadline options cells net starts r → ⊥
  traded_stands deadline r within can p = by (points_or_lack deadline r p)
    where
      by : ((r ≡ Points) × LacksPoints options cells net starts deadline) ⊎ LacksMapping options cells net starts r → ⊥
      by (inl (e, a)) = few_points deadline can.few a
      by (inr a) = not_lacking can.times can.earliest within r a

pub trades_alike : (options : Options) (cells : List CellParts) (model : Parsed) (deadline : Option Micro) → IsWide options → (files : Files) (a b : Result (List ℕ) Refusal) → Trades deadline options cells model files a → Trades deadline options cells model files b → AreAlike (λ s t. Unit {0}) a b
trades_alike options cells model deadline wide files (Ok s) (Ok t) p q = tt
trades_alike options cells model deadline wide files (Ok s) (Err r) p q = absurd (traded_stands options cells model.network model.starts wide deadline r p.within p.tradeable q)
trades_alike options cells model deadline wide files (Err r) (Ok t) p q = absurd (traded_stands options cells model.network model.starts wide deadline r q.within q.tradeable p)
trades_alike options cells model deadline wide files (Err r) (Err s) p q = trade_lack_one options cells model.network model.starts wide deadline r s p q

-- Giving.

pub trade_refused : (options : Options) (cells : List CellParts) (model : Parsed) (deadline : Option Micro) (fault : MapFault) → IsTradingFault deadline options cells model.network model.starts fault → Gives (Trades deadline options cells model) (Err (map_refusal fault))
trade_refused options cells model None map_fault.Forms is = λ files. is
trade_refused options cells model None map_fault.Splits is = λ files. is
trade_refused options cells model None (map_fault.NoCover name) is = λ files. is
trade_refused options cells model None map_fault.Points is = absurd is
trade_refused options cells model None map_fault.Memory is = tt
trade_refused options cells model (Some deadline) map_fault.Forms is = λ files. is
trade_refused options cells model (Some deadline) map_fault.Splits is = λ files. is
trade_refused options cells model (Some deadline) (map_fault.NoCover name) is = λ files. is
trade_refused options cells model (Some deadline) map_fault.Points is = λ files. is
trade_refused options cells model (Some deadline) map_fault.Memory is = tt

-- the frame and the starts fit the netlist
framed : (options : Options) (cells : List CellParts) (model : Parsed) (deadline : Option Micro) (n : NetlistParts) → IsModel model → IsTradedNetlist options cells model.network model.starts deadline n → IsFramed n model.frame model.starts
framed options cells model deadline n fits is =
    let m = fits.network.named in
    let names = length-take-le model.network.inputs model.network.names (omega arith) in
    let inputs = is.inputs in
    let own = fits.frame.own_inputs in
    let roots = fits.frame.own_outputs in
    let starts = fits.starts.one_each in
    let zipped = AllZip-long _ (map (output_port model.network) model.network.outputs) (map plain_port n.outputs) is.outputs_named in
    let a = length-map model.network.outputs (output_port model.network) in
    let b = length-map n.outputs plain_port in
    let d = length-map model.network.outputs (name_in model.network) in
    record { inputs = omega arith; outputs = omega arith; one_start = omega arith }

pub trade_given : (options : Options) (cells : List CellParts) (model : Parsed) (deadline : Option Micro) (n : NetlistParts) → IsModel model → IsTraded deadline options cells model n → Gives (Trades deadline options cells model) (Ok (answer.Mapping cells n model.frame model.starts None))
trade_given options cells model deadline n fits is = (
  λ text files says. record { within = is.within; tradeable = is.tradeable; netlist = n; traded = is.netlist; written = says },
  (is.netlist.over, framed options cells model deadline n fits is.netlist, tt),
)
