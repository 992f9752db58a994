-- What a check of a mapped netlist comes to cannot fail to be there: a yes, a no with its reason, or why there is no graph.
use Rattle.std.proofs.Common.{ℕ, ◌<◌, List, Result, Ok, Err, refl, arith}
use native.Mathlib.Decide.{dec_lt}
use Rattle.lw_pool.specs.declared.id.ClassId.{ClassId}
use Rattle.lw_laws.specs.Classes.{IsGraphOf}
use Rattle.lw_laws.specs.Graphs.{Graph}
use Rattle.lw_laws.specs.Listings.{listing_of}
use Rattle.lw_laws.specs.Networks.{Network}
use Rattle.lw_net.specs.Plain as network
use Rattle.lw_form.specs.Limits.{most_bases}
use Rattle.lw_assoc.specs.Splits.{most_splits}
use Rattle.lw_genlib.specs.Cells.{CellParts}
use Rattle.lw_pattern.specs.Libraries.{library_patterns}
use Rattle.lw_blif.specs.declared.parsed.Parsed.{Parsed}
use Rattle.lw_mapped.specs.declared.closing.Mapped.{Mapped as MappedParts}
use Rattle.lw_check.specs.declared.verdict.Verdict.{Verdict}
use Rattle.lw_check.specs.declared.verdict.Verdict.TheVariants as verdict
use Rattle.lw_check.specs.Claims.{Claim}
use Rattle.lw_check.specs.Verdicts.{claim, IsVerdictOn}
use Rattle.lw_map.specs.Options.{Options, IsWide}
use Rattle.lw_map.specs.Mapped.{base_count, splits_count, IsWithinLimits}
use Rattle.lw_files.specs.Steps.{Files}
use Rattle.lw_files.proofs.Kept.{AreKept, IsReadBy}
use Rattle.lw_top.specs.declared.refusal.Refusal.{Refusal}
use Rattle.lw_top.specs.declared.refusal.Refusal.TheVariants.{Forms, Splits, No}
use Rattle.lw_top.specs.Checks.{HasVerdict, yes_text, Checks}
use Rattle.lw_exists.specs.Weakly.{Weakly}
use Rattle.lw_exists.proofs.Weak.{sure, and_then, weaker}
use Rattle.lw_exists.proofs.SomeGraph.{some_graph}
use Rattle.lw_exists.proofs.SomeVerdict.{some_verdict}
use Rattle.lw_exists.proofs.OutputClasses.{graph_kept, output_classes, classes_are, one_class}

module _ (options : Options) (cells : List CellParts) (model : Parsed) (m : MappedParts) (files : Files) (wide : IsWide options) (kept : AreKept model) (read : IsReadBy cells m) where
  abbrev HasSome : Type 0
  HasSome = (a : Result (List ℕ) Refusal) × Checks options cells model m files a

  abbrev net : Network
  net = network.plain model.network

  module _ (within : IsWithinLimits options model.network) (g : Graph) (is : IsGraphOf options.mode model.network.inputs (listing_of options.width net) g) where
    abbrev roots : List ClassId
    roots = output_classes options model.network wide kept.network within g is

    abbrev own : Claim
    own = claim model.network model.frame model.starts cells g (library_patterns cells) roots m

    verdict_of : (v : Verdict) → IsVerdictOn own v → HasVerdict options cells model m v
    verdict_of v on =
        record { within = within; graph = g; is_graph = is; roots = roots; roots_are = classes_are options model.network wide kept.network within g is; is = on }

    told : (v : Verdict) × IsVerdictOn own v → HasSome
    told (verdict.Yes, on) = (Ok yes_text, (refl, verdict_of verdict.Yes on))
    told (verdict.No reason, on) = (Err (No reason), verdict_of (verdict.No reason) on)

    judged : Weakly HasSome
    judged = weaker told (some_verdict own kept.network read.netlist (graph_kept options model.network wide kept.network within g is) is.written.leaf_count (one_class options model.network wide kept.network within g is))

  by_limits : Dec (most_bases < base_count options model.network) → Dec (most_splits < splits_count options model.network) → Weakly HasSome
  by_limits (yes many) d = sure (Err Forms, many)
  by_limits (no few) (yes many) = sure (Err Splits, (omega arith, many))
  by_limits (no few) (no none) =
      and_then (some_graph options.mode options.width net wide.least) (λ (g, is). judged (record { forms = omega arith; splits = omega arith }) g is)

  pub some_checks : Weakly ((a : Result (List ℕ) Refusal) × Checks options cells model m files a)
  some_checks = by_limits (dec_lt most_bases (base_count options model.network)) (dec_lt most_splits (splits_count options model.network))
