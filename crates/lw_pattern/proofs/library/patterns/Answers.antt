use Rattle.std.proofs.Common.{List, ◌≡◌, ◌≤◌, length, map, sym, subst, ap, ◌∙◌, arith}
use Rattle.lw_laws.specs.Covers.{Pattern as TreeOfCell, ArePatterns}
use Rattle.lw_laws.specs.Netlists.{HaveCellTruths}
use Rattle.lw_pattern.specs.declared.pattern.Pattern.{Pattern}
use Rattle.lw_pattern.specs.Listed.{AreKept, pattern_of, listed}
use Rattle.lw_pattern.specs.Libraries.{library_patterns, pin_counts, library_truth}
use Rattle.lw_pattern.proofs.Keeping.{library_kept, listed_back, cells_next, cells_end}
use Rattle.lw_pattern.proofs.LibraryLaws.{library_pins, library_truths}
use Rattle.lw_pattern.proofs.library.patterns.Goals as goal

pub loop-number-preserved : goal.loop-number-preserved
loop-number-preserved c = cells_next c.args.lib.now c.loop-number.items.items c.loop-number.number c.loop-number.invariant c.cell.result.now c.push_cell.new.items.items c.cell.ensures c.in_ok-push_cell.ensures

pub new-requires : goal.new-requires
new-requires c =
    let past : length c.args.lib.now ≤ c.loop-number.number = omega arith in
    let all : c.loop-number.items.items ≡ map listed (library_patterns c.args.lib.now) = cells_end c.args.lib.now c.loop-number.items.items c.loop-number.number c.loop-number.invariant past in
    subst (λ (ps : List Pattern). AreKept ps) (sym all) (library_kept c.args.lib.now c.len-number-end.ensures.kept)

pub returns : goal.returns
returns c =
    let past : length c.args.lib.now ≤ c.loop-number.number = omega arith in
    let all : c.loop-number.items.items ≡ map listed (library_patterns c.args.lib.now) = cells_end c.args.lib.now c.loop-number.items.items c.loop-number.number c.loop-number.invariant past in
    let list : c.new.result ≡ library_patterns c.args.lib.now = c.new.ensures ∙ (ap (map pattern_of) all ∙ listed_back (library_patterns c.args.lib.now)) in
    record {
      list = list;
      pins = subst (λ (ps : List TreeOfCell). ArePatterns (pin_counts c.args.lib.now) ps) (sym list) (library_pins c.args.lib.now c.len-number-end.ensures.kept);
      truth = subst (λ (ps : List TreeOfCell). HaveCellTruths (pin_counts c.args.lib.now) (library_truth c.args.lib.now) ps) (sym list) (library_truths c.args.lib.now c.len-number-end.ensures.kept);
    }
