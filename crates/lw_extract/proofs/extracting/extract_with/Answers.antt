use Rattle.std.proofs.Common.{All, IsSome, Option, None, List, IfSome, slice_index_or, sym, subst, subst₂}
use Rattle.lw_facts.proofs.Results.{some_both}
use Rattle.lw_pool.specs.declared.id.ClassId.{ClassId}
use Rattle.lw_cost.specs.declared.mark.Mark.{Mark}
use Rattle.lw_bounds.specs.Bounds.{AreBounds}
use Rattle.lw_extract.specs.Choosing.{RootsHaveMarks}
use Rattle.lw_extract.specs.Covers.{AreLibraryLabels}
use Rattle.lw_extract.proofs.Uncovered.{covered_ok, covered_memory}
use Rattle.lw_extract.proofs.extracting.extract_with.Goals as goal

pub cover_with-requires-clause-ready : goal.cover_with-requires-clause-ready
cover_with-requires-clause-ready g c = record {
  labels = subst (AreLibraryLabels c.args.graph.now (g.C.Cost.costs c.args.cost.now) c.args.pats.now c.args.lib.now) (sym c.marks-marks.ensures) c.requires.labels;
  fit = c.requires.fit;
  covered = subst (λ (rs : List ClassId). RootsHaveMarks c.marks-marks.result.now rs) c.as_slice.ensures c.in_default.ensures;
}

pub cover_with-requires-clause-bounds : goal.cover_with-requires-clause-bounds
cover_with-requires-clause-bounds g c =
    let bounds = subst (λ (ms : List (Option Mark)). IfSome c.args.bounds (λ b. AreBounds b.now c.args.graph.now ms)) (sym c.marks-marks.ensures) c.requires.bounds in
    some_both c.args.bounds c.requires.fits bounds (λ b fits are. record { fits = fits; are = are })

pub returns-in-Err-clause-no_cover : goal.returns-in-Err-clause-no_cover
returns-in-Err-clause-no_cover g c =
    let all = subst₂ (λ (ms : List (Option Mark)) (rs : List ClassId). All (λ root. IsSome (slice_index_or ms root.0 None)) rs) c.marks-marks.ensures c.as_slice.ensures c.in_default.ensures in
    λ k. covered_memory c.args.labels.now c.args.ports.now.roots all k

pub returns-in-Ok-clause-no_cover : goal.returns-in-Ok-clause-no_cover
returns-in-Ok-clause-no_cover g c =
    let all = subst₂ (λ (ms : List (Option Mark)) (rs : List ClassId). All (λ root. IsSome (slice_index_or ms root.0 None)) rs) c.marks-marks.ensures c.as_slice.ensures c.in_default.ensures in
    λ k. covered_ok c.args.labels.now c.args.ports.now.roots all c.in-Ok.cover k
