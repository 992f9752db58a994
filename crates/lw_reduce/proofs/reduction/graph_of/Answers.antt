use Rattle.std.proofs.Common.{ℕ, ◌+◌, ◌*◌, ◌∙◌, [], length, map, filter, All, sym, ap, subst, arith}
use Rattle.std.specs.List.{slice_range}
use Rattle.std.specs.Prelude.{slice_index_or}
use Rattle.std.proofs.lemmas.Grind.{get_or_default_zero}
use Rattle.lw_pool.specs.declared.id.ClassId.{ClassId}
use Rattle.lw_laws.specs.Drafts.{IsReduced}
use Rattle.lw_graph.specs.Rows.{rows_from}
use Rattle.lw_graph.proofs.Rows.{length-rows_from}
use Rattle.lw_reduce.specs.ClassNumbers.{as_class}
use Rattle.lw_reduce.specs.Drafting.{plain_draft}
use Rattle.lw_reduce.specs.Representatives.{IsFactIn}
use Rattle.lw_reduce.specs.Rows.{IsRowOf}
use Rattle.lw_reduce.specs.Settling.{canonical_fact}
use Rattle.lw_reduce.specs.Buckets.{of_class, pair_of}
use Rattle.lw_reduce.proofs.Assembled.{entries_below, is_graph, is_reduced}
use Rattle.lw_reduce.proofs.reduction.graph_of.Goals as goal

pub rows_of-requires : goal.rows_of-requires
rows_of-requires c = record {
  known = subst (λ m. All (IsFactIn m) c.args.draft.nands.items) (sym c.in_ok-numbered.ensures.count) c.requires.settled.valid.nands_in;
  within = let n = length c.args.reps.now in
      let forms = c.in_ok-numbered.numbered.forms.items in
      let pairs = c.in_ok-numbered.numbered.pairs in
      let p = c.in_ok-numbered.ensures.pairs in
      entries_below n c.args.draft.nands.items c.args.draft.links.items c.args.reps.now c.requires.settled c.requires.few forms c.in_ok-numbered.ensures.classes c.in_ok-numbered.ensures.count (pairs * 2) (omega arith);
  few = c.requires.few_nands;
}

pub flat-requires-clause-graph : goal.flat-requires-clause-graph
flat-requires-clause-graph c =
    let n = length c.args.reps.now in
    let nands = c.args.draft.nands.items in
    let is = c.requires.settled in
    let forms = c.in_ok-numbered.numbered.forms.items in
    let pairs = c.in_ok-numbered.numbered.pairs in
    let inputs = c.args.draft.inputs in
    let rows = c.in_ok-lists.lists in
    let lists = rows_from rows.pairs.items 0 rows.ends in
    let lists_count = length-rows_from rows.pairs.items 0 rows.ends ∙ c.in_ok-lists.ensures.count in
    let count = c.in_ok-numbered.ensures.count in
    let in' = c.requires.inputs_in in
    let one : ClassId = record { 0 = c.index.result.now } in
    let one_is = c.index.ensures ∙ get_or_default_zero forms 0 c.index.result.now (omega arith) in
    let leaves_are = c.in-Ok.ensures.leaves ∙ ap (λ fs. map as_class (slice_range fs 1 (inputs + 1))) c.deref.ensures.value in
    let classes_are = c.in-Ok.ensures.forms ∙ ap (map as_class) c.deref.ensures.value in
    let lists_are : (k : ℕ) → IsRowOf (map pair_of (filter (of_class k) (map (canonical_fact forms) nands))) (slice_index_or lists k []) = c.in_ok-lists.ensures.lists in
    is_graph n nands c.args.draft.links.items c.args.reps.now is c.requires.few forms c.in_ok-numbered.ensures.classes count inputs c.requires.inputs_in one c.in-Ok.leaves c.in-Ok.forms lists pairs one_is leaves_are classes_are c.in_ok-numbered.ensures.pairs lists_count lists_are

pub returns : goal.returns
returns c =
    let n = length c.args.reps.now in
    let nands = c.args.draft.nands.items in
    let is = c.requires.settled in
    let forms = c.in_ok-numbered.numbered.forms.items in
    let pairs = c.in_ok-numbered.numbered.pairs in
    let inputs = c.args.draft.inputs in
    let rows = c.in_ok-lists.lists in
    let lists = rows_from rows.pairs.items 0 rows.ends in
    let lists_count = length-rows_from rows.pairs.items 0 rows.ends ∙ c.in_ok-lists.ensures.count in
    let count = c.in_ok-numbered.ensures.count in
    let in' = c.requires.inputs_in in
    let one : ClassId = record { 0 = c.index.result.now } in
    let one_is = c.index.ensures ∙ get_or_default_zero forms 0 c.index.result.now (omega arith) in
    let leaves_are = c.in-Ok.ensures.leaves ∙ ap (λ fs. map as_class (slice_range fs 1 (inputs + 1))) c.deref.ensures.value in
    let classes_are = c.in-Ok.ensures.forms ∙ ap (map as_class) c.deref.ensures.value in
    let lists_are : (k : ℕ) → IsRowOf (map pair_of (filter (of_class k) (map (canonical_fact forms) nands))) (slice_index_or lists k []) = c.in_ok-lists.ensures.lists in
    λ samples known. subst (IsReduced (plain_draft inputs samples nands c.args.draft.links.items)) (sym c.in_ok-graph.ensures) (is_reduced n nands c.args.draft.links.items c.args.reps.now is c.requires.few forms c.in_ok-numbered.ensures.classes count inputs c.requires.inputs_in one c.in-Ok.leaves c.in-Ok.forms lists pairs one_is leaves_are classes_are c.in_ok-numbered.ensures.pairs lists_count lists_are samples known)
