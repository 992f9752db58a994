use Rattle.std.proofs.Common.{ℕ, ◌≡◌, ◌<◌, ◌*◌, ◌^◌, ◌∙◌, length, slice_index, sym, ap, subst, arith}
use Rattle.lw_laws.specs.Drafts.{IsReduced}
use Rattle.std.proofs.lemmas.List.{length-map}
use Rattle.lw_reduce.specs.Drafting.{plain_fact}
use Rattle.lw_reduce.proofs.Drafting.{own_valid}
use Rattle.lw_reduce.proofs.reduction.reduce.Goals as goal

pub own_reps-requires : goal.own_reps-requires
own_reps-requires c = subst (λ xs. length xs < 2 ^ 31) (sym c.deref.ensures.value) c.draft.invariant.few

pub graph_by-requires : goal.graph_by-requires
graph_by-requires c = record {
  valid = let d = c.draft.inside in
      let reps = c.in_ok-reps.reps.items in
      let count : length reps ≡ length d.samples.items = c.in_ok-reps.ensures.count ∙ ap length c.deref.ensures.value in
      let own : (b : ℕ) → b < length d.samples.items → slice_index reps b ≡ 2 * b = subst (λ xs. (b : ℕ) → b < length xs → slice_index reps b ≡ 2 * b) c.deref.ensures.value c.in_ok-reps.ensures.own in
      rw c.deref_mut.ensures.value (own_valid d.inputs d.samples.items d.nands.items d.links.items c.draft.invariant reps count own);
  few = subst (λ n. n < 2 ^ 31) (sym (ap length c.deref_mut.ensures.value ∙ (c.in_ok-reps.ensures.count ∙ ap length c.deref.ensures.value))) c.draft.invariant.few;
  inputs_in = subst (λ n. c.draft.inside.inputs < n) (sym (ap length c.deref_mut.ensures.value ∙ (c.in_ok-reps.ensures.count ∙ ap length c.deref.ensures.value))) c.draft.invariant.inputs;
  few_nands = let d = c.draft.inside in
      let n = length-map d.nands.items plain_fact in
      let few = c.draft.invariant.few_nands in
      omega arith;
}

pub returns : goal.returns
returns c =
    let d = c.draft.inside in
    let graph = c.in_ok-graph.graph in
    let samples = d.samples.items in
    let count = ap length c.deref_mut.ensures.value ∙ (c.in_ok-reps.ensures.count ∙ ap length c.deref.ensures.value) in
    let is = c.in_ok-graph.ensures samples (sym count) in
    subst (λ draft. IsReduced draft graph) c.draft.view_is is
