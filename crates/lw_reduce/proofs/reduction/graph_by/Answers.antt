use Rattle.std.proofs.Common.{◌^◌, ◌<◌, length, sym, subst, subst₂, ◌∙◌}
use Rattle.lw_reduce.specs.Settling.{AreSettled}
use Rattle.lw_reduce.proofs.SettledReps.{settled_from}
use Rattle.lw_reduce.proofs.reduction.graph_by.Goals as goal

pub settle-requires-clause-few : goal.settle-requires-clause-few
settle-requires-clause-few c = c.requires.few

pub settle-requires-clause-valid : goal.settle-requires-clause-valid
settle-requires-clause-valid c = rw (c.deref.ensures.value, c.deref-2.ensures.value) c.requires.valid

pub graph_of-requires : goal.graph_of-requires
graph_of-requires c = record {
  settled = let nands = c.args.draft.nands.items in
      let links = c.args.draft.links.items in
      let reps = c.settle.new.reps in
      let is = subst₂ (λ ns ls. AreSettled (length c.args.reps.now) ns ls reps) c.deref.ensures.value c.deref-2.ensures.value c.in_ok-settle.ensures in
      settled_from (length c.args.reps.now) (length reps) nands links reps (sym is.valid.count) is;
  few = subst (λ n. n < 2 ^ 31) (sym c.in_ok-settle.ensures.valid.count) c.requires.few;
  inputs_in = subst (λ n. c.args.draft.inputs < n) (sym c.in_ok-settle.ensures.valid.count) c.requires.inputs_in;
  few_nands = c.requires.few_nands;
}

pub returns : goal.returns
returns c = λ samples e. c.in_ok-graph.ensures samples (e ∙ sym c.in_ok-settle.ensures.valid.count)
