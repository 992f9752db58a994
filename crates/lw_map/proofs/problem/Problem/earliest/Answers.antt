use Rattle.std.proofs.Common.{subst}
use Rattle.lw_map.specs.Trading.{LacksLabel}
use Rattle.lw_map.proofs.Earliest.{labels_earliest, all_low, roots_low}
use Rattle.lw_map.proofs.Problems.{mappable_by_time}
use Rattle.lw_map.proofs.Refusals.{lack_within, cover_refused}
use Rattle.lw_map.proofs.problem.Problem.earliest.Goals as goal

pub label-requires : goal.label-requires
label-requires c = rw (c.new-cost.ensures.lib, c.new-cost.ensures.starts) (mappable_by_time c.args.self.now c.requires)

pub labels_of-times-requires : goal.labels_of-times-requires
labels_of-times-requires c = record {
  few = roots_low c.args.self.now.net.now c.args.self.now.choices.now c.requires.network c.requires.chosen c.requires.outputs;
  in_range = rw (c.marks.ensures, c.in_ok-labelled.ensures.labels.least.one_each) c.requires.chosen.in_range;
}

pub returns-in-Ok-clause-least : goal.returns-in-Ok-clause-least
returns-in-Ok-clause-least c =
    let p = c.args.self.now in
    let least = rw (c.new-cost.ensures.lib, c.new-cost.ensures.starts, c.requires.patterns) at c.in_ok-labelled.ensures.labels.least in
    let have = rw c.marks.ensures at c.in-Ok.ensures.labels in
    record {
      earliest = labels_earliest p.net.now p.starts.now p.choices.now p.lib.now c.requires.network c.requires.chosen c.requires.early c.requires.library c.in_ok-labelled.labelled.labels least c.in-Ok.times.items have;
      low = all_low p.net.now p.starts.now p.choices.now p.lib.now c.requires.network c.requires.chosen c.requires.early c.requires.library c.in_ok-labelled.labelled.labels least c.in-Ok.times.items have;
    }

pub refused-requires : goal.refused-requires
refused-requires c = λ k e.
    lack_within c.args.self.now.net.now c.args.self.now.starts.now c.args.self.now.choices.now c.requires.network c.requires.chosen c.args.self.now.lib.now c.args.self.now.pats c.requires.patterns k (
      c.in_ok-labelled.labelled.labels,
      rw (c.new-cost.ensures.lib, c.new-cost.ensures.starts) at c.in_ok-labelled.ensures.labels.least,
      subst (LacksLabel c.in_ok-labelled.labelled.labels c.args.self.now.choices.now.roots) e (rw c.marks.ensures at c.in-Err.ensures.lacks),
    )

pub returns-in-Err-clause-fault : goal.returns-in-Err-clause-fault
returns-in-Err-clause-fault c =
    cover_refused c.args.self.now.net.now c.args.self.now.starts.now c.args.self.now.choices.now c.requires.network c.requires.chosen c.args.self.now.lib.now c.args.self.now.pats c.requires.patterns c.in-Err.fault c.refused.result
    (λ k e. (
      c.in_ok-labelled.labelled.labels,
      rw (c.new-cost.ensures.lib, c.new-cost.ensures.starts) at c.in_ok-labelled.ensures.labels.least,
      subst (LacksLabel c.in_ok-labelled.labelled.labels c.args.self.now.choices.now.roots) e (rw c.marks.ensures at c.in-Err.ensures.lacks),
    ))
    c.refused.ensures.named c.refused.ensures.memory
