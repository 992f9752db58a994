use Rattle.std.proofs.Common.{◌∙◌, sym, arith}
use Rattle.std.proofs.lemmas.List.{length-set}
use Rattle.std.proofs.lemmas.Option.{slice_get-get_or}
use Rattle.lw_laws.specs.Rounds.{labels_in}
use Rattle.lw_pool.specs.declared.id.ClassId.{ClassId}
use Rattle.std.proofs.Common.{get_or}
use Rattle.lw_check.proofs.Looking.{labels_more, no_labels}
use Rattle.lw_check.proofs.bounding.read_labels.Goals as goal

pub returns-in_default-clause-read : goal.returns-in_default-clause-read
returns-in_default-clause-read c = λ ls have.
    let d : ClassId = record { 0 = 0 } in
    no_labels (labels_in c.args.labels.now) c.args.classes.now c.loop-k.k (get_or c.args.classes.now c.loop-k.k d) (slice_get-get_or c.args.classes.now c.loop-k.k d c.loop-k-test.true) (sym c.label_at.ensures ∙ c.in_default.is) ls have

pub loop-k-preserved : goal.loop-k-preserved
loop-k-preserved c =
    let d : ClassId = record { 0 = 0 } in
    record {
      have = labels_more (labels_in c.args.labels.now) c.args.classes.now c.loop-k.values c.loop-k.k (get_or c.args.classes.now c.loop-k.k d) c.in-Some.label (slice_get-get_or c.args.classes.now c.loop-k.k d c.loop-k-test.true)
          (let room = c.requires in let same = c.loop-k.invariant.length in let lt = c.loop-k-test.true in omega arith) (sym c.label_at.ensures ∙ c.in-Some.is) c.loop-k.invariant.have;
      length = length-set c.loop-k.values c.loop-k.k c.in-Some.label ∙ c.loop-k.invariant.length;
    }
