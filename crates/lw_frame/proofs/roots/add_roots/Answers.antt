use Rattle.std.proofs.Common.{ap, ◌∙◌, arith}
use Rattle.std.specs.List.{flat_map}
use Rattle.std.specs.Str.{bytes_eq}
use Rattle.std.proofs.lemmas.List.{take_all}
use Rattle.indexmap.specs.IndexSet.{insert_all}
use Rattle.lw_frame.specs.Frames.{read_by}
use Rattle.lw_frame.proofs.Once.{once-behind}
use Rattle.lw_frame.proofs.roots.add_roots.Goals as goal

pub returns-clause-roots : goal.returns-clause-roots
returns-clause-roots c =
    let names = c.args.names.now.keys in
    let latches = c.args.latches.now in
    c.loop-latch.invariant
    ∙ (ap (λ l. insert_all bytes_eq names (flat_map read_by l)) (take_all c.loop-latch.latch-index latches (omega arith))
    ∙ once-behind names (flat_map read_by latches) c.len-outputs.ensures.unique)
