use Rattle.std.proofs.Common.{subst}
use Rattle.lw_extract.specs.declared.fault.ExtractFault.{ExtractFault}
use Rattle.lw_joined.specs.Covering.{IsLackOver}
use Rattle.lw_joined.proofs.Covers.{lack_refused, lack_within}
use Rattle.lw_joined.proofs.covering.cover.Goals as goal

pub refused-requires : goal.refused-requires
refused-requires c = λ k e.
    lack_within c.args.lib.now c.args.net.now c.args.starts.now c.args.joined.now k
    (subst (λ (f : ExtractFault). IsLackOver c.args.lib.now c.args.net.now c.args.starts.now c.args.joined.now f) e c.in-Err.ensures.lacks) c.requires.joined

pub returns-in-Err-clause-fault : goal.returns-in-Err-clause-fault
returns-in-Err-clause-fault c =
    lack_refused c.args.lib.now c.args.net.now c.args.starts.now c.args.joined.now c.requires.joined c.in-Err.fault c.refused.result c.in-Err.ensures.lacks c.refused.ensures.named c.refused.ensures.memory
