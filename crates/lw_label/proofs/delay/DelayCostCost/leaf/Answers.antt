use Rattle.std.proofs.Common.{◌∙◌, ap}
use Rattle.lw_label.specs.Delays.{start_at}
use Rattle.lw_label.proofs.Times.{start_cut}
use Rattle.lw_label.proofs.delay.DelayCostCost.leaf.Goals as goal

pub returns : goal.returns
returns c =
    c.start_of.ensures ∙ (ap (λ ms. start_at ms c.args.input) c.as_slice.ensures ∙ start_cut c.args.self.now.starts.now c.args.input c.args.self.now.small)
