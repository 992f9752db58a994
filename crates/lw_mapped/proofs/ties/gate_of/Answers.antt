use Rattle.std.proofs.Common.{◌<◌, length, drop, ap, sym, ◌∙◌, subst}
use Rattle.std.specs.Prelude.{All}
use Rattle.lw_mapped.specs.GateLines.{net_for}
use Rattle.lw_mapped.proofs.TieLemmas.{pin-nets, output-net}
use Rattle.lw_mapped.proofs.ties.gate_of.Goals as goal

pub push_pins-requires : goal.push_pins-requires
push_pins-requires c =
    subst (All (λ pin. 0 < length (net_for (drop 2 c.args.words.now) pin))) (sym c.pins.ensures.pins) (pin-nets c.args.cell.now (drop 2 c.args.words.now) c.requires)

pub new-requires : goal.new-requires
new-requires c =
    subst (λ n. 0 < length n) (sym (c.net_for-out.ensures ∙ ap (net_for (drop 2 c.args.words.now)) (c.as_bytes.ensures.bytes ∙ c.output.ensures))) (output-net c.args.cell.now (drop 2 c.args.words.now) c.requires)
