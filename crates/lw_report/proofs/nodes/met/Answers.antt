use Rattle.std.proofs.Common.{◌<◌, ◌≢◌, ◌^◌, sym, ap, ◌∙◌, arith}
use Rattle.lw_net.specs.Signs.{met_by}
use Rattle.lw_genlib.specs.Words.{bit}
use Rattle.lw_report.proofs.Bits.{bit_not_is, bit_ones, met_default}
use Rattle.lw_report.proofs.nodes.met.Goals as goal

pub returns-in-48 : goal.returns-in-48
returns-in-48 c = λ k below.
    let small : c.args.values < 2 ^ 64 = omega arith in
    bit_not_is k c.args.values below small ∙ sym (ap (λ s. met_by s (bit k c.args.values)) c.in-48.is)

pub returns-in_default : goal.returns-in_default
returns-in_default c = λ k below.
    let not_one : c.args.sign ≢ 49 = omega arith in
    let not_zero : c.args.sign ≢ 48 = omega arith in
    bit_ones k below ∙ sym (met_default c.args.sign (bit k c.args.values) not_one not_zero)
