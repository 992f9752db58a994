use Rattle.std.proofs.Common.{◌/◌, ◌^◌, refl, ap}
use Rattle.lw_big.specs.Draws.{upper_bits}
use Rattle.lw_big.proofs.Stepping.{one_more}
use Rattle.lw_big.proofs.draws.Draws.draw.Goals as goal

pub returns : goal.returns
unfolding upper_bits
returns c = record {
  value = λ seed count has. ap (λ state. state / 2 ^ 33) (one_more seed count c.args.self.now.state _ has refl);
  draws = λ seed count has. one_more seed count c.args.self.now.state _ has refl;
}
