use Rattle.std.proofs.Common.{◌∷◌, ap, ◌∙◌, arith}
use Rattle.std.proofs.lemmas.List.{take_all}
use Rattle.std.specs.List.{flat_map}
use Rattle.lw_io.proofs.Putting.{Writes-more}
use Rattle.lw_verilog.proofs.PutParts.{Writes-is}
use Rattle.lw_verilog.specs.Texts.{escaped}
use Rattle.lw_verilog.proofs.putting.put_further.Goals as goal

pub loop-name-preserved : goal.loop-name-preserved
loop-name-preserved g c =
    Writes-more (λ name. 44 ∷ 32 ∷ escaped name) c.args.names.now c.loop-name.name-index c.name-item.result c.loop-name-test.true c.loop-name.invariant
    (Writes-is c.put_next.ensures (ap (λ n. 44 ∷ 32 ∷ escaped n) (c.as_bytes.ensures.bytes ∙ c.name-item.is)))

pub returns : goal.returns
returns g c = Writes-is c.loop-name.invariant (ap (flat_map (λ name. 44 ∷ 32 ∷ escaped name)) (take_all c.loop-name.name-index c.args.names.now (omega (arith, c.loop-name-test.false))))
