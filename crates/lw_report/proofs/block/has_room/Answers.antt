use Rattle.std.proofs.Common.{◌<◌, ◌-◌, length, get_or, refl, sym, subst, arith}
use Rattle.std.proofs.lemmas.Bool.Decides.{nat_tests}
use Rattle.std.proofs.lemmas.Option.{slice_get_read}
use Rattle.lw_report.specs.declared.block.Block.{Block}
use Rattle.lw_report.proofs.block.has_room.Goals as goal

pub returns-then-count-gt0 : goal.returns-then-count-gt0
returns-then-count-gt0 c = λ few.
    let blocks = c.args.blocks.now in
    let i = length blocks - 1 in
    let low : (get_or blocks i c.index-blocks-count.result).count < 64 = grind (arith, nat_tests, few) in
    record {
      last = c.index-blocks-count.result;
      at = slice_get_read blocks (length blocks) i c.index-blocks-count.result refl (omega arith) c.index-blocks-count.is;
      room = subst (λ (b : Block). b.count < 64) (sym c.index-blocks-count.is) low;
    }
