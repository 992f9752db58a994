use Rattle.std.proofs.Common.{refl, arith}
use Rattle.lw_equal_top.proofs.Served.{helped, versioned}
use Rattle.lw_equal_top.proofs.outcome.serve.Goals as goal

pub returns-in-Help : goal.returns-in-Help
returns-in-Help g c =
    let told = g.F.Shelf.files c.args.shelf.now in
    let count = g.F.Shelf.faults c.args.shelf.now in
    rw c.in-Help.is (record {
      meets = helped told count count g.O.Sink.taken g.O.Sink.is_finished g.O.Sink.faults c.args.out.now c.tell.new.out c.tell.result c.tell.ensures.writes c.tell.ensures.told;
      files = refl;
      read = omega arith;
      written = c.tell.ensures.later;
    })

pub returns-in-Version : goal.returns-in-Version
returns-in-Version g c =
    let told = g.F.Shelf.files c.args.shelf.now in
    let count = g.F.Shelf.faults c.args.shelf.now in
    rw c.in-Version.is (record {
      meets = versioned told count count g.O.Sink.taken g.O.Sink.is_finished g.O.Sink.faults c.args.out.now c.tell-in-Version.new.out c.tell-in-Version.result c.tell-in-Version.ensures.writes c.tell-in-Version.ensures.told;
      files = refl;
      read = omega arith;
      written = c.tell-in-Version.ensures.later;
    })
