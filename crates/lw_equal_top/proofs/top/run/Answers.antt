use Rattle.std.proofs.Common.{◌∙◌, map, string_bytes, subst, sym}
use Rattle.lw_equal_top.specs.Outcomes.{Meets}
use Rattle.lw_equal_top.specs.Requests.{plain_request}
use Rattle.lw_equal_top.specs.Words.{Request, comparing}
use Rattle.lw_equal_top.proofs.Served.{asked_once, differ_files, equal_files}
use Rattle.lw_equal_top.proofs.top.run.Goals as goal

pub returns-clause-equal : goal.returns-clause-equal
returns-clause-equal g c = λ files comparison known asks zero.
    let told = g.F.Shelf.files c.args.shelf.now in
    let before = g.F.Shelf.faults c.args.shelf.now in
    let now = g.F.Shelf.faults c.serve-ending.new.shelf in
    let ending = c.serve-ending.result in
    let same = asked_once (map string_bytes c.args.words.now) (plain_request c.in-Ok.request) (comparing comparison) c.in-Ok.ensures asks in
    let meets = subst (λ (r : Request). Meets told before now g.O.Sink.taken g.O.Sink.is_finished g.O.Sink.faults c.args.out.now c.serve-ending.new.out r ending) same c.serve-ending.ensures.meets in
    equal_files told before now g.O.Sink.taken g.O.Sink.is_finished g.O.Sink.faults c.args.out.now c.serve-ending.new.out comparison ending meets (sym c.status.ensures ∙ zero) files known

pub returns-clause-differ : goal.returns-clause-differ
returns-clause-differ g c = λ files known one.
    let told = g.F.Shelf.files c.args.shelf.now in
    let before = g.F.Shelf.faults c.args.shelf.now in
    let now = g.F.Shelf.faults c.serve-ending.new.shelf in
    differ_files (map string_bytes c.args.words.now) told before now g.O.Sink.taken g.O.Sink.is_finished g.O.Sink.faults c.args.out.now c.serve-ending.new.out (plain_request c.in-Ok.request) c.serve-ending.result (sym c.in-Ok.ensures) c.serve-ending.ensures.meets (sym c.status.ensures ∙ one) files known
