use Rattle.std.proofs.Common.{◌++◌, [], ◌∷◌}
use Rattle.lw_report.specs.Vectors.{first_fault}
use Rattle.lw_report.proofs.Standings.{stops_at, stands_still, tells_stop, stops_more, taken_stands, taken_tells}
use Rattle.lw_report.proofs.vectors.Vectors.line.Goals as goal

pub returns-in-Some-clause-stands : goal.returns-in-Some-clause-stands
returns-in-Some-clause-stands c = λ lines stands. stands_still c.args.self.now lines c.args.line.now c.in-Some.stop c.in-Some.is stands

pub returns-in-Some-clause-answer : goal.returns-in-Some-clause-answer
returns-in-Some-clause-answer c = λ lines stands. tells_stop c.in-Some.stop (first_fault c.args.self.now.inputs (lines ++ c.args.line.now ∷ [])) (stops_more c.in-Some.stop c.args.self.now.inputs lines c.args.line.now (stops_at c.args.self.now lines c.in-Some.stop c.in-Some.is stands))

pub returns-clause-stands : goal.returns-clause-stands
returns-clause-stands c = λ lines stands.
    let t = c.take-result.ensures in
    taken_stands c.args.self.now _ lines c.args.line.now c.take-result.result c.in_default.is (c.err-self.ensures.value) t.inputs t.ok t.fault stands

pub returns-clause-answer : goal.returns-clause-answer
returns-clause-answer c = λ lines stands.
    let t = c.take-result.ensures in
    taken_tells c.args.self.now c.take-result.new.self lines c.args.line.now c.take-result.result c.in_default.is t.ok t.fault stands
