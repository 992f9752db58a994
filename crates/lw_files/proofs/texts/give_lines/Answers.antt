use Rattle.std.proofs.Common.{rules}
use Rattle.lw_files.proofs.Given.{line-accepted, line-given, fewer-left, none-left-over}
use Rattle.lw_files.proofs.texts.give_lines.Goals as goal

pub take_line-requires : goal.take_line-requires
take_line-requires g c =
    let (marked, (all, fed, begun)) = c.requires in
    line-accepted (λ r ls. g.R.TakesLines.given r c.args.over.now ls) g.R.TakesLines.accepts marked c.each.lines c.each.reader c.in-Some.line (all, fed, c.each.invariant.given marked all fed begun) c.in-Some.ensures.line

pub each-smaller-in-Some : goal.each-smaller-in-Some
each-smaller-in-Some g c =
    let (marked, (all, fed, begun)) = c.requires in
    fewer-left (λ r ls. g.R.TakesLines.given r c.args.over.now ls) g.R.TakesLines.accepts marked c.each.lines c.take.new.self c.each.reader c.in-Some.line (all, fed, c.each.invariant.given marked all fed begun) c.in-Some.ensures.marked c.in-Some.ensures.finished c.in-Some.ensures.line c.in-Some.ensures.stands

pub each-smaller : goal.each-smaller
each-smaller g c =
    let (marked, (all, fed, begun)) = c.requires in
    fewer-left (λ r ls. g.R.TakesLines.given r c.args.over.now ls) g.R.TakesLines.accepts marked c.each.lines c.take.new.self c.each.reader c.in-Some.line (all, fed, c.each.invariant.given marked all fed begun) c.in-Some.ensures.marked c.in-Some.ensures.finished c.in-Some.ensures.line c.in-Some.ensures.stands

pub each-preserved-in-Some : goal.each-preserved-in-Some
each-preserved-in-Some g c = record {
  count = search rules;
  finished = search rules;
  given =
      λ marked all fed begun.
      line-given (λ r ls. g.R.TakesLines.given r c.args.over.now ls) g.R.TakesLines.accepts marked c.each.lines c.take.new.self c.each.reader c.take_line.new.self c.in-Some.line all fed (c.each.invariant.given marked all fed begun) c.in-Some.ensures.marked c.in-Some.ensures.finished c.in-Some.ensures.line c.in-Some.ensures.stands c.take_line.ensures;
}

pub each-preserved : goal.each-preserved
each-preserved g c = record {
  count = search rules;
  finished = search rules;
  given =
      λ marked all fed begun.
      line-given (λ r ls. g.R.TakesLines.given r c.args.over.now ls) g.R.TakesLines.accepts marked c.each.lines c.take.new.self c.each.reader c.take_line.new.self c.in-Some.line all fed (c.each.invariant.given marked all fed begun) c.in-Some.ensures.marked c.in-Some.ensures.finished c.in-Some.ensures.line c.in-Some.ensures.stands c.take_line.ensures;
}

pub returns-clause-given : goal.returns-clause-given
returns-clause-given g c =
    λ marked all fed begun.
    none-left-over (λ r ls. g.R.TakesLines.given r c.args.over.now ls) g.R.TakesLines.accepts marked c.each.lines c.take.new.self c.each.reader all fed c.take.result c.in_default.not-Some (c.each.invariant.given marked all fed begun) c.take.ensures.marked c.take.ensures.finished c.take.ensures.line c.take.ensures.stands
