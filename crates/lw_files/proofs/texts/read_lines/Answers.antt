use Rattle.std.proofs.Common.{rules, take, ◌∙◌, arith}
use Rattle.lw_words.specs.Lines.{logical_lines}
use Rattle.lw_files.proofs.Given.{nothing-fed, more-fed, all-fed, all-given}
use Rattle.lw_files.proofs.texts.read_lines.Goals as goal

pub pieces-init : goal.pieces-init
pieces-init g c = record {
  within = omega arith;
  unfinished = search rules;
  count = search rules;
  given = nothing-fed (λ r ls. g.R.TakesLines.given r c.args.over.now ls) g.R.TakesLines.accepts c.args.marked c.new-lines.result c.args.reader.now c.args.bytes.now c.new-lines.ensures.marked c.new-lines.ensures.unfinished c.new-lines.ensures.stands c.requires.unread c.requires.accepted;
}

pub give_lines-requires : goal.give_lines-requires
give_lines-requires g c = (
  c.args.marked,
  (
    logical_lines c.args.marked c.args.bytes.now,
    take c.min-end.result c.args.bytes.now,
    more-fed (λ r ls. g.R.TakesLines.given r c.args.over.now ls) g.R.TakesLines.accepts c.args.marked c.pieces.lines c.feed.new.self c.pieces.reader c.args.bytes.now c.pieces.at c.min-end.result c.pieces.invariant.given (omega (arith, c.min-end.ensures, c.pieces-test.true)) (omega (arith, c.min-end.ensures)) c.in_ok-feed.ensures.marked c.in_ok-feed.ensures.unfinished c.in_ok-feed.ensures.stands,
  ),
)

pub pieces-preserved : goal.pieces-preserved
pieces-preserved g c = record {
  within = omega (arith, c.min-end.ensures);
  unfinished = c.give_lines.ensures.finished ∙ c.in_ok-feed.ensures.unfinished;
  count = grind (arith, c.give_lines.ensures.count, c.in_ok-feed.ensures.count);
  given =
      (c.give_lines.ensures.given c.args.marked (logical_lines c.args.marked c.args.bytes.now) (take c.min-end.result c.args.bytes.now)
      (more-fed (λ r ls. g.R.TakesLines.given r c.args.over.now ls) g.R.TakesLines.accepts c.args.marked c.pieces.lines c.feed.new.self c.pieces.reader c.args.bytes.now c.pieces.at c.min-end.result c.pieces.invariant.given (omega (arith, c.min-end.ensures, c.pieces-test.true)) (omega (arith, c.min-end.ensures)) c.in_ok-feed.ensures.marked c.in_ok-feed.ensures.unfinished c.in_ok-feed.ensures.stands)).is_given;
}

pub give_lines-requires-2 : goal.give_lines-requires-2
give_lines-requires-2 g c = (
  c.args.marked,
  (
    logical_lines c.args.marked c.args.bytes.now,
    c.args.bytes.now,
    all-fed (λ r ls. g.R.TakesLines.given r c.args.over.now ls) g.R.TakesLines.accepts c.args.marked c.pieces.lines c.finish.new.self c.pieces.reader c.args.bytes.now c.pieces.at c.pieces.invariant.given c.pieces-test.false c.in_ok-finish.ensures.marked c.in_ok-finish.ensures.finished c.in_ok-finish.ensures.stands,
  ),
)

pub returns : goal.returns
returns g c =
    all-given (λ r ls. g.R.TakesLines.given r c.args.over.now ls) g.R.TakesLines.accepts c.args.marked c.give_lines-2.new.lines c.give_lines-2.new.reader c.args.bytes.now
    (c.give_lines-2.ensures.given c.args.marked (logical_lines c.args.marked c.args.bytes.now) c.args.bytes.now
    (all-fed (λ r ls. g.R.TakesLines.given r c.args.over.now ls) g.R.TakesLines.accepts c.args.marked c.pieces.lines c.finish.new.self c.pieces.reader c.args.bytes.now c.pieces.at c.pieces.invariant.given c.pieces-test.false c.in_ok-finish.ensures.marked c.in_ok-finish.ensures.finished c.in_ok-finish.ensures.stands))
    (c.give_lines-2.ensures.finished ∙ c.in_ok-finish.ensures.finished)
