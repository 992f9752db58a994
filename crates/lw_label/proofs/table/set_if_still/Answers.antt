use Rattle.std.proofs.Common.{◌∙◌, IfSome, subst}
use Rattle.lw_label.specs.HeightTables.{HasHeightsOf, IsHeightTable}
use Rattle.lw_label.proofs.HeightTables.{table_set}
use Rattle.lw_label.proofs.OneVisit.{parts_elsewhere}
use Rattle.lw_label.proofs.table.set_if_still.Goals as goal

pub set_rows-requires-clause-place : goal.set_rows-requires-clause-place
set_rows-requires-clause-place g c = c.requires.within

pub set_rows-requires-clause-around : goal.set_rows-requires-clause-around
set_rows-requires-clause-around g c =
    let graph = c.args.given.now.task.now.graph.now in
    let still = c.args.visits.now.still in
    let before = subst (λ t. IfSome t (IsHeightTable graph c.args.given.now.task.now.pats.now still)) c.in-Some.is c.requires.table in
    record {
      one_each = before.one_each;
      rows = before.fits.rows;
      elsewhere = parts_elsewhere graph still c.args.place c.requires.moving (c.has_still_parts.ensures c.if-not-has_still_parts.false);
    }

pub returns-in_default : goal.returns-in_default
returns-in_default g c = record { table = c.requires.table; heights = λ marks has. has }

pub returns-then-not-has_still_parts : goal.returns-then-not-has_still_parts
returns-then-not-has_still_parts g c =
    let task = c.args.given.now.task.now in
    record {
      table = subst (λ t. IfSome t (IsHeightTable task.graph.now task.pats.now c.args.visits.now.still)) c.in-Some.is c.requires.table;
      heights = λ marks has. subst (λ t. IfSome t (HasHeightsOf marks)) c.in-Some.is has;
    }

pub returns : goal.returns
returns g c =
    let task = c.args.given.now.task.now in
    let graph = task.graph.now in
    let pats = task.pats.now in
    let still = c.args.visits.now.still in
    let before = subst (λ t. IfSome t (IsHeightTable graph pats still)) c.in-Some.is c.requires.table in
    record {
      table = table_set graph pats still c.args.place c.in-Some.table c.set_rows.new.self c.requires.moving (c.has_still_parts.ensures c.if-not-has_still_parts.false) c.set_rows.ensures.marks c.set_rows.ensures.set.others c.set_rows.ensures.set.settled before;
      heights = λ marks has. c.set_rows.ensures.marks ∙ subst (λ t. IfSome t (HasHeightsOf marks)) c.in-Some.is has;
    }
