use Rattle.std.proofs.Common.{◌∙◌, refl}
use Rattle.lw_label.proofs.OneVisit.{numbers_zero}
use Rattle.lw_label.proofs.labelling.LabelRounds.label_places.Goals as goal

pub loop-number-init : goal.loop-number-init
loop-number-init g c =
    let own = c.args.self.now in
    record {
      order = refl;
      first = record {
        round = c.requires.rounds;
        numbers = numbers_zero c.args.task.now.graph.now own.labelling.bounds own.labelling.marks.items own.visits.still c.requires.rounds.falling.search.sought.fits.rows c.requires.zero;
      };
    }

pub label_place-requires-clause-first : goal.label_place-requires-clause-first
label_place-requires-clause-first g c = c.loop-number.invariant.first

pub loop-number-preserved : goal.loop-number-preserved
loop-number-preserved g c = record {
  order = c.label_place.ensures.order ∙ c.loop-number.invariant.order;
  first = c.label_place.ensures.first;
}

pub returns : goal.returns
returns g c = c.loop-number.invariant.first.round
