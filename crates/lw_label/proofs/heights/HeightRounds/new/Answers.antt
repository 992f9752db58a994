use Rattle.std.proofs.Common.{◌∙◌, IfSome, sym, subst}
use Rattle.lw_match.specs.Cutting.{AreKnown}
use Rattle.lw_label.specs.Heights.{AreStill}
use Rattle.lw_label.specs.HeightTables.{HasHeightsOf, IsHeightTable}
use Rattle.lw_label.proofs.HeightTables.{new_has, table_started, with_has}
use Rattle.lw_label.proofs.Still.{still_none}
use Rattle.lw_label.proofs.heights.HeightRounds.new.Goals as goal

pub start-requires : goal.start-requires
start-requires g c =
    let graph = c.args.given.now.task.now.graph.now in
    record {
      none = c.requires.none;
      one_each = c.requires.given.lowering.one_each;
      table = new_has graph c.args.given.now.task.now.pats.now c.args.marks.items c.args.table c.requires.none c.requires.table;
    }

pub returns : goal.returns
returns g c =
    let given = c.args.given.now in
    let graph = given.task.now.graph.now in
    let pats = given.task.now.pats.now in
    let costs = g.C.Cost.costs given.task.now.cost.now in
    let labels = given.labels.now in
    let marks = c.start.new.self.marks.items in
    let still = c.restart.new.self.still in
    let heights = c.start.ensures.heights costs pats c.requires.given.lowering in
    record {
      places = c.restart.ensures.places ∙ c.requires.places;
      falling = record {
        search = record {
          given = c.requires.given;
          known = subst (λ t. AreKnown costs pats given.bounds.now.gaps t) (sym c.start.ensures.tops) c.requires.known;
          heights = heights;
        };
        kept = subst (λ now. AreStill graph costs pats labels marks now) (sym c.restart.ensures.still) (still_none graph costs pats labels marks c.args.visits.places);
        heights = subst (λ t. IfSome t (HasHeightsOf marks)) (sym c.start.ensures.table) (with_has marks c.args.table);
        numbers = subst (λ t. IfSome t (IsHeightTable graph pats still)) (sym c.start.ensures.table) (table_started graph pats marks still c.args.table heights.one_each c.requires.table);
      };
    }
