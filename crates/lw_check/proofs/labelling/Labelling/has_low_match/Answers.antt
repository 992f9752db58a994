use Rattle.std.proofs.Common.{refl, sym, true≢false}
use Rattle.std.proofs.lemmas.Bool.{iff_false}
use Rattle.lw_laws.specs.Rounds.{labels_in}
use Rattle.lw_cost.specs.Coming.{still_to_come}
use Rattle.lw_cost.specs.Values.{plain_match}
use Rattle.lw_check.proofs.Failures.{by_pattern, low_of}
use Rattle.lw_check.proofs.Looking.{looking_first, looking_here, looking_more, looking_over, low_on, not_low_on}
use Rattle.lw_check.proofs.labelling.Labelling.has_low_match.Goals as goal

pub loop-found-init : goal.loop-found-init
loop-found-init g c = record {
  fits = c.new-cursor.ensures.fits c.args.self.now.graph.now c.requires.class;
  looking = looking_first c.args.self.now.graph.now (g.C.Cost.costs c.args.self.now.by.cost.now) c.args.self.now.by.pats.now (labels_in c.args.self.now.labels.now) c.args.class.0 (still_to_come c.new-cursor.result c.args.self.now.graph.now c.args.self.now.by.pats.now) (c.new-cursor.ensures.coming c.args.self.now.graph.now c.args.self.now.by.pats.now c.classes.ensures.kept c.requires.class);
}

pub is_low-requires : goal.is_low-requires
is_low-requires g c =
    let graph = c.args.self.now.graph.now in
    let cost = g.C.Cost.costs c.args.self.now.by.cost.now in
    let pats = c.args.self.now.by.pats.now in
    by_pattern graph cost pats (labels_in c.args.self.now.labels.now) c.args.class.0 (plain_match c.in-Some.found) c.requires.of_cells
    (looking_here graph cost pats (labels_in c.args.self.now.labels.now) c.args.class.0 (still_to_come c.loop-found.cursor graph pats) (still_to_come c.next.new.self graph pats) (plain_match c.in-Some.found) c.in-Some.ensures.first c.loop-found.invariant.looking)

pub returns-then-is_low : goal.returns-then-is_low
returns-then-is_low g c =
    let graph = c.args.self.now.graph.now in
    let cost = g.C.Cost.costs c.args.self.now.by.cost.now in
    let pats = c.args.self.now.by.pats.now in
    let labels = labels_in c.args.self.now.labels.now in
    let found = plain_match c.in-Some.found in (
      λ t. low_of graph cost pats labels c.args.class.0 found c.requires.of_cells
          (looking_here graph cost pats labels c.args.class.0 (still_to_come c.loop-found.cursor graph pats) (still_to_come c.next.new.self graph pats) found c.in-Some.ensures.first c.loop-found.invariant.looking)
          (low_on cost pats labels found c.label_at-label.result (labels c.args.class.0) c.label_at-label.ensures (c.if-is_low.ensures.0 t)),
      λ low. refl,
    )

pub loop-found-preserved : goal.loop-found-preserved
loop-found-preserved g c =
    let graph = c.args.self.now.graph.now in
    let cost = g.C.Cost.costs c.args.self.now.by.cost.now in
    let pats = c.args.self.now.by.pats.now in
    let labels = labels_in c.args.self.now.labels.now in
    let found = plain_match c.in-Some.found in
    record {
      fits = c.in-Some.ensures.fits;
      looking = looking_more graph cost pats labels c.args.class.0 (still_to_come c.loop-found.cursor graph pats) (still_to_come c.next.new.self graph pats) found c.in-Some.ensures.first (not_low_on cost pats labels found c.label_at-label.result (labels c.args.class.0) c.label_at-label.ensures (iff_false c.if-is_low.ensures refl)) c.loop-found.invariant.looking;
    }

pub returns : goal.returns
returns g c = (
  λ t. absurd (true≢false (sym t)),
  λ low. absurd (looking_over c.args.self.now.graph.now (g.C.Cost.costs c.args.self.now.by.cost.now) c.args.self.now.by.pats.now (labels_in c.args.self.now.labels.now) c.args.class.0 (still_to_come c.loop-found.cursor c.args.self.now.graph.now c.args.self.now.by.pats.now) c.in_default.ensures.first c.requires.of_cells c.loop-found.invariant.looking low),
)
