use Rattle.std.proofs.Common.{refl, sym, subst}
use Rattle.lw_label.specs.OneVisit.{AreRowsAround, AreSetAt}
use Rattle.lw_label.proofs.labelling.Labelling.set_pair.Goals as goal

pub set_pair-requires-clause-around : goal.set_pair-requires-clause-around
set_pair-requires-clause-around c =
    subst (λ ms. AreRowsAround c.args.graph.now c.args.self.now.bounds ms c.args.place) (sym c.deref.ensures.value) c.requires.around

pub returns : goal.returns
returns c = record {
  set = subst (λ ms. AreSetAt c.args.graph.now ms c.args.place c.args.self.now.bounds c.set_pair.new.bounds) c.deref.ensures.value c.set_pair.ensures;
  marks = refl;
  tops = refl;
}
