use Rattle.std.proofs.Common.{◌≡◌, ℕ, ◌+◌, ◌-◌, length, sym, subst, arith}
use Rattle.lw_choices.specs.Tasks.{task}
use Rattle.lw_choices.specs.Rows.{AreListedFrom, IsListing}
use Rattle.lw_choices.proofs.Growing.{none_are_listed}
use Rattle.lw_choices.proofs.choices.list_sought.Goals as goal

pub loop-class-init : goal.loop-class-init
loop-class-init c = record {
  low = omega (arith, c.classes-class.ensures.classes);
  way = c.in_ok-to.ensures.way;
  listing = λ starts of_cells.
      let s = task c.args.graph.now c.args.pats.now c.args.lib.now starts in
      let inputs = length c.args.graph.now.leaves in
      subst (λ k. IsListing s inputs k c.in_ok-to.to.rows) (sym c.classes-class.ensures.classes) (subst (λ rows. IsListing s inputs (length c.args.graph.now.pairs) rows) (sym c.in_ok-to.ensures.none) (none_are_listed s));
}

pub list_class-requires-clause-class : goal.list_class-requires-clause-class
list_class-requires-clause-class c = omega (arith, c.loop-class.invariant.low, c.loop-class-test.true)

pub list_class-requires-clause-count : goal.list_class-requires-clause-count
list_class-requires-clause-count c = c.loop-class.invariant.way.count

pub loop-class-preserved : goal.loop-class-preserved
loop-class-preserved c =
    let class = c.loop-class.class - 1 in
    let one : ◌≡◌ {A = ℕ} c.loop-class.class (class + 1) = omega (arith, c.loop-class-test.true) in
    let here = subst (λ k. AreListedFrom c.args.graph.now c.args.pats.now c.args.lib.now k c.loop-class.to.rows) one c.loop-class.invariant.listing in
    record {
      low = omega (arith, c.loop-class.invariant.low);
      way = c.in_ok-list_class.ensures.way c.args.lib.now c.loop-class.invariant.way;
      listing = c.in_ok-list_class.ensures.listed c.args.lib.now c.loop-class.invariant.way here;
    }

pub returns : goal.returns
returns c =
    let over : ◌≡◌ {A = ℕ} c.loop-class.class 0 = omega (arith, c.loop-class-test.false) in
    subst (λ k. AreListedFrom c.args.graph.now c.args.pats.now c.args.lib.now k c.loop-class.to.rows) over c.loop-class.invariant.listing
