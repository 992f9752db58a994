use Rattle.std.proofs.Common.{◌≡◌, ℕ, ◌+◌, ◌-◌, ◌∙◌, length, refl, sym, ap, subst, arith}
use Rattle.lw_pool.specs.Numbers.{numbers}
use Rattle.lw_settle.specs.Stores.{IsFound, placed, pins_of}
use Rattle.lw_choices.specs.Choices.{Choice}
use Rattle.lw_choices.specs.Choices.Part.{gate}
use Rattle.lw_choices.specs.Tasks.{task}
use Rattle.lw_choices.specs.Rows.{IsGateAdded}
use Rattle.lw_choices.proofs.Storing.{AreStoredFrom, stored_first, stored_next, stored_over}
use Rattle.lw_choices.proofs.choices.list_stored.Goals as goal

pub loop-place-init : goal.loop-place-init
loop-place-init c = record {
  lists = refl;
  done = omega (arith, c.requires, c.matches-place.ensures.matches);
  way = c.in_ok-to.ensures.way;
  listing = λ g pats starts store of_cells.
      let s = task g pats c.args.lib.now starts in
      let lists = c.args.store.now.lists in
      subst (λ rows. AreStoredFrom s (placed lists) c.matches-place.result rows) (sym c.in_ok-to.ensures.none) (stored_first s lists store of_cells c.matches-place.result c.matches-place.ensures.matches);
}

pub read-found-requires-clause-place : goal.read-found-requires-clause-place
read-found-requires-clause-place c =
    let same : ◌≡◌ {A = ℕ} (length (placed c.loop-place.store.lists)) (length (placed c.args.store.now.lists)) = ap (λ ls. length (placed ls)) c.loop-place.invariant.lists in
    omega (arith, same, c.loop-place.invariant.done, c.loop-place-test.true)

pub read-found-requires-clause-fresh : goal.read-found-requires-clause-fresh
read-found-requires-clause-fresh c =
    omega (arith, c.loop-place.invariant.done, c.matches-place.ensures.kept.few)

pub add_gate-requires-clause-count : goal.add_gate-requires-clause-count
add_gate-requires-clause-count c = c.loop-place.invariant.way.count

pub add_gate-requires-clause-few : goal.add_gate-requires-clause-few
add_gate-requires-clause-few c = c.as_slice.ensures.few

pub loop-place-preserved : goal.loop-place-preserved
loop-place-preserved c = record {
  lists = c.read-found.ensures.lists ∙ c.loop-place.invariant.lists;
  done = omega (arith, c.read-found.ensures.done, c.loop-place.invariant.done, c.loop-place-test.true);
  way = c.in_ok-add_gate.ensures.way c.args.lib.now c.loop-place.invariant.way;
  listing = λ g pats starts store of_cells.
      let s = task g pats c.args.lib.now starts in
      let lists = c.args.store.now.lists in
      let place = c.loop-place.place - 1 in
      let one : ◌≡◌ {A = ℕ} c.loop-place.place (place + 1) = omega (arith, c.loop-place-test.true) in
      let read = c.read-found.result in
      let found = subst (λ ls. IsFound ls place read) c.loop-place.invariant.lists c.read-found.ensures.found in
      let x : Choice = record { class = read.class.0; part = gate read.cell.0 (numbers read.pins) } in
      let same : x ≡ record { class = found.at.class; part = gate found.at.stored.cell (pins_of found.at) } = λ j. record { class = found.class_is j; part = gate (found.cell_is j) (found.pins_are j) } in
      let xs = c.loop-place.to.rows in
      let ys = c.add_gate.new.to.rows in
      let here = subst (λ k. AreStoredFrom s (placed lists) k xs) one (c.loop-place.invariant.listing g pats starts store of_cells) in
      let added = subst (λ ps. IsGateAdded c.args.lib.now xs ys (record { class = read.class.0; part = gate read.cell.0 (numbers ps) })) c.as_slice.ensures.classes (c.in_ok-add_gate.ensures.added c.args.lib.now c.loop-place.invariant.way) in
      stored_next s lists store of_cells place xs ys x found.at c.matches-place.ensures.kept found.listed same added here;
}

pub returns : goal.returns
returns c g pats store starts of_cells =
    let s = task g pats c.args.lib.now starts in
    let lists = c.args.store.now.lists in
    let xs = c.loop-place.to.rows in
    let over : ◌≡◌ {A = ℕ} c.loop-place.place 0 = omega (arith, c.loop-place-test.false) in
    stored_over s lists store of_cells xs (subst (λ k. AreStoredFrom s (placed lists) k xs) over (c.loop-place.invariant.listing g pats starts store of_cells))
