use Rattle.std.proofs.Common.{◌+◌, ◌≡◌, ◌<◌, List, length, Some, refl, sym, ap, ◌∙◌, subst, subst₂, arith}
use Rattle.std.specs.List.{slice_range, All, AllByRecursion}
use Rattle.std.proofs.lemmas.Option.{slice_get_read}
use Rattle.lw_facts.proofs.Lists.{all_at}
use Rattle.lw_pool.specs.declared.id.ClassId.{ClassId}
use Rattle.lw_laws.specs.Covers.{HasPins}
use Rattle.lw_laws.specs.Marks.{Mark, HaveMarks, price}
use Rattle.lw_cost.specs.Values.{marks_in, plain_mark}
use Rattle.lw_settle.specs.declared.store.Row.{Row}
use Rattle.lw_settle.specs.Kept.{cell_numbers}
use Rattle.lw_settle.specs.Stores.{StoreState, placed, HasMarkedPins, AreOfStoredCells, IsPriceOf}
use Rattle.lw_settle.proofs.Reading.{count, list_count, within, row_classes, part_length, cell_is, cell_pins, marked_row, priced}
use Rattle.lw_settle.proofs.store.Store.price.Goals as goal
use Rattle.lw_pool.specs.Numbers.{numbers}

pub pins_of-requires : goal.pins_of-requires
pins_of-requires g c =
    let s = c.self.inside in
    let kept = c.self.invariant in
    let row = c.index-row.result.now in
    let place : c.args.place < length s.rows.items = subst (λ n. c.args.place < n) (count (length s.ends.items) s.rows.items s.pins.items (cell_numbers s.cells.items) s.ends.items s.uses.items kept) (subst (λ (v : StoreState). c.args.place < length (placed v.lists)) (sym c.self.view_is) c.requires.listed) in
    let at = slice_get_read s.rows.items (length s.rows.items) c.args.place row refl place c.index-row.ensures in
    let w = within (length s.ends.items) s.rows.items s.pins.items (cell_numbers s.cells.items) s.ends.items s.uses.items kept c.args.place row at in
    omega (arith, w.to, ap length c.deref.ensures.value)

pub mark_of-requires-clause-pins : goal.mark_of-requires-clause-pins
mark_of-requires-clause-pins g c =
    let s = c.self.inside in
    let kept = c.self.invariant in
    let row = c.index-row.result.now in
    let place : c.args.place < length s.rows.items = subst (λ n. c.args.place < n) (count (length s.ends.items) s.rows.items s.pins.items (cell_numbers s.cells.items) s.ends.items s.uses.items kept) (subst (λ (v : StoreState). c.args.place < length (placed v.lists)) (sym c.self.view_is) c.requires.listed) in
    let at = slice_get_read s.rows.items (length s.rows.items) c.args.place row refl place c.index-row.ensures in
    let w = within (length s.ends.items) s.rows.items s.pins.items (cell_numbers s.cells.items) s.ends.items s.uses.items kept c.args.place row at in
    let pins = c.pins_of.ensures ∙ ap (λ ps. slice_range ps row.start (row.start + row.pins)) c.deref.ensures.value in
    let lists = ap (λ (v : StoreState). length v.lists) c.self.view_is in
    let all : length s.ends.items ≡ length c.args.marks.now = omega (arith, list_count (length s.ends.items) s.rows.items s.pins.items (cell_numbers s.cells.items) s.ends.items s.uses.items kept, c.requires.one_each) in
    let marks = marks_in c.args.marks.now in
    let marked = subst (λ (v : StoreState). HasMarkedPins v.lists marks c.args.place) (sym c.self.view_is) c.requires.pins_marked in
    record {
      few = omega (arith, w.few, ap length pins, part_length s.pins.items row w.to);
      within = subst₂ (λ n (ps : List ClassId). All (λ (k : ClassId). k.0 < n) ps) all (sym pins) (row_classes (length s.ends.items) s.rows.items s.pins.items (cell_numbers s.cells.items) s.ends.items s.uses.items kept row);
      marked = subst (λ (ps : List ClassId). AllByRecursion (λ p. (k : Mark) × (marks p ≡ Some k)) (numbers ps)) (sym pins) (marked_row (length s.ends.items) s.rows.items s.pins.items (cell_numbers s.cells.items) s.ends.items s.uses.items kept marks c.args.place row marked at);
    }

pub mark_of-requires-clause-of_cell : goal.mark_of-requires-clause-of_cell
mark_of-requires-clause-of_cell g c =
    let s = c.self.inside in
    let kept = c.self.invariant in
    let row = c.index-row.result.now in
    let place : c.args.place < length s.rows.items = subst (λ n. c.args.place < n) (count (length s.ends.items) s.rows.items s.pins.items (cell_numbers s.cells.items) s.ends.items s.uses.items kept) (subst (λ (v : StoreState). c.args.place < length (placed v.lists)) (sym c.self.view_is) c.requires.listed) in
    let at = slice_get_read s.rows.items (length s.rows.items) c.args.place row refl place c.index-row.ensures in
    let w = within (length s.ends.items) s.rows.items s.pins.items (cell_numbers s.cells.items) s.ends.items s.uses.items kept c.args.place row at in
    let pins = c.pins_of.ensures ∙ ap (λ ps. slice_range ps row.start (row.start + row.pins)) c.deref.ensures.value in
    let cell = cell_is s.cells.items row.pat.0 c.index-cell.result.now (all_at (λ (r : Row). r.pat.0 < length (cell_numbers s.cells.items)) s.rows.items c.args.place row kept.patterns at) c.index-cell.ensures in
    let counts = (g.C.Cost.costs c.args.cost.now).pin_counts in
    let of = subst (λ (v : StoreState). AreOfStoredCells counts v.lists) (sym c.self.view_is) c.requires.of_cells in
    let long = ap length pins ∙ part_length s.pins.items row w.to in
    subst₂ (λ k n. HasPins counts k n) (sym cell) (sym long) (cell_pins (length s.ends.items) s.rows.items s.pins.items (cell_numbers s.cells.items) s.ends.items s.uses.items kept counts c.args.place row of at)

pub returns-clause-price : goal.returns-clause-price
returns-clause-price g c =
    let s = c.self.inside in
    let kept = c.self.invariant in
    let row = c.index-row.result.now in
    let place : c.args.place < length s.rows.items = subst (λ n. c.args.place < n) (count (length s.ends.items) s.rows.items s.pins.items (cell_numbers s.cells.items) s.ends.items s.uses.items kept) (subst (λ (v : StoreState). c.args.place < length (placed v.lists)) (sym c.self.view_is) c.requires.listed) in
    let at = slice_get_read s.rows.items (length s.rows.items) c.args.place row refl place c.index-row.ensures in
    let w = within (length s.ends.items) s.rows.items s.pins.items (cell_numbers s.cells.items) s.ends.items s.uses.items kept c.args.place row at in
    let pins = c.pins_of.ensures ∙ ap (λ ps. slice_range ps row.start (row.start + row.pins)) c.deref.ensures.value in
    let cell = cell_is s.cells.items row.pat.0 c.index-cell.result.now (all_at (λ (r : Row). r.pat.0 < length (cell_numbers s.cells.items)) s.rows.items c.args.place row kept.patterns at) c.index-cell.ensures in
    let marks = marks_in c.args.marks.now in
    let costs = g.C.Cost.costs c.args.cost.now in
    let (ks, have, is) = c.mark_of.ensures in
    let have_row = subst (λ (ps : List ClassId). HaveMarks marks (numbers ps) ks) pins have in
    let is_row = is ∙ ap (λ k. price costs k ks) cell in
    subst (λ (v : StoreState). IsPriceOf v.lists costs marks c.args.place (plain_mark c.mark_of.result)) c.self.view_is (priced (length s.ends.items) s.rows.items s.pins.items (cell_numbers s.cells.items) s.ends.items s.uses.items kept costs marks c.args.place row ks (plain_mark c.mark_of.result) at have_row is_row)
