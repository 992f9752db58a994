use Rattle.std.proofs.Common.{◌+◌, ◌<◌, ◌∙◌, length, refl, sym, ap, subst, arith}
use Rattle.std.specs.List.{slice_range}
use Rattle.std.proofs.lemmas.Option.{slice_get_read}
use Rattle.lw_facts.proofs.Lists.{all_at}
use Rattle.lw_settle.specs.declared.store.Row.{Row}
use Rattle.lw_settle.specs.declared.store.Found.{Found}
use Rattle.lw_settle.specs.Kept.{cell_numbers}
use Rattle.lw_settle.specs.Stores.{StoreState, placed, IsFound}
use Rattle.lw_settle.proofs.Reading.{count, within, part_length, cell_is, found_at}
use Rattle.lw_settle.proofs.store.Store.read.Goals as goal

pub pins_of-requires : goal.pins_of-requires
pins_of-requires c =
    let s = c.self.inside in
    let kept = c.self.invariant in
    let row = c.index-row.result.now in
    let place : c.args.place < length s.rows.items = subst (λ n. c.args.place < n) (count (length s.ends.items) s.rows.items s.pins.items (cell_numbers s.cells.items) s.ends.items s.uses.items kept) (subst (λ (v : StoreState). c.args.place < length (placed v.lists)) (sym c.self.view_is) c.requires.place) in
    let at = slice_get_read s.rows.items (length s.rows.items) c.args.place row refl place c.index-row.ensures in
    let w = within (length s.ends.items) s.rows.items s.pins.items (cell_numbers s.cells.items) s.ends.items s.uses.items kept c.args.place row at in
    omega (arith, w.to, ap length c.deref.ensures.value)

pub pins_at-requires : goal.pins_at-requires
pins_at-requires c =
    let s = c.self.inside in
    let kept = c.self.invariant in
    let row = c.index-row.result.now in
    let place : c.args.place < length s.rows.items = subst (λ n. c.args.place < n) (count (length s.ends.items) s.rows.items s.pins.items (cell_numbers s.cells.items) s.ends.items s.uses.items kept) (subst (λ (v : StoreState). c.args.place < length (placed v.lists)) (sym c.self.view_is) c.requires.place) in
    let at = slice_get_read s.rows.items (length s.rows.items) c.args.place row refl place c.index-row.ensures in
    let w = within (length s.ends.items) s.rows.items s.pins.items (cell_numbers s.cells.items) s.ends.items s.uses.items kept c.args.place row at in
    let pins = c.pins_of.ensures ∙ ap (λ ps. slice_range ps row.start (row.start + row.pins)) c.deref.ensures.value in
    omega (arith, w.few, ap length pins, part_length s.pins.items row w.to)

pub returns-clause-found : goal.returns-clause-found
returns-clause-found c =
    let s = c.self.inside in
    let kept = c.self.invariant in
    let row = c.index-row.result.now in
    let place : c.args.place < length s.rows.items = subst (λ n. c.args.place < n) (count (length s.ends.items) s.rows.items s.pins.items (cell_numbers s.cells.items) s.ends.items s.uses.items kept) (subst (λ (v : StoreState). c.args.place < length (placed v.lists)) (sym c.self.view_is) c.requires.place) in
    let at = slice_get_read s.rows.items (length s.rows.items) c.args.place row refl place c.index-row.ensures in
    let pins = c.pins_at.ensures ∙ (c.pins_of.ensures ∙ ap (λ ps. slice_range ps row.start (row.start + row.pins)) c.deref.ensures.value) in
    let cell = cell_is s.cells.items row.pat.0 c.index.result.now (all_at (λ (r : Row). r.pat.0 < length (cell_numbers s.cells.items)) s.rows.items c.args.place row kept.patterns at) c.index.ensures in
    let found : Found = record { class = row.class; cell = c.index.result.now; pins = c.pins_at.result } in
    subst (λ (v : StoreState). IsFound v.lists c.args.place found) c.self.view_is (found_at (length s.ends.items) s.rows.items s.pins.items (cell_numbers s.cells.items) s.ends.items s.uses.items kept c.args.place row found at refl cell pins)
