use Rattle.std.proofs.Common.{◌<◌, length, sym, subst, refl}
use Rattle.std.proofs.lemmas.Option.{slice_get_read}
use Rattle.lw_settle.specs.Kept.{cell_numbers}
use Rattle.lw_settle.specs.Stores.{IsHeadOf, StoreState, placed}
use Rattle.lw_settle.proofs.Reading.{count, head_of}
use Rattle.lw_settle.proofs.store.Store.head.Goals as goal

pub returns : goal.returns
returns c =
    let s = c.self.inside in
    let kept = c.self.invariant in
    let row = c.index-row.result.now in
    let place : c.args.place < length s.rows.items = subst (λ n. c.args.place < n) (count (length s.ends.items) s.rows.items s.pins.items (cell_numbers s.cells.items) s.ends.items s.uses.items kept) (subst (λ (v : StoreState). c.args.place < length (placed v.lists)) (sym c.self.view_is) c.requires) in
    let at = slice_get_read s.rows.items (length s.rows.items) c.args.place row refl place c.index-row.ensures in
    subst (λ (v : StoreState). IsHeadOf v.lists c.args.place row.class.0 row.pins) c.self.view_is (head_of (length s.ends.items) s.rows.items s.pins.items (cell_numbers s.cells.items) s.ends.items s.uses.items kept c.args.place row at)
