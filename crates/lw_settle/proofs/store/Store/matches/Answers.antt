use Rattle.std.proofs.Common.{length, subst}
use Rattle.lw_settle.specs.Kept.{cell_numbers}
use Rattle.lw_settle.specs.Stores.{AreKeptLists, StoreState}
use Rattle.lw_settle.proofs.Reading.{kept_lists}
use Rattle.lw_settle.proofs.store.Store.matches.Goals as goal

pub returns-clause-kept : goal.returns-clause-kept
returns-clause-kept c =
    let s = c.self.inside in
    let kept = c.self.invariant in
    subst (λ (v : StoreState). AreKeptLists v.lists) c.self.view_is (kept_lists (length s.ends.items) s.rows.items s.pins.items (cell_numbers s.cells.items) s.ends.items s.uses.items kept)
