use Rattle.std.proofs.Common.{◌≡◌, length, subst, arith}
use Rattle.lw_settle.specs.Kept.{cell_numbers}
use Rattle.lw_settle.specs.Stores.{StoreState, pin_total, placed}
use Rattle.lw_settle.proofs.Reading.{pins_are}
use Rattle.lw_settle.proofs.store.Store.pins.Goals as goal

pub returns : goal.returns
returns c =
    let s = c.self.inside in
    let kept = c.self.invariant in
    let all = pins_are (length s.ends.items) s.rows.items s.pins.items (cell_numbers s.cells.items) s.ends.items s.uses.items kept in
    subst (λ (v : StoreState). c.len.result ≡ pin_total (placed v.lists)) c.self.view_is (omega (arith, all, c.len.ensures, s.pins.ok))
