use Rattle.std.proofs.Common.{◌-◌, ◌≡◌, ◌<◌, length, sym, ap, ◌∙◌, subst, arith}
use Rattle.std.proofs.lemmas.List.{get_or_read}
use Rattle.lw_settle.specs.Kept.{cell_numbers, start_at}
use Rattle.lw_settle.specs.Stores.{StoreState, uses_of}
use Rattle.lw_settle.proofs.Reading.{list_count, use_count}
use Rattle.lw_settle.proofs.store.Store.uses.Goals as goal

pub index-requires : goal.index-requires
index-requires c =
    let s = c.self.inside in
    let kept = c.self.invariant in
    let class : c.args.class.0 < length s.ends.items = subst (λ n. c.args.class.0 < n) (list_count (length s.ends.items) s.rows.items s.pins.items (cell_numbers s.cells.items) s.ends.items s.uses.items kept) (subst (λ (v : StoreState). c.args.class.0 < length v.lists) (sym c.self.view_is) c.requires) in
    omega (arith, s.ends.ok)

pub start_of-requires : goal.start_of-requires
start_of-requires c =
    let s = c.self.inside in
    let kept = c.self.invariant in
    let class : c.args.class.0 < length s.ends.items = subst (λ n. c.args.class.0 < n) (list_count (length s.ends.items) s.rows.items s.pins.items (cell_numbers s.cells.items) s.ends.items s.uses.items kept) (subst (λ (v : StoreState). c.args.class.0 < length v.lists) (sym c.self.view_is) c.requires) in
    omega (arith, s.ends.ok, c.deref.ensures.len, ap length c.deref.ensures.value)

pub overflow_sub-result : goal.overflow_sub-result
overflow_sub-result c =
    let s = c.self.inside in
    let kept = c.self.invariant in
    let class : c.args.class.0 < length s.ends.items = subst (λ n. c.args.class.0 < n) (list_count (length s.ends.items) s.rows.items s.pins.items (cell_numbers s.cells.items) s.ends.items s.uses.items kept) (subst (λ (v : StoreState). c.args.class.0 < length v.lists) (sym c.self.view_is) c.requires) in
    let start : c.start_of.result ≡ start_at s.ends.items c.args.class.0 = c.start_of.ensures ∙ ap (λ xs. start_at xs c.args.class.0) c.deref.ensures.value in
    let end = get_or_read s.ends.items c.args.class.0 c.index.result.now class c.index.ensures 0 in
    omega (arith, (kept.used c.args.class.0 class).rising)

pub returns : goal.returns
returns c =
    let s = c.self.inside in
    let kept = c.self.invariant in
    let class : c.args.class.0 < length s.ends.items = subst (λ n. c.args.class.0 < n) (list_count (length s.ends.items) s.rows.items s.pins.items (cell_numbers s.cells.items) s.ends.items s.uses.items kept) (subst (λ (v : StoreState). c.args.class.0 < length v.lists) (sym c.self.view_is) c.requires) in
    let start : c.start_of.result ≡ start_at s.ends.items c.args.class.0 = c.start_of.ensures ∙ ap (λ xs. start_at xs c.args.class.0) c.deref.ensures.value in
    let end = get_or_read s.ends.items c.args.class.0 c.index.result.now class c.index.ensures 0 in
    subst (λ (v : StoreState). c.index.result.now - c.start_of.result ≡ length (uses_of v.lists c.args.class.0)) c.self.view_is (omega (arith, use_count (length s.ends.items) s.rows.items s.pins.items (cell_numbers s.cells.items) s.ends.items s.uses.items kept c.args.class.0 class))
