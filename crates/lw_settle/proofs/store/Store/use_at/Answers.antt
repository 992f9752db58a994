use Rattle.std.proofs.Common.{◌+◌, ◌≡◌, ◌<◌, length, get_or, Some, slice_get, sym, ap, ◌∙◌, subst, arith}
use Rattle.lw_settle.specs.Kept.{cell_numbers, grouped, placed_rows, start_at}
use Rattle.lw_settle.specs.Stores.{StoreState, uses_of}
use Rattle.lw_settle.proofs.Reading.{list_count, use_within, use_is, few_uses}
use Rattle.lw_settle.proofs.store.Store.use_at.Goals as goal

pub start_of-start-requires : goal.start_of-start-requires
start_of-start-requires c =
    let s = c.self.inside in
    let kept = c.self.invariant in
    let class : c.args.class.0 < length s.ends.items = subst (λ n. c.args.class.0 < n) (list_count (length s.ends.items) s.rows.items s.pins.items (cell_numbers s.cells.items) s.ends.items s.uses.items kept) (subst (λ (v : StoreState). c.args.class.0 < length v.lists) (sym c.self.view_is) c.requires.class) in
    omega (arith, s.ends.ok, c.deref.ensures.len, ap length c.deref.ensures.value)

pub overflow_add-start : goal.overflow_add-start
overflow_add-start c =
    let s = c.self.inside in
    let kept = c.self.invariant in
    let class : c.args.class.0 < length s.ends.items = subst (λ n. c.args.class.0 < n) (list_count (length s.ends.items) s.rows.items s.pins.items (cell_numbers s.cells.items) s.ends.items s.uses.items kept) (subst (λ (v : StoreState). c.args.class.0 < length v.lists) (sym c.self.view_is) c.requires.class) in
    let there : c.args.n < length (uses_of (grouped (length s.ends.items) (placed_rows s.pins.items (cell_numbers s.cells.items) s.rows.items)) c.args.class.0) = subst (λ (v : StoreState). c.args.n < length (uses_of v.lists c.args.class.0)) (sym c.self.view_is) c.requires.within in
    let start : c.start_of-start.result ≡ start_at s.ends.items c.args.class.0 = c.start_of-start.ensures ∙ ap (λ xs. start_at xs c.args.class.0) c.deref.ensures.value in
    omega (arith, few_uses (length s.ends.items) s.rows.items s.pins.items (cell_numbers s.cells.items) s.ends.items s.uses.items kept, use_within (length s.ends.items) s.rows.items s.pins.items (cell_numbers s.cells.items) s.ends.items s.uses.items kept c.args.class.0 c.args.n class there)

pub index-requires : goal.index-requires
index-requires c =
    let s = c.self.inside in
    let kept = c.self.invariant in
    let class : c.args.class.0 < length s.ends.items = subst (λ n. c.args.class.0 < n) (list_count (length s.ends.items) s.rows.items s.pins.items (cell_numbers s.cells.items) s.ends.items s.uses.items kept) (subst (λ (v : StoreState). c.args.class.0 < length v.lists) (sym c.self.view_is) c.requires.class) in
    let there : c.args.n < length (uses_of (grouped (length s.ends.items) (placed_rows s.pins.items (cell_numbers s.cells.items) s.rows.items)) c.args.class.0) = subst (λ (v : StoreState). c.args.n < length (uses_of v.lists c.args.class.0)) (sym c.self.view_is) c.requires.within in
    let start : c.start_of-start.result ≡ start_at s.ends.items c.args.class.0 = c.start_of-start.ensures ∙ ap (λ xs. start_at xs c.args.class.0) c.deref.ensures.value in
    omega (arith, s.uses.ok, use_within (length s.ends.items) s.rows.items s.pins.items (cell_numbers s.cells.items) s.ends.items s.uses.items kept c.args.class.0 c.args.n class there)

pub returns-clause-number : goal.returns-clause-number
returns-clause-number c =
    let s = c.self.inside in
    let kept = c.self.invariant in
    let class : c.args.class.0 < length s.ends.items = subst (λ n. c.args.class.0 < n) (list_count (length s.ends.items) s.rows.items s.pins.items (cell_numbers s.cells.items) s.ends.items s.uses.items kept) (subst (λ (v : StoreState). c.args.class.0 < length v.lists) (sym c.self.view_is) c.requires.class) in
    let there : c.args.n < length (uses_of (grouped (length s.ends.items) (placed_rows s.pins.items (cell_numbers s.cells.items) s.rows.items)) c.args.class.0) = subst (λ (v : StoreState). c.args.n < length (uses_of v.lists c.args.class.0)) (sym c.self.view_is) c.requires.within in
    let start : c.start_of-start.result ≡ start_at s.ends.items c.args.class.0 = c.start_of-start.ensures ∙ ap (λ xs. start_at xs c.args.class.0) c.deref.ensures.value in
    let read : c.index.result.now ≡ get_or s.uses.items (start_at s.ends.items c.args.class.0 + c.args.n) c.index.result.now = c.index.ensures ∙ ap (λ k. get_or s.uses.items (k + c.args.n) c.index.result.now) start in
    subst (λ (v : StoreState). slice_get (uses_of v.lists c.args.class.0) c.args.n ≡ Some c.index.result.now) c.self.view_is (use_is (length s.ends.items) s.rows.items s.pins.items (cell_numbers s.cells.items) s.ends.items s.uses.items kept c.args.class.0 c.args.n c.index.result.now class there read)
