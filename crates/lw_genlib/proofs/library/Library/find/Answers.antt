use Rattle.std.proofs.Common.{◌≡◌, ◌≤◌, ◌<◌, List, Some, length, sym, subst, slice_get, rules}
use Rattle.std.specs.Prelude.{Contains}
use Rattle.lw_genlib.specs.Cells.{CellParts, names_of}
use Rattle.lw_genlib.proofs.Names.{few_cells, found_at, found_nowhere, key_count}
use Rattle.lw_genlib.proofs.library.Library.find.Goals as goal

pub overflow_cast-result : goal.overflow_cast-result
overflow_cast-result c =
    let few : length c.self.inside.cells.items ≤ 4096 = few_cells _ c.self.invariant.kept in
    let keys : length c.self.inside.names.keys ≡ length c.self.inside.cells.items = key_count _ _ c.self.invariant.names in
    let within : c.in-Some.place < length c.self.inside.names.keys = c.in-Some.ensures.within in
    search rules

pub returns-in-Some-clause-found : goal.returns-in-Some-clause-found
returns-in-Some-clause-found c =
    subst (λ (cells : List CellParts). slice_get (names_of cells) c.in-Some.place ≡ Some c.args.name.now) c.self.view_is
    (found_at c.args.name.now c.self.inside.names.keys _ c.in-Some.place c.self.invariant.names (sym c.in-Some.ensures.index)).1

pub returns-in-None-clause-none : goal.returns-in-None-clause-none
returns-in-None-clause-none c there =
    found_nowhere c.args.name.now c.self.inside.names.keys _ c.self.invariant.names (sym c.in-None.ensures.found)
    (subst (λ (cells : List CellParts). Contains (names_of cells) c.args.name.now) (sym c.self.view_is) there)
