use Rattle.std.proofs.Common.{subst}
use Rattle.lw_genlib.specs.Cells.{IsListed}
use Rattle.lw_genlib.specs.Merging as merging
use Rattle.lw_genlib.specs.Entries as words
use Rattle.lw_genlib.proofs.Listed.{listed-cell}
use Rattle.lw_genlib.proofs.cells_so_far.new_cell.Goals as goal

pub returns-clause-listed : goal.returns-clause-listed
returns-clause-listed c =
    subst (λ (e : words.Entry). IsListed (merging.cell_of e)) c.entry.view_is
    (listed-cell (record { line = c.entry.inside.line; name = c.entry.inside.name; area = c.entry.inside.area; tokens = c.entry.inside.tokens.items; named = c.entry.inside.named.items; every = c.entry.inside.every })
    c.entry.inside.function.output c.entry.inside.function.pins c.entry.inside.function.form c.entry.invariant)
