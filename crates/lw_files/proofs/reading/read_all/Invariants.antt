use Rattle.std.proofs.Common.{◌≡◌, ◌≤◌, ◌-◌, IsTrue, vec_len}
use Rattle.std.specs.Io.KnownBytes.{Consumes}
use Rattle.lw_files.proofs.reading.read_all.Given as goal

abbrev pub invariant-pieces : goal.invariant-pieces
invariant-pieces g l = record {
  is_open : IsTrue (g.F.Shelf.is_open l.shelf);
  files : g.F.Shelf.files l.shelf ≡ g.F.Shelf.files l.initial.shelf;
  later : g.F.Shelf.faults l.initial.shelf ≤ g.F.Shelf.faults l.shelf;
  read : Consumes (g.F.Shelf.left l.initial.shelf) (g.F.Shelf.left l.shelf) l.text.items;
}

abbrev pub decreases-pieces : goal.decreases-pieces
decreases-pieces g l = 67108865 - vec_len l.text
