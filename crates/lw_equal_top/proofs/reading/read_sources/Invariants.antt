use Rattle.std.proofs.Common.{◌≡◌, ◌≤◌, List, Some, length, map, string_bytes, take, All}
use Rattle.lw_io.specs.declared.file.File.{File}
use Rattle.lw_io.specs.Files.{bytes_of}
use Rattle.lw_equal_top.specs.Sources.{AreRead, IsSource}
use Rattle.lw_equal_top.proofs.reading.read_sources.Given as goal

abbrev pub invariant-names : goal.invariant-names
invariant-names g l = record {
  files : g.F.Shelf.files l.shelf ≡ g.F.Shelf.files l.fn.shelf;
  later : g.F.Shelf.faults l.fn.shelf ≤ g.F.Shelf.faults l.shelf;
  are : (files : List File) → g.F.Shelf.files l.fn.shelf ≡ Some files → AreRead l.known l.library (take l.place (map string_bytes l.names)) (bytes_of files) l.sources.items;
  count : length l.sources.items ≡ l.place;
  all : All (IsSource l.library) l.sources.items;
}
