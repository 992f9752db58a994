use Rattle.std.proofs.Common.{◌≡◌, ◌≤◌, All, List, Some, map, string_bytes}
use Rattle.lw_io.specs.declared.file.File.{File}
use Rattle.lw_io.specs.Files.{bytes_of}
use Rattle.lw_net.specs.Networks.{input_names}
use Rattle.lw_area.specs.Sources.{IsFurtherTo}
use Rattle.lw_area.proofs.Further.{AreRead}
use Rattle.lw_area.proofs.sources.read_all.Given as goal

abbrev pub invariant-files : goal.invariant-files
invariant-files g l = record {
  files : g.F.Shelf.files l.shelf ≡ g.F.Shelf.files l.fn.shelf;
  later : g.F.Shelf.faults l.fn.shelf ≤ g.F.Shelf.faults l.shelf;
  fit : All (IsFurtherTo l.network.inputs) l.further.items;
  read : (files : List File) → g.F.Shelf.files l.fn.shelf ≡ Some files → AreRead (input_names l.network) (map string_bytes l.names) l.place l.further.items (bytes_of files);
}
