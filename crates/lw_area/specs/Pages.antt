-- The pages that a run may be asked for.
use Rattle.std.specs.Prelude.{ℕ, List, codes}

abbrev pub version_text : List ℕ
version_text = codes "lwarea 0.3.0\n"

abbrev pub usage_text : List ℕ
usage_text = codes "usage: lwarea [-w K] [-i] [-n] [-c] [-s] [-e E] [-t T] LIB IN [MORE ..]\n       lwarea -k [-w K] [-i] [-n] LIB IN [MORE ..] MAPPED\nMaps the network IN (BLIF) to cells of LIB (genlib): each output by its deadline,\nwith as little area as is found. The netlist goes to standard output as mapped BLIF.\nMORE are networks over inputs of IN, by name, such as IN restructured: nets of equal\nvalue are found and proved equal, and the netlist may take its parts from any of them.\n  -t T   by when outputs arrive, and never before their own least times:\n         max (the greatest least time; the default), each (each its own),\n         N% (that part of the greatest, 100 to 999), or a time\n  -e E   how much is tried: 0 as lwmap map, 1 passes, 2 curves and rounds\n         (the default), 3 passes by chance, too\n  -w K   the most operands of an AND in a decomposition, 2 to 8; 6 if left out\n  -i     two rules of idempotence more\n  -n     no nets are found equal: the decompositions are those of lwmap\n  -c     with the netlist's certificate, for lwarea -k; wants -t each\n  -s     says on standard error how many pairs of nets were found, proved and left\n  -k     checks a netlist with its certificate: the same files, then MAPPED\nlwarea -h writes this, lwarea -v the version.\n"
