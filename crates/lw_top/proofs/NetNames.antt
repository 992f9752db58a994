-- The names of the nets of a mapped netlist are names of the format where those of the inputs and of the outputs are.
use Rattle.std.proofs.Common.{ℕ, ◌+◌, ◌^◌, ◌<◌, if◌then◌else◌, List, [], ◌++◌, length, All}
use Rattle.std.specs.List.{AllByRecursion as Each}
use Rattle.std.proofs.lemmas.List.Elements.{All-from_recursion}
use Rattle.lw_laws.specs.Names.{net_names}
use Rattle.lw_naming.proofs.GivenNames.{nets_each}
use Rattle.lw_words.specs.Words.{IsSignalName}
use Rattle.lw_lut_text.proofs.GivenNames.{numbered_one}

pub nets-named : (inputs outputs : List (List ℕ)) (roots gates : List ℕ) → 1 + (length gates + length (inputs ++ outputs)) < 2 ^ 64 → Each IsSignalName inputs → Each IsSignalName outputs → All IsSignalName (net_names inputs outputs roots gates)
nets-named inputs outputs roots gates room ins outs = All-from_recursion IsSignalName (net_names inputs outputs roots gates) (nets_each IsSignalName numbered_one inputs outputs roots gates room ins outs)
