-- How many names there are.
use Rattle.std.proofs.Common.{ℕ, ◌+◌, ◌≡◌, List, ◌++◌, length, ap, ◌∙◌, length-append}
use Rattle.lw_laws.specs.Names.{free_names, gate_names, net_names}
use Rattle.lw_laws.proofs.MappedNames.{gate_names_each}

abbrev Name : Type 0
Name = List ℕ

-- a name for each input and each gate
pub name_count : (inputs outputs : List Name) (roots gates : List ℕ) → length (net_names inputs outputs roots gates) ≡ length inputs + length gates
name_count inputs outputs roots gates =
    let frees = free_names (inputs ++ outputs) (length gates) in
    length-append inputs (gate_names outputs roots frees gates) ∙ ap (λ n. length inputs + n) (gate_names_each outputs roots frees gates)
