-- Flags of the declared ports that a header lists.
use Rattle.std.specs.Prelude.{ℕ, ◌≡◌, ◌&&◌, Bool, true, List, [], drop, is_none}
use Rattle.std.specs.List.{list_all}
use Rattle.lw_named_netlist.specs.Closing.{is_among, twice_after}

-- It is told whether the names behind the first of the header differ and are all declared. If so, the flags are raised
-- of those that are declared and stand there.
pub record RaisesPorts (header declared : List (List ℕ)) (seen : List Bool) (good : Bool) : Type 0 where
  pub known : good ≡ (is_none (twice_after [] (drop 1 header)) && list_all (is_among declared) (drop 1 header))
  pub every : good ≡ true → list_all (λ flag. flag) seen ≡ list_all (is_among (drop 1 header)) declared
