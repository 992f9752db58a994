-- The names of nets and of outputs.
use Rattle.std.specs.Prelude.{ℕ, ◌≡◌, ◌^◌, List, ◌++◌, map}
use Rattle.std.specs.List.{list_any}
use Rattle.lw_netlist.specs.declared.gate.Port.{Port}
use Rattle.lw_verilog.specs.Chains.{AreKnown}
use Rattle.lw_verilog.specs.declared.known.Known.{Known}
use Rattle.lw_verilog.specs.declared.taken.AllNames.{AllNames}
use Rattle.lw_verilog.specs.declared.taken.Taken.{Taken}
use Rattle.lw_verilog.specs.Texts.{begins_u}
use Rattle.lw_verilog.specs.Windows.{AreTaken}
use Rattle.lw_netlist.specs.Plain.{port_name}

-- there are fewer nets
abbrev pub net_limit : ℕ
net_limit = 2 ^ 32

abbrev pub names_in : AllNames → List (List ℕ)
names_in all = all.names.now ++ map port_name all.outputs.now

-- each flag tells whether an output has the name of its net
abbrev pub Knows : Known → List (List ℕ) → List Port → Type 0
Knows known names outputs = AreKnown names (map port_name outputs) known.base known.flags

-- the flags are those of these names, and it is kept whether one of them begins as names of instances do
pub record Fits (all : AllNames) (taken : Taken) : Type 0 where
  pub are : AreTaken (names_in all) taken.base taken.flags
  pub begun : taken.begun ≡ list_any begins_u (names_in all)
