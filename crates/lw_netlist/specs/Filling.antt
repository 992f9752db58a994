-- What a gate gives its net, by what its pins' nets have.
use Rattle.std.specs.Prelude.{ℕ, ◌*◌, Bool, List, map, slice_index_or}
use Rattle.lw_pool.specs.declared.id.NetId.{NetId}
use Rattle.lw_fixed.specs.declared.micro.Micro.{Micro}
use Rattle.lw_fixed.specs.Decimals.{one_unit, given_units}
use Rattle.lw_laws.specs.Covers.{latest, delays_of}
use Rattle.lw_genlib.specs.Cells.{CellParts}
use Rattle.lw_netlist.specs.declared.gate.Gate.{Gate}
use Rattle.lw_genlib.specs.Tables.{millionths, delays_of_cells, truth_of_cells}
use Rattle.lw_pool.specs.Numbers.{net_number, values_at}

-- the value of a gate's net
abbrev pub gate_value : List CellParts → List Bool → Gate → Bool
gate_value cells values gate = truth_of_cells cells gate.cell.0 (values_at values gate.pins)

-- when some nets arrive
abbrev pub arrivals_at : List Micro → List NetId → List ℕ
arrivals_at arrivals nets = map (λ net. slice_index_or (map millionths arrivals) net 0) (map net_number nets)

-- when a gate's net arrives
abbrev pub gate_arrival : List CellParts → List Micro → Gate → ℕ
gate_arrival cells arrivals gate =
    latest (delays_of (delays_of_cells cells) gate.cell.0) (arrivals_at arrivals gate.pins)

-- when the net with a number arrives
abbrev pub arrival_at : List Micro → ℕ → ℕ
arrival_at arrivals net = (slice_index_or arrivals net (record { 0 = 0 })).0

-- a million units, which each delay is below
abbrev pub one_step : ℕ
one_step = given_units * one_unit
