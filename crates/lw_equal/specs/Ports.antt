-- Ports that only one of two networks has.
use Rattle.std.specs.Prelude.{ℕ, ◌+◌, not, List, [], ◌∷◌, map, take, find, Option, Some, None}
use Rattle.std.specs.List.{list_any}
use Rattle.std.specs.Str.{bytes_eq}
use Rattle.lw_frame.specs.Frames.{output_of}
use Rattle.lw_equal.specs.declared.answer.PortFault.{PortFault}
use Rattle.lw_equal.specs.declared.answer.PortKind.{PortKind}
use Rattle.lw_equal.specs.declared.answer.PortKind.TheVariants.{Input, Output, Latch}
use Rattle.lw_equal.specs.declared.side.Side.{Side}
use Rattle.lw_equal.specs.Sides.{inputs_of, root_names}

-- the names of the ports of a kind
abbrev pub names_of : PortKind → Side → List (List ℕ)
names_of Input side = take side.frame.now.inputs (inputs_of side.logic)
names_of Output side = take side.frame.now.outputs (root_names side.logic)
names_of Latch side = map output_of side.frame.now.latches

-- the first of some names that is not among others
abbrev pub first_lacking : List (List ℕ) → List (List ℕ) → Option (List ℕ)
first_lacking others names = find (λ name. not (list_any (bytes_eq name) others)) names

abbrev pub fault_of : PortKind → ℕ → ℕ → Option (List ℕ) → Option PortFault
fault_of kind has lacks None = None
fault_of kind has lacks (Some name) = Some (record { kind = kind; has = has; lacks = lacks; name = name })

abbrev pub first_of : Option PortFault → Option PortFault → Option PortFault
first_of None other = other
first_of (Some fault) other = Some fault

-- the first port of a kind that the one side has and the other lacks, or else the other way round
abbrev pub fault_between : PortKind → Side → Side → Option PortFault
fault_between kind one other =
    first_of (fault_of kind 1 2 (first_lacking (names_of kind other) (names_of kind one)))
    (fault_of kind 2 1 (first_lacking (names_of kind one) (names_of kind other)))

-- the first input of a network that may help, the latches' outputs among them, that is none of the first side
abbrev pub fault_from : Side → ℕ → List Side → Option PortFault
fault_from one number [] = None
fault_from one number (side ∷ more) =
    first_of (fault_of Input number 1 (first_lacking (inputs_of one.logic) (inputs_of side.logic)))
    (fault_from one (number + 1) more)

-- the first of the inputs, the outputs and the latches that only one of both sides has
abbrev pub both_faults : Side → Side → Option PortFault
both_faults one other =
    first_of (fault_between Input one other) (first_of (fault_between Output one other) (fault_between Latch one other))

-- The first port that only one of both sides has, or else the first input of the networks that may help, which count
-- from 3 on, that is none of the first side.
abbrev pub first_port_fault : Side → Side → List Side → Option PortFault
first_port_fault one other more = first_of (both_faults one other) (fault_from one 3 more)
