-- The words behind a pin's name, in order.
use Rattle.std.specs.Prelude.{List, [], ◌∷◌, Option, Some, None}
use Rattle.lw_genlib.specs.declared.pin.Field.{Field}
use Rattle.lw_genlib.specs.declared.pin.Field.TheVariants.{Phase, Load, MostLoad, Rise, RiseUnused, Fall, FallUnused}

abbrev pub fields_behind : Field → List Field
fields_behind Phase = Load ∷ MostLoad ∷ Rise ∷ RiseUnused ∷ Fall ∷ FallUnused ∷ []
fields_behind Load = MostLoad ∷ Rise ∷ RiseUnused ∷ Fall ∷ FallUnused ∷ []
fields_behind MostLoad = Rise ∷ RiseUnused ∷ Fall ∷ FallUnused ∷ []
fields_behind Rise = RiseUnused ∷ Fall ∷ FallUnused ∷ []
fields_behind RiseUnused = Fall ∷ FallUnused ∷ []
fields_behind Fall = FallUnused ∷ []
fields_behind FallUnused = []

abbrev pub fields_from : Option Field → List Field
fields_from None = []
fields_from (Some field) = field ∷ fields_behind field
