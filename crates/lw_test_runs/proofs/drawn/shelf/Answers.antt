-- The names differ.
use Rattle.std.proofs.Common.{sym, subst, refl}
use Rattle.std.specs.List.{IsDistinct}
use Rattle.std.specs.Str.{bytes_eq}
use Rattle.lw_test_runs.proofs.drawn.shelf.Goals as goal

pub new-requires-3-clause-names_differ : goal.new-requires-3-clause-names_differ
unfolding IsDistinct
new-requires-3-clause-names_differ c = subst (λ names. IsDistinct bytes_eq names) (sym c.in_ok-files.ensures) ((refl, (refl, tt)), ((refl, tt), (tt, tt)))
