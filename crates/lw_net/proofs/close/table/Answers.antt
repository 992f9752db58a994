use Rattle.std.proofs.Common.{◌≡◌, ◌<◌, ◌++◌, length, map, All, sym, ap₂, subst, ◌∙◌}
use Rattle.lw_net.specs.Numbers.{signal_numbers}
use Rattle.lw_net.specs.Written.{number_of_out}
use Rattle.lw_net.proofs.Placing.{signals_within}
use Rattle.lw_net.proofs.close.table.Goals as goal

pub places-requires-clause-within : goal.places-requires-clause-within
places-requires-clause-within c =
    let w = c.args.w.now in
    let list : c.deref-3.result.now ≡ signal_numbers w =
    c.deref-3.ensures.value ∙ (c.in_ok-signals.ensures ∙ ap₂ (λ a b. a ++ map number_of_out b) c.deref.ensures.value c.deref-2.ensures.value) in
    let count : c.len.result ≡ length w.names.keys = c.len.ensures.len in
    subst (All (λ n. n < c.len.result)) (sym list) (subst (λ m. All (λ n. n < m) (signal_numbers w)) (sym count) (signals_within w c.requires.kept))
