-- Lemmas that the proofs of several crates above cite.
use Rattle.lw_pool.specs.Numbers.{values_at}
use Rattle.lw_pool.specs.declared.id.NetId.{NetId}
use Rattle.std.proofs.Common.{ap₂, All, Bool, List, [], arith, false, get_or-set_other, refl, set, ℕ, ◌<◌, ◌∷◌, ◌≡◌, ◌≢◌}
use Rattle.std.proofs.lemmas.List.Elements.{All-head, All-tail}

pub values_at_set : (values : List Bool) (at : ℕ) (v : Bool) (nets : List NetId) → All (λ (net : NetId). net.0 < at) nets → values_at (set values at v) nets ≡ values_at values nets
values_at_set values at v [] all = refl
values_at_set values at v (net ∷ nets) all =
    let before : net.0 < at = All-head (λ (n : NetId). n.0 < at) net nets all in
    let other : net.0 ≢ at = omega arith in
    ap₂ (λ b bs. b ∷ bs) (get_or-set_other values at net.0 v false other) (values_at_set values at v nets (All-tail (λ (n : NetId). n.0 < at) net nets all))
