-- The numbers of classes.
use Rattle.std.proofs.Common.{ℕ, ◌<◌, ◌≡◌, List, All, subst, sym, arith}
use Rattle.std.proofs.lemmas.List.{get_or-map, length-map}
use Rattle.lw_pool.specs.declared.id.ClassId.{ClassId}
use Rattle.lw_pool.specs.Numbers.{numbers}

-- Classes are below a number where their numbers are.
pub classes_below : (n : ℕ) (classes : List ClassId) (cs : List ℕ) → numbers classes ≡ cs → All (λ c. c < n) cs → All (λ (class : ClassId). class.0 < n) classes
classes_below n classes cs same below k d lt =
    let long = length-map classes (λ (class : ClassId). class.0) in
    let all : All (λ c. c < n) (numbers classes) = subst (All (λ c. c < n)) (sym same) below in
    subst (λ c. c < n) (get_or-map (λ (class : ClassId). class.0) classes k d 0 lt) (all k 0 (omega (arith, lt, long)))
