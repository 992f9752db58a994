-- Lemmas that the proofs of several crates above cite.
use Rattle.lw_pool.specs.declared.id.ClassId.{ClassId}
use Rattle.std.proofs.Common.{◌≡◌}

pub same_class : (x y : ClassId) → x.0 ≡ y.0 → x ≡ y
same_class x y e = λ i. record { 0 = e i }
