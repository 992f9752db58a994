-- What two facts say of the value in an `Ok` or in a `Some`.
use Rattle.std.proofs.Common.{Option, Some, None, IfSome, Result, Ok, Err, IfOk}

pub ok_both : {T E : Type 0} (r : Result T E) {P Q R : T → Type 0} → IfOk r P → IfOk r Q → ((x : T) → P x → Q x → R x) → IfOk r R
ok_both (Ok x) p q f = f x p q
ok_both (Err e) p q f = tt

pub some_both : {T : Type 0} (o : Option T) {P Q R : T → Type 0} → IfSome o P → IfSome o Q → ((x : T) → P x → Q x → R x) → IfSome o R
some_both (Some x) p q f = f x p q
some_both None p q f = tt
