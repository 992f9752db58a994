-- The values of inputs, one line more.
use Rattle.std.proofs.Common.{ℕ, zero, suc, ◌+◌, ◌<◌, ◌≡◌, Bool, List, [], ◌∷◌, ◌++◌, length, take, get_or, ap, sym, ◌∙◌, arith, append_assoc, append-nil}
use Rattle.lw_equal_top.specs.Texts.{value_line, values_text}

values_suc : (names : List (List ℕ)) (values : List Bool) (k : ℕ) (name : List ℕ) (value : Bool) → k < length names → k < length values → values_text (take (suc k) names) (take (suc k) values) ≡ values_text (take k names) (take k values) ++ value_line (get_or names k name) (get_or values k value)
values_suc [] values k name value lt le = absurd (omega arith)
values_suc (n ∷ names) [] k name value lt le = absurd (omega arith)
values_suc (n ∷ names) (v ∷ values) zero name value lt le = append-nil (value_line n v)
values_suc (n ∷ names) (v ∷ values) (suc k) name value lt le =
    ap (λ l. value_line n v ++ l) (values_suc names values k name value (omega arith) (omega arith))
    ∙ sym (append_assoc (value_line n v) (values_text (take k names) (take k values)) (value_line (get_or names k name) (get_or values k value)))

pub values_more : (names : List (List ℕ)) (values : List Bool) (k : ℕ) (name : List ℕ) (value : Bool) → k < length names → k < length values → values_text (take (k + 1) names) (take (k + 1) values) ≡ values_text (take k names) (take k values) ++ value_line (get_or names k name) (get_or values k value)
values_more names values k name value lt le =
    let e : k + 1 ≡ suc k = omega arith in
    ap (λ j. values_text (take j names) (take j values)) e ∙ values_suc names values k name value lt le
