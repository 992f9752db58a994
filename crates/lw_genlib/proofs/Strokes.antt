-- The last byte of a name.
use Rattle.std.proofs.Common.{ℕ, suc, ◌-◌, ◌<◌, ◌≡◌, eqb, List, [], ◌∷◌, length, get_or, refl, ap, ◌∙◌, arith}
use Rattle.lw_genlib.specs.Cells.{ends_in_stroke}

pub stroke_last : (name : List ℕ) → 0 < length name → eqb (get_or name (length name - 1) 0) 92 ≡ ends_in_stroke name
stroke_last [] some = absurd (omega arith)
stroke_last (b ∷ []) some = refl
stroke_last (b ∷ c ∷ bytes) some =
    let here : length (b ∷ c ∷ bytes) - 1 ≡ suc (length bytes) = omega arith in
    let there : length bytes ≡ length (c ∷ bytes) - 1 = omega arith in
    ap (λ i. eqb (get_or (b ∷ c ∷ bytes) i 0) 92) here ∙ (ap (λ i. eqb (get_or (c ∷ bytes) i 0) 92) there ∙ stroke_last (c ∷ bytes) (omega arith))
