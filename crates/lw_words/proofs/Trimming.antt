-- The end of a physical line, byte by byte.
use Rattle.std.proofs.Common.{ℕ, ◌≡◌, ◌==◌, true, false, cond, List, [], ◌∷◌, ◌++◌, refl, ap, ◌∙◌}
use Rattle.lw_words.specs.Lines.{is_blank, before_trimmed, trimmed, is_continued, with_blank}

-- a blank more changes nothing
pub trimmed-blank : (bytes : List ℕ) (b : ℕ) → is_blank b ≡ true → trimmed (bytes ++ b ∷ []) ≡ trimmed bytes
trimmed-blank [] b is = ap (λ t. cond t [] (b ∷ [])) is
trimmed-blank (x ∷ bytes) b is = ap (before_trimmed x) (trimmed-blank bytes b is)

before_trimmed-some : (x b : ℕ) (bytes : List ℕ) → before_trimmed x (bytes ++ b ∷ []) ≡ x ∷ bytes ++ b ∷ []
before_trimmed-some x b [] = refl
before_trimmed-some x b (y ∷ bytes) = refl

-- a byte that is no blank is the last
pub trimmed-ink : (bytes : List ℕ) (b : ℕ) → is_blank b ≡ false → trimmed (bytes ++ b ∷ []) ≡ bytes ++ b ∷ []
trimmed-ink [] b is = ap (λ t. cond t [] (b ∷ [])) is
trimmed-ink (x ∷ bytes) b is = ap (before_trimmed x) (trimmed-ink bytes b is) ∙ before_trimmed-some x b bytes

pub is_continued-last : (bytes : List ℕ) (b : ℕ) → is_continued (bytes ++ b ∷ []) ≡ (b == 92)
is_continued-last [] b = refl
is_continued-last (x ∷ []) b = refl
is_continued-last (x ∷ y ∷ bytes) b = is_continued-last (y ∷ bytes) b

pub with_blank-last : (bytes : List ℕ) (b : ℕ) → with_blank (bytes ++ b ∷ []) ≡ bytes ++ 32 ∷ []
with_blank-last [] b = refl
with_blank-last (x ∷ []) b = refl
with_blank-last (x ∷ y ∷ bytes) b = ap (λ r. x ∷ r) (with_blank-last (y ∷ bytes) b)
