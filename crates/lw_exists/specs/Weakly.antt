-- What is not shown by an example, but cannot fail to be.

-- it cannot be that there is none
abbrev pub Weakly : Type 0 → Type 0
Weakly P = (P → ⊥) → ⊥
