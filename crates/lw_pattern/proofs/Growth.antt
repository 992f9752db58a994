-- Trees of the last operand, in the place where they stand.
use Rattle.std.proofs.Common.{ℕ, suc, ◌+◌, ◌-◌, ◌≡◌, List, [], ◌∷◌, ◌++◌, length, map, take, drop, set, get_or, sym, ap, ap₂, ◌∙◌, arith}
use Rattle.std.proofs.lemmas.List.{drop_more, drop_all, set_split}
use Rattle.lw_laws.specs.Trees.{Tree}
use Rattle.lw_laws.specs.Patterns.{inverted}
use Rattle.lw_pattern.specs.Growing.{first_trees}

pub last_inverted : (stack : List (List Tree)) (n last : ℕ) (ts d : List Tree) → n ≡ length stack → last + 1 ≡ n → ts ≡ map inverted (get_or stack last d)
    → set stack last ts ≡ take (n - 1) stack ++ map inverted (first_trees (drop (n - 1) stack)) ∷ []
last_inverted stack n last ts d size next e =
    let at : n - 1 ≡ last = omega arith in
    let rest : drop (suc last) stack ≡ [] = drop_all (suc last) stack (omega arith) in
    let own : drop last stack ≡ get_or stack last d ∷ drop (last + 1) stack = drop_more stack last d (omega arith) in
    set_split stack last ts (omega arith)
    ∙ (ap₂ (λ us vs. take last stack ++ us ∷ vs) (e ∙ ap (λ x. map inverted (first_trees x)) (sym own)) rest
    ∙ ap (λ n. take n stack ++ map inverted (first_trees (drop n stack)) ∷ []) (sym at))
