-- Tokens that spell an expression by the grammar may stand one after the other.
use Rattle.std.proofs.Common.{ℕ, ◌+◌, ◌-◌, ◌≡◌, Bool, true, false, not, ◌&&◌, ◌||◌, eqb, List, [], ◌∷◌, ◌++◌, refl, sym, ap, ap₂, ◌∙◌, subst, arith, append_assoc, append-nil}
use Rattle.std.proofs.lemmas.Bool.{eqb-true, ne_eqb}
use Rattle.lw_laws.specs.Expressions.{Expr}
use Rattle.lw_genlib.specs.declared.token.Token.{Token}
use Rattle.lw_genlib.specs.declared.token.Token.TheVariants.{Name, Punct}
use Rattle.lw_genlib.specs.Grammar.{IsSum, first_product, next_product, IsProduct, first_factor, beside_factor, times_factor, IsFactor, plain_factor, bang_factor, IsAtom, name_atom, group_atom, quoted_atom, SpellsSum, close_token, quote_token, star_token, plus_token, begins_operand, begins_with, go_on}

-- behind a group as many are open as before it
group_ends : (depth : ℕ) (rest : List Token) → go_on false (depth + 1) (close_token ∷ rest) ≡ go_on false depth rest
group_ends depth rest =
    let some : eqb (depth + 1) 0 ≡ false = ne_eqb (depth + 1) 0 (λ e. absurd (omega (arith, e))) in
    let out : depth + 1 - 1 ≡ depth = omega arith in
    ap₂ (λ b d. not b && go_on false d rest) some out

-- an operand may stand where one is awaited and where none is
operand_on : (depth : ℕ) (tokens : List Token) → begins_with begins_operand tokens ≡ true → go_on false depth tokens ≡ go_on true depth tokens
operand_on depth [] begins = cc
operand_on depth (Name name ∷ rest) begins = refl
operand_on depth (Punct b ∷ rest) begins = by_test (eqb b 40) (eqb b 33) (λ group. at 40 (eqb-true b 40 group) refl) (λ bang. at 33 (eqb-true b 33 bang) refl) begins
  where
    at : (m : ℕ) → b ≡ m → go_on false depth (Punct m ∷ rest) ≡ go_on true depth (Punct m ∷ rest) → go_on false depth (Punct b ∷ rest) ≡ go_on true depth (Punct b ∷ rest)
    at m is same = subst (λ k. go_on false depth (Punct k ∷ rest) ≡ go_on true depth (Punct k ∷ rest)) (sym is) same

    by_test : {A : Type 0} (p q : Bool) → (p ≡ true → A) → (q ≡ true → A) → (p || q) ≡ true → A
    by_test true q first second e = first refl
    by_test false q first second e = second e

module _ (pins : List (List ℕ)) where
  atom_begins : (tokens : List Token) (e : Expr) (rest : List Token) → IsAtom pins tokens e → begins_with begins_operand (tokens ++ rest) ≡ true
  atom_begins _ _ rest (name_atom name) = refl
  atom_begins _ _ rest (group_atom tokens es sum) = refl
  atom_begins _ _ rest (quoted_atom tokens e atom) = ap (begins_with begins_operand) (append_assoc tokens (quote_token ∷ []) rest) ∙ atom_begins tokens e (quote_token ∷ rest) atom

  factor_begins : (tokens : List Token) (e : Expr) (rest : List Token) → IsFactor pins tokens e → begins_with begins_operand (tokens ++ rest) ≡ true
  factor_begins _ _ rest (plain_factor tokens e atom) = atom_begins tokens e rest atom
  factor_begins _ _ rest (bang_factor tokens e factor) = refl

  mutual
    atom_on : (tokens : List Token) (e : Expr) (depth : ℕ) (rest : List Token) → IsAtom pins tokens e → go_on true depth (tokens ++ rest) ≡ go_on false depth rest
    atom_on _ _ depth rest (name_atom name) = refl
    atom_on _ _ depth rest (group_atom tokens es sum) = ap (go_on true (depth + 1)) (append_assoc tokens (close_token ∷ []) rest) ∙ (sum_on tokens es (depth + 1) (close_token ∷ rest) sum ∙ group_ends depth rest)
    atom_on _ _ depth rest (quoted_atom tokens e atom) = ap (go_on true depth) (append_assoc tokens (quote_token ∷ []) rest) ∙ atom_on tokens e depth (quote_token ∷ rest) atom

    factor_on : (tokens : List Token) (e : Expr) (depth : ℕ) (rest : List Token) → IsFactor pins tokens e → go_on true depth (tokens ++ rest) ≡ go_on false depth rest
    factor_on _ _ depth rest (plain_factor tokens e atom) = atom_on tokens e depth rest atom
    factor_on _ _ depth rest (bang_factor tokens e factor) = factor_on tokens e depth rest factor

    product_on : (tokens : List Token) (es : List Expr) (depth : ℕ) (rest : List Token) → IsProduct pins tokens es → go_on true depth (tokens ++ rest) ≡ go_on false depth rest
    product_on _ _ depth rest (first_factor tokens e factor) = factor_on tokens e depth rest factor
    product_on _ _ depth rest (beside_factor before tokens es e product factor) =
        ap (go_on true depth) (append_assoc before tokens rest)
        ∙ (product_on before es depth (tokens ++ rest) product ∙ (operand_on depth (tokens ++ rest) (factor_begins tokens e rest factor) ∙ factor_on tokens e depth rest factor))
    product_on _ _ depth rest (times_factor before tokens es e product factor) =
        ap (go_on true depth) (append_assoc before (star_token ∷ tokens) rest) ∙ (product_on before es depth (star_token ∷ (tokens ++ rest)) product ∙ factor_on tokens e depth rest factor)

    sum_on : (tokens : List Token) (es : List Expr) (depth : ℕ) (rest : List Token) → IsSum pins tokens es → go_on true depth (tokens ++ rest) ≡ go_on false depth rest
    sum_on _ _ depth rest (first_product tokens es product) = product_on tokens es depth rest product
    sum_on _ _ depth rest (next_product before tokens sums es sum product) =
        ap (go_on true depth) (append_assoc before (plus_token ∷ tokens) rest) ∙ (sum_on before sums depth (plus_token ∷ (tokens ++ rest)) sum ∙ product_on tokens es depth rest product)

  pub spelled_goes_on : (tokens : List Token) (e : Expr) → SpellsSum pins tokens e → go_on true 0 tokens ≡ true
  spelled_goes_on tokens e (es, sum, is) = ap (go_on true 0) (sym (append-nil tokens)) ∙ sum_on tokens es 0 [] sum
