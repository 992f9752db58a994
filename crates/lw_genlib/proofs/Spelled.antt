-- The expression that tokens spell by the grammar is the one that is read from them.
use Rattle.std.proofs.Common.{ℕ, ◌≡◌, List, [], ◌∷◌, ◌++◌, refl, ap, ap₂, sym, ◌∙◌, append_assoc}
use Rattle.std.specs.Prelude.{fold}
use Rattle.std.proofs.lemmas.List.Sums.{fold-append}
use Rattle.lw_laws.specs.Expressions.{Expr}
use Rattle.lw_laws.specs.Expressions.Expr.{expr_not}
use Rattle.lw_genlib.specs.declared.token.Token.{Token}
use Rattle.lw_genlib.specs.Grammar.{IsSum, first_product, next_product, IsProduct, first_factor, beside_factor, times_factor, IsFactor, plain_factor, bang_factor, IsAtom, name_atom, group_atom, quoted_atom as quoted, SpellsSum, product_of, sum_of, plus_token, star_token, bang_token, open_token, close_token, quote_token}
use Rattle.lw_genlib.specs.Spelled.{Group, new_group, complements, factor_ended, product_ended, with_bang, with_atom, with_token, value_of_all, expression_of}

module _ (pins : List (List ℕ)) where
  abbrev run : List Group → List Token → List Group
  run groups tokens = fold (with_token pins) groups tokens

  run_append : (groups : List Group) (xs ys : List Token) → run groups (xs ++ ys) ≡ run (run groups xs) ys
  run_append groups xs ys = fold-append (with_token pins) groups xs ys

  -- behind a factor: the group that has it, when the factor ends
  record FactorRead (g : Group) (groups : List Group) (tokens : List Token) (e : Expr) : Type 0 where
    behind : Group
    is : run (g ∷ groups) tokens ≡ behind ∷ groups
    products : behind.products ≡ g.products
    factors : (factor_ended behind).factors ≡ (factor_ended g).factors ++ complements (factor_ended g).bangs e ∷ []
    bangs : (factor_ended behind).bangs ≡ 0

  -- behind factors of a product
  record ProductRead (g : Group) (groups : List Group) (tokens : List Token) (es : List Expr) : Type 0 where
    behind : Group
    is : run (g ∷ groups) tokens ≡ behind ∷ groups
    products : behind.products ≡ g.products
    factors : (factor_ended behind).factors ≡ (factor_ended g).factors ++ es
    bangs : (factor_ended behind).bangs ≡ 0

  -- behind products of a sum
  record SumRead (g : Group) (groups : List Group) (tokens : List Token) (es : List Expr) : Type 0 where
    behind : Group
    is : run (g ∷ groups) tokens ≡ behind ∷ groups
    products : (product_ended behind).products ≡ g.products ++ es

  group_read : (g : Group) (groups : List Group) (tokens : List Token) (es : List Expr) → SumRead new_group (factor_ended g ∷ groups) tokens es → run (g ∷ groups) (open_token ∷ (tokens ++ close_token ∷ [])) ≡ with_atom g (sum_of es) ∷ groups
  group_read g groups tokens es h =
      run_append (new_group ∷ factor_ended g ∷ groups) tokens (close_token ∷ [])
      ∙ (ap (λ (gs : List Group). run gs (close_token ∷ [])) h.is ∙ ap (λ (ps : List Expr). with_atom g (sum_of ps) ∷ groups) h.products)

  quote_read : (g : Group) (groups : List Group) (tokens : List Token) (e : Expr) → run (g ∷ groups) tokens ≡ with_atom g e ∷ groups → run (g ∷ groups) (tokens ++ quote_token ∷ []) ≡ with_atom g (expr_not e) ∷ groups
  quote_read g groups tokens e h = run_append (g ∷ groups) tokens (quote_token ∷ []) ∙ ap (λ (gs : List Group). run gs (quote_token ∷ [])) h

  factor_of_atom : (g : Group) (groups : List Group) (tokens : List Token) (e : Expr) → run (g ∷ groups) tokens ≡ with_atom g e ∷ groups → FactorRead g groups tokens e
  factor_of_atom g groups tokens e is = record { behind = with_atom g e; is = is; products = refl; factors = refl; bangs = refl }

  factor_of_bang : (g : Group) (groups : List Group) (tokens : List Token) (e : Expr) → FactorRead (with_bang g) groups tokens e → FactorRead g groups (bang_token ∷ tokens) (expr_not e)
  factor_of_bang g groups tokens e f = record { behind = f.behind; is = f.is; products = f.products; factors = f.factors; bangs = f.bangs }

  product_of_factor : (g : Group) (groups : List Group) (tokens : List Token) (e : Expr) → (factor_ended g).bangs ≡ 0 → FactorRead g groups tokens e → ProductRead g groups tokens (e ∷ [])
  product_of_factor g groups tokens e clean f = record {
    behind = f.behind;
    is = f.is;
    products = f.products;
    factors = f.factors ∙ ap (λ n. (factor_ended g).factors ++ complements n e ∷ []) clean;
    bangs = f.bangs;
  }

  -- one more factor, behind a group where the last one is at its end or not
  product_and_factor : (g mid next : Group) (groups : List Group) (tokens more whole : List Token) (es : List Expr) (e : Expr) (p : ProductRead g groups tokens es)
      → next.products ≡ p.behind.products → (factor_ended next).factors ≡ (factor_ended p.behind).factors → (factor_ended next).bangs ≡ (factor_ended p.behind).bangs
      → run (g ∷ groups) whole ≡ run (next ∷ groups) more → FactorRead next groups more e → ProductRead g groups whole (es ++ e ∷ [])
  product_and_factor g mid next groups tokens more whole es e p products factors bangs goes f = record {
    behind = f.behind;
    is = goes ∙ f.is;
    products = f.products ∙ (products ∙ p.products);
    factors =
        f.factors ∙ (ap₂ (λ (fs : List Expr) (n : ℕ). fs ++ complements n e ∷ []) (factors ∙ p.factors) (bangs ∙ p.bangs)
        ∙ append_assoc (factor_ended g).factors es (e ∷ []));
    bangs = f.bangs;
  }

  sum_of_product : (g : Group) (groups : List Group) (tokens : List Token) (es : List Expr) → (factor_ended g).factors ≡ [] → ProductRead g groups tokens es → SumRead g groups tokens (product_of es ∷ [])
  sum_of_product g groups tokens es clean p = record {
    behind = p.behind;
    is = p.is;
    products = ap₂ (λ (ps fs : List Expr). ps ++ product_of fs ∷ []) p.products (p.factors ∙ ap (λ (fs : List Expr). fs ++ es) clean);
  }

  sum_and_product : (g : Group) (groups : List Group) (before tokens : List Token) (sums es : List Expr) (s : SumRead g groups before sums) → ProductRead (product_ended s.behind) groups tokens es → SumRead g groups (before ++ plus_token ∷ tokens) (sums ++ product_of es ∷ [])
  sum_and_product g groups before tokens sums es s p = record {
    behind = p.behind;
    is = run_append (g ∷ groups) before (plus_token ∷ tokens) ∙ (ap (λ (gs : List Group). run gs (plus_token ∷ tokens)) s.is ∙ p.is);
    products =
        ap₂ (λ (ps fs : List Expr). ps ++ product_of fs ∷ []) (p.products ∙ s.products) p.factors
        ∙ append_assoc g.products sums (product_of es ∷ []);
  }

  mutual
    atom_is_read : (tokens : List Token) (e : Expr) (g : Group) (groups : List Group) → IsAtom pins tokens e → run (g ∷ groups) tokens ≡ with_atom g e ∷ groups
    atom_is_read _ _ g groups (name_atom name) = refl
    atom_is_read _ _ g groups (group_atom tokens es sum) = group_read g groups tokens es (sum_is_read tokens es new_group (factor_ended g ∷ groups) refl refl sum)
    atom_is_read _ _ g groups (quoted tokens e atom) = quote_read g groups tokens e (atom_is_read tokens e g groups atom)

    factor_is_read : (tokens : List Token) (e : Expr) (g : Group) (groups : List Group) → IsFactor pins tokens e → FactorRead g groups tokens e
    factor_is_read _ _ g groups (plain_factor tokens e atom) = factor_of_atom g groups tokens e (atom_is_read tokens e g groups atom)
    factor_is_read _ _ g groups (bang_factor tokens e factor) = factor_of_bang g groups tokens e (factor_is_read tokens e (with_bang g) groups factor)

    product_is_read : (tokens : List Token) (es : List Expr) (g : Group) (groups : List Group) → (factor_ended g).bangs ≡ 0 → IsProduct pins tokens es → ProductRead g groups tokens es
    product_is_read _ _ g groups clean (first_factor tokens e factor) = product_of_factor g groups tokens e clean (factor_is_read tokens e g groups factor)
    product_is_read _ _ g groups clean (beside_factor before tokens es e product factor) =
        let p : ProductRead g groups before es = product_is_read before es g groups clean product in
        product_and_factor g g p.behind groups before tokens (before ++ tokens) es e p refl refl refl
        (run_append (g ∷ groups) before tokens ∙ ap (λ (gs : List Group). run gs tokens) p.is)
        (factor_is_read tokens e p.behind groups factor)
    product_is_read _ _ g groups clean (times_factor before tokens es e product factor) =
        let p : ProductRead g groups before es = product_is_read before es g groups clean product in
        product_and_factor g g (factor_ended p.behind) groups before tokens (before ++ star_token ∷ tokens) es e p refl refl refl
        (run_append (g ∷ groups) before (star_token ∷ tokens) ∙ ap (λ (gs : List Group). run gs (star_token ∷ tokens)) p.is)
        (factor_is_read tokens e (factor_ended p.behind) groups factor)

    sum_is_read : (tokens : List Token) (es : List Expr) (g : Group) (groups : List Group) → (factor_ended g).bangs ≡ 0 → (factor_ended g).factors ≡ [] → IsSum pins tokens es → SumRead g groups tokens es
    sum_is_read _ _ g groups bangs factors (first_product tokens es product) = sum_of_product g groups tokens es factors (product_is_read tokens es g groups bangs product)
    sum_is_read _ _ g groups bangs factors (next_product before tokens sums es sum product) =
        let s : SumRead g groups before sums = sum_is_read before sums g groups bangs factors sum in
        sum_and_product g groups before tokens sums es s (product_is_read tokens es (product_ended s.behind) groups refl product)

  pub spelled_is_read : (tokens : List Token) (e : Expr) → SpellsSum pins tokens e → expression_of pins tokens ≡ e
  unfolding expression_of
  spelled_is_read tokens e (es, sum, is) =
      let s : SumRead new_group [] tokens es = sum_is_read tokens es new_group [] refl refl sum in
      ap value_of_all s.is ∙ (ap sum_of s.products ∙ sym is)
