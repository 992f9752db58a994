-- What tokens spell has as many literals as names stand among them, and no operator of fewer than two operands.
use Rattle.std.proofs.Common.{ℕ, ◌+◌, ◌≤◌, ◌≡◌, Bool, true, false, cond, List, [], ◌∷◌, ◌++◌, length, refl, sym, ap, ◌∙◌, subst, arith, length-append}
use Rattle.lw_laws.specs.Expressions.{Expr}
use Rattle.lw_laws.specs.Expressions.Expr.{expr_const, expr_pin, expr_not}
use Rattle.lw_genlib.specs.declared.token.Token.{Token}
use Rattle.lw_genlib.specs.Postfix.{exprs_of, postfix, literals, literals_of_all, IsWide, AreWide, IsPostfix, tree_of}
use Rattle.lw_genlib.specs.Codes.{tree_of-postfix}
use Rattle.lw_genlib.specs.Grammar.{literal_of, product_of, sum_of, close_token, quote_token, star_token, plus_token, IsSum, IsProduct, IsFactor, IsAtom, names_in, SpellsSum}
use Rattle.lw_genlib.specs.Grammar.IsSum.{first_product, next_product}
use Rattle.lw_genlib.specs.Grammar.IsProduct.{first_factor, beside_factor, times_factor}
use Rattle.lw_genlib.specs.Grammar.IsFactor.{plain_factor, bang_factor}
use Rattle.lw_genlib.specs.Grammar.IsAtom.{name_atom, group_atom, quoted_atom}
use Rattle.lw_genlib.proofs.Spelling.{names_append}

-- an expression over these names
record IsGood (names : ℕ) (e : Expr) : Type 0 where
  count : literals e ≡ names
  wide : IsWide e

record AreGood (names : ℕ) (es : List Expr) : Type 0 where
  count : literals_of_all (exprs_of es) ≡ names
  wide : AreWide (exprs_of es)
  some : 1 ≤ length es

literals_more : (es : List Expr) (e : Expr) → literals_of_all (exprs_of (es ++ e ∷ [])) ≡ literals_of_all (exprs_of es) + literals e
literals_more [] e = omega arith
literals_more (x ∷ es) e = let rest : literals_of_all (exprs_of (es ++ e ∷ [])) ≡ literals_of_all (exprs_of es) + literals e = literals_more es e in omega arith

wide_more : (es : List Expr) (e : Expr) → AreWide (exprs_of es) → IsWide e → AreWide (exprs_of (es ++ e ∷ []))
wide_more [] e all one = (one, tt)
wide_more (x ∷ es) e all one = (all.0, wide_more es e all.1 one)

one_more : (es : List Expr) (e : Expr) (m n k : ℕ) → AreGood m es → IsGood n e → k ≡ m + n → AreGood k (es ++ e ∷ [])
one_more es e m n k all one sum =
    let count : literals_of_all (exprs_of es) ≡ m = all.count in
    let last : literals e ≡ n = one.count in
    let size : length (es ++ e ∷ []) ≡ length es + 1 = length-append es (e ∷ []) in
    record { count = literals_more es e ∙ omega arith; wide = wide_more es e all.wide one.wide; some = omega arith }

alone : (e : Expr) (n : ℕ) → IsGood n e → AreGood n (e ∷ [])
alone e n one = let count : literals e ≡ n = one.count in record { count = omega arith; wide = (one.wide, tt); some = omega arith }

product_good : (es : List Expr) (n : ℕ) → AreGood n es → IsGood n (product_of es)
product_good [] n all = let some : 1 ≤ length {A = Expr} [] = all.some in absurd (omega arith)
product_good (e ∷ []) n all = let count : literals e + 0 ≡ n = all.count in record { count = omega arith; wide = all.wide.0 }
product_good (e ∷ f ∷ es) n all = record { count = all.count; wide = (omega arith, all.wide) }

sum_good : (es : List Expr) (n : ℕ) → AreGood n es → IsGood n (sum_of es)
sum_good [] n all = let some : 1 ≤ length {A = Expr} [] = all.some in absurd (omega arith)
sum_good (e ∷ []) n all = let count : literals e + 0 ≡ n = all.count in record { count = omega arith; wide = all.wide.0 }
sum_good (e ∷ f ∷ es) n all = record { count = all.count; wide = (omega arith, all.wide) }

complement_good : (e : Expr) (n m : ℕ) → IsGood n e → n ≡ m → IsGood m (expr_not e)
complement_good e n m one same = record { count = one.count ∙ same; wide = one.wide }

literal_good : (a b : Bool) (k : ℕ) → IsGood 1 (cond a (expr_const false) (cond b (expr_const true) (expr_pin k)))
literal_good true b k = record { count = refl; wide = tt }
literal_good false true k = record { count = refl; wide = tt }
literal_good false false k = record { count = refl; wide = tt }

module _ (pins : List (List ℕ)) where
  mutual
    sums_good : (tokens : List Token) (es : List Expr) → IsSum pins tokens es → AreGood (names_in tokens) es
    sums_good _ _ (first_product tokens es p) = alone (product_of es) (names_in tokens) (product_good es (names_in tokens) (products_good tokens es p))
    sums_good _ _ (next_product before tokens sums es s p) =
        one_more sums (product_of es) (names_in before) (names_in tokens) (names_in (before ++ plus_token ∷ tokens)) (sums_good before sums s) (product_good es (names_in tokens) (products_good tokens es p)) (names_append before (plus_token ∷ tokens))

    products_good : (tokens : List Token) (es : List Expr) → IsProduct pins tokens es → AreGood (names_in tokens) es
    products_good _ _ (first_factor tokens e f) = alone e (names_in tokens) (factor_good tokens e f)
    products_good _ _ (beside_factor before tokens es e p f) = one_more es e (names_in before) (names_in tokens) (names_in (before ++ tokens)) (products_good before es p) (factor_good tokens e f) (names_append before tokens)
    products_good _ _ (times_factor before tokens es e p f) =
        one_more es e (names_in before) (names_in tokens) (names_in (before ++ star_token ∷ tokens)) (products_good before es p) (factor_good tokens e f) (names_append before (star_token ∷ tokens))

    factor_good : (tokens : List Token) (e : Expr) → IsFactor pins tokens e → IsGood (names_in tokens) e
    factor_good _ _ (plain_factor tokens e a) = atom_good tokens e a
    factor_good _ _ (bang_factor tokens e f) = complement_good e (names_in tokens) (names_in tokens) (factor_good tokens e f) refl

    atom_good : (tokens : List Token) (e : Expr) → IsAtom pins tokens e → IsGood (names_in tokens) e
    atom_good _ _ (name_atom name) = subst (λ n. IsGood n (literal_of pins name)) refl (literal_good _ _ _)
    atom_good _ _ (group_atom tokens es s) =
        let names : names_in (tokens ++ close_token ∷ []) ≡ names_in tokens + 0 = names_append tokens (close_token ∷ []) in
        subst (λ n. IsGood n (sum_of es)) (omega arith) (sum_good es (names_in tokens) (sums_good tokens es s))
    atom_good _ _ (quoted_atom tokens e a) =
        let names : names_in (tokens ++ quote_token ∷ []) ≡ names_in tokens + 0 = names_append tokens (quote_token ∷ []) in
        complement_good e (names_in tokens) (names_in (tokens ++ quote_token ∷ [])) (atom_good tokens e a) (omega arith)

  pub spelled_postfix : (tokens : List Token) (e : Expr) → SpellsSum pins tokens e → names_in tokens ≤ 64 → IsPostfix (postfix e)
  spelled_postfix tokens e (es, s, is) few =
      let good : IsGood (names_in tokens) (sum_of es) = sum_good es (names_in tokens) (sums_good tokens es s) in
      let whole : IsGood (names_in tokens) e = subst (IsGood (names_in tokens)) (sym is) good in
      let count : literals e ≡ names_in tokens = whole.count in
      let back : tree_of (postfix e) ≡ e = tree_of-postfix e in
      record {
        whole = ap postfix back;
        few = subst (λ t. literals t ≤ 64) (sym back) (omega arith);
        wide = subst IsWide (sym back) whole.wide;
      }
