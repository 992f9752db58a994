-- The pins of a function are the names that are no constants, each once.
use Rattle.std.proofs.Common.{ℕ, zero, suc, ◌≡◌, ◌<◌, Bool, true, false, ◌||◌, cond, List, [], ◌∷◌, ◌++◌, length, get_or, Some, None, Option, refl, ap, sym, ◌∙◌, subst, arith, unwrap_or, inl, inr}
use Rattle.std.specs.Prelude.{◌⊎◌, fold, codes}
use Rattle.std.specs.List.{IsDistinct, AllByRecursion, position}
use Rattle.std.specs.Str.{bytes_eq}
use Rattle.std.proofs.lemmas.Bool.{false≢true, or_parts}
use Rattle.std.proofs.lemmas.List.Quantifiers.{position-Some}
use Rattle.lw_facts.proofs.Lists.{bytes_eq_is, bytes_eq_same, bytes_differ_turned}
use Rattle.lw_laws.specs.Expressions.{Expr, MentionsPin, SomeMentionsPin}
use Rattle.lw_laws.specs.Expressions.Expr.{expr_const, expr_pin}
use Rattle.lw_genlib.specs.declared.token.Token.{Token}
use Rattle.lw_genlib.specs.declared.token.Token.TheVariants.{Name, Punct}
use Rattle.lw_genlib.specs.Postfix.{exprs_of, IsOver}
use Rattle.lw_genlib.specs.Grammar.{IsSum, first_product, next_product, IsProduct, first_factor, beside_factor, times_factor, IsFactor, plain_factor, bang_factor, IsAtom, name_atom, group_atom, quoted_atom, SpellsSum, literal_of, product_of, sum_of, plus_token, star_token, close_token, quote_token}
use Rattle.lw_genlib.specs.Functions.{is_constant_name, is_among, with_pin}
use Rattle.lw_genlib.proofs.Names.{first_place}

-- a name that is no constant stands among the tokens
abbrev pub Named : List Token → List ℕ → Type 0
Named [] n = ⊥
Named (Name m ∷ tokens) n = ((m ≡ n) × (is_constant_name m ≡ false)) ⊎ Named tokens n
Named (Punct b ∷ tokens) n = Named tokens n

abbrev pub In : List (List ℕ) → List ℕ → Type 0
In [] n = ⊥
In (x ∷ xs) n = (x ≡ n) ⊎ In xs n

pub among-in : (names : List (List ℕ)) (n : List ℕ) → is_among n names ≡ true → In names n
among-in [] n e = absurd (false≢true e)
among-in (x ∷ xs) n e = at (bytes_eq n x) refl e (λ g. among-in xs n g)
  where
    at : (b : Bool) → bytes_eq n x ≡ b → (b || is_among n xs) ≡ true → (is_among n xs ≡ true → In xs n) → In (x ∷ xs) n
    at true is e others = inl (sym (bytes_eq_is n x is))
    at false is e others = inr (others e)

in-left : (xs ys : List (List ℕ)) (n : List ℕ) → In xs n → In (xs ++ ys) n
in-left [] ys n h = absurd h
in-left (x ∷ xs) ys n (inl e) = inl e
in-left (x ∷ xs) ys n (inr h) = inr (in-left xs ys n h)

in-right : (xs ys : List (List ℕ)) (n : List ℕ) → In ys n → In (xs ++ ys) n
in-right [] ys n h = h
in-right (x ∷ xs) ys n h = inr (in-right xs ys n h)

in-either : (xs ys : List (List ℕ)) (n : List ℕ) → In (xs ++ ys) n → In xs n ⊎ In ys n
in-either [] ys n h = inr h
in-either (x ∷ xs) ys n (inl e) = inl (inl e)
in-either (x ∷ xs) ys n (inr h) = at (in-either xs ys n h)
  where
    at : In xs n ⊎ In ys n → In (x ∷ xs) n ⊎ In ys n
    at (inl g) = inl (inr g)
    at (inr g) = inr g

-- One more name.

pin-kept : (c : Bool) (pins : List (List ℕ)) (m n : List ℕ) → In pins n → In (cond c pins (pins ++ m ∷ [])) n
pin-kept true pins m n h = h
pin-kept false pins m n h = in-left pins (m ∷ []) n h

pin-new : (pins : List (List ℕ)) (m n : List ℕ) → m ≡ n → is_constant_name m ≡ false → In (with_pin pins (Name m)) n
pin-new pins m n e plain = at (is_constant_name m) (is_among m pins) plain refl
  where
    at : (c a : Bool) → c ≡ false → is_among m pins ≡ a → In (cond (c || a) pins (pins ++ m ∷ [])) n
    at true a f is = absurd (false≢true (sym f))
    at false true f is = subst (In pins) e (among-in pins m is)
    at false false f is = in-right pins (m ∷ []) n (inl e)

pin-from : (pins : List (List ℕ)) (m n : List ℕ) → In (with_pin pins (Name m)) n → In pins n ⊎ ((m ≡ n) × (is_constant_name m ≡ false))
pin-from pins m n h = at (is_constant_name m) (is_among m pins) refl h
  where
    last : is_constant_name m ≡ false → In pins n ⊎ In (m ∷ []) n → In pins n ⊎ ((m ≡ n) × (is_constant_name m ≡ false))
    last plain (inl g) = inl g
    last plain (inr (inl e)) = inr (e, plain)
    last plain (inr (inr g)) = absurd g

    at : (c a : Bool) → is_constant_name m ≡ c → In (cond (c || a) pins (pins ++ m ∷ [])) n → In pins n ⊎ ((m ≡ n) × (is_constant_name m ≡ false))
    at true a is g = inl g
    at false true is g = inl g
    at false false is g = last is (in-either pins (m ∷ []) n g)

pub distinct-more : (pins : List (List ℕ)) (m : List ℕ) → IsDistinct bytes_eq pins → is_among m pins ≡ false → IsDistinct bytes_eq (pins ++ m ∷ [])
unfolding IsDistinct
distinct-more [] m h e = (tt, tt)
distinct-more (x ∷ xs) m h e = (others xs h.0 (bytes_differ_turned m x (or_parts (bytes_eq m x) (is_among m xs) e).0), distinct-more xs m h.1 (or_parts (bytes_eq m x) (is_among m xs) e).1)
  where
    others : (ys : List (List ℕ)) → AllByRecursion (λ y. bytes_eq x y ≡ false) ys → bytes_eq x m ≡ false → AllByRecursion (λ y. bytes_eq x y ≡ false) (ys ++ m ∷ [])
    others [] all e = (e, tt)
    others (y ∷ ys) all e = (all.0, others ys all.1 e)

pin-distinct : (pins : List (List ℕ)) (m : List ℕ) → IsDistinct bytes_eq pins → IsDistinct bytes_eq (with_pin pins (Name m))
pin-distinct pins m h = at (is_constant_name m) (is_among m pins) refl
  where
    at : (c a : Bool) → is_among m pins ≡ a → IsDistinct bytes_eq (cond (c || a) pins (pins ++ m ∷ []))
    at true a is = h
    at false true is = h
    at false false is = distinct-more pins m h is

-- All names.

abbrev pub pins_from : List (List ℕ) → List Token → List (List ℕ)
pins_from pins tokens = fold with_pin pins tokens

pub pins-kept : (pins : List (List ℕ)) (tokens : List Token) (n : List ℕ) → In pins n → In (pins_from pins tokens) n
pins-kept pins [] n h = h
pins-kept pins (Punct b ∷ tokens) n h = pins-kept pins tokens n h
pins-kept pins (Name m ∷ tokens) n h = pins-kept (with_pin pins (Name m)) tokens n (pin-kept (is_constant_name m || is_among m pins) pins m n h)

pub pins-have : (pins : List (List ℕ)) (tokens : List Token) (n : List ℕ) → Named tokens n → In (pins_from pins tokens) n
pins-have pins [] n h = absurd h
pins-have pins (Punct b ∷ tokens) n h = pins-have pins tokens n h
pins-have pins (Name m ∷ tokens) n (inl (e, plain)) = pins-kept (with_pin pins (Name m)) tokens n (pin-new pins m n e plain)
pins-have pins (Name m ∷ tokens) n (inr h) = pins-have (with_pin pins (Name m)) tokens n h

pub pins-are : (pins : List (List ℕ)) (tokens : List Token) (n : List ℕ) → In (pins_from pins tokens) n → In pins n ⊎ Named tokens n
pins-are pins [] n h = inl h
pins-are pins (Punct b ∷ tokens) n h = pins-are pins tokens n h
pins-are pins (Name m ∷ tokens) n h = at (pins-are (with_pin pins (Name m)) tokens n h)
  where
    before : In pins n ⊎ ((m ≡ n) × (is_constant_name m ≡ false)) → In pins n ⊎ Named (Name m ∷ tokens) n
    before (inl g) = inl g
    before (inr g) = inr (inl g)

    at : In (with_pin pins (Name m)) n ⊎ Named tokens n → In pins n ⊎ Named (Name m ∷ tokens) n
    at (inl g) = before (pin-from pins m n g)
    at (inr g) = inr (inr g)

pub pins-distinct : (pins : List (List ℕ)) (tokens : List Token) → IsDistinct bytes_eq pins → IsDistinct bytes_eq (pins_from pins tokens)
pins-distinct pins [] h = h
pins-distinct pins (Punct b ∷ tokens) h = pins-distinct pins tokens h
pins-distinct pins (Name m ∷ tokens) h = pins-distinct (with_pin pins (Name m)) tokens (pin-distinct pins m h)

-- Places.

pub in-at : (pins : List (List ℕ)) (k : ℕ) → k < length pins → In pins (get_or pins k [])
in-at [] k below = absurd (omega arith)
in-at (x ∷ xs) zero below = inl refl
in-at (x ∷ xs) (suc k) below = inr (in-at xs k (omega arith))

others-before : (pins : List (List ℕ)) (k j : ℕ) → IsDistinct bytes_eq pins → k < length pins → j < k → bytes_eq (get_or pins k []) (get_or pins j []) ≡ false
unfolding IsDistinct
others-before [] k j distinct below lt = absurd (omega arith)
others-before (x ∷ xs) zero j distinct below lt = absurd (omega arith)
others-before (x ∷ xs) (suc k) zero distinct below lt = bytes_differ_turned x (get_or xs k []) (at_place xs k distinct.0 (omega arith))
  where
    at_place : (ys : List (List ℕ)) (i : ℕ) → AllByRecursion (λ y. bytes_eq x y ≡ false) ys → i < length ys → bytes_eq x (get_or ys i []) ≡ false
    at_place [] i all inside = absurd (omega arith)
    at_place (y ∷ ys) zero all inside = all.0
    at_place (y ∷ ys) (suc i) all inside = at_place ys i all.1 (omega arith)
others-before (x ∷ xs) (suc k) (suc j) distinct below lt = others-before xs k j distinct.1 (omega arith) (omega arith)

-- Which pins an expression mentions.

module _ (pins : List (List ℕ)) where
  abbrev Mention : List Token → ℕ → Type 0
  Mention [] k = ⊥
  Mention (Name m ∷ tokens) k = MentionsPin (literal_of pins m) k ⊎ Mention tokens k
  Mention (Punct b ∷ tokens) k = Mention tokens k

  mention-left : (xs ys : List Token) (k : ℕ) → Mention xs k → Mention (xs ++ ys) k
  mention-left [] ys k h = absurd h
  mention-left (Name m ∷ xs) ys k (inl h) = inl h
  mention-left (Name m ∷ xs) ys k (inr h) = inr (mention-left xs ys k h)
  mention-left (Punct b ∷ xs) ys k h = mention-left xs ys k h

  mention-right : (xs ys : List Token) (k : ℕ) → Mention ys k → Mention (xs ++ ys) k
  mention-right [] ys k h = h
  mention-right (Name m ∷ xs) ys k h = inr (mention-right xs ys k h)
  mention-right (Punct b ∷ xs) ys k h = mention-right xs ys k h

  mention-either : (xs ys : List Token) (k : ℕ) → Mention (xs ++ ys) k → Mention xs k ⊎ Mention ys k
  mention-either [] ys k h = inr h
  mention-either (Punct b ∷ xs) ys k h = mention-either xs ys k h
  mention-either (Name m ∷ xs) ys k (inl h) = inl (inl h)
  mention-either (Name m ∷ xs) ys k (inr h) = at (mention-either xs ys k h)
    where
      at : Mention xs k ⊎ Mention ys k → Mention (Name m ∷ xs) k ⊎ Mention ys k
      at (inl g) = inl (inr g)
      at (inr g) = inr g

  abbrev Some_of : List Expr → ℕ → Type 0
  Some_of es k = SomeMentionsPin (exprs_of es) k

  some-left : (es : List Expr) (e : Expr) (k : ℕ) → Some_of es k → Some_of (es ++ e ∷ []) k
  some-left [] e k h = absurd h
  some-left (x ∷ es) e k (inl h) = inl h
  some-left (x ∷ es) e k (inr h) = inr (some-left es e k h)

  some-last : (es : List Expr) (e : Expr) (k : ℕ) → MentionsPin e k → Some_of (es ++ e ∷ []) k
  some-last [] e k h = inl h
  some-last (x ∷ es) e k h = inr (some-last es e k h)

  some-either : (es : List Expr) (e : Expr) (k : ℕ) → Some_of (es ++ e ∷ []) k → Some_of es k ⊎ MentionsPin e k
  some-either [] e k (inl h) = inr h
  some-either [] e k (inr h) = absurd h
  some-either (x ∷ es) e k (inl h) = inl (inl h)
  some-either (x ∷ es) e k (inr h) = at (some-either es e k h)
    where
      at : Some_of es k ⊎ MentionsPin e k → Some_of (x ∷ es) k ⊎ MentionsPin e k
      at (inl g) = inl (inr g)
      at (inr g) = inr g

  product-mentions : (es : List Expr) (k : ℕ) → MentionsPin (product_of es) k → Some_of es k
  product-mentions [] k h = h
  product-mentions (e ∷ []) k h = inl h
  product-mentions (e ∷ f ∷ es) k h = h

  mentions-product : (es : List Expr) (k : ℕ) → Some_of es k → MentionsPin (product_of es) k
  mentions-product [] k h = h
  mentions-product (e ∷ []) k (inl h) = h
  mentions-product (e ∷ []) k (inr h) = absurd h
  mentions-product (e ∷ f ∷ es) k h = h

  sum-mentions : (es : List Expr) (k : ℕ) → MentionsPin (sum_of es) k → Some_of es k
  sum-mentions [] k h = h
  sum-mentions (e ∷ []) k h = inl h
  sum-mentions (e ∷ f ∷ es) k h = h

  mentions-sum : (es : List Expr) (k : ℕ) → Some_of es k → MentionsPin (sum_of es) k
  mentions-sum [] k h = h
  mentions-sum (e ∷ []) k (inl h) = h
  mentions-sum (e ∷ []) k (inr h) = absurd h
  mentions-sum (e ∷ f ∷ es) k h = h

  either : {A B C : Type 0} → (A → C) → (B → C) → A ⊎ B → C
  either f g (inl a) = f a
  either f g (inr b) = g b

  -- what an expression mentions stands among its tokens
  mutual
    atom-to : (s : List Token) (e : Expr) (k : ℕ) → IsAtom pins s e → MentionsPin e k → Mention s k
    atom-to _ _ k (name_atom name) h = inl h
    atom-to _ _ k (group_atom tokens es sum) h = mention-left tokens (close_token ∷ []) k (sum-to tokens es k sum (sum-mentions es k h))
    atom-to _ _ k (quoted_atom tokens e atom) h = mention-left tokens (quote_token ∷ []) k (atom-to tokens e k atom h)

    factor-to : (s : List Token) (e : Expr) (k : ℕ) → IsFactor pins s e → MentionsPin e k → Mention s k
    factor-to _ _ k (plain_factor tokens e atom) h = atom-to tokens e k atom h
    factor-to _ _ k (bang_factor tokens e factor) h = factor-to tokens e k factor h

    product-to : (s : List Token) (es : List Expr) (k : ℕ) → IsProduct pins s es → Some_of es k → Mention s k
    product-to _ _ k (first_factor tokens e factor) (inl h) = factor-to tokens e k factor h
    product-to _ _ k (first_factor tokens e factor) (inr h) = absurd h
    product-to _ _ k (beside_factor before tokens es e product factor) h =
        either (λ g. mention-left before tokens k (product-to before es k product g)) (λ g. mention-right before tokens k (factor-to tokens e k factor g)) (some-either es e k h)
    product-to _ _ k (times_factor before tokens es e product factor) h =
        either (λ g. mention-left before (star_token ∷ tokens) k (product-to before es k product g)) (λ g. mention-right before (star_token ∷ tokens) k (factor-to tokens e k factor g)) (some-either es e k h)

    sum-to : (s : List Token) (es : List Expr) (k : ℕ) → IsSum pins s es → Some_of es k → Mention s k
    sum-to _ _ k (first_product tokens es product) (inl h) = product-to tokens es k product (product-mentions es k h)
    sum-to _ _ k (first_product tokens es product) (inr h) = absurd h
    sum-to _ _ k (next_product before tokens sums es sum product) h =
        either (λ g. mention-left before (plus_token ∷ tokens) k (sum-to before sums k sum g)) (λ g. mention-right before (plus_token ∷ tokens) k (product-to tokens es k product (product-mentions es k g))) (some-either sums (product_of es) k h)

  -- and what stands there it mentions
  mutual
    atom-from : (s : List Token) (e : Expr) (k : ℕ) → IsAtom pins s e → Mention s k → MentionsPin e k
    atom-from _ _ k (name_atom name) (inl h) = h
    atom-from _ _ k (name_atom name) (inr h) = absurd h
    atom-from _ _ k (group_atom tokens es sum) h =
        mentions-sum es k (sum-from tokens es k sum (either (λ g. g) (λ g. absurd g) (mention-either tokens (close_token ∷ []) k h)))
    atom-from _ _ k (quoted_atom tokens e atom) h = atom-from tokens e k atom (either (λ g. g) (λ g. absurd g) (mention-either tokens (quote_token ∷ []) k h))

    factor-from : (s : List Token) (e : Expr) (k : ℕ) → IsFactor pins s e → Mention s k → MentionsPin e k
    factor-from _ _ k (plain_factor tokens e atom) h = atom-from tokens e k atom h
    factor-from _ _ k (bang_factor tokens e factor) h = factor-from tokens e k factor h

    product-from : (s : List Token) (es : List Expr) (k : ℕ) → IsProduct pins s es → Mention s k → Some_of es k
    product-from _ _ k (first_factor tokens e factor) h = inl (factor-from tokens e k factor h)
    product-from _ _ k (beside_factor before tokens es e product factor) h =
        either (λ g. some-left es e k (product-from before es k product g)) (λ g. some-last es e k (factor-from tokens e k factor g)) (mention-either before tokens k h)
    product-from _ _ k (times_factor before tokens es e product factor) h =
        either (λ g. some-left es e k (product-from before es k product g)) (λ g. some-last es e k (factor-from tokens e k factor g)) (mention-either before (star_token ∷ tokens) k h)

    sum-from : (s : List Token) (es : List Expr) (k : ℕ) → IsSum pins s es → Mention s k → Some_of es k
    sum-from _ _ k (first_product tokens es product) h = inl (mentions-product es k (product-from tokens es k product h))
    sum-from _ _ k (next_product before tokens sums es sum product) h =
        either (λ g. some-left sums (product_of es) k (sum-from before sums k sum g)) (λ g. some-last sums (product_of es) k (mentions-product es k (product-from tokens es k product g))) (mention-either before (plus_token ∷ tokens) k h)

  place : List ℕ → ℕ
  place n = unwrap_or (position (bytes_eq n) pins) 0

  literal-of-pin : (n : List ℕ) → is_constant_name n ≡ false → literal_of pins n ≡ expr_pin (place n)
  unfolding place
  literal-of-pin n plain = at (bytes_eq n (codes "CONST0")) (bytes_eq n (codes "CONST1")) plain
    where
      at : (a b : Bool) → (a || b) ≡ false → cond a (expr_const false) (cond b (expr_const true) (expr_pin (unwrap_or (position (bytes_eq n) pins) 0))) ≡ expr_pin (unwrap_or (position (bytes_eq n) pins) 0)
      at true b e = cc
      at false true e = cc
      at false false e = refl

  literal-constant : (n : List ℕ) (k : ℕ) → is_constant_name n ≡ true → MentionsPin (literal_of pins n) k → ⊥
  literal-constant n k constant h = at (bytes_eq n (codes "CONST0")) (bytes_eq n (codes "CONST1")) constant h
    where
      at : (a b : Bool) → (a || b) ≡ true → MentionsPin (cond a (expr_const false) (cond b (expr_const true) (expr_pin (unwrap_or (position (bytes_eq n) pins) 0)))) k → ⊥
      at true b e g = g
      at false true e g = g
      at false false e g = absurd (false≢true e)

  place-below : (n : List ℕ) → In pins n → place n < length pins
  unfolding place
  place-below n h = at (position (bytes_eq n) pins) refl
    where
      some_pin : (ps : List (List ℕ)) → In ps n → 0 < length ps
      some_pin [] g = absurd g
      some_pin (x ∷ xs) g = omega arith

      at : (o : Option ℕ) → position (bytes_eq n) pins ≡ o → unwrap_or o 0 < length pins
      at None is = some_pin pins h
      at (Some i) is = (position-Some (bytes_eq n) pins i [] is).0

  place-at : (k : ℕ) → IsDistinct bytes_eq pins → k < length pins → place (get_or pins k []) ≡ k
  unfolding place
  place-at k distinct below = first_place (bytes_eq (get_or pins k [])) pins k below (λ j lt. others-before pins k j distinct below lt) (bytes_eq_same (get_or pins k []) (get_or pins k []) refl)

  named-mention : (tokens : List Token) (n : List ℕ) (k : ℕ) → place n ≡ k → Named tokens n → Mention tokens k
  named-mention [] n k is h = absurd h
  named-mention (Punct b ∷ tokens) n k is h = named-mention tokens n k is h
  named-mention (Name m ∷ tokens) n k is (inr h) = inr (named-mention tokens n k is h)
  named-mention (Name m ∷ tokens) n k is (inl (e, plain)) = inl (subst (λ (x : Expr). MentionsPin x k) (sym (literal-of-pin m plain)) (ap place e ∙ is))

  mention-below : (tokens : List Token) (k : ℕ) → ((n : List ℕ) → Named tokens n → In pins n) → Mention tokens k → k < length pins
  mention-below [] k known h = absurd h
  mention-below (Punct b ∷ tokens) k known h = mention-below tokens k known h
  mention-below (Name m ∷ tokens) k known (inr h) = mention-below tokens k (λ n g. known n (inr g)) h
  mention-below (Name m ∷ tokens) k known (inl h) = at (is_constant_name m) refl
    where
      at : (c : Bool) → is_constant_name m ≡ c → k < length pins
      at true is = absurd (literal-constant m k is h)
      at false is =
          let here : place m ≡ k = subst (λ (x : Expr). MentionsPin x k) (literal-of-pin m is) h in
          subst (λ j. j < length pins) here (place-below m (known m (inl (refl, is))))

  -- each pin stands in the expression, and no other
  pub over_pins : (tokens : List Token) (e : Expr) → SpellsSum pins tokens e → IsDistinct bytes_eq pins → ((n : List ℕ) → Named tokens n → In pins n) → ((n : List ℕ) → In pins n → Named tokens n) → IsOver (length pins) e
  over_pins tokens e (es, sum, is) distinct known stand k = (
    λ h. mention-below tokens k known (sum-to tokens es k sum (sum-mentions es k (subst (λ (x : Expr). MentionsPin x k) is h))),
    λ below. subst (λ (x : Expr). MentionsPin x k) (sym is) (mentions-sum es k (sum-from tokens es k sum
        (named-mention tokens (get_or pins k []) k (place-at k distinct below) (stand (get_or pins k []) (in-at pins k below))))),
  )
