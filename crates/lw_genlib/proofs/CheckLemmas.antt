-- What is kept of tokens tells the rule that the next one breaks, and grows with it.
use Rattle.std.proofs.Common.{ℕ, ◌+◌, ◌-◌, ◌<◌, ◌≤◌, ◌≡◌, ◌^◌, Bool, true, false, ◌||◌, cond, eqb, List, [], ◌∷◌, ◌++◌, length, take, drop, get_or, Some, None, refl, sym, ap, ap₂, ◌∙◌, arith, length-append}
use Rattle.std.specs.Prelude.{fold}
use Rattle.std.specs.List.{list_any, count_by}
use Rattle.std.proofs.Math.Bool.{or-false}
use Rattle.std.proofs.lemmas.Bool.{ne_eqb}
use Rattle.std.proofs.lemmas.List.{take_more, drop_more, drop_all}
use Rattle.std.proofs.lemmas.List.Folds.{list_any-append}
use Rattle.lw_genlib.specs.declared.token.Token.{Token}
use Rattle.lw_genlib.specs.declared.token.Token.TheVariants.{Name, Punct}
use Rattle.lw_genlib.specs.declared.function_check.FunctionCheck.{FunctionCheck}
use Rattle.lw_genlib.specs.declared.fault.LibKind.{LibKind}
use Rattle.lw_genlib.specs.declared.fault.LibFault.TheVariants.{Line}
use Rattle.lw_genlib.specs.Grammar.{is_punct, is_name, awaits_behind, depth_behind, names_in}
use Rattle.lw_genlib.specs.Functions.{is_constant, is_no_paren, awaits, depth_in, with_pin, pins_in, is_bad, may_follow, is_new_pin, token_fault, first_fault, fault_or}
use Rattle.lw_genlib.specs.FunctionChecks.{check_of, check_more, one_if, fault_at, bad_at, may_follow_at, new_pin_at, HasRoom}
use Rattle.lw_genlib.proofs.Spelling.{names_append, names_short}

-- The rule that a token breaks.

bad_same : (before : List Token) (token : Token) → bad_at (check_of before) token ≡ is_bad before token
bad_same before (Name name) = refl
bad_same before (Punct b) = refl

new_same : (before : List Token) (token : Token) → new_pin_at (check_of before) token ≡ is_new_pin before token
new_same before (Name name) = refl
new_same before (Punct b) = refl

may_same : (before : List Token) (token : Token) → may_follow_at (check_of before) token ≡ may_follow before token
may_same [] token = refl
may_same (output ∷ []) token = refl
may_same (output ∷ equals ∷ before) token =
    let some : eqb (length (output ∷ equals ∷ before)) 0 ≡ false = ne_eqb _ 0 (λ e. absurd (omega (arith, e))) in
    let more : eqb (length (output ∷ equals ∷ before)) 1 ≡ false = ne_eqb _ 1 (λ e. absurd (omega (arith, e))) in
    ap₂ (λ none one. cond none (is_name token) (cond one (is_punct 61 token) (may_follow (output ∷ equals ∷ before) token))) some more

pub fault_same : (before : List Token) (token : Token) → fault_at (check_of before) token ≡ token_fault before token
unfolding token_fault
fault_same before token = simp (bad_same before token, may_same before token, new_same before token)

-- One more token.

pub fold_more : {A B : Type 0} (f : B → A → B) (a : B) (xs : List A) (x : A) → fold f a (xs ++ x ∷ []) ≡ f (fold f a xs) x
fold_more f a [] x = refl
fold_more f a (y ∷ xs) x = fold_more f (f a y) xs x

pub any_more : (p : Token → Bool) (xs : List Token) (x : Token) → list_any p (xs ++ x ∷ []) ≡ (list_any p xs || p x)
any_more p xs x = list_any-append p xs (x ∷ []) ∙ ap (λ b. list_any p xs || b) (or-false (p x))

pub awaits_more : (xs : List Token) (x : Token) → awaits (xs ++ x ∷ []) ≡ (is_punct 61 x || awaits_behind x)
awaits_more [] x = refl
awaits_more (y ∷ []) x = refl
awaits_more (y ∷ z ∷ xs) x = awaits_more (z ∷ xs) x

pub names_more : (xs : List Token) (x : Token) → names_in (xs ++ x ∷ []) ≡ names_in xs + one_if (is_name x)
names_more xs (Name n) = names_append xs (Name n ∷ [])
names_more xs (Punct b) = names_append xs (Punct b ∷ [])

plain_more : (xs : List Token) (x : Token) → count_by is_no_paren (xs ++ x ∷ []) ≡ count_by is_no_paren xs + one_if (is_no_paren x)
plain_more xs x = fold_more (λ a s. a + cond (is_no_paren s) 1 0) 0 xs x

constant_more : (xs : List Token) (x : Token) → cond (eqb (length xs) 0) false (list_any is_constant (drop 1 xs) || is_constant x) ≡ list_any is_constant (drop 1 (xs ++ x ∷ []))
constant_more [] x = refl
constant_more (y ∷ xs) x =
    let some : eqb (length (y ∷ xs)) 0 ≡ false = ne_eqb _ 0 (λ e. absurd (omega (arith, e))) in
    ap (λ b. cond b false (list_any is_constant xs || is_constant x)) some ∙ sym (any_more is_constant xs x)

pub pins_more : (xs : List Token) (x : Token) → cond (eqb (length xs) 0) (pins_in xs) (with_pin (pins_in xs) x) ≡ pins_in (xs ++ x ∷ [])
pins_more [] x = refl
pins_more (y ∷ xs) x =
    let some : eqb (length (y ∷ xs)) 0 ≡ false = ne_eqb _ 0 (λ e. absurd (omega (arith, e))) in
    ap (λ b. cond b (pins_in (y ∷ xs)) (with_pin (pins_in (y ∷ xs)) x)) some ∙ sym (fold_more with_pin [] xs x)

abbrev made : ℕ → Bool → Bool → ℕ → ℕ → Bool → ℕ → List (List ℕ) → FunctionCheck
made count' equals' awaits' depth' names' constant' plain' pins' = record { count = count'; equals = equals'; awaits = awaits'; depth = depth'; names = names'; constant = constant'; no_parens = plain'; pins = pins' }

same_check : (a b : FunctionCheck) → a.count ≡ b.count → a.equals ≡ b.equals → a.awaits ≡ b.awaits → a.depth ≡ b.depth → a.names ≡ b.names → a.constant ≡ b.constant → a.no_parens ≡ b.no_parens → a.pins ≡ b.pins → a ≡ b
same_check a b count' equals' awaits' depth' names' constant' plain' pins' =
    ap (λ x. made x a.equals a.awaits a.depth a.names a.constant a.no_parens a.pins) count'
    ∙ (ap (λ x. made b.count x a.awaits a.depth a.names a.constant a.no_parens a.pins) equals'
    ∙ (ap (λ x. made b.count b.equals x a.depth a.names a.constant a.no_parens a.pins) awaits'
    ∙ (ap (λ x. made b.count b.equals b.awaits x a.names a.constant a.no_parens a.pins) depth'
    ∙ (ap (λ x. made b.count b.equals b.awaits b.depth x a.constant a.no_parens a.pins) names'
    ∙ (ap (λ x. made b.count b.equals b.awaits b.depth b.names x a.no_parens a.pins) constant'
    ∙ (ap (λ x. made b.count b.equals b.awaits b.depth b.names b.constant x a.pins) plain'
    ∙ (ap (λ x. made b.count b.equals b.awaits b.depth b.names b.constant b.no_parens x) pins')))))))

pub check_of_more : (before : List Token) (token : Token) → check_more (check_of before) token ≡ check_of (before ++ token ∷ [])
check_of_more before token =
    same_check (check_more (check_of before) token) (check_of (before ++ token ∷ []))
    (sym (length-append before (token ∷ []))) (sym (any_more (is_punct 61) before token)) (sym (awaits_more before token)) (sym (fold_more (λ depth s. depth_behind s depth) 0 before token))
    (sym (names_more before token)) (constant_more before token) (sym (plain_more before token)) (pins_more before token)

-- Counts are no greater than the number of tokens.

deeper : (token : Token) (depth : ℕ) → depth_behind token depth ≤ depth + 1
deeper (Name n) depth = omega arith
deeper (Punct b) depth = by_tests (eqb b 40) (eqb b 41)
  where
    by_tests : (o c : Bool) → cond o (depth + 1) (cond c (depth - 1) depth) ≤ depth + 1
    by_tests true c = omega arith
    by_tests false true = omega arith
    by_tests false false = omega arith

depth_short : (tokens : List Token) (depth : ℕ) → fold (λ d s. depth_behind s d) depth tokens ≤ depth + length tokens
depth_short [] depth = omega arith
depth_short (token ∷ tokens) depth =
    let one : depth_behind token depth ≤ depth + 1 = deeper token depth in
    let others : fold (λ d s. depth_behind s d) (depth_behind token depth) tokens ≤ depth_behind token depth + length tokens = depth_short tokens (depth_behind token depth) in
    omega arith

plain_short : (tokens : List Token) (count : ℕ) → fold (λ a s. a + cond (is_no_paren s) 1 0) count tokens ≤ count + length tokens
plain_short [] count = omega arith
plain_short (token ∷ tokens) count =
    let others : fold (λ a s. a + cond (is_no_paren s) 1 0) (count + cond (is_no_paren token) 1 0) tokens ≤ count + cond (is_no_paren token) 1 0 + length tokens = plain_short tokens (count + cond (is_no_paren token) 1 0) in
    let one : cond (is_no_paren token) 1 0 ≤ 1 = at_most_one (is_no_paren token) in
    omega arith
  where
    at_most_one : (b : Bool) → cond b 1 0 ≤ 1
    at_most_one true = omega arith
    at_most_one false = omega arith

pub has_room : (tokens : List Token) → length tokens < 2 ^ 32 → HasRoom (check_of tokens)
has_room tokens lt =
    let depth : depth_in tokens ≤ 0 + length tokens = depth_short tokens 0 in
    let no_parens : count_by is_no_paren tokens ≤ 0 + length tokens = plain_short tokens 0 in
    let names : names_in tokens ≤ length tokens = names_short tokens in
    record { count = lt; depth = omega arith; names = omega arith; no_parens = omega arith }

-- The loop over the tokens.

module _ (lines : List ℕ) (tokens : List Token) (at : ℕ) (token : Token) (lt : at < length tokens) (each : length lines ≡ length tokens) (here : token ≡ get_or tokens at token) where
  next_fault : first_fault (take at tokens) (drop at lines) (drop at tokens) ≡ fault_or (get_or lines at 0) (token_fault (take at tokens) token) (first_fault (take at tokens ++ token ∷ []) (drop (at + 1) lines) (drop (at + 1) tokens))
  unfolding first_fault
  next_fault =
      ap₂ (first_fault (take at tokens)) (drop_more lines at 0 (omega arith)) (drop_more tokens at token lt ∙ ap (λ s. s ∷ drop (at + 1) tokens) (sym here))

  grown : take (at + 1) tokens ≡ take at tokens ++ token ∷ []
  grown = take_more tokens at token lt ∙ ap (λ s. take at tokens ++ s ∷ []) (sym here)

  pub found : (kind : LibKind) → Some kind ≡ token_fault (take at tokens) token → first_fault (take at tokens) (drop at lines) (drop at tokens) ≡ first_fault [] lines tokens → first_fault [] lines tokens ≡ Some (Line (get_or lines at 0) kind)
  found kind is all = sym all ∙ (next_fault ∙ ap (λ o. fault_or (get_or lines at 0) o (first_fault (take at tokens ++ token ∷ []) (drop (at + 1) lines) (drop (at + 1) tokens))) (sym is))

  pub goes_on : None ≡ token_fault (take at tokens) token → first_fault (take at tokens) (drop at lines) (drop at tokens) ≡ first_fault [] lines tokens → first_fault (take (at + 1) tokens) (drop (at + 1) lines) (drop (at + 1) tokens) ≡ first_fault [] lines tokens
  goes_on is all =
      ap (λ b. first_fault b (drop (at + 1) lines) (drop (at + 1) tokens)) grown
      ∙ (ap (λ o. fault_or (get_or lines at 0) o (first_fault (take at tokens ++ token ∷ []) (drop (at + 1) lines) (drop (at + 1) tokens))) is ∙ (sym next_fault ∙ all))

  pub check_next : (old new : FunctionCheck) → old ≡ check_of (take at tokens) → new ≡ check_more old token → new ≡ check_of (take (at + 1) tokens)
  check_next old new was is = is ∙ (ap (λ s. check_more s token) was ∙ (check_of_more (take at tokens) token ∙ ap check_of (sym grown)))

pub no_fault : (lines : List ℕ) (tokens : List Token) (at : ℕ) → length tokens ≤ at → first_fault (take at tokens) (drop at lines) (drop at tokens) ≡ first_fault [] lines tokens → first_fault [] lines tokens ≡ None
unfolding first_fault
no_fault lines tokens at past all = sym all ∙ ap (first_fault (take at tokens) (drop at lines)) (drop_all at tokens past)
