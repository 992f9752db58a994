-- Reading expressions from tokens: how what was read grows.
use Rattle.std.proofs.Common.{ℕ, suc, ◌+◌, ◌-◌, ◌<◌, ◌≤◌, ◌≡◌, Bool, true, false, not, ◌&&◌, ◌||◌, eqb, List, [], ◌∷◌, ◌++◌, length, refl, sym, ap, ap₂, ◌∙◌, subst, arith, append_assoc, append-nil, length-append, inl, inr}
use Rattle.std.proofs.lemmas.Bool.Decides.{nat_tests}
use Rattle.std.proofs.lemmas.Bool.{and_parts, or_from}
use Rattle.lw_laws.specs.Expressions.{Expr}
use Rattle.lw_laws.specs.Expressions.Expr.{expr_not}
use Rattle.lw_genlib.specs.declared.token.Token.{Token}
use Rattle.lw_genlib.specs.declared.token.Token.TheVariants.{Name, Punct}
use Rattle.lw_genlib.specs.declared.op.ExprOp.{ExprOp}
use Rattle.lw_genlib.specs.declared.op.ExprOp.TheVariants.{Not, And, Or}
use Rattle.lw_genlib.specs.Postfix.{exprs_of, postfix, postfixes, part_count}
use Rattle.lw_genlib.specs.Grammar.{product_of, sum_of, open_token, close_token, bang_token, quote_token, star_token, plus_token, IsSum, IsProduct, IsFactor, IsAtom, is_punct, begins_operand, awaits_behind, depth_behind, fits, go_on, names_in, begins_with, Reads, SpellsProduct, SpellsSum, after_atom, after_factor, after_product, after_sum, IsNextFactor}
use Rattle.lw_genlib.specs.Grammar.IsSum.{first_product, next_product}
use Rattle.lw_genlib.specs.Grammar.IsProduct.{first_factor, beside_factor, times_factor}
use Rattle.lw_genlib.specs.Grammar.IsFactor.{plain_factor, bang_factor}
use Rattle.lw_genlib.specs.Grammar.IsAtom.{group_atom, quoted_atom}

pub names_append : (xs ys : List Token) → names_in (xs ++ ys) ≡ names_in xs + names_in ys
names_append [] ys = omega arith
names_append (Name n ∷ xs) ys = let rest : names_in (xs ++ ys) ≡ names_in xs + names_in ys = names_append xs ys in omega arith
names_append (Punct b ∷ xs) ys = names_append xs ys

pub part_count_of : (es : List Expr) → part_count (exprs_of es) ≡ length es
part_count_of [] = refl
part_count_of (e ∷ es) = let rest : part_count (exprs_of es) ≡ length es = part_count_of es in omega arith

pub postfixes_more : (es : List Expr) (e : Expr) → postfixes (exprs_of (es ++ e ∷ [])) ≡ postfixes (exprs_of es) ++ postfix e
postfixes_more [] e = append-nil (postfix e)
postfixes_more (x ∷ es) e = ap (λ r. postfix x ++ r) (postfixes_more es e) ∙ sym (append_assoc (postfix x) (postfixes (exprs_of es)) (postfix e))

-- A list of expressions that was read so far.
pub record SoFar (IsList : List Token → List Expr → Type 0) (follows : Token → Bool) (depth : ℕ) (tokens rest : List Token) (old new : List ExprOp) (count : ℕ) : Type 0 where
  pub read : List Token
  pub parts : List Expr
  pub whole : tokens ≡ read ++ rest
  pub spelled : IsList read parts
  pub size : length parts ≡ count
  pub positive : 1 ≤ count
  pub few : count ≤ names_in read
  pub steps : new ≡ old ++ postfixes (exprs_of parts)
  pub left : go_on false depth rest ≡ true
  pub stops : begins_with follows rest ≡ false

-- where one more part was read behind a separator
merged : (tokens read gap more rest rest' behind : List Token) → tokens ≡ read ++ rest → rest ≡ gap ++ behind → behind ≡ more ++ rest' → tokens ≡ (read ++ (gap ++ more)) ++ rest'
merged tokens read gap more rest rest' behind whole at next =
    whole ∙ (ap (λ r. read ++ r) (at ∙ ap (λ b. gap ++ b) next) ∙ (ap (λ r. read ++ r) (sym (append_assoc gap more rest')) ∙ sym (append_assoc read (gap ++ more) rest')))

grown_steps : (old new new' : List ExprOp) (es : List Expr) (e : Expr) → new ≡ old ++ postfixes (exprs_of es) → new' ≡ new ++ postfix e → new' ≡ old ++ postfixes (exprs_of (es ++ e ∷ []))
grown_steps old new new' es e was is =
    is ∙ (ap (λ n. n ++ postfix e) was ∙ (append_assoc old (postfixes (exprs_of es)) (postfix e) ∙ ap (λ r. old ++ r) (sym (postfixes_more es e))))

module _ (pins : List (List ℕ)) (depth : ℕ) (tokens : List Token) (old : List ExprOp) where
  pub sum_begins : (rest : List Token) (new : List ExprOp) → Reads (SpellsProduct pins) after_product depth tokens rest old new → SoFar (IsSum pins) after_product depth tokens rest old new 1
  sum_begins rest new r =
      let es : List Expr = r.spelled.0 in
      record {
        read = r.read;
        parts = product_of r.spelled.0 ∷ [];
        whole = r.whole;
        spelled = first_product r.read r.spelled.0 r.spelled.1;
        size = refl;
        positive = omega arith;
        few = r.some;
        steps = r.steps ∙ ap (λ ops. old ++ ops) (ap postfix r.spelled.2 ∙ sym (append-nil (postfix (product_of r.spelled.0))));
        left = r.left;
        stops = r.stops;
      }

  pub sum_goes_on : (rest behind rest' : List Token) (new new' : List ExprOp) (count : ℕ) → SoFar (IsSum pins) after_product depth tokens rest old new count → rest ≡ plus_token ∷ behind
      → Reads (SpellsProduct pins) after_product depth behind rest' new new' → SoFar (IsSum pins) after_product depth tokens rest' old new' (count + 1)
  sum_goes_on rest behind rest' new new' count s at r =
      let names : names_in (s.read ++ plus_token ∷ r.read) ≡ names_in s.read + names_in r.read = names_append s.read (plus_token ∷ r.read) in
      let one : 1 ≤ names_in r.read = r.some in
      let few : count ≤ names_in s.read = s.few in
      let size : length s.parts ≡ count = s.size in
      record {
        read = s.read ++ plus_token ∷ r.read;
        parts = s.parts ++ product_of r.spelled.0 ∷ [];
        whole = merged tokens s.read (plus_token ∷ []) r.read rest rest' behind s.whole at r.whole;
        spelled = next_product s.read r.read s.parts r.spelled.0 s.spelled r.spelled.1;
        size = length-append s.parts (product_of r.spelled.0 ∷ []) ∙ omega arith;
        positive = omega arith;
        few = omega arith;
        steps = grown_steps old new new' s.parts (product_of r.spelled.0) s.steps (r.steps ∙ ap (λ e. new ++ postfix e) r.spelled.2);
        left = r.left;
        stops = r.stops;
      }

  pub product_begins : (rest : List Token) (new : List ExprOp) → Reads (IsFactor pins) after_factor depth tokens rest old new → SoFar (IsProduct pins) after_factor depth tokens rest old new 1
  product_begins rest new r = record {
    read = r.read;
    parts = r.tree ∷ [];
    whole = r.whole;
    spelled = first_factor r.read r.tree r.spelled;
    size = refl;
    positive = omega arith;
    few = r.some;
    steps = r.steps ∙ ap (λ ops. old ++ ops) (sym (append-nil (postfix r.tree)));
    left = r.left;
    stops = r.stops;
  }

  pub product_goes_on : (rest behind rest' : List Token) (new new' : List ExprOp) (count : ℕ) → SoFar (IsProduct pins) after_factor depth tokens rest old new count → IsNextFactor rest behind
      → Reads (IsFactor pins) after_factor depth behind rest' new new' → SoFar (IsProduct pins) after_factor depth tokens rest' old new' (count + 1)
  product_goes_on rest behind rest' new new' count s (inl at) r =
      let names : names_in (s.read ++ star_token ∷ r.read) ≡ names_in s.read + names_in r.read = names_append s.read (star_token ∷ r.read) in
      let one : 1 ≤ names_in r.read = r.some in
      let few : count ≤ names_in s.read = s.few in
      let size : length s.parts ≡ count = s.size in
      record {
        read = s.read ++ star_token ∷ r.read;
        parts = s.parts ++ r.tree ∷ [];
        whole = merged tokens s.read (star_token ∷ []) r.read rest rest' behind s.whole at r.whole;
        spelled = times_factor s.read r.read s.parts r.tree s.spelled r.spelled;
        size = length-append s.parts (r.tree ∷ []) ∙ omega arith;
        positive = omega arith;
        few = omega arith;
        steps = grown_steps old new new' s.parts r.tree s.steps r.steps;
        left = r.left;
        stops = r.stops;
      }
  product_goes_on rest behind rest' new new' count s (inr at) r =
      let names : names_in (s.read ++ r.read) ≡ names_in s.read + names_in r.read = names_append s.read r.read in
      let one : 1 ≤ names_in r.read = r.some in
      let few : count ≤ names_in s.read = s.few in
      let size : length s.parts ≡ count = s.size in
      record {
        read = s.read ++ r.read;
        parts = s.parts ++ r.tree ∷ [];
        whole = merged tokens s.read [] r.read rest rest' behind s.whole at.0 r.whole;
        spelled = beside_factor s.read r.read s.parts r.tree s.spelled r.spelled;
        size = length-append s.parts (r.tree ∷ []) ∙ omega arith;
        positive = omega arith;
        few = omega arith;
        steps = grown_steps old new new' s.parts r.tree s.steps r.steps;
        left = r.left;
        stops = r.stops;
      }

-- the steps of a list of parts, and of the operator where there are more than one
ends_steps : (old new final ops : List ExprOp) (op : ExprOp) → new ≡ old ++ ops → final ≡ new ++ op ∷ [] → final ≡ old ++ (ops ++ op ∷ [])
ends_steps old new final ops op was is = is ∙ (ap (λ n. n ++ op ∷ []) was ∙ append_assoc old ops (op ∷ []))

module _ (pins : List (List ℕ)) (depth : ℕ) (tokens rest : List Token) (old new final : List ExprOp) (count : ℕ) where
  some_names : (n : ℕ) → 1 ≤ count → count ≤ n → 1 ≤ n
  some_names n one few = omega arith

  sum_tree : (es : List Expr) → length es ≡ count → 1 ≤ count → (count ≤ 1 → final ≡ new) → (1 < count → final ≡ new ++ Or count ∷ []) → new ≡ old ++ postfixes (exprs_of es) → final ≡ old ++ postfix (sum_of es)
  sum_tree [] size one alone more steps = absurd (omega arith)
  sum_tree (e ∷ []) size one alone more steps =
      let few : count ≤ 1 = omega arith in
      alone few ∙ (steps ∙ ap (λ ops. old ++ ops) (append-nil (postfix e)))
  sum_tree (e ∷ f ∷ es) size one alone more steps =
      let many : 1 < count = omega arith in
      let same : count ≡ part_count (exprs_of (e ∷ f ∷ es)) = sym size ∙ sym (part_count_of (e ∷ f ∷ es)) in
      ends_steps old new final (postfixes (exprs_of (e ∷ f ∷ es))) (Or (part_count (exprs_of (e ∷ f ∷ es)))) steps (more many ∙ ap (λ n. new ++ Or n ∷ []) same)

  product_tree : (es : List Expr) → length es ≡ count → 1 ≤ count → (count ≤ 1 → final ≡ new) → (1 < count → final ≡ new ++ And count ∷ []) → new ≡ old ++ postfixes (exprs_of es) → final ≡ old ++ postfix (product_of es)
  product_tree [] size one alone more steps = absurd (omega arith)
  product_tree (e ∷ []) size one alone more steps =
      let few : count ≤ 1 = omega arith in
      alone few ∙ (steps ∙ ap (λ ops. old ++ ops) (append-nil (postfix e)))
  product_tree (e ∷ f ∷ es) size one alone more steps =
      let many : 1 < count = omega arith in
      let same : count ≡ part_count (exprs_of (e ∷ f ∷ es)) = sym size ∙ sym (part_count_of (e ∷ f ∷ es)) in
      ends_steps old new final (postfixes (exprs_of (e ∷ f ∷ es))) (And (part_count (exprs_of (e ∷ f ∷ es)))) steps (more many ∙ ap (λ n. new ++ And n ∷ []) same)

  pub sum_ends : SoFar (IsSum pins) after_product depth tokens rest old new count → (count ≤ 1 → final ≡ new) → (1 < count → final ≡ new ++ Or count ∷ [])
      → begins_with after_sum rest ≡ false → Reads (SpellsSum pins) after_sum depth tokens rest old final
  sum_ends s alone more stops = record {
    read = s.read;
    tree = sum_of s.parts;
    whole = s.whole;
    spelled = (s.parts, s.spelled, refl);
    some = some_names (names_in s.read) s.positive s.few;
    steps = sum_tree s.parts s.size s.positive alone more s.steps;
    left = s.left;
    stops = stops;
  }

  pub product_ends : SoFar (IsProduct pins) after_factor depth tokens rest old new count → (count ≤ 1 → final ≡ new) → (1 < count → final ≡ new ++ And count ∷ [])
      → begins_with after_product rest ≡ false → Reads (SpellsProduct pins) after_product depth tokens rest old final
  product_ends s alone more stops = record {
    read = s.read;
    tree = product_of s.parts;
    whole = s.whole;
    spelled = (s.parts, s.spelled, refl);
    some = some_names (names_in s.read) s.positive s.few;
    steps = product_tree s.parts s.size s.positive alone more s.steps;
    left = s.left;
    stops = stops;
  }

-- no token follows an atom's name or group that is part of it
pub after_nothing : (tokens : List Token) → begins_with after_atom tokens ≡ false
after_nothing [] = refl
after_nothing (token ∷ tokens) = refl

module _ (pins : List (List ℕ)) (depth : ℕ) (old new new' : List ExprOp) (more : new' ≡ new ++ Not ∷ []) where
  complement_steps : (e : Expr) → new ≡ old ++ postfix e → new' ≡ old ++ postfix (expr_not e)
  complement_steps e was = ends_steps old new new' (postfix e) Not was more

  -- a `'` behind an atom
  pub quoted : (tokens rest behind : List Token) → Reads (IsAtom pins) after_atom depth tokens rest old new → rest ≡ quote_token ∷ behind → Reads (IsAtom pins) after_atom depth tokens behind old new'
  quoted tokens rest behind r at = record {
    read = r.read ++ quote_token ∷ [];
    tree = expr_not r.tree;
    whole = r.whole ∙ (ap (λ b. r.read ++ b) at ∙ sym (append_assoc r.read (quote_token ∷ []) behind));
    spelled = quoted_atom r.read r.tree r.spelled;
    some = let names : names_in (r.read ++ quote_token ∷ []) ≡ names_in r.read + 0 = names_append r.read (quote_token ∷ []) in let one : 1 ≤ names_in r.read = r.some in omega arith;
    steps = complement_steps r.tree r.steps;
    left = behind_quote (subst (λ b. go_on false depth b ≡ true) at r.left);
    stops = after_nothing behind;
  }
    where
      behind_quote : go_on false depth (quote_token ∷ behind) ≡ true → go_on false depth behind ≡ true
      behind_quote ok = ok

  -- a `!` before a factor
  pub complemented : (tokens rest : List Token) → Reads (IsFactor pins) after_factor depth tokens rest old new → Reads (IsFactor pins) after_factor depth (bang_token ∷ tokens) rest old new'
  complemented tokens rest r = record {
    read = bang_token ∷ r.read;
    tree = expr_not r.tree;
    whole = ap (λ s. bang_token ∷ s) r.whole;
    spelled = bang_factor r.read r.tree r.spelled;
    some = r.some;
    steps = complement_steps r.tree r.steps;
    left = r.left;
    stops = r.stops;
  }

-- an atom that no `'` follows is a factor
pub atom_is_factor : (pins : List (List ℕ)) (depth : ℕ) (tokens rest : List Token) (old new : List ExprOp) → Reads (IsAtom pins) after_factor depth tokens rest old new → Reads (IsFactor pins) after_factor depth tokens rest old new
atom_is_factor pins depth tokens rest old new r = record {
  read = r.read;
  tree = r.tree;
  whole = r.whole;
  spelled = plain_factor r.read r.tree r.spelled;
  some = r.some;
  steps = r.steps;
  left = r.left;
  stops = r.stops;
}

-- What is left, and how long it is.

pub rest_length : (tokens read rest : List Token) → tokens ≡ read ++ rest → length tokens ≡ length read + length rest
rest_length tokens read rest whole = ap length whole ∙ length-append read rest

pub names_short : (tokens : List Token) → names_in tokens ≤ length tokens
names_short [] = omega arith
names_short (Name n ∷ tokens) = let rest : names_in tokens ≤ length tokens = names_short tokens in omega arith
names_short (Punct b ∷ tokens) = let rest : names_in tokens ≤ length tokens = names_short tokens in omega arith

-- what follows an operand may begin one
pub operand_goes_on : (depth : ℕ) (rest : List Token) → begins_with begins_operand rest ≡ true → go_on false depth rest ≡ true → go_on true depth rest ≡ true
operand_goes_on depth [] begins ok = cc
operand_goes_on depth (token ∷ rest) begins ok = ap₂ (λ a b. a && b) begins (and_parts (fits false depth token) (go_on (awaits_behind token) (depth_behind token depth) rest) ok).1

pub next_goes_on : (depth : ℕ) (rest behind : List Token) → IsNextFactor rest behind → go_on false depth rest ≡ true → go_on true depth behind ≡ true
next_goes_on depth rest behind (inl at) ok = behind_star (subst (λ r. go_on false depth r ≡ true) at ok)
  where
    behind_star : go_on false depth (star_token ∷ behind) ≡ true → go_on true depth behind ≡ true
    behind_star here = here
next_goes_on depth rest behind (inr at) ok = subst (λ r. go_on true depth r ≡ true) at.0 (operand_goes_on depth rest at.1 ok)

pub next_shorter : (rest behind : List Token) → IsNextFactor rest behind → (names_in behind ≤ names_in rest) × (length behind ≤ length rest)
next_shorter rest behind (inl at) =
    let names : names_in rest ≡ names_in behind = ap names_in at in
    let long : length rest ≡ suc (length behind) = ap length at in
    (omega arith, omega arith)
next_shorter rest behind (inr at) =
    let names : names_in rest ≡ names_in behind = ap names_in at.0 in
    let long : length rest ≡ length behind = ap length at.0 in
    (omega arith, omega arith)

pub plus_shorter : (rest behind : List Token) → rest ≡ plus_token ∷ behind → (names_in behind ≤ names_in rest) × (length behind ≤ length rest)
plus_shorter rest behind at =
    let names : names_in rest ≡ names_in behind = ap names_in at in
    let long : length rest ≡ suc (length behind) = ap length at in
    (omega arith, omega arith)

pub plus_goes_on : (depth : ℕ) (rest behind : List Token) → rest ≡ plus_token ∷ behind → go_on false depth rest ≡ true → go_on true depth behind ≡ true
plus_goes_on depth rest behind at ok = behind_plus (subst (λ r. go_on false depth r ≡ true) at ok)
  where
    behind_plus : go_on false depth (plus_token ∷ behind) ≡ true → go_on true depth behind ≡ true
    behind_plus here = here

-- Where a sum or a product stops.

pub sum_stops : (rest : List Token) → begins_with after_product rest ≡ false → begins_with (is_punct 43) rest ≡ false → begins_with after_sum rest ≡ false
sum_stops [] before plus = refl
sum_stops (token ∷ rest) before plus = or_from (after_product token) (is_punct 43 token) before plus

pub product_stops : (rest : List Token) → begins_with after_factor rest ≡ false → begins_with (λ token. is_punct 42 token || begins_operand token) rest ≡ false → begins_with after_product rest ≡ false
product_stops [] before next = refl
product_stops (token ∷ rest) before next = merged_or (is_punct 39 token) (is_punct 42 token) (begins_operand token) before next
  where
    merged_or : (a b c : Bool) → a ≡ false → (b || c) ≡ false → (a || b || c) ≡ false
    merged_or false false c e f = f
    merged_or false true c e f = f
    merged_or true b c e f = cc

-- Groups and names.

module _ (pins : List (List ℕ)) (depth : ℕ) (old new : List ExprOp) where
  -- a group
  pub grouped : (tokens inner rest behind : List Token) → tokens ≡ open_token ∷ inner → Reads (SpellsSum pins) after_sum (depth + 1) inner rest old new → rest ≡ close_token ∷ behind
      → Reads (IsAtom pins) after_atom depth tokens behind old new
  grouped tokens inner rest behind at r next =
      let es : List Expr = r.spelled.0 in
      let names : names_in (r.read ++ close_token ∷ []) ≡ names_in r.read + 0 = names_append r.read (close_token ∷ []) in
      let one : 1 ≤ names_in r.read = r.some in
      let out : depth + 1 - 1 ≡ depth = omega arith in
      record {
        read = open_token ∷ (r.read ++ close_token ∷ []);
        tree = sum_of r.spelled.0;
        whole = at ∙ ap (λ s. open_token ∷ s) (r.whole ∙ (ap (λ b. r.read ++ b) next ∙ sym (append_assoc r.read (close_token ∷ []) behind)));
        spelled = group_atom r.read r.spelled.0 r.spelled.1;
        some = omega arith;
        steps = r.steps ∙ ap (λ e. old ++ postfix e) r.spelled.2;
        left = subst (λ d. go_on false d behind ≡ true) out (and_parts (fits false (depth + 1) close_token) (go_on false (depth + 1 - 1) behind) (subst (λ s. go_on false (depth + 1) s ≡ true) next r.left)).1;
        stops = after_nothing behind;
      }

-- Where no group is open, nothing is left behind a sum.

after_tests : (o c n q p s : Bool) → (q || s || (o || n) || p) ≡ false → ((o || c || n || q || p || s) && not (c && true)) ≡ true → ⊥
after_tests o c n q p s after fit = grind (arith, nat_tests)

inner_after : (token : Token) → after_sum token ≡ false → fits false 0 token ≡ true → ⊥
inner_after (Name name) after fit = cc
inner_after (Punct b) after fit = after_tests (eqb b 40) (eqb b 41) (eqb b 33) (eqb b 39) (eqb b 43) (eqb b 42) after fit

pub nothing_left : (rest : List Token) → go_on false 0 rest ≡ true → begins_with after_sum rest ≡ false → rest ≡ []
nothing_left [] ok stops = refl
nothing_left (token ∷ rest) ok stops = absurd (inner_after token stops (and_parts (fits false 0 token) (go_on (awaits_behind token) (depth_behind token 0) rest) ok).0)
