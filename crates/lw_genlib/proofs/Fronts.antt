-- Tokens that may stand one after the other spell an expression by the grammar.
use Rattle.std.proofs.Common.{ℕ, zero, suc, ◌+◌, ◌*◌, ◌<◌, ◌≤◌, ◌≡◌, Bool, true, false, not, ◌&&◌, ◌||◌, eqb, List, [], ◌∷◌, ◌++◌, length, ◌⊎◌, inl, inr, refl, sym, ap, ◌∙◌, subst, arith, append-nil}
use Rattle.std.specs.Prelude.{nat_lt, None}
use Rattle.std.proofs.lemmas.Bool.{eqb-true, and_parts, or_from}
use Rattle.std.proofs.lemmas.Bool.Decides.{nat_tests}
use Rattle.lw_laws.specs.Expressions.{Expr}
use Rattle.lw_genlib.specs.declared.token.Token.{Token}
use Rattle.lw_genlib.specs.declared.token.Token.TheVariants.{Name, Punct}
use Rattle.lw_genlib.specs.declared.op.ExprOp.{ExprOp}
use Rattle.lw_genlib.specs.declared.op.ExprOp.TheVariants.{Not, And, Or}
use Rattle.lw_genlib.specs.Postfix.{postfix}
use Rattle.lw_genlib.specs.Grammar.{literal_of, open_token, close_token, bang_token, plus_token, IsSum, IsProduct, IsFactor, IsAtom, is_punct, begins_operand, awaits_behind, depth_behind, fits, go_on, names_in, begins_with, Reads, SpellsProduct, SpellsSum, after_atom, after_factor, after_product, after_sum, IsNextFactor}
use Rattle.lw_genlib.specs.Grammar.IsAtom.{name_atom}
use Rattle.lw_genlib.specs.Spelled.{expression_of, inner_of}
use Rattle.lw_genlib.specs.Functions.{IsText, Says, pins_in, first_fault}
use Rattle.lw_genlib.specs.Merging.{name_first}
use Rattle.lw_genlib.proofs.Spelling.{SoFar, sum_begins, sum_goes_on, sum_ends, sum_stops, product_begins, product_goes_on, product_ends, product_stops, quoted, complemented, grouped, atom_is_factor, rest_length, names_short, next_goes_on, next_shorter, plus_goes_on, plus_shorter, nothing_left, after_nothing}
use Rattle.lw_genlib.proofs.Spelled.{spelled_is_read}
use Rattle.lw_genlib.proofs.Faultless.{faultless, inner_at}

-- What is read from the front of the tokens, where these are the steps before it.
record Front (Spells : List Token → Expr → Type 0) (follows : Token → Bool) (depth : ℕ) (tokens : List Token) (old : List ExprOp) : Type 0 where
  rest : List Token
  new : List ExprOp
  reads : Reads Spells follows depth tokens rest old new

pub by_test : {A : Type 0} (b : Bool) → (b ≡ true → A) → (b ≡ false → A) → A
by_test true if_true if_false = if_true refl
by_test false if_true if_false = if_false refl

shorter : (tokens read rest : List Token) → tokens ≡ read ++ rest → 1 ≤ names_in read → length rest < length tokens
shorter tokens read rest whole some =
    let size : length tokens ≡ length read + length rest = rest_length tokens read rest whole in
    let short : names_in read ≤ length read = names_short read in
    omega arith

-- Behind a sum in a group stands the group's end.

close_test : (o c n q p s x : Bool) → (q || s || (o || n) || p) ≡ false → ((o || c || n || q || p || s) && not (c && x)) ≡ true → c ≡ true
close_test o c n q p s x after fit = grind (arith, nat_tests)

closes : (depth : ℕ) (rest : List Token) → begins_with after_sum rest ≡ false → go_on false (depth + 1) rest ≡ true → (behind : List Token) × (rest ≡ close_token ∷ behind)
closes depth [] stops ok = let none : depth + 1 ≡ 0 = eqb-true (depth + 1) 0 ok in absurd (omega arith)
closes depth (Name n ∷ rest) stops ok = cc
closes depth (Punct b ∷ rest) stops ok = (
  rest,
  ap (λ m. Punct m ∷ rest) (eqb-true b 41
      (close_test (eqb b 40) (eqb b 41) (eqb b 33) (eqb b 39) (eqb b 43) (eqb b 42) (eqb (depth + 1) 0) stops
      (and_parts (fits false (depth + 1) (Punct b)) (go_on (awaits_behind (Punct b)) (depth_behind (Punct b) (depth + 1)) rest) ok).0)),
)

no_operand : (o n r : Bool) → o ≡ false → n ≡ false → ((o || n) && r) ≡ true → ⊥
no_operand o n r no_group no_bang ok = grind (arith, nat_tests)

-- What stands behind, if it goes on.

next_factor : (rest : List Token) → ((behind : List Token) × IsNextFactor rest behind) ⊎ (begins_with (λ token. is_punct 42 token || begins_operand token) rest ≡ false)
next_factor [] = inr refl
next_factor (Name m ∷ rest) = inl (Name m ∷ rest, inr (refl, refl))
next_factor (Punct b ∷ rest) =
    by_test (eqb b 42) (λ star. inl (rest, inl (ap (λ m. Punct m ∷ rest) (eqb-true b 42 star))))
    (λ other. by_test (eqb b 40 || eqb b 33) (λ begins. inl (Punct b ∷ rest, inr (refl, begins))) (λ none. inr (or_from (eqb b 42) (eqb b 40 || eqb b 33) other none)))

next_product : (rest : List Token) → ((behind : List Token) × (rest ≡ plus_token ∷ behind)) ⊎ (begins_with (is_punct 43) rest ≡ false)
next_product [] = inr refl
next_product (Name m ∷ rest) = inr refl
next_product (Punct b ∷ rest) = by_test (eqb b 43) (λ plus. inl (rest, ap (λ m. Punct m ∷ rest) (eqb-true b 43 plus))) (λ other. inr other)

module _ (pins : List (List ℕ)) where
  name_front : (depth : ℕ) (name : List ℕ) (tokens : List Token) (old : List ExprOp) → go_on true depth (Name name ∷ tokens) ≡ true → Front (IsAtom pins) after_atom depth (Name name ∷ tokens) old
  name_front depth name tokens old ok = record {
    rest = tokens;
    new = old ++ postfix (literal_of pins name);
    reads = record {
      read = Name name ∷ [];
      tree = literal_of pins name;
      whole = refl;
      spelled = name_atom name;
      some = omega arith;
      steps = refl;
      left = ok;
      stops = after_nothing tokens;
    };
  }

  group_front : (depth : ℕ) (tokens : List Token) (old : List ExprOp) → Front (SpellsSum pins) after_sum (depth + 1) tokens old → Front (IsAtom pins) after_atom depth (open_token ∷ tokens) old
  group_front depth tokens old f =
      let next = closes depth f.rest f.reads.stops f.reads.left in
      record { rest = next.0; new = f.new; reads = grouped pins depth old f.new (open_token ∷ tokens) tokens f.rest next.0 refl f.reads next.1 }

  behind_open : (depth b : ℕ) (tokens : List Token) → b ≡ 40 → go_on true depth (Punct b ∷ tokens) ≡ true → go_on true (depth + 1) tokens ≡ true
  behind_open depth b tokens is ok = here (subst (λ m. go_on true depth (Punct m ∷ tokens) ≡ true) is ok)
    where
      here : go_on true depth (open_token ∷ tokens) ≡ true → go_on true (depth + 1) tokens ≡ true
      here h = h

  behind_bang : (depth b : ℕ) (tokens : List Token) → b ≡ 33 → go_on true depth (Punct b ∷ tokens) ≡ true → go_on true depth tokens ≡ true
  behind_bang depth b tokens is ok = here (subst (λ m. go_on true depth (Punct m ∷ tokens) ≡ true) is ok)
    where
      here : go_on true depth (bang_token ∷ tokens) ≡ true → go_on true depth tokens ≡ true
      here h = h

  bang_front : (depth b : ℕ) (tokens : List Token) (old : List ExprOp) → b ≡ 33 → Front (IsFactor pins) after_factor depth tokens old → Front (IsFactor pins) after_factor depth (Punct b ∷ tokens) old
  bang_front depth b tokens old is f =
      subst (λ m. Front (IsFactor pins) after_factor depth (Punct m ∷ tokens) old) (sym is)
      (record { rest = f.rest; new = f.new ++ Not ∷ []; reads = complemented pins depth old f.new (f.new ++ Not ∷ []) refl tokens f.rest f.reads })

  atom_ends : (depth : ℕ) (tokens : List Token) (old : List ExprOp) (rest : List Token) (new : List ExprOp) → Reads (IsAtom pins) after_atom depth tokens rest old new → begins_with after_factor rest ≡ false → Front (IsAtom pins) after_factor depth tokens old
  atom_ends depth tokens old rest new r stops = record {
    rest = rest;
    new = new;
    reads = record { read = r.read; tree = r.tree; whole = r.whole; spelled = r.spelled; some = r.some; steps = r.steps; left = r.left; stops = stops };
  }

  quotes : (depth : ℕ) (tokens : List Token) (old : List ExprOp) (rest : List Token) (new : List ExprOp) → Reads (IsAtom pins) after_atom depth tokens rest old new → Front (IsAtom pins) after_factor depth tokens old
  quotes depth tokens old [] new r = atom_ends depth tokens old [] new r refl
  quotes depth tokens old (Name m ∷ rest) new r = atom_ends depth tokens old (Name m ∷ rest) new r refl
  quotes depth tokens old (Punct b ∷ rest) new r =
      by_test (eqb b 39)
      (λ quote. quotes depth tokens old rest (new ++ Not ∷ []) (quoted pins depth old new (new ++ Not ∷ []) refl tokens (Punct b ∷ rest) rest r (ap (λ m. Punct m ∷ rest) (eqb-true b 39 quote))))
      (λ other. atom_ends depth tokens old (Punct b ∷ rest) new r other)

  factor_of : (depth : ℕ) (tokens : List Token) (old : List ExprOp) → Front (IsAtom pins) after_factor depth tokens old → Front (IsFactor pins) after_factor depth tokens old
  factor_of depth tokens old f = record { rest = f.rest; new = f.new; reads = atom_is_factor pins depth tokens f.rest old f.new f.reads }

  product_done : (depth : ℕ) (tokens : List Token) (old : List ExprOp) (rest : List Token) (new : List ExprOp) (count : ℕ) → SoFar (IsProduct pins) after_factor depth tokens rest old new count
      → begins_with (λ token. is_punct 42 token || begins_operand token) rest ≡ false → Front (SpellsProduct pins) after_product depth tokens old
  product_done depth tokens old rest new count s none =
      let stops = product_stops rest s.stops none in
      by_test (nat_lt 1 count)
      (λ many. record { rest = rest; new = new ++ And count ∷ []; reads = product_ends pins depth tokens rest old new (new ++ And count ∷ []) count s (λ alone. let more : 1 < count = grind (arith, nat_tests) in absurd (omega arith)) (λ more. refl) stops })
      (λ few. record { rest = rest; new = new; reads = product_ends pins depth tokens rest old new new count s (λ alone. refl) (λ more. let alone : count ≤ 1 = grind (arith, nat_tests) in absurd (omega arith)) stops })

  sum_done : (depth : ℕ) (tokens : List Token) (old : List ExprOp) (rest : List Token) (new : List ExprOp) (count : ℕ) → SoFar (IsSum pins) after_product depth tokens rest old new count
      → begins_with (is_punct 43) rest ≡ false → Front (SpellsSum pins) after_sum depth tokens old
  sum_done depth tokens old rest new count s none =
      let stops = sum_stops rest s.stops none in
      by_test (nat_lt 1 count)
      (λ many. record { rest = rest; new = new ++ Or count ∷ []; reads = sum_ends pins depth tokens rest old new (new ++ Or count ∷ []) count s (λ alone. let more : 1 < count = grind (arith, nat_tests) in absurd (omega arith)) (λ more. refl) stops })
      (λ few. record { rest = rest; new = new; reads = sum_ends pins depth tokens rest old new new count s (λ alone. refl) (λ more. let alone : count ≤ 1 = grind (arith, nat_tests) in absurd (omega arith)) stops })

  mutual
    atom_front : (n depth : ℕ) (tokens : List Token) (old : List ExprOp) → 5 * length tokens < n → go_on true depth tokens ≡ true → begins_with (is_punct 33) tokens ≡ false → Front (IsAtom pins) after_atom depth tokens old
    atom_front zero depth tokens old size ok bang = absurd (omega arith)
    atom_front (suc n) depth [] old size ok bang = cc
    atom_front (suc n) depth (Name name ∷ tokens) old size ok bang = name_front depth name tokens old ok
    atom_front (suc n) depth (Punct b ∷ tokens) old size ok bang =
        by_test (eqb b 40)
        (λ group. let is : b ≡ 40 = eqb-true b 40 group in
        subst (λ m. Front (IsAtom pins) after_atom depth (Punct m ∷ tokens) old) (sym is) (group_front depth tokens old (sum_front n (depth + 1) tokens old (omega arith) (behind_open depth b tokens is ok))))
        (λ other. absurd (no_operand (eqb b 40) (eqb b 33) (go_on (awaits_behind (Punct b)) (depth_behind (Punct b) depth) tokens) other bang ok))

    quoted_front : (n depth : ℕ) (tokens : List Token) (old : List ExprOp) → 5 * length tokens + 1 < n → go_on true depth tokens ≡ true → begins_with (is_punct 33) tokens ≡ false → Front (IsAtom pins) after_factor depth tokens old
    quoted_front zero depth tokens old size ok bang = absurd (omega arith)
    quoted_front (suc n) depth tokens old size ok bang =
        let f = atom_front n depth tokens old (omega arith) ok bang in
        quotes depth tokens old f.rest f.new f.reads

    factor_front : (n depth : ℕ) (tokens : List Token) (old : List ExprOp) → 5 * length tokens + 2 < n → go_on true depth tokens ≡ true → Front (IsFactor pins) after_factor depth tokens old
    factor_front zero depth tokens old size ok = absurd (omega arith)
    factor_front (suc n) depth [] old size ok = cc
    factor_front (suc n) depth (Name name ∷ tokens) old size ok = factor_of depth (Name name ∷ tokens) old (quoted_front n depth (Name name ∷ tokens) old (omega arith) ok refl)
    factor_front (suc n) depth (Punct b ∷ tokens) old size ok =
        by_test (eqb b 33)
        (λ bang. let is : b ≡ 33 = eqb-true b 33 bang in bang_front depth b tokens old is (factor_front n depth tokens old (omega arith) (behind_bang depth b tokens is ok)))
        (λ other. factor_of depth (Punct b ∷ tokens) old (quoted_front n depth (Punct b ∷ tokens) old (omega arith) ok other))

    product_front : (n depth : ℕ) (tokens : List Token) (old : List ExprOp) → 5 * length tokens + 3 < n → go_on true depth tokens ≡ true → Front (SpellsProduct pins) after_product depth tokens old
    product_front zero depth tokens old size ok = absurd (omega arith)
    product_front (suc n) depth tokens old size ok =
        let f = factor_front n depth tokens old (omega arith) ok in
        let less : length f.rest < length tokens = shorter tokens f.reads.read f.rest f.reads.whole f.reads.some in
        product_from n depth tokens old f.rest f.new 1 (product_begins pins depth tokens old f.rest f.new f.reads) (omega arith)

    product_from : (n depth : ℕ) (tokens : List Token) (old : List ExprOp) (rest : List Token) (new : List ExprOp) (count : ℕ) → SoFar (IsProduct pins) after_factor depth tokens rest old new count → 5 * length rest + 3 < n → Front (SpellsProduct pins) after_product depth tokens old
    product_from zero depth tokens old rest new count s size = absurd (omega arith)
    product_from (suc n) depth tokens old rest new count s size =
        elim (next_factor rest) [
          | inl next ↦
              let short = next_shorter rest next.0 next.1 in
              let long : length next.0 ≤ length rest = short.1 in
              let f = factor_front n depth next.0 new (omega arith) (next_goes_on depth rest next.0 next.1 s.left) in
              let less : length f.rest < length next.0 = shorter next.0 f.reads.read f.rest f.reads.whole f.reads.some in
              product_from n depth tokens old f.rest f.new (count + 1) (product_goes_on pins depth tokens old rest next.0 f.rest new f.new count s next.1 f.reads) (omega arith)
          | inr none ↦ product_done depth tokens old rest new count s none
        ]

    sum_front : (n depth : ℕ) (tokens : List Token) (old : List ExprOp) → 5 * length tokens + 4 < n → go_on true depth tokens ≡ true → Front (SpellsSum pins) after_sum depth tokens old
    sum_front zero depth tokens old size ok = absurd (omega arith)
    sum_front (suc n) depth tokens old size ok =
        let f = product_front n depth tokens old (omega arith) ok in
        let less : length f.rest < length tokens = shorter tokens f.reads.read f.rest f.reads.whole f.reads.some in
        sum_from n depth tokens old f.rest f.new 1 (sum_begins pins depth tokens old f.rest f.new f.reads) (omega arith)

    sum_from : (n depth : ℕ) (tokens : List Token) (old : List ExprOp) (rest : List Token) (new : List ExprOp) (count : ℕ) → SoFar (IsSum pins) after_product depth tokens rest old new count → 5 * length rest + 4 < n → Front (SpellsSum pins) after_sum depth tokens old
    sum_from zero depth tokens old rest new count s size = absurd (omega arith)
    sum_from (suc n) depth tokens old rest new count s size =
        elim (next_product rest) [
          | inl next ↦
              let short = plus_shorter rest next.0 next.1 in
              let long : length next.0 ≤ length rest = short.1 in
              let f = product_front n depth next.0 new (omega arith) (plus_goes_on depth rest next.0 next.1 s.left) in
              let less : length f.rest < length next.0 = shorter next.0 f.reads.read f.rest f.reads.whole f.reads.some in
              sum_from n depth tokens old f.rest f.new (count + 1) (sum_goes_on pins depth tokens old rest next.0 f.rest new f.new count s next.1 f.reads) (omega arith)
          | inr none ↦ sum_done depth tokens old rest new count s none
        ]

  -- tokens that may stand one after the other spell the expression that is read from them
  pub spells_read : (tokens : List Token) → go_on true 0 tokens ≡ true → SpellsSum pins tokens (expression_of pins tokens)
  spells_read tokens ok =
      let f = sum_front (5 * length tokens + 5) 0 tokens [] (omega arith) ok in
      let all : tokens ≡ f.reads.read = f.reads.whole ∙ (ap (λ b. f.reads.read ++ b) (nothing_left f.rest f.reads.left f.reads.stops) ∙ append-nil f.reads.read) in
      let spelled : SpellsSum pins tokens f.reads.tree = subst (λ s. SpellsSum pins s f.reads.tree) (sym all) f.reads.spelled in
      subst (SpellsSum pins tokens) (sym (spelled_is_read pins tokens f.reads.tree spelled)) spelled

-- tokens spell one expression at most
pub one_spelled : (pins : List (List ℕ)) (tokens : List Token) (e f : Expr) → SpellsSum pins tokens e → SpellsSum pins tokens f → e ≡ f
one_spelled pins tokens e f left right = sym (spelled_is_read pins tokens e left) ∙ spelled_is_read pins tokens f right

-- what a function without a fault says
pub function_says : (tokens : List Token) (lines : List ℕ) → IsText tokens → length lines ≡ length tokens → first_fault [] lines tokens ≡ None → Says tokens (name_first tokens) (pins_in tokens) (expression_of (pins_in tokens) (inner_of tokens))
function_says tokens lines text size none =
    let f = faultless tokens lines text size none in
    let inner : inner_of tokens ≡ f.inner = (inner_at tokens f.inner f.output f.whole).1 in
    let output : f.output ≡ name_first tokens = sym (ap name_first f.whole) in
    record {
      inner = f.inner;
      whole = f.whole ∙ ap (λ n. Name n ∷ Punct 61 ∷ (f.inner ++ Punct 59 ∷ [])) output;
      named = refl;
      few = f.pins;
      spelled = subst (λ (s : List Token). SpellsSum (pins_in tokens) f.inner (expression_of (pins_in tokens) s)) (sym inner) (spells_read (pins_in tokens) f.inner f.goes_on);
    }
