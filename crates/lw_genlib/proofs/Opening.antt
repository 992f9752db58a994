-- Which groups are open behind tokens that may stand, and that each of their counts is small.
use Rattle.std.proofs.Common.{ℕ, ◌+◌, ◌-◌, ◌<◌, ◌≤◌, ◌≡◌, ◌^◌, Bool, true, false, not, ◌&&◌, ◌||◌, eqb, List, [], ◌∷◌, ◌++◌, length, get_or, take, drop, Option, Some, refl, sym, ap, ◌∙◌, subst, arith, length-append}
use Rattle.std.specs.Prelude.{fold}
use Rattle.std.proofs.lemmas.Bool.{and_parts, eqb-true, false≢true}
use Rattle.std.proofs.lemmas.Bool.Decides.{nat_tests}
use Rattle.std.proofs.lemmas.List.{same_from_push, take_all, take_more, drop_all, drop_more, take-append-drop}
use Rattle.std.proofs.lemmas.List.Sums.{fold-append}
use Rattle.lw_laws.specs.Expressions.{Expr}
use Rattle.lw_laws.specs.Expressions.Expr.{expr_not}
use Rattle.lw_genlib.specs.declared.token.Token.{Token}
use Rattle.lw_genlib.specs.declared.token.Token.TheVariants.{Name, Punct}
use Rattle.lw_genlib.specs.declared.op.ExprOp.{ExprOp}
use Rattle.lw_genlib.specs.declared.op.ExprOp.TheVariants.{And, Or}
use Rattle.lw_genlib.specs.declared.parsing.Reading.{Reading}
use Rattle.lw_genlib.specs.declared.open_group.OpenGroup.{OpenGroup}
use Rattle.lw_genlib.specs.Postfix.{postfix, IsPostfix, tree_of}
use Rattle.lw_genlib.specs.Codes.{tree_of-postfix}
use Rattle.lw_genlib.specs.Grammar.{literal_of, product_of, close_token, awaits_behind, depth_behind, fits, go_on, names_in, SpellsSum}
use Rattle.lw_genlib.specs.Spelled.{Group, new_group, complements, factor_ended, value_of, value_of_all, with_token, expression_of}
use Rattle.lw_genlib.specs.Parsing.{IsNew, operator, operands_in, bangs_in, IsKept, AreKept, HasRead, EndsInAtom, AreOpen, MayTakeAt, MayTake, Takes}
use Rattle.lw_genlib.proofs.Spelling.{names_append}
use Rattle.lw_genlib.proofs.Grammars.{spelled_postfix}
use Rattle.lw_genlib.proofs.Fronts.{spells_read, by_test}
use Rattle.lw_genlib.proofs.Taking.{group_at, some_factors, kept_sum}

-- an atom stands last where no operand is awaited, and so before a token that may not stand where one is
atom_last : (awaits : Bool) (depth : ℕ) (token : Token) (groups : List Group) → fits awaits depth token ≡ true → fits true depth token ≡ false → (awaits ≡ false → EndsInAtom groups) → EndsInAtom groups
atom_last true depth token groups ok never atom = absurd (false≢true (sym never ∙ ok))
atom_last false depth token groups ok never atom = atom refl

no_such_token : (o c n q p s x : Bool) → o ≡ false → c ≡ false → n ≡ false → q ≡ false → p ≡ false → s ≡ false → ((o || c || n || q || p || s) && x) ≡ true → ⊥
no_such_token o c n q p s x e1 e2 e3 e4 e5 e6 fit = grind (arith, nat_tests)

no_operand : (o n : Bool) → o ≡ false → n ≡ false → (o || n) ≡ true → ⊥
no_operand o n e1 e2 fit = grind (arith, nat_tests)

module _ (pins : List (List ℕ)) (awaits : Bool) (depth names long : ℕ) where
  -- what is known behind one more token
  abbrev Behind : Token → List Group → Type 0
  Behind token groups = AreOpen (awaits_behind token) (depth_behind token depth) (names + names_in (token ∷ [])) (long + 1) (with_token pins groups token)

  module _ (g : Group) (groups : List Group) (h : AreOpen awaits depth names long (g ∷ groups)) where
    few : length g.products + length (factor_ended g).factors + operands_in groups ≤ names
    few = h.few

    name_open : (name : List ℕ) → Behind (Name name) (g ∷ groups)
    name_open name =
        let e : Expr = literal_of pins name in
        let more : length ((factor_ended g).factors ++ complements (factor_ended g).bangs e ∷ []) ≡ length (factor_ended g).factors + 1 = length-append (factor_ended g).factors (complements (factor_ended g).bangs e ∷ []) in
        record { open_groups = h.open_groups; atom = λ none. (e, refl); few = omega (arith, few, more); bangs = omega arith }

    bang_open : Behind (Punct 33) (g ∷ groups)
    bang_open =
        let some : (factor_ended g).bangs ≤ long = h.bangs in
        record { open_groups = h.open_groups; atom = λ none. absurd (false≢true (sym none)); few = omega (arith, few); bangs = omega arith }

    star_open : Behind (Punct 42) (g ∷ groups)
    star_open =
        let some : (factor_ended g).bangs ≤ long = h.bangs in
        record { open_groups = h.open_groups; atom = λ none. absurd (false≢true (sym none)); few = omega (arith, few); bangs = omega arith }

    group_open : Behind (Punct 40) (g ∷ groups)
    group_open =
        let size : length (g ∷ groups) ≡ depth + 1 = h.open_groups in
        record { open_groups = omega arith; atom = λ none. absurd (false≢true (sym none)); few = omega (arith, few); bangs = omega arith }

    plus_open : EndsInAtom (g ∷ groups) → Behind (Punct 43) (g ∷ groups)
    plus_open ends =
        let some : 1 ≤ length (factor_ended g).factors = some_factors g ends.0 ends.1 in
        let more : length (g.products ++ product_of (factor_ended g).factors ∷ []) ≡ length g.products + 1 = length-append g.products (product_of (factor_ended g).factors ∷ []) in
        record { open_groups = h.open_groups; atom = λ none. absurd (false≢true (sym none)); few = omega (arith, few, more, some); bangs = omega arith }

  quote_open : (g : Group) (groups : List Group) (e : Expr) → g.atom ≡ Some e → AreOpen awaits depth names long (g ∷ groups) → Behind (Punct 39) (g ∷ groups)
  quote_open g groups e is = subst (λ (a : Option Expr). AreOpen awaits depth names long (group_at g a ∷ groups) → Behind (Punct 39) (group_at g a ∷ groups)) (sym is) here
    where
      here : AreOpen awaits depth names long (group_at g (Some e) ∷ groups) → Behind (Punct 39) (group_at g (Some e) ∷ groups)
      here h =
          let before : length (g.factors ++ complements g.bangs e ∷ []) ≡ length g.factors + 1 = length-append g.factors (complements g.bangs e ∷ []) in
          let behind : length (g.factors ++ complements g.bangs (expr_not e) ∷ []) ≡ length g.factors + 1 = length-append g.factors (complements g.bangs (expr_not e) ∷ []) in
          let few : length g.products + length (g.factors ++ complements g.bangs e ∷ []) + operands_in groups ≤ names = h.few in
          record { open_groups = h.open_groups; atom = λ none. (expr_not e, refl); few = omega (arith, few, before, behind); bangs = omega arith }

  close_open : (g : Group) (groups : List Group) → AreOpen awaits depth names long (g ∷ groups) → EndsInAtom (g ∷ groups) → eqb depth 0 ≡ false → Behind (Punct 41) (g ∷ groups)
  close_open g [] h ends inside =
      let size : length (g ∷ []) ≡ depth + 1 = h.open_groups in
      let none : depth ≡ 0 = omega arith in
      absurd (false≢true (sym inside ∙ ap (λ d. eqb d 0) none))
  close_open g (x ∷ groups) h ends inside =
      let e : Expr = value_of g in
      let size : length (g ∷ x ∷ groups) ≡ depth + 1 = h.open_groups in
      let some : 1 ≤ length (factor_ended g).factors = some_factors g ends.0 ends.1 in
      let more : length ((factor_ended x).factors ++ complements (factor_ended x).bangs e ∷ []) ≡ length (factor_ended x).factors + 1 = length-append (factor_ended x).factors (complements (factor_ended x).bangs e ∷ []) in
      let few : length g.products + length (factor_ended g).factors + (length x.products + length (factor_ended x).factors + operands_in groups) ≤ names = h.few in
      record { open_groups = omega arith; atom = λ none. (e, refl); few = omega (arith, few, more, some); bangs = omega arith }

  inside_group : fits awaits depth (Punct 41) ≡ true → eqb depth 0 ≡ false
  inside_group ok = by_awaits awaits ok
    where
      by_awaits : (a : Bool) → fits a depth (Punct 41) ≡ true → eqb depth 0 ≡ false
      by_awaits true fit = absurd (false≢true fit)
      by_awaits false fit = by_test (eqb depth 0) (λ none. absurd (false≢true (sym (ap not none) ∙ fit))) (λ some. some)

  pub open_step : (token : Token) (groups : List Group) → AreOpen awaits depth names long groups → fits awaits depth token ≡ true → AreOpen (awaits_behind token) (depth_behind token depth) (names + names_in (token ∷ [])) (long + 1) (with_token pins groups token)
  open_step token [] h ok = let size : length {A = Group} [] ≡ depth + 1 = h.open_groups in absurd (omega arith)
  open_step (Name name) (g ∷ groups) h ok = name_open g groups h name
  open_step (Punct b) (g ∷ groups) h ok =
      by_test (eqb b 40) (λ is. at 40 is (λ fit. group_open g groups h)) (λ not_open.
      by_test (eqb b 41) (λ is. at 41 is (λ fit. close_open g groups h (atom 41 fit refl) (inside_group fit))) (λ not_close.
      by_test (eqb b 33) (λ is. at 33 is (λ fit. bang_open g groups h)) (λ not_bang.
      by_test (eqb b 39) (λ is. at 39 is (λ fit. let ends = atom 39 fit refl in quote_open g groups ends.0 ends.1 h)) (λ not_quote.
      by_test (eqb b 43) (λ is. at 43 is (λ fit. plus_open g groups h (atom 43 fit refl))) (λ not_plus.
      by_test (eqb b 42) (λ is. at 42 is (λ fit. star_open g groups h)) (λ not_star.
      absurd (none awaits ok not_open not_close not_bang not_quote not_plus not_star)))))))
    where
      at : (m : ℕ) → eqb b m ≡ true → (fits awaits depth (Punct m) ≡ true → Behind (Punct m) (g ∷ groups)) → Behind (Punct b) (g ∷ groups)
      at m test then =
          let is : b ≡ m = eqb-true b m test in
          subst (λ k. Behind (Punct k) (g ∷ groups)) (sym is) (then (subst (λ k. fits awaits depth (Punct k) ≡ true) is ok))

      atom : (m : ℕ) → fits awaits depth (Punct m) ≡ true → fits true depth (Punct m) ≡ false → EndsInAtom (g ∷ groups)
      atom m fit never = atom_last awaits depth (Punct m) (g ∷ groups) fit never h.atom

      none : (a : Bool) → fits a depth (Punct b) ≡ true → eqb b 40 ≡ false → eqb b 41 ≡ false → eqb b 33 ≡ false → eqb b 39 ≡ false → eqb b 43 ≡ false → eqb b 42 ≡ false → ⊥
      none true fit e1 e2 e3 e4 e5 e6 = no_operand (eqb b 40) (eqb b 33) e1 e3 fit
      none false fit e1 e2 e3 e4 e5 e6 = no_such_token (eqb b 40) (eqb b 41) (eqb b 33) (eqb b 39) (eqb b 43) (eqb b 42) (not (eqb b 41 && eqb depth 0)) e1 e2 e3 e4 e5 e6 fit

-- What is counted in the groups that are kept is small.

pub record IsSmall (o : OpenGroup) : Type 0 where
  pub products : o.products < 255
  pub factors : o.factors < 255
  pub bangs : o.bangs < 2 ^ 32

module _ (token : Token) (reading : Reading) (may : MayTake token reading) where
  few_operands : operands_in (may.1.inmost ∷ may.1.around) ≤ 64
  few_operands =
      let few : operands_in (may.1.inmost ∷ may.1.around) ≤ may.2.names = subst (λ (gs : List Group). operands_in gs ≤ may.2.names) may.1.whole may.2.groups_open.few in
      let most : may.2.names + names_in (token ∷ []) ≤ 64 = may.2.few in
      omega arith

  pub inner_small : IsSmall reading.inner
  inner_small =
      let few : length may.1.inmost.products + length (factor_ended may.1.inmost).factors + operands_in may.1.around ≤ 64 = few_operands in
      let products : length may.1.inmost.products ≡ reading.inner.products = may.1.inner.products in
      let factors : length (factor_ended may.1.inmost).factors ≡ reading.inner.factors = may.1.inner.factors in
      let long : bangs_in (may.1.inmost ∷ may.1.around) ≤ may.2.long = subst (λ (gs : List Group). bangs_in gs ≤ may.2.long) may.1.whole may.2.groups_open.bangs in
      let these : (factor_ended may.1.inmost).bangs ≤ may.2.long = long in
      let bangs : (factor_ended may.1.inmost).bangs ≡ reading.inner.bangs = may.1.inner.bangs in
      let short : may.2.long + 1 ≤ 2 ^ 32 = may.2.short in
      record { products = omega arith; factors = omega arith; bangs = omega arith }

  pub outer_small : (rest : List OpenGroup) (group : OpenGroup) → reading.outer.items ≡ rest ++ group ∷ [] → group.factors < 255
  outer_small rest group popped =
      let few : length may.1.inmost.products + length (factor_ended may.1.inmost).factors + operands_in may.1.around ≤ 64 = few_operands in
      let among : group.factors ≤ operands_in may.1.around = of_kept may.1.around may.1.first may.1.outer in
      omega arith
    where
      of_kept : (around : List Group) (first : List ExprOp) → AreKept around reading.outer.items first → group.factors ≤ operands_in around
      of_kept [] first kept =
          let size : length {A = OpenGroup} [] ≡ length (rest ++ group ∷ []) = ap length (sym kept.0 ∙ popped) in
          let more : length (rest ++ group ∷ []) ≡ length rest + 1 = length-append rest (group ∷ []) in
          absurd (omega arith)
      of_kept (g ∷ around) first (before, o, outside, own, at, cut, others, kept) =
          let same : o ≡ group = (same_from_push before rest o group (sym at ∙ popped)).1 in
          let factors : length (factor_ended g).factors ≡ group.factors = kept.factors ∙ ap (λ (q : OpenGroup). q.factors) same in
          omega arith

-- a group that is closed has one around it
pub some_outer : (reading : Reading) → MayTake close_token reading → reading.outer.items ≡ [] → ⊥
some_outer reading may none = of_kept may.1.around may.1.first may.1.outer (ap (λ (gs : List Group). length gs) (sym may.1.whole) ∙ may.2.groups_open.open_groups)
  where
    inside : eqb may.2.depth 0 ≡ false
    inside = inside_group [] may.2.awaits may.2.depth 0 0 may.2.token_fits

    of_kept : (around : List Group) (first : List ExprOp) → AreKept around reading.outer.items first → length (may.1.inmost ∷ around) ≡ may.2.depth + 1 → ⊥
    of_kept [] first kept size =
        let nought : may.2.depth ≡ 0 = omega arith in
        false≢true (sym inside ∙ ap (λ d. eqb d 0) nought)
    of_kept (g ∷ around) first (before, o, outside, own, at, cut, others, kept) size =
        let long : length {A = OpenGroup} [] ≡ length (before ++ o ∷ []) = ap length (sym none ∙ at) in
        let more : length (before ++ o ∷ []) ≡ length before + 1 = length-append before (o ∷ []) in
        absurd (omega arith)

-- the groups that are open behind these tokens
abbrev pub open_behind : List (List ℕ) → List Token → List Group
open_behind pins tokens = fold (with_token pins) (new_group ∷ []) tokens

-- These tokens were read, and those may follow.
pub record IsBetween (pins : List (List ℕ)) (read rest : List Token) (reading : Reading) : Type 0 where
  pub awaits : Bool
  pub depth : ℕ
  pub has : HasRead (open_behind pins read) reading
  pub groups_open : AreOpen awaits depth (names_in read) (length read) (open_behind pins read)
  pub left : go_on awaits depth rest ≡ true

module _ (pins : List (List ℕ)) where
  pub begins : (tokens : List Token) (reading : Reading) → IsNew reading → go_on true 0 tokens ≡ true → IsBetween pins [] tokens reading
  begins tokens reading new ok = record {
    awaits = true;
    depth = 0;
    has = record {
      inmost = new_group;
      around = [];
      first = [];
      last = [];
      whole = refl;
      steps = new.ops;
      outer = (new.outer, refl);
      inner = subst (λ (o : OpenGroup). IsKept new_group o []) (sym new.inner) (record { products = refl; factors = refl; bangs = refl; steps = refl });
    };
    groups_open = record { open_groups = omega arith; atom = λ none. absurd (false≢true (sym none)); few = omega arith; bangs = omega arith };
    left = ok;
  }

  module _ (read rest : List Token) (token : Token) (old : Reading) (b : IsBetween pins read (token ∷ rest) old) where
    parts : (fits b.awaits b.depth token ≡ true) × (go_on (awaits_behind token) (depth_behind token b.depth) rest ≡ true)
    parts = and_parts (fits b.awaits b.depth token) (go_on (awaits_behind token) (depth_behind token b.depth) rest) b.left

    may_at : names_in (read ++ token ∷ rest) ≤ 64 → length (read ++ token ∷ rest) ≤ 2 ^ 32 → MayTakeAt token (open_behind pins read)
    may_at few short =
        let names : names_in (read ++ token ∷ rest) ≡ names_in read + names_in (token ∷ rest) = names_append read (token ∷ rest) in
        let front : names_in (token ∷ rest) ≡ names_in (token ∷ []) + names_in rest = names_append (token ∷ []) rest in
        let size : length (read ++ token ∷ rest) ≡ length read + length (token ∷ rest) = length-append read (token ∷ rest) in
        record {
          awaits = b.awaits;
          depth = b.depth;
          names = names_in read;
          long = length read;
          groups_open = b.groups_open;
          token_fits = parts.0;
          few = omega arith;
          short = omega arith;
        }

    pub may : names_in (read ++ token ∷ rest) ≤ 64 → length (read ++ token ∷ rest) ≤ 2 ^ 32 → MayTake token old
    may few short = (open_behind pins read, b.has, may_at few short)

    pub goes_on : (new : Reading) → names_in (read ++ token ∷ rest) ≤ 64 → length (read ++ token ∷ rest) ≤ 2 ^ 32 → Takes pins token old new → IsBetween pins (read ++ token ∷ []) rest new
    goes_on new few short takes =
        let groups : open_behind pins (read ++ token ∷ []) ≡ with_token pins (open_behind pins read) token = fold-append (with_token pins) (new_group ∷ []) read (token ∷ []) in
        let names : names_in (read ++ token ∷ []) ≡ names_in read + names_in (token ∷ []) = names_append read (token ∷ []) in
        let size : length (read ++ token ∷ []) ≡ length read + 1 = length-append read (token ∷ []) in
        record {
          awaits = awaits_behind token;
          depth = depth_behind token b.depth;
          has = subst (λ (gs : List Group). HasRead gs new) (sym groups) (takes (open_behind pins read) b.has (may_at few short));
          groups_open =
              subst (λ (gs : List Group). AreOpen (awaits_behind token) (depth_behind token b.depth) (names_in (read ++ token ∷ [])) (length (read ++ token ∷ [])) gs) (sym groups)
              (subst (λ n. AreOpen (awaits_behind token) (depth_behind token b.depth) n (length (read ++ token ∷ [])) (with_token pins (open_behind pins read) token)) (sym names)
              (subst (λ n. AreOpen (awaits_behind token) (depth_behind token b.depth) (names_in read + names_in (token ∷ [])) n (with_token pins (open_behind pins read) token)) (sym size)
              (open_step pins b.awaits b.depth (names_in read) (length read) token (open_behind pins read) b.groups_open parts.0)));
          left = parts.1;
        }

  -- What was read at the end.
  module _ (tokens : List Token) (reading : Reading) (b : IsBetween pins tokens [] reading) where
    ended : (b.awaits ≡ false) × (b.depth ≡ 0)
    ended = by_awaits b.awaits b.left
      where
        by_awaits : (a : Bool) → go_on a b.depth [] ≡ true → (a ≡ false) × (b.depth ≡ 0)
        by_awaits true ok = absurd (false≢true ok)
        by_awaits false ok = (refl, eqb-true b.depth 0 ok)

    outmost : b.has.around ≡ []
    outmost = none b.has.around (ap (λ (gs : List Group). length gs) (sym b.has.whole) ∙ (b.groups_open.open_groups ∙ ap (λ d. d + 1) ended.1))
      where
        none : (gs : List Group) → length (b.has.inmost ∷ gs) ≡ 0 + 1 → gs ≡ []
        none [] size = refl
        none (g ∷ gs) size = absurd (omega arith)

    pub few_products : names_in tokens ≤ 64 → reading.inner.products < 255
    few_products most =
        let few : operands_in (b.has.inmost ∷ b.has.around) ≤ names_in tokens = subst (λ (gs : List Group). operands_in gs ≤ names_in tokens) b.has.whole b.groups_open.few in
        let these : length b.has.inmost.products + length (factor_ended b.has.inmost).factors + operands_in b.has.around ≤ names_in tokens = few in
        let size : length b.has.inmost.products ≡ reading.inner.products = b.has.inner.products in
        omega arith

    pub whole_steps : (ops : List ExprOp) → ops ≡ reading.ops.items ++ operator And reading.inner.factors ++ operator Or (reading.inner.products + 1) → ops ≡ postfix (expression_of pins tokens)
    unfolding expression_of
    whole_steps ops grown =
        let ends : EndsInAtom (b.has.inmost ∷ b.has.around) = subst EndsInAtom b.has.whole (b.groups_open.atom ended.0) in
        let none : b.has.first ≡ [] = (subst (λ (gs : List Group). AreKept gs reading.outer.items b.has.first) outmost b.has.outer).1 in
        let steps : reading.ops.items ≡ b.has.last = b.has.steps ∙ ap (λ (s : List ExprOp). s ++ b.has.last) none in
        let value : value_of_all (open_behind pins tokens) ≡ value_of b.has.inmost = ap value_of_all b.has.whole in
        grown
        ∙ (ap (λ (s : List ExprOp). s ++ operator And reading.inner.factors ++ operator Or (reading.inner.products + 1)) steps
        ∙ (kept_sum b.has.inmost ends.0 ends.1 reading.inner b.has.last b.has.inner ∙ ap postfix (sym value)))

  -- the steps are those of the expression that the tokens spell
  pub record IsWhole (tokens : List Token) (ops : List ExprOp) : Type 0 where
    pub steps : IsPostfix ops
    pub spelled : SpellsSum pins tokens (tree_of ops)

  pub whole_read : (tokens : List Token) (ops : List ExprOp) → ops ≡ postfix (expression_of pins tokens) → go_on true 0 tokens ≡ true → names_in tokens ≤ 64 → IsWhole tokens ops
  whole_read tokens ops are ok few =
      let spelled : SpellsSum pins tokens (expression_of pins tokens) = spells_read pins tokens ok in
      let back : tree_of ops ≡ expression_of pins tokens = ap tree_of are ∙ tree_of-postfix (expression_of pins tokens) in
      record {
        steps = subst IsPostfix (sym are) (spelled_postfix pins tokens (expression_of pins tokens) spelled few);
        spelled = subst (SpellsSum pins tokens) (sym back) spelled;
      }

-- The tokens up to a place were read.
module _ (pins : List (List ℕ)) (tokens : List Token) (i : ℕ) (reading : Reading) (b : IsBetween pins (take i tokens) (drop i tokens) reading) where
  module _ (token : Token) (within : i < length tokens) (is : token ≡ get_or tokens i token) (few : names_in tokens ≤ 64) (short : length tokens ≤ 2 ^ 32) where
    next : drop i tokens ≡ token ∷ drop (i + 1) tokens
    next = drop_more tokens i token within ∙ ap (λ (t : Token). t ∷ drop (i + 1) tokens) (sym is)

    whole : tokens ≡ take i tokens ++ token ∷ drop (i + 1) tokens
    whole = sym (take-append-drop i tokens) ∙ ap (λ (s : List Token). take i tokens ++ s) next

    here : IsBetween pins (take i tokens) (token ∷ drop (i + 1) tokens) reading
    here = subst (λ (s : List Token). IsBetween pins (take i tokens) s reading) next b

    few_here : names_in (take i tokens ++ token ∷ drop (i + 1) tokens) ≤ 64
    few_here = subst (λ (s : List Token). names_in s ≤ 64) whole few

    short_here : length (take i tokens ++ token ∷ drop (i + 1) tokens) ≤ 2 ^ 32
    short_here = subst (λ (s : List Token). length s ≤ 2 ^ 32) whole short

    pub may_take : MayTake token reading
    may_take = may pins (take i tokens) (drop (i + 1) tokens) token reading here few_here short_here

    pub taken : (new : Reading) → Takes pins token reading new → IsBetween pins (take (i + 1) tokens) (drop (i + 1) tokens) new
    taken new takes =
        let more : take (i + 1) tokens ≡ take i tokens ++ token ∷ [] = take_more tokens i token within ∙ ap (λ (t : Token). take i tokens ++ t ∷ []) (sym is) in
        subst (λ (s : List Token). IsBetween pins s (drop (i + 1) tokens) new) (sym more) (goes_on pins (take i tokens) (drop (i + 1) tokens) token reading here new few_here short_here takes)

  pub all_read : length tokens ≤ i → IsBetween pins tokens [] reading
  all_read past = subst (λ (s : List Token). IsBetween pins s [] reading) (take_all i tokens past) (subst (λ (s : List Token). IsBetween pins (take i tokens) s reading) (drop_all i tokens past) b)
