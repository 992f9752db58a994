-- What a token does to the groups that are kept: their counts, and the steps of their operands.
use Rattle.std.proofs.Common.{ℕ, zero, suc, ◌+◌, ◌≤◌, ◌≡◌, Bool, true, false, cond, eqb, List, [], ◌∷◌, ◌++◌, length, Option, Some, refl, sym, ap, ap₂, ◌∙◌, subst, arith, append_assoc, append-nil, length-append}
use Rattle.std.specs.Prelude.{nat_le, replicate, Result, Ok, Err, OnOk}
use Rattle.std.proofs.lemmas.Bool.Decides.{nat_tests}
use Rattle.std.proofs.lemmas.List.{same_from_push}
use Rattle.lw_laws.specs.Expressions.{Expr}
use Rattle.lw_laws.specs.Expressions.Expr.{expr_not}
use Rattle.lw_genlib.specs.declared.token.Token.{Token}
use Rattle.lw_genlib.specs.declared.token.Token.TheVariants.{Name, Punct}
use Rattle.lw_genlib.specs.declared.op.ExprOp.{ExprOp}
use Rattle.lw_genlib.specs.declared.op.ExprOp.TheVariants.{Not, And, Or}
use Rattle.lw_genlib.specs.declared.open_group.OpenGroup.{OpenGroup}
use Rattle.lw_genlib.specs.declared.parsing.Reading.{Reading}
use Rattle.lw_genlib.specs.Postfix.{exprs_of, postfix, postfixes}
use Rattle.lw_genlib.specs.Grammar.{literal_of, product_of, sum_of, open_token, close_token, bang_token, quote_token, plus_token, fits}
use Rattle.lw_genlib.specs.Spelled.{Group, new_group, complements, with_factor, bangs_left, factor_ended, product_ended, with_bang, with_atom, with_quote, value_of, group_closed, with_token}
use Rattle.lw_genlib.specs.Parsing.{no_group, operator, IsKept, AreKept, HasRead, EndsInAtom, MayTakeAt, Takes}
use Rattle.lw_genlib.proofs.Spelling.{postfixes_more, part_count_of}

-- The steps of one more factor.

complement_steps : (n : ℕ) (e : Expr) → postfix (complements n e) ≡ postfix e ++ replicate n Not
complement_steps zero e = sym (append-nil (postfix e))
complement_steps (suc n) e = complement_steps n (expr_not e) ∙ append_assoc (postfix e) (Not ∷ []) (replicate n Not)

quoted_steps : (n : ℕ) (e : Expr) → postfix (complements n (expr_not e)) ≡ postfix (complements n e) ++ Not ∷ []
quoted_steps zero e = refl
quoted_steps (suc n) e = quoted_steps n (expr_not e)

factor_steps : (before ops new : List ExprOp) (es : List Expr) (n : ℕ) (e : Expr) → ops ≡ before ++ postfixes (exprs_of es) → new ≡ (ops ++ postfix e) ++ replicate n Not → new ≡ before ++ postfixes (exprs_of (es ++ complements n e ∷ []))
factor_steps before ops new es n e was is =
    is
    ∙ (append_assoc ops (postfix e) (replicate n Not)
    ∙ (ap₂ (λ (a b : List ExprOp). a ++ b) was (sym (complement_steps n e))
    ∙ (append_assoc before (postfixes (exprs_of es)) (postfix (complements n e)) ∙ ap (λ (r : List ExprOp). before ++ r) (sym (postfixes_more es (complements n e))))))

pub kept_factor : (g : Group) (o p : OpenGroup) (ops new : List ExprOp) (e : Expr) → IsKept g o ops → p ≡ record o { factors = o.factors + 1; bangs = 0 } → new ≡ (ops ++ postfix e) ++ replicate o.bangs Not → IsKept (with_atom g e) p new
kept_factor g o p ops new e k is grown = subst (λ (q : OpenGroup). IsKept (with_atom g e) q new) (sym is) here
  where
    here : IsKept (with_atom g e) (record o { factors = o.factors + 1; bangs = 0 }) new
    here = record {
      products = k.products;
      factors = length-append (factor_ended g).factors (complements (factor_ended g).bangs e ∷ []) ∙ ap (λ n. n + 1) k.factors;
      bangs = refl;
      steps = factor_steps (postfixes (exprs_of g.products)) ops new (factor_ended g).factors (factor_ended g).bangs e k.steps (grown ∙ ap (λ n. (ops ++ postfix e) ++ replicate n Not) (sym k.bangs));
    }

-- a group whose last factor has this atom, if any
abbrev pub group_at : Group → Option Expr → Group
group_at g a = record { products = g.products; factors = g.factors; bangs = g.bangs; atom = a }

last_quoted : (es : List Expr) (n : ℕ) (e : Expr) → postfixes (exprs_of (es ++ complements n e ∷ [])) ++ Not ∷ [] ≡ postfixes (exprs_of (es ++ complements n (expr_not e) ∷ []))
last_quoted es n e =
    ap (λ (s : List ExprOp). s ++ Not ∷ []) (postfixes_more es (complements n e))
    ∙ (append_assoc (postfixes (exprs_of es)) (postfix (complements n e)) (Not ∷ [])
    ∙ (ap (λ (s : List ExprOp). postfixes (exprs_of es) ++ s) (sym (quoted_steps n e)) ∙ sym (postfixes_more es (complements n (expr_not e)))))

quote_some : (g : Group) (e : Expr) (o : OpenGroup) (ops : List ExprOp) → IsKept (group_at g (Some e)) o ops → IsKept (with_quote (group_at g (Some e))) o (ops ++ Not ∷ [])
quote_some g e o ops k = record {
  products = k.products;
  factors = length-append g.factors (complements g.bangs (expr_not e) ∷ []) ∙ (sym (length-append g.factors (complements g.bangs e ∷ [])) ∙ k.factors);
  bangs = k.bangs;
  steps =
      ap (λ (s : List ExprOp). s ++ Not ∷ []) k.steps
      ∙ (append_assoc (postfixes (exprs_of g.products)) (postfixes (exprs_of (g.factors ++ complements g.bangs e ∷ []))) (Not ∷ [])
      ∙ ap (λ (s : List ExprOp). postfixes (exprs_of g.products) ++ s) (last_quoted g.factors g.bangs e));
}

pub kept_quote : (g : Group) (o : OpenGroup) (ops : List ExprOp) (e : Expr) → g.atom ≡ Some e → IsKept g o ops → IsKept (with_quote g) o (ops ++ Not ∷ [])
kept_quote g o ops e is = subst (λ (a : Option Expr). IsKept (group_at g a) o ops → IsKept (with_quote (group_at g a)) o (ops ++ Not ∷ [])) (sym is) (quote_some g e o ops)

pub kept_bang : (g : Group) (o p : OpenGroup) (ops : List ExprOp) → IsKept g o ops → p ≡ record o { bangs = o.bangs + 1 } → IsKept (with_bang g) p ops
kept_bang g o p ops k is = subst (λ (q : OpenGroup). IsKept (with_bang g) q ops) (sym is) here
  where
    here : IsKept (with_bang g) (record o { bangs = o.bangs + 1 }) ops
    here = let same : (factor_ended g).bangs ≡ o.bangs = k.bangs in record { products = k.products; factors = k.factors; bangs = omega arith; steps = k.steps }

pub kept_ended : (g : Group) (o : OpenGroup) (ops : List ExprOp) → IsKept g o ops → IsKept (factor_ended g) o ops
kept_ended g o ops k = record { products = k.products; factors = k.factors; bangs = k.bangs; steps = k.steps }

-- Operators.

operator_none : (op : ℕ → ExprOp) (n : ℕ) → n ≤ 1 → operator op n ≡ []
operator_none op n few = let test : nat_le 2 n ≡ false = grind (arith, nat_tests) in ap (λ b. cond b (op n ∷ []) []) test

operator_some : (op : ℕ → ExprOp) (n : ℕ) → 2 ≤ n → operator op n ≡ op n ∷ []
operator_some op n many = let test : nat_le 2 n ≡ true = grind (arith, nat_tests) in ap (λ b. cond b (op n ∷ []) []) test

alone_steps : (e : Expr) (op : ℕ → ExprOp) (n : ℕ) → n ≤ 1 → (postfix e ++ []) ++ operator op n ≡ postfix e
alone_steps e op n few = ap (λ (s : List ExprOp). (postfix e ++ []) ++ s) (operator_none op n few) ∙ (append-nil (postfix e ++ []) ∙ append-nil (postfix e))

product_steps : (es : List Expr) (n : ℕ) → length es ≡ n → 1 ≤ n → postfixes (exprs_of es) ++ operator And n ≡ postfix (product_of es)
product_steps [] n size some = absurd (omega arith)
product_steps (e ∷ []) n size some = alone_steps e And n (omega arith)
product_steps (e ∷ f ∷ es) n size some =
    ap (λ (s : List ExprOp). postfixes (exprs_of (e ∷ f ∷ es)) ++ s) (operator_some And n (omega arith) ∙ ap (λ m. And m ∷ []) (sym size ∙ sym (part_count_of (e ∷ f ∷ es))))

sum_steps : (es : List Expr) (n : ℕ) → length es ≡ n → 1 ≤ n → postfixes (exprs_of es) ++ operator Or n ≡ postfix (sum_of es)
sum_steps [] n size some = absurd (omega arith)
sum_steps (e ∷ []) n size some = alone_steps e Or n (omega arith)
sum_steps (e ∷ f ∷ es) n size some =
    ap (λ (s : List ExprOp). postfixes (exprs_of (e ∷ f ∷ es)) ++ s) (operator_some Or n (omega arith) ∙ ap (λ m. Or m ∷ []) (sym size ∙ sym (part_count_of (e ∷ f ∷ es))))

-- A group that ends in an atom.
module _ (g : Group) (e : Expr) (ends : g.atom ≡ Some e) where
  pub some_factors : 1 ≤ length (factor_ended g).factors
  some_factors =
      let one : length (with_factor g.factors g.bangs g.atom) ≡ length g.factors + 1 = ap (λ (a : Option Expr). length (with_factor g.factors g.bangs a)) ends ∙ length-append g.factors (complements g.bangs e ∷ []) in
      omega arith

  pub no_bangs : (factor_ended g).bangs ≡ 0
  no_bangs = ap (bangs_left g.bangs) ends

  module _ (o : OpenGroup) (ops : List ExprOp) (k : IsKept g o ops) where
    product_kept : ops ++ operator And o.factors ≡ postfixes (exprs_of (product_ended g).products)
    product_kept =
        let size : length (factor_ended g).factors ≡ o.factors = k.factors in
        let some : 1 ≤ length (factor_ended g).factors = some_factors in
        ap (λ (s : List ExprOp). s ++ operator And o.factors) k.steps
        ∙ (append_assoc (postfixes (exprs_of g.products)) (postfixes (exprs_of (factor_ended g).factors)) (operator And o.factors)
        ∙ (ap (λ (s : List ExprOp). postfixes (exprs_of g.products) ++ s) (product_steps (factor_ended g).factors o.factors size (omega arith)) ∙ sym (postfixes_more g.products (product_of (factor_ended g).factors))))

    products_more : length (product_ended g).products ≡ o.products + 1
    products_more = length-append g.products (product_of (factor_ended g).factors ∷ []) ∙ ap (λ n. n + 1) k.products

    pub kept_sum : ops ++ operator And o.factors ++ operator Or (o.products + 1) ≡ postfix (value_of g)
    kept_sum = ap (λ (s : List ExprOp). s ++ operator Or (o.products + 1)) product_kept ∙ sum_steps (product_ended g).products (o.products + 1) products_more (omega arith)

    pub kept_plus : (p : OpenGroup) → p ≡ record o { products = o.products + 1; factors = 0 } → IsKept (product_ended g) p (ops ++ operator And o.factors)
    kept_plus p is = subst (λ (q : OpenGroup). IsKept (product_ended g) q (ops ++ operator And o.factors)) (sym is) here
      where
        here : IsKept (product_ended g) (record o { products = o.products + 1; factors = 0 }) (ops ++ operator And o.factors)
        here = record { products = products_more; factors = refl; bangs = sym no_bangs ∙ k.bangs; steps = product_kept ∙ sym (append-nil (postfixes (exprs_of (product_ended g).products))) }

-- What a token does to all that was read.
module _ (pins : List (List ℕ)) (old new : Reading) where
  -- the inmost group alone changes
  inmost_taken : (groups : List Group) (token : Token) (g : Group) (more : List ExprOp) (h : HasRead groups old) → new.outer.items ≡ old.outer.items → new.ops.items ≡ old.ops.items ++ more → IsKept g new.inner (h.last ++ more)
      → with_token pins (h.inmost ∷ h.around) token ≡ g ∷ h.around → HasRead (with_token pins groups token) new
  inmost_taken groups token g more h same grown kept goes = record {
    inmost = g;
    around = h.around;
    first = h.first;
    last = h.last ++ more;
    whole = ap (λ (gs : List Group). with_token pins gs token) h.whole ∙ goes;
    steps = grown ∙ (ap (λ (s : List ExprOp). s ++ more) h.steps ∙ append_assoc h.first h.last more);
    outer = subst (λ (opens : List OpenGroup). AreKept h.around opens h.first) (sym same) h.outer;
    inner = kept;
  }

  -- nothing changes but the group, which is kept in the same way
  pub same_taken : (groups : List Group) (token : Token) (g : Group) (h : HasRead groups old) → new.outer.items ≡ old.outer.items → new.ops.items ≡ old.ops.items → IsKept g new.inner h.last → with_token pins (h.inmost ∷ h.around) token ≡ g ∷ h.around
      → HasRead (with_token pins groups token) new
  same_taken groups token g h same grown kept goes =
      inmost_taken groups token g [] h same (grown ∙ sym (append-nil old.ops.items)) (subst (IsKept g new.inner) (sym (append-nil h.last)) kept) goes

  pub name_taken : (name : List ℕ) (op : ExprOp) → op ∷ [] ≡ postfix (literal_of pins name) → new.outer.items ≡ old.outer.items → new.inner ≡ record old.inner { factors = old.inner.factors + 1; bangs = 0 }
      → new.ops.items ≡ (old.ops.items ++ op ∷ []) ++ replicate old.inner.bangs Not → Takes pins (Name name) old new
  name_taken name op literal same group grown groups h may =
      let more : List ExprOp = postfix (literal_of pins name) ++ replicate old.inner.bangs Not in
      inmost_taken groups (Name name) (with_atom h.inmost (literal_of pins name)) more h same
      (grown ∙ (ap (λ (s : List ExprOp). (old.ops.items ++ s) ++ replicate old.inner.bangs Not) literal ∙ append_assoc old.ops.items (postfix (literal_of pins name)) (replicate old.inner.bangs Not)))
      (kept_factor h.inmost old.inner new.inner h.last (h.last ++ more) (literal_of pins name) h.inner group (sym (append_assoc h.last (postfix (literal_of pins name)) (replicate old.inner.bangs Not))))
      refl

  pub bang_taken : new.outer.items ≡ old.outer.items → new.inner ≡ record old.inner { bangs = old.inner.bangs + 1 } → new.ops.items ≡ old.ops.items → Takes pins bang_token old new
  bang_taken same group grown groups h may = same_taken groups bang_token (with_bang h.inmost) h same grown (kept_bang h.inmost old.inner new.inner h.last h.inner group) refl

  pub open_taken : new.outer.items ≡ old.outer.items ++ old.inner ∷ [] → new.inner ≡ no_group → new.ops.items ≡ old.ops.items → Takes pins open_token old new
  open_taken more group same groups h may = record {
    inmost = new_group;
    around = factor_ended h.inmost ∷ h.around;
    first = old.ops.items;
    last = [];
    whole = ap (λ (gs : List Group). with_token pins gs open_token) h.whole;
    steps = same ∙ sym (append-nil old.ops.items);
    outer = (old.outer.items, old.inner, h.first, h.last, more, h.steps, h.outer, kept_ended h.inmost old.inner h.last h.inner);
    inner = subst (λ (o : OpenGroup). IsKept new_group o []) (sym group) (record { products = refl; factors = refl; bangs = refl; steps = refl });
  }

  -- an atom stands last where no operand is awaited
  pub ends_in_atom : (groups : List Group) (token : Token) (h : HasRead groups old) (may : MayTakeAt token groups) → fits true may.depth token ≡ false → (e : Expr) × (h.inmost.atom ≡ Some e)
  ends_in_atom groups token h may not_first = subst EndsInAtom h.whole (may.groups_open.atom (rest may.awaits may.token_fits))
    where
      rest : (awaits : Bool) → fits awaits may.depth token ≡ true → awaits ≡ false
      rest true ok = sym ok ∙ not_first
      rest false ok = refl

  pub quote_taken : new.outer.items ≡ old.outer.items → new.inner ≡ old.inner → new.ops.items ≡ old.ops.items ++ Not ∷ [] → Takes pins quote_token old new
  quote_taken same group grown groups h may =
      let ends = ends_in_atom groups quote_token h may refl in
      inmost_taken groups quote_token (with_quote h.inmost) (Not ∷ []) h same grown
      (subst (λ (o : OpenGroup). IsKept (with_quote h.inmost) o (h.last ++ Not ∷ [])) (sym group) (kept_quote h.inmost old.inner h.last ends.0 ends.1 h.inner))
      refl

  pub plus_taken : new.outer.items ≡ old.outer.items → new.inner ≡ record old.inner { products = old.inner.products + 1; factors = 0 } → new.ops.items ≡ old.ops.items ++ operator And old.inner.factors → Takes pins plus_token old new
  plus_taken same group grown groups h may =
      let ends = ends_in_atom groups plus_token h may refl in
      inmost_taken groups plus_token (product_ended h.inmost) (operator And old.inner.factors) h same grown (kept_plus h.inmost ends.0 ends.1 old.inner h.last h.inner new.inner group) refl

  -- the steps of a group that is closed, under the `!` that wait for it
  closed_steps : (first last outside own and or nots sum : List ExprOp) → old.ops.items ≡ first ++ last → first ≡ outside ++ own → last ++ and ++ or ≡ sum → new.ops.items ≡ (old.ops.items ++ and ++ or) ++ nots
      → new.ops.items ≡ outside ++ ((own ++ sum) ++ nots)
  closed_steps first last outside own and or nots sum was cut is grown =
      let whole : old.ops.items ++ and ++ or ≡ first ++ sum =
      ap (λ (s : List ExprOp). s ++ and ++ or) was ∙ (ap (λ (s : List ExprOp). s ++ or) (append_assoc first last and) ∙ (append_assoc first (last ++ and) or ∙ ap (λ (s : List ExprOp). first ++ s) is)) in
      grown
      ∙ (ap (λ (s : List ExprOp). s ++ nots) (whole ∙ (ap (λ (s : List ExprOp). s ++ sum) cut ∙ append_assoc outside own sum)) ∙ append_assoc outside (own ++ sum) nots)

  pub close_taken : (group : OpenGroup) → old.outer.items ≡ new.outer.items ++ group ∷ [] → new.inner ≡ record group { factors = group.factors + 1; bangs = 0 }
      → new.ops.items ≡ (old.ops.items ++ operator And old.inner.factors ++ operator Or (old.inner.products + 1)) ++ replicate group.bangs Not → Takes pins close_token old new
  close_taken group popped factor grown groups h may =
      let ends = ends_in_atom groups close_token h may refl in
      subst (λ (gs : List Group). HasRead (with_token pins gs close_token) new) (sym h.whole)
      (closing h.around h.first h.outer h.steps (kept_sum h.inmost ends.0 ends.1 old.inner h.last h.inner))
    where
      closing : (around : List Group) (first : List ExprOp) → AreKept around old.outer.items first → old.ops.items ≡ first ++ h.last → h.last ++ operator And old.inner.factors ++ operator Or (old.inner.products + 1) ≡ postfix (value_of h.inmost)
          → HasRead (group_closed (value_of h.inmost) around) new
      closing [] first kept was is =
          let none : [] ≡ new.outer.items ++ group ∷ [] = sym kept.0 ∙ popped in
          let size : length {A = OpenGroup} [] ≡ length (new.outer.items ++ group ∷ []) = ap length none in
          let more : length (new.outer.items ++ group ∷ []) ≡ length new.outer.items + 1 = length-append new.outer.items (group ∷ []) in
          absurd (omega arith)
      closing (g ∷ around) first (before, o, outside, own, at, cut, others, kept) was is =
          let same = same_from_push before new.outer.items o group (sym at ∙ popped) in
          record {
            inmost = with_atom g (value_of h.inmost);
            around = around;
            first = outside;
            last = (own ++ postfix (value_of h.inmost)) ++ replicate group.bangs Not;
            whole = refl;
            steps = closed_steps first h.last outside own (operator And old.inner.factors) (operator Or (old.inner.products + 1)) (replicate group.bangs Not) (postfix (value_of h.inmost)) was cut is grown;
            outer = subst (λ (opens : List OpenGroup). AreKept around opens outside) same.0 others;
            inner = kept_factor g group new.inner own ((own ++ postfix (value_of h.inmost)) ++ replicate group.bangs Not) (value_of h.inmost) (subst (λ (q : OpenGroup). IsKept g q own) same.1 kept) factor refl;
          }

  -- what punctuation does has nothing to do with the pins
  pub punct_taken : (b : ℕ) → Takes [] (Punct b) old new → Takes pins (Punct b) old new
  punct_taken b takes groups h may =
      subst (λ (gs : List Group). HasRead (with_token pins gs (Punct b)) new) (sym h.whole) (subst (λ (gs : List Group). HasRead (with_token [] gs (Punct b)) new) h.whole (takes groups h may))

-- Another byte changes nothing that is kept.

choices : (p q r s t u : Bool) (ps qs rs ss ts us others : List Group) → p ≡ false → q ≡ false → s ≡ false → t ≡ false → u ≡ false → cond p ps (cond q qs (cond r rs (cond s ss (cond t ts (cond u us others))))) ≡ cond r rs others
choices p q r s t u ps qs rs ss ts us others e1 e2 e3 e4 e5 =
    ap (λ b. cond b ps (cond q qs (cond r rs (cond s ss (cond t ts (cond u us others)))))) e1
    ∙ (ap (λ b. cond b qs (cond r rs (cond s ss (cond t ts (cond u us others))))) e2
    ∙ ap (λ (gs : List Group). cond r rs gs) (ap (λ b. cond b ss (cond t ts (cond u us others))) e3 ∙ (ap (λ b. cond b ts (cond u us others)) e4 ∙ ap (λ b. cond b us others) e5)))

pub other_taken : (pins : List (List ℕ)) (reading : Reading) (b : ℕ) → eqb b 33 ≡ false → eqb b 39 ≡ false → eqb b 43 ≡ false → eqb b 40 ≡ false → eqb b 41 ≡ false → Takes pins (Punct b) reading reading
other_taken pins reading b e1 e2 e3 e4 e5 groups h may = by_star (eqb b 42) refl
  where
    goes : with_token pins (h.inmost ∷ h.around) (Punct b) ≡ cond (eqb b 42) (factor_ended h.inmost ∷ h.around) (h.inmost ∷ h.around)
    goes = choices (eqb b 33) (eqb b 39) (eqb b 42) (eqb b 43) (eqb b 40) (eqb b 41) _ _ _ _ _ _ _ e1 e2 e3 e4 e5

    by_star : (star : Bool) → eqb b 42 ≡ star → HasRead (with_token pins groups (Punct b)) reading
    by_star true is =
        same_taken pins reading reading groups (Punct b) (factor_ended h.inmost) h refl refl (kept_ended h.inmost reading.inner h.last h.inner)
        (goes ∙ ap (λ (t : Bool). cond t (factor_ended h.inmost ∷ h.around) (h.inmost ∷ h.around)) is)
    by_star false is = same_taken pins reading reading groups (Punct b) h.inmost h refl refl h.inner (goes ∙ ap (λ (t : Bool). cond t (factor_ended h.inmost ∷ h.around) (h.inmost ∷ h.around)) is)

pub on_ok : {E : Type 0} {P Q : Type 0} (r : Result (Unit {0}) E) → (P → Q) → OnOk r P → OnOk r Q
on_ok (Ok u) f p = f p
on_ok (Err e) f p = tt
