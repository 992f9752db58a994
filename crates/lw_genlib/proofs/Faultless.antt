-- Tokens of which none breaks a rule: they are an output's name, `=`, and tokens that may stand one after the other.
use Rattle.std.proofs.Common.{ℕ, suc, ◌+◌, ◌-◌, ◌<◌, ◌≤◌, ◌≡◌, Bool, true, false, not, ◌&&◌, ◌||◌, cond, eqb, List, [], ◌∷◌, ◌++◌, length, take, drop, Some, None, refl, sym, ap, ap₂, ◌∙◌, subst, arith, length-append, append_assoc, append-nil}
use Rattle.std.specs.Prelude.{Option, nat_le}
use Rattle.std.specs.List.{list_any}
use Rattle.std.proofs.lemmas.Bool.{ne_eqb, leb-false, eqb-true, or_parts}
use Rattle.std.proofs.lemmas.List.{take_at}
use Rattle.std.proofs.lemmas.Bool.Decides.{nat_tests}
use Rattle.lw_genlib.specs.declared.token.Token.{Token}
use Rattle.lw_genlib.specs.declared.token.Token.TheVariants.{Name, Punct}
use Rattle.lw_genlib.specs.declared.fault.LibKind.{LibKind}
use Rattle.lw_genlib.specs.declared.fault.LibKind.TheVariants.{Expected, BadByte, ConstInside, LimitLiterals, LimitPins}
use Rattle.lw_genlib.specs.declared.fault.LibFault.{LibFault}
use Rattle.lw_genlib.specs.Grammar.{is_punct, is_name, awaits_behind, depth_behind, fits, go_on, names_in}
use Rattle.lw_genlib.specs.Functions.{IsText, awaits, depth_in, with_pin, pins_in, is_constant_name, is_among, is_bad, may_follow, is_new_pin, has_constant_inside, token_fault, first_fault, fault_or}
use Rattle.lw_genlib.proofs.CheckLemmas.{fold_more, awaits_more, names_more, pins_more}

-- a token that breaks no rule
pub record NoFault (before : List Token) (token : Token) : Type 0 where
  pub bad : is_bad before token ≡ false
  pub may : may_follow before token ≡ true
  pub names : (is_name token && nat_le 65 (names_in before)) ≡ false
  pub pins : (is_new_pin before token && nat_le 16 (length (pins_in before))) ≡ false

record NoneOf (a m n p : Bool) : Type 0 where
  bad : a ≡ false
  may : m ≡ true
  names : n ≡ false
  pins : p ≡ false

chain : (a m n p c : Bool) → cond a (Some BadByte) (cond (not m) (Some Expected) (cond n (Some LimitLiterals) (cond p (Some LimitPins) (cond c (Some ConstInside) None)))) ≡ None → NoneOf a m n p
chain true m n p c e = cc
chain false false n p c e = cc
chain false true true p c e = cc
chain false true false true c e = cc
chain false true false false c e = record { bad = refl; may = refl; names = refl; pins = refl }

none_here : (before : List Token) (token : Token) → token_fault before token ≡ None → NoFault before token
unfolding token_fault
none_here before token e =
    let r = chain (is_bad before token) (may_follow before token) (is_name token && nat_le 65 (names_in before)) (is_new_pin before token && nat_le 16 (length (pins_in before))) (is_punct 59 token && has_constant_inside before) e in
    record { bad = r.bad; may = r.may; names = r.names; pins = r.pins }

both_none : (line : ℕ) (o : Option LibKind) (r : Option LibFault) → fault_or line o r ≡ None → (o ≡ None) × (r ≡ None)
both_none line (Some kind) r e = cc
both_none line None r e = (refl, e)

pub first_none : (before : List Token) (line : ℕ) (lines : List ℕ) (token : Token) (tokens : List Token) → first_fault before (line ∷ lines) (token ∷ tokens) ≡ None → NoFault before token × (first_fault (before ++ token ∷ []) lines tokens ≡ None)
unfolding first_fault
first_none before line lines token tokens e =
    let parts = both_none line (token_fault before token) (first_fault (before ++ token ∷ []) lines tokens) e in
    (none_here before token parts.0, parts.1)

-- behind the output's name and `=`
may_inside : (before : List Token) (token : Token) → 2 ≤ length before → may_follow before token ≡ cond (is_punct 59 token) (not (awaits before) && eqb (depth_in before) 0) (fits (awaits before) (depth_in before) token)
may_inside [] token two = absurd (omega arith)
may_inside (a ∷ []) token two = absurd (omega arith)
may_inside (a ∷ b ∷ before) token two = refl

-- what fits is no `=`
no_equals : (a : Bool) (depth : ℕ) (token : Token) → fits a depth token ≡ true → is_punct 61 token ≡ false
no_equals a depth (Name name) fit = refl
no_equals true depth (Punct b) fit = grind (arith, nat_tests)
no_equals false depth (Punct b) fit = by_tests (eqb b 40) (eqb b 41) (eqb b 33) (eqb b 39) (eqb b 43) (eqb b 42) refl refl refl refl refl refl fit
  where
    by_tests : (o c n q p s : Bool) → eqb b 40 ≡ o → eqb b 41 ≡ c → eqb b 33 ≡ n → eqb b 39 ≡ q → eqb b 43 ≡ p → eqb b 42 ≡ s
        → ((o || c || n || q || p || s) && not (c && eqb depth 0)) ≡ true → eqb b 61 ≡ false
    by_tests o c n q p s oe ce ne qe pe se fit = grind (arith, nat_tests)

named_few : (before : List Token) (token : Token) → NoFault before token → names_in before ≤ 65 → names_in (before ++ token ∷ []) ≤ 65
named_few before (Punct b) ok few = let more : names_in (before ++ Punct b ∷ []) ≡ names_in before + 0 = names_more before (Punct b) in omega arith
named_few before (Name n) ok few =
    let more : names_in (before ++ Name n ∷ []) ≡ names_in before + 1 = names_more before (Name n) in
    let less : names_in before < 65 = leb-false 65 (names_in before) ok.names in
    omega arith

with_pin_few : (c : Bool) (pins : List (List ℕ)) (n : List ℕ) → (not c && nat_le 16 (length pins)) ≡ false → length pins ≤ 16 → length (cond c pins (pins ++ n ∷ [])) ≤ 16
with_pin_few true pins n ok few = few
with_pin_few false pins n ok few =
    let less : length pins < 16 = leb-false 16 (length pins) ok in
    let more : length (pins ++ n ∷ []) ≡ length pins + 1 = length-append pins (n ∷ []) in
    omega arith

pinned_few : (before : List Token) (token : Token) → 1 ≤ length before → NoFault before token → length (pins_in before) ≤ 16 → length (pins_in (before ++ token ∷ [])) ≤ 16
pinned_few before token some ok few =
    let front : eqb (length before) 0 ≡ false = ne_eqb (length before) 0 (λ e. absurd (omega (arith, e))) in
    let pins : with_pin (pins_in before) token ≡ pins_in (before ++ token ∷ []) = ap (λ b. cond b (pins_in before) (with_pin (pins_in before) token)) (sym front) ∙ pins_more before token in
    subst (λ ps. length ps ≤ 16) pins (one_pin token ok.pins)
  where
    one_pin : (token : Token) → (is_new_pin before token && nat_le 16 (length (pins_in before))) ≡ false → length (with_pin (pins_in before) token) ≤ 16
    one_pin (Punct b) okay = few
    one_pin (Name n) okay = with_pin_few (is_constant_name n || is_among n (pins_in before)) (pins_in before) n okay few

-- What stands up to the `;`.
pub record GoesOn (before rest : List Token) : Type 0 where
  pub goes_on : go_on (awaits before) (depth_in before) rest ≡ true
  pub names : names_in (before ++ rest) ≤ 65
  pub pins : length (pins_in (before ++ rest)) ≤ 16

rest_goes_on : (before : List Token) (lines : List ℕ) (rest : List Token) → length lines ≡ length rest + 1 → first_fault before lines (rest ++ Punct 59 ∷ []) ≡ None → list_any (is_punct 59) rest ≡ false
    → 2 ≤ length before → names_in before ≤ 65 → length (pins_in before) ≤ 16 → GoesOn before rest
rest_goes_on before [] rest size none ends two names pins = absurd (omega arith)
rest_goes_on before (line ∷ lines) [] size none ends two names pins =
    let here = (first_none before line lines (Punct 59) [] none).0 in
    record {
      goes_on = sym (may_inside before (Punct 59) two) ∙ here.may;
      names = subst (λ s. names_in s ≤ 65) (sym (append-nil before)) names;
      pins = subst (λ s. length (pins_in s) ≤ 16) (sym (append-nil before)) pins;
    }
rest_goes_on before (line ∷ lines) (token ∷ rest) size none ends two names pins =
    let parts = first_none before line lines token (rest ++ Punct 59 ∷ []) none in
    let here = parts.0 in
    let size' : length (before ++ token ∷ []) ≡ length before + 1 = length-append before (token ∷ []) in
    let others = rest_goes_on (before ++ token ∷ []) lines rest (omega arith) parts.1 (or_parts (is_punct 59 token) (list_any (is_punct 59) rest) ends).1 (omega arith) (named_few before token here names)
    (pinned_few before token (omega arith) here pins) in
    let same : (before ++ token ∷ []) ++ rest ≡ before ++ token ∷ rest = append_assoc before (token ∷ []) rest in
    record {
      goes_on = here_and_on (or_parts (is_punct 59 token) (list_any (is_punct 59) rest) ends).0 here.may others.goes_on;
      names = subst (λ s. names_in s ≤ 65) same others.names;
      pins = subst (λ s. length (pins_in s) ≤ 16) same others.pins;
    }
  where
    here_and_on : is_punct 59 token ≡ false → may_follow before token ≡ true → go_on (awaits (before ++ token ∷ [])) (depth_in (before ++ token ∷ [])) rest ≡ true → go_on (awaits before) (depth_in before) (token ∷ rest) ≡ true
    here_and_on not_end may others =
        let fit : fits (awaits before) (depth_in before) token ≡ true =
        ap (λ b. cond b (not (awaits before) && eqb (depth_in before) 0) (fits (awaits before) (depth_in before) token)) (sym not_end) ∙ (sym (may_inside before token two) ∙ may) in
        let equals : is_punct 61 token ≡ false = no_equals (awaits before) (depth_in before) token fit in
        let waits : awaits (before ++ token ∷ []) ≡ awaits_behind token = awaits_more before token ∙ ap (λ b. b || awaits_behind token) equals in
        let deep : depth_in (before ++ token ∷ []) ≡ depth_behind token (depth_in before) = fold_more (λ depth s. depth_behind s depth) 0 before token in
        ap₂ (λ a b. a && b) fit (ap₂ (λ w d. go_on w d rest) (sym waits) (sym deep) ∙ others)

-- A text of which no token breaks a rule.
pub record IsFaultless (tokens : List Token) : Type 0 where
  pub output : List ℕ
  pub inner : List Token
  pub whole : tokens ≡ Name output ∷ Punct 61 ∷ (inner ++ Punct 59 ∷ [])
  pub goes_on : go_on true 0 inner ≡ true
  pub names : names_in inner ≤ 64
  pub pins : length (pins_in tokens) ≤ 16

end_adds_none : (before : List Token) → 1 ≤ length before → length (pins_in before) ≤ 16 → length (pins_in (before ++ Punct 59 ∷ [])) ≤ 16
end_adds_none before some few =
    let front : eqb (length before) 0 ≡ false = ne_eqb (length before) 0 (λ e. absurd (omega (arith, e))) in
    let pins : pins_in before ≡ pins_in (before ++ Punct 59 ∷ []) = ap (λ b. cond b (pins_in before) (pins_in before)) (sym front) ∙ pins_more before (Punct 59) in
    subst (λ ps. length ps ≤ 16) pins few

with_inner : (n : List ℕ) (lines : List ℕ) (inner : List Token) → length lines ≡ length inner + 1 → first_fault (Name n ∷ Punct 61 ∷ []) lines (inner ++ Punct 59 ∷ []) ≡ None → list_any (is_punct 59) inner ≡ false
    → IsFaultless (Name n ∷ Punct 61 ∷ (inner ++ Punct 59 ∷ []))
with_inner n lines inner size none ends =
    let rest = rest_goes_on (Name n ∷ Punct 61 ∷ []) lines inner size none ends (omega arith) (omega arith) (omega arith) in
    let names : 1 + names_in inner ≤ 65 = rest.names in
    record {
      output = n;
      inner = inner;
      whole = refl;
      goes_on = rest.goes_on;
      names = omega arith;
      pins = end_adds_none (Name n ∷ Punct 61 ∷ inner) (omega arith) rest.pins;
    }

with_punct : (n : List ℕ) (b : ℕ) (lines : List ℕ) (inner : List Token) → eqb b 61 ≡ true → length lines ≡ length inner + 1 → first_fault (Name n ∷ Punct b ∷ []) lines (inner ++ Punct 59 ∷ []) ≡ None → list_any (is_punct 59) inner ≡ false
    → IsFaultless (Name n ∷ Punct b ∷ (inner ++ Punct 59 ∷ []))
with_punct n b lines inner is size none ends =
    subst (λ m. IsFaultless (Name n ∷ Punct m ∷ (inner ++ Punct 59 ∷ []))) (sym (eqb-true b 61 is))
    (with_inner n lines inner size (subst (λ m. first_fault (Name n ∷ Punct m ∷ []) lines (inner ++ Punct 59 ∷ []) ≡ None) (eqb-true b 61 is) none) ends)

behind_two : (output equals : Token) (lines : List ℕ) (inner : List Token) → is_name output ≡ true → is_punct 61 equals ≡ true → length lines ≡ length inner + 1 → first_fault (output ∷ equals ∷ []) lines (inner ++ Punct 59 ∷ []) ≡ None
    → list_any (is_punct 59) inner ≡ false → IsFaultless (output ∷ equals ∷ (inner ++ Punct 59 ∷ []))
behind_two (Punct b) equals lines inner name punct size none ends = cc
behind_two (Name n) (Name m) lines inner name punct size none ends = cc
behind_two (Name n) (Punct b) lines inner name punct size none ends = with_punct n b lines inner punct size none ends

any_tail : (a b c : Bool) → (a || (b || c)) ≡ false → c ≡ false
any_tail true b c e = cc
any_tail false true c e = cc
any_tail false false c e = e

text_faultless : (before : List Token) (lines : List ℕ) → length lines ≡ length before + 1 → first_fault [] lines (before ++ Punct 59 ∷ []) ≡ None → list_any (is_punct 59) before ≡ false → IsFaultless (before ++ Punct 59 ∷ [])
text_faultless before [] size none ends = absurd (omega arith)
text_faultless [] (line ∷ lines) size none ends =
    let here : is_name (Punct 59) ≡ true = (first_none [] line lines (Punct 59) [] none).0.may in cc
text_faultless (output ∷ before) (line ∷ []) size none ends = absurd (omega arith)
text_faultless (output ∷ []) (line ∷ second ∷ lines) size none ends =
    let behind = (first_none [] line (second ∷ lines) output (Punct 59 ∷ []) none).1 in
    let here : is_punct 61 (Punct 59) ≡ true = (first_none (output ∷ []) second lines (Punct 59) [] behind).0.may in cc
text_faultless (output ∷ equals ∷ inner) (line ∷ second ∷ lines) size none ends =
    let first = first_none [] line (second ∷ lines) output (equals ∷ (inner ++ Punct 59 ∷ [])) none in
    let next = first_none (output ∷ []) second lines equals (inner ++ Punct 59 ∷ []) first.1 in
    behind_two output equals lines inner first.0.may next.0.may (omega arith) next.1 (any_tail (is_punct 59 output) (is_punct 59 equals) (list_any (is_punct 59) inner) ends)

pub faultless : (tokens : List Token) (lines : List ℕ) → IsText tokens → length lines ≡ length tokens → first_fault [] lines tokens ≡ None → IsFaultless tokens
faultless tokens lines text size none =
    let long : length tokens ≡ length text.before + 1 = ap length text.whole ∙ length-append text.before (Punct 59 ∷ []) in
    subst IsFaultless (sym text.whole) (text_faultless text.before lines (size ∙ long) (subst (λ s. first_fault [] lines s ≡ None) text.whole none) text.no_end)

-- the tokens between `=` and `;`
pub inner_at : (tokens inner : List Token) (output : List ℕ) → tokens ≡ Name output ∷ Punct 61 ∷ (inner ++ Punct 59 ∷ []) → (length tokens ≡ length inner + 3) × (take (length tokens - 1 - 2) (drop 2 tokens) ≡ inner)
inner_at tokens inner output whole =
    let long : length tokens ≡ suc (suc (length (inner ++ Punct 59 ∷ []))) = ap length whole in
    let more : length (inner ++ Punct 59 ∷ []) ≡ length inner + 1 = length-append inner (Punct 59 ∷ []) in
    let count : length tokens - 1 - 2 ≡ length inner = omega arith in
    (omega arith, ap₂ (λ n s. take n (drop 2 s)) count whole ∙ take_at inner (Punct 59 ∷ []) (length inner) refl)

pub same_output : (tokens inner rest : List Token) (output name : List ℕ) → tokens ≡ Name output ∷ Punct 61 ∷ (inner ++ Punct 59 ∷ []) → tokens ≡ Name name ∷ rest → output ≡ name
same_output tokens inner rest output name whole at = cc
