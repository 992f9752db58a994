-- Literals of rows, column by column, and of sums, row by row.
use Rattle.std.proofs.Common.{ℕ, ◌+◌, ◌<◌, ◌≡◌, ◌≤◌, ◌==◌, if◌then◌else◌, Bool, true, false, not, ◌&&◌, ◌||◌, List, [], ◌∷◌, map, length, drop, get_or, All, refl, ap, ap₂, sym, ◌∙◌, subst, arith}
use Rattle.std.specs.List.{list_any}
use Rattle.std.proofs.lemmas.List.{drop_more, length-map}
use Rattle.std.proofs.lemmas.List.Elements.{All-weaker}
use Rattle.std.proofs.lemmas.Option.{slice_get_within}
use Rattle.std.proofs.Math.Bool.{and-true, and_assoc, or_assoc}
use Rattle.lw_laws.proofs.PatternLaws.{or_by_and}
use Rattle.lw_aig.specs.declared.gate.Gate.{Gate}
use Rattle.lw_aig.specs.declared.gate.Gate.TheVariants.{Zero}
use Rattle.lw_aig.specs.declared.literal.Literal.{Literal}
use Rattle.lw_aig.specs.Aigs.{AreNodeValues, IsAig, IsBelow, IsConjunction}
use Rattle.lw_aig.specs.Literals.{complement, literal_value, node_of}
use Rattle.lw_aig.proofs.Literals.{node-complement, value_of_complement}
use Rattle.lw_laws.specs.Networks.{row_value}
use Rattle.lw_net.specs.Signs.{asked, met_by}
use Rattle.lw_net.proofs.Filling.{row_step}
use Rattle.lw_pool.specs.declared.id.NetId.{NetId}
use Rattle.lw_pool.specs.Numbers.{values_at}
use Rattle.lw_sweep.specs.Sweeps.{IsExtended}
use Rattle.lw_sweep.proofs.Growing.{values_before}
use Rattle.lw_joint.specs.Joint.{Carry, Computes, IsDisjunction, IsWithColumn, row_of, sum_of}

pub complement_below : (n : ℕ) (l l' : Literal) → l' ≡ complement l → IsBelow n l → IsBelow n l'
complement_below n l l' e low = subst (λ k. k < n) (sym (ap node_of e ∙ node-complement l)) low

-- the graph has the constant
pub constant_below : (gates : List Gate) → IsAig gates → 0 < length gates
constant_below gates aig = slice_get_within gates 0 Zero aig.zero_first

-- a column that asks for true, for false, and for nothing
pub on_column : (gates : List Gate) (before column l : Literal) (sign : ℕ) → sign ≡ 49 → IsConjunction gates before column l → IsWithColumn gates before sign column l
on_column gates before column l sign e is = record {
  within = is.within;
  always = λ v values. is.always v values ∙ ap (λ s. literal_value v before && met_by s (literal_value v column)) (sym e);
}

pub off_column : (gates : List Gate) (before column off l : Literal) (sign : ℕ) → sign ≡ 48 → off ≡ complement column → IsConjunction gates before off l → IsWithColumn gates before sign column l
off_column gates before column off l sign e turned is = record {
  within = is.within;
  always = λ v values.
      is.always v values
      ∙ (ap (λ b. literal_value v before && b) (ap (literal_value v) turned ∙ value_of_complement v column)
      ∙ ap (λ s. literal_value v before && met_by s (literal_value v column)) (sym e));
}

met_always : (one off : Bool) (b : Bool) → one ≡ false → off ≡ false → (if one then b else (if off then not b else true)) ≡ true
met_always true off b e f = cc
met_always false true b e f = cc
met_always false false b e f = refl

pub free_column : (gates : List Gate) (before column : Literal) (sign : ℕ) → IsBelow (length gates) before → (sign == 49) ≡ false → (sign == 48) ≡ false → IsWithColumn gates before sign column before
free_column gates before column sign low e f = record {
  within = low;
  always = λ v values. sym (and-true (literal_value v before)) ∙ ap (λ b. literal_value v before && b) (sym (met_always (sign == 49) (sign == 48) (literal_value v column) e f));
}

pub disjunction : (gates : List Gate) (a b a' b' l l' : Literal) → a' ≡ complement a → b' ≡ complement b → l' ≡ complement l → IsConjunction gates a' b' l → IsDisjunction gates a b l'
disjunction gates a b a' b' l l' e f g is = record {
  within = complement_below (length gates) l l' g is.within;
  always = λ v values.
      ap (literal_value v) g
      ∙ (value_of_complement v l
      ∙ (ap not (is.always v values ∙ ap₂ (λ x y. x && y) (ap (literal_value v) e ∙ value_of_complement v a) (ap (literal_value v) f ∙ value_of_complement v b))
      ∙ or_by_and (literal_value v a) (literal_value v b)));
}

-- The row as far as it was read, and from there on.
pub record IsRowTo (gates : List Gate) (lits : List Literal) (fanins : List NetId) (row : List ℕ) (i : ℕ) (l : Literal) : Type 0 where
  pub within : IsBelow (length gates) l
  pub always : (v : ℕ → Bool) (values : List Bool) → AreNodeValues gates v → Carry v lits values → (literal_value v l && row_value (drop i (values_at values fanins)) (drop i (map asked row))) ≡ row_of fanins row values

-- The rows as far as they were read, and from there on.
pub record IsSumTo (gates : List Gate) (lits : List Literal) (fanins : List NetId) (rows : List (List ℕ)) (i : ℕ) (l : Literal) : Type 0 where
  pub within : IsBelow (length gates) l
  pub always : (v : ℕ → Bool) (values : List Bool) → AreNodeValues gates v → Carry v lits values → (literal_value v l || list_any (row_value (values_at values fanins)) (map (map asked) (drop i rows))) ≡ sum_of fanins rows values

pub row_begins : (gates : List Gate) → IsAig gates → (lits : List Literal) (fanins : List NetId) (row : List ℕ) → IsRowTo gates lits fanins row 0 (record { 0 = 1 })
row_begins gates aig lits fanins row =
    let first = constant_below gates aig in
    record {
      within = omega arith;
      always = λ v values are carry. ap (λ b. not b && row_of fanins row values) (are.allowed 0 Zero aig.zero_first);
    }

pub sum_begins : (gates : List Gate) → IsAig gates → (lits : List Literal) (fanins : List NetId) (rows : List (List ℕ)) → IsSumTo gates lits fanins rows 0 (record { 0 = 0 })
sum_begins gates aig lits fanins rows =
    let first = constant_below gates aig in
    record {
      within = omega arith;
      always = λ v values are carry. ap (λ b. b || sum_of fanins rows values) (are.allowed 0 Zero aig.zero_first);
    }

pub row_goes_on : (old new : List Gate) (lits : List Literal) (fanins : List NetId) (row : List ℕ) (i : ℕ) (before l : Literal) → IsExtended old new → length row ≡ length fanins → All (λ (net : NetId). net.0 < length lits) fanins → i < length row → IsRowTo old lits fanins row i before → IsWithColumn new before (get_or row i 0) (get_or lits (get_or fanins i (record { 0 = 0 })).0 (record { 0 = 0 })) l → IsRowTo new lits fanins row (i + 1) l
row_goes_on old new lits fanins row i before l extended one known lt to is = record {
  within = is.within;
  always = λ v values are carry.
      let net = (get_or fanins i (record { 0 = 0 })).0 in
      let column = literal_value v (get_or lits net (record { 0 = 0 })) in
      let rest = row_value (drop (i + 1) (values_at values fanins)) (drop (i + 1) (map asked row)) in
      let value : column ≡ get_or values net false = carry net (record { 0 = 0 }) (known i (record { 0 = 0 }) (omega arith)) in
      let step = row_step values fanins row i (met_by (get_or row i 0) column) one lt (ap (met_by (get_or row i 0)) value) in
      ap (λ b. b && rest) (is.always v are)
      ∙ (and_assoc (literal_value v before) (met_by (get_or row i 0) column) rest
      ∙ (ap (λ b. literal_value v before && b) (sym step)
      ∙ to.always v values (values_before old new v extended are) carry));
}

pub sum_goes_on : (old middle new : List Gate) (lits : List Literal) (fanins : List NetId) (rows : List (List ℕ)) (i : ℕ) (before one l : Literal) → IsExtended old middle → IsExtended middle new → i < length rows → IsSumTo old lits fanins rows i before → Computes middle lits (row_of fanins (get_or rows i [])) one → IsDisjunction new before one l → IsSumTo new lits fanins rows (i + 1) l
sum_goes_on old middle new lits fanins rows i before one l first second lt to row is = record {
  within = is.within;
  always = λ v values are carry.
      let middle_are = values_before middle new v second are in
      let rest = list_any (row_value (values_at values fanins)) (map (map asked) (drop (i + 1) rows)) in
      ap (λ b. b || rest) (is.always v are)
      ∙ (or_assoc (literal_value v before) (literal_value v one) rest
      ∙ (ap (λ b. literal_value v before || (b || rest)) (row.always v values middle_are carry)
      ∙ (ap (λ rs. literal_value v before || list_any (row_value (values_at values fanins)) (map (map asked) rs)) (sym (drop_more rows i [] lt))
      ∙ to.always v values (values_before old middle v first middle_are) carry)));
}

drop_end : {X : Type 0} (xs : List X) (i : ℕ) → length xs ≤ i → drop i xs ≡ []
drop_end [] ℕ.zero le = refl
drop_end [] (ℕ.suc i) le = refl
drop_end (x ∷ xs) ℕ.zero le = absurd (omega arith)
drop_end (x ∷ xs) (ℕ.suc i) le = drop_end xs i (omega arith)

nothing_asked : (vs : List Bool) (b : Bool) → (b && row_value vs []) ≡ b
nothing_asked [] true = refl
nothing_asked [] false = refl
nothing_asked (v ∷ vs) true = refl
nothing_asked (v ∷ vs) false = refl

pub row_ends : (gates : List Gate) (lits : List Literal) (fanins : List NetId) (row : List ℕ) (i : ℕ) (l : Literal) → length row ≤ i → IsRowTo gates lits fanins row i l → Computes gates lits (row_of fanins row) l
row_ends gates lits fanins row i l le to = record {
  within = to.within;
  always = λ v values are carry.
      let size = length-map row asked in
      sym (nothing_asked (drop i (values_at values fanins)) (literal_value v l))
      ∙ (ap (λ r. literal_value v l && row_value (drop i (values_at values fanins)) r) (sym (drop_end (map asked row) i (omega arith)))
      ∙ to.always v values are carry);
}

or_false : (b : Bool) → b ≡ (b || false)
or_false true = refl
or_false false = refl

pub sum_ends : (gates : List Gate) (lits : List Literal) (fanins : List NetId) (rows : List (List ℕ)) (i : ℕ) (l : Literal) → length rows ≤ i → IsSumTo gates lits fanins rows i l → Computes gates lits (sum_of fanins rows) l
sum_ends gates lits fanins rows i l le to = record {
  within = to.within;
  always = λ v values are carry.
      or_false (literal_value v l)
      ∙ (ap (λ rs. literal_value v l || list_any (row_value (values_at values fanins)) (map (map asked) rs)) (sym (drop_end rows i le))
      ∙ to.always v values are carry);
}

pub all_below : (old new : List Gate) (lits : List Literal) → IsExtended old new → All (IsBelow (length old)) lits → All (IsBelow (length new)) lits
all_below old new lits extended all =
    let longer = extended.longer in
    All-weaker (IsBelow (length old)) (IsBelow (length new)) (λ l low. omega arith) lits all
