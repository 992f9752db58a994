-- The NAND of two cuts.
use Rattle.std.proofs.lemmas.Bool.{cases_eq}
use Rattle.std.proofs.Common.{◌≡◌, ◌≤◌, ◌⊎◌, inl, inr, subst₂, ℕ, zero, suc, ◌+◌, ◌*◌, ◌/◌, ◌%◌, ◌^◌, ◌<◌, Bool, true, false, not, ◌&&◌, List, ◌∷◌, ◌++◌, map, length, refl, sym, ap, ap₂, ◌∙◌, subst, arith, length-append}
use Rattle.std.proofs.lemmas.List.{map-append}
use Rattle.std.proofs.lemmas.Nat.{pow-add, div-mul-add, mod-mul-add}
use Rattle.std.proofs.Math.Nat.{mul-le-mul_right}
use Rattle.std.specs.List.{range_with_len}
use Rattle.std.proofs.lemmas.Option.{get_or_from_slice_get}
use Rattle.lw_facts.proofs.Lists.{range_join}
use Rattle.lw_pool.specs.declared.id.ClassId.{ClassId}
use Rattle.lw_laws.specs.Flip.{flip}
use Rattle.lw_laws.specs.Trees.{Tree, leaf, const_one, const_zero, inv, nand, tree_value}
use Rattle.lw_laws.specs.Graphs.{Graph, Stands, HoldsPair}
use Rattle.lw_laws.proofs.Extracts.{slice_get_left, slice_get_right}
use Rattle.lw_laws.proofs.Flips.{flip-flip, half-flip, odd-flip}
use Rattle.lw_lut.specs.Covers.{leaves_of}
use Rattle.lw_lut.specs.Cuts.{PlainCut, IsCutAt, spelled, is_set, pin_value, turned, is_odd}
use Rattle.lw_lut.specs.Packed.{joined_value, joined_bits}
use Rattle.lw_lut.proofs.Bits.{packed_set, spelled_low, spelled_join}
use Rattle.lw_pool.specs.Numbers.{numbers}
use Rattle.lw_lut.proofs.Numbers.{long}

-- the tree with its pins that many further on
abbrev pub moved : ℕ → Tree → Tree
moved n (leaf k) = leaf (n + k)
moved n const_one = const_one
moved n const_zero = const_zero
moved n (inv t) = inv (moved n t)
moved n (nand t u) = nand (moved n t) (moved n u)

leaves_moved : (n : ℕ) (t : Tree) → leaves_of (moved n t) ≡ map (λ k. n + k) (leaves_of t)
leaves_moved n (leaf k) = refl
leaves_moved n const_one = refl
leaves_moved n const_zero = refl
leaves_moved n (inv t) = leaves_moved n t
leaves_moved n (nand t u) = ap₂ (λ xs ys. xs ++ ys) (leaves_moved n t) (leaves_moved n u) ∙ sym (map-append (λ k. n + k) (leaves_of t) (leaves_of u))

range_moved : (n a b : ℕ) → map (λ k. n + k) (range_with_len a b) ≡ range_with_len (n + a) b
range_moved n a zero = refl
range_moved n a (suc b) =
    let e : n + (a + 1) ≡ n + a + 1 = omega arith in
    ap (λ xs. (n + a) ∷ xs) (range_moved n (a + 1) b ∙ ap (λ m. range_with_len m b) e)

pub pins_join : (t u : Tree) (a b : ℕ) → leaves_of t ≡ range_with_len 0 a → leaves_of u ≡ range_with_len 0 b → leaves_of (nand t (moved a u)) ≡ range_with_len 0 (a + b)
pins_join t u a b p q =
    let r : leaves_of (moved a u) ≡ range_with_len (0 + a) b = leaves_moved a u ∙ (ap (map (λ k. a + k)) q ∙ (range_moved a 0 b ∙ ap (λ m. range_with_len m b) (omega arith))) in
    ap₂ (λ xs ys. xs ++ ys) p r ∙ range_join 0 a b

module _ (g : Graph) (xs ys : List ℕ) where
  stands_left : (t : Tree) (c : ℕ) → Stands g xs t c → Stands g (xs ++ ys) t c
  stands_left (leaf k) c s = slice_get_left xs ys k c s
  stands_left const_one c s = s
  stands_left const_zero c s = s
  stands_left (inv t) c s = stands_left t (flip c) s
  stands_left (nand t u) c (x, y, h, s, r) = (x, y, h, stands_left t x s, stands_left u y r)

  stands_right : (t : Tree) (c : ℕ) → Stands g ys t c → Stands g (xs ++ ys) (moved (length xs) t) c
  stands_right (leaf k) c s = slice_get_right xs ys k c s
  stands_right const_one c s = s
  stands_right const_zero c s = s
  stands_right (inv t) c s = stands_right t (flip c) s
  stands_right (nand t u) c (x, y, h, s, r) = (x, y, h, stands_right t x s, stands_right u y r)

  value_left : (v : ℕ → Bool) (t : Tree) (c : ℕ) → Stands g xs t c → tree_value (pin_value v (xs ++ ys)) t ≡ tree_value (pin_value v xs) t
  value_left v (leaf k) c s =
      ap v (get_or_from_slice_get (xs ++ ys) k c 0 (slice_get_left xs ys k c s) ∙ sym (get_or_from_slice_get xs k c 0 s))
  value_left v const_one c s = refl
  value_left v const_zero c s = refl
  value_left v (inv t) c s = ap not (value_left v t (flip c) s)
  value_left v (nand t u) c (x, y, h, s, r) = ap₂ (λ a b. not (a && b)) (value_left v t x s) (value_left v u y r)

  value_right : (v : ℕ → Bool) (t : Tree) (c : ℕ) → Stands g ys t c → tree_value (pin_value v (xs ++ ys)) (moved (length xs) t) ≡ tree_value (pin_value v ys) t
  value_right v (leaf k) c s =
      ap v (get_or_from_slice_get (xs ++ ys) (length xs + k) c 0 (slice_get_right xs ys k c s) ∙ sym (get_or_from_slice_get ys k c 0 s))
  value_right v const_one c s = refl
  value_right v const_zero c s = refl
  value_right v (inv t) c s = ap not (value_right v t (flip c) s)
  value_right v (nand t u) c (x, y, h, s, r) = ap₂ (λ a b. not (a && b)) (value_right v t x s) (value_right v u y r)

pub turned_twice : (t b : Bool) → turned t (turned t b) ≡ b
turned_twice true true = refl
turned_twice true false = refl
turned_twice false b = refl

numbers_append : (xs ys : List ClassId) → numbers (xs ++ ys) ≡ numbers xs ++ numbers ys
numbers_append xs ys = map-append (λ (c : ClassId). c.0) xs ys

within : (i j a b : ℕ) → i < 2 ^ a → j < 2 ^ b → i * 2 ^ b + j < 2 ^ (a + b)
within i j a b p q =
    let room : suc i * 2 ^ b ≤ 2 ^ a * 2 ^ b = mul-le-mul_right (2 ^ b) p in
    let whole = pow-add 2 a b in
    let more : suc i * 2 ^ b ≡ i * 2 ^ b + 2 ^ b = omega arith in
    omega (arith, room, whole, more, q)

module _ (g : Graph) (c x y : ℕ) (holds : HoldsPair g c x y) (a b : PlainCut) where
  joined_set : (v : ℕ → Bool) → is_set (joined_bits a x b y c) (spelled v (numbers (a.pins ++ b.pins))) ≡ turned (is_odd c) (not (turned (is_odd x) (is_set a.bits (spelled v (numbers a.pins))) && turned (is_odd y) (is_set b.bits (spelled v (numbers b.pins)))))
  joined_set v =
      let n = length a.pins in
      let m = length b.pins in
      let i = spelled v (numbers a.pins) in
      let j = spelled v (numbers b.pins) in
      let p : i < 2 ^ n = subst (λ k. i < 2 ^ k) (long a.pins) (spelled_low v (numbers a.pins)) in
      let q : j < 2 ^ m = subst (λ k. j < 2 ^ k) (long b.pins) (spelled_low v (numbers b.pins)) in
      let at : spelled v (numbers (a.pins ++ b.pins)) ≡ i * 2 ^ m + j = ap (spelled v) (numbers_append a.pins b.pins) ∙ (spelled_join v (numbers a.pins) (numbers b.pins) ∙ ap (λ k. i * 2 ^ k + j) (long b.pins)) in
      let set = packed_set (joined_value a x b y c) 0 (2 ^ (n + m)) (i * 2 ^ m + j) (within i j n m p q) in
      let zero_in : 0 + (i * 2 ^ m + j) ≡ i * 2 ^ m + j = omega arith in
      let value : joined_value a x b y c (i * 2 ^ m + j) ≡ turned (is_odd c) (not (turned (is_odd x) (is_set a.bits i) && turned (is_odd y) (is_set b.bits j))) = rw (div-mul-add i (2 ^ m) j q, mod-mul-add i (2 ^ m) j q) refl in
      ap (is_set (joined_bits a x b y c)) at ∙ (set ∙ (ap (joined_value a x b y c) zero_in ∙ value))

  pub joined_cut : IsCutAt g x (is_odd x) a → IsCutAt g y (is_odd y) b → IsCutAt g c (is_odd c) (record { pins = a.pins ++ b.pins; bits = joined_bits a x b y c })
  joined_cut k l =
      let n = long a.pins in
      let xs = numbers a.pins in
      let ys = numbers b.pins in
      let join = numbers_append a.pins b.pins in
      record {
        tree = nand k.tree (moved (length xs) l.tree);
        pins = subst (λ m. leaves_of (nand k.tree (moved m l.tree)) ≡ range_with_len 0 (length (a.pins ++ b.pins))) (sym n) (pins_join k.tree l.tree (length a.pins) (length b.pins) k.pins l.pins ∙ ap (range_with_len 0) (sym (length-append a.pins b.pins)));
        stands = subst (λ zs. Stands g zs (nand k.tree (moved (length xs) l.tree)) c) (sym join) (x, y, holds, stands_left g xs ys k.tree x k.stands, stands_right g xs ys l.tree y l.stands);
        values = λ v. ap (turned (is_odd c)) (joined_set v) ∙ (turned_twice (is_odd c) (not (turned (is_odd x) (is_set a.bits (spelled v xs)) && turned (is_odd y) (is_set b.bits (spelled v ys)))) ∙ (ap₂ (λ p q. not (p && q)) (k.values v ∙ sym (value_left g xs ys v k.tree x k.stands)) (l.values v ∙ sym (value_right g xs ys v l.tree y l.stands)) ∙ ap (λ zs. tree_value (pin_value v zs) (nand k.tree (moved (length xs) l.tree))) (sym join)));
      }

-- A cut of the other class of the pair.

turned_other : (b d : Bool) → turned (not b) d ≡ not (turned b d)
turned_other true true = refl
turned_other true false = refl
turned_other false d = refl

pub flipped_cut : (g : Graph) (c : ℕ) (b : Bool) (a : PlainCut) → IsCutAt g c b a → IsCutAt g (flip c) (not b) a
flipped_cut g c b a k = record {
  tree = inv k.tree;
  pins = k.pins;
  stands = subst (λ d. Stands g (numbers a.pins) k.tree d) (sym (flip-flip c)) k.stands;
  values = λ v. turned_other b (is_set a.bits (spelled v (numbers a.pins))) ∙ ap not (k.values v);
}

-- the first class of a pair, and the class itself
pub by_parity : (c : ℕ) → ((c ≡ 2 * (c / 2)) × (is_odd c ≡ false)) ⊎ ((flip c ≡ 2 * (c / 2)) × (is_odd c ≡ true))
by_parity c = cases (cases_eq (c % 2) 0)
  where
    even : c % 2 ≡ 0 → is_odd c ≡ false
    even e = rw e refl

    odd : c % 2 ≡ 1 → is_odd c ≡ true
    odd e = rw e refl

    cases : (c % 2 ≡ 0) ⊎ (c % 2 ≡ 0 → ⊥) → ((c ≡ 2 * (c / 2)) × (is_odd c ≡ false)) ⊎ ((flip c ≡ 2 * (c / 2)) × (is_odd c ≡ true))
    cases (inl e) = inl (omega (arith, e), even e)
    cases (inr n) =
        let one : c % 2 ≡ 1 = omega (arith, n) in
        let h = half-flip c in
        let o = odd-flip c in
        inr (omega (arith, one, h, o), odd one)

pub place_cut : (g : Graph) (c : ℕ) (a : PlainCut) → IsCutAt g c (is_odd c) a → IsCutAt g (2 * (c / 2)) false a
place_cut g c a k = elim (by_parity c) [
  | inl (e, o) ↦ subst₂ (λ d b. IsCutAt g d b a) e o k
  | inr (e, o) ↦ subst₂ (λ d b. IsCutAt g d b a) e (ap not o) (flipped_cut g c (is_odd c) a k)
]

pub class_cut : (g : Graph) (c : ℕ) (a : PlainCut) → IsCutAt g (2 * (c / 2)) false a → IsCutAt g c (is_odd c) a
class_cut g c a k = elim (by_parity c) [
  | inl (e, o) ↦ subst₂ (λ d b. IsCutAt g d b a) (sym e) (sym o) k
  | inr (e, o) ↦ subst₂ (λ d b. IsCutAt g d b a) (ap flip (sym e) ∙ flip-flip c) (sym o) (flipped_cut g (2 * (c / 2)) false a k)
]
