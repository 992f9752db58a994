-- The table of a cut.
use Rattle.std.proofs.Common.{◌≡◌, ◌+◌, ◌^◌, ◌<◌, ◌≤◌, ◌↔◌, ℕ, List, length, Contains, sym, ap, ◌∙◌, subst, subst₂, arith}
use Rattle.std.specs.List.{range_with_len}
use Rattle.std.specs.List.Sorted.{IsPermutation}
use Rattle.std.proofs.lemmas.List.Sorted.{IsPermutation-refl}
use Rattle.lw_facts.proofs.Lists.{contains_map, contained_in_map}
use Rattle.lw_pool.specs.declared.id.ClassId.{ClassId}
use Rattle.lw_laws.specs.Graphs.{Graph}
use Rattle.lw_lut.specs.Cuts.{PlainCut, IsCutAt, spelled, is_set, turned, is_odd}
use Rattle.lw_lut.specs.Packed.{packed}
use Rattle.lw_lut.specs.Tables.{IsTableAt, table_value}
use Rattle.lw_lut.proofs.Bits.{packed_set, spelled_low}
use Rattle.lw_lut.proofs.Fanins.{spelled_given}
use Rattle.lw_pool.specs.Numbers.{numbers}
use Rattle.lw_lut.proofs.Numbers.{long}

pub cut_table : (g : Graph) (most c : ℕ) (cut : PlainCut) (fanins : List ClassId) → IsCutAt g c (is_odd c) cut → length cut.pins ≤ most → ((q : ClassId) → Contains fanins q ↔ Contains cut.pins q) → IsTableAt g most c (numbers fanins) (packed (table_value cut c (numbers fanins)) 0 (2 ^ length fanins))
cut_table g most c cut fanins is few same = record {
  pins = numbers cut.pins;
  tree = is.tree;
  few = let l = long cut.pins in omega (arith, l, few);
  once = subst₂ (λ n xs. IsPermutation (range_with_len 0 n) xs) (sym (long cut.pins)) (sym is.pins) (IsPermutation-refl (range_with_len 0 (length cut.pins)));
  stands = is.stands;
  at = λ q. (λ h. to q h, λ h. from q h);
  values = λ v.
      let j = spelled v (numbers fanins) in
      let low : j < 2 ^ length fanins = subst (λ n. j < 2 ^ n) (long fanins) (spelled_low v (numbers fanins)) in
      let zero_in : 0 + j ≡ j = omega arith in
      packed_set (table_value cut c (numbers fanins)) 0 (2 ^ length fanins) j low ∙ (ap (table_value cut c (numbers fanins)) zero_in ∙ (ap (λ n. turned (is_odd c) (is_set cut.bits n)) (spelled_given v (numbers fanins) (numbers cut.pins) (λ q h. to q h)) ∙ is.values v));
}
  where
    to : (q : ℕ) → Contains (numbers cut.pins) q → Contains (numbers fanins) q
    to q h = let (x, k, e) = contained_in_map (λ (r : ClassId). r.0) cut.pins q h in subst (λ n. Contains (numbers fanins) n) e (contains_map (λ (r : ClassId). r.0) fanins x ((same x).1 k))

    from : (q : ℕ) → Contains (numbers fanins) q → Contains (numbers cut.pins) q
    from q h = let (x, k, e) = contained_in_map (λ (r : ClassId). r.0) fanins q h in subst (λ n. Contains (numbers cut.pins) n) e (contains_map (λ (r : ClassId). r.0) cut.pins x ((same x).0 k))
