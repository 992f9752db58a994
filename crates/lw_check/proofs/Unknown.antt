-- The class numbers of a certificate.
use Rattle.std.proofs.Common.{ℕ, zero, suc, ◌+◌, ◌<◌, ◌≤◌, ◌≡◌, Bool, true, false, cond, leb, nat_le, List, [], ◌∷◌, ◌++◌, map, drop, Option, Some, None, find, option_map, slice_index_or, refl, ap, sym, ◌∙◌, subst, arith}
use Rattle.std.specs.List.{AllByRecursion, filter_map}
use Rattle.std.proofs.lemmas.Bool.Decides.{nat_tests}
use Rattle.std.proofs.lemmas.Option.{same_Some, none-some}
use Rattle.std.proofs.lemmas.Bool.{lt-leb}
use Rattle.lw_fixed.specs.declared.micro.Micro.{Micro}
use Rattle.lw_pool.specs.declared.id.ClassId.{ClassId}
use Rattle.lw_mapped.specs.declared.certificate.Certificate.{Certificate}
use Rattle.lw_check.specs.Claims.{class_number, class_numbers, labelled_from}

abbrev numbers_of : List (Option ClassId) → List ℕ
numbers_of nets = filter_map (option_map class_number) nets

module _ (n : ℕ) where
  -- where all are below the number, none is found that is not
  pub none_found : (xs : List ℕ) → AllByRecursion (λ c. c < n) xs → find (nat_le n) xs ≡ None
  none_found [] a = refl
  none_found (x ∷ xs) (lt, a) = subst (λ t. cond t (Some x) (find (nat_le n) xs) ≡ None) (sym (lt-leb n x lt)) (none_found xs a)

  pub all_below : (xs : List ℕ) → find (nat_le n) xs ≡ None → AllByRecursion (λ c. c < n) xs
  all_below [] e = tt
  all_below (x ∷ xs) e = by_test (leb n x) refl e (all_below xs)
    where
      by_test : (t : Bool) → leb n x ≡ t → cond t (Some x) (find (nat_le n) xs) ≡ None → (find (nat_le n) xs ≡ None → AllByRecursion (λ c. c < n) xs) → (x < n) × AllByRecursion (λ c. c < n) xs
      by_test true s f ih = cc
      by_test false s f ih = (not_le s, ih f)
        where
          not_le : leb n x ≡ false → x < n
          not_le s = grind (arith, nat_tests)

  -- the first of two lists decides, or else the second
  pub found_first : (xs ys : List ℕ) (c : ℕ) → find (nat_le n) xs ≡ Some c → find (nat_le n) (xs ++ ys) ≡ Some c
  found_first [] ys c e = absurd (none-some c e)
  found_first (x ∷ xs) ys c e = by_test (leb n x) e (found_first xs ys c)
    where
      by_test : (t : Bool) → cond t (Some x) (find (nat_le n) xs) ≡ Some c → (find (nat_le n) xs ≡ Some c → find (nat_le n) (xs ++ ys) ≡ Some c) → cond t (Some x) (find (nat_le n) (xs ++ ys)) ≡ Some c
      by_test true e ih = e
      by_test false e ih = ih e

  pub found_second : (xs ys : List ℕ) → find (nat_le n) xs ≡ None → find (nat_le n) (xs ++ ys) ≡ find (nat_le n) ys
  found_second [] ys e = refl
  found_second (x ∷ xs) ys e = by_test (leb n x) e (found_second xs ys)
    where
      by_test : (t : Bool) → cond t (Some x) (find (nat_le n) xs) ≡ None → (find (nat_le n) xs ≡ None → find (nat_le n) (xs ++ ys) ≡ find (nat_le n) ys) → cond t (Some x) (find (nat_le n) (xs ++ ys)) ≡ find (nat_le n) ys
      by_test true e ih = cc
      by_test false e ih = ih e

  -- labelled classes below the number
  pub labelled_below : (ls : List (Option Micro)) (k : ℕ) → ((j : ℕ) (l : Micro) → slice_index_or ls j None ≡ Some l → k + j < n) → AllByRecursion (λ c. c < n) (labelled_from k ls)
  labelled_below [] k h = tt
  labelled_below (None ∷ ls) k h = labelled_below ls (suc k) (λ j l e. let lt = h (suc j) l e in omega arith)
  labelled_below (Some l ∷ ls) k h = (let lt = h zero l refl in omega arith, labelled_below ls (suc k) (λ j m e. let lt = h (suc j) m e in omega arith))

  pub below_labelled : (ls : List (Option Micro)) (k : ℕ) → AllByRecursion (λ c. c < n) (labelled_from k ls) → (j : ℕ) (l : Micro) → slice_index_or ls j None ≡ Some l → k + j < n
  below_labelled [] k a j l e = absurd (none-some l e)
  below_labelled (None ∷ ls) k a zero l e = absurd (none-some l e)
  below_labelled (None ∷ ls) k a (suc j) l e = let lt = below_labelled ls (suc k) a j l e in omega arith
  below_labelled (Some m ∷ ls) k (lt, a) zero l e = omega arith
  below_labelled (Some m ∷ ls) k (here, a) (suc j) l e = let lt = below_labelled ls (suc k) a j l e in omega arith

  pub below_nets : (nets : List (Option ClassId)) → AllByRecursion (λ c. c < n) (numbers_of nets) → (j : ℕ) (c : ClassId) → slice_index_or nets j None ≡ Some c → c.0 < n
  below_nets [] a j c e = absurd (none-some c e)
  below_nets (None ∷ nets) a zero c e = absurd (none-some c e)
  below_nets (None ∷ nets) a (suc j) c e = below_nets nets a j c e
  below_nets (Some d ∷ nets) (lt, a) zero c e = subst (λ (x : ClassId). x.0 < n) (same_Some d c e) lt
  below_nets (Some d ∷ nets) (lt, a) (suc j) c e = below_nets nets a j c e

  pub split_all : (xs ys : List ℕ) → AllByRecursion (λ c. c < n) (xs ++ ys) → AllByRecursion (λ c. c < n) xs × AllByRecursion (λ c. c < n) ys
  split_all [] ys a = (tt, a)
  split_all (x ∷ xs) ys (lt, a) = let (b, c) = split_all xs ys a in ((lt, b), c)

  -- where each class number is known, so is each labelled class and each class of a gate
  module _ (cert : Certificate) (known : find (nat_le n) (class_numbers cert) ≡ None) where
    pub label_known : (c : ℕ) (l : Micro) → slice_index_or cert.labels c None ≡ Some l → c < n
    label_known c l e =
        let both = split_all (labelled_from 0 cert.labels) (numbers_of cert.nets) (all_below (class_numbers cert) known) in
        let lt = below_labelled cert.labels 0 both.0 c l e in
        omega arith

    pub net_known : (j : ℕ) (c : ClassId) → slice_index_or cert.nets j None ≡ Some c → c.0 < n
    net_known j c e =
        let both = split_all (labelled_from 0 cert.labels) (numbers_of cert.nets) (all_below (class_numbers cert) known) in
        below_nets cert.nets both.1 j c e

  pub nets_below : (nets : List (Option ClassId)) (gates : List ℕ) → map (option_map class_number) nets ≡ map Some gates → AllByRecursion (λ c. c < n) gates → AllByRecursion (λ c. c < n) (numbers_of nets)
  nets_below [] gates e a = tt
  nets_below (None ∷ nets) [] e a = cc
  nets_below (None ∷ nets) (g ∷ gates) e a = cc
  nets_below (Some c ∷ nets) [] e a = cc
  nets_below (Some c ∷ nets) (g ∷ gates) e (lt, a) =
      let head : Some c.0 ≡ Some g = cc in
      let same : c.0 ≡ g = same_Some c.0 g head in
      (subst (λ k. k < n) (sym same) lt, nets_below nets gates (cc) a)

-- the labelled classes are the same where the labels are
pub labelled_same : (xs ys : List (Option Micro)) (k : ℕ) → ((j : ℕ) → slice_index_or xs j None ≡ slice_index_or ys j None) → labelled_from k xs ≡ labelled_from k ys
labelled_same [] [] k h = refl
labelled_same [] (None ∷ ys) k h = labelled_same [] ys (suc k) (λ j. h (suc j))
labelled_same [] (Some b ∷ ys) k h = absurd (none-some b (h zero))
labelled_same (None ∷ xs) [] k h = labelled_same xs [] (suc k) (λ j. h (suc j))
labelled_same (Some a ∷ xs) [] k h = absurd (none-some a (sym (h zero)))
labelled_same (None ∷ xs) (None ∷ ys) k h = labelled_same xs ys (suc k) (λ j. h (suc j))
labelled_same (None ∷ xs) (Some b ∷ ys) k h = absurd (none-some b (h zero))
labelled_same (Some a ∷ xs) (None ∷ ys) k h = absurd (none-some a (sym (h zero)))
labelled_same (Some a ∷ xs) (Some b ∷ ys) k h = ap (λ cs. k ∷ cs) (labelled_same xs ys (suc k) (λ j. h (suc j)))

module _ (n : ℕ) where
  -- the classes below the number are passed over
  pub skipped : (ls : List (Option Micro)) (m k : ℕ) → m + k ≤ n → find (nat_le n) (labelled_from m ls) ≡ find (nat_le n) (labelled_from (m + k) (drop k ls))
  skipped ls m zero le = let e : m ≡ m + 0 = omega arith in ap (λ i. find (nat_le n) (labelled_from i ls)) e
  skipped [] m (suc k) le = refl
  skipped (None ∷ ls) m (suc k) le =
      let e : suc m + k ≡ m + suc k = omega arith in
      skipped ls (suc m) k (omega arith) ∙ ap (λ i. find (nat_le n) (labelled_from i (drop k ls))) e
  skipped (Some l ∷ ls) m (suc k) le =
      let e : suc m + k ≡ m + suc k = omega arith in
      let low : m < n = omega arith in
      subst (λ t. cond t (Some m) (find (nat_le n) (labelled_from (suc m) ls)) ≡ find (nat_le n) (labelled_from (suc m) ls)) (sym (lt-leb n m low)) refl ∙ (skipped ls (suc m) k (omega arith) ∙ ap (λ i. find (nat_le n) (labelled_from i (drop k ls))) e)
