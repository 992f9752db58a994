-- The facts of the draft are those of the forms.
use Rattle.std.proofs.Common.{◌≡◌, ◌+◌, ◌-◌, ◌*◌, ◌/◌, ◌%◌, ◌^◌, ◌<◌, ◌≤◌, ◌⊎◌, bit_or, pow-suc, inl, inr, ℕ, zero, suc, List, [], ◌∷◌, length, Option, Some, Contains, slice_get, refl, ap, sym, ◌∙◌, subst, arith}
use native.Mathlib.Decide.{dec_lt}
use Rattle.lw_laws.specs.Modes.{Mode}
use Rattle.lw_laws.specs.Modes.Mode.{plain, idempotent}
use Rattle.lw_laws.specs.NumberedForms.{Base, NumberedForms, IsPart, IsCutOf, IsSplitOf, family_of}
use Rattle.lw_laws.specs.NumberedForms.Base.{base_true, base_input, base_and}
use Rattle.lw_laws.specs.Families.{IsNand}
use Rattle.lw_laws.specs.Drafts.{Draft, NandFact, facts_of, HaveSameFacts}
use Rattle.lw_form.specs.Bases.{picked}
use Rattle.lw_form.specs.Kept.{AreForms}
use Rattle.lw_form.proofs.Parts.{picked_zero}
use Rattle.lw_assoc.specs.Drafting.{other, IsDraftOf}
use Rattle.std.proofs.lemmas.Nat.{or_comm}
use Rattle.std.proofs.lemmas.Option.{slice_get_within}
use Rattle.lw_laws.proofs.Flips.{flip_even, flip_odd}
use Rattle.lw_assoc.proofs.Masks.{picked_other, IsCutBy, cut_mask, covering_masks, half_mask, or_other}

pub same_place : (o : Option Base) (a b : Base) → o ≡ Some a → o ≡ Some b → a ≡ b
same_place o a b e d = cc

-- a listed fact with these numbers
named : (nands : List NandFact) (n : NandFact) (f x y : ℕ) → n.form ≡ f → n.left ≡ x → n.right ≡ y → Contains nands n → Contains nands (record { form = f; left = x; right = y })
named nands n f x y s p q c =
    subst (λ k. Contains nands (record { form = k; left = x; right = y })) s (subst (λ k. Contains nands (record { form = n.form; left = k; right = y })) p (subst (λ k. Contains nands (record { form = n.form; left = n.left; right = k })) q c))

module _ (forms : NumberedForms) (are : AreForms forms) where
  -- only one form is the And of some operands
  part_once : (fs : List ℕ) (x y : ℕ) → IsPart forms fs x → IsPart forms fs y → x ≡ y
  part_once [] x y p q = absurd p
  part_once (f ∷ []) x y p q = p ∙ sym q
  part_once (f ∷ h ∷ fs) x y (a, e, s) (b, d, t) = s ∙ (ap (λ n. 2 * n) (are.once a b (base_and (f ∷ h ∷ fs)) e d) ∙ sym t)

  part_some : (fs : List ℕ) (x : ℕ) → IsPart forms fs x → fs ≡ [] → ⊥
  part_some [] x p e = p
  part_some (f ∷ fs) x p e = cc

  -- true and the inputs have the first places
  input_place : (b i : ℕ) → slice_get forms.bases b ≡ Some (base_input i) → (i < forms.inputs) × (b ≡ i + 1)
  input_place zero i e = let d = are.in_order.first in cc
  input_place (suc j) i e = by_order (dec_lt j forms.inputs) where
    by_order : Dec (j < forms.inputs) → (i < forms.inputs) × (suc j ≡ i + 1)
    by_order (yes lt) =
        let s : base_input (i) ≡ base_input j = same_place (slice_get forms.bases (suc j)) (base_input i) (base_input j) e (subst (λ k. slice_get forms.bases k ≡ Some (base_input j)) (omega arith) (are.in_order.inputs j lt)) in
        let t : i ≡ j = cc in
        (omega arith, omega arith)
    by_order (no ge) =
        let (fs, d) = are.in_order.later (suc j) (omega arith) (slice_get_within forms.bases (suc j) (base_input i) e) in
        cc

  true_place : (b : ℕ) → slice_get forms.bases b ≡ Some base_true → b ≡ 0
  true_place zero e = refl
  true_place (suc j) e = by_order (dec_lt j forms.inputs) where
    by_order : Dec (j < forms.inputs) → suc j ≡ 0
    by_order (yes lt) =
        let d : slice_get forms.bases (suc j) ≡ Some (base_input j) = subst (λ k. slice_get forms.bases k ≡ Some (base_input j)) (omega arith) (are.in_order.inputs j lt) in
        cc
    by_order (no ge) =
        let (fs, d) = are.in_order.later (suc j) (omega arith) (slice_get_within forms.bases (suc j) base_true e) in
        cc

  swapped : (d : Draft) (f x y : ℕ) → IsNand (facts_of d) f y x → IsNand (facts_of d) f x y
  swapped d f x y (inl c) = inr c
  swapped d f x y (inr c) = inl c

  not_zero : (fs hs : List ℕ) (k z : ℕ) → hs ≡ picked fs k → IsPart forms hs z → 1 ≤ k
  not_zero fs hs zero z l part = absurd (part_some hs z part (l ∙ picked_zero fs))
  not_zero fs hs (suc k) z l part = omega arith

  module _ (d : Draft) (is : IsDraftOf plain forms d) where
    -- the fact of the mask, in whichever order its parts stand
    split_found : (b : ℕ) (fs ls rs : List ℕ) (mask x y : ℕ) → slice_get forms.bases b ≡ Some (base_and fs) → 1 ≤ mask → mask < 2 ^ (length fs - 1) → ls ≡ picked fs mask → rs ≡ picked fs (other fs mask) → IsPart forms ls x → IsPart forms rs y → Contains d.nands (record { form = 2 * b + 1; left = x; right = y })
    split_found b fs ls rs mask x y e one lt l r p q =
        let (n, c, by) = is.splits.all b (slice_get_within forms.bases b (base_and fs) e) fs mask e one lt in
        named d.nands n (2 * b + 1) x y by.form
        (part_once (picked fs mask) n.left x by.left (subst (λ hs. IsPart forms hs x) l p))
        (part_once (picked fs (other fs mask)) n.right y by.right (subst (λ hs. IsPart forms hs y) r q)) c

    cut_found : (b : ℕ) (fs ls rs : List ℕ) (x y : ℕ) → slice_get forms.bases b ≡ Some (base_and fs) → IsCutBy fs ls rs → IsPart forms ls x → IsPart forms rs y → Contains d.nands (record { form = 2 * b + 1; left = x; right = y }) ⊎ Contains d.nands (record { form = 2 * b + 1; left = y; right = x })
    cut_found b fs ls rs x y e m p q = by_half (dec_lt m.mask (2 ^ (length fs - 1))) where
      two : 2 ≤ length fs
      two = (are.operands b fs e).two

      rest : ℕ
      rest = other fs m.mask

      right : rs ≡ picked fs rest
      right = m.right ∙ sym (picked_other fs m.mask m.within)

      first : 1 ≤ m.mask
      first = not_zero fs ls m.mask x m.left p

      second : 1 ≤ rest
      second = not_zero fs rs rest y right q

      back : other fs rest ≡ m.mask
      back = let lt = m.within in omega arith

      by_half : Dec (m.mask < 2 ^ (length fs - 1)) → Contains d.nands (record { form = 2 * b + 1; left = x; right = y }) ⊎ Contains d.nands (record { form = 2 * b + 1; left = y; right = x })
      by_half (yes lt) = inl (split_found b fs ls rs m.mask x y e first lt m.left right p q)
      by_half (no ge) =
          inr (split_found b fs rs ls rest y x e second (half_mask (length fs) m.mask (let t = two in omega arith) m.within ge) right (m.left ∙ ap (picked fs) (sym back)) q p)

    cut_is_nand : (f x y : ℕ) → IsCutOf forms f x y → IsNand (facts_of d) f x y
    cut_is_nand f x y (b, fs, ls, rs, e, s, c, p, q) =
        subst (λ k. IsNand (facts_of d) k x y) (sym s) (cut_found b fs ls rs x y e (cut_mask c) p q)

  module _ (d : Draft) (is : IsDraftOf idempotent forms d) where
    -- the fact of two masks, in whichever order its parts stand
    pair_found : (b : ℕ) (fs ls rs : List ℕ) (a r x y : ℕ) → slice_get forms.bases b ≡ Some (base_and fs) → a < r → r < 2 ^ length fs → bit_or a r ≡ 2 ^ length fs - 1 → ls ≡ picked fs a → rs ≡ picked fs r → IsPart forms ls x → IsPart forms rs y → Contains d.nands (record { form = 2 * b + 1; left = x; right = y })
    pair_found b fs ls rs a r x y e less within all l t p q =
        let has = (is.splits.all b (slice_get_within forms.bases b (base_and fs) e)).1 in
        let (n, c, by) = has fs a r e (record { some = not_zero fs ls a x l p; less = less; within = within; all = all }) in
        named d.nands n (2 * b + 1) x y by.form
        (part_once (picked fs a) n.left x by.left (subst (λ hs. IsPart forms hs x) l p))
        (part_once (picked fs r) n.right y by.right (subst (λ hs. IsPart forms hs y) t q)) c

    masks_found : (b : ℕ) (fs ls rs : List ℕ) (a r x y : ℕ) → slice_get forms.bases b ≡ Some (base_and fs) → a < 2 ^ length fs → r < 2 ^ length fs → bit_or a r ≡ 2 ^ length fs - 1 → (a ≡ r → ⊥) → ls ≡ picked fs a → rs ≡ picked fs r → IsPart forms ls x → IsPart forms rs y → IsNand (facts_of d) (2 * b + 1) x y
    masks_found b fs ls rs a r x y e la lr all ne l t p q = by_order (dec_lt a r) where
      by_order : Dec (a < r) → IsNand (facts_of d) (2 * b + 1) x y
      by_order (yes lt) = inl (pair_found b fs ls rs a r x y e lt lr all l t p q)
      by_order (no ge) = inr (pair_found b fs rs ls r a y x e (omega arith) la (or_comm r a ∙ all) t l q p)

    split_is_nand : (f x y : ℕ) → IsSplitOf idempotent forms f x y → IsNand (facts_of d) f x y
    split_is_nand f x y (inl (b, fs, ls, rs, e, s, c, p, q)) =
        subst (λ k. IsNand (facts_of d) k x y) (sym s) (masks_found b fs ls rs m.mask (other fs m.mask) x y e m.within (let w = m.within in omega arith) (or_other (length fs) m.mask m.within) (λ z. odd (length fs) two z m.within) m.left (m.right ∙ sym (picked_other fs m.mask m.within)) p q)
      where
        m : IsCutBy fs ls rs
        m = cut_mask c

        two : 2 ≤ length fs
        two = (are.operands b fs e).two

        odd : (k : ℕ) → 2 ≤ k → m.mask ≡ 2 ^ k - 1 - m.mask → m.mask < 2 ^ k → ⊥
        odd zero le s lt = omega arith
        odd (suc k) le s lt = let p = pow-suc 2 k in omega arith
    split_is_nand f x y (inr (inl (b, fs, ls, rs, e, s, c, ne, p, q))) =
        let m = covering_masks c in
        subst (λ k. IsNand (facts_of d) k x y) (sym s) (masks_found b fs ls rs m.mask m.rest x y e m.within m.rest_within m.all (λ z. ne (m.left ∙ (ap (picked fs) z ∙ sym m.right))) m.left m.right p q)
    split_is_nand f x y (inr (inr (o, s, t))) = by_bit (f % 2) refl where
      b : ℕ
      b = f / 2

      by_bit : (k : ℕ) → f % 2 ≡ k → IsNand (facts_of d) f x y
      by_bit zero z =
          let even : f ≡ 2 * b = omega arith in
          let g = flip_even f b even in
          inl (named d.nands (record { form = 2 * b; left = 2 * b + 1; right = 2 * b + 1 }) f x y (sym even) (sym (s ∙ g)) (sym (t ∙ g)) (is.splits.all b o).0.even)
      by_bit (suc zero) z =
          let odd : f ≡ 2 * b + 1 = omega arith in
          let g = flip_odd f b odd in
          inl (named d.nands (record { form = 2 * b + 1; left = 2 * b; right = 2 * b }) f x y (sym odd) (sym (s ∙ g)) (sym (t ∙ g)) (is.splits.all b o).0.odd)
      by_bit (suc (suc k)) z = absurd (omega arith)

  split_there : (mode : Mode) (d : Draft) → IsDraftOf mode forms d → (f x y : ℕ) → IsSplitOf mode forms f x y → IsNand (facts_of d) f x y
  split_there plain d is f x y c = cut_is_nand d is f x y c
  split_there idempotent d is f x y c = split_is_nand d is f x y c

  module _ (mode : Mode) (d : Draft) (is : IsDraftOf mode forms d) where
    nand_there : (f x y : ℕ) → IsNand (family_of mode forms) f x y → IsNand (facts_of d) f x y
    nand_there f x y (inl c) = split_there mode d is f x y c
    nand_there f x y (inr c) = swapped d f x y (split_there mode d is f y x c)

    nand_back : (f x y : ℕ) → IsNand (facts_of d) f x y → IsNand (family_of mode forms) f x y
    nand_back f x y (inl c) = inl (is.splits.are (record { form = f; left = x; right = y }) c)
    nand_back f x y (inr c) = inr (is.splits.are (record { form = f; left = y; right = x }) c)

    pub same_facts : HaveSameFacts (family_of mode forms) (facts_of d)
    same_facts = record {
      occurs = λ f. (λ o. subst (λ n. f / 2 < n) (sym is.bases.count) o, λ o. subst (λ n. f / 2 < n) is.bases.count o);
      inputs = λ f i. (
        λ (b, e, s). let (lt, at) = input_place b i e in (subst (λ n. i < n) (sym is.bases.inputs) lt, s ∙ ap (λ k. 2 * k) at),
        λ (lt, s). (i + 1, are.in_order.inputs i (subst (λ n. i < n) is.bases.inputs lt), s),
      );
      tops = λ f. (
        λ (b, e, s). s ∙ ap (λ k. 2 * k) (true_place b e),
        λ s. (0, are.in_order.first, s),
      );
      nands = λ f x y. (nand_there f x y, nand_back f x y);
      links = λ f h (s, e, g). inl (inl (is.links.all s f h (slice_get_within forms.sops s f e) e g));
      links_back = λ f h c. inl (inl (is.links.are (record { left = f; right = h }) c));
    }
