-- What a text is read as, by the rule that it breaks first, from its whole part and its decimals.
use Rattle.std.proofs.Common.{ℕ, ◌+◌, ◌*◌, ◌≡◌, ◌<◌, ◌≤◌, min, true, false, ◌&&◌, nat_lt, List, Ok, Err, sym, ◌∙◌, ap, ap₂, subst, arith}
use Rattle.std.specs.Prelude.{nat_le}
use Rattle.std.specs.Str.Parse.{digits_value}
use Rattle.std.proofs.lemmas.Bool.Decides.{nat_tests}
use Rattle.lw_fixed.specs.declared.fault.DecimalFault.TheVariants.{Shape, Large, Fine, Negative}
use Rattle.lw_fixed.specs.Decimals.{decimal_of, whole_part, decimals, has_digits, is_decimal, units_of, value_of_decimals, is_finer, is_negative, millionths_of}

-- a value below its cap is not capped
uncapped : (v w cap : ℕ) → w ≡ min v cap → w < cap → (v ≡ w) × (nat_le cap v ≡ false)
uncapped v w cap e lt = (omega arith, grind (arith, nat_tests))

capped : (v w cap : ℕ) → w ≡ min v cap → cap ≤ w → nat_le cap v ≡ true
capped v w cap e le = grind (arith, nat_tests)

module _ (text whole part : List ℕ) (units : ℕ) (w : whole ≡ whole_part text) (p : part ≡ decimals text) where
  pub is_shape : has_digits whole part ≡ false → Err Shape ≡ decimal_of text units
  unfolding decimal_of
  is_shape shape =
      let shape' : is_decimal text ≡ false = ap₂ has_digits (sym w) (sym p) ∙ shape in
      simp shape'

  module _ (v : ℕ) (shape : has_digits whole part ≡ true) (value : v ≡ min (digits_value 10 whole) units) where
    shape' : is_decimal text ≡ true
    shape' = ap₂ has_digits (sym w) (sym p) ∙ shape

    value' : v ≡ min (units_of text) units
    value' = value ∙ ap (λ ds. min (digits_value 10 ds) units) w

    pub is_large : units ≤ v → Err Large ≡ decimal_of text units
    unfolding decimal_of
    is_large le =
        let large = capped (units_of text) v units value' le in
        simp (shape', large)

    module _ (lt : v < units) where
      small : nat_le units (units_of text) ≡ false
      small = (uncapped (units_of text) v units value' lt).1

      pub is_fine : is_finer part ≡ true → Err Fine ≡ decimal_of text units
      unfolding decimal_of
      is_fine fine =
          let fine' : is_finer (decimals text) ≡ true = ap is_finer (sym p) ∙ fine in
          simp (shape', small, fine')

      module _ (n : ℕ) (fine : is_finer part ≡ false) (few : n ≡ value_of_decimals part) where
        fine' : is_finer (decimals text) ≡ false
        fine' = ap is_finer (sym p) ∙ fine

        all : v * 1000000 + n ≡ millionths_of text
        all =
            let units_are : units_of text ≡ v = (uncapped (units_of text) v units value' lt).0 in
            let few' : n ≡ value_of_decimals (decimals text) = few ∙ ap value_of_decimals p in
            omega arith

        pub is_below : (is_negative text && nat_lt 0 (v * 1000000 + n)) ≡ true → Err Negative ≡ decimal_of text units
        unfolding decimal_of
        is_below below =
            let below' : (is_negative text && nat_lt 0 (millionths_of text)) ≡ true = subst (λ m. (is_negative text && nat_lt 0 m) ≡ true) all below in
            simp (shape', small, fine', below')

        pub is_read : (is_negative text && nat_lt 0 (v * 1000000 + n)) ≡ false → Ok (record { 0 = v * 1000000 + n }) ≡ decimal_of text units
        unfolding decimal_of
        is_read above =
            let above' : (is_negative text && nat_lt 0 (millionths_of text)) ≡ false = subst (λ m. (is_negative text && nat_lt 0 m) ≡ false) all above in
            rw all (simp (shape', small, fine', above'))
