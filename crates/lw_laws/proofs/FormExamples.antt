-- Worked rows, computed.
use Rattle.std.proofs.Common.{ℕ, ◌≡◌, Bool, true, false, Option, Some, None, List, [], ◌∷◌, length, slice_index_or, refl}
use Rattle.lw_laws.specs.Networks.{Network}
use Rattle.lw_laws.specs.Forms.{Form, and_of}
use Rattle.lw_laws.specs.Forms.Form.{var_form, true_form, not_form}
use Rattle.lw_laws.specs.Signals.{sop_at, signal_of_input, signals_of, sum_of_products, factored}
use Rattle.lw_laws.specs.Modes.Mode.{plain, idempotent}
use Rattle.lw_laws.specs.Occurring.{occurring_forms, splits_at, split_count}
use Rattle.lw_laws.proofs.Words.{and_count}

abbrev va : Form
va = var_form 0

abbrev vb : Form
vb = var_form 1

abbrev vc : Form
vc = var_form 2

abbrev y : Option Bool
y = Some true

abbrev n : Option Bool
n = Some false

abbrev o : Option Bool
o = None

abbrev inputs : List Form
inputs = va ∷ vb ∷ vc ∷ []

-- rows 11- and 1-1
abbrev rows_1 : List (List (Option Bool))
rows_1 = (y ∷ y ∷ o ∷ []) ∷ (y ∷ o ∷ y ∷ []) ∷ []

sum_1 : sum_of_products 4 inputs rows_1 ≡ not_form (and_of (not_form (and_of (va ∷ vb ∷ [])) ∷ not_form (and_of (va ∷ vc ∷ [])) ∷ []))
sum_1 = refl

factored_1 : factored 4 inputs rows_1 ≡ and_of (va ∷ not_form (and_of (not_form vb ∷ not_form vc ∷ [])) ∷ [])
factored_1 = refl

-- rows 11, 10 and 0-
abbrev rows_2 : List (List (Option Bool))
rows_2 = (y ∷ y ∷ []) ∷ (y ∷ n ∷ []) ∷ (n ∷ o ∷ []) ∷ []

sum_2 : sum_of_products 4 (va ∷ vb ∷ []) rows_2 ≡ not_form (and_of (not_form (and_of (va ∷ vb ∷ [])) ∷ not_form (and_of (va ∷ not_form vb ∷ [])) ∷ va ∷ []))
sum_2 = refl

factored_2 : factored 4 (va ∷ vb ∷ []) rows_2 ≡ true_form
factored_2 = refl

-- rows 10 and 01
abbrev rows_3 : List (List (Option Bool))
rows_3 = (y ∷ n ∷ []) ∷ (n ∷ y ∷ []) ∷ []

sum_3 : sum_of_products 4 (va ∷ vb ∷ []) rows_3 ≡ not_form (and_of (not_form (and_of (va ∷ not_form vb ∷ [])) ∷ not_form (and_of (not_form va ∷ vb ∷ [])) ∷ []))
sum_3 = refl

factored_3 : factored 4 (va ∷ vb ∷ []) rows_3 ≡ sum_of_products 4 (va ∷ vb ∷ []) rows_3
factored_3 = refl

-- rows 1- and 11
abbrev rows_5 : List (List (Option Bool))
rows_5 = (y ∷ o ∷ []) ∷ (y ∷ y ∷ []) ∷ []

sum_5 : sum_of_products 4 (va ∷ vb ∷ []) rows_5 ≡ not_form (and_of (not_form va ∷ not_form (and_of (va ∷ vb ∷ [])) ∷ []))
sum_5 = refl

factored_5 : factored 4 (va ∷ vb ∷ []) rows_5 ≡ va
factored_5 = refl

-- one node with these rows over the inputs
abbrev net_of : ℕ → List ℕ → List (List (Option Bool)) → Bool → Network
net_of k fanins rows on = record { inputs = k; nodes = record { fanins = fanins; rows = rows; on = on } ∷ [] }

-- the factored form of a net at width 4
abbrev fac_at : Network → ℕ → Form
fac_at net s = (slice_index_or (signals_of 4 net) s (signal_of_input 0)).fac

-- row 11, off
off_row : sop_at (signals_of 4 (net_of 2 (0 ∷ 1 ∷ []) ((y ∷ y ∷ []) ∷ []) false)) 2 ≡ not_form (and_of (va ∷ vb ∷ []))
off_row = refl

off_row_factored : fac_at (net_of 2 (0 ∷ 1 ∷ []) ((y ∷ y ∷ []) ∷ []) false) 2 ≡ not_form (and_of (va ∷ vb ∷ []))
off_row_factored = refl

no_rows : sop_at (signals_of 4 (net_of 0 [] [] true)) 0 ≡ not_form true_form
no_rows = refl

no_rows_factored : fac_at (net_of 0 [] [] true) 0 ≡ not_form true_form
no_rows_factored = refl

no_fanins : sop_at (signals_of 4 (net_of 0 [] ([] ∷ []) true)) 0 ≡ true_form
no_fanins = refl

no_fanins_factored : fac_at (net_of 0 [] ([] ∷ []) true) 0 ≡ true_form
no_fanins_factored = refl

-- one And of k inputs
abbrev wide_2 : List Form
wide_2 = occurring_forms 4 (net_of 2 (0 ∷ 1 ∷ []) ((y ∷ y ∷ []) ∷ []) true)

abbrev wide_3 : List Form
wide_3 = occurring_forms 4 (net_of 3 (0 ∷ 1 ∷ 2 ∷ []) ((y ∷ y ∷ y ∷ []) ∷ []) true)

abbrev wide_4 : List Form
wide_4 = occurring_forms 4 (net_of 4 (0 ∷ 1 ∷ 2 ∷ 3 ∷ []) ((y ∷ y ∷ y ∷ y ∷ []) ∷ []) true)

ands_2 : and_count wide_2 ≡ 1
ands_2 = refl

ands_3 : and_count wide_3 ≡ 4
ands_3 = refl

ands_4 : and_count wide_4 ≡ 11
ands_4 = refl

splits_2 : split_count plain wide_2 ≡ 1
splits_2 = refl

splits_3 : split_count plain wide_3 ≡ 6
splits_3 = refl

splits_4 : split_count plain wide_4 ≡ 25
splits_4 = refl

-- the same in the further mode
further_splits_2 : split_count idempotent wide_2 ≡ 3
further_splits_2 = refl

further_splits_3 : split_count idempotent wide_3 ≡ 21
further_splits_3 = refl

further_splits_4 : split_count idempotent wide_4 ≡ 105
further_splits_4 = refl

-- the splits of the one widest And
abbrev and_2 : Form
and_2 = and_of (va ∷ vb ∷ [])

abbrev and_3 : Form
and_3 = and_of inputs

abbrev and_4 : Form
and_4 = and_of (va ∷ vb ∷ vc ∷ var_form 3 ∷ [])

splits_at_2 : splits_at plain and_2 ≡ 1
splits_at_2 = refl

splits_at_3 : splits_at plain and_3 ≡ 3
splits_at_3 = refl

splits_at_4 : splits_at plain and_4 ≡ 7
splits_at_4 = refl

further_splits_at_2 : splits_at idempotent and_2 ≡ 3
further_splits_at_2 = refl

further_splits_at_3 : splits_at idempotent and_3 ≡ 12
further_splits_at_3 = refl

further_splits_at_4 : splits_at idempotent and_4 ≡ 39
further_splits_at_4 = refl

list_3 : wide_3 ≡ true_form ∷ va ∷ vb ∷ vc ∷ and_of (va ∷ vb ∷ []) ∷ and_of (va ∷ vc ∷ []) ∷ and_of (vb ∷ vc ∷ []) ∷ and_of (va ∷ vb ∷ vc ∷ []) ∷ []
list_3 = refl

abbrev net_9 : Network
net_9 = net_of 9 (0 ∷ 1 ∷ 2 ∷ 3 ∷ 4 ∷ 5 ∷ 6 ∷ 7 ∷ 8 ∷ []) ((y ∷ y ∷ y ∷ y ∷ y ∷ y ∷ y ∷ y ∷ y ∷ []) ∷ []) true

sum_9 : sop_at (signals_of 4 net_9) 9 ≡ and_of (and_of (var_form 0 ∷ var_form 1 ∷ var_form 2 ∷ var_form 3 ∷ []) ∷ and_of (var_form 4 ∷ var_form 5 ∷ var_form 6 ∷ var_form 7 ∷ []) ∷ var_form 8 ∷ [])
sum_9 = refl

factored_9 : fac_at net_9 9 ≡ sop_at (signals_of 4 net_9) 9
factored_9 = refl

forms_9 : length (occurring_forms 4 net_9) ≡ 36
forms_9 = refl

-- one And of six inputs
abbrev net_6 : Network
net_6 = net_of 6 (0 ∷ 1 ∷ 2 ∷ 3 ∷ 4 ∷ 5 ∷ []) ((y ∷ y ∷ y ∷ y ∷ y ∷ y ∷ []) ∷ []) true

ands_6 : and_count (occurring_forms 6 net_6) ≡ 57
ands_6 = refl

splits_6 : split_count plain (occurring_forms 6 net_6) ≡ 301
splits_6 = refl

-- one And of eight inputs
abbrev net_8 : Network
net_8 = net_of 8 (0 ∷ 1 ∷ 2 ∷ 3 ∷ 4 ∷ 5 ∷ 6 ∷ 7 ∷ []) ((y ∷ y ∷ y ∷ y ∷ y ∷ y ∷ y ∷ y ∷ []) ∷ []) true

ands_8 : and_count (occurring_forms 8 net_8) ≡ 247
ands_8 = refl

splits_8 : split_count plain (occurring_forms 8 net_8) ≡ 3025
splits_8 = refl

further_splits_8 : split_count idempotent (occurring_forms 8 net_8) ≡ 32385
further_splits_8 = refl

-- rows 1-1, 11- and -11: of three literals that stand in two rows each the least column is taken
factored_6 : factored 4 inputs ((y ∷ o ∷ y ∷ []) ∷ (y ∷ y ∷ o ∷ []) ∷ (o ∷ y ∷ y ∷ []) ∷ []) ≡ not_form (and_of (not_form (and_of (va ∷ not_form (and_of (not_form vc ∷ not_form vb ∷ [])) ∷ [])) ∷ not_form (and_of (vb ∷ vc ∷ [])) ∷ []))
factored_6 = refl

-- rows 0--1-, 0---1, 11--- and 1-1--: of a column's two literals that stand in two rows each the positive one is taken
factored_7 : factored 4 (va ∷ vb ∷ vc ∷ var_form 3 ∷ var_form 4 ∷ []) ((n ∷ o ∷ o ∷ y ∷ o ∷ []) ∷ (n ∷ o ∷ o ∷ o ∷ y ∷ []) ∷ (y ∷ y ∷ o ∷ o ∷ o ∷ []) ∷ (y ∷ o ∷ y ∷ o ∷ o ∷ []) ∷ []) ≡ not_form (and_of (not_form (and_of (va ∷ not_form (and_of (not_form vb ∷ not_form vc ∷ [])) ∷ [])) ∷ not_form (and_of (not_form va ∷ not_form (and_of (not_form (var_form 3) ∷ not_form (var_form 4) ∷ [])) ∷ [])) ∷ []))
factored_7 = refl
