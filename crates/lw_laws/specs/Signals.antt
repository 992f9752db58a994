-- The two forms of each signal of a network: the sum of products, and the factored form.
use Rattle.std.specs.Prelude.{ℕ, zero, suc, ◌+◌, Bool, true, false, not, cond, ltb, Option, Some, None, List, [], ◌∷◌}
use Rattle.std.specs.Prelude.{◌++◌, map, length, filter, slice_index_or}
use Rattle.lw_laws.specs.Networks.{Node, Network}
use Rattle.lw_laws.specs.Forms.{Form, complement, conjunction, disjunction}
use Rattle.lw_laws.specs.Forms.Form.{var_form, true_form, not_form}

abbrev pub signed : Bool → Form → Form
signed true f = f
signed false f = complement f

-- the literals of a row in column order, given the forms of the fan-ins
abbrev pub literals : List Form → List (Option Bool) → List Form
literals (f ∷ fs) (Some sign ∷ row) = signed sign f ∷ literals fs row
literals (f ∷ fs) (None ∷ row) = literals fs row
literals _ _ = []

abbrev pub sum_of_products : ℕ → List Form → List (List (Option Bool)) → Form
sum_of_products width fs rows = disjunction width (map (λ row. conjunction width (literals fs row)) rows)

-- a column with a sign
pub record Literal : Type 0 where
  pub column : ℕ
  pub sign : Bool

abbrev pub asks : Bool → Option Bool → Bool
asks sign None = false
asks true (Some b) = b
asks false (Some b) = not b

abbrev pub has_at : ℕ → Bool → List (Option Bool) → Bool
has_at column sign [] = false
has_at zero sign (c ∷ row) = asks sign c
has_at (suc k) sign (c ∷ row) = has_at k sign row

abbrev pub has : Literal → List (Option Bool) → Bool
has l row = has_at l.column l.sign row

abbrev pub cleared_at : ℕ → List (Option Bool) → List (Option Bool)
cleared_at column [] = []
cleared_at zero (c ∷ row) = None ∷ row
cleared_at (suc k) (c ∷ row) = c ∷ cleared_at k row

-- the row with the literal removed
abbrev pub cleared : Literal → List (Option Bool) → List (Option Bool)
cleared l row = cleared_at l.column row

abbrev pub count_having : Literal → List (List (Option Bool)) → ℕ
count_having l [] = 0
count_having l (row ∷ rows) = cond (has l row) 1 0 + count_having l rows

-- the literals by column, the positive one first
abbrev pub literals_from : ℕ → ℕ → List Literal
literals_from column zero = []
literals_from column (suc n) =
    record { column = column; sign = true } ∷ record { column = column; sign = false } ∷ literals_from (column + 1) n

-- the first of the literals that stands in most rows, if in more than this number
abbrev pub most_common : List (List (Option Bool)) → List Literal → ℕ → Option Literal → Option Literal
most_common rows [] n best = best
most_common rows (l ∷ ls) n best =
    elim (ltb n (count_having l rows)) [
      | true ↦ most_common rows ls (count_having l rows)
          (Some l)
      | false ↦ most_common rows ls n best
    ]

-- the literal to factor out: it stands in two rows at least
abbrev pub shared_literal : ℕ → List (List (Option Bool)) → Option Literal
shared_literal columns rows = most_common rows (literals_from 0 columns) 1 None

abbrev pub literal_form : List Form → Literal → Form
literal_form fs l = signed l.sign (slice_index_or fs l.column true_form)

abbrev pub factored_by : (List (List (Option Bool)) → Form) → ℕ → List Form → List (List (Option Bool)) → Option Literal
    → Form
factored_by again width fs rows None = sum_of_products width fs rows
factored_by again width fs rows (Some l) =
    disjunction width
    (conjunction width (literal_form fs l ∷ again (map (cleared l) (filter (has l) rows)) ∷ []) ∷ again
    (filter (λ row. not (has l row)) rows) ∷ [])

-- the factored form of some rows, with a bound on the depth
abbrev pub factored_within : ℕ → ℕ → List Form → List (List (Option Bool)) → Form
factored_within zero width fs rows = sum_of_products width fs rows
factored_within (suc n) width fs rows =
    factored_by (λ rest. factored_within n width fs rest) width fs rows (shared_literal (length fs) rows)

-- each step takes a literal away from the rows
abbrev pub literal_count : List Form → List (List (Option Bool)) → ℕ
literal_count fs [] = 0
literal_count fs (row ∷ rows) = length (literals fs row) + literal_count fs rows

abbrev pub factored : ℕ → List Form → List (List (Option Bool)) → Form
factored width fs rows = factored_within (suc (literal_count fs rows)) width fs rows

pub record Signal : Type 0 where
  pub sop : Form
  pub fac : Form

abbrev pub signal_of_input : ℕ → Signal
signal_of_input i = record { sop = var_form i; fac = var_form i }

abbrev pub sop_at : List Signal → ℕ → Form
sop_at signals net = (slice_index_or signals net (record { sop = not_form true_form; fac = not_form true_form })).sop

-- the forms of a node, given those of the nets before it
abbrev pub signal_of_node : ℕ → List Signal → Node → Signal
signal_of_node width signals node =
    record {
      sop = signed node.on (sum_of_products width (map (sop_at signals) node.fanins) node.rows);
      fac = signed node.on (factored width (map (sop_at signals) node.fanins) node.rows);
    }

abbrev pub signals_after : ℕ → List Signal → List Node → List Signal
signals_after width signals [] = signals
signals_after width signals (node ∷ nodes) =
    signals_after width (signals ++ signal_of_node width signals node ∷ []) nodes

abbrev pub input_signals : ℕ → ℕ → List Signal
input_signals i zero = []
input_signals i (suc n) = signal_of_input i ∷ input_signals (i + 1) n

-- the signals of a network by net
abbrev pub signals_of : ℕ → Network → List Signal
signals_of width net = signals_after width (input_signals 0 net.inputs) net.nodes
