-- Least arrivals of worked examples: the three-input And, the XOR of two inputs, and sharing between two nodes.
use Rattle.std.proofs.Common.{ℕ, Bool, true, false, List, [], ◌∷◌, Option, Some, None, refl, suc, ◌≤◌, ◌≡◌, ap, lit<, lit≤, inl, inr, length, map, slice_index_or}
use Rattle.std.specs.List.{AllByRecursion}
use Rattle.lw_laws.specs.Modes.Mode.{plain}
use Rattle.lw_laws.specs.Trees.{Tree, leaf, inv, nand}
use Rattle.lw_laws.specs.Networks.{Network}
use Rattle.lw_laws.specs.Forms.{Form, and_of}
use Rattle.lw_laws.specs.Signals.{signals_of}
use Rattle.lw_laws.specs.Forms.Form.{var_form, not_form}
use Rattle.lw_laws.specs.Decompositions.{HasTree}
use Rattle.lw_laws.specs.Listings.{listing_of}
use Rattle.lw_laws.specs.Decompositions.AreParts.{parts_none, parts_left, parts_right}
use Rattle.lw_laws.specs.Decompositions.HasTree.{input_law, inverter_law, split_law}
use Rattle.lw_laws.specs.Covers.{Timing, Pattern, Cover, Covers}
use Rattle.lw_laws.specs.Covers.Cover.{wire, gate}
use Rattle.lw_laws.specs.Covers.Covers.{no_covers, cover}
use Rattle.lw_laws.specs.Expressions.{Expr}
use Rattle.lw_laws.specs.Expressions.Expr.{expr_pin, expr_not, expr_and, expr_or}
use Rattle.lw_laws.specs.Patterns.{patterns_of}
use Rattle.lw_laws.specs.Choices.{AreHeights}
use Rattle.lw_laws.specs.Matches.{choices_of, IsLeastCover}
use Rattle.lw_laws.specs.Rounds.{labels_in}
use Rattle.lw_laws.specs.Delays.{delay_cost}
use Rattle.lw_laws.specs.Flip.{flip}
use Rattle.lw_laws.specs.Graphs.{Pair, Graph, HoldsPair, AreRising, IsWritten}
use Rattle.lw_laws.specs.Classes.{IsGraphOf}
use Rattle.lw_laws.specs.Mapped.{forms_of, IsLabelledOver}
use Rattle.lw_laws.specs.Headline.{HasLeastArrival}
use Rattle.lw_laws.proofs.PatternExamples.{exprs}
use Rattle.lw_laws.proofs.EncodingTests.{PassesTests}
use Rattle.lw_laws.proofs.PotentialTests.{PassesLabelTests}
use Rattle.lw_laws.proofs.ClassLaws.{encoding_is_graph}
use Rattle.lw_laws.proofs.HeightTests.{IsReached, tests_heights}
use Rattle.lw_laws.proofs.MappingTests.{labelled_least, labels_least, occurs_at, tested}

abbrev y : Option Bool
y = Some true

abbrev n : Option Bool
n = Some false

abbrev pair : ℕ → ℕ → Pair
pair a b = record { x = a; y = b }

abbrev cap : ℕ
cap = 9223372036854775807

abbrev nand_of : List Expr → Expr
nand_of es = expr_not (expr_and (exprs es))

-- inv of delay 1, nand2 of 1.5, nand3 of 2, in millionths
abbrev cells : List (List Expr)
cells = (expr_not (expr_pin 0) ∷ []) ∷ (nand_of (expr_pin 0 ∷ expr_pin 1 ∷ []) ∷ []) ∷ (nand_of (expr_pin 0 ∷ expr_pin 1 ∷ expr_pin 2 ∷ []) ∷ []) ∷ []

abbrev timing : Timing
timing = record { starts = []; delays = (1000000 ∷ []) ∷ (1500000 ∷ 1500000 ∷ []) ∷ (2000000 ∷ 2000000 ∷ 2000000 ∷ []) ∷ [] }

-- the And of three inputs
abbrev and_3 : Network
and_3 = record { inputs = 3; nodes = record { fanins = 0 ∷ 1 ∷ 2 ∷ []; rows = (y ∷ y ∷ y ∷ []) ∷ []; on = true } ∷ [] }

abbrev graph_3 : Graph
graph_3 = record {
  one = 0;
  leaves = 2 ∷ 4 ∷ 6 ∷ [];
  forms = 0 ∷ 2 ∷ 4 ∷ 6 ∷ 8 ∷ 10 ∷ 12 ∷ 14 ∷ [];
  pairs = [] ∷ [] ∷ [] ∷ [] ∷ [] ∷ [] ∷ [] ∷ [] ∷ [] ∷ (pair 2 4 ∷ []) ∷ [] ∷ (pair 2 6 ∷ []) ∷ [] ∷ (pair 4 6 ∷ []) ∷ [] ∷ (pair 2 12 ∷ pair 4 10 ∷ pair 6 8 ∷ []) ∷ [];
}

-- the labels of the classes by number
abbrev labels_3 : List (Option ℕ)
labels_3 = None ∷ None ∷ Some 0 ∷ Some 1000000 ∷ Some 0 ∷ Some 1000000 ∷ Some 0 ∷ Some 1000000 ∷ Some 2500000 ∷ Some 1500000 ∷ Some 2500000 ∷ Some 1500000 ∷ Some 2500000 ∷ Some 1500000 ∷ Some 3000000 ∷ Some 2000000 ∷ []

encoded_3 : PassesTests plain (forms_of 6 and_3) graph_3 []
unfolding Rattle.lw_laws.specs.Flip.flip
encoded_3 = record { facts = refl; rows = refl; once = refl; bases = refl; tops = refl; leaves = refl; links = refl; apart = refl; merges = tt }

bounded_3 : PassesLabelTests labels_3 graph_3 (patterns_of cells) (delay_cost timing cap)
unfolding Rattle.lw_laws.specs.Flip.flip
bounded_3 = record { even = 8; count = refl; listed = lit≤ tt; one = lit< tt; matches = refl; leaves = refl }

pub labelled_3 : IsLabelledOver plain 6 and_3 graph_3 (patterns_of cells) timing cap labels_3
labelled_3 = tested plain 6 (lit≤ tt) and_3 graph_3 [] encoded_3 (patterns_of cells) timing cap labels_3 bounded_3 refl (lit< tt)

-- the heights of the classes by number
abbrev heights_3 : List ℕ
heights_3 = 0 ∷ 0 ∷ 0 ∷ 1 ∷ 0 ∷ 1 ∷ 0 ∷ 1 ∷ 2 ∷ 1 ∷ 2 ∷ 1 ∷ 2 ∷ 1 ∷ 2 ∷ 1 ∷ []

abbrev pub height_3 : ℕ → ℕ
height_3 c = slice_index_or heights_3 c 0

abbrev pattern : ℕ → Tree → Pattern
pattern cell t = record { cell = cell; tree = t }

abbrev Reached_3 : ℕ → Type 0
Reached_3 = IsReached labels_3 heights_3 graph_3 (patterns_of cells) (delay_cost timing cap)

abbrev cost_3 : ℕ → List ℕ → ℕ
cost_3 cell ls = (delay_cost timing cap).value cell ls

-- a class where an inverter or a nand2 stands, which are higher than their pins
reached_by_inv : (c p l h : ℕ) → p ≡ flip c → labels_in labels_3 p ≡ Some l → labels_in labels_3 c ≡ Some (cost_3 0 (l ∷ [])) → height_3 p ≤ h → suc h ≤ height_3 c → Reached_3 c
reached_by_inv c p l h at e f le lt =
    inr (0, p ∷ [], h, record { stands = record { pattern = pattern 0 (inv (leaf 0)); listed = (0, lit< tt, refl); cell_is = refl; pins = refl; stands = ap Some at }; pin_labels = l ∷ []; have = (e, tt); value = f }, (le, tt), lt)

reached_by_nand : (c x y l m h : ℕ) → HoldsPair graph_3 c x y → labels_in labels_3 x ≡ Some l → labels_in labels_3 y ≡ Some m → labels_in labels_3 c ≡ Some (cost_3 1 (l ∷ m ∷ [])) → height_3 x ≤ h → height_3 y ≤ h → suc h ≤ height_3 c → Reached_3 c
reached_by_nand c x y l m h holds e f v le me lt =
    inr (1, x ∷ y ∷ [], h, record { stands = record { pattern = pattern 1 (nand (leaf 0) (leaf 1)); listed = (1, lit< tt, refl); cell_is = refl; pins = refl; stands = (x, y, holds, refl, refl) }; pin_labels = l ∷ m ∷ []; have = (e, (f, tt)); value = v }, (le, (me, tt)), lt)

-- where the nand3 of the inputs stands
reached_15 : Reached_3 15
unfolding Rattle.lw_laws.specs.Flip.flip
reached_15 =
    inr (2, 2 ∷ 4 ∷ 6 ∷ [], 0, record { stands = record { pattern = pattern 2 (nand (inv (nand (leaf 0) (leaf 1))) (leaf 2)); listed = (2, lit< tt, refl); cell_is = refl; pins = refl; stands = (8, 6, inr (2, lit< tt, refl), (2, 4, inl (0, lit< tt, refl), refl, refl), refl) }; pin_labels = 0 ∷ 0 ∷ 0 ∷ []; have = (refl, (refl, (refl, tt))); value = refl }, (lit≤ tt, (lit≤ tt, (lit≤ tt, tt))), lit≤ tt)

pub measured_3 : AreHeights (choices_of graph_3 (map length timing.delays) (patterns_of cells)) (delay_cost timing cap) (labels_in labels_3) height_3
unfolding Rattle.lw_laws.specs.Flip.flip
measured_3 =
    tests_heights labels_3 heights_3 graph_3 (patterns_of cells) (delay_cost timing cap) bounded_3 (record {
      inputs = (refl, (refl, (refl, tt)));
      reached = (
        inl (0, refl),
        (
          reached_by_inv 3 2 0 0 refl refl refl (lit≤ tt) (lit≤ tt),
          (
            inl (1, refl),
            (
              reached_by_inv 5 4 0 0 refl refl refl (lit≤ tt) (lit≤ tt),
              (
                inl (2, refl),
                (
                  reached_by_inv 7 6 0 0 refl refl refl (lit≤ tt) (lit≤ tt),
                  (
                    reached_by_inv 8 9 1500000 1 refl refl refl (lit≤ tt) (lit≤ tt),
                    (
                      reached_by_nand 9 2 4 0 0 0 (inl (0, lit< tt, refl)) refl refl refl (lit≤ tt) (lit≤ tt) (lit≤ tt),
                      (
                        reached_by_inv 10 11 1500000 1 refl refl refl (lit≤ tt) (lit≤ tt),
                        (
                          reached_by_nand 11 2 6 0 0 0 (inl (0, lit< tt, refl)) refl refl refl (lit≤ tt) (lit≤ tt) (lit≤ tt),
                          (
                            reached_by_inv 12 13 1500000 1 refl refl refl (lit≤ tt) (lit≤ tt),
                            (
                              reached_by_nand 13 4 6 0 0 0 (inl (0, lit< tt, refl)) refl refl refl (lit≤ tt) (lit≤ tt) (lit≤ tt),
                              (reached_by_inv 14 15 2000000 1 refl refl refl (lit≤ tt) (lit≤ tt), (reached_15, tt)),
                            ),
                          ),
                        ),
                      ),
                    ),
                  ),
                ),
              ),
            ),
          ),
        ),
      );
      low = refl;
    })

-- each label is the least time of a cover of its class, and a class without label has no cover
pub least_3 : (c : ℕ) → IsLeastCover graph_3 (patterns_of cells) (delay_cost timing cap) c (labels_in labels_3 c)
least_3 = labels_least plain 6 and_3 graph_3 (patterns_of cells) timing cap labels_3 height_3 refl labelled_3 measured_3

abbrev one_pin : Cover → Covers
one_pin k = cover k no_covers

abbrev two_pins : Cover → Cover → Covers
two_pins k j = cover k (one_pin j)

-- covers by the cells
abbrev by_inv : Cover → Cover
by_inv k = gate (pattern 0 (inv (leaf 0))) (one_pin k)

abbrev by_nand_2 : Cover → Cover → Cover
by_nand_2 k j = gate (pattern 1 (nand (leaf 0) (leaf 1))) (two_pins k j)

abbrev by_nand_3 : Cover → Cover → Cover → Cover
by_nand_3 k j i = gate (pattern 2 (nand (inv (nand (leaf 0) (leaf 1))) (leaf 2))) (cover k (two_pins j i))

abbrev a_form : Form
a_form = var_form 0

abbrev b_form : Form
b_form = var_form 1

abbrev c_form : Form
c_form = var_form 2

-- a nand3 and an inverter
abbrev cover_3 : Cover
cover_3 = by_inv (by_nand_3 (wire 0) (wire 1) (wire 2))

tree_3 : HasTree plain 6 (signals_of 6 and_3) (and_of (a_form ∷ b_form ∷ c_form ∷ [])) (inv (nand (inv (nand (leaf 0) (leaf 1))) (leaf 2)))
tree_3 =
    inverter_law (occurs_at and_3 _ (7, refl)) (split_law {ls = a_form ∷ b_form ∷ []} {rs = c_form ∷ []} (occurs_at and_3 _ (7, refl)) (parts_left (parts_left (parts_right parts_none))) (lit≤ tt) (lit≤ tt)
    (inverter_law (occurs_at and_3 _ (4, refl)) (split_law {ls = a_form ∷ []} {rs = b_form ∷ []} (occurs_at and_3 _ (4, refl)) (parts_left (parts_right parts_none)) (lit≤ tt) (lit≤ tt) input_law input_law)) input_law)

-- the And of three inputs arrives at 3
pub and_3_arrives : HasLeastArrival plain 6 and_3 (patterns_of cells) timing 3 3000000
unfolding Rattle.lw_laws.specs.Flip.flip
and_3_arrives =
    labelled_least plain 6 and_3 graph_3 (patterns_of cells) timing cap labels_3 labelled_3 3 3000000 (lit< tt) refl cover_3
    ((0, lit< tt, refl), refl, (((2, lit< tt, refl), refl, (tt, (tt, (tt, tt)))), tt)) tree_3 refl

-- the XOR of two inputs
abbrev xor_2 : Network
xor_2 = record { inputs = 2; nodes = record { fanins = 0 ∷ 1 ∷ []; rows = (y ∷ n ∷ []) ∷ (n ∷ y ∷ []) ∷ []; on = true } ∷ [] }

abbrev graph_x : Graph
graph_x = record {
  one = 0;
  leaves = 2 ∷ 4 ∷ [];
  forms = 0 ∷ 2 ∷ 4 ∷ 6 ∷ 8 ∷ 10 ∷ [];
  pairs = [] ∷ [] ∷ [] ∷ [] ∷ [] ∷ [] ∷ [] ∷ (pair 2 5 ∷ []) ∷ [] ∷ (pair 3 4 ∷ []) ∷ [] ∷ (pair 7 9 ∷ []) ∷ [];
}

abbrev labels_x : List (Option ℕ)
labels_x = None ∷ None ∷ Some 0 ∷ Some 1000000 ∷ Some 0 ∷ Some 1000000 ∷ Some 3500000 ∷ Some 2500000 ∷ Some 3500000 ∷ Some 2500000 ∷ Some 5000000 ∷ Some 4000000 ∷ []

encoded_x : PassesTests plain (forms_of 6 xor_2) graph_x []
unfolding Rattle.lw_laws.specs.Flip.flip
encoded_x = record { facts = refl; rows = refl; once = refl; bases = refl; tops = refl; leaves = refl; links = refl; apart = refl; merges = tt }

bounded_x : PassesLabelTests labels_x graph_x (patterns_of cells) (delay_cost timing cap)
unfolding Rattle.lw_laws.specs.Flip.flip
bounded_x = record { even = 6; count = refl; listed = lit≤ tt; one = lit< tt; matches = refl; leaves = refl }

abbrev cover_x : Cover
cover_x = by_nand_2 (by_nand_2 (wire 0) (by_inv (wire 1))) (by_nand_2 (by_inv (wire 0)) (wire 1))

abbrev form_x : Form
form_x = not_form (and_of (not_form (and_of (a_form ∷ not_form b_form ∷ [])) ∷ not_form (and_of (not_form a_form ∷ b_form ∷ [])) ∷ []))

tree_x : HasTree plain 6 (signals_of 6 xor_2) form_x (nand (nand (leaf 0) (inv (leaf 1))) (nand (inv (leaf 0)) (leaf 1)))
tree_x =
    split_law {ls = not_form (and_of (a_form ∷ not_form b_form ∷ [])) ∷ []} {rs = not_form (and_of (not_form a_form ∷ b_form ∷ [])) ∷ []} (occurs_at xor_2 _ (5, refl)) (parts_left (parts_right parts_none)) (lit≤ tt) (lit≤ tt)
    (split_law {ls = a_form ∷ []} {rs = not_form b_form ∷ []} (occurs_at xor_2 _ (3, refl)) (parts_left (parts_right parts_none)) (lit≤ tt) (lit≤ tt) input_law (inverter_law (occurs_at xor_2 _ (2, refl)) input_law))
    (split_law {ls = not_form a_form ∷ []} {rs = b_form ∷ []} (occurs_at xor_2 _ (4, refl)) (parts_left (parts_right parts_none)) (lit≤ tt) (lit≤ tt) (inverter_law (occurs_at xor_2 _ (1, refl)) input_law) input_law)

-- with inverters and nand2 it arrives at 4
pub xor_arrives : HasLeastArrival plain 6 xor_2 (patterns_of cells) timing 2 4000000
unfolding Rattle.lw_laws.specs.Flip.flip
xor_arrives =
    labelled_least plain 6 xor_2 graph_x (patterns_of cells) timing cap labels_x (tested plain 6 (lit≤ tt) xor_2 graph_x [] encoded_x (patterns_of cells) timing cap labels_x bounded_x refl (lit< tt)) 2 4000000 (lit< tt) refl cover_x
    ((1, lit< tt, refl), refl, (((1, lit< tt, refl), refl, (tt, (((0, lit< tt, refl), refl, (tt, tt)), tt))), (((1, lit< tt, refl), refl, (((0, lit< tt, refl), refl, (tt, tt)), (tt, tt))), tt))) tree_x refl

-- the cells and an xor2 of delay 1.9
abbrev with_xor : List (List Expr)
with_xor =
    (expr_not (expr_pin 0) ∷ []) ∷ (nand_of (expr_pin 0 ∷ expr_pin 1 ∷ []) ∷ []) ∷ (nand_of (expr_pin 0 ∷ expr_pin 1 ∷ expr_pin 2 ∷ []) ∷ []) ∷ (expr_or (exprs (expr_and (exprs (expr_pin 0 ∷ expr_not (expr_pin 1) ∷ [])) ∷ expr_and (exprs (expr_not (expr_pin 0) ∷ expr_pin 1 ∷ [])) ∷ [])) ∷ []) ∷ []

abbrev xor_timing : Timing
xor_timing = record { starts = []; delays = (1000000 ∷ []) ∷ (1500000 ∷ 1500000 ∷ []) ∷ (2000000 ∷ 2000000 ∷ 2000000 ∷ []) ∷ (1900000 ∷ 1900000 ∷ []) ∷ [] }

abbrev xor_labels : List (Option ℕ)
xor_labels = None ∷ None ∷ Some 0 ∷ Some 1000000 ∷ Some 0 ∷ Some 1000000 ∷ Some 3500000 ∷ Some 2500000 ∷ Some 3500000 ∷ Some 2500000 ∷ Some 2900000 ∷ Some 1900000 ∷ []

xor_bounded : PassesLabelTests xor_labels graph_x (patterns_of with_xor) (delay_cost xor_timing cap)
unfolding Rattle.lw_laws.specs.Flip.flip
xor_bounded = record { even = 6; count = refl; listed = lit≤ tt; one = lit< tt; matches = refl; leaves = refl }

-- with the xor2 it arrives at 1.9
pub xor_arrives_by_cell : HasLeastArrival plain 6 xor_2 (patterns_of with_xor) xor_timing 2 1900000
unfolding Rattle.lw_laws.specs.Flip.flip
xor_arrives_by_cell =
    labelled_least plain 6 xor_2 graph_x (patterns_of with_xor) xor_timing cap xor_labels (tested plain 6 (lit≤ tt) xor_2 graph_x [] encoded_x (patterns_of with_xor) xor_timing cap xor_labels xor_bounded refl (lit< tt)) 2 1900000 (lit< tt) refl
    (gate (pattern 3 (nand (nand (leaf 0) (inv (leaf 1))) (nand (inv (leaf 0)) (leaf 1)))) (two_pins (wire 0) (wire 1)))
    ((4, lit< tt, refl), refl, (tt, (tt, tt))) tree_x refl

-- the graph of the three-input And is that of its forms, with these numbers of classes
written_3 : IsWritten 8 3 graph_3
written_3 = record {
  form_count = refl;
  leaf_count = refl;
  numbered = inl (refl, inl (refl, inl (refl, inl (refl, inl (refl, inl (refl, inl (refl, inl (refl, tt))))))));
  class_count = refl;
  rising = λ c. rows_rise graph_3.pairs c (tt, (tt, (tt, (tt, (tt, (tt, (tt, (tt, (tt, ((lit≤ tt, tt, tt), (tt, ((lit≤ tt, tt, tt), (tt, ((lit≤ tt, tt, tt), (tt, ((lit≤ tt, (inl (lit< tt), (inl (lit< tt), tt)), (lit≤ tt, (inl (lit< tt), tt), (lit≤ tt, tt, tt))), tt))))))))))))))));
}
  where
    rows_rise : (rows : List (List Pair)) (c : ℕ) → AllByRecursion AreRising rows → AreRising (slice_index_or rows c [])
    rows_rise [] c a = tt
    rows_rise (r ∷ rows) ℕ.zero (p, a) = p
    rows_rise (r ∷ rows) (ℕ.suc c) (p, a) = rows_rise rows c a

pub and_3_graph : IsGraphOf plain 3 (listing_of 6 and_3) graph_3
and_3_graph = encoding_is_graph plain 6 and_3 graph_3 (lit≤ tt) labelled_3.over.encodes written_3
