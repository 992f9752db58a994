-- Sharing between nodes: a node that is no output makes another one faster.
use Rattle.std.proofs.Common.{ℕ, ◌≡◌, Bool, true, List, [], ◌∷◌, slice_get, Option, Some, None, inl, refl, lit<, lit≤}
use Rattle.lw_laws.specs.Modes.Mode.{plain}
use Rattle.lw_laws.specs.Trees.{Tree, leaf, inv, nand}
use Rattle.lw_laws.specs.Networks.{Node, Network}
use Rattle.lw_laws.specs.Forms.{Form, and_of}
use Rattle.lw_laws.specs.Signals.{signals_of}
use Rattle.lw_laws.specs.Forms.Form.{var_form}
use Rattle.lw_laws.specs.Decompositions.{Occurs, HasTree}
use Rattle.lw_laws.specs.Listings.{base_form}
use Rattle.lw_laws.specs.Decompositions.AreParts.{parts_none, parts_left, parts_right}
use Rattle.lw_laws.specs.Decompositions.HasTree.{input_law, inverter_law, split_law, sharing_law}
use Rattle.lw_laws.specs.Occurring.{occurring_forms}
use Rattle.lw_laws.specs.Covers.{Timing, Cover}
use Rattle.lw_laws.specs.Covers.Cover.{wire, gate}
use Rattle.lw_laws.specs.Covers.Covers.{no_covers, cover}
use Rattle.lw_laws.specs.Expressions.{Expr}
use Rattle.lw_laws.specs.Expressions.Expr.{expr_pin, expr_and}
use Rattle.lw_laws.specs.Patterns.{patterns_of}
use Rattle.lw_laws.specs.Graphs.{Pair, Graph}
use Rattle.lw_laws.specs.Families.{Equivalent}
use Rattle.lw_laws.specs.Families.Equivalent.{same, turned, flipped, nanded}
use Rattle.lw_laws.specs.NumberedForms.{family_of}
use Rattle.lw_laws.specs.NumberedForms.IsCut.{cut_none, cut_left, cut_right}
use Rattle.lw_laws.specs.Delays.{delay_cost}
use Rattle.lw_laws.specs.Mapped.{forms_of}
use Rattle.lw_laws.specs.Headline.{HasLeastArrival}
use Rattle.lw_laws.proofs.PatternExamples.{exprs}
use Rattle.lw_laws.proofs.EncodingTests.{Two, PassesTests}
use Rattle.lw_laws.proofs.PotentialTests.{PassesLabelTests}
use Rattle.lw_laws.proofs.MappingTests.{labelled_least, occurs_at, tested}

abbrev y : Option Bool
y = Some true

abbrev pair : ℕ → ℕ → Pair
pair a b = record { x = a; y = b }

abbrev cap : ℕ
cap = 9223372036854775807

-- and2 with delays of 1 and 5
abbrev cells : List (List Expr)
cells = (expr_and (exprs (expr_pin 0 ∷ expr_pin 1 ∷ [])) ∷ []) ∷ []

abbrev timing : Timing
timing = record { starts = []; delays = (1000000 ∷ 5000000 ∷ []) ∷ [] }

abbrev and_node : ℕ → ℕ → Node
and_node s t = record { fanins = s ∷ t ∷ []; rows = (y ∷ y ∷ []) ∷ []; on = true }

-- f is the And of a b and of c d
abbrev alone : Network
alone = record { inputs = 4; nodes = and_node 0 1 ∷ and_node 2 3 ∷ and_node 4 5 ∷ [] }

abbrev a_form : Form
a_form = var_form 0

abbrev b_form : Form
b_form = var_form 1

abbrev c_form : Form
c_form = var_form 2

abbrev d_form : Form
d_form = var_form 3

abbrev ab_form : Form
ab_form = and_of (a_form ∷ b_form ∷ [])

abbrev cd_form : Form
cd_form = and_of (c_form ∷ d_form ∷ [])

abbrev f_form : Form
f_form = and_of (ab_form ∷ cd_form ∷ [])

abbrev graph_a : Graph
graph_a = record {
  one = 0;
  leaves = 2 ∷ 4 ∷ 6 ∷ 8 ∷ [];
  forms = 0 ∷ 2 ∷ 4 ∷ 6 ∷ 8 ∷ 10 ∷ 12 ∷ 14 ∷ [];
  pairs = [] ∷ [] ∷ [] ∷ [] ∷ [] ∷ [] ∷ [] ∷ [] ∷ [] ∷ [] ∷ [] ∷ (pair 2 4 ∷ []) ∷ [] ∷ (pair 6 8 ∷ []) ∷ [] ∷ (pair 10 12 ∷ []) ∷ [];
}

abbrev labels_a : List (Option ℕ)
labels_a = None ∷ None ∷ Some 0 ∷ None ∷ Some 0 ∷ None ∷ Some 0 ∷ None ∷ Some 0 ∷ None ∷ Some 5000000 ∷ None ∷ Some 5000000 ∷ None ∷ Some 10000000 ∷ []

encoded_a : PassesTests plain (forms_of 6 alone) graph_a []
unfolding Rattle.lw_laws.specs.Flip.flip
encoded_a = record { facts = refl; rows = refl; once = refl; bases = refl; tops = refl; leaves = refl; links = refl; apart = refl; merges = tt }

bounded_a : PassesLabelTests labels_a graph_a (patterns_of cells) (delay_cost timing cap)
unfolding Rattle.lw_laws.specs.Flip.flip
bounded_a = record { even = 8; count = refl; listed = lit≤ tt; one = lit< tt; matches = refl; leaves = refl }

abbrev by_and : Cover → Cover → Cover
by_and k j = gate (record { cell = 0; tree = inv (nand (leaf 0) (leaf 1)) }) (cover k (cover j no_covers))

abbrev and_tree : Tree → Tree → Tree
and_tree t u = inv (nand t u)

-- where forms are listed
at_a : (b : ℕ) (f : Form) → slice_get (occurring_forms 6 alone) b ≡ Some (base_form f) → Occurs (signals_of 6 alone) f
at_a b f e = occurs_at alone f (b, e)

tree_a : HasTree plain 6 (signals_of 6 alone) f_form (and_tree (and_tree (leaf 0) (leaf 1)) (and_tree (leaf 2) (leaf 3)))
tree_a =
    inverter_law (at_a 7 f_form refl) (split_law {ls = ab_form ∷ []} {rs = cd_form ∷ []} (at_a 7 f_form refl) (parts_left (parts_right parts_none)) (lit≤ tt) (lit≤ tt)
    (inverter_law (at_a 5 ab_form refl) (split_law {ls = a_form ∷ []} {rs = b_form ∷ []} (at_a 5 ab_form refl) (parts_left (parts_right parts_none)) (lit≤ tt) (lit≤ tt) input_law input_law))
    (inverter_law (at_a 6 cd_form refl) (split_law {ls = c_form ∷ []} {rs = d_form ∷ []} (at_a 6 cd_form refl) (parts_left (parts_right parts_none)) (lit≤ tt) (lit≤ tt) input_law input_law)))

-- alone it arrives at 10
pub alone_arrives : HasLeastArrival plain 6 alone (patterns_of cells) timing 6 10000000
unfolding Rattle.lw_laws.specs.Flip.flip
alone_arrives =
    labelled_least plain 6 alone graph_a (patterns_of cells) timing cap labels_a (tested plain 6 (lit≤ tt) alone graph_a [] encoded_a (patterns_of cells) timing cap labels_a bounded_a refl (lit< tt)) 6 10000000 (lit< tt) refl
    (by_and (by_and (wire 0) (wire 1)) (by_and (wire 2) (wire 3)))
    ((0, lit< tt, refl), refl, (((0, lit< tt, refl), refl, (tt, (tt, tt))), (((0, lit< tt, refl), refl, (tt, (tt, tt))), tt))) tree_a refl

-- the same with one more node g, the And of all four inputs
abbrev shared : Network
shared = record {
  inputs = 4;
  nodes = and_node 0 1 ∷ and_node 2 3 ∷ record { fanins = 0 ∷ 1 ∷ 2 ∷ 3 ∷ []; rows = (y ∷ y ∷ y ∷ y ∷ []) ∷ []; on = true } ∷ and_node 4 5 ∷ [];
}

-- f and g have one class
abbrev graph_s : Graph
graph_s = record {
  one = 0;
  leaves = 2 ∷ 4 ∷ 6 ∷ 8 ∷ [];
  forms = 0 ∷ 2 ∷ 4 ∷ 6 ∷ 8 ∷ 10 ∷ 12 ∷ 14 ∷ 16 ∷ 18 ∷ 20 ∷ 22 ∷ 24 ∷ 26 ∷ 28 ∷ 30 ∷ 30 ∷ [];
  pairs = [] ∷ [] ∷ [] ∷ [] ∷ [] ∷ [] ∷ [] ∷ [] ∷ [] ∷ [] ∷ [] ∷ (pair 2 4 ∷ []) ∷ [] ∷ (pair 6 8 ∷ []) ∷ [] ∷ (pair 2 6 ∷ []) ∷ [] ∷ (pair 4 6 ∷ []) ∷ [] ∷ (pair 2 16 ∷ pair 4 14 ∷ pair 6 10 ∷ []) ∷ [] ∷ (pair 2 8 ∷ []) ∷ [] ∷ (pair 4 8 ∷ []) ∷ [] ∷ (pair 2 22 ∷ pair 4 20 ∷ pair 8 10 ∷ []) ∷ [] ∷ (pair 2 12 ∷ pair 6 20 ∷ pair 8 14 ∷ []) ∷ [] ∷ (pair 4 12 ∷ pair 6 22 ∷ pair 8 16 ∷ []) ∷ [] ∷ (pair 2 28 ∷ pair 4 26 ∷ pair 6 24 ∷ pair 8 18 ∷ pair 10 12 ∷ pair 14 22 ∷ pair 16 20 ∷ []) ∷ [];
}

abbrev labels_s : List (Option ℕ)
labels_s = None ∷ None ∷ Some 0 ∷ None ∷ Some 0 ∷ None ∷ Some 0 ∷ None ∷ Some 0 ∷ None ∷ Some 5000000 ∷ None ∷ Some 5000000 ∷ None ∷ Some 5000000 ∷ None ∷ Some 5000000 ∷ None ∷ Some 6000000 ∷ None ∷ Some 5000000 ∷ None ∷ Some 5000000 ∷ None ∷ Some 6000000 ∷ None ∷ Some 6000000 ∷ None ∷ Some 6000000 ∷ None ∷ Some 7000000 ∷ []

-- the complements of f and g are equivalent, both being the NAND of a b and c d
one_class : Equivalent (family_of plain (forms_of 6 shared)) 33 31
one_class =
    nanded (inl (16, 10 ∷ 12 ∷ [], 10 ∷ [], 12 ∷ [], refl, refl, cut_left (cut_right cut_none), refl, refl))
    (inl (15, 2 ∷ 4 ∷ 6 ∷ 8 ∷ [], 2 ∷ 4 ∷ [], 6 ∷ 8 ∷ [], refl, refl, cut_left (cut_left (cut_right (cut_right cut_none))), (5, refl, refl), (6, refl, refl)))
    (same (lit< tt)) (same (lit< tt))

turned_class : Equivalent (family_of plain (forms_of 6 shared)) 32 30
unfolding Rattle.lw_laws.specs.Flip.flip
turned_class = flipped one_class

abbrev two : ℕ → ℕ → Two
two f h = record { first = f; second = h }

encoded_s : PassesTests plain (forms_of 6 shared) graph_s (two 33 31 ∷ two 31 33 ∷ two 32 30 ∷ two 30 32 ∷ [])
unfolding Rattle.lw_laws.specs.Flip.flip
encoded_s = record { facts = refl; rows = refl; once = refl; bases = refl; tops = refl; leaves = refl; links = refl; apart = refl; merges = (one_class, (turned one_class, (turned_class, (turned turned_class, tt)))) }

bounded_s : PassesLabelTests labels_s graph_s (patterns_of cells) (delay_cost timing cap)
unfolding Rattle.lw_laws.specs.Flip.flip
bounded_s = record { even = 16; count = refl; listed = lit≤ tt; one = lit< tt; matches = refl; leaves = refl }

abbrev g_form : Form
g_form = and_of (a_form ∷ b_form ∷ c_form ∷ d_form ∷ [])

abbrev abc_form : Form
abc_form = and_of (a_form ∷ b_form ∷ c_form ∷ [])

abbrev balanced : Tree
balanced = and_tree (and_tree (leaf 0) (leaf 1)) (and_tree (leaf 2) (leaf 3))

abbrev chain : Tree
chain = and_tree (and_tree (and_tree (leaf 0) (leaf 1)) (leaf 2)) (leaf 3)

at_s : (b : ℕ) (f : Form) → slice_get (occurring_forms 6 shared) b ≡ Some (base_form f) → Occurs (signals_of 6 shared) f
at_s b f e = occurs_at shared f (b, e)

ab_tree : HasTree plain 6 (signals_of 6 shared) ab_form (and_tree (leaf 0) (leaf 1))
ab_tree = inverter_law (at_s 5 ab_form refl) (split_law {ls = a_form ∷ []} {rs = b_form ∷ []} (at_s 5 ab_form refl) (parts_left (parts_right parts_none)) (lit≤ tt) (lit≤ tt) input_law input_law)

cd_tree : HasTree plain 6 (signals_of 6 shared) cd_form (and_tree (leaf 2) (leaf 3))
cd_tree = inverter_law (at_s 6 cd_form refl) (split_law {ls = c_form ∷ []} {rs = d_form ∷ []} (at_s 6 cd_form refl) (parts_left (parts_right parts_none)) (lit≤ tt) (lit≤ tt) input_law input_law)

f_balanced : HasTree plain 6 (signals_of 6 shared) f_form balanced
f_balanced = inverter_law (at_s 16 f_form refl) (split_law {ls = ab_form ∷ []} {rs = cd_form ∷ []} (at_s 16 f_form refl) (parts_left (parts_right parts_none)) (lit≤ tt) (lit≤ tt) ab_tree cd_tree)

g_balanced : HasTree plain 6 (signals_of 6 shared) g_form balanced
g_balanced =
    inverter_law (at_s 15 g_form refl) (split_law {ls = a_form ∷ b_form ∷ []} {rs = c_form ∷ d_form ∷ []} (at_s 15 g_form refl) (parts_left (parts_left (parts_right (parts_right parts_none)))) (lit≤ tt) (lit≤ tt) ab_tree cd_tree)

g_chain : HasTree plain 6 (signals_of 6 shared) g_form chain
g_chain =
    inverter_law (at_s 15 g_form refl) (split_law {ls = a_form ∷ b_form ∷ c_form ∷ []} {rs = d_form ∷ []} (at_s 15 g_form refl) (parts_left (parts_left (parts_left (parts_right parts_none)))) (lit≤ tt) (lit≤ tt)
    (inverter_law (at_s 9 abc_form refl) (split_law {ls = a_form ∷ b_form ∷ []} {rs = c_form ∷ []} (at_s 9 abc_form refl) (parts_left (parts_left (parts_right parts_none))) (lit≤ tt) (lit≤ tt) ab_tree input_law)) input_law)

-- f has the chain, since f and g have the balanced tree in common
f_chain : HasTree plain 6 (signals_of 6 shared) f_form chain
f_chain = sharing_law (at_s 16 f_form refl) (at_s 15 g_form refl) f_balanced g_balanced g_chain

-- with g it arrives at 7
pub shared_arrives : HasLeastArrival plain 6 shared (patterns_of cells) timing 7 7000000
unfolding Rattle.lw_laws.specs.Flip.flip
shared_arrives =
    labelled_least plain 6 shared graph_s (patterns_of cells) timing cap labels_s (tested plain 6 (lit≤ tt) shared graph_s (two 33 31 ∷ two 31 33 ∷ two 32 30 ∷ two 30 32 ∷ []) encoded_s (patterns_of cells) timing cap labels_s bounded_s refl (lit< tt)) 7 7000000 (lit< tt) refl
    (by_and (by_and (by_and (wire 0) (wire 1)) (wire 2)) (wire 3))
    ((0, lit< tt, refl), refl, (((0, lit< tt, refl), refl, (((0, lit< tt, refl), refl, (tt, (tt, tt))), (tt, tt))), (tt, tt))) f_chain refl
