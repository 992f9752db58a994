-- The further laws in worked examples: an inverter and an And of two inputs, by two-input NAND cells alone.
use Rattle.std.proofs.Common.{ℕ, zero, suc, ◌≤◌, ◌≡◌, Bool, true, false, List, [], ◌∷◌, length, map, sum_by, slice_index_or, Option, Some, None, Contains, refl, sym, subst, inl, inr, lit<, lit≤, arith}
use Rattle.lw_laws.specs.Modes.Mode.{plain, idempotent}
use Rattle.lw_laws.specs.Trees.{Tree, leaf, nand, tree_value}
use Rattle.lw_laws.specs.Networks.{Network}
use Rattle.lw_laws.specs.Forms.{Form, and_of, form_value}
use Rattle.lw_laws.specs.Signals.{signals_of}
use Rattle.lw_laws.specs.Forms.Form.{var_form, not_form}
use Rattle.lw_laws.specs.Decompositions.{Occurs, HasTree}
use Rattle.lw_laws.specs.Listings.{listing_of}
use Rattle.lw_laws.specs.Decompositions.AreParts.{parts_none, parts_left, parts_right}
use Rattle.lw_laws.specs.Decompositions.HasTree.{input_law, split_law, tied_inverter_law}
use Rattle.lw_laws.specs.Covers.{Timing, Pattern, Cover, Covers, IsCover, AreCovers, HasPins, tree_of, trees_of, time_of}
use Rattle.lw_laws.specs.Covers.Cover.{wire, gate}
use Rattle.lw_laws.specs.Covers.Covers.{no_covers, cover}
use Rattle.lw_laws.specs.Expressions.{Expr}
use Rattle.lw_laws.specs.Expressions.Expr.{expr_pin, expr_not, expr_and}
use Rattle.lw_laws.specs.Patterns.{patterns_of}
use Rattle.lw_laws.specs.Delays.{delay_cost}
use Rattle.lw_laws.specs.Graphs.{Pair, Graph, AreRising, IsWritten}
use Rattle.lw_laws.specs.Classes.{IsGraphOf}
use Rattle.lw_laws.specs.Mapped.{forms_of, IsLabelledOver}
use Rattle.lw_laws.specs.Headline.{HasLeastArrival, HasNoCover}
use Rattle.lw_laws.proofs.ClassLaws.{encoding_is_graph}
use Rattle.lw_laws.proofs.PatternExamples.{exprs}
use Rattle.lw_laws.proofs.EncodingTests.{PassesTests}
use Rattle.lw_laws.proofs.PotentialTests.{PassesLabelTests}
use Rattle.lw_laws.proofs.MappingTests.{labelled_least, occurs_at, tested}
use Rattle.lw_laws.proofs.Mapping.{unlabelled_root}
use Rattle.lw_laws.proofs.Listed.{occurring_is_listing}
use Rattle.lw_laws.proofs.FormTruth.{signals_agree}
use Rattle.lw_laws.proofs.NumberValues.{occurring_have_value}

abbrev y : Option Bool
y = Some true

abbrev n : Option Bool
n = Some false

abbrev cap : ℕ
cap = 9223372036854775807

-- nand2 of delay 1.5, in millionths
abbrev cells : List (List Expr)
cells = (expr_not (expr_and (exprs (expr_pin 0 ∷ expr_pin 1 ∷ []))) ∷ []) ∷ []

abbrev timing : Timing
timing = record { starts = []; delays = (1500000 ∷ 1500000 ∷ []) ∷ [] }

abbrev nand_2 : Pattern
nand_2 = record { cell = 0; tree = nand (leaf 0) (leaf 1) }

abbrev by_nand : Cover → Cover → Cover
by_nand k j = gate nand_2 (cover k (cover j no_covers))

-- each gate of a cover is a nand2
only_nand : (p : Pattern) → Contains (patterns_of cells) p → p ≡ nand_2
only_nand p (zero, lt, e) = sym e
only_nand p (suc k, lt, e) = absurd (omega arith)

-- a gate over two covers takes at least 1.5, and 1.5 more than each of them
record IsNandOver (k : Cover) : Type 0 where
  left : Cover
  right : Cover
  is : k ≡ by_nand left right
  left_is : IsCover (map length timing.delays) (patterns_of cells) left
  right_is : IsCover (map length timing.delays) (patterns_of cells) right

gate_is : (p : Pattern) (ks : Covers) → IsCover (map length timing.delays) (patterns_of cells) (gate p ks) → IsNandOver (gate p ks)
gate_is p ks (listed, pins, covers) = by_pattern p (only_nand p listed) ks pins covers
  where
    by_pins : (ks : Covers) → HasPins (map length timing.delays) 0 (length (trees_of ks)) → AreCovers (map length timing.delays) (patterns_of cells) ks → IsNandOver (gate nand_2 ks)
    by_pins no_covers pins covers = cc
    by_pins (cover k no_covers) pins covers = cc
    by_pins (cover k (cover j no_covers)) pins (a, (b, rest)) = record { left = k; right = j; is = refl; left_is = a; right_is = b }
    by_pins (cover k (cover j (cover i rest))) pins covers = cc

    by_pattern : (p : Pattern) → p ≡ nand_2 → (ks : Covers) → HasPins (map length timing.delays) p.cell (length (trees_of ks)) → AreCovers (map length timing.delays) (patterns_of cells) ks → IsNandOver (gate p ks)
    by_pattern p s ks pins covers = subst (λ q. IsNandOver (gate q ks)) (sym s) (by_pins ks (subst (λ q. HasPins (map length timing.delays) q.cell (length (trees_of ks))) s pins) covers)

slow_gate : (p : Pattern) (ks : Covers) → IsCover (map length timing.delays) (patterns_of cells) (gate p ks) → 1500000 ≤ time_of timing (gate p ks)
slow_gate p ks is = let g = gate_is p ks is in subst (λ k. 1500000 ≤ time_of timing k) (sym g.is) (omega arith)

-- the inverter of an input
abbrev not_a : Network
not_a = record { inputs = 1; nodes = record { fanins = 0 ∷ []; rows = (n ∷ []) ∷ []; on = true } ∷ [] }

abbrev not_a_form : Form
not_a_form = not_form (var_form 0)

-- a tree of a form has its value
value_of : (net : Network) (f : Form) (t : Tree) → Occurs (signals_of 6 net) f → HasTree idempotent 6 (signals_of 6 net) f t → (x : ℕ → Bool) → tree_value x t ≡ form_value x f
value_of net f t occ has x = occurring_have_value net.inputs (listing_of 6 net) (occurring_is_listing 6 (lit≤ tt) net) x (signals_agree x 6 net) idempotent f t occ has

-- a nand2 with tied pins inverts: it arrives at 1.5
pub tied_nand_inverts : HasLeastArrival idempotent 6 not_a (patterns_of cells) timing 1 1500000
tied_nand_inverts = record {
  attained = (by_nand (wire 0) (wire 0), ((0, lit< tt, refl), refl, (tt, (tt, tt))), tied_inverter_law {f = not_a_form} refl (occurs_at not_a not_a_form (1, refl)) input_law input_law, refl);
  least = least;
}
  where
    least : (k : Cover) → IsCover (map length timing.delays) (patterns_of cells) k → HasTree idempotent 6 (signals_of 6 not_a) not_a_form (tree_of k) → 1500000 ≤ time_of timing k
    least (wire i) is has = let v = value_of not_a not_a_form (leaf i) (occurs_at not_a not_a_form (1, refl)) has (λ j. true) in cc
    least (gate p ks) is has = slow_gate p ks is

-- the And of two inputs
abbrev and_2 : Network
and_2 = record { inputs = 2; nodes = record { fanins = 0 ∷ 1 ∷ []; rows = (y ∷ y ∷ []) ∷ []; on = true } ∷ [] }

abbrev and_form_2 : Form
and_form_2 = and_of (var_form 0 ∷ var_form 1 ∷ [])

abbrev pair : ℕ → ℕ → Pair
pair a b = record { x = a; y = b }

-- with the further laws: each class holds its complement twice, and the complement of the And overlapping parts too
abbrev graph_i : Graph
graph_i = record { one = 0; leaves = 2 ∷ 4 ∷ []; forms = 0 ∷ 2 ∷ 4 ∷ 6 ∷ []; pairs = (pair 1 1 ∷ []) ∷ (pair 0 0 ∷ []) ∷ (pair 3 3 ∷ []) ∷ (pair 2 2 ∷ []) ∷ (pair 5 5 ∷ []) ∷ (pair 4 4 ∷ []) ∷ (pair 7 7 ∷ []) ∷ (pair 2 4 ∷ pair 2 6 ∷ pair 4 6 ∷ pair 6 6 ∷ []) ∷ [] }

encoded_i : PassesTests idempotent (forms_of 6 and_2) graph_i []
unfolding Rattle.lw_laws.specs.Flip.flip
encoded_i = record { facts = refl; rows = refl; once = refl; bases = refl; tops = refl; leaves = refl; links = refl; apart = refl; merges = tt }

pair_total : sum_by length graph_i.pairs ≡ 11
pair_total = refl

written_i : IsWritten 4 2 graph_i
written_i = record { form_count = refl; leaf_count = refl; numbered = inl (refl, inl (refl, inl (refl, inl (refl, tt)))); class_count = refl; rising = rises }
  where
    rises : (c : ℕ) → AreRising (slice_index_or graph_i.pairs c [])
    rises zero = (lit≤ tt, tt, tt)
    rises (suc zero) = (lit≤ tt, tt, tt)
    rises (suc (suc zero)) = (lit≤ tt, tt, tt)
    rises (suc (suc (suc zero))) = (lit≤ tt, tt, tt)
    rises (suc (suc (suc (suc zero)))) = (lit≤ tt, tt, tt)
    rises (suc (suc (suc (suc (suc zero))))) = (lit≤ tt, tt, tt)
    rises (suc (suc (suc (suc (suc (suc zero)))))) = (lit≤ tt, tt, tt)
    rises (suc (suc (suc (suc (suc (suc (suc zero))))))) =
        (lit≤ tt, (inr (refl, lit< tt), (inl (lit< tt), (inl (lit< tt), tt))), (lit≤ tt, (inl (lit< tt), (inl (lit< tt), tt)), (lit≤ tt, (inl (lit< tt), tt), (lit≤ tt, tt, tt))))
    rises (suc (suc (suc (suc (suc (suc (suc (suc c)))))))) = tt

abbrev labels_i : List (Option ℕ)
labels_i = None ∷ None ∷ Some 0 ∷ Some 1500000 ∷ Some 0 ∷ Some 1500000 ∷ Some 3000000 ∷ Some 1500000 ∷ []

bounded_i : PassesLabelTests labels_i graph_i (patterns_of cells) (delay_cost timing cap)
unfolding Rattle.lw_laws.specs.Flip.flip
bounded_i = record { even = 4; count = refl; listed = lit≤ tt; one = lit< tt; matches = refl; leaves = refl }

labelled_i : IsLabelledOver idempotent 6 and_2 graph_i (patterns_of cells) timing cap labels_i
labelled_i = tested idempotent 6 (lit≤ tt) and_2 graph_i [] encoded_i (patterns_of cells) timing cap labels_i bounded_i refl (lit< tt)

pub and_2_graph : IsGraphOf idempotent 2 (listing_of 6 and_2) graph_i
and_2_graph = encoding_is_graph idempotent 6 and_2 graph_i (lit≤ tt) labelled_i.over.encodes written_i

nand_tree : HasTree idempotent 6 (signals_of 6 and_2) (not_form and_form_2) (nand (leaf 0) (leaf 1))
nand_tree = split_law {ls = var_form 0 ∷ []} {rs = var_form 1 ∷ []} (occurs_at and_2 and_form_2 (3, refl)) (parts_left (parts_right parts_none)) (lit≤ tt) (lit≤ tt) input_law input_law

-- two nand2 make an And, which arrives at 3
pub tied_nand_ands : HasLeastArrival idempotent 6 and_2 (patterns_of cells) timing 2 3000000
unfolding Rattle.lw_laws.specs.Flip.flip
tied_nand_ands =
    labelled_least idempotent 6 and_2 graph_i (patterns_of cells) timing cap labels_i labelled_i 2 3000000 (lit< tt) refl (by_nand (by_nand (wire 0) (wire 1)) (by_nand (wire 0) (wire 1)))
    ((0, lit< tt, refl), refl, (((0, lit< tt, refl), refl, (tt, (tt, tt))), (((0, lit< tt, refl), refl, (tt, (tt, tt))), tt))) (tied_inverter_law {f = and_form_2} refl (occurs_at and_2 and_form_2 (3, refl)) nand_tree nand_tree) refl

-- without the further laws it has no cover
abbrev graph_2 : Graph
graph_2 = record { one = 0; leaves = 2 ∷ 4 ∷ []; forms = 0 ∷ 2 ∷ 4 ∷ 6 ∷ []; pairs = [] ∷ [] ∷ [] ∷ [] ∷ [] ∷ [] ∷ [] ∷ (pair 2 4 ∷ []) ∷ [] }

abbrev labels_2 : List (Option ℕ)
labels_2 = None ∷ None ∷ Some 0 ∷ None ∷ Some 0 ∷ None ∷ None ∷ Some 1500000 ∷ []

encoded_2 : PassesTests plain (forms_of 6 and_2) graph_2 []
unfolding Rattle.lw_laws.specs.Flip.flip
encoded_2 = record { facts = refl; rows = refl; once = refl; bases = refl; tops = refl; leaves = refl; links = refl; apart = refl; merges = tt }

bounded_2 : PassesLabelTests labels_2 graph_2 (patterns_of cells) (delay_cost timing cap)
unfolding Rattle.lw_laws.specs.Flip.flip
bounded_2 = record { even = 4; count = refl; listed = lit≤ tt; one = lit< tt; matches = refl; leaves = refl }

pub plain_nand_does_not : HasNoCover plain 6 and_2 (patterns_of cells) timing 2
unfolding Rattle.lw_laws.specs.Flip.flip
plain_nand_does_not =
    unlabelled_root plain 6 and_2 graph_2 (patterns_of cells) timing cap labels_2 (tested plain 6 (lit≤ tt) and_2 graph_2 [] encoded_2 (patterns_of cells) timing cap labels_2 bounded_2 refl (lit< tt)) 2 (lit< tt) refl
