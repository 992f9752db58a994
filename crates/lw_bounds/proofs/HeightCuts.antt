-- What a table of heights cuts.
use Rattle.std.proofs.Common.{ℕ, ◌≤◌, ◌≡◌, ◌%◌, zero, suc, List, [], ◌∷◌, length, Option, Some, None, IfSome, option_map, slice_get, slice_index, slice_index_or, refl, sym, ap, subst, ◌∙◌, arith}
use Rattle.std.proofs.lemmas.List.{length-map}
use Rattle.lw_laws.specs.Graphs.{Graph}
use Rattle.lw_laws.specs.Covers.{Pattern}
use Rattle.lw_laws.specs.Marks.{Mark as PlainMark, HaveMarks, greatest_height}
use Rattle.lw_pattern.specs.Nodes.{tree_at, nodes_of}
use Rattle.lw_bounds.specs.declared.heights.HeightBounds.{HeightBounds}
use Rattle.lw_cost.specs.declared.mark.Mark.{Mark}
use Rattle.lw_cost.specs.Values.{plain_mark, marks_in}
use Rattle.lw_bounds.specs.Shapes.{gaps_of}
use Rattle.lw_bounds.specs.Bounds.{AreMarkedWithin}
use Rattle.lw_bounds.specs.Cuts.{CutsState, CutsFit, AreCutsOf}
use Rattle.lw_bounds.specs.HeightBounds.{AreHeightBounds, cuts_with, height_mark, heights_of}
use Rattle.lw_bounds.proofs.CutsOfBounds.{bounds_cut}
use Rattle.lw_cost.proofs.Marked.{have_at}
use Rattle.lw_cost.proofs.Elements.{get_or-map}

pub no_higher : (ms : List PlainMark) (k : ℕ) (m : PlainMark) → slice_get ms k ≡ Some m → m.height ≤ greatest_height ms
no_higher [] k m e = cc
no_higher (n ∷ ms) zero m e =
    let same : n ≡ m = cc in
    let h = ap (λ (m : PlainMark). m.height) same in
    omega arith
no_higher (n ∷ ms) (suc k) m e = let le = no_higher ms k m e in omega arith

-- the height of a mark is a cost of a class
height_at : (marks : List (Option Mark)) (c : ℕ) (m : PlainMark) → marks_in marks c ≡ Some m → marks_in (heights_of marks) c ≡ Some (record { cost = m.height; height = 0 })
height_at marks c m e =
    ap (option_map plain_mark) (get_or-map (option_map height_mark) marks c None) ∙ of_one (slice_index_or marks c None) e
  where
    of_one : (o : Option Mark) → option_map plain_mark o ≡ Some m → option_map plain_mark (option_map height_mark o) ≡ Some (record { cost = m.height; height = 0 })
    of_one None e = cc
    of_one (Some k) e = let same : plain_mark k ≡ m = cc in ap (λ (m : PlainMark). Some (record { cost = m.height; height = 0 })) same

-- where no pin has a gap, heights as costs are within the greatest of them
within_height : (marks : List (Option Mark)) (gaps ps : List ℕ) (ms : List PlainMark) → ((k : ℕ) → slice_index gaps k ≡ 0) → HaveMarks (marks_in marks) ps ms → AreMarkedWithin (heights_of marks) gaps ps (greatest_height ms)
within_height marks gaps ps ms flat have k c e =
    let (m, here, marked) = have_at (marks_in marks) ps ms have k c e in
    let high = no_higher ms k m here in
    let none = flat k in
    (record { cost = m.height; height = 0 }, height_at marks c m marked, omega arith)

module _ (cuts : CutsState) (pats : List Pattern) (g : Graph) (marks : List (Option Mark)) where
  pub heights_fit : (heights : Option HeightBounds) → length marks ≡ length g.pairs → length g.pairs % 2 ≡ 0 → IfSome heights (λ h. AreHeightBounds h pats g marks) → CutsFit cuts g → CutsFit (cuts_with cuts g heights) g
  heights_fit None one_each even are fit = fit
  heights_fit (Some h) one_each even are fit =
      let own = bounds_cut h.bounds.now pats g are.fit in
      let long : length h.marks.now ≡ length g.pairs = ap length are.heights ∙ (length-map marks (option_map height_mark) ∙ one_each) in
      record {
        sides = fit.sides;
        roots = fit.roots;
        rows = fit.rows;
        heights = λ i place side at. record {
          fits = own.sides i place side at;
          reading = record { rows = are.fit.rows.rows; even = ap (λ n. n % 2) long ∙ even };
          one_each = long;
        };
      }

  pub heights_cut : (heights : Option HeightBounds) → IfSome heights (λ h. AreHeightBounds h pats g marks) → AreCutsOf cuts pats g marks → AreCutsOf (cuts_with cuts g heights) pats g marks
  heights_cut None are cut = cut
  heights_cut (Some h) are cut = record {
    sides = cut.sides;
    roots = cut.roots;
    heights = λ i p place side e at c ps ms stands have.
        let within = within_height marks (gaps_of h.bounds.now.gaps i) ps ms (are.gaps i) have in
        let le = are.bounds (gaps_of h.bounds.now.gaps i) (tree_at (nodes_of p.tree) place) side (are.fit.sides i p e place side at) c ps (greatest_height ms) stands (subst (λ ks. AreMarkedWithin ks (gaps_of h.bounds.now.gaps i) ps (greatest_height ms)) (sym are.heights) within) in
        omega arith;
  }

-- the gaps are as they were
pub gaps_with : (cuts : CutsState) (g : Graph) (heights : Option HeightBounds) → (cuts_with cuts g heights).gaps ≡ cuts.gaps
gaps_with cuts g None = refl
gaps_with cuts g (Some h) = refl
