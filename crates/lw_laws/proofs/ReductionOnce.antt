-- What the reduction of a draft gives is one graph.
use Rattle.std.proofs.Common.{ℕ, ◌+◌, ◌*◌, ◌/◌, ◌<◌, ◌≡◌, ◌↔◌, if◌then◌else◌, [], length, ap, sym, ◌∙◌, subst₂, arith}
use Rattle.lw_laws.specs.Flip.{flip}
use Rattle.lw_laws.specs.Graphs.{Graph, class_of, HoldsPair, pair_count}
use Rattle.lw_laws.specs.Drafts.{Draft, IsReduced}
use Rattle.lw_laws.proofs.Flips.{half-flip, class_of-flip}
use Rattle.lw_laws.proofs.ClassLaws.{base_class, class_same, leaf_same, numbers_same, lists_once, leaves_once, graph_same, row_same}

module _ (d : Draft) (g h : Graph) (one : IsReduced d g) (other : IsReduced d h) where
  same_classes : (f k : ℕ) → f / 2 < length d.samples → k / 2 < length d.samples → (class_of g f ≡ class_of g k) ↔ (class_of h f ≡ class_of h k)
  same_classes f k p q =
      let a = one.classes f k p q in
      let b = other.classes f k p q in
      (λ e. b.1 (a.0 e), λ e. a.1 (b.0 e))

  bases_same : (a b : ℕ) → a < length d.samples → b < length d.samples → (class_of g (2 * a) ≡ class_of g (2 * b)) ↔ (class_of h (2 * a) ≡ class_of h (2 * b))
  bases_same a b la lb = same_classes (2 * a) (2 * b) (omega arith) (omega arith)

  bases_turned : (a b : ℕ) → a < length d.samples → b < length d.samples → (class_of g (2 * a) ≡ flip (class_of g (2 * b))) ↔ (class_of h (2 * a) ≡ flip (class_of h (2 * b)))
  bases_turned a b la lb =
      let half = half-flip (2 * b) in
      subst₂ (λ u v. (class_of g (2 * a) ≡ u) ↔ (class_of h (2 * a) ≡ v)) (class_of-flip g (2 * b)) (class_of-flip h (2 * b)) (same_classes (2 * a) (flip (2 * b)) (omega arith) (omega arith))

  -- the graphs have the same class for each form
  forms_once : g.forms ≡ h.forms
  forms_once =
      let a = one.written.form_count in
      let b = other.written.form_count in
      numbers_same (λ b. class_of g (2 * b)) (λ b. class_of h (2 * b)) (length d.samples) bases_same bases_turned 0 0 g.forms h.forms (omega arith) (omega arith)
      (λ j c e. let z : 0 + j ≡ j = omega arith in ap (λ k. class_of g (2 * k)) z ∙ base_class g j c e)
      (λ j c e. let z : 0 + j ≡ j = omega arith in ap (λ k. class_of h (2 * k)) z ∙ base_class h j c e)
      (λ j lt. absurd (omega arith)) one.written.numbered other.written.numbered

  held_same : (c x y : ℕ) → HoldsPair g c x y → HoldsPair h c x y
  held_same c x y p =
      let n = (one.pairs c x y).0 p in
      (other.pairs c x y).1 (record {
        form = n.form;
        left = n.left;
        right = n.right;
        is_nand = n.is_nand;
        form_at = sym (class_same g h forms_once n.form) ∙ n.form_at;
        left_at = sym (class_same g h forms_once n.left) ∙ n.left_at;
        right_at = sym (class_same g h forms_once n.right) ∙ n.right_at;
      })

-- the graph is one
pub reduction_once : (d : Draft) (g h : Graph) → IsReduced d g → IsReduced d h → g ≡ h
reduction_once d g h one other =
    let forms = forms_once d g h one other in
    let gw = one.written in
    let hw = other.written in
    let counts : pair_count 0 g.forms ≡ pair_count 0 h.forms = ap (pair_count 0) forms in
    let a = gw.class_count in
    let b = hw.class_count in
    let c = gw.leaf_count in
    let e = hw.leaf_count in
    graph_same g.one h.one g.leaves h.leaves g.forms h.forms g.pairs h.pairs
    (one.one ∙ (class_same g h forms 0 ∙ sym other.one))
    (leaves_once g.leaves h.leaves (omega arith) (leaf_same g h forms (λ i. 2 * (i + 1)) (λ i lt. one.leaves i (let n = one.written.leaf_count in omega (arith, lt, n))) (λ i lt. other.leaves i (let n = one.written.leaf_count in omega (arith, lt, n))))) forms
    (lists_once [] g.pairs h.pairs (omega arith) (row_same g h one.written.rising other.written.rising (held_same d g h one other) (held_same d h g other one)))
