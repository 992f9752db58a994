-- The trees of a form's class are those that the rules derive for the form.
use Rattle.std.proofs.Common.{◌≡◌, ℕ, suc, zero, ◌<◌, ◌⊎◌, ◌↔◌, inl, inr, refl, ap, sym, ◌∙◌, subst, subst₂, arith}
use Rattle.lw_laws.specs.Flip.{flip}
use Rattle.lw_laws.specs.Trees.{Tree, leaf, const_one, const_zero, inv, nand}
use Rattle.lw_laws.specs.Graphs.{Graph, PairsInOneClass, Unfolds, class_of}
use Rattle.lw_laws.specs.Families.{Family, IsNand, AreLinked, Derives, Equivalent}
use Rattle.lw_laws.specs.Families.Derives.{by_input, by_top, by_bottom, by_complement, by_split, by_common, by_link}
use Rattle.lw_laws.specs.Families.Equivalent.{same, turned, joined, linked, flipped, nanded}
use Rattle.lw_laws.specs.Encodings.{Encodes}
use Rattle.lw_laws.proofs.Words.IsGrounded.{input, top, split}
use Rattle.lw_laws.proofs.Flips.{flip-flip, flip_across, class_of-flip}
use Rattle.lw_laws.proofs.Functional.{Stands_once}
use Rattle.lw_laws.proofs.Words.{IsFamily, HasSomeTree, HaveCommonTree, IsGrounded}

module _ (F : Family) (rank : ℕ → ℕ) (family : IsFamily F rank) where
  IsNand-occurs : (f x y : ℕ) → IsNand F f x y → F.Occurs f × F.Occurs x × F.Occurs y
  IsNand-occurs f x y (inl h) = family.splits f x y h
  IsNand-occurs f x y (inr h) = let o = family.splits f y x h in (o.0, o.2, o.1)

  -- a form that has a complement that occurs, occurs
  Occurs-flip : (f : ℕ) → F.Occurs (flip f) → F.Occurs f
  Occurs-flip f o = subst (λ h. F.Occurs h) (flip-flip f) (family.flips (flip f) o)

  AreLinked-occurs : (f h : ℕ) → AreLinked F f h → F.Occurs f × F.Occurs h
  AreLinked-occurs f h (inl (inl l)) = family.links f h l
  AreLinked-occurs f h (inl (inr l)) = let o = family.links h f l in (o.1, o.0)
  AreLinked-occurs f h (inr (inl l)) =
      let o = family.links (flip f) (flip h) l in (Occurs-flip f o.0, Occurs-flip h o.1)
  AreLinked-occurs f h (inr (inr l)) =
      let o = family.links (flip h) (flip f) l in (Occurs-flip f o.1, Occurs-flip h o.0)

  -- a form that has a tree occurs
  pub Derives-occurs : {f : ℕ} {t : Tree} → Derives F f t → F.Occurs f
  Derives-occurs (by_input {f = f} {i = i} h) = family.inputs f i h
  Derives-occurs (by_top {f = f} h) = family.tops f h
  Derives-occurs (by_bottom {f = f} h) = Occurs-flip f (family.tops (flip f) h)
  Derives-occurs (by_complement o d) = o
  Derives-occurs (by_split {f = f} {x = x} {y = y} n d e) = (IsNand-occurs f x y n).0
  Derives-occurs (by_common o p d e k) = o
  Derives-occurs (by_link {f = f} {h = h} l d) = (AreLinked-occurs f h l).0

  -- the complement of a form with a tree has the inverted tree
  complement : {f : ℕ} {t : Tree} → Derives F f t → Derives F (flip f) (inv t)
  complement {f} {t} d =
      by_complement (family.flips f (Derives-occurs d)) (subst (λ h. Derives F h t) (sym (flip-flip f)) d)

  -- a grounded form has a tree, if the forms of less rank have
  grounded_has_tree : (f : ℕ) → ((h : ℕ) → rank h < rank f → F.Occurs h → HasSomeTree F h) → IsGrounded F rank f → HasSomeTree F f
  grounded_has_tree f below (input i h) = (leaf i, by_input h)
  grounded_has_tree f below (top h) = (const_one, by_top h)
  grounded_has_tree f below (split x y n lx ly) =
      let o = IsNand-occurs f x y n in
      let p = below x lx o.1 in
      let q = below y ly o.2 in
      (nand p.0 q.0, by_split n p.1 q.1)

  has_tree_by : (f : ℕ) → ((h : ℕ) → rank h < rank f → F.Occurs h → HasSomeTree F h) → IsGrounded F rank f ⊎ IsGrounded F rank (flip f) → HasSomeTree F f
  has_tree_by f below (inl g) = grounded_has_tree f below g
  has_tree_by f below (inr g) =
      let e = family.rank_flip f in
      let t = grounded_has_tree (flip f) (λ h l o. below h (omega arith) o) g in
      (inv t.0, subst (λ h. Derives F h (inv t.0)) (flip-flip f) (complement t.1))

  has_tree_below : (n f : ℕ) → rank f < n → F.Occurs f → HasSomeTree F f
  has_tree_below zero f l o = absurd (omega arith)
  has_tree_below (suc n) f l o =
      has_tree_by f (λ h k p. has_tree_below n h (omega arith) p) (family.grounded f o)

  -- each form that occurs has a tree
  pub has_tree : (f : ℕ) → F.Occurs f → HasSomeTree F f
  has_tree f o = has_tree_below (suc (rank f)) f (omega arith) o

  -- forms with a common tree have the same trees
  pub same_trees : (f h : ℕ) → HaveCommonTree F f h → (t : Tree) → Derives F h t → Derives F f t
  same_trees f h (s, d, e) t k = by_common (Derives-occurs d) (Derives-occurs e) d e k

  linked_have_common : (f h : ℕ) → F.IsLink f h → HasSomeTree F h → HaveCommonTree F f h
  linked_have_common f h l (t, d) = (t, by_link (inl (inl l)) d, d)

  joined_have_common : (f h k : ℕ) → HaveCommonTree F f h → HaveCommonTree F h k → HaveCommonTree F f k
  joined_have_common f h k c (t, d, e) = (t, same_trees f h c t d, e)

  nands_have_common : (f h x y u v : ℕ) → IsNand F f x y → IsNand F h u v → HaveCommonTree F x u → HaveCommonTree F y v → HaveCommonTree F f h
  nands_have_common f h x y u v m n (s, d, e) (t, k, l) = (nand s t, by_split m d k, by_split n e l)

  -- equivalent forms have a common tree
  pub equivalent_have_common : {f h : ℕ} → Equivalent F f h → HaveCommonTree F f h
  equivalent_have_common (same {f = f} o) = let t = has_tree f o in (t.0, t.1, t.1)
  equivalent_have_common (turned e) = let c = equivalent_have_common e in (c.0, c.2, c.1)
  equivalent_have_common (joined {f = f} {h = h} {k = k} d e) =
      joined_have_common f h k (equivalent_have_common d) (equivalent_have_common e)
  equivalent_have_common (linked {f = f} {h = h} l) = linked_have_common f h l (has_tree h (family.links f h l).1)
  equivalent_have_common (flipped e) =
      let c = equivalent_have_common e in (inv c.0, complement c.1, complement c.2)
  equivalent_have_common (nanded {f = f} {h = h} {x = x} {y = y} {u = u} {v = v} m n d e) =
      nands_have_common f h x y u v m n (equivalent_have_common d) (equivalent_have_common e)

  -- linked forms, in either order or as complements, are equivalent
  AreLinked-equivalent : (f h : ℕ) → AreLinked F f h → Equivalent F f h
  AreLinked-equivalent f h (inl (inl l)) = linked l
  AreLinked-equivalent f h (inl (inr l)) = turned (linked l)
  AreLinked-equivalent f h (inr (inl l)) =
      subst₂ (λ a b. Equivalent F a b) (flip-flip f) (flip-flip h) (flipped (linked l))
  AreLinked-equivalent f h (inr (inr l)) =
      subst₂ (λ a b. Equivalent F a b) (flip-flip f) (flip-flip h) (flipped (turned (linked l)))

  module _ (g : Graph) (encodes : Encodes F g) where
    -- equal classes
    same_class : (f h : ℕ) → Equivalent F f h → F.Occurs f → F.Occurs h → class_of g f ≡ class_of g h
    same_class f h e o p = (encodes.classes f h o p).1 e

    -- each unordered pair stands in at most one class of the graph
    pub pairs_in_one_class : PairsInOneClass g
    pairs_in_one_class c d x y p q =
        let m = (encodes.pairs c x y).0 p in
        let n = (encodes.pairs d x y).0 q in
        let o = IsNand-occurs m.form m.left m.right m.is_nand in
        let k = IsNand-occurs n.form n.left n.right n.is_nand in
        let l = (encodes.classes m.left n.left o.1 k.1).0 (m.left_at ∙ sym n.left_at) in
        let r = (encodes.classes m.right n.right o.2 k.2).0 (m.right_at ∙ sym n.right_at) in
        let e = same_class m.form n.form (nanded m.is_nand n.is_nand l r) o.0 k.0 in
        sym m.form_at ∙ (e ∙ n.form_at)

    common_class : (f h : ℕ) (s : Tree) → Unfolds g s (class_of g f) → Unfolds g s (class_of g h) → class_of g f ≡ class_of g h
    common_class f h s d e = Stands_once g pairs_in_one_class g.leaves s (class_of g f) (class_of g h) d e

    nand_unfolds : (f x y : ℕ) (t u : Tree) → IsNand F f x y → Unfolds g t (class_of g x) → Unfolds g u (class_of g y) → Unfolds g (nand t u) (class_of g f)
    nand_unfolds f x y t u n d e = (
      class_of g x,
      class_of g y,
      (encodes.pairs (class_of g f) (class_of g x) (class_of g y)).1 (record {
        form = f;
        left = x;
        right = y;
        is_nand = n;
        form_at = refl;
        left_at = refl;
        right_at = refl;
      }),
      d,
      e,
    )

    -- what the rules derive for a form unfolds at its class
    pub Derives-unfolds : {f : ℕ} {t : Tree} → Derives F f t → Unfolds g t (class_of g f)
    Derives-unfolds (by_input {f = f} {i = i} h) = (encodes.leaves i (class_of g f)).1 (f, h, refl)
    Derives-unfolds (by_top {f = f} h) = (encodes.one (class_of g f)).1 (f, h, refl)
    Derives-unfolds (by_bottom {f = f} h) =
        let e = (encodes.one (class_of g (flip f))).1 (flip f, h, refl) in
        flip_across (class_of g f) g.one (sym (class_of-flip g f) ∙ e)
    Derives-unfolds (by_complement {f = f} {t = t} o d) =
        subst (λ c. Unfolds g t c) (class_of-flip g f) (Derives-unfolds d)
    Derives-unfolds (by_split {f = f} {x = x} {y = y} {t = t} {u = u} n d e) =
        nand_unfolds f x y t u n (Derives-unfolds d) (Derives-unfolds e)
    Derives-unfolds (by_common {f = f} {h = h} {s = s} {t = t} o p d e k) =
        subst (λ c. Unfolds g t c) (sym (common_class f h s (Derives-unfolds d) (Derives-unfolds e))) (Derives-unfolds k)
    Derives-unfolds (by_link {f = f} {h = h} {t = t} l d) =
        let o = AreLinked-occurs f h l in
        subst (λ c. Unfolds g t c) (sym (same_class f h (AreLinked-equivalent f h l) o.0 o.1)) (Derives-unfolds d)

    -- forms of one class have the same trees
    class_trees : (f h : ℕ) → F.Occurs f → F.Occurs h → class_of g h ≡ class_of g f → (t : Tree) → Derives F h t → Derives F f t
    class_trees f h o p e t d =
        same_trees f h (equivalent_have_common ((encodes.classes f h o p).0 (sym e))) t d

    bottom_derives : (f : ℕ) → F.Occurs f → class_of g f ≡ flip g.one → Derives F f const_zero
    bottom_derives f o u =
        let (h, is, e) = (encodes.one (class_of g (flip f))).0 (class_of-flip g f ∙ sym (flip_across g.one (class_of g f) (sym u))) in
        let d : Derives F (flip h) const_zero = by_bottom {f = flip h} (subst (λ k. F.IsTop k) (sym (flip-flip h)) is) in
        let c : class_of g (flip h) ≡ class_of g f = class_of-flip g h ∙ (ap flip (e ∙ class_of-flip g f) ∙ flip-flip (class_of g f)) in
        class_trees f (flip h) o (family.flips h (family.tops h is)) c const_zero d

    -- what unfolds at the class of a form, the rules derive for the form
    pub Unfolds-derives : (t : Tree) (f : ℕ) → F.Occurs f → Unfolds g t (class_of g f) → Derives F f t
    Unfolds-derives (leaf i) f o u =
        let (h, is, e) = (encodes.leaves i (class_of g f)).0 u in
        class_trees f h o (family.inputs h i is) e (leaf i) (by_input is)
    Unfolds-derives const_one f o u =
        let (h, is, e) = (encodes.one (class_of g f)).0 u in
        class_trees f h o (family.tops h is) e const_one (by_top is)
    Unfolds-derives const_zero f o u = bottom_derives f o u
    Unfolds-derives (inv t) f o u =
        by_complement o (Unfolds-derives t (flip f) (family.flips f o) (subst (λ c. Unfolds g t c) (sym (class_of-flip g f)) u))
    Unfolds-derives (nand t v) f o (x, y, holds, p, q) =
        let n = (encodes.pairs (class_of g f) x y).0 holds in
        let k = IsNand-occurs n.form n.left n.right n.is_nand in
        let d = Unfolds-derives t n.left k.1 (subst (λ c. Unfolds g t c) (sym n.left_at) p) in
        let l = Unfolds-derives v n.right k.2 (subst (λ c. Unfolds g v c) (sym n.right_at) q) in
        class_trees f n.form o k.0 n.form_at (nand t v) (by_split n.is_nand d l)

    -- a tree unfolds at the class of a form exactly where the rules derive it for the form
    pub Unfolds-Derives : (f : ℕ) (t : Tree) → F.Occurs f → Unfolds g t (class_of g f) ↔ Derives F f t
    Unfolds-Derives f t o = (Unfolds-derives t f o, λ d. Derives-unfolds d)

    -- forms have one class exactly where they have a common tree
    pub common_tree_class : (f h : ℕ) → F.Occurs f → F.Occurs h → (class_of g f ≡ class_of g h) ↔ HaveCommonTree F f h
    common_tree_class f h o p =
        (λ e. equivalent_have_common ((encodes.classes f h o p).0 e), λ (t, d, e). common_class f h t (Derives-unfolds d) (Derives-unfolds e))
