-- Two forms with a common tree are equivalent, where each input, and true, is one form up to equivalence.
use Rattle.std.proofs.Common.{ℕ, ◌↔◌, inl, inr, subst₂}
use Rattle.lw_laws.specs.Flip.{flip}
use Rattle.lw_laws.specs.Trees.{Tree, leaf, const_one, const_zero, inv, nand}
use Rattle.lw_laws.specs.Families.{Family, IsNand, Derives, Equivalent}
use Rattle.lw_laws.specs.Families.Derives.{by_input, by_top, by_bottom, by_complement, by_split, by_common, by_link}
use Rattle.lw_laws.specs.Families.Equivalent.{same, turned, joined, flipped, nanded}
use Rattle.lw_laws.proofs.Flips.{flip-flip}
use Rattle.lw_laws.proofs.Drafts.{AreLinked_equivalent}
use Rattle.lw_laws.proofs.Encoding.{equivalent_have_common}
use Rattle.lw_laws.proofs.Words.{IsFamily, HaveCommonTree}

-- an input is one form up to equivalence, and so is true
pub record AreSingle (F : Family) : Type 0 where
  pub inputs : (f h i : ℕ) → F.IsInput f i → F.IsInput h i → Equivalent F f h
  pub tops : (f h : ℕ) → F.IsTop f → F.IsTop h → Equivalent F f h

-- the NAND of the trees stands at the form's class
record IsNandAt (F : Family) (f : ℕ) (P Q : ℕ → Type 0) : Type 0 where
  form : ℕ
  left : ℕ
  right : ℕ
  alike : Equivalent F f form
  is_nand : IsNand F form left right
  left_tree : P left
  right_tree : Q right

module _ (F : Family) where
  -- the tree stands at the class of the form
  abbrev StandsAt : Tree → ℕ → Type 0
  StandsAt (leaf i) f = (h : ℕ) × F.IsInput h i × Equivalent F f h
  StandsAt const_one f = (h : ℕ) × F.IsTop h × Equivalent F f h
  StandsAt const_zero f = (h : ℕ) × F.IsTop h × Equivalent F (flip f) h
  StandsAt (inv t) f = StandsAt t (flip f)
  StandsAt (nand t u) f = IsNandAt F f (StandsAt t) (StandsAt u)

  unflipped : {f h : ℕ} → Equivalent F (flip f) (flip h) → Equivalent F f h
  unflipped {f} {h} e = subst₂ (λ a b. Equivalent F a b) (flip-flip f) (flip-flip h) (flipped e)

  -- what stands at a form stands at an equivalent one
  stands_too : (t : Tree) (f h : ℕ) → Equivalent F f h → StandsAt t f → StandsAt t h
  stands_too (leaf i) f h e (k, is, d) = (k, is, joined (turned e) d)
  stands_too const_one f h e (k, is, d) = (k, is, joined (turned e) d)
  stands_too const_zero f h e (k, is, d) = (k, is, joined (turned (flipped e)) d)
  stands_too (inv t) f h e s = stands_too t (flip f) (flip h) (flipped e) s
  stands_too (nand t u) f h e s = record { form = s.form; left = s.left; right = s.right; alike = joined (turned e) s.alike; is_nand = s.is_nand; left_tree = s.left_tree; right_tree = s.right_tree }

  module _ (single : AreSingle F) where
    -- a tree stands at one class
    stands_once : (t : Tree) (f h : ℕ) → StandsAt t f → StandsAt t h → Equivalent F f h
    stands_once (leaf i) f h (k, is, d) (j, is', e) = joined d (joined (single.inputs k j i is is') (turned e))
    stands_once const_one f h (k, is, d) (j, is', e) = joined d (joined (single.tops k j is is') (turned e))
    stands_once const_zero f h (k, is, d) (j, is', e) = unflipped (joined d (joined (single.tops k j is is') (turned e)))
    stands_once (inv t) f h s r = unflipped (stands_once t (flip f) (flip h) s r)
    stands_once (nand t u) f h s r =
        joined s.alike (joined (nanded s.is_nand r.is_nand (stands_once t s.left r.left s.left_tree r.left_tree) (stands_once u s.right r.right s.right_tree r.right_tree)) (turned r.alike))

    module _ (rank : ℕ → ℕ) (family : IsFamily F rank) where
      -- what the rules derive for a form stands at its class
      derived_stands : {f : ℕ} {t : Tree} → Derives F f t → StandsAt t f
      derived_stands (by_input {f = f} {i = i} h) = (f, h, same (family.inputs f i h))
      derived_stands (by_top {f = f} h) = (f, h, same (family.tops f h))
      derived_stands (by_bottom {f = f} h) = (flip f, h, same (family.tops (flip f) h))
      derived_stands (by_complement o d) = derived_stands d
      derived_stands (by_split {f = f} {x = x} {y = y} n d e) =
          record { form = f; left = x; right = y; alike = same (nand_occurs f x y n); is_nand = n; left_tree = derived_stands d; right_tree = derived_stands e }
        where
          nand_occurs : (f x y : ℕ) → IsNand F f x y → F.Occurs f
          nand_occurs f x y (inl s) = (family.splits f x y s).0
          nand_occurs f x y (inr s) = (family.splits f y x s).0
      derived_stands (by_common {f = f} {h = h} {s = s} {t = t} o p d e k) =
          stands_too t h f (stands_once s h f (derived_stands e) (derived_stands d)) (derived_stands k)
      derived_stands (by_link {f = f} {h = h} {t = t} l d) = stands_too t h f (turned (AreLinked_equivalent F f h l)) (derived_stands d)

      -- forms are equivalent exactly where they have a common tree
      pub common_tree_equivalent : (f h : ℕ) → HaveCommonTree F f h ↔ Equivalent F f h
      common_tree_equivalent f h = (λ (t, d, e). stands_once t f h (derived_stands d) (derived_stands e), λ e. equivalent_have_common F rank family e)
