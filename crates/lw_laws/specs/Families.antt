-- Families of occurring forms, the trees that the rules derive for a form, and which forms are equivalent.
use Rattle.std.specs.Prelude.{ℕ, ◌⊎◌}
use Rattle.lw_laws.specs.Flip.{flip}
use Rattle.lw_laws.specs.Trees.{Tree, leaf, const_one, const_zero, inv, nand}

-- what the rules know of forms; the complement of form f is form flip f
pub record Family : Type 1 where
  pub Occurs : ℕ → Type 0
  -- form f is the input i, or true
  pub IsInput : ℕ → ℕ → Type 0
  pub IsTop : ℕ → Type 0
  -- form f is the NAND of forms x and y, by a split
  pub IsSplit : ℕ → ℕ → ℕ → Type 0
  -- forms f and h are the two forms of one signal
  pub IsLink : ℕ → ℕ → Type 0

abbrev pub IsNand : Family → ℕ → ℕ → ℕ → Type 0
IsNand F f x y = F.IsSplit f x y ⊎ F.IsSplit f y x

-- the forms of one signal in either order, or their complements
abbrev pub AreLinked : Family → ℕ → ℕ → Type 0
AreLinked F f h =
    (F.IsLink f h ⊎ F.IsLink h f) ⊎ (F.IsLink (flip f) (flip h) ⊎ F.IsLink (flip h) (flip f))

-- the rules derive the tree for the form
pub data Derives (F : Family) : ℕ → Tree → Type 0 where
  by_input : {f i : ℕ} → F.IsInput f i → Derives F f (leaf i)
  by_top : {f : ℕ} → F.IsTop f → Derives F f const_one
  by_bottom : {f : ℕ} → F.IsTop (flip f) → Derives F f const_zero
  by_complement : {f : ℕ} {t : Tree} → F.Occurs f → Derives F (flip f) t → Derives F f (inv t)
  by_split : {f x y : ℕ} {t u : Tree} → IsNand F f x y → Derives F x t → Derives F y u → Derives F f (nand t u)
  by_common : {f h : ℕ} {s t : Tree} → F.Occurs f → F.Occurs h → Derives F f s → Derives F h s → Derives F h t
      → Derives F f t
  by_link : {f h : ℕ} {t : Tree} → AreLinked F f h → Derives F h t → Derives F f t

-- the least equivalence that holds between linked forms, complements of equivalent forms, and NANDs of equivalent forms
pub data Equivalent (F : Family) : ℕ → ℕ → Type 0 where
  same : {f : ℕ} → F.Occurs f → Equivalent F f f
  turned : {f h : ℕ} → Equivalent F f h → Equivalent F h f
  joined : {f h k : ℕ} → Equivalent F f h → Equivalent F h k → Equivalent F f k
  linked : {f h : ℕ} → F.IsLink f h → Equivalent F f h
  flipped : {f h : ℕ} → Equivalent F f h → Equivalent F (flip f) (flip h)
  nanded : {f h x y u v : ℕ} → IsNand F f x y → IsNand F h u v → Equivalent F x u → Equivalent F y v → Equivalent F f h
