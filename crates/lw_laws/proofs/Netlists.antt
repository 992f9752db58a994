-- A net stands for a cover of its class, with its value and its arrival.
use Rattle.std.proofs.Common.{ℕ, zero, suc, ◌+◌, ◌-◌, ◌<◌, ◌≡◌, inl, inr, Bool, false, not, ◌&&◌, List, [], ◌∷◌, length, map, refl, ap, ap₂, sym, ◌∙◌, subst, arith, Contains}
use Rattle.std.specs.List.{AllByRecursion, slice_index_or}
use native.Mathlib.Decide.{dec_lt}
use Rattle.lw_laws.specs.Trees.{Tree, leaf, const_one, const_zero, inv, nand, tree_value, planted, HasLeaf}
use Rattle.lw_laws.specs.Graphs.{Graph, Unfolds}
use Rattle.lw_laws.specs.Covers.{Timing, Pattern, ArePatterns, Cover, Covers, tree_of, trees_of, IsCover, AreCovers, HasPins, latest, delays_of, time_of, times_of}
use Rattle.lw_laws.specs.Covers.Cover.{wire, gate}
use Rattle.lw_laws.specs.Covers.Covers.{no_covers, cover}
use Rattle.lw_laws.specs.Netlists.{Gate, Netlist, IsGate, AreOrdered, CellTruth, StandsFor, StandForAll, HasCellTruth}
use Rattle.lw_laws.specs.Mapped.{IsMapped}
use Rattle.lw_laws.proofs.Truths.{tree_value-planted}
use Rattle.lw_laws.proofs.Covering.{UnfoldAt, length-UnfoldAt, planted_unfolds}
use Rattle.lw_laws.proofs.Lists.{slice_get_some}
use Rattle.lw_laws.proofs.Words.{AreNetValues, AreNetArrivals}

module _ (n : Netlist) (timing : Timing) (arrivals : ℕ → ℕ) (are : AreNetArrivals timing n arrivals) where
  -- the arrival of a net is the time of the cover that it stands for
  mutual
    pub StandsFor-time : (k : Cover) (net : ℕ) → StandsFor n k net → arrivals net ≡ time_of timing k
    StandsFor-time (wire i) net (e, lt) = ap arrivals e ∙ are.inputs i lt
    StandsFor-time (gate p ks) net (j, g, at, e, c, s) =
        ap arrivals e ∙ (are.gates j g at ∙ ap₂ (λ cell ts. latest (delays_of timing.delays cell) ts) c (StandForAll-times ks g.pins s))

    pub StandForAll-times : (ks : Covers) (nets : List ℕ) → StandForAll n ks nets → map arrivals nets ≡ times_of timing ks
    StandForAll-times no_covers nets e = ap (map arrivals) e
    StandForAll-times (cover k ks) nets (net, rest, e, s, r) =
        ap (map arrivals) e ∙ ap₂ (λ t ts. t ∷ ts) (StandsFor-time k net s) (StandForAll-times ks rest r)

-- a tree's value hangs on the values of its leaves alone
pub tree_value_same : (x y : ℕ → Bool) (t : Tree) → ((k : ℕ) → HasLeaf t k → x k ≡ y k) → tree_value x t ≡ tree_value y t
tree_value_same x y (leaf i) f = f i refl
tree_value_same x y const_one f = refl
tree_value_same x y const_zero f = refl
tree_value_same x y (inv t) f = ap not (tree_value_same x y t f)
tree_value_same x y (nand t u) f =
    ap₂ (λ a b. not (a && b)) (tree_value_same x y t (λ k h. f k (inl h))) (tree_value_same x y u (λ k h. f k (inr h)))

values_at : (x : ℕ → Bool) (ts : List Tree) (k : ℕ) (d : Tree) → k < length ts → slice_index_or (map (tree_value x) ts) k false ≡ tree_value x (slice_index_or ts k d)
values_at x [] k d lt = absurd (omega arith)
values_at x (t ∷ ts) zero d lt = refl
values_at x (t ∷ ts) (suc k) d lt = values_at x ts k d (omega arith)

length_values : (x : ℕ → Bool) (ts : List Tree) → length (map (tree_value x) ts) ≡ length ts
length_values x [] = refl
length_values x (t ∷ ts) = ap suc (length_values x ts)

module _ (n : Netlist) (pin_counts : List ℕ) (pats : List Pattern) (patterns : ArePatterns pin_counts pats) (truth : CellTruth) (true_patterns : (p : Pattern) → Contains pats p → HasCellTruth pin_counts truth p) (x values : ℕ → Bool) (are : AreNetValues truth n x values) where
  -- a pattern with trees planted has the truth of its cell at the trees' values
  planted_truth : (p : Pattern) (ts : List Tree) → Contains pats p → HasPins pin_counts p.cell (length ts) → truth p.cell (map (tree_value x) ts) ≡ tree_value x (planted p.tree ts)
  planted_truth p ts listed pins =
      let is = (patterns p listed).pins in
      let e = true_patterns p listed (map (tree_value x) ts) (subst (λ m. HasPins pin_counts p.cell m) (sym (length_values x ts)) pins) in
      let s = tree_value_same (λ k. slice_index_or (map (tree_value x) ts) k false) (λ k. tree_value x (slice_index_or ts k (leaf k))) p.tree (λ k h. values_at x ts k (leaf k) ((is (length ts) k pins).0 h)) in
      sym e ∙ (s ∙ sym (tree_value-planted x p.tree ts))

  -- the value of a net is that of the tree of the cover that it stands for
  mutual
    pub StandsFor-value : (k : Cover) (net : ℕ) → IsCover pin_counts pats k → StandsFor n k net → values net ≡ tree_value x (tree_of k)
    StandsFor-value (wire i) net is (e, lt) = ap values e ∙ are.inputs i lt
    StandsFor-value (gate p ks) net (listed, pins, all) (j, g, at, e, c, s) =
        ap values e ∙ (are.gates j g at ∙ (ap₂ (λ cell ys. truth cell ys) c (StandForAll-values ks g.pins all s) ∙ planted_truth p (trees_of ks) listed pins))

    pub StandForAll-values : (ks : Covers) (nets : List ℕ) → AreCovers pin_counts pats ks → StandForAll n ks nets → map values nets ≡ map (tree_value x) (trees_of ks)
    StandForAll-values no_covers nets all e = ap (map values) e
    StandForAll-values (cover k ks) nets (is, all) (net, rest, e, s, r) =
        ap (map values) e ∙ ap₂ (λ y ys. y ∷ ys) (StandsFor-value k net is s) (StandForAll-values ks rest all r)

module _ (g : Graph) (pin_counts : List ℕ) (pats : List Pattern) (n : Netlist) (class : ℕ → ℕ) (ordered : AreOrdered n) (mapped : IsMapped g pin_counts pats n class) where
  -- a cover for which the net stands, whose tree unfolds at the net's class
  pub record CoversNet (net : ℕ) : Type 0 where
    pub by : Cover
    pub is_cover : IsCover pin_counts pats by
    pub stands : StandsFor n by net
    pub unfolds : Unfolds g (tree_of by) (class net)

  pub record CoverNets (nets : List ℕ) : Type 0 where
    pub by : Covers
    pub are : AreCovers pin_counts pats by
    pub stand : StandForAll n by nets
    pub unfold_at : UnfoldAt g (trees_of by) (map class nets)

  cover_nets : (m : ℕ) → ((net : ℕ) → net < m → CoversNet net) → (nets : List ℕ) → AllByRecursion (λ p. p < m) nets → CoverNets nets
  cover_nets m below [] a = record { by = no_covers; are = tt; stand = refl; unfold_at = tt }
  cover_nets m below (net ∷ nets) (lt, a) =
      let k = below net lt in
      let ks = cover_nets m below nets a in
      record {
        by = cover k.by ks.by;
        are = (k.is_cover, ks.are);
        stand = (net, nets, refl, k.stands, ks.stand);
        unfold_at = (k.unfolds, ks.unfold_at);
      }

  cover_gate : (j : ℕ) (gt : Gate) → IsGate n j gt → CoverNets gt.pins → CoversNet (n.inputs + j)
  cover_gate j gt at ks =
      let m = mapped.gates j gt at in
      let pins : HasPins pin_counts m.pattern.cell (length (trees_of ks.by)) = rw (m.cell_is, length-UnfoldAt g (trees_of ks.by) (map class gt.pins) ks.unfold_at) m.pins in
      record {
        by = gate m.pattern ks.by;
        is_cover = (m.listed, pins, ks.are);
        stands = (j, gt, at, refl, sym m.cell_is, ks.stand);
        unfolds = planted_unfolds g m.pattern.tree (trees_of ks.by) (map class gt.pins) (class (n.inputs + j)) ks.unfold_at m.stands;
      }

  net_by : (net : ℕ) → ((p : ℕ) → p < net → CoversNet p) → net < n.inputs + length n.gates → Dec (net < n.inputs) → CoversNet net
  net_by net below lt (yes in') =
      record { by = wire net; is_cover = tt; stands = (refl, in'); unfolds = mapped.inputs net in' }
  net_by net below lt (no out) =
      let j = net - n.inputs in
      let (gt, at) = slice_get_some n.gates j (omega arith) in
      let e : n.inputs + j ≡ net = omega arith in
      let low = ordered j gt at in
      subst CoversNet e (cover_gate j gt at (cover_nets net below gt.pins (subst (λ m. AllByRecursion (λ p. p < m) gt.pins) e low)))

  net_covered_below : (m net : ℕ) → net < m → net < n.inputs + length n.gates → CoversNet net
  net_covered_below zero net lt in' = absurd (omega arith)
  net_covered_below (suc m) net lt in' =
      net_by net (λ p l. net_covered_below m p (omega arith) (omega arith)) in' (dec_lt net n.inputs)

  -- each net of a mapped netlist stands for a cover of its class
  pub net_covered : (net : ℕ) → net < n.inputs + length n.gates → CoversNet net
  net_covered net in' = net_covered_below (suc net) net (omega arith) in'
