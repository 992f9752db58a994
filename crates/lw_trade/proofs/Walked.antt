-- What a walk has found is a graph of points without a cycle.
use Rattle.std.proofs.Common.{◌≡◌, ℕ, zero, suc, ◌+◌, ◌<◌, ◌≤◌, ◌⊎◌, Bool, inl, inr, length, List, [], ◌∷◌, Some, slice_get, slice_index_or, refl, ap, sym, ◌∙◌, subst, arith}
use Rattle.std.proofs.lemmas.List.{get_or_past}
use Rattle.std.proofs.lemmas.Option.{same_Some, slice_get_within}
use Rattle.std.proofs.lemmas.Bool.{cases_lt}
use Rattle.lw_laws.specs.Covers.{delays_of}
use Rattle.lw_pool.specs.declared.id.CellId.{CellId}
use Rattle.lw_pool.specs.declared.id.ClassId.{ClassId}
use Rattle.lw_fixed.specs.declared.micro.Micro.{Micro}
use Rattle.lw_dag.specs.Graphs.{IsGraph, fanins_at}
use Rattle.lw_backtrace.specs.declared.targets.Targets.{Targets}
use Rattle.lw_curves.specs.Backing.{Held, IsHeld}
use Rattle.lw_curves.specs.CurveTables.{CurveLists, HaveWays}
use Rattle.lw_trade.specs.Placed.{HaveHeights}
use Rattle.lw_choices.specs.Tasks.{Task, timing}
use Rattle.lw_backtrace.specs.Targets.{AreCurvesFor}
use Rattle.lw_backtrace.specs.Sites.{Site, IsNetOfPoint, HavePinNets, IsGateOfPoint}
use Rattle.lw_backtrace.specs.Walks.{HaveRootNets, IsWalk}
use Rattle.lw_trade.proofs.Heights.{IsEarlier, pins_earlier, all_high}
use Rattle.lw_trade.proofs.Lasting.{pins_before}
use Rattle.lw_choices.proofs.Lists.{get_some}

-- a class has one point of a time
pub one_held : (s : Task) (curves : CurveLists) (ways : HaveWays s curves) (k l : Held) → IsHeld ways.held k → IsHeld ways.held l → k.spot.class ≡ l.spot.class → k.spot.time ≡ l.spot.time → k ≡ l
one_held s curves ways k l has other e same =
    let is = ways.backed k has in
    let low : k.spot.class < length s.graph.pairs = subst (λ c. c < length s.graph.pairs) is.class_is (ways.choices.within k.choice is.by is.listed) in
    let rows = ways.rows in
    let (row, at) = get_some rows.rows k.spot.class (let m = rows.are.one_each in omega (arith, low, m)) in
    let none : ◌≡◌ {A = ℕ} (0 + k.spot.class) k.spot.class = omega arith in
    let held = rows.are.each k.spot.class row at in
    let (i, it) = held.all k has (sym none) in
    let (j, jt) = held.all l other (sym e ∙ sym none) in
    by_place row held.rising i j it jt (cases_lt i j) (cases_lt j i)
  where
    by_place : (row : List Held) → ((i j : ℕ) (g h : Held) → i < j → slice_get row i ≡ Some g → slice_get row j ≡ Some h → g.spot.time < h.spot.time) → (i j : ℕ) → slice_get row i ≡ Some k → slice_get row j ≡ Some l → (i < j) ⊎ (j ≤ i) → (j < i) ⊎ (i ≤ j) → k ≡ l
    by_place row rising i j it jt (inl lt) y = let t = rising i j k l lt it jt in absurd (omega (arith, t, same))
    by_place row rising i j it jt (inr x) (inl lt) = let t = rising j i l k lt jt it in absurd (omega (arith, t, same))
    by_place row rising i j it jt (inr x) (inr y) = let f : i ≡ j = omega (arith, x, y) in same_Some k l (sym it ∙ (ap (slice_get row) f ∙ jt))

net_low : (s : Task) (sites : List Site) (own : Bool) (l : Held) (net : ℕ) → IsNetOfPoint s sites own l net → net < length s.graph.leaves + length sites
net_low s sites own l net (inl (at, start)) = let lt = slice_get_within s.graph.leaves net l.spot.class at in omega (arith, lt)
net_low s sites own l net (inr (none, j, at, e)) = let lt = slice_get_within sites j (record { point = l; exact = own }) at in omega (arith, lt, e)

nets_low : (s : Task) (held : List Held) (sites : List Site) (exact : Bool) (time : ℕ) (ds ps nets : List ℕ) → HavePinNets s held sites exact time ds ps nets → (k d : ℕ) → k < length nets → slice_index_or nets k d < length s.graph.leaves + length sites
nets_low s held sites exact time [] [] [] have k d lt = absurd (omega arith)
nets_low s held sites exact time [] [] (m ∷ ms) have k d lt = absurd have
nets_low s held sites exact time [] (p ∷ ps) [] have k d lt = absurd have
nets_low s held sites exact time [] (p ∷ ps) (m ∷ ms) have k d lt = absurd have
nets_low s held sites exact time (e ∷ ds) [] [] have k d lt = absurd have
nets_low s held sites exact time (e ∷ ds) [] (m ∷ ms) have k d lt = absurd have
nets_low s held sites exact time (e ∷ ds) (p ∷ ps) [] have k d lt = absurd have
nets_low s held sites exact time (e ∷ ds) (p ∷ ps) (m ∷ ms) (first, have) zero d lt = net_low s sites first.own first.point m first.net_of
nets_low s held sites exact time (e ∷ ds) (p ∷ ps) (m ∷ ms) (first, have) (suc k) d lt = nets_low s held sites exact time ds ps ms have k d (omega (arith, lt))

pub roots_low : (s : Task) (held : List Held) (sites : List Site) (roots : List ClassId) (times : List Micro) (nets : List ℕ) → HaveRootNets s held sites roots times nets → (length nets ≡ length roots) × ((k d : ℕ) → k < length nets → slice_index_or nets k d < length s.graph.leaves + length sites)
roots_low s held sites [] [] [] have = (refl, λ k d lt. absurd (omega arith))
roots_low s held sites [] [] (m ∷ ms) have = absurd have
roots_low s held sites [] (t ∷ ts) [] have = absurd have
roots_low s held sites [] (t ∷ ts) (m ∷ ms) have = absurd have
roots_low s held sites (r ∷ rs) [] [] have = absurd have
roots_low s held sites (r ∷ rs) [] (m ∷ ms) have = absurd have
roots_low s held sites (r ∷ rs) (t ∷ ts) [] have = absurd have
roots_low s held sites (r ∷ rs) (t ∷ ts) (m ∷ ms) (root, have) =
    let (e, low) = roots_low s held sites rs ts ms have in
    (ap suc e, λ k d lt. at k d lt (net_low s sites root.is.own root.is.point m root.is.net_of) low)
  where
    at : (k d : ℕ) → k < length (m ∷ ms) → m < length s.graph.leaves + length sites → ((k d : ℕ) → k < length ms → slice_index_or ms k d < length s.graph.leaves + length sites) → slice_index_or (m ∷ ms) k d < length s.graph.leaves + length sites
    at zero d lt first low = first
    at (suc k) d lt first low = low k d (omega (arith, lt))

module _ (s : Task) (t : Targets) (curves : CurveLists) (c : AreCurvesFor s t curves) (sites : List Site) (roots : List ClassId) (times : List Micro) (cells : List CellId) (graph : List (List ℕ)) (nets : List ℕ) (walk : IsWalk s curves.choices c.ways.held sites roots times cells graph nets) where
  abbrev m : ℕ
  m = length s.graph.leaves

  -- the gate of a node
  node_gate : (j : ℕ) (h : Site) → slice_get sites j ≡ Some h → (cell : CellId) × IsGateOfPoint s curves.choices c.ways.held sites h (record { cell = cell.0; pins = fanins_at graph j })
  node_gate j h at =
      let lt = slice_get_within sites j h at in
      let (cell, bt) = get_some cells j (omega (arith, lt, walk.one_cell)) in
      (cell, walk.gates j h cell at bt)

  pub walk_graph : IsGraph m graph
  walk_graph j k d lt = by_row (cases_lt j (length graph))
    where
      by_row : (j < length graph) ⊎ (length graph ≤ j) → slice_index_or (fanins_at graph j) k d < m + length graph
      by_row (inl in') =
          let (h, at) = get_some sites j (omega (arith, in', walk.one_row)) in
          let (cell, is) = node_gate j h at in
          let low = nets_low s c.ways.held sites h.exact h.point.spot.time (delays_of (timing s).delays cell.0) is.pins (fanins_at graph j) is.nets k d lt in
          omega (arith, low, walk.one_row)
      by_row (inr past) =
          let e = ap length (get_or_past graph j [] past) in
          absurd (omega (arith, e, lt))

  pub walk_earlier : (j : ℕ) (h : Site) → slice_get sites j ≡ Some h → (i net : ℕ) → slice_get (fanins_at graph j) i ≡ Some net → IsEarlier s c.ways.held sites h.point net
  walk_earlier j h at i net it =
      let (cell, is) = node_gate j h at in
      let last = pins_before s c.horizon curves c.ways c.are h.point is.class cell.0 is.pins (walk.are j h at) is.chosen in
      pins_earlier s c.ways.held sites h.point (one_held s curves c.ways) h.exact (delays_of (timing s).delays cell.0) is.pins (fanins_at graph j) is.nets last i net it

  pub walk_high : HaveHeights m graph
  walk_high heights are = all_high s c.ways.held sites graph walk.one_row walk_earlier heights are
