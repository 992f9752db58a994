-- The nets of points where the sites stand in another order.
use Rattle.std.proofs.Common.{◌≡◌, ℕ, zero, suc, ◌+◌, ◌-◌, ◌<◌, ◌≤◌, ◌⊎◌, Bool, false, inl, inr, All, length, map, List, [], ◌∷◌, Some, slice_get, slice_index_or, refl, ap, sym, ◌∙◌, subst, arith}
use Rattle.std.specs.List.{range_with_len}
use Rattle.std.specs.List.Sorted.{IsPermutation}
use Rattle.std.proofs.lemmas.List.{get_or-map, length-map}
use Rattle.std.proofs.lemmas.Option.{get_or_from_slice_get, same_Some, slice_get_within}
use Rattle.std.proofs.lemmas.Bool.{cases_lt}
use Rattle.lw_pool.specs.declared.id.ClassId.{ClassId}
use Rattle.lw_fixed.specs.declared.micro.Micro.{Micro}
use Rattle.lw_curves.specs.Backing.{Held}
use Rattle.lw_trade.specs.Placed.{ArePlaces, placed_net}
use Rattle.lw_choices.specs.Tasks.{Task}
use Rattle.lw_backtrace.specs.Sites.{Site, IsNetOfPoint, IsPinNet, HavePinNets}
use Rattle.lw_backtrace.specs.Walks.{IsRootNet, HaveRootNets}
use Rattle.lw_curves.proofs.Grouped.{get_map, map_get}
use Rattle.lw_choices.proofs.Lists.{got}
use Rattle.lw_trade.proofs.Places.{order_length, order_low, stands_there}
use Rattle.lw_trade.proofs.Standing.{placed_input, placed_node}

-- a net stays one
pub placed_low : (m : ℕ) (order places : List ℕ) → ArePlaces order places → (net : ℕ) → net < m + length order → placed_net m places net < m + length order
placed_low m order places are net lt = by_input (cases_lt net m)
  where
    by_input : (net < m) ⊎ (m ≤ net) → placed_net m places net < m + length order
    by_input (inl input) = let e = placed_input m places net input in omega (arith, e, input)
    by_input (inr ge) =
        let i : net ≡ m + (net - m) = omega (arith, ge) in
        let e = ap (placed_net m places) i ∙ placed_node m places (net - m) in
        let low = are.low (net - m) 0 (omega (arith, lt, ge, are.one_each)) in
        omega (arith, e, low)

-- what has the net of a root
pub root_at : (s : Task) (held : List Held) (sites : List Site) (roots : List ClassId) (times : List Micro) (nets : List ℕ) → HaveRootNets s held sites roots times nets → (k : ℕ) (root : ClassId) → slice_get roots k ≡ Some root → (time : Micro) × (net : ℕ) × (slice_get times k ≡ Some time) × (slice_get nets k ≡ Some net) × IsRootNet s held sites root.0 time.0 net
root_at s held sites [] [] [] have k root at = cc
root_at s held sites [] [] (m ∷ ms) have k root at = absurd have
root_at s held sites [] (t ∷ ts) [] have k root at = absurd have
root_at s held sites [] (t ∷ ts) (m ∷ ms) have k root at = absurd have
root_at s held sites (r ∷ rs) [] [] have k root at = absurd have
root_at s held sites (r ∷ rs) [] (m ∷ ms) have k root at = absurd have
root_at s held sites (r ∷ rs) (t ∷ ts) [] have k root at = absurd have
root_at s held sites (r ∷ rs) (t ∷ ts) (m ∷ ms) (first, have) zero root at =
    (t, m, refl, refl, subst (λ (x : ClassId). IsRootNet s held sites x.0 t.0 m) (same_Some r root at) first)
root_at s held sites (r ∷ rs) (t ∷ ts) (m ∷ ms) (first, have) (suc k) root at = root_at s held sites rs ts ms have k root at

-- one net for each pin
pub pin_count : (s : Task) (held : List Held) (sites : List Site) (exact : Bool) (time : ℕ) (ds ps nets : List ℕ) → HavePinNets s held sites exact time ds ps nets → length nets ≡ length ps
pin_count s held sites exact time [] [] [] have = refl
pin_count s held sites exact time [] [] (m ∷ ms) have = absurd have
pin_count s held sites exact time [] (p ∷ ps) [] have = absurd have
pin_count s held sites exact time [] (p ∷ ps) (m ∷ ms) have = absurd have
pin_count s held sites exact time (d ∷ ds) [] [] have = absurd have
pin_count s held sites exact time (d ∷ ds) [] (m ∷ ms) have = absurd have
pin_count s held sites exact time (d ∷ ds) (p ∷ ps) [] have = absurd have
pin_count s held sites exact time (d ∷ ds) (p ∷ ps) (m ∷ ms) (first, have) = ap suc (pin_count s held sites exact time ds ps ms have)

module _ (s : Task) (sites : List Site) (order places : List ℕ) (moved : IsPermutation (range_with_len 0 (length sites)) order) (placed : ArePlaces order places) where
  abbrev m : ℕ
  m = length s.graph.leaves

  abbrev pub no_site : Site
  no_site = record { point = record { spot = record { class = 0; time = 0; area = 0 }; choice = 0; order = 0 }; exact = false }

  abbrev site_at : ℕ → Site
  site_at j = slice_index_or sites j no_site

  -- the sites in this order
  abbrev pub moved_sites : List Site
  moved_sites = map site_at order

  pub site_in : (j : ℕ) (h : Site) → slice_get moved_sites j ≡ Some h → (i : ℕ) × (slice_get order j ≡ Some i) × (slice_get sites i ≡ Some h)
  site_in j h at =
      let (i, it, e) = map_get site_at order j h at in
      let low = order_low (length sites) order moved j 0 (slice_get_within order j i it) in
      let same = get_or_from_slice_get order j i 0 it in
      (i, it, got sites i no_site (omega (arith, low, same)) ∙ ap Some e)

  pub site_placed : (i : ℕ) (h : Site) → slice_get sites i ≡ Some h → slice_get moved_sites (slice_index_or places i 0) ≡ Some h
  site_placed i h at =
      let (in', e) = stands_there order places (length sites) moved placed i (slice_get_within sites i h at) in
      let long = order_length (length sites) order moved in
      let p = slice_index_or places i 0 in
      let it : slice_get order p ≡ Some i = got order p 0 (omega (arith, in', long)) ∙ ap Some e in
      get_map site_at order p i it ∙ ap Some (get_or_from_slice_get sites i h no_site at)

  pub net_placed : (own : Bool) (l : Held) (net : ℕ) → IsNetOfPoint s sites own l net → IsNetOfPoint s moved_sites own l (placed_net m places net)
  net_placed own l net (inl (at, start)) =
      let e = placed_input m places net (slice_get_within s.graph.leaves net l.spot.class at) in
      subst (IsNetOfPoint s moved_sites own l) (sym e) (inl (at, start))
  net_placed own l net (inr (other, j, at, e)) =
      inr (other, slice_index_or places j 0, site_placed j (record { point = l; exact = own }) at, ap (placed_net m places) e ∙ placed_node m places j)

  pin_placed : (held : List Held) (exact : Bool) (c d time net : ℕ) → IsPinNet s held sites exact c d time net → IsPinNet s held moved_sites exact c d time (placed_net m places net)
  pin_placed held exact c d time net pin = record {
    point = pin.point;
    own = pin.own;
    by = pin.by;
    net_of = net_placed pin.own pin.point net pin.net_of;
    last = pin.last;
  }

  pub root_placed : (held : List Held) (c time net : ℕ) → IsRootNet s held sites c time net → IsRootNet s held moved_sites c time (placed_net m places net)
  root_placed held c time net root = record {
    exact = root.exact;
    is = pin_placed held root.exact c 0 time net root.is;
    cut = root.cut;
  }

  pub pins_placed : (held : List Held) (exact : Bool) (time : ℕ) (ds ps nets : List ℕ) → HavePinNets s held sites exact time ds ps nets → HavePinNets s held moved_sites exact time ds ps (map (placed_net m places) nets)
  pins_placed held exact time [] [] [] have = have
  pins_placed held exact time [] [] (x ∷ xs) have = absurd have
  pins_placed held exact time [] (p ∷ ps) [] have = absurd have
  pins_placed held exact time [] (p ∷ ps) (x ∷ xs) have = absurd have
  pins_placed held exact time (d ∷ ds) [] [] have = absurd have
  pins_placed held exact time (d ∷ ds) [] (x ∷ xs) have = absurd have
  pins_placed held exact time (d ∷ ds) (p ∷ ps) [] have = absurd have
  pins_placed held exact time (d ∷ ds) (p ∷ ps) (x ∷ xs) (pin, have) =
      (pin_placed held exact p d time x pin, pins_placed held exact time ds ps xs have)

-- what is below a bound by its number
pub below_by : {X : Type 0} (f : X → ℕ) (b : ℕ) (xs : List X) → All (λ x. x < b) (map f xs) → All (λ x. f x < b) xs
below_by f b xs all k d lt =
    let long = length-map xs f in
    let low = all k (f d) (omega (arith, lt, long)) in
    let e = get_or-map f xs k d (f d) lt in
    omega (arith, low, e)
