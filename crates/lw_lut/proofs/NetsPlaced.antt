-- Networks of tables whose nets have places.
use Rattle.std.proofs.Common.{ℕ, ◌+◌, ◌<◌, ◌≤◌, ◌≡◌, inl, inr, List, ◌++◌, length, get_or, All, Contains, Some, slice_get, subst, arith}
use Rattle.std.proofs.lemmas.List.Elements.{All-contains, Contains-append_right}
use Rattle.std.proofs.lemmas.Option.{slice_get-get_or}
use Rattle.lw_facts.proofs.Lists.{contains_map, at_contained}
use Rattle.lw_laws.proofs.Numbers.{slice_get_map_back}
use Rattle.lw_pool.specs.declared.id.ClassId.{ClassId}
use Rattle.lw_lut.specs.Nets.{PlainTableNet, IsTableNet, net_classes, table_classes}
use Rattle.lw_lut.specs.Placed.{HasNets}
use Rattle.lw_lut.specs.declared.table.Table.{Table}
use Rattle.lw_lut.proofs.PlacedNames.{IsOnce, class_count, few_classes}
use Rattle.lw_lut.proofs.TableNets.{split}
use Rattle.lw_pool.specs.Numbers.{numbers}

-- each table and its fan-ins have nets
pub have_nets : (n : PlainTableNet) → IsTableNet n → All (λ (t : Table). length t.fanins ≤ 6) n.tables → All (HasNets n) n.tables
have_nets n kept few k d lt =
    let t = get_or n.tables k d in
    let there = at_contained n.tables k t (slice_get-get_or n.tables k d lt) in
    record {
      few = few k d lt;
      out = Contains-append_right (numbers n.inputs) (table_classes n.tables) t.out.0 (contains_map (λ (u : Table). u.out.0) n.tables t there);
      fanins = λ j e le. kept.fanins t (get_or t.fanins j e).0 there (contains_map (λ (q : ClassId). q.0) t.fanins (get_or t.fanins j e) (at_contained t.fanins j (get_or t.fanins j e) (slice_get-get_or t.fanins j e le)));
    }

-- each root has a net
pub have_roots : (n : PlainTableNet) → IsTableNet n → All (λ (root : ClassId). Contains (net_classes n) root.0) n.ports.roots
have_roots n kept k d lt =
    let root = get_or n.ports.roots k d in
    kept.roots root.0 (contains_map (λ (q : ClassId). q.0) n.ports.roots root (at_contained n.ports.roots k root (slice_get-get_or n.ports.roots k d lt)))

-- no more nets than classes
pub few_nets : (inputs : List ClassId) (tables : List Table) (m : ℕ) → IsOnce (numbers inputs ++ table_classes tables) → All (λ (c : ClassId). c.0 < m) inputs → All (λ (t : Table). t.out.0 < m) tables → length inputs + length tables ≤ m
few_nets inputs tables m once ins outs =
    let count = class_count inputs tables in
    let few = few_classes (numbers inputs ++ table_classes tables) m once below in
    omega (arith, count, few)
  where
    below : (i c : ℕ) → slice_get (numbers inputs ++ table_classes tables) i ≡ Some c → c < m
    below i c e = elim (split (numbers inputs) (table_classes tables) i c e) [
      | inl f ↦ let (x, at, s) = slice_get_map_back (λ (q : ClassId). q.0) inputs i c f in subst (λ k. k < m) s (All-contains (λ (q : ClassId). q.0 < m) inputs x ins (at_contained inputs i x at))
      | inr (j, f, s) ↦ let (x, at, r) = slice_get_map_back (λ (t : Table). t.out.0) tables j c f in subst (λ k. k < m) r (All-contains (λ (t : Table). t.out.0 < m) tables x outs (at_contained tables j x at))
    ]

-- classes are below what their numbers are below
pub below_numbers : (inputs : List ClassId) (leaves : List ℕ) (m : ℕ) → numbers inputs ≡ leaves → All (λ c. c < m) leaves → All (λ (c : ClassId). c.0 < m) inputs
below_numbers inputs leaves m are below k d lt =
    let x = get_or inputs k d in
    All-contains (λ c. c < m) leaves x.0 below (subst (λ xs. Contains xs x.0) are (contains_map (λ (q : ClassId). q.0) inputs x (at_contained inputs k x (slice_get-get_or inputs k d lt))))
