-- What tells the classes of nets apart tells the nets of a netlist apart by their names.
use Rattle.std.proofs.Common.{ℕ, zero, suc, ◌+◌, ◌<◌, ◌≡◌, ◌⊎◌, inl, inr, if◌then◌else◌, List, [], ◌∷◌, ◌++◌, length, map, Some, slice_get, ap, sym, ◌∙◌, subst, arith}
use Rattle.lw_laws.specs.Names.{net_names, AreDifferent, AreNameable}
use Rattle.lw_laws.specs.Netlists.{Netlist}
use Rattle.lw_laws.specs.Headline.{Port as PlainPort, Ports}
use Rattle.lw_laws.specs.MappedNetlists.{AreNetNames}
use Rattle.lw_laws.proofs.Lists.{slice_get_some}
use Rattle.lw_laws.proofs.NameLaws.{names_differ, names_owned}
use Rattle.lw_laws.proofs.Extracts.{slice_get_append}

module _ (leaves gates : List ℕ) (apart : (i j c : ℕ) → slice_get leaves i ≡ Some c → slice_get leaves j ≡ Some c → i ≡ j) (once : (i j c : ℕ) → slice_get gates i ≡ Some c → slice_get gates j ≡ Some c → i ≡ j) (no_leaf : (i j c : ℕ) → slice_get gates i ≡ Some c → slice_get leaves j ≡ Some c → ⊥) where
  in_left : (m c : ℕ) → m < length leaves → slice_get (leaves ++ gates) m ≡ Some c → slice_get leaves m ≡ Some c
  in_left m c lt h = let (d, at) = slice_get_some leaves m lt in let s = left leaves m d at in let same : d ≡ c = cc in at ∙ ap Some same
    where
      left : (xs : List ℕ) (m d : ℕ) → slice_get xs m ≡ Some d → slice_get (xs ++ gates) m ≡ Some d
      left [] m d at = cc
      left (x ∷ xs) zero d at = at
      left (x ∷ xs) (suc m) d at = left xs m d at

  -- a class is that of one net
  class_once : (c k l : ℕ) → slice_get (leaves ++ gates) k ≡ Some c → slice_get (leaves ++ gates) l ≡ Some c → k ≡ l
  class_once c k l e f = by_side (slice_get_append leaves gates k c e) (slice_get_append leaves gates l c f)
    where
      by_side : (k < length leaves) ⊎ ((i : ℕ) × (slice_get gates i ≡ Some c) × (k ≡ length leaves + i)) → (l < length leaves) ⊎ ((i : ℕ) × (slice_get gates i ≡ Some c) × (l ≡ length leaves + i)) → k ≡ l
      by_side (inl p) (inl q) = apart k l c (in_left k c p e) (in_left l c q f)
      by_side (inl p) (inr (j, at, s)) = absurd (no_leaf j k c at (in_left k c p e))
      by_side (inr (i, at, s)) (inl q) = absurd (no_leaf i l c at (in_left l c q f))
      by_side (inr (i, at, s)) (inr (j, bt, t)) = let same = once i j c at bt in omega arith

-- the names of the nets tell them and the outputs apart, where each output is at the net of its class
pub names_tell : (inputs : List (List ℕ)) (leaves roots gates : List ℕ) (n : Netlist) (names : List (List ℕ)) (mapped : Ports) → AreNameable inputs (map (λ (p : PlainPort). p.name) mapped.outputs) leaves roots gates → ((i j c : ℕ) → slice_get leaves i ≡ Some c → slice_get leaves j ≡ Some c → i ≡ j) → length leaves ≡ length inputs → names ≡ net_names inputs (map (λ (p : PlainPort). p.name) mapped.outputs) roots gates → length names ≡ n.inputs + length n.gates → ((k : ℕ) (p : PlainPort) → slice_get mapped.outputs k ≡ Some p → (c : ℕ) × (slice_get roots k ≡ Some c) × (slice_get (leaves ++ gates) p.net ≡ Some c)) → AreNetNames n names mapped
names_tell inputs leaves roots gates n names mapped able apart one_each names_are count at_class = record {
  one_each = count;
  nets_differ = subst AreDifferent (sym names_are) (names_differ inputs (map (λ (p : PlainPort). p.name) mapped.outputs) leaves roots gates able);
  outputs_differ = able.outputs_differ;
  owned = λ j k p at e. (
      let (c, root, net) = at_class k p at in
      let here = names_owned inputs (map (λ (p : PlainPort). p.name) mapped.outputs) leaves roots gates able one_each j k p.name (ap (λ ns. slice_get ns j) (sym names_are) ∙ e) (name_at mapped.outputs k p at) in
      class_once leaves gates apart able.once able.no_leaf c j p.net (here ∙ root) net
      );
}
  where
    name_at : (ps : List PlainPort) (k : ℕ) (p : PlainPort) → slice_get ps k ≡ Some p → slice_get (map (λ (q : PlainPort). q.name) ps) k ≡ Some p.name
    name_at [] k p at = cc
    name_at (q ∷ ps) zero p at = let same : q ≡ p = cc in ap (λ (r : PlainPort). Some r.name) same
    name_at (q ∷ ps) (suc k) p at = name_at ps k p at
