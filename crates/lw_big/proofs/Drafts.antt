-- What is drawn may be closed, and has neither fault.
use Rattle.std.proofs.Common.{◌≡◌, ℕ, zero, suc, ◌+◌, ◌-◌, ◌≤◌, ◌==◌, Bool, true, false, not, cond, List, [], ◌∷◌, ◌++◌, length, map, drop, Some, None, Contains, All, refl, sym, ap, ap₂, subst, ◌∙◌, arith}
use Rattle.std.specs.Prelude.{codes}
use Rattle.std.specs.List.{AllByRecursion, flat_map, range_with_len, IsDistinct}
use Rattle.std.specs.Str.{bytes_eq}
use Rattle.std.proofs.lemmas.Cmp.{nat_list_eq_equiv}
use Rattle.std.proofs.lemmas.List.{map-append, drop-map}
use Rattle.std.proofs.lemmas.List.Elements.{All-map, All-from_recursion}
use Rattle.std.proofs.lemmas.Map.Views.{list_any-from_Contains}
use Rattle.lw_facts.proofs.Lists.{all_append_names, range_join}
use Rattle.lw_net.specs.declared.draft.Draft.{Draft}
use Rattle.lw_net.specs.declared.draft.DraftNode.{DraftNode}
use Rattle.lw_net.specs.declared.fault.NetFault.TheVariants.{Undefined, Cycle}
use Rattle.lw_net.specs.Closing.{IsDraft, HasFault, HasNoCycle, Reaches, signals_of, fanins_of, out_of, undefined_in, first_undefined}
use Rattle.lw_big.specs.Generated.{most_nodes, signal_name, signal_names, first_fanin, second_fanin, rows_of, node_kind, drawn_node, drawn_nodes, drawn_draft}
use Rattle.lw_big.proofs.Lowering.{first_before, second_before, no_cycle}
use Rattle.lw_big.proofs.Ranges.{drop-range}
use Rattle.lw_big.proofs.SignalNames.{length-signal_names, name_among, names_differ}

-- the names that the nodes drive
outs_are : (seed first count : ℕ) → map out_of (drawn_nodes seed first count) ≡ signal_names (16 + first) count
unfolding drawn_node drawn_nodes signal_names
outs_are seed first count = outs first count
  where
    outs : (a n : ℕ) → map out_of (map (drawn_node seed) (range_with_len a n)) ≡ map signal_name (range_with_len (16 + a) n)
    outs a zero = refl
    outs a (suc n) =
        let next : 16 + (a + 1) ≡ 16 + a + 1 = omega arith in
        ap (λ l. signal_name (16 + a) ∷ l) (outs (a + 1) n ∙ ap (λ b. map signal_name (range_with_len b n)) next)

names-append : (first m n : ℕ) → signal_names first m ++ signal_names (first + m) n ≡ signal_names first (m + n)
unfolding signal_names
names-append first m n = sym (map-append signal_name (range_with_len first m) (range_with_len (first + m) n)) ∙ ap (map signal_name) (range_join first m n)

drop-names : (k first n : ℕ) → drop k (signal_names first n) ≡ signal_names (first + k) (n - k)
unfolding signal_names
drop-names k first n = drop-map signal_name k (range_with_len first n) ∙ ap (map signal_name) (drop-range k first n)

pub drawn_signals : (seed n : ℕ) → signals_of (drawn_draft seed n) ≡ signal_names 0 (16 + n)
unfolding drawn_draft
drawn_signals seed n = ap (λ l. signal_names 0 16 ++ l) (outs_are seed 0 n) ∙ names-append 0 16 n

pub drawn_outputs : (seed n : ℕ) → drop (n - 16) (map out_of (drawn_nodes seed 0 n)) ≡ signal_names (16 + (n - 16)) (n - (n - 16))
drawn_outputs seed n = ap (drop (n - 16)) (outs_are seed 0 n) ∙ drop-names (n - 16) 16 n

-- each row has a byte for each of the two fan-ins
abbrev HasTwo : List ℕ → Type 0
HasTwo row = length row ≡ 2

rows_fit : (kind : ℕ) → All HasTwo (rows_of kind)
rows_fit kind = All-from_recursion HasTwo (rows_of kind) (by_tests (kind == 1) (kind == 2))
  where
    by_tests : (a b : Bool) → AllByRecursion HasTwo (cond a (codes "1-" ∷ codes "-1" ∷ []) (cond b (codes "10" ∷ codes "01" ∷ []) (codes "11" ∷ [])))
    by_tests true b = (refl, (refl, tt))
    by_tests false true = (refl, (refl, tt))
    by_tests false false = (refl, tt)

abbrev HasColumns : DraftNode → Type 0
HasColumns node = All (λ (row : List ℕ). length row ≡ length node.fanins) node.rows

columns_at : (seed k : ℕ) → HasColumns (drawn_node seed k)
unfolding drawn_node
columns_at seed k = rows_fit (node_kind seed k)

columns : (seed first count : ℕ) → All HasColumns (drawn_nodes seed first count)
unfolding drawn_nodes
columns seed first count = All-map HasColumns (drawn_node seed) (range_with_len first count) (λ k d lt. columns_at seed _)

pub drawn_is_draft : (seed n : ℕ) → n ≤ most_nodes → IsDraft (drawn_draft seed n)
unfolding drawn_draft
drawn_is_draft seed n few = record {
  signals = subst (IsDistinct bytes_eq) (sym (drawn_signals seed n)) (names_differ 0 (16 + n) (omega arith));
  outputs = subst (IsDistinct bytes_eq) (sym (drawn_outputs seed n)) (names_differ (16 + (n - 16)) (n - (n - 16)) (omega arith));
  columns = columns seed 0 n;
  few = omega (arith, ap length (drawn_signals seed n), length-signal_names 0 (16 + n));
}

-- none of these names is undefined
all_defined : (signals names : List (List ℕ)) → AllByRecursion (Contains signals) names → undefined_in signals names ≡ None
all_defined signals [] all = refl
all_defined signals (name ∷ names) all =
    ap (λ b. cond (not b) (Some name) (undefined_in signals names)) (list_any-from_Contains nat_list_eq_equiv name signals all.0) ∙ all_defined signals names all.1

fanins_among : (seed m : ℕ) (a n : ℕ) → 16 + (a + n) ≤ m → AllByRecursion (Contains (signal_names 0 m)) (flat_map fanins_of (map (drawn_node seed) (range_with_len a n)))
unfolding drawn_node
fanins_among seed m a zero within = tt
fanins_among seed m a (suc n) within = (
  name_among m (first_fanin seed a) (omega (arith, first_before seed a)),
  (name_among m (second_fanin seed a) (omega (arith, second_before seed a)), fanins_among seed m (a + 1) n (omega arith)),
)

names_among : (m : ℕ) (a n : ℕ) → a + n ≤ m → AllByRecursion (Contains (signal_names 0 m)) (signal_names a n)
unfolding signal_names
names_among m a n within = among a n within
  where
    among : (b k : ℕ) → b + k ≤ m → AllByRecursion (Contains (map signal_name (range_with_len 0 m))) (map signal_name (range_with_len b k))
    among b zero le = tt
    among b (suc k) le = (name_among m b (omega arith), among (b + 1) k (omega arith))

pub drawn_defined : (seed n : ℕ) → first_undefined (drawn_draft seed n) ≡ None
unfolding drawn_draft drawn_nodes
drawn_defined seed n =
    let names = flat_map fanins_of (map (drawn_node seed) (range_with_len 0 n)) ++ drop (n - 16) (map out_of (drawn_nodes seed 0 n)) in
    let all = all_append_names (Contains (signal_names 0 (16 + n))) (flat_map fanins_of (map (drawn_node seed) (range_with_len 0 n))) (drop (n - 16) (map out_of (drawn_nodes seed 0 n)))
    (fanins_among seed (16 + n) 0 n (omega arith))
    (subst (AllByRecursion (Contains (signal_names 0 (16 + n)))) (sym (drawn_outputs seed n)) (names_among (16 + n) (16 + (n - 16)) (n - (n - 16)) (omega arith))) in
    ap (λ s. undefined_in s names) (drawn_signals seed n) ∙ all_defined (signal_names 0 (16 + n)) names all

pub drawn_no_cycle : (seed n : ℕ) → n ≤ most_nodes → HasNoCycle (drawn_draft seed n).nodes
unfolding drawn_draft
drawn_no_cycle seed n few = no_cycle seed n few

abbrev pub draft_with : List ℕ → List (List ℕ) → List (List ℕ) → List DraftNode → Draft
draft_with model inputs outputs nodes = record { model = model; inputs = inputs; outputs = outputs; nodes = nodes }

-- the parts of what is written
pub draft_is : (seed n inner : ℕ) (model : List ℕ) (inputs outputs : List (List ℕ)) (nodes : List DraftNode)
    → inner ≡ n - 16 → model ≡ codes "big" → inputs ≡ signal_names 0 16 → outputs ≡ signal_names (16 + inner) (n - inner) → nodes ≡ drawn_nodes seed 0 n
    → draft_with model inputs outputs nodes ≡ drawn_draft seed n
unfolding drawn_draft
draft_is seed n inner model inputs outputs nodes kept named given asked drawn =
    let last = asked ∙ (ap (λ k. signal_names (16 + k) (n - k)) kept ∙ sym (drawn_outputs seed n)) in
    ap₂ (λ m i. draft_with m i outputs nodes) named given ∙ ap₂ (λ o g. draft_with (codes "big") (signal_names 0 16) o g) last drawn

-- what may not be closed is told, and nothing of that kind is drawn
pub never_undefined : (seed n : ℕ) (draft : Draft) (name : List ℕ) → draft ≡ drawn_draft seed n → HasFault draft (Undefined name) → ⊥
never_undefined seed n draft name is fault =
    let none = drawn_defined seed n in
    let some = subst (λ (d : Draft). first_undefined d ≡ Some name) is fault in
    cc

pub never_cycle : (seed n : ℕ) (draft : Draft) (name : List ℕ) → n ≤ most_nodes → draft ≡ drawn_draft seed n → HasFault draft (Cycle name) → ⊥
never_cycle seed n draft name few is fault =
    drawn_no_cycle seed n few name (subst (λ (d : Draft). Reaches d.nodes name name) is fault.1.cycle)
