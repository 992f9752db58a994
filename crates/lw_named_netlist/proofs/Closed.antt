-- A draft whose gates were put in order by depth, and what it is closed to.
use Rattle.std.proofs.Common.{◌≡◌, ℕ, ◌+◌, ◌-◌, ◌<◌, ◌≤◌, List, length, take, drop, get_or, Contains, All, sym, ap, ap₂, subst, ◌∙◌, arith}
use Rattle.std.proofs.lemmas.List.{get_or_default, get_or-drop, get_or-take, length-drop, length-take-le}
use Rattle.std.specs.List.{IsDistinct, range_with_len}
use Rattle.std.specs.List.Sorted.{IsPermutation, IsNonDecreasingBy}
use Rattle.std.specs.Str.{bytes_eq}
use Rattle.lw_dag.specs.Ordering.{AreKeys, by_key}
use Rattle.lw_genlib.specs.Cells.{CellParts}
use Rattle.lw_named_netlist.specs.declared.draft.DraftGate.{DraftGate}
use Rattle.lw_named_netlist.specs.declared.draft.GateDraft.{GateDraft}
use Rattle.lw_named_netlist.specs.declared.graph.Graph.{Graph}
use Rattle.lw_named_netlist.specs.Closing.{IsClosed, IsGateDraft, IsNetNamed, by_depth, drivers, netlist_in}
use Rattle.lw_netlist.specs.Netlists.{IsNetlist, NetlistParts}
use Rattle.lw_named_netlist.specs.Ordering.{AreRight, TellDepths, net_by, start_in}
use Rattle.lw_named_netlist.specs.Placing.{IsMadeOf, IsPlaced, gates_at, names_at}
use Rattle.lw_netlist.specs.Plain.{IsOver}
use Rattle.lw_named_netlist.proofs.Names.{once_distinct}
use Rattle.lw_named_netlist.proofs.Paths.{many}
use Rattle.lw_named_netlist.proofs.Starting.{bare_gate, links_many}
use Rattle.lw_named_netlist.proofs.Places.{order_moved, places_many, places_within, order_rising, order_sorted}
use Rattle.lw_named_netlist.proofs.Assembled.{ordered_distinct, ordered_few, nets_are, outputs_driven, ordered_netlist, ordered_over, starts_among}

-- the depths of the gates among those of all names
pub slice_is : (draft : GateDraft) (depths all : List ℕ) (first n : ℕ) → first ≡ length draft.inputs → n ≡ length draft.gates → all ≡ depths → take (first + n - first) (drop first all) ≡ take (length draft.gates) (drop (length draft.inputs) depths)
slice_is draft depths all first n at many same =
    let e : first + n - first ≡ length draft.gates = omega arith in
    ap (λ k. take k (drop first all)) e ∙ ap₂ (λ k l. take (length draft.gates) (drop k l)) at same

module _ (draft : GateDraft) (graph : Graph) (made : IsMadeOf draft graph) (depths starts : List ℕ) (right : AreRight draft depths starts) (slice : List ℕ) (sliced : slice ≡ take (length draft.gates) (drop (length draft.inputs) depths)) where
  abbrev g : ℕ
  g = length draft.gates

  abbrev m : ℕ
  m = length draft.inputs

  abbrev keys : List (List ℕ)
  keys = graph.signals

  once : IsDistinct bytes_eq (drivers draft)
  once = once_distinct (drivers draft) made.graph.once

  room : m + g ≤ length depths
  room = omega (arith, right.depths_each, many draft once made.graph.known, links_many draft)

  pub slice_length : g ≡ length slice
  slice_length = sym (ap length sliced ∙ length-take-le g (drop m depths) (omega (arith, length-drop m depths, room)))

  slice_at : (k : ℕ) → k < g → get_or slice k 0 ≡ get_or depths (m + k) 0
  slice_at k lt = ap (λ l. get_or l k 0) sliced ∙ (get_or-take g (drop m depths) k 0 lt ∙ get_or-drop m depths k 0)

  slice_tells : TellDepths slice draft.gates right.depth
  slice_tells k d lt = slice_at k lt ∙ right.told k d lt

  pub slice_least : All (λ d. 1 ≤ d) slice
  slice_least k d lt =
      let inside : k < g = omega (arith, slice_length) in
      let deep = right.right.gates k bare_gate inside in
      subst (λ n. 1 ≤ n) (get_or_default slice k 0 d lt) (omega (arith, slice_tells k bare_gate inside, deep))

  module _ (cells : List CellParts) (is : IsGateDraft cells draft) (all places : List ℕ) (ranged : all ≡ range_with_len 0 (length draft.gates)) (moved : IsPermutation all places) (up : (key : ℕ → ℕ) → AreKeys slice all key → IsNonDecreasingBy key places) where
    abbrev order : List DraftGate
    order = gates_at draft.gates places

    gates_moved : IsPermutation draft.gates order
    gates_moved = order_moved draft.gates all places ranged moved

    rising : IsNonDecreasingBy (λ (gate : DraftGate). right.depth gate.out) order
    rising = order_rising draft.gates all places ranged moved slice right.depth slice_tells up

    abbrev Net : List (List ℕ) → List ℕ → ℕ
    Net names = net_by names starts (names_at draft places)

    pub is_placed : IsPlaced draft graph starts places
    is_placed = record {
      made = made;
      many = places_many draft.gates all places ranged moved;
      within = places_within draft.gates all places ranged moved;
      distinct = ordered_distinct draft depths starts order once is.few made.graph.known made.graph.none right gates_moved rising;
      few = ordered_few draft depths starts order once is.few made.graph.known made.graph.none right gates_moved rising;
      starts_each = right.starts_each ∙ ap length (sym made.graph.names);
      below = subst (λ l. All (λ s. s < length l) starts) (sym made.graph.names) right.below;
      started = subst (λ l. (name : List ℕ) → Contains l name → Contains (names_at draft places) (start_in l starts name)) (sym made.graph.names) (starts_among draft depths starts order once is.few made.graph.known made.graph.none right gates_moved rising);
      outputs = subst (λ l. All (Contains l) draft.outputs) (sym made.graph.names) (outputs_driven draft depths starts order once is.few made.graph.known made.graph.none right gates_moved rising);
      kept = subst (λ l. IsNetlist (netlist_in draft order (Net l))) (sym made.graph.names) (ordered_netlist draft depths starts order once is.few made.graph.known made.graph.none right gates_moved rising);
    }

    -- what was made of it
    module _ (parts : NetlistParts) (are : parts ≡ netlist_in draft order (Net keys)) where
      ordered_parts : parts ≡ netlist_in draft order (Net (drivers draft))
      ordered_parts = are ∙ ap (λ l. netlist_in draft order (Net l)) made.graph.names

      pub is_closed : ((key : ℕ → ℕ) → AreKeys slice all key → places ≡ by_key key all) → IsClosed draft parts
      is_closed sorted =
          let by : order ≡ by_depth right.depth draft.gates = order_sorted draft.gates all places ranged moved slice right.depth slice_tells sorted in
          record {
            once = made.graph.once;
            driven = made.graph.none;
            no_cycle = right.no_cycle;
            depth = right.depth;
            depths = right.right;
            net = Net (drivers draft);
            nets = λ name among. subst (λ o. IsNetNamed draft o name (Net (drivers draft) name)) by (nets_are draft depths starts order once is.few made.graph.known made.graph.none right gates_moved rising name among);
            are = ordered_parts ∙ ap (λ o. netlist_in draft o (Net (drivers draft))) by;
          }

      pub is_over : IsOver cells parts
      is_over = subst (IsOver cells) (sym ordered_parts) (ordered_over draft depths starts order once is.few made.graph.known made.graph.none right gates_moved rising cells is.gates)
