-- A node that is looked at.
use Rattle.std.proofs.Common.{◌≡◌, ℕ, ◌+◌, ◌<◌, List, [], ◌∷◌, length, length-append, drop, get_or, set, All, Contains, refl, ap, arith}
use Rattle.lw_dag.specs.declared.graph.SmallGraph.{SmallGraph}
use Rattle.lw_dag.specs.declared.levels.Search.{Search}
use Rattle.lw_dag.specs.Graphs.{fanins_at, height_at, tallest}
use Rattle.lw_dag.specs.Rising.{HasSettled, IsLevellingIn, IsRaised, WaitsFor, unknown}
use Rattle.lw_dag.proofs.Rising.{rising_waits, rising_placed, unknown-set}
use Rattle.lw_dag.proofs.Ordered.{ordered_placed}

module _ (graph : SmallGraph) (list : List ℕ) (at j : ℕ) where
  abbrev nodes : List (List ℕ)
  nodes = graph.nodes.now

  -- it waits for a fan-in without a height
  pub waits_settles : (s : ℕ) (old new : Search) → at < length list → j ≡ get_or list at 0 → j < length nodes → IsLevellingIn graph old (drop at list) → Contains (fanins_at nodes j) s → height_at old.heights.items s ≡ 0 → s < graph.inputs + length nodes → WaitsFor s j old new → HasSettled graph (drop (at + 1) list) old new
  waits_settles s old new place here node before among open_there within is = record {
    levelling = record {
      rising = rw (is.heights, is.waiting, is.ready) (rising_waits graph.inputs nodes old.heights.items old.waiting.items old.ready.items list at j place here node before.rising s _ among open_there within refl);
      ordered = rw (is.heights, is.order) before.ordered;
    };
    less = rw (is.heights, is.ready) (omega arith);
  }

  -- it is given its height
  pub raised_settles : (height : ℕ) (old new : Search) → at < length list → j ≡ get_or list at 0 → j < length nodes → IsLevellingIn graph old (drop at list) → height_at old.heights.items (graph.inputs + j) ≡ 0 → All (λ s. 0 < height_at old.heights.items s) (fanins_at nodes j) → height ≡ 1 + tallest old.heights.items (fanins_at nodes j) → IsRaised (graph.inputs + j) j height old new → HasSettled graph (drop (at + 1) list) old new
  raised_settles height old new place here node before none all own is = record {
    levelling = record {
      rising = rw (is.heights, is.waiting, is.ready) (rising_placed graph.inputs nodes old.heights.items old.waiting.items old.ready.items list at j height place here node before.rising none all own);
      ordered = rw (is.heights, is.order) (ordered_placed graph.inputs nodes old.heights.items old.order.items j height (graph.small.graph j) node within none some all before.ordered);
    };
    less = omega (arith, new.ready.ok.0, old.ready.ok.0, ap length is.ready, length-append old.ready.items ((graph.inputs + j) ∷ []), fewer, ap unknown is.heights);
  }
    where
      within : graph.inputs + j < length old.heights.items
      within = omega (arith, before.rising.known.one_each)

      some : 0 < height
      some = omega (arith, own)

      fewer : unknown (set old.heights.items (graph.inputs + j) height) + 1 ≡ unknown old.heights.items
      fewer = unknown-set old.heights.items (graph.inputs + j) height within none some
