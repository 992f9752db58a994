-- Nodes of which none reaches itself cannot fail to have depths.
use Rattle.std.proofs.Common.{ℕ, ◌+◌, ◌≡◌, List, length, map, Option, Some, None, slice_get, refl, ap, ◌∙◌, arith}
use Rattle.std.specs.List.{IsDistinct}
use Rattle.std.specs.Str.{bytes_eq}
use Rattle.std.proofs.lemmas.List.Elements.{All-from_recursion}
use Rattle.std.proofs.lemmas.Option.{slice_get_within}
use Rattle.lw_facts.proofs.Lists.{all_by_place, get_left, get_right}
use Rattle.lw_laws.proofs.Numbers.{slice_get_map}
use Rattle.lw_lut_text.proofs.ReadNames.{different_of}
use Rattle.lw_net.specs.declared.draft.Draft.{Draft}
use Rattle.lw_net.specs.declared.draft.DraftNode.{DraftNode}
use Rattle.lw_net.specs.Closing.{out_of, fanins_of, signals_of, Reaches, HasNoCycle, AreSignalDepths, greatest}
use Rattle.lw_net.specs.Closing.Reaches.{by_fanin, by_path}
use Rattle.lw_exists.specs.Weakly.{Weakly}
use Rattle.lw_exists.proofs.Weak.{weaker}
use Rattle.lw_exists.proofs.Ranks.{driver, driver_is, IsReaching, some_ranks, ranked_depths}

module _ (draft : Draft) (distinct : IsDistinct bytes_eq (signals_of draft)) where
  signals_apart : (i j : ℕ) (name : List ℕ) → slice_get (signals_of draft) i ≡ Some name → slice_get (signals_of draft) j ≡ Some name → i ≡ j
  signals_apart = different_of (signals_of draft) distinct

  outs_apart : (i j : ℕ) (name : List ℕ) → slice_get (map out_of draft.nodes) i ≡ Some name → slice_get (map out_of draft.nodes) j ≡ Some name → i ≡ j
  outs_apart i j name e f =
      let same = signals_apart (length draft.inputs + i) (length draft.inputs + j) name (get_right draft.inputs (map out_of draft.nodes) i name e) (get_right draft.inputs (map out_of draft.nodes) j name f) in
      omega arith

  -- no node drives an input
  no_driver : (i : ℕ) (name : List ℕ) → slice_get draft.inputs i ≡ Some name → driver out_of name draft.nodes ≡ None
  no_driver i name at = by_driver (driver out_of name draft.nodes) refl
    where
      by_driver : (o : Option DraftNode) → driver out_of name draft.nodes ≡ o → driver out_of name draft.nodes ≡ None
      by_driver None e = e
      by_driver (Some other) e =
          let (k, there, o) = driver_is out_of draft.nodes name other e in
          let same = signals_apart i (length draft.inputs + k) name (get_left draft.inputs (map out_of draft.nodes) i name at) (get_right draft.inputs (map out_of draft.nodes) k name (slice_get_map out_of draft.nodes k other there ∙ ap Some o)) in
          let lt = slice_get_within draft.inputs i name at in
          absurd (omega arith)

  module _ (no_cycle : HasNoCycle draft.nodes) where
    reaching : IsReaching out_of fanins_of draft.nodes (Reaches draft.nodes)
    reaching = record {
      one = λ node q among on. by_fanin node among refl on;
      more = λ node q r among on path. by_path node among refl on path;
      none = no_cycle;
      apart = outs_apart;
    }

    pub some_depths : Weakly ((depth : List ℕ → ℕ) × AreSignalDepths draft depth)
    some_depths =
        weaker (λ (rank, ranks).
        let (depth, (deep, flat)) = ranked_depths out_of fanins_of (λ node. 1) draft.nodes (Reaches draft.nodes) reaching rank ranks in (
          depth,
          record {
            inputs = All-from_recursion (λ (name : List ℕ). depth name ≡ 0) draft.inputs (all_by_place (λ (name : List ℕ). depth name ≡ 0) draft.inputs (λ i name at. flat name (no_driver i name at)));
            nodes = All-from_recursion (λ (node : DraftNode). depth node.out ≡ 1 + greatest (map depth node.fanins)) draft.nodes (all_by_place (λ (node : DraftNode). depth node.out ≡ 1 + greatest (map depth node.fanins)) draft.nodes deep);
          },
        )) (some_ranks out_of fanins_of draft.nodes (Reaches draft.nodes) reaching)
