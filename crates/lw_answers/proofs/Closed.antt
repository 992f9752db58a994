-- A draft is closed to one network, or has one fault.
use Rattle.std.proofs.Common.{◌≡◌, ◌⊎◌, inl, inr, ℕ, zero, suc, ◌+◌, ◌<◌, ◌≤◌, ◌==◌, max, Bool, true, false, not, cond, List, [], ◌∷◌, ◌++◌, map, filter, get_or, Option, Some, None, Result, Ok, Err, All, refl, sym, ap, ap₂, ◌∙◌, arith}
use Rattle.std.specs.Prelude.{slice_get}
use Rattle.std.specs.List.{AllByRecursion, flat_map, range_with_len}
use Rattle.std.proofs.lemmas.Bool.{cases_lt}
use Rattle.std.proofs.lemmas.List.Elements.{All-append, All-map, All-contains, All-from_recursion, recursion_from_All}
use Rattle.lw_net.specs.declared.draft.Draft.{Draft}
use Rattle.lw_net.specs.declared.draft.DraftNode.{DraftNode}
use Rattle.lw_net.specs.Networks.{NetworkParts}
use Rattle.lw_net.specs.Closing.{out_of, fanins_of, signals_of, is_among, undefined_in, first_undefined, IsFirstOnCycle, greatest, AreSignalDepths, by_depth, network_in, IsClosed}
use Rattle.lw_net.specs.declared.fault.NetFault.TheVariants as whole
use Rattle.lw_blif.specs.declared.fault.BlifFault.TheVariants as fault
use Rattle.lw_blif.specs.LineFaults.{FaultAt, first_fault, lines_read}
use Rattle.lw_blif.specs.Drafts.{draft_of}
use Rattle.lw_fixed.specs.declared.micro.Micro.{Micro}
use Rattle.lw_pool.specs.declared.latch.Frame.{Frame}
use Rattle.lw_words.specs.Lines.{LogicalLine}
use Rattle.lw_blif.specs.declared.parsed.Parsed.{Parsed}
use Rattle.lw_blif.specs.BlifNetworks.{IsModelOf, ComesTo}
use Rattle.lw_files.specs.declared.fault.FileFault.{FileFault}
use Rattle.lw_files.specs.declared.fault.FileFault.TheVariants.{Network, Undefined, Cycle}
use Rattle.lw_files.specs.Steps.{Files}
use Rattle.lw_files.specs.Sources.{lines_in, HasModel}
use Rattle.lw_dag.proofs.Numbering.{among_contains}

-- Names that are driven

abbrev pub AreAmong : List (List ℕ) → List (List ℕ) → Type 0
AreAmong signals names = AllByRecursion (λ name. is_among signals name ≡ true) names

all_among : (signals names : List (List ℕ)) → undefined_in signals names ≡ None → AreAmong signals names
all_among signals [] e = tt
all_among signals (name ∷ names) e = by_test (is_among signals name) refl e (all_among signals names)
  where
    by_test : (b : Bool) → is_among signals name ≡ b → cond (not b) (Some name) (undefined_in signals names) ≡ None → (undefined_in signals names ≡ None → AreAmong signals names) → AreAmong signals (name ∷ names)
    by_test true is e rest = (is, rest e)
    by_test false is e rest = cc

pub all_parts : (P : List ℕ → Type 0) (xs ys : List (List ℕ)) → AllByRecursion P (xs ++ ys) → AllByRecursion P xs × AllByRecursion P ys
all_parts P [] ys all = (tt, all)
all_parts P (x ∷ xs) ys all = let rest = all_parts P xs ys all.1 in ((all.0, rest.0), rest.1)

fanins_among : (signals : List (List ℕ)) (nodes : List DraftNode) → AreAmong signals (flat_map fanins_of nodes) → AllByRecursion (λ (node : DraftNode). AreAmong signals node.fanins) nodes
fanins_among signals [] all = tt
fanins_among signals (node ∷ nodes) all =
    let parts = all_parts (λ name. is_among signals name ≡ true) node.fanins (flat_map fanins_of nodes) all in
    (parts.0, fanins_among signals nodes parts.1)

-- each fan-in is a signal
pub driven : (draft : Draft) → first_undefined draft ≡ None → All (λ (node : DraftNode). AreAmong (signals_of draft) node.fanins) draft.nodes
driven draft defined =
    let all = all_among (signals_of draft) (flat_map fanins_of draft.nodes ++ draft.outputs) defined in
    let parts = all_parts (λ name. is_among (signals_of draft) name ≡ true) (flat_map fanins_of draft.nodes) draft.outputs all in
    All-from_recursion (λ (node : DraftNode). AreAmong (signals_of draft) node.fanins) draft.nodes (fanins_among (signals_of draft) draft.nodes parts.0)

-- Two depths of one draft

module _ (draft : Draft) (depth other : List ℕ → ℕ) (depths : AreSignalDepths draft depth) (others : AreSignalDepths draft other) (defined : first_undefined draft ≡ None) where
  -- they agree at the names of this depth at most
  abbrev Agree : ℕ → List ℕ → Type 0
  Agree n name = depth name ≤ n → depth name ≡ other name

  same_fanins : (n : ℕ) (names : List (List ℕ)) → All (Agree n) (signals_of draft) → AreAmong (signals_of draft) names → greatest (map depth names) ≤ n → map depth names ≡ map other names
  same_fanins n [] all among le = refl
  same_fanins n (name ∷ names) all among le =
      ap₂ (λ x xs. x ∷ xs)
      (All-contains (Agree n) (signals_of draft) name all (among_contains (signals_of draft) name among.0) (omega arith))
      (same_fanins n names all among.1 (omega arith))

  signals_agree : (n : ℕ) → All (λ (node : DraftNode). Agree n node.out) draft.nodes → All (Agree n) (signals_of draft)
  signals_agree n all =
      All-append (Agree n) draft.inputs (map out_of draft.nodes)
      (λ k d lt le. depths.inputs k d lt ∙ sym (others.inputs k d lt))
      (All-map (Agree n) out_of draft.nodes all)

  nodes_agree : (n : ℕ) → All (λ (node : DraftNode). Agree n node.out) draft.nodes
  nodes_agree zero = λ k d lt le. absurd (omega (arith, depths.nodes k d lt))
  nodes_agree (suc n) = next (signals_agree n (nodes_agree n))
    where
      next : All (Agree n) (signals_of draft) → All (λ (node : DraftNode). Agree (suc n) node.out) draft.nodes
      next all =
          λ k d lt le.
          depths.nodes k d lt
          ∙ (ap (λ l. 1 + greatest l) (same_fanins n (get_or draft.nodes k d).fanins all (driven draft defined k d lt) (omega (arith, le, depths.nodes k d lt)))
          ∙ sym (others.nodes k d lt))

  same_depths : AllByRecursion (λ (node : DraftNode). depth node.out ≡ other node.out) draft.nodes
  same_depths =
      recursion_from_All (λ (node : DraftNode). depth node.out ≡ other node.out) draft.nodes
      (λ k d lt. nodes_agree (depth (get_or draft.nodes k d).out) k d lt (omega arith))

  same_at : (d : ℕ) (nodes : List DraftNode) → AllByRecursion (λ (node : DraftNode). depth node.out ≡ other node.out) nodes → filter (λ (node : DraftNode). depth node.out == d) nodes ≡ filter (λ (node : DraftNode). other node.out == d) nodes
  same_at d [] all = refl
  same_at d (node ∷ nodes) all =
      ap₂ (λ n l. cond (n == d) (node ∷ l) l) all.0 (same_at d nodes all.1)

  same_greatest : (nodes : List DraftNode) → AllByRecursion (λ (node : DraftNode). depth node.out ≡ other node.out) nodes → greatest (map (λ (node : DraftNode). depth node.out) nodes) ≡ greatest (map (λ (node : DraftNode). other node.out) nodes)
  same_greatest [] all = refl
  same_greatest (node ∷ nodes) all = ap₂ max all.0 (same_greatest nodes all.1)

  same_order : by_depth depth draft.nodes ≡ by_depth other draft.nodes
  same_order =
      same_flat (range_with_len 1 (greatest (map (λ (node : DraftNode). depth node.out) draft.nodes)))
      ∙ ap (λ m. flat_map (λ d. filter (λ (node : DraftNode). other node.out == d) draft.nodes) (range_with_len 1 m)) (same_greatest draft.nodes same_depths)
    where
      same_flat : (ds : List ℕ) → flat_map (λ d. filter (λ (node : DraftNode). depth node.out == d) draft.nodes) ds ≡ flat_map (λ d. filter (λ (node : DraftNode). other node.out == d) draft.nodes) ds
      same_flat [] = refl
      same_flat (d ∷ ds) = ap₂ (λ xs ys. xs ++ ys) (same_at d draft.nodes same_depths) (same_flat ds)

pub network_one : (draft : Draft) (net other : NetworkParts) → IsClosed draft net → IsClosed draft other → net ≡ other
network_one draft net other c d = c.network ∙ (ap (network_in draft) (same_order draft c.depth d.depth c.depths d.depths c.defined) ∙ sym d.network)

-- The first node on a cycle

first_one : (nodes : List DraftNode) (name other : List ℕ) → IsFirstOnCycle nodes name → IsFirstOnCycle nodes other → name ≡ other
first_one nodes name other f g = by_place (cases_lt f.place g.place) (cases_lt g.place f.place)
  where
    by_place : (f.place < g.place) ⊎ (g.place ≤ f.place) → (g.place < f.place) ⊎ (f.place ≤ g.place) → name ≡ other
    by_place (inl before) p = absurd (g.first f.place name before f.named f.cycle)
    by_place (inr ge) (inl behind) = absurd (f.first g.place other behind g.named g.cycle)
    by_place (inr ge) (inr le) =
        let same : f.place ≡ g.place = omega arith in
        let both : ◌≡◌ {A = Option (List ℕ)} (Some name) (Some other) = sym f.named ∙ (ap (slice_get (map out_of nodes)) same ∙ g.named) in
        cc

-- What a text comes to

parsed_of : NetworkParts → Frame → List Micro → Parsed
parsed_of net frame starts = record { network = net; frame = frame; starts = starts }

-- the model of lines is one
model_one : (lines : List LogicalLine) (model other : Parsed) → IsModelOf lines model → IsModelOf lines other → model ≡ other
unfolding parsed_of
model_one lines model other c d =
    ap₂ (λ (n : NetworkParts) (f : Frame). parsed_of n f model.starts) (network_one (draft_of lines) model.network other.network c.network d.network) (c.frame ∙ sym d.frame)
    ∙ ap (λ (s : List Micro). parsed_of other.network other.frame s) (c.starts ∙ sym d.starts)

-- the first line that breaks a rule, or what the lines are closed to
abbrev Closes : Option FaultAt → List LogicalLine → Result Parsed FileFault → Type 0
Closes first lines (Ok model) = ComesTo first lines (Ok model)
Closes first lines (Err (Network line kind)) = ComesTo first lines (Err (fault.Line line kind))
Closes first lines (Err (Undefined name)) = ComesTo first lines (Err (fault.Whole (whole.Undefined name)))
Closes first lines (Err (Cycle name)) = ComesTo first lines (Err (fault.Whole (whole.Cycle name)))
Closes first lines (Err other) = ⊥

module _ (lines : List LogicalLine) where
  net_one : (model : Parsed) (a : Result Parsed FileFault) → IsModelOf lines model → Closes None lines a → Ok model ≡ a
  net_one model (Ok other) c d = ap (λ n. Ok n) (model_one lines model other c d)
  net_one model (Err (Undefined name)) c d = let is : None ≡ Some name = sym c.network.defined ∙ d in cc
  net_one model (Err (Cycle name)) c d = absurd (c.network.no_cycle name d.1.cycle)
  net_one model (Err other) c d = absurd d

  undefined_one : (name : List ℕ) (a : Result Parsed FileFault) → first_undefined (draft_of lines) ≡ Some name → Closes None lines a → Err (Undefined name) ≡ a
  undefined_one name (Ok model) c d = let is : None ≡ Some name = sym d.network.defined ∙ c in cc
  undefined_one name (Err (Undefined other)) c d = let is : Some name ≡ Some other = sym c ∙ d in cc
  undefined_one name (Err (Cycle other)) c d = let is : None ≡ Some name = sym d.0 ∙ c in cc
  undefined_one name (Err other) c d = absurd d

  cycle_one : (name : List ℕ) (a : Result Parsed FileFault) → first_undefined (draft_of lines) ≡ None → IsFirstOnCycle (draft_of lines).nodes name → Closes None lines a → Err (Cycle name) ≡ a
  cycle_one name (Ok model) none c d = absurd (d.network.no_cycle name c.cycle)
  cycle_one name (Err (Undefined other)) none c d = let is : None ≡ Some other = sym none ∙ d in cc
  cycle_one name (Err (Cycle other)) none c d = ap (λ n. Err (Cycle n)) (first_one (draft_of lines).nodes name other c d.1)
  cycle_one name (Err other) none c d = absurd d

  closes_one : (a b : Result Parsed FileFault) → Closes None lines a → Closes None lines b → a ≡ b
  closes_one (Ok model) b c d = net_one model b c d
  closes_one (Err (Undefined name)) b c d = undefined_one name b c d
  closes_one (Err (Cycle name)) b c d = cycle_one name b c.0 c.1 d
  closes_one (Err other) b c d = absurd c

  line_one : (first : FaultAt) (a b : Result Parsed FileFault) → Closes (Some first) lines a → Closes (Some first) lines b → a ≡ b
  line_one first (Err (Network line kind)) (Err (Network l k)) c d = ap (λ (f : FaultAt). Err (Network f.number f.kind)) (sym c ∙ d)
  line_one first (Err (Network line kind)) (Ok model) c d = absurd d
  line_one first (Err (Network line kind)) (Err other) c d = absurd d
  line_one first (Ok model) b c d = absurd c
  line_one first (Err other) b c d = absurd c

  comes_one : (first : Option FaultAt) (a b : Result Parsed FileFault) → Closes first lines a → Closes first lines b → a ≡ b
  comes_one None a b c d = closes_one a b c d
  comes_one (Some first) a b c d = line_one first a b c d

closes : (bytes : List ℕ) (files : Files) (a : Result Parsed FileFault) → HasModel bytes files a → Closes (first_fault [] (lines_read (lines_in bytes))) (lines_read (lines_in bytes)) a
closes bytes files (Ok model) c = c
closes bytes files (Err (Network line kind)) c = c
closes bytes files (Err (Undefined name)) c = c
closes bytes files (Err (Cycle name)) c = c
closes bytes files (Err other) c = absurd c

-- the model of a text is one, and so is its fault
pub has_one_model : (bytes : List ℕ) (files : Files) (a b : Result Parsed FileFault) → HasModel bytes files a → HasModel bytes files b → a ≡ b
has_one_model bytes files a b c d =
    comes_one (lines_read (lines_in bytes)) (first_fault [] (lines_read (lines_in bytes))) a b (closes bytes files a c) (closes bytes files b d)
