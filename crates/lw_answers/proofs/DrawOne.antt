-- A drawn network comes to one thing.
use Rattle.std.proofs.Common.{◌≡◌, ℕ, List, length, All, Option, Result, Ok, Err, ap, ap₂, sym, subst, subst₂, ◌∙◌, arith}
use mathlib.Core.Path.{fun_ext}
use Rattle.std.proofs.lemmas.List.Elements.{All-replicate}
use Rattle.lw_laws.specs.Choices.{Labels}
use Rattle.lw_laws.specs.Graphs.{Graph}
use Rattle.lw_laws.specs.Matches.{IsLeastCover}
use Rattle.lw_laws.specs.Rounds.{labels_in}
use Rattle.lw_laws.proofs.NetlistOnce.{least_cover_once}
use Rattle.lw_laws.specs.Netlists.{AreArrivals}
use Rattle.lw_laws.proofs.NetlistValues.{arrivals_once}
use Rattle.lw_net.specs.Networks.{NetworkParts}
use Rattle.lw_genlib.specs.Cells.{CellParts, IsLibrary, IsSmall}
use Rattle.lw_genlib.specs.Tables.{timing_of}
use Rattle.lw_pattern.specs.Libraries.{library_patterns}
use Rattle.lw_label.specs.Delays.{time_cost}
use Rattle.lw_settle.specs.Steps.{AreSteps}
use Rattle.lw_settle.proofs.Steps.{counts_once}
use Rattle.lw_named_netlist.specs.Closing.{greatest}
use Rattle.lw_netlist.specs.Netlists.{NetlistParts}
use Rattle.lw_netlist.specs.Plain as netlist
use Rattle.lw_report.specs.Timings.{output_arrivals}
use Rattle.lw_report.proofs.Once.{ordered}
use Rattle.lw_big.specs.Generated.{IsGenerated, drawn_draft}
use Rattle.lw_big.proofs.Kept.{generated_kept}
use Rattle.lw_map.specs.Options.{IsWide}
use Rattle.lw_map.specs.Mapped.{IsMappedNetlist}
use Rattle.lw_map.proofs.Once.{mapped_once}
use Rattle.lw_top.specs.declared.refusal.Refusal.{Refusal}
use Rattle.lw_files.specs.Steps.{Files}
use Rattle.lw_top.specs.Words.{IsCount}
use Rattle.lw_top.specs.Maps.{LacksMapping}
use Rattle.lw_top.specs.Counts.{drawing_options, at_once, sizes_text, IsSizeText, Draws}
use Rattle.lw_answers.proofs.Closed.{network_one}
use Rattle.lw_answers.proofs.CheckOne.{graph_one}
use Rattle.lw_top.proofs.MapAnswers.{lack_one, not_both}

pub drawing_wide : IsWide drawing_options
drawing_wide = record { least = omega arith; most = omega arith }

-- all inputs start at 0, which is early
pub at_once_small : (net : NetworkParts) → All IsSmall (at_once net.inputs)
at_once_small net = All-replicate IsSmall net.inputs (record { 0 = 0 }) (omega arith)

module _ (seed count : ℕ) (cells : List CellParts) (few : IsCount count) (lib : IsLibrary cells) where
  one_net : (net other : NetworkParts) → IsGenerated seed count net → IsGenerated seed count other → net ≡ other
  one_net net other p q = network_one (drawn_draft seed count) net other p q

  -- the text of these sizes
  abbrev sizes_of : ℕ → ℕ → ℕ → Option ℕ → List ℕ
  sizes_of classes gates latest steps = sizes_text (record { nodes = count; classes = classes; gates = gates; latest = record { 0 = latest }; steps = steps })

  says_sizes : (net : NetworkParts) (text : List ℕ) → (a : IsSizeText seed count cells net text) → text ≡ sizes_of (length a.are.is_mapped.is.graph.pairs) (length a.are.netlist.gates) (greatest (output_arrivals a.are.netlist a.are.arrivals)) a.sizes.steps
  says_sizes net text a =
      let s = a.sizes in
      let by_nodes = subst (λ (n : ℕ). text ≡ sizes_text (record { nodes = n; classes = s.classes; gates = s.gates; latest = s.latest; steps = s.steps })) a.are.nodes a.says in
      let by_classes = subst (λ (n : ℕ). text ≡ sizes_of n s.gates s.latest.0 s.steps) a.are.classes by_nodes in
      let by_gates = subst (λ (n : ℕ). text ≡ sizes_of (length a.are.is_mapped.is.graph.pairs) n s.latest.0 s.steps) a.are.gates by_classes in
      subst (λ (n : ℕ). text ≡ sizes_of (length a.are.is_mapped.is.graph.pairs) (length a.are.netlist.gates) n s.steps) a.are.latest by_gates

  -- this netlist is mapped to, with these arrivals, and the text says its sizes
  abbrev Says : NetworkParts → List ℕ → List ℕ → Option ℕ → NetlistParts → Type 0
  Says net text ds steps n =
      (p : IsMappedNetlist drawing_options cells net (at_once net.inputs) n) × AreArrivals (timing_of cells (at_once net.inputs)) (netlist.plain n) ds
      × AreSteps p.is.graph (library_patterns cells) (labels_in p.is.labels) steps
      × (text ≡ sizes_of (length p.is.graph.pairs) (length n.gates) (greatest (output_arrivals n ds)) steps)

  -- over one graph the labels are the same
  labels_once : (net : NetworkParts) (n : NetlistParts) (p q : IsMappedNetlist drawing_options cells net (at_once net.inputs) n) → q.is.graph ≡ p.is.graph → labels_in q.is.labels ≡ labels_in p.is.labels
  labels_once net n p q same =
      fun_ext (λ c. least_cover_once p.is.graph (library_patterns cells) (time_cost cells (at_once net.inputs)) c (labels_in q.is.labels c) (labels_in p.is.labels c)
      (subst (λ (g : Graph). IsLeastCover g (library_patterns cells) (time_cost cells (at_once net.inputs)) c (labels_in q.is.labels c)) same (q.is.least c)) (p.is.least c))

  sizes_once : (net : NetworkParts) (text other : List ℕ) → IsSizeText seed count cells net text → IsSizeText seed count cells net other → text ≡ other
  sizes_once net text other a b =
      let x = a.are in
      let y = b.are in
      let same = mapped_once drawing_options cells net (at_once net.inputs) drawing_wide y.netlist x.netlist y.is_mapped x.is_mapped in
      let (q, arrive, read, says) = subst (Says net other y.arrivals b.sizes.steps) same (y.is_mapped, y.arrive, y.steps, says_sizes net other b) in
      let graph = graph_one drawing_options net drawing_wide x.is_mapped.is.graph q.is.graph x.is_mapped.is.is_graph q.is.is_graph in
      let times = arrivals_once (netlist.plain x.netlist) (ordered x.netlist x.is_mapped.kept) (timing_of cells (at_once net.inputs)) x.arrivals y.arrivals x.arrive arrive in
      let labels = labels_once net x.netlist x.is_mapped q (sym graph) in
      let steps = counts_once x.is_mapped.is.graph (library_patterns cells) (labels_in x.is_mapped.is.labels) a.sizes.steps b.sizes.steps x.steps (subst₂ (λ (g : Graph) (ls : Labels). AreSteps g (library_patterns cells) ls b.sizes.steps) (sym graph) labels read) in
      says_sizes net text a ∙ (ap₂ (λ (g : Graph) (ds : List ℕ). sizes_of (length g.pairs) (length x.netlist.gates) (greatest (output_arrivals x.netlist ds)) a.sizes.steps) graph times
      ∙ (ap (sizes_of (length q.is.graph.pairs) (length x.netlist.gates) (greatest (output_arrivals x.netlist y.arrivals))) steps ∙ sym says))

  -- what is drawn is this network, and it comes to this
  abbrev DrawsAs : NetworkParts → Result (List ℕ) Refusal → Type 0
  DrawsAs net (Ok text) = IsSizeText seed count cells net text
  DrawsAs net (Err r) = LacksMapping drawing_options cells net (at_once net.inputs) r

  drawn_as : (files : Files) (a : Result (List ℕ) Refusal) → Draws seed count cells files a → (net : NetworkParts) × IsGenerated seed count net × DrawsAs net a
  drawn_as files (Ok text) (net, p) = (net, p.generated, p)
  drawn_as files (Err r) (net, generated, p) = (net, generated, p)

  draws_by : (net : NetworkParts) → IsGenerated seed count net → (a b : Result (List ℕ) Refusal) → DrawsAs net a → DrawsAs net b → a ≡ b
  draws_by net g (Ok s) (Ok t) p q = ap (λ (z : List ℕ). Ok z) (sizes_once net s t p q)
  draws_by net g (Ok s) (Err r) p q = absurd (not_both drawing_options cells net (at_once net.inputs) drawing_wide (generated_kept seed count net few.most g) (at_once_small net) lib p.are.within p.are.netlist p.are.is_mapped r q)
  draws_by net g (Err r) (Ok t) p q = absurd (not_both drawing_options cells net (at_once net.inputs) drawing_wide (generated_kept seed count net few.most g) (at_once_small net) lib q.are.within q.are.netlist q.are.is_mapped r p)
  draws_by net g (Err r) (Err s) p q = ap (λ (z : Refusal). Err z) (lack_one drawing_options cells net (at_once net.inputs) drawing_wide r s p q)

  pub draws_one : (files : Files) (a b : Result (List ℕ) Refusal) → Draws seed count cells files a → Draws seed count cells files b → a ≡ b
  draws_one files a b p q =
      let (net, g, d) = drawn_as files a p in
      let (other, h, e) = drawn_as files b q in
      draws_by net g a b d (subst (λ (n : NetworkParts). DrawsAs n b) (one_net other net h g) e)
