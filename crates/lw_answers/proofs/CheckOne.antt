-- A check comes to one thing, and so do the counts of a network's graph and of a drawn network.
use Rattle.std.proofs.Common.{◌≡◌, ℕ, List, [], ◌∷◌, length, Result, Ok, Err, refl, ap, ap₂, sym, subst, ◌∙◌, arith}
use Rattle.lw_pool.specs.declared.id.ClassId.{ClassId}
use Rattle.lw_laws.specs.Graphs.{Graph}
use Rattle.lw_laws.specs.Classes.{IsGraphOf}
use Rattle.lw_laws.specs.Listings.{listing_of}
use Rattle.lw_laws.specs.MappedNetlists.{root_classes}
use Rattle.lw_laws.proofs.ClassLaws.{graphs_once}
use Rattle.lw_laws.proofs.Listed.{occurring_is_listing}
use Rattle.lw_net.specs.Networks.{NetworkParts}
use Rattle.lw_net.specs.Plain as network
use Rattle.lw_genlib.specs.Cells.{CellParts}
use Rattle.lw_pattern.specs.Libraries.{library_patterns}
use Rattle.lw_blif.specs.declared.parsed.Parsed.{Parsed}
use Rattle.lw_mapped.specs.declared.closing.Mapped.{Mapped as MappedParts}
use Rattle.lw_mapped.specs.Alike.{AreSameMapped}
use Rattle.lw_check.specs.declared.verdict.Verdict.{Verdict}
use Rattle.lw_check.specs.declared.verdict.Verdict.TheVariants as verdict
use Rattle.lw_check.specs.Mappings.{IsKept}
use Rattle.lw_check.specs.Verdicts.{IsVerdict, claim}
use Rattle.lw_check.proofs.Agreeing.{verdicts_agree}
use Rattle.lw_map.specs.Options.{Options, IsWide}
use Rattle.lw_map.specs.Mapped.{base_count, IsWithinLimits}
use Rattle.lw_top.specs.declared.refusal.Refusal.{Refusal}
use Rattle.lw_top.specs.declared.refusal.Refusal.TheVariants.{Forms, Splits, No}
use Rattle.lw_files.specs.Steps.{Files}
use Rattle.lw_top.specs.Maps.{LacksGraph}
use Rattle.lw_top.specs.Checks.{HasVerdict, Checks}
use Rattle.lw_top.specs.Answers.{AreAlike}
use Rattle.lw_top.specs.Tables.{Tabulates}
use Rattle.lw_top.specs.Counts.{pair_total, counts_text, Counts, IsCountText}
use Rattle.lw_pool.specs.Numbers.{numbers}
use Rattle.lw_net.specs.Ports.{ports_of}

numbers_back : (xs ys : List ClassId) → numbers xs ≡ numbers ys → xs ≡ ys
numbers_back [] [] e = refl
numbers_back [] (y ∷ ys) e = cc
numbers_back (x ∷ xs) [] e = cc
numbers_back (x ∷ xs) (y ∷ ys) e =
    let head : x.0 ≡ y.0 = cc in
    let tail : numbers xs ≡ numbers ys = cc in
    let f : ℕ → ClassId = λ n. record { 0 = n } in
    ap₂ (λ (z : ClassId) (zs : List ClassId). z ∷ zs) (ap f head) (numbers_back xs ys tail)

-- why there is no graph is one thing, and there is a graph within the limits alone
module _ (options : Options) (net : NetworkParts) (wide : IsWide options) where
  pub graph_lack_one : (r s : Refusal) → LacksGraph options net r → LacksGraph options net s → r ≡ s
  graph_lack_one Forms Forms p q = refl
  graph_lack_one Forms Splits p q = let f = q.0 in absurd (omega arith)
  graph_lack_one Splits Forms p q = let f = p.0 in absurd (omega arith)
  graph_lack_one Splits Splits p q = refl
  graph_lack_one Forms other p q = absurd q
  graph_lack_one Splits other p q = absurd q
  graph_lack_one other s p q = absurd p

  pub within_has_graph : IsWithinLimits options net → (r : Refusal) → LacksGraph options net r → ⊥
  within_has_graph w Forms p = let f = w.forms in absurd (omega arith)
  within_has_graph w Splits p = let f = w.splits in let g = p.1 in absurd (omega arith)
  within_has_graph w other p = absurd p

  pub graph_one : (g h : Graph) → IsGraphOf options.mode net.inputs (listing_of options.width (network.plain net)) g → IsGraphOf options.mode net.inputs (listing_of options.width (network.plain net)) h → g ≡ h
  graph_one g h p q = graphs_once options.mode net.inputs (listing_of options.width (network.plain net)) (occurring_is_listing options.width wide.least (network.plain net)) g h p q

-- Checks.

module _ (options : Options) (cells : List CellParts) (model : Parsed) (wide : IsWide options) (x y : MappedParts) (same : AreSameMapped x y) (kept : (g : Graph) (roots : List ClassId) → IsKept (claim model.network model.frame model.starts cells g (library_patterns cells) roots x)) where
  abbrev Judges : Graph → List ClassId → MappedParts → Verdict → Type 0
  Judges g roots m v = IsVerdict model.network model.frame model.starts cells g (library_patterns cells) roots m v

  judged_one : (v w : Verdict) → HasVerdict options cells model x v → HasVerdict options cells model y w → v ≡ w
  judged_one v w a b =
      let graph = graph_one options model.network wide b.graph a.graph b.is_graph a.is_graph in
      let classes = ap (λ (g : Graph). root_classes options.width (network.plain model.network) g (ports_of model.network).outputs) graph in
      let roots = numbers_back b.roots a.roots (b.roots_are ∙ (classes ∙ sym a.roots_are)) in
      let moved = subst (λ (rs : List ClassId). Judges a.graph rs y w) roots (subst (λ (g : Graph). Judges g b.roots y w) graph b.is) in
      verdicts_agree (claim model.network model.frame model.starts cells a.graph (library_patterns cells) a.roots x) y v w (kept a.graph a.roots)
      (record { netlist = same.netlist; frame = same.frame; certificates = same.certificates }) a.is moved

  yes_is_no : (reason : _) → verdict.Yes ≡ verdict.No reason → ⊥
  yes_is_no reason e = cc

  no_once : (r s : _) → verdict.No r ≡ verdict.No s → ◌≡◌ {A = Result (List ℕ) Refusal} (Err (No r)) (Err (No s))
  no_once r s e = cc

  err_once : (r s : Refusal) → r ≡ s → ◌≡◌ {A = Result (List ℕ) Refusal} (Err r) (Err s)
  err_once r s e = ap (λ (z : Refusal). Err z) e

  pub checks_one : (files : Files) (a b : Result (List ℕ) Refusal) → Checks options cells model x files a → Checks options cells model y files b → a ≡ b
  checks_one files (Ok s) (Ok t) p q = ap (λ (z : List ℕ). Ok z) (p.0 ∙ sym q.0)
  checks_one files (Ok s) (Err (No reason)) p q = absurd (yes_is_no reason (judged_one verdict.Yes (verdict.No reason) p.1 q))
  checks_one files (Ok s) (Err other) p q = absurd (within_has_graph options model.network wide p.1.within other q)
  checks_one files (Err (No reason)) (Ok t) p q = absurd (yes_is_no reason (sym (judged_one (verdict.No reason) verdict.Yes p q.1)))
  checks_one files (Err (No reason)) (Err (No also)) p q = no_once reason also (judged_one (verdict.No reason) (verdict.No also) p q)
  checks_one files (Err (No reason)) (Err other) p q = absurd (within_has_graph options model.network wide p.within other q)
  checks_one files (Err r) (Ok t) p q = absurd (within_has_graph options model.network wide q.1.within r p)
  checks_one files (Err r) (Err (No reason)) p q = absurd (within_has_graph options model.network wide q.within r p)
  checks_one files (Err r) (Err s) p q = err_once r s (graph_lack_one options model.network wide r s p q)

-- Counts.

module _ (options : Options) (model : Parsed) (wide : IsWide options) where
  -- the text of the counts of a graph
  abbrev counts_of : Graph → List ℕ
  counts_of g = counts_text (record { forms = base_count options model.network; classes = length g.pairs; pairs = pair_total g })

  says_counts : (text : List ℕ) → (a : IsCountText options model.network text) → text ≡ counts_of a.are.graph
  says_counts text a =
      let c = a.counts in
      let by_forms = subst (λ (n : ℕ). text ≡ counts_text (record { forms = n; classes = c.classes; pairs = c.pairs })) a.are.forms a.says in
      let by_classes = subst (λ (n : ℕ). text ≡ counts_text (record { forms = base_count options model.network; classes = n; pairs = c.pairs })) a.are.classes by_forms in
      subst (λ (n : ℕ). text ≡ counts_text (record { forms = base_count options model.network; classes = length a.are.graph.pairs; pairs = n })) a.are.pairs by_classes

  pub counts_one : (files : Files) (a b : Result (List ℕ) Refusal) → Counts options model files a → Counts options model files b → a ≡ b
  counts_one files (Ok s) (Ok t) p q =
      let graph = graph_one options model.network wide p.are.graph q.are.graph p.are.is_graph q.are.is_graph in
      ap (λ (z : List ℕ). Ok z) (says_counts s p ∙ (ap counts_of graph ∙ sym (says_counts t q)))
  counts_one files (Ok s) (Err r) p q = absurd (within_has_graph options model.network wide p.are.within r q)
  counts_one files (Err r) (Ok t) p q = absurd (within_has_graph options model.network wide q.are.within r p)
  counts_one files (Err r) (Err s) p q = ap (λ (z : Refusal). Err z) (graph_lack_one options model.network wide r s p q)

  -- tables have several texts
  pub tables_alike : (leaves : ℕ) (files : Files) (a b : Result (List ℕ) Refusal) → Tabulates leaves options model files a → Tabulates leaves options model files b → AreAlike (λ s t. Unit {0}) a b
  tables_alike leaves files (Ok s) (Ok t) p q = tt
  tables_alike leaves files (Ok s) (Err r) p q = absurd (within_has_graph options model.network wide p.within r q)
  tables_alike leaves files (Err r) (Ok t) p q = absurd (within_has_graph options model.network wide q.within r p)
  tables_alike leaves files (Err r) (Err s) p q = graph_lack_one options model.network wide r s p q
