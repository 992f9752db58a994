-- Answers to words that ask for the size of a graph, for the values of a network, for the sizes of a drawn network, or for
-- lookup tables cannot fail to be there.
use Rattle.std.proofs.Common.{ℕ, ◌<◌, ◌≡◌, Bool, List, [], ◌∷◌, ◌++◌, length, Some, Result, Ok, Err, refl, arith}
use native.Mathlib.Decide.{dec_lt}
use Rattle.lw_laws.specs.Networks.{given}
use Rattle.lw_laws.specs.Graphs.{Graph}
use Rattle.lw_laws.specs.Classes.{IsGraphOf}
use Rattle.lw_laws.specs.Listings.{listing_of}
use Rattle.lw_laws.proofs.NetValues.{net_values_are}
use Rattle.lw_laws.proofs.Words.{net_values}
use Rattle.lw_net.specs.Networks.{NetworkParts, IsNetwork}
use Rattle.lw_net.specs.Plain as network
use Rattle.lw_net.proofs.Rise.{in_order}
use Rattle.lw_form.specs.Limits.{most_bases}
use Rattle.lw_assoc.specs.Splits.{most_splits}
use Rattle.lw_blif.specs.declared.parsed.Parsed.{Parsed}
use Rattle.lw_report.specs.Simulated.{IsNetworkLine, AreLines, value_line}
use Rattle.lw_report.specs.Simulated.AreLines.{no_lines, next_line}
use Rattle.lw_files.specs.Steps.{Files, followed_by}
use Rattle.lw_files.proofs.Kept.{cells_kept, model_kept}
use Rattle.lw_map.specs.declared.counting.Counts.{Counts as GraphCounts}
use Rattle.lw_map.specs.Options.{Options, IsWide}
use Rattle.lw_map.specs.Mapped.{base_count, splits_count, IsWithinLimits}
use Rattle.lw_top.specs.declared.refusal.Refusal.{Refusal}
use Rattle.lw_top.specs.declared.refusal.Refusal.TheVariants.{Forms, Splits}
use Rattle.lw_top.specs.Words.{counting, simulation, drawing, tabling, command_of}
use Rattle.lw_top.specs.Counts.{Counts, counts_text, pair_total, Draws}
use Rattle.lw_top.specs.Reports.{Simulates}
use Rattle.lw_top.specs.Tables.{Tabulates}
use Rattle.lw_top.specs.Answers.{ReadsLibrary, ReadsModel, ReadsVectors, IsAnswer}
use Rattle.lw_top.proofs.InRange.{command_in_range}
use Rattle.lw_exists.specs.Weakly.{Weakly}
use Rattle.lw_exists.proofs.Weak.{sure, weaker}
use Rattle.lw_exists.proofs.SomeGraph.{some_graph}
use Rattle.lw_exists.proofs.SomeFiles.{some_followed, some_command_answer, read_library, read_model, read_vectors}
use Rattle.lw_exists.proofs.SomeDrawing.{some_drawing}
use Rattle.lw_exists.proofs.SomeTabled.{some_tabled}

-- The size of a graph.

module _ (options : Options) (model : Parsed) (files : Files) (wide : IsWide options) where
  abbrev HasCounts : Type 0
  HasCounts = (a : Result (List ℕ) Refusal) × Counts options model files a

  counted : IsWithinLimits options model.network → (g : Graph) × IsGraphOf options.mode model.network.inputs (listing_of options.width (network.plain model.network)) g → HasCounts
  counted within (g, is) =
      let counts : GraphCounts = record { forms = base_count options model.network; classes = length g.pairs; pairs = pair_total g } in
      (Ok (counts_text counts), record { counts = counts; are = record { within = within; graph = g; is_graph = is; forms = refl; classes = refl; pairs = refl }; says = refl })

  by_limits : Dec (most_bases < base_count options model.network) → Dec (most_splits < splits_count options model.network) → Weakly HasCounts
  by_limits (yes many) d = sure (Err Forms, many)
  by_limits (no few) (yes many) = sure (Err Splits, (omega arith, many))
  by_limits (no few) (no none) =
      weaker (counted (record { forms = omega arith; splits = omega arith })) (some_graph options.mode options.width (network.plain model.network) wide.least)

  some_counts : Weakly ((a : Result (List ℕ) Refusal) × Counts options model files a)
  some_counts = by_limits (dec_lt most_bases (base_count options model.network)) (dec_lt most_splits (splits_count options model.network))

-- The values of a network.

some_lines : (n : NetworkParts) → IsNetwork n → (vectors : List (List Bool)) → (text : List ℕ) × AreLines (IsNetworkLine n) vectors text
some_lines n kept [] = ([], no_lines)
some_lines n kept (vector ∷ vectors) =
    let (text, are) = some_lines n kept vectors in
    let values = net_values (given vector) (network.plain n) in
    (value_line values n.outputs ++ text, next_line {line = value_line values n.outputs} (record { values = values; are = net_values_are (network.plain n) (in_order n kept) (given vector); says = refl }) are)

-- Answers.

pub some_count_answer : (words : List (List ℕ)) (files : Files) (options : Options) (network_word : List ℕ) → command_of words ≡ Some (counting options network_word) → Weakly ((r : Result (List ℕ) Refusal) × IsAnswer words files r)
some_count_answer words files options network_word form =
    some_command_answer words files (counting options network_word) form
    (some_followed (ReadsModel network_word) (λ model. Counts options model) files (read_model network_word files) (λ model read.
    some_counts options model files (command_in_range words (counting options network_word) form)))

pub some_simulation_answer : (words : List (List ℕ)) (files : Files) (network_word vectors : List ℕ) → command_of words ≡ Some (simulation network_word vectors) → Weakly ((r : Result (List ℕ) Refusal) × IsAnswer words files r)
some_simulation_answer words files network_word vectors form =
    some_command_answer words files (simulation network_word vectors) form
    (some_followed (ReadsModel network_word) (λ model. followed_by (ReadsVectors vectors model.network.inputs) (λ xs. Simulates model xs)) files (read_model network_word files) (λ model read.
    some_followed (ReadsVectors vectors model.network.inputs) (λ xs. Simulates model xs) files (read_vectors vectors model.network.inputs files) (λ xs has.
    let (text, are) = some_lines model.network (model_kept network_word files model read).network xs in
    sure (Ok text, are))))

pub some_drawing_answer : (words : List (List ℕ)) (files : Files) (seed count : ℕ) (library : List ℕ) → command_of words ≡ Some (drawing seed count library) → Weakly ((r : Result (List ℕ) Refusal) × IsAnswer words files r)
some_drawing_answer words files seed count library form =
    some_command_answer words files (drawing seed count library) form
    (some_followed (ReadsLibrary library) (λ cells. Draws seed count cells) files (read_library library files) (λ cells lib.
    some_drawing seed count (command_in_range words (drawing seed count library) form).most cells (cells_kept library files cells lib) files))

pub some_tabling_answer : (words : List (List ℕ)) (files : Files) (leaves : ℕ) (options : Options) (network_word : List ℕ) → command_of words ≡ Some (tabling leaves options network_word) → Weakly ((r : Result (List ℕ) Refusal) × IsAnswer words files r)
some_tabling_answer words files leaves options network_word form =
    let (few, wide) = command_in_range words (tabling leaves options network_word) form in
    some_command_answer words files (tabling leaves options network_word) form
    (some_followed (ReadsModel network_word) (λ model. Tabulates leaves options model) files (read_model network_word files) (λ model read.
    some_tabled options leaves model files wide few (model_kept network_word files model read)))
