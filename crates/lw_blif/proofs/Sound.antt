-- Lines that break no rule say a draft that may be closed.
use Rattle.std.proofs.Common.{ℕ, ◌≡◌, ◌+◌, ◌≤◌, ◌==◌, Bool, true, false, not, ◌&&◌, cond, nat_lt, nat_le, List, [], ◌∷◌, ◌++◌, length, map, take, drop, reverse, filter, Option, Some, None, refl, ap, sym, ◌∙◌, subst, append-nil, append_assoc, length-append, arith}
use Rattle.std.specs.Prelude.{All, ⊤}
use Rattle.std.specs.List.{list_all, flat_map, IsDistinct}
use Rattle.std.specs.List.Sorted.{IsPermutation}
use Rattle.std.specs.Str.{bytes_eq}
use Rattle.std.proofs.lemmas.Bool.{and_parts, eqb-true}
use Rattle.std.proofs.lemmas.List.{map-append, reverse-append}
use Rattle.std.proofs.lemmas.List.Elements.{All-append, All-nil, All-cons, All-head}
use Rattle.std.proofs.lemmas.List.Sorted.{length_permutation, IsPermutation-trans, IsPermutation-append_right}
use Rattle.std.proofs.lemmas.Map.Keys.{IsDistinct-IsPermutation}
use Rattle.lw_facts.proofs.Lists.{bytes_eq_turned}
use Rattle.lw_words.specs.Lines.{LogicalLine}
use Rattle.lw_net.specs.declared.draft.DraftNode.{DraftNode}
use Rattle.lw_net.specs.Closing.{IsDraft, out_of}
use Rattle.lw_blif.specs.declared.command.Command.{Command}
use Rattle.lw_blif.specs.declared.command.Command.TheVariants.{Model, Inputs, Outputs, Names, Latch, Arrival, DefaultArrival, End, Ignored, Unsupported, Unknown, Row}
use Rattle.lw_blif.specs.declared.fault.BlifKind.{BlifKind}
use Rattle.lw_blif.specs.declared.fault.BlifKind.TheVariants as kind
use Rattle.lw_blif.specs.LineFaults.{command, last_word, other_words, is_row_command, is_names_command, is_ignored_command, is_row, is_names, is_ignored, defined_for, defined_on, defined_by, fanins_on, nearest, rows_before, node_before, has_shape, is_column, is_value, first_broken, row_rules, name_rules, rules_for, wants_words, line_fault, first_fault, differs_from}
use Rattle.lw_blif.specs.Drafts.{draft_of, nodes_of, node_of, row_of, columns_of, inputs_for, inputs_on, outputs_on, latch_of, latches_for, latches_on}
use Rattle.lw_blif.specs.Readers.{whole_nodes, are_fresh, fault_else, names_fault_of}
use Rattle.lw_blif_text.specs.FirstFaults.{first_fault_by}
use Rattle.lw_blif_text.proofs.Appending.{fault_or_none}
use Rattle.lw_frame.proofs.Once.{roots_differ, none-distinct}
use Rattle.lw_frame.specs.Frames.{input_names, output_of}
use Rattle.lw_blif.proofs.Differing.{distinct-fresh, in-two}
use Rattle.lw_blif.proofs.NodesBehind.{nodes-parts, rows-ignored, node-ignored, whole-ignored, rows-row, node-row, whole-row, rows-other, node-other, whole-other}
use Rattle.lw_blif.proofs.Keeping.{defined-more, names_fault-rules, fit-names, none-whole, none-defined, none-node, none-rows, map-push}
use Rattle.lw_words.specs.Words.{front}

-- Columns.

abbrev pub HasColumns : DraftNode → Type 0
HasColumns node = All (λ (row : List ℕ). length row ≡ length node.fanins) node.rows

-- a row of this shape has so many columns
shape-columns : (n : ℕ) (words : List (List ℕ)) → has_shape n words ≡ true → length (columns_of words) ≡ n
shape-columns n [] e = cc
shape-columns n (value ∷ []) e = sym (eqb-true n 0 (and_parts (n == 0) (is_value value) e).0)
shape-columns n (columns ∷ value ∷ []) e =
    let front = and_parts (nat_lt 0 n && length columns == n && list_all is_column columns) (is_value value) e in
    let two = and_parts (nat_lt 0 n && length columns == n) (list_all is_column columns) front.0 in
    eqb-true (length columns) n (and_parts (nat_lt 0 n) (length columns == n) two.0).1
shape-columns n (columns ∷ value ∷ more ∷ words) e = cc

-- What lines that break no rule have.

abbrev begun_nodes : List LogicalLine → List DraftNode
begun_nodes lines = map (λ l. node_of l (reverse (rows_before lines))) (node_before lines)

pub record IsSound (lines : List LogicalLine) : Type 0 where
  pub few : length (defined_by lines) ≤ 262144
  pub distinct : IsDistinct bytes_eq (defined_by lines)
  pub no_rows : node_before lines ≡ [] → rows_before lines ≡ []
  pub whole : All HasColumns (whole_nodes lines)
  pub begun : All HasColumns (begun_nodes lines)

sound-start : IsSound []
sound-start = record {
  few = omega (arith, ap length none-defined);
  distinct = subst (IsDistinct bytes_eq) (sym none-defined) none-distinct;
  no_rows = λ none. none-rows;
  whole = subst (All HasColumns) (sym none-whole) (All-nil HasColumns);
  begun = subst (λ (ns : List LogicalLine). All HasColumns (map (λ l. node_of l (reverse (rows_before []))) ns)) (sym none-node) (All-nil HasColumns);
}

-- An ignored line.
sound-ignored : (lines : List LogicalLine) (line : LogicalLine) → command line ≡ Ignored → IsSound lines → IsSound (lines ++ line ∷ [])
sound-ignored lines line e h =
    let ignored : is_ignored line ≡ true = ap is_ignored_command e in
    let rows = rows-ignored lines line ignored in
    let node = node-ignored lines line ignored in
    let defined : defined_by (lines ++ line ∷ []) ≡ defined_by lines = defined-more lines line ∙ (ap (λ c. defined_by lines ++ defined_for c line.words) e ∙ append-nil (defined_by lines)) in
    record {
      few = omega (arith, h.few, ap length defined);
      distinct = subst (IsDistinct bytes_eq) (sym defined) h.distinct;
      no_rows = λ none. rows ∙ h.no_rows (sym node ∙ none);
      whole = subst (All HasColumns) (sym (whole-ignored lines line ignored)) h.whole;
      begun =
          subst (λ (rs : List LogicalLine). All HasColumns (map (λ l. node_of l (reverse rs)) (node_before (lines ++ line ∷ [])))) (sym rows)
          (subst (λ (ns : List LogicalLine). All HasColumns (map (λ l. node_of l (reverse (rows_before lines))) ns)) (sym node) h.begun);
    }

-- A row.

-- the line of a node is one, or there is none
abbrev AtMostOne : List LogicalLine → Type 0
AtMostOne [] = ⊤
AtMostOne (l ∷ []) = ⊤
AtMostOne (l ∷ m ∷ lines) = ⊥

one-node : (lines : List LogicalLine) → AtMostOne (node_before lines)
unfolding node_before
one-node lines = by_rest (drop (length (rows_before lines)) (nearest lines))
  where
    by_rest : (rest : List LogicalLine) → AtMostOne (filter is_names (take 1 rest))
    by_rest [] = tt
    by_rest (l ∷ rest) = by_case (is_names l)
      where
        by_case : (b : Bool) → AtMostOne (cond b (l ∷ []) [])
        by_case true = tt
        by_case false = tt

-- what a row has that breaks no rule
record IsFitRow (node : List LogicalLine) (words : List (List ℕ)) : Type 0 where
  pub some : nat_lt (length node) 1 ≡ false
  pub shape : has_shape (length (flat_map fanins_on node)) words ≡ true

fit : (node rows : List LogicalLine) (words : List (List ℕ)) → first_broken (row_rules node rows words) ≡ None → IsFitRow node words
fit node rows words e = by_parts (nat_lt (length node) 1) refl (has_shape (length (flat_map fanins_on node)) words) refl (differs_from words rows) (nat_le 4096 (length rows)) e
  where
    by_parts : (o : Bool) → nat_lt (length node) 1 ≡ o → (s : Bool) → has_shape (length (flat_map fanins_on node)) words ≡ s → (m l : Bool) →
        cond o (Some kind.RowOutside) (cond (not s) (Some kind.RowShape) (cond m (Some kind.RowMix) (cond l (Some kind.LimitRows) None))) ≡ None → IsFitRow node words
    by_parts true eo s es m l h = cc
    by_parts false eo false es m l h = cc
    by_parts false eo true es m l h = record { some = eo; shape = es }

columns-more : (l line : LogicalLine) (rows : List LogicalLine) → has_shape (length (flat_map fanins_on (l ∷ []))) line.words ≡ true → HasColumns (node_of l (reverse rows)) → HasColumns (node_of l (reverse (line ∷ rows)))
columns-more l line rows shape h =
    let own : length (row_of line) ≡ length (fanins_on l) = shape-columns (length (fanins_on l)) line.words (ap (λ fs. has_shape (length fs) line.words) (sym (append-nil (fanins_on l))) ∙ shape) in
    let P : List ℕ → Type 0 = λ row. length row ≡ length (fanins_on l) in
    let turned : map row_of (reverse (line ∷ rows)) ≡ map row_of (reverse rows) ++ row_of line ∷ [] =
    ap (map row_of) (reverse-append (line ∷ []) rows) ∙ map-push row_of (reverse rows) line in
    subst (All P) (sym turned) (All-append P (map row_of (reverse rows)) (row_of line ∷ []) h (all-one P (row_of line) own))
  where
    all-one : (P : List ℕ → Type 0) (row : List ℕ) → P row → All P (row ∷ [])
    all-one P row p = All-cons P row [] p (All-nil P)

sound-row : (lines : List LogicalLine) (line : LogicalLine) → command line ≡ Row → IsFitRow (node_before lines) line.words → IsSound lines → IsSound (lines ++ line ∷ [])
sound-row lines line e f h =
    let kept : is_ignored line ≡ false = ap is_ignored_command e in
    let row : is_row line ≡ true = ap is_row_command e in
    let rows = rows-row lines line kept row in
    let node = node-row lines line kept row in
    let defined : defined_by (lines ++ line ∷ []) ≡ defined_by lines = defined-more lines line ∙ (ap (λ c. defined_by lines ++ defined_for c line.words) e ∙ append-nil (defined_by lines)) in
    record {
      few = omega (arith, h.few, ap length defined);
      distinct = subst (IsDistinct bytes_eq) (sym defined) h.distinct;
      no_rows = λ none. let wrong : false ≡ true = sym f.some ∙ ap (λ ns. nat_lt (length ns) 1) (sym node ∙ none) in cc;
      whole = subst (All HasColumns) (sym (whole-row lines line kept row)) h.whole;
      begun =
          subst (λ (rs : List LogicalLine). All HasColumns (map (λ l. node_of l (reverse rs)) (node_before (lines ++ line ∷ [])))) (sym rows)
          (subst (λ (ns : List LogicalLine). All HasColumns (map (λ l. node_of l (reverse (line ∷ rows_before lines))) ns)) (sym node) (by_node (node_before lines) (one-node lines) f.shape h.begun));
    }
  where
    by_node : (ns : List LogicalLine) → AtMostOne ns → has_shape (length (flat_map fanins_on ns)) line.words ≡ true → All HasColumns (map (λ l. node_of l (reverse (rows_before lines))) ns) →
        All HasColumns (map (λ l. node_of l (reverse (line ∷ rows_before lines))) ns)
    by_node [] one shape all = All-nil HasColumns
    by_node (l ∷ m ∷ ns) one shape all = absurd one
    by_node (l ∷ []) one shape all = All-cons HasColumns _ [] (columns-more l line (rows_before lines) shape (All-head HasColumns _ [] all)) (All-nil HasColumns)

-- A line of names.

-- what a line of names has that breaks no rule
record IsFitNames (defined : List (List ℕ)) (c : Command) (words : List (List ℕ)) : Type 0 where
  pub few : length defined + length (defined_for c words) ≤ 262144
  pub fresh : are_fresh defined (defined_for c words) ≡ true

fit-both : (defined : List (List ℕ)) (c : Command) (words : List (List ℕ)) → first_broken (record { broken = not (wants_words c words); kind = kind.WordCount } ∷ name_rules defined c words) ≡ None → IsFitNames defined c words
fit-both defined c words e =
    let parts = else-none (names_fault_of (length defined) c words) (are_fresh defined (defined_for c words)) (sym (names_fault-rules defined c words) ∙ e) in
    record { few = (fit-names (length defined) c words parts.0).few; fresh = parts.1 }
  where
    else-none : (o : Option BlifKind) (b : Bool) → fault_else o (cond b None (Some kind.Redefined)) ≡ None → (o ≡ None) × (b ≡ true)
    else-none None true h = (refl, refl)
    else-none None false h = cc
    else-none (Some k) b h = cc

sound-names : (c : Command) (lines : List LogicalLine) (line : LogicalLine) → command line ≡ c → is_ignored_command c ≡ false → is_row_command c ≡ false → IsFitNames (defined_by lines) c line.words → IsSound lines → IsSound (lines ++ line ∷ [])
sound-names c lines line e not_ignored not_row f h =
    let kept : is_ignored line ≡ false = ap is_ignored_command e ∙ not_ignored in
    let row : is_row line ≡ false = ap is_row_command e ∙ not_row in
    let rows = rows-other lines line kept row in
    let node = node-other lines line kept row in
    let defined : defined_by (lines ++ line ∷ []) ≡ defined_by lines ++ defined_for c line.words = defined-more lines line ∙ ap (λ d. defined_by lines ++ defined_for d line.words) e in
    record {
      few = omega (arith, f.few, ap length defined, length-append (defined_by lines) (defined_for c line.words));
      distinct = subst (IsDistinct bytes_eq) (sym defined) (distinct-fresh (defined_by lines) (defined_for c line.words) h.distinct f.fresh);
      no_rows = λ none. rows;
      whole = subst (All HasColumns) (sym (whole-other lines line h.no_rows kept row)) (All-append HasColumns (whole_nodes lines) (begun_nodes lines) h.whole h.begun);
      begun =
          subst (λ (rs : List LogicalLine). All HasColumns (map (λ l. node_of l (reverse rs)) (node_before (lines ++ line ∷ [])))) (sym rows)
          (subst (λ (ns : List LogicalLine). All HasColumns (map (λ l. node_of l (reverse [])) ns)) (sym node) (by_names (is_names line)));
    }
  where
    by_names : (b : Bool) → All HasColumns (map (λ l. node_of l (reverse [])) (cond b (line ∷ []) []))
    by_names true = All-cons HasColumns (node_of line []) [] (All-nil (λ (r : List ℕ). length r ≡ length (fanins_on line))) (All-nil HasColumns)
    by_names false = All-nil HasColumns

-- A line more.

pub short : (long : Bool) (rest : Option BlifKind) → cond long (Some kind.LongWord) rest ≡ None → rest ≡ None
short true rest e = cc
short false rest e = e

sound-more : (lines : List LogicalLine) (line : LogicalLine) → line_fault lines line ≡ None → IsSound lines → IsSound (lines ++ line ∷ [])
unfolding line_fault
sound-more lines line none h = by_command (command line) refl (short line.long (first_broken (rules_for (node_before lines) (rows_before lines) (defined_by lines) (command line) line.words)) none)
  where
    by_command : (c : Command) → command line ≡ c → first_broken (rules_for (node_before lines) (rows_before lines) (defined_by lines) c line.words) ≡ None → IsSound (lines ++ line ∷ [])
    by_command Row e b = sound-row lines line e (fit (node_before lines) (rows_before lines) line.words b) h
    by_command Ignored e b = sound-ignored lines line e h
    by_command Unknown e b = cc
    by_command Unsupported e b = cc
    by_command Model e b = sound-names Model lines line e refl refl (fit-both (defined_by lines) Model line.words b) h
    by_command Inputs e b = sound-names Inputs lines line e refl refl (fit-both (defined_by lines) Inputs line.words b) h
    by_command Outputs e b = sound-names Outputs lines line e refl refl (fit-both (defined_by lines) Outputs line.words b) h
    by_command Names e b = sound-names Names lines line e refl refl (fit-both (defined_by lines) Names line.words b) h
    by_command Latch e b = sound-names Latch lines line e refl refl (fit-both (defined_by lines) Latch line.words b) h
    by_command Arrival e b = sound-names Arrival lines line e refl refl (record { few = omega (arith, h.few); fresh = refl }) h
    by_command DefaultArrival e b = sound-names DefaultArrival lines line e refl refl (record { few = omega (arith, h.few); fresh = refl }) h
    by_command End e b = sound-names End lines line e refl refl (fit-both (defined_by lines) End line.words b) h

sound-all : (before lines : List LogicalLine) → first_fault before lines ≡ None → IsSound before → IsSound (before ++ lines)
unfolding first_fault_by
sound-all before [] none h = subst IsSound (sym (append-nil before)) h
sound-all before (line ∷ lines) none h =
    let parts = fault_or_none line.number (line_fault before line) (first_fault (before ++ line ∷ []) lines) none in
    subst IsSound (append_assoc before (line ∷ []) lines) (sound-all (before ++ line ∷ []) lines parts.1 (sound-more before line parts.0 h))

-- Signals.

abbrev outs_for : Command → List (List ℕ) → List (List ℕ)
outs_for Names words = last_word words ∷ []
outs_for other words = []

abbrev outs_on : LogicalLine → List (List ℕ)
outs_on line = outs_for (command line) line.words

abbrev latched_for : Command → List (List ℕ) → List (List ℕ)
latched_for c words = map output_of (latches_for c (other_words words))

abbrev latched_on : LogicalLine → List (List ℕ)
latched_on line = latched_for (command line) line.words

latched : (words : List (List ℕ)) → take 1 (drop 2 words) ≡ map output_of (latch_of (drop 1 words)) ++ []
latched [] = refl
latched (word ∷ []) = refl
latched (word ∷ input ∷ []) = refl
latched (word ∷ input ∷ output ∷ words) = refl

defined-parts : (c : Command) (words : List (List ℕ)) → defined_for c words ≡ inputs_for c (other_words words) ++ (latched_for c words ++ outs_for c words)
defined-parts Model words = refl
defined-parts Inputs words = sym (append-nil (other_words words))
defined-parts Outputs words = refl
defined-parts Names words = refl
defined-parts Latch words = latched words
defined-parts Arrival words = refl
defined-parts DefaultArrival words = refl
defined-parts End words = refl
defined-parts Ignored words = refl
defined-parts Unsupported words = refl
defined-parts Unknown words = refl
defined-parts Row words = refl

-- what latches give
latched-are : (lines : List LogicalLine) → map output_of (flat_map latches_on lines) ≡ flat_map latched_on lines
latched-are [] = refl
latched-are (line ∷ lines) = map-append output_of (latches_on line) (flat_map latches_on lines) ∙ ap (λ r. latched_on line ++ r) (latched-are lines)

flat-alike : (f g : LogicalLine → List (List ℕ)) → ((x : LogicalLine) → f x ≡ g x) → (xs : List LogicalLine) → flat_map f xs ≡ flat_map g xs
flat-alike f g same [] = refl
flat-alike f g same (x ∷ xs) = ap (λ r. r ++ flat_map f xs) (same x) ∙ ap (λ r. g x ++ r) (flat-alike f g same xs)

-- what nodes drive
outs-are : (lines : List LogicalLine) → map out_of (nodes_of (filter (λ line. not (is_ignored line)) lines)) ≡ flat_map outs_on lines
outs-are [] = refl
outs-are (line ∷ lines) =
    ap (map out_of) (nodes-cond (not (is_ignored line))) ∙ (first (command line) ∙ ap (λ r. outs_on line ++ r) (outs-are lines))
  where
    rest : List LogicalLine
    rest = filter (λ l. not (is_ignored l)) lines

    nodes-cond : (b : Bool) → nodes_of (cond b (line ∷ rest) rest) ≡ cond b (nodes_of (line ∷ rest)) (nodes_of rest)
    nodes-cond true = refl
    nodes-cond false = refl

    first : (c : Command) → map out_of (cond (not (is_ignored_command c)) (cond (is_names_command c) (node_of line (front is_row rest) ∷ nodes_of rest) (nodes_of rest)) (nodes_of rest)) ≡ outs_for c line.words ++ map out_of (nodes_of rest)
    first Model = refl
    first Inputs = refl
    first Outputs = refl
    first Names = refl
    first Latch = refl
    first Arrival = refl
    first DefaultArrival = refl
    first End = refl
    first Ignored = refl
    first Unsupported = refl
    first Unknown = refl
    first Row = refl

pub signals-are : (lines : List LogicalLine) → IsPermutation (defined_by lines) (input_names (flat_map inputs_on lines) (flat_map latches_on lines) ++ map out_of (nodes_of (filter (λ line. not (is_ignored line)) lines)))
unfolding defined_by
signals-are lines =
    let ins = flat_map inputs_on lines in
    let latched = flat_map latched_on lines in
    let outs = flat_map outs_on lines in
    let both = flat_map (λ line. latched_on line ++ outs_on line) lines in
    let same : flat_map defined_on lines ≡ flat_map (λ line. inputs_on line ++ (latched_on line ++ outs_on line)) lines =
    flat-alike defined_on (λ line. inputs_on line ++ (latched_on line ++ outs_on line)) (λ line. defined-parts (command line) line.words) lines in
    let parts : ins ++ (latched ++ outs) ≡ input_names ins (flat_map latches_on lines) ++ map out_of (nodes_of (filter (λ line. not (is_ignored line)) lines)) =
    sym (append_assoc ins latched outs) ∙ (ap (λ r. (ins ++ r) ++ outs) (sym (latched-are lines)) ∙ ap (λ r. input_names ins (flat_map latches_on lines) ++ r) (sym (outs-are lines))) in
    subst (λ (r : List (List ℕ)). IsPermutation r (input_names ins (flat_map latches_on lines) ++ map out_of (nodes_of (filter (λ line. not (is_ignored line)) lines)))) (sym same)
    (subst (λ (r : List (List ℕ)). IsPermutation (flat_map (λ line. inputs_on line ++ (latched_on line ++ outs_on line)) lines) r) parts
    (IsPermutation-trans (flat_map (λ line. inputs_on line ++ (latched_on line ++ outs_on line)) lines) (ins ++ both) (ins ++ (latched ++ outs))
    (in-two inputs_on (λ line. latched_on line ++ outs_on line) lines)
    (IsPermutation-append_right ins both (latched ++ outs) (in-two latched_on outs_on lines))))

-- The draft of lines that break no rule may be closed.
pub lines-draft : (lines : List LogicalLine) → first_fault [] lines ≡ None → IsDraft (draft_of lines)
unfolding draft_of
lines-draft lines none =
    let h = sound-all [] lines none sound-start in
    let signals = input_names (flat_map inputs_on lines) (flat_map latches_on lines) ++ map out_of (nodes_of (filter (λ line. not (is_ignored line)) lines)) in
    let nodes = nodes-parts lines h.no_rows in
    record {
      signals = IsDistinct-IsPermutation bytes_eq bytes_eq_turned (defined_by lines) signals (signals-are lines) h.distinct;
      outputs = roots_differ (flat_map outputs_on lines) (flat_map latches_on lines);
      columns = subst (All HasColumns) (sym nodes) (All-append HasColumns (whole_nodes lines) (begun_nodes lines) h.whole h.begun);
      few = omega (arith, h.few, length_permutation (defined_by lines) signals (signals-are lines));
    }
