-- The names of a model that was read are names of the format.
use Rattle.std.proofs.Common.{ℕ, ◌≡◌, Bool, true, false, not, cond, List, [], ◌∷◌, ◌++◌, length, map, drop, Option, Some, None, Ok, All, refl, ap, sym, subst, arith}
use Rattle.std.specs.Prelude.{nat_le}
use Rattle.std.specs.List.{list_all, flat_map, AllByRecursion as Each}
use Rattle.std.proofs.lemmas.Bool.{and_parts}
use Rattle.std.proofs.lemmas.Bool.Decides.{nat_tests}
use Rattle.std.proofs.lemmas.List.Elements.{All-from_recursion}
use Rattle.lw_words.specs.Lines.{LogicalLine}
use Rattle.lw_words.specs.Gathering.{IsInk, IsNoHash}
use Rattle.lw_pool.specs.declared.latch.Frame.{Frame}
use Rattle.lw_pool.specs.declared.latch.Latch.{Latch}
use Rattle.lw_laws.proofs.Lists.{all_map}
use Rattle.lw_net.specs.Networks.{NetworkParts, input_names, output_names}
use Rattle.lw_net.proofs.Closed.{closed_inputs, closed_outputs}
use Rattle.lw_frame.specs.Frames.{each_once, read_by, output_of}
use Rattle.lw_genlib.specs.Cells.{IsWord}
use Rattle.lw_blif.specs.declared.command.Command.{Command}
use Rattle.lw_blif.specs.declared.command.Command.TheVariants.{Model, Inputs, Outputs, Names, Latch as LatchLine, Arrival, DefaultArrival, End, Ignored, Unsupported, Unknown, Row}
use Rattle.lw_blif.specs.declared.fault.BlifKind.{BlifKind}
use Rattle.lw_blif.specs.declared.fault.BlifKind.TheVariants as kind
use Rattle.lw_blif.specs.declared.parsed.Parsed.{Parsed}
use Rattle.lw_blif.specs.LineFaults.{ends_on, FaultAt, other_words, command, names_for, wants_words, first_broken, name_rules, arrival_rules, start_rules, start_in, times_for, rules_for, node_before, rows_before, defined_by, line_fault, first_fault, lines_read}
use Rattle.lw_blif.specs.Drafts.{model_for, inputs_for, outputs_for, latches_for, latch_of, model_on, inputs_on, outputs_on, latches_on, draft_of, frame_on}
use Rattle.lw_blif.specs.BlifNetworks.{IsModelOf, IsBlifNetwork, ComesTo}
use Rattle.lw_blif_text.specs.FirstFaults.{first_fault_by}
use Rattle.lw_blif_text.proofs.Appending.{fault_or_none}
use Rattle.lw_blif.proofs.Sound.{lines-draft, short}
use Rattle.lw_mapped.proofs.GoodWords.{right-word}
use Rattle.lw_mapped.proofs.SaidNames.{control-named, model-or-unnamed, once-named}
use Rattle.lw_files.specs.Sources.{lines_in}
use Rattle.lw_files.proofs.WordLines.{lines_have_words}
use Rattle.lw_words.specs.Words.{is_name, IsSignalName}
use Rattle.lw_frame.specs.Latches.{IsReadableLatch}
use Rattle.lw_frame.proofs.Ending.{until-each}
use Rattle.lw_frame.proofs.Each.{each-of, each-append, each-weaker}

-- Words.

abbrev AreWords : List (List ℕ) → Type 0
AreWords words = Each (IsWord 4095) words

abbrev HasWords : LogicalLine → Type 0
HasWords line = AreWords line.words

signal : (word : List ℕ) → IsWord 4095 word → is_name word ≡ true → IsSignalName word
signal word is name =
    let right = right-word 4095 word (omega arith) is in
    record { word = record { some = right.0.0; few = right.0.1; ink = All-from_recursion IsInk word right.0.2 }; no_hash = All-from_recursion IsNoHash word right.1; ends = name }

signals : (words : List (List ℕ)) → AreWords words → list_all is_name words ≡ true → Each IsSignalName words
signals [] are names = tt
signals (word ∷ words) are names = let parts = and_parts (is_name word) (list_all is_name words) names in (signal word are.0 parts.0, signals words are.1 parts.1)

others : (words : List (List ℕ)) → AreWords words → AreWords (other_words words)
others [] are = tt
others (word ∷ words) are = are.1

-- A line that breaks no rule.

record IsFit (c : Command) (words : List (List ℕ)) : Type 0 where
  names : list_all is_name (names_for c words) ≡ true
  count : wants_words c words ≡ true

two-tests : (a b : Bool) (k l : BlifKind) (rest : Option BlifKind) → cond (not a) (Some k) (cond (not b) (Some l) rest) ≡ None → (a ≡ true) × (b ≡ true)
two-tests true true k l rest e = (refl, refl)
two-tests true false k l rest e = cc
two-tests false b k l rest e = cc

fit-names : (defined : List (List ℕ)) (c : Command) (words : List (List ℕ)) → first_broken (record { broken = not (wants_words c words); kind = kind.WordCount } ∷ name_rules defined c words) ≡ None → IsFit c words
fit-names defined c words e =
    let both = two-tests (wants_words c words) (list_all is_name (names_for c words)) kind.WordCount kind.BadName (first_broken (drop 1 (name_rules defined c words))) e in
    record { names = both.1; count = both.0 }

fit-arrival : (c : Command) (words : List (List ℕ)) → first_broken (arrival_rules c words) ≡ None → IsFit c words
fit-arrival c words e =
    let both = two-tests (wants_words c words) (list_all is_name (names_for c words)) kind.WordCount kind.BadName (first_broken (start_rules (start_in (times_for c words)))) e in
    record { names = both.1; count = both.0 }

line-fit : (before : List LogicalLine) (line : LogicalLine) → line_fault before line ≡ None → IsFit (command line) line.words
unfolding line_fault
line-fit before line none = by_command (command line) (short line.long (first_broken (rules_for (node_before before) (rows_before before) (defined_by before) (command line) line.words)) none)
  where
    by_command : (c : Command) → first_broken (rules_for (node_before before) (rows_before before) (defined_by before) c line.words) ≡ None → IsFit c line.words
    by_command Unknown e = cc
    by_command Unsupported e = cc
    by_command Row e = record { names = refl; count = refl }
    by_command Ignored e = record { names = refl; count = refl }
    by_command Arrival e = fit-arrival Arrival line.words e
    by_command DefaultArrival e = fit-arrival DefaultArrival line.words e
    by_command Model e = fit-names (defined_by before) Model line.words e
    by_command Inputs e = fit-names (defined_by before) Inputs line.words e
    by_command Outputs e = fit-names (defined_by before) Outputs line.words e
    by_command Names e = fit-names (defined_by before) Names line.words e
    by_command LatchLine e = fit-names (defined_by before) LatchLine line.words e
    by_command End e = fit-names (defined_by before) End line.words e

-- What the line says.

latch-named : (words : List (List ℕ)) → Each IsSignalName (other_words words) → nat_le (length words) 6 ≡ true → Each IsReadableLatch (latch_of (other_words words))
latch-named [] names few = tt
latch-named (word ∷ []) names few = tt
latch-named (word ∷ input ∷ []) names few = tt
latch-named (word ∷ input ∷ output ∷ rest) names few =
    (record { input = names.0; output = names.1.0; rest = All-from_recursion IsSignalName rest names.1.1; few = grind (arith, nat_tests) }, tt)

record IsNamedLine (c : Command) (words : List (List ℕ)) : Type 0 where
  model : Each IsSignalName (model_for c words)
  inputs : Each IsSignalName (inputs_for c words)
  outputs : Each IsSignalName (outputs_for c words)
  latches : Each IsReadableLatch (latches_for c words)

line-named : (c : Command) (words : List (List ℕ)) → AreWords words → IsFit c words → IsNamedLine c (other_words words)
line-named Model words are fit = record { model = signals (other_words words) (others words are) fit.names; inputs = tt; outputs = tt; latches = tt }
line-named Inputs words are fit = record { model = tt; inputs = signals (other_words words) (others words are) fit.names; outputs = tt; latches = tt }
line-named Outputs words are fit = record { model = tt; inputs = tt; outputs = signals (other_words words) (others words are) fit.names; latches = tt }
line-named LatchLine words are fit = record {
  model = tt;
  inputs = tt;
  outputs = tt;
  latches = latch-named words (signals (other_words words) (others words are) fit.names) (and_parts (nat_le 3 (length words)) (nat_le (length words) 6) fit.count).1;
}
line-named other words are fit = record { model = tt; inputs = tt; outputs = tt; latches = tt }

record AreNamed (lines : List LogicalLine) : Type 0 where
  model : Each IsSignalName (flat_map model_on lines)
  inputs : Each IsSignalName (flat_map inputs_on lines)
  outputs : Each IsSignalName (flat_map outputs_on lines)
  latches : Each IsReadableLatch (flat_map latches_on lines)

lines-named : (before lines : List LogicalLine) → first_fault before lines ≡ None → Each HasWords lines → AreNamed lines
unfolding first_fault_by
lines-named before [] none are = record { model = tt; inputs = tt; outputs = tt; latches = tt }
lines-named before (line ∷ lines) none are =
    let parts = fault_or_none line.number (line_fault before line) (first_fault (before ++ line ∷ []) lines) none in
    let own = line-named (command line) line.words are.0 (line-fit before line parts.0) in
    let rest = lines-named (before ++ line ∷ []) lines parts.1 are.1 in
    record {
      model = each-append IsSignalName (model_on line) (flat_map model_on lines) own.model rest.model;
      inputs = each-append IsSignalName (inputs_on line) (flat_map inputs_on lines) own.inputs rest.inputs;
      outputs = each-append IsSignalName (outputs_on line) (flat_map outputs_on lines) own.outputs rest.outputs;
      latches = each-append IsReadableLatch (latches_on line) (flat_map latches_on lines) own.latches rest.latches;
    }

-- The lines that are read.

words-each : (lines : List LogicalLine) → All (λ (line : LogicalLine). All (IsWord 4095) line.words) lines → Each HasWords lines
words-each lines all =
    each-weaker (λ (line : LogicalLine). All (IsWord 4095) line.words) HasWords (λ line are. each-of (IsWord 4095) line.words are) lines
    (each-of (λ (line : LogicalLine). All (IsWord 4095) line.words) lines all)

-- The model.

reads-named : (latches : List Latch) → Each IsReadableLatch latches → Each IsSignalName (flat_map read_by latches)
reads-named [] each = tt
reads-named (latch ∷ latches) each =
    each-append IsSignalName (read_by latch) (flat_map read_by latches) (each.0.input, control-named latch.rest (each-of IsSignalName latch.rest each.0.rest)) (reads-named latches each.1)

-- The names of the model, of its inputs and outputs, and of its latches are names of the format.
pub record IsNamed (read : Parsed) : Type 0 where
  pub model : IsSignalName read.network.model
  pub inputs : All IsSignalName (input_names read.network)
  pub outputs : All IsSignalName (output_names read.network)
  pub latches : All IsReadableLatch read.frame.latches

lines-model : (lines : List LogicalLine) (read : Parsed) → Each HasWords lines → first_fault [] lines ≡ None → IsModelOf lines read → IsNamed read
unfolding draft_of frame_on
lines-model lines read words none is =
    let are = lines-named [] lines none words in
    let draft = lines-draft lines none in
    let latches = flat_map latches_on lines in
    let ins = each-append IsSignalName (flat_map inputs_on lines) (map output_of latches) are.inputs (all_map IsReadableLatch IsSignalName output_of latches (λ latch h. h.output) are.latches) in
    let outs = each-append IsSignalName (flat_map outputs_on lines) (flat_map read_by latches) are.outputs (reads-named latches are.latches) in
    record {
      model = subst IsSignalName (sym (ap (λ (n : NetworkParts). n.model) is.network.network)) (model-or-unnamed (flat_map model_on lines) are.model);
      inputs = subst (All IsSignalName) (sym (closed_inputs (draft_of lines) read.network draft is.network)) (All-from_recursion IsSignalName (flat_map inputs_on lines ++ map output_of latches) ins);
      outputs = subst (All IsSignalName) (sym (closed_outputs (draft_of lines) read.network draft is.network)) (All-from_recursion IsSignalName (each_once (flat_map outputs_on lines ++ flat_map read_by latches)) (once-named (flat_map outputs_on lines ++ flat_map read_by latches) outs));
      latches = subst (λ (f : Frame). All IsReadableLatch f.latches) (sym is.frame) (All-from_recursion IsReadableLatch latches are.latches);
    }

pub model_named : (bytes : List ℕ) (read : Parsed) → IsBlifNetwork (lines_in bytes) (Ok read) → IsNamed read
model_named bytes read is = by_fault (first_fault [] (lines_read (lines_in bytes))) refl is
  where
    by_fault : (first : Option FaultAt) → first_fault [] (lines_read (lines_in bytes)) ≡ first → ComesTo first (lines_read (lines_in bytes)) (Ok read) → IsNamed read
    by_fault (Some first) e h = absurd h
    by_fault None e h = lines-model (lines_read (lines_in bytes)) read (until-each ends_on HasWords (lines_in bytes) (words-each (lines_in bytes) (lines_have_words bytes))) e h
