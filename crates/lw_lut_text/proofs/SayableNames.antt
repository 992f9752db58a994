-- The names in the text of a network of tables.
use Rattle.std.proofs.Common.{ℕ, suc, ◌≡◌, ◌≤◌, Bool, true, false, ◌&&◌, if◌then◌else◌, List, [], ◌∷◌, ◌++◌, length, map, take, All, Contains, Some, slice_get, refl, ap, ap₂, sym, ◌∙◌, subst, append_assoc}
use Rattle.std.specs.List.{list_all, IsDistinct, AllByRecursion as Each}
use Rattle.std.specs.Str.{bytes_eq}
use Rattle.std.proofs.lemmas.List.{take-append-le}
use Rattle.std.proofs.lemmas.List.Elements.{All-contains, All-take, recursion_from_All, Contains-append_right}
use Rattle.std.proofs.lemmas.Option.{slice_get_read}
use Rattle.std.proofs.lemmas.Slice.Eq.{bytes_eq-Decides}
use Rattle.lw_facts.proofs.Lists.{contains_map, distinct_of}
use Rattle.lw_pool.specs.declared.id.ClassId.{ClassId}
use Rattle.lw_pool.specs.declared.latch.Frame.{Frame}
use Rattle.lw_frame.proofs.Once.{is_among, roots_differ}
use Rattle.lw_laws.proofs.Numbers.{slice_get_map}
use Rattle.lw_laws.proofs.Lists.{all_map, contains_all}
use Rattle.lw_lut.specs.Nets.{PlainTableNet, table_classes, net_classes}
use Rattle.lw_lut_text.specs.Readable.{IsSayable, names_of_nets}
use Rattle.lw_lut.specs.Texts.{fanin_names, net_name}
use Rattle.lw_lut.specs.declared.table.Table.{Table}
use Rattle.lw_lut_text.proofs.ReadNames.{at_some, name_there, one_each, tables_named, distinct_append}
use Rattle.lw_words.specs.Words.{is_name, IsSignalName}
use Rattle.lw_pool.specs.Numbers.{numbers}
use Rattle.lw_dag.proofs.Numbering.{among_contains}

-- a table of few fan-ins, whose nets have names of the format
pub record IsFairTable (n : PlainTableNet) (t : Table) : Type 0 where
  pub few : length t.fanins ≤ 6
  pub fanins : Each IsSignalName (fanin_names n t)
  pub out : IsSignalName (net_name n t.out.0)

-- the outputs that have wires
abbrev pub wire_outputs : PlainTableNet → List (List ℕ) → List ClassId → List (List ℕ)
wire_outputs n (output ∷ outputs) (root ∷ roots) = (if bytes_eq (net_name n root.0) output then [] else output ∷ []) ++ wire_outputs n outputs roots
wire_outputs n [] roots = []
wire_outputs n (output ∷ outputs) [] = []

pub names_pass : (names : List (List ℕ)) → Each IsSignalName names → list_all is_name names ≡ true
names_pass [] each = refl
names_pass (name ∷ names) each = ap₂ (λ a b. a && b) each.0.ends (names_pass names each.1)

-- a name that is an output's with a wire is that of no net
module _ (n : PlainTableNet) (names : List (List ℕ)) where
  -- an output among the names is the net of its root
  abbrev Owns : List (List ℕ) → List ClassId → Type 0
  Owns outputs roots = (k : ℕ) (output : List ℕ) (root : ClassId) → slice_get outputs k ≡ Some output → slice_get roots k ≡ Some root → Contains names output → net_name n root.0 ≡ output

  wires_apart : (outputs : List (List ℕ)) (roots : List ClassId) → Owns outputs roots → Each (λ output. is_among names output ≡ false) (wire_outputs n outputs roots)
  wires_apart [] roots owns = tt
  wires_apart (output ∷ outputs) [] owns = tt
  wires_apart (output ∷ outputs) (root ∷ roots) owns = by_name (bytes_eq (net_name n root.0) output) refl (wires_apart outputs roots (λ k. owns (suc k)))
    where
      apart : bytes_eq (net_name n root.0) output ≡ false → (b : Bool) → is_among names output ≡ b → b ≡ false
      apart is true among = let same = (bytes_eq-Decides (net_name n root.0) output).1 (owns 0 output root refl refl (among_contains names output among)) in cc
      apart is false among = refl

      by_name : (b : Bool) → bytes_eq (net_name n root.0) output ≡ b → Each (λ o. is_among names o ≡ false) (wire_outputs n outputs roots) → Each (λ o. is_among names o ≡ false) ((if b then [] else output ∷ []) ++ wire_outputs n outputs roots)
      by_name true is others = others
      by_name false is others = (apart is (is_among names output) refl, others)

wires_each : (P : List ℕ → Type 0) (n : PlainTableNet) (outputs : List (List ℕ)) (roots : List ClassId) → Each P outputs → Each P (wire_outputs n outputs roots)
wires_each P n [] roots each = tt
wires_each P n (output ∷ outputs) [] each = tt
wires_each P n (output ∷ outputs) (root ∷ roots) each = by_name (bytes_eq (net_name n root.0) output) (wires_each P n outputs roots each.1)
  where
    by_name : (b : Bool) → Each P (wire_outputs n outputs roots) → Each P ((if b then [] else output ∷ []) ++ wire_outputs n outputs roots)
    by_name true others = others
    by_name false others = (each.0, others)

wires_differ : (n : PlainTableNet) (outputs : List (List ℕ)) (roots : List ClassId) → IsDistinct bytes_eq outputs → IsDistinct bytes_eq (wire_outputs n outputs roots)
unfolding IsDistinct
wires_differ n [] roots d = tt
wires_differ n (output ∷ outputs) [] d = tt
wires_differ n (output ∷ outputs) (root ∷ roots) d = by_name (bytes_eq (net_name n root.0) output) (wires_differ n outputs roots d.1)
  where
    by_name : (b : Bool) → IsDistinct bytes_eq (wire_outputs n outputs roots) → IsDistinct bytes_eq ((if b then [] else output ∷ []) ++ wire_outputs n outputs roots)
    by_name true others = others
    by_name false others = (wires_each (λ y. bytes_eq output y ≡ false) n outputs roots d.0, others)

module _ (n : PlainTableNet) (frame : Frame) (s : IsSayable n frame) where
  long : length (net_classes n) ≡ length (names_of_nets n)
  long = one_each n s.one_input s.one_name

  named : (c : ℕ) → Contains (net_classes n) c → IsSignalName (net_name n c)
  named c k = at_some IsSignalName (net_classes n) (names_of_nets n) c long (recursion_from_All IsSignalName (names_of_nets n) s.signals) k

  fair : (t : Table) → Contains n.tables t → IsFairTable n t
  fair t k = record {
    few = All-contains (λ (u : Table). length u.fanins ≤ 6) n.tables t s.few_fanins k;
    fanins = all_map (λ (q : ClassId). IsSignalName (net_name n q.0)) IsSignalName (λ (q : ClassId). net_name n q.0) t.fanins (λ q h. h)
        (contains_all (λ (q : ClassId). IsSignalName (net_name n q.0)) t.fanins (λ q i. named q.0 (s.net.fanins t q.0 k (contains_map (λ (c : ClassId). c.0) t.fanins q i))));
    out = named t.out.0 (Contains-append_right (numbers n.inputs) (table_classes n.tables) t.out.0 (contains_map (λ (u : Table). u.out.0) n.tables t k));
  }

  pub tables_fair : Each (IsFairTable n) n.tables
  tables_fair = contains_all (IsFairTable n) n.tables fair

  pub roots_named : Each (λ (root : ClassId). IsSignalName (net_name n root.0)) n.ports.roots
  roots_named = contains_all (λ (root : ClassId). IsSignalName (net_name n root.0)) n.ports.roots (λ root k. named root.0 (s.net.roots root.0 (contains_map (λ (c : ClassId). c.0) n.ports.roots root k)))

  pub own_inputs : Each IsSignalName (take frame.inputs n.ports.inputs)
  own_inputs =
      recursion_from_All IsSignalName (take frame.inputs n.ports.inputs)
      (subst (All IsSignalName) (take-append-le frame.inputs n.ports.inputs n.names s.frame_fits.own_inputs) (All-take IsSignalName frame.inputs (names_of_nets n) s.signals))

  pub own_outputs : Each IsSignalName (take frame.outputs n.ports.outputs)
  own_outputs = recursion_from_All IsSignalName (take frame.outputs n.ports.outputs) (All-take IsSignalName frame.outputs n.ports.outputs s.outputs)

  -- Names that differ.

  outputs_differ : IsDistinct bytes_eq n.ports.outputs
  outputs_differ = subst (IsDistinct bytes_eq) (sym s.frame_fits.roots) (roots_differ (take frame.outputs n.ports.outputs) frame.latches)

  -- an output that has the name of a net has no wire
  owned : (k : ℕ) (output : List ℕ) (root : ClassId) → slice_get n.ports.outputs k ≡ Some output → slice_get n.ports.roots k ≡ Some root → Contains (names_of_nets n) output → net_name n root.0 ≡ output
  owned k output root at rooted (j, lt, e) =
      name_there (net_classes n) (names_of_nets n) j root.0 output s.net.once (s.owned j k output there at ∙ slice_get_map (λ (c : ClassId). c.0) n.ports.roots k root rooted) there
    where
      there : slice_get (names_of_nets n) j ≡ Some output
      there = slice_get_read (names_of_nets n) (length (names_of_nets n)) j output refl lt (sym e)

  abbrev pub outs : List (List ℕ)
  outs = map (λ (t : Table). net_name n t.out.0) n.tables

  pub all_differ : IsDistinct bytes_eq (n.ports.inputs ++ (outs ++ wire_outputs n n.ports.outputs n.ports.roots))
  all_differ =
      let W = wire_outputs n n.ports.outputs n.ports.roots in
      let same : n.ports.inputs ++ (outs ++ W) ≡ names_of_nets n ++ W =
      ap (λ l. n.ports.inputs ++ (l ++ W)) (tables_named n s.net.once s.one_input s.one_name) ∙ sym (append_assoc n.ports.inputs n.names W) in
      subst (IsDistinct bytes_eq) (sym same)
      (distinct_append (names_of_nets n) W (distinct_of (names_of_nets n) s.differ) (wires_differ n n.ports.outputs n.ports.roots outputs_differ) (wires_apart n (names_of_nets n) n.ports.outputs n.ports.roots owned))
