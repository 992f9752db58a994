-- The statements of a written text are read one after the other.
use Rattle.std.proofs.Common.{ℕ, ◌≡◌, ◌<◌, ◌==◌, Bool, true, false, cond, List, [], ◌∷◌, ◌++◌, length, Some, None, refl, ap, ap₂, sym, ◌∙◌, subst, arith, append_assoc, append-nil}
use Rattle.std.specs.Prelude.{codes}
use Rattle.std.specs.List.{flat_map, AllByRecursion as Each}
use Rattle.std.specs.Option.{option_or}
use Rattle.std.proofs.lemmas.Grind.{flat_map-append}
use Rattle.lw_genlib.specs.Cells.{CellParts}
use Rattle.lw_named_netlist.specs.declared.draft.DraftGate.{DraftGate}
use Rattle.lw_named_netlist.specs.declared.draft.Wire.{Wire}
use Rattle.lw_named_netlist.specs.Closing.{is_among}
use Rattle.lw_verilog.specs.declared.fault.VerilogKind.TheVariants as broken
use Rattle.lw_verilog.specs.declared.kind.Kind.{Kind}
use Rattle.lw_verilog.specs.declared.kind.Kind.TheVariants as kind
use Rattle.lw_verilog.specs.declared.place.Move.{Move}
use Rattle.lw_verilog.specs.declared.place.Place.{Place}
use Rattle.lw_verilog.specs.declared.place.Place.TheVariants as place
use Rattle.lw_verilog.specs.declared.place.Task.{Task}
use Rattle.lw_verilog.specs.declared.place.Task.TheVariants as task
use Rattle.lw_verilog.specs.Grammar.{move_at, moved}
use Rattle.lw_verilog.specs.Pieces.{first_piece, piece}
use Rattle.lw_verilog.specs.Readings.{Reading, after, declared_fault, is_done, name_fault, nothing_read, rule_fault}
use Rattle.lw_verilog.specs.Statements.{Statement, all_in, gates_in, header_in, inputs_in, outputs_in, ports_of, wires_in}
use Rattle.lw_verilog.specs.Texts.{assignment, declaration, escaped, further, joined, wire_text}
use Rattle.lw_verilog.specs.Tokens.{is_gap, is_strange}
use Rattle.lw_verilog.proofs.Spellings.{IsShown, assign-piece, close-piece, comma-piece, equals-piece, input-piece, module-piece, output-piece, reads-key, reads-name, reads-open, reads-sign, semicolon-piece, wire-piece}
use Rattle.lw_verilog.proofs.Stepping.{Reads, reads-both, reads-gap, reads-none}

-- a name that may be escaped, and that keeps the rule of names
pub record IsGood (name : List ℕ) : Type 0 where
  pub shown : IsShown name
  pub rule : name_fault name ≡ None

abbrev pub at : Place → List (List ℕ) → List (List ℕ) → List Statement → Reading
at p names declared said = record { place = p; names = names; declared = declared; said = said }

abbrev pub statement : Task → List (List ℕ) → Statement
statement what names = record { task = what; names = names }

-- names that are none of those before them
abbrev pub AreNew : List (List ℕ) → List (List ℕ) → Type 0
AreNew declared [] = Unit {0}
AreNew declared (name ∷ names) = (is_among declared name ≡ false) × AreNew (declared ++ name ∷ []) names

module _ (cells : List CellParts) where
  -- A sign without a meaning of its own.
  pub skips : (p q : Place) (b : ℕ) (k : Kind) (names declared : List (List ℕ)) (said : List Statement) → ((rest : List ℕ) → first_piece (b ∷ rest) ≡ piece k 1) → is_done p ≡ false → is_gap k ≡ false → is_strange k ≡ false → move_at p k ≡ moved q task.Skip →
      Reads cells (at p names declared said) (b ∷ []) (at q names declared said)
  unfolding rule_fault
  skips p q b k names declared said is opened token known moves =
      reads-sign cells (at p names declared said) b k (record { next = q; task = task.Skip }) is (record { opened = opened; token = token; known = known; moves = moves; rule = refl })

  -- an opening bracket before a byte that is no star
  pub opens : (p q : Place) (names declared : List (List ℕ)) (said : List Statement) (t : Reading) (part : List ℕ) (b : ℕ) (more : List ℕ) → part ≡ b ∷ more → (b == 42) ≡ false → is_done p ≡ false → move_at p kind.Open ≡ moved q task.Skip →
      Reads cells (at q names declared said) part t → Reads cells (at p names declared said) (40 ∷ part) t
  unfolding rule_fault
  opens p q names declared said t part b more begins other opened moves a =
      reads-open cells (at p names declared said) t (record { next = q; task = task.Skip }) part b more begins other (record { opened = opened; token = refl; known = refl; moves = moves; rule = refl }) a

  -- A keyword, with a space behind.
  keys : (p q : Place) (key : List ℕ) (k : Kind) (names declared : List (List ℕ)) (said : List Statement) → ((rest : List ℕ) → first_piece (key ++ 32 ∷ rest) ≡ piece k (length key)) → 0 < length key → is_done p ≡ false → is_gap k ≡ false → is_strange k ≡ false → move_at p k ≡ moved q task.Skip → is_done q ≡ false →
      Reads cells (at p names declared said) (key ++ 32 ∷ []) (at q names declared said)
  unfolding rule_fault
  keys p q key k names declared said is some opened token known moves next =
      reads-key cells (at p names declared said) key k (record { next = q; task = task.Skip }) is some (record { opened = opened; token = token; known = known; moves = moves; rule = refl }) next

  -- a name of the statement
  pub words : (p q : Place) (names declared : List (List ℕ)) (said : List Statement) (name : List ℕ) → IsGood name → is_done p ≡ false → move_at p kind.Name ≡ moved q task.Word → is_done q ≡ false →
      Reads cells (at p names declared said) (escaped name) (at q (names ++ name ∷ []) declared said)
  unfolding rule_fault
  words p q names declared said name good opened moves next =
      reads-name cells (at p names declared said) (record { next = q; task = task.Word }) name good.shown (record { opened = opened; token = refl; known = refl; moves = moves; rule = good.rule }) next

  -- a name that is declared
  declares : (p q : Place) (names declared : List (List ℕ)) (said : List Statement) (name : List ℕ) → IsGood name → is_among declared name ≡ false → is_done p ≡ false → move_at p kind.Name ≡ moved q task.Declare → is_done q ≡ false →
      Reads cells (at p names declared said) (escaped name) (at q (names ++ name ∷ []) (declared ++ name ∷ []) said)
  unfolding rule_fault
  declares p q names declared said name good free opened moves next =
      let rule : option_or (name_fault name) (declared_fault declared name) ≡ None = ap (λ o. option_or o (declared_fault declared name)) good.rule ∙ ap (λ b. cond b (Some broken.Port) None) free in
      reads-name cells (at p names declared said) (record { next = q; task = task.Declare }) name good.shown (record { opened = opened; token = refl; known = refl; moves = moves; rule = rule }) next

  -- The end of a statement and of its line.
  pub ends : (p : Place) (what : Task) (names declared : List (List ℕ)) (said : List Statement) → is_done p ≡ false → move_at p kind.Semicolon ≡ moved place.Item what → rule_fault cells names (ports_of said) declared what (59 ∷ []) ≡ None →
      Reads cells (at p names declared said) (codes ";\n") (after (record { next = place.Item; task = what }) (59 ∷ []) (at p names declared said))
  ends p what names declared said opened moves rule =
      let m : Move = record { next = place.Item; task = what } in
      let r : Reading = at p names declared said in
      reads-both cells r (after m (59 ∷ []) r) (after m (59 ∷ []) r) (59 ∷ []) (10 ∷ [])
      (reads-sign cells r 59 kind.Semicolon m semicolon-piece (record { opened = opened; token = refl; known = refl; moves = moves; rule = rule })) (reads-gap cells (after m (59 ∷ []) r) 10 refl refl)

  -- The header.

  pub comma : (p q : Place) (names declared : List (List ℕ)) (said : List Statement) → is_done p ≡ false → move_at p kind.Comma ≡ moved q task.Skip → is_done q ≡ false → Reads cells (at p names declared said) (44 ∷ 32 ∷ []) (at q names declared said)
  comma p q names declared said opened moves next =
      reads-both cells (at p names declared said) (at q names declared said) (at q names declared said) (44 ∷ []) (32 ∷ []) (skips p q 44 kind.Comma names declared said comma-piece opened refl refl moves) (reads-gap cells (at q names declared said) 32 refl next)

  further-ports : (before ports : List (List ℕ)) → Each IsGood ports → Reads cells (at place.BehindPort before [] []) (further ports) (at place.BehindPort (before ++ ports) [] [])
  unfolding move_at
  further-ports before [] each = subst (λ l. Reads cells (at place.BehindPort before [] []) [] (at place.BehindPort l [] [])) (sym (append-nil before)) (reads-none cells (at place.BehindPort before [] []))
  further-ports before (port ∷ ports) each =
      subst (λ l. Reads cells (at place.BehindPort before [] []) (further (port ∷ ports)) (at place.BehindPort l [] [])) (append_assoc before (port ∷ []) ports)
      (reads-both cells (at place.BehindPort before [] []) (at place.BehindPort (before ++ port ∷ []) [] []) (at place.BehindPort ((before ++ port ∷ []) ++ ports) [] []) (44 ∷ 32 ∷ escaped port) (further ports)
      (reads-both cells (at place.BehindPort before [] []) (at place.NextPort before [] []) (at place.BehindPort (before ++ port ∷ []) [] []) (44 ∷ 32 ∷ []) (escaped port)
      (comma place.BehindPort place.NextPort before [] [] refl refl refl) (words place.NextPort place.BehindPort before [] [] port each.0 refl refl refl))
      (further-ports (before ++ port ∷ []) ports each.1))

  abbrev headed : List (List ℕ) → Reading
  headed names = at place.Item [] [] (statement task.Header names ∷ [])

  -- the end of the header
  header-end : (names : List (List ℕ)) → Reads cells (at place.BehindPorts names [] []) (codes ";\n") (headed names)
  unfolding move_at rule_fault
  header-end names = ends place.BehindPorts task.Header names [] [] refl refl refl

  ports-read : (model : List ℕ) (ports : List (List ℕ)) → Each IsGood ports → Reads cells (at place.BehindModel (model ∷ []) [] []) (40 ∷ (joined ports ++ codes ");\n")) (headed (model ∷ ports))
  unfolding move_at
  ports-read model [] each =
      opens place.BehindModel place.FirstPort (model ∷ []) [] [] (headed (model ∷ [])) (codes ");\n") 41 (codes ";\n") refl refl refl refl
      (reads-both cells (at place.FirstPort (model ∷ []) [] []) (at place.BehindPorts (model ∷ []) [] []) (headed (model ∷ [])) (41 ∷ []) (codes ";\n")
      (skips place.FirstPort place.BehindPorts 41 kind.Close (model ∷ []) [] [] close-piece refl refl refl refl) (header-end (model ∷ [])))
  ports-read model (port ∷ ports) each =
      let all : List (List ℕ) = model ∷ port ∷ ports in
      opens place.BehindModel place.FirstPort (model ∷ []) [] [] (headed all) (joined (port ∷ ports) ++ codes ");\n") 92 (((port ++ 32 ∷ []) ++ further ports) ++ codes ");\n") refl refl refl refl
      (reads-both cells (at place.FirstPort (model ∷ []) [] []) (at place.BehindPort all [] []) (headed all) (joined (port ∷ ports)) (codes ");\n")
      (reads-both cells (at place.FirstPort (model ∷ []) [] []) (at place.BehindPort (model ∷ port ∷ []) [] []) (at place.BehindPort all [] []) (escaped port) (further ports)
      (words place.FirstPort place.BehindPort (model ∷ []) [] [] port each.0 refl refl refl) (further-ports (model ∷ port ∷ []) ports each.1))
      (reads-both cells (at place.BehindPort all [] []) (at place.BehindPorts all [] []) (headed all) (41 ∷ []) (codes ";\n")
      (skips place.BehindPort place.BehindPorts 41 kind.Close all [] [] close-piece refl refl refl refl) (header-end all)))

  pub header-reads : (model : List ℕ) (ports : List (List ℕ)) → IsGood model → Each IsGood ports → Reads cells nothing_read (codes "module " ++ (escaped model ++ (40 ∷ (joined ports ++ codes ");\n")))) (headed (model ∷ ports))
  unfolding move_at
  header-reads model ports good each =
      reads-both cells nothing_read (at place.ModelName [] [] []) (headed (model ∷ ports)) (codes "module ") (escaped model ++ (40 ∷ (joined ports ++ codes ");\n")))
      (keys place.Begin place.ModelName (codes "module") kind.Module [] [] [] module-piece (omega arith) refl refl refl refl refl)
      (reads-both cells (at place.ModelName [] [] []) (at place.BehindModel (model ∷ []) [] []) (headed (model ∷ ports)) (escaped model) (40 ∷ (joined ports ++ codes ");\n"))
      (words place.ModelName place.BehindModel [] [] [] model good refl refl refl) (ports-read model ports each))

  -- The statements behind the header: what a part of the text says, where these are declared
  -- before it and those behind it.

  pub record Says (before behind : List (List ℕ)) (text : List ℕ) (inputs outputs : List (List ℕ)) (gates : List DraftGate) (wires : List Wire) : Type 0 where
    pub said : List Statement
    pub reads : (first : List Statement) → Reads cells (at place.Item [] before first) text (at place.Item [] behind (first ++ said))
    pub no_header : all_in header_in said ≡ []
    pub inputs_are : all_in inputs_in said ≡ inputs
    pub outputs_are : all_in outputs_in said ≡ outputs
    pub gates_are : all_in (gates_in cells) said ≡ gates
    pub wires_are : all_in wires_in said ≡ wires

  parts-both : {A : Type 0} (part : Task → List (List ℕ) → List A) (a b : List Statement) (x y : List A) → all_in part a ≡ x → all_in part b ≡ y → all_in part (a ++ b) ≡ x ++ y
  parts-both part a b x y e f = flat_map-append (λ (s : Statement). part s.task s.names) a b ∙ ap₂ (λ u v. u ++ v) e f

  pub says-none : (declared : List (List ℕ)) → Says declared declared [] [] [] [] []
  says-none declared = record {
    said = [];
    reads = λ first. subst (λ l. Reads cells (at place.Item [] declared first) [] (at place.Item [] declared l)) (sym (append-nil first)) (reads-none cells (at place.Item [] declared first));
    no_header = refl;
    inputs_are = refl;
    outputs_are = refl;
    gates_are = refl;
    wires_are = refl;
  }

  pub says-both : (d e f : List (List ℕ)) (a b : List ℕ) (is js os ps : List (List ℕ)) (gs hs : List DraftGate) (ws vs : List Wire) → Says d e a is os gs ws → Says e f b js ps hs vs → Says d f (a ++ b) (is ++ js) (os ++ ps) (gs ++ hs) (ws ++ vs)
  says-both d e f a b is js os ps gs hs ws vs x y = record {
    said = x.said ++ y.said;
    reads = λ first.
        subst (λ l. Reads cells (at place.Item [] d first) (a ++ b) (at place.Item [] f l)) (append_assoc first x.said y.said)
        (reads-both cells (at place.Item [] d first) (at place.Item [] e (first ++ x.said)) (at place.Item [] f ((first ++ x.said) ++ y.said)) a b (x.reads first) (y.reads (first ++ x.said)));
    no_header = parts-both header_in x.said y.said [] [] x.no_header y.no_header;
    inputs_are = parts-both inputs_in x.said y.said is js x.inputs_are y.inputs_are;
    outputs_are = parts-both outputs_in x.said y.said os ps x.outputs_are y.outputs_are;
    gates_are = parts-both (gates_in cells) x.said y.said gs hs x.gates_are y.gates_are;
    wires_are = parts-both wires_in x.said y.said ws vs x.wires_are y.wires_are;
  }

  -- Declarations.

  input-says : (declared : List (List ℕ)) (name : List ℕ) → IsGood name → is_among declared name ≡ false → Says declared (declared ++ name ∷ []) (declaration (codes "input ") name) (name ∷ []) [] [] []
  unfolding move_at rule_fault
  input-says declared name good free = record {
    said = statement task.Inputs (name ∷ []) ∷ [];
    reads = λ first.
        let next : List (List ℕ) = declared ++ name ∷ [] in
        let behind : Reading = at place.Item [] next (first ++ statement task.Inputs (name ∷ []) ∷ []) in
        reads-both cells (at place.Item [] declared first) (at place.FirstInput [] declared first) behind (codes "input ") (escaped name ++ codes ";\n")
        (keys place.Item place.FirstInput (codes "input") kind.Input [] declared first input-piece (omega arith) refl refl refl refl refl)
        (reads-both cells (at place.FirstInput [] declared first) (at place.BehindInput (name ∷ []) next first) behind (escaped name) (codes ";\n")
        (declares place.FirstInput place.BehindInput [] declared first name good free refl refl refl) (ends place.BehindInput task.Inputs (name ∷ []) next first refl refl refl));
    no_header = refl;
    inputs_are = refl;
    outputs_are = refl;
    gates_are = refl;
    wires_are = refl;
  }

  output-says : (declared : List (List ℕ)) (name : List ℕ) → IsGood name → is_among declared name ≡ false → Says declared (declared ++ name ∷ []) (declaration (codes "output ") name) [] (name ∷ []) [] []
  unfolding move_at rule_fault
  output-says declared name good free = record {
    said = statement task.Outputs (name ∷ []) ∷ [];
    reads = λ first.
        let next : List (List ℕ) = declared ++ name ∷ [] in
        let behind : Reading = at place.Item [] next (first ++ statement task.Outputs (name ∷ []) ∷ []) in
        reads-both cells (at place.Item [] declared first) (at place.FirstOutput [] declared first) behind (codes "output ") (escaped name ++ codes ";\n")
        (keys place.Item place.FirstOutput (codes "output") kind.Output [] declared first output-piece (omega arith) refl refl refl refl refl)
        (reads-both cells (at place.FirstOutput [] declared first) (at place.BehindOutput (name ∷ []) next first) behind (escaped name) (codes ";\n")
        (declares place.FirstOutput place.BehindOutput [] declared first name good free refl refl refl) (ends place.BehindOutput task.Outputs (name ∷ []) next first refl refl refl));
    no_header = refl;
    inputs_are = refl;
    outputs_are = refl;
    gates_are = refl;
    wires_are = refl;
  }

  pub inputs-say : (declared names : List (List ℕ)) → Each IsGood names → AreNew declared names → Says declared (declared ++ names) (flat_map (declaration (codes "input ")) names) names [] [] []
  inputs-say declared [] each new = subst (λ d. Says declared d [] [] [] [] []) (sym (append-nil declared)) (says-none declared)
  inputs-say declared (name ∷ names) each new =
      let next : List (List ℕ) = declared ++ name ∷ [] in
      subst (λ d. Says declared d (flat_map (declaration (codes "input ")) (name ∷ names)) (name ∷ names) [] [] []) (append_assoc declared (name ∷ []) names)
      (says-both declared next (next ++ names) (declaration (codes "input ") name) (flat_map (declaration (codes "input ")) names) (name ∷ []) names [] [] [] [] [] []
      (input-says declared name each.0 new.0) (inputs-say next names each.1 new.1))

  pub outputs-say : (declared names : List (List ℕ)) → Each IsGood names → AreNew declared names → Says declared (declared ++ names) (flat_map (declaration (codes "output ")) names) [] names [] []
  outputs-say declared [] each new = subst (λ d. Says declared d [] [] [] [] []) (sym (append-nil declared)) (says-none declared)
  outputs-say declared (name ∷ names) each new =
      let next : List (List ℕ) = declared ++ name ∷ [] in
      subst (λ d. Says declared d (flat_map (declaration (codes "output ")) (name ∷ names)) [] (name ∷ names) [] []) (append_assoc declared (name ∷ []) names)
      (says-both declared next (next ++ names) (declaration (codes "output ") name) (flat_map (declaration (codes "output ")) names) [] [] (name ∷ []) names [] [] [] []
      (output-says declared name each.0 new.0) (outputs-say next names each.1 new.1))

  wire-says : (declared : List (List ℕ)) (name : List ℕ) → IsGood name → Says declared declared (declaration (codes "wire ") name) [] [] [] []
  unfolding move_at rule_fault
  wire-says declared name good = record {
    said = statement task.Forget (name ∷ []) ∷ [];
    reads = λ first.
        let behind : Reading = at place.Item [] declared (first ++ statement task.Forget (name ∷ []) ∷ []) in
        reads-both cells (at place.Item [] declared first) (at place.NextWire [] declared first) behind (codes "wire ") (escaped name ++ codes ";\n")
        (keys place.Item place.NextWire (codes "wire") kind.Wire [] declared first wire-piece (omega arith) refl refl refl refl refl)
        (reads-both cells (at place.NextWire [] declared first) (at place.BehindWire (name ∷ []) declared first) behind (escaped name) (codes ";\n")
        (words place.NextWire place.BehindWire [] declared first name good refl refl refl) (ends place.BehindWire task.Forget (name ∷ []) declared first refl refl refl));
    no_header = refl;
    inputs_are = refl;
    outputs_are = refl;
    gates_are = refl;
    wires_are = refl;
  }

  pub wires-say : (declared outputs names : List (List ℕ)) → Each IsGood names → Says declared declared (flat_map (wire_text outputs) names) [] [] [] []
  wires-say declared outputs [] each = says-none declared
  wires-say declared outputs (name ∷ names) each =
      says-both declared declared declared (wire_text outputs name) (flat_map (wire_text outputs) names) [] [] [] [] [] [] [] []
      (own (is_among outputs name)) (wires-say declared outputs names each.1)
    where
      own : (b : Bool) → Says declared declared (cond b [] (declaration (codes "wire ") name)) [] [] [] []
      own true = says-none declared
      own false = wire-says declared name each.0

  -- Assignments.

  pub assignment-says : (declared : List (List ℕ)) (output net : List ℕ) → IsGood output → IsGood net → Says declared declared (assignment output net) [] [] [] (record { from = net; to = output } ∷ [])
  unfolding move_at rule_fault
  assignment-says declared output net good fine = record {
    said = statement task.Assignment (output ∷ net ∷ []) ∷ [];
    reads = λ first.
        let behind : Reading = at place.Item [] declared (first ++ statement task.Assignment (output ∷ net ∷ []) ∷ []) in
        reads-both cells (at place.Item [] declared first) (at place.Target [] declared first) behind (codes "assign ") (escaped output ++ (codes "= " ++ (escaped net ++ codes ";\n")))
        (keys place.Item place.Target (codes "assign") kind.Assign [] declared first assign-piece (omega arith) refl refl refl refl refl)
        (reads-both cells (at place.Target [] declared first) (at place.BehindTarget (output ∷ []) declared first) behind (escaped output) (codes "= " ++ (escaped net ++ codes ";\n"))
        (words place.Target place.BehindTarget [] declared first output good refl refl refl)
        (reads-both cells (at place.BehindTarget (output ∷ []) declared first) (at place.Source (output ∷ []) declared first) behind (codes "= ") (escaped net ++ codes ";\n")
        (reads-both cells (at place.BehindTarget (output ∷ []) declared first) (at place.Source (output ∷ []) declared first) (at place.Source (output ∷ []) declared first) (61 ∷ []) (32 ∷ [])
        (skips place.BehindTarget place.Source 61 kind.Equals (output ∷ []) declared first equals-piece refl refl refl refl) (reads-gap cells (at place.Source (output ∷ []) declared first) 32 refl refl))
        (reads-both cells (at place.Source (output ∷ []) declared first) (at place.BehindSource (output ∷ net ∷ []) declared first) behind (escaped net) (codes ";\n")
        (words place.Source place.BehindSource (output ∷ []) declared first net fine refl refl refl) (ends place.BehindSource task.Assignment (output ∷ net ∷ []) declared first refl refl refl))));
    no_header = refl;
    inputs_are = refl;
    outputs_are = refl;
    gates_are = refl;
    wires_are = refl;
  }
