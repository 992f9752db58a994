-- The instances and the assignments of a written text are read as gates and wires.
use Rattle.std.proofs.Common.{ℕ, ◌≡◌, ◌<◌, ◌≤◌, ◌+◌, ◌-◌, ◌&&◌, ◌||◌, Bool, true, false, not, cond, List, [], ◌∷◌, ◌++◌, length, map, Some, None, refl, ap, ap₂, sym, ◌∙◌, subst, arith, append_assoc}
use Rattle.std.specs.Prelude.{codes, option_map, position, slice_get}
use Rattle.std.specs.List.{flat_map, list_all, list_any, IsDistinct, AllByRecursion as Each}
use Rattle.std.specs.Str.{bytes_eq}
use Rattle.std.proofs.Math.Bool.{or-true}
use Rattle.std.proofs.lemmas.List.{map-append}
use Rattle.std.proofs.lemmas.Map.Keys.{IsDistinct-head, IsDistinct-tail}
use Rattle.std.proofs.lemmas.Option.{slice_get-map}
use Rattle.lw_facts.proofs.Lists.{bytes_eq_same}
use Rattle.lw_pool.specs.declared.id.NetId.{NetId}
use Rattle.lw_genlib.specs.Cells.{CellParts, IsLibrary, names_of}
use Rattle.lw_named_netlist.specs.declared.draft.DraftGate.{DraftGate}
use Rattle.lw_netlist.specs.declared.gate.Gate.{Gate}
use Rattle.lw_netlist.specs.declared.gate.Port.{Port}
use Rattle.lw_named_netlist.specs.Closing.{is_among}
use Rattle.lw_mapped.specs.GateLines.{is_formal}
use Rattle.lw_mapped.specs.Texts.{net_name}
use Rattle.lw_mapped.proofs.CellLemmas.{found-at}
use Rattle.lw_mapped.proofs.Driving.{wires_of}
use Rattle.lw_mapped.proofs.Items.{named_gate, port_wire}
use Rattle.lw_verilog.specs.declared.fault.VerilogKind.TheVariants as broken
use Rattle.lw_verilog.specs.declared.kind.Kind.TheVariants as kind
use Rattle.lw_verilog.specs.declared.place.Place.{Place}
use Rattle.lw_verilog.specs.declared.place.Place.TheVariants as place
use Rattle.lw_verilog.specs.declared.place.Task.TheVariants as task
use Rattle.lw_verilog.specs.Grammar.{move_at, moved}
use Rattle.lw_verilog.specs.Readings.{Reading, cell_fault, cell_in, cell_numbered, formal_fault, gives_all, is_done, missing_fault, rule_fault}
use Rattle.lw_verilog.specs.Statements.{Statement, Tie, gate_at, gate_by, gate_if, gate_of, is_for, net_for, pairs, ties_in}
use Rattle.lw_verilog.specs.Texts.{assignment, assignment_text, escaped, gate_line, gate_text, gates_text, instance_name, passed, pins_text, tie_text}
use Rattle.lw_verilog.specs.Windows.{number_limit}
use Rattle.lw_verilog.proofs.Leading.{IsGood, Says, assignment-says, at, comma, ends, opens, says-both, says-none, skips, statement, words}
use Rattle.lw_verilog.proofs.Named.{among-at}
use Rattle.lw_verilog.proofs.PutParts.{passed-le}
use Rattle.lw_verilog.proofs.Spellings.{IsShown, close-piece, instance-named, point-piece, reads-instance, reads-name}
use Rattle.lw_verilog.proofs.Stepping.{Reads, reads-both}
use Rattle.lw_mapped.proofs.GateItems.{among-self}

-- The connections of a gate.

abbrev pub pin_ties : List (List ℕ) → List (List ℕ) → List NetId → List Tie
pin_ties names [] nets = []
pin_ties names (pin ∷ pins) [] = []
pin_ties names (pin ∷ pins) (net ∷ nets) = record { formal = pin; net = net_name names net } ∷ pin_ties names pins nets

abbrev pub out_tie : List (List ℕ) → Gate → CellParts → Tie
out_tie names gate cell = record { formal = cell.output; net = net_name names gate.out }

abbrev formal_in : Tie → List ℕ
formal_in t = t.formal

abbrev net_in : Tie → List ℕ
net_in t = t.net

abbrev text_of : Tie → List ℕ
text_of t = tie_text t.formal t.net

abbrev with_comma : Tie → List ℕ
with_comma t = text_of t ++ 44 ∷ 32 ∷ []

pins-are : (names pins : List (List ℕ)) (nets : List NetId) → pins_text names pins nets ≡ flat_map with_comma (pin_ties names pins nets)
pins-are names [] nets = refl
pins-are names (pin ∷ pins) [] = refl
pins-are names (pin ∷ pins) (net ∷ nets) = ap (λ l. (tie_text pin (net_name names net) ++ 44 ∷ 32 ∷ []) ++ l) (pins-are names pins nets)

formals-are : (names pins : List (List ℕ)) (nets : List NetId) → length nets ≡ length pins → map formal_in (pin_ties names pins nets) ≡ pins
formals-are names [] nets same = refl
formals-are names (pin ∷ pins) [] same = absurd (omega arith)
formals-are names (pin ∷ pins) (net ∷ nets) same = ap (λ l. pin ∷ l) (formals-are names pins nets (omega arith))

nets-are : (names pins : List (List ℕ)) (nets : List NetId) → length nets ≡ length pins → map net_in (pin_ties names pins nets) ≡ map (net_name names) nets
nets-are names [] [] same = refl
nets-are names [] (net ∷ nets) same = absurd (omega arith)
nets-are names (pin ∷ pins) [] same = absurd (omega arith)
nets-are names (pin ∷ pins) (net ∷ nets) same = ap (λ l. net_name names net ∷ l) (nets-are names pins nets (omega arith))

-- their names, one after the other
abbrev flat : List Tie → List (List ℕ)
flat [] = []
flat (t ∷ ts) = t.formal ∷ t.net ∷ flat ts

flat-more : (ts : List Tie) (t : Tie) → (flat ts ++ t.formal ∷ []) ++ t.net ∷ [] ≡ flat (ts ++ t ∷ [])
flat-more [] t = refl
flat-more (s ∷ ts) t = ap (λ l. s.formal ∷ s.net ∷ l) (flat-more ts t)

pairs-flat : (ts : List Tie) → pairs (flat ts) ≡ ts
pairs-flat [] = refl
pairs-flat (t ∷ ts) = ap (λ l. t ∷ l) (pairs-flat ts)

-- Each is given once.

abbrev AreFresh : List Tie → List Tie → Type 0
AreFresh ts [] = Unit {0}
AreFresh ts (t ∷ us) = (list_any (is_for t.formal) ts ≡ false) × AreFresh (ts ++ t ∷ []) us

none-for : (ts : List Tie) (t : Tie) (us : List Tie) → IsDistinct bytes_eq (map formal_in (ts ++ t ∷ us)) → list_any (is_for t.formal) ts ≡ false
none-for [] t us distinct = refl
none-for (s ∷ ts) t us distinct =
    ap₂ (λ a b. a || b) (pick ts (IsDistinct-head bytes_eq s.formal (map formal_in (ts ++ t ∷ us)) distinct))
    (none-for ts t us (IsDistinct-tail bytes_eq s.formal (map formal_in (ts ++ t ∷ us)) distinct))
  where
    pick : (xs : List Tie) → Each (λ y. bytes_eq s.formal y ≡ false) (map formal_in (xs ++ t ∷ us)) → bytes_eq s.formal t.formal ≡ false
    pick [] each = each.0
    pick (x ∷ xs) each = pick xs each.1

fresh-all : (ts us : List Tie) → IsDistinct bytes_eq (map formal_in (ts ++ us)) → AreFresh ts us
fresh-all ts [] distinct = tt
fresh-all ts (t ∷ us) distinct = (
  none-for ts t us distinct,
  fresh-all (ts ++ t ∷ []) us (subst (λ l. IsDistinct bytes_eq (map formal_in l)) (sym (append_assoc ts (t ∷ []) us)) distinct),
)

gives-one : (before : List Tie) (t : Tie) (after : List Tie) → list_any (is_for t.formal) (before ++ t ∷ after) ≡ true
gives-one [] t after = ap (λ b. b || list_any (is_for t.formal) after) (bytes_eq_same t.formal t.formal refl)
gives-one (s ∷ before) t after = ap (λ b. is_for t.formal s || b) (gives-one before t after) ∙ or-true (is_for t.formal s)

gives-each : (before ts after : List Tie) → list_all (λ pin. list_any (is_for pin) (before ++ (ts ++ after))) (map formal_in ts) ≡ true
gives-each before [] after = refl
gives-each before (t ∷ ts) after =
    ap₂ (λ p q. p && q) (gives-one before t (ts ++ after))
    (ap (λ l. list_all (λ pin. list_any (is_for pin) l) (map formal_in ts)) (sym (append_assoc before (t ∷ []) (ts ++ after))) ∙ gives-each (before ++ t ∷ []) ts after)

net-found : (before : List Tie) (t : Tie) (after : List Tie) → list_any (is_for t.formal) before ≡ false → net_for (before ++ t ∷ after) t.formal ≡ t.net
net-found [] t after none = ap (λ b. cond b t.net (net_for after t.formal)) (bytes_eq_same t.formal t.formal refl)
net-found (s ∷ before) t after none = by_test (is_for t.formal s) none (net-found before t after)
  where
    by_test : (b : Bool) → (b || list_any (is_for t.formal) before) ≡ false → (list_any (is_for t.formal) before ≡ false → net_for (before ++ t ∷ after) t.formal ≡ t.net) → cond b s.net (net_for (before ++ t ∷ after) t.formal) ≡ t.net
    by_test true e rest = cc
    by_test false e rest = rest e

nets-each : (before ts after : List Tie) → AreFresh before ts → map (net_for (before ++ (ts ++ after))) (map formal_in ts) ≡ map net_in ts
nets-each before [] after fresh = refl
nets-each before (t ∷ ts) after fresh =
    ap₂ (λ n ns. n ∷ ns) (net-found before t (ts ++ after) fresh.0)
    (ap (λ l. map (net_for l) (map formal_in ts)) (sym (append_assoc before (t ∷ []) (ts ++ after))) ∙ nets-each (before ++ t ∷ []) ts after fresh.1)

-- A connection that may be written: a pin or the output of the cell, and a name of the format.
pub record IsTieOf (cell : CellParts) (t : Tie) : Type 0 where
  pub formal : IsShown t.formal
  pub known : is_formal cell t.formal ≡ true
  pub net : IsGood t.net

module _ (cells : List CellParts) (cell : CellParts) (found : cell_numbered cells (position (bytes_eq cell.name) (names_of cells)) ≡ Some cell) (own : List ℕ) (declared : List (List ℕ)) (first : List Statement) where
  -- the names of the instance so far
  abbrev pub names_with : List Tie → List (List ℕ)
  names_with ts = cell.name ∷ own ∷ flat ts

  abbrev pub behind : Place → List Tie → Reading
  behind p ts = at p (names_with ts) declared first

  tie-reads : (p : Place) (ts : List Tie) (t : Tie) → is_done p ≡ false → move_at p kind.Point ≡ moved place.Pin task.Skip → IsTieOf cell t → list_any (is_for t.formal) ts ≡ false → Reads cells (behind p ts) (text_of t) (behind place.BehindTie (ts ++ t ∷ []))
  unfolding move_at rule_fault
  tie-reads p ts t opened moves is free =
      let names : List (List ℕ) = names_with ts in
      let with_pin : List (List ℕ) = names ++ t.formal ∷ [] in
      let with_net : List (List ℕ) = with_pin ++ t.net ∷ [] in
      let end : Reading = at place.BehindTie with_net declared first in
      let rule : formal_fault (cell_in cells names) (ties_in names) t.formal ≡ None =
      ap₂ (λ o us. formal_fault o us t.formal) found (pairs-flat ts)
      ∙ (ap (λ b. cond (not b) (Some broken.PinUnknown) (cond (list_any (is_for t.formal) ts) (Some broken.PinTwice) None)) is.known ∙ ap (λ b. cond b (Some broken.PinTwice) None) free) in
      subst (λ l. Reads cells (behind p ts) (text_of t) (at place.BehindTie (cell.name ∷ own ∷ l) declared first)) (flat-more ts t)
      (reads-both cells (behind p ts) (behind place.Pin ts) end (46 ∷ []) (escaped t.formal ++ (40 ∷ escaped t.net ++ 41 ∷ []))
      (skips cells p place.Pin 46 kind.Point names declared first point-piece opened refl refl moves)
      (reads-both cells (behind place.Pin ts) (at place.BehindPin with_pin declared first) end (escaped t.formal) (40 ∷ escaped t.net ++ 41 ∷ [])
      (reads-name cells (behind place.Pin ts) (record { next = place.BehindPin; task = task.Pin }) t.formal is.formal (record { opened = refl; token = refl; known = refl; moves = refl; rule = rule }) refl)
      (opens cells place.BehindPin place.Net with_pin declared first end (escaped t.net ++ 41 ∷ []) 92 ((t.net ++ 32 ∷ []) ++ 41 ∷ []) refl refl refl refl
      (reads-both cells (at place.Net with_pin declared first) (at place.BehindNet with_net declared first) end (escaped t.net) (41 ∷ [])
      (words cells place.Net place.BehindNet with_pin declared first t.net is.net refl refl refl) (skips cells place.BehindNet place.BehindTie 41 kind.Close with_net declared first close-piece refl refl refl refl)))))

  pub ties-read : (us ts : List Tie) (out : Tie) (p : Place) → is_done p ≡ false → move_at p kind.Point ≡ moved place.Pin task.Skip → Each (IsTieOf cell) us → IsTieOf cell out → AreFresh ts (us ++ out ∷ []) →
      Reads cells (behind p ts) (flat_map with_comma us ++ text_of out) (behind place.BehindTie (ts ++ (us ++ out ∷ [])))
  unfolding move_at
  ties-read [] ts out p opened moves each is fresh = tie-reads p ts out opened moves is fresh.0
  ties-read (t ∷ us) ts out p opened moves each is fresh =
      let more : List Tie = ts ++ t ∷ [] in
      let end : Reading = behind place.BehindTie (more ++ (us ++ out ∷ [])) in
      subst (λ l. Reads cells (behind p ts) l (behind place.BehindTie (ts ++ (t ∷ us ++ out ∷ [])))) (sym (append_assoc (with_comma t) (flat_map with_comma us) (text_of out)))
      (subst (λ l. Reads cells (behind p ts) (with_comma t ++ (flat_map with_comma us ++ text_of out)) (behind place.BehindTie l)) (append_assoc ts (t ∷ []) (us ++ out ∷ []))
      (reads-both cells (behind p ts) (behind place.NextTie more) end (with_comma t) (flat_map with_comma us ++ text_of out)
      (reads-both cells (behind p ts) (behind place.BehindTie more) (behind place.NextTie more) (text_of t) (44 ∷ 32 ∷ [])
      (tie-reads p ts t opened moves each.0 fresh.0) (comma cells place.BehindTie place.NextTie (names_with more) declared first refl refl refl))
      (ties-read us more out place.NextTie refl refl each.1 is fresh.1)))

  -- the connections and the end of the instance
  pub instance-ends : (us : List Tie) (out : Tie) → Each (IsTieOf cell) us → IsTieOf cell out → AreFresh [] (us ++ out ∷ []) → gives_all (us ++ out ∷ []) cell ≡ true →
      Reads cells (at place.BehindInstance (cell.name ∷ own ∷ []) declared first) (40 ∷ (flat_map with_comma us ++ (text_of out ++ codes ");\n"))) (at place.Item [] declared (first ++ statement task.Instance (names_with (us ++ out ∷ [])) ∷ []))
  unfolding move_at rule_fault
  instance-ends us out each is fresh gives =
      let all : List Tie = us ++ out ∷ [] in
      let part : List ℕ = flat_map with_comma us ++ (text_of out ++ codes ");\n") in
      let end : Reading = at place.Item [] declared (first ++ statement task.Instance (names_with all) ∷ []) in
      let rule : missing_fault (cell_in cells (names_with all)) (ties_in (names_with all)) ≡ None =
      ap₂ (λ o ts. missing_fault o ts) found (pairs-flat all) ∙ ap (λ b. cond b None (Some broken.PinMissing)) gives in
      let begins = begin us in
      opens cells place.BehindInstance place.FirstTie (cell.name ∷ own ∷ []) declared first end part 46 begins.0 begins.1 refl refl refl
      (subst (λ l. Reads cells (behind place.FirstTie []) l end) (append_assoc (flat_map with_comma us) (text_of out) (codes ");\n"))
      (reads-both cells (behind place.FirstTie []) (behind place.BehindTie all) end (flat_map with_comma us ++ text_of out) (codes ");\n")
      (ties-read us [] out place.FirstTie refl refl each is fresh)
      (reads-both cells (behind place.BehindTie all) (behind place.BehindTies all) end (41 ∷ []) (codes ";\n")
      (skips cells place.BehindTie place.BehindTies 41 kind.Close (names_with all) declared first close-piece refl refl refl refl)
      (ends cells place.BehindTies task.Instance (names_with all) declared first refl refl rule))))
    where
      begin : (us : List Tie) → (more : List ℕ) × (flat_map with_comma us ++ (text_of out ++ codes ");\n") ≡ 46 ∷ more)
      begin [] = (_, refl)
      begin (u ∷ us) = (_, refl)

-- A gate that may be written.
pub record IsSayable (cells : List CellParts) (names : List (List ℕ)) (gate : Gate) : Type 0 where
  pub cell : CellParts
  pub found : slice_get cells gate.cell.0 ≡ Some cell
  pub one_each : length gate.pins ≡ length cell.pins
  pub cell_name : IsShown cell.name
  pub pins : Each IsShown cell.pins
  pub output : IsShown cell.output
  pub differ : IsDistinct bytes_eq (cell.pins ++ cell.output ∷ [])
  pub pin_nets : Each (λ (net : NetId). IsGood (net_name names net)) gate.pins
  pub out_net : IsGood (net_name names gate.out)

module _ (cells : List CellParts) (lib : IsLibrary cells) (names : List (List ℕ)) where
  ties-are : (cell : CellParts) (pins : List (List ℕ)) (nets : List NetId) → Each IsShown pins → Each (λ pin. is_among cell.pins pin ≡ true) pins → Each (λ (net : NetId). IsGood (net_name names net)) nets → Each (IsTieOf cell) (pin_ties names pins nets)
  ties-are cell [] nets shown among good = tt
  ties-are cell (pin ∷ pins) [] shown among good = tt
  ties-are cell (pin ∷ pins) (net ∷ nets) shown among good = (
    record { formal = shown.0; known = ap (λ b. b || bytes_eq pin cell.output) among.0; net = good.0 },
    ties-are cell pins nets shown.1 among.1 good.1,
  )

  gate-says : (declared : List (List ℕ)) (number : ℕ) (gate : Gate) → number < number_limit → IsSayable cells names gate → Says cells declared declared (gate_text cells names number gate) [] [] (named_gate names gate ∷ []) []
  unfolding move_at rule_fault
  gate-says declared number gate lt is =
      let cell : CellParts = is.cell in
      let us : List Tie = pin_ties names cell.pins gate.pins in
      let out : Tie = out_tie names gate cell in
      let all : List Tie = us ++ out ∷ [] in
      let own : List ℕ = instance_name number in
      let name_at : slice_get (names_of cells) gate.cell.0 ≡ Some cell.name = slice_get-map (λ (c : CellParts). c.name) cells gate.cell.0 ∙ ap (option_map (λ (c : CellParts). c.name)) is.found in
      let place_is : position (bytes_eq cell.name) (names_of cells) ≡ Some gate.cell.0 = found-at (names_of cells) gate.cell.0 cell.name lib.names_differ name_at in
      let found : cell_numbered cells (position (bytes_eq cell.name) (names_of cells)) ≡ Some cell = ap (cell_numbered cells) place_is ∙ is.found in
      let formals : map formal_in us ≡ cell.pins = formals-are names cell.pins gate.pins is.one_each in
      let all_formals : map formal_in all ≡ cell.pins ++ cell.output ∷ [] = map-append formal_in us (out ∷ []) ∙ ap (λ l. l ++ cell.output ∷ []) formals in
      let distinct : IsDistinct bytes_eq (map formal_in all) = subst (IsDistinct bytes_eq) (sym all_formals) is.differ in
      let out_is : IsTieOf cell out = record { formal = is.output; known = ap (λ b. is_among cell.pins cell.output || b) (bytes_eq_same cell.output cell.output refl) ∙ or-true (is_among cell.pins cell.output); net = is.out_net } in
      let pins_given : list_all (λ pin. list_any (is_for pin) all) cell.pins ≡ true = ap (list_all (λ pin. list_any (is_for pin) all)) (sym formals) ∙ gives-each [] us (out ∷ []) in
      let gives : gives_all all cell ≡ true = ap₂ (λ a b. a && b) pins_given (gives-one us out []) in
      let nets : map (net_for all) cell.pins ≡ map (net_name names) gate.pins =
      ap (map (net_for all)) (sym formals) ∙ (nets-each [] us (out ∷ []) (front us [] out distinct) ∙ nets-are names cell.pins gate.pins is.one_each) in
      let out_net : net_for all cell.output ≡ net_name names gate.out = net-found us out [] (none-for us out [] distinct) in
      let again : gate_of gate.cell.0 cell all ≡ named_gate names gate = ap₂ (λ ps o. let g : DraftGate = record { cell = gate.cell; pins = ps; out = o } in g) nets out_net in
      let said : List Statement = statement task.Instance (cell.name ∷ own ∷ flat all) ∷ [] in
      let gates : gate_by cells (cell.name ∷ own ∷ flat all) ≡ named_gate names gate ∷ [] =
      ap₂ (λ ts o. gate_if cells ts o) (pairs-flat all) place_is ∙ (ap (gate_at gate.cell.0 all) is.found ∙ ap (λ g. g ∷ []) again) in
      subst (λ o. Says cells declared declared (gate_line names number gate o) [] [] (named_gate names gate ∷ []) []) (sym is.found)
      record {
        said = said;
        reads = λ first.
            let r0 : Reading = at place.Item [] declared first in
            let r1 : Reading = at place.InstanceName (cell.name ∷ []) declared first in
            let r2 : Reading = at place.BehindInstance (cell.name ∷ own ∷ []) declared first in
            let r3 : Reading = at place.Item [] declared (first ++ said) in
            let connections : List ℕ = 40 ∷ (pins_text names cell.pins gate.pins ++ (text_of out ++ codes ");\n")) in
            let cell_rule : cell_fault cells cell.name ≡ None = ap (λ b. cond b None (Some broken.NoCell)) (among-at (names_of cells) gate.cell.0 cell.name name_at) in
            reads-both cells r0 r1 r3 (escaped cell.name) (own ++ (32 ∷ connections))
            (reads-name cells r0 (record { next = place.InstanceName; task = task.Cell }) cell.name is.cell_name (record { opened = refl; token = refl; known = refl; moves = refl; rule = cell_rule }) refl)
            (subst (λ l. Reads cells r1 l r3) (append_assoc own (32 ∷ []) connections)
            (reads-both cells r1 r2 r3 (own ++ 32 ∷ []) connections
            (reads-instance cells r1 (record { next = place.BehindInstance; task = task.Word }) number lt (record { opened = refl; token = refl; known = refl; moves = refl; rule = instance-named number lt }) refl)
            (subst (λ l. Reads cells r2 (40 ∷ (l ++ (text_of out ++ codes ");\n"))) r3) (sym (pins-are names cell.pins gate.pins))
            (instance-ends cells cell found own declared first us out (ties-are cell cell.pins gate.pins is.pins (among-self cell.pins) is.pin_nets) out_is (fresh-all [] all distinct) gives))));
        no_header = refl;
        inputs_are = refl;
        outputs_are = refl;
        gates_are = ap (λ l. l ++ []) gates;
        wires_are = refl;
      }
    where
      front : (us before : List Tie) (out : Tie) → IsDistinct bytes_eq (map formal_in (before ++ (us ++ out ∷ []))) → AreFresh before us
      front [] before out distinct = tt
      front (u ∷ us) before out distinct = (
        none-for before u (us ++ out ∷ []) distinct,
        front us (before ++ u ∷ []) out (subst (λ l. IsDistinct bytes_eq (map formal_in l)) (sym (append_assoc before (u ∷ []) (us ++ out ∷ []))) distinct),
      )

  pub gates-say : (declared taken : List (List ℕ)) (most number : ℕ) (gates : List Gate) → (number + most) + length gates < number_limit → Each (IsSayable cells names) gates →
      Says cells declared declared (gates_text cells names taken most number gates) [] [] (map (named_gate names) gates) []
  unfolding gates_text
  gates-say declared taken most number [] lt each = says-none cells declared
  gates-say declared taken most number (gate ∷ gates) lt each =
      let skip : ℕ = passed taken most number in
      let few : skip ≤ most = passed-le taken most number in
      says-both cells declared declared declared (gate_text cells names (number + skip) gate) (gates_text cells names taken (most - skip) (number + skip + 1) gates) [] [] [] [] (named_gate names gate ∷ []) (map (named_gate names) gates) [] []
      (gate-says declared (number + skip) gate (omega (arith, lt, few)) each.0) (gates-say declared taken (most - skip) (number + skip + 1) gates (omega (arith, lt, few)) each.1)

  -- an output, and its net
  pub record IsSayablePort (port : Port) : Type 0 where
    pub name : IsGood port.name
    pub net : IsGood (net_name names port.net)

  pub assignments-say : (declared : List (List ℕ)) (ports : List Port) → Each IsSayablePort ports → Says cells declared declared (flat_map (assignment_text names) ports) [] [] [] (wires_of names ports)
  assignments-say declared [] each = says-none cells declared
  assignments-say declared (port ∷ ports) each =
      own (bytes_eq (net_name names port.net) port.name) (assignments-say declared ports each.1)
    where
      own : (b : Bool) → Says cells declared declared (flat_map (assignment_text names) ports) [] [] [] (wires_of names ports) → Says cells declared declared (cond b [] (assignment port.name (net_name names port.net)) ++ flat_map (assignment_text names) ports) [] [] [] (cond b [] (port_wire names port ∷ []) ++ wires_of names ports)
      own true rest = rest
      own false rest =
          says-both cells declared declared declared (assignment port.name (net_name names port.net)) (flat_map (assignment_text names) ports) [] [] [] [] [] [] (port_wire names port ∷ []) (wires_of names ports)
          (assignment-says cells declared port.name (net_name names port.net) each.0.name each.0.net) rest
