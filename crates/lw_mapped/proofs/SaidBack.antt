-- What the lines of a mapped text say together.
use Rattle.std.proofs.Common.{ℕ, zero, suc, ◌≡◌, ◌<◌, ◌≤◌, ◌+◌, ◌==◌, Bool, true, false, cond, List, [], ◌∷◌, ◌++◌, length, map, take, filter, Option, Some, None, refl, ap, ap₂, sym, ◌∙◌, subst, arith, append_assoc, append-nil}
use Rattle.std.specs.Prelude.{slice_get, slice_index_or, is_some, reverse, unwrap_or}
use Rattle.std.specs.List.{flat_map, AllByRecursion as Each}
use Rattle.std.specs.Option.{option_or}
use Rattle.std.specs.Str.{bytes_eq}
use Rattle.std.proofs.lemmas.Bool.Decides.{nat_tests}
use Rattle.std.proofs.lemmas.Grind.{flat_map-append}
use Rattle.std.proofs.lemmas.List.{map-append}
use Rattle.lw_facts.proofs.Lists.{bytes_eq_same}
use Rattle.lw_fixed.specs.declared.micro.Micro.{Micro}
use Rattle.lw_frame.specs.Starts.{Arrival, is_named, is_for_all, first_start, start_of, at_once}
use Rattle.lw_genlib.specs.Cells.{CellParts}
use Rattle.lw_named_netlist.specs.declared.draft.DraftGate.{DraftGate}
use Rattle.lw_named_netlist.specs.declared.draft.Wire.{Wire}
use Rattle.lw_netlist.specs.declared.gate.Gate.{Gate}
use Rattle.lw_netlist.specs.declared.gate.Port.{Port}
use Rattle.lw_netlist.specs.Plain.{HasCell}
use Rattle.lw_pool.specs.declared.id.ClassId.{ClassId}
use Rattle.lw_pool.specs.declared.latch.Latch.{Latch}
use Rattle.lw_mapped.specs.declared.fault.MappedKind.TheVariants as kind
use Rattle.lw_mapped.specs.declared.saying.Saying.{Saying}
use Rattle.lw_mapped.specs.declared.saying.Saying.TheVariants as saying
use Rattle.lw_mapped.specs.LineFaults.{told_fault}
use Rattle.lw_mapped.specs.Said.{Labelled, Classed, labels_in, nets_in, gates_in, wires_in, latches_in, arrivals_in, label_among, class_among}
use Rattle.lw_mapped.specs.Texts.{net_name}
use Rattle.lw_mapped.proofs.Driving.{wires_of}
use Rattle.lw_mapped.proofs.Faultless.{Item, AreFresh, told}
use Rattle.lw_mapped.proofs.Items.{named_gate, port_wire, arrival_item, arrival_if, arrival_items, latch_item, gate_if, gate_items, wire_item, wire_if, wire_items, label_if, label_items, net_if, net_items}
use Rattle.lw_mapped.proofs.KeepingLemmas.{flat-last, label-append, class-append}

-- What items say of one kind.
abbrev pub of_kind : {A : Type 0} → (Saying → List A) → List Item → List A
of_kind f items = flat_map f (map told items)

pub kind-both : {A : Type 0} (f : Saying → List A) (xs ys : List Item) → of_kind f (xs ++ ys) ≡ of_kind f xs ++ of_kind f ys
kind-both f xs ys = ap (flat_map f) (map-append told xs ys) ∙ flat_map-append f (map told xs) (map told ys)

-- Blocks that say nothing of a kind.

pub no-arrivals : {A : Type 0} (f : Saying → List A) → ((name : List ℕ) (start : Micro) → f (saying.Arrival name start) ≡ []) → (names : List (List ℕ)) (starts : List Micro) → of_kind f (arrival_items names starts) ≡ []
no-arrivals f none [] starts = refl
no-arrivals f none (name ∷ names) [] = refl
no-arrivals f none (name ∷ names) (start ∷ starts) = kind-both f (arrival_if name start) (arrival_items names starts) ∙ ap₂ (λ a b. a ++ b) (own (start.0 == 0)) (no-arrivals f none names starts)
  where
    own : (b : Bool) → of_kind f (cond b [] (arrival_item name start ∷ [])) ≡ []
    own true = refl
    own false = ap (λ l. l ++ []) (none name start)

pub no-latches : {A : Type 0} (f : Saying → List A) → ((latch : Latch) → f (saying.Latch latch) ≡ []) → (latches : List Latch) → of_kind f (map latch_item latches) ≡ []
no-latches f none [] = refl
no-latches f none (latch ∷ latches) = ap₂ (λ a b. a ++ b) (none latch) (no-latches f none latches)

pub no-gates : {A : Type 0} (f : Saying → List A) → ((gate : DraftGate) → f (saying.Gate gate) ≡ []) → (cells : List CellParts) (names : List (List ℕ)) (gates : List Gate) → of_kind f (gate_items cells names gates) ≡ []
no-gates f none cells names [] = refl
no-gates f none cells names (gate ∷ gates) = kind-both f (gate_if names gate (slice_get cells gate.cell.0)) (gate_items cells names gates) ∙ ap₂ (λ a b. a ++ b) (own (slice_get cells gate.cell.0)) (no-gates f none cells names gates)
  where
    own : (o : Option CellParts) → of_kind f (gate_if names gate o) ≡ []
    own None = refl
    own (Some cell) = ap (λ l. l ++ []) (none (named_gate names gate))

pub no-wires : {A : Type 0} (f : Saying → List A) → ((wire : Wire) → f (saying.Wire wire) ≡ []) → (names : List (List ℕ)) (ports : List Port) → of_kind f (wire_items names ports) ≡ []
no-wires f none names [] = refl
no-wires f none names (port ∷ ports) = kind-both f (wire_if names port) (wire_items names ports) ∙ ap₂ (λ a b. a ++ b) (own (bytes_eq (net_name names port.net) port.name)) (no-wires f none names ports)
  where
    own : (b : Bool) → of_kind f (cond b [] (wire_item names port ∷ [])) ≡ []
    own true = refl
    own false = ap (λ l. l ++ []) (none (port_wire names port))

pub no-labels : {A : Type 0} (f : Saying → List A) → ((class : ClassId) (label : Micro) → f (saying.Label class label) ≡ []) → (class : ℕ) (labels : List (Option Micro)) → of_kind f (label_items class labels) ≡ []
no-labels f none class [] = refl
no-labels f none class (label ∷ labels) = kind-both f (label_if class label) (label_items (suc class) labels) ∙ ap₂ (λ a b. a ++ b) (own label) (no-labels f none (suc class) labels)
  where
    own : (o : Option Micro) → of_kind f (label_if class o) ≡ []
    own None = refl
    own (Some l) = ap (λ x. x ++ []) (none (record { 0 = class }) l)

pub no-nets : {A : Type 0} (f : Saying → List A) → ((name : List ℕ) (class : ClassId) → f (saying.Net name class) ≡ []) → (names : List (List ℕ)) (gates : List Gate) (classes : List (Option ClassId)) → of_kind f (net_items names gates classes) ≡ []
no-nets f none names [] classes = refl
no-nets f none names (gate ∷ gates) [] = refl
no-nets f none names (gate ∷ gates) (class ∷ classes) = kind-both f (net_if (net_name names gate.out) class) (net_items names gates classes) ∙ ap₂ (λ a b. a ++ b) (own class) (no-nets f none names gates classes)
  where
    own : (o : Option ClassId) → of_kind f (net_if (net_name names gate.out) o) ≡ []
    own None = refl
    own (Some c) = ap (λ x. x ++ []) (none (net_name names gate.out) c)

-- What the blocks say.

-- the arrivals other than 0
abbrev pub arrival_of : List ℕ → Micro → List Arrival
arrival_of name start = cond (start.0 == 0) [] (record { named = Some name; start = start } ∷ [])

abbrev pub arrivals_of : List (List ℕ) → List Micro → List Arrival
arrivals_of [] starts = []
arrivals_of (name ∷ names) [] = []
arrivals_of (name ∷ names) (start ∷ starts) = arrival_of name start ++ arrivals_of names starts

pub arrivals-said : (names : List (List ℕ)) (starts : List Micro) → of_kind arrivals_in (arrival_items names starts) ≡ arrivals_of names starts
arrivals-said [] starts = refl
arrivals-said (name ∷ names) [] = refl
arrivals-said (name ∷ names) (start ∷ starts) = kind-both arrivals_in (arrival_if name start) (arrival_items names starts) ∙ ap₂ (λ a b. a ++ b) (own (start.0 == 0)) (arrivals-said names starts)
  where
    own : (b : Bool) → of_kind arrivals_in (cond b [] (arrival_item name start ∷ [])) ≡ cond b [] (record { named = Some name; start = start } ∷ [])
    own true = refl
    own false = refl

pub latches-said : (latches : List Latch) → of_kind latches_in (map latch_item latches) ≡ latches
latches-said [] = refl
latches-said (latch ∷ latches) = ap (λ l. latch ∷ l) (latches-said latches)

pub gates-said : (cells : List CellParts) (names : List (List ℕ)) (gates : List Gate) → Each (HasCell cells) gates → of_kind gates_in (gate_items cells names gates) ≡ map (named_gate names) gates
gates-said cells names [] each = refl
gates-said cells names (gate ∷ gates) each =
    kind-both gates_in (gate_if names gate (slice_get cells gate.cell.0)) (gate_items cells names gates)
    ∙ ap₂ (λ a b. a ++ b) (ap (λ o. of_kind gates_in (gate_if names gate o)) each.0.at) (gates-said cells names gates each.1)

pub wires-said : (names : List (List ℕ)) (ports : List Port) → of_kind wires_in (wire_items names ports) ≡ wires_of names ports
wires-said names [] = refl
wires-said names (port ∷ ports) = kind-both wires_in (wire_if names port) (wire_items names ports) ∙ ap₂ (λ a b. a ++ b) (own (bytes_eq (net_name names port.net) port.name)) (wires-said names ports)
  where
    own : (b : Bool) → of_kind wires_in (cond b [] (wire_item names port ∷ [])) ≡ cond b [] (port_wire names port ∷ [])
    own true = refl
    own false = refl

abbrev pub label_one : ℕ → Option Micro → List Labelled
label_one class None = []
label_one class (Some label) = record { class = class; label = label } ∷ []

abbrev pub labelled : ℕ → List (Option Micro) → List Labelled
labelled class [] = []
labelled class (label ∷ labels) = label_one class label ++ labelled (suc class) labels

pub labels-said : (class : ℕ) (labels : List (Option Micro)) → of_kind labels_in (label_items class labels) ≡ labelled class labels
labels-said class [] = refl
labels-said class (label ∷ labels) = kind-both labels_in (label_if class label) (label_items (suc class) labels) ∙ ap₂ (λ a b. a ++ b) (own label) (labels-said (suc class) labels)
  where
    own : (o : Option Micro) → of_kind labels_in (label_if class o) ≡ label_one class o
    own None = refl
    own (Some l) = refl

abbrev pub class_one : List ℕ → Option ClassId → List Classed
class_one name None = []
class_one name (Some class) = record { name = name; class = class } ∷ []

abbrev pub classed : List (List ℕ) → List Gate → List (Option ClassId) → List Classed
classed names [] classes = []
classed names (gate ∷ gates) [] = []
classed names (gate ∷ gates) (class ∷ classes) = class_one (net_name names gate.out) class ++ classed names gates classes

pub nets-said : (names : List (List ℕ)) (gates : List Gate) (classes : List (Option ClassId)) → of_kind nets_in (net_items names gates classes) ≡ classed names gates classes
nets-said names [] classes = refl
nets-said names (gate ∷ gates) [] = refl
nets-said names (gate ∷ gates) (class ∷ classes) = kind-both nets_in (net_if (net_name names gate.out) class) (net_items names gates classes) ∙ ap₂ (λ a b. a ++ b) (own class) (nets-said names gates classes)
  where
    own : (o : Option ClassId) → of_kind nets_in (net_if (net_name names gate.out) o) ≡ class_one (net_name names gate.out) o
    own None = refl
    own (Some c) = refl

-- Labels by class.

pub label-before : (class from : ℕ) (labels : List (Option Micro)) → class < from → label_among (labelled from labels) class ≡ None
label-before class from [] lt = refl
label-before class from (label ∷ labels) lt =
    label-append (label_one from label) (labelled (suc from) labels) class ∙ ap₂ option_or (own label) (label-before class (suc from) labels (omega arith))
  where
    own : (o : Option Micro) → label_among (label_one from o) class ≡ None
    own None = refl
    own (Some l) = let other : (from == class) ≡ false = grind (arith, nat_tests) in ap (λ b. cond b (Some l) None) other

pub label-at : (from : ℕ) (labels : List (Option Micro)) (k : ℕ) → label_among (labelled from labels) (from + k) ≡ slice_index_or labels k None
label-at from [] k = refl
label-at from (label ∷ labels) zero = label-append (label_one from label) (labelled (suc from) labels) (from + 0) ∙ (ap₂ option_or (own label) (label-before (from + 0) (suc from) labels (omega arith)) ∙ or-none label)
  where
    own : (o : Option Micro) → label_among (label_one from o) (from + 0) ≡ o
    own None = refl
    own (Some l) = let same : (from == from + 0) ≡ true = grind (arith, nat_tests) in ap (λ b. cond b (Some l) None) same

    or-none : (o : Option Micro) → option_or o None ≡ o
    or-none None = refl
    or-none (Some l) = refl
label-at from (label ∷ labels) (suc k) =
    label-append (label_one from label) (labelled (suc from) labels) (from + suc k)
    ∙ (ap₂ option_or (own label) (ap (label_among (labelled (suc from) labels)) moved ∙ label-at (suc from) labels k))
  where
    moved : from + suc k ≡ suc from + k
    moved = omega arith

    own : (o : Option Micro) → label_among (label_one from o) (from + suc k) ≡ None
    own None = refl
    own (Some l) = let other : (from == from + suc k) ≡ false = grind (arith, nat_tests) in ap (λ b. cond b (Some l) None) other

-- Classes by net.

-- the gates' nets have other names
abbrev pub OutsDiffer : List (List ℕ) → List Gate → Type 0
OutsDiffer names [] = Unit {0}
OutsDiffer names (gate ∷ gates) = Each (λ (other : Gate). bytes_eq (net_name names gate.out) (net_name names other.out) ≡ false) gates × OutsDiffer names gates

class-none : (names : List (List ℕ)) (name : List ℕ) (gates : List Gate) (classes : List (Option ClassId)) → Each (λ (other : Gate). bytes_eq (net_name names other.out) name ≡ false) gates → class_among (classed names gates classes) name ≡ None
class-none names name [] classes each = refl
class-none names name (gate ∷ gates) [] each = refl
class-none names name (gate ∷ gates) (class ∷ classes) each =
    class-append (class_one (net_name names gate.out) class) (classed names gates classes) name ∙ ap₂ option_or (own class) (class-none names name gates classes each.1)
  where
    own : (o : Option ClassId) → class_among (class_one (net_name names gate.out) o) name ≡ None
    own None = refl
    own (Some c) = ap (λ b. cond b (Some c) None) each.0

flip-each : (names : List (List ℕ)) (name : List ℕ) (gates : List Gate) → ((x y : List ℕ) → bytes_eq x y ≡ false → bytes_eq y x ≡ false) → Each (λ (other : Gate). bytes_eq name (net_name names other.out) ≡ false) gates → Each (λ (other : Gate). bytes_eq (net_name names other.out) name ≡ false) gates
flip-each names name [] flips each = tt
flip-each names name (gate ∷ gates) flips each = (flips name (net_name names gate.out) each.0, flip-each names name gates flips each.1)

pub classes-at : (names : List (List ℕ)) (gates : List Gate) (classes : List (Option ClassId)) → ((x y : List ℕ) → bytes_eq x y ≡ false → bytes_eq y x ≡ false) → OutsDiffer names gates → length classes ≡ length gates → map (λ (gate : Gate). class_among (classed names gates classes) (net_name names gate.out)) gates ≡ classes
classes-at names [] [] flips differ same = refl
classes-at names [] (class ∷ classes) flips differ same = absurd (omega arith)
classes-at names (gate ∷ gates) [] flips differ same = absurd (omega arith)
classes-at names (gate ∷ gates) (class ∷ classes) flips differ same =
    ap₂ (λ c cs. c ∷ cs)
    (class-append (class_one (net_name names gate.out) class) (classed names gates classes) (net_name names gate.out)
    ∙ (ap₂ option_or (own class) (class-none names (net_name names gate.out) gates classes (flip-each names (net_name names gate.out) gates flips differ.0)) ∙ or-none class))
    (others gates differ.0 ∙ classes-at names gates classes flips differ.1 (omega arith))
  where
    own : (o : Option ClassId) → class_among (class_one (net_name names gate.out) o) (net_name names gate.out) ≡ o
    own None = refl
    own (Some c) = ap (λ b. cond b (Some c) None) (bytes_eq_same (net_name names gate.out) (net_name names gate.out) refl)

    or-none : (o : Option ClassId) → option_or o None ≡ o
    or-none None = refl
    or-none (Some c) = refl

    past : (o : Option ClassId) (name : List ℕ) → bytes_eq (net_name names gate.out) name ≡ false → class_among (class_one (net_name names gate.out) o) name ≡ None
    past None name other = refl
    past (Some c) name other = ap (λ b. cond b (Some c) None) other

    others : (gs : List Gate) → Each (λ (other : Gate). bytes_eq (net_name names gate.out) (net_name names other.out) ≡ false) gs →
        map (λ (g : Gate). class_among (class_one (net_name names gate.out) class ++ classed names gates classes) (net_name names g.out)) gs ≡ map (λ (g : Gate). class_among (classed names gates classes) (net_name names g.out)) gs
    others [] each = refl
    others (g ∷ gs) each =
        ap₂ (λ c cs. c ∷ cs)
        (class-append (class_one (net_name names gate.out) class) (classed names gates classes) (net_name names g.out) ∙ ap (λ o. option_or o (class_among (classed names gates classes) (net_name names g.out))) (past class (net_name names g.out) each.0))
        (others gs each.1)

-- Starts.

filter-none : (name : List ℕ) (names : List (List ℕ)) (starts : List Micro) → Each (λ other. bytes_eq other name ≡ false) names → filter (λ (a : Arrival). is_named name a.named) (arrivals_of names starts) ≡ []
filter-none name [] starts each = refl
filter-none name (other ∷ names) [] each = refl
filter-none name (other ∷ names) (start ∷ starts) each = own (start.0 == 0) (filter-none name names starts each.1)
  where
    own : (b : Bool) → filter (λ (a : Arrival). is_named name a.named) (arrivals_of names starts) ≡ [] → filter (λ (a : Arrival). is_named name a.named) (cond b [] (record { named = Some other; start = start } ∷ []) ++ arrivals_of names starts) ≡ []
    own true rest = rest
    own false rest =
        let a : Arrival = record { named = Some other; start = start } in
        ap (λ t. cond t (a ∷ filter (λ (b : Arrival). is_named name b.named) (arrivals_of names starts)) (filter (λ (b : Arrival). is_named name b.named) (arrivals_of names starts))) each.0 ∙ rest

filter-past : (name other : List ℕ) (start : Micro) (rest : List Arrival) → bytes_eq other name ≡ false → filter (λ (a : Arrival). is_named name a.named) (arrival_of other start ++ rest) ≡ filter (λ (a : Arrival). is_named name a.named) rest
filter-past name other start rest differs = own (start.0 == 0)
  where
    own : (b : Bool) → filter (λ (a : Arrival). is_named name a.named) (cond b [] (record { named = Some other; start = start } ∷ []) ++ rest) ≡ filter (λ (a : Arrival). is_named name a.named) rest
    own true = refl
    own false =
        let a : Arrival = record { named = Some other; start = start } in
        ap (λ t. cond t (a ∷ filter (λ (b : Arrival). is_named name b.named) rest) (filter (λ (b : Arrival). is_named name b.named) rest)) differs

-- names that are apart
abbrev pub NamesDiffer : List (List ℕ) → Type 0
NamesDiffer [] = Unit {0}
NamesDiffer (name ∷ names) = Each (λ other. bytes_eq name other ≡ false) names × NamesDiffer names

filter-own : (name : List ℕ) (names : List (List ℕ)) (start : Micro) (starts : List Micro) → Each (λ other. bytes_eq other name ≡ false) names → filter (λ (a : Arrival). is_named name a.named) (arrival_of name start ++ arrivals_of names starts) ≡ arrival_of name start
filter-own name names start starts each = own (start.0 == 0)
  where
    rest : filter (λ (a : Arrival). is_named name a.named) (arrivals_of names starts) ≡ []
    rest = filter-none name names starts each

    own : (b : Bool) → filter (λ (a : Arrival). is_named name a.named) (cond b [] (record { named = Some name; start = start } ∷ []) ++ arrivals_of names starts) ≡ cond b [] (record { named = Some name; start = start } ∷ [])
    own true = rest
    own false =
        let a : Arrival = record { named = Some name; start = start } in
        ap (λ t. cond t (a ∷ filter (λ (b : Arrival). is_named name b.named) (arrivals_of names starts)) (filter (λ (b : Arrival). is_named name b.named) (arrivals_of names starts))) (bytes_eq_same name name refl)
        ∙ ap (λ l. a ∷ l) rest

none-for-all : (names : List (List ℕ)) (starts : List Micro) → filter (λ (a : Arrival). is_for_all a.named) (arrivals_of names starts) ≡ []
none-for-all [] starts = refl
none-for-all (name ∷ names) [] = refl
none-for-all (name ∷ names) (start ∷ starts) = own (start.0 == 0) (none-for-all names starts)
  where
    own : (b : Bool) → filter (λ (a : Arrival). is_for_all a.named) (arrivals_of names starts) ≡ [] → filter (λ (a : Arrival). is_for_all a.named) (cond b [] (record { named = Some name; start = start } ∷ []) ++ arrivals_of names starts) ≡ []
    own true rest = rest
    own false rest = rest

zero-start : (start : Micro) → start.0 ≡ 0 → at_once ≡ start
zero-start start e = ap (λ n. let s : Micro = record { 0 = n } in s) (sym e)

own-start : (name : List ℕ) (start : Micro) → unwrap_or (first_start (reverse (arrival_of name start))) at_once ≡ start
own-start name start = own (start.0 == 0) refl
  where
    own : (b : Bool) → (start.0 == 0) ≡ b → unwrap_or (first_start (reverse (cond b [] (record { named = Some name; start = start } ∷ [])))) at_once ≡ start
    own true e = let nought : start.0 ≡ 0 = grind (arith, nat_tests) in zero-start start nought
    own false e = refl

-- the start of a name, where these lines are all of its own
start-by : (lines : List Arrival) (name : List ℕ) (start : Micro) → filter (λ (a : Arrival). is_named name a.named) lines ≡ arrival_of name start → filter (λ (a : Arrival). is_for_all a.named) lines ≡ [] → start_of lines name ≡ start
start-by lines name start own every =
    ap₂ (λ o e. unwrap_or (first_start (reverse o)) (unwrap_or (first_start (reverse e)) at_once)) own every ∙ own-start name start

-- the filtered lines of all lines before
starts-each : (lines : List Arrival) → filter (λ (a : Arrival). is_for_all a.named) lines ≡ [] → (names : List (List ℕ)) (starts : List Micro) (k : ℕ) → k ≤ length starts → k ≤ length names → ((x y : List ℕ) → bytes_eq x y ≡ false → bytes_eq y x ≡ false) → NamesDiffer names →
    ((name : List ℕ) → filter (λ (a : Arrival). is_named name a.named) (arrivals_of names starts) ≡ filter (λ (a : Arrival). is_named name a.named) (arrivals_of names starts)) →
    Each (λ name. filter (λ (a : Arrival). is_named name a.named) lines ≡ filter (λ (a : Arrival). is_named name a.named) (arrivals_of names starts)) names → map (start_of lines) (take k names) ≡ take k starts
starts-each lines every names starts zero in_starts in_names flips differ same each = refl
starts-each lines every [] starts (suc k) in_starts in_names flips differ same each = absurd (omega arith)
starts-each lines every (name ∷ names) [] (suc k) in_starts in_names flips differ same each = absurd (omega arith)
starts-each lines every (name ∷ names) (start ∷ starts) (suc k) in_starts in_names flips differ same each =
    ap₂ (λ s ss. s ∷ ss) (start-by lines name start (each.0 ∙ filter-own name names start starts (back names differ.0)) every)
    (starts-each lines every names starts k (omega arith) (omega arith) flips differ.1 (λ other. refl) (later names differ.0 each.1))
  where
    back : (ns : List (List ℕ)) → Each (λ other. bytes_eq name other ≡ false) ns → Each (λ other. bytes_eq other name ≡ false) ns
    back [] h = tt
    back (other ∷ ns) h = (flips name other h.0, back ns h.1)

    later : (ns : List (List ℕ)) → Each (λ other. bytes_eq name other ≡ false) ns → Each (λ other. filter (λ (a : Arrival). is_named other a.named) lines ≡ filter (λ (a : Arrival). is_named other a.named) (arrival_of name start ++ arrivals_of names starts)) ns → Each (λ other. filter (λ (a : Arrival). is_named other a.named) lines ≡ filter (λ (a : Arrival). is_named other a.named) (arrivals_of names starts)) ns
    later [] h g = tt
    later (other ∷ ns) h g = (g.0 ∙ filter-past other name start (arrivals_of names starts) h.0, later ns h.1 g.1)

own-each : (names : List (List ℕ)) (lines : List Arrival) → Each (λ name. filter (λ (a : Arrival). is_named name a.named) lines ≡ filter (λ (a : Arrival). is_named name a.named) lines) names
own-each [] lines = tt
own-each (name ∷ names) lines = (refl, own-each names lines)

pub starts-again : (names : List (List ℕ)) (starts : List Micro) (k : ℕ) → k ≤ length starts → k ≤ length names → ((x y : List ℕ) → bytes_eq x y ≡ false → bytes_eq y x ≡ false) → NamesDiffer names → map (start_of (arrivals_of names starts)) (take k names) ≡ take k starts
starts-again names starts k in_starts in_names flips differ =
    starts-each (arrivals_of names starts) (none-for-all names starts) names starts k in_starts in_names flips differ (λ name. refl) (own-each names (arrivals_of names starts))

-- Nothing is told a second time.

fresh-both : (before : List Saying) (xs ys : List Item) → AreFresh before xs → AreFresh (before ++ map told xs) ys → AreFresh before (xs ++ ys)
fresh-both before [] ys a b = subst (λ s. AreFresh s ys) (append-nil before) b
fresh-both before (x ∷ xs) ys a b = (a.0, fresh-both (before ++ x.what ∷ []) xs ys a.1 (subst (λ s. AreFresh s ys) (sym (append_assoc before (x.what ∷ []) (map told xs))) b))

-- an item that tells no label and no net's class
pub record IsQuiet (item : Item) : Type 0 where
  pub silent : (before : List Saying) → told_fault before item.what ≡ None
  pub no_label : labels_in item.what ≡ []
  pub no_net : nets_in item.what ≡ []

pub fresh-quiet : (before : List Saying) (items : List Item) → Each IsQuiet items → AreFresh before items
fresh-quiet before [] each = tt
fresh-quiet before (item ∷ items) each = (each.0.silent before, fresh-quiet (before ++ item.what ∷ []) items each.1)

quiet-labels : (items : List Item) → Each IsQuiet items → of_kind labels_in items ≡ []
quiet-labels [] each = refl
quiet-labels (item ∷ items) each = ap₂ (λ a b. a ++ b) each.0.no_label (quiet-labels items each.1)

quiet-nets : (items : List Item) → Each IsQuiet items → of_kind nets_in items ≡ []
quiet-nets [] each = refl
quiet-nets (item ∷ items) each = ap₂ (λ a b. a ++ b) each.0.no_net (quiet-nets items each.1)

fresh-labels : (before : List Saying) (class : ℕ) (labels : List (Option Micro)) → ((c : ℕ) → class ≤ c → label_among (flat_map labels_in before) c ≡ None) → AreFresh before (label_items class labels)
fresh-labels before class [] none = tt
fresh-labels before class (None ∷ labels) none = fresh-labels before (suc class) labels (λ c le. none c (omega arith))
fresh-labels before class (Some label ∷ labels) none = (
  ap (λ (o : Option Micro). cond (is_some o) (Some kind.Certificate) None) (none class (omega arith)),
  fresh-labels (before ++ saying.Label (record { 0 = class }) label ∷ []) (suc class) labels
      (λ c le.
      let other : (class == c) ≡ false = grind (arith, nat_tests, le) in
      ap (λ l. label_among l c) (flat-last labels_in before (saying.Label (record { 0 = class }) label))
      ∙ (label-append (flat_map labels_in before) (record { class = class; label = label } ∷ []) c
      ∙ ap₂ option_or (none c (omega arith)) (ap (λ b. cond b (Some label) None) other))),
)

fresh-nets : (names : List (List ℕ)) (before : List Saying) (gates : List Gate) (classes : List (Option ClassId)) → OutsDiffer names gates → Each (λ (gate : Gate). class_among (flat_map nets_in before) (net_name names gate.out) ≡ None) gates → AreFresh before (net_items names gates classes)
fresh-nets names before [] classes differ none = tt
fresh-nets names before (gate ∷ gates) [] differ none = tt
fresh-nets names before (gate ∷ gates) (None ∷ classes) differ none = fresh-nets names before gates classes differ.1 none.1
fresh-nets names before (gate ∷ gates) (Some class ∷ classes) differ none = (
  ap (λ (o : Option ClassId). cond (is_some o) (Some kind.Certificate) None) none.0,
  fresh-nets names (before ++ saying.Net (net_name names gate.out) class ∷ []) gates classes differ.1 (later gates differ.0 none.1),
)
  where
    later : (gs : List Gate) → Each (λ (other : Gate). bytes_eq (net_name names gate.out) (net_name names other.out) ≡ false) gs → Each (λ (g : Gate). class_among (flat_map nets_in before) (net_name names g.out) ≡ None) gs →
        Each (λ (g : Gate). class_among (flat_map nets_in (before ++ saying.Net (net_name names gate.out) class ∷ [])) (net_name names g.out) ≡ None) gs
    later [] h g = tt
    later (other ∷ gs) h g = (
      ap (λ l. class_among l (net_name names other.out)) (flat-last nets_in before (saying.Net (net_name names gate.out) class))
          ∙ (class-append (flat_map nets_in before) (record { name = net_name names gate.out; class = class } ∷ []) (net_name names other.out)
          ∙ ap₂ option_or g.0 (ap (λ b. cond b (Some class) None) h.0)),
      later gs h.1 g.1,
    )

-- quiet items, and then labels and classes
pub fresh-all : (names : List (List ℕ)) (quiet : List Item) (labels : List (Option Micro)) (gates : List Gate) (classes : List (Option ClassId)) → Each IsQuiet quiet → OutsDiffer names gates → AreFresh [] (quiet ++ (label_items 0 labels ++ net_items names gates classes))
fresh-all names quiet labels gates classes each differ =
    fresh-both [] quiet (label_items 0 labels ++ net_items names gates classes) (fresh-quiet [] quiet each)
    (fresh-both (map told quiet) (label_items 0 labels) (net_items names gates classes)
    (fresh-labels (map told quiet) 0 labels (λ c le. ap (λ l. label_among l c) (quiet-labels quiet each)))
    (fresh-nets names (map told quiet ++ map told (label_items 0 labels)) gates classes differ (none gates)))
  where
    before : flat_map nets_in (map told quiet ++ map told (label_items 0 labels)) ≡ []
    before = flat_map-append nets_in (map told quiet) (map told (label_items 0 labels)) ∙ ap₂ (λ a b. a ++ b) (quiet-nets quiet each) (no-labels nets_in (λ class label. refl) 0 labels)

    none : (gs : List Gate) → Each (λ (gate : Gate). class_among (flat_map nets_in (map told quiet ++ map told (label_items 0 labels))) (net_name names gate.out) ≡ None) gs
    none [] = tt
    none (gate ∷ gs) = (ap (λ l. class_among l (net_name names gate.out)) before, none gs)
