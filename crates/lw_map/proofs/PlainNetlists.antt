-- The plain data of a netlist, its ports and the names of its nets give the netlist.
use Rattle.std.proofs.Common.{ℕ, suc, ◌+◌, ◌≡◌, List, [], ◌∷◌, map, Some, slice_get, refl, ap, ap₂, sym, ◌∙◌, arith}
use Rattle.lw_net.proofs.Nets.{same_net}
use Rattle.lw_pool.specs.declared.id.CellId.{CellId}
use Rattle.lw_pool.specs.declared.id.NetId.{NetId}
use Rattle.lw_laws.specs.Netlists as laws
use Rattle.lw_laws.specs.Headline.{Port as PlainPort, Ports}
use Rattle.lw_netlist.specs.declared.gate.Gate.{Gate}
use Rattle.lw_netlist.specs.declared.gate.Port.{Port}
use Rattle.lw_netlist.specs.Netlists.{NetlistParts, IsNetlist}
use Rattle.lw_netlist.specs.Plain.{plain_gate, plain, plain_port, mapped_ports}
use Rattle.lw_pool.specs.Numbers.{net_number}

map_injective : {X Y : Type 0} (f : X → Y) → ((x y : X) → f x ≡ f y → x ≡ y) → (xs ys : List X) → map f xs ≡ map f ys → xs ≡ ys
map_injective f back [] [] e = refl
map_injective f back [] (y ∷ ys) e = cc
map_injective f back (x ∷ xs) [] e = cc
map_injective {X = X} {Y = Y} f back (x ∷ xs) (y ∷ ys) e =
    let p : f x ≡ f y = cc in
    let q : map f xs ≡ map f ys = cc in
    ap₂ (λ (z : X) (zs : List X). z ∷ zs) (back x y p) (map_injective f back xs ys q)

cell_back : (x y : CellId) → x.0 ≡ y.0 → x ≡ y
cell_back x y e = let f : ℕ → CellId = λ n. record { 0 = n } in ap f e

gate_of : CellId → List NetId → NetId → Gate
gate_of cell pins out = record { cell = cell; pins = pins; out = out }

gate_back : (g h : Gate) → plain_gate g ≡ plain_gate h → g.out.0 ≡ h.out.0 → g ≡ h
unfolding gate_of
gate_back g h e o =
    let c = cell_back g.cell h.cell (ap (λ (x : laws.Gate). x.cell) e) in
    let p = map_injective net_number same_net g.pins h.pins (ap (λ (x : laws.Gate). x.pins) e) in
    ap₂ (λ (d : CellId) (ps : List NetId). gate_of d ps g.out) c p ∙ ap (λ (n : NetId). gate_of h.cell h.pins n) (same_net g.out h.out o)

-- the gates drive the nets from a first one on
abbrev AreDriving : ℕ → List Gate → Type 0
AreDriving first gates = (j : ℕ) (gate : Gate) → slice_get gates j ≡ Some gate → gate.out.0 ≡ first + j

gates_back : (first : ℕ) (gs hs : List Gate) → AreDriving first gs → AreDriving first hs → map plain_gate gs ≡ map plain_gate hs → gs ≡ hs
gates_back first [] [] a b e = refl
gates_back first [] (h ∷ hs) a b e = cc
gates_back first (g ∷ gs) [] a b e = cc
gates_back first (g ∷ gs) (h ∷ hs) a b e =
    let p : plain_gate g ≡ plain_gate h = cc in
    let q : map plain_gate gs ≡ map plain_gate hs = cc in
    ap₂ (λ (x : Gate) (xs : List Gate). x ∷ xs) (gate_back g h p (a 0 g refl ∙ sym (b 0 h refl)))
    (gates_back (suc first) gs hs (λ j x f. let z = a (suc j) x f in omega arith) (λ j x f. let z = b (suc j) x f in omega arith) q)

port_of : List ℕ → NetId → Port
port_of name net = record { name = name; net = net }

port_back : (p q : Port) → plain_port p ≡ plain_port q → p ≡ q
unfolding port_of
port_back p q e = ap₂ (λ (name : List ℕ) (net : NetId). port_of name net) (ap (λ (x : PlainPort). x.name) e) (same_net p.net q.net (ap (λ (x : PlainPort). x.net) e))

netlist_of : List ℕ → List (List ℕ) → ℕ → List Gate → List Port → NetlistParts
netlist_of model names inputs gates outputs = record { model = model; names = names; inputs = inputs; gates = gates; outputs = outputs }

pub parts_back : (n m : NetlistParts) → IsNetlist n → IsNetlist m → n.model ≡ m.model → plain n ≡ plain m → n.names ≡ m.names → mapped_ports n ≡ mapped_ports m → n ≡ m
unfolding netlist_of
parts_back n m kept also model e names ports =
    let inputs : n.inputs ≡ m.inputs = ap (λ (x : laws.Netlist). x.inputs) e in
    let gates = gates_back n.inputs n.gates m.gates
    (λ j gate at. (kept.gates j gate at).drives)
    (λ j gate at. (also.gates j gate at).drives ∙ ap (λ i. i + j) (sym inputs))
    (ap (λ (x : laws.Netlist). x.gates) e) in
    let outputs = map_injective plain_port port_back n.outputs m.outputs (ap (λ (x : Ports). x.outputs) ports) in
    ap₂ (λ (a : List ℕ) (b : List (List ℕ)). netlist_of a b n.inputs n.gates n.outputs) model names
    ∙ (ap₂ (λ (a : ℕ) (b : List Gate). netlist_of m.model m.names a b n.outputs) inputs gates
    ∙ ap (λ (a : List Port). netlist_of m.model m.names m.inputs m.gates a) outputs)
