-- The outputs of a netlist beside those of a network.
use Rattle.std.proofs.Common.{ℕ, ◌≡◌, List, [], ◌∷◌, map, subst}
use Rattle.std.specs.List.{AllZip}
use Rattle.lw_pool.specs.declared.id.ClassId.{ClassId}
use Rattle.lw_pool.specs.Numbers.{numbers}
use Rattle.lw_laws.specs.Networks.{Network}
use Rattle.lw_laws.specs.Graphs.{Graph}
use Rattle.lw_laws.specs.Extracts.{IsNetOf}
use Rattle.lw_laws.specs.Mapped.{root_class}
use Rattle.lw_laws.specs.Headline.{Port as PlainPort}
use Rattle.lw_laws.specs.MappedNetlists.{root_classes}
use Rattle.lw_netlist.specs.declared.gate.Port.{Port}
use Rattle.lw_netlist.specs.Plain.{plain_port}

abbrev pub port_name : PlainPort → List ℕ
port_name p = p.name

-- the outputs have the names and the nets
pub zip_outputs : (width : ℕ) (net : Network) (g : Graph) (gates : List ℕ) (outputs : List PlainPort) (roots : List ClassId) (mapped : List Port) → numbers roots ≡ root_classes width net g outputs → map (λ (port : Port). port.name) mapped ≡ map port_name outputs → AllZip (λ (root : ClassId) (port : Port). IsNetOf g gates root.0 port.net.0) roots mapped → AllZip (λ p q. (p.name ≡ q.name) × IsNetOf g gates (root_class width net g p.net) q.net) outputs (map plain_port mapped)
zip_outputs width net g gates [] roots [] classes names nets = tt
zip_outputs width net g gates [] roots (q ∷ mapped) classes names nets = cc
zip_outputs width net g gates (p ∷ outputs) roots [] classes names nets = cc
zip_outputs width net g gates (p ∷ outputs) [] (q ∷ mapped) classes names nets = cc
zip_outputs width net g gates (p ∷ outputs) (root ∷ roots) (q ∷ mapped) classes names (at, nets) =
    let c : root.0 ≡ root_class width net g p.net = cc in
    let cs : numbers roots ≡ root_classes width net g outputs = cc in
    let n : p.name ≡ q.name = cc in
    let ns : map (λ (port : Port). port.name) mapped ≡ map port_name outputs = cc in
    ((n, subst (λ d. IsNetOf g gates d q.net.0) c at), zip_outputs width net g gates outputs roots mapped cs ns nets)
