-- The netlist of least area by a deadline: covers, values and names.
use Rattle.std.proofs.Common.{ℕ, zero, suc, ◌+◌, ◌<◌, ◌≡◌, Bool, List, ◌++◌, map, length, Some, slice_get, slice_index_or, refl, ap, sym, ◌∙◌, subst, arith}
use Rattle.std.specs.List.{AllZip, range_with_len}
use Rattle.std.proofs.lemmas.List.{length-map}
use Rattle.std.proofs.lemmas.Option.{get_or_from_slice_get, slice_get_within}
use Rattle.lw_pool.specs.declared.id.NetId.{NetId}
use Rattle.lw_pool.specs.declared.id.ClassId.{ClassId}
use Rattle.lw_fixed.specs.declared.micro.Micro.{Micro}
use Rattle.lw_laws.specs.Networks.{AreValues}
use Rattle.lw_laws.specs.Headline.{Port as PlainPort, HasLeastArrival}
use Rattle.lw_laws.specs.Netlists.{AreArrivals, AreNetCosts, AreNetlistValues}
use Rattle.lw_laws.proofs.Lists.{slice_get_some}
use Rattle.lw_laws.proofs.Numbers.{slice_get_map, slice_get_map_back}
use Rattle.lw_net.specs.Networks.{NetworkParts, IsNetwork, name_in, output_names}
use Rattle.lw_net.specs.Plain as network
use Rattle.lw_genlib.specs.Cells.{CellParts, IsLibrary}
use Rattle.lw_genlib.specs.Tables.{timing_of, truth_of_cells}
use Rattle.lw_pattern.specs.Libraries.{library_patterns}
use Rattle.lw_netlist.specs.declared.gate.Port.{Port}
use Rattle.lw_netlist.specs.Netlists.{NetlistParts, IsNetlist}
use Rattle.lw_netlist.specs.Plain as netlist
use Rattle.lw_extract.specs.declared.ports.Ports.{Ports}
use Rattle.lw_choices.specs.Areas.{area_cost}
use Rattle.lw_trade.specs.Traded.{IsTraded}
use Rattle.lw_map.specs.declared.choices.Choices.{Choices}
use Rattle.lw_map.specs.Options.{plain_options}
use Rattle.lw_map.specs.Choices.{AreChoicesOf}
use Rattle.lw_map.specs.Ports.{ArePortsOf}
use Rattle.lw_map.specs.Trading.{AreEarliest, HasLeastArea, micros, put_off}
use Rattle.lw_map.proofs.Traded.{IsBest, best_area, best_values, class_of_net, zip_places}
use Rattle.lw_map.proofs.Deadlines.{s, targets, output_of, times_count}
use Rattle.lw_net.specs.Ports.{output_port, ports_of}
use Rattle.lw_netlist.specs.Plain.{plain_port, mapped_ports, port_name}

-- numbers from one on
pub range_back : (a m i x : ℕ) → slice_get (range_with_len a m) i ≡ Some x → (x ≡ a + i) × (i < m)
range_back a zero i x e = cc
range_back a (suc m) zero x e = let same : a ≡ x = cc in (omega arith, omega arith)
range_back a (suc m) (suc i) x e = let (same, lt) = range_back (a + 1) m i x e in (omega arith, omega arith)

pub range_some : (a m i : ℕ) → i < m → slice_get (range_with_len a m) i ≡ Some (a + i)
range_some a zero i lt = absurd (omega arith)
range_some a (suc m) zero lt = ap Some (omega arith)
range_some a (suc m) (suc i) lt = let e : (a + 1) + i ≡ a + suc i = omega arith in range_some (a + 1) m i (omega arith) ∙ ap Some e

pub ranges_back : (a m l j x : ℕ) → slice_get (range_with_len a m ++ range_with_len (a + m) l) j ≡ Some x → x ≡ a + j
ranges_back a zero l j x e = let (same, lt) = range_back (a + 0) l j x e in omega arith
ranges_back a (suc m) l zero x e = let same : a ≡ x = cc in omega arith
ranges_back a (suc m) l (suc j) x e =
    let shift : a + suc m ≡ (a + 1) + m = omega arith in
    let ih = ranges_back (a + 1) m l j x (subst (λ b. slice_get (range_with_len (a + 1) m ++ range_with_len b l) j ≡ Some x) shift e) in
    omega arith

module _ (net : NetworkParts) (starts : List Micro) (c : Choices) (cells : List CellParts) (kept : IsNetwork net) (are : AreChoicesOf net c) (times : List Micro) (deadline : Micro) (earliest : AreEarliest (plain_options c.options) cells net starts (micros times)) (ports : Ports) (named : ArePortsOf net c ports) (later : List Micro) (later_are : later ≡ map (put_off deadline) times) (n : NetlistParts) (own : IsNetlist n) (is : IsTraded (s net starts c cells kept are times deadline earliest) (targets net starts c cells kept are times deadline earliest ports named later later_are) n) where
  names_of : map port_name n.outputs ≡ output_names net
  names_of = is.output_names ∙ named.outputs

  pub outputs_count : length n.outputs ≡ length net.outputs
  outputs_count = sym (length-map n.outputs port_name) ∙ (ap length names_of ∙ length-map net.outputs (name_in net))

  roots_count : length c.roots ≡ length net.outputs
  roots_count =
      sym (length-map c.roots (λ (d : ClassId). d.0))
      ∙ (ap length are.roots ∙ (length-map (map (output_port net) net.outputs) (λ (p : PlainPort). class_of_net net starts c cells kept are p.net) ∙ length-map net.outputs (output_port net)))

  -- what stands at a place
  pub record IsPlaced (k : ℕ) (p q : PlainPort) : Type 0 where
    pub root : ClassId
    pub root_at : slice_get c.roots k ≡ Some root
    pub class_is : root.0 ≡ class_of_net net starts c cells kept are p.net
    pub port : Port
    pub port_at : slice_get n.outputs k ≡ Some port
    pub port_is : port.net.0 ≡ q.net
    pub time : ℕ
    pub first : HasLeastArrival (plain_options c.options).mode (plain_options c.options).width (network.plain net) (library_patterns cells) (timing_of cells starts) p.net time
    pub best : IsBest net starts c cells (Some deadline) n time (class_of_net net starts c cells kept are p.net) q.net
    pub known : p.net < length net.names
    pub within : q.net < n.inputs + length n.gates

  placed : (k : ℕ) (o : NetId) (port : Port) → slice_get net.outputs k ≡ Some o → slice_get n.outputs k ≡ Some port → IsPlaced k (output_port net o) (plain_port port)
  placed k o port at bt =
      let lt = slice_get_within net.outputs k o at in
      let a = roots_count in
      let b = times_count net starts c cells kept are times deadline earliest in
      let (root, ct) = slice_get_some c.roots k (omega arith) in
      let (u, dt) = slice_get_some times k (omega arith) in
      let x = output_of net starts c cells kept are times deadline earliest k root u ct dt in
      let x_at = x.at in
      let same : x.output ≡ o = cc in
      let class : root.0 ≡ class_of_net net starts c cells kept are o.0 = x.class_is ∙ ap (λ (w : NetId). class_of_net net starts c cells kept are w.0) same in
      let late : slice_get later k ≡ Some (put_off deadline u) = ap (λ (ts : List Micro). slice_get ts k) later_are ∙ slice_get_map (put_off deadline) times k u dt in
      let by = is.least k root (put_off deadline u) port (ap (λ (rs : List ClassId). slice_get rs k) named.roots ∙ ct) late bt in
      let soon = by.is_cover.in_time in
      let inside : port.net.0 < length n.names = subst (λ (w : Port). w.net.0 < length n.names) (get_or_from_slice_get n.outputs k port port bt) (own.outputs k port (slice_get_within n.outputs k port bt)) in
      record {
        root = root;
        root_at = ct;
        class_is = class;
        port = port;
        port_at = bt;
        port_is = refl;
        time = u.0;
        first = subst (λ (w : NetId). HasLeastArrival (plain_options c.options).mode (plain_options c.options).width (network.plain net) (library_patterns cells) (timing_of cells starts) w.0 u.0) same x.least;
        best = subst (λ d. IsBest net starts c cells (Some deadline) n u.0 d port.net.0) class (record {
          by = by.by;
          stands = by.stands;
          is_cover = by.is_cover.is_cover;
          unfolds = by.is_cover.unfolds;
          in_time = omega arith;
          best = λ other other_is u_is time. by.least.1 other (record { is_cover = other_is; unfolds = u_is; in_time = omega arith });
        });
        known = subst (λ (w : NetId). w.0 < length net.names) same x.known;
        within = let m = own.named in omega arith;
      }

  pub place_of : (k : ℕ) (p q : PlainPort) → slice_get (map (output_port net) net.outputs) k ≡ Some p → slice_get (map plain_port n.outputs) k ≡ Some q → IsPlaced k p q
  place_of k p q at bt =
      let (o, e, same) = slice_get_map_back (output_port net) net.outputs k p at in
      let (port, f, is_q) = slice_get_map_back plain_port n.outputs k q bt in
      subst (λ r. IsPlaced k p r) is_q (subst (λ r. IsPlaced k r (plain_port port)) same (placed k o port e f))

  both_count : length (map (output_port net) net.outputs) ≡ length (map plain_port n.outputs)
  both_count = length-map net.outputs (output_port net) ∙ (sym outputs_count ∙ sym (length-map n.outputs plain_port))

  pub traded_outputs : (ds areas : List ℕ) → AreArrivals (timing_of cells starts) (netlist.plain n) ds → AreNetCosts (area_cost cells) (netlist.plain n) areas → AllZip (λ p q. HasLeastArea (plain_options c.options) cells net starts (Some deadline) n p.net q.net (slice_index_or ds q.net 0) (slice_index_or areas q.net 0)) (ports_of net).outputs (mapped_ports n).outputs
  traded_outputs ds areas arrive cost =
      zip_places (λ p q. HasLeastArea (plain_options c.options) cells net starts (Some deadline) n p.net q.net (slice_index_or ds q.net 0) (slice_index_or areas q.net 0)) (map (output_port net) net.outputs) (map plain_port n.outputs) both_count
      (λ k p q at bt. let x = place_of k p q at bt in best_area net starts c cells kept are (Some deadline) n p.net q.net x.time ds areas x.known x.first x.best arrive cost)

  pub traded_values : IsLibrary cells → (x : ℕ → Bool) (vs ws : List Bool) → AreValues (network.plain net) x vs → AreNetlistValues (truth_of_cells cells) (netlist.plain n) x ws → AllZip (λ p q. slice_get vs p.net ≡ slice_get ws q.net) (ports_of net).outputs (mapped_ports n).outputs
  traded_values lib x vs ws right also =
      zip_places (λ p q. slice_get vs p.net ≡ slice_get ws q.net) (map (output_port net) net.outputs) (map plain_port n.outputs) both_count
      (λ k p q at bt. let y = place_of k p q at bt in best_values net starts c cells kept are lib (Some deadline) n p.net q.net y.time x vs ws y.known y.within y.best right also)

  pub outputs_named_at : (k : ℕ) (p q : PlainPort) → slice_get (map (output_port net) net.outputs) k ≡ Some p → slice_get (map plain_port n.outputs) k ≡ Some q → p.name ≡ q.name
  outputs_named_at k p q at bt =
      let (o, e, same) = slice_get_map_back (output_port net) net.outputs k p at in
      let (port, f, is_q) = slice_get_map_back plain_port n.outputs k q bt in
      let one : slice_get (output_names net) k ≡ Some (name_in net o) = slice_get_map (name_in net) net.outputs k o e in
      let two : slice_get (output_names net) k ≡ Some port.name = ap (λ (ns : List (List ℕ)). slice_get ns k) (sym names_of) ∙ slice_get_map port_name n.outputs k port f in
      let names : name_in net o ≡ port.name = cc in
      sym (ap (λ (r : PlainPort). r.name) same) ∙ (names ∙ ap (λ (r : PlainPort). r.name) is_q)

  pub traded_output_names : AllZip (λ p q. p.name ≡ q.name) (ports_of net).outputs (mapped_ports n).outputs
  traded_output_names = zip_places (λ p q. p.name ≡ q.name) (map (output_port net) net.outputs) (map plain_port n.outputs) both_count outputs_named_at
