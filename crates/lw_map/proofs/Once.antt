-- A network is mapped to one netlist, with one certificate, or one output is the first that has no cover.
use Rattle.std.proofs.Common.{ℕ, zero, suc, ◌<◌, ◌≤◌, ◌≡◌, List, [], ◌∷◌, All, Some, map, slice_get, slice_index_or, ap, sym, ◌∙◌, subst, arith}
use Rattle.std.specs.List.{AllZip}
use native.Mathlib.Decide.{dec_lt}
use Rattle.lw_pool.specs.declared.id.NetId.{NetId}
use Rattle.lw_fixed.specs.declared.micro.Micro.{Micro}
use Rattle.lw_laws.specs.Headline.{Port as PlainPort, HasLeastArrival}
use Rattle.lw_laws.proofs.Numbers.{slice_get_map}
use Rattle.lw_laws.proofs.NetlistOnce.{netlist_once}
use Rattle.lw_laws.proofs.NetlistValues.{some_arrivals}
use Rattle.lw_net.specs.Networks.{NetworkParts, IsNetwork, name_in}
use Rattle.lw_net.specs.Plain as network
use Rattle.lw_genlib.specs.Cells.{CellParts, IsLibrary, IsSmall}
use Rattle.lw_genlib.specs.Tables.{timing_of}
use Rattle.lw_form.specs.Limits.{most_bases}
use Rattle.lw_pattern.specs.Libraries.{library_patterns}
use Rattle.lw_label.specs.Delays.{most_time}
use Rattle.lw_netlist.specs.Netlists.{NetlistParts}
use Rattle.lw_netlist.specs.Plain as netlist
use Rattle.lw_map.specs.Options.{Options, IsWide}
use Rattle.lw_map.specs.Mapped.{base_count, IsMappedNetlist, IsUncovered, LacksCover}
use Rattle.lw_map.proofs.PlainNetlists.{parts_back}
use Rattle.lw_map.proofs.Mappings.{mapped_is_mapping}
use Rattle.lw_net.specs.Ports.{output_port, ports_of}
use Rattle.lw_netlist.specs.Plain.{plain_port, mapped_ports}

-- what stands beside an element
pub zip_at : {X Y : Type 0} (R : X → Y → Type 0) (xs : List X) (ys : List Y) (k : ℕ) (x : X) → AllZip R xs ys → slice_get xs k ≡ Some x → (y : Y) × R x y
zip_at R [] ys k x a e = cc
zip_at R (z ∷ xs) [] k x a e = absurd a
zip_at R (z ∷ xs) (y ∷ ys) zero x (r, a) e = let same : z ≡ x = cc in (y, subst (λ w. R w y) same r)
zip_at R (z ∷ xs) (y ∷ ys) (suc k) x (r, a) e = zip_at R xs ys k x a e

module _ (options : Options) (cells : List CellParts) (net : NetworkParts) (starts : List Micro) (wide : IsWide options) where
  -- the netlist is one
  pub mapped_once : (n m : NetlistParts) → IsMappedNetlist options cells net starts n → IsMappedNetlist options cells net starts m → n ≡ m
  mapped_once n m a b =
      let (plains, names, ports) = netlist_once options.mode options.width (network.plain net) (ports_of net) (library_patterns cells) (timing_of cells starts) most_time (netlist.plain n) (netlist.plain m) n.names m.names (mapped_ports n) (mapped_ports m) wide.least a.is b.is in
      parts_back n m a.kept b.kept (a.model_name ∙ sym b.model_name) plains names ports

  -- the first output without a cover is one
  pub lack_once : (name other : List ℕ) → LacksCover options cells net starts name → LacksCover options cells net starts other → name ≡ other
  lack_once name other a b = by_place (dec_lt a.place b.place) (dec_lt b.place a.place)
    where
      by_place : Dec (a.place < b.place) → Dec (b.place < a.place) → name ≡ other
      by_place (yes less) d = let (k, is) = b.first a.place a.output less a.at in absurd (a.lacks k is.is_cover is.has_tree)
      by_place (no more) (yes less) = let (k, is) = a.first b.place b.output less b.at in absurd (b.lacks k is.is_cover is.has_tree)
      by_place (no more) (no not) =
          let place : a.place ≡ b.place = omega arith in
          let at : slice_get net.outputs b.place ≡ Some a.output = subst (λ k. slice_get net.outputs k ≡ Some a.output) place a.at in
          let bt = b.at in
          let same : a.output ≡ b.output = cc in
          a.named ∙ (ap (name_in net) same ∙ sym b.named)

  module _ (kept : IsNetwork net) (early : All IsSmall starts) (lib : IsLibrary cells) where
    -- each output of a netlist that the network is mapped to has a cover
    pub covered : base_count options net ≤ most_bases → (n : NetlistParts) → IsMappedNetlist options cells net starts n → (place : ℕ) (output : NetId) → slice_get net.outputs place ≡ Some output → IsUncovered options cells net starts output → ⊥
    covered few n is place output at lacks =
        let mapping = mapped_is_mapping options cells net starts wide kept early lib few n is in
        let (ds, are) = some_arrivals (netlist.plain n) mapping.covering.ordered (timing_of cells starts) in
        let (q, least) = zip_at (λ (p q : PlainPort). HasLeastArrival options.mode options.width (network.plain net) (library_patterns cells) (timing_of cells starts) p.net (slice_index_or ds q.net 0)) (map (output_port net) net.outputs) (map plain_port n.outputs) place (output_port net output) (mapping.arrivals ds are) (slice_get_map (output_port net) net.outputs place output at) in
        let (k, k_is, tree, time) = least.attained in
        lacks k k_is tree
