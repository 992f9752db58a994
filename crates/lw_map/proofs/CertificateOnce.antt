-- The certificate of a mapped netlist is one.
use Rattle.std.proofs.Common.{ℕ, suc, ◌≡◌, List, [], ◌∷◌, length, map, Option, Some, None, option_map, slice_index_or, refl, ap, ap₂, sym, ◌∙◌, subst, arith}
use mathlib.Core.Path.{fun_ext}
use Rattle.lw_laws.proofs.NetlistOnce.{least_cover_once, gates_too}
use Rattle.lw_pool.specs.declared.id.ClassId.{ClassId}
use Rattle.lw_fixed.specs.declared.micro.Micro.{Micro}
use Rattle.lw_laws.specs.Graphs.{Graph}
use Rattle.lw_laws.specs.Costs.{Cost}
use Rattle.lw_laws.specs.Covers.{Pattern}
use Rattle.lw_laws.specs.Choices.{Labels, IsHeight}
use Rattle.lw_laws.specs.Matches.{choices_of, IsLeastCover}
use Rattle.lw_laws.specs.Rounds.{labels_in}
use Rattle.lw_laws.specs.Delays.{delay_cost}
use Rattle.lw_laws.specs.Listings.{listing_of}
use Rattle.lw_laws.specs.Extracts.{AreGateClasses, IsExtracted}
use Rattle.lw_laws.specs.MappedNetlists.{root_classes}
use Rattle.lw_laws.proofs.Unique.{IsHeight_once}
use Rattle.lw_laws.proofs.ClassLaws.{graphs_once}
use Rattle.lw_laws.proofs.ExtractLaws.{gate_classes_once}
use Rattle.lw_laws.proofs.Listed.{occurring_is_listing}
use Rattle.lw_net.specs.Networks.{NetworkParts}
use Rattle.lw_net.specs.Plain as network
use Rattle.lw_genlib.specs.Cells.{CellParts}
use Rattle.lw_genlib.specs.Tables.{timing_of}
use Rattle.lw_pattern.specs.Libraries.{library_patterns}
use Rattle.lw_label.specs.Delays.{most_time}
use Rattle.lw_netlist.specs.Netlists.{NetlistParts}
use Rattle.lw_netlist.specs.Plain as netlist
use Rattle.lw_mapped.specs.declared.certificate.Certificate.{Certificate}
use Rattle.lw_mapped.specs.Certified.{IsCertificateOf}
use Rattle.lw_map.specs.Options.{Options, IsWide}
use Rattle.lw_map.specs.Mapped.{IsMappedNetlist}
use Rattle.lw_net.specs.Ports.{ports_of}
use Rattle.lw_graph.proofs.Shared.{same_class}

-- Lists that say the same.

same_lists : {X : Type 0} (xs ys : List (Option X)) → length xs ≡ length ys → ((c : ℕ) → slice_index_or xs c None ≡ slice_index_or ys c None) → xs ≡ ys
same_lists [] [] e f = refl
same_lists [] (y ∷ ys) e f = absurd (omega (arith, e))
same_lists (x ∷ xs) [] e f = absurd (omega (arith, e))
same_lists (x ∷ xs) (y ∷ ys) e f = ap₂ (λ z zs. z ∷ zs) (f 0) (same_lists xs ys (omega (arith, e)) (λ c. f (suc c)))

micro_back : (x y : Micro) → x.0 ≡ y.0 → x ≡ y
micro_back x y e = let f : ℕ → Micro = λ n. record { 0 = n } in ap f e

option_back : {X : Type 0} (f : X → ℕ) → ((x y : X) → f x ≡ f y → x ≡ y) → (o p : Option X) → option_map f o ≡ option_map f p → o ≡ p
option_back f back None None e = refl
option_back f back None (Some y) e = cc
option_back f back (Some x) None e = cc
option_back f back (Some x) (Some y) e = let same : f x ≡ f y = cc in ap Some (back x y same)

options_back : {X : Type 0} (f : X → ℕ) → ((x y : X) → f x ≡ f y → x ≡ y) → (os ps : List (Option X)) → map (option_map f) os ≡ map (option_map f) ps → os ≡ ps
options_back f back [] [] e = refl
options_back f back [] (p ∷ ps) e = cc
options_back f back (o ∷ os) [] e = cc
options_back f back (o ∷ os) (p ∷ ps) e =
    let head : option_map f o ≡ option_map f p = cc in
    let tail : map (option_map f) os ≡ map (option_map f) ps = cc in
    ap₂ (λ z zs. z ∷ zs) (option_back f back o p head) (options_back f back os ps tail)

certificate_of : List (Option Micro) → List (Option ClassId) → Certificate
certificate_of labels nets = record { labels = labels; nets = nets }

-- what a netlist is mapped over
record Over (options : Options) (cells : List CellParts) (net : NetworkParts) (starts : List Micro) (n : NetlistParts) (g : Graph) (c : Certificate) : Type 0 where
  labels : List (Option ℕ)
  least : (k : ℕ) → IsLeastCover g (library_patterns cells) (delay_cost (timing_of cells starts) most_time) k (labels_in labels k)
  heights : ℕ → ℕ
  height : (k l : ℕ) → labels_in labels k ≡ Some l → IsHeight (choices_of g (map length (timing_of cells starts).delays) (library_patterns cells)) (delay_cost (timing_of cells starts) most_time) (labels_in labels) k (heights k)
  gates : List ℕ
  gate_classes : AreGateClasses g (delay_cost (timing_of cells starts) most_time) (library_patterns cells) (labels_in labels) heights (root_classes options.width (network.plain net) g (ports_of net).outputs) gates
  extracted : IsExtracted g (delay_cost (timing_of cells starts) most_time) (library_patterns cells) (labels_in labels) heights gates (netlist.plain n)
  labels_are : (k : ℕ) → option_map (λ (label : Micro). label.0) (slice_index_or c.labels k None) ≡ labels_in labels k
  nets_are : map (option_map (λ (class : ClassId). class.0)) c.nets ≡ map Some gates
  one_each : length c.labels ≡ length g.pairs

over : (options : Options) (cells : List CellParts) (net : NetworkParts) (starts : List Micro) (n : NetlistParts) (a : IsMappedNetlist options cells net starts n) (c : Certificate) → IsCertificateOf a.is c → length c.labels ≡ length a.is.graph.pairs → Over options cells net starts n a.is.graph c
over options cells net starts n a c is count = record {
  labels = a.is.labels;
  least = a.is.least;
  heights = a.is.heights;
  height = a.is.height;
  gates = a.is.gates;
  gate_classes = a.is.gate_classes;
  extracted = a.is.extracted;
  labels_are = is.labels;
  nets_are = is.nets;
  one_each = count;
}

module _ (options : Options) (cells : List CellParts) (net : NetworkParts) (starts : List Micro) (wide : IsWide options) where
  abbrev cost : Cost
  cost = delay_cost (timing_of cells starts) most_time

  abbrev pats : List Pattern
  pats = library_patterns cells

  over_once : (n m : NetlistParts) (g : Graph) (c d : Certificate) → Over options cells net starts n g c → Over options cells net starts m g d → c ≡ d
  unfolding certificate_of
  over_once n m g c d a b =
      let roots = root_classes options.width (network.plain net) g (ports_of net).outputs in
      let same : labels_in b.labels ≡ labels_in a.labels = fun_ext (λ k. least_cover_once g pats cost k (labels_in b.labels k) (labels_in a.labels k) (b.least k) (a.least k)) in
      let height = subst (λ (ls : Labels). (k l : ℕ) → ls k ≡ Some l → IsHeight (choices_of g (map length (timing_of cells starts).delays) pats) cost ls k (b.heights k)) same b.height in
      let classes = subst (λ (ls : Labels). AreGateClasses g cost pats ls b.heights roots b.gates) same b.gate_classes in
      let extracted = subst (λ (ls : Labels). IsExtracted g cost pats ls b.heights b.gates (netlist.plain m)) same b.extracted in
      let agree : (k l : ℕ) → labels_in a.labels k ≡ Some l → b.heights k ≡ a.heights k = λ k l e. IsHeight_once (choices_of g (map length (timing_of cells starts).delays) pats) cost (labels_in a.labels) k (b.heights k) (a.heights k) (height k l e) (a.height k l e) in
      let back : (k l : ℕ) → labels_in a.labels k ≡ Some l → a.heights k ≡ b.heights k = λ k l e. sym (agree k l e) in
      let moved = gates_too g cost pats (labels_in a.labels) roots b.heights a.heights agree back b.gates (netlist.plain m) extracted classes in
      let gates = gate_classes_once g cost pats (labels_in a.labels) a.heights roots b.gates a.gates moved a.gate_classes in
      let label_at : (k : ℕ) → slice_index_or c.labels k None ≡ slice_index_or d.labels k None = λ k. option_back (λ (label : Micro). label.0) micro_back (slice_index_or c.labels k None) (slice_index_or d.labels k None) (a.labels_are k ∙ (ap (λ (ls : Labels). ls k) (sym same) ∙ sym (b.labels_are k))) in
      ap₂ certificate_of (same_lists c.labels d.labels (a.one_each ∙ sym b.one_each) label_at)
      (options_back (λ (class : ClassId). class.0) same_class c.nets d.nets (a.nets_are ∙ (ap (λ gs. map Some gs) (sym gates) ∙ sym b.nets_are)))

  pub certificate_once : (n m : NetlistParts) (a : IsMappedNetlist options cells net starts n) (b : IsMappedNetlist options cells net starts m) (c d : Certificate) → IsCertificateOf a.is c → IsCertificateOf b.is d → length c.labels ≡ length a.is.graph.pairs → length d.labels ≡ length b.is.graph.pairs → c ≡ d
  certificate_once n m a b c d of_a of_b count also =
      let graph = graphs_once options.mode net.inputs (listing_of options.width (network.plain net)) (occurring_is_listing options.width wide.least (network.plain net)) b.is.graph a.is.graph b.is.is_graph a.is.is_graph in
      over_once n m a.is.graph c d (over options cells net starts n a c of_a count) (subst (λ g. Over options cells net starts m g d) graph (over options cells net starts m b d of_b also))
