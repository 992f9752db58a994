-- The forms of a network are a listing whose linked forms have one value, and further links keep a listing so. Its netlist is that of forms.
use Rattle.std.proofs.Common.{ℕ, ◌≤◌, ◌≡◌, List, [], ◌++◌, Contains}
use Rattle.lw_facts.proofs.Lists.{at_contained, contained_at, get_left, all_by_place}
use Rattle.lw_laws.specs.Networks.{Network}
use Rattle.lw_laws.specs.Forms.{Form, form_value}
use Rattle.lw_laws.specs.Signals.{Signal, sop_at, signals_of}
use Rattle.lw_laws.specs.Modes.{Mode}
use Rattle.lw_laws.specs.Covers.{Timing, Pattern}
use Rattle.lw_laws.specs.Netlists.{Netlist}
use Rattle.lw_laws.specs.Headline.{Ports}
use Rattle.lw_laws.specs.MappedNetlists.{IsNetlistOfForms, IsNetlistOf}
use Rattle.lw_laws.specs.Decompositions.{Occurs}
use Rattle.lw_laws.specs.Decompositions.Occurs.{true_occurs, sop_occurs, fac_occurs, operand_occurs, part_occurs, complement_occurs}
use Rattle.lw_laws.specs.Listings.{Listing, listing_of, IsListed}
use Rattle.lw_laws.specs.SignalValues.{IsSoundListing, IsLinkOf, with_links}
use Rattle.lw_laws.proofs.FormTruth.{signals_agree}
use Rattle.lw_laws.proofs.Listed.{occurring_is_listing, true_and_inputs_first}
use Rattle.lw_laws.proofs.Lists.{all_append, all_at}

pub network_is_sound : (width : ℕ) → 2 ≤ width → (net : Network) → IsSoundListing net.inputs (listing_of width net)
network_is_sound width wide net = record {
  listing = occurring_is_listing width wide net;
  first = true_and_inputs_first width wide net;
  agree = λ x. signals_agree x width net;
}

-- what occurs by some pairs occurs by more
more_occur : (xs ys : List Signal) → ((x : Signal) → Contains xs x → Contains ys x) → {f : Form} → Occurs xs f → Occurs ys f
more_occur xs ys more true_occurs = true_occurs
more_occur xs ys more (sop_occurs {x = x} c) = sop_occurs (more x c)
more_occur xs ys more (fac_occurs {x = x} c) = fac_occurs (more x c)
more_occur xs ys more (operand_occurs occ c) = operand_occurs (more_occur xs ys more occ) c
more_occur xs ys more (part_occurs occ parts two) = part_occurs (more_occur xs ys more occ) parts two
more_occur xs ys more (complement_occurs occ) = complement_occurs (more_occur xs ys more occ)

-- links of listed forms with equal values keep a sound listing sound
pub links_sound : (inputs : ℕ) (o : Listing) (links : List Signal) → IsSoundListing inputs o → ((x : Signal) → Contains links x → IsLinkOf o x) → IsSoundListing inputs (with_links o links)
links_sound inputs o links sound are = record {
  listing = record {
    signs = sound.listing.signs;
    once = sound.listing.once;
    ands = sound.listing.ands;
    signals = λ s x e. all_at (λ x. IsListed o x.sop × IsListed o x.fac) (o.signals ++ links)
        (all_append (λ x. IsListed o x.sop × IsListed o x.fac) o.signals links
        (all_by_place (λ x. IsListed o x.sop × IsListed o x.fac) o.signals sound.listing.signals)
        (all_by_place (λ x. IsListed o x.sop × IsListed o x.fac) links (λ i x e. (are x (at_contained links i x e)).listed))) s x e;
    top = sound.listing.top;
    only = λ b f e. more_occur o.signals (o.signals ++ links) further (sound.listing.only b f e);
  };
  first = sound.first;
  agree = λ v s x e. all_at (λ x. form_value v x.sop ≡ form_value v x.fac) (o.signals ++ links)
      (all_append (λ x. form_value v x.sop ≡ form_value v x.fac) o.signals links
      (all_by_place (λ x. form_value v x.sop ≡ form_value v x.fac) o.signals (sound.agree v))
      (all_by_place (λ x. form_value v x.sop ≡ form_value v x.fac) links (λ i x e. (are x (at_contained links i x e)).agree v))) s x e;
}
  where
    further : (x : Signal) → Contains o.signals x → Contains (o.signals ++ links) x
    further x c = let (k, e) = contained_at o.signals x c in at_contained (o.signals ++ links) k x (get_left o.signals links k x e)

-- the netlist of a network is that of the sums of products of its nets
abbrev pub netlist_of_sops : (mode : Mode) (width : ℕ) (net : Network) (ports : Ports) (pats : List Pattern) (timing : Timing) (cap : ℕ) (n : Netlist) (names : List (List ℕ)) (mapped : Ports) → IsNetlistOf mode width net ports pats timing cap n names mapped → IsNetlistOfForms mode net.inputs (listing_of width net) (sop_at (signals_of width net)) ports pats timing cap n names mapped
netlist_of_sops mode width net ports pats timing cap n names mapped is = record {
  graph = is.graph;
  is_graph = is.is_graph;
  labels = is.labels;
  least = is.least;
  heights = is.heights;
  height = is.height;
  gates = is.gates;
  gate_classes = is.gate_classes;
  extracted = is.extracted;
  input_names = is.input_names;
  outputs = is.outputs;
  names_are = is.names_are;
}
