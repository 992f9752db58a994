-- the rules over plain forms, from those over numbers.
use Rattle.std.proofs.Common.{ℕ, ◌/◌, Bool, List, Option}
use Rattle.lw_laws.specs.Graphs.{Graph}
use Rattle.lw_laws.specs.NumberedForms.{family_of}
use Rattle.lw_laws.specs.Encodings.{Encodes}
use Rattle.lw_laws.specs.Covers.{Timing, Pattern, tree_of}
use Rattle.lw_laws.specs.Netlists.{Netlist}
use Rattle.lw_laws.specs.Forms.{Form}
use Rattle.lw_laws.specs.Numbering.{number, numbered}
use Rattle.lw_laws.specs.Modes.{Mode}
use Rattle.lw_laws.specs.Listings.{Listing, IsListed, IsListing}
use Rattle.lw_laws.specs.Laws.{HasTheTrees, ClassesAreSharedTrees, ClassesHaveValue}
use Rattle.lw_laws.specs.Headline.{HasLeastTime}
use Rattle.lw_laws.specs.SignalValues.{SignalsAgree}
use Rattle.lw_laws.proofs.Together.{has_the_trees, certified_least}
use Rattle.lw_laws.proofs.Numbers.{occurs_number}
use Rattle.lw_laws.proofs.Encoding.{common_tree_class}
use Rattle.lw_laws.proofs.NumberedForms.{forms_are_family}
use Rattle.lw_laws.proofs.NumberValues.{trees_have_value}
use Rattle.lw_laws.proofs.Agreement.{same_trees, number_in, numbered_are_forms}
use Rattle.lw_laws.proofs.Words.{IsCertified, IsOutput}

pub has_plain_trees : (mode : Mode) (inputs : ℕ) (o : Listing) (g : Graph) → IsListing o → Encodes (family_of mode (numbered inputs o)) g → HasTheTrees mode o g
has_plain_trees mode inputs o g is encodes f t occ =
    let n = number o.bases f in
    let num = occurs_number o is f occ in
    let trees = has_the_trees mode (numbered inputs o) g (numbered_are_forms inputs o is) encodes n t (number_in inputs o is f n num) in
    let same = same_trees inputs o is mode f t occ in
    (λ u. same.1 (trees.0 u), λ d. trees.1 (same.0 d))

pub certified_plain_least : (mode : Mode) (inputs : ℕ) (o : Listing) (g : Graph) (pats : List Pattern) (timing : Timing) (cap : ℕ) (labels : List (Option ℕ)) (n : Netlist) (class arrivals : ℕ → ℕ) → IsListing o → IsCertified mode (numbered inputs o) g pats timing cap labels n class arrivals → (net : ℕ) (f : Form) → IsListed o f → IsOutput g labels n class arrivals net (number o.bases f) → HasLeastTime mode o.width o.signals pats timing f (arrivals net)
certified_plain_least mode inputs o g pats timing cap labels n class arrivals is certified net f occ output =
    let m = number o.bases f in
    let num = occurs_number o is f occ in
    let least = certified_least mode (numbered inputs o) g pats timing cap labels n class arrivals certified net m (number_in inputs o is f m num) output in
    record {
      attained = let (k, cover, d, time) = least.attained in (k, cover, (same_trees inputs o is mode f (tree_of k) occ).1 d, time);
      least = λ k cover d. least.least k cover ((same_trees inputs o is mode f (tree_of k) occ).0 d);
    }

pub classes_shared : (mode : Mode) (inputs : ℕ) (o : Listing) (g : Graph) → IsListing o → Encodes (family_of mode (numbered inputs o)) g → ClassesAreSharedTrees mode o g
classes_shared mode inputs o g is encodes f h occ occ_h =
    let forms = numbered inputs o in
    let n = number o.bases f in
    let m = number o.bases h in
    let shared = common_tree_class (family_of mode forms) (λ k. k / 2) (forms_are_family mode forms (numbered_are_forms inputs o is)) g encodes n m (number_in inputs o is f n (occurs_number o is f occ)) (number_in inputs o is h m (occurs_number o is h occ_h)) in
    (λ e. let (t, p, q) = shared.0 e in (t, (same_trees inputs o is mode f t occ).1 p, (same_trees inputs o is mode h t occ_h).1 q), λ (t, p, q). shared.1 (t, (same_trees inputs o is mode f t occ).0 p, (same_trees inputs o is mode h t occ_h).0 q))

pub classes_valued : (mode : Mode) (inputs : ℕ) (o : Listing) (g : Graph) (x : ℕ → Bool) → IsListing o → SignalsAgree o.signals x → Encodes (family_of mode (numbered inputs o)) g → ClassesHaveValue o g x
classes_valued mode inputs o g x is agree encodes f t occ u =
    trees_have_value inputs o is x agree mode f t occ ((has_plain_trees mode inputs o g is encodes f t occ).0 u)
