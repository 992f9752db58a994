-- Names that more come behind.
use Rattle.std.proofs.Common.{◌≡◌, ℕ, zero, suc, ◌+◌, ◌<◌, Bool, true, false, cond, List, [], ◌∷◌, ◌++◌, length, map, get_or, Some, slice_get, take, All, refl, sym, ap, ap₂, subst, ◌∙◌, arith, append_assoc, length-append}
use Rattle.std.proofs.lemmas.List.{get_or_append_left, get_or-map, length-map, map-append, take_more}
use Rattle.std.proofs.lemmas.List.Elements.{All-head, All-tail, All-weaker, All-push}
use Rattle.std.proofs.lemmas.Option.{get_or_from_slice_get, slice_get-get_or, slice_get_within}
use Rattle.std.specs.List.{list_any}
use Rattle.std.specs.Str.{bytes_eq}
use Rattle.lw_facts.proofs.Lists.{bytes_eq_is}
use Rattle.indexmap.specs.IndexSet.{insert_key}
use Rattle.lw_net.specs.declared.draft.Draft.{Draft}
use Rattle.lw_net.specs.declared.draft.DraftNode.{DraftNode}
use Rattle.lw_net.specs.declared.written.NumberedNode.{NumberedNode}
use Rattle.lw_net.specs.Closing.{out_of}
use Rattle.lw_net.specs.Written.{name_at, names_in, named_node, named_nodes, IsWithin, IsLonger, number_of_out}

pub longer_same : (names new : List (List ℕ)) → new ≡ names → IsLonger names new
longer_same names new is = subst (IsLonger names) (sym is) (record { more = omega arith; same = λ n lt. refl })

pub longer_then : (a b c : List (List ℕ)) → IsLonger a b → IsLonger b c → IsLonger a c
longer_then a b c first second = record {
  more = omega (arith, first.more, second.more);
  same = λ n lt. second.same n (omega (arith, first.more)) ∙ first.same n lt;
}

pub longer_insert : (names new : List (List ℕ)) (name : List ℕ) → new ≡ insert_key bytes_eq names name → IsLonger names new
longer_insert names new name is = by_test (list_any (bytes_eq name) names) is
  where
    by_test : (b : Bool) → new ≡ cond b names (names ++ name ∷ []) → IsLonger names new
    by_test true e = longer_same names new e
    by_test false e = record {
      more = omega (arith, ap length e, length-append names (name ∷ []));
      same = λ n lt. ap (λ l. name_at l n) e ∙ get_or_append_left names (name ∷ []) [] n lt;
    }

-- the name that is stored
pub stored_name : (names : List (List ℕ)) (n : ℕ) (name : List ℕ) → (k : List ℕ) × (slice_get names n ≡ Some k) × (bytes_eq name k ≡ true) → name_at names n ≡ name
stored_name names n name (k, at, same) = get_or_from_slice_get names n k [] at ∙ sym (bytes_eq_is name k same)

pub names_longer : (old new : List (List ℕ)) (ns : List ℕ) → IsLonger old new → All (λ n. n < length old) ns → names_in new ns ≡ names_in old ns
names_longer old new [] longer all = refl
names_longer old new (n ∷ ns) longer all = ap₂ (λ x xs. x ∷ xs) (longer.same n (All-head (λ m. m < length old) n ns all)) (names_longer old new ns longer (All-tail (λ m. m < length old) n ns all))

pub within_longer : (old new : List (List ℕ)) (ns : List ℕ) → IsLonger old new → All (λ n. n < length old) ns → All (λ n. n < length new) ns
within_longer old new ns longer all = All-weaker (λ n. n < length old) (λ n. n < length new) (λ n lt. omega (arith, longer.more)) ns all

-- one more number
pub numbers_more : (old new : List (List ℕ)) (ns more : List ℕ) (n : ℕ) (name : List ℕ) (before rest whole : List (List ℕ)) → IsLonger old new → All (λ m. m < length old) ns → name_at new n ≡ name → more ≡ ns ++ n ∷ [] → before ≡ name ∷ rest → names_in old ns ++ before ≡ whole → names_in new more ++ rest ≡ whole
numbers_more old new ns more n name before rest whole longer all named grown popped was =
    ap (λ l. names_in new l ++ rest) grown
    ∙ (ap (λ l. l ++ rest) (map-append (name_at new) ns (n ∷ []))
    ∙ (ap₂ (λ a b. (a ++ b ∷ []) ++ rest) (names_longer old new ns longer all) named
    ∙ (append_assoc (names_in old ns) (name ∷ []) rest
    ∙ (ap (λ l. names_in old ns ++ l) (sym popped) ∙ was))))

pub within_more : (old new : List (List ℕ)) (ns more : List ℕ) (n : ℕ) → IsLonger old new → All (λ m. m < length old) ns → n < length new → more ≡ ns ++ n ∷ [] → All (λ m. m < length new) more
within_more old new ns more n longer all lt grown = subst (All (λ m. m < length new)) (sym grown) (All-push (λ m. m < length new) ns n (within_longer old new ns longer all) lt)

node_with : NumberedNode → List ℕ → List (List ℕ) → DraftNode
node_with node out fanins = record { out = out; fanins = fanins; rows = node.rows; on = node.on }

node_longer : (old new : List (List ℕ)) (node : NumberedNode) → IsLonger old new → IsWithin (length old) node → named_node new node ≡ named_node old node
unfolding node_with
node_longer old new node longer is = ap₂ (node_with node) (longer.same node.out is.out) (names_longer old new node.fanins longer is.fanins)

pub nodes_longer : (old new : List (List ℕ)) (nodes : List NumberedNode) → IsLonger old new → All (IsWithin (length old)) nodes → named_nodes new nodes ≡ named_nodes old nodes
nodes_longer old new [] longer all = refl
nodes_longer old new (node ∷ nodes) longer all = ap₂ (λ x xs. x ∷ xs) (node_longer old new node longer (All-head (IsWithin (length old)) node nodes all)) (nodes_longer old new nodes longer (All-tail (IsWithin (length old)) node nodes all))

pub nodes_within_longer : (old new : List (List ℕ)) (nodes : List NumberedNode) → IsLonger old new → All (IsWithin (length old)) nodes → All (IsWithin (length new)) nodes
nodes_within_longer old new nodes longer all = All-weaker (IsWithin (length old)) (IsWithin (length new)) (λ node is. record { out = omega (arith, is.out, longer.more); fanins = within_longer old new node.fanins longer is.fanins }) nodes all

-- the names that nodes drive
pub outs_named : (names : List (List ℕ)) (nodes : List NumberedNode) → names_in names (map number_of_out nodes) ≡ map out_of (named_nodes names nodes)
outs_named names [] = refl
outs_named names (node ∷ nodes) = ap (λ l. name_at names node.out ∷ l) (outs_named names nodes)

pub named_here : (names : List (List ℕ)) (nodes : List NumberedNode) (i : ℕ) (node : NumberedNode) → i < length nodes → node ≡ get_or nodes i node → named_node names node ≡ get_or (named_nodes names nodes) i (named_node names node)
named_here names nodes i node below here = ap (named_node names) here ∙ sym (get_or-map (named_node names) nodes i node (named_node names node) below)

-- what holds of nodes with names in place of numbers
pub named_all : (names : List (List ℕ)) (nodes : List NumberedNode) (P : NumberedNode → Type 0) (Q : DraftNode → Type 0) → ((node : NumberedNode) → P node → Q (named_node names node)) → All P nodes → All Q (named_nodes names nodes)
named_all names [] P Q step all = λ k d lt. absurd (omega arith)
named_all names (node ∷ nodes) P Q step all = λ k d lt. at k d lt (named_all names nodes P Q step (All-tail P node nodes all))
  where
    at : (k : ℕ) (d : DraftNode) → k < length (named_nodes names (node ∷ nodes)) → All Q (named_nodes names nodes) → Q (get_or (named_nodes names (node ∷ nodes)) k d)
    at zero d lt rest = step node (All-head P node nodes all)
    at (suc k) d lt rest = rest k d (omega arith)

pub all_named : (names : List (List ℕ)) (nodes : List NumberedNode) (P : NumberedNode → Type 0) (Q : DraftNode → Type 0) → ((node : NumberedNode) → Q (named_node names node) → P node) → All Q (named_nodes names nodes) → All P nodes
all_named names [] P Q step all = λ k d lt. absurd (omega arith)
all_named names (node ∷ nodes) P Q step all = λ k d lt. at k d lt (all_named names nodes P Q step (All-tail Q (named_node names node) (named_nodes names nodes) all))
  where
    at : (k : ℕ) (d : NumberedNode) → k < length (node ∷ nodes) → All P nodes → P (get_or (node ∷ nodes) k d)
    at zero d lt rest = step node (All-head Q (named_node names node) (named_nodes names nodes) all)
    at (suc k) d lt rest = rest k d (omega arith)

pub take_get : (xs : List (List ℕ)) (i : ℕ) (x : List ℕ) → slice_get xs i ≡ Some x → take (i + 1) xs ≡ take i xs ++ x ∷ []
take_get xs i x at = take_more xs i [] (slice_get_within xs i x at) ∙ ap (λ y. take i xs ++ y ∷ []) (get_or_from_slice_get xs i x [] at)

abbrev pub bare : NumberedNode
bare = record { out = 0; fanins = []; rows = []; on = true }

-- the name that a node drives
pub out_named : (names : List (List ℕ)) (nodes : List NumberedNode) (given : List DraftNode) (place : ℕ) (name : List ℕ) → named_nodes names nodes ≡ given → place < length nodes → name ≡ name_at names (get_or nodes place bare).out → slice_get (map out_of given) place ≡ Some name
out_named names nodes given place name is lt named =
    subst (λ l. slice_get (map out_of l) place ≡ Some name) is
    (slice_get-get_or (map out_of (named_nodes names nodes)) place [] (omega (arith, length-map (named_nodes names nodes) out_of, many))
    ∙ ap (λ n. Some n) (get_or-map out_of (named_nodes names nodes) place (named_node names bare) [] (omega (arith, many)) ∙ (ap out_of (get_or-map (named_node names) nodes place bare (named_node names bare) lt) ∙ sym named)))
  where
    many : length (named_nodes names nodes) ≡ length nodes
    many = length-map nodes (named_node names)

abbrev made : List ℕ → List (List ℕ) → List (List ℕ) → Bool → DraftNode
made out fanins rows on = record { out = out; fanins = fanins; rows = rows; on = on }

-- a node with the names of this one
pub item_named : (names : List (List ℕ)) (node : NumberedNode) (item : DraftNode) → name_at names node.out ≡ item.out → names_in names node.fanins ≡ item.fanins → node.rows ≡ item.rows → node.on ≡ item.on → named_node names node ≡ item
item_named names node item out fanins rows on = ap₂ (λ o f. made o f node.rows node.on) out fanins ∙ ap₂ (made item.out item.fanins) rows on

-- one more node
pub pushed : (old mid new : List (List ℕ)) (nodes more : List NumberedNode) (node : NumberedNode) (given : List DraftNode) (item : DraftNode) → IsLonger old mid → IsLonger mid new → All (IsWithin (length old)) nodes → more ≡ nodes ++ node ∷ [] → named_nodes old nodes ≡ given → named_node new node ≡ item → named_nodes new more ≡ given ++ item ∷ []
pushed old mid new nodes more node given item first second all grown is one =
    ap (named_nodes new) grown
    ∙ (map-append (named_node new) nodes (node ∷ [])
    ∙ ap₂ (λ l n. l ++ n ∷ []) (nodes_longer old new nodes (longer_then old mid new first second) all ∙ is) one)

abbrev drafted : List ℕ → List (List ℕ) → List (List ℕ) → List DraftNode → Draft
drafted model inputs outputs nodes = record { model = model; inputs = inputs; outputs = outputs; nodes = nodes }

-- the draft whose names were numbered
pub draft_same : (start mid new : List (List ℕ)) (nodes : List NumberedNode) (inputs outputs : List ℕ) (draft : Draft) → IsLonger start mid → IsLonger mid new → All (IsWithin (length start)) nodes → All (λ n. n < length mid) inputs → named_nodes start nodes ≡ draft.nodes → names_in mid inputs ≡ draft.inputs → names_in new outputs ≡ draft.outputs → record { model = draft.model; inputs = names_in new inputs; outputs = names_in new outputs; nodes = named_nodes new nodes } ≡ draft
draft_same start mid new nodes inputs outputs draft first second all within nodes_are inputs_are outputs_are =
    ap₂ (λ ins outs. drafted draft.model ins outs (named_nodes new nodes)) (names_longer mid new inputs second within ∙ inputs_are) outputs_are
    ∙ ap (drafted draft.model draft.inputs draft.outputs) (nodes_longer start new nodes (longer_then start mid new first second) all ∙ nodes_are)
