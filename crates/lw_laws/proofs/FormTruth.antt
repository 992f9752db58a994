-- The truth values of what the constructors make.
use Rattle.std.proofs.Common.{ℕ, zero, suc, ◌+◌, ◌<◌, ◌≡◌, Bool, true, false, not, ◌&&◌, ◌||◌, cond, leb, ltb, List, [], ◌∷◌, ◌++◌, map, filter, length, take, drop, Option, Some, None, slice_index_or, refl, ap, ap₂, sym, ◌∙◌, subst, arith, take-append-drop}
use Rattle.std.specs.List.{list_all, list_any, AllByRecursion}
use Rattle.std.proofs.lemmas.Bool.{and_parts, false_from_ne_true}
use Rattle.std.proofs.Math.Bool.{or-false, not-not, and-true, and_assoc}
use Rattle.std.proofs.lemmas.List.{length-map, map-append}
use Rattle.lw_laws.proofs.Factoring.{literals_within}
use Rattle.lw_facts.proofs.Tests.{and_swap}
use Rattle.lw_laws.proofs.Lists.{all_append as append_all, all_at}
use Rattle.lw_laws.specs.Networks.{Node, Network, agrees, row_value, node_value}
use Rattle.lw_laws.specs.Forms.{Form, FormList, items, form_list, same_form, is_among, complement, without, kept, has_clash, runs, runs_within, joined, joined_many, conjunction_within, conjunction, disjunction, form_value, forms_value}
use Rattle.lw_laws.specs.Forms.Form.{var_form, true_form, not_form, and_form}
use Rattle.lw_laws.specs.Forms.FormList.{no_forms, more_forms}
use Rattle.lw_laws.specs.Signals.{Literal, Signal, signed, literals, sum_of_products, has_at, has, cleared_at, cleared, count_having, literals_from, most_common, shared_literal, literal_form, factored_by, factored_within, factored, literal_count, sop_at, signal_of_node, signals_after, input_signals, signals_of}
use Rattle.lw_laws.specs.SignalValues.{SignalsAgree}
use Rattle.lw_laws.proofs.Equality.{same_form_eq}
use Rattle.lw_laws.proofs.Words.{input_values, values_after, net_values}

and_when : (a b c : Bool) → (a ≡ true → b ≡ c) → (a && b) ≡ (a && c)
and_when true b c h = h refl
and_when false b c h = refl

module _ (x : ℕ → Bool) where
  abbrev v : Form → Bool
  v f = form_value x f

  abbrev all : List Form → Bool
  all fs = list_all (form_value x) fs

  pub complement_value : (f : Form) → v (complement f) ≡ not (v f)
  complement_value (var_form i) = refl
  complement_value true_form = refl
  complement_value (not_form f) = sym (not-not (v f))
  complement_value (and_form fs) = refl

  pub items_value : (fs : FormList) → forms_value x fs ≡ all (items fs)
  items_value no_forms = refl
  items_value (more_forms f fs) = ap (λ b. v f && b) (items_value fs)

  list_value : (fs : List Form) → forms_value x (form_list fs) ≡ all fs
  list_value [] = refl
  list_value (f ∷ fs) = ap (λ b. v f && b) (list_value fs)

  without_value : (f : Form) (fs : List Form) → v f ≡ true → all (without f fs) ≡ all fs
  without_value f [] e = refl
  without_value f (h ∷ hs) e = by_test (same_form f h) refl (without_value f hs e) where
    by_test : (t : Bool) → same_form f h ≡ t → all (without f hs) ≡ all hs → all (cond t (without f hs) (h ∷ without f hs)) ≡ (v h && all hs)
    by_test true s ih = let k : v h ≡ true = sym (ap v (same_form_eq f h s)) ∙ e in ih ∙ sym (ap (λ b. b && all hs) k)
    by_test false s ih = ap (λ b. v h && b) ih

  kept_value : (fs : List Form) → all (kept fs) ≡ all fs
  kept_value [] = refl
  kept_value (f ∷ fs) = by_test (same_form f true_form) refl (kept_value fs) where
    by_test : (t : Bool) → same_form f true_form ≡ t → all (kept fs) ≡ all fs → all (cond t (kept fs) (f ∷ without f (kept fs))) ≡ (v f && all fs)
    by_test true s ih = ih ∙ sym (ap (λ b. b && all fs) (ap v (same_form_eq f true_form s)))
    by_test false s ih = and_when (v f) (all (without f (kept fs))) (all fs) (λ e. without_value f (kept fs) e ∙ ih)

  among_value : (f : Form) (fs : List Form) → is_among f fs ≡ true → all fs ≡ true → v f ≡ true
  among_value f [] s e = cc
  among_value f (h ∷ hs) s e = by_test (same_form f h) refl s (and_parts (v h) (all hs) e) (λ r. among_value f hs r) where
    by_test : (t : Bool) → same_form f h ≡ t → (t || is_among f hs) ≡ true → (v h ≡ true) × (all hs ≡ true) → (is_among f hs ≡ true → all hs ≡ true → v f ≡ true) → v f ≡ true
    by_test true s r p ih = ap v (same_form_eq f h s) ∙ p.0
    by_test false s r p ih = ih r p.1

  no_complements : (fs hs : List Form) → all fs ≡ true → all hs ≡ true → list_any (λ f. is_among (complement f) fs) hs ≡ true → ⊥
  no_complements fs [] e d s = cc
  no_complements fs (h ∷ hs) e d s = by_test (is_among (complement h) fs) refl s (and_parts (v h) (all hs) d) (λ k r. no_complements fs hs e k r) where
    by_test : (t : Bool) → is_among (complement h) fs ≡ t → (t || list_any (λ f. is_among (complement f) fs) hs) ≡ true → (v h ≡ true) × (all hs ≡ true) → (all hs ≡ true → list_any (λ f. is_among (complement f) fs) hs ≡ true → ⊥) → ⊥
    by_test true s r p ih = let k = among_value (complement h) fs s e in let c = complement_value h in let n = ap not p.0 in cc
    by_test false s r p ih = ih p.1 r

  clash_value : (fs : List Form) → has_clash fs ≡ true → all fs ≡ false
  clash_value fs s = false_from_ne_true (all fs) (by_test (is_among (not_form true_form) fs) refl s) where
    by_test : (t : Bool) → is_among (not_form true_form) fs ≡ t → (t || list_any (λ f. is_among (complement f) fs) fs) ≡ true → all fs ≡ true → ⊥
    by_test true s r e = let k = among_value (not_form true_form) fs s e in cc
    by_test false s r e = no_complements fs fs e e r

  all_append : (fs hs : List Form) → all (fs ++ hs) ≡ (all fs && all hs)
  all_append [] hs = refl
  all_append (f ∷ fs) hs = ap (λ b. v f && b) (all_append fs hs) ∙ sym (and_assoc (v f) (all fs) (all hs))

  runs_value : (again : List Form → Form) → ((hs : List Form) → v (again hs) ≡ all hs) → (n width : ℕ) (fs : List Form) → all (map again (runs_within n width fs)) ≡ all fs
  runs_value again ih zero width fs = and-true (v (again fs)) ∙ ih fs
  runs_value again ih (suc n) width fs = by_test (leb (length fs) width) (runs_value again ih n width (drop width fs)) where
    by_test : (t : Bool) → all (map again (runs_within n width (drop width fs))) ≡ all (drop width fs) → all (map again (elim t [ true ↦ fs ∷ [] | false ↦ take width fs ∷ runs_within n width (drop width fs) ])) ≡ all fs
    by_test true r = and-true (v (again fs)) ∙ ih fs
    by_test false r = ap₂ (λ a b. a && b) (ih (take width fs)) r ∙ (sym (all_append (take width fs) (drop width fs)) ∙ ap all (take-append-drop width fs))

  joined_many_value : (again : List Form → Form) → ((hs : List Form) → v (again hs) ≡ all hs) → (width : ℕ) (fs : List Form) (t : Bool) → v (joined_many again width fs t) ≡ all fs
  joined_many_value again ih width fs true = list_value fs
  joined_many_value again ih width fs false = ih (map again (runs width fs)) ∙ runs_value again ih (length fs) width fs

  joined_value : (again : List Form → Form) → ((hs : List Form) → v (again hs) ≡ all hs) → (width : ℕ) (fs : List Form) (t : Bool) → has_clash fs ≡ t → v (joined again width fs t) ≡ all fs
  joined_value again ih width fs true s = sym (clash_value fs s)
  joined_value again ih width [] false s = refl
  joined_value again ih width (f ∷ []) false s = sym (and-true (v f))
  joined_value again ih width (f ∷ h ∷ fs) false s = joined_many_value again ih width (f ∷ h ∷ fs) (leb (length (f ∷ h ∷ fs)) width)

  conjunction_within_value : (n width : ℕ) (fs : List Form) → v (conjunction_within n width fs) ≡ all fs
  conjunction_within_value zero width fs = list_value fs
  conjunction_within_value (suc n) width fs =
      joined_value (λ hs. conjunction_within n width hs) (λ hs. conjunction_within_value n width hs) width (kept fs) (has_clash (kept fs)) refl ∙ kept_value fs

  pub conjunction_value : (width : ℕ) (fs : List Form) → v (conjunction width fs) ≡ all fs
  conjunction_value width fs = conjunction_within_value (suc (length fs)) width fs

  complements_value : (fs : List Form) → not (all (map complement fs)) ≡ list_any v fs
  complements_value [] = refl
  complements_value (f ∷ fs) = ap (λ b. not (b && all (map complement fs))) (complement_value f) ∙ (turned (v f) (all (map complement fs)) ∙ ap (λ b. v f || b) (complements_value fs)) where
    turned : (a b : Bool) → not (not a && b) ≡ (a || not b)
    turned true b = refl
    turned false b = refl

  pub disjunction_value : (width : ℕ) (fs : List Form) → v (disjunction width fs) ≡ list_any v fs
  disjunction_value width fs = complement_value (conjunction width (map complement fs)) ∙ (ap not (conjunction_value width (map complement fs)) ∙ complements_value fs)

  signed_value : (sign : Bool) (f : Form) → v (signed sign f) ≡ agrees sign (v f)
  signed_value true f = refl
  signed_value false f = complement_value f

  literals_value : (fs : List Form) (row : List (Option Bool)) → all (literals fs row) ≡ row_value (map v fs) row
  literals_value [] row = refl
  literals_value (f ∷ fs) [] = refl
  literals_value (f ∷ fs) (Some sign ∷ row) = ap₂ (λ a b. a && b) (signed_value sign f) (literals_value fs row)
  literals_value (f ∷ fs) (None ∷ row) = literals_value fs row

  pub sum_value : (width : ℕ) (fs : List Form) (rows : List (List (Option Bool))) → v (sum_of_products width fs rows) ≡ list_any (row_value (map v fs)) rows
  sum_value width fs rows = disjunction_value width (map (λ row. conjunction width (literals fs row)) rows) ∙ cubes rows where
    cubes : (rows : List (List (Option Bool))) → list_any v (map (λ row. conjunction width (literals fs row)) rows) ≡ list_any (row_value (map v fs)) rows
    cubes [] = refl
    cubes (row ∷ rows) = ap₂ (λ a b. a || b) (conjunction_value width (literals fs row) ∙ literals_value fs row) (cubes rows)

  -- a row that has a literal is the literal and the rest of the row
  cleared_value : (vs : List Bool) (column : ℕ) (sign : Bool) (row : List (Option Bool)) → column < length vs → has_at column sign row ≡ true → row_value vs row ≡ (agrees sign (slice_index_or vs column true) && row_value vs (cleared_at column row))
  cleared_value [] column sign row lt s = absurd (omega arith)
  cleared_value (w ∷ vs) column sign [] lt s = cc
  cleared_value (w ∷ vs) zero sign (None ∷ row) lt s = cc
  cleared_value (w ∷ vs) zero true (Some true ∷ row) lt s = refl
  cleared_value (w ∷ vs) zero true (Some false ∷ row) lt s = cc
  cleared_value (w ∷ vs) zero false (Some true ∷ row) lt s = cc
  cleared_value (w ∷ vs) zero false (Some false ∷ row) lt s = refl
  cleared_value (w ∷ vs) (suc k) sign (None ∷ row) lt s = cleared_value vs k sign row (omega arith) s
  cleared_value (w ∷ vs) (suc k) sign (Some b ∷ row) lt s =
      ap (λ c. agrees b w && c) (cleared_value vs k sign row (omega arith) s) ∙ and_swap (agrees b w) (agrees sign (slice_index_or vs k true)) (row_value vs (cleared_at k row))

  -- rows are those that have a literal, and the others
  rows_value : (vs : List Bool) (l : Literal) (rows : List (List (Option Bool))) → l.column < length vs → ((agrees l.sign (slice_index_or vs l.column true) && list_any (row_value vs) (map (cleared l) (filter (has l) rows))) || list_any (row_value vs) (filter (λ row. not (has l row)) rows)) ≡ list_any (row_value vs) rows
  rows_value vs l [] lt = none (agrees l.sign (slice_index_or vs l.column true)) where
    none : (a : Bool) → ((a && false) || false) ≡ false
    none true = refl
    none false = refl
  rows_value vs l (row ∷ rows) lt = by_test (has l row) refl (rows_value vs l rows lt) where
    lit : Bool
    lit = agrees l.sign (slice_index_or vs l.column true)

    having : (a b c d : Bool) → ((a && (b || c)) || d) ≡ ((a && b) || ((a && c) || d))
    having true true c d = refl
    having true false c d = refl
    having false b c d = refl

    other : (a b c : Bool) → (a || (b || c)) ≡ (b || (a || c))
    other true true c = refl
    other true false c = refl
    other false b c = refl

    by_test : (t : Bool) → has l row ≡ t → ((agrees l.sign (slice_index_or vs l.column true) && list_any (row_value vs) (map (cleared l) (filter (has l) rows))) || list_any (row_value vs) (filter (λ row. not (has l row)) rows)) ≡ list_any (row_value vs) rows → ((agrees l.sign (slice_index_or vs l.column true) && list_any (row_value vs) (map (cleared l) (filter (has l) (row ∷ rows)))) || list_any (row_value vs) (filter (λ row. not (has l row)) (row ∷ rows))) ≡ (row_value vs row || list_any (row_value vs) rows)
    by_test true s ih = rw s (having (agrees l.sign (slice_index_or vs l.column true)) (row_value vs (cleared l row)) (list_any (row_value vs) (map (cleared l) (filter (has l) rows))) (list_any (row_value vs) (filter (λ row. not (has l row)) rows)) ∙ ap₂ (λ a b. a || b) (sym (cleared_value vs l.column l.sign row lt s)) ih)
    by_test false s ih = rw s (other (agrees l.sign (slice_index_or vs l.column true) && list_any (row_value vs) (map (cleared l) (filter (has l) rows))) (row_value vs row) (list_any (row_value vs) (filter (λ row. not (has l row)) rows)) ∙ ap (λ b. row_value vs row || b) ih)

  -- the literal that is factored out is one of a column
  abbrev IsWithin : ℕ → Option Literal → Type 0
  IsWithin n None = Unit {0}
  IsWithin n (Some l) = l.column < n

  common_within : (rows : List (List (Option Bool))) (ls : List Literal) (n k : ℕ) (best : Option Literal) → AllByRecursion (λ l. l.column < k) ls → IsWithin k best → IsWithin k (most_common rows ls n best)
  common_within rows [] n k best a w = w
  common_within rows (l ∷ ls) n k best (p, a) w = by_test (ltb n (count_having l rows)) (common_within rows ls (count_having l rows) k (Some l) a p) (common_within rows ls n k best a w) where
    by_test : (t : Bool) → IsWithin k (most_common rows ls (count_having l rows) (Some l)) → IsWithin k (most_common rows ls n best) → IsWithin k (elim t [ true ↦ most_common rows ls (count_having l rows) (Some l) | false ↦ most_common rows ls n best ])
    by_test true p q = p
    by_test false p q = q

  index_map : {X Y : Type 0} (h : X → Y) (xs : List X) (i : ℕ) (d : X) → slice_index_or (map h xs) i (h d) ≡ h (slice_index_or xs i d)
  index_map h [] i d = refl
  index_map h (y ∷ ys) zero d = refl
  index_map h (y ∷ ys) (suc i) d = index_map h ys i d

  factored_by_value : (again : List (List (Option Bool)) → Form) (width : ℕ) (fs : List Form) → ((rows : List (List (Option Bool))) → v (again rows) ≡ list_any (row_value (map v fs)) rows) → (rows : List (List (Option Bool))) (l : Option Literal) → IsWithin (length fs) l → v (factored_by again width fs rows l) ≡ list_any (row_value (map v fs)) rows
  factored_by_value again width fs ih rows None w = sum_value width fs rows
  factored_by_value again width fs ih rows (Some l) w =
      let q = map (cleared l) (filter (has l) rows) in
      let r = filter (λ row. not (has l row)) rows in
      let lit : v (literal_form fs l) ≡ agrees l.sign (slice_index_or (map v fs) l.column true) = signed_value l.sign (slice_index_or fs l.column true_form) ∙ ap (agrees l.sign) (sym (index_map v fs l.column true_form)) in
      let first : v (conjunction width (literal_form fs l ∷ again q ∷ [])) ≡ (agrees l.sign (slice_index_or (map v fs) l.column true) && list_any (row_value (map v fs)) q) =
      conjunction_value width (literal_form fs l ∷ again q ∷ []) ∙ ap₂ (λ a b. a && b) lit (and-true (v (again q)) ∙ ih q) in
      disjunction_value width (conjunction width (literal_form fs l ∷ again q ∷ []) ∷ again r ∷ [])
      ∙ (ap₂ (λ a b. a || b) first (or-false (v (again r)) ∙ ih r)
      ∙ rows_value (map v fs) l rows (subst (λ n. l.column < n) (sym (length-map fs v)) w))

  factored_within_value : (n width : ℕ) (fs : List Form) (rows : List (List (Option Bool))) → v (factored_within n width fs rows) ≡ list_any (row_value (map v fs)) rows
  factored_within_value zero width fs rows = sum_value width fs rows
  factored_within_value (suc n) width fs rows =
      factored_by_value (λ rest. factored_within n width fs rest) width fs (λ rest. factored_within_value n width fs rest) rows (shared_literal (length fs) rows) (common_within rows (literals_from 0 (length fs)) 1 (length fs) None (literals_within 0 (length fs) (length fs) (omega arith)) tt)

  pub factored_value : (width : ℕ) (fs : List Form) (rows : List (List (Option Bool))) → v (factored width fs rows) ≡ list_any (row_value (map v fs)) rows
  factored_value width fs rows = factored_within_value (suc (literal_count fs rows)) width fs rows

  -- each net's forms have the net's value
  abbrev sop_value : Signal → Bool
  sop_value s = form_value x s.sop

  fanin_values : (signals : List Signal) (nets : List ℕ) → map v (map (sop_at signals) nets) ≡ map (λ net. slice_index_or (map sop_value signals) net false) nets
  fanin_values signals [] = refl
  fanin_values signals (net ∷ nets) =
      ap₂ (λ b bs. b ∷ bs) (sym (index_map sop_value signals net (record { sop = not_form true_form; fac = not_form true_form }))) (fanin_values signals nets)

  node_sop : (width : ℕ) (signals : List Signal) (node : Node) → v (signal_of_node width signals node).sop ≡ node_value (map sop_value signals) node
  node_sop width signals node =
      signed_value node.on (sum_of_products width (map (sop_at signals) node.fanins) node.rows)
      ∙ ap (agrees node.on) (sum_value width (map (sop_at signals) node.fanins) node.rows
      ∙ ap (λ vs. list_any (row_value vs) node.rows) (fanin_values signals node.fanins))

  node_fac : (width : ℕ) (signals : List Signal) (node : Node) → v (signal_of_node width signals node).sop ≡ v (signal_of_node width signals node).fac
  node_fac width signals node =
      let fs = map (sop_at signals) node.fanins in
      signed_value node.on (sum_of_products width fs node.rows)
      ∙ (ap (agrees node.on) (sum_value width fs node.rows ∙ sym (factored_value width fs node.rows))
      ∙ sym (signed_value node.on (factored width fs node.rows)))

  after_values : (width : ℕ) (signals : List Signal) (nodes : List Node) → map sop_value (signals_after width signals nodes) ≡ values_after (map sop_value signals) nodes
  after_values width signals [] = refl
  after_values width signals (node ∷ nodes) =
      after_values width (signals ++ signal_of_node width signals node ∷ []) nodes
      ∙ ap (λ vs. values_after vs nodes) (map-append sop_value signals (signal_of_node width signals node ∷ []) ∙ ap (λ b. map sop_value signals ++ b ∷ []) (node_sop width signals node))

  inputs_values : (i n : ℕ) → map sop_value (input_signals i n) ≡ input_values x i n
  inputs_values i zero = refl
  inputs_values i (suc n) = ap (λ vs. x i ∷ vs) (inputs_values (i + 1) n)

  -- the sum of products of each net has the net's value
  pub sops_have_values : (width : ℕ) (net : Network) → map (λ s. form_value x s.sop) (signals_of width net) ≡ net_values x net
  sops_have_values width net =
      after_values width (input_signals 0 net.inputs) net.nodes ∙ ap (λ vs. values_after vs net.nodes) (inputs_values 0 net.inputs)

  abbrev Agrees : Signal → Type 0
  Agrees s = form_value x s.sop ≡ form_value x s.fac

  after_agree : (width : ℕ) (signals : List Signal) (nodes : List Node) → AllByRecursion Agrees signals → AllByRecursion Agrees (signals_after width signals nodes)
  after_agree width signals [] a = a
  after_agree width signals (node ∷ nodes) a =
      after_agree width (signals ++ signal_of_node width signals node ∷ []) nodes (append_all Agrees signals (signal_of_node width signals node ∷ []) a (node_fac width signals node, tt))

  inputs_agree : (i n : ℕ) → AllByRecursion Agrees (input_signals i n)
  inputs_agree i zero = tt
  inputs_agree i (suc n) = (refl, inputs_agree (i + 1) n)

  -- the two forms of each net have one value
  pub signals_agree : (width : ℕ) (net : Network) → SignalsAgree (signals_of width net) x
  signals_agree width net s signal e =
      all_at Agrees (signals_of width net) (after_agree width (input_signals 0 net.inputs) net.nodes (inputs_agree 0 net.inputs)) s signal e
