-- The forms of the nets of a network.
use Rattle.std.proofs.Common.{◌≡◌, ◌+◌, ◌*◌, ◌/◌, ◌<◌, ◌≤◌, ℕ, zero, suc, Bool, List, [], ◌∷◌, ◌++◌, length, map, take, drop, Some, slice_get, get_or, refl, ap, ap₂, sym, ◌∙◌, subst, arith, append_assoc, append-nil, length-append, All}
use Rattle.std.proofs.lemmas.List.{length-map, map-append}
use Rattle.std.proofs.lemmas.List.Elements.{All-head, All-tail}
use Rattle.lw_laws.specs.Forms.{Form}
use Rattle.lw_laws.specs.Forms.Form.{var_form, true_form}
use Rattle.lw_laws.specs.Networks.{Node, Network}
use Rattle.lw_laws.specs.Occurring.{appended, add_form, add_signals, occurring_forms}
use Rattle.std.proofs.lemmas.List.{take_more, take-append-drop}
use Rattle.std.proofs.lemmas.Option.{slice_get_within}
use Rattle.lw_facts.proofs.Lists.{get_left}
use Rattle.lw_net.specs.declared.node.Node.{Node as NetNode}
use Rattle.lw_net.specs.Networks.{NetworkParts, IsNetwork}
use Rattle.lw_laws.specs.Signals.{Signal, sop_at, signed, signal_of_node, signal_of_input, input_signals, signals_after, signals_of, sum_of_products, factored}
use Rattle.lw_laws.specs.SignalValues.{form_of}
use Rattle.lw_form.specs.declared.fault.FormFault.{FormFault}
use Rattle.lw_form.specs.Listed.{base_at, bases_of, IsListed, IsTooLong}
use Rattle.lw_form.specs.Nets.{signal_at, signals_at, AreListed, AreNodes}
use Rattle.lw_form.specs.Tables.{input_forms, AreBelow, forms_at, AreMade, HasMore, Table, made, IsMadeAs}
use Rattle.lw_form.proofs.Joining.{more_twice, more_length, form_kept, below_kept_more, below_append, even_form}
use Rattle.lw_form.proofs.ListedForms.{longer_add, longer_fault, listed_kept, bases_kept}
use Rattle.lw_form.proofs.Rows.{signed_form}
use Rattle.lw_form.specs.Products.{signed_number, HaveColumns}
use Rattle.lw_pool.specs.declared.id.NetId.{NetId}
use Rattle.lw_net.specs.Plain.{plain_node}
use Rattle.lw_net.specs.Signs.{asked}
use Rattle.lw_pool.specs.Numbers.{net_number}
use Rattle.lw_laws.proofs.Mapping.{inputs_length, after_length}
use Rattle.lw_laws.proofs.Listed.{add_signals_append}
use Rattle.lw_form.proofs.Tables.{input_place as input_at}
use Rattle.lw_form.proofs.FactoringSteps.{below_at}

pub added_last : (signals : List Signal) (s : Signal) (bases : List Form) → add_signals (signals ++ s ∷ []) bases ≡ add_form s.fac (add_form s.sop (add_signals signals bases))
added_last [] s bases = refl
added_last (x ∷ signals) s bases = added_last signals s (add_form x.fac (add_form x.sop bases))

signals_last : (forms : List Form) (sops facs : List ℕ) (sop fac : ℕ) → length sops ≡ length facs → signals_at forms (sops ++ sop ∷ []) (facs ++ fac ∷ []) ≡ signals_at forms sops facs ++ signal_at forms sop fac ∷ []
signals_last forms [] [] sop fac e = refl
signals_last forms [] (f ∷ facs) sop fac e = absurd (omega arith)
signals_last forms (s ∷ sops) [] sop fac e = absurd (omega arith)
signals_last forms (s ∷ sops) (f ∷ facs) sop fac e = ap (λ l. signal_at forms s f ∷ l) (signals_last forms sops facs sop fac (omega arith))

signals_kept : (a b : List Form) (sops facs : List ℕ) → HasMore a b → AreBelow (length a) sops → AreBelow (length a) facs → signals_at b sops facs ≡ signals_at a sops facs
signals_kept a b [] facs h ls lf = refl
signals_kept a b (s ∷ sops) [] h ls lf = refl
signals_kept a b (s ∷ sops) (f ∷ facs) h (p, ls) (q, lf) = ap₂ (λ x xs. x ∷ xs) (ap₂ (λ x y. record { sop = x; fac = y }) (form_kept a b s h p) (form_kept a b f h q)) (signals_kept a b sops facs h ls lf)

-- one more net is listed
module _ (old mid new : Table) (listed places l1 p1 l2 p2 sops facs sops' facs' : List ℕ) (signals : List Signal) (sop fac : ℕ) (w : AreListed old listed places sops facs signals) (ls : sop / 2 < length (made old)) (lf : fac / 2 < length (made old)) (m1 : HasMore (made old) (made mid)) (b1 : bases_of (made mid) l1 ≡ add_form (form_of (made old) sop) (bases_of (made old) listed)) where
  first_bases : bases_of (made mid) l1 ≡ add_form (form_of (made old) sop) (add_signals signals (true_form ∷ []))
  first_bases = b1 ∙ ap (add_form (form_of (made old) sop)) w.bases

  abbrev next : List Form
  next = add_signals (signals ++ signal_at (made old) sop fac ∷ []) (true_form ∷ [])

  second : add_form (form_of (made mid) fac) (bases_of (made mid) l1) ≡ next
  second = ap₂ add_form (form_kept (made old) (made mid) fac m1 lf) first_bases ∙ sym (added_last signals (signal_at (made old) sop fac) (true_form ∷ []))

  pub net_listed : HasMore (made mid) (made new) → IsListed (made new) l2 p2 → bases_of (made new) l2 ≡ add_form (form_of (made mid) fac) (bases_of (made mid) l1) → sops' ≡ sops ++ sop ∷ [] → facs' ≡ facs ++ fac ∷ [] → AreListed new l2 p2 sops' facs' (signals ++ signal_at (made old) sop fac ∷ [])
  net_listed m2 is b2 es ef =
      let more = more_twice (made old) (made mid) (made new) m1 m2 in
      let le = more_length (made old) (made new) more in
      subst (λ s. AreListed new l2 p2 s facs' (signals ++ signal_at (made old) sop fac ∷ [])) (sym es) (subst (λ f. AreListed new l2 p2 (sops ++ sop ∷ []) f (signals ++ signal_at (made old) sop fac ∷ [])) (sym ef) (record {
        listed_is = is;
        sops_below = below_append (length (made new)) sops (sop ∷ []) (below_kept_more (made old) (made new) sops more w.sops_below) (omega arith, tt);
        facs_below = below_append (length (made new)) facs (fac ∷ []) (below_kept_more (made old) (made new) facs more w.facs_below) (omega arith, tt);
        one_each = let a = length-append sops (sop ∷ []) in let b = length-append facs (fac ∷ []) in let e = w.one_each in omega arith;
        signals_are = signals_last (made new) sops facs sop fac w.one_each ∙ ap₂ (λ xs x. xs ++ x ∷ []) (signals_kept (made old) (made new) sops facs more w.sops_below w.facs_below ∙ w.signals_are) (ap₂ (λ x y. record { sop = x; fac = y }) (form_kept (made old) (made new) sop more ls) (form_kept (made old) (made new) fac more lf));
        bases = b2 ∙ second;
      }))

  pub second_fault : (fault : FormFault) → IsTooLong (add_form (form_of (made mid) fac) (bases_of (made mid) l1)) fault → IsTooLong next fault
  second_fault fault t = subst (λ l. IsTooLong l fault) second t

pub first_fault : (old : Table) (listed places sops facs : List ℕ) (signals : List Signal) (sop fac : ℕ) → AreListed old listed places sops facs signals → (fault : FormFault) → IsTooLong (add_form (form_of (made old) sop) (bases_of (made old) listed)) fault → IsTooLong (add_signals (signals ++ signal_at (made old) sop fac ∷ []) (true_form ∷ [])) fault
first_fault old listed places sops facs signals sop fac w fault t =
    subst (λ l. IsTooLong l fault) (ap (λ l. add_form (form_of (made old) fac) (add_form (form_of (made old) sop) l)) w.bases ∙ sym (added_last signals (signal_at (made old) sop fac) (true_form ∷ [])))
    (longer_fault (add_form (form_of (made old) sop) (bases_of (made old) listed)) (add_form (form_of (made old) fac) (add_form (form_of (made old) sop) (bases_of (made old) listed))) fault (longer_add (form_of (made old) fac) (add_form (form_of (made old) sop) (bases_of (made old) listed))) t)

-- where only the table grows
pub listed_more : (old new : Table) (listed places sops facs : List ℕ) (signals : List Signal) → HasMore (made old) (made new) → AreListed old listed places sops facs signals → AreListed new listed places sops facs signals
listed_more old new listed places sops facs signals more w = record {
  listed_is = listed_kept (made old) (made new) listed places more w.listed_is;
  sops_below = below_kept_more (made old) (made new) sops more w.sops_below;
  facs_below = below_kept_more (made old) (made new) facs more w.facs_below;
  one_each = w.one_each;
  signals_are = signals_kept (made old) (made new) sops facs more w.sops_below w.facs_below ∙ w.signals_are;
  bases = bases_kept (made old) (made new) listed more w.listed_is.within ∙ w.bases;
}

-- fan-ins

sop_read : (forms : List Form) (sops facs : List ℕ) (net : ℕ) → length sops ≡ length facs → net < length sops → sop_at (signals_at forms sops facs) net ≡ form_of forms (get_or sops net 0)
sop_read forms [] facs net e lt = absurd (omega arith)
sop_read forms (s ∷ sops) [] net e lt = absurd (omega arith)
sop_read forms (s ∷ sops) (f ∷ facs) zero e lt = refl
sop_read forms (s ∷ sops) (f ∷ facs) (suc net) e lt = sop_read forms sops facs net (omega arith) (omega arith)

abbrev pub AreNets : ℕ → List ℕ → Type 0
AreNets count [] = Unit {0}
AreNets count (n ∷ nets) = (n < count) × AreNets count nets

pub fanin_forms : (forms : List Form) (sops facs nets : List ℕ) (signals : List Signal) → length sops ≡ length facs → signals_at forms sops facs ≡ signals → AreNets (length sops) nets → forms_at forms (map (λ net. get_or sops net 0) nets) ≡ map (sop_at signals) nets
fanin_forms forms sops facs [] signals e s a = refl
fanin_forms forms sops facs (n ∷ nets) signals e s (p, a) = ap₂ (λ x xs. x ∷ xs) (sym (sop_read forms sops facs n e p) ∙ ap (λ l. sop_at l n) s) (fanin_forms forms sops facs nets signals e s a)

pub fanins_below : (count : ℕ) (sops nets : List ℕ) → AreBelow count sops → AreNets (length sops) nets → AreBelow count (map (λ net. get_or sops net 0) nets)
fanins_below count sops [] b a = tt
fanins_below count sops (n ∷ nets) b (p, a) = (below_at count sops n p b, fanins_below count sops nets b a)

pub are_nets : (count : ℕ) (nets : List NetId) → All (λ net. net.0 < count) nets → AreNets count (map net_number nets)
are_nets count [] all = tt
are_nets count (n ∷ nets) all = (All-head (λ m. m.0 < count) n nets all, are_nets count nets (All-tail (λ m. m.0 < count) n nets all))

pub have_columns : (columns : ℕ) (rows : List (List ℕ)) → All (λ row. length row ≡ columns) rows → HaveColumns columns (map (map asked) rows)
have_columns columns [] all = tt
have_columns columns (row ∷ rows) all = (length-map row asked ∙ All-head (λ r. length r ≡ columns) row rows all, have_columns columns rows (All-tail (λ r. length r ≡ columns) row rows all))

-- the forms of a node
pub node_signal : (width : ℕ) (old new : Table) (sops facs nets fanins : List ℕ) (signals : List Signal) (rows : _) (on : Bool) (sop fac : ℕ) → AreMade (made new) → length sops ≡ length facs → signals_at (made old) sops facs ≡ signals → AreNets (length sops) nets → fanins ≡ map (λ net. get_or sops net 0) nets → IsMadeAs old new sop (sum_of_products width (forms_at (made old) fanins) rows) → IsMadeAs old new fac (factored width (forms_at (made old) fanins) rows) → signal_at (made new) (signed_number on sop) (signed_number on fac) ≡ record { sop = signed on (sum_of_products width (map (sop_at signals) nets) rows); fac = signed on (factored width (map (sop_at signals) nets) rows) }
node_signal width old new sops facs nets fanins signals rows on sop fac are one s a e ms mf =
    let fs : forms_at (made old) fanins ≡ map (sop_at signals) nets = ap (forms_at (made old)) e ∙ fanin_forms (made old) sops facs nets signals one s a in
    ap₂ (λ x y. record { sop = x; fac = y })
    (signed_form (made new) are on sop ms.within ∙ ap (signed on) (ms.is ∙ ap (λ l. sum_of_products width l rows) fs))
    (signed_form (made new) are on fac mf.within ∙ ap (signed on) (mf.is ∙ ap (λ l. factored width l rows) fs))

-- the start

pub start_listed : (forms : List Form) (listed places : List ℕ) → listed ≡ [] → places ≡ [] → IsListed forms listed places
start_listed forms listed places el ep = subst (λ l. IsListed forms l places) (sym el) (subst (IsListed forms []) (sym ep) (record {
  within = λ k b e. absurd (none k b e);
  placed = λ k b e. absurd (none k b e);
  back = λ b ne. absurd (ne refl);
  few = omega arith;
})) where
  none : (k b : ℕ) → slice_get [] k ≡ Some b → ⊥
  none k b e = cc

start_made : (t : Table) (inputs : ℕ) → t ≡ record { inputs = inputs; keys = [] } → made t ≡ true_form ∷ input_forms 0 inputs
start_made t inputs e = ap made e

pub start_within : (t : Table) (inputs : ℕ) → t ≡ record { inputs = inputs; keys = [] } → 0 < length (made t)
start_within t inputs e = let l = ap length (start_made t inputs e) in omega arith

start_base : (t : Table) (inputs : ℕ) → t ≡ record { inputs = inputs; keys = [] } → base_at (made t) 0 ≡ true_form
start_base t inputs e = ap (λ l. base_at l 0) (start_made t inputs e)

pub start_bases : (t : Table) (inputs : ℕ) (listed : List ℕ) → t ≡ record { inputs = inputs; keys = [] } → listed ≡ [] → appended (base_at (made t) 0) (bases_of (made t) listed) ≡ true_form ∷ []
start_bases t inputs listed e el = ap₂ (λ f l. appended f (bases_of (made t) l)) (start_base t inputs e) el

pub start_nets : (t : Table) (inputs : ℕ) (old listed places sops facs : List ℕ) → t ≡ record { inputs = inputs; keys = [] } → old ≡ [] → IsListed (made t) listed places → bases_of (made t) listed ≡ appended (base_at (made t) 0) (bases_of (made t) old) → sops ≡ [] → facs ≡ [] → AreListed t listed places sops facs []
start_nets t inputs old listed places sops facs e eo is b es ef = subst (λ s. AreListed t listed places s facs []) (sym es) (subst (λ f. AreListed t listed places [] f []) (sym ef) (record {
  listed_is = is;
  sops_below = tt;
  facs_below = tt;
  one_each = refl;
  signals_are = refl;
  bases = b ∙ start_bases t inputs old e eo;
}))

-- inputs

pub inputs_last : (i n : ℕ) → input_signals i (n + 1) ≡ input_signals i n ++ signal_of_input (i + n) ∷ []
inputs_last i zero = let z : i ≡ i + 0 = omega arith in ap (λ j. signal_of_input j ∷ []) z
inputs_last i (suc n) = let z : i + 1 + n ≡ i + suc n = omega arith in let s : suc n + 1 ≡ suc (n + 1) = omega arith in ap (input_signals i) s ∙ ap (λ l. signal_of_input i ∷ l) (inputs_last (i + 1) n ∙ ap (λ j. input_signals (i + 1) n ++ signal_of_input j ∷ []) z)

inputs_front : (i n m : ℕ) → n ≤ m → (rest : List Signal) × (input_signals i m ≡ input_signals i n ++ rest)
inputs_front i zero m le = (input_signals i m, refl)
inputs_front i (suc n) zero le = absurd (omega arith)
inputs_front i (suc n) (suc m) le = let (rest, e) = inputs_front (i + 1) n m (omega arith) in (rest, ap (λ l. signal_of_input i ∷ l) e)

longer_signals : (signals : List Signal) (bases : List Form) → length bases ≤ length (add_signals signals bases)
longer_signals [] bases = omega arith
longer_signals (s ∷ signals) bases =
    let a = longer_add s.sop bases in
    let b = longer_add s.fac (add_form s.sop bases) in
    let c = longer_signals signals (add_form s.fac (add_form s.sop bases)) in
    omega arith

pub rest_fault : (xs ys all : List Signal) (fault : FormFault) → all ≡ xs ++ ys → IsTooLong (add_signals xs (true_form ∷ [])) fault → IsTooLong (add_signals all (true_form ∷ [])) fault
rest_fault xs ys all fault e t =
    subst (λ l. IsTooLong l fault) (sym (ap (λ l. add_signals l (true_form ∷ [])) e ∙ add_signals_append xs ys (true_form ∷ [])))
    (longer_fault (add_signals xs (true_form ∷ [])) (add_signals ys (add_signals xs (true_form ∷ []))) fault (longer_signals ys (add_signals xs (true_form ∷ []))) t)

pub inputs_fault : (i inputs : ℕ) (fault : FormFault) → i < inputs → IsTooLong (add_signals (input_signals 0 i ++ signal_of_input i ∷ []) (true_form ∷ [])) fault → IsTooLong (add_signals (input_signals 0 inputs) (true_form ∷ [])) fault
inputs_fault i inputs fault lt t =
    let (rest, e) = inputs_front 0 (i + 1) inputs (omega arith) in
    let z : 0 + i ≡ i = omega arith in
    rest_fault (input_signals 0 i ++ signal_of_input i ∷ []) rest (input_signals 0 inputs) fault (e ∙ ap (λ l. l ++ rest) (inputs_last 0 i ∙ ap (λ j. input_signals 0 i ++ signal_of_input j ∷ []) z)) t

module _ (old now : Table) (inputs i : ℕ) (e : old ≡ record { inputs = inputs; keys = [] }) (more : HasMore (made old) (made now)) (lt : i < inputs) where
  input_place : slice_get (made now) (i + 1) ≡ Some (var_form i)
  input_place =
      let (m, grown) = more in
      let z : 0 + i ≡ i = omega arith in
      let next : i + 1 ≡ suc i = omega arith in
      ap₂ slice_get (grown ∙ ap (λ l. l ++ m) (start_made old inputs e)) next ∙ get_left (true_form ∷ input_forms 0 inputs) m (suc i) (var_form i) (input_at 0 inputs i lt ∙ ap (λ j. Some (var_form j)) z)

  pub input_within : 2 * (i + 1) / 2 < length (made now)
  input_within = let l = slice_get_within (made now) (i + 1) (var_form i) input_place in omega arith

  pub input_signal_is : signal_at (made now) (2 * (i + 1)) (2 * (i + 1)) ≡ signal_of_input i
  input_signal_is = let f = even_form (made now) (i + 1) (var_form i) input_place in ap₂ (λ x y. record { sop = x; fac = y }) f f

-- nodes

pub after_apart : (width : ℕ) (signals : List Signal) (xs ys : List Node) → signals_after width signals (xs ++ ys) ≡ signals_after width (signals_after width signals xs) ys
after_apart width signals [] ys = refl
after_apart width signals (x ∷ xs) ys = after_apart width (signals ++ signal_of_node width signals x ∷ []) xs ys

after_more : (width : ℕ) (signals : List Signal) (nodes : List Node) → (rest : List Signal) × (signals_after width signals nodes ≡ signals ++ rest)
after_more width signals [] = ([], sym (append-nil signals))
after_more width signals (node ∷ nodes) =
    let x = signal_of_node width signals node in
    let (rest, e) = after_more width (signals ++ x ∷ []) nodes in
    (x ∷ rest, e ∙ append_assoc signals (x ∷ []) rest)

signals_at_length : (forms : List Form) (sops facs : List ℕ) → length sops ≡ length facs → length (signals_at forms sops facs) ≡ length sops
signals_at_length forms [] [] e = refl
signals_at_length forms [] (f ∷ facs) e = absurd (omega arith)
signals_at_length forms (s ∷ sops) [] e = absurd (omega arith)
signals_at_length forms (s ∷ sops) (f ∷ facs) e = ap suc (signals_at_length forms sops facs (omega arith))

pub net_count : (now : Table) (listed places sops facs : List ℕ) (signals : List Signal) → AreListed now listed places sops facs signals → length sops ≡ length signals
net_count now listed places sops facs signals w = let a = signals_at_length (made now) sops facs w.one_each in let b = ap length w.signals_are in omega arith

take_some : {X : Type 0} (n : ℕ) (xs : List X) → n ≤ length xs → length (take n xs) ≡ n
take_some zero xs le = refl
take_some (suc n) [] le = absurd (omega arith)
take_some (suc n) (x ∷ xs) le = ap suc (take_some n xs (omega arith))

module _ (width : ℕ) (signals : List Signal) (nodes : List NetNode) (i : ℕ) (node : NetNode) (lt : i < length nodes) (is : node ≡ get_or nodes i node) where
  so_far : List Signal
  so_far = signals_after width signals (map plain_node (take i nodes))

  pub nodes_next : signals_after width signals (map plain_node (take (i + 1) nodes)) ≡ signals_after width signals (map plain_node (take i nodes)) ++ signal_of_node width (signals_after width signals (map plain_node (take i nodes))) (plain_node node) ∷ []
  nodes_next = ap (λ l. signals_after width signals (map plain_node l)) (take_more nodes i node lt ∙ ap (λ n. take i nodes ++ n ∷ []) (sym is)) ∙ (ap (signals_after width signals) (map-append plain_node (take i nodes) (node ∷ [])) ∙ after_apart width signals (map plain_node (take i nodes)) (plain_node node ∷ []))

  pub nodes_count : length (signals_after width signals (map plain_node (take i nodes))) ≡ length signals + i
  nodes_count = let a = after_length width signals (map plain_node (take i nodes)) in let b = length-map (take i nodes) plain_node in let c = take_some i nodes (omega arith) in omega arith

  pub nodes_fault : (fault : FormFault) → IsTooLong (add_signals (signals_after width signals (map plain_node (take i nodes)) ++ signal_of_node width (signals_after width signals (map plain_node (take i nodes))) (plain_node node) ∷ []) (true_form ∷ [])) fault → IsTooLong (add_signals (signals_after width signals (map plain_node nodes)) (true_form ∷ [])) fault
  nodes_fault fault t =
      let next = signals_after width signals (map plain_node (take (i + 1) nodes)) in
      let (rest, e) = after_more width next (map plain_node (drop (i + 1) nodes)) in
      rest_fault next rest (signals_after width signals (map plain_node nodes)) fault
      (ap (λ l. signals_after width signals (map plain_node l)) (sym (take-append-drop (i + 1) nodes)) ∙ (ap (signals_after width signals) (map-append plain_node (take (i + 1) nodes) (drop (i + 1) nodes)) ∙ (after_apart width signals (map plain_node (take (i + 1) nodes)) (map plain_node (drop (i + 1) nodes)) ∙ e)))
      (subst (λ l. IsTooLong (add_signals l (true_form ∷ [])) fault) (sym nodes_next) t)

pub network_nodes : (net : NetworkParts) (count : ℕ) → IsNetwork net → count ≡ net.inputs → AreNodes count net.nodes
network_nodes net count is e j node at = let n = is.nodes j node at in (subst (λ c. All (λ (m : NetId). m.0 < c + j) node.fanins) (sym e) n.before, n.columns)

pub inputs_more : (i : ℕ) → input_signals 0 i ++ signal_of_input i ∷ [] ≡ input_signals 0 (i + 1)
inputs_more i = let z : 0 + i ≡ i = omega arith in sym (inputs_last 0 i ∙ ap (λ j. input_signals 0 i ++ signal_of_input j ∷ []) z)

pub network_fault : (width inputs : ℕ) (net : Network) (fault : FormFault) → inputs ≡ net.inputs → IsTooLong (add_signals (input_signals 0 inputs) (true_form ∷ [])) fault → IsTooLong (occurring_forms width net) fault
network_fault width inputs net fault e t =
    let (rest, s) = after_more width (input_signals 0 net.inputs) net.nodes in
    rest_fault (input_signals 0 net.inputs) rest (signals_of width net) fault s (subst (λ n. IsTooLong (add_signals (input_signals 0 n) (true_form ∷ [])) fault) e t)

pub inputs_counted : (now : Table) (listed places sops facs : List ℕ) (inputs : ℕ) → AreListed now listed places sops facs (input_signals 0 inputs) → length sops ≡ inputs
inputs_counted now listed places sops facs inputs w = net_count now listed places sops facs (input_signals 0 inputs) w ∙ inputs_length 0 inputs
