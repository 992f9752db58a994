-- The forms of a network keep what the list of their numbers keeps.
use Rattle.std.proofs.Common.{◌≡◌, ◌≢◌, ◌+◌, ◌*◌, ◌/◌, ◌<◌, ◌≤◌, ◌⊎◌, inl, inr, ℕ, zero, suc, Bool, true, false, List, [], ◌∷◌, ◌++◌, length, map, Option, Some, slice_get, refl, ap, ap₂, sym, ◌∙◌, subst, arith}
use Rattle.std.specs.List.{AllByRecursion, list_any}
use Rattle.std.proofs.lemmas.List.{length-map}
use Rattle.std.proofs.lemmas.Bool.{or_parts, or_from, both_ways}
use Rattle.lw_pool.specs.Numbers.{most_signals}
use Rattle.lw_laws.specs.Networks.{Node, Network, IsInOrder, AreValues}
use Rattle.lw_laws.specs.Forms.{Form, FormList, items, form_list, same_form, is_among, complement, form_value}
use Rattle.lw_laws.specs.Forms.Form.{var_form, true_form, not_form, and_form}
use Rattle.lw_laws.specs.Signals.{Signal, signal_of_node, signals_after, input_signals, signal_of_input, signals_of}
use Rattle.lw_laws.specs.Occurring.{occurring_forms, HasInputsFirst}
use Rattle.lw_laws.specs.Listings.{Listing, listing_of, IsListed, base_form}
use Rattle.lw_laws.specs.Listings.{IsListing, AreDistinct, sign_of}
use Rattle.lw_laws.specs.Numbering.{number, numbered, numbered_base, sop_number, fac_number}
use Rattle.lw_laws.specs.NumberedForms.{Base}
use Rattle.lw_laws.specs.NumberedForms.Base.{base_and}
use Rattle.lw_laws.specs.SignalValues.{number_value, SignalsAgree}
use Rattle.lw_laws.specs.Mapped.{forms_of}
use Rattle.lw_laws.proofs.Occurrences.{operands_occur}
use Rattle.lw_laws.proofs.Agreement.{numbered_are_forms}
use Rattle.lw_laws.proofs.Equality.{same_form_refl, form_list-items}
use Rattle.lw_laws.proofs.FormTruth.{signals_agree}
use Rattle.lw_laws.proofs.Listed.{occurring_is_listing, true_and_inputs_first}
use Rattle.lw_laws.proofs.Lists.{slice_get_some}
use Rattle.lw_laws.proofs.Numbers.{slice_get_map, slice_get_map_back, number_is, number_of, numbers_injective, sign_two, occurs_sign}
use Rattle.lw_laws.proofs.NumberValues.{numbers_have_values, value_of_number}
use Rattle.lw_laws.proofs.NetValues.{sops_are_values}
use Rattle.lw_form.specs.Kept.{HaveValues, AreApart, AreAndOperands, AreInOrder, AreForms}
use Rattle.lw_form.specs.Limits.{most_bases, most_operands}
use Rattle.lw_laws.proofs.Mapping.{signals_length}

-- a form is determined by its base form and its sign
form_decided : (f h : Form) → sign_of (base_form f) ≡ 0 → base_form f ≡ base_form h → (f ≡ h) ⊎ (h ≡ complement f)
form_decided (var_form i) (var_form j) z e = inl e
form_decided (var_form i) true_form z e = cc
form_decided (var_form i) (not_form h) z e = inr (ap not_form (sym e))
form_decided (var_form i) (and_form hs) z e = cc
form_decided true_form (var_form j) z e = cc
form_decided true_form true_form z e = inl refl
form_decided true_form (not_form h) z e = inr (ap not_form (sym e))
form_decided true_form (and_form hs) z e = cc
form_decided (not_form f) (not_form h) z e = inl (ap not_form e)
form_decided (not_form f) (var_form j) z e = inr (sym e)
form_decided (not_form f) true_form z e = inr (sym e)
form_decided (not_form f) (and_form hs) z e = inr (sym e)
form_decided (and_form fs) (var_form j) z e = cc
form_decided (and_form fs) true_form z e = cc
form_decided (and_form fs) (not_form h) z e = inr (ap not_form (sym e))
form_decided (and_form fs) (and_form hs) z e = inl e

module _ (o : Listing) (is : IsListing o) where
  abbrev N : Form → ℕ
  N f = number o.bases f

  -- numbers with one base form are of one form, or of complements
  one_base : (f h : Form) → IsListed o f → IsListed o h → N f / 2 ≡ N h / 2 → base_form f ≡ base_form h
  one_base f h (a, d) (b, e) same =
      let (p, at, k) = number_is o.bases f a d in
      let (q, at', k') = number_is o.bases h b e in
      let sf = sign_two f in
      let sh = sign_two h in
      let here : p ≡ q = omega arith in
      inside (slice_get o.bases q) (base_form f) (base_form h) (ap (slice_get o.bases) (sym here) ∙ at) at'
    where
      inside : (x : Option Form) (f h : Form) → x ≡ Some f → x ≡ Some h → f ≡ h
      inside x f h d e = cc

  apart_one : (f : Form) (fs : List Form) → IsListed o f → AllByRecursion (IsListed o) fs → is_among f fs ≡ false → is_among (complement f) fs ≡ false → AllByRecursion (λ h. N f / 2 ≢ h / 2) (map N fs)
  apart_one f [] of a nf nc = tt
  apart_one f (h ∷ fs) of (oh, a) nf nc =
      let p = or_parts (same_form f h) (is_among f fs) nf in
      let q = or_parts (same_form (complement f) h) (is_among (complement f) fs) nc in
      (λ same. absurd (differ p.0 q.0 (form_decided f h (occurs_sign o is f of) (one_base f h of oh same))), apart_one f fs of a p.1 q.1)
    where
      differ : same_form f h ≡ false → same_form (complement f) h ≡ false → (f ≡ h) ⊎ (h ≡ complement f) → ⊥
      differ p q (inl e) = both_ways (same_form f h) p (subst (λ g. same_form f g ≡ true) e (same_form_refl f))
      differ p q (inr e) = both_ways (same_form (complement f) h) q (subst (λ g. same_form (complement f) g ≡ true) (sym e) (same_form_refl (complement f)))

  -- the place 0 is that of true
  not_true : (f : Form) → IsListed o f → slice_get o.bases 0 ≡ Some true_form → same_form f true_form ≡ false → same_form (not_form true_form) f ≡ false → 0 < N f / 2
  not_true f of first nt nn = positive (N f / 2) refl where
    positive : (k : ℕ) → N f / 2 ≡ k → 0 < k
    positive (suc k) e = omega arith
    positive zero e =
        let t : N true_form / 2 ≡ 0 = let m = number_of o is true_form 0 (0, first, refl) in omega arith in
        absurd (which (form_decided true_form f refl (sym (one_base f true_form of (0, first) (e ∙ sym t)))))
      where
        which : (true_form ≡ f) ⊎ (f ≡ complement true_form) → ⊥
        which (inl s) = both_ways (same_form f true_form) nt (subst (λ g. same_form g true_form ≡ true) s refl)
        which (inr s) = both_ways (same_form (not_form true_form) f) nn (subst (λ g. same_form (not_form true_form) g ≡ true) (sym s) refl)

  clash_later : (f : Form) (all fs : List Form) → list_any (λ g. is_among (complement g) all) (f ∷ fs) ≡ false → is_among (complement f) all ≡ false
  clash_later f all fs e = (or_parts (is_among (complement f) all) (list_any (λ g. is_among (complement g) all) fs) e).0

  among_tail : (f h : Form) (fs : List Form) → is_among f (h ∷ fs) ≡ false → is_among f fs ≡ false
  among_tail f h fs e = (or_parts (same_form f h) (is_among f fs) e).1

  any_tail : (p : Form → Bool) (h : Form) (fs : List Form) → list_any p (h ∷ fs) ≡ false → list_any p fs ≡ false
  any_tail p h fs e = (or_parts (p h) (list_any p fs) e).1

  weaker_any : (h : Form) (all fs : List Form) → list_any (λ g. is_among (complement g) (h ∷ all)) fs ≡ false → list_any (λ g. is_among (complement g) all) fs ≡ false
  weaker_any h all [] e = refl
  weaker_any h all (f ∷ fs) e =
      let p = or_parts (is_among (complement f) (h ∷ all)) (list_any (λ g. is_among (complement g) (h ∷ all)) fs) e in
      or_from (is_among (complement f) all) (list_any (λ g. is_among (complement g) all) fs) (among_tail (complement f) h all p.0) (weaker_any h all fs p.1)

  are_apart : (fs : List Form) → AllByRecursion (IsListed o) fs → slice_get o.bases 0 ≡ Some true_form → AreDistinct fs → is_among (not_form true_form) fs ≡ false → list_any (λ f. is_among (complement f) fs) fs ≡ false → AreApart (map N fs)
  are_apart [] a first d n c = tt
  are_apart (f ∷ fs) (of, a) first (nt, nf, d) n c =
      let p = or_parts (same_form (not_form true_form) f) (is_among (not_form true_form) fs) n in
      (not_true f of first nt p.0, apart_one f fs of a nf (among_tail (complement f) f fs (clash_later f (f ∷ fs) fs c)), are_apart fs a first d p.1 (weaker_any f fs fs (any_tail (λ g. is_among (complement g) (f ∷ fs)) f fs c)))

  record IsAndOf (b : ℕ) (ns : List ℕ) : Type 0 where
    fs : FormList
    listed : slice_get o.bases b ≡ Some (and_form fs)
    numbers : map N (items fs) ≡ ns

  and_of_base : (b : ℕ) (ns : List ℕ) (f : Form) → slice_get o.bases b ≡ Some f → numbered_base o.bases f ≡ base_and ns → IsAndOf b ns
  and_of_base b ns (var_form i) e s = cc
  and_of_base b ns true_form e s = cc
  and_of_base b ns (not_form f) e s = cc
  and_of_base b ns (and_form fs) e s = record { fs = fs; listed = e; numbers = cc }

  and_at : (b : ℕ) (ns : List ℕ) → slice_get (map (numbered_base o.bases) o.bases) b ≡ Some (base_and ns) → IsAndOf b ns
  and_at b ns e = let (f, d, s) = slice_get_map_back (numbered_base o.bases) o.bases b (base_and ns) e in and_of_base b ns f d s

  pub operands_kept : slice_get o.bases 0 ≡ Some true_form → o.width ≤ most_operands → (b : ℕ) (ns : List ℕ) → slice_get (map (numbered_base o.bases) o.bases) b ≡ Some (base_and ns) → AreAndOperands ns
  operands_kept first narrow b ns e =
      let a = and_at b ns e in
      let ops = (is.ands b a.fs a.listed).operands_are in
      let l = length-map (items a.fs) N in
      let clash = or_parts (is_among (not_form true_form) (items a.fs)) (list_any (λ f. is_among (complement f) (items a.fs)) (items a.fs)) ops.clashless in
      subst AreAndOperands a.numbers (record {
        two = let t = ops.two in omega arith;
        few = let t = ops.few in omega arith;
        apart = are_apart (items a.fs) (operands_occur o is b a.fs a.listed) first ops.distinct clash.0 clash.1;
      })

  -- the numbered base forms differ
  same_base : (a b : ℕ) (f h : Form) → slice_get o.bases a ≡ Some f → slice_get o.bases b ≡ Some h → numbered_base o.bases f ≡ numbered_base o.bases h → f ≡ h
  same_base a b (not_form f) h d e s = let z = is.signs a (not_form f) d in absurd (omega arith)
  same_base a b (var_form i) (not_form h) d e s = let z = is.signs b (not_form h) e in absurd (omega arith)
  same_base a b true_form (not_form h) d e s = let z = is.signs b (not_form h) e in absurd (omega arith)
  same_base a b (and_form fs) (not_form h) d e s = let z = is.signs b (not_form h) e in absurd (omega arith)
  same_base a b (var_form i) (var_form j) d e s = let k : i ≡ j = cc in ap var_form k
  same_base a b (var_form i) true_form d e s = cc
  same_base a b (var_form i) (and_form hs) d e s = cc
  same_base a b true_form (var_form j) d e s = cc
  same_base a b true_form true_form d e s = refl
  same_base a b true_form (and_form hs) d e s = cc
  same_base a b (and_form fs) (var_form j) d e s = cc
  same_base a b (and_form fs) true_form d e s = cc
  same_base a b (and_form fs) (and_form hs) d e s =
      let ns : map N (items fs) ≡ map N (items hs) = cc in
      let all = numbers_injective o is (items fs) (items hs) (operands_occur o is a fs d) (operands_occur o is b hs e) ns in
      ap and_form (sym (form_list-items fs) ∙ (ap form_list all ∙ form_list-items hs))

  pub once_kept : (a b : ℕ) (base : Base) → slice_get (map (numbered_base o.bases) o.bases) a ≡ Some base → slice_get (map (numbered_base o.bases) o.bases) b ≡ Some base → a ≡ b
  once_kept a b base d e =
      let (f, df, sf) = slice_get_map_back (numbered_base o.bases) o.bases a base d in
      let (h, dh, sh) = slice_get_map_back (numbered_base o.bases) o.bases b base e in
      is.once a b f df (dh ∙ ap Some (sym (same_base a b f h df dh (sf ∙ sym sh))))

  pub in_order_kept : (inputs : ℕ) → HasInputsFirst inputs o.bases → AreInOrder (numbered inputs o)
  in_order_kept inputs first = record {
    first = slice_get_map (numbered_base o.bases) o.bases 0 true_form first.first;
    inputs = λ i lt. slice_get_map (numbered_base o.bases) o.bases (i + 1) (var_form i) (first.inputs i lt);
    later = λ b past lt. let l = length-map o.bases (numbered_base o.bases) in let (f, e) = slice_get_some o.bases b (omega arith) in an_and b past f e;
  } where
    an_and : (b : ℕ) → inputs < b → (f : Form) → slice_get o.bases b ≡ Some f → (fs : List ℕ) × (slice_get (map (numbered_base o.bases) o.bases) b ≡ Some (base_and fs))
    an_and b past (and_form fs) e = (map N (items fs), slice_get_map (numbered_base o.bases) o.bases b (and_form fs) e)
    an_and b past (not_form f) e = let z = is.signs b (not_form f) e in absurd (omega arith)
    an_and b past true_form e = let z = is.once b 0 true_form e first.first in absurd (omega arith)
    an_and b past (var_form i) e = let lt = first.below b i e in let z = is.once b (i + 1) (var_form i) e (first.inputs i lt) in absurd (omega arith)

  pub input_number : (inputs i : ℕ) → HasInputsFirst inputs o.bases → i < inputs → number o.bases (var_form i) ≡ 2 * (i + 1)
  input_number inputs i first lt = sym (number_of o is (var_form i) (2 * (i + 1)) (i + 1, first.inputs i lt, sym (plus_zero (2 * (i + 1))))) where
    plus_zero : (n : ℕ) → n + 0 ≡ n
    plus_zero n = omega arith

-- the signals of inputs come first

pub after_front : (width : ℕ) (signals : List Signal) (nodes : List Node) (k : ℕ) (s : Signal) → slice_get signals k ≡ Some s → slice_get (signals_after width signals nodes) k ≡ Some s
after_front width signals [] k s e = e
after_front width signals (node ∷ nodes) k s e = after_front width (signals ++ signal_of_node width signals node ∷ []) nodes k s (front signals k e) where
  front : (xs : List Signal) (j : ℕ) → slice_get xs j ≡ Some s → slice_get (xs ++ signal_of_node width signals node ∷ []) j ≡ Some s
  front [] j e = cc
  front (x ∷ xs) zero e = e
  front (x ∷ xs) (suc j) e = front xs j e

pub input_signal : (i n k : ℕ) → k < n → slice_get (input_signals i n) k ≡ Some (signal_of_input (i + k))
input_signal i zero k lt = absurd (omega arith)
input_signal i (suc n) zero lt = let z : i ≡ i + 0 = omega arith in ap (λ j. Some (signal_of_input j)) z
input_signal i (suc n) (suc k) lt = let z : i + 1 + k ≡ i + suc k = omega arith in input_signal (i + 1) n k (omega arith) ∙ ap (λ j. Some (signal_of_input j)) z

signal_at : (width : ℕ) (net : Network) (i : ℕ) → i < net.inputs → slice_get (signals_of width net) i ≡ Some (signal_of_input i)
signal_at width net i lt = let z : 0 + i ≡ i = omega arith in after_front width (input_signals 0 net.inputs) net.nodes i (signal_of_input i) (input_signal 0 net.inputs i lt ∙ ap (λ j. Some (signal_of_input j)) z)

-- the forms of a network keep what the type keeps
pub forms_kept : (width : ℕ) (net : Network) → 2 ≤ width → width ≤ most_operands → net.inputs + length net.nodes ≤ most_signals → length (occurring_forms width net) ≤ most_bases → AreForms (forms_of width net)
forms_kept width net wide narrow few short =
    let o = listing_of width net in
    let is = occurring_is_listing width wide net in
    let first = true_and_inputs_first width wide net in
    record {
      numbered = numbered_are_forms net.inputs o is;
      few = let l = length-map o.bases (numbered_base o.bases) in omega arith;
      once = once_kept o is;
      in_order = in_order_kept o is net.inputs first;
      operands = operands_kept o is first.first narrow;
      nets = record {
        one_each = length-map o.signals (fac_number o.bases) ∙ sym (length-map o.signals (sop_number o.bases));
        few = let l = length-map o.signals (sop_number o.bases) in let s = signals_length width net in omega arith;
        some = let l = length-map o.signals (sop_number o.bases) in let s = signals_length width net in omega arith;
        input_sops = λ i lt. slice_get_map (sop_number o.bases) o.signals i (signal_of_input i) (signal_at width net i lt) ∙ ap Some (input_number o is net.inputs i first lt);
        input_facs = λ i lt. slice_get_map (fac_number o.bases) o.signals i (signal_of_input i) (signal_at width net i lt) ∙ ap Some (input_number o is net.inputs i first lt);
      };
      values = λ x. (number_value o x, numbers_have_values net.inputs o is x (signals_agree x width net));
    }

-- both forms of each net have the net's value

module _ (x : ℕ → Bool) (o : Listing) (is : IsListing o) where
  sops_valued : (signals : List Signal) → ((s : ℕ) (y : Signal) → slice_get signals s ≡ Some y → IsListed o y.sop × IsListed o y.fac) → map (number_value o x) (map (sop_number o.bases) signals) ≡ map (λ y. form_value x y.sop) signals
  sops_valued [] h = refl
  sops_valued (y ∷ signals) h = ap₂ (λ v vs. v ∷ vs) (value_of_number 0 o is x y.sop (h 0 y refl).0) (sops_valued signals (λ s z e. h (suc s) z e))

  facs_valued : (signals : List Signal) → ((s : ℕ) (y : Signal) → slice_get signals s ≡ Some y → IsListed o y.sop × IsListed o y.fac) → SignalsAgree signals x → map (number_value o x) (map (fac_number o.bases) signals) ≡ map (λ y. form_value x y.sop) signals
  facs_valued [] h a = refl
  facs_valued (y ∷ signals) h a = ap₂ (λ v vs. v ∷ vs) (value_of_number 0 o is x y.fac (h 0 y refl).1 ∙ sym (a 0 y refl)) (facs_valued signals (λ s z e. h (suc s) z e) (λ s z e. a (suc s) z e))

pub both_valued : (width : ℕ) (net : Network) → 2 ≤ width → IsInOrder net → (x : ℕ → Bool) (values : List Bool) → AreValues net x values → HaveValues (forms_of width net) x values
both_valued width net wide ordered x values are =
    let o = listing_of width net in
    let is = occurring_is_listing width wide net in
    let agree = signals_agree x width net in
    let sops = sops_are_values net ordered x width values are in
    record {
      value = number_value o x;
      are = numbers_have_values net.inputs o is x agree;
      sops = sops_valued x o is o.signals is.signals ∙ sops;
      facs = facs_valued x o is o.signals is.signals agree ∙ sops;
    }
