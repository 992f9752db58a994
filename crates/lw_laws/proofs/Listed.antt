-- The list of occurring forms is a listing.
use Rattle.std.proofs.Common.{ℕ, zero, suc, ◌+◌, eq-or-lt_of_le, append_assoc, append-nil, ◌<◌, ◌≤◌, ◌≡◌, ◌⊎◌, inl, inr, Bool, true, false, ◌||◌, cond, leb, List, [], ◌∷◌, ◌++◌, length, Some, slice_get, refl, ap, sym, ◌∙◌, subst, arith, leb-true, leb-false}
use Rattle.std.specs.List.{AllByRecursion}
use Rattle.std.proofs.lemmas.Option.{slice_get_within}
use Rattle.std.proofs.lemmas.Bool.{cases_lt}
use Rattle.lw_laws.proofs.Numbers.{base_self}
use Rattle.lw_laws.proofs.Lists.{all_at}
use Rattle.lw_facts.proofs.Lists.{get_left, get_last, get_last_cases}
use Rattle.lw_laws.specs.Networks.{Node, Network}
use Rattle.lw_laws.specs.Forms.{Form, FormList, items, form_list, and_of, same_form, is_among}
use Rattle.lw_laws.specs.Forms.Form.{var_form, true_form, not_form, and_form}
use Rattle.lw_laws.specs.Forms.FormList.{no_forms, more_forms}
use Rattle.lw_laws.specs.Signals.{Signal, signal_of_node, signals_after, input_signals, signals_of}
use Rattle.lw_laws.specs.Occurring.{with_and_without, sublists, appended, append_part, append_parts, add_form, add_forms, add_signals, occurring_forms, HasInputsFirst}
use Rattle.lw_laws.specs.Listings.IsSub.{sub_none, sub_with, sub_without}
use Rattle.lw_laws.specs.Listings.{listing_of, base_form, IsListing, IsListedBefore, IsListedAndForm, sign_of, IsSub, AreOperands}
use Rattle.lw_laws.proofs.Equality.{same_form_refl, same_form_eq, items-form_list, form_list-items}
use Rattle.lw_laws.proofs.Sublists.{IsSub_all, IsSub_length, IsSub_whole, distinct_sub, clash_sub}
use Rattle.lw_laws.proofs.Occurrences.{sublists_are_subs, only_listed}
use Rattle.lw_laws.proofs.Normal.{IsNormal, AreNormal, signals_normal, inputs_normal}

abbrev Has : List Form → Form → Type 0
Has bases f = (b : ℕ) × (slice_get bases b ≡ Some f)

among_has : (f : Form) (bases : List Form) → is_among f bases ≡ true → Has bases f
among_has f [] e = cc
among_has f (h ∷ hs) e = by_test (same_form f h) refl e (among_has f hs) where
  by_test : (t : Bool) → same_form f h ≡ t → (t || is_among f hs) ≡ true → (is_among f hs ≡ true → Has hs f) → Has (h ∷ hs) f
  by_test true s e ih = (0, ap Some (sym (same_form_eq f h s)))
  by_test false s e ih = let (b, k) = ih e in (suc b, k)

has_among : (f : Form) (bases : List Form) (b : ℕ) → slice_get bases b ≡ Some f → is_among f bases ≡ false → ⊥
has_among f [] b e n = cc
has_among f (h ∷ hs) zero e n =
    let k : h ≡ f = cc in
    let r : same_form f h ≡ true = subst (λ g. same_form f g ≡ true) (sym k) (same_form_refl f) in
    first (same_form f h) (is_among f hs) r n
  where
    first : (a c : Bool) → a ≡ true → (a || c) ≡ false → ⊥
    first true c r n = cc
    first false c r n = cc
has_among f (h ∷ hs) (suc b) e n = has_among f hs b e (second (same_form f h) (is_among f hs) n) where
  second : (a c : Bool) → (a || c) ≡ false → c ≡ false
  second true c n = cc
  second false c n = n

abbrev Extends : List Form → List Form → Type 0
Extends bases more = (b : ℕ) (f : Form) → slice_get bases b ≡ Some f → slice_get more b ≡ Some f

has_more : (bases more : List Form) (f : Form) → Extends bases more → Has bases f → Has more f
has_more bases more f x (b, e) = (b, x b f e)

before_more : (bases more : List Form) (n : ℕ) → Extends bases more → (f : Form) → IsListedBefore bases n f → IsListedBefore more n f
before_more bases more n x f (k, l, lt) = (k, x k (base_form f) l, lt)

all_more : (P Q : Form → Type 0) → ((f : Form) → P f → Q f) → (fs : List Form) → AllByRecursion P fs → AllByRecursion Q fs
all_more P Q h [] a = tt
all_more P Q h (f ∷ fs) (p, a) = (h f p, all_more P Q h fs a)

and_more : (width : ℕ) (bases more : List Form) (n : ℕ) (fs : List Form) → Extends bases more → IsListedAndForm width bases n fs → IsListedAndForm width more n fs
and_more width bases more n fs x a = record {
  operands_are = a.operands_are;
  before = all_more (IsListedBefore bases n) (IsListedBefore more n) (before_more bases more n x) fs a.before;
  subs = λ hs s two lt. before_more bases more n x (and_of hs) (a.subs hs s two lt);
}

module _ (count width : ℕ) where
  record IsGood (bases : List Form) : Type 0 where
    signs : (b : ℕ) (f : Form) → slice_get bases b ≡ Some f → sign_of f ≡ 0
    once : (a b : ℕ) (f : Form) → slice_get bases a ≡ Some f → slice_get bases b ≡ Some f → a ≡ b
    ands : (b : ℕ) (fs : FormList) → slice_get bases b ≡ Some (and_form fs) → IsListedAndForm width bases b (items fs)
    below : (b i : ℕ) → slice_get bases b ≡ Some (var_form i) → i < count

  -- what a base form that is put at the end has to meet
  abbrev IsNext : List Form → Form → Type 0
  IsNext bases (and_form fs) = IsListedAndForm width bases (length bases) (items fs)
  IsNext bases (var_form i) = i < count
  IsNext bases true_form = Unit {0}
  IsNext bases (not_form f) = ⊥

  next_sign : (bases : List Form) (f : Form) → IsNext bases f → sign_of f ≡ 0
  next_sign bases (var_form i) n = refl
  next_sign bases true_form n = refl
  next_sign bases (not_form f) n = absurd n
  next_sign bases (and_form fs) n = refl

  next_and : (bases : List Form) (f : Form) (fs : FormList) → IsNext bases f → and_form fs ≡ f → IsListedAndForm width bases (length bases) (items fs)
  next_and bases f fs n e = subst (IsNext bases) (sym e) n

  next_var : (bases : List Form) (f : Form) (i : ℕ) → IsNext bases f → var_form i ≡ f → i < count
  next_var bases f i n e = subst (IsNext bases) (sym e) n

  put_good : (bases : List Form) (f : Form) → IsGood bases → IsNext bases f → is_among f bases ≡ false → IsGood (bases ++ f ∷ [])
  put_good bases f good next new = record {
    signs = λ b h e. signs b h (get_last_cases bases f b h e);
    once = λ a b h d e. once a b h (get_last_cases bases f a h d) (get_last_cases bases f b h e);
    ands = λ b fs e. ands b fs (get_last_cases bases f b (and_form fs) e);
    below = λ b i e. below b i (get_last_cases bases f b (var_form i) e);
  } where
    x : Extends bases (bases ++ f ∷ [])
    x b h e = get_left bases (f ∷ []) b h e

    below : (b i : ℕ) → (slice_get bases b ≡ Some (var_form i)) ⊎ ((b ≡ length bases) × (var_form i ≡ f)) → i < count
    below b i (inl e) = good.below b i e
    below b i (inr (e, k)) = next_var bases f i next k

    signs : (b : ℕ) (h : Form) → (slice_get bases b ≡ Some h) ⊎ ((b ≡ length bases) × (h ≡ f)) → sign_of h ≡ 0
    signs b h (inl e) = good.signs b h e
    signs b h (inr (e, k)) = ap sign_of k ∙ next_sign bases f next

    once : (a b : ℕ) (h : Form) → (slice_get bases a ≡ Some h) ⊎ ((a ≡ length bases) × (h ≡ f)) → (slice_get bases b ≡ Some h) ⊎ ((b ≡ length bases) × (h ≡ f)) → a ≡ b
    once a b h (inl d) (inl e) = good.once a b h d e
    once a b h (inl d) (inr (e, k)) = absurd (has_among f bases a (d ∙ ap Some k) new)
    once a b h (inr (d, k)) (inl e) = absurd (has_among f bases b (e ∙ ap Some k) new)
    once a b h (inr (d, k)) (inr (e, m)) = d ∙ sym e

    ands : (b : ℕ) (fs : FormList) → (slice_get bases b ≡ Some (and_form fs)) ⊎ ((b ≡ length bases) × (and_form fs ≡ f)) → IsListedAndForm width (bases ++ f ∷ []) b (items fs)
    ands b fs (inl e) = and_more width bases (bases ++ f ∷ []) b (items fs) x (good.ands b fs e)
    ands b fs (inr (e, k)) = subst (λ n. IsListedAndForm width (bases ++ f ∷ []) n (items fs)) (sym e) (and_more width bases (bases ++ f ∷ []) (length bases) (items fs) x (next_and bases f fs next k))

  -- a list that has grown, and now holds a form
  record HasGrown (bases more : List Form) : Type 0 where
    good : IsGood more
    extends : Extends bases more

  record HasAdded (f : Form) (bases more : List Form) : Type 0 where
    grown : HasGrown bases more
    has : Has more f

  grown_same : (bases : List Form) → IsGood bases → HasGrown bases bases
  grown_same bases good = record { good = good; extends = λ b f e. e }

  grown_twice : (bases more most : List Form) → HasGrown bases more → HasGrown more most → HasGrown bases most
  grown_twice bases more most g h = record { good = h.good; extends = λ b f e. h.extends b f (g.extends b f e) }

  appended_good : (bases : List Form) (f : Form) → IsGood bases → IsNext bases f → HasAdded f bases (appended f bases)
  appended_good bases f good next = by_test (is_among f bases) refl where
    by_test : (t : Bool) → is_among f bases ≡ t → HasAdded f bases (cond t bases (bases ++ f ∷ []))
    by_test true s = record { grown = grown_same bases good; has = among_has f bases s }
    by_test false s = record { grown = record { good = put_good bases f good next s; extends = λ b h e. get_left bases (f ∷ []) b h e }; has = (length bases, get_last bases f) }

  -- each shorter sub-list of a list stands before it
  abbrev AreInOrder : (List Form → Type 0) → List (List Form) → Type 0
  AreInOrder Seen [] = Unit {0}
  AreInOrder Seen (fs ∷ rest) = ((hs : List Form) → IsSub hs fs → length hs < length fs → Seen hs) × AreInOrder (λ hs. (hs ≡ fs) ⊎ Seen hs) rest

  sub_cases : (P : List Form → Type 0) (f : Form) (fs hs : List Form) → IsSub hs (f ∷ fs) → ((ks : List Form) → IsSub ks fs → hs ≡ f ∷ ks → P hs) → (IsSub hs fs → P hs) → P hs
  sub_cases P f fs hs s a b = by_sub s refl a b where
    by_sub : {xs gs : List Form} → IsSub xs gs → gs ≡ f ∷ fs → ((ks : List Form) → IsSub ks fs → xs ≡ f ∷ ks → P xs) → (IsSub xs fs → P xs) → P xs
    by_sub sub_none e a b = cc
    by_sub (sub_with {f = g} {hs = ks} {fs = gs} s) e a b =
        let k : g ≡ f = cc in
        let r : gs ≡ fs = cc in
        a ks (subst (IsSub ks) r s) (ap (λ z. z ∷ ks) k)
    by_sub (sub_without {f = g} {hs = ks} {fs = gs} s) e a b = let r : gs ≡ fs = cc in b (subst (IsSub ks) r s)

  in_order : (f : Form) (rest : List (List Form)) (Seen More : List Form → Type 0) → ((hs : List Form) → Seen hs → More hs × More (f ∷ hs)) → AreInOrder Seen rest → AreInOrder More (with_and_without f rest)
  in_order f [] Seen More h a = tt
  in_order f (fs ∷ rest) Seen More h (p, a) = (
    λ hs s lt. (h hs (p hs s lt)).0,
    (
      λ hs s lt. longer hs s lt,
      in_order f rest (λ hs. (hs ≡ fs) ⊎ Seen hs) (λ hs. (hs ≡ f ∷ fs) ⊎ ((hs ≡ fs) ⊎ More hs)) next a,
    ),
  )
    where
      next : (hs : List Form) → (hs ≡ fs) ⊎ Seen hs → ((hs ≡ f ∷ fs) ⊎ ((hs ≡ fs) ⊎ More hs)) × ((f ∷ hs ≡ f ∷ fs) ⊎ ((f ∷ hs ≡ fs) ⊎ More (f ∷ hs)))
      next hs (inl e) = (inr (inl e), inl (ap (λ ks. f ∷ ks) e))
      next hs (inr s) = let r = h hs s in (inr (inr r.0), inr (inr r.1))

      shorter : (hs : List Form) → IsSub hs fs → (n : ℕ) → (length hs < length fs) ⊎ (length fs ≤ length hs) → (hs ≡ fs) ⊎ More hs
      shorter hs s n (inl lt) = inr (h hs (p hs s lt)).0
      shorter hs s n (inr le) = inl (IsSub_whole s le)

      longer : (hs : List Form) → IsSub hs (f ∷ fs) → length hs < length (f ∷ fs) → (hs ≡ fs) ⊎ More hs
      longer hs s lt = sub_cases (λ ks. length ks < length (f ∷ fs) → (ks ≡ fs) ⊎ More ks) f fs hs s
          (λ ks r e l. let shrink = ap length e in inr (subst More (sym e) (h ks (p ks r (omega arith))).1))
          (λ r l. shorter hs r 0 (cases_lt (length hs) (length fs))) lt

  sublists_in_order : (fs : List Form) → AreInOrder (λ hs. ⊥) (sublists fs)
  sublists_in_order [] = (λ hs s lt. absurd (omega arith), tt)
  sublists_in_order (f ∷ fs) = in_order f (sublists fs) (λ hs. ⊥) (λ hs. ⊥) (λ hs s. absurd s) (sublists_in_order fs)

  with_back : (P : List Form → Type 0) (f : Form) (rest : List (List Form)) → AllByRecursion P (with_and_without f rest) → AllByRecursion (λ hs. P (f ∷ hs)) rest
  with_back P f [] a = tt
  with_back P f (fs ∷ rest) a = ((a.1).0, with_back P f rest (a.1).1)

  -- the whole list is one of its sub-lists
  whole_listed : (P : List Form → Type 0) (fs : List Form) → AllByRecursion P (sublists fs) → P fs
  whole_listed P [] a = a.0
  whole_listed P (f ∷ fs) a = whole_listed (λ hs. P (f ∷ hs)) fs (with_back P f (sublists fs) a)

  abbrev HasAnd : List Form → List Form → Type 0
  HasAnd bases fs = 2 ≤ length fs → Has bases (and_of fs)

  record HasAddedPart (fs bases more : List Form) : Type 0 where
    grown : HasGrown bases more
    has : HasAnd more fs

  all_occur_before : (bases fs : List Form) → AllByRecursion (λ f. Has bases (base_form f)) fs → AllByRecursion (IsListedBefore bases (length bases)) fs
  all_occur_before bases [] a = tt
  all_occur_before bases (f ∷ fs) ((b, e), a) = ((b, e, slice_get_within bases b (base_form f) e), all_occur_before bases fs a)

  part_good : (all fs bases : List Form) → AreOperands width all → IsSub fs all → IsGood bases → AllByRecursion (λ f. Has bases (base_form f)) all → ((hs : List Form) → IsSub hs fs → length hs < length fs → HasAnd bases hs) → HasAddedPart fs bases (append_part fs bases)
  part_good all fs bases are s good occ before = by_test (leb 2 (length fs)) refl where
    next : 2 ≤ length fs → IsListedAndForm width bases (length bases) (items (form_list fs))
    next two = subst (IsListedAndForm width bases (length bases)) (sym (items-form_list fs)) (record {
      operands_are = record { two = two; few = let l = IsSub_length s in let few = are.few in omega arith; distinct = distinct_sub s are.distinct; clashless = clash_sub s are.clashless };
      before = all_occur_before bases fs (IsSub_all (λ f. Has bases (base_form f)) s occ);
      subs = λ hs r h lt. let (b, e) = before hs r lt h in (b, e, slice_get_within bases b (and_of hs) e);
    })

    by_test : (t : Bool) → leb 2 (length fs) ≡ t → HasAddedPart fs bases (cond t (appended (and_of fs) bases) bases)
    by_test true l = let r = appended_good bases (and_of fs) good (next (leb-true 2 (length fs) l)) in record { grown = r.grown; has = λ two. r.has }
    by_test false l = let lt = leb-false 2 (length fs) l in record { grown = grown_same bases good; has = λ two. absurd (omega arith) }

  record HasAddedParts (rest : List (List Form)) (bases more : List Form) : Type 0 where
    grown : HasGrown bases more
    has : AllByRecursion (HasAnd more) rest

  parts_good : (all : List Form) → AreOperands width all → (Seen : List Form → Type 0) (rest : List (List Form)) (bases : List Form) → AreInOrder Seen rest → AllByRecursion (λ hs. IsSub hs all) rest → IsGood bases → AllByRecursion (λ f. Has bases (base_form f)) all → ((hs : List Form) → Seen hs → HasAnd bases hs) → HasAddedParts rest bases (append_parts rest bases)
  parts_good all are Seen [] bases order subs good occ seen = record { grown = grown_same bases good; has = tt }
  parts_good all are Seen (fs ∷ rest) bases (p, order) (s, subs) good occ seen =
      let r = part_good all fs bases are s good occ (λ hs k lt. seen hs (p hs k lt)) in
      let more = append_part fs bases in
      let occ_more = all_more (λ f. Has bases (base_form f)) (λ f. Has more (base_form f)) (λ f h. has_more bases more (base_form f) r.grown.extends h) all occ in
      let most = append_parts rest more in
      let q = parts_good all are (λ hs. (hs ≡ fs) ⊎ Seen hs) rest more order subs r.grown.good occ_more (λ hs w. still hs more r.grown.extends r.has w) in
      record {
        grown = grown_twice bases more most r.grown q.grown;
        has = (λ two. has_more more most (and_of fs) q.grown.extends (r.has two), q.has);
      }
    where
      still : (hs more : List Form) → Extends bases more → HasAnd more fs → (hs ≡ fs) ⊎ Seen hs → HasAnd more hs
      still hs more x h (inl e) = subst (HasAnd more) (sym e) h
      still hs more x h (inr w) = λ two. has_more bases more (and_of hs) x (seen hs w two)

  record HasAddedAll (fs : List Form) (bases more : List Form) : Type 0 where
    grown : HasGrown bases more
    has : AllByRecursion (λ f. Has more (base_form f)) fs

  and_good : (fs : FormList) (bases more : List Form) → AreOperands width (items fs) → HasAddedAll (items fs) bases more → HasAdded (and_form fs) bases (append_parts (sublists (items fs)) more)
  and_good fs bases more are a =
      let r = parts_good (items fs) are (λ hs. ⊥) (sublists (items fs)) more (sublists_in_order (items fs)) (sublists_are_subs (items fs)) a.grown.good a.has (λ hs w. absurd w) in
      let most = append_parts (sublists (items fs)) more in
      let whole = whole_listed (HasAnd most) (items fs) r.has are.two in
      record {
        grown = grown_twice bases more most a.grown r.grown;
        has = subst (λ hs. Has most (and_form hs)) (form_list-items fs) whole;
      }

  listed_or_not : (fs : FormList) (bases : List Form) → AreOperands width (items fs) → IsGood bases → HasAddedAll (items fs) bases (add_forms fs bases) → (t : Bool) → is_among (and_form fs) bases ≡ t → HasAdded (and_form fs) bases (elim t [ true ↦ bases | false ↦ append_parts (sublists (items fs)) (add_forms fs bases) ])
  listed_or_not fs bases are good a true s = record { grown = grown_same bases good; has = among_has (and_form fs) bases s }
  listed_or_not fs bases are good a false s = and_good fs bases (add_forms fs bases) are a

  mutual
    add_form_good : (f : Form) (bases : List Form) → IsNormal count width f → IsGood bases → HasAdded (base_form f) bases (add_form f bases)
    add_form_good (var_form i) bases n good = appended_good bases (var_form i) good n
    add_form_good true_form bases n good = appended_good bases true_form good tt
    add_form_good (not_form f) bases n good =
        let r = add_form_good f bases n.1 good in
        record { grown = r.grown; has = subst (Has (add_form f bases)) (base_self f n.0) r.has }
    add_form_good (and_form fs) bases n good =
        listed_or_not fs bases n.0 good (add_forms_good fs bases n.1 good) (is_among (and_form fs) bases) refl

    add_forms_good : (fs : FormList) (bases : List Form) → AreNormal count width fs → IsGood bases → HasAddedAll (items fs) bases (add_forms fs bases)
    add_forms_good no_forms bases n good = record { grown = grown_same bases good; has = tt }
    add_forms_good (more_forms f fs) bases n good =
        let r = add_form_good f bases n.0 good in
        let more = add_form f bases in
        let q = add_forms_good fs more n.1 r.grown.good in
        record {
          grown = grown_twice bases more (add_forms fs more) r.grown q.grown;
          has = (has_more more (add_forms fs more) (base_form f) q.grown.extends r.has, q.has);
        }

  record HasAddedSignals (signals : List Signal) (bases more : List Form) : Type 0 where
    grown : HasGrown bases more
    has : AllByRecursion (λ s. Has more (base_form s.sop) × Has more (base_form s.fac)) signals

  add_signals_good : (signals : List Signal) (bases : List Form) → AllByRecursion (λ s. IsNormal count width s.sop × IsNormal count width s.fac) signals → IsGood bases → HasAddedSignals signals bases (add_signals signals bases)
  add_signals_good [] bases n good = record { grown = grown_same bases good; has = tt }
  add_signals_good (s ∷ signals) bases (p, n) good =
      let more = add_form s.sop bases in
      let most = add_form s.fac more in
      let end = add_signals signals most in
      let q = add_form_good s.sop bases p.0 good in
      let r = add_form_good s.fac more p.1 q.grown.good in
      let rest = add_signals_good signals most n r.grown.good in
      record {
        grown = grown_twice bases more end q.grown (grown_twice more most end r.grown rest.grown);
        has = ((has_more most end (base_form s.sop) rest.grown.extends (has_more more most (base_form s.sop) r.grown.extends q.has), has_more most end (base_form s.fac) rest.grown.extends r.has), rest.has);
      }

  first_good : IsGood (true_form ∷ [])
  first_good = record {
    signs = λ b f e. first_sign b f e;
    once = λ a b f d e. first_once a b f d e;
    ands = λ b fs e. first_and b fs e;
    below = λ b i e. first_below b i e;
  } where
    first_sign : (b : ℕ) (f : Form) → slice_get (true_form ∷ []) b ≡ Some f → sign_of f ≡ 0
    first_sign zero f e = let k : true_form ≡ f = cc in ap sign_of (sym k)
    first_sign (suc b) f e = cc

    first_once : (a b : ℕ) (f : Form) → slice_get (true_form ∷ []) a ≡ Some f → slice_get (true_form ∷ []) b ≡ Some f → a ≡ b
    first_once zero zero f d e = refl
    first_once zero (suc b) f d e = cc
    first_once (suc a) b f d e = cc

    first_below : (b i : ℕ) → slice_get (true_form ∷ []) b ≡ Some (var_form i) → i < count
    first_below zero i e = cc
    first_below (suc b) i e = cc

    first_and : (b : ℕ) (fs : FormList) → slice_get (true_form ∷ []) b ≡ Some (and_form fs) → IsListedAndForm width (true_form ∷ []) b (items fs)
    first_and zero fs e = cc
    first_and (suc b) fs e = cc

  -- each input is listed at its place
  abbrev AreInputsBelow : ℕ → List Form → Type 0
  AreInputsBelow i bases = (b j : ℕ) → slice_get bases b ≡ Some (var_form j) → j < i

  input_new : (i : ℕ) (bases : List Form) → AreInputsBelow i bases → is_among (var_form i) bases ≡ false
  input_new i bases less = by_test (is_among (var_form i) bases) refl where
    by_test : (t : Bool) → is_among (var_form i) bases ≡ t → is_among (var_form i) bases ≡ false
    by_test true s = let (b, e) = among_has (var_form i) bases s in let lt = less b i e in absurd (omega arith)
    by_test false s = s

  input_put : (i : ℕ) (bases : List Form) → is_among (var_form i) bases ≡ false → appended (var_form i) (appended (var_form i) bases) ≡ bases ++ var_form i ∷ []
  input_put i bases new = rw new (again (is_among (var_form i) (bases ++ var_form i ∷ [])) refl) where
    again : (t : Bool) → is_among (var_form i) (bases ++ var_form i ∷ []) ≡ t → cond t (bases ++ var_form i ∷ []) ((bases ++ var_form i ∷ []) ++ var_form i ∷ []) ≡ bases ++ var_form i ∷ []
    again true s = refl
    again false s = absurd (has_among (var_form i) (bases ++ var_form i ∷ []) (length bases) (get_last bases (var_form i)) s)

  length_put : (bases : List Form) (f : Form) → length (bases ++ f ∷ []) ≡ suc (length bases)
  length_put [] f = refl
  length_put (h ∷ bases) f = ap suc (length_put bases f)

  inputs_stand : 2 ≤ width → (i n : ℕ) (bases : List Form) → IsGood bases → length bases ≡ i + 1 → AreInputsBelow i bases → i + n ≤ count → (k : ℕ) → i ≤ k → k < i + n → slice_get (add_signals (input_signals i n) bases) (k + 1) ≡ Some (var_form k)
  inputs_stand wide i zero bases good long less le k low lt = absurd (omega arith)
  inputs_stand wide i (suc n) bases good long less le k low lt =
      let new = input_new i bases less in
      let more = bases ++ var_form i ∷ [] in
      let next : IsGood more = put_good bases (var_form i) good (omega arith) new in
      let longer = length_put bases (var_form i) in
      let rest = inputs_stand wide (i + 1) n more next (omega arith) (λ b j e. still b j (get_last_cases bases (var_form i) b (var_form j) e)) (omega arith) in
      let grown = add_signals_good (input_signals (i + 1) n) more (inputs_normal count width wide (i + 1) n (omega arith)) next in
      ap (λ bs. slice_get (add_signals (input_signals (i + 1) n) bs) (k + 1)) (input_put i bases new)
      ∙ here_or_later (eq-or-lt_of_le {n = i} {m = k} low) (λ e. grown.grown.extends (k + 1) (var_form k) (at_end e)) (λ later. rest k later (omega arith))
    where
      still : (b j : ℕ) → (slice_get bases b ≡ Some (var_form j)) ⊎ ((b ≡ length bases) × (var_form j ≡ var_form i)) → j < i + 1
      still b j (inl e) = let l = less b j e in omega arith
      still b j (inr (e, m)) = let q : j ≡ i = cc in omega arith

      at_end : i ≡ k → slice_get (bases ++ var_form i ∷ []) (k + 1) ≡ Some (var_form k)
      at_end e =
          let place : k + 1 ≡ length bases = omega arith in
          ap (slice_get (bases ++ var_form i ∷ [])) place ∙ (get_last bases (var_form i) ∙ ap (λ j. Some (var_form j)) e)

      here_or_later : {P : Type 0} → (i ≡ k) ⊎ (i < k) → (i ≡ k → P) → (i + 1 ≤ k → P) → P
      here_or_later (inl e) a b = a e
      here_or_later (inr l) a b = b (omega arith)

  occurring_good : 2 ≤ width → (net : Network) → net.inputs ≤ count → HasAddedSignals (signals_of width net) (true_form ∷ []) (occurring_forms width net)
  occurring_good wide net le = add_signals_good (signals_of width net) (true_form ∷ []) (signals_normal count width wide net le) first_good

pub add_signals_append : (xs ys : List Signal) (bases : List Form) → add_signals (xs ++ ys) bases ≡ add_signals ys (add_signals xs bases)
add_signals_append [] ys bases = refl
add_signals_append (x ∷ xs) ys bases = add_signals_append xs ys (add_form x.fac (add_form x.sop bases))

pub record ComeFirst (signals : List Signal) (most : List Signal) : Type 0 where
  pub rest : List Signal
  pub are : most ≡ signals ++ rest

pub come_first : (width : ℕ) (signals : List Signal) (nodes : List Node) → ComeFirst signals (signals_after width signals nodes)
come_first width signals [] = record { rest = []; are = sym (append-nil signals) }
come_first width signals (node ∷ nodes) =
    let x = signal_of_node width signals node in
    let r = come_first width (signals ++ x ∷ []) nodes in
    record { rest = x ∷ r.rest; are = r.are ∙ append_assoc signals (x ∷ []) r.rest }

-- the occurring forms of a network are a listing
pub occurring_is_listing : (width : ℕ) → 2 ≤ width → (net : Network) → IsListing (listing_of width net)
occurring_is_listing width wide net =
    let r = occurring_good net.inputs width wide net (omega arith) in
    record {
      signs = r.grown.good.signs;
      once = r.grown.good.once;
      ands = r.grown.good.ands;
      signals = λ s x e. all_at (λ s. Has (occurring_forms width net) (base_form s.sop) × Has (occurring_forms width net) (base_form s.fac)) (signals_of width net) r.has s x e;
      top = (0, r.grown.extends 0 true_form refl);
      only = only_listed (signals_of width net);
    }

all_right : {X : Type 0} (P : X → Type 0) (xs ys : List X) → AllByRecursion P (xs ++ ys) → AllByRecursion P ys
all_right P [] ys a = a
all_right P (x ∷ xs) ys (p, a) = all_right P xs ys a

no_input : (i b j : ℕ) → slice_get (true_form ∷ []) b ≡ Some (var_form j) → j < i
no_input i zero j e = cc
no_input i (suc b) j e = cc

-- true is listed first, then the inputs in order, and no other input
pub true_and_inputs_first : (width : ℕ) → 2 ≤ width → (net : Network) → HasInputsFirst net.inputs (occurring_forms width net)
true_and_inputs_first width wide net =
    let r = occurring_good net.inputs width wide net (omega arith) in
    record {
      first = r.grown.extends 0 true_form refl;
      inputs = λ i lt. at_place i lt;
      below = λ b i e. r.grown.good.below b i e;
    }
  where
    at_place : (i : ℕ) → i < net.inputs → slice_get (occurring_forms width net) (i + 1) ≡ Some (var_form i)
    at_place i lt =
        let n = net.inputs in
        let s = come_first width (input_signals 0 n) net.nodes in
        let bases = add_signals (input_signals 0 n) (true_form ∷ []) in
        let is : occurring_forms width net ≡ add_signals s.rest bases = ap (λ xs. add_signals xs (true_form ∷ [])) s.are ∙ add_signals_append (input_signals 0 n) s.rest (true_form ∷ []) in
        let P : Signal → Type 0 = λ x. IsNormal n width x.sop × IsNormal n width x.fac in
        let normal = signals_normal n width wide net (omega arith) in
        let rest = all_right P (input_signals 0 n) s.rest (subst (AllByRecursion P) s.are normal) in
        let begin = add_signals_good n width (input_signals 0 n) (true_form ∷ []) (inputs_normal n width wide 0 n (omega arith)) (first_good n width) in
        let end = add_signals_good n width s.rest bases rest begin.grown.good in
        let stands = inputs_stand n width wide 0 n (true_form ∷ []) (first_good n width) refl (no_input 0) (omega arith) i (omega arith) (omega arith) in
        ap (λ bs. slice_get bs (i + 1)) is ∙ end.grown.extends (i + 1) (var_form i) stands
