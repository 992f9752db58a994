-- The constructors make normal forms.
use Rattle.std.proofs.Common.{ℕ, zero, suc, ◌+◌, ◌*◌, ◌<◌, ◌≤◌, ◌≡◌, Bool, true, false, not, cond, leb, List, [], ◌∷◌, ◌++◌, map, filter, length, take, drop, Option, Some, None, slice_index_or, refl, ap, ap₂, sym, ◌∙◌, subst, arith, leb-true, leb-false, length-drop, length-take-le}
use Rattle.std.specs.List.{AllByRecursion}
use Rattle.std.proofs.lemmas.Bool.{or_from}
use Rattle.std.proofs.lemmas.List.{length-map}
use Rattle.lw_laws.proofs.Lists.{all_append}
use Rattle.lw_laws.specs.Networks.{Node, Network}
use Rattle.lw_laws.specs.Forms.{Form, FormList, items, form_list, same_form, is_among, complement, without, kept, has_clash, runs, runs_within, joined, joined_many, conjunction_within, conjunction, disjunction}
use Rattle.lw_laws.specs.Forms.Form.{var_form, true_form, not_form, and_form}
use Rattle.lw_laws.specs.Forms.FormList.{no_forms, more_forms}
use Rattle.lw_laws.specs.Signals.{Literal, Signal, signed, literals, sum_of_products, has, cleared, shared_literal, literal_form, factored_by, factored_within, factored, literal_count, sop_at, signal_of_node, signals_after, input_signals, signals_of}
use Rattle.lw_laws.specs.Listings.IsSub.{sub_none, sub_with, sub_without}
use Rattle.lw_laws.specs.Listings.{IsSub, AreDistinct, AreOperands, sign_of}
use Rattle.lw_laws.proofs.Sublists.{IsSub_all, IsSub_length, distinct_sub}
use Rattle.lw_laws.proofs.Equality.{items-form_list}

-- a complement is of a base form, an And has operands that it may have, and an input is below a number
abbrev mutual
  pub IsNormal : ℕ → ℕ → Form → Type 0
  IsNormal count width (var_form i) = i < count
  IsNormal count width true_form = Unit {0}
  IsNormal count width (not_form f) = (sign_of f ≡ 0) × IsNormal count width f
  IsNormal count width (and_form fs) = AreOperands width (items fs) × AreNormal count width fs

  pub AreNormal : ℕ → ℕ → FormList → Type 0
  AreNormal count width no_forms = Unit {0}
  AreNormal count width (more_forms f fs) = IsNormal count width f × AreNormal count width fs

pub complement_normal : (count width : ℕ) (f : Form) → IsNormal count width f → IsNormal count width (complement f)
complement_normal count width (var_form i) n = (refl, n)
complement_normal count width true_form n = (refl, n)
complement_normal count width (not_form f) n = n.1
complement_normal count width (and_form fs) n = (refl, n)

pub without_sub : (f : Form) (fs : List Form) → IsSub (without f fs) fs
without_sub f [] = sub_none
without_sub f (h ∷ hs) = by_test (same_form f h) (without_sub f hs) where
  by_test : (t : Bool) → IsSub (without f hs) hs → IsSub (cond t (without f hs) (h ∷ without f hs)) (h ∷ hs)
  by_test true s = sub_without s
  by_test false s = sub_with s

kept_sub : (fs : List Form) → IsSub (kept fs) fs
kept_sub [] = sub_none
kept_sub (f ∷ fs) = by_test (same_form f true_form) (kept_sub fs) where
  joined_subs : {hs ks ls : List Form} → IsSub hs ks → IsSub ks ls → IsSub hs ls
  joined_subs s sub_none = s
  joined_subs (sub_with s) (sub_with r) = sub_with (joined_subs s r)
  joined_subs (sub_without s) (sub_with r) = sub_without (joined_subs s r)
  joined_subs s (sub_without r) = sub_without (joined_subs s r)

  by_test : (t : Bool) → IsSub (kept fs) fs → IsSub (cond t (kept fs) (f ∷ without f (kept fs))) (f ∷ fs)
  by_test true s = sub_without s
  by_test false s = sub_with (joined_subs (without_sub f (kept fs)) s)

pub not_among_without : (f : Form) (fs : List Form) → is_among f (without f fs) ≡ false
not_among_without f [] = refl
not_among_without f (h ∷ hs) = by_test (same_form f h) refl (not_among_without f hs) where
  by_test : (t : Bool) → same_form f h ≡ t → is_among f (without f hs) ≡ false → is_among f (cond t (without f hs) (h ∷ without f hs)) ≡ false
  by_test true s ih = ih
  by_test false s ih = or_from (same_form f h) (is_among f (without f hs)) s ih

pub kept_are_distinct : (fs : List Form) → AreDistinct (kept fs)
kept_are_distinct [] = tt
kept_are_distinct (f ∷ fs) = by_test (same_form f true_form) refl (kept_are_distinct fs) where
  by_test : (t : Bool) → same_form f true_form ≡ t → AreDistinct (kept fs) → AreDistinct (cond t (kept fs) (f ∷ without f (kept fs)))
  by_test true s d = d
  by_test false s d = (s, not_among_without f (kept fs), distinct_sub (without_sub f (kept fs)) d)

list_normal : (count width : ℕ) (fs : List Form) → AllByRecursion (IsNormal count width) fs → AreNormal count width (form_list fs)
list_normal count width [] a = tt
list_normal count width (f ∷ fs) (p, a) = (p, list_normal count width fs a)

pub take_sub : (n : ℕ) (fs : List Form) → IsSub (take n fs) fs
take_sub zero [] = sub_none
take_sub zero (f ∷ fs) = sub_without (take_sub zero fs)
take_sub (suc n) [] = sub_none
take_sub (suc n) (f ∷ fs) = sub_with (take_sub n fs)

pub whole_sub : (fs : List Form) → IsSub fs fs
whole_sub [] = sub_none
whole_sub (f ∷ fs) = sub_with (whole_sub fs)

pub drop_sub : (n : ℕ) (fs : List Form) → IsSub (drop n fs) fs
drop_sub zero fs = whole_sub fs
drop_sub (suc n) [] = sub_none
drop_sub (suc n) (f ∷ fs) = sub_without (drop_sub n fs)

-- There are at most half as many runs as forms, and one.
pub run_count : (width : ℕ) → 2 ≤ width → (n : ℕ) (fs : List Form) → 2 * length (runs_within n width fs) ≤ length fs + 2
run_count width wide zero fs = omega arith
run_count width wide (suc n) fs = by_test (leb (length fs) width) refl (run_count width wide n (drop width fs)) where
  by_test : (t : Bool) → leb (length fs) width ≡ t → 2 * length (runs_within n width (drop width fs)) ≤ length (drop width fs) + 2 → 2 * length (elim t as (λ x. List (List Form)) [ true ↦ fs ∷ [] | false ↦ take width fs ∷ runs_within n width (drop width fs) ]) ≤ length fs + 2
  by_test true s ih = omega arith
  by_test false s ih =
      let more = leb-false (length fs) width s in
      let left = length-drop width fs in
      omega arith

module _ (count width : ℕ) (wide : 2 ≤ width) where
  abbrev Normal : Form → Type 0
  Normal f = IsNormal count width f

  -- the runs are sub-lists of at most the width, and fewer than the forms
  record IsRun (fs run : List Form) : Type 0 where
    sub : IsSub run fs
    few : length run ≤ width

  run_of_sub : {hs fs : List Form} → ((run : List Form) → IsSub run hs → IsSub run fs) → (runs : List (List Form)) → AllByRecursion (IsRun hs) runs → AllByRecursion (IsRun fs) runs
  run_of_sub s [] a = tt
  run_of_sub s (run ∷ runs) (p, a) = (record { sub = s run p.sub; few = p.few }, run_of_sub s runs a)

  sub_of_drop : (n : ℕ) (fs run : List Form) → IsSub run (drop n fs) → IsSub run fs
  sub_of_drop zero fs run s = s
  sub_of_drop (suc n) [] run s = s
  sub_of_drop (suc n) (f ∷ fs) run s = sub_without (sub_of_drop n fs run s)

  are_runs : (n : ℕ) (fs : List Form) → length fs ≤ n → 1 ≤ n → AllByRecursion (IsRun fs) (runs_within n width fs)
  are_runs zero fs le some = absurd (omega arith)
  are_runs (suc n) fs le some = by_test (leb (length fs) width) refl (λ l s. are_runs n (drop width fs) l s) where
    by_test : (t : Bool) → leb (length fs) width ≡ t → (length (drop width fs) ≤ n → 1 ≤ n → AllByRecursion (IsRun (drop width fs)) (runs_within n width (drop width fs))) → AllByRecursion (IsRun fs) (elim t [ true ↦ fs ∷ [] | false ↦ take width fs ∷ runs_within n width (drop width fs) ])
    by_test true s ih = (record { sub = whole_sub fs; few = leb-true (length fs) width s }, tt)
    by_test false s ih =
        let more = leb-false (length fs) width s in
        let left = length-drop width fs in
        let taken = length-take-le width fs (omega arith) in
        (record { sub = take_sub width fs; few = omega arith }, run_of_sub (λ run r. sub_of_drop width fs run r) (runs_within n width (drop width fs)) (ih (omega arith) (omega arith)))

  map_all : {X : Type 0} (P : X → Type 0) (Q : Form → Type 0) (h : X → Form) → ((x : X) → P x → Q (h x)) → (xs : List X) → AllByRecursion P xs → AllByRecursion Q (map h xs)
  map_all P Q h f [] a = tt
  map_all P Q h f (x ∷ xs) (p, a) = (f x p, map_all P Q h f xs a)

  joined_many_normal : (n : ℕ) (again : List Form → Form) → ((hs : List Form) → AllByRecursion Normal hs → length hs < n → Normal (again hs)) → (fs : List Form) (t : Bool) → leb (length fs) width ≡ t → AllByRecursion Normal fs → 2 ≤ length fs → length fs ≤ n → AreDistinct fs → has_clash fs ≡ false → Normal (joined_many again width fs t)
  joined_many_normal n again ih fs true s a two le d c =
      (subst (AreOperands width) (sym (items-form_list fs)) (record { two = two; few = leb-true (length fs) width s; distinct = d; clashless = c }), list_normal count width fs a)
  joined_many_normal n again ih fs false s a two le d c =
      let more = leb-false (length fs) width s in
      let count = run_count width wide (length fs) fs in
      let each = are_runs (length fs) fs (omega arith) (omega arith) in
      let lengths = length-map (runs width fs) again in
      ih (map again (runs width fs)) (map_all (IsRun fs) Normal again (λ run r. let few = r.few in ih run (IsSub_all Normal r.sub a) (omega arith)) (runs width fs) each) (omega arith)

  joined_normal : (n : ℕ) (again : List Form → Form) → ((hs : List Form) → AllByRecursion Normal hs → length hs < n → Normal (again hs)) → (fs : List Form) (t : Bool) → has_clash fs ≡ t → AllByRecursion Normal fs → length fs ≤ n → AreDistinct fs → Normal (joined again width fs t)
  joined_normal n again ih fs true c a le d = (refl, tt)
  joined_normal n again ih [] false c a le d = tt
  joined_normal n again ih (f ∷ []) false c a le d = a.0
  joined_normal n again ih (f ∷ h ∷ fs) false c a le d = joined_many_normal n again ih (f ∷ h ∷ fs) (leb (length (f ∷ h ∷ fs)) width) refl a (omega arith) le d c

  conjunction_within_normal : (n : ℕ) (fs : List Form) → AllByRecursion Normal fs → length fs < n → Normal (conjunction_within n width fs)
  conjunction_within_normal zero fs a lt = absurd (omega arith)
  conjunction_within_normal (suc n) fs a lt =
      let s = kept_sub fs in
      let l = IsSub_length s in
      joined_normal n (λ hs. conjunction_within n width hs) (λ hs b m. conjunction_within_normal n hs b m) (kept fs) (has_clash (kept fs)) refl (IsSub_all Normal s a) (omega arith) (kept_are_distinct fs)

  pub conjunction_normal : (fs : List Form) → AllByRecursion Normal fs → Normal (conjunction width fs)
  conjunction_normal fs a = conjunction_within_normal (suc (length fs)) fs a (omega arith)

  pub disjunction_normal : (fs : List Form) → AllByRecursion Normal fs → Normal (disjunction width fs)
  disjunction_normal fs a =
      complement_normal count width (conjunction width (map complement fs)) (conjunction_normal (map complement fs) (map_all Normal Normal complement (λ f p. complement_normal count width f p) fs a))

  signed_normal : (sign : Bool) (f : Form) → Normal f → Normal (signed sign f)
  signed_normal true f n = n
  signed_normal false f n = complement_normal count width f n

  literals_normal : (fs : List Form) (row : List (Option Bool)) → AllByRecursion Normal fs → AllByRecursion Normal (literals fs row)
  literals_normal [] row a = tt
  literals_normal (f ∷ fs) [] a = tt
  literals_normal (f ∷ fs) (Some sign ∷ row) (p, a) = (signed_normal sign f p, literals_normal fs row a)
  literals_normal (f ∷ fs) (None ∷ row) (p, a) = literals_normal fs row a

  sum_normal : (fs : List Form) (rows : List (List (Option Bool))) → AllByRecursion Normal fs → Normal (sum_of_products width fs rows)
  sum_normal fs rows a = disjunction_normal (map (λ row. conjunction width (literals fs row)) rows) (cubes rows) where
    cubes : (rows : List (List (Option Bool))) → AllByRecursion Normal (map (λ row. conjunction width (literals fs row)) rows)
    cubes [] = tt
    cubes (row ∷ rows) = (conjunction_normal (literals fs row) (literals_normal fs row a), cubes rows)

  index_normal : (fs : List Form) (i : ℕ) → AllByRecursion Normal fs → Normal (slice_index_or fs i true_form)
  index_normal [] i a = tt
  index_normal (f ∷ fs) zero (p, a) = p
  index_normal (f ∷ fs) (suc i) (p, a) = index_normal fs i a

  factored_by_normal : (again : List (List (Option Bool)) → Form) → ((rows : List (List (Option Bool))) → Normal (again rows)) → (fs : List Form) (rows : List (List (Option Bool))) → AllByRecursion Normal fs → (l : Option Literal) → Normal (factored_by again width fs rows l)
  factored_by_normal again ih fs rows a None = sum_normal fs rows a
  factored_by_normal again ih fs rows a (Some l) =
      let q = map (cleared l) (filter (has l) rows) in
      let r = filter (λ row. not (has l row)) rows in
      disjunction_normal (conjunction width (literal_form fs l ∷ again q ∷ []) ∷ again r ∷ []) (conjunction_normal (literal_form fs l ∷ again q ∷ []) (signed_normal l.sign (slice_index_or fs l.column true_form) (index_normal fs l.column a), (ih q, tt)), (ih r, tt))

  factored_normal : (n : ℕ) (fs : List Form) (rows : List (List (Option Bool))) → AllByRecursion Normal fs → Normal (factored_within n width fs rows)
  factored_normal zero fs rows a = sum_normal fs rows a
  factored_normal (suc n) fs rows a =
      factored_by_normal (λ rest. factored_within n width fs rest) (λ rest. factored_normal n fs rest a) fs rows a (shared_literal (length fs) rows)

  abbrev pub IsNormalSignal : Signal → Type 0
  IsNormalSignal s = Normal s.sop × Normal s.fac

  sop_at_normal : (signals : List Signal) (net : ℕ) → AllByRecursion IsNormalSignal signals → Normal (sop_at signals net)
  sop_at_normal [] net a = (refl, tt)
  sop_at_normal (s ∷ signals) zero (p, a) = p.0
  sop_at_normal (s ∷ signals) (suc net) (p, a) = sop_at_normal signals net a

  fanins_normal : (signals : List Signal) (nets : List ℕ) → AllByRecursion IsNormalSignal signals → AllByRecursion Normal (map (sop_at signals) nets)
  fanins_normal signals [] a = tt
  fanins_normal signals (net ∷ nets) a = (sop_at_normal signals net a, fanins_normal signals nets a)

  after_normal : (signals : List Signal) (nodes : List Node) → AllByRecursion IsNormalSignal signals → AllByRecursion IsNormalSignal (signals_after width signals nodes)
  after_normal signals [] a = a
  after_normal signals (node ∷ nodes) a =
      let fs = map (sop_at signals) node.fanins in
      let fan = fanins_normal signals node.fanins a in
      after_normal (signals ++ signal_of_node width signals node ∷ []) nodes
      (all_append IsNormalSignal signals (signal_of_node width signals node ∷ []) a ((signed_normal node.on (sum_of_products width fs node.rows) (sum_normal fs node.rows fan), signed_normal node.on (factored width fs node.rows) (factored_normal (suc (literal_count fs node.rows)) fs node.rows fan)), tt))

  pub inputs_normal : (i n : ℕ) → i + n ≤ count → AllByRecursion IsNormalSignal (input_signals i n)
  inputs_normal i zero le = tt
  inputs_normal i (suc n) le = ((omega arith, omega arith), inputs_normal (i + 1) n (omega arith))

  pub signals_normal : (net : Network) → net.inputs ≤ count → AllByRecursion IsNormalSignal (signals_of width net)
  signals_normal net le = after_normal (input_signals 0 net.inputs) net.nodes (inputs_normal 0 net.inputs (omega arith))

  -- the bound on the depth does not matter
  map_same : (a b : List Form → Form) (fs : List Form) (runs : List (List Form)) → AllByRecursion (IsRun fs) runs → ((hs : List Form) → length hs ≤ width → a hs ≡ b hs) → map a runs ≡ map b runs
  map_same a b fs [] r h = refl
  map_same a b fs (run ∷ runs) (p, r) h = ap₂ (λ x xs. x ∷ xs) (h run p.few) (map_same a b fs runs r h)

  joined_many_same : (a b : List Form → Form) (fs : List Form) → ((hs : List Form) → length hs < length fs → a hs ≡ b hs) → (t : Bool) → leb (length fs) width ≡ t → joined_many a width fs t ≡ joined_many b width fs t
  joined_many_same a b fs h true s = refl
  joined_many_same a b fs h false s =
      let more = leb-false (length fs) width s in
      let count = run_count width wide (length fs) fs in
      let lengths = length-map (runs width fs) b in
      let each = are_runs (length fs) fs (omega arith) (omega arith) in
      let same = map_same a b fs (runs width fs) each (λ hs l. h hs (omega arith)) in
      ap a same ∙ h (map b (runs width fs)) (omega arith)

  joined_same : (a b : List Form → Form) (fs : List Form) → ((hs : List Form) → length hs < length fs → a hs ≡ b hs) → (t : Bool) → joined a width fs t ≡ joined b width fs t
  joined_same a b fs h true = refl
  joined_same a b [] h false = refl
  joined_same a b (f ∷ []) h false = refl
  joined_same a b (f ∷ g ∷ fs) h false = joined_many_same a b (f ∷ g ∷ fs) h (leb (length (f ∷ g ∷ fs)) width) refl

  conjunction_within_same : (n m : ℕ) (fs : List Form) → length fs < n → length fs < m → conjunction_within n width fs ≡ conjunction_within m width fs
  conjunction_within_same zero m fs p q = absurd (omega arith)
  conjunction_within_same (suc n) zero fs p q = absurd (omega arith)
  conjunction_within_same (suc n) (suc m) fs p q =
      let l = IsSub_length (kept_sub fs) in
      joined_same (λ hs. conjunction_within n width hs) (λ hs. conjunction_within m width hs) (kept fs) (λ hs lt. conjunction_within_same n m hs (omega arith) (omega arith)) (has_clash (kept fs))

  -- the And of some forms, in terms of Ands alone
  pub conjunction_step : (fs : List Form) → conjunction width fs ≡ joined (conjunction width) width (kept fs) (has_clash (kept fs))
  conjunction_step fs =
      let l = IsSub_length (kept_sub fs) in
      joined_same (λ hs. conjunction_within (length fs) width hs) (conjunction width) (kept fs) (λ hs lt. conjunction_within_same (length fs) (suc (length hs)) hs (omega arith) (omega arith)) (has_clash (kept fs))
