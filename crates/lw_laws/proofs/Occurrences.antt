-- The listed forms are the forms that occur.
use Rattle.std.proofs.Common.{ℕ, zero, suc, ◌≤◌, ◌≡◌, ◌⊎◌, inl, inr, Bool, true, false, cond, leb, List, [], ◌∷◌, ◌++◌, length, Some, slice_get, refl, sym, ap, ◌∙◌, subst, arith, leb-true, lt_of_not-le}
use native.Mathlib.Decide.{dec_le}
use Rattle.std.specs.List.{AllByRecursion}
use Rattle.lw_facts.proofs.Lists.{contained_at, get_last_cases}
use Rattle.lw_laws.specs.Forms.{Form, FormList, items, form_list, and_of, is_among}
use Rattle.lw_laws.specs.Forms.Form.{var_form, true_form, not_form, and_form}
use Rattle.lw_laws.specs.Forms.FormList.{no_forms, more_forms}
use Rattle.lw_laws.specs.Signals.{Signal}
use Rattle.lw_laws.specs.Occurring.{with_and_without, sublists, appended, append_part, append_parts, add_form, add_forms, add_signals}
use Rattle.lw_laws.specs.Decompositions.{AreParts, Occurs}
use Rattle.lw_laws.specs.Decompositions.AreParts.{parts_none, parts_left, parts_right}
use Rattle.lw_laws.specs.Decompositions.Occurs.{true_occurs, sop_occurs, fac_occurs, operand_occurs, part_occurs, complement_occurs}
use Rattle.lw_laws.specs.Listings.IsSub.{sub_none, sub_with, sub_without}
use Rattle.lw_laws.specs.Listings.{Listing, IsListed, IsListedBefore, IsListing, IsSub, sign_of}
use Rattle.lw_laws.specs.Laws.{ListsTheOccurring}
use Rattle.lw_laws.proofs.Equality.{form_list-items}
use Rattle.lw_laws.proofs.Lists.{all_contains, contains_all}
use Rattle.lw_laws.proofs.Sublists.{parts_subs, IsSub_whole}
use Rattle.lw_laws.proofs.Numbers.{occurs_complement}

with_all : (P Q : List Form → Type 0) (f : Form) → ((hs : List Form) → P hs → Q hs × Q (f ∷ hs)) → (rest : List (List Form)) → AllByRecursion P rest → AllByRecursion Q (with_and_without f rest)
with_all P Q f h [] a = tt
with_all P Q f h (fs ∷ rest) (p, a) = let r = h fs p in (r.0, (r.1, with_all P Q f h rest a))

pub sublists_are_subs : (fs : List Form) → AllByRecursion (λ hs. IsSub hs fs) (sublists fs)
sublists_are_subs [] = (sub_none, tt)
sublists_are_subs (f ∷ fs) = with_all (λ hs. IsSub hs fs) (λ hs. IsSub hs (f ∷ fs)) f (λ hs s. (sub_without s, sub_with s)) (sublists fs) (sublists_are_subs fs)

-- a sub-list is a part
sub_parts : {hs fs : List Form} → IsSub hs fs → (rs : List Form) × AreParts fs hs rs
sub_parts sub_none = ([], parts_none)
sub_parts (sub_with s) = let (rs, p) = sub_parts s in (rs, parts_left p)
sub_parts (sub_without {f = f} s) = let (rs, p) = sub_parts s in (f ∷ rs, parts_right p)

module _ (signals : List Signal) where
  -- no form is listed that does not occur
  abbrev OccurAll : List Form → Type 0
  OccurAll bases = (b : ℕ) (f : Form) → slice_get bases b ≡ Some f → Occurs signals f

  only_appended : (f : Form) (bases : List Form) → Occurs signals f → OccurAll bases → OccurAll (appended f bases)
  only_appended f bases occ only = by_test (is_among f bases)
    where
      here_or_before : (b : ℕ) (h : Form) → (slice_get bases b ≡ Some h) ⊎ ((b ≡ length bases) × (h ≡ f)) → Occurs signals h
      here_or_before b h (inl e) = only b h e
      here_or_before b h (inr (e, k)) = subst (Occurs signals) (sym k) occ

      by_test : (t : Bool) → OccurAll (cond t bases (bases ++ f ∷ []))
      by_test true = only
      by_test false = λ b h e. here_or_before b h (get_last_cases bases f b h e)

  abbrev AndOccurs : List Form → Type 0
  AndOccurs fs = 2 ≤ length fs → Occurs signals (and_of fs)

  only_part : (fs bases : List Form) → AndOccurs fs → OccurAll bases → OccurAll (append_part fs bases)
  only_part fs bases occ only = by_test (leb 2 (length fs)) refl
    where
      by_test : (t : Bool) → leb 2 (length fs) ≡ t → OccurAll (cond t (appended (and_of fs) bases) bases)
      by_test true e = only_appended (and_of fs) bases (occ (leb-true 2 (length fs) e)) only
      by_test false e = only

  only_parts : (rest : List (List Form)) (bases : List Form) → AllByRecursion AndOccurs rest → OccurAll bases → OccurAll (append_parts rest bases)
  only_parts [] bases a only = only
  only_parts (fs ∷ rest) bases (p, a) only = only_parts rest (append_part fs bases) a (only_part fs bases p only)

  and_parts : (fs : FormList) → Occurs signals (and_form fs) → (rest : List (List Form)) → AllByRecursion (λ hs. IsSub hs (items fs)) rest → AllByRecursion AndOccurs rest
  and_parts fs occ [] a = tt
  and_parts fs occ (hs ∷ rest) (s, a) = (λ two. part_occurs occ (sub_parts s).1 two, and_parts fs occ rest a)

  mutual
    only_form : (f : Form) (bases : List Form) → Occurs signals f → OccurAll bases → OccurAll (add_form f bases)
    only_form (var_form i) bases occ only = only_appended (var_form i) bases occ only
    only_form true_form bases occ only = only_appended true_form bases occ only
    only_form (not_form f) bases occ only = only_form f bases (complement_occurs occ) only
    only_form (and_form fs) bases occ only =
        by_test (is_among (and_form fs) bases)
        (only_parts (sublists (items fs)) (add_forms fs bases) (and_parts fs occ (sublists (items fs)) (sublists_are_subs (items fs)))
        (only_forms fs bases (contains_all (Occurs signals) (items fs) (λ f c. operand_occurs occ c)) only))
      where
        by_test : (t : Bool) → OccurAll (append_parts (sublists (items fs)) (add_forms fs bases)) → OccurAll (elim t [ true ↦ bases | false ↦ append_parts (sublists (items fs)) (add_forms fs bases) ])
        by_test true all = only
        by_test false all = all

    only_forms : (fs : FormList) (bases : List Form) → AllByRecursion (Occurs signals) (items fs) → OccurAll bases → OccurAll (add_forms fs bases)
    only_forms no_forms bases a only = only
    only_forms (more_forms f fs) bases (p, a) only = only_forms fs (add_form f bases) a (only_form f bases p only)

  only_signals : (xs : List Signal) (bases : List Form) → AllByRecursion (λ x. Occurs signals x.sop × Occurs signals x.fac) xs → OccurAll bases → OccurAll (add_signals xs bases)
  only_signals [] bases a only = only
  only_signals (x ∷ xs) bases (p, a) only =
      only_signals xs (add_form x.fac (add_form x.sop bases)) a (only_form x.fac (add_form x.sop bases) p.1 (only_form x.sop bases p.0 only))

  only_true : OccurAll (true_form ∷ [])
  only_true zero f e = let k : true_form ≡ f = cc in subst (Occurs signals) k true_occurs
  only_true (suc b) f e = cc

  -- each form that is listed for the signals occurs
  pub only_listed : OccurAll (add_signals signals (true_form ∷ []))
  only_listed = only_signals signals (true_form ∷ []) (contains_all (λ x. Occurs signals x.sop × Occurs signals x.fac) signals (λ x c. (sop_occurs c, fac_occurs c))) only_true

module _ (o : Listing) (is : IsListing o) where
  -- the operands of a listed And occur
  pub operands_occur : (b : ℕ) (fs : FormList) → slice_get o.bases b ≡ Some (and_form fs) → AllByRecursion (IsListed o) (items fs)
  operands_occur b fs e = all_occur (items fs) (is.ands b fs e).before where
    all_occur : (hs : List Form) → AllByRecursion (IsListedBefore o.bases b) hs → AllByRecursion (IsListed o) hs
    all_occur [] a = tt
    all_occur (h ∷ hs) ((k, e, lt), a) = ((k, e), all_occur hs a)

  -- and so does the And of two or more of them
  pub and_sub_listed : (b : ℕ) (fs : FormList) → slice_get o.bases b ≡ Some (and_form fs) → (hs : List Form) → IsSub hs (items fs) → 2 ≤ length hs → IsListed o (and_of hs)
  and_sub_listed b fs e hs s two =
      by_length (dec_le (length (items fs)) (length hs))
    where
      by_length : Dec (length (items fs) ≤ length hs) → IsListed o (and_of hs)
      by_length (yes le) = (b, e ∙ ap Some (ap and_form (sym (ap form_list (IsSub_whole s le) ∙ form_list-items fs))))
      by_length (no gt) = let (k, l, lt) = (is.ands b fs e).subs hs s two (lt_of_not-le gt) in (k, l)

  -- each form that occurs is listed
  pub occurring_listed : {f : Form} → Occurs o.signals f → IsListed o f
  occurring_listed true_occurs = is.top
  occurring_listed (sop_occurs {x = x} c) = let (s, e) = contained_at o.signals x c in (is.signals s x e).0
  occurring_listed (fac_occurs {x = x} c) = let (s, e) = contained_at o.signals x c in (is.signals s x e).1
  occurring_listed (operand_occurs {fs = fs} {f = f} occ c) =
      let (b, e) = occurring_listed occ in
      all_contains (IsListed o) (items fs) f (operands_occur b fs e) c
  occurring_listed (part_occurs {fs = fs} {ls = ls} occ parts two) =
      let (b, e) = occurring_listed occ in
      and_sub_listed b fs e ls (parts_subs parts).0 two
  occurring_listed (complement_occurs {f = f} occ) = occurs_complement o is f (occurring_listed occ)

  -- each form that is listed occurs
  pub listed_occurs : (f : Form) → IsListed o f → Occurs o.signals f
  listed_occurs (var_form i) (b, e) = is.only b (var_form i) e
  listed_occurs true_form (b, e) = is.only b true_form e
  listed_occurs (not_form f) (b, e) = not_occurs f (is.signs b f e) (is.only b f e)
    where
      not_occurs : (h : Form) → sign_of h ≡ 0 → Occurs o.signals h → Occurs o.signals (not_form h)
      not_occurs (var_form i) z occ = complement_occurs occ
      not_occurs true_form z occ = complement_occurs occ
      not_occurs (not_form h) z occ = absurd (omega arith)
      not_occurs (and_form fs) z occ = complement_occurs occ
  listed_occurs (and_form fs) (b, e) = is.only b (and_form fs) e

  pub lists_the_occurring : ListsTheOccurring o
  lists_the_occurring f = (λ l. listed_occurs f l, λ occ. occurring_listed occ)
