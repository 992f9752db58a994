-- The NAND facts of listed forms, as a list that computes.
use Rattle.std.proofs.Common.{ℕ, zero, suc, ◌+◌, ◌*◌, ◌==◌, ◌<◌, ◌≤◌, ◌≡◌, ◌≢◌, ◌⊎◌, inl, inr, Bool, true, false, if◌then◌else◌, List, [], ◌∷◌, ◌++◌, length, map, Contains, Some, slice_get, refl, ap, sym, ◌∙◌, subst, true≢false, arith}
use Rattle.std.specs.List.{AllByRecursion, list_all, list_any}
use Rattle.std.proofs.lemmas.Bool.Decides.{nat_tests}
use Rattle.std.proofs.lemmas.Bool.{and_parts, or_cases, eqb-true}
use Rattle.std.proofs.lemmas.List.Elements.{Contains-append_cases, Contains-append_left, Contains-append_right}
use Rattle.lw_facts.proofs.Lists.{contains_map}
use native.Mathlib.Nat.{eq-or-lt_of_le}
use Rattle.lw_laws.specs.Names.{same_name}
use Rattle.lw_laws.specs.Drafts.{NandFact}
use Rattle.lw_laws.specs.NumberedForms.{Base, NumberedForms, IsCut, IsCovering, IsPart, IsCutOf, IsCoveringOf, IsTwice, IsSplitOf}
use Rattle.lw_laws.specs.NumberedForms.Base.{base_true, base_input, base_and}
use Rattle.lw_laws.specs.NumberedForms.IsCut.{cut_none, cut_left, cut_right}
use Rattle.lw_laws.specs.NumberedForms.IsCovering.{in_none, in_left, in_right, in_both}
use Rattle.lw_laws.specs.Flip.{flip}
use Rattle.lw_laws.specs.Modes.{Mode}
use Rattle.lw_laws.specs.Modes.Mode.{plain, idempotent}
use Rattle.lw_laws.proofs.Lists.{all_contains, all_append, all_map}

pub eq_same : (a : ℕ) → (a == a) ≡ true
eq_same a = grind (arith, nat_tests)

pub all_true : {X : Type 0} (p : X → Bool) (xs : List X) (x : X) → list_all p xs ≡ true → Contains xs x → p x ≡ true
all_true p [] x e (k, lt, f) = absurd (omega arith)
all_true p (y ∷ xs) x e (zero, lt, f) = subst (λ z. p z ≡ true) f (and_parts (p y) (list_all p xs) e).0
all_true p (y ∷ xs) x e (suc k, lt, f) = all_true p xs x (and_parts (p y) (list_all p xs) e).1 (k, omega arith, f)

pub any_true : {X : Type 0} (p : X → Bool) (xs : List X) → list_any p xs ≡ true → (x : X) × Contains xs x × (p x ≡ true)
any_true p [] e = cc
any_true {X} p (y ∷ xs) e = by_side (or_cases (p y) (list_any p xs) e) (any_true p xs)
  where
    by_side : (p y ≡ true) ⊎ (list_any p xs ≡ true) → (list_any p xs ≡ true → (x : X) × Contains xs x × (p x ≡ true)) → (x : X) × Contains (y ∷ xs) x × (p x ≡ true)
    by_side (inl f) ih = (y, (0, omega arith, refl), f)
    by_side (inr f) ih = let (x, (k, lt, g), h) = ih f in (x, (suc k, omega arith, g), h)

pub same_name_eq : (xs ys : List ℕ) → same_name xs ys ≡ true → xs ≡ ys
same_name_eq [] [] e = refl
same_name_eq [] (y ∷ ys) e = cc
same_name_eq (x ∷ xs) [] e = cc
same_name_eq (x ∷ xs) (y ∷ ys) e =
    let (a, b) = and_parts (x == y) (same_name xs ys) e in
    let first = eqb-true x y a in
    let rest = same_name_eq xs ys b in
    cc

pub same_name_refl : (xs : List ℕ) → same_name xs xs ≡ true
same_name_refl [] = refl
same_name_refl (x ∷ xs) = rw (eq_same x) (same_name_refl xs)

-- the cuts of some operands
pub record Cut : Type 0 where
  pub left : List ℕ
  pub right : List ℕ

abbrev to_left : ℕ → Cut → Cut
to_left f c = record { left = f ∷ c.left; right = c.right }

abbrev to_right : ℕ → Cut → Cut
to_right f c = record { left = c.left; right = f ∷ c.right }

abbrev pub cuts : List ℕ → List Cut
cuts [] = record { left = []; right = [] } ∷ []
cuts (f ∷ fs) = map (to_left f) (cuts fs) ++ map (to_right f) (cuts fs)

cut_listed : {fs ls rs : List ℕ} → IsCut fs ls rs → Contains (cuts fs) (record { left = ls; right = rs })
cut_listed cut_none = (0, omega arith, refl)
cut_listed (cut_left {f = f} {fs = fs} {ls = ls} {rs = rs} c) =
    Contains-append_left (map (to_left f) (cuts fs)) (map (to_right f) (cuts fs)) (record { left = f ∷ ls; right = rs }) (contains_map (to_left f) (cuts fs) (record { left = ls; right = rs }) (cut_listed c))
cut_listed (cut_right {f = f} {fs = fs} {ls = ls} {rs = rs} c) =
    Contains-append_right (map (to_left f) (cuts fs)) (map (to_right f) (cuts fs)) (record { left = ls; right = f ∷ rs }) (contains_map (to_right f) (cuts fs) (record { left = ls; right = rs }) (cut_listed c))

cuts_are : (fs : List ℕ) → AllByRecursion (λ c. IsCut fs c.left c.right) (cuts fs)
cuts_are [] = (cut_none, tt)
cuts_are (f ∷ fs) =
    all_append (λ c. IsCut (f ∷ fs) c.left c.right) (map (to_left f) (cuts fs)) (map (to_right f) (cuts fs))
    (all_map (λ c. IsCut fs c.left c.right) (λ c. IsCut (f ∷ fs) c.left c.right) (to_left f) (cuts fs) (λ c h. cut_left h) (cuts_are fs))
    (all_map (λ c. IsCut fs c.left c.right) (λ c. IsCut (f ∷ fs) c.left c.right) (to_right f) (cuts fs) (λ c h. cut_right h) (cuts_are fs))

-- the pairs of different lists that together hold the operands
abbrev to_both : ℕ → Cut → Cut
to_both f c = record { left = f ∷ c.left; right = f ∷ c.right }

abbrev coverings : List ℕ → List Cut
coverings [] = record { left = []; right = [] } ∷ []
coverings (f ∷ fs) = map (to_left f) (coverings fs) ++ (map (to_right f) (coverings fs) ++ map (to_both f) (coverings fs))

covering_listed : {fs ls rs : List ℕ} → IsCovering fs ls rs → Contains (coverings fs) (record { left = ls; right = rs })
covering_listed in_none = (0, omega arith, refl)
covering_listed (in_left {f = f} {fs = fs} {ls = ls} {rs = rs} c) =
    Contains-append_left (map (to_left f) (coverings fs)) (map (to_right f) (coverings fs) ++ map (to_both f) (coverings fs)) (record { left = f ∷ ls; right = rs }) (contains_map (to_left f) (coverings fs) (record { left = ls; right = rs }) (covering_listed c))
covering_listed (in_right {f = f} {fs = fs} {ls = ls} {rs = rs} c) =
    Contains-append_right (map (to_left f) (coverings fs)) (map (to_right f) (coverings fs) ++ map (to_both f) (coverings fs)) (record { left = ls; right = f ∷ rs }) (Contains-append_left (map (to_right f) (coverings fs)) (map (to_both f) (coverings fs)) (record { left = ls; right = f ∷ rs }) (contains_map (to_right f) (coverings fs) (record { left = ls; right = rs }) (covering_listed c)))
covering_listed (in_both {f = f} {fs = fs} {ls = ls} {rs = rs} c) =
    Contains-append_right (map (to_left f) (coverings fs)) (map (to_right f) (coverings fs) ++ map (to_both f) (coverings fs)) (record { left = f ∷ ls; right = f ∷ rs }) (Contains-append_right (map (to_right f) (coverings fs)) (map (to_both f) (coverings fs)) (record { left = f ∷ ls; right = f ∷ rs }) (contains_map (to_both f) (coverings fs) (record { left = ls; right = rs }) (covering_listed c)))

abbrev AreCoverings : List ℕ → List Cut → Type 0
AreCoverings fs cs = AllByRecursion (λ c. IsCovering fs c.left c.right) cs

coverings_are : (fs : List ℕ) → AreCoverings fs (coverings fs)
coverings_are [] = (in_none, tt)
coverings_are (f ∷ fs) =
    all_append (λ c. IsCovering (f ∷ fs) c.left c.right) (map (to_left f) (coverings fs)) (map (to_right f) (coverings fs) ++ map (to_both f) (coverings fs))
    (all_map (λ c. IsCovering fs c.left c.right) (λ c. IsCovering (f ∷ fs) c.left c.right) (to_left f) (coverings fs) (λ c h. in_left h) (coverings_are fs))
    (all_append (λ c. IsCovering (f ∷ fs) c.left c.right) (map (to_right f) (coverings fs)) (map (to_both f) (coverings fs))
    (all_map (λ c. IsCovering fs c.left c.right) (λ c. IsCovering (f ∷ fs) c.left c.right) (to_right f) (coverings fs) (λ c h. in_right h) (coverings_are fs))
    (all_map (λ c. IsCovering fs c.left c.right) (λ c. IsCovering (f ∷ fs) c.left c.right) (to_both f) (coverings fs) (λ c h. in_both h) (coverings_are fs)))

abbrev unequal : List Cut → List Cut
unequal [] = []
unequal (c ∷ cs) = if same_name c.left c.right then unequal cs else (c ∷ unequal cs)

abbrev IsOverlap : List ℕ → List ℕ → List ℕ → Type 0
IsOverlap fs ls rs = IsCovering fs ls rs × (ls ≢ rs)

unequal_listed : (cs : List Cut) (c : Cut) → c.left ≢ c.right → Contains cs c → Contains (unequal cs) c
unequal_listed [] c ne (k, lt, e) = absurd (omega arith)
unequal_listed (d ∷ cs) c ne (zero, lt, e) = by_test (same_name d.left d.right) refl
  where
    by_test : (t : Bool) → same_name d.left d.right ≡ t → Contains (if t then unequal cs else (d ∷ unequal cs)) c
    by_test true s = absurd (ne (ap (λ z. z.left) (sym e) ∙ (same_name_eq d.left d.right s ∙ ap (λ z. z.right) e)))
    by_test false s = (0, omega arith, e)
unequal_listed (d ∷ cs) c ne (suc k, lt, e) = by_test (same_name d.left d.right) (unequal_listed cs c ne (k, omega arith, e))
  where
    by_test : (t : Bool) → Contains (unequal cs) c → Contains (if t then unequal cs else (d ∷ unequal cs)) c
    by_test true at = at
    by_test false (j, l, h) = (suc j, omega arith, h)

unequal_are : (fs : List ℕ) (cs : List Cut) → AreCoverings fs cs → AllByRecursion (λ c. IsOverlap fs c.left c.right) (unequal cs)
unequal_are fs [] a = tt
unequal_are fs (c ∷ cs) (h, a) = by_test (same_name c.left c.right) refl (unequal_are fs cs a)
  where
    by_test : (t : Bool) → same_name c.left c.right ≡ t → AllByRecursion (λ c. IsOverlap fs c.left c.right) (unequal cs) → AllByRecursion (λ c. IsOverlap fs c.left c.right) (if t then unequal cs else (c ∷ unequal cs))
    by_test true s rest = rest
    by_test false s rest = ((h, λ e. true≢false (sym (subst (λ zs. same_name c.left zs ≡ true) e (same_name_refl c.left)) ∙ s)), rest)

abbrev overlaps : List ℕ → List Cut
overlaps fs = unequal (coverings fs)

-- the numbers of the listed Ands with these operands
abbrev is_and_of : List ℕ → Base → Bool
is_and_of fs base_true = false
is_and_of fs (base_input i) = false
is_and_of fs (base_and hs) = same_name fs hs

abbrev places_from : ℕ → List Base → List ℕ → List ℕ
places_from b [] fs = []
places_from b (base ∷ bases) fs =
    if is_and_of fs base then 2 * b ∷ places_from (suc b) bases fs else places_from (suc b) bases fs

is_and_same : (fs : List ℕ) (base : Base) → is_and_of fs base ≡ true → base ≡ base_and fs
is_and_same fs base_true e = cc
is_and_same fs (base_input i) e = cc
is_and_same fs (base_and hs) e = ap base_and (sym (same_name_eq fs hs e))

place_listed : (fs : List ℕ) (first : ℕ) (bases : List Base) (b : ℕ) → slice_get bases b ≡ Some (base_and fs) → Contains (places_from first bases fs) (2 * (first + b))
place_listed fs first [] b e = cc
place_listed fs first (base ∷ bases) zero e = by_test (is_and_of fs base) is
  where
    is : is_and_of fs base ≡ true
    is = let same : base ≡ base_and fs = cc in rw same (same_name_refl fs)

    by_test : (t : Bool) → t ≡ true → Contains (if t then 2 * first ∷ places_from (suc first) bases fs else places_from (suc first) bases fs) (2 * (first + 0))
    by_test true e = (0, omega arith, omega arith)
    by_test false e = cc
place_listed fs first (base ∷ bases) (suc b) e =
    let s : suc first + b ≡ first + suc b = omega arith in
    by_test (is_and_of fs base) (subst (λ k. Contains (places_from (suc first) bases fs) (2 * k)) s (place_listed fs (suc first) bases b e))
  where
    by_test : (t : Bool) → Contains (places_from (suc first) bases fs) (2 * (first + suc b)) → Contains (if t then 2 * first ∷ places_from (suc first) bases fs else places_from (suc first) bases fs) (2 * (first + suc b))
    by_test true (k, lt, f) = (suc k, omega arith, f)
    by_test false later = later

places_are : (all : List Base) (fs : List ℕ) (first : ℕ) (bases : List Base) → ((b : ℕ) (base : Base) → slice_get bases b ≡ Some base → slice_get all (first + b) ≡ Some base) → AllByRecursion (λ x. (b : ℕ) × (slice_get all b ≡ Some (base_and fs)) × (x ≡ 2 * b)) (places_from first bases fs)
places_are all fs first [] at = tt
places_are all fs first (base ∷ bases) at =
    by_test (is_and_of fs base) refl (places_are all fs (suc first) bases (λ b d e. let s : suc first + b ≡ first + suc b = omega arith in ap (slice_get all) s ∙ at (suc b) d e))
  where
    by_test : (t : Bool) → is_and_of fs base ≡ t → AllByRecursion (λ x. (b : ℕ) × (slice_get all b ≡ Some (base_and fs)) × (x ≡ 2 * b)) (places_from (suc first) bases fs) → AllByRecursion (λ x. (b : ℕ) × (slice_get all b ≡ Some (base_and fs)) × (x ≡ 2 * b)) (if t then 2 * first ∷ places_from (suc first) bases fs else places_from (suc first) bases fs)
    by_test true e rest = let s : first ≡ first + 0 = omega arith in ((first, ap (slice_get all) s ∙ (at 0 base refl ∙ ap Some (is_and_same fs base e)), refl), rest)
    by_test false e rest = rest

abbrev pub parts_of : NumberedForms → List ℕ → List ℕ
parts_of forms [] = []
parts_of forms (f ∷ []) = f ∷ []
parts_of forms (f ∷ h ∷ fs) = places_from 0 forms.bases (f ∷ h ∷ fs)

part_listed : (forms : NumberedForms) (ls : List ℕ) (x : ℕ) → IsPart forms ls x → Contains (parts_of forms ls) x
part_listed forms [] x p = absurd p
part_listed forms (f ∷ []) x p = (0, omega arith, sym p)
part_listed forms (f ∷ h ∷ fs) x (b, e, s) =
    let z : 0 + b ≡ b = omega arith in
    subst (λ k. Contains (places_from 0 forms.bases (f ∷ h ∷ fs)) k) (ap (λ k. 2 * k) z ∙ sym s) (place_listed (f ∷ h ∷ fs) 0 forms.bases b e)

parts_are : (forms : NumberedForms) (ls : List ℕ) → AllByRecursion (IsPart forms ls) (parts_of forms ls)
parts_are forms [] = tt
parts_are forms (f ∷ []) = (refl, tt)
parts_are forms (f ∷ h ∷ fs) = places_are forms.bases (f ∷ h ∷ fs) 0 forms.bases (λ b d e. let z : 0 + b ≡ b = omega arith in ap (slice_get forms.bases) z ∙ e)

-- the facts of a cut of a listed And
abbrev with_left : ℕ → ℕ → List ℕ → List NandFact
with_left f x [] = []
with_left f x (y ∷ ys) = record { form = f; left = x; right = y } ∷ with_left f x ys

abbrev with_parts : ℕ → List ℕ → List ℕ → List NandFact
with_parts f [] ys = []
with_parts f (x ∷ xs) ys = with_left f x ys ++ with_parts f xs ys

abbrev of_cuts : NumberedForms → ℕ → List Cut → List NandFact
of_cuts forms f [] = []
of_cuts forms f (c ∷ rest) = with_parts f (parts_of forms c.left) (parts_of forms c.right) ++ of_cuts forms f rest

-- the facts of all listed Ands, by the pairs of parts that operands have
abbrev of_bases : (List ℕ → List Cut) → NumberedForms → ℕ → List Base → List NandFact
of_bases sides forms b [] = []
of_bases sides forms b (base_true ∷ bases) = of_bases sides forms (suc b) bases
of_bases sides forms b (base_input i ∷ bases) = of_bases sides forms (suc b) bases
of_bases sides forms b (base_and fs ∷ bases) = of_cuts forms (2 * b + 1) (sides fs) ++ of_bases sides forms (suc b) bases

-- each form below n is the NAND of its complement twice
abbrev twice_facts : ℕ → List NandFact
twice_facts zero = []
twice_facts (suc n) = record { form = n; left = flip n; right = flip n } ∷ twice_facts n

abbrev pub nand_facts : Mode → NumberedForms → List NandFact
nand_facts plain forms = of_bases cuts forms 0 forms.bases
nand_facts idempotent forms =
    of_bases cuts forms 0 forms.bases ++ (of_bases overlaps forms 0 forms.bases ++ twice_facts (2 * length forms.bases))

in_with_left : (f x : ℕ) (ys : List ℕ) (y : ℕ) → Contains ys y → Contains (with_left f x ys) (record { form = f; left = x; right = y })
in_with_left f x [] y (k, lt, e) = absurd (omega arith)
in_with_left f x (z ∷ ys) y (zero, lt, e) = (0, omega arith, ap (λ w. record { form = f; left = x; right = w }) e)
in_with_left f x (z ∷ ys) y (suc k, lt, e) = let (j, l, h) = in_with_left f x ys y (k, omega arith, e) in (suc j, omega arith, h)

in_with_parts : (f : ℕ) (xs ys : List ℕ) (x y : ℕ) → Contains xs x → Contains ys y → Contains (with_parts f xs ys) (record { form = f; left = x; right = y })
in_with_parts f [] ys x y (k, lt, e) c = absurd (omega arith)
in_with_parts f (z ∷ xs) ys x y (zero, lt, e) c =
    Contains-append_left (with_left f z ys) (with_parts f xs ys) (record { form = f; left = x; right = y }) (subst (λ w. Contains (with_left f z ys) (record { form = f; left = w; right = y })) e (in_with_left f z ys y c))
in_with_parts f (z ∷ xs) ys x y (suc k, lt, e) c =
    Contains-append_right (with_left f z ys) (with_parts f xs ys) (record { form = f; left = x; right = y }) (in_with_parts f xs ys x y (k, omega arith, e) c)

in_of_cuts : (forms : NumberedForms) (f : ℕ) (cs : List Cut) (c : Cut) (x y : ℕ) → Contains cs c → IsPart forms c.left x → IsPart forms c.right y → Contains (of_cuts forms f cs) (record { form = f; left = x; right = y })
in_of_cuts forms f [] c x y (k, lt, e) p q = absurd (omega arith)
in_of_cuts forms f (d ∷ cs) c x y (zero, lt, e) p q =
    Contains-append_left (with_parts f (parts_of forms d.left) (parts_of forms d.right)) (of_cuts forms f cs) (record { form = f; left = x; right = y })
    (in_with_parts f (parts_of forms d.left) (parts_of forms d.right) x y (part_listed forms d.left x (subst (λ z. IsPart forms z.left x) (sym e) p)) (part_listed forms d.right y (subst (λ z. IsPart forms z.right y) (sym e) q)))
in_of_cuts forms f (d ∷ cs) c x y (suc k, lt, e) p q =
    Contains-append_right (with_parts f (parts_of forms d.left) (parts_of forms d.right)) (of_cuts forms f cs) (record { form = f; left = x; right = y }) (in_of_cuts forms f cs c x y (k, omega arith, e) p q)

in_of_bases : (sides : List ℕ → List Cut) (forms : NumberedForms) (first : ℕ) (bases : List Base) (b : ℕ) (fs : List ℕ) (F : NandFact) → slice_get bases b ≡ Some (base_and fs) → Contains (of_cuts forms (2 * (first + b) + 1) (sides fs)) F → Contains (of_bases sides forms first bases) F
in_of_bases sides forms first [] b fs F e c = cc
in_of_bases sides forms first (base_true ∷ bases) zero fs F e c = cc
in_of_bases sides forms first (base_input i ∷ bases) zero fs F e c = cc
in_of_bases sides forms first (base_and hs ∷ bases) zero fs F e c =
    let same : fs ≡ hs = cc in
    let z : first + 0 ≡ first = omega arith in
    Contains-append_left (of_cuts forms (2 * first + 1) (sides hs)) (of_bases sides forms (suc first) bases) F (subst (λ zs. Contains (of_cuts forms (2 * first + 1) (sides zs)) F) same (subst (λ k. Contains (of_cuts forms (2 * k + 1) (sides fs)) F) z c))
in_of_bases sides forms first (base_true ∷ bases) (suc b) fs F e c = let s : first + suc b ≡ suc first + b = omega arith in in_of_bases sides forms (suc first) bases b fs F e (subst (λ k. Contains (of_cuts forms (2 * k + 1) (sides fs)) F) s c)
in_of_bases sides forms first (base_input i ∷ bases) (suc b) fs F e c = let s : first + suc b ≡ suc first + b = omega arith in in_of_bases sides forms (suc first) bases b fs F e (subst (λ k. Contains (of_cuts forms (2 * k + 1) (sides fs)) F) s c)
in_of_bases sides forms first (base_and hs ∷ bases) (suc b) fs F e c =
    let s : first + suc b ≡ suc first + b = omega arith in
    Contains-append_right (of_cuts forms (2 * first + 1) (sides hs)) (of_bases sides forms (suc first) bases) F (in_of_bases sides forms (suc first) bases b fs F e (subst (λ k. Contains (of_cuts forms (2 * k + 1) (sides fs)) F) s c))

with_left_are : (P : NandFact → Type 0) (f x : ℕ) (Q : ℕ → Type 0) (ys : List ℕ) → ((y : ℕ) → Q y → P (record { form = f; left = x; right = y })) → AllByRecursion Q ys → AllByRecursion P (with_left f x ys)
with_left_are P f x Q [] h a = tt
with_left_are P f x Q (y ∷ ys) h (q, a) = (h y q, with_left_are P f x Q ys h a)

with_parts_are : (P : NandFact → Type 0) (f : ℕ) (R Q : ℕ → Type 0) (xs ys : List ℕ) → ((x y : ℕ) → R x → Q y → P (record { form = f; left = x; right = y })) → AllByRecursion R xs → AllByRecursion Q ys → AllByRecursion P (with_parts f xs ys)
with_parts_are P f R Q [] ys h a b = tt
with_parts_are P f R Q (x ∷ xs) ys h (r, a) b =
    all_append P (with_left f x ys) (with_parts f xs ys) (with_left_are P f x Q ys (λ y q. h x y r q) b) (with_parts_are P f R Q xs ys h a b)

module _ (R : List ℕ → List ℕ → List ℕ → Type 0) (sides : List ℕ → List Cut) (forms : NumberedForms) where
  -- form f is the complement of a listed And, and x and y are the Ands of two parts that the relation gives
  abbrev IsSplitBy : ℕ → ℕ → ℕ → Type 0
  IsSplitBy f x y =
      (b : ℕ) × (fs : List ℕ) × (ls : List ℕ) × (rs : List ℕ) × (slice_get forms.bases b ≡ Some (base_and fs)) × (f ≡ 2 * b + 1) × R fs ls rs × IsPart forms ls x × IsPart forms rs y

  -- each split is a fact of the list
  split_listed : ((fs ls rs : List ℕ) → R fs ls rs → Contains (sides fs) (record { left = ls; right = rs })) → (f x y : ℕ) → IsSplitBy f x y → Contains (of_bases sides forms 0 forms.bases) (record { form = f; left = x; right = y })
  split_listed listed f x y (b, fs, ls, rs, e, s, cut, p, q) =
      let z : 2 * (0 + b) + 1 ≡ f = omega arith in
      in_of_bases sides forms 0 forms.bases b fs (record { form = f; left = x; right = y }) e
      (subst (λ k. Contains (of_cuts forms k (sides fs)) (record { form = f; left = x; right = y })) (sym z) (in_of_cuts forms f (sides fs) (record { left = ls; right = rs }) x y (listed fs ls rs cut) p q))

  abbrev IsFact : NandFact → Type 0
  IsFact F = IsSplitBy F.form F.left F.right

  of_cuts_are : (b : ℕ) (fs : List ℕ) → slice_get forms.bases b ≡ Some (base_and fs) → (cs : List Cut) → AllByRecursion (λ c. R fs c.left c.right) cs → AllByRecursion IsFact (of_cuts forms (2 * b + 1) cs)
  of_cuts_are b fs e [] a = tt
  of_cuts_are b fs e (c ∷ cs) (cut, a) =
      all_append IsFact (with_parts (2 * b + 1) (parts_of forms c.left) (parts_of forms c.right)) (of_cuts forms (2 * b + 1) cs)
      (with_parts_are IsFact (2 * b + 1) (IsPart forms c.left) (IsPart forms c.right) (parts_of forms c.left) (parts_of forms c.right) (λ x y p q. (b, fs, c.left, c.right, e, refl, cut, p, q)) (parts_are forms c.left) (parts_are forms c.right))
      (of_cuts_are b fs e cs a)

  module _ (are : (fs : List ℕ) → AllByRecursion (λ c. R fs c.left c.right) (sides fs)) where
    of_bases_are : (first : ℕ) (bases : List Base) → ((b : ℕ) (base : Base) → slice_get bases b ≡ Some base → slice_get forms.bases (first + b) ≡ Some base) → AllByRecursion IsFact (of_bases sides forms first bases)
    of_bases_are first [] at = tt
    of_bases_are first (base_true ∷ bases) at = of_bases_are (suc first) bases (λ b d e. let s : suc first + b ≡ first + suc b = omega arith in ap (slice_get forms.bases) s ∙ at (suc b) d e)
    of_bases_are first (base_input i ∷ bases) at = of_bases_are (suc first) bases (λ b d e. let s : suc first + b ≡ first + suc b = omega arith in ap (slice_get forms.bases) s ∙ at (suc b) d e)
    of_bases_are first (base_and fs ∷ bases) at =
        let z : first ≡ first + 0 = omega arith in
        all_append IsFact (of_cuts forms (2 * first + 1) (sides fs)) (of_bases sides forms (suc first) bases)
        (of_cuts_are first fs (ap (slice_get forms.bases) z ∙ at 0 (base_and fs) refl) (sides fs) (are fs))
        (of_bases_are (suc first) bases (λ b d e. let s : suc first + b ≡ first + suc b = omega arith in ap (slice_get forms.bases) s ∙ at (suc b) d e))

    -- each fact of the list is a split
    split_is : (F : NandFact) → Contains (of_bases sides forms 0 forms.bases) F → IsFact F
    split_is F c =
        all_contains IsFact (of_bases sides forms 0 forms.bases) F (of_bases_are 0 forms.bases (λ b d e. let z : 0 + b ≡ b = omega arith in ap (slice_get forms.bases) z ∙ e)) c

twice_listed : (n f : ℕ) → f < n → Contains (twice_facts n) (record { form = f; left = flip f; right = flip f })
twice_listed zero f lt = absurd (omega arith)
twice_listed (suc n) f lt = by_place (eq-or-lt_of_le {n = f} {m = n} (omega arith)) (twice_listed n f)
  where
    by_place : (f ≡ n) ⊎ (f < n) → (f < n → Contains (twice_facts n) (record { form = f; left = flip f; right = flip f })) → Contains (twice_facts (suc n)) (record { form = f; left = flip f; right = flip f })
    by_place (inl s) ih = (0, omega arith, ap (λ k. record { form = k; left = flip k; right = flip k }) (sym s))
    by_place (inr l) ih = let (j, m, h) = ih l in (suc j, omega arith, h)

twices_are : (forms : NumberedForms) (n : ℕ) → n ≤ 2 * length forms.bases → AllByRecursion (λ F. IsTwice forms F.form F.left F.right) (twice_facts n)
twices_are forms zero le = tt
twices_are forms (suc n) le = ((omega arith, refl, refl), twices_are forms n (omega arith))

module _ (forms : NumberedForms) where
  abbrev cut_facts : List NandFact
  cut_facts = of_bases cuts forms 0 forms.bases

  abbrev overlap_facts : List NandFact
  overlap_facts = of_bases overlaps forms 0 forms.bases

  abbrev all_twice : List NandFact
  all_twice = twice_facts (2 * length forms.bases)

  abbrev fact : ℕ → ℕ → ℕ → NandFact
  fact f x y = record { form = f; left = x; right = y }

  cut_in : (f x y : ℕ) → IsCutOf forms f x y → Contains cut_facts (fact f x y)
  cut_in f x y c = split_listed IsCut cuts forms (λ fs ls rs h. cut_listed h) f x y c

  overlap_in : (f x y : ℕ) → IsCoveringOf forms f x y → Contains overlap_facts (fact f x y)
  overlap_in f x y (b, fs, ls, rs, e, s, c, ne, p, q) =
      split_listed IsOverlap overlaps forms (λ fs ls rs (h, ne). unequal_listed (coverings fs) (record { left = ls; right = rs }) ne (covering_listed h)) f x y (b, fs, ls, rs, e, s, (c, ne), p, q)

  twice_in : (f x y : ℕ) → IsTwice forms f x y → Contains all_twice (fact f x y)
  twice_in f x y (occ, s, t) =
      let two = twice_listed (2 * length forms.bases) f (omega arith) in
      subst (λ k. Contains all_twice (fact f k y)) (sym s) (subst (λ k. Contains all_twice (fact f (flip f) k)) (sym t) two)

  -- each split of the mode is a fact of the list, and each fact is a split
  pub fact_listed : (mode : Mode) (f x y : ℕ) → IsSplitOf mode forms f x y → Contains (nand_facts mode forms) (fact f x y)
  fact_listed plain f x y c = cut_in f x y c
  fact_listed idempotent f x y (inl c) = Contains-append_left cut_facts (overlap_facts ++ all_twice) (fact f x y) (cut_in f x y c)
  fact_listed idempotent f x y (inr (inl c)) = Contains-append_right cut_facts (overlap_facts ++ all_twice) (fact f x y) (Contains-append_left overlap_facts all_twice (fact f x y) (overlap_in f x y c))
  fact_listed idempotent f x y (inr (inr c)) = Contains-append_right cut_facts (overlap_facts ++ all_twice) (fact f x y) (Contains-append_right overlap_facts all_twice (fact f x y) (twice_in f x y c))

  pub fact_is : (mode : Mode) (F : NandFact) → Contains (nand_facts mode forms) F → IsSplitOf mode forms F.form F.left F.right
  fact_is plain F c = split_is IsCut cuts forms cuts_are F c
  fact_is idempotent F c = by_list (Contains-append_cases cut_facts (overlap_facts ++ all_twice) F c)
    where
      by_rest : Contains overlap_facts F ⊎ Contains all_twice F → IsSplitOf idempotent forms F.form F.left F.right
      by_rest (inl c) =
          let (b, fs, ls, rs, e, s, (h, ne), p, q) = split_is IsOverlap overlaps forms (λ fs. unequal_are fs (coverings fs) (coverings_are fs)) F c in
          inr (inl (b, fs, ls, rs, e, s, h, ne, p, q))
      by_rest (inr c) = inr (inr (all_contains (λ G. IsTwice forms G.form G.left G.right) all_twice F (twices_are forms (2 * length forms.bases) (omega arith)) c))

      by_list : Contains cut_facts F ⊎ Contains (overlap_facts ++ all_twice) F → IsSplitOf idempotent forms F.form F.left F.right
      by_list (inl c) = inl (split_is IsCut cuts forms cuts_are F c)
      by_list (inr c) = by_rest (Contains-append_cases overlap_facts all_twice F c)
