-- Forms whose inputs are renamed: what is made of them is what is made of the forms, renamed.
use Rattle.std.proofs.Common.{ℕ, zero, suc, ◌+◌, ◌==◌, ◌≡◌, ◌||◌, Bool, true, false, not, cond, leb, Option, Some, None, List, [], ◌∷◌, length, map, take, drop, filter, slice_index_or, refl, ap, ap₂, sym, ◌∙◌, eqb-true}
use Rattle.std.specs.List.{list_any}
use Rattle.std.proofs.lemmas.List.{drop-map, length-map, take-map}
use Rattle.lw_laws.specs.Forms.{Form, FormList, and_of, complement, conjunction, conjunction_within, disjunction, form_list, has_clash, is_among, items, joined, joined_many, keep, kept, runs, runs_within, same_form, same_forms, without}
use Rattle.lw_laws.specs.Forms.Form.{var_form, true_form, not_form, and_form}
use Rattle.lw_laws.specs.Forms.FormList.{no_forms, more_forms}
use Rattle.lw_laws.specs.Signals.{Literal, cleared, factored, factored_by, factored_within, has, literal_count, literal_form, literals, shared_literal, signed, sum_of_products}
use Rattle.lw_laws.proofs.Facts.{eq_same}

module _ (ρ : ℕ → ℕ) where
  abbrev mutual
    pub renamed : Form → Form
    renamed (var_form i) = var_form (ρ i)
    renamed true_form = true_form
    renamed (not_form f) = not_form (renamed f)
    renamed (and_form fs) = and_form (renamed_list fs)

    pub renamed_list : FormList → FormList
    renamed_list no_forms = no_forms
    renamed_list (more_forms f fs) = more_forms (renamed f) (renamed_list fs)

  pub complement_renamed : (f : Form) → complement (renamed f) ≡ renamed (complement f)
  complement_renamed (var_form i) = refl
  complement_renamed true_form = refl
  complement_renamed (not_form f) = refl
  complement_renamed (and_form fs) = refl

  pub items_renamed : (fs : FormList) → items (renamed_list fs) ≡ map renamed (items fs)
  items_renamed no_forms = refl
  items_renamed (more_forms f fs) = ap (λ (xs : List Form). renamed f ∷ xs) (items_renamed fs)

  list_renamed : (fs : List Form) → form_list (map renamed fs) ≡ renamed_list (form_list fs)
  list_renamed [] = refl
  list_renamed (f ∷ fs) = ap (λ (xs : FormList). more_forms (renamed f) xs) (list_renamed fs)

  pub and_renamed : (fs : List Form) → and_of (map renamed fs) ≡ renamed (and_of fs)
  and_renamed fs = ap and_form (list_renamed fs)

  module _ (one : (i j : ℕ) → ρ i ≡ ρ j → i ≡ j) where
    same_var : (i j : ℕ) → (ρ i == ρ j) ≡ (i == j)
    same_var i j = by (ρ i == ρ j) (i == j) refl refl
      where
        by : (a b : Bool) → (ρ i == ρ j) ≡ a → (i == j) ≡ b → (ρ i == ρ j) ≡ (i == j)
        by true true p q = p ∙ sym q
        by false false p q = p ∙ sym q
        by true false p q =
            let same : i ≡ j = one i j (eqb-true (ρ i) (ρ j) p) in
            let is : (i == j) ≡ true = ap (λ k. i == k) (sym same) ∙ eq_same i in
            cc
        by false true p q =
            let same : i ≡ j = eqb-true i j q in
            let is : (ρ i == ρ j) ≡ true = ap (λ k. ρ i == ρ k) (sym same) ∙ eq_same (ρ i) in
            cc

    mutual
      pub same_renamed : (f h : Form) → same_form (renamed f) (renamed h) ≡ same_form f h
      same_renamed (var_form i) (var_form j) = same_var i j
      same_renamed (not_form f) (not_form h) = same_renamed f h
      same_renamed (and_form fs) (and_form hs) = same_renamed_list fs hs
      same_renamed (var_form i) true_form = refl
      same_renamed (var_form i) (not_form h) = refl
      same_renamed (var_form i) (and_form hs) = refl
      same_renamed true_form (var_form j) = refl
      same_renamed true_form true_form = refl
      same_renamed true_form (not_form h) = refl
      same_renamed true_form (and_form hs) = refl
      same_renamed (not_form f) (var_form j) = refl
      same_renamed (not_form f) true_form = refl
      same_renamed (not_form f) (and_form hs) = refl
      same_renamed (and_form fs) (var_form j) = refl
      same_renamed (and_form fs) true_form = refl
      same_renamed (and_form fs) (not_form h) = refl

      same_renamed_list : (fs hs : FormList) → same_forms (renamed_list fs) (renamed_list hs) ≡ same_forms fs hs
      same_renamed_list (more_forms f fs) (more_forms h hs) = cc (same_renamed f h, same_renamed_list fs hs)
      same_renamed_list no_forms no_forms = refl
      same_renamed_list no_forms (more_forms h hs) = refl
      same_renamed_list (more_forms f fs) no_forms = refl

    among_renamed : (f : Form) (fs : List Form) → is_among (renamed f) (map renamed fs) ≡ is_among f fs
    among_renamed f [] = refl
    among_renamed f (h ∷ fs) = ap₂ (λ (a b : Bool). a || b) (same_renamed f h) (among_renamed f fs)

    without_renamed : (f : Form) (hs : List Form) → without (renamed f) (map renamed hs) ≡ map renamed (without f hs)
    without_renamed f [] = refl
    without_renamed f (h ∷ hs) =
        ap (λ (b : Bool). cond b (without (renamed f) (map renamed hs)) (renamed h ∷ without (renamed f) (map renamed hs))) (same_renamed f h) ∙ by (same_form f h) (without_renamed f hs)
      where
        by : (b : Bool) → without (renamed f) (map renamed hs) ≡ map renamed (without f hs) → cond b (without (renamed f) (map renamed hs)) (renamed h ∷ without (renamed f) (map renamed hs)) ≡ map renamed (cond b (without f hs) (h ∷ without f hs))
        by true ih = ih
        by false ih = ap (λ (xs : List Form). renamed h ∷ xs) ih

    keep_renamed : (f : Form) (fs : List Form) → keep (renamed f) (map renamed fs) ≡ map renamed (keep f fs)
    keep_renamed f fs =
        ap (λ (b : Bool). cond b (map renamed fs) (renamed f ∷ without (renamed f) (map renamed fs))) (same_renamed f true_form) ∙ by (same_form f true_form)
      where
        by : (b : Bool) → cond b (map renamed fs) (renamed f ∷ without (renamed f) (map renamed fs)) ≡ map renamed (cond b fs (f ∷ without f fs))
        by true = refl
        by false = ap (λ (xs : List Form). renamed f ∷ xs) (without_renamed f fs)

    kept_renamed : (fs : List Form) → kept (map renamed fs) ≡ map renamed (kept fs)
    kept_renamed [] = refl
    kept_renamed (f ∷ fs) = ap (keep (renamed f)) (kept_renamed fs) ∙ keep_renamed f (kept fs)

    clashes : (gs fs : List Form) → list_any (λ f. is_among (complement f) (map renamed fs)) (map renamed gs) ≡ list_any (λ f. is_among (complement f) fs) gs
    clashes [] fs = refl
    clashes (g ∷ gs) fs =
        ap₂ (λ (a b : Bool). a || b) (ap (λ (c : Form). is_among c (map renamed fs)) (complement_renamed g) ∙ among_renamed (complement g) fs) (clashes gs fs)

    clash_renamed : (fs : List Form) → has_clash (map renamed fs) ≡ has_clash fs
    clash_renamed fs = ap₂ (λ (a b : Bool). a || b) (among_renamed (not_form true_form) fs) (clashes fs fs)

    runs_renamed_within : (n width : ℕ) (fs : List Form) → runs_within n width (map renamed fs) ≡ map (map renamed) (runs_within n width fs)
    runs_renamed_within zero width fs = refl
    runs_renamed_within (suc n) width fs =
        ap (λ (k : ℕ). elim (leb k width) as (λ (t : Bool). List (List Form)) [ true ↦ map renamed fs ∷ [] | false ↦ take width (map renamed fs) ∷ runs_within n width (drop width (map renamed fs)) ]) (length-map fs renamed)
        ∙ by (leb (length fs) width) (ap (runs_within n width) (drop-map renamed width fs) ∙ runs_renamed_within n width (drop width fs))
      where
        by : (b : Bool) → runs_within n width (drop width (map renamed fs)) ≡ map (map renamed) (runs_within n width (drop width fs)) → (elim b as (λ (t : Bool). List (List Form)) [ true ↦ map renamed fs ∷ [] | false ↦ take width (map renamed fs) ∷ runs_within n width (drop width (map renamed fs)) ]) ≡ map (map renamed) (elim b as (λ (t : Bool). List (List Form)) [ true ↦ fs ∷ [] | false ↦ take width fs ∷ runs_within n width (drop width fs) ])
        by true rest = refl
        by false rest = ap₂ (λ (x : List Form) (xs : List (List Form)). x ∷ xs) (take-map renamed width fs) rest

    runs_renamed : (width : ℕ) (fs : List Form) → runs width (map renamed fs) ≡ map (map renamed) (runs width fs)
    runs_renamed width fs = ap (λ (k : ℕ). runs_within k width (map renamed fs)) (length-map fs renamed) ∙ runs_renamed_within (length fs) width fs

    module _ (again : List Form → Form) (ih : (hs : List Form) → again (map renamed hs) ≡ renamed (again hs)) (width : ℕ) where
      again_renamed : (rs : List (List Form)) → map again (map (map renamed) rs) ≡ map renamed (map again rs)
      again_renamed [] = refl
      again_renamed (r ∷ rs) = ap₂ (λ (x : Form) (xs : List Form). x ∷ xs) (ih r) (again_renamed rs)

      many_renamed : (fs : List Form) (b : Bool) → joined_many again width (map renamed fs) b ≡ renamed (joined_many again width fs b)
      many_renamed fs true = and_renamed fs
      many_renamed fs false =
          ap (λ (rs : List (List Form)). again (map again rs)) (runs_renamed width fs) ∙ (ap again (again_renamed (runs width fs)) ∙ ih (map again (runs width fs)))

      joined_renamed : (fs : List Form) (b : Bool) → joined again width (map renamed fs) b ≡ renamed (joined again width fs b)
      joined_renamed fs true = refl
      joined_renamed [] false = refl
      joined_renamed (f ∷ []) false = refl
      joined_renamed (f ∷ h ∷ fs) false =
          ap (λ (k : ℕ). joined_many again width (map renamed (f ∷ h ∷ fs)) (leb k width)) (length-map (f ∷ h ∷ fs) renamed)
          ∙ many_renamed (f ∷ h ∷ fs) (leb (length (f ∷ h ∷ fs)) width)

    conj_within : (n width : ℕ) (fs : List Form) → conjunction_within n width (map renamed fs) ≡ renamed (conjunction_within n width fs)
    conj_within zero width fs = and_renamed fs
    conj_within (suc n) width fs =
        ap₂ (λ (hs : List Form) (b : Bool). joined (λ gs. conjunction_within n width gs) width hs b) (kept_renamed fs) (ap has_clash (kept_renamed fs) ∙ clash_renamed (kept fs))
        ∙ joined_renamed (λ gs. conjunction_within n width gs) (λ gs. conj_within n width gs) width (kept fs) (has_clash (kept fs))

    pub conjunction_renamed : (width : ℕ) (fs : List Form) → conjunction width (map renamed fs) ≡ renamed (conjunction width fs)
    conjunction_renamed width fs = ap (λ (k : ℕ). conjunction_within (suc k) width (map renamed fs)) (length-map fs renamed) ∙ conj_within (suc (length fs)) width fs

    complements_renamed : (fs : List Form) → map complement (map renamed fs) ≡ map renamed (map complement fs)
    complements_renamed [] = refl
    complements_renamed (f ∷ fs) = ap₂ (λ (x : Form) (xs : List Form). x ∷ xs) (complement_renamed f) (complements_renamed fs)

    disjunction_renamed : (width : ℕ) (fs : List Form) → disjunction width (map renamed fs) ≡ renamed (disjunction width fs)
    disjunction_renamed width fs =
        ap complement (ap (conjunction width) (complements_renamed fs) ∙ conjunction_renamed width (map complement fs)) ∙ complement_renamed (conjunction width (map complement fs))

    pub signed_renamed : (b : Bool) (f : Form) → signed b (renamed f) ≡ renamed (signed b f)
    signed_renamed true f = refl
    signed_renamed false f = complement_renamed f

    literals_renamed : (fs : List Form) (row : List (Option Bool)) → literals (map renamed fs) row ≡ map renamed (literals fs row)
    literals_renamed (f ∷ fs) (Some sign ∷ row) = ap₂ (λ (x : Form) (xs : List Form). x ∷ xs) (signed_renamed sign f) (literals_renamed fs row)
    literals_renamed (f ∷ fs) (None ∷ row) = literals_renamed fs row
    literals_renamed [] row = refl
    literals_renamed (f ∷ fs) [] = refl

    products_renamed : (width : ℕ) (fs : List Form) (rows : List (List (Option Bool))) → map (λ row. conjunction width (literals (map renamed fs) row)) rows ≡ map renamed (map (λ row. conjunction width (literals fs row)) rows)
    products_renamed width fs [] = refl
    products_renamed width fs (row ∷ rows) =
        ap₂ (λ (x : Form) (xs : List Form). x ∷ xs) (ap (conjunction width) (literals_renamed fs row) ∙ conjunction_renamed width (literals fs row)) (products_renamed width fs rows)

    pub sum_renamed : (width : ℕ) (fs : List Form) (rows : List (List (Option Bool))) → sum_of_products width (map renamed fs) rows ≡ renamed (sum_of_products width fs rows)
    sum_renamed width fs rows = ap (disjunction width) (products_renamed width fs rows) ∙ disjunction_renamed width (map (λ row. conjunction width (literals fs row)) rows)

    index_renamed : (fs : List Form) (k : ℕ) → slice_index_or (map renamed fs) k true_form ≡ renamed (slice_index_or fs k true_form)
    index_renamed [] k = refl
    index_renamed (f ∷ fs) zero = refl
    index_renamed (f ∷ fs) (suc k) = index_renamed fs k

    literal_renamed : (fs : List Form) (l : Literal) → literal_form (map renamed fs) l ≡ renamed (literal_form fs l)
    literal_renamed fs l = ap (signed l.sign) (index_renamed fs l.column) ∙ signed_renamed l.sign (slice_index_or fs l.column true_form)

    count_renamed : (fs : List Form) (rows : List (List (Option Bool))) → literal_count (map renamed fs) rows ≡ literal_count fs rows
    count_renamed fs [] = refl
    count_renamed fs (row ∷ rows) =
        ap₂ (λ (a b : ℕ). a + b) (ap length (literals_renamed fs row) ∙ length-map (literals fs row) renamed) (count_renamed fs rows)

    module _ (width : ℕ) (fs : List Form) (again more : List (List (Option Bool)) → Form) (ih : (rows : List (List (Option Bool))) → more rows ≡ renamed (again rows)) where
      by_renamed : (rows : List (List (Option Bool))) (o : Option Literal) → factored_by more width (map renamed fs) rows o ≡ renamed (factored_by again width fs rows o)
      by_renamed rows None = sum_renamed width fs rows
      by_renamed rows (Some l) =
          let with' : literal_form (map renamed fs) l ∷ more (map (cleared l) (filter (has l) rows)) ∷ [] ≡ map renamed (literal_form fs l ∷ again (map (cleared l) (filter (has l) rows)) ∷ []) =
          ap₂ (λ (x y : Form). x ∷ y ∷ []) (literal_renamed fs l) (ih (map (cleared l) (filter (has l) rows))) in
          let left : conjunction width (literal_form (map renamed fs) l ∷ more (map (cleared l) (filter (has l) rows)) ∷ []) ≡ renamed (conjunction width (literal_form fs l ∷ again (map (cleared l) (filter (has l) rows)) ∷ [])) =
          ap (conjunction width) with' ∙ conjunction_renamed width (literal_form fs l ∷ again (map (cleared l) (filter (has l) rows)) ∷ []) in
          ap₂ (λ (x y : Form). disjunction width (x ∷ y ∷ [])) left (ih (filter (λ row. not (has l row)) rows))
          ∙ disjunction_renamed width (conjunction width (literal_form fs l ∷ again (map (cleared l) (filter (has l) rows)) ∷ []) ∷ again (filter (λ row. not (has l row)) rows) ∷ [])

    factored_renamed_within : (n width : ℕ) (fs : List Form) (rows : List (List (Option Bool))) → factored_within n width (map renamed fs) rows ≡ renamed (factored_within n width fs rows)
    factored_renamed_within zero width fs rows = sum_renamed width fs rows
    factored_renamed_within (suc n) width fs rows =
        ap (λ (k : ℕ). factored_by (λ rest. factored_within n width (map renamed fs) rest) width (map renamed fs) rows (shared_literal k rows)) (length-map fs renamed)
        ∙ by_renamed width fs (λ rest. factored_within n width fs rest) (λ rest. factored_within n width (map renamed fs) rest) (λ rest. factored_renamed_within n width fs rest) rows (shared_literal (length fs) rows)

    pub factored_renamed : (width : ℕ) (fs : List Form) (rows : List (List (Option Bool))) → factored width (map renamed fs) rows ≡ renamed (factored width fs rows)
    factored_renamed width fs rows =
        ap (λ (k : ℕ). factored_within (suc k) width (map renamed fs) rows) (count_renamed fs rows) ∙ factored_renamed_within (suc (literal_count fs rows)) width fs rows
