-- Names once.
use Rattle.std.proofs.Common.{ℕ, ◌≡◌, Bool, true, false, not, ◌||◌, cond, List, [], ◌∷◌, ◌++◌, length, take, filter, refl, ap, sym, ◌∙◌, subst, append_assoc, append-nil, length-append, ◌≤◌, arith}
use Rattle.std.specs.List.{list_any, flat_map, IsDistinct, AllByRecursion}
use Rattle.std.proofs.Math.Seq.{take-append_seam}
use Rattle.lw_pool.specs.declared.latch.Latch.{Latch}
use Rattle.std.specs.Str.{bytes_eq}
use Rattle.std.specs.Cmp.Lexicographic.{bytes_decides}
use Rattle.std.proofs.lemmas.List.Elements.{filter-append}
use Rattle.std.proofs.lemmas.Map.Keys.{IsDistinct-cons, IsDistinct-tail, IsDistinct-head}
use Rattle.lw_facts.proofs.Lists.{bytes_eq_turned}
use Rattle.indexmap.specs.IndexSet.{insert_key, insert_all}
use Rattle.lw_frame.specs.Frames.{each_once, read_by, root_names}

abbrev pub is_among : List (List ℕ) → List ℕ → Bool
is_among names name = list_any (bytes_eq name) names

among-filter : (q : List ℕ → Bool) (name : List ℕ) (names : List (List ℕ)) → q name ≡ true → ((other : List ℕ) → bytes_eq name other ≡ true → q other ≡ q name) → is_among (filter q names) name ≡ is_among names name
among-filter q name [] keeps same = refl
among-filter q name (other ∷ names) keeps same = by_case (bytes_eq name other) refl (q other) refl (among-filter q name names keeps same)
  where
    by_case : (b : Bool) → bytes_eq name other ≡ b → (t : Bool) → q other ≡ t → is_among (filter q names) name ≡ is_among names name → is_among (cond (q other) (other ∷ filter q names) (filter q names)) name ≡ (bytes_eq name other || is_among names name)
    by_case b e true f others = ap (λ u. is_among (cond u (other ∷ filter q names) (filter q names)) name) f ∙ ap (λ u. bytes_eq name other || u) others
    by_case true e false f others = let wrong : false ≡ true = sym f ∙ (same other e ∙ keeps) in cc
    by_case false e false f others =
        ap (λ u. is_among (cond u (other ∷ filter q names) (filter q names)) name) f ∙ (others ∙ sym (ap (λ u. u || is_among names name) e))

once-push : (names : List (List ℕ)) (name : List ℕ) → each_once (names ++ name ∷ []) ≡ insert_key bytes_eq (each_once names) name
once-push [] name = refl
once-push (first ∷ names) name =
    ap (λ r. first ∷ filter (λ other. not (bytes_eq first other)) r) (once-push names name)
    ∙ by_case (is_among (each_once names) name) refl (bytes_eq name first) refl
  where
    kept-among : not (bytes_eq first name) ≡ true → is_among (filter (λ other. not (bytes_eq first other)) (each_once names)) name ≡ is_among (each_once names) name
    kept-among stays =
        among-filter (λ other. not (bytes_eq first other)) name (each_once names) stays
        (λ other g. let is : name ≡ other = (bytes_decides name other).0 g in ap (λ n. not (bytes_eq first n)) (sym is))

    by_case : (b : Bool) → is_among (each_once names) name ≡ b → (t : Bool) → bytes_eq name first ≡ t →
        first ∷ filter (λ other. not (bytes_eq first other)) (insert_key bytes_eq (each_once names) name)
        ≡ cond (bytes_eq name first || is_among (filter (λ other. not (bytes_eq first other)) (each_once names)) name) (first ∷ filter (λ other. not (bytes_eq first other)) (each_once names)) (first ∷ filter (λ other. not (bytes_eq first other)) (each_once names) ++ name ∷ [])
    by_case b e true f =
        let gone : not (bytes_eq first name) ≡ false = ap not (bytes_eq_turned first name ∙ f) in
        ap (λ r. first ∷ r) (at_first b gone)
        ∙ sym (ap (λ u. cond (u || is_among (filter (λ other. not (bytes_eq first other)) (each_once names)) name) (first ∷ filter (λ other. not (bytes_eq first other)) (each_once names)) (first ∷ filter (λ other. not (bytes_eq first other)) (each_once names) ++ name ∷ [])) f)
      where
        at_first : (u : Bool) → not (bytes_eq first name) ≡ false → filter (λ other. not (bytes_eq first other)) (insert_key bytes_eq (each_once names) name) ≡ filter (λ other. not (bytes_eq first other)) (each_once names)
        at_first u gone = by_key (list_any (bytes_eq name) (each_once names))
          where
            by_key : (k : Bool) → filter (λ other. not (bytes_eq first other)) (cond k (each_once names) (each_once names ++ name ∷ [])) ≡ filter (λ other. not (bytes_eq first other)) (each_once names)
            by_key true = refl
            by_key false =
                filter-append (λ other. not (bytes_eq first other)) (each_once names) (name ∷ [])
                ∙ (ap (λ u. filter (λ other. not (bytes_eq first other)) (each_once names) ++ cond u (name ∷ []) []) gone ∙ append-nil (filter (λ other. not (bytes_eq first other)) (each_once names)))
    by_case true e false f =
        let stays : not (bytes_eq first name) ≡ true = ap not (bytes_eq_turned first name ∙ f) in
        let among : is_among (filter (λ other. not (bytes_eq first other)) (each_once names)) name ≡ true = kept-among stays ∙ e in
        ap (λ k. first ∷ filter (λ other. not (bytes_eq first other)) (cond k (each_once names) (each_once names ++ name ∷ []))) e
        ∙ sym (ap (λ u. cond u (first ∷ filter (λ other. not (bytes_eq first other)) (each_once names)) (first ∷ filter (λ other. not (bytes_eq first other)) (each_once names) ++ name ∷ [])) (ap (λ u. u || is_among (filter (λ other. not (bytes_eq first other)) (each_once names)) name) f ∙ among))
    by_case false e false f =
        let stays : not (bytes_eq first name) ≡ true = ap not (bytes_eq_turned first name ∙ f) in
        let among : is_among (filter (λ other. not (bytes_eq first other)) (each_once names)) name ≡ false = kept-among stays ∙ e in
        ap (λ k. first ∷ filter (λ other. not (bytes_eq first other)) (cond k (each_once names) (each_once names ++ name ∷ []))) e
        ∙ (ap (λ r. first ∷ r) (filter-append (λ other. not (bytes_eq first other)) (each_once names) (name ∷ []) ∙ ap (λ u. filter (λ other. not (bytes_eq first other)) (each_once names) ++ cond u (name ∷ []) []) stays)
        ∙ sym (ap (λ u. cond u (first ∷ filter (λ other. not (bytes_eq first other)) (each_once names)) (first ∷ filter (λ other. not (bytes_eq first other)) (each_once names) ++ name ∷ [])) (ap (λ u. u || is_among (filter (λ other. not (bytes_eq first other)) (each_once names)) name) f ∙ among)))

-- the names once, and then others
pub once-more : (names others : List (List ℕ)) → each_once (names ++ others) ≡ insert_all bytes_eq (each_once names) others
once-more names [] = ap each_once (append-nil names)
once-more names (name ∷ others) =
    ap each_once (sym (append_assoc names (name ∷ []) others))
    ∙ (once-more (names ++ name ∷ []) others ∙ ap (λ ks. insert_all bytes_eq ks others) (once-push names name))

-- Names once differ.

all-filter : (P : List ℕ → Type 0) (p : List ℕ → Bool) (names : List (List ℕ)) → AllByRecursion P names → AllByRecursion P (filter p names)
all-filter P p [] h = tt
all-filter P p (name ∷ names) h = by_case (p name) (all-filter P p names h.1)
  where
    by_case : (b : Bool) → AllByRecursion P (filter p names) → AllByRecursion P (cond b (name ∷ filter p names) (filter p names))
    by_case true others = (h.0, others)
    by_case false others = others

distinct-filter : (p : List ℕ → Bool) (names : List (List ℕ)) → IsDistinct bytes_eq names → IsDistinct bytes_eq (filter p names)
distinct-filter p [] h = h
distinct-filter p (name ∷ names) h = by_case (p name) (distinct-filter p names (IsDistinct-tail bytes_eq name names h))
  where
    by_case : (b : Bool) → IsDistinct bytes_eq (filter p names) → IsDistinct bytes_eq (cond b (name ∷ filter p names) (filter p names))
    by_case true others = IsDistinct-cons bytes_eq name (filter p names) (all-filter (λ other. bytes_eq name other ≡ false) p names (IsDistinct-head bytes_eq name names h)) others
    by_case false others = others

others-differ : (name : List ℕ) (names : List (List ℕ)) → AllByRecursion (λ other. bytes_eq name other ≡ false) (filter (λ other. not (bytes_eq name other)) names)
others-differ name [] = tt
others-differ name (other ∷ names) = by_case (bytes_eq name other) refl (others-differ name names)
  where
    by_case : (b : Bool) → bytes_eq name other ≡ b → AllByRecursion (λ o. bytes_eq name o ≡ false) (filter (λ o. not (bytes_eq name o)) names) →
        AllByRecursion (λ o. bytes_eq name o ≡ false) (cond (not (bytes_eq name other)) (other ∷ filter (λ o. not (bytes_eq name o)) names) (filter (λ o. not (bytes_eq name o)) names))
    by_case true e others = subst (λ (c : Bool). AllByRecursion (λ o. bytes_eq name o ≡ false) (cond (not c) (other ∷ filter (λ o. not (bytes_eq name o)) names) (filter (λ o. not (bytes_eq name o)) names))) (sym e) others
    by_case false e others = subst (λ (c : Bool). AllByRecursion (λ o. bytes_eq name o ≡ false) (cond (not c) (other ∷ filter (λ o. not (bytes_eq name o)) names) (filter (λ o. not (bytes_eq name o)) names))) (sym e) (e, others)

pub none-distinct : IsDistinct bytes_eq []
unfolding IsDistinct
none-distinct = tt

pub distinct-once : (names : List (List ℕ)) → IsDistinct bytes_eq (each_once names)
distinct-once [] = none-distinct
distinct-once (name ∷ names) =
    IsDistinct-cons bytes_eq name (filter (λ other. not (bytes_eq name other)) (each_once names)) (others-differ name (each_once names))
    (distinct-filter (λ other. not (bytes_eq name other)) (each_once names) (distinct-once names))

-- names that differ stand once

keeps-all : (name : List ℕ) (names : List (List ℕ)) → AllByRecursion (λ o. bytes_eq name o ≡ false) names → filter (λ other. not (bytes_eq name other)) names ≡ names
keeps-all name [] all = refl
keeps-all name (other ∷ names) all =
    ap (λ b. cond (not b) (other ∷ filter (λ o. not (bytes_eq name o)) names) (filter (λ o. not (bytes_eq name o)) names)) all.0
    ∙ ap (λ r. other ∷ r) (keeps-all name names all.1)

pub once-distinct : (names : List (List ℕ)) → IsDistinct bytes_eq names → each_once names ≡ names
once-distinct [] distinct = refl
once-distinct (name ∷ names) distinct =
    ap (λ r. name ∷ filter (λ other. not (bytes_eq name other)) r) (once-distinct names (IsDistinct-tail bytes_eq name names distinct))
    ∙ ap (λ r. name ∷ r) (keeps-all name names (IsDistinct-head bytes_eq name names distinct))

-- names once are once
pub once-twice : (names others : List (List ℕ)) → each_once (each_once names ++ others) ≡ each_once (names ++ others)
once-twice names others =
    once-more (each_once names) others
    ∙ (ap (λ ks. insert_all bytes_eq ks others) (once-distinct (each_once names) (distinct-once names)) ∙ sym (once-more names others))

-- names that differ, and then others
pub once-behind : (names others : List (List ℕ)) → IsDistinct bytes_eq names → insert_all bytes_eq names others ≡ each_once (names ++ others)
once-behind names others distinct = ap (λ ks. insert_all bytes_eq ks others) (sym (once-distinct names distinct)) ∙ sym (once-more names others)

-- what is added stands behind
record StandsBehind (names all : List (List ℕ)) : Type 0 where
  pub rest : List (List ℕ)
  pub is : all ≡ names ++ rest

insert-behind : (names others : List (List ℕ)) → StandsBehind names (insert_all bytes_eq names others)
insert-behind names [] = record { rest = []; is = sym (append-nil names) }
insert-behind names (name ∷ others) = by_case (list_any (bytes_eq name) names) (insert-behind names others) (insert-behind (names ++ name ∷ []) others)
  where
    by_case : (b : Bool) → StandsBehind names (insert_all bytes_eq names others) → StandsBehind (names ++ name ∷ []) (insert_all bytes_eq (names ++ name ∷ []) others) → StandsBehind names (insert_all bytes_eq (cond b names (names ++ name ∷ [])) others)
    by_case true there new = there
    by_case false there new = record { rest = name ∷ new.rest; is = new.is ∙ append_assoc names (name ∷ []) new.rest }

-- Of the roots, those of some outputs are the first.

once-behind-once : (names others : List (List ℕ)) → StandsBehind (each_once names) (each_once (names ++ others))
once-behind-once names others = subst (StandsBehind (each_once names)) (sym (once-more names others)) (insert-behind (each_once names) others)

pub outputs_first : (outputs : List (List ℕ)) (latches : List Latch) → take (length (each_once outputs)) (root_names outputs latches) ≡ each_once outputs
outputs_first outputs latches =
    let h = once-behind-once outputs (flat_map read_by latches) in
    ap (take (length (each_once outputs))) h.is ∙ take-append_seam (each_once outputs) h.rest

pub outputs_within : (outputs : List (List ℕ)) (latches : List Latch) → length (each_once outputs) ≤ length (root_names outputs latches)
outputs_within outputs latches =
    let h = once-behind-once outputs (flat_map read_by latches) in
    omega (arith, ap length h.is, length-append (each_once outputs) h.rest)

-- the roots are those of their own first ones
pub roots_again : (outputs : List (List ℕ)) (latches : List Latch) → root_names outputs latches ≡ root_names (take (length (each_once outputs)) (root_names outputs latches)) latches
roots_again outputs latches =
    sym (ap (λ names. root_names names latches) (outputs_first outputs latches) ∙ once-twice outputs (flat_map read_by latches))

pub roots_differ : (outputs : List (List ℕ)) (latches : List Latch) → IsDistinct bytes_eq (root_names outputs latches)
roots_differ outputs latches = distinct-once (outputs ++ flat_map read_by latches)
