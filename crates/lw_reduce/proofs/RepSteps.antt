-- One change of representatives after others, and representatives that are made flat.
use Rattle.std.proofs.Common.{ℕ, suc, zero, ◌+◌, ◌*◌, ◌/◌, ◌%◌, ◌<◌, ◌≤◌, ◌≡◌, ◌≢◌, ◌==◌, ◌⊎◌, inl, inr, Bool, true, false, List, [], ◌∷◌, get_or, length, slice_index, slice_set, refl, ap, sym, ◌∙◌, subst, arith, get_or-set_same, if◌then◌else◌}
use native.Mathlib.Decide.{ℕ_discrete}
use Rattle.std.specs.List.{AllWithin, HoldsAt}
use Rattle.std.proofs.lemmas.List.Elements.{AllWithin-more}
use Rattle.lw_laws.specs.Flip.{flip}
use Rattle.lw_laws.specs.Families.{Equivalent}
use Rattle.lw_laws.specs.Families.Equivalent.{joined}
use Rattle.lw_laws.proofs.Flips.{class_of-flip}
use Rattle.lw_reduce.specs.declared.facts.Fact.{Fact}
use Rattle.lw_reduce.specs.declared.facts.Link.{Link}
use Rattle.lw_reduce.specs.Representatives.{family, in_phase, rep_of, IsFlat, IsFlatBelow, IsFound, AreRepresentatives, StayRepresentatives, Progresses, LinkAgrees, rep_weight}
use Rattle.lw_reduce.proofs.RepLemmas.{half-in_phase, set_valid, set_weight, elsewhere}

pub rep_of-flip : (reps : List ℕ) (f : ℕ) → rep_of reps (flip f) ≡ flip (rep_of reps f)
rep_of-flip reps f = class_of-flip (record { one = 0; leaves = []; forms = reps; pairs = [] }) f

pub rep_of-in_phase : (reps : List ℕ) (f x : ℕ) → rep_of reps (in_phase f x) ≡ in_phase f (rep_of reps x)
rep_of-in_phase reps f x = by_bit (f % 2 == 0)
  where
    by_bit : (b : Bool) → rep_of reps (if b then x else flip x) ≡ (if b then rep_of reps x else flip (rep_of reps x))
    by_bit true = refl
    by_bit false = rep_of-flip reps x

pub flat_from_below : (reps : List ℕ) (n : ℕ) → length reps ≤ n → IsFlatBelow reps n → IsFlat reps
flat_from_below reps n le below f lt =
    rep_of-in_phase reps f (slice_index reps (f / 2)) ∙ ap (in_phase f) (below (f / 2) (omega arith))

pub half_double : (b : ℕ) → 2 * b / 2 ≡ b
half_double b = omega arith

pub in_phase_double : (b c : ℕ) → in_phase (2 * b) c ≡ c
in_phase_double b c =
    let e : 2 * b % 2 ≡ 0 = omega arith in ap (λ r. if r == 0 then c else flip c) e

-- what holds of the element read holds at its place
pub holds_at : {X : Type 0} (P : X → Type 0) (xs : List X) (i : ℕ) (d : X) → i < length xs → P (get_or xs i d) → HoldsAt P xs i
holds_at P [] i d lt p = absurd (omega arith)
holds_at P (x ∷ xs) zero d lt p = λ e. p
holds_at P (x ∷ xs) (suc i) d lt p = holds_at P xs i d (omega arith) p

module _ (n : ℕ) (nands : List Fact) (links : List Link) where
  pub stay_none : (reps : List ℕ) → AreRepresentatives n nands links reps → StayRepresentatives n nands links reps reps
  stay_none reps valid = record { valid = valid; low = omega arith }

  pub stay_then : (old mid new : List ℕ) → StayRepresentatives n nands links old mid → StayRepresentatives (length mid) nands links mid new → StayRepresentatives n nands links old new
  stay_then old mid new p q =
      let s : StayRepresentatives n nands links mid new = subst (λ m. StayRepresentatives m nands links mid new) p.valid.count q in
      record { valid = s.valid; low = let l = p.low in let m = s.low in omega arith }

  pub stay_more : (old mid new : List ℕ) → StayRepresentatives n nands links old mid → StayRepresentatives n nands links mid new → StayRepresentatives n nands links old new
  stay_more old mid new p q =
      record { valid = q.valid; low = let l = p.low in let m = q.low in omega arith }

  pub progress_true : (old mid new : List ℕ) (b : Bool) → Progresses n nands links old mid b → Progresses (length mid) nands links mid new true → Progresses n nands links old new true
  progress_true old mid new b p q =
      let s : Progresses n nands links mid new true = subst (λ m. Progresses m nands links mid new true) p.valid.count q in
      let f = s.falls refl in
      let l = p.low in
      record { valid = s.valid; low = omega arith; falls = λ e. omega arith }

  pub progress_false : (old mid new : List ℕ) (b : Bool) → Progresses n nands links old mid b → Progresses (length mid) nands links mid new false → Progresses n nands links old new b
  progress_false old mid new b p q =
      let s : Progresses n nands links mid new false = subst (λ m. Progresses m nands links mid new false) p.valid.count q in
      record {
        valid = s.valid;
        low = let l = p.low in let m = s.low in omega arith;
        falls = λ e. let f = p.falls e in let m = s.low in omega arith;
      }

  -- a step of a loop that says whether some representatives changed
  pub step_true : (old mid new : List ℕ) (b b' r : Bool) → Progresses n nands links old mid b → Progresses (length mid) nands links mid new r → r ≡ true → b' ≡ true → Progresses n nands links old new b'
  step_true old mid new b b' r p q s e =
      subst (λ c. Progresses n nands links old new c) (sym e) (progress_true old mid new b p (subst (λ c. Progresses (length mid) nands links mid new c) s q))

  pub step_false : (old mid new : List ℕ) (b b' r : Bool) → Progresses n nands links old mid b → Progresses (length mid) nands links mid new r → r ≡ false → b' ≡ b → Progresses n nands links old new b'
  step_false old mid new b b' r p q s e =
      subst (λ c. Progresses n nands links old new c) (sym e) (progress_false old mid new b p (subst (λ c. Progresses (length mid) nands links mid new c) s q))

  -- a change of some that stayed such, and one more: something changed where it did in either
  pub either_progress : (old fl mid new : List ℕ) (b e r : Bool) → StayRepresentatives n nands links old fl → Progresses (length fl) nands links fl mid b → Progresses (length mid) nands links mid new e → (r ≡ true → (b ≡ true) ⊎ (e ≡ true)) → Progresses n nands links old new r
  either_progress old fl mid new b e r p q s either =
      let t : Progresses n nands links fl mid b = subst (λ m. Progresses m nands links fl mid b) p.valid.count q in
      let u : Progresses n nands links mid new e = subst (λ m. Progresses m nands links mid new e) t.valid.count s in
      record { valid = u.valid; low = let k = p.low in let l = t.low in let m = u.low in omega arith; falls = λ c. by_change t u (either c) }
    where
      by_change : Progresses n nands links fl mid b → Progresses n nands links mid new e → (b ≡ true) ⊎ (e ≡ true) → rep_weight new < rep_weight old
      by_change t u (inl c) = let f = t.falls c in let k = p.low in let m = u.low in omega arith
      by_change t u (inr c) = let f = u.falls c in let k = p.low in let m = t.low in omega arith

  pub agree_more : (old mid new : List ℕ) (i : ℕ) (d : Link) → IsFlat old → i < length links → (mid ≡ old) × AllWithin (LinkAgrees old) links 0 i → (IsFlat mid → (new ≡ mid) × LinkAgrees mid (get_or links i d)) → (new ≡ old) × AllWithin (LinkAgrees old) links 0 (i + 1)
  agree_more old mid new i d f lt (m, a) more =
      let (s, l) = more (subst IsFlat (sym m) f) in
      (s ∙ m, AllWithin-more (LinkAgrees old) links 0 i a (holds_at (LinkAgrees old) links i d lt (subst (λ ns. LinkAgrees ns (get_or links i d)) m l)))

  module _ (reps : List ℕ) (b : ℕ) (valid : AreRepresentatives n nands links reps) (lt : b < n) (below : IsFlatBelow reps b) where
    -- roots stay as they are
    pub flat_here : rep_of reps (slice_index reps b) ≡ slice_index reps b → IsFlatBelow reps (b + 1)
    flat_here e k l = by_place (ℕ_discrete k b)
      where
        by_place : Dec (k ≡ b) → rep_of reps (slice_index reps k) ≡ slice_index reps k
        by_place (yes s) = rw s e
        by_place (no ne) = below k (omega arith)

    module _ (new : List ℕ) (up top : ℕ) (up_is : up ≡ slice_index reps b) (top_is : top ≡ rep_of reps up) (ne : top ≢ up) (set : new ≡ slice_set reps b top) where
      rep_is : rep_of reps (2 * b) ≡ up
      rep_is = in_phase_double b (slice_index reps (2 * b / 2)) ∙ (ap (slice_index reps) (half_double b) ∙ sym up_is)

      up_lower : up / 2 < b
      up_lower = by_case (valid.lower b lt)
        where
          by_case : (slice_index reps b ≡ 2 * b) ⊎ (slice_index reps b / 2 < b) → up / 2 < b
          by_case (inl e) = absurd (ne (top_is ∙ (ap (rep_of reps) (up_is ∙ e) ∙ rep_is)))
          by_case (inr l) = rw up_is l

      top_low : top / 2 ≤ up / 2
      top_low = by_case (valid.lower (up / 2) (let l = up_lower in omega arith))
        where
          by_case : (slice_index reps (up / 2) ≡ 2 * (up / 2)) ⊎ (slice_index reps (up / 2) / 2 < up / 2) → top / 2 ≤ up / 2
          by_case (inl e) =
              let h : top / 2 ≡ slice_index reps (up / 2) / 2 = ap (λ m. m / 2) top_is ∙ half-in_phase up (slice_index reps (up / 2)) in
              omega arith
          by_case (inr l) =
              let h : top / 2 ≡ slice_index reps (up / 2) / 2 = ap (λ m. m / 2) top_is ∙ half-in_phase up (slice_index reps (up / 2)) in
              omega arith

      in_base : 2 * b / 2 < n
      in_base = rw half_double lt

      top_within : top / 2 < n
      top_within = let a = up_lower in let t = top_low in omega arith

      alike : Equivalent (family n nands links) (2 * b) top
      alike =
          let s = valid.sound (2 * b) in_base in
          let first = subst (λ m. Equivalent (family n nands links) (2 * b) m) rep_is s.1 in
          joined first (rw top_is (valid.sound up (subst (λ m. m / 2 < n) rep_is s.0)).1)

      lower : top / 2 < 2 * b / 2
      lower = let a = up_lower in let t = top_low in omega arith

      set_double : new ≡ slice_set reps (2 * b / 2) (in_phase (2 * b) top)
      set_double = rw (half_double b, in_phase_double b top) set

      pub flatten_stays : StayRepresentatives n nands links reps new
      flatten_stays = record {
        valid = set_valid n nands links reps new (2 * b) top valid in_base top_within alike lower set_double;
        low =
            let w = set_weight n nands links reps new (2 * b) top valid in_base top_within alike lower set_double in
            let t = top_low in
            let s : slice_index reps (2 * b / 2) ≡ up = ap (slice_index reps) (half_double b) ∙ sym up_is in
            let h : slice_index reps (2 * b / 2) / 2 ≡ up / 2 = ap (λ m. m / 2) s in
            omega arith;
      }

      other : (k : ℕ) → k ≢ b → slice_index new k ≡ slice_index reps k
      other k ne =
          elsewhere n nands links reps new (2 * b) top valid in_base top_within alike lower set_double k (rw half_double ne)

      at_base : slice_index new b ≡ top
      at_base =
          ap (λ ns. slice_index ns b) set ∙ get_or-set_same reps b top 0 (let k = valid.count in omega arith)

      -- a form of a lower base keeps its representative
      same_rep : (x : ℕ) → x / 2 < b → rep_of new x ≡ rep_of reps x
      same_rep x l = ap (in_phase x) (other (x / 2) (omega arith))

      rep_below : (k : ℕ) → k < b → slice_index reps k / 2 < b
      rep_below k l = by_case (valid.lower k (omega arith))
        where
          by_case : (slice_index reps k ≡ 2 * k) ⊎ (slice_index reps k / 2 < k) → slice_index reps k / 2 < b
          by_case (inl e) = let h = half_double k in rw e (omega arith)
          by_case (inr m) = omega arith

      top_own : rep_of reps top ≡ top
      top_own =
          ap (rep_of reps) top_is ∙ (rep_of-in_phase reps up (slice_index reps (up / 2)) ∙ (ap (in_phase up) (below (up / 2) up_lower) ∙ sym top_is))

      pub flat_more : IsFlatBelow new (b + 1)
      flat_more k l = by_place (ℕ_discrete k b)
        where
          by_place : Dec (k ≡ b) → rep_of new (slice_index new k) ≡ slice_index new k
          by_place (yes s) =
              let e : slice_index new k ≡ top = ap (slice_index new) s ∙ at_base in
              rw e (same_rep top (let a = up_lower in let t = top_low in omega arith) ∙ top_own)
          by_place (no ne) =
              let kb : k < b = omega arith in
              rw (other k ne) (same_rep (slice_index reps k) (rep_below k kb) ∙ below k kb)

  pub valid_at : (reps : List ℕ) (m : ℕ) → AreRepresentatives m nands links reps → m ≡ n → AreRepresentatives n nands links reps
  valid_at reps m valid e = subst (λ k. AreRepresentatives k nands links reps) e valid

-- the roots of two forms, found one after the other
module _ (n : ℕ) (nands : List Fact) (links : List Link) (old mid new : List ℕ) (f g a b : ℕ) (p : IsFound n nands links old mid f a) (q : IsFound (length mid) nands links mid new g b) where
  found_later : IsFound n nands links mid new g b
  found_later = subst (λ m. IsFound m nands links mid new g b) p.valid.count q

  pub found_twice : StayRepresentatives n nands links old new
  found_twice = record { valid = found_later.valid; low = let l = p.low in let m = found_later.low in omega arith }

  pub found_second : Equivalent (family n nands links) g b
  found_second = found_later.alike

-- a change after others, where something changed before it
pub falls_then : (n : ℕ) (nands : List Fact) (links : List Link) (old mid new : List ℕ) → Progresses n nands links old mid true → StayRepresentatives (length mid) nands links mid new → rep_weight new < rep_weight old
falls_then n nands links old mid new p q =
    let f = p.falls refl in
    let l = q.low in
    omega arith

-- the same where the representatives are those of so many base forms
pub stays_valid : (n m : ℕ) (nands : List Fact) (links : List Link) (mid new : List ℕ) → AreRepresentatives m nands links mid → m ≡ n → StayRepresentatives (length mid) nands links mid new → AreRepresentatives n nands links new
stays_valid n m nands links mid new valid e q =
    valid_at n nands links new (length mid) q.valid (valid.count ∙ e)

-- representatives that stay such, and then progress
pub stay_progress : (n : ℕ) (nands : List Fact) (links : List Link) (old mid new : List ℕ) (b : Bool) → StayRepresentatives n nands links old mid → Progresses (length mid) nands links mid new b → StayRepresentatives n nands links old new
stay_progress n nands links old mid new b p q =
    stay_then n nands links old mid new p (record { valid = q.valid; low = q.low })
