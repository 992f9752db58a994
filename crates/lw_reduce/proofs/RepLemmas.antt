-- A form that takes a lower equivalent representative: representatives stay sound, and weigh less.
use Rattle.std.proofs.Common.{ℕ, suc, zero, ◌+◌, ◌*◌, ◌/◌, ◌%◌, ◌<◌, ◌≤◌, ◌≡◌, ◌≢◌, ◌==◌, ◌⊎◌, inl, inr, Bool, true, false, List, length, slice_index, slice_set, refl, ap, sym, ◌∙◌, subst, subst₂, arith, true≢false, get_or-set_same, get_or-set_other, length-set, if◌then◌else◌}
use native.Mathlib.Decide.{ℕ_discrete, dec_lt}
use Rattle.std.proofs.lemmas.List.Sums.{sum_by-set}
use Rattle.lw_laws.specs.Flip.{flip}
use Rattle.lw_laws.specs.Families.{Family, Equivalent}
use Rattle.lw_laws.specs.Families.Equivalent.{same, turned as turned_by, joined, flipped}
use Rattle.lw_laws.proofs.Flips.{flip-flip, half-flip, odd-flip, flip_even}
use Rattle.lw_reduce.specs.declared.facts.Fact.{Fact}
use Rattle.lw_reduce.specs.declared.facts.Link.{Link}
use Rattle.lw_reduce.specs.Representatives.{family, in_phase, rep_of, AreSound, IsFlat, rep_weight, AreRepresentatives, Progresses, IsOnPath, IsFound}

by_digit : (r s c : ℕ) → r < 2 → s < 2 → r ≡ s → (if r == 0 then (if s == 0 then c else flip c) else flip (if s == 0 then c else flip c)) ≡ c
by_digit zero zero c a b e = refl
by_digit (suc zero) (suc zero) c a b e = flip-flip c
by_digit zero (suc s) c a b e = absurd (omega arith)
by_digit (suc r) zero c a b e = absurd (omega arith)
by_digit (suc (suc r)) (suc s) c a b e = absurd (omega arith)
by_digit (suc zero) (suc (suc s)) c a b e = absurd (omega arith)

by_other_digit : (r s c : ℕ) → r < 2 → s < 2 → r ≢ s → (if r == 0 then (if s == 0 then c else flip c) else flip (if s == 0 then c else flip c)) ≡ flip c
by_other_digit zero (suc zero) c a b e = refl
by_other_digit (suc zero) zero c a b e = refl
by_other_digit zero zero c a b e = absurd (e refl)
by_other_digit zero (suc (suc s)) c a b e = absurd (omega arith)
by_other_digit (suc zero) (suc s) c a b e = absurd (omega arith)
by_other_digit (suc (suc r)) s c a b e = absurd (omega arith)

-- twice in phase, for forms of the same phase, and for others
pub in_phase_same : (k f c : ℕ) → k % 2 ≡ f % 2 → in_phase k (in_phase f c) ≡ c
in_phase_same k f c e = by_digit (k % 2) (f % 2) c (omega arith) (omega arith) e

pub in_phase_other : (k f c : ℕ) → k % 2 ≢ f % 2 → in_phase k (in_phase f c) ≡ flip c
in_phase_other k f c e = by_other_digit (k % 2) (f % 2) c (omega arith) (omega arith) e

pub half-in_phase : (f c : ℕ) → in_phase f c / 2 ≡ c / 2
half-in_phase f c = by_bit (f % 2 == 0)
  where
    by_bit : (b : Bool) → (if b then c else flip c) / 2 ≡ c / 2
    by_bit true = refl
    by_bit false = half-flip c

pub other_bit : (k f : ℕ) → k / 2 ≡ f / 2 → k % 2 ≢ f % 2 → k ≡ flip f
other_bit k f e ne = let h = half-flip f in let o = odd-flip f in omega arith

-- the value that a call gave, where it is the form itself
pub by_up : {up at rep : ℕ} → up ≡ rep → up ≡ at → rep ≡ at
by_up e f = sym e ∙ f

in_phase_by_digit : (r h : ℕ) → r < 2 → (if r == 0 then 2 * h else flip (2 * h)) ≡ 2 * h + r
in_phase_by_digit zero h lt = omega arith
in_phase_by_digit (suc zero) h lt = flip_even (2 * h) h refl
in_phase_by_digit (suc (suc r)) h lt = absurd (omega arith)

pub in_phase_half : (k : ℕ) → in_phase k (2 * (k / 2)) ≡ k
in_phase_half k = in_phase_by_digit (k % 2) (k / 2) (omega arith) ∙ (omega arith)

module _ (n : ℕ) (nands : List Fact) (links : List Link) where
  abbrev F : Family
  F = family n nands links

  -- the base form of f takes the representative that makes that of f equal to c
  module _ (old new : List ℕ) (f c : ℕ) (valid : AreRepresentatives n nands links old) (in' : f / 2 < n) (in'' : c / 2 < n) (alike : Equivalent F f c) (lower : c / 2 < f / 2) (set : new ≡ slice_set old (f / 2) (in_phase f c)) where
    in_old : f / 2 < length old
    in_old = let k = valid.count in omega arith

    here : (k : ℕ) → k / 2 ≡ f / 2 → slice_index new (k / 2) ≡ in_phase f c
    here k e = ap (slice_index new) e ∙ (ap (λ ns. slice_index ns (f / 2)) set ∙ get_or-set_same old (f / 2) (in_phase f c) 0 in_old)

    pub elsewhere : (b : ℕ) → b ≢ f / 2 → slice_index new b ≡ slice_index old b
    elsewhere b ne = ap (λ ns. slice_index ns b) set ∙ rw get_or-set_other

    -- the base form of f: f itself, and its complement
    sound_here : (k : ℕ) → k / 2 ≡ f / 2 → Dec (k % 2 ≡ f % 2) → F.Occurs (rep_of new k) × Equivalent F k (rep_of new k)
    sound_here k e (yes b) =
        let m : rep_of new k ≡ c = ap (in_phase k) (here k e) ∙ in_phase_same k f c b in
        let s : k ≡ f = omega arith in
        (subst (λ m. m / 2 < n) (sym m) in'', subst₂ (λ x y. Equivalent F x y) (sym s) (sym m) alike)
    sound_here k e (no b) =
        let m : rep_of new k ≡ flip c = ap (in_phase k) (here k e) ∙ in_phase_other k f c b in
        let s : k ≡ flip f = other_bit k f e b in
        let o' : flip c / 2 < n = subst (λ m. m < n) (sym (half-flip c)) in'' in
        (subst (λ m. m / 2 < n) (sym m) o', subst₂ (λ x y. Equivalent F x y) (sym s) (sym m) (flipped alike))

    sound' : AreSound F new
    sound' k o = by_base (ℕ_discrete (k / 2) (f / 2))
      where
        by_base : Dec (k / 2 ≡ f / 2) → F.Occurs (rep_of new k) × Equivalent F k (rep_of new k)
        by_base (yes e) = sound_here k e (ℕ_discrete (k % 2) (f % 2))
        by_base (no ne) =
            let m : rep_of new k ≡ rep_of old k = ap (in_phase k) (elsewhere (k / 2) ne) in
            let s = valid.sound k o in
            (subst (λ m. m / 2 < n) (sym m) s.0, subst (λ m. Equivalent F k m) (sym m) s.1)

    lower' : (b : ℕ) → b < n → (slice_index new b ≡ 2 * b) ⊎ (slice_index new b / 2 < b)
    lower' b lt = by_base (ℕ_discrete b (f / 2))
      where
        by_base : Dec (b ≡ f / 2) → (slice_index new b ≡ 2 * b) ⊎ (slice_index new b / 2 < b)
        by_base (yes e) =
            let h : slice_index new b ≡ in_phase f c = ap (slice_index new) e ∙ here f refl in
            let t = half-in_phase f c in
            inr (rw h (omega arith))
        by_base (no ne) = subst (λ m. (m ≡ 2 * b) ⊎ (m / 2 < b)) (sym (elsewhere b ne)) (valid.lower b lt)

    pub set_weight : rep_weight new + slice_index old (f / 2) / 2 ≡ rep_weight old + c / 2
    set_weight =
        let v = half-in_phase f c in
        let e = sum_by-set (λ c. c / 2) old (f / 2) (in_phase f c) 0 in_old in
        let s = ap rep_weight set in
        omega arith

    pub set_valid : AreRepresentatives n nands links new
    set_valid = record {
      count = ap length set ∙ (length-set old (f / 2) (in_phase f c) ∙ valid.count);
      sound = sound';
      lower = lower';
      nands_in = valid.nands_in;
      links_in = valid.links_in;
      consistent = valid.consistent;
    }

  -- a form that is no root has a lower representative
  pub rep_lower : (reps : List ℕ) (k : ℕ) → AreRepresentatives n nands links reps → k / 2 < n → rep_of reps k ≢ k → rep_of reps k / 2 < k / 2
  rep_lower reps k valid lt ne = by_case (valid.lower (k / 2) lt)
    where
      by_case : (slice_index reps (k / 2) ≡ 2 * (k / 2)) ⊎ (slice_index reps (k / 2) / 2 < k / 2) → rep_of reps k / 2 < k / 2
      by_case (inl e) = absurd (ne (ap (in_phase k) e ∙ in_phase_half k))
      by_case (inr l) = let h = half-in_phase k (slice_index reps (k / 2)) in omega arith

  half-rep_of : (reps : List ℕ) (k : ℕ) → rep_of reps k / 2 ≡ slice_index reps (k / 2) / 2
  half-rep_of reps k = half-in_phase k (slice_index reps (k / 2))

  pub path_start : (old : List ℕ) (form : ℕ) → AreRepresentatives n nands links old → form / 2 < n → IsOnPath n nands links old old form form
  path_start old form valid lt = record {
    valid = valid;
    low = omega arith;
    within = lt;
    alike = same lt;
    roots = λ r lt e. e;
    flat = λ f. (refl, inl refl);
  }

  module _ (old reps : List ℕ) (form at : ℕ) (is : IsOnPath n nands links old reps form at) where
    pub path_here : rep_of reps at ≡ at → IsFound n nands links old reps form at
    path_here e = record {
      valid = is.valid;
      low = is.low;
      within = is.within;
      alike = is.alike;
      root = e;
      roots = is.roots;
      flat = flat';
    }
      where
        by_case : reps ≡ old → (at ≡ form) ⊎ (at ≡ rep_of old form) → at ≡ rep_of old form
        by_case s (inl a) = sym e ∙ (ap (λ ns. rep_of ns at) s ∙ ap (rep_of old) a)
        by_case s (inr a) = a

        flat' : IsFlat old → (reps ≡ old) × (at ≡ rep_of old form)
        flat' f = let (s, a) = is.flat f in (s, by_case s a)

    -- in a flat list, the root is reached in one step
    flat_up : (form' : ℕ) → IsFlat old → form' / 2 < length old → (at ≡ form') ⊎ (at ≡ rep_of old form') → rep_of old at ≡ rep_of old form'
    flat_up form' f lt (inl a) = ap (rep_of old) a
    flat_up form' f lt (inr a) = ap (rep_of old) a ∙ f form' lt

    module _ (up : ℕ) (up_is : up ≡ rep_of reps at) (form_in : form / 2 < length old) where
      up_within : up / 2 < n
      up_within = rw up_is (is.valid.sound at is.within).0

      up_alike : Equivalent F form up
      up_alike = rw up_is (joined is.alike (is.valid.sound at is.within).1)

      pub path_above : rep_of reps up ≡ up → IsFound n nands links old reps form up
      path_above e = record {
        valid = is.valid;
        low = is.low;
        within = up_within;
        alike = up_alike;
        root = e;
        roots = is.roots;
        flat = λ f. let (s, a) = is.flat f in (s, up_is ∙ (ap (λ ns. rep_of ns at) s ∙ flat_up form f form_in a));
      }

      module _ (new : List ℕ) (top : ℕ) (top_is : top ≡ rep_of reps up) (ne : up ≢ at) (ne' : top ≢ up) (set : new ≡ slice_set reps (at / 2) (in_phase at top)) where
        up_lower : up / 2 < at / 2
        up_lower = rw up_is (rep_lower reps at is.valid is.within (subst (λ u. u ≢ at) up_is ne))

        top_lower : top / 2 < up / 2
        top_lower = rw top_is (rep_lower reps up is.valid up_within (subst (λ u. u ≢ up) top_is ne'))

        pub path_falls : top < at
        path_falls = let a = up_lower in let b = top_lower in omega arith

        top_within : top / 2 < n
        top_within = let a = up_within in let b = top_lower in omega arith

        top_alike : Equivalent F at top
        top_alike = rw (top_is, up_is) (joined (is.valid.sound at is.within).1 (is.valid.sound (rep_of reps at) (is.valid.sound at is.within).0).1)

        -- the representative that is set is lower than its form
        lower_at : top / 2 < at / 2
        lower_at = let a = up_lower in let b = top_lower in omega arith

        roots' : (r : ℕ) → r / 2 < n → rep_of old r ≡ r → rep_of new r ≡ r
        roots' r lt e = by_base (ℕ_discrete (r / 2) (at / 2))
          where
            kept : rep_of reps r ≡ r
            kept = is.roots r lt e

            by_base : Dec (r / 2 ≡ at / 2) → rep_of new r ≡ r
            by_base (yes b) =
                let h = half-rep_of reps r in
                let h' = half-rep_of reps at in
                let a = up_lower in
                let k : rep_of reps r / 2 ≡ r / 2 = ap (λ m. m / 2) kept in
                let s : slice_index reps (r / 2) ≡ slice_index reps (at / 2) = ap (slice_index reps) b in
                let u : up / 2 ≡ rep_of reps at / 2 = ap (λ m. m / 2) up_is in
                absurd (omega arith)
            by_base (no ne) =
                ap (in_phase r) (elsewhere reps new at top is.valid is.within top_within top_alike lower_at set (r / 2) ne) ∙ kept

        pub path_step : IsOnPath n nands links old new form top
        path_step = record {
          valid = set_valid reps new at top is.valid is.within top_within top_alike lower_at set;
          low =
              let w = set_weight reps new at top is.valid is.within top_within top_alike lower_at set in
              let l = is.low in
              let h = half-rep_of reps at in
              let b = top_lower in
              let u : up / 2 ≡ rep_of reps at / 2 = ap (λ m. m / 2) up_is in
              omega arith;
          within = top_within;
          alike = joined is.alike top_alike;
          roots = roots';
          flat = λ f. let (s, a) = is.flat f in
              let u : up ≡ rep_of old form = up_is ∙ (ap (λ ns. rep_of ns at) s ∙ flat_up form f form_in a) in
              absurd (ne' (top_is ∙ (ap (λ ns. rep_of ns up) s ∙ (ap (rep_of old) u ∙ (f form form_in ∙ sym u)))));
        }

  -- the higher of two roots takes the lower one
  module _ (old late new : List ℕ) (lo hi : ℕ) (valid : AreRepresentatives n nands links late) (low : rep_weight late ≤ rep_weight old) (in' : lo / 2 < n) (in'' : hi / 2 < n) (root : rep_of late hi ≡ hi) (alike : Equivalent F hi lo) (lt : lo < hi) (set : new ≡ slice_set late (hi / 2) (in_phase hi lo)) where
    bases_apart : lo / 2 < hi / 2
    bases_apart = by_order (dec_lt (lo / 2) (hi / 2))
      where
        by_order : Dec (lo / 2 < hi / 2) → lo / 2 < hi / 2
        by_order (yes l) = l
        by_order (no out) =
            let s : hi ≡ flip lo = other_bit hi lo (omega arith) (omega arith) in
            absurd (valid.consistent lo (subst (λ k. Equivalent F k lo) s alike))

    pub taken : Progresses n nands links old new true
    taken = record {
      valid = set_valid late new hi lo valid in'' in' alike bases_apart set;
      low = omega (arith, weight');
      falls = λ e. weight';
    }
      where
        weight' : rep_weight new < rep_weight old
        weight' =
            let w = set_weight late new hi lo valid in'' in' alike bases_apart set in
            let h = half-rep_of late hi in
            let r : rep_of late hi / 2 ≡ hi / 2 = ap (λ m. m / 2) root in
            let b = bases_apart in
            omega arith

  module _ (old mid late : List ℕ) (left right a b : ℕ) (fa : IsFound n nands links old mid left a) (gb : IsFound (length mid) nands links mid late right b) where
    fb : IsFound n nands links mid late right b
    fb = subst (λ m. IsFound m nands links mid late right b) fa.valid.count gb

    pub unify_same : a ≡ b → IsFlat old → (late ≡ old) × (rep_of old left ≡ rep_of old right)
    unify_same e f =
        let (m, p) = fa.flat f in
        let (l, q) = fb.flat (subst IsFlat (sym m) f) in
        (l ∙ m, sym p ∙ (e ∙ (q ∙ ap (λ ns. rep_of ns right) m)))

    pub unify_none : a ≡ b → Progresses n nands links old late false
    unify_none e = record {
      valid = fb.valid;
      low = let l = fa.low in let m = fb.low in omega arith;
      falls = λ t. absurd (true≢false (sym t));
    }

    weights : rep_weight late ≤ rep_weight old
    weights = let l = fa.low in let m = fb.low in omega arith

    pub unify_right : (new : List ℕ) → Equivalent F left right → a < b → new ≡ slice_set late (b / 2) (in_phase b a) → Progresses n nands links old new true
    unify_right new alike lt set =
        taken old late new a b fb.valid weights fa.within fb.within fb.root (joined (turned_by fb.alike) (joined (turned_by alike) fa.alike)) lt set

    pub unify_left : (new : List ℕ) → Equivalent F left right → b ≤ a → a ≢ b → new ≡ slice_set late (a / 2) (in_phase a b) → Progresses n nands links old new true
    unify_left new alike le ne set =
        taken old late new b a fb.valid weights fb.within fa.within (fb.roots a fa.within fa.root) (joined (turned_by fa.alike) (joined alike fb.alike)) (omega arith) set
