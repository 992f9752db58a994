-- Bounds of choices fall with what the groups of their pins have seen.
use Rattle.std.proofs.Common.{◌≡◌, ◌≢◌, ℕ, zero, suc, ◌+◌, ◌-◌, ◌*◌, ◌<◌, ◌≤◌, ◌⊎◌, inl, inr, length, replicate, List, [], ◌∷◌, ◌++◌, Some, slice_get, slice_index_or, slice_set, get_or-set_same, get_or-set_other, refl, ap, sym, ◌∙◌, subst, subst₂, arith}
use native.Mathlib.Decide.{ℕ_discrete}
use Rattle.std.proofs.lemmas.List.{get_or-replicate}
use Rattle.std.proofs.lemmas.Option.{same_Some, slice_get_within}
use Rattle.lw_facts.proofs.Lists.{index_at}
use Rattle.lw_laws.specs.Covers.{delays_of}
use Rattle.lw_genlib.specs.Cells.{CellParts}
use Rattle.lw_genlib.specs.Tables.{delays_of_cells}
use Rattle.lw_curves.specs.declared.tallies.Tally.{Tally}
use Rattle.lw_choices.specs.declared.pin_groups.PinGroups.{PinGroups}
use Rattle.lw_choices.specs.Choices.{Part, Choice}
use Rattle.lw_choices.specs.Choices.Part.{input, gate}
use Rattle.lw_choices.specs.GroupChoices.{AreMembersListed, IsBetween}
use Rattle.lw_curves.specs.SeenAreas.{seen_at, sum_seen}
use Rattle.lw_choices.specs.Choices.{pin_count}
use Rattle.lw_curves.specs.Tallies.{AreFirstTallies, AreTallies, HasFallen, IsFirstTally, IsLowered, bound_of, first_of, own_area, unseen}
use Rattle.lw_choices.specs.PinGroups.{AreUses, HasUse}
use Rattle.lw_choices.proofs.Lists.{get_some, push_cases}

-- each pin has a use
abbrev pub HaveUses : PinGroups → ℕ → ℕ → List ℕ → List ℕ → Type 0
HaveUses u n i ds ps = (j p : ℕ) → slice_get ps j ≡ Some p → HasUse u n (i + j) (slice_index_or ds j 0) p

-- it stands behind the first pin
pub use_place : (u : PinGroups) (n i d p : ℕ) (its : HasUse u n i d p) → its.place ≡ first_of u n + i
use_place u n i d p its =
    let same : first_of u n ≡ its.first = index_at u.firsts.items n its.first its.first_at in
    its.place_is ∙ ap (λ f. f + i) (sym same)

pub pin_groups_of : (cells : List CellParts) (choices : List Choice) (u : PinGroups) → AreUses cells choices u → (n class cell : ℕ) (ps : List ℕ) → slice_get choices n ≡ Some (record { class = class; part = gate cell ps }) → HaveUses u n 0 (delays_of (delays_of_cells cells) cell) ps
pin_groups_of cells choices u are n class cell ps at j p pt =
    let x : Choice = record { class = class; part = gate cell ps } in
    let e : j ≡ 0 + j = omega arith in
    subst (λ m. HasUse u n m (slice_index_or (delays_of (delays_of_cells cells) cell) j 0) p) e (are.pins.all n j p x (inl (slice_get_within choices n x at)) at pt)

-- the pins of a choice from its first one on are its own, each in a group
abbrev pub AreOwn : PinGroups → ℕ → ℕ → Type 0
AreOwn u n count =
    (i : ℕ) → i < count → (slice_get u.owners.items (first_of u n + i) ≡ Some n) × (group : ℕ) × (slice_get u.members.classes (first_of u n + i) ≡ Some group) × (group < u.members.count)

pub pins_own : (cells : List CellParts) (choices : List Choice) (u : PinGroups) → AreUses cells choices u → (n class : ℕ) (part : Part) → slice_get choices n ≡ Some (record { class = class; part = part }) → AreOwn u n (pin_count part)
pins_own cells choices u are n class (input k) at i lt = absurd (omega (arith, lt))
pins_own cells choices u are n class (gate cell ps) at i lt =
    let (p, pt) = get_some ps i lt in
    let its = pin_groups_of cells choices u are n class cell ps at i p pt in
    let e : first_of u n + (0 + i) ≡ first_of u n + i = omega arith in
    let here = use_place u n (0 + i) (slice_index_or (delays_of (delays_of_cells cells) cell) i 0) p its ∙ e in
    let low = slice_get_within u.links.classes its.group p its.group_is.0 in
    (subst (λ j. slice_get u.owners.items j ≡ Some n) here its.owner, its.group, subst (λ j. slice_get u.members.classes j ≡ Some its.group) here its.member, let same = are.pins.are.count in omega (arith, low, same))

-- what is told of the pins from a place on, together
abbrev pub sum_told : (ℕ → ℕ) → ℕ → ℕ → ℕ
sum_told told place zero = 0
sum_told told place (suc n) = told place + sum_told told (place + 1) n

-- the same, but for one place
pub at_place : {P : Type 0} → ℕ → ℕ → Dec P → ℕ
at_place area other (yes e) = area
at_place area other (no ne) = other

abbrev pub told_with : (ℕ → ℕ) → ℕ → ℕ → ℕ → ℕ
told_with told place area j = at_place area (told j) (ℕ_discrete j place)

with_here : (told : ℕ → ℕ) (place area j : ℕ) → j ≡ place → told_with told place area j ≡ area
unfolding at_place
with_here told place area j e = by_case (ℕ_discrete j place)
  where
    by_case : (d : Dec (j ≡ place)) → at_place area (told j) d ≡ area
    by_case (yes f) = refl
    by_case (no ne) = absurd (ne e)

with_other : (told : ℕ → ℕ) (place area j : ℕ) → j ≢ place → told_with told place area j ≡ told j
unfolding at_place
with_other told place area j ne = by_case (ℕ_discrete j place)
  where
    by_case : (d : Dec (j ≡ place)) → at_place area (told j) d ≡ told j
    by_case (yes f) = absurd (ne f)
    by_case (no other) = refl

sum_other : (told : ℕ → ℕ) (place area first n : ℕ) → ((i : ℕ) → i < n → first + i ≢ place) → sum_told (told_with told place area) first n ≡ sum_told told first n
sum_other told place area first zero out = refl
sum_other told place area first (suc n) out =
    let here = with_other told place area first (λ e. out 0 (omega arith) (omega (arith, e))) in
    let rest = sum_other told place area (first + 1) n (λ i lt e. out (suc i) (omega arith) (omega (arith, e))) in
    omega (arith, here, rest)

-- where one place falls, the sum falls by no more
sum_fallen : (told : ℕ → ℕ) (place fall first n : ℕ) → sum_told told first n ≤ sum_told (told_with told place (told place - fall)) first n + fall
sum_fallen told place fall first zero = omega arith
sum_fallen told place fall first (suc n) = by_case (ℕ_discrete first place) (sum_fallen told place fall (first + 1) n)
  where
    new : ℕ → ℕ
    new = told_with told place (told place - fall)

    by_case : Dec (first ≡ place) → sum_told told (first + 1) n ≤ sum_told new (first + 1) n + fall → told first + sum_told told (first + 1) n ≤ new first + sum_told new (first + 1) n + fall
    by_case (yes e) more =
        let here : new first ≡ told place - fall = with_here told place (told place - fall) first e in
        let same : told first ≡ told place = ap told e in
        let rest : sum_told new (first + 1) n ≡ sum_told told (first + 1) n = sum_other told place (told place - fall) (first + 1) n (λ i lt f. absurd (omega (arith, e, f))) in
        omega (arith, here, same, rest)
    by_case (no ne) more =
        let here : new first ≡ told first = with_other told place (told place - fall) first ne in
        omega (arith, here, more)

sum_seen_told : (groups seen : List ℕ) (first n : ℕ) → sum_told (seen_at groups seen) first n ≡ sum_seen groups seen first n
sum_seen_told groups seen first zero = refl
sum_seen_told groups seen first (suc n) = ap (λ m. seen_at groups seen first + m) (sum_seen_told groups seen (first + 1) n)

-- no more than the area of the choice's cell and what is told of its pins
pub record IsTold (cells : List CellParts) (u : PinGroups) (told : ℕ → ℕ) (n : ℕ) (x : Choice) (t : Tally) : Type 0 where
  pub class_is : t.class.0 ≡ x.class
  pub few : pin_count x.part ≤ 16
  pub low : bound_of t ≤ own_area cells x.part + sum_told told (first_of u n) (pin_count x.part)

-- The bounds of the pins before a place fell: what is told of a pin is what its group has seen, or more by the fall where it still has to fall.
pub record IsFalling (cells : List CellParts) (choices : List Choice) (u : PinGroups) (fallen : List ℕ) (fall : ℕ) (places : List ℕ) (at end : ℕ) (tallies : List Tally) : Type 0 where
  pub one_each : length tallies ≡ length choices
  pub told : ℕ → ℕ
  pub each : (n : ℕ) (x : Choice) (t : Tally) → slice_get choices n ≡ Some x → slice_get tallies n ≡ Some t → IsTold cells u told n x t
  pub told_is : (j g : ℕ) → slice_get u.members.classes j ≡ Some g → (told j ≤ slice_index_or fallen g 0) ⊎ ((told j ≤ slice_index_or fallen g 0 + fall) × IsBetween places at end j)

pub lowered_none : (tallies : List Tally) (number fall : ℕ) → length tallies ≤ number → IsLowered tallies tallies number fall
lowered_none tallies number fall past = record {
  one_each = refl;
  each = λ n t at. let lt = slice_get_within tallies n t at in inr ((λ e. absurd (omega (arith, e, lt, past))), at);
}

module _ (cells : List CellParts) (choices : List Choice) (u : PinGroups) (are : AreUses cells choices u) (fallen : List ℕ) (group fall : ℕ) (places : List ℕ) where
  own : (n : ℕ) (x : Choice) → slice_get choices n ≡ Some x → AreOwn u n (pin_count x.part)
  own n x at = pins_own cells choices u are n x.class x.part at

  pub falling_first : (seen : List ℕ) (first end : ℕ) (tallies : List Tally) → HasFallen group fall seen fallen → AreMembersListed u.members.classes u.members.count u.by_group.starts.items places → slice_get u.by_group.starts.items group ≡ Some first → slice_get u.by_group.starts.items (group + 1) ≡ Some end → AreTallies cells choices u seen tallies → IsFalling cells choices u fallen fall places first end tallies
  falling_first seen first end tallies has listed st et is = record {
    one_each = is.one_each;
    told = seen_at u.members.classes seen;
    each = λ n x t xt tt.
        let tally = is.each n x t xt tt in
        let same = sum_seen_told u.members.classes seen (first_of u n) (pin_count x.part) in
        let low = tally.low in
        record { class_is = tally.class_is; few = tally.few; low = omega (arith, same, low) };
    told_is = λ j g jt. told_is j g jt (ℕ_discrete g group);
  }
    where
      told_is : (j g : ℕ) → slice_get u.members.classes j ≡ Some g → Dec (g ≡ group) → (seen_at u.members.classes seen j ≤ slice_index_or fallen g 0) ⊎ ((seen_at u.members.classes seen j ≤ slice_index_or fallen g 0 + fall) × IsBetween places first end j)
      told_is j g jt (yes e) =
          let here : seen_at u.members.classes seen j ≡ slice_index_or seen g 0 = ap (λ h. slice_index_or seen h 0) (index_at u.members.classes j g jt) in
          let low : slice_index_or seen g 0 ≤ slice_index_or fallen g 0 + fall = subst (λ h. slice_index_or seen h 0 ≤ slice_index_or fallen h 0 + fall) (sym e) has.here in
          inr (omega (arith, here, low), listed.all group first end j st et (jt ∙ ap Some e))
      told_is j g jt (no ne) =
          let here : seen_at u.members.classes seen j ≡ slice_index_or seen g 0 = ap (λ h. slice_index_or seen h 0) (index_at u.members.classes j g jt) in
          let low = has.others g ne in
          inl (omega (arith, here, low))

  -- the bound of the choice of one more pin falls
  pub falling_next : (at end place number : ℕ) (old new : List Tally) → slice_get places at ≡ Some place → number ≡ slice_index_or u.owners.items place 0 → IsLowered old new number fall → IsFalling cells choices u fallen fall places at end old → IsFalling cells choices u fallen fall places (at + 1) end new
  falling_next at end place number old new pt number_is lowered is = record {
    one_each = lowered.one_each ∙ is.one_each;
    told = told;
    each = λ n x t xt tt. by_case n x t xt (lowered.each n t tt);
    told_is = λ j g jt. told_is j g (ℕ_discrete j place) (is.told_is j g jt);
  }
    where
      told : ℕ → ℕ
      told = told_with is.told place (is.told place - fall)

      by_case : (n : ℕ) (x : Choice) (t : Tally) → slice_get choices n ≡ Some x → ((n ≡ number) × (o : Tally) × (slice_get old n ≡ Some o) × (t.class.0 ≡ o.class.0) × (bound_of t ≤ bound_of o - fall)) ⊎ ((n ≢ number) × (slice_get old n ≡ Some t)) → IsTold cells u told n x t
      by_case n x t xt (inl (e, o, ot, class, bound)) =
          let before = is.each n x o xt ot in
          let sum = sum_fallen is.told place fall (first_of u n) (pin_count x.part) in
          let low = before.low in
          record { class_is = class ∙ before.class_is; few = before.few; low = omega (arith, low, sum, bound) }
      by_case n x t xt (inr (ne, ot)) =
          let before = is.each n x t xt ot in
          let out : (i : ℕ) → i < pin_count x.part → first_of u n + i ≢ place = λ i lt e. ne (sym (number_is ∙ index_at u.owners.items place n (subst (λ j. slice_get u.owners.items j ≡ Some n) e (own n x xt i lt).0))) in
          let sum = sum_other is.told place (is.told place - fall) (first_of u n) (pin_count x.part) out in
          let low = before.low in
          record { class_is = before.class_is; few = before.few; low = omega (arith, low, sum) }

      told_is : (j g : ℕ) → Dec (j ≡ place) → (is.told j ≤ slice_index_or fallen g 0) ⊎ ((is.told j ≤ slice_index_or fallen g 0 + fall) × IsBetween places at end j) → (told j ≤ slice_index_or fallen g 0) ⊎ ((told j ≤ slice_index_or fallen g 0 + fall) × IsBetween places (at + 1) end j)
      told_is j g (yes e) (inl low) =
          let here : told j ≡ is.told place - fall = with_here is.told place (is.told place - fall) j e in
          let same : is.told j ≡ is.told place = ap is.told e in
          inl (omega (arith, here, same, low))
      told_is j g (yes e) (inr (low, there)) =
          let here : told j ≡ is.told place - fall = with_here is.told place (is.told place - fall) j e in
          let same : is.told j ≡ is.told place = ap is.told e in
          inl (omega (arith, here, same, low))
      told_is j g (no ne) (inl low) =
          let here : told j ≡ is.told j = with_other is.told place (is.told place - fall) j ne in
          inl (omega (arith, here, low))
      told_is j g (no ne) (inr (low, (k, from, to, kt))) =
          let here : told j ≡ is.told j = with_other is.told place (is.told place - fall) j ne in
          inr (omega (arith, here, low), by_place (ℕ_discrete k at))
        where
          by_place : Dec (k ≡ at) → IsBetween places (at + 1) end j
          by_place (yes f) = absurd (ne (sym (same_Some place j (sym pt ∙ (ap (slice_get places) (sym f) ∙ kt)))))
          by_place (no other) = (k, omega (arith, from, other), to, kt)

  pub falling_over : (at end : ℕ) (tallies : List Tally) → end ≤ at → IsFalling cells choices u fallen fall places at end tallies → AreTallies cells choices u fallen tallies
  falling_over at end tallies over is = record {
    one_each = is.one_each;
    each = λ n x t xt tt.
        let told = is.each n x t xt tt in
        let low = told.low in
        let sum = sums (first_of u n) (pin_count x.part) (λ i lt. let (ot, g, gt, in') = own n x xt i lt in (g, gt)) in
        record { class_is = told.class_is; few = told.few; low = omega (arith, low, sum) };
  }
    where
      here : (j g : ℕ) → slice_get u.members.classes j ≡ Some g → is.told j ≤ seen_at u.members.classes fallen j
      here j g jt = by_case (is.told_is j g jt)
        where
          by_case : (is.told j ≤ slice_index_or fallen g 0) ⊎ ((is.told j ≤ slice_index_or fallen g 0 + fall) × IsBetween places at end j) → is.told j ≤ seen_at u.members.classes fallen j
          by_case (inl low) =
              let same : seen_at u.members.classes fallen j ≡ slice_index_or fallen g 0 = ap (λ h. slice_index_or fallen h 0) (index_at u.members.classes j g jt) in
              omega (arith, same, low)
          by_case (inr (low, (k, from, to, kt))) = absurd (omega (arith, from, to, over))

      sums : (first n : ℕ) → ((i : ℕ) → i < n → (g : ℕ) × (slice_get u.members.classes (first + i) ≡ Some g)) → sum_told is.told first n ≤ sum_seen u.members.classes fallen first n
      sums first zero pins = omega arith
      sums first (suc n) pins =
          let (g, gt) = pins 0 (omega arith) in
          let at : first + 0 ≡ first = omega arith in
          let one = here first g (subst (λ j. slice_get u.members.classes j ≡ Some g) at gt) in
          let rest = sums (first + 1) n (λ i lt.
          let (h, ht) = pins (suc i) (omega arith) in
          let e : first + suc i ≡ first + 1 + i = omega arith in
          (h, subst (λ j. slice_get u.members.classes j ≡ Some h) e ht)) in
          omega (arith, one, rest)

-- where no group has seen anything
pub tallies_first : (cells : List CellParts) (choices : List Choice) (u : PinGroups) → AreUses cells choices u → (seen : List ℕ) (tallies : List Tally) → seen ≡ replicate u.members.count unseen → AreFirstTallies cells choices tallies → AreTallies cells choices u seen tallies
tallies_first cells choices u are seen tallies none firsts = record {
  one_each = firsts.one_each;
  each = λ n x t xt tt.
      let first = firsts.each n x t xt tt in
      let bound = first.bound_is in
      let sum = sums (first_of u n) (pin_count x.part) (λ i lt. let (ot, g, gt, in') = pins_own cells choices u are n x.class x.part xt i lt in (g, gt, in')) in
      record { class_is = first.class_is; few = first.few; low = omega (arith, bound, sum) };
}
  where
    sums : (first n : ℕ) → ((i : ℕ) → i < n → (g : ℕ) × (slice_get u.members.classes (first + i) ≡ Some g) × (g < u.members.count)) → n * unseen ≤ sum_seen u.members.classes seen first n
    sums first zero pins = omega arith
    sums first (suc n) pins =
        let (g, gt, in') = pins 0 (omega arith) in
        let at : first + 0 ≡ first = omega arith in
        let group : slice_index_or u.members.classes first 0 ≡ g = index_at u.members.classes first g (subst (λ j. slice_get u.members.classes j ≡ Some g) at gt) in
        let one : seen_at u.members.classes seen first ≡ unseen = ap (λ h. slice_index_or seen h 0) group ∙ (ap (λ xs. slice_index_or xs g 0) none ∙ get_or-replicate u.members.count g unseen 0 in') in
        let rest = sums (first + 1) n (λ i lt.
        let (h, ht, low) = pins (suc i) (omega arith) in
        let e : first + suc i ≡ first + 1 + i = omega arith in
        (h, subst (λ j. slice_get u.members.classes j ≡ Some h) e ht, low)) in
        omega (arith, one, rest)

-- a group has seen less
pub fallen_set : (seen : List ℕ) (group old new fall : ℕ) → slice_get seen group ≡ Some old → old ≤ new + fall → HasFallen group fall seen (slice_set seen group new)
fallen_set seen group old new fall at le = record {
  here =
      let lt = slice_get_within seen group old at in
      let before : slice_index_or seen group 0 ≡ old = index_at seen group old at in
      let after : slice_index_or (slice_set seen group new) group 0 ≡ new = get_or-set_same seen group new 0 lt in
      omega (arith, before, after, le);
  others = λ g ne.
      let same : slice_index_or (slice_set seen group new) g 0 ≡ slice_index_or seen g 0 = get_or-set_other seen group g new 0 ne in
      omega (arith, same);
}

-- the tally of one more choice
module _ (cells : List CellParts) (rows : List Choice) (tallies : List Tally) (k : ℕ) (r : Choice) (t : Tally) (count : length tallies ≡ k) (at : slice_get rows k ≡ Some r) (is : IsFirstTally cells r t) (each : (n : ℕ) (x : Choice) (y : Tally) → slice_get rows n ≡ Some x → slice_get tallies n ≡ Some y → IsFirstTally cells x y) where
  pub firsts_pushed : (n : ℕ) (x : Choice) (y : Tally) → slice_get rows n ≡ Some x → slice_get (tallies ++ t ∷ []) n ≡ Some y → IsFirstTally cells x y
  firsts_pushed n x y xt yt = by_case (push_cases tallies t n y yt)
    where
      by_case : (slice_get tallies n ≡ Some y) ⊎ ((n ≡ length tallies) × (t ≡ y)) → IsFirstTally cells x y
      by_case (inl old) = each n x y xt old
      by_case (inr (e, same)) =
          let row : r ≡ x = same_Some r x (sym at ∙ (ap (slice_get rows) (sym (e ∙ count)) ∙ xt)) in
          subst₂ (λ z c. IsFirstTally cells z c) row same is
