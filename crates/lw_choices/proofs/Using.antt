-- Pins are added to groups.
use Rattle.std.proofs.Common.{◌≡◌, ℕ, zero, suc, ◌+◌, ◌<◌, ◌⊎◌, inl, inr, length, map, List, [], ◌∷◌, ◌++◌, Some, slice_get, slice_index_or, refl, ap, sym, ◌∙◌, subst, subst₂, arith}
use native.Mathlib.Nat.{eq-or-lt_of_le}
use Rattle.std.proofs.lemmas.Option.{same_Some, slice_get_within}
use Rattle.lw_fixed.specs.declared.micro.Micro.{Micro}
use Rattle.lw_genlib.specs.Cells.{CellParts}
use Rattle.lw_genlib.specs.Tables.{delays_of_cells, millionths}
use Rattle.lw_laws.specs.Covers.{delays_of}
use Rattle.lw_choices.specs.declared.group_choices.GroupChoices.{GroupChoices}
use Rattle.lw_choices.specs.declared.pin_groups.PinGroups.{PinGroups}
use Rattle.lw_choices.specs.Choices.{Choice, HasPinAt, pin_delay}
use Rattle.lw_choices.specs.Choices.Part.{input, gate}
use Rattle.lw_choices.specs.Chains.{ChainState}
use Rattle.lw_choices.specs.PinGroups.{IsGroup, HasUse, AreGroups, IsFirstAdded, IsGroupAdded, IsPinAdded, AreUsesTo}
use Rattle.lw_choices.proofs.Lists.{get_last, get_push, push_cases, length_push}

-- a group of its own is added
module _ (old new : PinGroups) (c delay group : ℕ) (links : new.links.classes ≡ old.links.classes ++ c ∷ []) (delays : new.delays.items ≡ old.delays.items ++ delay ∷ []) (members : new.members.classes ≡ old.members.classes) (owners : new.owners.items ≡ old.owners.items) (firsts : new.firsts.items ≡ old.firsts.items) (count : new.members.count ≡ old.members.count + 1) (at : group ≡ length old.links.classes) where
  longer : length new.links.classes ≡ length old.links.classes + 1
  longer = ap length links ∙ length_push old.links.classes c

  pub group_added : IsGroupAdded old new c delay group
  group_added = record {
    are = λ are. record {
      one_each = ap length delays ∙ (length_push old.delays.items delay ∙ (ap (λ n. n + 1) are.one_each ∙ sym longer));
      owners_each = ap length owners ∙ (are.owners_each ∙ sym (ap length members));
      count = count ∙ (ap (λ n. n + 1) are.count ∙ sym longer);
    };
    group_is = λ are. (
      subst₂ (λ cs g. slice_get cs g ≡ Some c) (sym links) (sym at) (get_last old.links.classes c),
      subst₂ (λ ds g. slice_get ds g ≡ Some delay) (sym delays) (are.one_each ∙ sym at) (get_last old.delays.items delay),
    );
    low = λ are. omega (arith, count, are.count, at);
    kept = λ g d e (ct, dt). (
      subst (λ cs. slice_get cs g ≡ Some d) (sym links) (get_push old.links.classes c g d ct),
      subst (λ ds. slice_get ds g ≡ Some e) (sym delays) (get_push old.delays.items delay g e dt),
    );
    members = members;
    owners = owners;
    firsts = firsts;
  }

-- nothing is added where the group is there
pub group_there : (u : PinGroups) (c delay group : ℕ) → IsGroup u.links.classes u.delays.items c delay group → IsGroupAdded u u c delay group
group_there u c delay group is = record {
  are = λ are. are;
  group_is = λ are. is;
  low = λ are. let lt = slice_get_within u.links.classes group c is.0 in omega (arith, lt, are.count);
  kept = λ g d e there. there;
  members = refl;
  owners = refl;
  firsts = refl;
}

-- a pin is added to a group
module _ (old mid new : PinGroups) (c delay group n : ℕ) (are : AreGroups old) (added : IsGroupAdded old mid c delay group) (links : new.links ≡ mid.links) (delays : new.delays.items ≡ mid.delays.items) (count : new.members.count ≡ mid.members.count) (members : new.members.classes ≡ mid.members.classes ++ group ∷ []) (owners : new.owners.items ≡ mid.owners.items ++ n ∷ []) (firsts : new.firsts.items ≡ mid.firsts.items) where
  between : AreGroups mid
  between = added.are are

  groups_same : (d e g : ℕ) → IsGroup mid.links.classes mid.delays.items d e g → IsGroup new.links.classes new.delays.items d e g
  groups_same d e g is = subst₂ (λ (l : _) ds. IsGroup l.classes ds d e g) (sym links) (sym delays) is

  pub pin_added : IsPinAdded old new c delay n
  pin_added = record {
    are = record {
      one_each = ap length delays ∙ (between.one_each ∙ sym (ap (λ l. length l.classes) links));
      owners_each = ap length owners ∙ (length_push mid.owners.items n ∙ (ap (λ k. k + 1) between.owners_each ∙ (sym (length_push mid.members.classes group) ∙ sym (ap length members))));
      count = count ∙ (between.count ∙ sym (ap (λ l. length l.classes) links));
    };
    longer = ap length members ∙ (length_push mid.members.classes group ∙ ap (λ gs. length gs + 1) added.members);
    firsts = firsts ∙ added.firsts;
    has = λ i first at here. record {
      group = group;
      place = length mid.members.classes;
      first = first;
      first_at = subst (λ fs. slice_get fs n ≡ Some first) (sym (firsts ∙ added.firsts)) at;
      place_is = ap length added.members ∙ here;
      group_is = groups_same c delay group (added.group_is are);
      member = subst (λ gs. slice_get gs (length mid.members.classes) ≡ Some group) (sym members) (get_last mid.members.classes group);
      owner = subst₂ (λ os j. slice_get os j ≡ Some n) (sym owners) between.owners_each (get_last mid.owners.items n);
    };
    kept = λ m i e d has. record {
      group = has.group;
      place = has.place;
      first = has.first;
      first_at = subst (λ fs. slice_get fs m ≡ Some has.first) (sym (firsts ∙ added.firsts)) has.first_at;
      place_is = has.place_is;
      group_is = groups_same d e has.group (added.kept has.group d e has.group_is);
      member = subst (λ gs. slice_get gs has.place ≡ Some has.group) (sym members) (get_push mid.members.classes group has.place has.group (subst (λ gs. slice_get gs has.place ≡ Some has.group) (sym added.members) has.member));
      owner = subst (λ os. slice_get os has.place ≡ Some m) (sym owners) (get_push mid.owners.items n has.place m (subst (λ os. slice_get os has.place ≡ Some m) (sym added.owners) has.owner));
    };
    only = λ j m there. by_case j m (push_cases mid.owners.items n j m (subst (λ os. slice_get os j ≡ Some m) owners there));
  }
    where
      by_case : (j m : ℕ) → (slice_get mid.owners.items j ≡ Some m) ⊎ ((j ≡ length mid.owners.items) × (n ≡ m)) → (slice_get old.owners.items j ≡ Some m) ⊎ (m ≡ n)
      by_case j m (inl there) = inl (subst (λ os. slice_get os j ≡ Some m) added.owners there)
      by_case j m (inr (e, f)) = inr (sym f)

-- what looks need is added
module _ (u : PinGroups) (by_group : GroupChoices) where
  abbrev pub with_looks : PinGroups
  with_looks = record { links = u.links; delays = u.delays; lanes = u.lanes; lane_delays = u.lane_delays; members = u.members; owners = u.owners; firsts = u.firsts; by_group = by_group }

  pub uses_looked : (cells : List CellParts) (choices : List Choice) (n k : ℕ) → AreUsesTo cells choices n k u → AreUsesTo cells choices n k with_looks
  uses_looked cells choices n k are = record {
    are = record {
      one_each = are.are.one_each;
      owners_each = are.are.owners_each;
      count = are.are.count;
    };
    low = are.low;
    all = λ m i c x before at pn.
        let has = are.all m i c x before at pn in
        record {
          group = has.group;
          place = has.place;
          first = has.first;
          first_at = has.first_at;
          place_is = has.place_is;
          group_is = has.group_is;
          member = has.member;
          owner = has.owner;
        };
  }

-- it is noted where the pins of the next choice begin
module _ (u v : PinGroups) (added : IsFirstAdded u v) where
  pub groups_first : AreGroups u → AreGroups v
  groups_first are = record {
    one_each = ap length added.delays ∙ (are.one_each ∙ sym (ap (λ (l : ChainState). length l.classes) added.links));
    owners_each = ap length added.owners ∙ (are.owners_each ∙ sym (ap (λ (l : ChainState). length l.classes) added.members));
    count = ap (λ (l : ChainState). l.count) added.members ∙ (are.count ∙ sym (ap (λ (l : ChainState). length l.classes) added.links));
  }

  first_kept : (m i e d : ℕ) → HasUse u m i e d → HasUse v m i e d
  first_kept m i e d has = record {
    group = has.group;
    place = has.place;
    first = has.first;
    first_at = subst (λ fs. slice_get fs m ≡ Some has.first) (sym added.firsts) (get_push u.firsts.items (length u.members.classes) m has.first has.first_at);
    place_is = has.place_is;
    group_is = subst₂ (λ (l : ChainState) ds. IsGroup l.classes ds d e has.group) (sym added.links) (sym added.delays) has.group_is;
    member = subst (λ (l : ChainState). slice_get l.classes has.place ≡ Some has.group) (sym added.members) has.member;
    owner = subst (λ os. slice_get os has.place ≡ Some m) (sym added.owners) has.owner;
  }

  -- they begin behind all
  pub first_behind : (n : ℕ) → length u.firsts.items ≡ n → slice_get v.firsts.items n ≡ Some (length v.members.classes)
  first_behind n e =
      let at = get_last u.firsts.items (length u.members.classes) in
      let at' = subst₂ (λ fs k. slice_get fs k ≡ Some (length u.members.classes)) (sym added.firsts) e at in
      at' ∙ ap (λ (l : ChainState). Some (length l.classes)) (sym added.members)

  pub firsts_longer : length v.firsts.items ≡ length u.firsts.items + 1
  firsts_longer = ap length added.firsts ∙ length_push u.firsts.items (length u.members.classes)

module _ (cells : List CellParts) (choices : List Choice) where
  pub none_used : (u : PinGroups) → AreGroups u → u.owners.items ≡ [] → AreUsesTo cells choices 0 0 u
  none_used u are none = record {
    are = are;
    low = λ j m at. absurd (nothing j m at);
    all = λ m i c x before at pn. no_pin m i before;
  }
    where
      nothing : (j m : ℕ) → slice_get u.owners.items j ≡ Some m → ⊥
      nothing j m at =
          let zero' : length u.owners.items ≡ 0 = ap length none in
          let lt = slice_get_within u.owners.items j m at in
          absurd (omega arith)

      no_pin : {X : Type 0} (m i : ℕ) → (m < 0) ⊎ ((m ≡ 0) × (i < 0)) → X
      no_pin m i (inl lt) = absurd (omega arith)
      no_pin m i (inr (e, lt)) = absurd (omega arith)

  -- where the pins of the next choice begin
  pub first_used : (n : ℕ) (u v : PinGroups) → IsFirstAdded u v → AreUsesTo cells choices n 0 u → AreUsesTo cells choices n 0 v
  first_used n u v added are = record {
    are = groups_first u v added are.are;
    low = λ j m there. are.low j m (subst (λ os. slice_get os j ≡ Some m) added.owners there);
    all = λ m i c x before xt xp. first_kept u v added m i (pin_delay cells x.part i) c (are.all m i c x before xt xp);
  }

  -- one more pin
  pub pin_used : (n k c cell class first : ℕ) (ps : List ℕ) (u v : PinGroups) → slice_get u.firsts.items n ≡ Some first → length u.members.classes ≡ first + k → slice_get choices n ≡ Some (record { class = class; part = gate cell ps }) → slice_get ps k ≡ Some c → IsPinAdded u v c (slice_index_or (delays_of (delays_of_cells cells) cell) k 0) n → AreUsesTo cells choices n k u → AreUsesTo cells choices n (k + 1) v
  pin_used n k c cell class first ps u v first_at here at pn added are = record {
    are = added.are;
    low = λ j m there. by_owner j m (added.only j m there);
    all = λ m i d x before xt xp. all m i d x before xt xp;
  }
    where
      by_owner : (j m : ℕ) → (slice_get u.owners.items j ≡ Some m) ⊎ (m ≡ n) → m < length choices
      by_owner j m (inl there) = are.low j m there
      by_owner j m (inr e) = let lt = slice_get_within choices n (record { class = class; part = gate cell ps }) at in omega arith

      all : (m i d : ℕ) (x : Choice) → (m < n) ⊎ ((m ≡ n) × (i < k + 1)) → slice_get choices m ≡ Some x → HasPinAt x.part i d → HasUse v m i (pin_delay cells x.part i) d
      all m i d x (inl lt) xt xp = added.kept m i (pin_delay cells x.part i) d (are.all m i d x (inl lt) xt xp)
      all m i d x (inr (g, lt)) xt xp = by_place (eq-or-lt_of_le {n = i} {m = k} (omega arith))
        where
          by_place : (i ≡ k) ⊎ (i < k) → HasUse v m i (pin_delay cells x.part i) d
          by_place (inr less) = added.kept m i (pin_delay cells x.part i) d (are.all m i d x (inr (g, less)) xt xp)
          by_place (inl same) =
              let y : x ≡ record { class = class; part = gate cell ps } = same_Some x (record { class = class; part = gate cell ps }) (sym xt ∙ (ap (slice_get choices) g ∙ at)) in
              let xp' : slice_get ps i ≡ Some d = subst (λ (z : Choice). HasPinAt z.part i d) y xp in
              let cd : c ≡ d = same_Some c d (sym pn ∙ (ap (slice_get ps) (sym same) ∙ xp')) in
              let dl : pin_delay cells x.part i ≡ slice_index_or (delays_of (delays_of_cells cells) cell) k 0 = ap (λ (z : Choice). pin_delay cells z.part i) y ∙ ap (λ j. slice_index_or (delays_of (delays_of_cells cells) cell) j 0) same in
              let l = subst (λ b. HasUse v n k (slice_index_or (delays_of (delays_of_cells cells) cell) k 0) b) cd (added.has k first first_at here) in
              let l' = subst (λ j. HasUse v n j (slice_index_or (delays_of (delays_of_cells cells) cell) k 0) d) (sym same) l in
              subst₂ (λ a b. HasUse v a i b d) (sym g) (sym dl) l'

  -- all pins of a choice
  pub choice_used : (n k cell class : ℕ) (ps : List ℕ) (u : PinGroups) → slice_get choices n ≡ Some (record { class = class; part = gate cell ps }) → length ps ≡ k → AreUsesTo cells choices n k u → AreUsesTo cells choices (n + 1) 0 u
  choice_used n k cell class ps u at size are = record {
    are = are.are;
    low = are.low;
    all = λ m i c x before xt xp. all m i c x before xt xp;
  }
    where
      all : (m i c : ℕ) (x : Choice) → (m < n + 1) ⊎ ((m ≡ n + 1) × (i < 0)) → slice_get choices m ≡ Some x → HasPinAt x.part i c → HasUse u m i (pin_delay cells x.part i) c
      all m i c x (inr (e, lt)) xt xp = absurd (omega arith)
      all m i c x (inl lt) xt xp = by_place (eq-or-lt_of_le {n = m} {m = n} (omega arith))
        where
          by_place : (m ≡ n) ⊎ (m < n) → HasUse u m i (pin_delay cells x.part i) c
          by_place (inr less) = are.all m i c x (inl less) xt xp
          by_place (inl same) =
              let y : x ≡ record { class = class; part = gate cell ps } = same_Some x (record { class = class; part = gate cell ps }) (sym xt ∙ (ap (slice_get choices) same ∙ at)) in
              let xp' : slice_get ps i ≡ Some c = subst (λ (z : Choice). HasPinAt z.part i c) y xp in
              let low = slice_get_within ps i c xp' in
              are.all m i c x (inr (same, omega arith)) xt xp

  -- an input has no pins
  pub input_used : (n i class : ℕ) (u : PinGroups) → slice_get choices n ≡ Some (record { class = class; part = input i }) → AreUsesTo cells choices n 0 u → AreUsesTo cells choices (n + 1) 0 u
  input_used n i class u at are = record {
    are = are.are;
    low = are.low;
    all = λ m k c x before xt xp. all m k c x before xt xp;
  }
    where
      all : (m k c : ℕ) (x : Choice) → (m < n + 1) ⊎ ((m ≡ n + 1) × (k < 0)) → slice_get choices m ≡ Some x → HasPinAt x.part k c → HasUse u m k (pin_delay cells x.part k) c
      all m k c x (inr (e, lt)) xt xp = absurd (omega arith)
      all m k c x (inl lt) xt xp = by_place (eq-or-lt_of_le {n = m} {m = n} (omega arith))
        where
          by_place : (m ≡ n) ⊎ (m < n) → HasUse u m k (pin_delay cells x.part k) c
          by_place (inr less) = are.all m k c x (inl less) xt xp
          by_place (inl same) =
              let y : x ≡ record { class = class; part = input i } = same_Some x (record { class = class; part = input i }) (sym xt ∙ (ap (slice_get choices) same ∙ at)) in
              absurd (subst (λ (z : Choice). HasPinAt z.part k c) y xp)

  pub delay_read : (cell : ℕ) (delays : List Micro) (k : ℕ) (z : Micro) → k < length delays → delays_of (delays_of_cells cells) cell ≡ map millionths delays → (slice_index_or delays k z).0 ≡ slice_index_or (delays_of (delays_of_cells cells) cell) k 0
  delay_read cell delays k z lt e = read delays k z lt ∙ ap (λ ds. slice_index_or ds k 0) (sym e)
    where
      read : (ds : List Micro) (k : ℕ) (z : Micro) → k < length ds → (slice_index_or ds k z).0 ≡ slice_index_or (map millionths ds) k 0
      read [] k z lt = absurd (omega arith)
      read (d ∷ ds) zero z lt = refl
      read (d ∷ ds) (suc k) z lt = read ds k z (omega arith)
