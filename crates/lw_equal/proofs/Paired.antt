-- Pairs of nets at points.
use Rattle.std.proofs.Common.{ℕ, ◌+◌, ◌<◌, ◌≤◌, ◌≡◌, List, [], ◌∷◌, ◌++◌, length, take, get_or, map, All, Contains, ◌⊎◌, inl, inr, refl, ap, sym, subst, ◌∙◌, arith, false, true≢false}
use Rattle.std.specs.Prelude.{◌==◌}
use Rattle.std.proofs.lemmas.List.{length-map, map_more, take_all, take_more}
use Rattle.std.proofs.lemmas.List.Elements.{All-map, All-push, Contains-append_left, Contains-push, Contains-push_cases}
use Rattle.lw_net.proofs.Nets.{same_net}
use Rattle.lw_facts.proofs.Lists.{contains_map}
use Rattle.lw_frame.specs.Frames.{output_of}
use Rattle.lw_pool.specs.declared.id.NetId.{NetId}
use Rattle.lw_equal.specs.declared.answer.Answer.{Answer}
use Rattle.lw_equal.specs.declared.answer.Answer.TheVariants.{Equal, Differ, Undecided}
use Rattle.lw_equal.specs.declared.pairing.Pair.{Pair}
use Rattle.lw_equal.specs.declared.point.Kind.{Kind}
use Rattle.lw_equal.specs.declared.point.Kind.TheVariants.{Output, Data, Control}
use Rattle.lw_equal.specs.declared.point.Point.{Point}
use Rattle.lw_equal.specs.declared.side.Side.{Side}
use Rattle.lw_equal.specs.Answers.{Claims, HaveOneValue, IsShared}
use Rattle.lw_equal.specs.Cases.{AreJudged, LeavesOpen, Settles, point_of}
use Rattle.lw_equal.specs.Known.{HasNoNet, IsOnlyNet}
use Rattle.lw_equal.specs.Pairs.{AreAllPairs, Covers, Grows, IsPair}
use Rattle.lw_equal.specs.Sides.{IsNetAt, IsNetOf, root_names}
use Rattle.lw_equal.proofs.Roots.{control_named, output_named, stored_named}

pub same_pairs : (one other : Side) (pairs : List Pair) → Grows one other pairs pairs
same_pairs one other pairs = record { sound = λ all. all; kept = λ pair has. has }

pub grow_twice : (one other : Side) (a b c : List Pair) → Grows one other a b → Grows one other b c → Grows one other a c
grow_twice one other a b c first second = record { sound = λ all. second.sound (first.sound all); kept = λ pair has. second.kept pair (first.kept pair has) }

pub covered_later : (one other : Side) (kind : Kind) (name : List ℕ) (old new : List Pair) → Grows one other old new → Covers one other kind name old → Covers one other kind name new
covered_later one other kind name old new grows covers k m at at' = grows.kept (record { point = record { kind = kind; name = name }; left = k; right = m }) (covers k m at at')

-- a side without a net at a point has no pair there
pub no_left : (one other : Side) (kind : Kind) (name : List ℕ) (pairs : List Pair) → HasNoNet kind one name → Covers one other kind name pairs
no_left one other kind name pairs none k m at at' = absurd (none k.0 at)

pub no_right : (one other : Side) (kind : Kind) (name : List ℕ) (pairs : List Pair) → HasNoNet kind other name → Covers one other kind name pairs
no_right one other kind name pairs none k m at at' = absurd (none m.0 at')

module _ (one other : Side) (kind : Kind) (name : List ℕ) (old : List Pair) (left right : NetId) (first : IsOnlyNet kind one name left.0) (second : IsOnlyNet kind other name right.0) where
  abbrev it : Pair
  it = record { point = record { kind = kind; name = name }; left = left; right = right }

  pub one_more : Grows one other old (old ++ it ∷ [])
  one_more = record { sound = λ all. All-push (IsPair one other) old it all (record { left = first.is; right = second.is }); kept = λ pair has. Contains-append_left old (it ∷ []) pair has }

  pub covered : Covers one other kind name (old ++ it ∷ [])
  covered k m at at' =
      let P : NetId → NetId → Type 0 = λ a b. Contains (old ++ it ∷ []) (record { point = record { kind = kind; name = name }; left = a; right = b }) in
      subst (λ a. P a m) (sym (same_net k left (first.only k.0 at))) (subst (λ b. P left b) (sym (same_net m right (second.only m.0 at'))) (Contains-push old it))

-- the names that were gone through are covered
pub more_covered : (one other : Side) (kind : Kind) (names : List (List ℕ)) (i : ℕ) (name : List ℕ) (old new : List Pair) → i < length names → name ≡ get_or names i name → Grows one other old new
    → ((n : List ℕ) → Contains (take i names) n → Covers one other kind n old) → Covers one other kind name new → (n : List ℕ) → Contains (take (i + 1) names) n → Covers one other kind n new
more_covered one other kind names i name old new lt here grows before covers n has =
    by (Contains-push_cases (take i names) (get_or names i name) n (subst (λ ns. Contains ns n) (take_more names i name lt) has))
  where
    by : Contains (take i names) n ⊎ (get_or names i name ≡ n) → Covers one other kind n new
    by (inl earlier) = covered_later one other kind n old new grows (before n earlier)
    by (inr this) = subst (λ m. Covers one other kind m new) (here ∙ this) covers

-- all points are covered
pub all_covered : (one other : Side) (pairs : List Pair) → All (IsPair one other) pairs
    → ((n : List ℕ) → Contains (take one.frame.now.outputs (root_names one.logic)) n → Covers one other Output n pairs)
    → ((n : List ℕ) → Contains (map output_of one.frame.now.latches) n → Covers one other Data n pairs)
    → ((n : List ℕ) → Contains (map output_of one.frame.now.latches) n → Covers one other Control n pairs) → AreAllPairs one other pairs
all_covered one other pairs sound outputs data' controls = record { sound = sound; complete = λ point k m at at'. by point.kind point.name k m at at' }
  where
    by : (kind : Kind) (name : List ℕ) (k m : NetId) → IsNetOf kind one name k.0 → IsNetOf kind other name m.0 → Contains pairs (record { point = record { kind = kind; name = name }; left = k; right = m })
    by Output name k m at at' = outputs name (output_named one name k.0 at) k m at at'
    by Data name k m at at' = data' name (stored_named one name k.0 at) k m at at'
    by Control name k m at at' = controls name (control_named one name k.0 at) k m at at'

-- What pairs tell of points.

no_points : (point : Point) → Contains [] point → ⊥
no_points point (k, lt, e) = absurd (omega arith)

pub settled : (one other : Side) (pairs : List Pair) (answer : Answer) → AreAllPairs one other pairs → Settles one other pairs answer → Claims one other answer
settled one other pairs Equal all is = λ point k m at at'. is (record { point = point; left = record { 0 = k }; right = record { 0 = m } }) (all.complete point (record { 0 = k }) (record { 0 = m }) at at') (no_points point)
settled one other pairs (Differ d) all is = is
settled one other pairs (Undecided undecided) all is = record {
  some = is.some;
  shared = is.shared;
  others = λ point absent k m at at'. is.judged (record { point = point; left = record { 0 = k }; right = record { 0 = m } }) (all.complete point (record { 0 = k }) (record { 0 = m }) at at') absent;
}

pub shared_point : (one other : Side) (pair : Pair) → IsPair one other pair → IsShared one other pair.point
shared_point one other pair is = record { left = pair.left.0; is_left = is.left; right = pair.right.0; is_right = is.right }

-- where the points of all pairs are left undecided
pub all_left : (one other : Side) (pairs : List Pair) (undecided : List Point) → All (IsPair one other) pairs → 0 < length pairs → undecided ≡ map point_of pairs → LeavesOpen one other pairs undecided
all_left one other pairs undecided sound some is =
    let size = length-map pairs point_of in
    let long = ap length is in
    record {
      some = omega (arith, size, long);
      shared = subst (All (IsShared one other)) (sym is) (All-map (IsShared one other) point_of pairs (λ k d lt. shared_point one other (get_or pairs k d) (sound k d lt)));
      judged = λ pair has absent. absurd (absent (subst (λ us. Contains us pair.point) (sym is) (contains_map point_of pairs pair has)));
    }

-- a list that is not empty has an element
pub some_pairs : (pairs : List Pair) → (length pairs == 0) ≡ false → 0 < length pairs
some_pairs [] e = absurd (true≢false e)
some_pairs (p ∷ ps) e = omega arith

-- where there are no pairs, all are judged
pub none_judged : (one other : Side) (pairs : List Pair) → length pairs ≡ 0 → AreJudged one other pairs []
none_judged one other pairs none pair (k, lt, e) absent = absurd (omega (arith, none, lt))

no_elements : (points : List Point) → length points ≡ 0 → points ≡ []
no_elements [] none = refl
no_elements (p ∷ ps) none = absurd (omega (arith, none))

-- all pairs were gone through
pub all_judged : (one other : Side) (pairs : List Pair) (i : ℕ) (undecided : List Point) → length pairs ≤ i → AreJudged one other (take i pairs) undecided → AreJudged one other pairs undecided
all_judged one other pairs i undecided past is = subst (λ ps. AreJudged one other ps undecided) (take_all i pairs past) is

pub all_equal : (one other : Side) (pairs : List Pair) (i : ℕ) (undecided : List Point) → length pairs ≤ i → length undecided ≡ 0 → AreJudged one other (take i pairs) undecided → AreJudged one other pairs []
all_equal one other pairs i undecided past none is = subst (AreJudged one other pairs) (no_elements undecided none) (all_judged one other pairs i undecided past is)

module _ (pairs : List Pair) (i : ℕ) (pair : Pair) (lt : i < length pairs) (here : pair ≡ get_or pairs i pair) where
  earlier_or_this : (p : Pair) → Contains (take (i + 1) pairs) p → Contains (take i pairs) p ⊎ (pair ≡ p)
  earlier_or_this p has = by (Contains-push_cases (take i pairs) (get_or pairs i pair) p (subst (λ ps. Contains ps p) (take_more pairs i pair lt) has))
    where
      by : Contains (take i pairs) p ⊎ (get_or pairs i pair ≡ p) → Contains (take i pairs) p ⊎ (pair ≡ p)
      by (inl earlier) = inl earlier
      by (inr this) = inr (here ∙ this)

  -- one more point
  pub points_more : (points : List Point) (point : Point) → point ≡ pair.point → points ≡ map point_of (take i pairs) → points ++ point ∷ [] ≡ map point_of (take (i + 1) pairs)
  points_more points point same was =
      ap (λ ps. ps ++ point ∷ []) was
      ∙ (ap (λ p. map point_of (take i pairs) ++ p ∷ []) (same ∙ ap point_of here)
      ∙ sym (map_more point_of pairs i pair lt))

  module _ (one other : Side) (undecided : List Point) (judged : AreJudged one other (take i pairs) undecided) where
    -- one more that has one value
    pub same_more : HaveOneValue one other pair.left.0 pair.right.0 → AreJudged one other (take (i + 1) pairs) undecided
    same_more value p has absent = by (earlier_or_this p has)
      where
        by : Contains (take i pairs) p ⊎ (pair ≡ p) → HaveOneValue one other p.left.0 p.right.0
        by (inl earlier) = judged p earlier absent
        by (inr this) = subst (λ (q : Pair). HaveOneValue one other q.left.0 q.right.0) this value

    -- one more that is undecided
    pub judged_more : (point : Point) → point ≡ pair.point → AreJudged one other (take (i + 1) pairs) (undecided ++ point ∷ [])
    judged_more point same p has absent = by (earlier_or_this p has)
      where
        by : Contains (take i pairs) p ⊎ (pair ≡ p) → HaveOneValue one other p.left.0 p.right.0
        by (inl earlier) = judged p earlier (λ was. absent (Contains-append_left undecided (point ∷ []) p.point was))
        by (inr this) = absurd (absent (subst (Contains (undecided ++ point ∷ [])) (same ∙ ap (λ (q : Pair). q.point) this) (Contains-push undecided point)))
