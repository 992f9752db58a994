-- Unions with one network more.
use Rattle.std.proofs.Common.{ℕ, zero, suc, ◌+◌, ◌-◌, ◌<◌, ◌≤◌, ◌≡◌, Bool, true, false, List, [], ◌∷◌, ◌++◌, length, take, drop, Option, Some, None, IfSome, slice_get, All, refl, ap, ap₂, sym, ◌∙◌, subst, subst₂, arith, append_assoc}
use Rattle.std.proofs.lemmas.List.{append-nil, length-append, length-drop, take_all}
use Rattle.std.proofs.lemmas.List.Elements.{All-cons, All-nil}
use Rattle.lw_net.specs.Networks.{IsNetwork, NetworkParts}
use Rattle.lw_net.specs.Unions.{ArePlacesIn, joined_to}
use Rattle.lw_joined.specs.declared.uniting.Other.{Other}
use Rattle.lw_joined.specs.declared.uniting.Union.{Union}
use Rattle.lw_joined.specs.Unions.{FitsOther, IsUnionOf, end_of, ends_from, own_places, places_from, united_to, with_taken}

-- one more place
places_more : (i n : ℕ) → places_from i (n + 1) ≡ places_from i n ++ (i + n) ∷ []
places_more i n = ap (places_from i) (let next : n + 1 ≡ suc n = omega arith in next) ∙ more i n
  where
    more : (i n : ℕ) → places_from i (suc n) ≡ places_from i n ++ (i + n) ∷ []
    more i zero = ap (λ k. k ∷ []) (let same : i ≡ i + 0 = omega arith in same)
    more i (suc n) = ap (λ ks. i ∷ ks) (more (suc i) n ∙ ap (λ k. places_from (suc i) n ++ k ∷ []) (let same : suc i + n ≡ i + suc n = omega arith in same))

pub own_more : (n : ℕ) → own_places (n + 1) ≡ own_places n ++ n ∷ []
own_more n = places_more 0 n ∙ ap (λ k. own_places n ++ k ∷ []) (let same : 0 + n ≡ n = omega arith in same)

places_long : (i n : ℕ) → length (places_from i n) ≡ n
places_long i zero = refl
places_long i (suc n) = omega (arith, places_long (suc i) n)

places_within : (i n most : ℕ) → i + n ≤ most → All (λ p. p < most) (places_from i n)
places_within i zero most low = All-nil (λ p. p < most)
places_within i (suc n) most low = All-cons (λ p. p < most) i (places_from (suc i) n) (omega (arith, low)) (places_within (suc i) n most (omega (arith, low)))

pub own_fit : (net : NetworkParts) → ArePlacesIn net.inputs net (own_places net.inputs)
own_fit net = record { one_each = places_long 0 net.inputs; within = places_within 0 net.inputs net.inputs (omega arith) }

-- how many nets there are
pub joined_names : (one other : NetworkParts) (places : List ℕ) → IsNetwork other → length (joined_to one other places).names ≡ length one.names + length other.nodes
joined_names one other places kept =
    omega (arith, length-append one.names (drop other.inputs other.names), length-drop other.inputs other.names, kept.named)

take_nil : (n : ℕ) → ◌≡◌ {A = List Other} (take n []) []
take_nil zero = refl
take_nil (suc n) = refl

-- the union of one more
united_next : (union : NetworkParts) (others : List Other) (taken : List Bool) (k : ℕ) (other : Other) (is_taken : Bool) → slice_get others k ≡ Some other → slice_get taken k ≡ Some is_taken → united_to union (take (suc k) others) (take (suc k) taken) ≡ with_taken (united_to union (take k others) (take k taken)) other is_taken
united_next union [] taken k other t e d = cc
united_next union (x ∷ others) [] k other t e d = cc
united_next union (x ∷ others) (y ∷ taken) zero other t e d = cc
united_next union (x ∷ others) (y ∷ taken) (suc k) other t e d = united_next (with_taken union x y) others taken k other t e d

ends_next : (union : NetworkParts) (others : List Other) (taken : List Bool) (k : ℕ) (other : Other) (is_taken : Bool) → slice_get others k ≡ Some other → slice_get taken k ≡ Some is_taken → ends_from union (take (suc k) others) (take (suc k) taken) ≡ ends_from union (take k others) (take k taken) ++ end_of (with_taken (united_to union (take k others) (take k taken)) other is_taken) is_taken
ends_next union [] taken k other t e d = cc
ends_next union (x ∷ others) [] k other t e d = cc
ends_next union (x ∷ others) (y ∷ taken) zero other t e d =
    let same : x ≡ other = cc in
    let also : y ≡ t = cc in
    append-nil (end_of (with_taken union x y) y) ∙ ap₂ (λ o b. end_of (with_taken union o b) b) same also
ends_next union (x ∷ others) (y ∷ taken) (suc k) other t e d =
    ap (λ es. end_of (with_taken union x y) y ++ es) (ends_next (with_taken union x y) others taken k other t e d)
    ∙ sym (append_assoc (end_of (with_taken union x y) y) (ends_from (with_taken union x y) (take k others) (take k taken)) (end_of (with_taken (united_to (with_taken union x y) (take k others) (take k taken)) other t) t))

pub union_more : (first : NetworkParts) (ends : List ℕ) (others : List Other) (taken : List Bool) (k : ℕ) (other : Other) (is_taken : Bool) (new : Option Union) → slice_get others k ≡ Some other → slice_get taken k ≡ Some is_taken → IsUnionOf (with_taken (united_to first (take k others) (take k taken)) other is_taken) ((ends ++ ends_from first (take k others) (take k taken)) ++ end_of (with_taken (united_to first (take k others) (take k taken)) other is_taken) is_taken) new → IsUnionOf (united_to first (take (k + 1) others) (take (k + 1) taken)) (ends ++ ends_from first (take (k + 1) others) (take (k + 1) taken)) new
union_more first ends others taken k other t new e d is =
    let next : suc k ≡ k + 1 = omega arith in
    let nets = united_next first others taken k other t e d in
    let behind = ap (λ es. ends ++ es) (ends_next first others taken k other t e d) ∙ sym (append_assoc ends (ends_from first (take k others) (take k taken)) (end_of (with_taken (united_to first (take k others) (take k taken)) other t) t)) in
    subst (λ n. IsUnionOf (united_to first (take n others) (take n taken)) (ends ++ ends_from first (take n others) (take n taken)) new) next
    (subst (λ (net : NetworkParts). IsUnionOf net (ends ++ ends_from first (take (suc k) others) (take (suc k) taken)) new) (sym nets)
    (subst (λ es. IsUnionOf (with_taken (united_to first (take k others) (take k taken)) other t) es new) (sym behind) is))

-- behind the end of what is taken nothing is
united_front : (union : NetworkParts) (others : List Other) (taken : List Bool) → united_to union (take (length taken) others) taken ≡ united_to union others taken
united_front union [] taken = ap (λ os. united_to union os taken) (take_nil (length taken))
united_front union (x ∷ others) [] = refl
united_front union (x ∷ others) (y ∷ taken) = united_front (with_taken union x y) others taken

ends_front : (union : NetworkParts) (others : List Other) (taken : List Bool) → ends_from union (take (length taken) others) taken ≡ ends_from union others taken
ends_front union [] taken = ap (λ os. ends_from union os taken) (take_nil (length taken))
ends_front union (x ∷ others) [] = refl
ends_front union (x ∷ others) (y ∷ taken) = ap (λ es. end_of (with_taken union x y) y ++ es) (ends_front (with_taken union x y) others taken)

pub union_whole : (first : NetworkParts) (ends : List ℕ) (others : List Other) (taken : List Bool) (k : ℕ) (union : Option Union) → k ≡ length taken → IsUnionOf (united_to first (take k others) (take k taken)) (ends ++ ends_from first (take k others) (take k taken)) union → IsUnionOf (united_to first others taken) (ends ++ ends_from first others taken) union
union_whole first ends others taken k union all is =
    subst₂ (λ (net : NetworkParts) (es : List ℕ). IsUnionOf net (ends ++ es) union) (united_front first others taken) (ends_front first others taken)
    (subst (λ ts. IsUnionOf (united_to first (take (length taken) others) ts) (ends ++ ends_from first (take (length taken) others) ts) union) (take_all (length taken) taken (omega arith))
    (subst (λ n. IsUnionOf (united_to first (take n others) (take n taken)) (ends ++ ends_from first (take n others) (take n taken)) union) all is))

-- one that is not taken adds nothing
pub united_without : (union : NetworkParts) (others : List Other) (taken : List Bool) → united_to union others (taken ++ false ∷ []) ≡ united_to union others taken
united_without union [] taken = refl
united_without union (x ∷ []) [] = refl
united_without union (x ∷ w ∷ others) [] = refl
united_without union (x ∷ others) (y ∷ taken) = united_without (with_taken union x y) others taken

pub ends_without : (union : NetworkParts) (others : List Other) (taken : List Bool) → ends_from union others (taken ++ false ∷ []) ≡ ends_from union others taken
ends_without union [] taken = refl
ends_without union (x ∷ []) [] = refl
ends_without union (x ∷ w ∷ others) [] = refl
ends_without union (x ∷ others) (y ∷ taken) = ap (λ es. end_of (with_taken union x y) y ++ es) (ends_without (with_taken union x y) others taken)

pub united_none : (union : NetworkParts) (others : List Other) → united_to union others [] ≡ union
united_none union [] = refl
united_none union (x ∷ others) = refl

-- a union has the inputs that it began with
pub inputs_stay : (union : NetworkParts) (others : List Other) (taken : List Bool) → (united_to union others taken).inputs ≡ union.inputs
inputs_stay union [] taken = refl
inputs_stay union (x ∷ others) [] = refl
inputs_stay union (x ∷ others) (true ∷ taken) = inputs_stay (with_taken union x true) others taken
inputs_stay union (x ∷ others) (false ∷ taken) = inputs_stay union others taken

pub still_fits : (first : NetworkParts) (ends : List ℕ) (others : List Other) (taken : List Bool) (other : Other) (union : Option Union) → IsUnionOf (united_to first others taken) ends union → FitsOther first other → IfSome union (λ u. FitsOther u.net other)
still_fits first ends others taken other None is fits = tt
still_fits first ends others taken other (Some u) is fits =
    subst (λ n. ArePlacesIn n other.net.now other.places.now) (sym (ap (λ (net : NetworkParts). net.inputs) is.0 ∙ inputs_stay first others taken)) fits
