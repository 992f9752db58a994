-- Which others are left out of a union, and the limits that they pass.
use Rattle.std.proofs.Common.{ℕ, zero, suc, ◌+◌, ◌<◌, ◌≤◌, ◌≡◌, ◌≢◌, ◌⊎◌, inl, inr, Bool, true, false, List, [], ◌∷◌, ◌++◌, length, replicate, Some, Result, IfOk, slice_get, refl, ap, sym, ◌∙◌, subst, subst₂, arith}
use Rattle.std.proofs.lemmas.List.{length-take-le, take-append-le, take_all}
use Rattle.std.proofs.lemmas.Option.{none-some, slice_get_within}
use Rattle.lw_facts.proofs.Lists.{get_last, get_last_cases, get_left}
use Rattle.lw_pool.specs.Numbers.{most_signals}
use Rattle.lw_laws.specs.Networks as laws
use Rattle.lw_laws.specs.Mapped.{forms_of}
use Rattle.lw_laws.specs.NumberedForms.{NumberedForms}
use Rattle.lw_laws.specs.Occurring.{occurring_forms, split_count}
use Rattle.lw_net.specs.Networks.{IsNetwork, NetworkParts, plain}
use Rattle.lw_net.specs.Unions.{bare}
use Rattle.lw_form.specs.Limits.{most_bases}
use Rattle.lw_form.specs.Kept.{AreForms}
use Rattle.lw_assoc.specs.Modes.{law_mode}
use Rattle.lw_assoc.specs.Splits.{most_splits, numbered_splits}
use Rattle.lw_assoc.proofs.Counts.{network_splits}
use Rattle.lw_map.specs.Options.{Options, plain_options}
use Rattle.lw_map.specs.declared.options.Options as code
use Rattle.lw_map.specs.Faults.{IsChoiceFault}
use Rattle.lw_map.specs.Mapped.{HasTooManySplits, IsWithinLimits}
use Rattle.lw_map.proofs.ChoiceLemmas.{few_bases}
use Rattle.lw_joined.specs.declared.uniting.Union.{Union}
use Rattle.lw_joined.specs.declared.taking.Left.{Left}
use Rattle.lw_joined.specs.declared.taking.Limit.{Limit}
use Rattle.lw_joined.specs.declared.taking.Limit.TheVariants.{Signals, Forms, Splits}
use Rattle.lw_joined.specs.declared.taking.Listed.{Listed}
use Rattle.lw_joined.specs.declared.taking.Listing.{Listing}
use Rattle.lw_joined.specs.declared.taking.Offer.{Offer}
use Rattle.lw_joined.specs.Unions.{LeavesOut, IsListedAs, IsListingOf, IsPast, IsUnion, ListsTaken, ListsUnion, first_of, limit_fault, own_places, tried_at, union_in}
use Rattle.lw_joined.proofs.Alone.{plain_alone}
use Rattle.lw_joined.proofs.Unions.{ends_without, joined_names, united_none, united_without}

-- a union that has its forms listed, and one that passes a limit
pub is_within : (options : code.Options) (net : NetworkParts) (forms : NumberedForms) → AreForms forms → forms ≡ forms_of options.width (plain net) → (count : ℕ) → count ≡ numbered_splits (law_mode options.mode) forms → count ≤ most_splits → IsWithinLimits (plain_options options) net
is_within options net forms are is count counted few = record {
  forms = few_bases (plain_options options) net forms are is;
  splits = subst (λ n. n ≤ most_splits) (counted ∙ (ap (numbered_splits (law_mode options.mode)) is ∙ network_splits (law_mode options.mode) options.width (plain net))) few;
}

pub past_splits : (options : code.Options) (net : NetworkParts) (forms : NumberedForms) → AreForms forms → forms ≡ forms_of options.width (plain net) → (count : ℕ) → count ≡ numbered_splits (law_mode options.mode) forms → most_splits < count → HasTooManySplits (plain_options options) net
past_splits options net forms are is count counted many = (
  few_bases (plain_options options) net forms are is,
  subst (λ n. most_splits < n) (counted ∙ (ap (numbered_splits (law_mode options.mode)) is ∙ network_splits (law_mode options.mode) options.width (plain net))) many,
)

-- what is listed of a union is that of those that are taken
pub lists_union : {E : Type 0} (o : Offer) (taken : List Bool) (u : Union) (r : Result Listing E) → IsUnion o.net.now o.others.now taken (Some u) → IfOk r (IsListingOf o.options u.net u.ends.items) → IfOk r (ListsUnion o taken)
lists_union o taken u r (same, behind) is =
    subst₂ (λ (net : NetworkParts) (ends : List ℕ). IfOk r (IsListingOf o.options net ends)) same behind is

-- The first network alone.

alone_names : (net : NetworkParts) → IsNetwork net → length (first_of net).names ≡ length net.names
alone_names net kept =
    let all = joined_names (bare net) net (own_places net.inputs) kept in
    let own : length (bare net).names ≡ net.inputs = length-take-le net.inputs net.names (omega (arith, kept.named)) in
    omega (arith, all, own, kept.named)

pub few_signals : (o : Offer) → IsNetwork o.net.now → (limit : Limit) → IsPast (plain_options o.options) (union_in o []) limit → limit ≢ Signals
few_signals o kept Signals past same =
    let many = subst (λ (net : NetworkParts). most_signals < length net.names) (united_none (first_of o.net.now) o.others.now) past in
    omega (arith, many, alone_names o.net.now kept, kept.few)
few_signals o kept Forms past same = cc
few_signals o kept Splits past same = cc

alone_is : (o : Offer) → IsNetwork o.net.now → plain (union_in o []) ≡ plain o.net.now
alone_is o kept = ap plain (united_none (first_of o.net.now) o.others.now) ∙ plain_alone o.net.now kept

pub first_fault : (o : Offer) → IsNetwork o.net.now → (limit : Limit) → IsPast (plain_options o.options) (union_in o []) limit → limit ≢ Signals → IsChoiceFault (plain_options o.options) o.net.now (limit_fault limit)
first_fault o kept Signals past other = absurd (other refl)
first_fault o kept Forms past other =
    subst (λ (net : laws.Network). most_bases < length (occurring_forms o.options.width net)) (alone_is o kept) past
first_fault o kept Splits (few, many) other = (
  subst (λ (net : laws.Network). length (occurring_forms o.options.width net) ≤ most_bases) (alone_is o kept) few,
  subst (λ (net : laws.Network). most_splits < split_count (law_mode o.options.mode) (occurring_forms o.options.width net)) (alone_is o kept) many,
)

-- Those that are left out.

pub none_left : (o : Offer) (n : ℕ) → LeavesOut o (replicate n true) []
none_left o n = record {
  all = λ place at. absurd (not_false n place at);
  each = λ k l at. absurd (none-some l at);
}
  where
    not_false : (n place : ℕ) → slice_get (replicate n true) place ≡ Some false → ⊥
    not_false zero place at = cc
    not_false (suc n) zero at = cc
    not_false (suc n) (suc place) at = not_false n place at

-- what was told before is still so
told_before : (o : Offer) (taken : List Bool) (b : Bool) (l : Left) → (slice_get taken l.place ≡ Some false) × IsPast (plain_options o.options) (union_in o (tried_at l.place taken)) l.limit → (slice_get (taken ++ b ∷ []) l.place ≡ Some false) × IsPast (plain_options o.options) (union_in o (tried_at l.place (taken ++ b ∷ []))) l.limit
told_before o taken b l (at, past) =
    let low = slice_get_within taken l.place false at in (
      get_left taken (b ∷ []) l.place false at,
      subst (λ ts. IsPast (plain_options o.options) (union_in o (ts ++ true ∷ [])) l.limit) (sym (take-append-le l.place taken (b ∷ []) (omega (arith, low)))) past,
    )

pub left_same : (o : Offer) (taken : List Bool) (left : List Left) → LeavesOut o taken left → LeavesOut o (taken ++ true ∷ []) left
left_same o taken left out = record {
  all = λ place at. by place (get_last_cases taken true place false at);
  each = λ k l at. told_before o taken true l (out.each k l at);
}
  where
    by : (place : ℕ) → (slice_get taken place ≡ Some false) ⊎ ((place ≡ length taken) × (false ≡ true)) → (k : ℕ) × (l : Left) × (slice_get left k ≡ Some l) × (l.place ≡ place)
    by place (inl at) = out.all place at
    by place (inr (p, q)) = cc

pub left_more : (o : Offer) (taken : List Bool) (left : List Left) (l : Left) → l.place ≡ length taken → LeavesOut o taken left → IsPast (plain_options o.options) (union_in o (taken ++ true ∷ [])) l.limit → LeavesOut o (taken ++ false ∷ []) (left ++ l ∷ [])
left_more o taken left new here out past = record {
  all = λ place at. by place (get_last_cases taken false place false at);
  each = λ k l at. told k l (get_last_cases left new k l at);
}
  where
    by : (place : ℕ) → (slice_get taken place ≡ Some false) ⊎ ((place ≡ length taken) × (false ≡ false)) → (k : ℕ) × (l : Left) × (slice_get (left ++ new ∷ []) k ≡ Some l) × (l.place ≡ place)
    by place (inl at) = let (k, l, e, same) = out.all place at in (k, l, get_left left (new ∷ []) k l e, same)
    by place (inr (p, q)) = (length left, new, get_last left new, here ∙ sym p)

    new_told : (slice_get (taken ++ false ∷ []) new.place ≡ Some false) × IsPast (plain_options o.options) (union_in o (tried_at new.place (taken ++ false ∷ []))) new.limit
    new_told = (
      subst (λ n. slice_get (taken ++ false ∷ []) n ≡ Some false) (sym here) (get_last taken false),
      subst (λ ts. IsPast (plain_options o.options) (union_in o (ts ++ true ∷ [])) new.limit)
          (sym (take-append-le new.place taken (false ∷ []) (omega (arith, here)) ∙ take_all new.place taken (omega (arith, here)))) past,
    )

    told : (k : ℕ) (l : Left) → (slice_get left k ≡ Some l) ⊎ ((k ≡ length left) × (l ≡ new)) → (slice_get (taken ++ false ∷ []) l.place ≡ Some false) × IsPast (plain_options o.options) (union_in o (tried_at l.place (taken ++ false ∷ []))) l.limit
    told k l (inl at) = told_before o taken false l (out.each k l at)
    told k l (inr (p, same)) = subst (λ (m : Left). (slice_get (taken ++ false ∷ []) m.place ≡ Some false) × IsPast (plain_options o.options) (union_in o (tried_at m.place (taken ++ false ∷ []))) m.limit) (sym same) new_told

-- one that is left out adds nothing
pub listed_without : (o : Offer) (taken : List Bool) (l : Listed) → ListsTaken o taken l → ListsTaken o (taken ++ false ∷ []) l
listed_without o taken l is =
    subst₂ (λ (net : NetworkParts) (ends : List ℕ). IsListedAs o.options net (length (first_of o.net.now).names ∷ ends) l)
    (sym (united_without (first_of o.net.now) o.others.now taken)) (sym (ends_without (first_of o.net.now) o.others.now taken)) is
