-- The files of further networks, one after another.
use Rattle.std.proofs.Common.{◌≡◌, inl, inr, ℕ, zero, suc, ◌+◌, ◌<◌, ◌≤◌, All, List, [], ◌∷◌, ◌++◌, length, get_or, take, drop, Some, Result, Ok, Err, slice_get, slice_index_or, append_assoc, refl, ap, sym, ◌∙◌, subst, arith}
use Rattle.std.proofs.lemmas.List.{append-nil, at_drop_more, length-take-le, take_more}
use Rattle.std.proofs.lemmas.List.Elements.{All-from_recursion, recursion_from_All}
use Rattle.std.proofs.lemmas.Option.{slice_get_within}
use Rattle.std.proofs.lemmas.Slice.Zip.{AllZip-long, all_zipped_more}
use Rattle.std.specs.List.{AllByRecursion}
use Rattle.lw_files.specs.Steps.{Files}
use Rattle.lw_laws.proofs.Lists.{all_append}
use Rattle.lw_net.specs.Networks.{IsNetwork, NetworkParts, input_names}
use Rattle.lw_net.specs.Unions.{ArePlacesIn}
use Rattle.lw_joined.specs.declared.uniting.Other.{Other}
use Rattle.lw_joined.specs.Places.{ArePlacesOf}
use Rattle.lw_area.specs.declared.refusal.Refusal.{Refusal}
use Rattle.lw_area.specs.declared.sources.Further.{Further}
use Rattle.lw_area.specs.Sources.{AreOthersOf, ReadsFurther, ReadsOne}

-- what comes of a list behind others
abbrev pub behind : List Further → Result (List Further) Refusal → Result (List Further) Refusal
behind xs (Ok ys) = Ok (xs ++ ys)
behind xs (Err e) = Err e

behind_both : (xs ys : List Further) (r : Result (List Further) Refusal) → behind xs (behind ys r) ≡ behind (xs ++ ys) r
behind_both xs ys (Ok zs) = simp append_assoc
behind_both xs ys (Err e) = refl

module _ (names : List (List ℕ)) (words : List (List ℕ)) where
  -- these were read before a place, and the rest decides what comes of all
  abbrev pub AreRead : ℕ → List Further → Files → Type 0
  AreRead k xs files = (r : Result (List Further) Refusal) → ReadsFurther names k (drop k words) files r → ReadsFurther names 0 words files (behind xs r)

  pub none_read : (files : Files) → AreRead 0 [] files
  none_read files (Ok ys) is = is
  none_read files (Err e) is = is

  module _ (k : ℕ) (word : List ℕ) (split : drop k words ≡ word ∷ drop (k + 1) words) (xs : List Further) (files : Files) (are : AreRead k xs files) where
    here : (r : Result (List Further) Refusal) → ReadsFurther names k (word ∷ drop (k + 1) words) files r → ReadsFurther names 0 words files (behind xs r)
    here r is = are r (subst (λ ws. ReadsFurther names k ws files r) (sym split) is)

    pub one_refused : (e : Refusal) → ReadsOne names k word files (Err e) → ReadsFurther names 0 words files (Err e)
    one_refused e is = here (Err e) (inr (e, is, refl))

    pub one_read : (f : Further) → ReadsOne names k word files (Ok f) → AreRead (k + 1) (xs ++ f ∷ []) files
    one_read f one r is =
        let next : suc k ≡ k + 1 = omega arith in
        let rest : ReadsFurther names (suc k) (drop (k + 1) words) files r = subst (λ n. ReadsFurther names n (drop (k + 1) words) files r) (sym next) is in
        subst (ReadsFurther names 0 words files) (behind_both xs (f ∷ []) r) (here (behind (f ∷ []) r) (by r rest))
      where
        by : (r : Result (List Further) Refusal) → ReadsFurther names (suc k) (drop (k + 1) words) files r → ReadsFurther names k (word ∷ drop (k + 1) words) files (behind (f ∷ []) r)
        by (Ok ys) rest = inl (f, one, inl (ys, rest, refl))
        by (Err e) rest = inl (f, one, inr (e, rest, refl))

  pub all_read : (k : ℕ) (xs : List Further) (files : Files) → length words ≤ k → AreRead k xs files → ReadsFurther names 0 words files (Ok xs)
  all_read k xs files le are =
      subst (λ ys. ReadsFurther names 0 words files (Ok ys)) (append-nil xs) (are (Ok []) (subst (λ ws. ReadsFurther names k ws files (Ok [])) (sym (none_left words k le)) refl))
    where
      none_left : (ws : List (List ℕ)) (k : ℕ) → length ws ≤ k → drop k ws ≡ []
      none_left [] zero le = refl
      none_left [] (suc k) le = refl
      none_left (w ∷ ws) zero le = absurd (omega arith)
      none_left (w ∷ ws) (suc k) le = none_left ws k (omega arith)

-- the words from a place on
pub word_first : (words : List (List ℕ)) (k : ℕ) → k < length words → drop k words ≡ slice_index_or words k [] ∷ drop (k + 1) words
word_first words k lt = at_drop_more (λ (ws : List (List ℕ)). ws) words k [] lt

-- the places of names are below their number
each_below : (names : List (List ℕ)) (places : List ℕ) (inputs : List (List ℕ)) → ArePlacesOf names inputs places → AllByRecursion (λ (i : ℕ). i < length names) places
each_below names [] [] are = tt
each_below names [] (name ∷ inputs) are = absurd are
each_below names (place ∷ places) [] are = absurd are
each_below names (place ∷ places) (name ∷ inputs) (at, are) = (slice_get_within names place name at, each_below names places inputs are)

pub places_fit : (names : List (List ℕ)) (other : NetworkParts) (places : List ℕ) → IsNetwork other → ArePlacesOf names (input_names other) places → ArePlacesIn (length names) other places
places_fit names other places kept are =
    let named = kept.named in
    record {
      one_each = sym (AllZip-long (λ (place : ℕ) (name : List ℕ). slice_get names place ≡ Some name) places (input_names other) are) ∙ length-take-le other.inputs other.names (omega arith);
      within = All-from_recursion (λ (i : ℕ). i < length names) places (each_below names places (input_names other) are);
    }

-- one more element
pub all_more : {X : Type 0} (P : X → Type 0) (xs : List X) (x : X) → All P xs → P x → All P (xs ++ x ∷ [])
all_more P xs x all one = All-from_recursion P (xs ++ x ∷ []) (all_append P xs (x ∷ []) (recursion_from_All P xs all) (one, tt))

-- reading further networks refuses for nothing that reading one does not
pub further_never : (names : List (List ℕ)) (files : Files) (e : Refusal) → ((place : ℕ) (word : List ℕ) → ReadsOne names place word files (Err e) → ⊥) → (place : ℕ) (words : List (List ℕ)) → ReadsFurther names place words files (Err e) → ⊥
further_never names files e never place [] nothing = nothing
further_never names files e never place (word ∷ words) (inl (one, read, inl (rest, more, nothing))) = nothing
further_never names files e never place (word ∷ words) (inl (one, read, inr (d, more, same))) =
    let is : d ≡ e = cc in
    further_never names files e never (suc place) words (subst (λ (r : Refusal). ReadsFurther names (suc place) words files (Err r)) is more)
further_never names files e never place (word ∷ words) (inr (d, read, same)) =
    let is : d ≡ e = cc in
    never place word (subst (λ (r : Refusal). ReadsOne names place word files (Err r)) is read)

-- one further network more
pub others_more : (further : List Further) (i : ℕ) (one : Further) (other : Other) (others : List Other) → i < length further → one ≡ get_or further i one → AreOthersOf (take i further) others → (other.net.now ≡ one.network) × (other.places.now ≡ one.places.items) → AreOthersOf (take (i + 1) further) (others ++ other ∷ [])
others_more further i one other others lt at are is =
    let parts : take (i + 1) further ≡ take i further ++ one ∷ [] = take_more further i one lt ∙ ap (λ (f : Further). take i further ++ f ∷ []) (sym at) in
    subst (λ (fs : List Further). AreOthersOf fs (others ++ other ∷ [])) (sym parts) (all_zipped_more (λ (f : Further) (o : Other). (o.net.now ≡ f.network) × (o.places.now ≡ f.places.items)) (take i further) others one other are is)
