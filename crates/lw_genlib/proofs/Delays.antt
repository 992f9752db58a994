-- Delays of pins.
use Rattle.std.proofs.Common.{ℕ, zero, suc, ◌+◌, ◌<◌, ◌≡◌, Bool, true, false, ◌||◌, List, [], ◌∷◌, ◌++◌, length, map, take, get_or, Option, None, Some, refl, ap, ap₂, sym, ◌∙◌, subst, arith}
use Rattle.std.specs.Prelude.{replicate, All, unwrap_or}
use Rattle.std.specs.List.{list_any}
use Rattle.std.specs.Option.{option_or}
use Rattle.std.proofs.lemmas.List.{length-replicate, map-append, take_more}
use Rattle.std.proofs.lemmas.List.Folds.{list_any-append}
use Rattle.std.proofs.lemmas.Bool.{or_right}
use Rattle.lw_fixed.specs.declared.micro.Micro.{Micro}
use Rattle.lw_genlib.specs.Entries.{no_delay}
use Rattle.lw_genlib.specs.Kept.{IsSmallDelay, AreDelays}
use Rattle.lw_genlib.specs.Merging.{is_missing, own_or, delay_by}

none-small : (n : ℕ) → All IsSmallDelay (replicate n None)
none-small zero k d below = absurd (omega arith)
none-small (suc n) zero d below = tt
none-small (suc n) (suc k) d below = none-small n k d (omega arith)

pub no-delays : (named : List (Option Micro)) (pins : List (List ℕ)) (n : ℕ) → named ≡ replicate n None → n ≡ length pins → AreDelays named None pins
no-delays named pins n is size = record {
  one_each = ap length is ∙ (length-replicate n None ∙ size);
  small = subst (All IsSmallDelay) (sym is) (none-small n);
  every_small = tt;
}

-- The delays of the first pins.
abbrev lacks : Option Micro → Option Micro → Bool
lacks every own = is_missing (own_or every own)

pub or-same : (every own : Option Micro) → own_or every own ≡ option_or own every
or-same every (Some delay) = refl
or-same every None = refl

pub one-more : (every : Option Micro) (named : List (Option Micro)) (i : ℕ) (own : Option Micro) (delay : Micro) (delays new : List Micro) → i < length named → own ≡ get_or named i None → own_or every own ≡ Some delay → new ≡ delays ++ delay ∷ []
    → (delays ≡ map (delay_by every) (take i named)) × (list_any (λ o. is_missing (own_or every o)) (take i named) ≡ false)
    → (new ≡ map (delay_by every) (take (i + 1) named)) × (list_any (λ o. is_missing (own_or every o)) (take (i + 1) named) ≡ false)
one-more every named i own delay delays new lt at some grown (are, none) =
    let here : take (i + 1) named ≡ take i named ++ own ∷ [] = take_more named i None lt ∙ ap (λ (o : Option Micro). take i named ++ o ∷ []) (sym at) in (
      grown ∙ (ap₂ (λ (ds : List Micro) (d : Micro). ds ++ d ∷ []) are (ap (λ (o : Option Micro). unwrap_or o no_delay) (sym some)) ∙ (sym (map-append (delay_by every) (take i named) (own ∷ [])) ∙ ap (map (delay_by every)) (sym here))),
      ap (list_any (lacks every)) here ∙ (list_any-append (lacks every) (take i named) (own ∷ []) ∙ ap₂ (λ a b. a || b) none (ap (λ (o : Option Micro). is_missing o || false) some)),
    )

any-at : (p : Option Micro → Bool) (xs : List (Option Micro)) (i : ℕ) (d : Option Micro) → i < length xs → p (get_or xs i d) ≡ true → list_any p xs ≡ true
any-at p [] i d lt h = absurd (omega arith)
any-at p (x ∷ xs) zero d lt h = ap (λ b. b || list_any p xs) h
any-at p (x ∷ xs) (suc i) d lt h = or_right (p x) (list_any p xs) (any-at p xs i d (omega arith) h)

pub none-there : (every : Option Micro) (named : List (Option Micro)) (i : ℕ) (own : Option Micro) → i < length named → own ≡ get_or named i None → own_or every own ≡ None → list_any (λ o. is_missing (own_or every o)) named ≡ true
none-there every named i own lt at none = any-at (lacks every) named i None lt (ap (lacks every) (sym at) ∙ ap is_missing none)
