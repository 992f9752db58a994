use Rattle.std.proofs.Common.{◌≡◌, ◌+◌, ◌<◌, ◌⊎◌, ℕ, List, inl, inr, Contains, arith, get_or, length, refl, subst, sym, take}
use Rattle.std.proofs.lemmas.Bool.{false≢true}
use Rattle.std.proofs.lemmas.List.{take_all, take_more}
use Rattle.std.proofs.lemmas.List.Elements.{Contains-push_cases}
use Rattle.lw_dag.specs.Ranking.{rank_at}
use Rattle.lw_dag.proofs.ranking.are_below.Goals as goal

-- what holds of the nodes among the first fan-ins, and of the next one
one_more : (P : ℕ → Type 0) (inputs : ℕ) (fanins : List ℕ) (i : ℕ) → i < length fanins → ((k : ℕ) → Contains (take i fanins) (inputs + k) → P k) → ((k : ℕ) → get_or fanins i 0 ≡ inputs + k → P k) → (k : ℕ) → Contains (take (i + 1) fanins) (inputs + k) → P k
one_more P inputs fanins i below all next k among = by_last (Contains-push_cases (take i fanins) (get_or fanins i 0) (inputs + k) (subst (λ l. Contains l (inputs + k)) (take_more fanins i 0 below) among))
  where
    by_last : Contains (take i fanins) (inputs + k) ⊎ (get_or fanins i 0 ≡ inputs + k) → P k
    by_last (inl old) = all k old
    by_last (inr same) = next k same

pub returns-then-not-is_below : goal.returns-then-not-is_below
returns-then-not-is_below c = λ is. absurd (false≢true is)

pub loop-s-preserved : goal.loop-s-preserved
loop-s-preserved c = one_more (λ k. rank_at c.args.ranks.now k < c.args.rank) c.args.inputs c.args.fanins.now c.loop-s.s-index c.loop-s-test.true c.loop-s.invariant (c.if-not-is_below.ensures refl)

pub returns : goal.returns
returns c = λ is k among.
    c.loop-s.invariant k (subst (λ l. Contains l (c.args.inputs + k)) (sym (take_all c.loop-s.s-index c.args.fanins.now (omega (arith, c.loop-s-test.false)))) among)
