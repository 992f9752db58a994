-- An ordered netlist has one right assignment of values, and one of arrivals.
use Rattle.std.proofs.Common.{ℕ, ◌+◌, ◌<◌, ◌≡◌, Bool, false, List, [], ◌∷◌, length, map, max, get_or, refl, ap, ap₂, sym, ◌∙◌, subst, arith}
use Rattle.std.specs.List.{AllByRecursion}
use Rattle.lw_laws.specs.Networks.{greatest_depth}
use Rattle.lw_laws.specs.Covers.{Timing, start_of, latest, delays_of}
use Rattle.lw_laws.specs.Costs.{Cost}
use Rattle.lw_laws.specs.Netlists.{Gate, Netlist, AreOrdered, CellTruth, AreNetlistValues, AreArrivals, AreNetCosts, AreNetDepths}
use Rattle.lw_laws.proofs.Filling.{AreLocal, filled, Fills, filled_fills, fills_once}

pub pins_agree : {A : Type 0} (d : A) (k : ℕ) (xs ys : List A) → ((i : ℕ) → i < k → get_or xs i d ≡ get_or ys i d) → (pins : List ℕ) → AllByRecursion (λ p. p < k) pins → map (λ p. get_or xs p d) pins ≡ map (λ p. get_or ys p d) pins
pins_agree d k xs ys agree [] low = refl
pins_agree d k xs ys agree (p ∷ pins) (lt, low) = ap₂ (λ v vs. v ∷ vs) (agree p lt) (pins_agree d k xs ys agree pins low)

pub greatest_agree : (k : ℕ) (xs ys : List ℕ) → ((i : ℕ) → i < k → get_or xs i 0 ≡ get_or ys i 0) → (pins : List ℕ) → AllByRecursion (λ p. p < k) pins → greatest_depth xs pins ≡ greatest_depth ys pins
greatest_agree k xs ys agree [] low = refl
greatest_agree k xs ys agree (p ∷ pins) (lt, low) = ap₂ max (agree p lt) (greatest_agree k xs ys agree pins low)

-- the first entries, listed
starts : {A : Type 0} → (ℕ → A) → ℕ → ℕ → List A
starts start i ℕ.zero = []
starts start i (ℕ.suc n) = start i ∷ starts start (i + 1) n

starts_length : {A : Type 0} (start : ℕ → A) (i n : ℕ) → length (starts start i n) ≡ n
unfolding starts
starts_length start i ℕ.zero = refl
starts_length start i (ℕ.suc n) = ap ℕ.suc (starts_length start (i + 1) n)

starts_at : {A : Type 0} (start : ℕ → A) (d : A) (i n k : ℕ) → k < n → get_or (starts start i n) k d ≡ start (i + k)
unfolding starts
starts_at start d i ℕ.zero k lt = absurd (omega arith)
starts_at start d i (ℕ.suc n) ℕ.zero lt = ap start (omega arith)
starts_at start d i (ℕ.suc n) (ℕ.suc k) lt = let e : (i + 1) + k ≡ i + ℕ.suc k = omega arith in starts_at start d (i + 1) n k (omega arith) ∙ ap start e

-- there is a list that fills
pub some_fills : {A X : Type 0} (d : A) (step : X → List A → A) (start : ℕ → A) (count : ℕ) (ns : List X) → AreLocal d step count ns → (xs : List A) × Fills d step start count ns xs
some_fills d step start count ns local =
    let first = starts start 0 count in
    let len = starts_length start 0 count in
    let fills = filled_fills d step start first ns (λ i lt. starts_at start d 0 count i (omega arith) ∙ ap start (omega arith)) (subst (λ k. AreLocal d step k ns) (sym len) local) in
    (filled d step first ns, subst (λ k. Fills d step start k ns (filled d step first ns)) len fills)

module _ (n : Netlist) (ordered : AreOrdered n) where
  module _ (truth : CellTruth) where
    abbrev value_step : Gate → List Bool → Bool
    value_step g ws = truth g.cell (map (λ p. get_or ws p false) g.pins)

    value_local : AreLocal false value_step n.inputs n.gates
    value_local j g e xs ys agree = ap (λ vs. truth g.cell vs) (pins_agree false (n.inputs + j) xs ys agree g.pins (ordered j g e))

    value_fills : (x : ℕ → Bool) (ws : List Bool) → AreNetlistValues truth n x ws → Fills false value_step x n.inputs n.gates ws
    value_fills x ws are = record { one_each = are.one_each; inputs = are.inputs; nodes = are.gates }

    pub netlist_values_once : (x : ℕ → Bool) (vs ws : List Bool) → AreNetlistValues truth n x vs → AreNetlistValues truth n x ws → vs ≡ ws
    netlist_values_once x vs ws are also = fills_once false value_step x n.inputs n.gates value_local vs ws (value_fills x vs are) (value_fills x ws also)

    pub some_netlist_values : (x : ℕ → Bool) → (ws : List Bool) × AreNetlistValues truth n x ws
    some_netlist_values x =
        let (ws, f) = some_fills false value_step x n.inputs n.gates value_local in
        (ws, record { one_each = f.one_each; inputs = f.inputs; gates = f.nodes })

  module _ (timing : Timing) where
    abbrev arrival_step : Gate → List ℕ → ℕ
    arrival_step g ds = latest (delays_of timing.delays g.cell) (map (λ p. get_or ds p 0) g.pins)

    arrival_local : AreLocal 0 arrival_step n.inputs n.gates
    arrival_local j g e xs ys agree = ap (latest (delays_of timing.delays g.cell)) (pins_agree 0 (n.inputs + j) xs ys agree g.pins (ordered j g e))

    arrival_fills : (ds : List ℕ) → AreArrivals timing n ds → Fills 0 arrival_step (start_of timing.starts) n.inputs n.gates ds
    arrival_fills ds are = record { one_each = are.one_each; inputs = are.inputs; nodes = are.gates }

    pub arrivals_once : (ds es : List ℕ) → AreArrivals timing n ds → AreArrivals timing n es → ds ≡ es
    arrivals_once ds es are also = fills_once 0 arrival_step (start_of timing.starts) n.inputs n.gates arrival_local ds es (arrival_fills ds are) (arrival_fills es also)

    pub some_arrivals : (ds : List ℕ) × AreArrivals timing n ds
    some_arrivals =
        let (ds, f) = some_fills 0 arrival_step (start_of timing.starts) n.inputs n.gates arrival_local in
        (ds, record { one_each = f.one_each; inputs = f.inputs; gates = f.nodes })

  module _ (cost : Cost) where
    abbrev cost_step : Gate → List ℕ → ℕ
    cost_step g ds = cost.value g.cell (map (λ p. get_or ds p 0) g.pins)

    cost_local : AreLocal 0 cost_step n.inputs n.gates
    cost_local j g e xs ys agree = ap (cost.value g.cell) (pins_agree 0 (n.inputs + j) xs ys agree g.pins (ordered j g e))

    cost_fills : (ds : List ℕ) → AreNetCosts cost n ds → Fills 0 cost_step cost.leaf n.inputs n.gates ds
    cost_fills ds are = record { one_each = are.one_each; inputs = are.inputs; nodes = are.gates }

    pub net_costs_once : (ds es : List ℕ) → AreNetCosts cost n ds → AreNetCosts cost n es → ds ≡ es
    net_costs_once ds es are also = fills_once 0 cost_step cost.leaf n.inputs n.gates cost_local ds es (cost_fills ds are) (cost_fills es also)

    pub some_net_costs : (ds : List ℕ) × AreNetCosts cost n ds
    some_net_costs =
        let (ds, f) = some_fills 0 cost_step cost.leaf n.inputs n.gates cost_local in
        (ds, record { one_each = f.one_each; inputs = f.inputs; gates = f.nodes })

  abbrev depth_step : Gate → List ℕ → ℕ
  depth_step g ds = 1 + greatest_depth ds g.pins

  depth_local : AreLocal 0 depth_step n.inputs n.gates
  depth_local j g e xs ys agree = ap (λ d. 1 + d) (greatest_agree (n.inputs + j) xs ys agree g.pins (ordered j g e))

  depth_fills : (ds : List ℕ) → AreNetDepths n ds → Fills 0 depth_step (λ i. 0) n.inputs n.gates ds
  depth_fills ds are = record { one_each = are.one_each; inputs = are.inputs; nodes = are.gates }

  pub net_depths_once : (ds es : List ℕ) → AreNetDepths n ds → AreNetDepths n es → ds ≡ es
  net_depths_once ds es are also = fills_once 0 depth_step (λ i. 0) n.inputs n.gates depth_local ds es (depth_fills ds are) (depth_fills es also)

  pub some_net_depths : (ds : List ℕ) × AreNetDepths n ds
  some_net_depths =
      let (ds, f) = some_fills 0 depth_step (λ i. 0) n.inputs n.gates depth_local in
      (ds, record { one_each = f.one_each; inputs = f.inputs; gates = f.nodes })
