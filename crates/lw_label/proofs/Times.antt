-- Times and starts that are cut at a greatest one.
use Rattle.std.proofs.Common.{ℕ, zero, suc, ◌+◌, ◌<◌, ◌≤◌, ◌≡◌, min, max, List, [], ◌∷◌, length, map, take, get_or, ap, sym, ◌∙◌, arith}
use Rattle.std.proofs.lemmas.List.{get_or-map, length-map}
use Rattle.std.specs.List.{AllByRecursion}
use Rattle.std.specs.Prelude.{All}
use Rattle.std.proofs.lemmas.List.Elements.{recursion_from_All}
use Rattle.lw_laws.specs.Covers.{latest, start_of}
use Rattle.lw_genlib.specs.Cells.{IsSmall}
use Rattle.lw_fixed.specs.declared.micro.Micro.{Micro}
use Rattle.lw_genlib.specs.Tables.{millionths}
use Rattle.lw_laws.proofs.Shared.{latest_suc}
use Rattle.lw_label.specs.Delays.{most_time, start_at}

-- one more pin, of the code's numbers, where both sides are cut
pub cut_step : (delays : List Micro) (pins : List ℕ) (k so_far sum next : ℕ) → k < length delays → k < length pins → min so_far most_time ≡ min most_time (latest (take k (map millionths delays)) pins) → min sum most_time ≡ min most_time (get_or pins k 0 + (get_or delays k (record { 0 = 0 })).0) → next ≡ max so_far sum → min next most_time ≡ min most_time (latest (take (k + 1) (map millionths delays)) pins)
cut_step delays pins k so_far sum next in_delays in_pins before here is =
    let size : length (map millionths delays) ≡ length delays = length-map delays millionths in
    let in_ds : k < length (map millionths delays) = omega arith in
    let read : get_or (map millionths delays) k 0 ≡ (get_or delays k (record { 0 = 0 })).0 = get_or-map millionths delays k (record { 0 = 0 }) 0 in_delays in
    let one : k + 1 ≡ suc k = omega arith in
    let more : latest (take (suc k) (map millionths delays)) pins ≡ max (latest (take k (map millionths delays)) pins) (get_or pins k 0 + get_or (map millionths delays) k 0) = latest_suc k (map millionths delays) pins in_ds in_pins in
    let cut : min next most_time ≡ min most_time (latest (take (suc k) (map millionths delays)) pins) = omega (arith, before, here, is, read, more) in
    cut ∙ ap (λ n. min most_time (latest (take n (map millionths delays)) pins)) (sym one)

-- a cell's time is no less than that of a pin with its delay
pub latest_pin : (delays : List Micro) (ds : List ℕ) (k : ℕ) → length delays ≡ length ds → k < length ds → get_or ds k 0 + (get_or delays k (record { 0 = 0 })).0 ≤ latest (map millionths delays) ds
latest_pin [] [] k same inside = absurd (omega arith)
latest_pin [] (d ∷ ds) k same inside = absurd (omega arith)
latest_pin (m ∷ delays) [] k same inside = absurd (omega arith)
latest_pin (m ∷ delays) (d ∷ ds) zero same inside = omega arith
latest_pin (m ∷ delays) (d ∷ ds) (suc k) same inside =
    let ih = latest_pin delays ds k (omega arith) (omega arith) in omega arith

start_cut_each : (starts : List Micro) (i : ℕ) → AllByRecursion IsSmall starts → start_at starts i ≡ min most_time (start_of (map millionths starts) i)
start_cut_each [] i a = omega arith
start_cut_each (m ∷ starts) zero (lt, a) = omega arith
start_cut_each (m ∷ starts) (suc i) (lt, a) = start_cut_each starts i a

-- a start is its own cut
pub start_cut : (starts : List Micro) (i : ℕ) → All IsSmall starts → start_at starts i ≡ min most_time (start_of (map millionths starts) i)
start_cut starts i small = start_cut_each starts i (recursion_from_All IsSmall starts small)
