-- Values and arrivals of a gate's pins, read one after another.
use Rattle.std.proofs.Common.{◌≡◌, ℕ, ◌+◌, ◌<◌, Bool, false, List, [], ◌∷◌, ◌++◌, length, map, take, get_or, set, sym, ap, ap₂, ◌∙◌, arith}
use Rattle.std.proofs.lemmas.List.{get_or-map, length-map, take_more, take_more_set}
use Rattle.lw_pool.specs.declared.id.NetId.{NetId}
use Rattle.lw_pool.specs.Numbers.{net_number, values_at}

-- one more value at the front
pub values_more : (nets : List Bool) (pins : List NetId) (values : List Bool) (k : ℕ) (v : Bool) → k < length pins → k < length values → v ≡ get_or nets (get_or pins k (record { 0 = 0 })).0 false → take k values ≡ take k (values_at nets pins) → take (k + 1) (set values k v) ≡ take (k + 1) (values_at nets pins)
values_more nets pins values k v in_pins in_values is before =
    let numbers = map net_number pins in
    let one : length numbers ≡ length pins = length-map pins net_number in
    let all : length (values_at nets pins) ≡ length numbers = length-map numbers (λ net. get_or nets net false) in
    let in_numbers : k < length numbers = omega arith in
    let in_all : k < length (values_at nets pins) = omega arith in
    let value = get_or-map (λ net. get_or nets net false) numbers k 0 false in_numbers ∙ ap (λ net. get_or nets net false) (get_or-map net_number pins k (record { 0 = 0 }) 0 in_pins) in
    take_more_set values k v in_values ∙ (ap₂ (λ (xs : List Bool) b. xs ++ b ∷ []) before (is ∙ sym value) ∙ sym (take_more (values_at nets pins) k false in_all))
