-- The frame and the starts of a circuit fit its combinational part.
use Rattle.std.proofs.Common.{ℕ, zero, suc, ◌+◌, ◌≡◌, List, ◌++◌, length, map, refl, ap, sym, ◌∙◌, arith, length-append}
use Rattle.std.specs.Prelude.{All, drop, replicate}
use Rattle.std.proofs.Math.Seq.{drop-append_seam}
use Rattle.std.proofs.lemmas.List.{length-map}
use Rattle.lw_fixed.specs.declared.micro.Micro.{Micro}
use Rattle.lw_pool.specs.declared.latch.Latch.{Latch}
use Rattle.lw_frame.specs.Frames.{frame_of, input_names, output_of, root_names, Fits}
use Rattle.lw_frame.specs.Starts.{Arrival, IsEarly, StartsFit, starts_of, start_of, at_once}
use Rattle.lw_frame.proofs.Once.{outputs_within, roots_again}

length-replicate : {A : Type 0} (n : ℕ) (x : A) → length (replicate n x) ≡ n
length-replicate zero x = refl
length-replicate (suc n) x = ap suc (length-replicate n x)

pub frame_fits : (inputs outputs : List (List ℕ)) (latches : List Latch) → Fits (frame_of inputs outputs latches) (input_names inputs latches) (root_names outputs latches)
frame_fits inputs outputs latches = record {
  own_inputs = omega (arith, length-append inputs (map output_of latches));
  own_outputs = outputs_within outputs latches;
  latch_outputs = drop-append_seam inputs (map output_of latches);
  roots = roots_again outputs latches;
}

-- a list with zeros behind a part of this length
pub zeros_behind : (own starts : List Micro) (n many : ℕ) → starts ≡ own ++ replicate many at_once → length own ≡ n → (length starts ≡ n + many) × (drop n starts ≡ replicate many at_once)
zeros_behind own starts n many is count = (
  omega (arith, ap length is, length-append own (replicate many at_once), count, length-replicate many at_once),
  ap (drop n) is ∙ (ap (λ k. drop k (own ++ replicate many at_once)) (sym count) ∙ drop-append_seam own (replicate many at_once)),
)

-- so many starts of this kind fit
pub counted_fit : (inputs outputs : List (List ℕ)) (latches : List Latch) (starts : List Micro) → length starts ≡ length inputs + length latches → drop (length inputs) starts ≡ replicate (length latches) at_once → All IsEarly starts →
    StartsFit (frame_of inputs outputs latches) (length (input_names inputs latches)) starts
counted_fit inputs outputs latches starts count zeros early = record {
  one_each = omega (arith, count, length-append inputs (map output_of latches), length-map latches output_of);
  early = early;
  latches = zeros;
}

pub starts_fit : (lines : List Arrival) (inputs outputs : List (List ℕ)) (latches : List Latch) (starts : List Micro) → starts ≡ starts_of lines inputs (length latches) → All IsEarly starts →
    StartsFit (frame_of inputs outputs latches) (length (input_names inputs latches)) starts
starts_fit lines inputs outputs latches starts is early =
    let parts = zeros_behind (map (start_of lines) inputs) starts (length inputs) (length latches) is (length-map inputs (start_of lines)) in
    counted_fit inputs outputs latches starts parts.0 parts.1 early
