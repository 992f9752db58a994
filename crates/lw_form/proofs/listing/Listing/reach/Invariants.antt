use Rattle.std.proofs.Common.{◌≡◌, ◌≤◌, ℕ, length}
use Rattle.lw_form.specs.Listed.{place_of}
use Rattle.lw_form.proofs.listing.Listing.reach.Given as goal

abbrev pub invariant-loop-place : goal.invariant-loop-place
invariant-loop-place l = record {
  long : l._place ≤ length l.self.places.items;
  same : (x : ℕ) → place_of l.self.places.items x ≡ place_of l.initial.self.places.items x;
  listed : l.self.listed ≡ l.initial.self.listed;
}
