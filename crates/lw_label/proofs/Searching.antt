-- Labels after searches at a place.
use Rattle.std.proofs.Common.{ℕ, ◌≡◌, ◌/◌, ◌∙◌, sym, subst₂}
use Rattle.lw_laws.specs.Costs.{Cost}
use Rattle.lw_label.specs.declared.labelling.Labelling.{Labelling}
use Rattle.lw_label.specs.declared.labelling.Task.{Task}
use Rattle.lw_label.specs.OneVisit.{AreBoundsAround}
use Rattle.lw_label.specs.Searches.{AreFoundAt, MayLowerAround}
use Rattle.lw_label.proofs.OneVisit.{around_after}

module _ {C : Type 0} (costs : C → Cost) (t : Task C) where
  pub found_more : (old new : Labelling) (fewer at : ℕ → Type 0) → ((c : ℕ) → fewer c → at c) → AreFoundAt costs t old new fewer → AreFoundAt costs t old new at
  found_more old new fewer at to found = record {
    search = found.search;
    table = found.table;
    others = λ c out. found.others c (λ h. out (to c h));
  }

  pub found_then : (old mid new : Labelling) (at : ℕ → Type 0) → AreFoundAt costs t old mid at → AreFoundAt costs t mid new at → AreFoundAt costs t old new at
  found_then old mid new at one two = record {
    search = two.search;
    table = two.table ∙ one.table;
    others = λ c out. two.others c out ∙ one.others c out;
  }

  -- the table is one of bounds still, whatever marks the classes of the place have
  pub around_found : (old new : Labelling) (place other : ℕ) → other ≡ place → AreFoundAt costs t old new (λ c. c / 2 ≡ place) → MayLowerAround costs t old place → MayLowerAround costs t new other
  around_found old new place other e found may = record {
    search = found.search;
    around = subst₂ (λ b p. AreBoundsAround b t.graph.now new.marks.items p) (sym found.table) (sym e) (around_after old.bounds t.graph.now old.marks.items new.marks.items place (λ c. c / 2 ≡ place) (λ c h. h) found.others may.around);
  }
