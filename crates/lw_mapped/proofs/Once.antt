-- Lines come to one outcome.
use Rattle.std.proofs.Common.{ℕ, ◌≡◌, ◌≢◌, ◌<◌, ◌≤◌, ◌⊎◌, inl, inr, List, map, Option, Some, None, Result, Ok, Err, refl, ap, sym, ◌∙◌, arith}
use Rattle.std.specs.Prelude.{slice_get}
use Rattle.std.proofs.lemmas.Bool.{cases_lt}
use Rattle.lw_named_netlist.specs.declared.draft.GateDraft.{GateDraft}
use Rattle.lw_named_netlist.specs.declared.fault.NetlistFault.{NetlistFault}
use Rattle.lw_named_netlist.specs.declared.fault.NetlistFault.TheVariants as whole
use Rattle.lw_named_netlist.specs.Closing.{IsClosed, IsFirstOnCycle, Link, links, name_of}
use Rattle.lw_netlist.specs.Netlists.{NetlistParts}
use Rattle.lw_mapped.specs.declared.closing.Mapped.{Mapped}
use Rattle.lw_mapped.specs.declared.fault.MappedFault.{MappedFault}
use Rattle.lw_mapped.specs.declared.fault.MappedFault.TheVariants as fault
use Rattle.lw_mapped.specs.declared.saying.Saying.{Saying}
use Rattle.lw_mapped.specs.Alike.{AreSameMapped, AreSameOutcomes}
use Rattle.lw_mapped.specs.LineFaults.{FaultAt}
use Rattle.lw_mapped.specs.Unmapped.{IsSaid, ClosesTo, ComesTo, TellsLine, HasWholeFault, draft_said, classes_said}
use Rattle.lw_mapped.proofs.ClosedOnce.{closed-once}

-- The first on a cycle is one.
cycle-once : (ls : List Link) (a b : List ℕ) → IsFirstOnCycle ls a → IsFirstOnCycle ls b → a ≡ b
cycle-once ls a b x y = by_place (cases_lt x.place y.place) (cases_lt y.place x.place)
  where
    by_place : (x.place < y.place) ⊎ (y.place ≤ x.place) → (y.place < x.place) ⊎ (x.place ≤ y.place) → a ≡ b
    by_place (inl before) other = absurd (y.first x.place a before x.named x.cycle)
    by_place (inr after) (inl before) = absurd (x.first y.place b before y.named y.cycle)
    by_place (inr after) (inr before) =
        let same : x.place ≡ y.place = omega arith in
        let both : Some a ≡ Some b = sym x.named ∙ (ap (slice_get (map name_of ls)) same ∙ y.named) in
        cc

pub faults-once : (draft : GateDraft) (e f : NetlistFault) → HasWholeFault draft e → HasWholeFault draft f → e ≡ f
faults-once draft (whole.Twice a) (whole.Twice b) p q = let both : Some a ≡ Some b = sym p ∙ q in cc
faults-once draft (whole.Twice a) (whole.Undriven b) p q = let both : Some a ≡ None = sym p ∙ q.0 in cc
faults-once draft (whole.Twice a) (whole.Cycle b) p q = let both : Some a ≡ None = sym p ∙ q.0 in cc
faults-once draft (whole.Undriven a) (whole.Twice b) p q = let both : Some b ≡ None = sym q ∙ p.0 in cc
faults-once draft (whole.Undriven a) (whole.Undriven b) p q = let both : Some a ≡ Some b = sym p.1 ∙ q.1 in cc
faults-once draft (whole.Undriven a) (whole.Cycle b) p q = let both : Some a ≡ None = sym p.1 ∙ q.1 in cc
faults-once draft (whole.Cycle a) (whole.Twice b) p q = let both : Some b ≡ None = sym q ∙ p.0 in cc
faults-once draft (whole.Cycle a) (whole.Undriven b) p q = let both : Some b ≡ None = sym q.1 ∙ p.1 in cc
faults-once draft (whole.Cycle a) (whole.Cycle b) p q = ap whole.Cycle (cycle-once (links draft) a b p.2 q.2)
faults-once draft whole.Memory f p q = absurd p
faults-once draft (whole.Twice a) whole.Memory p q = absurd q
faults-once draft (whole.Undriven a) whole.Memory p q = absurd q
faults-once draft (whole.Cycle a) whole.Memory p q = absurd q

-- A draft with a fault is not closed.
pub closed-faultless : (draft : GateDraft) (n : NetlistParts) (f : NetlistFault) → IsClosed draft n → HasWholeFault draft f → ⊥
closed-faultless draft n (whole.Twice a) c q = let both : None ≡ Some a = sym c.once ∙ q in cc
closed-faultless draft n (whole.Undriven a) c q = let both : None ≡ Some a = sym c.driven ∙ q.1 in cc
closed-faultless draft n (whole.Cycle a) c q = c.no_cycle a q.2.cycle
closed-faultless draft n whole.Memory c q = q

said-once : (said : List Saying) (a b : Mapped) → IsSaid said a → IsSaid said b → AreSameMapped a b
said-once said a b p q =
    let netlist = closed-once (draft_said said) a.netlist b.netlist p.netlist q.netlist in
    record {
      netlist = netlist;
      frame = p.frame ∙ sym q.frame;
      starts = p.starts ∙ sym q.starts;
      certificates = record {
        labels = λ c. p.labels c ∙ sym (q.labels c);
        nets = p.nets ∙ (ap (classes_said said) netlist ∙ sym q.nets);
      };
    }

closes-once : (said : List Saying) (a b : Result Mapped MappedFault) → ClosesTo said a → ClosesTo said b → a ≢ Err fault.Memory → b ≢ Err fault.Memory → AreSameOutcomes a b
closes-once said (Ok a) (Ok b) p q na nb = said-once said a b p q
closes-once said (Ok a) (Err (fault.Whole f)) p q na nb = closed-faultless (draft_said said) a.netlist f p.netlist q
closes-once said (Ok a) (Err (fault.Line number kind)) p q na nb = q
closes-once said a (Err fault.Memory) p q na nb = absurd (nb refl)
closes-once said (Err (fault.Whole e)) (Ok b) p q na nb = closed-faultless (draft_said said) b.netlist e q.netlist p
closes-once said (Err (fault.Whole e)) (Err (fault.Whole f)) p q na nb = ap fault.Whole (faults-once (draft_said said) e f p q)
closes-once said (Err (fault.Whole e)) (Err (fault.Line number kind)) p q na nb = absurd q
closes-once said (Err (fault.Line number kind)) b p q na nb = absurd p
closes-once said (Err fault.Memory) b p q na nb = absurd (na refl)

tells-once : (first : FaultAt) (a b : Result Mapped MappedFault) → TellsLine first a → TellsLine first b → a ≢ Err fault.Memory → b ≢ Err fault.Memory → AreSameOutcomes a b
tells-once first (Ok a) b p q na nb = absurd p
tells-once first (Err (fault.Whole e)) b p q na nb = absurd p
tells-once first (Err fault.Memory) b p q na nb = absurd (na refl)
tells-once first (Err (fault.Line number kind)) (Ok b) p q na nb = q
tells-once first (Err (fault.Line number kind)) (Err (fault.Whole f)) p q na nb = absurd q
tells-once first (Err (fault.Line number kind)) (Err fault.Memory) p q na nb = absurd (nb refl)
tells-once first (Err (fault.Line number kind)) (Err (fault.Line m k)) p q na nb = sym (ap (λ (f : FaultAt). fault.Line f.number f.kind) p) ∙ ap (λ (f : FaultAt). fault.Line f.number f.kind) q

pub comes-once : (first : Option FaultAt) (said : List Saying) (a b : Result Mapped MappedFault) → ComesTo first said a → ComesTo first said b → a ≢ Err fault.Memory → b ≢ Err fault.Memory → AreSameOutcomes a b
comes-once (Some f) said a b p q na nb = tells-once f a b p q na nb
comes-once None said a b p q na nb = closes-once said a b p q na nb
