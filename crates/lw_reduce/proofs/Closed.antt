-- Settled representatives are closed under links and facts, so two forms have one representative exactly where they are
-- equivalent.
use Rattle.std.proofs.Common.{ℕ, ◌/◌, ◌<◌, ◌≡◌, ◌↔◌, inl, inr, min, max, List, Contains, ap, ap₂, sym, ◌∙◌, arith}
use Rattle.std.proofs.lemmas.List.Elements.{All-contains}
use Rattle.lw_laws.specs.Families.{IsNand, Equivalent}
use Rattle.lw_laws.proofs.Closure.{name_is_class}
use Rattle.lw_laws.specs.Flip.{flip}
use Rattle.lw_reduce.specs.declared.facts.Fact.{Fact}
use Rattle.lw_reduce.specs.declared.facts.Link.{Link}
use Rattle.lw_reduce.specs.Representatives.{LinkAgrees, family, rep_of}
use Rattle.lw_reduce.specs.Settling.{AreSettled}
use Rattle.lw_reduce.proofs.RepSteps.{rep_of-flip}

pub min_max_same : (a b c d : ℕ) → a ≡ c → b ≡ d → (min a b ≡ min c d) × (max a b ≡ max c d)
min_max_same a b c d e f = (ap₂ min e f, ap₂ max e f)

pub min_max_exchanged : (a b c d : ℕ) → a ≡ d → b ≡ c → (min a b ≡ min c d) × (max a b ≡ max c d)
min_max_exchanged a b c d e f = (omega arith, omega arith)

module _ (n : ℕ) (nands : List Fact) (links : List Link) (reps : List ℕ) (is : AreSettled n nands links reps) where
  pub agree : (p q : Fact) → Contains nands p → Contains nands q → (min (rep_of reps p.left) (rep_of reps p.right) ≡ min (rep_of reps q.left) (rep_of reps q.right)) × (max (rep_of reps p.left) (rep_of reps p.right) ≡ max (rep_of reps q.left) (rep_of reps q.right)) → rep_of reps p.form ≡ rep_of reps q.form
  agree p q a b (e, f) = is.agree p q a b e f

  closed_nands : (f h x y u v : ℕ) → IsNand (family n nands links) f x y → IsNand (family n nands links) h u v → rep_of reps x ≡ rep_of reps u → rep_of reps y ≡ rep_of reps v → rep_of reps f ≡ rep_of reps h
  closed_nands f h x y u v (inl a) (inl b) d e =
      agree (record { form = f; left = x; right = y }) (record { form = h; left = u; right = v }) a b (min_max_same (rep_of reps x) (rep_of reps y) (rep_of reps u) (rep_of reps v) d e)
  closed_nands f h x y u v (inl a) (inr b) d e =
      agree (record { form = f; left = x; right = y }) (record { form = h; left = v; right = u }) a b (min_max_exchanged (rep_of reps x) (rep_of reps y) (rep_of reps v) (rep_of reps u) d e)
  closed_nands f h x y u v (inr a) (inl b) d e =
      agree (record { form = f; left = y; right = x }) (record { form = h; left = u; right = v }) a b (min_max_exchanged (rep_of reps y) (rep_of reps x) (rep_of reps u) (rep_of reps v) e d)
  closed_nands f h x y u v (inr a) (inr b) d e =
      agree (record { form = f; left = y; right = x }) (record { form = h; left = v; right = u }) a b (min_max_same (rep_of reps y) (rep_of reps x) (rep_of reps v) (rep_of reps u) e d)

  pub same_rep_iff : (f h : ℕ) → f / 2 < n → h / 2 < n → (rep_of reps f ≡ rep_of reps h) ↔ Equivalent (family n nands links) f h
  same_rep_iff f h a b =
      name_is_class (family n nands links) (rep_of reps) (λ f h l. All-contains (LinkAgrees reps) links (record { left = f; right = h }) is.linked l) (λ f h e. rep_of-flip reps f ∙ (ap flip e ∙ sym (rep_of-flip reps h))) closed_nands (λ k o. (is.valid.sound k o).1) f h a b
