-- The plain draft that the code's draft stands for, and what its type keeps.
use Rattle.std.specs.Prelude.{ℕ, ◌-◌, ◌/◌, ◌%◌, ◌<◌, ◌≤◌, ◌≡◌, ◌==◌, ◌^◌, Bool, false, not, ◌&&◌, if◌then◌else◌, List}
use Rattle.std.specs.Prelude.{length, map, slice_index_or, All}
use Rattle.lw_laws.specs.Drafts.{Draft as PlainDraft, FormLink, NandFact}
use Rattle.lw_reduce.specs.declared.facts.Fact.{Fact}
use Rattle.lw_reduce.specs.declared.facts.Link.{Link}
use Rattle.lw_pool.specs.Numbers.{most_signals}

abbrev pub plain_fact : Fact → NandFact
plain_fact p = record { form = p.form; left = p.left; right = p.right }

abbrev pub plain_link : Link → FormLink
plain_link l = record { left = l.left; right = l.right }

-- the plain draft
abbrev pub plain_draft : ℕ → List Bool → List Fact → List Link → PlainDraft
plain_draft inputs samples nands links =
    record { inputs = inputs; samples = samples; nands = map plain_fact nands; links = map plain_link links }

-- the sample value of a form: that of its base form, or the other one for a complement
abbrev pub sample_of : List Bool → ℕ → Bool
sample_of samples f =
    let s = slice_index_or samples (f / 2) false in if f % 2 == 0 then s else not s

-- a form that is known
abbrev pub IsKnown : List Bool → ℕ → Type 0
IsKnown samples f = f / 2 < length samples

-- the forms of the fact are known, and its sample values fit
pub record FitsNand (samples : List Bool) (p : NandFact) : Type 0 where
  pub form : IsKnown samples p.form
  pub left : IsKnown samples p.left
  pub right : IsKnown samples p.right
  pub fits : sample_of samples p.form ≡ not (sample_of samples p.left && sample_of samples p.right)

pub record FitsLink (samples : List Bool) (l : FormLink) : Type 0 where
  pub left : IsKnown samples l.left
  pub right : IsKnown samples l.right
  pub fits : sample_of samples l.left ≡ sample_of samples l.right

-- what each draft keeps
pub record IsDraft (d : PlainDraft) : Type 0 where
  pub inputs : d.inputs < length d.samples
  pub few_inputs : d.inputs ≤ most_signals
  pub few : length d.samples < 2 ^ 31
  pub few_nands : length d.nands < 2 ^ 32 - 1
  pub nands : All (FitsNand d.samples) d.nands
  pub links : All (FitsLink d.samples) d.links
