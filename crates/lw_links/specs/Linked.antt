-- Literals of listed forms, and lists of forms with further pairs.
use Rattle.std.specs.Prelude.{ℕ, ◌+◌, ◌*◌, ◌/◌, ◌%◌, ◌<◌, ◌≤◌, ◌≡◌, ◌==◌, Bool, ◌&&◌, if◌then◌else◌}
use Rattle.std.specs.Prelude.{Some, List, ◌++◌, length, slice_get, slice_index_or}
use Rattle.lw_aig.specs.declared.gate.Gate.{Gate}
use Rattle.lw_aig.specs.declared.literal.Literal.{Literal}
use Rattle.lw_aig.specs.Aigs.{AreNodeValues, IsBelow}
use Rattle.lw_aig.specs.Literals.{complement, literal_value, node_of}
use Rattle.lw_laws.specs.NumberedForms.{NumberedForms}
use Rattle.lw_laws.specs.NumberedValues.{AreNumberedValues}
use Rattle.lw_form.specs.Links.{HaveOneValue}
use Rattle.lw_sweep.specs.Sweeps.{IsExtended, inputs_alone}

-- the nodes of the inputs have the values of the inputs
abbrev pub CarryInputs : (ℕ → Bool) → ℕ → (ℕ → Bool) → Type 0
CarryInputs v inputs x = (i : ℕ) → i < inputs → v (i + 1) ≡ x i

-- The literal has the value of a base form, wherever the nodes of the inputs have the values of the inputs.
pub record HasBaseValue (gates : List Gate) (forms : NumberedForms) (b : ℕ) (l : Literal) : Type 0 where
  pub within : IsBelow (length gates) l
  pub always : (v x value : ℕ → Bool) → AreNodeValues gates v → CarryInputs v forms.inputs x
      → AreNumberedValues forms x value → literal_value v l ≡ value (2 * b)

-- By base form, from the first on, a literal that has its value; the graph has the inputs first.
pub record StandFor (gates : List Gate) (forms : NumberedForms) (literals : List Literal) : Type 0 where
  pub inputs : IsExtended (inputs_alone forms.inputs) gates
  pub few : length literals ≤ length forms.bases
  pub each : (b : ℕ) (d : Literal) → b < length literals → HasBaseValue gates forms b (slice_index_or literals b d)

-- A base form has the conjunction of the values of two forms of base forms before it.
pub record AreHalves (forms : NumberedForms) (b f h : ℕ) : Type 0 where
  pub left : f / 2 < b
  pub right : h / 2 < b
  pub always : (x value : ℕ → Bool) → AreNumberedValues forms x value → value (2 * b) ≡ (value f && value h)

-- the literal of a form, by those of the base forms
abbrev pub signed_literal : List Literal → ℕ → Literal
signed_literal literals f =
    let l = slice_index_or literals (f / 2) (record { 0 = 0 }) in
    if f % 2 == 0 then l else complement l

-- Two base forms whose literals are of one node have one value there, each as it is or by its complement.
pub record TellPairs (forms : NumberedForms) (literals : List Literal) : Type 0 where
  pub each : (a b : ℕ) (l m : Literal) → slice_get literals a ≡ Some l → slice_get literals b ≡ Some m
      → node_of l ≡ node_of m → HaveOneValue forms (2 * a + l.0 % 2) (2 * b + m.0 % 2)

-- The same list of base forms with further pairs, which each have one value.
pub record IsLinked (old new : NumberedForms) : Type 0 where
  pub inputs : new.inputs ≡ old.inputs
  pub bases : new.bases ≡ old.bases
  pub lefts : List ℕ
  pub rights : List ℕ
  pub one_each : length lefts ≡ length rights
  pub sops : new.sops ≡ old.sops ++ lefts
  pub facs : new.facs ≡ old.facs ++ rights
  pub each : (k f h : ℕ) → slice_get lefts k ≡ Some f → slice_get rights k ≡ Some h → HaveOneValue old f h
