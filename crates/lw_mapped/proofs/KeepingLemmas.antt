-- What is kept, when one more line has said something.
use Rattle.std.proofs.Common.{ℕ, ◌≡◌, ◌==◌, Bool, true, false, cond, List, [], ◌∷◌, ◌++◌, take, Option, Some, None, Result, Ok, Err, refl, ap, sym, ◌∙◌, append-nil, subst}
use Rattle.std.specs.Prelude.{MatchResult, OnOk, is_some, option_to_list, slice_index_or}
use Rattle.std.specs.List.{flat_map}
use Rattle.std.specs.Option.{option_or}
use Rattle.std.specs.Str.{bytes_eq}
use Rattle.std.proofs.lemmas.Grind.{flat_map-append}
use Rattle.indexmap.specs.IndexMap.{get}
use Rattle.indexmap.specs.IndexSet.{insert_all}
use Rattle.lw_fixed.specs.declared.micro.Micro.{Micro}
use Rattle.lw_pool.specs.declared.id.ClassId.{ClassId}
use Rattle.lw_frame.specs.Frames.{each_once}
use Rattle.lw_frame.specs.Standing as arrival
use Rattle.lw_frame.proofs.Once.{once-more}
use Rattle.lw_mapped.specs.declared.contents.Contents.{Contents}
use Rattle.lw_mapped.specs.declared.saying.Saying.{Saying}
use Rattle.lw_mapped.specs.declared.saying.Saying.TheVariants as saying
use Rattle.lw_mapped.specs.Said.{Labelled, Classed, models_in, inputs_in, outputs_in, gates_in, wires_in, latches_in, arrivals_in, labels_in, nets_in, label_among, class_among}
use Rattle.lw_mapped.specs.Keeping.{Keeps, Takes}
use Rattle.lw_mapped.specs.LineFaults.{told_fault, MaySayAgain}
use Rattle.lw_mapped.specs.Parsed.{TellsFault}
use Rattle.lw_mapped.specs.declared.fault.Refusal.{Refusal}
use Rattle.lw_mapped.specs.declared.fault.MappedKind.TheVariants as kind

pub flat-last : {A B : Type 0} (f : A → List B) (xs : List A) (x : A) → flat_map f (xs ++ x ∷ []) ≡ flat_map f xs ++ f x
flat-last f xs x = flat_map-append f xs (x ∷ []) ∙ ap (λ l. flat_map f xs ++ l) (append-nil (f x))

take-once : {A : Type 0} (xs ys : List A) → take 1 (take 1 xs ++ ys) ≡ take 1 (xs ++ ys)
take-once [] ys = refl
take-once (x ∷ xs) ys = refl

pub label-append : (xs ys : List Labelled) (class : ℕ) → label_among (xs ++ ys) class ≡ option_or (label_among xs class) (label_among ys class)
label-append [] ys class = refl
label-append (x ∷ xs) ys class = by_case (x.class == class) (label-append xs ys class)
  where
    by_case : (b : Bool) → label_among (xs ++ ys) class ≡ option_or (label_among xs class) (label_among ys class) → cond b (Some x.label) (label_among (xs ++ ys) class) ≡ option_or (cond b (Some x.label) (label_among xs class)) (label_among ys class)
    by_case true e = refl
    by_case false e = e

pub class-append : (xs ys : List Classed) (name : List ℕ) → class_among (xs ++ ys) name ≡ option_or (class_among xs name) (class_among ys name)
class-append [] ys name = refl
class-append (x ∷ xs) ys name = by_case (bytes_eq x.name name) (class-append xs ys name)
  where
    by_case : (b : Bool) → class_among (xs ++ ys) name ≡ option_or (class_among xs name) (class_among ys name) → cond b (Some x.class) (class_among (xs ++ ys) name) ≡ option_or (cond b (Some x.class) (class_among xs name)) (class_among ys name)
    by_case true e = refl
    by_case false e = e

pub keeps-more : (old new : Contents) (said : List Saying) (what : Saying) → Keeps old said → Takes old what new → Keeps new (said ++ what ∷ [])
keeps-more old new said what k t = record {
  model = t.model ∙ (ap (λ m. take 1 (m ++ models_in what)) k.model ∙ (take-once (flat_map models_in said) (models_in what) ∙ ap (take 1) (sym (flat-last models_in said what))));
  inputs = t.inputs ∙ (ap (λ l. l ++ inputs_in what) k.inputs ∙ sym (flat-last inputs_in said what));
  outputs = t.outputs ∙ (ap (λ l. insert_all bytes_eq l (outputs_in what)) k.outputs ∙ (sym (once-more (flat_map outputs_in said) (outputs_in what)) ∙ ap each_once (sym (flat-last outputs_in said what))));
  gates = t.gates ∙ (ap (λ l. l ++ gates_in what) k.gates ∙ sym (flat-last gates_in said what));
  wires = t.wires ∙ (ap (λ l. l ++ wires_in what) k.wires ∙ sym (flat-last wires_in said what));
  latches = t.latches ∙ (ap (λ l. l ++ latches_in what) k.latches ∙ sym (flat-last latches_in said what));
  arrivals = subst (arrival.StandsFor new.arrivals) (sym (flat-last arrivals_in said what)) (t.arrivals (flat_map arrivals_in said) k.arrivals);
  labels = λ class. t.labels class ∙ (ap (λ o. option_or o (label_among (labels_in what) class)) (k.labels class) ∙ (sym (label-append (flat_map labels_in said) (labels_in what) class) ∙ ap (λ ls. label_among ls class) (sym (flat-last labels_in said what))));
  classes = t.classes k.classes;
  low = t.low k.low;
  nets = λ name. t.nets name ∙ (ap (λ o. option_or o (class_among (nets_in what) name)) (k.nets name) ∙ (sym (class-append (flat_map nets_in said) (nets_in what) name) ∙ ap (λ ns. class_among ns name) (sym (flat-last nets_in said what))));
}

-- the faults of what is told twice

pub told-net : (kept : Contents) (before : List Saying) (name : List ℕ) (class : ClassId) (result : Result (Unit {0}) Refusal) → Keeps kept before → TellsFault result (cond (is_some (get bytes_eq kept.nets name)) (Some kind.Certificate) None) → TellsFault result (told_fault before (saying.Net name class))
told-net kept before name class result k told = subst (λ (o : Option ClassId). TellsFault result (cond (is_some o) (Some kind.Certificate) None)) (k.nets name) told

-- What may be said again.

pub again : (what : Saying) → ((class : ClassId) (label : Micro) → what ≡ saying.Label class label → ⊥) → ((name : List ℕ) (class : ClassId) → what ≡ saying.Net name class → ⊥) → MaySayAgain what
again (saying.Label class label) no_label no_net = no_label class label refl
again (saying.Net name class) no_label no_net = no_net name class refl
again other no_label no_net = tt

pub told-again : (before : List Saying) (what : Saying) → MaySayAgain what → told_fault before what ≡ None
told-again before (saying.Label class label) may = absurd may
told-again before (saying.Net name class) may = absurd may
told-again before other may = refl

first-alone : (m : Option (List ℕ)) → option_to_list m ≡ take 1 (option_to_list m ++ [])
first-alone None = refl
first-alone (Some name) = refl

or-none : {A : Type 0} (o : Option A) → o ≡ option_or o None
or-none None = refl
or-none (Some x) = refl

-- a line that says nothing
pub takes-nothing : (kept : Contents) → Takes kept saying.Nothing kept
takes-nothing kept = record {
  model = first-alone kept.model;
  inputs = sym (append-nil kept.inputs);
  outputs = refl;
  gates = sym (append-nil kept.gates);
  wires = sym (append-nil kept.wires);
  latches = sym (append-nil kept.latches);
  arrivals = λ lines stands. subst (arrival.StandsFor kept.arrivals) (sym (append-nil lines)) stands;
  labels = λ class. or-none (slice_index_or kept.labels.items class None);
  classes = λ few. few;
  low = λ low. low;
  nets = λ name. or-none (get bytes_eq kept.nets name);
}

-- what is so after a call that did not fail
pub ok-then : {X E P Q : Type 0} (r : Result X E) → (P → Q) → OnOk r P → OnOk r Q
ok-then (Ok x) f p = f p
ok-then (Err e) f p = tt

pub match-then : {X E P Q : Type 0} (R : E → Type 0) (r : Result X E) → (P → Q) → MatchResult r (λ _. P) R → OnOk r Q
match-then R (Ok x) f p = f p
match-then R (Err e) f p = tt
