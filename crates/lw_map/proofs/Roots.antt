-- The classes of a network's outputs.
use Rattle.std.proofs.Common.{ℕ, ◌+◌, ◌/◌, ◌<◌, ◌≡◌, List, [], ◌∷◌, ◌++◌, map, take, length, Some, slice_get, get_or, ap, ap₂, sym, ◌∙◌, arith}
use Rattle.std.proofs.lemmas.List.{take_more, map-append}
use Rattle.std.proofs.lemmas.Option.{get_or_from_slice_get, slice_get_within}
use Rattle.lw_pool.specs.declared.id.ClassId.{ClassId}
use Rattle.lw_pool.specs.declared.id.NetId.{NetId}
use Rattle.lw_laws.specs.Graphs.{Graph, class_of}
use Rattle.lw_laws.specs.NumberedForms.{NumberedForms}
use Rattle.lw_laws.proofs.Lists.{slice_get_some}
use Rattle.lw_form.specs.Kept.{AreForms}
use Rattle.lw_map.specs.Choices.{root_of}
use Rattle.lw_pool.specs.Numbers.{numbers}

pub sop_listed_at : (forms : NumberedForms) (s f : ℕ) → AreForms forms → slice_get forms.sops s ≡ Some f → f / 2 < length forms.bases
sop_listed_at forms s f are e =
    let lt = slice_get_within forms.sops s f e in
    let one = are.nets.one_each in
    let (h, at) = slice_get_some forms.facs s (omega arith) in
    (are.numbered.signals f h (s, e, at)).0

pub roots_more : (forms : NumberedForms) (g : Graph) (outputs : List NetId) (roots : List ClassId) (i : ℕ) (d : NetId) (f : ℕ) (class : ClassId) → i < length outputs → numbers roots ≡ map (root_of forms g) (take i outputs) → slice_get forms.sops (get_or outputs i d).0 ≡ Some f → class.0 ≡ class_of g f → numbers (roots ++ class ∷ []) ≡ map (root_of forms g) (take (i + 1) outputs)
roots_more forms g outputs roots i d f class lt before at is =
    let same : class.0 ≡ root_of forms g (get_or outputs i d) = is ∙ ap (class_of g) (sym (get_or_from_slice_get forms.sops (get_or outputs i d).0 f 0 at)) in
    map-append (λ (c : ClassId). c.0) roots (class ∷ [])
    ∙ (ap₂ (λ (xs : List ℕ) (x : ℕ). xs ++ x ∷ []) before same
    ∙ (sym (map-append (root_of forms g) (take i outputs) (get_or outputs i d ∷ [])) ∙ ap (map (root_of forms g)) (sym (take_more outputs i d lt))))
