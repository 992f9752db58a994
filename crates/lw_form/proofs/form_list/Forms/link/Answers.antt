use Rattle.std.proofs.Common.{◌≡◌, ◌<◌, ◌++◌, ◌∷◌, [], ℕ, List, length, map, ap, ap₂, sym, ◌∙◌, subst, subst₂}
use Rattle.lw_laws.specs.NumberedForms.{NumberedForms}
use Rattle.lw_pool.specs.Numbers.{most_signals}
use Rattle.lw_form.specs.Bases.{plain_base}
use Rattle.lw_form.specs.Links.{HaveOneValue}
use Rattle.lw_form.specs.Kept.{AreForms, AreSamples}
use Rattle.lw_form.proofs.LinkedForms.{forms_stay, samples_stay}
use Rattle.lw_form.proofs.form_list.Forms.link.Goals as goal

pub invariant_of-self-2 : goal.invariant_of-self-2
invariant_of-self-2 c =
    let old : NumberedForms = record { inputs = c.self.inside.inputs; bases = map plain_base c.self.inside.bases.keys; sops = c.self.inside.sops.items; facs = c.self.inside.facs.items } in
    let one : HaveOneValue old c.args.left.0 c.args.right.0 = subst (λ (n : NumberedForms). HaveOneValue n c.args.left.0 c.args.right.0) (sym c.self.view_is) c.requires.one_value in
    let room : length old.sops < most_signals = subst (λ (n : NumberedForms). length n.sops < most_signals) (sym c.self.view_is) c.requires.room in
    let sops = c.push_reserved.ensures.items ∙ ap (λ (xs : List ℕ). xs ++ c.args.left.0 ∷ []) c.in_ok-reserve.ensures.items in
    let facs = c.push_reserved-2.ensures.items ∙ ap (λ (xs : List ℕ). xs ++ c.args.right.0 ∷ []) c.in_ok-reserve-2.ensures.items in
    subst₂ (λ (xs ys : List ℕ). AreForms (record { inputs = old.inputs; bases = old.bases; sops = xs; facs = ys }) × AreSamples (record { inputs = old.inputs; bases = old.bases; sops = xs; facs = ys }) c.self.inside.samples.items) (sym sops) (sym facs)
    (forms_stay old c.args.left.0 c.args.right.0 c.self.invariant.0 one room, samples_stay old c.args.left.0 c.args.right.0 c.self.inside.samples.items c.self.invariant.1)
