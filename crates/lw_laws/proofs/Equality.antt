-- `same_form` decides equality.
use Rattle.std.proofs.Common.{◌≡◌, true, List, [], ◌∷◌, refl, ap, ap₂, eqb-true, eq-eqb}
use Rattle.std.proofs.lemmas.Bool.{and_parts}
use Rattle.lw_laws.specs.Forms.{Form, FormList, items, form_list, same_form, same_forms}
use Rattle.lw_laws.specs.Forms.Form.{var_form, true_form, not_form, and_form}
use Rattle.lw_laws.specs.Forms.FormList.{no_forms, more_forms}

mutual
  pub same_form_refl : (f : Form) → same_form f f ≡ true
  same_form_refl (var_form i) = eq-eqb i i refl
  same_form_refl true_form = refl
  same_form_refl (not_form f) = same_form_refl f
  same_form_refl (and_form fs) = same_forms_refl fs

  pub same_forms_refl : (fs : FormList) → same_forms fs fs ≡ true
  same_forms_refl no_forms = refl
  same_forms_refl (more_forms f fs) = rw (same_form_refl f) (same_forms_refl fs)

mutual
  pub same_form_eq : (f h : Form) → same_form f h ≡ true → f ≡ h
  same_form_eq (var_form i) (var_form j) e = ap var_form (eqb-true i j e)
  same_form_eq true_form true_form e = refl
  same_form_eq (not_form f) (not_form h) e = ap not_form (same_form_eq f h e)
  same_form_eq (and_form fs) (and_form hs) e = ap and_form (same_forms_eq fs hs e)
  same_form_eq _ _ e = cc

  pub same_forms_eq : (fs hs : FormList) → same_forms fs hs ≡ true → fs ≡ hs
  same_forms_eq no_forms no_forms e = refl
  same_forms_eq (more_forms f fs) (more_forms h hs) e =
      let p = and_parts (same_form f h) (same_forms fs hs) e in
      ap₂ more_forms (same_form_eq f h p.0) (same_forms_eq fs hs p.1)
  same_forms_eq _ _ e = cc

pub items-form_list : (fs : List Form) → items (form_list fs) ≡ fs
items-form_list [] = refl
items-form_list (f ∷ fs) = ap (λ hs. f ∷ hs) (items-form_list fs)

pub form_list-items : (fs : FormList) → form_list (items fs) ≡ fs
form_list-items no_forms = refl
form_list-items (more_forms f fs) = ap (more_forms f) (form_list-items fs)
