use Rattle.lw_form.proofs.KeptForms.{forms_kept}
use Rattle.lw_form.proofs.laws.occurring_forms_are_kept.Goals as goal

pub returns : goal.returns
returns c = forms_kept
