use Rattle.lw_form.proofs.KeptForms.{both_valued}
use Rattle.lw_form.proofs.laws.forms_have_the_nets_values.Goals as goal

pub returns : goal.returns
returns c = both_valued
