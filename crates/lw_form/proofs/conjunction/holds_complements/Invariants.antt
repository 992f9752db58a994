use Rattle.std.proofs.Common.{◌≡◌, ◌==◌, drop, bit_xor}
use Rattle.std.specs.List.{list_any}
use Rattle.lw_form.proofs.conjunction.holds_complements.Given as goal

abbrev pub invariant-loop-form : goal.invariant-loop-form
invariant-loop-form l = list_any (λ f. list_any (λ h. bit_xor f 1 == h) l.kept.keys) (drop l.form-index l.forms) ≡ list_any (λ f. list_any (λ h. bit_xor f 1 == h) l.kept.keys) l.forms
