use Rattle.std.proofs.Common.{◌≡◌, ◌==◌, drop, bit_xor}
use Rattle.std.specs.List.{list_any}
use Rattle.lw_form.proofs.conjunction.few_clash.Given as goal

abbrev pub invariant-loop-form : goal.invariant-loop-form
invariant-loop-form l = list_any (λ f. list_any (λ h. bit_xor f 1 == h) l.kept) (drop l.form-index l.kept) ≡ list_any (λ f. list_any (λ h. bit_xor f 1 == h) l.kept) l.kept
