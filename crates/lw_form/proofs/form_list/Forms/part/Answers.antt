use Rattle.std.proofs.Common.{sym, ap, ◌∙◌, Some}
use Rattle.lw_laws.specs.NumberedForms.{NumberedForms}
use Rattle.lw_form.specs.Bases.{plain_base}
use Rattle.lw_form.proofs.Parts.{alone, listed, not_absent}
use Rattle.lw_form.proofs.form_list.Forms.part.Goals as goal

pub returns-then-len-eq1 : goal.returns-then-len-eq1
returns-then-len-eq1 c =
    alone c.args.self.now c.args.b c.args.mask c.in-And.ids c.picked-part.result (c.base.ensures.base ∙ ap (λ b. Some (plain_base b)) c.in-And.is) c.picked-part.ensures c.get.result.0 (sym c.len.ensures.len ∙ c.if-len-eq1.true) c.get.ensures

pub unreachable-requires-in-None : goal.unreachable-requires-in-None
unreachable-requires-in-None c =
    not_absent c.args.self.now c.self.inside.bases.keys c.args.b c.args.mask c.in-And.ids c.picked-part.result c.base.ensures.kept (ap (λ (f : NumberedForms). f.bases) (sym c.self.view_is)) c.requires (c.base.ensures.base ∙ ap (λ b. Some (plain_base b)) c.in-And.is) c.picked-part.ensures (λ e. c.if-len-eq1.false (c.len.ensures.len ∙ e)) (sym c.in-None.ensures.found)

pub returns : goal.returns
returns c =
    listed c.args.self.now c.self.inside.bases.keys c.args.b c.args.mask c.in-And.ids c.picked-part.result c.base.ensures.kept (ap (λ (f : NumberedForms). f.bases) (sym c.self.view_is)) c.requires (c.base.ensures.base ∙ ap (λ b. Some (plain_base b)) c.in-And.is) c.picked-part.ensures c.in-Some.place (λ e. c.if-len-eq1.false (c.len.ensures.len ∙ e)) (sym c.in-Some.ensures.index)
