use Rattle.std.proofs.Common.{◌++◌, refl, sym, ap, ◌∙◌, subst}
use Rattle.std.specs.Prelude.{OnOk, replicate}
use Rattle.lw_genlib.specs.declared.op.ExprOp.TheVariants.{Not}
use Rattle.lw_genlib.specs.Parsing.{MayTake, Takes}
use Rattle.lw_genlib.proofs.Opening.{inner_small}
use Rattle.lw_genlib.proofs.Taking.{name_taken, punct_taken, on_ok}
use Rattle.lw_genlib.proofs.parsing.Reading.take.Goals as goal

pub end_factor-requires : goal.end_factor-requires
end_factor-requires c = (inner_small c.args.token.now c.args.self.now c.requires.may).factors

pub punct-requires : goal.punct-requires
punct-requires c = subst (λ t. MayTake t c.args.self.now) c.in-Punct.is c.requires.may

pub returns-in_ok-end_factor-in-Name : goal.returns-in_ok-end_factor-in-Name
returns-in_ok-end_factor-in-Name c =
    let new = record c.args.self.now { inner = c.end_factor.new.self; ops = c.end_factor.new.ops } in
    subst (λ t. Takes c.args.pins.now t c.args.self.now new) (sym c.in-Name.is)
    (name_taken c.args.pins.now c.args.self.now new c.in-Name.name c.literal_of.result c.literal_of.ensures refl c.in_ok-end_factor-in-Name.ensures.0
    (c.in_ok-end_factor-in-Name.ensures.1 ∙ ap (λ s. s ++ replicate c.args.self.now.inner.bangs Not) c.in_ok-push-in-Name.ensures.items))

pub returns-in-Punct : goal.returns-in-Punct
returns-in-Punct c =
    subst (λ t. OnOk c.punct.result (Takes c.args.pins.now t c.args.self.now c.punct.new.self)) (sym c.in-Punct.is)
    (on_ok c.punct.result (punct_taken c.args.pins.now c.args.self.now c.punct.new.self c.in-Punct.byte) c.punct.ensures)
