use Rattle.std.proofs.Common.{[], refl, sym, subst, arith}
use Rattle.std.specs.Prelude.{OnOk}
use Rattle.std.proofs.lemmas.Bool.{ne_eqb}
use Rattle.lw_genlib.specs.declared.token.Token.TheVariants.{Punct}
use Rattle.lw_genlib.specs.Parsing.{MayTake, Takes}
use Rattle.lw_genlib.proofs.Opening.{inner_small}
use Rattle.lw_genlib.proofs.Taking.{bang_taken, quote_taken, plus_taken, other_taken}
use Rattle.lw_genlib.proofs.parsing.Reading.punct.Goals as goal

pub close-requires : goal.close-requires
close-requires c = subst (λ b. MayTake (Punct b) c.args.self.now) c.in-41.is c.requires

pub add_bang-requires : goal.add_bang-requires
add_bang-requires c = (inner_small (Punct c.args.byte) c.args.self.now c.requires).bangs

pub end_product-requires : goal.end_product-requires
end_product-requires c = (inner_small (Punct c.args.byte) c.args.self.now c.requires).products

pub returns-in-40 : goal.returns-in-40
returns-in-40 c = subst (λ b. OnOk c.open.result (Takes [] (Punct b) c.args.self.now c.open.new.self)) (sym c.in-40.is) c.open.ensures

pub returns-in-41 : goal.returns-in-41
returns-in-41 c = subst (λ b. OnOk c.close.result (Takes [] (Punct b) c.args.self.now c.close.new.self)) (sym c.in-41.is) c.close.ensures

pub returns-in-33 : goal.returns-in-33
returns-in-33 c =
    let new = record c.args.self.now { inner = c.add_bang.new.self } in
    subst (λ b. Takes [] (Punct b) c.args.self.now new) (sym c.in-33.is) (bang_taken [] c.args.self.now new refl c.add_bang.ensures refl)

pub returns-in_ok-push-in-39 : goal.returns-in_ok-push-in-39
returns-in_ok-push-in-39 c =
    let new = record c.args.self.now { ops = c.push.new.self } in
    subst (λ b. Takes [] (Punct b) c.args.self.now new) (sym c.in-39.is) (quote_taken [] c.args.self.now new refl refl c.in_ok-push-in-39.ensures.items)

pub returns-in_ok-end_product-in-43 : goal.returns-in_ok-end_product-in-43
returns-in_ok-end_product-in-43 c =
    let new = record c.args.self.now { inner = c.end_product.new.self; ops = c.end_product.new.ops } in
    subst (λ b. Takes [] (Punct b) c.args.self.now new) (sym c.in-43.is)
    (plus_taken [] c.args.self.now new refl c.in_ok-end_product-in-43.ensures.0 c.in_ok-end_product-in-43.ensures.1)

pub returns-in_default : goal.returns-in_default
returns-in_default c =
    other_taken [] c.args.self.now c.args.byte (ne_eqb c.args.byte 33 (λ e. absurd (omega (arith, e)))) (ne_eqb c.args.byte 39 (λ e. absurd (omega (arith, e)))) (ne_eqb c.args.byte 43 (λ e. absurd (omega (arith, e))))
    (ne_eqb c.args.byte 40 (λ e. absurd (omega (arith, e)))) (ne_eqb c.args.byte 41 (λ e. absurd (omega (arith, e))))
