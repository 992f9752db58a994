use Rattle.std.proofs.Common.{[], ap, ◌∙◌, ◌++◌, arith}
use Rattle.std.proofs.lemmas.List.{nil_from_length}
use Rattle.std.specs.Prelude.{replicate}
use Rattle.lw_genlib.specs.declared.op.ExprOp.TheVariants.{Not}
use Rattle.lw_genlib.specs.Grammar.{close_token}
use Rattle.lw_genlib.proofs.Taking.{close_taken}
use Rattle.lw_genlib.proofs.Opening.{inner_small, outer_small, some_outer}
use Rattle.lw_genlib.proofs.parsing.Reading.close.Goals as goal

pub end_sum-requires : goal.end_sum-requires
end_sum-requires c = (inner_small close_token c.args.self.now c.requires).products

pub end_factor-requires : goal.end_factor-requires
end_factor-requires c = outer_small close_token c.args.self.now c.requires c.pop.new.self.items c.in-Some.group c.in-Some.ensures.items

pub returns-in_default : goal.returns-in_default
returns-in_default c = λ groups h may. absurd (some_outer c.args.self.now (groups, h, may) (nil_from_length c.args.self.now.outer.items (omega (arith, c.in_default.ensures.cases.0, c.args.self.now.outer.ok.0))))

pub returns : goal.returns
returns c = close_taken [] c.args.self.now _ c.in-Some.group c.in-Some.ensures.items c.in_ok-end_factor.ensures.0 (c.in_ok-end_factor.ensures.1 ∙ ap (λ s. s ++ replicate c.in-Some.group.bangs Not) c.in_ok-end_sum.ensures)
