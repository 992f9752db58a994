use Rattle.std.proofs.Common.{sym, ap, ◌∙◌, arith}
use Rattle.std.specs.List.{list_all}
use Rattle.lw_facts.proofs.Lists.{list_all_get}
use Rattle.std.proofs.lemmas.List.{drop_all}
use Rattle.lw_words.proofs.names.are_names.Goals as goal
use Rattle.lw_words.specs.Words.{is_name}

pub returns-then-not-is_name : goal.returns-then-not-is_name
returns-then-not-is_name c =
    sym (list_all_get is_name c.args.words.now c.loop-i.i _ _ c.get.ensures.word (sym c.is_name.ensures ∙ c.if-not-is_name.true)) ∙ c.loop-i.invariant

pub loop-i-preserved : goal.loop-i-preserved
loop-i-preserved c =
    sym (list_all_get is_name c.args.words.now c.loop-i.i _ _ c.get.ensures.word (sym c.is_name.ensures ∙ c.if-not-is_name.false)) ∙ c.loop-i.invariant

pub returns : goal.returns
returns c = sym (ap (list_all is_name) (drop_all c.loop-i.i c.args.words.now (omega (arith, c.loop-i-test.false, c.len-i-end.ensures)))) ∙ c.loop-i.invariant
