use Rattle.std.proofs.Common.{ap, sym, ◌∙◌, drop, ◌+◌, arith}
use Rattle.std.specs.Str.{bytes_eq}
use Rattle.indexmap.specs.IndexSet.{insert_key, insert_all}
use Rattle.std.proofs.lemmas.List.{drop_all}
use Rattle.lw_blif.proofs.WordLists.{insert_all-get}
use Rattle.lw_blif.proofs.defining.add_all.Goals as goal

pub loop-i-preserved : goal.loop-i-preserved
loop-i-preserved c =
    let words = c.args.words.now in
    let i = c.loop-i.i in
    ap (λ ks. insert_all bytes_eq ks (drop (i + 1) words)) (c.in_ok-insert.ensures.keys ∙ ap (insert_key bytes_eq c.loop-i.names.keys) c.in_ok-name.ensures)
    ∙ (insert_all-get c.loop-i.names.keys words i c.get.result.now c.get.ensures.word ∙ c.loop-i.invariant)

pub returns : goal.returns
returns c = sym (ap (insert_all bytes_eq c.loop-i.names.keys) (drop_all c.loop-i.i c.args.words.now (omega (arith, c.loop-i-test.false, c.len-i-end.ensures)))) ∙ c.loop-i.invariant
