use Rattle.std.proofs.Common.{true, false, not, ◌≡◌, ◌++◌, ◌∷◌, [], ap, sym, ◌∙◌, drop, ◌+◌, append_assoc, arith}
use Rattle.std.specs.List.{list_any, slice_range}
use Rattle.std.specs.Str.{bytes_eq}
use Rattle.std.proofs.lemmas.Bool.{false≢true}
use Rattle.std.proofs.lemmas.List.{drop_all}
use Rattle.lw_facts.proofs.Lists.{slice_range_more}
use Rattle.indexmap.specs.IndexSet.{insert_key}
use Rattle.lw_blif.specs.Readers.{are_fresh}
use Rattle.lw_blif.proofs.WordLists.{fresh-get, insert-new, slice_range_end}
use Rattle.lw_blif.proofs.defining.define_all.Goals as goal

pub returns-then-not-branch : goal.returns-then-not-branch
returns-then-not-branch c =
    let words = c.args.words.now in
    let i = c.loop-i.i in
    let added : c.in_ok-insert.field-0 ≡ not (list_any (bytes_eq c.get.result.now) c.loop-i.defined.keys) =
    c.in_ok-insert.ensures.added ∙ ap (λ k. not (list_any (bytes_eq k) c.loop-i.defined.keys)) c.in_ok-name.ensures in
    record {
      fresh = sym (fresh-get c.loop-i.defined.keys words i c.get.result.now false c.get.ensures.word (sym c.if-not-branch.true ∙ added)) ∙ c.loop-i.invariant.1;
      defined = λ is. absurd (false≢true is);
    }

pub loop-i-preserved : goal.loop-i-preserved
loop-i-preserved c =
    let words = c.args.words.now in
    let i = c.loop-i.i in
    let word = c.get.result.now in
    let added : c.in_ok-insert.field-0 ≡ not (list_any (bytes_eq word) c.loop-i.defined.keys) =
    c.in_ok-insert.ensures.added ∙ ap (λ k. not (list_any (bytes_eq k) c.loop-i.defined.keys)) c.in_ok-name.ensures in
    let new : true ≡ not (list_any (bytes_eq word) c.loop-i.defined.keys) = sym c.if-not-branch.false ∙ added in
    let keys : c.insert.new.self.keys ≡ c.loop-i.defined.keys ++ word ∷ [] =
    c.in_ok-insert.ensures.keys ∙ (ap (insert_key bytes_eq c.loop-i.defined.keys) c.in_ok-name.ensures ∙ insert-new c.loop-i.defined.keys word new) in (
      keys ∙ (ap (λ ks. ks ++ word ∷ []) c.loop-i.invariant.0
          ∙ (append_assoc c.args.defined.now.keys (slice_range words c.args.from i) (word ∷ [])
          ∙ ap (λ r. c.args.defined.now.keys ++ r) (sym (slice_range_more words c.args.from i word c.loop-i.auto.i c.get.ensures.word)))),
      ap (λ ks. are_fresh ks (drop (i + 1) words)) keys
          ∙ (sym (fresh-get c.loop-i.defined.keys words i word true c.get.ensures.word new) ∙ c.loop-i.invariant.1),
    )

pub returns : goal.returns
returns c =
    let words = c.args.words.now in
    let i = c.loop-i.i in
    record {
      fresh = sym (ap (are_fresh c.loop-i.defined.keys) (drop_all i words (omega (arith, c.loop-i-test.false, c.len-i-end.ensures)))) ∙ c.loop-i.invariant.1;
      defined = λ is. c.loop-i.invariant.0 ∙ ap (λ r. c.args.defined.now.keys ++ r) (slice_range_end c.args.from i words (omega (arith, c.loop-i-test.false, c.len-i-end.ensures)) c.loop-i.auto.i);
    }
