use Rattle.std.proofs.Common.{◌∙◌, Contains, sym, subst}
use Rattle.std.proofs.lemmas.List.{take_all}
use Rattle.lw_graph.specs.declared.pair.Pair.{Pair}
use Rattle.lw_lut.proofs.Reaching.{seen_more}
use Rattle.lw_lut.proofs.reach.note_row.Goals as goal

abbrev none : Pair
none = record { x = record { 0 = 0 }; y = record { 0 = 0 } }

pub loop-pair-preserved : goal.loop-pair-preserved
loop-pair-preserved c =
    let inv = c.loop-pair.invariant in
    let one = c.note.ensures in
    let two = c.note-in-loop-pair.ensures in
    record {
      grown = record {
        one_each = two.grown.one_each ∙ (one.grown.one_each ∙ inv.grown.one_each);
        spans = λ k q i. two.grown.spans k q (one.grown.spans k q (inv.grown.spans k q i));
      };
      noted = seen_more c.loop-pair.reach.items c.note-in-loop-pair.new.reach.items c.args.class.0 c.args.row.now c.loop-pair.pair-index none c.loop-pair-test.true (λ k q i. two.grown.spans k q (one.grown.spans k q i)) (two.grown.spans _ c.args.class.0 one.noted, two.noted) inv.noted;
    }

pub returns-clause-noted : goal.returns-clause-noted
returns-clause-noted c = λ p h. c.loop-pair.invariant.noted p (subst (λ ps. Contains ps p) (sym (take_all c.loop-pair.pair-index c.args.row.now c.loop-pair-test.false)) h)
