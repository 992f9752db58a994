use Rattle.std.proofs.Common.{◌∙◌, sym, ap, subst, length, [], ◌∷◌, ◌≡◌}
use Rattle.lw_laws.specs.Expressions.{expr_value, MentionsPin}
use Rattle.lw_genlib.specs.Postfix.{run, tree_of}
use Rattle.lw_genlib.specs.Runs.{CanRun, word_by}
use Rattle.lw_genlib.specs.Words.{pins_at}
use Rattle.lw_genlib.proofs.Evaluating.{can_run_whole, bits_left}
use Rattle.lw_genlib.proofs.expr.Expr.words.Goals as goal

pub run_words-requires : goal.run_words-requires
run_words-requires c =
    subst (CanRun (length c.args.pins.now) 0) (c.self.invariant.whole ∙ sym c.deref.ensures.value)
    (can_run_whole (length c.args.pins.now) (tree_of c.self.inside.ops.items) c.self.invariant.wide c.self.invariant.few (λ k m. c.requires k (subst (λ e. MentionsPin e k) c.self.view_is m)))

pub returns : goal.returns
returns c k lt =
    bits_left c.args.pins.now (tree_of c.self.inside.ops.items) c.run_words.result (λ k. (c.type_inv.pins k).fits)
    (subst (λ ops. run (word_by c.args.pins.now) ops [] ≡ c.run_words.result ∷ []) (c.deref.ensures.value ∙ sym c.self.invariant.whole) c.run_words.ensures) k lt
    ∙ ap (expr_value (pins_at k c.args.pins.now)) c.self.view_is
