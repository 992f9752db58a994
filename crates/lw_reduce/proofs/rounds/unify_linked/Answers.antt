use Rattle.std.proofs.Common.{◌/◌, ◌<◌, get_or, length, sym, subst, ◌∙◌, true≢false}
use Rattle.std.proofs.lemmas.List.Elements.{All-get_or, Contains-get_or}
use Rattle.lw_laws.specs.Families.Equivalent.{linked}
use Rattle.lw_reduce.specs.declared.facts.Link.{Link}
use Rattle.lw_reduce.specs.Representatives.{IsLinkIn}
use Rattle.lw_reduce.proofs.RepSteps.{step_true, step_false, agree_more, valid_at}
use Rattle.lw_reduce.proofs.rounds.unify_linked.Goals as goal
use Rattle.lw_reduce.proofs.rounds.unify_linked.Goals.{then-unify, else-unify}

pub unify-requires : goal.unify-requires
unify-requires c =
    let reps = c.loop-link.reps in
    let valid = c.loop-link.invariant.progress.valid in
    let none : Link = record { left = 0; right = 0 } in
    let link = get_or c.args.facts.now.links.now c.loop-link.link-index none in
    let within = All-get_or (IsLinkIn (length c.args.reps.now)) c.args.facts.now.links.now c.loop-link.link-index none c.loop-link-test.true valid.links_in in
    record {
      valid = valid_at (length reps) c.args.facts.now.nands.now c.args.facts.now.links.now reps (length c.args.reps.now) valid (sym valid.count);
      left = subst (λ m. link.left / 2 < m) (sym valid.count) within.0;
      right = subst (λ m. link.right / 2 < m) (sym valid.count) within.1;
      alike = linked (Contains-get_or c.args.facts.now.links.now c.loop-link.link-index (record { left = 0; right = 0 }) c.loop-link-test.true);
    }

pub loop-link-preserved : goal.loop-link-preserved
loop-link-preserved c =
    let n = length c.args.reps.now in
    let nands = c.args.facts.now.nands.now in
    let links = c.args.facts.now.links.now in
    let l = c.loop-link in
    let none : Link = record { left = 0; right = 0 } in
    let lt = c.loop-link-test.true in
    let p = l.invariant.progress in
    let q = c.unify.ensures.progress in
    elim c.if-unify.branch [
      | then-unify w ↦ record {
        progress = step_true n nands links c.args.reps.now l.reps c.unify.new.reps l.changed c.if-unify.changed c.unify.result p q w.if-unify.true w.changed-is;
        same = λ e. absurd (true≢false (sym w.changed-is ∙ e));
      }
      | else-unify w ↦ record {
        progress = step_false n nands links c.args.reps.now l.reps c.unify.new.reps l.changed c.if-unify.changed c.unify.result p q w.if-unify.false w.changed-is;
        same = λ e f. agree_more n nands links c.args.reps.now l.reps c.unify.new.reps l.link-index none f lt (l.invariant.same (sym w.changed-is ∙ e) f) (c.unify.ensures.same w.if-unify.false);
      }
    ]
