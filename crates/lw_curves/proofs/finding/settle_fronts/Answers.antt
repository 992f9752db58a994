use Rattle.std.proofs.Common.{◌≡◌, ◌∙◌, List, OnOk, ap, length, replicate, sym, subst, arith}
use Rattle.std.proofs.lemmas.List.{length-replicate}
use Rattle.lw_laws.specs.Covers.{Pattern}
use Rattle.lw_laws.specs.Graphs.{Graph}
use Rattle.lw_curves.specs.Backing.{AreBacked}
use Rattle.lw_choices.specs.Choices.{AreListedChoices}
use Rattle.lw_curves.specs.Setups.{HaveFronts, HaveGainedAll, WhereListed, choices_of_setup, task_of}
use Rattle.lw_curves.specs.SeenAreas.{AreSeen}
use Rattle.lw_curves.specs.Settling.{AreSettled, AreSettledOr, IsStillFor, IsStop}
use Rattle.lw_curves.specs.Tallies.{unseen}
use Rattle.lw_curves.specs.Turns.{turns_of}
use Rattle.lw_curves.proofs.Backed.{none_backed}
use Rattle.lw_curves.proofs.Curving.{if_err_by, on_ok_by}
use Rattle.lw_curves.proofs.Starts.{first_still}
use Rattle.lw_curves.proofs.Falling.{tallies_first}
use Rattle.lw_curves.proofs.finding.settle_fronts.Goals as goal

pub none_seen-requires : goal.none_seen-requires
none_seen-requires c k d lt = (c.requires.setup.rows k d lt).part.of_library

pub settle_all-requires : goal.settle_all-requires
settle_all-requires c =
    let setup = c.args.setup.now in
    let rows = choices_of_setup setup in
    let u = setup.pin_groups.now in
    let pin_groups = c.requires.setup.pin_groups in
    let (g, pats, are) = c.requires.begun.listed in
    let s = task_of setup g pats in
    record {
      setup = c.requires.setup;
      time = omega arith;
      tallied =
          let count = c.len-3.ensures.len ∙ sym pin_groups.pins.are.count in
          let areas = c.in_ok-seen.ensures.areas ∙ ap (λ n. replicate n unseen) count in
          record {
            one_each = ap length areas ∙ length-replicate u.members.count unseen;
            tallies = tallies_first setup.lib.now rows u pin_groups c.in_ok-seen.seen.areas.items c.in_ok-seen.seen.tallies.items areas c.in_ok-seen.ensures.tallies;
          };
      seen = subst (λ ks. AreSeen u c.in_ok-seen.seen.areas.items ks c.in_ok-coming.coming) (sym c.requires.none.spots_none) (λ k g d (i, at) is le. cc);
      still =
          let horizon = c.requires.begun.horizon_is ∙ sym c.in_ok-coming.ensures.horizon in
          let first = first_still s rows u c.in_ok-coming.coming c.args.queue.now (c.requires.begun.first g pats are) c.in_ok-coming.ensures.items horizon in
          (g, pats, subst (λ ks. IsStillFor s rows 0 ks (turns_of u c.in_ok-coming.coming c.args.queue.now)) (sym c.requires.none.spots_none) first);
    }

pub returns-clause-settled : goal.returns-clause-settled
returns-clause-settled c =
    let setup = c.args.setup.now in
    let rows = choices_of_setup setup in
    let u = setup.pin_groups.now in
    let new = c.settle_all.new.fronts in
    let same = c.requires.begun.horizon_is ∙ sym c.in_ok-coming.ensures.horizon in
    let still : (g : Graph) (pats : List Pattern) → AreListedChoices (task_of setup g pats) rows → IsStillFor (task_of setup g pats) rows 0 c.args.fronts.now.spots (turns_of u c.in_ok-coming.coming c.args.queue.now) = λ g pats are.
    let s = task_of setup g pats in
    let first = first_still s rows u c.in_ok-coming.coming c.args.queue.now (c.requires.begun.first g pats are) c.in_ok-coming.ensures.items same in
    subst (λ ks. IsStillFor s rows 0 ks (turns_of u c.in_ok-coming.coming c.args.queue.now)) (sym c.requires.none.spots_none) first in
    let none : length c.args.fronts.now.spots ≡ 0 = ap length c.requires.none.spots_none in
    on_ok_by (HaveFronts setup.lib.now setup.starts.now setup.rows.now (length c.args.fronts.now.least) c.args.horizon new) c.settle_all.result (λ o e.
    let gained = subst (λ r. OnOk r (HaveGainedAll setup c.args.fronts.now new c.in_ok-coming.coming c.args.queue.now)) e c.settle_all.ensures.gained in
    record {
      count = sym c.settle_all.ensures.count;
      few = gained.few_points (omega (arith, none));
      settled = λ g pats are.
          let s = task_of setup g pats in
          let done = subst (AreSettledOr s rows c.in_ok-coming.coming.horizon new.spots) e (c.settle_all.ensures.settled g pats (still g pats are)) in
          subst (λ h. AreSettled s h rows new.spots) c.in_ok-coming.ensures.horizon done;
      backed = λ g pats are.
          let s = task_of setup g pats in
          gained.backed g pats (still g pats are) (subst (AreBacked s rows) (sym c.requires.none.held_none) (none_backed s rows));
    })

pub returns-clause-stop : goal.returns-clause-stop
returns-clause-stop c =
    let setup = c.args.setup.now in
    let rows = choices_of_setup setup in
    let u = setup.pin_groups.now in
    let new = c.settle_all.new.fronts in
    let same = c.requires.begun.horizon_is ∙ sym c.in_ok-coming.ensures.horizon in
    if_err_by (λ fault. WhereListed setup.lib.now setup.starts.now setup.rows.now (λ s choices. IsStop s choices c.args.horizon fault)) c.settle_all.result (λ fault e g pats are.
    let s = task_of setup g pats in
    let first = first_still s rows u c.in_ok-coming.coming c.args.queue.now (c.requires.begun.first g pats are) c.in_ok-coming.ensures.items same in
    let still = subst (λ ks. IsStillFor s rows 0 ks (turns_of u c.in_ok-coming.coming c.args.queue.now)) (sym c.requires.none.spots_none) first in
    let done = subst (AreSettledOr s rows c.in_ok-coming.coming.horizon new.spots) e (c.settle_all.ensures.settled g pats still) in
    subst (λ h. IsStop s rows h fault) c.in_ok-coming.ensures.horizon done)
