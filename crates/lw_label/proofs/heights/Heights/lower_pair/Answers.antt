use Rattle.std.proofs.Common.{◌≡◌, ◌<◌, ◌/◌, ◌||◌, ◌∙◌, IfSome, ap, sym, subst}
use Rattle.std.proofs.lemmas.Bool.{not-true}
use Rattle.lw_laws.proofs.Flips.{flip-flip, xor-one, half-flip}
use Rattle.lw_laws.specs.Flip.{flip}
use Rattle.lw_label.specs.Heights.{AreSameBut, IsReached, heights_weight, LowersHeights}
use Rattle.lw_label.specs.HeightTables.{IsReachedIn, IsTableAround}
use Rattle.lw_label.specs.Orders.{places_of}
use Rattle.lw_label.proofs.HeightPasses.{heights_at, heights_any}
use Rattle.lw_label.proofs.HeightTables.{around_class, with_next}
use Rattle.lw_label.proofs.Passing.{passes_again}
use Rattle.lw_label.proofs.Still.{pair_lowers, pair_others, pair_still}
use Rattle.lw_label.proofs.heights.Heights.lower_pair.Goals as goal

pub first_of-class-requires-clause-one_each : goal.first_of-class-requires-clause-one_each
first_of-class-requires-clause-one_each g c = c.requires.may.search.given.lowering.one_each

pub lower-first-requires-clause-place : goal.lower-first-requires-clause-place
lower-first-requires-clause-place g c =
    subst (λ p. p < places_of c.args.given.now.task.now.graph.now) (sym c.first_of-class.ensures) c.requires.place

pub lower_beside-may_fall-requires-clause-place : goal.lower_beside-may_fall-requires-clause-place
lower_beside-may_fall-requires-clause-place g c =
    let a = c.first_of-class.result.0 in
    let at : c.flip.result.0 / 2 ≡ c.args.place = ap (λ n. n / 2) (c.flip.ensures ∙ xor-one a) ∙ (half-flip a ∙ c.first_of-class.ensures) in
    subst (λ p. p < places_of c.args.given.now.task.now.graph.now) (sym at) c.requires.place

pub lower_beside-may_fall-requires-2-clause-place : goal.lower_beside-may_fall-requires-2-clause-place
lower_beside-may_fall-requires-2-clause-place g c =
    subst (λ p. p < places_of c.args.given.now.task.now.graph.now) (sym c.first_of-class.ensures) c.requires.place

pub lower-first-requires-clause-may : goal.lower-first-requires-clause-may
lower-first-requires-clause-may g c =
    let task = c.args.given.now.task.now in
    let own = c.args.self.now in
    record {
      search = c.requires.may.search;
      table = subst (λ p. IfSome own.table (IsTableAround task.graph.now task.pats.now own.marks.items p)) (sym c.first_of-class.ensures) c.requires.may.table;
    }

pub lower_beside-may_fall-requires-clause-may : goal.lower_beside-may_fall-requires-clause-may
lower_beside-may_fall-requires-clause-may g c =
    let task = c.args.given.now.task.now in
    let own = c.args.self.now in
    let place = c.args.place in
    let a = c.first_of-class.result.0 in
    let b = c.flip.result.0 in
    let first = c.lower-first in
    let next = first.new.self in
    let at : b / 2 ≡ place = ap (λ n. n / 2) (c.flip.ensures ∙ xor-one a) ∙ (half-flip a ∙ c.first_of-class.ensures) in
    let one : AreSameBut (λ n. n / 2 ≡ place) own.marks.items next.marks.items = λ n not. first.ensures.others n (λ e. not (ap (λ k. k / 2) e ∙ c.first_of-class.ensures)) in
    record {
      search = first.ensures.search;
      table = around_class task.graph.now task.pats.now own.marks.items next.marks.items place b own.table next.table at one first.ensures.table c.requires.may.table;
    }

pub lower_beside-may_fall-requires-2-clause-may : goal.lower_beside-may_fall-requires-2-clause-may
lower_beside-may_fall-requires-2-clause-may g c =
    let task = c.args.given.now.task.now in
    let own = c.args.self.now in
    let place = c.args.place in
    let a = c.first_of-class.result.0 in
    let b = c.flip.result.0 in
    let first = c.lower-first in
    let second = c.lower_beside-may_fall.ensures.lowers in
    let mid = first.new.self in
    let new = c.lower_beside-may_fall.new.self in
    let flipped : b ≡ flip a = c.flip.ensures ∙ xor-one a in
    let two = pair_others place a b own.marks.items mid.marks.items new.marks.items c.first_of-class.ensures flipped first.ensures.others second.others in
    let next = with_next mid.marks.items new.marks.items own.table mid.table new.table first.ensures.table second.table in
    record {
      search = second.search;
      table = around_class task.graph.now task.pats.now own.marks.items new.marks.items place a own.table new.table c.first_of-class.ensures two next c.requires.may.table;
    }

pub returns-then-not-may_fall : goal.returns-then-not-may_fall
returns-then-not-may_fall g c =
    let given = c.args.given.now in
    let graph = given.task.now.graph.now in
    let pats = given.task.now.pats.now in
    let costs = g.C.Cost.costs given.task.now.cost.now in
    let labels = given.labels.now in
    let place = c.args.place in
    let a = c.first_of-class.result.0 in
    let b = c.flip.result.0 in
    let own = c.args.self.now in
    let first = c.lower-first in
    let second = c.lower_beside-may_fall.ensures.lowers in
    let visit = c.lower_beside-may_fall.result.0 in
    let old = own.marks.items in
    let mid = first.new.self.marks.items in
    let later = c.lower_beside-may_fall.new.self in
    let new = later.marks.items in
    let flipped : b ≡ flip a = c.flip.ensures ∙ xor-one a in
    let back : flip b ≡ a = ap flip flipped ∙ flip-flip a in
    let both = pair_lowers graph costs pats labels old mid new place a b c.first_of-class.ensures flipped first.result.lowered visit.lowered (heights_at graph costs pats labels old mid a first.result.lowered first.ensures.takes first.ensures.reached) (heights_at graph costs pats labels mid new b visit.lowered second.takes second.reached) in
    record {
      search = second.search;
      lowers = subst (λ x. LowersHeights graph costs pats labels old new (λ n. n / 2 ≡ place) x) (sym c.either-lowered.ensures) both;
      still = λ t.
          let (one, other) = c.both-is_still.ensures t in
          let beside = subst (IsReachedIn g.C.Cost.costs given later) back (c.lower_beside-may_fall.ensures.beside c.if-not-may_fall.true (subst (IsReachedIn g.C.Cost.costs given first.new.self) (sym back) (first.ensures.still other))) in
          pair_still graph costs pats labels new place a b c.first_of-class.ensures flipped beside (second.still one);
      others = pair_others place a b old mid new c.first_of-class.ensures flipped first.ensures.others second.others;
      table = with_next mid new own.table first.new.self.table later.table first.ensures.table second.table;
    }

pub returns : goal.returns
returns g c =
    let given = c.args.given.now in
    let graph = given.task.now.graph.now in
    let pats = given.task.now.pats.now in
    let costs = g.C.Cost.costs given.task.now.cost.now in
    let labels = given.labels.now in
    let place = c.args.place in
    let a = c.first_of-class.result.0 in
    let b = c.flip.result.0 in
    let own = c.args.self.now in
    let first = c.lower-first in
    let second = c.lower_beside-may_fall.ensures.lowers in
    let third = c.lower_beside-may_fall-2.ensures.lowers in
    let visit = c.lower_beside-may_fall.result.0 in
    let last = c.lower_beside-may_fall-2.result.0 in
    let later = c.lower_beside-may_fall.new.self in
    let end = c.lower_beside-may_fall-2.new.self in
    let old = own.marks.items in
    let mid = first.new.self.marks.items in
    let new = later.marks.items in
    let final = end.marks.items in
    let flipped : b ≡ flip a = c.flip.ensures ∙ xor-one a in
    let two = pair_others place a b old mid new c.first_of-class.ensures flipped first.ensures.others second.others in
    let both = pair_lowers graph costs pats labels old mid new place a b c.first_of-class.ensures flipped first.result.lowered visit.lowered (heights_at graph costs pats labels old mid a first.result.lowered first.ensures.takes first.ensures.reached) (heights_at graph costs pats labels mid new b visit.lowered second.takes second.reached) in
    let next = with_next mid new own.table first.new.self.table later.table first.ensures.table second.table in
    let again = heights_any graph costs pats labels new final last.lowered third.takes in
    let changed = c.either-lowered-2.ensures ∙ ap (λ x. last.lowered || x) c.either-lowered.ensures in
    record {
      search = third.search;
      lowers = subst (λ x. LowersHeights graph costs pats labels old final (λ n. n / 2 ≡ place) x) (sym changed) (passes_again heights_weight (IsReached graph costs pats labels) old new final (λ n. n / 2 ≡ place) (visit.lowered || first.result.lowered) last.lowered both again);
      still = λ t.
          let (stays, rest) = c.both-is_still-2.ensures t in
          let (once_more, other) = c.both.ensures rest in
          let beside = subst (IsReachedIn g.C.Cost.costs given end) (sym flipped) (c.lower_beside-may_fall-2.ensures.beside (not-true c.lower_beside-may_fall-2.result.1 stays) (subst (IsReachedIn g.C.Cost.costs given later) flipped (second.still other))) in
          pair_still graph costs pats labels final place a b c.first_of-class.ensures flipped (third.still once_more) beside;
      others = λ n not. third.others n (λ e. not (ap (λ k. k / 2) e ∙ c.first_of-class.ensures)) ∙ two n not;
      table = with_next new final own.table later.table end.table next third.table;
    }
