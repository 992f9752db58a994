use Rattle.std.proofs.Common.{◌≡◌, ◌<◌, ◌/◌, ◌∙◌, length, ap, sym, subst}
use Rattle.std.proofs.lemmas.Bool.{not-true}
use Rattle.lw_laws.specs.Flip.{flip}
use Rattle.lw_laws.proofs.Flips.{flip-flip, xor-one, half-flip}
use Rattle.lw_label.specs.Orders.{places_of}
use Rattle.lw_label.specs.OneVisit.{AreBoundsAround}
use Rattle.lw_label.specs.Searches.{IsBoundedIn}
use Rattle.lw_label.proofs.OneVisit.{bounded_pair}
use Rattle.lw_label.proofs.Searching.{around_found, found_more, found_then}
use Rattle.lw_label.proofs.labelling.Labelling.label_pair.Goals as goal

pub first_of-class-requires-clause-one_each : goal.first_of-class-requires-clause-one_each
first_of-class-requires-clause-one_each g c =
    subst (λ ms. length ms ≡ length c.args.task.now.graph.now.pairs) (sym c.deref.ensures.value) c.requires.may.search.sought.lowering.one_each

pub lower_whole-requires-clause-place : goal.lower_whole-requires-clause-place
lower_whole-requires-clause-place g c =
    subst (λ p. p < places_of c.args.task.now.graph.now) (sym c.first_of-class.ensures) c.requires.place

pub lower_whole-requires-clause-may : goal.lower_whole-requires-clause-may
lower_whole-requires-clause-may g c = record {
  search = c.requires.may.search;
  around = subst (AreBoundsAround c.args.self.now.bounds c.args.task.now.graph.now c.args.self.now.marks.items) (sym c.first_of-class.ensures) c.requires.may.around;
}

pub lower_beside-requires-clause-place : goal.lower_beside-requires-clause-place
lower_beside-requires-clause-place g c =
    let a = c.first_of-class.result.0 in
    let at : c.flip-other.result.0 / 2 ≡ c.args.place = ap (λ n. n / 2) (c.flip-other.ensures ∙ xor-one a) ∙ (half-flip a ∙ c.first_of-class.ensures) in
    subst (λ p. p < places_of c.args.task.now.graph.now) (sym at) c.requires.place

pub lower_beside-requires-2-clause-place : goal.lower_beside-requires-2-clause-place
lower_beside-requires-2-clause-place g c =
    subst (λ p. p < places_of c.args.task.now.graph.now) (sym c.first_of-class.ensures) c.requires.place

pub lower_beside-requires-3-clause-place : goal.lower_beside-requires-3-clause-place
lower_beside-requires-3-clause-place g c =
    let a = c.first_of-class.result.0 in
    let at : c.flip-other.result.0 / 2 ≡ c.args.place = ap (λ n. n / 2) (c.flip-other.ensures ∙ xor-one a) ∙ (half-flip a ∙ c.first_of-class.ensures) in
    subst (λ p. p < places_of c.args.task.now.graph.now) (sym at) c.requires.place

pub lower_beside-requires-clause-may : goal.lower_beside-requires-clause-may
lower_beside-requires-clause-may g c =
    let task = c.args.task.now in
    let costs = g.C.Cost.costs in
    let place = c.args.place in
    let a = c.first_of-class.result.0 in
    let b = c.flip-other.result.0 in
    let at : b / 2 ≡ place = ap (λ n. n / 2) (c.flip-other.ensures ∙ xor-one a) ∙ (half-flip a ∙ c.first_of-class.ensures) in
    let s0 = c.args.self.now in
    let s1 = c.lower_whole.new.self in
    let one = found_more costs task s0 s1 (λ n. n ≡ a) (λ n. n / 2 ≡ place) (λ n e. ap (λ k. k / 2) e ∙ c.first_of-class.ensures) c.lower_whole.ensures.found in
    around_found costs task s0 s1 place (b / 2) at one c.requires.may

pub lower_beside-requires-2-clause-may : goal.lower_beside-requires-2-clause-may
lower_beside-requires-2-clause-may g c =
    let task = c.args.task.now in
    let costs = g.C.Cost.costs in
    let place = c.args.place in
    let a = c.first_of-class.result.0 in
    let b = c.flip-other.result.0 in
    let at : b / 2 ≡ place = ap (λ n. n / 2) (c.flip-other.ensures ∙ xor-one a) ∙ (half-flip a ∙ c.first_of-class.ensures) in
    let s0 = c.args.self.now in
    let s1 = c.lower_whole.new.self in
    let s2 = c.lower_beside.new.self in
    let one = found_more costs task s0 s1 (λ n. n ≡ a) (λ n. n / 2 ≡ place) (λ n e. ap (λ k. k / 2) e ∙ c.first_of-class.ensures) c.lower_whole.ensures.found in
    let two = found_more costs task s1 s2 (λ n. n ≡ b) (λ n. n / 2 ≡ place) (λ n e. ap (λ k. k / 2) e ∙ at) c.lower_beside.ensures.found in
    around_found costs task s0 s2 place (a / 2) c.first_of-class.ensures (found_then costs task s0 s1 s2 (λ n. n / 2 ≡ place) one two) c.requires.may

pub lower_beside-requires-3-clause-may : goal.lower_beside-requires-3-clause-may
lower_beside-requires-3-clause-may g c =
    let task = c.args.task.now in
    let costs = g.C.Cost.costs in
    let place = c.args.place in
    let a = c.first_of-class.result.0 in
    let b = c.flip-other.result.0 in
    let at : b / 2 ≡ place = ap (λ n. n / 2) (c.flip-other.ensures ∙ xor-one a) ∙ (half-flip a ∙ c.first_of-class.ensures) in
    let s0 = c.args.self.now in
    let s1 = c.lower_whole.new.self in
    let s2 = c.lower_beside.new.self in
    let s3 = c.lower_beside-2.new.self in
    let one = found_more costs task s0 s1 (λ n. n ≡ a) (λ n. n / 2 ≡ place) (λ n e. ap (λ k. k / 2) e ∙ c.first_of-class.ensures) c.lower_whole.ensures.found in
    let two = found_more costs task s1 s2 (λ n. n ≡ b) (λ n. n / 2 ≡ place) (λ n e. ap (λ k. k / 2) e ∙ at) c.lower_beside.ensures.found in
    let three = found_more costs task s2 s3 (λ n. n ≡ a) (λ n. n / 2 ≡ place) (λ n e. ap (λ k. k / 2) e ∙ c.first_of-class.ensures) c.lower_beside-2.ensures.found in
    around_found costs task s0 s3 place (b / 2) at (found_then costs task s0 s2 s3 (λ n. n / 2 ≡ place) (found_then costs task s0 s1 s2 (λ n. n / 2 ≡ place) one two) three) c.requires.may

pub returns-then-not-lower_beside : goal.returns-then-not-lower_beside
returns-then-not-lower_beside g c =
    let task = c.args.task.now in
    let costs = g.C.Cost.costs in
    let place = c.args.place in
    let a = c.first_of-class.result.0 in
    let b = c.flip-other.result.0 in
    let flipped : b ≡ flip a = c.flip-other.ensures ∙ xor-one a in
    let back : flip b ≡ a = ap flip flipped ∙ flip-flip a in
    let at : b / 2 ≡ place = ap (λ n. n / 2) flipped ∙ (half-flip a ∙ c.first_of-class.ensures) in
    let s0 = c.args.self.now in
    let s1 = c.lower_whole.new.self in
    let s2 = c.lower_beside.new.self in
    let one = found_more costs task s0 s1 (λ n. n ≡ a) (λ n. n / 2 ≡ place) (λ n e. ap (λ k. k / 2) e ∙ c.first_of-class.ensures) c.lower_whole.ensures.found in
    let two = found_more costs task s1 s2 (λ n. n ≡ b) (λ n. n / 2 ≡ place) (λ n e. ap (λ k. k / 2) e ∙ at) c.lower_beside.ensures.found in
    let own = subst (IsBoundedIn costs task s2) back (c.lower_beside.ensures.beside c.if-not-lower_beside.true (subst (IsBoundedIn costs task s1) (sym back) c.lower_whole.ensures.bounded)) in
    record {
      found = found_then costs task s0 s1 s2 (λ n. n / 2 ≡ place) one two;
      bounded = λ t. bounded_pair task.graph.now (costs task.cost.now) task.pats.now s2.marks.items place a b c.first_of-class.ensures flipped own c.lower_beside.ensures.bounded;
    }

pub returns-then-not-lower_beside-2 : goal.returns-then-not-lower_beside-2
returns-then-not-lower_beside-2 g c =
    let task = c.args.task.now in
    let costs = g.C.Cost.costs in
    let place = c.args.place in
    let a = c.first_of-class.result.0 in
    let b = c.flip-other.result.0 in
    let flipped : b ≡ flip a = c.flip-other.ensures ∙ xor-one a in
    let at : b / 2 ≡ place = ap (λ n. n / 2) flipped ∙ (half-flip a ∙ c.first_of-class.ensures) in
    let s0 = c.args.self.now in
    let s1 = c.lower_whole.new.self in
    let s2 = c.lower_beside.new.self in
    let s3 = c.lower_beside-2.new.self in
    let one = found_more costs task s0 s1 (λ n. n ≡ a) (λ n. n / 2 ≡ place) (λ n e. ap (λ k. k / 2) e ∙ c.first_of-class.ensures) c.lower_whole.ensures.found in
    let two = found_more costs task s1 s2 (λ n. n ≡ b) (λ n. n / 2 ≡ place) (λ n e. ap (λ k. k / 2) e ∙ at) c.lower_beside.ensures.found in
    let three = found_more costs task s2 s3 (λ n. n ≡ a) (λ n. n / 2 ≡ place) (λ n e. ap (λ k. k / 2) e ∙ c.first_of-class.ensures) c.lower_beside-2.ensures.found in
    let other = subst (IsBoundedIn costs task s3) (sym flipped) (c.lower_beside-2.ensures.beside c.if-not-lower_beside-2.true (subst (IsBoundedIn costs task s2) flipped c.lower_beside.ensures.bounded)) in
    record {
      found = found_then costs task s0 s2 s3 (λ n. n / 2 ≡ place) (found_then costs task s0 s1 s2 (λ n. n / 2 ≡ place) one two) three;
      bounded = λ t. bounded_pair task.graph.now (costs task.cost.now) task.pats.now s3.marks.items place a b c.first_of-class.ensures flipped c.lower_beside-2.ensures.bounded other;
    }

pub returns : goal.returns
returns g c =
    let task = c.args.task.now in
    let costs = g.C.Cost.costs in
    let place = c.args.place in
    let a = c.first_of-class.result.0 in
    let b = c.flip-other.result.0 in
    let flipped : b ≡ flip a = c.flip-other.ensures ∙ xor-one a in
    let back : flip b ≡ a = ap flip flipped ∙ flip-flip a in
    let at : b / 2 ≡ place = ap (λ n. n / 2) flipped ∙ (half-flip a ∙ c.first_of-class.ensures) in
    let s0 = c.args.self.now in
    let s1 = c.lower_whole.new.self in
    let s2 = c.lower_beside.new.self in
    let s3 = c.lower_beside-2.new.self in
    let s4 = c.lower_beside-3.new.self in
    let one = found_more costs task s0 s1 (λ n. n ≡ a) (λ n. n / 2 ≡ place) (λ n e. ap (λ k. k / 2) e ∙ c.first_of-class.ensures) c.lower_whole.ensures.found in
    let two = found_more costs task s1 s2 (λ n. n ≡ b) (λ n. n / 2 ≡ place) (λ n e. ap (λ k. k / 2) e ∙ at) c.lower_beside.ensures.found in
    let three = found_more costs task s2 s3 (λ n. n ≡ a) (λ n. n / 2 ≡ place) (λ n e. ap (λ k. k / 2) e ∙ c.first_of-class.ensures) c.lower_beside-2.ensures.found in
    let four = found_more costs task s3 s4 (λ n. n ≡ b) (λ n. n / 2 ≡ place) (λ n e. ap (λ k. k / 2) e ∙ at) c.lower_beside-3.ensures.found in
    record {
      found = found_then costs task s0 s3 s4 (λ n. n / 2 ≡ place) (found_then costs task s0 s2 s3 (λ n. n / 2 ≡ place) (found_then costs task s0 s1 s2 (λ n. n / 2 ≡ place) one two) three) four;
      bounded = λ t.
          let own = subst (IsBoundedIn costs task s4) back (c.lower_beside-3.ensures.beside (not-true c.lower_beside-3.result t) (subst (IsBoundedIn costs task s3) (sym back) c.lower_beside-2.ensures.bounded)) in
          bounded_pair task.graph.now (costs task.cost.now) task.pats.now s4.marks.items place a b c.first_of-class.ensures flipped own c.lower_beside-3.ensures.bounded;
    }
