use Rattle.std.proofs.Common.{◌≡◌, All, List, refl, sym, subst, true}
use Rattle.lw_pool.specs.declared.id.ClassId.{ClassId}
use Rattle.lw_look.specs.Lists.{is_seen}
use Rattle.lw_look.proofs.RightLists.{new_stands, seen_pins, stands_new}
use Rattle.lw_look.proofs.look.Look.may_stand.Goals as goal

pub returns-then-not-is_new : goal.returns-then-not-is_new
returns-then-not-is_new c = λ gates j are. (
  λ f. absurd (cc),
  λ stands. c.if-not-is_new.ensures.1 (stands_new c.args.self.now gates j c.args.seen.now c.args.gate.now are stands),
)

pub returns-then-not-are_seen : goal.returns-then-not-are_seen
returns-then-not-are_seen c = λ gates j are. (
  λ f. absurd (cc),
  λ stands. c.if-not-are_seen.ensures.1 (subst (λ (ps : List ClassId). All (λ (class : ClassId). is_seen c.args.seen.now class.0 ≡ true) ps) (sym c.as_slice.ensures.classes) (seen_pins c.args.self.now.graph.now gates j c.args.seen.now c.args.gate.now.found.pins are stands.pins)),
)

pub returns : goal.returns
returns c = λ gates j are.
    let pins = subst (λ (ps : List ClassId). All (λ (class : ClassId). is_seen c.args.seen.now class.0 ≡ true) ps) c.as_slice.ensures.classes (c.if-not-are_seen.ensures.0 refl) in (
      λ t. new_stands c.args.self.now gates j c.args.seen.now c.args.gate.now are (c.if-not-is_new.ensures.0 refl) pins (c.is_match.ensures.0 t),
      λ stands. c.is_match.ensures.1 stands.is_match,
    )
