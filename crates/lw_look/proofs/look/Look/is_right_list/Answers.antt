use Rattle.std.proofs.Common.{◌≡◌, ◌≤◌, ◌∙◌, All, Bool, List, length, refl, sym, subst, subst₂, true, arith}
use Rattle.std.specs.Vec.{with_items}
use Rattle.std.proofs.lemmas.List.{with_items_is}
use Rattle.lw_pool.specs.declared.id.ClassId.{ClassId}
use Rattle.lw_extract.specs.Choosing.{chosen_classes}
use Rattle.lw_look.specs.Lists.{AreSeen, is_seen}
use Rattle.lw_look.proofs.RightLists.{all_seen, nets_seen, right_stands, standing_is_right}
use Rattle.lw_look.proofs.look.Look.is_right_list.Goals as goal

pub all_stand-requires-clause-inputs : goal.all_stand-requires-clause-inputs
all_stand-requires-clause-inputs c =
    let gates = chosen_classes c.args.list.now in
    let kept = with_items_is c.in_ok-seen.seen c.see_inputs.new.seen (omega (arith, c.see_inputs.auto.seen, c.deref_mut.ensures.len)) in
    subst (AreSeen c.args.self.now.graph.now gates 0) (sym (c.deref_mut-2.ensures.value ∙ kept)) (c.see_inputs.ensures gates)

pub returns-then-not-all_stand : goal.returns-then-not-all_stand
returns-then-not-all_stand c = (
  λ f. absurd (cc),
  λ right. c.if-not-all_stand.ensures.stand.1 (right_stands c.args.self.now c.args.list.now right),
)

pub returns : goal.returns
returns c =
    let l = c.args.self.now in
    let list = c.args.list.now in
    let roots = l.ports.now.roots in
    let seen = c.all_stand.new.seen in
    let first = with_items c.in_ok-seen.seen c.see_inputs.new.seen in
    let read : c.deref.result.now ≡ seen = c.deref.ensures.value ∙ with_items_is first seen (omega (arith, c.all_stand.auto.seen, c.deref_mut-2.ensures.len)) in
    let are = c.if-not-all_stand.ensures.seen refl in
    let whole : length list ≤ length list = omega arith in (
      λ t. standing_is_right l list (c.if-not-all_stand.ensures.stand.0 refl) (all_seen l list seen (length list) whole are roots (subst₂ (λ (ss : List Bool) (ps : List ClassId). All (λ (class : ClassId). is_seen ss class.0 ≡ true) ps) read c.as_slice.ensures (c.are_seen.ensures.0 t))),
      λ right. c.are_seen.ensures.1 (subst₂ (λ (ss : List Bool) (ps : List ClassId). All (λ (class : ClassId). is_seen ss class.0 ≡ true) ps) (sym read) (sym c.as_slice.ensures) (nets_seen l list seen (length list) whole are roots right.roots)),
    )
