use Rattle.std.proofs.Common.{◌∙◌, None, Some, ap, sym, subst, slice_index_or, arith}
use Rattle.lw_laws.specs.Flip.{flip}
use Rattle.lw_laws.proofs.Flips.{xor-one}
use Rattle.lw_pattern.specs.Nodes.{tree_at}
use Rattle.lw_pattern.specs.declared.node.PatNode.TheVariants.{Pin, One, Zero, Inv, Nand}
use Rattle.lw_check.specs.Standing.{StandsAlone}
use Rattle.lw_check.proofs.Standings.{alone_within, one_alone, pin_alone, zero_alone}
use Rattle.lw_check.proofs.standing.Placed.class_of_node.Goals as goal
use Rattle.lw_pool.specs.Numbers.{numbers}

pub bounds-classes-operand : goal.bounds-classes-operand
bounds-classes-operand c = let low = c.requires.placed.kept.each c.args.place (Inv c.in-Inv.operand) c.in-Inv.ensures in let room = c.requires.before in omega (arith, low.0, room.inside, room.room)

pub bounds-classes-left : goal.bounds-classes-left
bounds-classes-left c = let low = c.requires.placed.kept.each c.args.place (Nand c.in-Nand.left c.in-Nand.right) c.in-Nand.ensures in let room = c.requires.before in omega (arith, low.0, room.inside, room.room)

pub bounds-classes-right : goal.bounds-classes-right
bounds-classes-right c = let low = c.requires.placed.kept.each c.args.place (Nand c.in-Nand.left c.in-Nand.right) c.in-Nand.ensures in let room = c.requires.before in omega (arith, low.1, room.inside, room.room)

pub class_of_pair-requires-clause-left : goal.class_of_pair-requires-clause-left
class_of_pair-requires-clause-left c =
    let low = c.requires.placed.kept.each c.args.place (Nand c.in-Nand.left c.in-Nand.right) c.in-Nand.ensures in
    alone_within c.args.self.now.graph.now (numbers c.args.self.now.pins.now) (tree_at c.args.self.now.nodes.now c.in-Nand.left) (slice_index_or c.args.classes.now c.in-Nand.left None) (c.requires.before.standing c.in-Nand.left low.0)

pub class_of_pair-requires-clause-right : goal.class_of_pair-requires-clause-right
class_of_pair-requires-clause-right c =
    let low = c.requires.placed.kept.each c.args.place (Nand c.in-Nand.left c.in-Nand.right) c.in-Nand.ensures in
    alone_within c.args.self.now.graph.now (numbers c.args.self.now.pins.now) (tree_at c.args.self.now.nodes.now c.in-Nand.right) (slice_index_or c.args.classes.now c.in-Nand.right None) (c.requires.before.standing c.in-Nand.right low.1)

pub returns-in-Pin : goal.returns-in-Pin
returns-in-Pin c =
    let at = c.requires.placed.kept.each c.args.place (Pin c.in-Pin.pin) c.in-Pin.ensures in
    subst (λ t. StandsAlone c.args.self.now.graph.now (numbers c.args.self.now.pins.now) t c.class_of_pin.result) (sym at.1)
    (subst (λ o. StandsAlone c.args.self.now.graph.now (numbers c.args.self.now.pins.now) (Rattle.lw_laws.specs.Trees.leaf c.in-Pin.pin) o) (sym c.class_of_pin.ensures) (pin_alone c.args.self.now.graph.now c.args.self.now.pins.now c.in-Pin.pin c.requires.placed.pins))

pub returns-in-One : goal.returns-in-One
returns-in-One c =
    let at = c.requires.placed.kept.each c.args.place One c.in-One.ensures in
    subst (λ t. StandsAlone c.args.self.now.graph.now (numbers c.args.self.now.pins.now) t (Some c.one.result)) (sym at) (one_alone c.args.self.now.graph.now (numbers c.args.self.now.pins.now) c.one.result c.one.ensures.class c.one.ensures.within)

pub returns-in-Zero : goal.returns-in-Zero
returns-in-Zero c =
    let at = c.requires.placed.kept.each c.args.place Zero c.in-Zero.ensures in
    subst (λ t. StandsAlone c.args.self.now.graph.now (numbers c.args.self.now.pins.now) t (Some c.flip.result)) (sym at) (zero_alone c.args.self.now.graph.now (numbers c.args.self.now.pins.now) c.flip.result (c.flip.ensures ∙ (xor-one c.one-in-Zero.result.0 ∙ ap flip c.one-in-Zero.ensures.class)) c.classes.ensures.kept)

pub returns-in-Inv : goal.returns-in-Inv
returns-in-Inv c =
    let at = c.requires.placed.kept.each c.args.place (Inv c.in-Inv.operand) c.in-Inv.ensures in
    subst (λ t. StandsAlone c.args.self.now.graph.now (numbers c.args.self.now.pins.now) t c.complement.result) (sym at.1) (c.complement.ensures (numbers c.args.self.now.pins.now) (tree_at c.args.self.now.nodes.now c.in-Inv.operand) (c.requires.before.standing c.in-Inv.operand at.0))

pub returns-in-Nand : goal.returns-in-Nand
returns-in-Nand c =
    let at = c.requires.placed.kept.each c.args.place (Nand c.in-Nand.left c.in-Nand.right) c.in-Nand.ensures in
    subst (λ t. StandsAlone c.args.self.now.graph.now (numbers c.args.self.now.pins.now) t c.class_of_pair.result) (sym at.2)
    (c.class_of_pair.ensures (numbers c.args.self.now.pins.now) (tree_at c.args.self.now.nodes.now c.in-Nand.left) (tree_at c.args.self.now.nodes.now c.in-Nand.right) (c.requires.before.standing c.in-Nand.left at.0) (c.requires.before.standing c.in-Nand.right at.1))
