use Rattle.std.proofs.Common.{◌∙◌, inl, refl, subst}
use Rattle.std.proofs.lemmas.Result.{on_ok_weaker}
use Rattle.lw_pool.specs.Numbers.{numbers}
use Rattle.lw_choices.specs.PinUses.{plain_uses}
use Rattle.lw_choices.specs.Rows.{IsGateAdded}
use Rattle.lw_choices.specs.Stands.{choice_of}
use Rattle.lw_choices.proofs.Alike.{like_found, like_pushed, pins_are}
use Rattle.lw_choices.proofs.listed.add_gate.Goals as goal

pub returns-then-branch : goal.returns-then-branch
returns-then-branch c =
    let to = c.args.to.now in
    let rows = to.rows in
    let class = c.args.class.0 in
    let cell = c.args.gate.cell.0 in
    let ps = numbers c.args.gate.pins.now in
    let uses = plain_uses c.deref-2.result.now in
    let mine = pins_are to.lib.now cell c.delays_in.result.now c.args.gate.pins.now c.args.gate.pins.now c.list_uses.new.to.items c.deref-2.result.now c.delays_in.ensures refl c.deref-2.ensures.value c.in_ok-list_uses.ensures in
    let has = c.in_ok-has_like.ensures c.if-branch.true in
    record {
      way = λ cells way. record { count = way.count; lib = way.lib };
      added = λ cells way. subst (λ ks. IsGateAdded ks rows rows (choice_of c.args.class c.args.gate)) way.lib (record { only = inl refl; like = like_found to.lib.now rows class cell ps uses mine has });
    }

pub returns : goal.returns
returns c =
    let to = c.args.to.now in
    on_ok_weaker c.push_gate.result (λ e. record {
      way = λ cells way. record { count = c.push_gate.ensures.count ∙ way.count; lib = c.push_gate.ensures.lib ∙ way.lib };
      added = λ cells way. like_pushed cells to.rows c.push_gate.new.to.rows (choice_of c.args.class c.args.gate) e;
    }) c.push_gate.ensures.rows
