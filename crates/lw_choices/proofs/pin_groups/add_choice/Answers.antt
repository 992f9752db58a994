use Rattle.std.proofs.Common.{◌<◌, ◌+◌, ◌∙◌, All, Some, length, map, sym, ap, subst}
use Rattle.std.proofs.lemmas.List.{length-map}
use Rattle.lw_pool.specs.declared.id.ClassId.{ClassId}
use Rattle.lw_genlib.specs.Tables.{millionths}
use Rattle.lw_choices.specs.declared.rows.Stand.{Stand}
use Rattle.lw_choices.specs.Choices.Part.{gate}
use Rattle.lw_choices.specs.Chains.{ChainState}
use Rattle.lw_choices.specs.Choices.{IsPartFor}
use Rattle.lw_choices.specs.Stands.{plain_part}
use Rattle.lw_choices.proofs.Parts.{within_pins}
use Rattle.lw_choices.proofs.Using.{choice_used, first_behind, first_used, firsts_longer, groups_first, input_used}
use Rattle.lw_choices.proofs.pin_groups.add_choice.Goals as goal
use Rattle.lw_pool.specs.Numbers.{numbers}
use Rattle.lw_cost.proofs.CellPins.{pins_at}
use Rattle.lw_genlib.proofs.Shared.{delays_at}

pub add_pins-requires-clause-first : goal.add_pins-requires-clause-first
add_pins-requires-clause-first c = record {
  are = groups_first c.args.pin_groups.now c.add_first.new.pin_groups c.in_ok-add_first.ensures c.requires.of.are;
  first = first_behind c.args.pin_groups.now c.add_first.new.pin_groups c.in_ok-add_first.ensures c.args.choice c.requires.of.next;
}

pub add_pins-requires-clause-pins : goal.add_pins-requires-clause-pins
add_pins-requires-clause-pins c =
    let gate = c.in-Gate.gate in
    let count = c.args.pin_groups.now.links.count in
    let part = subst (λ (st : Stand). IsPartFor c.args.lib.now count (plain_part st)) c.in-Gate.is c.requires.part in
    let n = pins_at c.args.lib.now gate.cell.0 (length (numbers gate.pins.now)) c.cell.result.now c.cell.ensures part.of_library in
    let all = within_pins count gate.pins.now part.within in
    record {
      one_each = ap length c.delays-delays.ensures.delays ∙ (n ∙ length-map gate.pins.now (λ (p : ClassId). p.0));
      within = subst (λ n. All (λ (p : ClassId). p.0 < n) gate.pins.now) (sym (ap (λ (l : ChainState). l.count) c.in_ok-add_first.ensures.links)) all;
    }

pub returns-in-Input-clause-added : goal.returns-in-Input-clause-added
returns-in-Input-clause-added c =
    let added = c.in_ok-add_first.ensures in
    let old = c.args.pin_groups.now in
    let new = c.add_first.new.pin_groups in
    record {
      of = record {
        are = groups_first old new added c.requires.of.are;
        next = firsts_longer old new added ∙ ap (λ n. n + 1) c.requires.of.next;
      };
      pin_groups = λ xs at are.
          let here = at ∙ ap (λ (st : Stand). Some (record { class = c.args.row.now.class.0; part = plain_part st })) c.in-Input.is in
          input_used c.args.lib.now xs c.args.choice _ c.args.row.now.class.0 new here (first_used c.args.lib.now xs c.args.choice old new added are);
    }

pub returns-in_ok-add_pins-in-Gate-clause-added : goal.returns-in_ok-add_pins-in-Gate-clause-added
returns-in_ok-add_pins-in-Gate-clause-added c =
    let cells = c.args.lib.now in
    let first = c.in_ok-add_first.ensures in
    let old = c.args.pin_groups.now in
    let mid = c.add_first.new.pin_groups in
    let added = c.in_ok-add_pins-in-Gate.ensures.added in
    let gate' = c.in-Gate.gate in
    record {
      of = record {
        are = added.are;
        next = ap length added.firsts ∙ (firsts_longer old mid first ∙ ap (λ n. n + 1) c.requires.of.next);
      };
      pin_groups = λ xs at are.
          let here = at ∙ ap (λ (st : Stand). Some (record { class = c.args.row.now.class.0; part = plain_part st })) c.in-Gate.is in
          let delays = delays_at cells gate'.cell.0 c.cell.result.now c.cell.ensures ∙ ap (map millionths) (sym c.delays-delays.ensures.delays) in
          let all = added.pin_groups cells xs c.args.row.now.class.0 gate'.cell.0 here delays (first_used cells xs c.args.choice old mid first are) in
          choice_used cells xs c.args.choice (length gate'.pins.now) gate'.cell.0 c.args.row.now.class.0 (numbers gate'.pins.now) c.add_pins.new.pin_groups here (length-map gate'.pins.now (λ (p : ClassId). p.0)) all;
    }
