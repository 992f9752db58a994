use Rattle.std.proofs.Common.{◌≡◌, ◌<◌, ◌≤◌, ◌&&◌, true, false, None, [], length, drop, take, get_or, ap, ap₂, sym, ◌∙◌, arith}
use Rattle.std.specs.Prelude.{is_none}
use Rattle.std.specs.List.{list_all}
use Rattle.std.proofs.lemmas.List.{drop_all, length-replicate, length-set}
use Rattle.lw_facts.proofs.Lists.{falses_at}
use Rattle.lw_named_netlist.specs.Chains.{name_at}
use Rattle.lw_named_netlist.specs.Closing.{is_among, twice_after}
use Rattle.lw_verilog.proofs.Ports.{all-more, all-raised, flags-more, none-declared, none-once, none-seen, once-first, seen-all, seen-more, once-more}
use Rattle.lw_verilog.proofs.rules.raise_ports.Goals as goal

false_true : false ≡ true → ⊥
false_true e = cc

pub loop-place-init : goal.loop-place-init
loop-place-init c = record {
  from = omega arith;
  many = ap length c.requires ∙ length-replicate (length c.args.declared.now) false;
  seen = λ i lt. ap (λ l. get_or l i false) c.requires ∙ (falses_at (length c.args.declared.now) i ∙ ap (λ l. is_among l (name_at c.args.declared.now i)) (sym (none-seen c.args.header.now)));
  once = once-first c.args.header.now;
  declared = ap (list_all (is_among c.args.declared.now)) (none-seen c.args.header.now);
}

pub returns-in_default : goal.returns-in_default
returns-in_default c = record {
  known = sym (none-declared c.args.header.now c.loop-place.place c.get.result.now c.loop-place.invariant.from c.get.ensures.name (is_among c.args.declared.now) (sym c.in_default.ensures.found));
  every = λ e. absurd (false_true e);
}

pub returns-then-is_raised : goal.returns-then-is_raised
returns-then-is_raised c =
    let was = c.loop-place.invariant in
    let seen = drop 1 (take c.loop-place.place c.args.header.now) in
    let k = c.in-Some.number in
    let hit : is_among seen c.get.result.now ≡ true =
    ap (is_among seen) (sym c.in-Some.ensures.named)
    ∙ (sym (was.seen k c.in-Some.ensures.within) ∙ (sym c.is_raised.ensures ∙ c.if-is_raised.true)) in
    record {
      known = sym (none-once c.args.header.now c.loop-place.place c.get.result.now was.from c.get.ensures.name (is_among c.args.declared.now) hit was.once);
      every = λ e. absurd (false_true e);
    }

pub loop-place-preserved : goal.loop-place-preserved
loop-place-preserved c =
    let declared = c.args.declared.now in
    let header = c.args.header.now in
    let place = c.loop-place.place in
    let flags = c.loop-place.seen in
    let k = c.in-Some.number in
    let name = c.get.result.now in
    let was = c.loop-place.invariant in
    let from = was.from in
    let here = c.get.ensures.name in
    let inside = c.in-Some.ensures.within in
    let held : k < length flags = omega (arith, inside, was.many) in
    let unseen : is_among (drop 1 (take place header)) name ≡ false =
    ap (is_among (drop 1 (take place header))) (sym c.in-Some.ensures.named)
    ∙ (sym (was.seen k inside) ∙ (sym c.is_raised.ensures ∙ c.if-is_raised.false)) in
    record {
      from = omega (arith, from);
      many = length-set flags k true ∙ was.many;
      seen = λ i lt. flags-more declared (drop 1 (take place header)) flags k name c.len-count.ensures.distinct held c.in-Some.ensures.named inside was.seen i lt
          ∙ ap (λ l. is_among l (name_at declared i)) (sym (seen-more header place name from here));
      once = once-more header place name from here unseen was.once;
      declared = all-more header place name from here (is_among declared) (sym c.in-Some.ensures.found) was.declared;
    }

pub returns : goal.returns
returns c =
    let header = c.args.header.now in
    let names = c.args.declared.now in
    let place = c.loop-place.place in
    let was = c.loop-place.invariant in
    let seen = drop 1 (take place header) in
    let all : length header ≤ place = omega (arith, c.loop-place-test.false, c.len-place-end.ensures) in
    let once : None ≡ twice_after [] (drop 1 header) = sym (ap (twice_after seen) (drop_all place header all)) ∙ was.once in
    let declared : list_all (is_among names) (drop 1 header) ≡ true = sym (ap (list_all (is_among names)) (seen-all header place all)) ∙ was.declared in
    record {
      known = ap₂ (λ o b. is_none o && b) once (sym declared);
      every = λ _. all-raised (is_among (drop 1 header)) c.loop-place.seen names was.many (λ i lt. was.seen i lt ∙ ap (λ l. is_among l (name_at names i)) (seen-all header place all));
    }
