use Rattle.std.proofs.Common.{◌^◌, ◌∙◌, length, ap, refl, subst₂, sym, arith}
use Rattle.lw_lut.specs.Packed.{packed}
use Rattle.lw_lut.specs.Tables.{AreRisingOf, table_value}
use Rattle.lw_lut.proofs.table.Table.of.Goals as goal
use Rattle.lw_pool.specs.Numbers.{numbers}

pub returns : goal.returns
returns c =
    let rising = subst₂ (λ xs ys. AreRisingOf ys xs) (sym c.from_vec.ensures) c.pins.ensures.pins c.in_ok-fanins.ensures in
    record {
      out_is = refl;
      rising = rising;
      six = let six = c.pins.ensures.few in let few = rising.few in let pins = ap length c.pins.ensures.pins in omega (arith, six, few, pins);
      bits_are = c.bits_over-bits.ensures ∙ ap (λ fs. packed (table_value c.args.cut.now c.args.class.0 (numbers fs)) 0 (2 ^ length fs)) (c.deref.ensures.value ∙ sym c.from_vec.ensures);
    }
