use Rattle.std.proofs.Common.{◌≡◌, ◌+◌, ◌<◌, ◌≤◌, ◌∷◌, true, false, length, sym, ap, ◌∙◌, subst, arith}
use Rattle.lw_laws.specs.Names.{is_name_among, numbered_name}
use Rattle.lw_naming.specs.Naming.{free_between}
use Rattle.lw_naming.proofs.FreeNames.{past_free, past_taken}
use Rattle.lw_naming.proofs.free_names.FreeNames.next_name.Goals as goal

pub new-requires : goal.new-requires
new-requires c =
    let name = c.in_ok-name.name in
    let long : length name.items ≡ length (numbered_name c.numbers.self.next) = ap (λ bs. length bs) c.in_ok-name.ensures in
    omega (arith, long, name.ok.0)

pub returns-then-not-contains : goal.returns-then-not-contains
returns-then-not-contains c last some =
    let self = c.numbers.self in
    let name = c.deref.ensures.value ∙ c.in_ok-name.ensures in
    let free : is_name_among (numbered_name self.next) self.taken ≡ false = ap (λ n. is_name_among n self.taken) (sym name) ∙ sym c.contains.ensures ∙ c.if-not-contains.true in
    let same = c.numbers.invariant.same last in
    let left : 0 < length (free_between self.taken self.next last) = subst (λ ns. 0 < length ns) same some in
    same ∙ past_free self.taken self.next last free left ∙ ap (λ n. n ∷ free_between self.taken (self.next + 1) last) (sym (c.new.ensures ∙ c.in_ok-name.ensures))

pub numbers-preserved : goal.numbers-preserved
numbers-preserved c =
    let self = c.numbers.self in
    let name = c.deref.ensures.value ∙ c.in_ok-name.ensures in
    let held : is_name_among (numbered_name self.next) self.taken ≡ true = ap (λ n. is_name_among n self.taken) (sym name) ∙ sym c.contains.ensures ∙ c.if-not-contains.false in
    let has = c.numbers.invariant.has in
    record {
      has = record {
        last = has.last;
        small = has.small;
        enough = subst (λ ns. 1 ≤ length ns) (past_taken self.taken self.next has.last held) has.enough;
      };
      same = λ last. c.numbers.invariant.same last ∙ past_taken self.taken self.next last held;
    }
