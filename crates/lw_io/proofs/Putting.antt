-- Pieces of a text, put one after another.
use Rattle.std.proofs.Common.{◌≡◌, ◌≤◌, ℕ, ◌+◌, true, false, List, [], ◌∷◌, ◌++◌, ◌<◌, get_or, length, take, drop, Option, Result, sym, ◌∙◌, ap, subst, arith, append_assoc, append-nil, length-append, true≢false, refl}
use Rattle.std.proofs.Math.Seq.{take-append_seam}
use Rattle.std.proofs.lemmas.List.{take-append-drop, take-append-le}
use Rattle.std.specs.Io.KnownBytes.{Appends}
use Rattle.std.proofs.KnownBytes.{Appends-trans, Appends-nil}
use Rattle.std.specs.List.{flat_map}
use Rattle.std.proofs.lemmas.Grind.{flat_map-append}
use Rattle.std.proofs.lemmas.List.{take_more}
use Rattle.lw_io.specs.declared.failed.Failed.{Failed}
use Rattle.lw_io.specs.Causes.{Rose}
use Rattle.lw_io.specs.Moves.{AppendsPrefix, IsWrittenUpTo}
use Rattle.lw_io.specs.Waitings.{Pending, IsPut, Puts, IsTaken}
use Rattle.lw_io.specs.declared.writer.Writer.{Writer}
use Rattle.std.specs.Borrow.{MutBor}
use Rattle.lw_io.specs.Writers.{Begins, Writes, Ended}

-- a piece waits behind what waits
pub waits_more : (start taken : Option (List ℕ)) (text waiting piece : List ℕ) → IsWrittenUpTo start taken text waiting → IsWrittenUpTo start taken (text ++ piece) (waiting ++ piece)
waits_more start taken text waiting piece w = record {
  front = w.front;
  split = sym (append_assoc w.front waiting piece) ∙ ap (λ l. l ++ piece) w.split;
  grown = w.grown;
}

-- all that waits is given
pub given : (start taken taken' : Option (List ℕ)) (text waiting : List ℕ) → IsWrittenUpTo start taken text waiting → Appends taken taken' waiting → IsWrittenUpTo start taken' text []
given start taken taken' text waiting w p = record {
  front = w.front ++ waiting;
  split = append-nil (w.front ++ waiting) ∙ w.split;
  grown = Appends-trans start taken taken' w.front waiting w.grown p;
}

-- a part of what waits is given
pub given_part : (start taken taken' : Option (List ℕ)) (text waiting : List ℕ) → IsWrittenUpTo start taken text waiting → AppendsPrefix taken taken' waiting → AppendsPrefix start taken' text
given_part start taken taken' text waiting w (n, within, p) =
    let rest = drop n waiting in
    let front = w.front ++ take n waiting in
    let whole : front ++ rest ≡ text = append_assoc w.front (take n waiting) rest ∙ (ap (λ l. w.front ++ l) (take-append-drop n waiting) ∙ w.split) in
    let seam : take (length front) text ≡ front = subst (λ l. take (length front) l ≡ front) whole (take-append_seam front rest) in
    (length front, omega (arith, length-append front rest, ap length whole), subst (λ l. Appends start taken' l) (sym seam) (Appends-trans start taken taken' w.front (take n waiting) w.grown p))

-- a part of a text is a part of a longer text
pub part_more : (start taken : Option (List ℕ)) (text piece : List ℕ) → AppendsPrefix start taken text → AppendsPrefix start taken (text ++ piece)
part_more start taken text piece (n, within, p) =
    (n, omega (arith, within, length-append text piece), subst (λ l. Appends start taken l) (sym (take-append-le n text piece within)) p)

pub Rose-earlier : (a b c : ℕ) → a ≤ b → Rose b c → Rose a c
Rose-earlier a b c earlier rose = omega (arith, earlier, rose)

-- Pieces one after another.
pub Puts-both : {a b c : Option (List ℕ)} {m n k : ℕ} {u v w : Pending} {p q : List ℕ} → Puts a m u b n v p → Puts b n v c k w q → Puts a m u c k w (p ++ q)
Puts-both {a} {b} {c} {m} {n} {k} {u} {v} {w} {p} {q} first second = record { stands = λ start count text is. subst (λ l. IsPut start count c k w l) (append_assoc text p q) (second.stands start count (text ++ p) (first.stands start count text is)) }

pub true_is_false : {A : Type 0} → true ≡ false → A
true_is_false e = absurd (true≢false e)

-- a piece is given behind what was given
pub given_more : (start taken taken' : Option (List ℕ)) (text piece waiting : List ℕ) → waiting ≡ [] → IsWrittenUpTo start taken text waiting → Appends taken taken' piece → IsWrittenUpTo start taken' (text ++ piece) []
given_more start taken taken' text piece waiting empty w p =
    given start taken taken' (text ++ piece) piece (waits_more start taken text [] piece (subst (λ l. IsWrittenUpTo start taken text l) empty w)) p

-- a part of a piece is given behind what was given
pub given_part_more : (start taken taken' : Option (List ℕ)) (text piece waiting : List ℕ) → waiting ≡ [] → IsWrittenUpTo start taken text waiting → AppendsPrefix taken taken' piece → AppendsPrefix start taken' (text ++ piece)
given_part_more start taken taken' text piece waiting empty w p =
    given_part start taken taken' (text ++ piece) piece (waits_more start taken text [] piece (subst (λ l. IsWrittenUpTo start taken text l) empty w)) p

-- behind a failure nothing more is given
pub Puts-failed : (a : Option (List ℕ)) (m : ℕ) (u : Pending) (piece : List ℕ) → u.failed ≡ true → Puts a m u a m u piece
Puts-failed a m u piece failed = record {
  stands = λ start count text is. record {
    later = is.later;
    whole = λ e. true_is_false (sym failed ∙ e);
    part = λ e. part_more start a text piece (is.part e);
    cause = is.cause;
  };
}

-- a piece is kept behind what waits
pub Puts-kept : (a : Option (List ℕ)) (m : ℕ) (u v : Pending) (piece : List ℕ) → v.bytes ≡ u.bytes ++ piece → v.failed ≡ u.failed → Puts a m u a m v piece
Puts-kept a m u v piece bytes failed = record {
  stands = λ start count text is. record {
    later = is.later;
    whole = λ e. subst (λ l. IsWrittenUpTo start a (text ++ piece) l) (sym bytes) (waits_more start a text u.bytes piece (is.whole (sym failed ∙ e)));
    part = λ e. part_more start a text piece (is.part (sym failed ∙ e));
    cause = λ e. is.cause (sym failed ∙ e);
  };
}

-- nothing is put before a piece
pub Puts-after : {a b c : Option (List ℕ)} {m n k : ℕ} {u v w : Pending} {p : List ℕ} → Puts a m u b n v [] → Puts b n v c k w p → Puts a m u c k w p
Puts-after {a} {b} {c} {m} {n} {k} {u} {v} {w} {p} first second = record { stands = λ start count text is. second.stands start count text (subst (λ l. IsPut start count b n v l) (append-nil text) (first.stands start count text is)) }

-- before anything is put
pub nothing_put : (a : Option (List ℕ)) (m : ℕ) (u : Pending) → u.bytes ≡ [] → u.failed ≡ false → IsPut a m a m u []
nothing_put a m u empty unfailed = record {
  later = omega arith;
  whole = λ e. record { front = []; split = empty; grown = Appends-nil a };
  part = λ e. true_is_false (sym e ∙ unfailed);
  cause = λ e. true_is_false (sym e ∙ unfailed);
}

-- what was put, once nothing waits
pub text_put : (a c : Option (List ℕ)) (m k : ℕ) (w : Pending) (text : List ℕ) → w.failed ≡ false → w.bytes ≡ [] → IsPut a m c k w text → Appends a c text
text_put a c m k w text unfailed empty is =
    let written = is.whole unfailed in
    let front : written.front ≡ text = sym (append-nil written.front) ∙ (ap (λ l. written.front ++ l) (sym empty) ∙ written.split) in
    subst (λ l. Appends a c l) front written.grown

-- Pieces that are written one after another.
pub Writes-both : {S : Type 0} {taken : S → Option (List ℕ)} {faults : S → ℕ} {u v w : Writer S} {p q : List ℕ} → Writes taken faults u v p → Writes taken faults v w q → Writes taken faults u w (p ++ q)
Writes-both first second = record { same = second.same ∙ first.same; puts = Puts-both first.puts second.puts }

pub Writes-none : {S : Type 0} {taken : S → Option (List ℕ)} {faults : S → ℕ} {w : Writer S} → Writes taken faults w w []
Writes-none {S} {taken} {faults} {w} = record {
  same = refl;
  puts = record { stands = λ start count text is. subst (λ l. IsPut start count (taken w.sink.now) (faults w.sink.now) w.waiting l) (sym (append-nil text)) is };
}

-- one more part of a list
pub Writes-more : {A : Type 0} (f : A → List ℕ) (xs : List A) (k : ℕ) (d : A) {S : Type 0} {taken : S → Option (List ℕ)} {faults : S → ℕ} {u v w : Writer S} → k < length xs → Writes taken faults u v (flat_map f (take k xs)) → Writes taken faults v w (f (get_or xs k d)) → Writes taken faults u w (flat_map f (take (k + 1) xs))
Writes-more f xs k d {S} {taken} {faults} {u} {v} {w} below first second =
    let parts : flat_map f (take (k + 1) xs) ≡ flat_map f (take k xs) ++ f (get_or xs k d) = ap (flat_map f) (take_more xs k d below) ∙ (flat_map-append f (take k xs) (get_or xs k d ∷ []) ∙ ap (λ l. flat_map f (take k xs) ++ l) (append-nil (f (get_or xs k d)))) in
    subst (λ l. Writes taken faults u w l) (sym parts) (Writes-both first second)

-- what was put of a new text, when it ends and the sink is given back
pub text_ends : {S : Type 0} {taken : S → Option (List ℕ)} {faults : S → ℕ} {sink : MutBor S} {last : S} {u v w : Writer S} {text : List ℕ} {result : Result (Unit {0}) Failed} → Begins sink u → Writes taken faults u v text → Ended taken faults v w result → (sink.ghost_name ≡ w.sink.ghost_name → last ≡ w.sink.now) → IsTaken (taken sink.now) (faults sink.now) (taken last) (faults last) text result
text_ends {S} {taken} {faults} {sink} {last} {u} {v} {w} {text} {result} begins writes ended back =
    let start = taken u.sink.now in
    let count = faults u.sink.now in
    let put = writes.puts.stands start count [] (nothing_put start count u.waiting begins.empty begins.unfailed) in
    let same : last ≡ w.sink.now = back (sym (ended.same ∙ (writes.same ∙ begins.same))) in
    subst (λ s. IsTaken (taken sink.now) (faults sink.now) (taken s) (faults s) text result) (sym same)
    (subst (λ s. IsTaken (taken s) (faults s) (taken w.sink.now) (faults w.sink.now) text result) begins.now (ended.ends.stands start count text put))
