-- A run of bytes of a word, and then a blank.
use Rattle.std.proofs.Common.{ℕ, ◌≡◌, ◌≢◌, ◌<◌, ◌≤◌, ◌+◌, ◌-◌, true, false, cond, List, [], ◌∷◌, length, take, drop, get_or, refl, ap, sym, ◌∙◌, subst, arith}
use Rattle.std.specs.Prelude.{All}
use Rattle.std.proofs.Math.Seq.{take-add}
use Rattle.std.proofs.lemmas.List.{length-drop, take_all, take_more}
use Rattle.std.proofs.lemmas.List.Elements.{All-append, All-more}
use Rattle.lw_words.specs.Lines.{is_blank}
use Rattle.lw_words.specs.Gathering.{Gathered, IsPlainByte, with_byte, ended}
use Rattle.lw_words.specs.Reading.{over_bytes}
use Rattle.lw_words.proofs.GatheredWords.{over_bytes-append}

-- all bytes before this are plain, and this is what is gathered of them
pub record Over (first g : Gathered) (bytes : List ℕ) (at : ℕ) : Type 0 where
  pub within : at ≤ length bytes
  pub plain : All IsPlainByte (take at bytes)
  pub gathered : g ≡ over_bytes first (take at bytes)

-- a run of bytes more
pub over-run : (first g new : Gathered) (bytes : List ℕ) (at n : ℕ) → Over first g bytes at → n ≤ length (take (length bytes - at) (drop at bytes)) → All IsPlainByte (take n (take (length bytes - at) (drop at bytes))) → new ≡ over_bytes g (take n (take (length bytes - at) (drop at bytes))) → Over first new bytes (at + n)
over-run first g new bytes at n o within plain gathered =
    let rest : take (length bytes - at) (drop at bytes) ≡ drop at bytes = take_all (length bytes - at) (drop at bytes) (omega (arith, length-drop at bytes)) in
    let few : n ≤ length (drop at bytes) = subst (λ (bs : List ℕ). n ≤ length bs) rest within in
    let run : All IsPlainByte (take n (drop at bytes)) = subst (λ (bs : List ℕ). All IsPlainByte (take n bs)) rest plain in
    record {
      within = omega (arith, o.within, length-drop at bytes);
      plain = subst (All IsPlainByte) (sym (take-add at n bytes)) (All-append IsPlainByte (take at bytes) (take n (drop at bytes)) o.plain run);
      gathered =
          gathered
          ∙ (ap (λ bs. over_bytes g (take n bs)) rest
          ∙ (ap (λ h. over_bytes h (take n (drop at bytes))) o.gathered
          ∙ sym (ap (over_bytes first) (take-add at n bytes) ∙ over_bytes-append first (take at bytes) (take n (drop at bytes)))));
    }

plain-blank : (b : ℕ) → is_blank b ≡ true → IsPlainByte b
plain-blank b is = (differs 10 refl, differs 35 refl, differs 92 refl)
  where
    differs : (n : ℕ) → is_blank n ≡ false → b ≢ n
    differs n other e = let same = ap is_blank e in cc

-- a blank more
pub over-blank : (first g new : Gathered) (bytes : List ℕ) (at : ℕ) → Over first g bytes at → at < length bytes → is_blank (get_or bytes at 0) ≡ true → new ≡ ended g → Over first new bytes (at + 1)
over-blank first g new bytes at o more is gathered =
    let b = get_or bytes at 0 in
    record {
      within = omega arith;
      plain = All-more IsPlainByte bytes at 0 more o.plain (plain-blank b is);
      gathered =
          gathered
          ∙ (ap ended o.gathered
          ∙ sym (
          ap (over_bytes first) (take_more bytes at 0 more)
          ∙ (over_bytes-append first (take at bytes) (b ∷ [])
          ∙ ap (λ t. cond t (ended (over_bytes first (take at bytes))) (with_byte b (over_bytes first (take at bytes)))) is)));
    }
