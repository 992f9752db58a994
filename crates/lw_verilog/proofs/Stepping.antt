-- How a reading goes on over a text, piece by piece.
use Rattle.std.proofs.Common.{ℕ, suc, ◌≡◌, ◌≤◌, ◌<◌, ◌+◌, ◌==◌, Bool, true, false, not, cond, List, [], ◌∷◌, ◌++◌, length, take, drop, Some, None, refl, ap, sym, ◌∙◌, subst, arith, length-drop, append_assoc}
use Rattle.std.proofs.lemmas.Bool.Decides.{nat_tests}
use Rattle.std.proofs.lemmas.List.Sums.{sum_by-cons}
use Rattle.lw_facts.proofs.Numbers.{above_is_suc}
use Rattle.lw_genlib.specs.Cells.{CellParts}
use Rattle.lw_verilog.specs.declared.fault.VerilogKind.TheVariants as broken
use Rattle.lw_verilog.specs.declared.kind.Kind.{Kind}
use Rattle.lw_verilog.specs.declared.kind.Kind.TheVariants as kind
use Rattle.lw_verilog.specs.declared.kind.Piece.{Piece}
use Rattle.lw_verilog.specs.declared.place.Move.{Move}
use Rattle.lw_verilog.specs.Grammar.{move_at}
use Rattle.lw_verilog.specs.Pieces.{begins_name, comment_or_sign, escaped, first_piece, is_separator, name_bytes, piece, separators, visibles, word}
use Rattle.lw_verilog.specs.Readings.{Reading, after, fault_or, is_done, move_fault, moved_on, piece_fault, piece_read, read, rule_fault, token_fault}
use Rattle.lw_verilog.specs.Statements.{ports_of}
use Rattle.lw_verilog.specs.Tokens.{is_end, is_gap, is_strange, line_feeds, name_of, tokens_from}
use Rattle.lw_verilog.proofs.Parsing.{read-piece}
use Rattle.lw_words.specs.Lines.{is_line_feed}

-- what is read of a text behind a reading is what is read of the rest behind the next,
-- whatever the lines are
pub record Follows (cells : List CellParts) (r s : Reading) (text rest : List ℕ) (fuel last line : ℕ) : Type 0 where
  pub fuel_left : ℕ
  pub line_next : ℕ
  pub more : length rest < fuel_left
  pub is : read cells r (tokens_from fuel last line text) ≡ read cells s (tokens_from fuel_left last line_next rest)

abbrev pub Leads : List CellParts → Reading → List ℕ → Reading → List ℕ → Type 0
Leads cells r text s rest = (fuel last line : ℕ) → length text < fuel → Follows cells r s text rest fuel last line

pub leads-none : (cells : List CellParts) (r : Reading) (text : List ℕ) → Leads cells r text r text
leads-none cells r text fuel last line lt = record { fuel_left = fuel; line_next = line; more = lt; is = refl }

pub leads-both : (cells : List CellParts) (r s t : Reading) (text rest end : List ℕ) → Leads cells r text s rest → Leads cells s rest t end → Leads cells r text t end
leads-both cells r s t text rest end a b fuel last line lt =
    let one = a fuel last line lt in
    let two = b one.fuel_left last one.line_next one.more in
    record { fuel_left = two.fuel_left; line_next = two.line_next; more = two.more; is = one.is ∙ two.is }

-- one piece that breaks no rule
leads-piece : (cells : List CellParts) (r : Reading) (text : List ℕ) (p : Piece) → p ≡ first_piece text → is_done r.place ≡ false → piece_fault cells r p.kind (name_of (take p.size text)) ≡ None → 0 < p.size → p.size ≤ length text → Leads cells r text (piece_read r p.kind (name_of (take p.size text))) (drop p.size text)
leads-piece cells r text p e open_there none some within fuel last line lt =
    let m = above_is_suc fuel (length text) lt in
    record {
      fuel_left = m.0;
      line_next = line + line_feeds (take p.size text);
      more = omega (arith, length-drop p.size text, some, within, lt, m.1);
      is = ap (λ n. read cells r (tokens_from n last line text)) m.1
          ∙ (read-piece cells r m.0 last line text p e open_there
          ∙ ap (λ o. fault_or (cond (is_end p.kind) last line) o (read cells (piece_read r p.kind (name_of (take p.size text))) (tokens_from m.0 last (line + line_feeds (take p.size text)) (drop p.size text)))) none);
    }

-- A token of so many bytes: its move, and the rule that it keeps.
pub leads-token : (cells : List CellParts) (r : Reading) (text : List ℕ) (k : Kind) (n : ℕ) (m : Move) → first_piece text ≡ piece k n → is_done r.place ≡ false → is_gap k ≡ false → is_strange k ≡ false → move_at r.place k ≡ Some m →
    rule_fault cells r.names (ports_of r.said) r.declared m.task (name_of (take n text)) ≡ None → 0 < n → n ≤ length text → Leads cells r text (after m (name_of (take n text)) r) (drop n text)
leads-token cells r text k n m e open_there no_gap known moves rule some within =
    let name : List ℕ = name_of (take n text) in
    let none : piece_fault cells r k name ≡ None =
    ap (λ b. cond b None (token_fault cells r k name)) no_gap
    ∙ (ap (λ b. cond b (Some broken.BadByte) (move_fault cells r name (move_at r.place k))) known ∙ (ap (move_fault cells r name) moves ∙ rule)) in
    let next : piece_read r k name ≡ after m name r = ap (λ b. cond b r (moved_on r name (move_at r.place k))) no_gap ∙ ap (moved_on r name) moves in
    subst (λ s. Leads cells r text s (drop n text)) next (leads-piece cells r text (piece k n) (sym e) open_there none some within)

-- What a text of some bytes begins with.
pub some-piece : (b : ℕ) (rest : List ℕ) → first_piece (b ∷ rest) ≡ cond (is_separator b) (piece kind.Gap (1 + separators rest)) (cond (b == 92) (escaped (visibles rest)) (cond (begins_name b) (word (b ∷ rest) (1 + name_bytes rest)) (comment_or_sign (b ∷ rest))))
unfolding first_piece
some-piece b rest =
    let long : (length (b ∷ rest) == 0) ≡ false = grind (arith, nat_tests) in
    ap (λ t. cond t (piece kind.End 0) (cond (is_separator b) (piece kind.Gap (1 + separators rest)) (cond (b == 92) (escaped (visibles rest)) (cond (begins_name b) (word (b ∷ rest) (1 + name_bytes rest)) (comment_or_sign (b ∷ rest)))))) long

-- A separator, whatever follows.

gap-piece : (b : ℕ) (rest : List ℕ) → is_separator b ≡ true → first_piece (b ∷ rest) ≡ piece kind.Gap (suc (separators rest))
gap-piece b rest e =
    let next : 1 + separators rest ≡ suc (separators rest) = omega arith in
    some-piece b rest
    ∙ (ap (λ t. cond t (piece kind.Gap (1 + separators rest)) (cond (b == 92) (escaped (visibles rest)) (cond (begins_name b) (word (b ∷ rest) (1 + name_bytes rest)) (comment_or_sign (b ∷ rest))))) e ∙ ap (piece kind.Gap) next)

-- the reading stands still
gap-read : (cells : List CellParts) (r : Reading) (m last line b : ℕ) (rest : List ℕ) → is_separator b ≡ true → is_done r.place ≡ false →
    read cells r (tokens_from (suc m) last line (b ∷ rest)) ≡ read cells r (tokens_from m last (line + line_feeds (b ∷ take (separators rest) rest)) (drop (separators rest) rest))
gap-read cells r m last line b rest e open_there = read-piece cells r m last line (b ∷ rest) (piece kind.Gap (suc (separators rest))) (sym (gap-piece b rest e)) open_there

feeds-both : (line b : ℕ) (bytes : List ℕ) → line + line_feeds (b ∷ bytes) ≡ (line + line_feeds (b ∷ [])) + line_feeds bytes
feeds-both line b bytes =
    let all = sum_by-cons (λ x. cond (is_line_feed x) 1 0) b bytes in
    let one = sum_by-cons (λ x. cond (is_line_feed x) 1 0) b [] in
    omega (arith, all, one)

pub leads-gap : (cells : List CellParts) (r : Reading) (b : ℕ) (rest : List ℕ) → is_separator b ≡ true → is_done r.place ≡ false → Leads cells r (b ∷ rest) r rest
leads-gap cells r b rest e open_there fuel last line lt = by_rest rest lt
  where
    m : (m : ℕ) × (fuel ≡ suc m)
    m = above_is_suc fuel (length (b ∷ rest)) lt

    first : (xs : List ℕ) → read cells r (tokens_from fuel last line (b ∷ xs)) ≡ read cells r (tokens_from m.0 last (line + line_feeds (b ∷ take (separators xs) xs)) (drop (separators xs) xs))
    first xs = ap (λ n. read cells r (tokens_from n last line (b ∷ xs))) m.1 ∙ gap-read cells r m.0 last line b xs e open_there

    by_rest : (xs : List ℕ) → length (b ∷ xs) < fuel → Follows cells r r (b ∷ xs) xs fuel last line
    by_rest [] few = record {
      fuel_left = m.0;
      line_next = line + line_feeds (b ∷ []);
      more = omega (arith, few, m.1);
      is = first [];
    }
    by_rest (c ∷ xs) few = by_next (is_separator c) refl
      where
        by_next : (t : Bool) → is_separator c ≡ t → Follows cells r r (b ∷ c ∷ xs) (c ∷ xs) fuel last line
        by_next false f =
            let none : separators (c ∷ xs) ≡ 0 = ap (λ t. cond (not (not t)) (1 + separators xs) 0) f in
            record {
              fuel_left = m.0;
              line_next = line + line_feeds (b ∷ []);
              more = omega (arith, few, m.1);
              is = first (c ∷ xs) ∙ ap (λ n. read cells r (tokens_from m.0 last (line + line_feeds (b ∷ take n (c ∷ xs))) (drop n (c ∷ xs)))) none;
            }
        by_next true f =
            let next : 1 + separators xs ≡ suc (separators xs) = omega arith in
            let some : separators (c ∷ xs) ≡ suc (separators xs) = ap (λ t. cond (not (not t)) (1 + separators xs) 0) f ∙ next in
            let lines = feeds-both line b (c ∷ take (separators xs) xs) in
            record {
              fuel_left = suc m.0;
              line_next = line + line_feeds (b ∷ []);
              more = omega (arith, few, m.1);
              is = first (c ∷ xs)
                  ∙ (ap (λ n. read cells r (tokens_from m.0 last (line + line_feeds (b ∷ take n (c ∷ xs))) (drop n (c ∷ xs)))) some
                  ∙ (ap (λ l. read cells r (tokens_from m.0 last l (drop (separators xs) xs))) lines ∙ sym (gap-read cells r m.0 last (line + line_feeds (b ∷ [])) c xs f open_there)));
            }

-- Parts of a text, whatever follows them.

abbrev pub Reads : List CellParts → Reading → List ℕ → Reading → Type 0
Reads cells r part s = (rest : List ℕ) → Leads cells r (part ++ rest) s rest

pub reads-none : (cells : List CellParts) (r : Reading) → Reads cells r [] r
reads-none cells r rest = leads-none cells r rest

pub reads-both : (cells : List CellParts) (r s t : Reading) (part next : List ℕ) → Reads cells r part s → Reads cells s next t → Reads cells r (part ++ next) t
reads-both cells r s t part next a b rest =
    subst (λ text. Leads cells r text t rest) (sym (append_assoc part next rest)) (leads-both cells r s t (part ++ (next ++ rest)) (next ++ rest) rest (a (next ++ rest)) (b rest))

pub reads-gap : (cells : List CellParts) (r : Reading) (b : ℕ) → is_separator b ≡ true → is_done r.place ≡ false → Reads cells r (b ∷ []) r
reads-gap cells r b e open_there rest = leads-gap cells r b rest e open_there
