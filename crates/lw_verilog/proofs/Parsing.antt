-- A reading token by token.
use Rattle.std.proofs.Common.{ℕ, suc, ◌≡◌, ◌≤◌, ◌<◌, ◌+◌, Bool, true, false, cond, List, [], ◌∷◌, ◌++◌, length, take, drop, Option, Some, None, Ok, Err, refl, ap, sym, ◌∙◌, subst, arith, length-drop}
use Rattle.std.proofs.lemmas.List.{length-take-le}
use Rattle.std.proofs.lemmas.List.Sums.{count_by-le-length}
use Rattle.lw_facts.proofs.Numbers.{above_is_suc}
use Rattle.lw_genlib.specs.Cells.{CellParts}
use Rattle.lw_verilog.specs.declared.contents.Contents.{Contents}
use Rattle.lw_verilog.specs.declared.fault.Refusal.{Refusal}
use Rattle.lw_verilog.specs.declared.fault.Refusal.TheVariants as refusal
use Rattle.lw_verilog.specs.declared.fault.VerilogFault.{VerilogFault}
use Rattle.lw_verilog.specs.declared.fault.VerilogKind.{VerilogKind}
use Rattle.lw_verilog.specs.declared.kind.Piece.{Piece}
use Rattle.lw_verilog.specs.Grammar.{move_at}
use Rattle.lw_verilog.specs.Keeping.{IsParsed, Keeps, TellsFault, TellsParse, refused_at, weight}
use Rattle.lw_verilog.specs.Pieces.{first_piece}
use Rattle.lw_verilog.specs.Readings.{Reading, fault_or, is_done, moved_on, nothing_read, piece_fault, piece_read, read, token_fault}
use Rattle.lw_verilog.specs.Tokens.{Token, is_end, is_gap, last_line, line_feeds, name_of, token, token_if, tokens, tokens_from}
use Rattle.lw_words.specs.Lines.{is_line_feed}

-- what is left of a text behind these contents, from this line on
pub record Stands (cells : List CellParts) (text : List ℕ) (c : Contents) (line : ℕ) (rest : List ℕ) : Type 0 where
  pub reading : Reading
  pub fuel : ℕ
  pub keeps : Keeps cells c reading
  pub more : length rest < fuel
  pub is : read cells reading (tokens_from fuel (last_line text) line rest) ≡ read cells nothing_read (tokens text)
  pub lines : line + length rest ≤ 1 + length text
  pub weighs : weight c + length rest ≤ length text

-- one token more
read-token : (cells : List CellParts) (r : Reading) (t : Token) (ts : List Token) → is_done r.place ≡ false → read cells r (t ∷ ts) ≡ fault_or t.line (token_fault cells r t.kind t.name) (read cells (moved_on r t.name (move_at r.place t.kind)) ts)
unfolding read
read-token cells r t ts e = ap (λ b. cond b (Ok r) (fault_or t.line (token_fault cells r t.kind t.name) (read cells (moved_on r t.name (move_at r.place t.kind)) ts))) e

-- one piece more
pub read-piece : (cells : List CellParts) (r : Reading) (n last line : ℕ) (rest : List ℕ) (p : Piece) → p ≡ first_piece rest → is_done r.place ≡ false →
    read cells r (tokens_from (suc n) last line rest)
    ≡ fault_or (cond (is_end p.kind) last line) (piece_fault cells r p.kind (name_of (take p.size rest))) (read cells (piece_read r p.kind (name_of (take p.size rest))) (tokens_from n last (line + line_feeds (take p.size rest)) (drop p.size rest)))
unfolding tokens_from
read-piece cells r n last line rest p e open_there =
    sym (ap (λ (q : Piece). read cells r (token_if last line q rest ++ tokens_from n last (line + line_feeds (take q.size rest)) (drop q.size rest))) e)
    ∙ by_gap (is_gap p.kind)
  where
    others : List Token
    others = tokens_from n last (line + line_feeds (take p.size rest)) (drop p.size rest)

    name : List ℕ
    name = name_of (take p.size rest)

    by_gap : (b : Bool) → read cells r (cond b [] (token last line p rest ∷ []) ++ tokens_from n last (line + line_feeds (take p.size rest)) (drop p.size rest)) ≡ fault_or (cond (is_end p.kind) last line) (cond b None (token_fault cells r p.kind (name_of (take p.size rest)))) (read cells (cond b r (moved_on r (name_of (take p.size rest)) (move_at r.place p.kind))) (tokens_from n last (line + line_feeds (take p.size rest)) (drop p.size rest)))
    by_gap true = refl
    by_gap false = read-token cells r (token last line p rest) (tokens_from n last (line + line_feeds (take p.size rest)) (drop p.size rest)) open_there

-- where a reading is done nothing more is read
pub read-done : (cells : List CellParts) (r : Reading) (ts : List Token) → is_done r.place ≡ true → read cells r ts ≡ Ok r
unfolding read
read-done cells r [] e = refl
read-done cells r (t ∷ ts) e = ap (λ b. cond b (Ok r) (fault_or t.line (token_fault cells r t.kind t.name) (read cells (moved_on r t.name (move_at r.place t.kind)) ts))) e

module _ (cells : List CellParts) (text : List ℕ) (old : Contents) (line : ℕ) (rest : List ℕ) (s : Stands cells text old line rest) (p : Piece) (is_piece : p ≡ first_piece rest) (open_there : is_done old.place ≡ false) where
  abbrev name : List ℕ
  name = name_of (take p.size rest)

  fuel : (m : ℕ) × (s.fuel ≡ suc m)
  fuel = above_is_suc s.fuel (length rest) s.more

  opened : is_done s.reading.place ≡ false
  opened = ap is_done (sym s.keeps.place) ∙ open_there

  whole : fault_or (cond (is_end p.kind) (last_line text) line) (piece_fault cells s.reading p.kind name) (read cells (piece_read s.reading p.kind name) (tokens_from fuel.0 (last_line text) (line + line_feeds (take p.size rest)) (drop p.size rest))) ≡ read cells nothing_read (tokens text)
  whole =
      sym (read-piece cells s.reading fuel.0 (last_line text) line rest p is_piece opened)
      ∙ (sym (ap (λ n. read cells s.reading (tokens_from n (last_line text) line rest)) fuel.1) ∙ s.is)

  -- a piece that breaks a rule
  pub piece-told : (k : VerilogKind) → Some k ≡ piece_fault cells s.reading p.kind name → read cells nothing_read (tokens text) ≡ Err (record { line = cond (is_end p.kind) (last_line text) line; kind = k })
  piece-told k e =
      sym whole
      ∙ sym (ap (λ o. fault_or (cond (is_end p.kind) (last_line text) line) o (read cells (piece_read s.reading p.kind name) (tokens_from fuel.0 (last_line text) (line + line_feeds (take p.size rest)) (drop p.size rest)))) e)

  -- a piece that breaks none
  pub piece-passed : (new : Contents) (next : ℕ) (left : List ℕ) → None ≡ piece_fault cells s.reading p.kind name → Keeps cells new (piece_read s.reading p.kind name) → weight new ≤ weight old + 1 → 0 < p.size → p.size ≤ length rest → next ≡ line + line_feeds (take p.size rest) → left ≡ drop p.size rest → Stands cells text new next left
  piece-passed new next left e keeps light some within is_next is_left =
      let few : line_feeds (take p.size rest) ≤ p.size = omega (arith, count_by-le-length is_line_feed (take p.size rest), length-take-le p.size rest within) in
      let short = length-drop p.size rest in
      let same : length left ≡ length (drop p.size rest) = ap length is_left in
      record {
        reading = piece_read s.reading p.kind name;
        fuel = fuel.0;
        keeps = keeps;
        more = omega (arith, short, same, some, within, s.more, fuel.1);
        is = ap (λ n. read cells (piece_read s.reading p.kind name) (tokens_from fuel.0 (last_line text) n left)) is_next
            ∙ (ap (λ l. read cells (piece_read s.reading p.kind name) (tokens_from fuel.0 (last_line text) (line + line_feeds (take p.size rest)) l)) is_left
            ∙ (ap (λ o. fault_or (cond (is_end p.kind) (last_line text) line) o (read cells (piece_read s.reading p.kind name) (tokens_from fuel.0 (last_line text) (line + line_feeds (take p.size rest)) (drop p.size rest)))) e ∙ whole));
        lines = omega (arith, short, same, within, few, is_next, s.lines);
        weighs = omega (arith, short, same, some, within, light, s.weighs);
      }

-- nothing is read yet
pub stands-first : (cells : List CellParts) (text : List ℕ) (c : Contents) → Keeps cells c nothing_read → Stands cells text c 1 text
stands-first cells text c keeps = record {
  reading = nothing_read;
  fuel = length text + 1;
  keeps = keeps;
  more = omega arith;
  is = refl;
  lines = omega arith;
  weighs = omega (arith, ap length keeps.names, ap length keeps.inputs, ap length keeps.gates);
}

-- all is read
pub stands-last : (cells : List CellParts) (text : List ℕ) (c : Contents) (line : ℕ) (rest : List ℕ) → Stands cells text c line rest → is_done c.place ≡ true → IsParsed cells text c
stands-last cells text c line rest s done = record {
  reading = s.reading;
  keeps = s.keeps;
  is = sym s.is ∙ read-done cells s.reading (tokens_from s.fuel (last_line text) line rest) (ap is_done (sym s.keeps.place) ∙ done);
  few = omega (arith, s.weighs);
}

-- a refusal is told
pub parse-told : (cells : List CellParts) (text : List ℕ) (o : Option VerilogKind) (refusal : Refusal) (line : ℕ) (told : VerilogFault) → told ≡ refused_at refusal line → TellsFault (Err refusal) o →
    ((k : VerilogKind) → Some k ≡ o → read cells nothing_read (tokens text) ≡ Err (record { line = line; kind = k })) → TellsParse cells text told
parse-told cells text o (refusal.Broken k) line told e tells at = subst (TellsParse cells text) (sym e) (at k (sym tells))
parse-told cells text o refusal.Memory line told e tells at = subst (TellsParse cells text) (sym e) tt
