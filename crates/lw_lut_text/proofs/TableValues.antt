-- The value of a table's node, and that it is no wire.
use Rattle.std.proofs.Common.{◌≡◌, ◌+◌, ◌^◌, ◌==◌, ℕ, suc, Bool, true, false, not, ◌&&◌, List, [], ◌∷◌, ◌++◌, length, map, codes, if◌then◌else◌, slice_index_or, refl, sym, ap, ◌∙◌, arith}
use Rattle.std.specs.List.{list_any}
use Rattle.std.specs.Str.{bytes_eq}
use Rattle.std.proofs.lemmas.Bool.{ne_eqb, and_left}
use Rattle.lw_lut.proofs.Numbers.{long}
use Rattle.lw_pool.specs.declared.id.ClassId.{ClassId}
use Rattle.lw_net.specs.declared.draft.DraftNode.{DraftNode}
use Rattle.lw_net.specs.Signs.{asked}
use Rattle.lw_laws.specs.Networks.{agrees, row_value}
use Rattle.lw_lut.specs.Cuts.{spelled, is_set}
use Rattle.lw_lut.specs.Nets.{PlainTableNet}
use Rattle.lw_lut.specs.Texts.{fanin_names, is_buffer, net_name}
use Rattle.lw_lut_text.specs.Said.{columns_from, table_node}
use Rattle.lw_lut.specs.declared.table.Table.{Table}
use Rattle.lw_lut_text.proofs.RowValues.{columns_hold}
use Rattle.lw_pool.specs.Numbers.{numbers}
use Rattle.std.proofs.Math.Bool.{and-false}

-- the value of a node by the values of names
abbrev pub said_value : (List ℕ → Bool) → DraftNode → Bool
said_value value node = agrees node.on (list_any (row_value (map value node.fanins)) (map (map asked) node.rows))

-- the node passes its fan-in's value on
abbrev pub said_wire : DraftNode → Bool
said_wire node = (length node.fanins == 1) && (node.on && (length node.rows == 1) && bytes_eq (slice_index_or node.rows 0 []) (codes "1"))

module _ (n : PlainTableNet) (value : List ℕ → Bool) where
  abbrev pub class_value : ℕ → Bool
  class_value c = value (net_name n c)

  pub values_of : (fs : List ClassId) → map value (map (λ (q : ClassId). net_name n q.0) fs) ≡ map class_value (numbers fs)
  values_of [] = refl
  values_of (f ∷ fs) = ap (λ vs. class_value f.0 ∷ vs) (values_of fs)

  one_test : (k : ℕ) → (suc (suc k) == 1) ≡ false
  one_test k = ne_eqb (suc (suc k)) 1 (λ e. omega (arith, e))

  buffer_value : (fs : List ClassId) (bits : ℕ) → ((length fs == 1) && (not (is_set bits 0) && is_set bits 1)) ≡ true → agrees false (list_any (row_value (map value (map (λ (q : ClassId). net_name n q.0) fs))) (map (map asked) (codes "0" ∷ []))) ≡ is_set bits (spelled class_value (numbers fs))
  buffer_value [] bits e = cc
  buffer_value (q ∷ []) bits e = by_value (class_value q.0) (is_set bits 0) (is_set bits 1) refl refl e
    where
      by_value : (b zero_set one_set : Bool) → is_set bits 0 ≡ zero_set → is_set bits 1 ≡ one_set → (not zero_set && one_set) ≡ true → agrees false (list_any (row_value (b ∷ [])) (map (map asked) (codes "0" ∷ []))) ≡ is_set bits ((if b then 1 else 0) + 0)
      by_value b true one_set f g both = cc
      by_value b false false f g both = cc
      by_value true false true f g both = sym g
      by_value false false true f g both = sym f
  buffer_value (q ∷ r ∷ fs) bits e = absurd (no_more (length (q ∷ r ∷ fs) == 1) (not (is_set bits 0) && is_set bits 1) (one_test (length fs)) e)
    where
      no_more : (a b : Bool) → a ≡ false → (a && b) ≡ true → ⊥
      no_more true b f g = cc
      no_more false b f g = cc

  -- the node of a table has the value that the table's bits have at the values of its fan-ins
  pub table_said : (t : Table) → said_value value (table_node n t) ≡ is_set t.bits (spelled class_value (numbers t.fanins))
  table_said t = by_test (is_buffer t) refl
    where
      by_test : (b : Bool) → is_buffer t ≡ b → agrees (not b) (list_any (row_value (map value (fanin_names n t))) (map (map asked) (if b then codes "0" ∷ [] else columns_from t 0 (2 ^ length t.fanins)))) ≡ is_set t.bits (spelled class_value (numbers t.fanins))
      by_test true e = buffer_value t.fanins t.bits e
      by_test false e = ap (λ vs. list_any (row_value vs) (map (map asked) (columns_from t 0 (2 ^ length t.fanins)))) (values_of t.fanins) ∙ columns_hold t class_value (numbers t.fanins) (sym (long t.fanins))

abbrev rows_wire : Bool → List (List ℕ) → Bool
rows_wire on rows = on && (length rows == 1) && bytes_eq (slice_index_or rows 0 []) (codes "1")

module _ (n : PlainTableNet) where
  -- no table is a wire
  pub table_no_wire : (t : Table) → said_wire (table_node n t) ≡ false
  table_no_wire t = by_test (is_buffer t) refl
    where
      by_bits : (zero_set one_set : Bool) (last : List ℕ) → (not zero_set && one_set) ≡ false → rows_wire true ((if zero_set then (48 ∷ []) ∷ [] else []) ++ ((if one_set then last ∷ [] else []) ++ [])) ≡ false
      by_bits true true last e = refl
      by_bits true false last e = refl
      by_bits false true last e = cc
      by_bits false false last e = refl

      plain : (out : ClassId) (fs : List ClassId) (bits : ℕ) → ((length fs == 1) && (not (is_set bits 0) && is_set bits 1)) ≡ false → ((length (map (λ (q : ClassId). net_name n q.0) fs) == 1) && rows_wire true (columns_from (record { out = out; fanins = fs; bits = bits }) 0 (2 ^ length fs))) ≡ false
      plain out [] bits e = refl
      plain out (q ∷ []) bits e = by_bits (is_set bits 0) (is_set bits 1) (49 ∷ []) e
      plain out (q ∷ r ∷ fs) bits e = and_left (length (map (λ (q : ClassId). net_name n q.0) (q ∷ r ∷ fs)) == 1) (rows_wire true (columns_from (record { out = out; fanins = q ∷ r ∷ fs; bits = bits }) 0 (2 ^ length (q ∷ r ∷ fs)))) (ne_eqb (suc (suc (length (map (λ (q : ClassId). net_name n q.0) fs)))) 1 (λ s. omega (arith, s)))

      by_test : (b : Bool) → is_buffer t ≡ b → ((length (fanin_names n t) == 1) && rows_wire (not b) (if b then codes "0" ∷ [] else columns_from t 0 (2 ^ length t.fanins))) ≡ false
      by_test true e = and-false (length (fanin_names n t) == 1)
      by_test false e = plain t.out t.fanins t.bits e
