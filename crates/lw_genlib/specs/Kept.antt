-- What the types of a reader keep.
use Rattle.std.specs.Prelude.{ℕ, ⊤, not, IsTrue, ◌≡◌, ◌+◌, ◌≤◌, true, false, List, [], ◌∷◌, ◌++◌, length, All, Option}
use Rattle.std.specs.Prelude.{sum_by, IfSome}
use Rattle.std.specs.List.{list_any, list_all, IsDistinct}
use Rattle.std.specs.Str.{bytes_eq}
use Rattle.lw_fixed.specs.declared.micro.Micro.{Micro}
use Rattle.lw_laws.specs.Expressions.{Expr}
use Rattle.lw_genlib.specs.declared.token.Token.{Token}
use Rattle.lw_genlib.specs.declared.token.Token.TheVariants.{Name, Punct}
use Rattle.lw_genlib.specs.Cells.{CellParts, IsWord, IsPart, IsPinName, IsSmall, IsForm, IsLibrary, form_count}
use Rattle.lw_genlib.specs.Cells.{is_punct_byte, longest_function, function_room}
use Rattle.lw_genlib.specs.Entries.{FunctionText, is_end}
use Rattle.lw_genlib.specs.Grammar.{is_punct, go_on, names_in}
use Rattle.lw_genlib.specs.Functions.{pins_in}
use Rattle.lw_genlib.specs.Spelled.{expression_of}
use Rattle.lw_words.specs.Limits.{longest_word}

-- a name in a function, of at most so many bytes, maybe one that ends in `\`
abbrev pub IsRun : ℕ → List ℕ → Type 0
IsRun most name = IsWord most name × IsTrue (list_all (λ b. not (is_punct_byte b)) name)

abbrev pub AreRunsWithin : ℕ → List Token → Type 0
AreRunsWithin most [] = ⊤
AreRunsWithin most (Name name ∷ tokens) =
    IsWord most name × IsTrue (list_all (λ b. not (is_punct_byte b)) name) × AreRunsWithin most tokens
AreRunsWithin most (Punct b ∷ tokens) = AreRunsWithin most tokens

abbrev pub AreRuns : List Token → Type 0
AreRuns tokens = AreRunsWithin longest_function tokens

-- the tokens of a function before its `;`, the lines of them, and how many bytes there is room for
pub record IsOpenText (tokens : List Token) (lines : List ℕ) (room : ℕ) : Type 0 where
  pub paired : length lines ≡ length tokens
  pub few : length tokens + room ≤ function_room
  pub no_end : list_any (is_punct 59) tokens ≡ false
  pub runs : AreRuns tokens

-- the bytes are a word, or the part of one before its `;`, for which the text has room
pub record MayJoin (text : FunctionText) (bytes : List ℕ) : Type 0 where
  pub part : IsPart bytes
  pub no_end : list_any is_end bytes ≡ false
  pub room : 1 + length bytes ≤ text.room

-- what the tokens of a whole function say
pub record IsFunction (tokens : List Token) (output : List ℕ) (pins : List (List ℕ)) (form : Expr) : Type 0 where
  pub inner : List Token
  pub whole : tokens ≡ Name output ∷ Punct 61 ∷ (inner ++ Punct 59 ∷ [])
  pub goes_on : go_on true 0 inner ≡ true
  pub names : names_in inner ≤ 64
  pub short : length inner ≤ function_room
  pub few_pins : length pins ≤ 16
  pub pins_are : pins ≡ pins_in tokens
  pub form_is : form ≡ expression_of pins inner
  pub is_form : IsForm (length pins) form
  pub output_name : IsPinName output
  pub pin_names : All IsPinName pins
  pub pins_differ : IsDistinct bytes_eq pins

abbrev pub IsSmallDelay : Option Micro → Type 0
IsSmallDelay delay = IfSome delay IsSmall

pub record AreDelays (named : List (Option Micro)) (every : Option Micro) (pins : List (List ℕ)) : Type 0 where
  pub one_each : length named ≡ length pins
  pub small : All IsSmallDelay named
  pub every_small : IsSmallDelay every

-- the cells of the entries that are at their end, and the number of these
pub record AreCells (cells : List CellParts) (entries : ℕ) : Type 0 where
  pub library : IsLibrary cells
  pub count : entries ≡ sum_by form_count cells

-- an entry whose function is whole
pub record IsEntry (name : List ℕ) (area : Micro) (tokens : List Token) (output : List ℕ) (pins : List (List ℕ))
    (form : Expr) (named : List (Option Micro)) (every : Option Micro) : Type 0 where
  pub word : IsWord longest_word name
  pub small : IsSmall area
  pub function : IsFunction tokens output pins form
  pub delays : AreDelays named every pins
