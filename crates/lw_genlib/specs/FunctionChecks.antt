-- What is kept of the tokens of a function that were checked.
use Rattle.std.specs.Prelude.{ℕ, ◌+◌, ◌<◌, ◌==◌, nat_le, Bool, false, not, ◌&&◌, ◌||◌, List, length, drop, Option, Some}
use Rattle.std.specs.Prelude.{None, if◌then◌else◌, ◌^◌}
use Rattle.std.specs.List.{list_any, count_by}
use Rattle.lw_genlib.specs.declared.token.Token.{Token}
use Rattle.lw_genlib.specs.declared.token.Token.TheVariants.{Name, Punct}
use Rattle.lw_genlib.specs.declared.fault.LibKind.{LibKind}
use Rattle.lw_genlib.specs.declared.fault.LibKind.TheVariants.{Expected, BadByte, ConstInside, LimitLiterals, LimitPins}
use Rattle.lw_genlib.specs.declared.function_check.FunctionCheck.{FunctionCheck}
use Rattle.lw_genlib.specs.Cells.{ends_in_stroke}
use Rattle.lw_genlib.specs.Grammar.{is_punct, is_name, awaits_behind, depth_behind, fits, names_in}
use Rattle.lw_genlib.specs.Functions.{is_constant_name, is_constant, is_no_paren, awaits, depth_in, is_among, with_pin}
use Rattle.lw_genlib.specs.Functions.{pins_in}

-- what is kept of these tokens
abbrev pub check_of : List Token → FunctionCheck
check_of tokens = record {
  count = length tokens;
  equals = list_any (is_punct 61) tokens;
  awaits = awaits tokens;
  depth = depth_in tokens;
  names = names_in tokens;
  constant = list_any is_constant (drop 1 tokens);
  no_parens = count_by is_no_paren tokens;
  pins = pins_in tokens;
}

abbrev pub one_if : Bool → ℕ
one_if b = if b then 1 else 0

-- what is kept behind one more token
abbrev pub check_more : FunctionCheck → Token → FunctionCheck
check_more check token = record {
  count = check.count + 1;
  equals = check.equals || is_punct 61 token;
  awaits = is_punct 61 token || awaits_behind token;
  depth = depth_behind token check.depth;
  names = check.names + one_if (is_name token);
  constant = if check.count == 0 then false else (check.constant || is_constant token);
  no_parens = check.no_parens + one_if (is_no_paren token);
  pins = if check.count == 0 then check.pins else with_pin check.pins token;
}

abbrev pub bad_at : FunctionCheck → Token → Bool
bad_at check (Name name) = ends_in_stroke name
bad_at check (Punct b) = b == 38 || b == 124 || b == 94 || b == 34 || (b == 61 && check.equals)

abbrev pub may_follow_at : FunctionCheck → Token → Bool
may_follow_at check token =
    if check.count == 0 then is_name token
    else (if check.count == 1 then is_punct 61 token
    else (if is_punct 59 token then not check.awaits && check.depth == 0
    else fits check.awaits check.depth token))

abbrev pub new_pin_at : FunctionCheck → Token → Bool
new_pin_at check (Punct b) = false
new_pin_at check (Name name) = not (is_constant_name name || is_among name check.pins)

abbrev pub constant_inside_at : FunctionCheck → Bool
constant_inside_at check = check.constant && not (check.no_parens == 3)

-- the first rule that a token breaks
abbrev pub fault_at : FunctionCheck → Token → Option LibKind
fault_at check token =
    if bad_at check token then Some BadByte
    else (if not (may_follow_at check token) then Some Expected
    else (if is_name token && nat_le 65 check.names then Some LimitLiterals
    else (if new_pin_at check token && nat_le 16 (length check.pins) then Some LimitPins
    else (if is_punct 59 token && constant_inside_at check then Some ConstInside
    else None))))

-- the counts can grow by one
pub record HasRoom (check : FunctionCheck) : Type 0 where
  pub count : check.count < 2 ^ 32
  pub depth : check.depth < 2 ^ 32
  pub names : check.names < 2 ^ 32
  pub no_parens : check.no_parens < 2 ^ 32
