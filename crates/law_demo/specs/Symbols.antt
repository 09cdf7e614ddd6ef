-- The symbols of a plain recipe's file.
use Rattle.std.specs.Prelude.{◌≡◌, ◌^◌, ◌<◌, false, [], ◌∷◌, length, map, Ok}
use Rattle.std.specs.List.{AllByRecursion, list_any}
use Rattle.pl_base.specs.Strings.{is_zero}
use Rattle.pl_sym.specs.Table as sym
use Rattle.pl_sym.specs.declared.symbol.Symbol as read
use Rattle.pl_ver.specs.declared.constants.TheConstants.{VER_NDX_GLOBAL}
use Rattle.pl_build.specs.declared.line.SymbolLine.{SymbolLine}
use Rattle.pl_build.specs.declared.layout_plan.LayoutPlan.{LayoutPlan}
use Rattle.pl_build.specs.declared.recipe.Recipe.{Recipe}
use Rattle.pl_build.specs.LayoutPlan.{plan_of}
use Rattle.pl_build.specs.SymbolTable.{section_of, value_of, symbol_table}
use Rattle.law_demo.specs.Plain.{IsPlain}

-- a symbol whose fields fit, and whose name is a string
pub record IsSound (s : SymbolLine) : Type 0 where
  pub name : list_any is_zero s.name ≡ false
  pub bind : s.bind < 16
  pub kind : s.kind < 16
  pub visibility : s.visibility < 4
  pub offset : s.offset < 2 ^ 64
  pub size : s.size < 2 ^ 64

unfoldable pub planned_symbol : LayoutPlan → SymbolLine → read.Symbol
planned_symbol p s = record {
  name = s.name;
  value = value_of p s;
  size = s.size;
  bind = s.bind;
  kind = s.kind;
  visibility = s.visibility;
  section = section_of p s;
  version = VER_NDX_GLOBAL;
}

abbrev pub null_symbol : read.Symbol
null_symbol = record { name = []; value = 0; size = 0; bind = 0; kind = 0; visibility = 0; section = 0; version = VER_NDX_GLOBAL }

-- the symbol table is read as the null symbol and the recipe's, under their names, in the order of the plan
abbrev pub SymbolTableIsRead : Type 0
SymbolTableIsRead = (r : Recipe) → IsPlain r → AllByRecursion IsSound r.symbols → length (plan_of r).strings.bytes < 2 ^ 32
    → sym.symbols (symbol_table (plan_of r)) (plan_of r).strings.bytes ≡ Ok (null_symbol ∷ map (planned_symbol (plan_of r)) (plan_of r).symbols)
