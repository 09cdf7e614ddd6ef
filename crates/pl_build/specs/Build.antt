-- The file of a recipe, or the recipe's first fault.
use Rattle.std.specs.Prelude.{◌≡◌, ℕ, List, map, Option, Some, None, IfSome, Result, Ok, Err}
use Rattle.pl_base.specs.Answers.{unless_found}
use Rattle.pl_build.specs.declared.checks.Fault.{Fault}
use Rattle.pl_build.specs.declared.fault.RecipeFault.{RecipeFault}
use Rattle.pl_build.specs.declared.fault.RecipeFault.TheVariants.{Bad, NoMemory}
use Rattle.pl_build.specs.declared.line.Line.{Line}
use Rattle.pl_build.specs.Words.{lines_of}
use Rattle.pl_build.specs.Grammar.{line}
use Rattle.pl_build.specs.Checks.{first_fault}
use Rattle.pl_build.specs.Recipe.{gathered}
use Rattle.pl_build.specs.LayoutPlan.{plan_of}
use Rattle.pl_build.specs.File.{made}

-- the fault of a recipe that an answer tells; a want of memory tells none
abbrev pub told : RecipeFault → Option Fault
told (Bad line kind) = Some (record { line = line; kind = kind })
told NoMemory = None

-- the answer is what the definition means, or it is a want of memory
abbrev pub Builds : {X : Type 0} → Result X RecipeFault → Result X Fault → Type 0
Builds (Ok x) meant = meant ≡ Ok x
Builds (Err answer) meant = IfSome (told answer) (λ fault. meant ≡ Err fault)

unfoldable pub lines : List ℕ → List Line
lines recipe = map line (lines_of recipe)

unfoldable pub made_of : List Line → Result (List ℕ) Fault
made_of all = unless_found (first_fault all) (λ fault. fault) (made (plan_of (gathered all)))

unfoldable pub build : List ℕ → Result (List ℕ) Fault
build recipe = made_of (lines recipe)
