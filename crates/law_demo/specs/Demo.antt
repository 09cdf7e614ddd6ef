-- When all loads of `--demo` are fast.
use Rattle.std.specs.Prelude.{◌≡◌, ℕ, true, List}
use Rattle.pl_cli.specs.Demo.{fast_loads}
use Rattle.pl_cli.specs.Files.{valid_file}
use Rattle.pl_conflict.specs.Complete.{file_at}
use Rattle.pl_conflict.specs.Format.{format}
use Rattle.pl_demo.specs.Demo.{folder, programs}
use Rattle.pl_demo.specs.declared.prelinking.TheConstants.{ASKED}
use Rattle.pl_gen.specs.Set as drawn
use Rattle.pl_cone.specs.Skipped.{skip_causes}
use Rattle.pl_scope.specs.Members.{has}
use Rattle.law_sound.specs.Rule.{is_marked}
use Rattle.law_demo.specs.Clear.{IsProgram, keeps_off}

-- a program of a set, prelinked, whose file keeps off the region of the slots
pub record IsReady (number : ℕ) (name : List ℕ) : Type 0 where
  pub prelinked : is_marked (format skip_causes) (valid_file (folder number)) name ≡ true
  pub program : IsProgram skip_causes (valid_file (folder number)) name
  pub off : keeps_off ASKED.region (file_at (valid_file (folder number)) name) ≡ true

-- after the run each program of a set is ready
abbrev pub DemoProgramsAreReady : Type 0
DemoProgramsAreReady = (number : ℕ) (n : List ℕ) → has (programs number) n ≡ true → IsReady number n

-- so all loads are fast, and there are as many as the number draws programs
abbrev pub DemoLoadsAreFast : Type 0
DemoLoadsAreFast = (number : ℕ) → fast_loads (folder number) (programs number) ≡ drawn.programs number
