use Rattle.std.proofs.Common.{◌≡◌, List, ℕ, Option, None, Some, ◌∙◌}
use Rattle.std.specs.Prelude.{is_some}
use Rattle.std.specs.Option.{option_map}
use Rattle.pl_cone.specs.Taken.{files_in}
use Rattle.pl_cone.specs.declared.taken.Taken.{Taken}
use Rattle.pl_rewrite.specs.Verify.{is_verified, verified_original}
use Rattle.pl_rewrite.proofs.VerifyingLaws.{none_verified, some_verified}
use Rattle.pl_rewrite.proofs.verifying.is_verified.Goals as goal

told : {X : Type 0} (ts : List Taken) (n : List ℕ) (f : X → List ℕ) (o : Option X) → option_map f o ≡ verified_original (files_in ts) n → is_some o ≡ is_verified (files_in ts) n
told ts n f None is = none_verified ts n is
told ts n f (Some x) is = some_verified ts n (f x) is

pub returns : goal.returns
returns c = c.is_some.ensures ∙ told c.args.files.now c.args.name.now _ c.in_ok-original.original c.in_ok-original.ensures
