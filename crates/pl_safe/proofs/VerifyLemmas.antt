-- Folders whose files are verified.
use Rattle.std.proofs.Common.{◌≡◌, ℕ, Bool, true, false, List, [], Option, Some, None, Result, Ok, Err, refl, ap, ◌∙◌}
use Rattle.std.specs.Prelude.{not, if◌then◌else◌}
use Rattle.std.specs.FinMap.{get}
use Rattle.pl_base.specs.Answers.{◌>>=◌, because}
use Rattle.pl_base.specs.Files.{Files}
use Rattle.pl_base.specs.Names.{is_valid_name}
use Rattle.pl_base.proofs.AnswerLaws.{bind_ok, because_ok, ok_same, unless_ok}
use Rattle.pl_conflict.specs.Format.{Rule, format}
use Rattle.pl_folder.specs.Disk.{Name}
use Rattle.pl_rewrite.specs.Skipped.{skip_causes}
use Rattle.pl_rewrite.proofs.RuleLaws.{matches_same, members_same, rule_is_one}
use Rattle.pl_scope.specs.Members.{has}
use Rattle.law_sound.specs.Rule.{is_verified, original_at, walk_in}
use Rattle.law_sound.proofs.Theorems as theorems
use Rattle.pl_batch.specs.Folder as folder
use Rattle.pl_batch.specs.Verify.{causes, original_if_verified, verified}
use Rattle.pl_change.specs.declared.cause.Cause.TheVariants as batch_causes
use Rattle.pl_cli.specs.Answer.{answer, compare_answer}
use Rattle.pl_cli.specs.Verified.{verifies}
use Rattle.pl_cli.specs.Stops.{of_batch}
use Rattle.pl_cli.specs.Cause.{Cause}
use Rattle.pl_cli.specs.declared.command.Command.TheVariants.{Verify}
use Rattle.pl_words.specs.declared.status.Status.TheVariants as statuses
use Rattle.law_folder.specs.Sound.{named}
use Rattle.law_folder.proofs.SoundLemmas.{rule_enough}
use Rattle.pl_safe.specs.Laws.{VerifiedAreSound}

-- an answer that is Done has an original
done_has : (r : Result (Option (List ℕ)) Cause) → (compare_answer r).status ≡ statuses.Done → (o : List ℕ) × (r ≡ Ok (Some o))
done_has (Ok (Some o)) done = (o, refl)
done_has (Ok None) done = absurd cc
done_has (Err cause) done = absurd cc

same_some : (a b : List ℕ) → ◌≡◌ {A = Option (List ℕ)} None (Some b) → ⊥
same_some a b is = cc

if_so : (b : Bool) (x o : List ℕ) → (if b then Some x else None) ≡ Some o → b ≡ true
if_so true x o is = refl
if_so false x o is = absurd (same_some x o is)

is_so : (files : Files) (n : Name) (o : List ℕ) → verified files n ≡ Ok (Some o) → is_verified (format causes) (folder.named files) n ≡ true
unfolding verified
is_so files n o is =
    let valid = unless_ok (not (is_valid_name n)) batch_causes.BadName (walk_in (format causes) (folder.named files) n >>= λ walked. Ok (original_if_verified (folder.named files) n)) (Some o) is in
    let walk = bind_ok (walk_in (format causes) (folder.named files) n) (λ walked. Ok (original_if_verified (folder.named files) n)) (Some o) valid.1 in
    if_so (is_verified (format causes) (folder.named files) n) (original_at (format causes) (folder.named files n)) o (ok_same (original_if_verified (folder.named files) n) (Some o) walk.2)

answered : (files : Files) (n : Name) → (answer (Some (Verify n)) files []).status ≡ statuses.Done → is_verified (format causes) (folder.named files) n ≡ true
unfolding verifies
answered files n done =
    let a = done_has (because of_batch (verified files n)) done in
    is_so files n a.0 (because_ok of_batch (verified files n) (Some a.0) a.1)

pub verified_sound : VerifiedAreSound
verified_sound files none each =
    let fs = named (get files) in
    let rule : Rule causes fs = theorems.verified (format causes) fs (λ n m matching within. answered files m
    (each n m (matches_same skip_causes causes fs n ∙ matching) (ap (λ (ns : List Name). has ns m) (members_same skip_causes causes fs n) ∙ within))) in
    rule_enough (get files) none (rule_is_one causes skip_causes fs rule)
