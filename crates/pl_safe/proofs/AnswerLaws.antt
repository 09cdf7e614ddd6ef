-- The answer of `--load` over a folder that keeps the rule at the loaded name.
use Rattle.std.proofs.Common.{◌≡◌, ℕ, Bool, true, false, not, List, Option, Some, None, Result, Ok, Err, refl, ap, ◌∙◌}
use Rattle.std.specs.Prelude.{nat_lt, length}
use Rattle.pl_base.specs.Answers.{unless}
use Rattle.pl_base.specs.Files.{Files}
use Rattle.pl_base.specs.Names.{is_valid_name}
use Rattle.pl_base.proofs.AnswerLaws.{ok_same, unless_ok}
use Rattle.pl_folder.specs.declared.TheConstants.{STORED}
use Rattle.pl_image.specs.Lines.{text}
use Rattle.pl_conflict.specs.Format as format
use Rattle.pl_words.specs.declared.command.Policy.{Policy}
use Rattle.law_loads.specs.Started.{Start, load}
use Rattle.pl_cli.specs.Answer.{done, refuses, load_answer}
use Rattle.pl_cli.specs.Files.{valid_file, of_file, file_in}
use Rattle.pl_cli.specs.Load.{choice, load_result, loading_file}
use Rattle.pl_cli.specs.LoadText.{head_text, load_text}
use Rattle.pl_cli.specs.Cause.{Cause}
use Rattle.pl_cli.specs.Cause.TheVariants as cause
use Rattle.law_loads.specs.LoadingFolder.{loading_folder}
use Rattle.pl_safe.specs.Ordinary.{AnswersAreOrdinary, ordinary}
use Rattle.law_loads.specs.Paths.{GivesFrom, ordinary_load, IsSameStart, SameAnswer}
use Rattle.law_loads.proofs.ImageLaws.{loads_are_ordinary}
use Rattle.law_loads.proofs.SameTextLaws.{text_same}
use Rattle.law_loads.proofs.LoadingFolderLaws.{gives_given, rule_given}

-- ---- starts that are the same have one text

pub start_same : (a b : Start) → IsSameStart a b → load_text a ≡ load_text b
unfolding load_text
start_same a b same =
    let first : head_text a.fast a.objects a.modules a.entry ≡ head_text b.fast b.objects b.modules b.entry = rw (same.fast, same.objects, same.modules, same.entry) refl in
    let middle : text a.memory a.extents ≡ text b.memory b.extents = text_same a.memory b.memory a.extents same.bytes ∙ ap (text b.memory) same.extents in
    rw (first, middle) refl

answer_same : (r q : Result Start Cause) → SameAnswer r q → load_answer r ≡ load_answer q
answer_same (Ok a) (Ok b) same = ap done (start_same a b same)
answer_same (Ok a) (Err e) same = absurd same
answer_same (Err e) (Ok b) same = absurd same
answer_same (Err e) (Err f) same = ap refuses same

-- ---- the files of a folder

given_by : (n bytes : List ℕ) (found : Option (List ℕ)) → of_file n found ≡ Ok bytes → found ≡ Some bytes
given_by n bytes None e = absurd cc
given_by n bytes (Some file) e =
    let p = unless_ok (nat_lt STORED (length file)) (cause.FileTooLarge n) (Ok file) bytes e in
    ap (λ (xs : List ℕ). Some xs) (ok_same file bytes p.1)

gives : (files : Files) → GivesFrom (valid_file files) (file_in files)
unfolding file_in
gives files n bytes is = given_by n bytes (valid_file files n) is

-- ---- the answer

loads_given : (policy : Policy) (files : Files) (name : List ℕ) → GivesFrom (loading_folder (choice policy) (valid_file files) name) (loading_file policy files name)
unfolding loading_file
loads_given policy files name = gives_given (choice policy) (valid_file files) cause.Load (file_in files) name (gives files)

pub answers_are_ordinary : {F : Type 0} → AnswersAreOrdinary F
unfolding load_result ordinary
answers_are_ordinary causes files input name busy policy rule =
    by (not (is_valid_name name))
    (loads_are_ordinary causes (loading_folder (choice policy) (valid_file files) name) (choice policy) busy cause.Load (loading_file policy files name) name (loads_given policy files name) (rule_given causes (choice policy) (valid_file files) name rule))
  where
    by : (bad : Bool) → SameAnswer (load (choice policy) busy cause.Load (loading_file policy files name) name) (ordinary_load (format.is_fast causes (loading_folder (choice policy) (valid_file files) name) name) (choice policy) busy cause.Load (loading_file policy files name) name)
        → load_answer (unless bad cause.BadName (load (choice policy) busy cause.Load (loading_file policy files name) name)) ≡ load_answer (unless bad cause.BadName (ordinary_load (format.is_fast causes (loading_folder (choice policy) (valid_file files) name) name) (choice policy) busy cause.Load (loading_file policy files name) name))
    by true same = refl
    by false same = answer_same _ _ same
