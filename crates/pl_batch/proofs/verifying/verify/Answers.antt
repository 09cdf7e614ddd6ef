use Rattle.std.proofs.Common.{◌≡◌, ℕ, List, Option, true, false, rules, sym, ap, subst, ◌∙◌}
use Rattle.std.specs.Prelude.{Vec}
use Rattle.std.specs.Option.{option_map}
use Rattle.std.specs.declared.alloc.Global.{Global}
use Rattle.pl_base.specs.Names.{is_valid_name}
use Rattle.pl_rewrite.specs.Taken.{AreTaken, files_in}
use Rattle.pl_rewrite.specs.TakenFile.{Taken}
use Rattle.pl_rewrite.specs.Verify.{verified_original}
use Rattle.pl_change.specs.Answers.{Finds}
use Rattle.pl_batch.specs.Verify.{nowhere, verified}
use Rattle.pl_change.specs.declared.fault.BatchFault.TheVariants.{NoMemory}
use Rattle.pl_change.proofs.FindLemmas.{at_err}
use Rattle.pl_batch.proofs.VerifyLemmas.{bad_name, is_told, no_walk}
use Rattle.pl_batch.proofs.verifying.verify.Goals as goal

abbrev items : Option (Vec ℕ Global) → Option (List ℕ)
items original = option_map (λ (bytes : Vec ℕ Global). bytes.items) original

pub returns-then-not-is_valid_name-clause-found : goal.returns-then-not-is_valid_name-clause-found
returns-then-not-is_valid_name-clause-found g c =
    let invalid : is_valid_name c.args.name.now ≡ false = search rules in
    bad_name c.args.name.now items (g.D.Folder.seen c.args.folder.now) invalid

pub returns-in_err-files-clause-found : goal.returns-in_err-files-clause-found
returns-in_err-files-clause-found g c =
    let seen = g.D.Folder.seen in
    let a = seen c.args.folder.now in
    let valid : is_valid_name c.args.name.now ≡ true = search rules in
    at_err (λ r. Finds (verified a.files c.args.name.now) items r a (seen c.take_walk.new.folder)) c.from_residual.result c.in_err-files.field-0.0 c.from_residual.ensures.1
    (no_walk c.args.name.now items valid c.in_err-files.field-0.0 c.in_err-files.ensures.found)

pub original_by-requires : goal.original_by-requires
original_by-requires g c = subst (AreTaken nowhere) (sym c.as_slice.ensures) c.in_ok-files.ensures.taken

pub returns-clause-found : goal.returns-clause-found
returns-clause-found g c =
    let valid : is_valid_name c.args.name.now ≡ true = search rules in
    is_told c.args.name.now items valid c.in_ok-files.files c.in_ok-files.ensures.found c.in_ok-original_by.field-0 c.in_ok-files.ensures.files
    (c.in_ok-original_by.ensures ∙ ap (λ (ts : List Taken). verified_original (files_in ts) c.args.name.now) c.as_slice.ensures)
