use Rattle.std.proofs.Math.ListN.{drop_of_length-le}
use Rattle.std.proofs.Common.{◌≡◌, ℕ, List, ap, drop, ◌+◌, true, false, rules, subst, sym}
use Rattle.std.proofs.lemmas.List.Elements.{All-nil}
use Rattle.std.specs.List.{All}
use Rattle.std.specs.Prelude.{Ok, Err, String, string_bytes}
use Rattle.std.specs.declared.alloc.Global.{Global}
use Rattle.pl_base.specs.Names.{is_valid_name}
use Rattle.pl_journal.specs.Lists.{texts}
use Rattle.pl_journal.proofs.RecoverLemmas.{names_from}
use Rattle.pl_change.specs.Answers.{Finds}
use Rattle.pl_change.specs.Folder.{all_files}
use Rattle.pl_change.specs.Names.{file_of}
use Rattle.pl_change.specs.declared.fault.BatchFault.TheVariants.{NoMemory}
use Rattle.pl_change.proofs.FindLemmas.{at_err}
use Rattle.pl_rewrite.specs.Taken.{IsTaken}
use Rattle.pl_rewrite.specs.TakenFile.{Taken}
use Rattle.pl_batch.proofs.FolderLemmas.{bytes_of}
use Rattle.pl_batch.proofs.ReadLemmas.{TakenSoFar, all_on, begins, bytes, end_names, ends, goes_on, lacks_at, skips, stops_at, valid_of}
use Rattle.pl_batch.proofs.reading.take_valid.Goals as goal

pub loop-name-init : goal.loop-name-init
loop-name-init g c = (
  begins (g.D.Folder.seen c.args.folder.now) (texts c.args.names.now) _ c.new-files.ensures,
  subst (λ (ts : List Taken). All (IsTaken c.args.region) ts) (sym c.new-files.ensures) (All-nil (IsTaken c.args.region)),
)

pub loop-name-preserved-then-not-is_valid_name : goal.loop-name-preserved-then-not-is_valid_name
loop-name-preserved-then-not-is_valid_name g c =
    let seen = g.D.Folder.seen in
    let a = seen c.args.folder.now in
    let b = seen c.loop-name.folder in
    let names = c.args.names.now in
    let i = c.loop-name.name-index in
    let name = c.name-item.result in
    let invalid : is_valid_name (string_bytes name) ≡ false = search rules in
    let here = subst (λ (l : List (List ℕ)). TakenSoFar a b (texts names) l c.loop-name.files) (names_from names i name c.loop-name-test.true c.name-item.is) c.loop-name.invariant.0 in
    (skips a (texts names) (string_bytes name) (texts (drop (i + 1) names)) c.loop-name.files here invalid, c.loop-name.invariant.1)

pub returns-in_err-taken-clause-found : goal.returns-in_err-taken-clause-found
returns-in_err-taken-clause-found g c =
    let seen = g.D.Folder.seen in
    let a = seen c.args.folder.now in
    let b = seen c.loop-name.folder in
    let names = c.args.names.now in
    let i = c.loop-name.name-index in
    let name = c.name-item.result in
    let fault = c.in_err-taken.field-0.0 in
    let valid : is_valid_name (string_bytes name) ≡ true = search rules in
    let here = subst (λ (l : List (List ℕ)). TakenSoFar a b (texts names) l c.loop-name.files) (names_from names i name c.loop-name-test.true c.name-item.is) c.loop-name.invariant.0 in
    let found = subst (λ (n : List ℕ). Finds (file_of b.files n) bytes (Err fault) b (seen c.take_one.new.folder)) {y = string_bytes name} c.as_str-in-loop-name.ensures.value c.in_err-taken.ensures.found in
    at_err (λ r. Finds (all_files a.files (valid_of (texts names))) bytes_of r a (seen c.take_one.new.folder)) c.from_residual.result fault c.from_residual.ensures.1
    (stops_at a (texts names) (string_bytes name) (texts (drop (i + 1) names)) c.loop-name.files here valid fault found)

pub returns-in_err-push-clause-found : goal.returns-in_err-push-clause-found
returns-in_err-push-clause-found g c =
    let seen = g.D.Folder.seen in
    let a = seen c.args.folder.now in
    let b = seen c.loop-name.folder in
    let names = c.args.names.now in
    let i = c.loop-name.name-index in
    let name = c.name-item.result in
    let taken = c.in_ok-taken.taken in
    let valid : is_valid_name (string_bytes name) ≡ true = search rules in
    let here = subst (λ (l : List (List ℕ)). TakenSoFar a b (texts names) l c.loop-name.files) (names_from names i name c.loop-name-test.true c.name-item.is) c.loop-name.invariant.0 in
    let found = subst (λ (n : List ℕ). Finds (file_of b.files n) bytes (Ok taken) b (seen c.take_one.new.folder)) {y = string_bytes name} c.as_str-in-loop-name.ensures.value c.in_ok-taken.ensures.found in
    at_err (λ r. Finds (all_files a.files (valid_of (texts names))) bytes_of r a (seen c.take_one.new.folder)) c.from_residual-in_err-push.result NoMemory c.from_residual-in_err-push.ensures.1
    (lacks_at a (texts names) (string_bytes name) (texts (drop (i + 1) names)) c.loop-name.files here valid taken found)

pub loop-name-preserved : goal.loop-name-preserved
loop-name-preserved g c =
    let seen = g.D.Folder.seen in
    let a = seen c.args.folder.now in
    let b = seen c.loop-name.folder in
    let names = c.args.names.now in
    let i = c.loop-name.name-index in
    let name = c.name-item.result in
    let taken = c.in_ok-taken.taken in
    let valid : is_valid_name (string_bytes name) ≡ true = search rules in
    let here = subst (λ (l : List (List ℕ)). TakenSoFar a b (texts names) l c.loop-name.files) (names_from names i name c.loop-name-test.true c.name-item.is) c.loop-name.invariant.0 in
    let found = subst (λ (n : List ℕ). Finds (file_of b.files n) bytes (Ok taken) b (seen c.take_one.new.folder)) {y = string_bytes name} c.as_str-in-loop-name.ensures.value c.in_ok-taken.ensures.found in
    let called = subst (λ (n : List ℕ). taken.name ≡ n) {y = string_bytes name} c.as_str-in-loop-name.ensures.value c.in_ok-taken.ensures.name in (
      goes_on a (texts names) (string_bytes name) (texts (drop (i + 1) names)) c.loop-name.files here valid taken found called c.push.new.self c.in_ok-push.ensures.ok,
      all_on c.args.region c.loop-name.files taken c.push.new.self c.in_ok-push.ensures.ok c.loop-name.invariant.1 c.in_ok-taken.ensures.is,
    )

pub returns-clause-found : goal.returns-clause-found
returns-clause-found g c =
    let seen = g.D.Folder.seen in
    let a = seen c.args.folder.now in
    let names = c.args.names.now in
    ends a (texts names) c.loop-name.files
    (subst (λ (l : List (List ℕ)). TakenSoFar a (seen c.loop-name.folder) (texts names) l c.loop-name.files) (ap (λ (l : List (String Global)). texts l) (drop_of_length-le names {i = c.loop-name.name-index} c.loop-name-test.false)) c.loop-name.invariant.0)

pub returns-clause-names : goal.returns-clause-names
returns-clause-names g c =
    let seen = g.D.Folder.seen in
    let a = seen c.args.folder.now in
    let names = c.args.names.now in
    end_names a (texts names) c.loop-name.files
    (subst (λ (l : List (List ℕ)). TakenSoFar a (seen c.loop-name.folder) (texts names) l c.loop-name.files) (ap (λ (l : List (String Global)). texts l) (drop_of_length-le names {i = c.loop-name.name-index} c.loop-name-test.false)) c.loop-name.invariant.0)

pub returns-clause-each : goal.returns-clause-each
returns-clause-each g c = c.loop-name.invariant.1
