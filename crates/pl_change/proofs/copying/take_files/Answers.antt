use Rattle.std.proofs.Math.ListN.{drop_of_length-le}
use Rattle.std.proofs.Common.{◌≡◌, ◌≤◌, ◌∙◌, ℕ, List, [], ◌∷◌, ◌++◌, ap, drop, length, ◌+◌, true, rules, subst, sym}
use Rattle.std.proofs.lemmas.List.Elements.{All-push}
use Rattle.std.specs.List.{All}
use Rattle.std.specs.Prelude.{Ok, Err, String, string_bytes}
use Rattle.std.specs.declared.alloc.Global.{Global}
use Rattle.pl_base.specs.Names.{is_valid_name}
use Rattle.pl_folder.specs.declared.TheConstants.{STORED}
use Rattle.pl_journal.specs.Lists.{texts}
use Rattle.pl_journal.proofs.RecoverLemmas.{names_from}
use Rattle.pl_change.specs.Answers.{Finds}
use Rattle.pl_change.specs.Folder.{all_files}
use Rattle.pl_change.specs.Names.{file_of}
use Rattle.pl_change.specs.declared.fault.BatchFault.TheVariants.{NoMemory}
use Rattle.pl_change.proofs.FindLemmas.{at_err, lacks_finds, reads_on}
use Rattle.pl_change.proofs.CopyLemmas.{CopiedSoFar, File, bytes_in, ends, goes_on, stops_at, valid_of}
use Rattle.pl_change.proofs.UndoLemmas.{items}
use Rattle.pl_change.proofs.copying.take_files.Goals as goal

pub returns-in_err-bytes-clause-found : goal.returns-in_err-bytes-clause-found
returns-in_err-bytes-clause-found g c =
    let seen = g.D.Folder.seen in
    let a = seen c.args.folder.now in
    let b = seen c.loop-name.folder in
    let names = c.args.names.now in
    let i = c.loop-name.name-index in
    let name = c.name-item.result in
    let fault = c.in_err-bytes.field-0.0 in
    let valid : is_valid_name (string_bytes name) ≡ true = search rules in
    let here = subst (λ (l : List (List ℕ)). CopiedSoFar a b (texts names) l c.loop-name.files.items) (names_from names i name c.loop-name-test.true c.name-item.is) c.loop-name.invariant.0 in
    let found = subst (λ (n : List ℕ). Finds (file_of b.files n) items (Err fault) b (seen c.take.new.folder)) {y = string_bytes name} c.as_str-in-loop-name.ensures.value c.in_err-bytes.ensures.found in
    at_err (λ r. Finds (all_files a.files (valid_of (texts names))) bytes_in r a (seen c.take.new.folder)) c.from_residual.result fault c.from_residual.ensures.1
    (stops_at a (texts names) (string_bytes name) (texts (drop (i + 1) names)) c.loop-name.files.items here valid fault found)

pub returns-in_err-from_str-clause-found : goal.returns-in_err-from_str-clause-found
returns-in_err-from_str-clause-found g c =
    let seen = g.D.Folder.seen in
    let a = seen c.args.folder.now in
    let meant = all_files a.files (valid_of (texts c.args.names.now)) in
    at_err (λ r. Finds meant bytes_in r a (seen c.take.new.folder)) c.from_residual-in_err-from_str.result NoMemory c.from_residual-in_err-from_str.ensures.1
    (lacks_finds meant bytes_in (reads_on c.loop-name.invariant.0.calls c.in_ok-bytes.ensures.found.calls))

pub returns-in_err-push-clause-found : goal.returns-in_err-push-clause-found
returns-in_err-push-clause-found g c =
    let seen = g.D.Folder.seen in
    let a = seen c.args.folder.now in
    let meant = all_files a.files (valid_of (texts c.args.names.now)) in
    at_err (λ r. Finds meant bytes_in r a (seen c.take.new.folder)) c.from_residual-in_err-push.result NoMemory c.from_residual-in_err-push.ensures.1
    (lacks_finds meant bytes_in (reads_on c.loop-name.invariant.0.calls c.in_ok-bytes.ensures.found.calls))

pub loop-name-preserved : goal.loop-name-preserved
loop-name-preserved g c =
    let seen = g.D.Folder.seen in
    let a = seen c.args.folder.now in
    let b = seen c.loop-name.folder in
    let names = c.args.names.now in
    let i = c.loop-name.name-index in
    let name = c.name-item.result in
    let files = c.loop-name.files.items in
    let bytes = c.in_ok-bytes.bytes in
    let copy : File = (c.in_ok-from_str.field-0, bytes) in
    let valid : is_valid_name (string_bytes name) ≡ true = search rules in
    let here = subst (λ (l : List (List ℕ)). CopiedSoFar a b (texts names) l files) (names_from names i name c.loop-name-test.true c.name-item.is) c.loop-name.invariant.0 in
    let found = subst (λ (n : List ℕ). Finds (file_of b.files n) items (Ok bytes) b (seen c.take.new.folder)) {y = string_bytes name} c.as_str-in-loop-name.ensures.value c.in_ok-bytes.ensures.found in
    let called : string_bytes copy.0 ≡ string_bytes name = search rules in
    let pushed : c.push.new.self.items ≡ files ++ copy ∷ [] = c.in_ok-push.ensures.items in (
      goes_on a (texts names) (string_bytes name) (texts (drop (i + 1) names)) files here valid copy found called c.push.new.self.items pushed,
      subst (λ (fs : List File). All (λ (file : File). length file.1.items ≤ STORED) fs) (sym pushed) (All-push (λ (file : File). length file.1.items ≤ STORED) files copy c.loop-name.invariant.1 c.in_ok-bytes.ensures.stored),
    )

pub returns-clause-found : goal.returns-clause-found
returns-clause-found g c =
    let seen = g.D.Folder.seen in
    let a = seen c.args.folder.now in
    let names = c.args.names.now in
    ends a (texts names) c.loop-name.files
    (subst (λ (l : List (List ℕ)). CopiedSoFar a (seen c.loop-name.folder) (texts names) l c.loop-name.files.items) (ap (λ (l : List (String Global)). texts l) (drop_of_length-le names {i = c.loop-name.name-index} c.loop-name-test.false)) c.loop-name.invariant.0)
