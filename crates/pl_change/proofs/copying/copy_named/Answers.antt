use Rattle.std.proofs.Common.{◌≡◌, ◌∙◌, List, ap, false, map, sym, true}
use Rattle.std.specs.Prelude.{string_bytes}
use Rattle.pl_change.specs.Answers.{Finds}
use Rattle.pl_change.specs.Copied.{are_bulky, copied_by}
use Rattle.pl_change.specs.declared.fault.BatchFault.TheVariants.{NoMemory}
use Rattle.pl_change.proofs.CopiedLemmas.{bulky, is_copy, small, uncached, unkept, untaken, whole}
use Rattle.pl_change.proofs.CopyLemmas.{File, bytes_of}
use Rattle.pl_change.proofs.FindLemmas.{at_err}
use Rattle.pl_change.proofs.copying.copy_named.Goals as goal

pub returns-in_err-cache-clause-found : goal.returns-in_err-cache-clause-found
returns-in_err-cache-clause-found g c =
    let seen = g.D.Folder.seen in
    let fault = c.in_err-cache.field-0.0 in
    at_err (λ r. Finds (copied_by (seen c.args.folder.now).files) whole r (seen c.args.folder.now) (seen c.take_cache.new.folder)) c.from_residual.result fault c.from_residual.ensures.1
    (uncached fault c.in_err-cache.ensures.found)

pub returns-in_err-files-clause-found : goal.returns-in_err-files-clause-found
returns-in_err-files-clause-found g c =
    let seen = g.D.Folder.seen in
    let fault = c.in_err-files.field-0.0 in
    at_err (λ r. Finds (copied_by (seen c.args.folder.now).files) whole r (seen c.args.folder.now) (seen c.take_files.new.folder)) c.from_residual-in_err-files.result fault c.from_residual-in_err-files.ensures.1
    (untaken c.in_ok-cache.cache c.in_ok-cache.ensures.found (map string_bytes c.args.names.now) c.requires.listed fault c.in_err-files.ensures.found)

pub returns-then-are_bulky-clause-found : goal.returns-then-are_bulky-clause-found
returns-then-are_bulky-clause-found g c =
    let is : are_bulky (bytes_of c.in_ok-files.files.items) ≡ true = ap (λ (files : List File). are_bulky (bytes_of files)) (sym c.deref.ensures.value) ∙ sym c.are_bulky.ensures ∙ c.if-are_bulky.true in
    bulky c.in_ok-cache.cache c.in_ok-cache.ensures.found (map string_bytes c.args.names.now) c.requires.listed c.in_ok-files.files c.in_ok-files.ensures.found is

pub returns-in_err-add_cache-clause-found : goal.returns-in_err-add_cache-clause-found
returns-in_err-add_cache-clause-found g c =
    let seen = g.D.Folder.seen in
    at_err (λ r. Finds (copied_by (seen c.args.folder.now).files) whole r (seen c.args.folder.now) (seen c.take_files.new.folder)) c.from_residual-in_err-add_cache.result NoMemory c.from_residual-in_err-add_cache.ensures.1
    (unkept c.in_ok-cache.cache c.in_ok-cache.ensures.found (map string_bytes c.args.names.now) c.requires.listed c.in_ok-files.files c.in_ok-files.ensures.found)

pub returns-clause-found : goal.returns-clause-found
returns-clause-found g c =
    let is : are_bulky (bytes_of c.in_ok-files.files.items) ≡ false = ap (λ (files : List File). are_bulky (bytes_of files)) (sym c.deref.ensures.value) ∙ sym c.are_bulky.ensures ∙ c.if-are_bulky.false in
    small c.in_ok-cache.cache c.in_ok-cache.ensures.found (map string_bytes c.args.names.now) c.requires.listed c.in_ok-files.files c.in_ok-files.ensures.found c.add_cache.new.files is c.in_ok-files.ensures.names c.in_ok-add_cache.ensures

pub returns-clause-files : goal.returns-clause-files
returns-clause-files g c =
    is_copy c.in_ok-files.files c.add_cache.new.files c.in_ok-cache.cache (map string_bytes c.args.names.now) c.in_ok-files.ensures.names c.requires.ascend c.in_ok-add_cache.ensures c.in_ok-files.ensures.stored c.in_ok-cache.ensures.stored
