use Rattle.std.proofs.Common.{◌≡◌, ℕ, List, map, sym, ◌∙◌, ap, subst}
use Rattle.std.specs.List.{All}
use Rattle.std.specs.Prelude.{string_bytes, Ok, Err}
use Rattle.pl_rewrite.specs.Taken.{IsTaken, files_in, names_of}
use Rattle.pl_rewrite.specs.TakenFile.{Taken}
use Rattle.pl_batch.specs.All.{made_of_folder, made_of}
use Rattle.pl_change.specs.Answers.{Finds, BatchMeansAlone}
use Rattle.pl_batch.specs.Folder.{are_large}
use Rattle.pl_change.specs.Folder.{cache_in}
use Rattle.pl_batch.proofs.AllLemmas.{are_read, are_taken, it, large, misspelled, small, uncached, untaken}
use Rattle.pl_change.proofs.FindLemmas.{at_err}
use Rattle.pl_batch.proofs.FolderLemmas.{bytes_of}
use Rattle.pl_batch.proofs.all.made_of_folder.Goals as goal

pub returns-in_err-old : goal.returns-in_err-old
returns-in_err-old g c =
    let seen = g.D.Folder.seen in
    let fault = c.in_err-old.field-0.0 in
    at_err (λ r. Finds (made_of_folder (seen c.args.folder.now).files c.args.asked.now) it r (seen c.args.folder.now) (seen c.cache_file.new.folder)) c.from_residual.result fault c.from_residual.ensures.1
    (uncached c.args.asked.now fault c.in_err-old.ensures)

pub returns-in_err-cache : goal.returns-in_err-cache
returns-in_err-cache g c =
    let seen = g.D.Folder.seen in
    let fault = c.in_err-cache.field-0.0 in
    at_err (λ r. Finds (made_of_folder (seen c.args.folder.now).files c.args.asked.now) it r (seen c.args.folder.now) (seen c.cache_file.new.folder)) c.from_residual-in_err-cache.result fault c.from_residual-in_err-cache.ensures.1
    (misspelled c.args.asked.now c.in_ok-old.old c.in_ok-old.ensures fault (subst (λ (bytes : List ℕ). BatchMeansAlone (cache_in bytes) (Err fault)) c.deref.ensures.value c.in_err-cache.ensures))

pub returns-in_err-files : goal.returns-in_err-files
returns-in_err-files g c =
    let seen = g.D.Folder.seen in
    let fault = c.in_err-files.field-0.0 in
    let says = subst (λ (bytes : List ℕ). cache_in bytes ≡ Ok c.in_ok-cache.cache) c.deref.ensures.value c.in_ok-cache.ensures in
    at_err (λ r. Finds (made_of_folder (seen c.args.folder.now).files c.args.asked.now) it r (seen c.args.folder.now) (seen c.take_valid.new.folder)) c.from_residual-in_err-files.result fault c.from_residual-in_err-files.ensures.1
    (untaken c.args.asked.now c.in_ok-old.old c.in_ok-old.ensures c.in_ok-cache.cache says (map string_bytes c.args.names.now) c.requires.listed fault c.in_err-files.ensures.found)

pub are_large-requires : goal.are_large-requires
are_large-requires g c = are_read c.args.asked.now.region _ (subst (λ (ts : List Taken). All (IsTaken c.args.asked.now.region) ts) (sym c.as_slice.ensures) c.in_ok-files.ensures.each)

pub returns-then-are_large : goal.returns-then-are_large
returns-then-are_large g c =
    let says = subst (λ (bytes : List ℕ). cache_in bytes ≡ Ok c.in_ok-cache.cache) c.deref.ensures.value c.in_ok-cache.ensures in
    large c.args.asked.now c.in_ok-old.old c.in_ok-old.ensures c.in_ok-cache.cache says (map string_bytes c.args.names.now) c.requires.listed c.in_ok-files.files c.in_ok-files.ensures.found
    (ap (λ (ts : List Taken). are_large (bytes_of ts)) (sym c.as_slice.ensures) ∙ sym c.are_large.ensures ∙ c.if-are_large.true)

pub made_of-requires : goal.made_of-requires
made_of-requires g c =
    are_taken c.args.asked.now.region (map string_bytes c.args.names.now) _ c.requires.ascend
    c.in_ok-files.ensures.names
    c.in_ok-files.ensures.each

pub returns : goal.returns
returns g c =
    let says = subst (λ (bytes : List ℕ). cache_in bytes ≡ Ok c.in_ok-cache.cache) c.deref.ensures.value c.in_ok-cache.ensures in
    small c.args.asked.now c.in_ok-old.old c.in_ok-old.ensures c.in_ok-cache.cache says (map string_bytes c.args.names.now) c.requires.listed c.in_ok-files.files c.in_ok-files.ensures.found c.made_of.result
    (ap (λ (ts : List Taken). are_large (bytes_of ts)) (sym c.as_slice.ensures) ∙ sym c.are_large.ensures ∙ c.if-are_large.false)
    c.in_ok-files.ensures.names
    (subst (λ (bytes : List ℕ). BatchMeansAlone (made_of (files_in c.in_ok-files.files) (names_of c.in_ok-files.files) c.args.asked.now bytes c.in_ok-cache.cache) c.made_of.result) c.deref-2.ensures.value c.made_of.ensures)
