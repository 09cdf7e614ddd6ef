use Rattle.std.proofs.Common.{◌≡◌, ◌≤◌, ◌<◌, List, length, get_or, take, sym, ap, subst, ◌∙◌}
use Rattle.std.proofs.lemmas.List.{take_all}
use Rattle.pl_folder.specs.declared.file.File.{File}
use Rattle.pl_folder.specs.Entries.{are_distinct, entries_of, name_bytes}
use Rattle.pl_folder.proofs.TableLemmas.{file_more}
use Rattle.pl_folder.proofs.file_table.FileTable.copy.Goals as goal

pub invariant_of-result : goal.invariant_of-result
invariant_of-result c =
    let all : length c.args.self.now.files.items ≤ c.loop-file.file-index = subst (λ (l : List File). length l ≤ c.loop-file.file-index) c.deref-file-items.ensures.value c.loop-file-test.false in
    record { distinct = ap are_distinct (c.loop-file.invariant ∙ ap entries_of (take_all c.loop-file.file-index c.args.self.now.files.items all)) ∙ c.args.self.now.distinct }

pub loop-file-preserved : goal.loop-file-preserved
loop-file-preserved c =
    let files = c.args.self.now.files.items in
    let i = c.loop-file.file-index in
    let file = c.file-item.result in
    let within : i < length files = subst (λ (l : List File). i < length l) c.deref-file-items.ensures.value c.loop-file-test.true in
    let is : file ≡ get_or files i file = c.file-item.is ∙ ap (λ (l : List File). get_or l i file) c.deref-file-items.ensures.value in
    ap entries_of c.in_ok-push.ensures.items
    ∙ file_more files i file c.loop-file.copies.items c.in_ok-copy.copy within
    (c.in_ok-copy.ensures.name ∙ c.as_str.ensures.value ∙ ap (λ (f : File). name_bytes f.name) is)
    (c.in_ok-copy.ensures.bytes ∙ c.as_slice.ensures.value ∙ ap (λ (f : File). f.bytes.items) is)
    c.loop-file.invariant

pub returns : goal.returns
returns c =
    let all : length c.args.self.now.files.items ≤ c.loop-file.file-index = subst (λ (l : List File). length l ≤ c.loop-file.file-index) c.deref-file-items.ensures.value c.loop-file-test.false in
    c.loop-file.invariant ∙ ap entries_of (take_all c.loop-file.file-index c.args.self.now.files.items all)
