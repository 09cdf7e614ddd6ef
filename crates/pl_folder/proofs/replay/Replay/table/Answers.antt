use Rattle.std.proofs.Common.{◌≡◌, ◌≤◌, ◌<◌, ◌+◌, List, [], ◌∷◌, ◌++◌, length, take, get_or, sym, ap, subst, ◌∙◌}
use Rattle.std.proofs.lemmas.List.{take_all}
use Rattle.std.specs.Ordering.{nat_cmp}
use Rattle.std.specs.Cmp.Lexicographic.{slice_cmp}
use Rattle.std.specs.FinMap.{get, get-empty}
use Rattle.pl_folder.specs.Entries.{name_bytes}
use Rattle.pl_folder.specs.Replaying.{bound_name, change_of, changes_of}
use Rattle.pl_folder.specs.Tables.{table_files}
use Rattle.pl_folder.specs.declared.directory_change.DirectoryChange.{DirectoryChange}
use Rattle.pl_folder.specs.declared.file_table.FileTable.{FileTable}
use Rattle.pl_folder.proofs.ReplayLemmas.{Covers, changes_more, covers_all, covers_more, covers_same}
use Rattle.pl_folder.proofs.replay.Replay.table.Goals as goal
use Rattle.pl_folder.proofs.replay.Replay.table.Goals.{in-Some+in_ok-add_to, in_default}

pub loop-change-init : goal.loop-change-init
loop-change-init c = λ n. ap (λ fs. get fs n) c.new-table.ensures ∙ get-empty (slice_cmp nat_cmp) n

pub loop-change-preserved : goal.loop-change-preserved
loop-change-preserved c =
    let replay = c.args.self.now in
    let all = c.args.self.now.settled.items in
    let i = c.loop-change.change-index in
    let change = c.change-item.result in
    let within : i < length all = subst (λ (cs : List DirectoryChange). i < length cs) c.deref-change-items.ensures.value c.loop-change-test.true in
    let is : change ≡ get_or all i change = c.change-item.is ∙ ap (λ (cs : List DirectoryChange). get_or cs i change) c.deref-change-items.ensures.value in
    let more : changes_of (take (i + 1) all) ≡ changes_of (take i all) ++ change_of change ∷ [] = changes_more all i change within ∙ ap (λ d. changes_of (take i all) ++ change_of d ∷ []) (sym is) in
    subst (λ cs. Covers replay cs (table_files c.match-bound_name.table)) (sym more) (elim c.match-bound_name.branch [
      | in-Some+in_ok-add_to w ↦ subst (λ (t : FileTable). Covers replay (changes_of (take i all) ++ change_of change ∷ []) (table_files t)) (sym w.table-is)
          (covers_more replay (changes_of (take i all)) (change_of change) (name_bytes w.in-Some.name.now) (table_files c.loop-change.table) (table_files w.add_to.new.table) w.in-Some.ensures w.in_ok-add_to.ensures c.loop-change.invariant)
      | in_default w ↦ subst (λ (t : FileTable). Covers replay (changes_of (take i all) ++ change_of change ∷ []) (table_files t)) (sym w.table-is)
          (covers_same replay (changes_of (take i all)) (change_of change) (table_files c.loop-change.table) (sym w.in_default.ensures) c.loop-change.invariant)
    ])

pub returns : goal.returns
returns c =
    let all = c.args.self.now.settled.items in
    let i = c.loop-change.change-index in
    let done : length all ≤ i = subst (λ (cs : List DirectoryChange). length cs ≤ i) c.deref-change-items.ensures.value c.loop-change-test.false in
    covers_all c.args.self.now (table_files c.loop-change.table) (subst (λ (cs : List DirectoryChange). Covers c.args.self.now (changes_of cs) (table_files c.loop-change.table)) (take_all i all done) c.loop-change.invariant)
