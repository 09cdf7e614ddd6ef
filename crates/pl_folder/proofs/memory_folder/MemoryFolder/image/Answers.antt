use Rattle.std.proofs.Common.{◌≡◌, ◌≤◌, ◌<◌, ◌+◌, true, ℕ, List, length, take, get_or, refl, sym, ap, subst, ◌∙◌, arith, length-take-le}
use Rattle.std.proofs.lemmas.List.{take_all}
use Rattle.std.proofs.lemmas.Result.{IfOk-weaker}
use Rattle.std.specs.FinMap.{get}
use Rattle.pl_folder.specs.Chosen.{IsStart, has_bit, image_by, image_of}
use Rattle.pl_folder.specs.Disk.{Disk, State, IsWhole, clock, read, state_at}
use Rattle.pl_folder.specs.Entries.{entries_of}
use Rattle.pl_folder.specs.InMemory.{folder_disk, folder_files, folder_seen}
use Rattle.pl_folder.specs.Replay.{replay, step_of}
use Rattle.pl_folder.specs.Replaying.{Stands}
use Rattle.pl_folder.specs.Seen.{Seen}
use Rattle.pl_folder.specs.Tables.{started_with, table_files}
use Rattle.pl_folder.specs.declared.call.Call.{Call}
use Rattle.pl_folder.specs.declared.file_table.FileTable.{FileTable}
use Rattle.pl_folder.specs.declared.memory_folder.MemoryFolder.{MemoryFolder}
use Rattle.pl_folder.proofs.PastLemmas.{call_more, clock_after, started_is_start, state_then, step_whole}
use Rattle.pl_folder.proofs.ReplayLemmas.{settled_reads}
use Rattle.pl_folder.proofs.StartedLemmas.{started_kept}
use Rattle.pl_folder.proofs.memory_folder.MemoryFolder.image.Goals as goal

-- the moment is one of the calls that were recorded
recorded : (folder : MemoryFolder) (moment : ℕ) → moment ≤ clock (folder_disk folder) → moment ≤ length folder.past.items
recorded folder moment within = omega (arith, within, clock_after folder.past.items (started_with folder.first))

abbrev seen_of : FileTable → Seen
seen_of files = record { tells = true; records = true; files = table_files files; disk = started_with files; faults = 0; referent = 0 }

pub slice_bounds-call-items-end : goal.slice_bounds-call-items-end
slice_bounds-call-items-end c =
    let within : c.args.moment ≤ length c.deref.result.now = subst (λ (calls : List Call). c.args.moment ≤ length calls) (sym c.deref.ensures.value) (recorded c.args.self.now c.args.moment c.requires) in
    sym (length-take-le c.args.moment c.deref.result.now within)

pub loop-call-init : goal.loop-call-init
loop-call-init c = record { whole = (started_kept (entries_of c.args.self.now.first.files.items)).whole; stands = c.in_ok-replay.ensures }

pub loop-call-preserved : goal.loop-call-preserved
loop-call-preserved c =
    let calls = take c.args.moment c.deref.result.now in
    let i = c.loop-call.call-index in
    let call = c.call-item.result in
    let first = started_with c.args.self.now.first in
    let here : State = (replay (take i calls) first).now in
    let next : (replay (take (i + 1) calls) first).now ≡ step_of call here = call_more calls i call first (omega (arith, c.loop-call-test.true, c.loop-call.auto.call-index-end)) ∙ ap (λ (d : Call). step_of d here) (sym c.call-item.is) in
    record {
      whole = subst IsWhole (sym next) (step_whole call here c.loop-call.invariant.whole);
      stands = subst (Stands c.step.new.self) (sym next) (c.in_ok-step.ensures here c.loop-call.invariant.whole c.loop-call.invariant.stands);
    }

pub returns-clause-reads : goal.returns-clause-reads
returns-clause-reads c =
    let folder = c.args.self.now in
    let first = started_with folder.first in
    let calls = take c.args.moment c.deref.result.now in
    let here : State = (replay (take c.loop-call.call-index calls) first).now in
    let then : here ≡ state_at (folder_disk folder) c.args.moment =
    ap (λ (cs : List Call). (replay cs first).now) (take_all c.loop-call.call-index calls (omega (arith, c.loop-call-test.false, c.loop-call.auto.call-index-end)) ∙ ap (take c.args.moment) c.deref.ensures.value)
    ∙ sym (state_then folder.past.items first c.args.moment refl (recorded folder c.args.moment c.requires)) in
    IfOk-weaker c.started.result (λ image. folder_seen image ≡ seen_of c.in_ok-table.field-0) (λ image. (n : List ℕ) → get (folder_files image) n ≡ read (image_of c.args.choice (state_at (folder_disk c.args.self.now) c.args.moment)) n)
    (λ image seen n.
    ap (λ (s : Seen). get s.files n) seen
    ∙ c.in_ok-table.ensures n
    ∙ settled_reads c.settle.new.self (image_by (has_bit c.args.choice) here) refl (c.in_ok-settle.ensures here c.loop-call.invariant.stands) n
    ∙ ap (λ (s : State). read (image_of c.args.choice s) n) then)
    c.started.ensures.seen

pub returns-clause-starts : goal.returns-clause-starts
returns-clause-starts c =
    IfOk-weaker c.started.result (λ image. folder_seen image ≡ seen_of c.in_ok-table.field-0) (λ image. IsStart (folder_disk image))
    (λ image seen. subst IsStart (sym (ap (λ (s : Seen). s.disk) seen)) (started_is_start (entries_of c.in_ok-table.field-0.files.items)))
    c.started.ensures.seen
