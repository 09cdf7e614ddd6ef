-- The past of a disk whose calls are replayed.
use Rattle.std.proofs.Common.{◌≡◌, ◌==◌, inl, inr, ℕ, zero, suc, ◌+◌, ◌-◌, ◌≤◌, ◌<◌, Bool, true, List, [], ◌∷◌, ◌++◌, length, take, drop, get_or, Option, Some, None, refl, sym, ap, subst, ◌∙◌, arith, length-drop, take-append-drop}
use Rattle.std.proofs.lemmas.Bool.{cases_Bool, cond-true, cond-false}
use Rattle.std.proofs.lemmas.List.{take_more}
use Rattle.pl_folder.specs.declared.call.Call.{Call}
use Rattle.pl_folder.specs.declared.call.Call.TheVariants.{Nothing, Create, Append, Firm, Rename, Remove, Settle}
use Rattle.pl_folder.specs.Chosen.{IsStart}
use Rattle.pl_folder.specs.Disk.{Content, Disk, State, IsWhole, after, clock, names_of, state_at}
use Rattle.pl_folder.specs.Entries.{name_bytes}
use Rattle.pl_folder.specs.Replay.{contents_from, replay, started, step_of}
use Rattle.pl_folder.specs.States as state
use Rattle.pl_folder.proofs.ImageLaws.{created_writing, firmed_whole, removed_whole, renamed_whole, settled_whole}
use Rattle.pl_folder.proofs.RecordLemmas.{replay_push}
use Rattle.pl_folder.proofs.StartedLemmas.{Entry}

pub replay_both : (first rest : List Call) (d : Disk) → replay (first ++ rest) d ≡ replay rest (replay first d)
replay_both [] rest d = refl
replay_both (call ∷ first) rest d = replay_both first rest (after (step_of call d.now) d)

abbrev states : Disk → List State
states d = d.now ∷ d.past

-- each call is one moment more
later_states : (calls : List Call) (d : Disk) (k : ℕ) (x : State) → get_or (states (replay calls d)) (length calls + k) x ≡ get_or (states d) k x
later_states [] d k x = ap (λ n. get_or (states d) n x) (omega arith)
later_states (call ∷ calls) d k x = ap (λ n. get_or (states (replay calls (after (step_of call d.now) d))) n x) (omega arith) ∙ later_states calls (after (step_of call d.now) d) (suc k) x

pub clock_after : (calls : List Call) (d : Disk) → clock (replay calls d) ≡ length calls + clock d
clock_after [] d = omega arith
clock_after (call ∷ calls) d = clock_after calls (after (step_of call d.now) d) ∙ omega arith

-- the state at a moment is that after so many calls
pub state_then : (calls : List Call) (d : Disk) (moment : ℕ) → clock d ≡ 0 → moment ≤ length calls → state_at (replay calls d) moment ≡ (replay (take moment calls) d).now
state_then calls d moment start within =
    let first = take moment calls in
    let rest = drop moment calls in
    let all : replay calls d ≡ replay rest (replay first d) = ap (λ (cs : List Call). replay cs d) (sym (take-append-drop moment calls)) ∙ replay_both first rest d in
    let left : clock (replay calls d) - moment ≡ length rest + 0 = omega (arith, clock_after calls d, start, length-drop moment calls, within) in
    ap (λ k. get_or (states (replay calls d)) k (replay calls d).now) left
    ∙ (λ i. get_or (states (all i)) (length rest + 0) (all i).now)
    ∙ later_states rest (replay first d) 0 (replay rest (replay first d)).now

appended_whole : (o : Option ℕ) (more : List ℕ) (s : State) → IsWhole s → IsWhole (state.appended_to o more s)
appended_whole None more s whole = whole
appended_whole (Some file) more s whole = record { below = whole.below }

pub step_whole : (call : Call) (s : State) → IsWhole s → IsWhole (step_of call s)
step_whole Nothing s whole = whole
step_whole (Create name) s whole = (created_writing (name_bytes name) s whole).whole
step_whole (Append name bytes) s whole = appended_whole (names_of s (name_bytes name)) bytes.items s whole
step_whole (Firm name) s whole = firmed_whole (name_bytes name) s whole
step_whole (Rename from to) s whole = renamed_whole (name_bytes from) (name_bytes to) s whole
step_whole (Remove name) s whole = removed_whole (name_bytes name) s whole
step_whole Settle s whole = settled_whole s whole

-- one call more of those that are replayed
pub call_more : (calls : List Call) (i : ℕ) (c : Call) (d : Disk) → i < length calls → (replay (take (i + 1) calls) d).now ≡ step_of (get_or calls i c) (replay (take i calls) d).now
call_more calls i c d within = ap (λ (cs : List Call). (replay cs d).now) (take_more calls i c within) ∙ ap (λ (e : Disk). e.now) (replay_push (take i calls) (get_or calls i c) d)

first_firm : (i : ℕ) (es : List Entry) (file : ℕ) → (contents_from i es file).is_firm ≡ true
first_firm i [] file = refl
first_firm i (e ∷ es) file = elim (cases_Bool (file == i)) [
  | inl hit ↦ ap (λ (x : Content). x.is_firm) (cond-true (file == i) _ _ hit)
  | inr missed ↦ ap (λ (x : Content). x.is_firm) (cond-false (file == i) _ _ missed) ∙ first_firm (i + 1) es file
]

pub started_is_start : (es : List Entry) → IsStart (started es)
started_is_start es = record { past = refl; changes = refl; firm = first_firm 0 es }
