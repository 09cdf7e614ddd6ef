-- Whether a name may be prelinked, and what a run rewrites, by the columns of a table.
use Rattle.std.proofs.Common.{◌≡◌, ℕ, ◌<◌, Bool, true, false, List, [], ◌∷◌, length, map, Option, Some, None, Result, Ok, Err, refl, sym, ap, ◌∙◌, arith}
use Rattle.std.specs.Prelude.{MatchBool, ⊤, ◌==◌, find, filter, not, slice_get, if◌then◌else◌}
use Rattle.std.specs.List.{list_any}
use Rattle.std.specs.Option.{option_map}
use Rattle.std.specs.Str.{bytes_eq}
use Rattle.pl_base.specs.Answers.{◌>>=◌, Answers}
use Rattle.pl_conflict.specs.Format.{format}
use Rattle.pl_elf.specs.declared.range.Range.{Range}
use Rattle.pl_scope.specs.Walk.{begun}
use Rattle.pl_scope.proofs.WalkLaws.{walk_begins, walk_lacks}
use Rattle.pl_scope.proofs.WalkedLaws.{limit_is}
use Rattle.pl_slots.specs.declared.slot.Slot.{Slot}
use Rattle.law_sound.specs.Rule.{objects, object_at}
use Rattle.pl_cone.specs.Calls.{caused, caused_at, cone, places_of, stale_of, stamp_of}
use Rattle.pl_cone.specs.Currency.{greatest_of_files, run_stamp, stale_rows}
use Rattle.pl_cone.specs.Plans.{cause_of, is_stale, stamp_after}
use Rattle.pl_cone.specs.Skipped.{skip_causes, skip_of}
use Rattle.pl_cone.specs.Skips.{of_walk}
use Rattle.pl_cone.specs.Table.{IsRunTable, names_where, walk_for}
use Rattle.pl_cone.specs.Taken as files
use Rattle.pl_cone.specs.Taken.{AreTaken, files_in}
use Rattle.pl_cone.specs.declared.calls.Cone.{Cone}
use Rattle.pl_cone.specs.declared.skip.ConeFault.{ConeFault}
use Rattle.pl_cone.specs.declared.skip.Skip.{Skip}
use Rattle.pl_cone.specs.declared.skip.Skip.TheVariants as skips
use Rattle.pl_cone.specs.declared.table.RunTable.{RunTable}
use Rattle.pl_cone.specs.declared.taken.Taken.{Taken}
use Rattle.pl_cone.proofs.CurrencyLaws.{any_flagged, cause_at, greatest_is, names_flagged, stale_column}
use Rattle.pl_cone.proofs.StandLaws.{cause_refused}

-- ---- one name

-- without a file there is no walk
absent_walk : (ts : List Taken) (n : List ℕ) → find (λ t. bytes_eq t.name n) ts ≡ None → walk_for ts n ≡ Err (skips.NotThere n)
unfolding files_in
absent_walk ts n none =
    let gone : objects (format skip_causes) (files_in ts) n ≡ Err (skips.NotThere n) = ap (λ (t : Option Taken). object_at (format skip_causes) n (option_map (λ (x : Taken). x.bytes) t)) none in
    walk_lacks of_walk (objects (format skip_causes) (files_in ts)) n [] (begun n) n (skips.NotThere n) (omega (arith, limit_is)) refl gone (walk_begins of_walk (objects (format skip_causes) (files_in ts)) n)

pub absent_skip : (region : Range) (ts : List Taken) (n : List ℕ) → AreTaken region ts → find (λ t. bytes_eq t.name n) ts ≡ None → skip_of (files_in ts) region n ≡ Err (skips.NotThere n)
absent_skip region ts n taken none = cause_refused region ts n (skips.NotThere n) taken (absent_walk ts n none)

cause_back : (r : Result (Unit {0}) Skip) → caused (Some (cause_of r)) ≡ r
cause_back (Ok u) = refl
cause_back (Err e) = refl

-- the cause of a row is that of its name
pub row_skip : (region : Range) (t : RunTable) (row : ℕ) (x : Taken) → IsRunTable region t → slice_get t.files.now row ≡ Some x → caused_at t row ≡ skip_of (files_in t.files.now) region x.name
row_skip region t row x is at = ap caused (cause_at region t row x is at) ∙ cause_back (skip_of (files_in t.files.now) region x.name)

by_memory : {X E : Type 0} (b : Bool) (e : E) (meant : Result X E) → meant ≡ Err e → MatchBool b ⊤ (meant ≡ Err e)
by_memory true e meant is = tt
by_memory false e meant is = is

-- an answer that is meant
pub answers_meant : {X E : Type 0} (m : E → Bool) (result meant : Result X E) → meant ≡ result → Answers m result meant
answers_meant m (Ok x) meant is = is
answers_meant m (Err e) meant is = by_memory (m e) e meant is

-- ---- a run at given slots

by_any : (b : Bool) (last : ℕ) (r : Result ℕ ConeFault) → (if b then r else Ok last) ≡ (if not b then Ok last else r)
by_any true last r = refl
by_any false last r = refl

pub cone_stamp : (region : Range) (t : RunTable) (slots : List Slot) (places : List ℕ) (last now : ℕ) → IsRunTable region t → places ≡ places_of slots t.files.now
    → run_stamp t.files.now (stale_rows t places) last now ≡ stamp_of t (stale_of region t slots) last now
cone_stamp region t slots places last now is placed =
    let ts : List Taken = t.files.now in
    let p : List ℕ → Bool = is_stale (files_in ts) region slots in
    ap (λ (flags : List Bool). run_stamp ts flags last now) (stale_column region t slots places is placed)
    ∙ (by_any (list_any (λ b. b) (map (λ x. p x.name) ts)) last (stamp_after (greatest_of_files last ts) now)
    ∙ (ap (λ (b : Bool). if b then Ok last else stamp_after (greatest_of_files last ts) now) (sym (any_flagged p ts))
    ∙ ap (λ (most : ℕ). if length (filter p (files.names_of ts)) == 0 then Ok last else stamp_after most now) (greatest_is region ts last is.taken)))

pub cone_names : (region : Range) (t : RunTable) (slots : List Slot) (places : List ℕ) → IsRunTable region t → places ≡ places_of slots t.files.now → names_where t.files.now (stale_rows t places) ≡ stale_of region t slots
cone_names region t slots places is placed =
    ap (names_where t.files.now) (stale_column region t slots places is placed) ∙ names_flagged (is_stale (files_in t.files.now) region slots) t.files.now

abbrev cone_with : List (List ℕ) → ℕ → Result Cone ConeFault
cone_with stale stamp = Ok (record { stale = stale; stamp = stamp })

-- the stamp that is given, with the stale names
pub cone_is : (region : Range) (t : RunTable) (slots : List Slot) (last now stamp : ℕ) → stamp_of t (stale_of region t slots) last now ≡ Ok stamp → cone region t slots last now ≡ Ok (record { stale = stale_of region t slots; stamp = stamp })
cone_is region t slots last now stamp is = ap (λ (r : Result ℕ ConeFault). r >>= λ s. cone_with (stale_of region t slots) s) is

pub cone_stops : (region : Range) (t : RunTable) (slots : List Slot) (last now : ℕ) (e : ConeFault) → stamp_of t (stale_of region t slots) last now ≡ Err e → cone region t slots last now ≡ Err e
cone_stops region t slots last now e is = ap (λ (r : Result ℕ ConeFault). r >>= λ s. cone_with (stale_of region t slots) s) is
