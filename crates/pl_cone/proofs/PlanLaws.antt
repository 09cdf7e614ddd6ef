-- A plan by the rows of a table is the one of its files.
use Rattle.std.proofs.Common.{◌≡◌, ℕ, Bool, true, false, List, [], ◌∷◌, length, map, Option, Some, None, Result, Ok, Err, refl, sym, ap, ◌∙◌}
use Rattle.std.specs.Prelude.{MatchBool, ⊤, slice_get, if◌then◌else◌}
use Rattle.std.specs.Option.{option_map}
use Rattle.std.proofs.lemmas.List.{length-map}
use Rattle.std.proofs.lemmas.List.FromFn.{length-map-range_with_len}
use Rattle.std.proofs.lemmas.Option.{same_Some, slice_get-map, slice_get_within}
use Rattle.pl_base.specs.Answers.{◌>>=◌, Answers, AnswersAs, because}
use Rattle.pl_elf.specs.Kinds.{is_library}
use Rattle.pl_elf.specs.declared.range.Range.{Range}
use Rattle.pl_form.specs.declared.file.Entry.{Entry}
use Rattle.pl_form.specs.declared.file.Entry.TheVariants.{There, BadMark, Refused}
use Rattle.pl_object.specs.declared.object.Object.{Object}
use Rattle.pl_slots.specs.declared.slot.Slot.{Slot}
use Rattle.pl_slots.specs.declared.slot.Want.{Want}
use Rattle.pl_cone.specs.Currency.{held_rows, run_stamp, stale_at, stale_rows, stamps_of}
use Rattle.pl_cone.specs.Faulted.{is_memory, of_cone}
use Rattle.pl_cone.specs.Plans as plans
use Rattle.pl_cone.specs.Plans.{RunPlan, Standing, cause_of, is_stale, planned, slot_of, standing, standings, want_of}
use Rattle.pl_cone.specs.Skipped.{skip_of}
use Rattle.pl_cone.specs.Skips.{stops_memory}
use Rattle.pl_cone.specs.Slots.{HaveWantedNames, count_before, is_there, object_told, position_at, position_if, positions, table_slots, start_at, want_in, table_wants}
use Rattle.pl_cone.specs.Table.{IsPlan, IsRunTable, is_candidate_row, names_where, planned_by, standings_by}
use Rattle.pl_cone.specs.Taken as files
use Rattle.pl_cone.specs.Taken.{files_in, is_library_entry, object_by, object_of}
use Rattle.pl_cone.specs.declared.planning.Asked.{Asked}
use Rattle.pl_cone.specs.declared.skip.PlanningFault.{PlanningFault}
use Rattle.pl_cone.specs.declared.skip.ConeFault.{ConeFault}
use Rattle.pl_cone.specs.declared.skip.ConeFault.TheVariants as cone
use Rattle.pl_cone.specs.declared.skip.Skip.{Skip}
use Rattle.pl_cone.specs.declared.table.RunTable.{RunTable}
use Rattle.pl_cone.specs.declared.taken.Taken.{Taken}
use Rattle.pl_cone.proofs.CurrencyLaws.{column_at, names_flagged, stale_column, stamp_is, stamps_are}
use Rattle.pl_cone.proofs.WantLaws.{places_are, slots_are}

-- ---- how names stand

abbrev of_cause : List ℕ → Option Skip → Standing
of_cause n cause = record { name = n; cause = cause }

standings_with : (g : Taken → Option Skip) (f : List ℕ → Standing) → ((x : Taken) → of_cause x.name (g x) ≡ f x.name) → (ts : List Taken) → standings_by ts (map g ts) ≡ map f (files.names_of ts)
unfolding standings_by
standings_with g f same [] = refl
standings_with g f same (x ∷ ts) = ap (λ (s : Standing). s ∷ standings_by ts (map g ts)) (same x) ∙ ap (λ (ss : List Standing). f x.name ∷ ss) (standings_with g f same ts)

pub standings_are : (region : Range) (t : RunTable) → IsRunTable region t → standings_by t.files.now t.causes ≡ standings (files_in t.files.now) region (files.names_of t.files.now)
standings_are region t is =
    ap (standings_by t.files.now) is.causes
    ∙ standings_with (λ (x : Taken). cause_of (skip_of (files_in t.files.now) region x.name)) (standing (files_in t.files.now) region) (λ x. refl) t.files.now

-- ---- the whole

abbrev with_stamp : Asked → List Taken → List Slot → ℕ → Result RunPlan PlanningFault
with_stamp a ts slots stamp = Ok (record { standings = standings (files_in ts) a.region (files.names_of ts); slots = slots; stale = plans.stale (files_in ts) a.region slots (files.names_of ts); stamp = stamp })

abbrev with_slots : Asked → List Taken → List Slot → Result RunPlan PlanningFault
with_slots a ts slots = plans.stamp_for (files_in ts) (files.names_of ts) a (plans.stale (files_in ts) a.region slots (files.names_of ts)) >>= λ stamp. with_stamp a ts slots stamp

-- no slot is left
pub plan_stops : (a : Asked) (t : RunTable) (e : PlanningFault) → IsRunTable a.region t → table_slots t a ≡ Err e → planned (files_in t.files.now) (files.names_of t.files.now) a ≡ Err e
unfolding planned
plan_stops a t e is none = ap (λ (r : Result (List Slot) PlanningFault). r >>= with_slots a t.files.now) (sym (slots_are a t is) ∙ none)

plan_with : (a : Asked) (t : RunTable) (slots : List Slot) → IsRunTable a.region t → table_slots t a ≡ Ok slots → planned (files_in t.files.now) (files.names_of t.files.now) a ≡ with_slots a t.files.now slots
unfolding planned
plan_with a t slots is there = ap (λ (r : Result (List Slot) PlanningFault). r >>= with_slots a t.files.now) (sym (slots_are a t is) ∙ there)

-- the same, or a want of memory
stops_with : (a : Asked) (t : RunTable) (e : PlanningFault) (b : Bool) → IsRunTable a.region t → MatchBool b ⊤ (table_slots t a ≡ Err e) → MatchBool b ⊤ (planned (files_in t.files.now) (files.names_of t.files.now) a ≡ Err e)
stops_with a t e true is answer = tt
stops_with a t e false is answer = plan_stops a t e is answer

pub slots_stop : (a : Asked) (t : RunTable) (e : PlanningFault) → IsRunTable a.region t → Answers is_memory (Err e) (table_slots t a) → AnswersAs (planned_by t) is_memory (Err e) (planned (files_in t.files.now) (files.names_of t.files.now) a)
slots_stop a t e is answer = stops_with a t e (is_memory e) is answer

pub places_long : (t : RunTable) (slots : List Slot) (places : List ℕ) → places ≡ map (start_at slots) (positions t) → length places ≡ length t.files.now
places_long t slots places is = ap length is ∙ (length-map (positions t) (start_at slots) ∙ length-map-range_with_len (position_at t) 0 (length t.files.now))

pub stale_long : (t : RunTable) (places : List ℕ) (stale : List Bool) → stale ≡ stale_rows t places → length stale ≡ length t.files.now
stale_long t places stale is = ap length is ∙ length-map-range_with_len (stale_at t (held_rows t places)) 0 (length t.files.now)

-- ---- what is no library has no slot

no_library : (n : List ℕ) (o : Object) → is_library o.kind ≡ false → want_of n (Ok o) ≡ None
no_library n o out = rw out refl

none_wanted : (n : List ℕ) (e : Entry) → is_library_entry e ≡ false → object_told n (object_by e) ≡ None
none_wanted n (There file) out = no_library n (object_of file) out
none_wanted n BadMark out = refl
none_wanted n (Refused number argument) out = refl

want_if : (b : Bool) (want : Option Want) → want ≡ None → (if b then want else None) ≡ None
want_if true want is = is
want_if false want is = refl

no_want : (t : RunTable) (row : ℕ) (x : Taken) → slice_get t.files.now row ≡ Some x → is_library_entry x.entry ≡ false → position_at t row ≡ None
no_want t row x at out =
    ap (λ (want : Option Want). position_if (is_there want) (count_before t row)) (want_if (is_candidate_row t row) (want_in (slice_get t.files.now row)) (ap want_in at ∙ none_wanted x.name x.entry out))

pub no_slot : (region : Range) (t : RunTable) (slots : List Slot) (row : ℕ) (x : Taken) → IsRunTable region t → HaveWantedNames (table_wants t) slots → slice_get t.files.now row ≡ Some x → is_library_entry x.entry ≡ false → slot_of slots x.name ≡ 0
no_slot region t slots row x is named at out =
    let ts : List Taken = t.files.now in
    let by_name : slice_get (map (λ (y : Taken). slot_of slots y.name) ts) row ≡ Some (slot_of slots x.name) = slice_get-map (λ (y : Taken). slot_of slots y.name) ts row ∙ ap (option_map (λ (y : Taken). slot_of slots y.name)) at in
    let by_row : slice_get (map (start_at slots) (positions t)) row ≡ Some (start_at slots (position_at t row)) =
    slice_get-map (start_at slots) (positions t) row ∙ ap (option_map (start_at slots)) (column_at (position_at t) (length ts) row (slice_get_within ts row x at)) in
    let same : slice_get (map (start_at slots) (positions t)) row ≡ slice_get (map (λ (y : Taken). slot_of slots y.name) ts) row = ap (λ (ps : List ℕ). slice_get ps row) (places_are region t slots is named) in
    same_Some (slot_of slots x.name) (start_at slots (position_at t row)) (sym by_name ∙ (sym same ∙ by_row)) ∙ ap (start_at slots) (no_want t row x at out)

-- what is planned where libraries have slots, each row its place
pub record Follows (a : Asked) (t : RunTable) (slots : List Slot) (places : List ℕ) (stale : List Bool) : Type 0 where
  pub table : IsRunTable a.region t
  pub given : table_slots t a ≡ Ok slots
  pub named : HaveWantedNames (table_wants t) slots
  pub laid : places ≡ map (start_at slots) (positions t)
  pub flagged : stale ≡ stale_rows t places

module _ (a : Asked) (t : RunTable) (slots : List Slot) (places : List ℕ) (stale : List Bool) (is : Follows a t slots places stale) where
  abbrev ts : List Taken
  ts = t.files.now

  pub placed : places ≡ map (λ x. slot_of slots x.name) ts
  placed = is.laid ∙ places_are a.region t slots is.table is.named

  pub flags : stale ≡ map (λ x. is_stale (files_in ts) a.region slots x.name) ts
  flags = is.flagged ∙ stale_column a.region t slots places is.table placed

  pub stale_names : names_where ts stale ≡ plans.stale (files_in ts) a.region slots (files.names_of ts)
  stale_names = ap (names_where ts) flags ∙ names_flagged (is_stale (files_in ts) a.region slots) ts

  stamp_for : because of_cone (run_stamp ts stale a.last a.moment) ≡ plans.stamp_for (files_in ts) (files.names_of ts) a (plans.stale (files_in ts) a.region slots (files.names_of ts))
  stamp_for = ap (λ (flags : List Bool). because of_cone (run_stamp ts flags a.last a.moment)) flags ∙ stamp_is a ts (is_stale (files_in ts) a.region slots) is.table.taken

  -- no stamp is left
  pub stamp_stops : (e : ConeFault) → run_stamp ts stale a.last a.moment ≡ Err e → planned (files_in ts) (files.names_of ts) a ≡ Err (of_cone e)
  stamp_stops e none =
      plan_with a t slots is.table is.given
      ∙ ap (λ (r : Result ℕ PlanningFault). r >>= with_stamp a ts slots) (sym stamp_for ∙ ap (because of_cone) none)

  pub stamp_stop : (e : ConeFault) → Answers stops_memory (Err e) (run_stamp ts stale a.last a.moment) → AnswersAs (planned_by t) is_memory (Err (of_cone e)) (planned (files_in ts) (files.names_of ts) a)
  stamp_stop (cone.StampsSpent stamp) answer = stamp_stops (cone.StampsSpent stamp) answer
  stamp_stop cone.NoMemory answer = tt

  pub all_planned : (stamp : ℕ) (stamps : List ℕ) → run_stamp ts stale a.last a.moment ≡ Ok stamp
      → planned (files_in ts) (files.names_of ts) a ≡ Ok (planned_by t (record { slots = slots; places = places; stale = stale; stamps = stamps; stamp = stamp }))
  all_planned stamp stamps there =
      plan_with a t slots is.table is.given
      ∙ (ap (λ (r : Result ℕ PlanningFault). r >>= with_stamp a ts slots) (sym stamp_for ∙ ap (because of_cone) there)
      ∙ (ap (λ (ss : List Standing). Ok (record { standings = ss; slots = slots; stale = plans.stale (files_in ts) a.region slots (files.names_of ts); stamp = stamp })) (sym (standings_are a.region t is.table))
      ∙ ap (λ (ns : List (List ℕ)). Ok (record { standings = standings_by ts t.causes; slots = slots; stale = ns; stamp = stamp })) (sym stale_names)))

  pub rows_planned : (stamp : ℕ) (stamps : List ℕ) → stamps ≡ stamps_of ts stale stamp → IsPlan t a (record { slots = slots; places = places; stale = stale; stamps = stamps; stamp = stamp })
  rows_planned stamp stamps same = record {
    places = placed;
    programs = λ row x at out. no_slot a.region t slots row x is.table is.named at out;
    stale = flags;
    stamps = same ∙ (ap (λ (bs : List Bool). stamps_of ts bs stamp) flags ∙ stamps_are a.region ts slots stamp is.table.taken);
  }
