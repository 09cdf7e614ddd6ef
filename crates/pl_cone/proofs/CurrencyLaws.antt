-- Stale rows and their stamps, by rows and by names.
use Rattle.std.proofs.Common.{◌≡◌, ℕ, zero, suc, ◌+◌, ◌<◌, Bool, true, false, List, [], ◌∷◌, length, map, Option, Some, None, Result, Ok, Err, refl, sym, ap, ◌∙◌, arith, inl, inr}
use Rattle.std.specs.Prelude.{◌&&◌, ◌==◌, not, filter, max, slice_get, slice_index, if◌then◌else◌}
use Rattle.std.specs.List.{All, list_all, list_any, range_with_len}
use Rattle.std.specs.Option.{option_map}
use Rattle.std.specs.Result.{is_ok}
use Rattle.std.proofs.lemmas.Bool.Decides.{nat_tests}
use Rattle.std.proofs.lemmas.List.Elements.{All-nil, All-cons}
use Rattle.std.proofs.lemmas.List.Folds.{fold-map}
use Rattle.std.proofs.lemmas.List.FromFn.{length-map-range_with_len, get_or-map-range_with_len}
use Rattle.std.proofs.lemmas.Option.{none-some, same_Some, slice_get_cases, slice_get_within, slice_get-get_or, slice_get-map}
use Rattle.pl_base.specs.Answers.{◌>>=◌, because}
use Rattle.pl_conflict.specs.Format.{format, mark_of, row_of_list}
use Rattle.pl_elf.specs.declared.range.Range.{Range}
use Rattle.pl_form.specs.declared.file.Marked as form
use Rattle.pl_scope.specs.Members.{names}
use Rattle.pl_scope.specs.Walk.{Walked}
use Rattle.pl_slots.specs.declared.slot.Slot.{Slot}
use Rattle.law_sound.specs.Plan as sound
use Rattle.law_sound.specs.Plan.{is_library_at}
use Rattle.law_sound.specs.Rule.{Row, mark_at, matches, members, names_of, stamp_of}
use Rattle.pl_cone.specs.Currency.{all_held, is_held, stamps_of, greatest_of_files, greatest_by, greatest_of_file, held_at, held_rows, is_held_row, is_set, next_stamp_of_file, run_stamp, stale_at, stale_rows, stamp_at, stamp_by, stamp_in}
use Rattle.pl_cone.specs.Candidates.{fit}
use Rattle.pl_cone.specs.Faulted.{of_cone}
use Rattle.pl_cone.specs.Plans as plans
use Rattle.pl_cone.specs.Plans.{cause_of, is_stale, slot_of, stamp_after, stale}
use Rattle.pl_cone.specs.Skipped.{skip_causes, skip_of}
use Rattle.pl_cone.specs.Table.{faults_of, AreRows, IsRunTable, has_no_cause, is_candidate_row, names_by, names_where, rows_in, walk_for, walk_of, walked_by}
use Rattle.pl_cone.specs.Taken as files
use Rattle.pl_cone.specs.Taken.{AreTaken, files_in, is_library_entry, marked_by}
use Rattle.pl_cone.specs.declared.planning.Asked.{Asked}
use Rattle.pl_cone.specs.declared.skip.ConeFault.{ConeFault}
use Rattle.pl_cone.specs.declared.skip.Skip.{Skip}
use Rattle.pl_cone.specs.declared.table.RunTable.{RunTable}
use Rattle.pl_cone.specs.declared.taken.Taken.{Taken}
use Rattle.pl_cone.proofs.CandidateLaws.{candidate_is}
use Rattle.pl_cone.proofs.HeldLaws.{held_is, library_at}
use Rattle.pl_cone.proofs.ListLaws.{fold_same}
use Rattle.pl_cone.proofs.MembersLaws.{HasMember, has_member_at, walked_cons}
use Rattle.pl_cone.proofs.NumberLaws.{map_rows}
use Rattle.pl_cone.proofs.RowLaws.{IsRow, row_is}
use Rattle.pl_cone.proofs.StandLaws.{skip_is}
use Rattle.pl_cone.proofs.WalkLaws.{rows_told, walk_first}

-- ---- columns

-- a column by numbers
pub column_at : {X : Type 0} (f : ℕ → X) (count r : ℕ) → r < count → slice_get (map f (range_with_len 0 count)) r ≡ Some (f r)
column_at f count r lt =
    slice_get-get_or (map f (range_with_len 0 count)) r (f r) (rw (length-map-range_with_len f 0 count) lt)
    ∙ ap (λ x. Some x) (get_or-map-range_with_len f 0 count r r (f r) lt (omega arith))

index_map : (g : Taken → ℕ) (ts : List Taken) (r : ℕ) (t : Taken) → slice_get ts r ≡ Some t → slice_index (map g ts) r ≡ g t
index_map g [] r t at = absurd (none-some t at)
index_map g (x ∷ ts) zero t at = ap g (same_Some x t at)
index_map g (x ∷ ts) (suc r) t at = index_map g ts r t at

-- ---- candidates

no_cause : (r : Result (Unit {0}) Skip) → has_no_cause (Some (cause_of r)) ≡ is_ok r
no_cause (Ok u) = refl
no_cause (Err e) = refl

pub cause_at : (region : Range) (t : RunTable) (row : ℕ) (x : Taken) → IsRunTable region t → slice_get t.files.now row ≡ Some x → slice_get t.causes row ≡ Some (cause_of (skip_of (files_in t.files.now) region x.name))
cause_at region t row x is at =
    ap (λ (cs : List (Option Skip)). slice_get cs row) is.causes
    ∙ (slice_get-map (λ (y : Taken). cause_of (skip_of (files_in t.files.now) region y.name)) t.files.now row
    ∙ ap (option_map (λ (y : Taken). cause_of (skip_of (files_in t.files.now) region y.name))) at)

-- a row may be prelinked where its name may
pub candidate_row : (region : Range) (t : RunTable) (row : ℕ) (x : Taken) → IsRunTable region t → slice_get t.files.now row ≡ Some x → is_candidate_row t row ≡ plans.is_candidate (files_in t.files.now) region x.name
candidate_row region t row x is at =
    ap has_no_cause (cause_at region t row x is at) ∙ (no_cause (skip_of (files_in t.files.now) region x.name) ∙ sym (candidate_is region (files_in t.files.now) x.name))

-- ---- the walk of a row that may be prelinked

pub record HasRows (t : RunTable) (row : ℕ) (x : Taken) : Type 0 where
  pub rows : List ℕ
  pub walk : slice_get t.walks row ≡ Some rows
  pub are : AreRows t.files.now rows
  pub told : walk_for t.files.now x.name ≡ Ok (walked_by t.files.now rows)

fit_walk : (r : Result Walked Skip) (k : Walked → Result (Unit {0}) Skip) → is_ok (r >>= k) ≡ true → (ws : Walked) × (r ≡ Ok ws)
fit_walk (Ok ws) k is = (ws, refl)
fit_walk (Err e) k is = absurd cc

pub candidate_rows : (region : Range) (t : RunTable) (row : ℕ) (x : Taken) → IsRunTable region t → slice_get t.files.now row ≡ Some x → plans.is_candidate (files_in t.files.now) region x.name ≡ true → HasRows t row x
candidate_rows region t row x is at on =
    let ok : is_ok (walk_for t.files.now x.name >>= fit (faults_of t.files.now) x.name) ≡ true =
    ap (λ (r : Result (Unit {0}) Skip). is_ok r) (sym (skip_is region t.files.now x.name is.taken)) ∙ (sym (candidate_is region (files_in t.files.now) x.name) ∙ on) in
    let walk = fit_walk (walk_for t.files.now x.name) (fit (faults_of t.files.now) x.name) ok in
    elim (slice_get_cases t.walks row).1 [
      | inl p ↦
          let told = rows_told t.files.now t.walks row x p.0 walk.0 is.walks at p.2 walk.1 in
          record { rows = p.0; walk = p.2; are = told.0; told = told.1 }
      | inr none ↦ absurd (omega (arith, none.0, is.walks.walks, slice_get_within t.files.now row x at))
    ]

-- ---- tests of all members of a walk

rows_all : (p : ℕ → Bool) (q : List ℕ → Bool) (ts : List Taken) (rows : List ℕ) → length (walked_by ts rows) ≡ length rows → ((r : ℕ) (t : Taken) → slice_get ts r ≡ Some t → p r ≡ q t.name) → list_all p rows ≡ list_all q (names_by ts rows)
rows_all p q ts [] each same = refl
rows_all p q ts (r ∷ rows) each same =
    let h : HasMember ts (r ∷ rows) 0 r = has_member_at ts (r ∷ rows) 0 r each refl in
    let walked : walked_by ts (r ∷ rows) ≡ (h.taken.name, h.object) ∷ walked_by ts rows = walked_cons ts r rows h.taken h.object h.file h.is in
    let size : length (walked_by ts (r ∷ rows)) ≡ suc (length (walked_by ts rows)) = ap length walked in
    let rest : length (walked_by ts rows) ≡ length rows = omega (arith, each, size) in
    ap (λ (b : Bool). b && list_all p rows) (same r h.taken h.file)
    ∙ (ap (λ (b : Bool). q h.taken.name && b) (rows_all p q ts rows rest same)
    ∙ sym (ap (λ (ws : Walked). list_all q (names ws)) walked))

-- a test that is among others need not stand before them
absorbed : (a b c : Bool) → (a && ((a && b) && c)) ≡ ((a && b) && c)
absorbed true b c = refl
absorbed false b c = refl

first_among : (ts : List Taken) (slots : List ℕ → ℕ) (n : List ℕ) (ws : Walked) → walk_for ts n ≡ Ok ws
    → (matches (format skip_causes) (files_in ts) n && list_all (sound.is_held (format skip_causes) (files_in ts) slots) (names ws)) ≡ list_all (sound.is_held (format skip_causes) (files_in ts) slots) (names ws)
first_among ts slots n ws is =
    let f = files_in ts in
    let i = walk_first ts n ws is in
    let rest : Bool = list_all (sound.is_held (format skip_causes) f slots) (names i.rest) in
    let one : list_all (sound.is_held (format skip_causes) f slots) (names ws) ≡ (sound.is_held (format skip_causes) f slots n && rest) = ap (λ (vs : Walked). list_all (sound.is_held (format skip_causes) f slots) (names vs)) i.is in
    ap (λ (b : Bool). matches (format skip_causes) f n && b) one
    ∙ (absorbed (matches (format skip_causes) f n) (sound.is_present (format skip_causes) f n && sound.at_slot (format skip_causes) f slots n) rest ∙ sym one)

-- ---- stale rows

module _ (region : Range) (t : RunTable) (slots : List Slot) (places : List ℕ) (is : IsRunTable region t) (placed : places ≡ map (λ x. slot_of slots x.name) t.files.now) where
  abbrev ts : List Taken
  ts = t.files.now

  held_row : (r : ℕ) (x : Taken) → slice_get ts r ≡ Some x → is_held_row (held_rows t places) r ≡ sound.is_held (format skip_causes) (files_in ts) (slot_of slots) x.name
  held_row r x at = elim (slice_get_cases t.walks r).1 [
    | inl p ↦
        let place : slice_index places r ≡ slot_of slots x.name = ap (λ (ps : List ℕ). slice_index ps r) placed ∙ index_map (λ (y : Taken). slot_of slots y.name) ts r x at in
        ap is_set (column_at (held_at t places) (length ts) r (slice_get_within ts r x at))
        ∙ (ap (λ (rs : List ℕ). is_held ts rs (slice_index places r)) (ap rows_in p.2)
        ∙ (ap (is_held ts p.0) place
        ∙ sym (held_is region ts t.walks is.taken is.walks (slot_of slots) r x p.0 at p.2)))
    | inr none ↦ absurd (omega (arith, none.0, is.walks.walks, slice_get_within ts r x at))
  ]

  walk_held : (row : ℕ) (x : Taken) → HasRows t row x → all_held (held_rows t places) (walk_of t row) ≡ (matches (format skip_causes) (files_in ts) x.name && list_all (sound.is_held (format skip_causes) (files_in ts) (slot_of slots)) (members (format skip_causes) (files_in ts) x.name))
  walk_held row x h =
      let holds : List ℕ → Bool = sound.is_held (format skip_causes) (files_in ts) (slot_of slots) in
      ap (all_held (held_rows t places)) (ap rows_in h.walk)
      ∙ (rows_all (is_held_row (held_rows t places)) holds ts h.rows h.are.each held_row
      ∙ (sym (first_among ts (slot_of slots) x.name (walked_by ts h.rows) h.told)
      ∙ ap (λ (r : Result Walked Skip). matches (format skip_causes) (files_in ts) x.name && list_all holds (names_of r)) (sym h.told)))

  by_candidate : (n : List ℕ) (b : Bool) → plans.is_candidate (files_in ts) region n ≡ b
      → is_stale (files_in ts) region slots n ≡ (b && not (b && (matches (format skip_causes) (files_in ts) n && list_all (sound.is_held (format skip_causes) (files_in ts) (slot_of slots)) (members (format skip_causes) (files_in ts) n))))
  by_candidate n b on = ap (λ (c : Bool). c && not (c && (matches (format skip_causes) (files_in ts) n && list_all (sound.is_held (format skip_causes) (files_in ts) (slot_of slots)) (members (format skip_causes) (files_in ts) n)))) on

  by_test : (row : ℕ) (x : Taken) → slice_get ts row ≡ Some x → (b : Bool) → plans.is_candidate (files_in ts) region x.name ≡ b → (b && not (all_held (held_rows t places) (walk_of t row))) ≡ is_stale (files_in ts) region slots x.name
  by_test row x at false on = sym (by_candidate x.name false on)
  by_test row x at true on =
      let h : HasRows t row x = candidate_rows region t row x is at on in
      ap not (walk_held row x h) ∙ sym (by_candidate x.name true on)

  pub stale_is : (row : ℕ) (x : Taken) → slice_get ts row ≡ Some x → stale_at t (held_rows t places) row ≡ is_stale (files_in ts) region slots x.name
  stale_is row x at =
      ap (λ (b : Bool). b && not (all_held (held_rows t places) (walk_of t row))) (candidate_row region t row x is at)
      ∙ by_test row x at (plans.is_candidate (files_in ts) region x.name) refl

  -- the stale rows are those of the stale names
  pub stale_column : stale_rows t places ≡ map (λ x. is_stale (files_in ts) region slots x.name) ts
  stale_column = map_rows (stale_at t (held_rows t places)) (λ (x : Taken). is_stale (files_in ts) region slots x.name) ts 0 (λ i k x at same. ap (λ (j : ℕ). stale_at t (held_rows t places) j) (same ∙ plus_none i) ∙ stale_is i x at)
    where
      plus_none : (i : ℕ) → 0 + i ≡ i
      plus_none i = omega arith

-- ---- names that are flagged

flagged_step : (p : List ℕ → Bool) (x : Taken) (xs : List Taken) → names_where xs (map (λ y. p y.name) xs) ≡ filter p (files.names_of xs) → (b : Bool) → p x.name ≡ b → names_where (x ∷ xs) (map (λ y. p y.name) (x ∷ xs)) ≡ filter p (files.names_of (x ∷ xs))
unfolding names_where
flagged_step p x xs rest true on = rw on (ap (λ (ns : List (List ℕ)). x.name ∷ ns) rest)
flagged_step p x xs rest false on = rw on rest

pub names_flagged : (p : List ℕ → Bool) (xs : List Taken) → names_where xs (map (λ x. p x.name) xs) ≡ filter p (files.names_of xs)
unfolding names_where
names_flagged p [] = refl
names_flagged p (x ∷ xs) = flagged_step p x xs (names_flagged p xs) (p x.name) refl

any_step : (p : List ℕ → Bool) (x : Taken) (xs : List Taken) → (length (filter p (files.names_of xs)) == 0) ≡ not (list_any (λ b. b) (map (λ y. p y.name) xs)) → (b : Bool) → p x.name ≡ b
    → (length (filter p (files.names_of (x ∷ xs))) == 0) ≡ not (list_any (λ c. c) (map (λ y. p y.name) (x ∷ xs)))
any_step p x xs rest true on = rw on (some_left (length (filter p (files.names_of xs))))
  where
    some_left : (n : ℕ) → (suc n == 0) ≡ false
    some_left n = grind (arith, nat_tests)
any_step p x xs rest false on = rw on rest

pub any_flagged : (p : List ℕ → Bool) (xs : List Taken) → (length (filter p (files.names_of xs)) == 0) ≡ not (list_any (λ b. b) (map (λ x. p x.name) xs))
any_flagged p [] = refl
any_flagged p (x ∷ xs) = any_step p x xs (any_flagged p xs) (p x.name) refl

-- ---- the stamp of a run

pub all_by_index : {X : Type 0} (P : X → Type 0) (xs : List X) → ((i : ℕ) (x : X) → slice_get xs i ≡ Some x → P x) → All P xs
all_by_index P [] each = All-nil P
all_by_index P (x ∷ xs) each = All-cons P x xs (each 0 x refl) (all_by_index P xs (λ i y at. each (suc i) y at))

greatest_seen : (k : Option form.Marked) → greatest_by k ≡ plans.greatest_of (option_map mark_of k)
greatest_seen None = refl
greatest_seen (Some m) = sym (fold-map (λ (most : ℕ) (r : Row). max most r.stamp) row_of_list m.stamp m.list)

greatest_row : (region : Range) (ts : List Taken) → AreTaken region ts → (i : ℕ) (x : Taken) → slice_get ts i ≡ Some x → greatest_of_file x ≡ plans.greatest_of (mark_at (format skip_causes) (files_in ts x.name))
greatest_row region ts taken i x at = greatest_seen (marked_by x.entry) ∙ sym (ap plans.greatest_of (row_is region ts i x taken at).mark)

pub greatest_is : (region : Range) (ts : List Taken) (last : ℕ) → AreTaken region ts → greatest_of_files last ts ≡ plans.greatest (files_in ts) last (files.names_of ts)
unfolding plans.greatest
greatest_is region ts last taken =
    let meant : Taken → ℕ = λ x. plans.greatest_of (mark_at (format skip_causes) (files_in ts x.name)) in
    fold_same greatest_of_file meant ts last (all_by_index (λ (x : Taken). greatest_of_file x ≡ meant x) ts (greatest_row region ts taken))
    ∙ sym (fold-map (λ (most : ℕ) (n : List ℕ). max most (plans.greatest_of (mark_at (format skip_causes) (files_in ts n)))) (λ (x : Taken). x.name) last ts)

by_any : (b : Bool) (last : ℕ) (r : Result ℕ ConeFault) → because of_cone (if b then r else Ok last) ≡ (if not b then Ok last else because of_cone r)
by_any true last r = refl
by_any false last r = refl

-- that of the stale names
pub stamp_is : (a : Asked) (ts : List Taken) (p : List ℕ → Bool) → AreTaken a.region ts → because of_cone (run_stamp ts (map (λ x. p x.name) ts) a.last a.moment) ≡ plans.stamp_for (files_in ts) (files.names_of ts) a (filter p (files.names_of ts))
unfolding plans.stamp_for
stamp_is a ts p taken =
    by_any (list_any (λ b. b) (map (λ x. p x.name) ts)) a.last (stamp_after (greatest_of_files a.last ts) a.moment)
    ∙ (ap (λ (b : Bool). if b then Ok a.last else because of_cone (stamp_after (greatest_of_files a.last ts) a.moment)) (sym (any_flagged p ts))
    ∙ ap (λ (most : ℕ). if length (filter p (files.names_of ts)) == 0 then Ok a.last else because of_cone (stamp_after most a.moment)) (greatest_is a.region ts a.last taken))

-- ---- the stamps of rows

stamp_seen : (k : Option form.Marked) → stamp_by k ≡ stamp_of (option_map mark_of k)
stamp_seen None = refl
stamp_seen (Some m) = refl

pub stamps_are : (region : Range) (ts : List Taken) (slots : List Slot) (stamp : ℕ) → AreTaken region ts
    → stamps_of ts (map (λ x. is_stale (files_in ts) region slots x.name) ts) stamp ≡ map (λ x. plans.next_stamp (files_in ts) region slots stamp x.name) ts
unfolding plans.next_stamp
stamps_are region ts slots stamp taken =
    map_rows (stamp_at ts flags stamp) (λ (x : Taken). plans.next_stamp (files_in ts) region slots stamp x.name) ts 0 (λ i k x at same. ap (λ (j : ℕ). stamp_at ts flags stamp j) (same ∙ plus_none i) ∙ one i x at)
  where
    flags : List Bool
    flags = map (λ x. is_stale (files_in ts) region slots x.name) ts

    plus_none : (i : ℕ) → 0 + i ≡ i
    plus_none i = omega arith

    one : (i : ℕ) (x : Taken) → slice_get ts i ≡ Some x → stamp_at ts flags stamp i ≡ plans.next_stamp (files_in ts) region slots stamp x.name
    one i x at =
        let row : IsRow region ts x = row_is region ts i x taken at in
        let stale : Bool = is_stale (files_in ts) region slots x.name in
        let flag : slice_get flags i ≡ Some stale = slice_get-map (λ (y : Taken). is_stale (files_in ts) region slots y.name) ts i ∙ ap (option_map (λ (y : Taken). is_stale (files_in ts) region slots y.name)) at in
        ap (λ (y : Option Taken). stamp_in y (is_set (slice_get flags i)) stamp) at
        ∙ (ap (λ (b : Option Bool). next_stamp_of_file x (is_set b) stamp) flag
        ∙ (ap (λ (old : ℕ). if is_library_entry x.entry then if stale then stamp else old else 0) (stamp_seen (marked_by x.entry) ∙ sym (ap stamp_of row.mark))
        ∙ ap (λ (b : Bool). if b then if stale then stamp else stamp_of (mark_at (format skip_causes) (files_in ts x.name)) else 0) (sym (ap is_library_at row.object ∙ library_at x.name x.entry))))
