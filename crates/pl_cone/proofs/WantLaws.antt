-- What the libraries of a table want, by rows and by names, and where they go.
use Rattle.std.proofs.Common.{◌≡◌, ℕ, zero, suc, ◌+◌, ◌<◌, Bool, true, false, cond, List, [], ◌∷◌, length, map, take, Option, Some, None, Result, Ok, Err, refl, sym, ap, subst, ◌∙◌, arith, inl, inr}
use Rattle.std.specs.Prelude.{IfSome, nat_lt, position, slice_get, if◌then◌else◌}
use Rattle.std.specs.List.{All, AllByRecursion, IsDistinct, cons_option, filter_map, range_with_len}
use Rattle.std.specs.Option.{option_map}
use Rattle.std.specs.Str.{bytes_eq}
use Rattle.std.proofs.lemmas.Bool.{cases_Bool}
use Rattle.std.proofs.lemmas.Bool.Decides.{nat_tests}
use Rattle.std.proofs.lemmas.List.{length-take}
use Rattle.std.proofs.lemmas.Simd.{map-map}
use Rattle.std.proofs.lemmas.List.Recursion.{is_position_or_len}
use Rattle.std.proofs.lemmas.Option.{none-some, same_Some, slice_get_within}
use Rattle.pl_base.specs.Answers.{because}
use Rattle.pl_base.proofs.MemoryLaws.{All-filter_map}
use Rattle.pl_conflict.specs.Format.{format}
use Rattle.pl_elf.specs.Kinds.{is_library}
use Rattle.pl_elf.specs.declared.range.Range.{Range}
use Rattle.pl_form.specs.declared.file.Entry.{Entry}
use Rattle.pl_form.specs.declared.file.Entry.TheVariants.{There, BadMark, Refused}
use Rattle.pl_object.specs.declared.object.Object.{Object}
use Rattle.pl_scope.specs.Members.{names}
use Rattle.pl_scope.specs.Scope.{IsAccepted}
use Rattle.pl_scope.specs.Walk.{Walked}
use Rattle.pl_scope.proofs.NameLaws.{eq_flip, eq_refl}
use Rattle.pl_share.specs.Disjoint.{disjoint}
use Rattle.pl_share.specs.Shared.{plan_shared}
use Rattle.pl_slots.specs.Plan.{plan}
use Rattle.pl_slots.specs.declared.slot.Slot.{Slot}
use Rattle.pl_slots.specs.declared.slot.Want.{Want}
use Rattle.law_sound.specs.Rule.{members, names_of, objects}
use Rattle.pl_cone.specs.Faulted.{of_plan}
use Rattle.pl_cone.specs.Needs.{object_for}
use Rattle.pl_cone.specs.Plans as plans
use Rattle.pl_cone.specs.Plans.{position_of, slot_of, want_of}
use Rattle.pl_cone.specs.Skipped.{skip_causes}
use Rattle.pl_cone.specs.Slots.{HaveWantedNames, count_before, is_there, joined, object_told, position_at, position_if, positions, positions_in, table_slots, start_at, table_walks, want_at, want_in, table_wants}
use Rattle.pl_cone.specs.Table.{IsRunTable, is_candidate_row, names_by, rows_in, walk_of, walked_by}
use Rattle.pl_cone.specs.Taken as files
use Rattle.pl_cone.specs.Taken.{files_in, object_by}
use Rattle.pl_cone.specs.declared.planning.Asked.{Asked}
use Rattle.pl_cone.specs.declared.skip.Skip.{Skip}
use Rattle.pl_cone.specs.declared.table.RunTable.{RunTable}
use Rattle.pl_cone.specs.declared.taken.Taken.{Taken}
use Rattle.pl_cone.proofs.AlignLaws.{aligned, spanned}
use Rattle.pl_cone.proofs.CurrencyLaws.{HasRows, all_by_index, candidate_row, candidate_rows, column_at}
use Rattle.pl_cone.proofs.MembersLaws.{HasMember, has_member_at, walked_cons}
use Rattle.pl_cone.proofs.NumberLaws.{given_kept, given_rows, kept_rows, map_kept, map_rows}
use Rattle.pl_cone.proofs.RowLaws.{IsRow, row_is}

-- ---- the first place of a list

abbrev place : {X : Type 0} → (X → Bool) → List X → ℕ
place p [] = 0
place p (x ∷ xs) = cond (p x) 0 (suc (place p xs))

place_more : {X : Type 0} (p : X → Bool) (x : X) (xs : List X) → place p (x ∷ xs) ≡ cond (p x) 0 (1 + place p xs)
place_more p x xs = let more : suc (place p xs) ≡ 1 + place p xs = omega arith in ap (λ (n : ℕ). cond (p x) 0 n) more

position_is : {X : Type 0} (p : X → Bool) (xs : List X) → position p xs ≡ cond (nat_lt (place p xs) (length xs)) (Some (place p xs)) None
position_is p xs = ap (λ (n : ℕ). cond (nat_lt n (length xs)) (Some n) None) (sym (is_position_or_len (place p) p refl (place_more p) xs))

position_here : {X : Type 0} (p : X → Bool) (x : X) (xs : List X) → p x ≡ true → position p (x ∷ xs) ≡ Some 0
position_here p x xs on =
    position_is p (x ∷ xs)
    ∙ (ap (λ (n : ℕ). cond (nat_lt n (length (x ∷ xs))) (Some n) None) (ap (λ (b : Bool). cond b 0 (suc (place p xs))) on)
    ∙ ap (λ (b : Bool). cond b (Some 0) None) (some_left (length xs)))
  where
    some_left : (n : ℕ) → nat_lt 0 (suc n) ≡ true
    some_left n = grind (arith, nat_tests)

less_suc : (a b : ℕ) → nat_lt (suc a) (suc b) ≡ nat_lt a b
less_suc a b = grind (arith, nat_tests)

under : (a b : ℕ) (c : Bool) → nat_lt a b ≡ c → cond (nat_lt (suc a) (suc b)) (Some (suc a)) None ≡ option_map suc (cond (nat_lt a b) (Some a) None)
under a b true is = rw (less_suc a b, is) refl
under a b false is = rw (less_suc a b, is) refl

position_past : {X : Type 0} (p : X → Bool) (x : X) (xs : List X) → p x ≡ false → position p (x ∷ xs) ≡ option_map suc (position p xs)
position_past p x xs off =
    position_is p (x ∷ xs)
    ∙ (rw off (under (place p xs) (length xs) (nat_lt (place p xs) (length xs)) refl)
    ∙ ap (option_map suc) (sym (position_is p xs)))

-- ---- what one file wants

want_of_entry : (n : List ℕ) (e : Entry) → want_of n (object_for n e) ≡ object_told n (object_by e)
want_of_entry n (There file) = refl
want_of_entry n BadMark = refl
want_of_entry n (Refused number argument) = refl

-- where its name may be prelinked
abbrev pub want_by : Range → List Taken → Taken → Option Want
want_by region ts x = if plans.is_candidate (files_in ts) region x.name then want_of x.name (objects (format skip_causes) (files_in ts) x.name) else None

by_kind : (n : List ℕ) (o : Object) (b : Bool) (w : Want) → (if b then Some (record { name = n; span = o.span; align = o.align }) else None) ≡ Some w → w.name ≡ n
by_kind n o true w is = ap (λ (v : Want). v.name) (sym (same_Some _ w is))
by_kind n o false w is = absurd (none-some w is)

want_named : (n : List ℕ) (r : Result Object Skip) (w : Want) → want_of n r ≡ Some w → w.name ≡ n
want_named n (Ok o) w is = by_kind n o (is_library o.kind) w is
want_named n (Err e) w is = absurd (none-some w is)

by_candidate : (b : Bool) (n : List ℕ) (r : Result Object Skip) (w : Want) → (if b then want_of n r else None) ≡ Some w → w.name ≡ n
by_candidate true n r w is = want_named n r w is
by_candidate false n r w is = absurd (none-some w is)

want_name : (region : Range) (ts : List Taken) (x : Taken) (w : Want) → want_by region ts x ≡ Some w → w.name ≡ x.name
want_name region ts x w is = by_candidate (plans.is_candidate (files_in ts) region x.name) x.name (objects (format skip_causes) (files_in ts) x.name) w is

-- ---- the position of a want

-- of files of which some want slots, each under its name
module _ (g : Taken → Option Want) (named : (x : Taken) (w : Want) → g x ≡ Some w → w.name ≡ x.name) where
  abbrev find_name : List ℕ → Want → Bool
  find_name n w = bytes_eq w.name n

  past_one : (n : List ℕ) (y : Taken) (rest : List Want) (x : Option Want) → g y ≡ x → bytes_eq y.name n ≡ false → position (find_name n) (cons_option x rest) ≡ (if is_there x then option_map suc (position (find_name n) rest) else position (find_name n) rest)
  past_one n y rest None is other = refl
  past_one n y rest (Some w) is other = position_past (find_name n) w rest (ap (λ (m : List ℕ). bytes_eq m n) (named y w is) ∙ other)

  by_there : (b : Bool) → (if b then option_map {U = ℕ} suc None else None) ≡ None
  by_there true = refl
  by_there false = refl

  absent : (n : List ℕ) (ts : List Taken) → AllByRecursion (λ m. bytes_eq n m ≡ false) (files.names_of ts) → position (find_name n) (filter_map g ts) ≡ None
  absent n [] others = position_is (find_name n) []
  absent n (y ∷ ts) others =
      past_one n y (filter_map g ts) (g y) refl (eq_flip y.name n ∙ others.0)
      ∙ (ap (λ (p : Option ℕ). if is_there (g y) then option_map suc p else p) (absent n ts others.1) ∙ by_there (is_there (g y)))

  first_one : (y : Taken) (ts : List Taken) (x : Option Want) → g y ≡ x → AllByRecursion (λ m. bytes_eq y.name m ≡ false) (files.names_of ts) → position (find_name y.name) (cons_option x (filter_map g ts)) ≡ position_if (is_there x) 0
  first_one y ts None is others = absent y.name ts others
  first_one y ts (Some w) is others = position_here (find_name y.name) w (filter_map g ts) (ap (λ (m : List ℕ). bytes_eq m y.name) (named y w is) ∙ eq_refl y.name)

  one_later : (b : Bool) (k : ℕ) (w : Option Want) (before : List Want) → k ≡ length before → (if is_there w then option_map suc (position_if b k) else position_if b k) ≡ position_if b (length (cons_option w before))
  one_later true k None before same = ap (λ (n : ℕ). Some n) same
  one_later false k None before same = refl
  one_later true k (Some w) before same = ap (λ (n : ℕ). Some (suc n)) same
  one_later false k (Some w) before same = refl

  differ_at : (n : List ℕ) (ts : List Taken) (i : ℕ) (x : Taken) → AllByRecursion (λ m. bytes_eq n m ≡ false) (files.names_of ts) → slice_get ts i ≡ Some x → bytes_eq n x.name ≡ false
  differ_at n [] i x others at = absurd (none-some x at)
  differ_at n (y ∷ ts) zero x others at = ap (λ (z : Taken). bytes_eq n z.name) (sym (same_Some y x at)) ∙ others.0
  differ_at n (y ∷ ts) (suc i) x others at = differ_at n ts i x others.1 at

  pub positioned : (ts : List Taken) (i : ℕ) (x : Taken) → IsDistinct bytes_eq (files.names_of ts) → slice_get ts i ≡ Some x → position (find_name x.name) (filter_map g ts) ≡ position_if (is_there (g x)) (length (filter_map g (take i ts)))
  unfolding IsDistinct
  positioned [] i x distinct at = absurd (none-some x at)
  positioned (y ∷ ts) zero x distinct at =
      let same : y ≡ x = same_Some y x at in
      subst (λ (z : Taken). position (find_name z.name) (filter_map g (y ∷ ts)) ≡ position_if (is_there (g z)) 0) same (first_one y ts (g y) refl distinct.0)
  positioned (y ∷ ts) (suc i) x distinct at =
      past_one x.name y (filter_map g ts) (g y) refl (differ_at y.name ts i x distinct.0 at)
      ∙ (ap (λ (p : Option ℕ). if is_there (g y) then option_map suc p else p) (positioned ts i x distinct.1 at)
      ∙ one_later (is_there (g x)) (length (filter_map g (take i ts))) (g y) (filter_map g (take i ts)) refl)

take_at : (ts : List Taken) (n i : ℕ) (x : Taken) → slice_get (take n ts) i ≡ Some x → slice_get ts i ≡ Some x
take_at [] zero i x at = at
take_at [] (suc n) i x at = at
take_at (y ∷ ts) zero i x at = absurd (none-some x at)
take_at (y ∷ ts) (suc n) zero x at = at
take_at (y ∷ ts) (suc n) (suc i) x at = take_at ts n i x at

plus_none : (i : ℕ) → 0 + i ≡ i
plus_none i = omega arith

-- ---- the columns

module _ (region : Range) (t : RunTable) (is : IsRunTable region t) where
  abbrev ts : List Taken
  ts = t.files.now

  abbrev cands : List (List ℕ)
  cands = plans.candidates (files_in ts) region (files.names_of ts)

  want_row : (i k : ℕ) (x : Taken) → slice_get ts i ≡ Some x → k ≡ 0 + i → want_at t k ≡ want_by region ts x
  want_row i k x at same =
      let row : IsRow region ts x = row_is region ts i x is.taken at in
      ap (want_at t) (same ∙ plus_none i)
      ∙ (ap (λ (b : Bool). if b then want_in (slice_get ts i) else None) (candidate_row region t i x is at)
      ∙ (ap (λ (y : Option Taken). if plans.is_candidate (files_in ts) region x.name then want_in y else None) at
      ∙ ap (λ (w : Option Want). if plans.is_candidate (files_in ts) region x.name then w else None) (sym (want_of_entry x.name x.entry) ∙ ap (want_of x.name) (sym row.object))))

  wants_by : table_wants t ≡ filter_map (want_by region ts) ts
  wants_by = given_rows (want_at t) (want_by region ts) ts 0 want_row

  pub wants_are : table_wants t ≡ plans.wants (files_in ts) cands
  wants_are = wants_by ∙ sym (given_kept (λ (x : Taken). x.name) (plans.is_candidate (files_in ts) region) (λ (n : List ℕ). want_of n (objects (format skip_causes) (files_in ts) n)) ts)

  count_is : (i : ℕ) (x : Taken) → slice_get ts i ≡ Some x → count_before t i ≡ length (filter_map (want_by region ts) (take i ts))
  count_is i x at =
      let size : length (take i ts) ≡ i = omega (arith, length-take i ts, slice_get_within ts i x at) in
      ap (λ (n : ℕ). length (filter_map (want_at t) (range_with_len 0 n))) (sym size)
      ∙ ap (λ (ws : List Want). length ws) (given_rows (want_at t) (want_by region ts) (take i ts) 0 (λ j k y here same. want_row j k y (take_at ts i j y here) same))

  -- the position of a row's want is that of its name
  pub position_row : (i : ℕ) (x : Taken) → slice_get ts i ≡ Some x → position_at t i ≡ position_of (table_wants t) x.name
  position_row i x at =
      ap (λ (w : Option Want). position_if (is_there w) (count_before t i)) (want_row i i x at (sym (plus_none i)))
      ∙ (ap (position_if (is_there (want_by region ts x))) (count_is i x at)
      ∙ (sym (positioned (want_by region ts) (want_name region ts) ts i x is.taken.distinct at)
      ∙ ap (λ (ws : List Want). position_of ws x.name) (sym wants_by)))

  joined_row : (i : ℕ) (x : Taken) → slice_get ts i ≡ Some x → joined (slice_get (positions t) i) ≡ position_of (table_wants t) x.name
  joined_row i x at = ap joined (column_at (position_at t) (length ts) i (slice_get_within ts i x at)) ∙ position_row i x at

  rows_given : (rows : List ℕ) → length (walked_by ts rows) ≡ length rows → positions_in (positions t) rows ≡ filter_map (position_of (table_wants t)) (names_by ts rows)
  rows_given [] each = refl
  rows_given (r ∷ rows) each =
      let h : HasMember ts (r ∷ rows) 0 r = has_member_at ts (r ∷ rows) 0 r each refl in
      let walked : walked_by ts (r ∷ rows) ≡ (h.taken.name, h.object) ∷ walked_by ts rows = walked_cons ts r rows h.taken h.object h.file h.is in
      let size : length (walked_by ts (r ∷ rows)) ≡ suc (length (walked_by ts rows)) = ap length walked in
      let rest : length (walked_by ts rows) ≡ length rows = omega (arith, each, size) in
      ap (λ (p : Option ℕ). cons_option p (positions_in (positions t) rows)) (joined_row r h.taken h.file)
      ∙ (ap (λ (ps : List ℕ). cons_option (position_of (table_wants t) h.taken.name) ps) (rows_given rows rest)
      ∙ sym (ap (λ (ws : Walked). filter_map (position_of (table_wants t)) (names ws)) walked))

  walk_row : (i k : ℕ) (x : Taken) → slice_get ts i ≡ Some x → k ≡ 0 + i → plans.is_candidate (files_in ts) region x.name ≡ true → positions_in (positions t) (walk_of t k) ≡ filter_map (position_of (table_wants t)) (members (format skip_causes) (files_in ts) x.name)
  walk_row i k x at same on =
      let h : HasRows t i x = candidate_rows region t i x is at on in
      ap (λ (j : ℕ). positions_in (positions t) (walk_of t j)) (same ∙ plus_none i)
      ∙ (ap (λ (rs : Option (List ℕ)). positions_in (positions t) (rows_in rs)) h.walk
      ∙ (rows_given h.rows h.are.each
      ∙ ap (λ (r : Result Walked Skip). filter_map (position_of (table_wants t)) (names_of r)) (sym h.told)))

  pub walks_are : table_walks t ≡ plans.walks (files_in ts) (table_wants t) cands
  walks_are =
      kept_rows (is_candidate_row t) (λ (x : Taken). plans.is_candidate (files_in ts) region x.name) (λ (row : ℕ). positions_in (positions t) (walk_of t row)) (λ (x : Taken). filter_map (position_of (table_wants t)) (members (format skip_causes) (files_in ts) x.name)) ts 0
      (λ i k x at same. ap (is_candidate_row t) (same ∙ plus_none i) ∙ candidate_row region t i x is at) walk_row
      ∙ sym (map_kept (λ (x : Taken). x.name) (plans.is_candidate (files_in ts) region) (λ (n : List ℕ). filter_map (position_of (table_wants t)) (members (format skip_causes) (files_in ts) n)) ts)

  -- ---- what is wanted

  fits_kind : (P : Want → Type 0) (n : List ℕ) (o : Object) (b : Bool) → (b ≡ true → P (record { name = n; span = o.span; align = o.align })) → IfSome (if b then Some (record { name = n; span = o.span; align = o.align }) else None) P
  fits_kind P n o true holds = holds refl
  fits_kind P n o false holds = tt

  fits_object : (P : Want → Type 0) (n : List ℕ) (x : Option Object) → ((o : Object) → x ≡ Some o → is_library o.kind ≡ true → P (record { name = n; span = o.span; align = o.align })) → IfSome (object_told n x) P
  fits_object P n None holds = tt
  fits_object P n (Some o) holds = fits_kind P n o (is_library o.kind) (λ on. holds o refl on)

  fits_candidate : (P : Want → Type 0) (b : Bool) (w : Option Want) → IfSome w P → IfSome (if b then w else None) P
  fits_candidate P true w holds = holds
  fits_candidate P false w holds = tt

  fits_file : (P : Want → Type 0) → ((n : List ℕ) (o : Object) → IsAccepted o → is_library o.kind ≡ true → P (record { name = n; span = o.span; align = o.align })) → (i : ℕ) (x : Taken) → slice_get ts i ≡ Some x → IfSome (want_by region ts x) P
  fits_file P holds i x at =
      let row : IsRow region ts x = row_is region ts i x is.taken at in
      fits_candidate P (plans.is_candidate (files_in ts) region x.name) (want_of x.name (objects (format skip_causes) (files_in ts) x.name))
      (subst (λ (w : Option Want). IfSome w P) (sym (ap (want_of x.name) row.object ∙ want_of_entry x.name x.entry)) (fits_object P x.name (object_by x.entry) (λ o there library. holds x.name o (row.accepted o there) library)))

  fit_all : (P : Want → Type 0) → ((n : List ℕ) (o : Object) → IsAccepted o → is_library o.kind ≡ true → P (record { name = n; span = o.span; align = o.align })) → All P (table_wants t)
  fit_all P holds =
      subst (λ (ws : List Want). All P ws) (sym wants_by) (All-filter_map P (want_by region ts) ts (all_by_index (λ (x : Taken). IfSome (want_by region ts x) P) ts (fits_file P holds)))

  pub wants_aligned : All (λ w. 0 < w.align) (table_wants t)
  wants_aligned = fit_all (λ (w : Want). 0 < w.align) (λ n o accepted library. aligned o accepted)

  pub wants_spanned : All (λ w. 0 < w.span) (table_wants t)
  wants_spanned = fit_all (λ (w : Want). 0 < w.span) (λ n o accepted library. spanned o accepted library)

-- ---- where they go

later_start : (s : Slot) (slots : List Slot) (p : Option ℕ) → start_at (s ∷ slots) (option_map suc p) ≡ start_at slots p
later_start s slots None = refl
later_start s slots (Some k) = refl

pub start_is : (ws : List Want) (slots : List Slot) (n : List ℕ) → HaveWantedNames ws slots → start_at slots (position_of ws n) ≡ slot_of slots n
unfolding slot_of
start_is [] [] n same = ap (start_at []) (position_is (λ (w : Want). bytes_eq w.name n) [])
start_is [] (s ∷ slots) n same = absurd cc
start_is (w ∷ ws) [] n same = absurd cc
start_is (w ∷ ws) (s ∷ slots) n same =
    let name : s.name ≡ w.name = cc in
    let rest : HaveWantedNames ws slots = cc in
    elim (cases_Bool (bytes_eq w.name n)) [
      | inl hit ↦
          let found : bytes_eq s.name n ≡ true = ap (λ (m : List ℕ). bytes_eq m n) name ∙ hit in
          ap (start_at (s ∷ slots)) (position_here (λ (v : Want). bytes_eq v.name n) w ws hit) ∙ rw found refl
      | inr miss ↦
          let past : bytes_eq s.name n ≡ false = ap (λ (m : List ℕ). bytes_eq m n) name ∙ miss in
          ap (start_at (s ∷ slots)) (position_past (λ (v : Want). bytes_eq v.name n) w ws miss)
          ∙ (later_start s slots (position_of ws n) ∙ rw past (start_is ws slots n rest))
    ]

-- the places of rows are those of their names' slots
pub places_are : (region : Range) (t : RunTable) (slots : List Slot) → IsRunTable region t → HaveWantedNames (table_wants t) slots → map (start_at slots) (positions t) ≡ map (λ x. slot_of slots x.name) t.files.now
places_are region t slots is have =
    map-map (start_at slots) (position_at t) (range_with_len 0 (length t.files.now))
    ∙ map_rows (λ (row : ℕ). start_at slots (position_at t row)) (λ (x : Taken). slot_of slots x.name) t.files.now 0 (λ i k x at same.
    ap (λ (j : ℕ). start_at slots (position_at t j)) (same ∙ plus_none i) ∙ (ap (start_at slots) (position_row region t is i x at) ∙ start_is (table_wants t) slots x.name have))

-- the slots of a table are those that are planned for its files
pub slots_are : (a : Asked) (t : RunTable) → IsRunTable a.region t → table_slots t a ≡ plans.slots (files_in t.files.now) (files.names_of t.files.now) a
unfolding plans.slots_of
slots_are a t is =
    let ns : List (List ℕ) = plans.candidates (files_in t.files.now) a.region (files.names_of t.files.now) in
    ap (λ (rows : List (List ℕ)). because of_plan (if a.share then plan_shared a.rows.now (table_wants t) rows a.region else plan (disjoint a.rows.now (table_wants t) a.region) (table_wants t) a.region)) (walks_are a.region t is)
    ∙ ap (λ (ws : List Want). because of_plan (if a.share then plan_shared a.rows.now ws (plans.walks (files_in t.files.now) ws ns) a.region else plan (disjoint a.rows.now ws a.region) ws a.region)) (wants_are a.region t is)
