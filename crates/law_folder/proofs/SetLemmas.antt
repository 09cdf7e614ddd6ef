-- The libraries of a program that can be prelinked can be prelinked.
use Rattle.std.proofs.Common.{◌≡◌, ℕ, ◌+◌, ◌*◌, ◌≤◌, Bool, true, false, List, [], ◌∷◌, ◌++◌, map, length, Option, Some, None, Ok, refl, sym, ap, subst, ◌∙◌, arith, inl, inr, length-append}
use Rattle.std.specs.Prelude.{◌&&◌, nat_lt, not, if◌then◌else◌}
use Rattle.std.specs.List.{All, AllByRecursion, AllZip, IsDistinct, flat_map, list_all, list_any}
use Rattle.std.specs.Str.{bytes_eq}
use Rattle.std.proofs.lemmas.Bool.{and_from, and_parts, false≢true, or_from, or_parts}
use Rattle.std.proofs.lemmas.List.{length-map}
use Rattle.std.proofs.lemmas.List.Elements.{All-nil, All-cons, All-head, All-tail}
use Rattle.std.proofs.lemmas.Option.{none-some, same_Some}
use Rattle.pl_base.specs.Names.{is_valid_name}
use Rattle.pl_base.specs.Pairs.{any_pair}
use Rattle.pl_base.specs.Windows.{Window, any_share, share}
use Rattle.pl_base.specs.declared.names.TheConstants.{MAX_NAME}
use Rattle.pl_base.proofs.AnswerLaws.{ok_same}
use Rattle.pl_base.proofs.NameLaws.{valid_length}
use Rattle.pl_base.proofs.WordLaws.{length_bytes32}
use Rattle.pl_conflict.specs.Format.{Causes, format}
use Rattle.pl_conflict.specs.Prelinked as prelinked
use Rattle.pl_conflict.specs.Prelinked.{Firm, are_set, firm_of, has_numbers, library_file, list_of, list_row, load_window, version_of, windows_of, with_object}
use Rattle.pl_conflict.proofs.FormatLaws.{read_is}
use Rattle.pl_conflict.proofs.MadeLaws.{library_file_is, library_flat, library_wanted}
use Rattle.pl_conflict.proofs.MemberLaws.{HasOwn, IsSet, library_numbers, member_firm}
use Rattle.pl_elf.specs.Headers.{loads}
use Rattle.pl_elf.specs.Kinds.{is_library}
use Rattle.pl_form.specs.Files.{are_bytes, original_in}
use Rattle.pl_form.specs.Library.{library_with, most_bytes}
use Rattle.pl_form.specs.Reading.{firm_object}
use Rattle.pl_form.specs.declared.constants.TheConstants.{STORED}
use Rattle.pl_form.proofs.AlignLaws.{align_even, slot_even}
use Rattle.pl_form.proofs.KeptLaws.{library_most_with}
use Rattle.pl_form.proofs.LengthLaws.{accepted_small}
use Rattle.pl_lists.specs.Lists.{after, is_row, list_bytes, list_strings, row_bytes}
use Rattle.pl_lists.specs.declared.list_row.ListRow.{ListRow}
use Rattle.pl_object.specs.Reads.{reads}
use Rattle.pl_object.specs.declared.object.Object.{Object}
use Rattle.pl_form.specs.Back.{when}
use Rattle.pl_rewrite.specs.Forms.{has_valid_name}
use Rattle.pl_rewrite.specs.Sources.{AreSources, members, member_names}
use Rattle.pl_rewrite.proofs.ListLaws.{set_tests}
use Rattle.pl_rewrite.proofs.ProgramLaws.{stored_small}
use Rattle.pl_rewrite.proofs.WholeLaws.{file_library, prelinked_set}
use Rattle.pl_scope.specs.Members.{has, names}
use Rattle.pl_scope.specs.Walk.{Walked}
use Rattle.pl_scope.specs.declared.constants.TheConstants.{MAX_MEMBERS}
use Rattle.pl_scope.proofs.NameLaws.{eq_refl, has_cons}
use Rattle.pl_scope.proofs.WalkedLaws.{limit_is}
use Rattle.law_sound.specs.Plan.{Plan, planned_member}
use Rattle.law_sound.specs.Rule.{Files, Member, object_at, objects, original_at}

-- of the pairs of some more windows none meets
pub tail_apart : (xs ys : List Window) → any_share (xs ++ ys) ≡ false → any_share ys ≡ false
tail_apart [] ys apart = apart
tail_apart (x ∷ xs) ys apart = tail_apart xs ys (or_parts (list_any (share x) (xs ++ ys)) (any_pair share (xs ++ ys)) apart).1

flip : (a b c d : Bool) → (a && b && c && d) ≡ (b && a && d && c)
flip true true true true = refl
flip true true true false = refl
flip true true false true = refl
flip true true false false = refl
flip true false c d = refl
flip false true c d = refl
flip false false c d = refl

share_flip : (v w : Window) → share v w ≡ share w v
share_flip v w = flip (nat_lt v.at (w.at + w.size)) (nat_lt w.at (v.at + v.size)) (nat_lt 0 v.size) (nat_lt 0 w.size)

-- ---- a firm is its member with an object

firm_is : (m : Member) (r : Firm) → firm_of m ≡ Some r → r ≡ record { member = m; object = r.object }
firm_is m r e = by_object (when (are_bytes m.original) (firm_object m.original)) e
  where
    by_object : (o : Option Object) → with_object m o ≡ Some r → r ≡ record { member = m; object = r.object }
    by_object None is = absurd (none-some r is)
    by_object (Some x) is = subst (λ (t : Firm). t ≡ record { member = m; object = t.object }) (same_Some (record { member = m; object = x }) r is) refl

-- ---- how long the form of a library is

row_length : (start : ℕ) (row : ListRow) → length (row_bytes start row) ≡ 20
unfolding row_bytes
row_length start row = simp (length-append, length_bytes32) refl

rows_length : (at : ℕ) (rows : List ListRow) → length (list_bytes at rows) ≡ 20 * length rows
unfolding list_bytes
rows_length at [] = refl
rows_length at (row ∷ rows) = length-append (row_bytes at row) (list_bytes (after at row) rows) ∙ omega (arith, row_length at row, rows_length (after at row) rows)

most_is : MAX_NAME ≡ 255
most_is = refl

stored_is : STORED ≡ 268435456
stored_is = refl

strings_none : length (list_strings []) ≡ 0
unfolding list_strings
strings_none = refl

strings_more : (row : ListRow) (rows : List ListRow) → list_strings (row ∷ rows) ≡ (row.name ++ 0 ∷ []) ++ list_strings rows
unfolding list_strings
strings_more row rows = refl

strings_short : (rs : List Firm) → list_all has_valid_name rs ≡ true → length (list_strings (list_of rs)) ≤ 256 * length rs
strings_short [] valid = omega (arith, strings_none)
strings_short (r ∷ rs) valid =
    let p = and_parts (has_valid_name r) (list_all has_valid_name rs) valid in
    let name : length r.member.name ≤ MAX_NAME = (valid_length r.member.name p.0).1 in
    let front = length-append (r.member.name ++ 0 ∷ []) (list_strings (list_of rs)) in
    let ended = length-append r.member.name (0 ∷ []) in
    let step = ap length (strings_more (list_row r) (list_of rs)) in
    omega (arith, step, front, ended, name, most_is, strings_short rs p.1)

-- a library's prelinked file is one that a folder stores
library_stored : (r : Firm) (rs : List Firm) → HasOwn r → has_numbers r ≡ true → is_library r.object.kind ≡ true → list_all has_valid_name rs ≡ true → length rs ≤ MAX_MEMBERS → length (library_file (r ∷ rs)) ≤ STORED
library_stored r rs own numbers library valid few =
    let n = library_numbers r numbers library in
    let list = list_of rs in
    let strings : length (list_strings list) ≤ 256 * length rs = strings_short rs valid in
    let count : length list ≡ length rs = length-map rs list_row in
    let rows : length (list_bytes 1 list) ≡ 20 * length list = rows_length 1 list in
    let most : length (library_with r.member.original r.member.slot r.member.stamp list (library_flat r rs) (version_of r.member.version)) ≤ most_bytes r.member.original list =
    library_most_with r.member.original r.object r.member.slot r.member.stamp list (library_flat r rs) (version_of r.member.version) own.firm library (library_wanted r rs own)
    (record { below = omega (arith, n.below); even = slot_even r.member.slot r.object.align (align_even r.member.original r.object own.firm.accepted) n.aligned })
    (record { strings = omega (arith, strings, few, limit_is); rows = omega (arith, rows, count, few, limit_is) }) in
    let small : length r.member.original ≤ 67108864 = accepted_small r.member.original r.object own.firm.accepted in
    let is = ap length (library_file_is r rs) in
    omega (arith, is, most, small, strings, count, few, limit_is, stored_is)

-- ---- members of a folder's walk

module _ {E : Type 0} (causes : Causes E) (old : Files) (plan : Plan) where
  abbrev pub planned : List ℕ → Member
  planned = planned_member (format causes) old plan

  -- a member of a walk, with its original's object
  abbrev pub firm_for : List ℕ × Object → Firm
  firm_for m = record { member = planned m.0; object = m.1 }

  -- what it takes up where it is a library
  abbrev pub window_for : List ℕ × Object → Window
  window_for m = record { at = (planned m.0).slot; size = m.1.span }

  abbrev pub HasObject : List ℕ × Object → Type 0
  HasObject m = objects (format causes) old m.0 ≡ Ok m.1

  abbrev pub AreFirms : Walked → List Firm → Type 0
  AreFirms ms rs = AllZip (λ m r. firm_of m ≡ Some r) (map planned (names ms)) rs

  same_object : (k : List ℕ) (o : Object) (r : Firm) → objects (format causes) old k ≡ Ok o → firm_of (planned k) ≡ Some r → r.object ≡ o
  same_object k o r is firm =
      let made = member_firm (planned k) r firm in
      let read : reads (planned k).original ≡ Ok r.object = subst (λ (m : Member). reads m.original ≡ Ok r.object) made.is made.own.firm.accepted in
      by_file (old k) is read
    where
      by_file : (g : Option (List ℕ)) → object_at (format causes) k g ≡ Ok o → reads (original_at (format causes) g) ≡ Ok r.object → r.object ≡ o
      by_file None e read = absurd cc
      by_file (Some file) e read = ok_same r.object o (sym read ∙ read_is causes k (original_in file) o e)

  abbrev firm_with : List ℕ → Object → Firm
  firm_with k o = record { member = planned k; object = o }

  firm_same : (m : List ℕ × Object) (r : Firm) → HasObject m → firm_of (planned m.0) ≡ Some r → r ≡ firm_for m
  firm_same m r is firm = firm_is (planned m.0) r firm ∙ ap (firm_with m.0) (same_object m.0 m.1 r is firm)

  pub firms_are : (ms : Walked) (rs : List Firm) → All HasObject ms → AreFirms ms rs → rs ≡ map firm_for ms
  firms_are [] [] have firms = refl
  firms_are [] (r ∷ rs) have firms = absurd firms
  firms_are (m ∷ ms) [] have firms = absurd firms
  firms_are (m ∷ ms) (r ∷ rs) have firms =
      ap (λ (t : Firm). t ∷ rs) (firm_same m r (All-head HasObject m ms have) firms.0) ∙ ap (λ (ts : List Firm). firm_for m ∷ ts) (firms_are ms rs (All-tail HasObject m ms have) firms.1)

  -- ---- the libraries of a walk

  -- a library that has a form, at its numbers, under a valid name
  pub record IsFine (m : List ℕ × Object) : Type 0 where
    pub firm : firm_of (planned m.0) ≡ Some (firm_for m)
    pub numbers : has_numbers (firm_for m) ≡ true
    pub valid : is_valid_name m.0 ≡ true
    pub library : is_library m.1.kind ≡ true

  abbrev pub HasLibrary : List ℕ × Object → Type 0
  HasLibrary m = is_library m.1.kind ≡ true

  row_valid : (m : List ℕ × Object) → is_row (list_row (firm_for m)) ≡ true → is_valid_name m.0 ≡ true
  unfolding is_row
  row_valid m e = (and_parts (is_valid_name m.0) _ (and_parts _ _ e).0).0

  all_fine : (ms : Walked) → AreFirms ms (map firm_for ms) → All HasLibrary ms → list_all has_numbers (map firm_for ms) ≡ true → list_all is_row (list_of (map firm_for ms)) ≡ true → AllByRecursion IsFine ms
  all_fine [] firms libraries numbers rows = tt
  all_fine (m ∷ ms) firms libraries numbers rows =
      let n = and_parts (has_numbers (firm_for m)) (list_all has_numbers (map firm_for ms)) numbers in
      let r = and_parts (is_row (list_row (firm_for m))) (list_all is_row (list_of (map firm_for ms))) rows in
      (record { firm = firms.0; numbers = n.0; valid = row_valid m r.0; library = All-head HasLibrary m ms libraries }, all_fine ms firms.1 (All-tail HasLibrary m ms libraries) n.1 r.1)

  pair_same : (a b : List ℕ) (x y : Object) → a ≡ b → x ≡ y → ◌≡◌ {A = List ℕ × Object} (a, x) (b, y)
  pair_same a b x y e f = rw (e, f) refl

  -- one of them is the one of its name
  member_same : (p m : List ℕ × Object) → p.0 ≡ m.0 → HasObject p → HasObject m → p ≡ m
  member_same p m named first second = pair_same p.0 m.0 p.1 m.1 named (ok_same p.1 m.1 (sym first ∙ (ap (objects (format causes) old) named ∙ second)))

  at_name : (P : List ℕ × Object → Type 0) (ms : Walked) (m : List ℕ × Object) → AllByRecursion P ms → All HasObject ms → has (names ms) m.0 ≡ true → HasObject m → P m
  at_name P [] m all have there object = absurd (false≢true there)
  at_name P (p ∷ ms) m all have there object = elim (has_cons p.0 m.0 (names ms) there) [
    | inl e ↦ subst P (member_same p m e (All-head HasObject p ms have) object) all.0
    | inr later ↦ at_name P ms m all.1 (All-tail HasObject p ms have) later object
  ]

  none_shares : (v : Window) (ms : Walked) → list_any (share v) (map window_for ms) ≡ false → AllByRecursion (λ m. share v (window_for m) ≡ false) ms
  none_shares v [] none = tt
  none_shares v (m ∷ ms) none = let p = or_parts (share v (window_for m)) (list_any (share v) (map window_for ms)) none in (p.0, none_shares v ms p.1)

  -- two of them, of two names, have no address in common
  two_apart : (ms : Walked) (m q : List ℕ × Object) → any_share (map window_for ms) ≡ false → All HasObject ms → has (names ms) m.0 ≡ true → has (names ms) q.0 ≡ true → HasObject m → HasObject q → bytes_eq m.0 q.0 ≡ false
      → share (window_for m) (window_for q) ≡ false
  two_apart [] m q apart have first second object other differ = absurd (false≢true first)
  two_apart (p ∷ ms) m q apart have first second object other differ =
      let parts = or_parts (list_any (share (window_for p)) (map window_for ms)) (any_pair share (map window_for ms)) apart in
      let rest = All-tail HasObject p ms have in
      let away : (x : List ℕ × Object) → has (names ms) x.0 ≡ true → HasObject x → share (window_for p) (window_for x) ≡ false = λ x there is.
      at_name (λ m. share (window_for p) (window_for m) ≡ false) ms x (none_shares (window_for p) ms parts.0) rest there is in
      elim (has_cons p.0 m.0 (names ms) first) [
        | inl e ↦
            let same : p ≡ m = member_same p m e (All-head HasObject p ms have) object in
            elim (has_cons p.0 q.0 (names ms) second) [
              | inl d ↦ absurd (false≢true (sym differ ∙ (ap (λ (n : List ℕ). bytes_eq n q.0) (sym e ∙ d) ∙ eq_refl q.0)))
              | inr later ↦ subst (λ (x : List ℕ × Object). share (window_for x) (window_for q) ≡ false) same (away q later other)
            ]
        | inr here ↦ elim (has_cons p.0 q.0 (names ms) second) [
          | inl d ↦
              let same : p ≡ q = member_same p q d (All-head HasObject p ms have) other in
              share_flip (window_for m) (window_for q) ∙ subst (λ (x : List ℕ × Object). share (window_for x) (window_for m) ≡ false) same (away m here object)
          | inr later ↦ two_apart ms m q parts.1 rest here later object other differ
        ]
      ]

  -- ---- what is fine together

  pub fine_windows : (ms : Walked) → AllByRecursion IsFine ms → flat_map windows_of (map firm_for ms) ≡ map window_for ms
  unfolding windows_of
  fine_windows [] fine = refl
  fine_windows (m ∷ ms) fine =
      ap (λ (b : Bool). (if b then window_for m ∷ [] else map load_window (loads m.1.segments)) ++ flat_map windows_of (map firm_for ms)) fine.0.library
      ∙ ap (λ (ws : List Window). window_for m ∷ ws) (fine_windows ms fine.1)

  pub fine_numbers : (ms : Walked) → AllByRecursion IsFine ms → list_all has_numbers (map firm_for ms) ≡ true
  fine_numbers [] fine = refl
  fine_numbers (m ∷ ms) fine = and_from (has_numbers (firm_for m)) (list_all has_numbers (map firm_for ms)) fine.0.numbers (fine_numbers ms fine.1)

  pub fine_valid : (ms : Walked) → AllByRecursion IsFine ms → list_all has_valid_name (map firm_for ms) ≡ true
  fine_valid [] fine = refl
  fine_valid (m ∷ ms) fine = and_from (is_valid_name m.0) (list_all has_valid_name (map firm_for ms)) fine.0.valid (fine_valid ms fine.1)

  pub fine_firms : (ms : Walked) → AllByRecursion IsFine ms → All (λ r. firm_of r.member ≡ Some r) (map firm_for ms)
  fine_firms [] fine = All-nil (λ (r : Firm). firm_of r.member ≡ Some r)
  fine_firms (m ∷ ms) fine = All-cons (λ (r : Firm). firm_of r.member ≡ Some r) (firm_for m) (map firm_for ms) fine.0.firm (fine_firms ms fine.1)

  pub firm_names : (ms : Walked) → member_names (map firm_for ms) ≡ names ms
  firm_names [] = refl
  firm_names (m ∷ ms) = ap (λ (ns : List (List ℕ)). m.0 ∷ ns) (firm_names ms)

  pub firm_members : (ms : Walked) → members (map firm_for ms) ≡ map planned (names ms)
  firm_members [] = refl
  firm_members (m ∷ ms) = ap (λ (ns : List Member). planned m.0 ∷ ns) (firm_members ms)

  -- they prelink a file for the first
  pub fine_file : (m : List ℕ × Object) (ms : Walked) → AllByRecursion IsFine (m ∷ ms) → any_share (map window_for (m ∷ ms)) ≡ false → IsDistinct bytes_eq (names (m ∷ ms)) → length (names (m ∷ ms)) ≤ MAX_MEMBERS
      → prelinked.prelinked (map planned (names (m ∷ ms))) ≡ Some (library_file (map firm_for (m ∷ ms)))
  fine_file m ms fine apart distinct few =
      let count = length-map ms firm_for in
      let named = length-map ms (λ (p : List ℕ × Object). p.0) in
      let are : AreSources (map firm_for (m ∷ ms)) = record { few = omega (arith, few, count, named); firm = fine_firms (m ∷ ms) fine; distinct = subst (IsDistinct bytes_eq) (sym (firm_names (m ∷ ms))) distinct } in
      let windows : any_share (flat_map windows_of (map firm_for (m ∷ ms))) ≡ false = ap (λ (ws : List Window). any_share ws) (fine_windows (m ∷ ms) fine) ∙ apart in
      let set : are_set (map firm_for (m ∷ ms)) ≡ true =
      sym (set_tests (map firm_for (m ∷ ms)) (firm_for m) (map firm_for ms) true true true refl are (sym (fine_numbers (m ∷ ms) fine)) (sym (ap not windows)) (sym (fine_valid ms fine.1))) in
      let own : HasOwn (firm_for m) = (member_firm (planned m.0) (firm_for m) fine.0.firm).own in
      let small : length (library_file (map firm_for (m ∷ ms))) ≤ STORED = library_stored (firm_for m) (map firm_for ms) own fine.0.numbers fine.0.library (fine_valid ms fine.1) (omega (arith, few, count, named)) in
      ap prelinked.prelinked (sym (firm_members (m ∷ ms)))
      ∙ (sym (prelinked_set (map firm_for (m ∷ ms)) are set)
      ∙ (sym (file_library (map firm_for (m ∷ ms)) (firm_for m) (map firm_for ms) refl fine.0.library)
      ∙ sym (stored_small (library_file (map firm_for (m ∷ ms))) small)))

  -- ---- some of the libraries of a walk

  -- each is a member of a walk's libraries
  pub record IsAmong (all : Walked) (m : List ℕ × Object) : Type 0 where
    pub there : has (names all) m.0 ≡ true
    pub object : HasObject m

  among_fine : (all ms : Walked) → All HasObject all → AllByRecursion IsFine all → AllByRecursion (IsAmong all) ms → AllByRecursion IsFine ms
  among_fine all [] have fine among = tt
  among_fine all (m ∷ ms) have fine among = (at_name IsFine all m fine have among.0.there among.0.object, among_fine all ms have fine among.1)

  one_away : (all : Walked) (m : List ℕ × Object) (ms : Walked) → any_share (map window_for all) ≡ false → All HasObject all → IsAmong all m → AllByRecursion (IsAmong all) ms → AllByRecursion (λ n. bytes_eq m.0 n ≡ false) (names ms)
      → list_any (share (window_for m)) (map window_for ms) ≡ false
  one_away all m [] apart have is among differ = refl
  one_away all m (q ∷ ms) apart have is among differ =
      or_from (share (window_for m) (window_for q)) (list_any (share (window_for m)) (map window_for ms))
      (two_apart all m q apart have is.there among.0.there is.object among.0.object differ.0) (one_away all m ms apart have is among.1 differ.1)

  among_apart : (all ms : Walked) → any_share (map window_for all) ≡ false → All HasObject all → AllByRecursion (IsAmong all) ms → IsDistinct bytes_eq (names ms) → any_share (map window_for ms) ≡ false
  unfolding IsDistinct
  among_apart all [] apart have among distinct = refl
  among_apart all (m ∷ ms) apart have among distinct =
      or_from (list_any (share (window_for m)) (map window_for ms)) (any_pair share (map window_for ms)) (one_away all m ms apart have among.0 among.1 distinct.0) (among_apart all ms apart have among.1 distinct.1)

  -- ---- of a program that is prelinked

  -- its libraries, as what can be prelinked together
  pub record AreFine (all : Walked) : Type 0 where
    have : All HasObject all
    fine : AllByRecursion IsFine all
    apart : any_share (map window_for all) ≡ false

  pub libraries_fine : (r : Firm) (all : Walked) (rs : List Firm) → All HasObject all → All HasLibrary all → AreFirms all rs → IsSet r rs → AreFine all
  libraries_fine r all rs have libraries firms set =
      let same : rs ≡ map firm_for all = firms_are all rs have firms in
      let list : list_all is_row (list_of rs) ≡ true = (and_parts (list_all is_row (list_of rs)) _ set.list).0 in
      let fine : AllByRecursion IsFine all = all_fine all (subst (AreFirms all) same firms) libraries (subst (λ (ts : List Firm). list_all has_numbers ts ≡ true) same set.numbers)
      (subst (λ (ts : List Firm). list_all is_row (list_of ts) ≡ true) same list) in
      let later : any_share (flat_map windows_of rs) ≡ false = tail_apart (windows_of r) (flat_map windows_of rs) set.apart in
      record {
        have = have;
        fine = fine;
        apart = ap (λ (ws : List Window). any_share ws) (sym (fine_windows all fine)) ∙ subst (λ (ts : List Firm). any_share (flat_map windows_of ts) ≡ false) same later;
      }

  -- some of them, of which no two have one name, prelink a file for the first
  pub some_file : (all : Walked) (m : List ℕ × Object) (ms : Walked) → AreFine all → AllByRecursion (IsAmong all) (m ∷ ms) → IsDistinct bytes_eq (names (m ∷ ms)) → length (names (m ∷ ms)) ≤ MAX_MEMBERS
      → prelinked.prelinked (map planned (names (m ∷ ms))) ≡ Some (library_file (map firm_for (m ∷ ms)))
  some_file all m ms are among distinct few = fine_file m ms (among_fine all (m ∷ ms) are.have are.fine among) (among_apart all (m ∷ ms) are.apart are.have among distinct) distinct few
