-- The slots of a plan are rows that a cache may have.
use Rattle.std.proofs.Common.{◌≡◌, ◌≤◌, ◌<◌, ℕ, suc, ◌+◌, Bool, true, false, cond, List, [], ◌∷◌, ◌++◌, Option, Some, None, refl, sym, ◌∙◌, ap, subst, inl, inr, arith, get_or}
use Rattle.std.proofs.lemmas.Bool.{and_from, and_parts, le-leb, leb-true, lt-ltb}
use Rattle.std.proofs.lemmas.List.Elements.{All-cons, All-nil}
use Rattle.std.specs.Cmp.Lexicographic.{slice_cmp}
use Rattle.std.specs.List.{All, AllByRecursion, cons_option, filter_map, find, list_all, range_with_len}
use Rattle.std.specs.List.Sorted.{IsStrictlySortedBy}
use Rattle.std.specs.Option.{option_map}
use Rattle.std.specs.Ordering.{is_lt, nat_cmp}
use Rattle.std.specs.Prelude.{◌⊎◌, Result, Ok, Err, filter, fold, if◌then◌else◌, length, nat_le, nat_lt}
use Rattle.std.specs.declared.cmp.Ordering.{Ordering}
use Rattle.std.specs.declared.cmp.Ordering.TheVariants.{Less}
use Rattle.pl_base.specs.Answers.{because, unless}
use Rattle.pl_base.specs.Names.{is_valid_name}
use Rattle.pl_base.specs.Sums.{is_aligned}
use Rattle.pl_base.proofs.AnswerLaws.{because_ok, bind_ok, ok_same, unless_ok}
use Rattle.pl_cache.specs.Spelling as cache
use Rattle.pl_conflict.specs.Format.{format, read_original}
use Rattle.pl_elf.specs.Kinds.{is_library}
use Rattle.pl_elf.specs.declared.constants.TheConstants.{ADDRESS_LIMIT, PAGE}
use Rattle.pl_elf.specs.declared.range.Range.{Range}
use Rattle.pl_folder.specs.Disk.{Name}
use Rattle.pl_form.specs.Files.{original_in}
use Rattle.pl_form.specs.Marks.{has_mark}
use Rattle.pl_form.specs.declared.constants.TheConstants.{STORED}
use Rattle.pl_rewrite.specs.Skipped.{skip_causes}
use Rattle.pl_object.specs.Reads.{reads}
use Rattle.pl_object.specs.declared.object.Object.{Object}
use Rattle.pl_rewrite.specs.Plans.{want_of}
use Rattle.pl_share.specs.Disjoint as disjoint
use Rattle.pl_share.specs.Shared as shared
use Rattle.pl_share.specs.Shared.{IsSlotFor}
use Rattle.pl_share.specs.declared.given.Given.{Given}
use Rattle.pl_share.proofs.SoundLaws.{slots_serve}
use Rattle.pl_slots.specs.Apart.{is_beside}
use Rattle.pl_slots.specs.Holes.{lowest}
use Rattle.pl_slots.specs.Plan.{Gets, kept_row, keeps, lies_in, plan}
use Rattle.pl_slots.specs.Plan as apart
use Rattle.pl_slots.specs.declared.slot.Slot.{Slot}
use Rattle.pl_slots.specs.declared.slot.Want.{Want}
use Rattle.pl_slots.proofs.PlannedLaws.{rows_serve}
use Rattle.law_sound.specs.Rule.{Files, object_at, objects}
use Rattle.law_folder.proofs.PageLemmas.{aligned_page, paged}

-- ---- what libraries want

pub record Fits (w : Want) : Type 0 where
  pub align : 0 < w.align
  pub some : 0 < w.span
  pub span : is_aligned w.span PAGE ≡ true
  pub pages : (start : ℕ) → is_aligned start w.align ≡ true → is_aligned start PAGE ≡ true

library_fits : (n bytes : List ℕ) (o : Object) → reads bytes ≡ Ok o → is_library o.kind ≡ true → Fits (record { name = n; span = o.span; align = o.align })
library_fits n bytes o e library =
    let is = paged bytes o e in
    record { align = omega (arith, is.align); some = is.some library; span = is.span; pages = λ start aligned. aligned_page start o.align is.power is.align aligned }

-- it is what the name's library wants
pub record WantFor (n : List ℕ) (w : Want) : Type 0 where
  pub name : w.name ≡ n
  pub fits : Fits w

was_read : (n original : List ℕ) (o : Object) → read_original skip_causes n original ≡ Ok o → reads original ≡ Ok o
unfolding read_original
was_read n original o e =
    let small = unless_ok (nat_lt STORED (length original)) (skip_causes.large n) (unless (has_mark original) (skip_causes.bad_mark n) (because (skip_causes.refused n) (reads original))) o e in
    let bare = unless_ok (has_mark original) (skip_causes.bad_mark n) (because (skip_causes.refused n) (reads original)) o small.1 in
    because_ok (skip_causes.refused n) (reads original) o bare.1

abbrev WantAt : List ℕ → Option Want → Type 0
WantAt n None = Unit {0}
WantAt n (Some w) = WantFor n w

want_is : (n : List ℕ) (file : Option (List ℕ)) → WantAt n (want_of n (object_at (format skip_causes) n file))
want_is n None = tt
want_is n (Some file) = by_object (read_original skip_causes n (original_in file)) refl
  where
    by_kind : (o : Object) → reads (original_in file) ≡ Ok o → (b : Bool) → is_library o.kind ≡ b → WantAt n (if b then Some (record { name = n; span = o.span; align = o.align }) else None)
    by_kind o e true library = record { name = refl; fits = library_fits n (original_in file) o e library }
    by_kind o e false other = tt

    by_object : (r : Result Object _) → read_original skip_causes n (original_in file) ≡ r → WantAt n (want_of n r)
    by_object (Ok o) e = by_kind o (was_read n (original_in file) o e) (is_library o.kind) refl
    by_object (Err fault) e = tt

-- ---- some of these names, in their order

abbrev pub Among : {X : Type 0} → (X → Name) → (X → Type 0) → List X → List Name → Type 0
Among name P [] ns = Unit {0}
Among name P (x ∷ xs) [] = ⊥
Among name P (x ∷ xs) (n ∷ ns) = ((name x ≡ n) × (P x × Among name P xs ns)) ⊎ Among name P (x ∷ xs) ns

module _ {X : Type 0} (name : X → Name) (P : X → Type 0) where
  among_more : (xs : List X) (n : Name) (ns : List Name) → Among name P xs ns → Among name P xs (n ∷ ns)
  among_more [] n ns among = tt
  among_more (x ∷ xs) n ns among = inr among

  pub among_short : (xs : List X) (ns : List Name) → Among name P xs ns → length xs ≤ length ns
  among_short [] ns among = omega arith
  among_short (x ∷ xs) [] among = absurd among
  among_short (x ∷ xs) (n ∷ ns) (inl among) = omega (arith, among_short xs ns among.1.1)
  among_short (x ∷ xs) (n ∷ ns) (inr among) = omega (arith, among_short (x ∷ xs) ns among)

  pub among_all : (Q : Name → Type 0) (xs : List X) (ns : List Name) → Among name P xs ns → AllByRecursion Q ns → AllByRecursion (λ x. Q (name x)) xs
  among_all Q [] ns among all = tt
  among_all Q (x ∷ xs) [] among all = absurd among
  among_all Q (x ∷ xs) (n ∷ ns) (inl among) all = (subst (λ (m : Name). Q m) (sym among.0) all.0, among_all Q xs ns among.1.1 all.1)
  among_all Q (x ∷ xs) (n ∷ ns) (inr among) all = among_all Q (x ∷ xs) ns among all.1

  pub among_holds : (xs : List X) (ns : List Name) → Among name P xs ns → AllByRecursion P xs
  among_holds [] ns among = tt
  among_holds (x ∷ xs) [] among = absurd among
  among_holds (x ∷ xs) (n ∷ ns) (inl among) = (among.1.0, among_holds xs ns among.1.1)
  among_holds (x ∷ xs) (n ∷ ns) (inr among) = among_holds (x ∷ xs) ns among

abbrev pub want_name : Want → Name
want_name w = w.name

abbrev pub slot_name : Slot → Name
slot_name s = s.name

-- the wants of some of these names
one_want : (n : Name) (w : Option Want) (ws : List Want) (ns : List Name) → WantAt n w → Among want_name Fits ws ns → Among want_name Fits (cons_option w ws) (n ∷ ns)
one_want n None ws ns is among = among_more want_name Fits ws n ns among
one_want n (Some w) ws ns is among = inl (is.name, (is.fits, among))

pub wants_among : (files : Files) (test : List ℕ → Bool) (ns : List Name) → Among want_name Fits (filter_map (λ n. want_of n (objects (format skip_causes) files n)) (filter test ns)) ns
wants_among files test [] = tt
wants_among files test (n ∷ ns) = by_test (wants_among files test ns) (test n)
  where
    by_test : Among want_name Fits (filter_map (λ m. want_of m (objects (format skip_causes) files m)) (filter test ns)) ns → (b : Bool) → Among want_name Fits (filter_map (λ m. want_of m (objects (format skip_causes) files m)) (cond b (n ∷ filter test ns) (filter test ns))) (n ∷ ns)
    by_test rest true = one_want n (want_of n (objects (format skip_causes) files n)) (filter_map (λ m. want_of m (objects (format skip_causes) files m)) (filter test ns)) ns (want_is n (files n)) rest
    by_test rest false = among_more want_name Fits (filter_map (λ m. want_of m (objects (format skip_causes) files m)) (filter test ns)) n ns rest

aligns_of : (ws : List Want) → AllByRecursion Fits ws → All (λ w. 0 < w.align) ws
aligns_of [] all = All-nil (λ (w : Want). 0 < w.align)
aligns_of (w ∷ ws) all = All-cons (λ (v : Want). 0 < v.align) w ws all.0.align (aligns_of ws all.1)

spans_of : (ws : List Want) → AllByRecursion Fits ws → All (λ w. 0 < w.span) ws
spans_of [] all = All-nil (λ (w : Want). 0 < w.span)
spans_of (w ∷ ws) all = All-cons (λ (v : Want). 0 < v.span) w ws all.0.some (spans_of ws all.1)

-- ---- rows of whole pages

abbrev pub IsWhole : Slot → Type 0
IsWhole s = is_aligned s.span PAGE ≡ true

found_holds : (Q : Slot → Type 0) (test : Slot → Bool) (rows : List Slot) (row : Slot) → AllByRecursion Q rows → find test rows ≡ Some row → Q row
found_holds Q test [] row all e = absurd cc
found_holds Q test (r ∷ rows) row all e = by_test (found_holds Q test rows row all.1) (test r) e
  where
    by_test : (find test rows ≡ Some row → Q row) → (b : Bool) → cond b (Some r) (find test rows) ≡ Some row → Q row
    by_test rest true is = let same : r ≡ row = cc in subst (λ (s : Slot). Q s) same all.0
    by_test rest false is = rest is

abbrev WholeAt : Option Slot → Type 0
WholeAt None = Unit {0}
WholeAt (Some row) = IsWhole row

kept_holds : (rows : List Slot) (region : Range) (w : Want) → AllByRecursion IsWhole rows → WholeAt (kept_row rows region w)
unfolding kept_row
kept_holds rows region w all = by_found (find (keeps region w) rows) refl
  where
    by_found : (o : Option Slot) → find (keeps region w) rows ≡ o → WholeAt o
    by_found None e = tt
    by_found (Some row) e = found_holds IsWhole (keeps region w) rows row all e

push_holds : {X : Type 0} (Q : X → Type 0) (xs : List X) (x : X) → AllByRecursion Q xs → Q x → AllByRecursion Q (xs ++ x ∷ [])
push_holds Q [] x all one = (one, tt)
push_holds Q (y ∷ ys) x all one = (all.0, push_holds Q ys x all.1 one)

-- ---- where no two may overlap

with_holds : (kept : List Slot) (o : Option Slot) → AllByRecursion IsWhole kept → WholeAt o → AllByRecursion IsWhole (disjoint.with_disjoint_row kept o)
with_holds kept None all one = all
with_holds kept (Some row) all one = by_test (list_all (is_beside row) kept)
  where
    by_test : (b : Bool) → AllByRecursion IsWhole (if b then kept ++ row ∷ [] else kept)
    by_test true = push_holds IsWhole kept row all one
    by_test false = all

disjoint_from : (rows : List Slot) (region : Range) (ws : List Want) (kept : List Slot) → AllByRecursion IsWhole rows → AllByRecursion IsWhole kept → AllByRecursion IsWhole (fold (λ kept want. disjoint.with_disjoint_row kept (kept_row rows region want)) kept ws)
disjoint_from rows region [] kept whole all = all
disjoint_from rows region (w ∷ ws) kept whole all = disjoint_from rows region ws (disjoint.with_disjoint_row kept (kept_row rows region w)) whole (with_holds kept (kept_row rows region w) all (kept_holds rows region w whole))

disjoint_holds : (rows : List Slot) (ws : List Want) (region : Range) → AllByRecursion IsWhole rows → AllByRecursion IsWhole (disjoint.disjoint rows ws region)
unfolding disjoint.disjoint
disjoint_holds rows ws region whole = disjoint_from rows region ws [] whole tt

-- each slot serves its want
abbrev pub Served : Range → List Want → List Slot → Type 0
Served region [] [] = Unit {0}
Served region [] (s ∷ ss) = ⊥
Served region (w ∷ ws) [] = ⊥
Served region (w ∷ ws) (s ∷ ss) = (IsSlotFor region w s × IsWhole s) × Served region ws ss

got_whole : (o : Option Slot) (w : Want) (s : Slot) → WholeAt o → Fits w → Gets o w s → IsWhole s
got_whole (Some row) w s whole fits is = subst (λ (t : Slot). IsWhole t) (sym is) whole
got_whole None w s whole fits is = ap (λ (n : ℕ). is_aligned n PAGE) is ∙ fits.span

apart_served : (kept : List Slot) (region : Range) (ws : List Want) (ss : List Slot) → AllByRecursion IsWhole kept → AllByRecursion Fits ws → apart.AllServe kept region ws ss → Served region ws ss
apart_served kept region [] [] whole fits serve = tt
apart_served kept region [] (s ∷ ss) whole fits serve = absurd serve
apart_served kept region (w ∷ ws) [] whole fits serve = absurd serve
apart_served kept region (w ∷ ws) (s ∷ ss) whole fits serve = (
  (record { name = serve.0.name; large = serve.0.large; aligned = serve.0.aligned; within = serve.0.within }, got_whole (kept_row kept region w) w s (kept_holds kept region w whole) fits.0 serve.0.gets),
  apart_served kept region ws ss whole fits.1 serve.1,
)

pub apart_slots : (rows : List Slot) (ws : List Want) (region : Range) (ss : List Slot) → AllByRecursion IsWhole rows → AllByRecursion Fits ws → plan (disjoint.disjoint rows ws region) ws region ≡ Ok ss → Served region ws ss
apart_slots rows ws region ss whole fits e =
    let kept = disjoint.disjoint rows ws region in
    apart_served kept region ws ss (disjoint_holds rows ws region whole) fits (rows_serve kept ws region (Ok ss) (aligns_of ws fits) e (spans_of ws fits))

-- ---- where they may

abbrev GivenWhole : Given → Type 0
GivenWhole g = IsWhole g.slot

given_holds : (walks : List (List ℕ)) (given : List Given) (i : ℕ) (o : Option Slot) → AllByRecursion GivenWhole given → WholeAt o → AllByRecursion GivenWhole (shared.with_clear_row walks given i o)
given_holds walks given i None all one = all
given_holds walks given i (Some row) all one = by_test (shared.is_clear walks given i row)
  where
    by_test : (b : Bool) → AllByRecursion GivenWhole (if b then given ++ shared.given_to i row ∷ [] else given)
    by_test true = push_holds GivenWhole given (shared.given_to i row) all one
    by_test false = all

kept_given : (rows : List Slot) (walks : List (List ℕ)) (region : Range) (given : List Given) (i : ℕ) (ws : List Want) → AllByRecursion IsWhole rows → AllByRecursion GivenWhole given → AllByRecursion GivenWhole (shared.all_kept rows walks region given i ws)
unfolding shared.all_kept shared.kept
kept_given rows walks region given i [] whole all = all
kept_given rows walks region given i (w ∷ ws) whole all = kept_given rows walks region (shared.with_clear_row walks given i (kept_row rows region w)) (i + 1) ws whole (given_holds walks given i (kept_row rows region w) all (kept_holds rows region w whole))

place_holds : (walks : List (List ℕ)) (region : Range) (given more : List Given) (i : ℕ) (w : Want) → AllByRecursion GivenWhole given → Fits w → shared.placed walks region given i w ≡ Ok more → AllByRecursion GivenWhole more
unfolding shared.placed
place_holds walks region given more i w all fits e = by_test (shared.has_slot given i) e
  where
    by_place : (o : Option ℕ) → shared.at_place given i w (shared.holes_for walks region given i) o ≡ Ok more → AllByRecursion GivenWhole more
    by_place (Some start) is = subst (λ (gs : List Given). AllByRecursion GivenWhole gs) (ok_same (given ++ shared.given_to i (apart.slot_at w start) ∷ []) more is) (push_holds GivenWhole given (shared.given_to i (apart.slot_at w start)) all fits.span)
    by_place None is = absurd cc

    by_test : (b : Bool) → (if b then Ok given else shared.at_place given i w (shared.holes_for walks region given i) (lowest w.span w.align (shared.holes_for walks region given i))) ≡ Ok more → AllByRecursion GivenWhole more
    by_test true is = subst (λ (gs : List Given). AllByRecursion GivenWhole gs) (ok_same given more is) all
    by_test false is = by_place (lowest w.span w.align (shared.holes_for walks region given i)) is

places_hold : (walks : List (List ℕ)) (region : Range) (given more : List Given) (i : ℕ) (ws : List Want) → AllByRecursion GivenWhole given → AllByRecursion Fits ws → shared.all_placed walks region given i ws ≡ Ok more → AllByRecursion GivenWhole more
unfolding shared.all_placed
places_hold walks region given more i [] all fits e = subst (λ (gs : List Given). AllByRecursion GivenWhole gs) (ok_same given more e) all
places_hold walks region given more i (w ∷ ws) all fits e =
    let step = bind_ok (shared.placed walks region given i w) (λ next. shared.all_placed walks region next (i + 1) ws) more e in
    places_hold walks region step.0 more (i + 1) ws (place_holds walks region given step.0 i w all fits.0 step.1) fits.1 step.2

given_found : (test : Given → Bool) (given : List Given) → AllByRecursion GivenWhole given → WholeAt (option_map (λ g. g.slot) (find test given))
given_found test [] all = tt
given_found test (g ∷ given) all = by_test (given_found test given all.1) (test g)
  where
    by_test : WholeAt (option_map (λ h. h.slot) (find test given)) → (b : Bool) → WholeAt (option_map (λ h. h.slot) (cond b (Some g) (find test given)))
    by_test rest true = all.0
    by_test rest false = rest

one_slot : (o : Option Slot) (ss : List Slot) → WholeAt o → AllByRecursion IsWhole ss → AllByRecursion IsWhole (cons_option o ss)
one_slot None ss one all = all
one_slot (Some s) ss one all = (one, all)

slots_hold : (given : List Given) (is : List ℕ) → AllByRecursion GivenWhole given → AllByRecursion IsWhole (filter_map (shared.slot_of given) is)
slots_hold given [] all = tt
slots_hold given (i ∷ is) all = one_slot (shared.slot_of given i) (filter_map (shared.slot_of given) is) (given_found _ given all) (slots_hold given is all)

shared_served : (region : Range) (ws : List Want) (ss : List Slot) → length ss ≡ length ws → ((i : ℕ) (w : Want) (s : Slot) → i < length ws → IsSlotFor region (get_or ws i w) (get_or ss i s)) → AllByRecursion IsWhole ss → Served region ws ss
shared_served region [] [] count each whole = tt
shared_served region [] (s ∷ ss) count each whole = absurd (omega (arith, count))
shared_served region (w ∷ ws) [] count each whole = absurd (omega (arith, count))
shared_served region (w ∷ ws) (s ∷ ss) count each whole = (
  (each 0 w s (omega arith), whole.0),
  shared_served region ws ss (omega (arith, count)) (λ i v t lt. each (suc i) v t (omega (arith, lt))) whole.1,
)

pub shared_slots : (rows : List Slot) (ws : List Want) (walks : List (List ℕ)) (region : Range) (ss : List Slot) → AllByRecursion IsWhole rows → AllByRecursion Fits ws → shared.plan_shared rows ws walks region ≡ Ok ss → Served region ws ss
unfolding shared.plan_shared
shared_slots rows ws walks region ss whole fits e =
    let serve = slots_serve rows ws walks region (Ok ss) (aligns_of ws fits) e (spans_of ws fits) in
    let step = bind_ok (shared.all_placed walks region (shared.all_kept rows walks region [] 0 ws) 0 ws) (λ given. Ok (shared.slots_of given (length ws))) ss e in
    let given = places_hold walks region (shared.all_kept rows walks region [] 0 ws) step.0 0 ws (kept_given rows walks region [] 0 ws whole tt) fits step.1 in
    let all : AllByRecursion IsWhole ss = subst (λ (slots : List Slot). AllByRecursion IsWhole slots) (ok_same (shared.slots_of step.0 (length ws)) ss step.2) (slots_hold step.0 (range_with_len 0 (length ws)) given) in
    shared_served region ws ss serve.count serve.each all

-- ---- so they are rows of a cache

slot_row : (region : Range) (w : Want) (s : Slot) → region.end ≤ ADDRESS_LIMIT → Fits w → is_valid_name w.name ≡ true → IsSlotFor region w s → IsWhole s → cache.is_row s ≡ true
unfolding cache.is_row lies_in
slot_row region w s below fits valid serves whole =
    let ends = leb-true (s.start + s.span) region.end (and_parts (nat_le region.start s.start) (nat_le (s.start + s.span) region.end) serves.within).1 in
    and_from _ (nat_le (s.start + s.span) ADDRESS_LIMIT)
    (and_from _ (nat_lt 0 s.span)
    (and_from _ (is_aligned s.span PAGE)
    (and_from (is_valid_name s.name) (is_aligned s.start PAGE) (ap is_valid_name serves.name ∙ valid) (fits.pages s.start serves.aligned))
    whole)
    (lt-ltb 0 s.span (omega (arith, fits.some, serves.large))))
    (le-leb (s.start + s.span) ADDRESS_LIMIT (omega (arith, ends, below)))

pub slot_rows : (region : Range) (ws : List Want) (ss : List Slot) → region.end ≤ ADDRESS_LIMIT → AllByRecursion Fits ws → AllByRecursion (λ w. is_valid_name w.name ≡ true) ws → Served region ws ss → list_all cache.is_row ss ≡ true
slot_rows region [] [] below fits valid served = refl
slot_rows region [] (s ∷ ss) below fits valid served = absurd served
slot_rows region (w ∷ ws) [] below fits valid served = absurd served
slot_rows region (w ∷ ws) (s ∷ ss) below fits valid served = and_from (cache.is_row s) (list_all cache.is_row ss) (slot_row region w s below fits.0 valid.0 served.0.0 served.0.1) (slot_rows region ws ss below fits.1 valid.1 served.1)

pub slots_short : (region : Range) (ws : List Want) (ss : List Slot) → Served region ws ss → length ss ≡ length ws
slots_short region [] [] served = refl
slots_short region [] (s ∷ ss) served = absurd served
slots_short region (w ∷ ws) [] served = absurd served
slots_short region (w ∷ ws) (s ∷ ss) served = omega (arith, slots_short region ws ss served.1)

-- ---- their names ascend

abbrev pub by_bytes : List ℕ → List ℕ → Ordering
by_bytes = slice_cmp nat_cmp

-- each comes after a name
abbrev After : Name → List Slot → Type 0
After n ss = AllByRecursion (λ s. by_bytes n s.name ≡ Less) ss

after_slots : (n : Name) (region : Range) (ws : List Want) (ss : List Slot) → Served region ws ss → AllByRecursion (λ w. by_bytes n w.name ≡ Less) ws → After n ss
after_slots n region [] [] served all = tt
after_slots n region [] (s ∷ ss) served all = absurd served
after_slots n region (w ∷ ws) [] served all = absurd served
after_slots n region (w ∷ ws) (s ∷ ss) served all = (ap (by_bytes n) served.0.0.name ∙ all.0, after_slots n region ws ss served.1 all.1)

follows : (s : Slot) (ss : List Slot) → After s.name ss → cache.is_followed s ss ≡ true
follows s [] after = refl
follows s (t ∷ ss) after = ap is_lt after.0

pub slots_ascend : (region : Range) (ws : List Want) (ss : List Slot) (ns : List Name) → Served region ws ss → Among want_name Fits ws ns → IsStrictlySortedBy by_bytes ns → cache.ascend ss ≡ true
unfolding IsStrictlySortedBy
slots_ascend region [] [] ns served among sorted = refl
slots_ascend region [] (s ∷ ss) ns served among sorted = absurd served
slots_ascend region (w ∷ ws) [] ns served among sorted = absurd served
slots_ascend region (w ∷ ws) (s ∷ ss) [] served among sorted = absurd among
slots_ascend region (w ∷ ws) (s ∷ ss) (n ∷ ns) served (inl among) sorted =
    let after : After s.name ss = subst (λ (m : Name). After m ss) (sym (served.0.0.name ∙ among.0)) (after_slots n region ws ss served.1 (among_all want_name Fits (λ m. by_bytes n m ≡ Less) ws ns among.1.1 sorted.0)) in
    and_from (cache.is_followed s ss) (cache.ascend ss) (follows s ss after) (slots_ascend region ws ss ns served.1 among.1.1 sorted.1)
slots_ascend region (w ∷ ws) (s ∷ ss) (n ∷ ns) served (inr among) sorted = slots_ascend region (w ∷ ws) (s ∷ ss) ns served among sorted.1
