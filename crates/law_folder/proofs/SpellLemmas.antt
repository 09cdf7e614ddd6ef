-- The cache that a run leaves has a spelling.
use Rattle.std.proofs.Common.{◌≡◌, ◌≤◌, ◌<◌, ◌^◌, ℕ, ◌+◌, ◌&&◌, Bool, true, false, cond, List, [], ◌∷◌, refl, ◌∙◌, ap, arith}
use Rattle.std.proofs.lemmas.Bool.{and_from, and_parts, le-leb, lt-ltb, ltb-true}
use Rattle.std.specs.FinMap.{keys}
use Rattle.std.specs.List.{AllByRecursion, list_all, list_any}
use Rattle.std.specs.Prelude.{Ok, filter, if◌then◌else◌, length, nat_le, nat_lt, nat_lt}
use Rattle.pl_base.specs.Answers.{◌>>=◌}
use Rattle.pl_base.specs.Files.{Files}
use Rattle.pl_base.specs.Names.{is_valid_name}
use Rattle.pl_base.specs.Sums.{is_aligned}
use Rattle.pl_base.proofs.AnswerLaws.{because_ok, bind_ok, ok_same}
use Rattle.pl_cache.specs.Spelling as cache
use Rattle.pl_cache.specs.declared.cache.Cache.{Cache}
use Rattle.pl_cache.specs.declared.constants.TheConstants.{MAX_ROWS}
use Rattle.pl_elf.specs.declared.constants.TheConstants.{ADDRESS_LIMIT, PAGE}
use Rattle.pl_elf.specs.declared.range.Range.{Range}
use Rattle.pl_folder.specs.Disk.{Name}
use Rattle.pl_rewrite.specs.Plans.{candidates, is_candidate, planned, slots, slots_of, stale, stamp_for, standings, walks, wants}
use Rattle.pl_rewrite.specs.Faulted.{of_plan}
use Rattle.pl_rewrite.specs.Asked.{Asked}
use Rattle.pl_rewrite.specs.Plans.{RunPlan}
use Rattle.pl_rewrite.specs.Changes.{is_given, next_cache}
use Rattle.pl_rewrite.proofs.PlanLaws.{plan_stamp}
use Rattle.pl_share.specs.Disjoint.{disjoint}
use Rattle.pl_share.specs.Shared.{plan_shared}
use Rattle.pl_slots.specs.Plan.{plan}
use Rattle.pl_slots.specs.declared.slot.Slot.{Slot}
use Rattle.pl_slots.specs.declared.slot.Want.{Want}
use Rattle.law_sound.specs.Rule as sound
use Rattle.pl_batch.specs.All.{asked_of}
use Rattle.pl_batch.specs.Folder.{named}
use Rattle.pl_change.specs.Folder.{valid_names}
use Rattle.pl_change.specs.Names.{are_many}
use Rattle.pl_batch.specs.declared.prelinking.Prelinking.{Prelinking}
use Rattle.law_folder.proofs.FitLemmas.{few_names}
use Rattle.law_folder.proofs.PlanLemmas.{next_of}
use Rattle.law_folder.proofs.SlotLemmas.{Among, Fits, IsWhole, Served, among_all, among_holds, among_short, apart_slots, shared_slots, slot_rows, slots_ascend, slots_short, want_name, wants_among}
use Rattle.law_folder.proofs.SortLemmas.{sorted_names}
use Rattle.law_folder.proofs.StampLemmas.{stamp_small}

-- ---- the slots of a plan

abbrev plan_with : sound.Files → List Name → Range → List Slot → ℕ → RunPlan
plan_with files ns region rows stamp = record { standings = standings files region ns; slots = rows; stale = stale files region rows ns; stamp = stamp }

slots_are : (files : sound.Files) (ns : List Name) (a : Asked) (p : RunPlan) → planned files ns a ≡ Ok p → slots files ns a ≡ Ok p.slots
unfolding planned
slots_are files ns a p e =
    let q = bind_ok (slots files ns a) (λ rows. stamp_for files ns a (stale files a.region rows ns) >>= λ stamp. Ok (plan_with files ns a.region rows stamp)) p e in
    let r = bind_ok (stamp_for files ns a (stale files a.region q.0 ns)) (λ stamp. Ok (plan_with files ns a.region q.0 stamp)) p q.2 in
    let same : plan_with files ns a.region q.0 r.0 ≡ p = ok_same (plan_with files ns a.region q.0 r.0) p r.2 in
    q.1 ∙ ap (λ (x : RunPlan). Ok x.slots) same

abbrev wants_of : sound.Files → List Name → Range → List Want
wants_of files ns region = wants files (candidates files region ns)

among_names : (files : sound.Files) (ns : List Name) (region : Range) → Among want_name Fits (wants_of files ns region) ns
among_names files ns region = wants_among files (is_candidate files region) ns

by_share : (rows : List Slot) (ws : List Want) (together : List (List ℕ)) (region : Range) (ss : List Slot) → AllByRecursion IsWhole rows → AllByRecursion Fits ws → (b : Bool)
    → (if b then plan_shared rows ws together region else plan (disjoint rows ws region) ws region) ≡ Ok ss → Served region ws ss
by_share rows ws together region ss whole fits true is = shared_slots rows ws together region ss whole fits is
by_share rows ws together region ss whole fits false is = apart_slots rows ws region ss whole fits is

served : (files : sound.Files) (ns : List Name) (a : Asked) (ss : List Slot) → AllByRecursion IsWhole a.rows.now → slots files ns a ≡ Ok ss → Served a.region (wants_of files ns a.region) ss
unfolding slots_of
served files ns a ss whole e =
    let ws = wants_of files ns a.region in
    let together = walks files ws (candidates files a.region ns) in
    let fits = among_holds want_name Fits ws ns (among_names files ns a.region) in
    by_share a.rows.now ws together a.region ss whole fits a.share
    (because_ok of_plan (if a.share then plan_shared a.rows.now ws together a.region else plan (disjoint a.rows.now ws a.region) ws a.region) ss e)

-- ---- the rows of a cache that is read

row_whole : (s : Slot) → cache.is_row s ≡ true → IsWhole s
unfolding cache.is_row
row_whole s is =
    let ends = and_parts (is_valid_name s.name && is_aligned s.start PAGE && is_aligned s.span PAGE && nat_lt 0 s.span) (nat_le (s.start + s.span) ADDRESS_LIMIT) is in
    let some = and_parts (is_valid_name s.name && is_aligned s.start PAGE && is_aligned s.span PAGE) (nat_lt 0 s.span) ends.0 in
    (and_parts (is_valid_name s.name && is_aligned s.start PAGE) (is_aligned s.span PAGE) some.0).1

rows_whole : (ss : List Slot) → list_all cache.is_row ss ≡ true → AllByRecursion IsWhole ss
rows_whole [] all = tt
rows_whole (s ∷ ss) all = let parts = and_parts (cache.is_row s) (list_all cache.is_row ss) all in (row_whole s parts.0, rows_whole ss parts.1)

record IsRead (c : Cache) : Type 0 where
  last : c.last < 2 ^ 32
  whole : AllByRecursion IsWhole c.rows

is_read : (c : Cache) → cache.is_cache c ≡ true → IsRead c
unfolding cache.is_cache
is_read c is =
    let all = and_parts (nat_lt c.last (2 ^ 32) && nat_le (length c.rows) MAX_ROWS && list_all cache.is_row c.rows) (cache.ascend c.rows) is in
    let rows = and_parts (nat_lt c.last (2 ^ 32) && nat_le (length c.rows) MAX_ROWS) (list_all cache.is_row c.rows) all.0 in
    let few = and_parts (nat_lt c.last (2 ^ 32)) (nat_le (length c.rows) MAX_ROWS) rows.0 in
    record { last = ltb-true c.last (2 ^ 32) few.0; whole = rows_whole c.rows rows.1 }

-- ---- the whole

valid_are : (ks : List Name) → AllByRecursion (λ n. is_valid_name n ≡ true) (filter is_valid_name ks)
valid_are [] = tt
valid_are (k ∷ ks) = by_test (valid_are ks) (is_valid_name k) refl
  where
    by_test : AllByRecursion (λ n. is_valid_name n ≡ true) (filter is_valid_name ks) → (b : Bool) → is_valid_name k ≡ b → AllByRecursion (λ n. is_valid_name n ≡ true) (cond b (k ∷ filter is_valid_name ks) (filter is_valid_name ks))
    by_test rest true valid = (valid, rest)
    by_test rest false invalid = rest

spelled_by : (last : ℕ) (ss : List Slot) → last < 2 ^ 32 → length ss ≤ MAX_ROWS → list_all cache.is_row ss ≡ true → cache.ascend ss ≡ true → cache.is_cache (record { last = last; rows = ss }) ≡ true
unfolding cache.is_cache
spelled_by last ss small few rows rise =
    and_from _ (cache.ascend ss) (and_from _ (list_all cache.is_row ss) (and_from (nat_lt last (2 ^ 32)) (nat_le (length ss) MAX_ROWS) (lt-ltb last (2 ^ 32) small) (le-leb (length ss) MAX_ROWS few)) rows) rise

last_small : (b : Bool) (stamp last : ℕ) → stamp < 2 ^ 32 → last < 2 ^ 32 → (if b then stamp else last) < 2 ^ 32
last_small true stamp last new old = new
last_small false stamp last new old = old

pub next_spelled : (files : Files) (p : Prelinking) (cached : Cache) (made : RunPlan) → p.region.end ≤ ADDRESS_LIMIT → p.moment < 2 ^ 32 → cache.is_cache cached ≡ true → are_many (keys files) ≡ false
    → planned (named files) (valid_names files) (asked_of p cached) ≡ Ok made → cache.is_cache (next_of files p cached made) ≡ true
unfolding next_cache
next_spelled files p cached made below moment is few e =
    let read = is_read cached is in
    let f = named files in
    let ns = valid_names files in
    let a = asked_of p cached in
    let ws = wants_of f ns p.region in
    let among = among_names f ns p.region in
    let serve = served f ns a made.slots read.whole (slots_are f ns a made e) in
    let small = stamp_small f ns a (stale f p.region made.slots ns) made.stamp read.last moment (plan_stamp f ns a made e) in
    let fits = among_holds want_name Fits ws ns among in
    let valid = among_all want_name Fits (λ m. is_valid_name m ≡ true) ws ns among (valid_are (keys files)) in
    spelled_by (if list_any (is_given f p.region made) ns then made.stamp else cached.last) made.slots
    (last_small (list_any (is_given f p.region made) ns) made.stamp cached.last small read.last)
    (omega (arith, slots_short p.region ws made.slots serve, among_short want_name Fits ws ns among, few_names files few))
    (slot_rows p.region ws made.slots below fits valid serve)
    (slots_ascend p.region ws made.slots ns serve among (sorted_names files))
