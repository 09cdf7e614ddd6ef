-- Whether one name may be prelinked, by the row of its file; and what a run at given slots rewrites.
use Rattle.std.proofs.Common.{◌≡◌, ◌<◌, ℕ, Bool, true, false, List, length, Some, Result, Ok, Err, sym, ap, subst, ◌∙◌, arith}
use Rattle.std.specs.Prelude.{MatchBool, ⊤, slice_get}
use Rattle.std.specs.Str.{bytes_eq}
use Rattle.std.proofs.lemmas.List.{length-map}
use Rattle.std.proofs.lemmas.Option.{slice_get_within}
use Rattle.pl_base.specs.Answers.{Answers}
use Rattle.pl_elf.specs.declared.range.Range.{Range}
use Rattle.pl_scope.proofs.NameLaws.{same_name}
use Rattle.pl_slots.specs.declared.slot.Slot.{Slot}
use Rattle.pl_cone.specs.Calls.{IsRowNumber, caused_at, cone, places_of, stale_of, stamp_of}
use Rattle.pl_cone.specs.Currency.{run_stamp, stale_rows}
use Rattle.pl_cone.specs.Plans.{cause_of}
use Rattle.pl_cone.specs.Skipped.{skip_of}
use Rattle.pl_cone.specs.Skips.{stops_memory}
use Rattle.pl_cone.specs.Table.{IsRunTable, IsRunTableOfAny, names_where}
use Rattle.pl_cone.specs.Taken.{AreTaken, files_in}
use Rattle.pl_cone.specs.declared.calls.Cone.{Cone}
use Rattle.pl_cone.specs.declared.skip.ConeFault.{ConeFault}
use Rattle.pl_cone.specs.declared.table.RunTable.{RunTable}
use Rattle.pl_cone.specs.declared.taken.Taken.{Taken}
use Rattle.pl_cone.proofs.CallLaws.{cone_is, cone_names, cone_stamp, cone_stops, row_skip}

-- ---- one name

table_by : (region : Range) (t : RunTable) (ts : List Taken) → AreTaken region ts → t.files.now ≡ ts → IsRunTableOfAny t → IsRunTable region t
table_by region t ts taken same table = table region (subst (λ (xs : List Taken). AreTaken region xs) (sym same) taken)

-- the row of a file is one of the table
pub row_number : (region : Range) (t : RunTable) (ts : List Taken) (row : ℕ) (x : Taken) → AreTaken region ts → t.files.now ≡ ts → IsRunTableOfAny t → slice_get ts row ≡ Some x → IsRowNumber t row
row_number region t ts row x taken same table at =
    let is : IsRunTable region t = table_by region t ts taken same table in
    let size : length t.causes ≡ length t.files.now = ap length is.causes ∙ length-map t.files.now (λ (y : Taken). cause_of (skip_of (files_in t.files.now) region y.name)) in
    let files : length t.files.now ≡ length ts = ap length same in
    omega (arith, size, files, slice_get_within ts row x at)

-- its cause is that of its name
pub named_skip : (region : Range) (t : RunTable) (ts : List Taken) (row : ℕ) (x : Taken) (n : List ℕ) → AreTaken region ts → t.files.now ≡ ts → IsRunTableOfAny t → slice_get ts row ≡ Some x → bytes_eq x.name n ≡ true → skip_of (files_in ts) region n ≡ caused_at t row
named_skip region t ts row x n taken same table at named =
    let is : IsRunTable region t = table_by region t ts taken same table in
    let there : slice_get t.files.now row ≡ Some x = ap (λ (xs : List Taken). slice_get xs row) same ∙ at in
    let told : caused_at t row ≡ skip_of (files_in t.files.now) region x.name = row_skip region t row x is there in
    sym (told ∙ (ap (λ (xs : List Taken). skip_of (files_in xs) region x.name) same ∙ ap (skip_of (files_in ts) region) (same_name x.name n named)))

-- ---- a run at given slots

abbrev made_cone : ℕ → List (List ℕ) → Result Cone ConeFault
made_cone stamp names = Ok (record { stale = names; stamp = stamp })

refused_by : (m : Bool) (e : ConeFault) (a : Result ℕ ConeFault) (b : Result Cone ConeFault) → (a ≡ Err e → b ≡ Err e) → MatchBool m ⊤ (a ≡ Err e) → MatchBool m ⊤ (b ≡ Err e)
refused_by true e a b goes h = tt
refused_by false e a b goes h = goes h

module _ (region : Range) (t : RunTable) (slots : List Slot) (places : List ℕ) (flags : List Bool) (last now : ℕ) (is : IsRunTable region t) (placed : places ≡ places_of slots t.files.now) (flagged : flags ≡ stale_rows t places) where
  stamp_is : run_stamp t.files.now flags last now ≡ stamp_of t (stale_of region t slots) last now
  stamp_is = ap (λ (fs : List Bool). run_stamp t.files.now fs last now) flagged ∙ cone_stamp region t slots places last now is placed

  -- no stamp is left
  pub cone_refused : (e : ConeFault) → MatchBool (stops_memory e) ⊤ (run_stamp t.files.now flags last now ≡ Err e) → Answers stops_memory (Err e) (cone region t slots last now)
  cone_refused e refused =
      refused_by (stops_memory e) e (run_stamp t.files.now flags last now) (cone region t slots last now) (λ stop. cone_stops region t slots last now e (sym stamp_is ∙ stop)) refused

  -- the stale names with the stamp
  pub cone_given : (stamp : ℕ) (names : List (List ℕ)) → run_stamp t.files.now flags last now ≡ Ok stamp → names ≡ names_where t.files.now flags → cone region t slots last now ≡ made_cone stamp names
  cone_given stamp names given told =
      let stale : names ≡ stale_of region t slots = told ∙ (ap (names_where t.files.now) flagged ∙ cone_names region t slots places is placed) in
      cone_is region t slots last now stamp (sym stamp_is ∙ given) ∙ ap (made_cone stamp) (sym stale)
