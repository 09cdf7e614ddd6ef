-- A candidate that is a library has a slot in the region of the run.
use Rattle.std.proofs.Common.{◌≡◌, ℕ, suc, ◌<◌, ◌≤◌, Bool, true, false, cond, List, [], ◌∷◌, length, get_or, Option, Some, None, Result, Ok, Err, refl, sym, ap, subst, ◌∙◌, arith, inl, inr}
use Rattle.std.specs.Prelude.{find, if◌then◌else◌}
use Rattle.std.specs.List.{All, cons_option, filter_map}
use Rattle.std.specs.Str.{bytes_eq}
use Rattle.std.proofs.lemmas.Bool.{cases_Bool, false≢true}
use Rattle.std.proofs.lemmas.List.Elements.{All-nil, All-cons, All-head, All-tail}
use Rattle.std.proofs.lemmas.Option.{none-some, same_Some}
use Rattle.pl_base.specs.Answers.{◌>>=◌, because}
use Rattle.pl_base.specs.Sums.{is_aligned}
use Rattle.pl_base.proofs.AnswerLaws.{because_ok, bind_ok, ok_same}
use Rattle.pl_rewrite.specs.Plans.{slot_of, start_of}
use Rattle.pl_rewrite.specs.Skip.{Skip}
use Rattle.pl_conflict.specs.Format.{format}
use Rattle.pl_elf.specs.Kinds.{is_library}
use Rattle.pl_elf.specs.declared.range.Range.{Range}
use Rattle.law_folder.proofs.SlotLemmas.{Among, Fits, want_name, wants_among}
use Rattle.pl_rewrite.specs.Plans.{candidates, is_candidate, planned, slots, slots_of, stale, stamp_for, standings, walks, wants}
use Rattle.pl_rewrite.specs.Skipped.{skip_causes}
use Rattle.pl_object.specs.declared.object.Object.{Object}
use Rattle.pl_rewrite.specs.Faulted.{of_plan}
use Rattle.pl_rewrite.specs.Plans.{want_of}
use Rattle.pl_rewrite.specs.Asked.{Asked}
use Rattle.pl_rewrite.specs.Plans.{RunPlan}
use Rattle.pl_rewrite.specs.Laws.{AreNames}
use Rattle.pl_rewrite.proofs.NamedLaws.{passed_at}
use Rattle.pl_rewrite.proofs.SoundLaws.{candidate_named}
use Rattle.pl_scope.specs.Members.{has}
use Rattle.pl_scope.proofs.NameLaws.{eq_refl, has_cons, same_name}
use Rattle.pl_share.specs.Disjoint.{disjoint}
use Rattle.pl_share.specs.Shared as shared
use Rattle.pl_share.specs.Shared.{plan_shared}
use Rattle.pl_share.proofs.SoundLaws.{slots_serve}
use Rattle.pl_slots.specs.Plan as apart
use Rattle.pl_slots.specs.Plan.{lies_in, plan}
use Rattle.pl_slots.specs.declared.slot.Slot.{Slot}
use Rattle.pl_slots.specs.declared.slot.Want.{Want}
use Rattle.pl_slots.proofs.PlannedLaws.{rows_serve}
use Rattle.law_sound.specs.Rule.{Files, objects}

-- ---- each want has a slot in the region

abbrev pub Within : Range → List Want → List Slot → Type 0
Within region [] [] = Unit {0}
Within region [] (s ∷ ss) = ⊥
Within region (w ∷ ws) [] = ⊥
Within region (w ∷ ws) (s ∷ ss) = ((s.name ≡ w.name) × (w.span ≤ s.span) × (is_aligned s.start w.align ≡ true) × (lies_in region s ≡ true)) × Within region ws ss

apart_within : (kept : List Slot) (region : Range) (ws : List Want) (ss : List Slot) → apart.AllServe kept region ws ss → Within region ws ss
apart_within kept region [] [] serve = tt
apart_within kept region [] (s ∷ ss) serve = absurd serve
apart_within kept region (w ∷ ws) [] serve = absurd serve
apart_within kept region (w ∷ ws) (s ∷ ss) serve = ((serve.0.name, serve.0.large, serve.0.aligned, serve.0.within), apart_within kept region ws ss serve.1)

shared_within : (region : Range) (ws : List Want) (ss : List Slot) → length ss ≡ length ws → ((i : ℕ) (w : Want) (s : Slot) → i < length ws → shared.IsSlotFor region (get_or ws i w) (get_or ss i s)) → Within region ws ss
shared_within region [] [] count each = tt
shared_within region [] (s ∷ ss) count each = absurd (omega (arith, count))
shared_within region (w ∷ ws) [] count each = absurd (omega (arith, count))
shared_within region (w ∷ ws) (s ∷ ss) count each =
    let first = each 0 w s (omega arith) in
    ((first.name, first.large, first.aligned, first.within), shared_within region ws ss (omega (arith, count)) (λ i v t lt. each (suc i) v t (omega (arith, lt))))

pub aligns_of : (ws : List Want) → All Fits ws → All (λ w. 0 < w.align) ws
aligns_of [] all = All-nil (λ (w : Want). 0 < w.align)
aligns_of (w ∷ ws) all = All-cons (λ (v : Want). 0 < v.align) w ws (All-head Fits w ws all).align (aligns_of ws (All-tail Fits w ws all))

pub spans_of : (ws : List Want) → All Fits ws → All (λ w. 0 < w.span) ws
spans_of [] all = All-nil (λ (w : Want). 0 < w.span)
spans_of (w ∷ ws) all = All-cons (λ (v : Want). 0 < v.span) w ws (All-head Fits w ws all).some (spans_of ws (All-tail Fits w ws all))

-- ---- the slot of a name

-- a name's slot, aligned, no smaller than a span, in the region
pub record HasSlot (region : Range) (ss : List Slot) (m : List ℕ) (span align : ℕ) : Type 0 where
  pub slot : Slot
  pub found : find (λ s. bytes_eq s.name m) ss ≡ Some slot
  pub large : span ≤ slot.span
  pub aligned : is_aligned slot.start align ≡ true
  pub within : lies_in region slot ≡ true

module _ (old : Files) (region : Range) where
  abbrev object_of : List ℕ → Result Object Skip
  object_of n = objects (format skip_causes) old n

  named_want : (n : List ℕ) (r : Result Object Skip) (w : Want) → want_of n r ≡ Some w → w.name ≡ n
  named_want n (Err e) w is = absurd (none-some w is)
  named_want n (Ok o) w is = by_kind (is_library o.kind) is
    where
      by_kind : (b : Bool) → (if b then Some (record { name = n; span = o.span; align = o.align }) else None) ≡ Some w → w.name ≡ n
      by_kind true e = ap (λ (v : Want). v.name) (sym (same_Some (record { name = n; span = o.span; align = o.align }) w e))
      by_kind false e = absurd (none-some w e)

  abbrev want_made : List ℕ → ℕ → ℕ → Want
  want_made n span align = record { name = n; span = span; align = align }

  library_want : (m : List ℕ) (o : Object) → object_of m ≡ Ok o → is_library o.kind ≡ true → want_of m (object_of m) ≡ Some (want_made m o.span o.align)
  library_want m o at library = ap (want_of m) at ∙ ap (λ (b : Bool). if b then Some (want_made m o.span o.align) else None) library

  abbrev wants_in : List (List ℕ) → List Want
  wants_in ns = filter_map (λ n. want_of n (object_of n)) ns

  later : (n m : List ℕ) (ns : List (List ℕ)) → has (n ∷ ns) m ≡ true → (n ≡ m → ⊥) → has ns m ≡ true
  later n m ns there other = elim (has_cons n m ns there) [ inl e ↦ absurd (other e) | inr t ↦ t ]

  -- one name more
  one_found : (n : List ℕ) (ns : List (List ℕ)) (m : List ℕ) (o : Object) → object_of m ≡ Ok o → is_library o.kind ≡ true → has (n ∷ ns) m ≡ true → ((ts : List Slot) → Within region (wants_in ns) ts → has ns m ≡ true → HasSlot region ts m o.span o.align)
      → (want : Option Want) → want_of n (object_of n) ≡ want → (ts : List Slot) → Within region (cons_option want (wants_in ns)) ts → HasSlot region ts m o.span o.align
  one_found n ns m o at library there more None none ts serves =
      more ts serves (later n m ns there (λ e. none-some (want_made m o.span o.align) (sym none ∙ subst (λ (k : List ℕ). want_of k (object_of k) ≡ Some (want_made m o.span o.align)) (sym e) (library_want m o at library))))
  one_found n ns m o at library there more (Some w) is [] serves = absurd serves
  one_found n ns m o at library there more (Some w) is (s ∷ ts) serves =
      let name : s.name ≡ n = serves.0.0 ∙ named_want n (object_of n) w is in
      elim (cases_Bool (bytes_eq s.name m)) [
        | inl hit ↦
            let same : n ≡ m = sym name ∙ same_name s.name m hit in
            let own : want_of n (object_of n) ≡ Some (want_made m o.span o.align) = subst (λ (k : List ℕ). want_of k (object_of k) ≡ Some (want_made m o.span o.align)) (sym same) (library_want m o at library) in
            let want : w ≡ want_made m o.span o.align = same_Some w (want_made m o.span o.align) (sym is ∙ own) in
            let span : w.span ≡ o.span = ap (λ (v : Want). v.span) want in
            record { slot = s; found = rw hit refl; large = omega (arith, serves.0.1, span); aligned = subst (λ (v : Want). is_aligned s.start v.align ≡ true) want serves.0.2; within = serves.0.3 }
        | inr miss ↦
            let rest = more ts serves.1 (later n m ns there (λ e. false≢true (sym miss ∙ (ap (λ (k : List ℕ). bytes_eq k m) (name ∙ e) ∙ eq_refl m)))) in
            record { slot = rest.slot; found = ap (λ (b : Bool). cond b (Some s) (find (λ t. bytes_eq t.name m) ts)) miss ∙ rest.found; large = rest.large; aligned = rest.aligned; within = rest.within }
      ]

  slot_found : (ns : List (List ℕ)) (ss : List Slot) (m : List ℕ) (o : Object) → Within region (wants_in ns) ss → has ns m ≡ true → object_of m ≡ Ok o → is_library o.kind ≡ true → HasSlot region ss m o.span o.align
  slot_found [] ss m o serve there at library = absurd (false≢true there)
  slot_found (n ∷ ns) ss m o serve there at library = one_found n ns m o at library there (λ ts more in_it. slot_found ns ts m o more in_it at library) (want_of n (object_of n)) refl ss serve

-- ---- the planned slots

pub plan_within : (old : Files) (a : Asked) (ns : List (List ℕ)) (ss : List Slot) → All Fits (wants old ns) → slots_of old a ns (wants old ns) ≡ Ok ss → Within a.region (wants old ns) ss
unfolding slots_of
plan_within old a ns ss fits e = by_share a.share e
  where
    by_share : (b : Bool) → because of_plan (if b then plan_shared a.rows.now (wants old ns) (walks old (wants old ns) ns) a.region else plan (disjoint a.rows.now (wants old ns) a.region) (wants old ns) a.region) ≡ Ok ss → Within a.region (wants old ns) ss
    by_share true is =
        let serve = slots_serve a.rows.now (wants old ns) (walks old (wants old ns) ns) a.region (Ok ss) (aligns_of (wants old ns) fits) (because_ok of_plan (plan_shared a.rows.now (wants old ns) (walks old (wants old ns) ns) a.region) ss is) (spans_of (wants old ns) fits) in
        shared_within a.region (wants old ns) ss serve.count serve.each
    by_share false is =
        let kept = disjoint a.rows.now (wants old ns) a.region in
        apart_within kept a.region (wants old ns) ss
        (rows_serve kept (wants old ns) a.region (Ok ss) (aligns_of (wants old ns) fits) (because_ok of_plan (plan kept (wants old ns) a.region) ss is) (spans_of (wants old ns) fits))

pub all_of : (ws : List Want) (ns : List (List ℕ)) → Among want_name Fits ws ns → All Fits ws
all_of [] ns among = All-nil Fits
all_of (w ∷ ws) [] among = absurd among
all_of (w ∷ ws) (n ∷ ns) (inl among) = All-cons Fits w ws among.1.0 (all_of ws ns among.1.1)
all_of (w ∷ ws) (n ∷ ns) (inr among) = all_of (w ∷ ws) ns among

abbrev plan_made : Files → List (List ℕ) → Asked → List Slot → ℕ → RunPlan
plan_made old ns a rows stamp = record { standings = standings old a.region ns; slots = rows; stale = stale old a.region rows ns; stamp = stamp }

pub planned_slots : (old : Files) (ns : List (List ℕ)) (a : Asked) (p : RunPlan) → planned old ns a ≡ Ok p → slots old ns a ≡ Ok p.slots
unfolding planned
planned_slots old ns a p e =
    let q = bind_ok (slots old ns a) (λ rows. stamp_for old ns a (stale old a.region rows ns) >>= λ stamp. Ok (plan_made old ns a rows stamp)) p e in
    let r = bind_ok (stamp_for old ns a (stale old a.region q.0 ns)) (λ stamp. Ok (plan_made old ns a q.0 stamp)) p q.2 in
    q.1 ∙ ap (λ (x : RunPlan). Ok x.slots) (ok_same (plan_made old ns a q.0 r.0) p r.2)

-- a candidate that is a library has a slot in the region
pub candidate_slot : (old : Files) (ns : List (List ℕ)) (a : Asked) (p : RunPlan) (m : List ℕ) (o : Object) → AreNames old ns → planned old ns a ≡ Ok p → is_candidate old a.region m ≡ true → objects (format skip_causes) old m ≡ Ok o → is_library o.kind ≡ true → HasSlot a.region p.slots m o.span o.align
candidate_slot old ns a p m o named_all plan_is candidate at library =
    let there : has (candidates old a.region ns) m ≡ true = passed_at (is_candidate old a.region) m ns (candidate_named old ns a.region m named_all candidate) ∙ candidate in
    let fits : All Fits (wants old (candidates old a.region ns)) = all_of (wants old (candidates old a.region ns)) ns (wants_among old (is_candidate old a.region) ns) in
    slot_found old a.region (candidates old a.region ns) p.slots m o (plan_within old a (candidates old a.region ns) p.slots fits (planned_slots old ns a p plan_is)) there at library

pub slot_start : (ss : List Slot) (m : List ℕ) (s : Slot) → find (λ t. bytes_eq t.name m) ss ≡ Some s → slot_of ss m ≡ s.start
unfolding slot_of
slot_start ss m s found = ap start_of found
