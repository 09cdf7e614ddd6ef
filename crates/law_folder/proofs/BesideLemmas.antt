-- Two libraries of a walk that may be prelinked have slots with no address in common, also where slots may be shared.
use Rattle.std.proofs.Common.{◌≡◌, ℕ, suc, cond, ◌+◌, ◌<◌, ◌≤◌, Bool, true, false, List, [], ◌∷◌, map, length, get_or, Option, Some, None, Ok, refl, sym, ap, subst, ◌∙◌, arith, inl, inr}
use Rattle.std.specs.Prelude.{◌≢◌, ◌&&◌, ◌==◌, find, nat_lt, not, slice_get, if◌then◌else◌}
use Rattle.std.specs.FinMap.{keys}
use Rattle.std.specs.List.{All, AllByRecursion, AllPairs, IsDistinct, cons_option, filter_map, list_all, list_any, position_or_len}
use Rattle.std.specs.Str.{bytes_eq}
use Rattle.std.proofs.lemmas.Bool.{and_from, and_parts, cases_Bool, false≢true, lt-ltb}
use Rattle.std.proofs.lemmas.Bool.Decides.{nat_tests}
use Rattle.std.proofs.lemmas.List.Elements.{All-cons, All-nil}
use Rattle.std.proofs.lemmas.List.Kept.{AllPairs-cons}
use Rattle.std.proofs.lemmas.Option.{get_or_from_slice_get, none-some, same_Some, slice_get_within}
use Rattle.pl_base.specs.Files as base
use Rattle.pl_base.specs.Names.{is_valid_name}
use Rattle.pl_base.specs.Windows.{share}
use Rattle.pl_base.specs.Answers.{because}
use Rattle.pl_base.proofs.AnswerLaws.{because_ok}
use Rattle.pl_batch.specs.All.{asked_of}
use Rattle.pl_batch.specs.Folder.{named}
use Rattle.pl_change.specs.Folder.{valid_names}
use Rattle.pl_batch.specs.declared.prelinking.Prelinking.{Prelinking}
use Rattle.pl_change.proofs.OrderLemmas.{distinct_from, keys_ascend}
use Rattle.pl_cache.specs.declared.cache.Cache.{Cache}
use Rattle.pl_conflict.specs.Format.{format}
use Rattle.pl_elf.specs.declared.range.Range.{Range}
use Rattle.law_folder.proofs.SlotLemmas.{Among, Fits, among_all, want_name, wants_among}
use Rattle.pl_rewrite.specs.Plans.{candidates, is_candidate, planned, slots_of, walks, wants}
use Rattle.pl_rewrite.specs.Skipped.{skip_causes}
use Rattle.pl_rewrite.specs.Faulted.{of_plan}
use Rattle.pl_rewrite.specs.Plans.{RunPlan}
use Rattle.pl_scope.specs.Members.{has}
use Rattle.pl_scope.proofs.NameLaws.{eq_refl, has_cons, same_name}
use Rattle.pl_share.specs.Disjoint.{disjoint}
use Rattle.pl_share.specs.Shared.{plan_shared}
use Rattle.pl_share.proofs.DisjointLaws.{disjoint_apart}
use Rattle.pl_slots.specs.Apart.{are_apart, is_beside}
use Rattle.pl_slots.specs.Plan.{plan as slot_plan}
use Rattle.pl_slots.specs.declared.slot.Want.{Want}
use Rattle.pl_slots.proofs.PlannedLaws.{rows_apart}
use Rattle.pl_slots.specs.declared.slot.Slot.{Slot}
use Rattle.law_sound.specs.Rule.{Files}
use Rattle.std.proofs.lemmas.List.Folds.{find_at}
use Rattle.pl_rewrite.specs.Laws.{AreNames}
use Rattle.pl_rewrite.proofs.NamedLaws.{passed_at}
use Rattle.pl_rewrite.proofs.SoundLaws.{candidate_named}
use Rattle.pl_rewrite.specs.Plans.{position_of}
use Rattle.pl_rewrite.specs.Asked.{Asked}
use Rattle.pl_scope.proofs.NameLaws.{or_left, or_right}
use Rattle.pl_share.specs.Shared.{WalksAreApart}
use Rattle.pl_share.specs.Together.{are_together, walk_has}
use Rattle.pl_share.proofs.SoundLaws as share_laws
use Rattle.law_sound.specs.Rule.{members}
use Rattle.law_folder.proofs.WantLemmas.{Within, aligns_of, all_of, plan_within, planned_slots, spans_of}

-- ---- slots of two names

beside_flip : (a b : Slot) → is_beside b a ≡ true → is_beside a b ≡ true
beside_flip a b is = grind (arith, nat_tests)

all_found : (p q : Slot → Bool) (ss : List Slot) (s : Slot) → list_all p ss ≡ true → find q ss ≡ Some s → p s ≡ true
all_found p q [] s all is = absurd (none-some s is)
all_found p q (x ∷ ss) s all is =
    let parts = and_parts (p x) (list_all p ss) all in
    elim (cases_Bool (q x)) [
      | inl hit ↦ subst (λ (y : Slot). p y ≡ true) (same_Some x s (rw hit at is)) parts.0
      | inr miss ↦ all_found p q ss s parts.1 (rw miss at is)
    ]

-- two slots that are found by two names share no address
found_beside : (m q : List ℕ) (s t : Slot) (ss : List Slot) → are_apart ss ≡ true → bytes_eq m q ≡ false → find (λ x. bytes_eq x.name m) ss ≡ Some s → find (λ x. bytes_eq x.name q) ss ≡ Some t → is_beside s t ≡ true
found_beside m q s t [] apart differ first second = absurd (none-some s first)
found_beside m q s t (x ∷ ss) apart differ first second =
    let p = and_parts (list_all (is_beside x) ss) (are_apart ss) apart in
    elim (cases_Bool (bytes_eq x.name m)) [
      | inl here ↦ elim (cases_Bool (bytes_eq x.name q)) [
        | inl there ↦ absurd (false≢true (sym differ ∙ (ap (λ (n : List ℕ). bytes_eq n q) (sym (same_name x.name m here)) ∙ there)))
        | inr other ↦
            let same : x ≡ s = same_Some x s (rw here at first) in
            subst (λ (y : Slot). is_beside y t ≡ true) same (all_found (is_beside x) (λ y. bytes_eq y.name q) ss t p.0 (rw other at second))
      ]
      | inr miss ↦ elim (cases_Bool (bytes_eq x.name q)) [
        | inl there ↦
            let same : x ≡ t = same_Some x t (rw there at second) in
            beside_flip s t (subst (λ (y : Slot). is_beside y s ≡ true) same (all_found (is_beside x) (λ y. bytes_eq y.name m) ss s p.0 (rw miss at first)))
        | inr other ↦ found_beside m q s t ss p.1 differ (rw miss at first) (rw other at second)
      ]
    ]

-- what lies in them then shares none
pub share_none : (s t : Slot) (a b : ℕ) → is_beside s t ≡ true → a ≤ s.span → b ≤ t.span → share (record { at = s.start; size = a }) (record { at = t.start; size = b }) ≡ false
share_none s t a b beside first second = grind (arith, nat_tests)

-- ---- slots that libraries do not share

differ : (w : Want) (n : List ℕ) (ws : List Want) → w.name ≡ n → AllByRecursion (λ v. bytes_eq n v.name ≡ false) ws → All (λ v. w.name ≢ v.name) ws
differ w n [] is all = All-nil (λ (v : Want). w.name ≢ v.name)
differ w n (v ∷ ws) is all = All-cons (λ (x : Want). w.name ≢ x.name) v ws (λ same. false≢true (sym all.0 ∙ (ap (bytes_eq n) (sym same ∙ is) ∙ eq_refl n))) (differ w n ws is all.1)

pairs : (ws : List Want) (ns : List (List ℕ)) → Among want_name Fits ws ns → IsDistinct bytes_eq ns → AllPairs (λ a b. a.name ≢ b.name) ws
unfolding IsDistinct
pairs [] ns among distinct = λ i j d lt in_it. absurd (omega (arith, in_it))
pairs (w ∷ ws) [] among distinct = absurd among
pairs (w ∷ ws) (n ∷ ns) (inl among) distinct =
    AllPairs-cons (λ (a b : Want). a.name ≢ b.name) w ws (differ w n ws among.0 (among_all want_name Fits (λ k. bytes_eq n k ≡ false) ws ns among.1.1 distinct.0)) (pairs ws ns among.1.1 distinct.1)
pairs (w ∷ ws) (n ∷ ns) (inr among) distinct = pairs (w ∷ ws) ns among distinct.1

-- where no two slots may overlap none do
alone_apart : (old : Files) (ns : List (List ℕ)) (a : Asked) (made : RunPlan) → IsDistinct bytes_eq ns → a.share ≡ false → planned old ns a ≡ Ok made → are_apart made.slots ≡ true
unfolding slots_of
alone_apart old ns a made distinct alone is_planned =
    let chosen = candidates old a.region ns in
    let ws = wants old chosen in
    let kept = disjoint a.rows.now ws a.region in
    let among = wants_among old (is_candidate old a.region) ns in
    let fits = all_of ws ns among in
    let whole = planned_slots old ns a made is_planned in
    let placed : slot_plan kept ws a.region ≡ Ok made.slots = because_ok of_plan (slot_plan kept ws a.region) made.slots (sym (ap (λ (b : Bool). because of_plan (if b then plan_shared a.rows.now ws (walks old ws chosen) a.region else slot_plan kept ws a.region)) alone) ∙ whole) in
    rows_apart kept ws a.region (Ok made.slots) (aligns_of ws fits) placed (spans_of ws fits) (pairs ws ns among distinct) (disjoint_apart a.rows.now ws a.region)

-- ---- the slot of a name, by its position

found_name : (m : List ℕ) (ss : List Slot) (s : Slot) → find (λ t. bytes_eq t.name m) ss ≡ Some s → bytes_eq s.name m ≡ true
found_name m [] s is = absurd (none-some s is)
found_name m (x ∷ ss) s is = elim (cases_Bool (bytes_eq x.name m)) [
  | inl hit ↦ subst (λ (y : Slot). bytes_eq y.name m ≡ true) (same_Some x s (rw hit at is)) hit
  | inr miss ↦ found_name m ss s (rw miss at is)
]

abbrev slot_place : List ℕ → List Slot → ℕ
slot_place m ss = position_or_len (λ t. bytes_eq t.name m) ss

abbrev want_place : List ℕ → List Want → ℕ
want_place m ws = position_or_len (λ w. bytes_eq w.name m) ws

same_place : (region : Range) (m : List ℕ) (ws : List Want) (ss : List Slot) → Within region ws ss → want_place m ws ≡ slot_place m ss
same_place region m [] [] serve = refl
same_place region m [] (s ∷ ss) serve = absurd serve
same_place region m (w ∷ ws) [] serve = absurd serve
same_place region m (w ∷ ws) (s ∷ ss) serve =
    ap (λ (n : List ℕ). cond (not (bytes_eq n m)) (1 + want_place m ws) 0) (sym serve.0.0) ∙ ap (λ (k : ℕ). cond (not (bytes_eq s.name m)) (1 + k) 0) (same_place region m ws ss serve.1)

same_length : (region : Range) (ws : List Want) (ss : List Slot) → Within region ws ss → length ws ≡ length ss
same_length region [] [] serve = refl
same_length region [] (s ∷ ss) serve = absurd serve
same_length region (w ∷ ws) [] serve = absurd serve
same_length region (w ∷ ws) (s ∷ ss) serve = ap suc (same_length region ws ss serve.1)

-- a name's slot stands where its want does
record StandsAt (region : Range) (m : List ℕ) (ws : List Want) (ss : List Slot) (s : Slot) : Type 0 where
  at : slice_get ss (slot_place m ss) ≡ Some s
  within : slot_place m ss < length ss
  place : position_of ws m ≡ Some (slot_place m ss)

stands_at : (region : Range) (m : List ℕ) (ws : List Want) (ss : List Slot) (s : Slot) → Within region ws ss → find (λ t. bytes_eq t.name m) ss ≡ Some s → StandsAt region m ws ss s
stands_at region m ws ss s serve found =
    let at : slice_get ss (slot_place m ss) ≡ Some s = sym (find_at (λ (t : Slot). bytes_eq t.name m) ss) ∙ found in
    let within : slot_place m ss < length ss = slice_get_within ss (slot_place m ss) s at in
    let same = same_place region m ws ss serve in
    let count = same_length region ws ss serve in
    let below : nat_lt (want_place m ws) (length ws) ≡ true = lt-ltb (want_place m ws) (length ws) (omega (arith, same, count, within)) in
    record { at = at; within = within; place = ap (λ (b : Bool). cond b (Some (want_place m ws)) None) below ∙ ap Some same }

-- ---- libraries that a walk holds

same_test : (a b : ℕ) → a ≡ b → (a == b) ≡ true
same_test a b e = grind (arith, nat_tests)

given_has : (f : List ℕ → Option ℕ) (ns : List (List ℕ)) (m : List ℕ) (i : ℕ) → has ns m ≡ true → f m ≡ Some i → walk_has (filter_map f ns) i ≡ true
given_has f [] m i there is = absurd (false≢true there)
given_has f (k ∷ ns) m i there is = elim (has_cons k m ns there) [
  | inl e ↦ here (f k) (ap f e ∙ is)
  | inr later ↦ after (f k) (given_has f ns m i later is)
]
  where
    here : (o : Option ℕ) → o ≡ Some i → walk_has (cons_option o (filter_map f ns)) i ≡ true
    here None e = absurd (none-some i e)
    here (Some x) e = or_left (x == i) (walk_has (filter_map f ns) i) (same_test x i (same_Some x i e))

    after : (o : Option ℕ) → walk_has (filter_map f ns) i ≡ true → walk_has (cons_option o (filter_map f ns)) i ≡ true
    after None rest = rest
    after (Some x) rest = or_right (x == i) (walk_has (filter_map f ns) i) rest

one_passes : (f : List ℕ → Bool) (g : List ℕ → List ℕ) (ns : List (List ℕ)) (n : List ℕ) → has ns n ≡ true → f (g n) ≡ true → list_any f (map g ns) ≡ true
one_passes f g [] n there is = absurd (false≢true there)
one_passes f g (k ∷ ns) n there is = elim (has_cons k n ns there) [
  | inl e ↦ or_left (f (g k)) (list_any f (map g ns)) (ap (λ (x : List ℕ). f (g x)) e ∙ is)
  | inr later ↦ or_right (f (g k)) (list_any f (map g ns)) (one_passes f g ns n later is)
]

module _ (old : Files) (ns : List (List ℕ)) (a : Asked) (made : RunPlan) (named_all : AreNames old ns) (is_planned : planned old ns a ≡ Ok made) where
  abbrev chosen : List (List ℕ)
  chosen = candidates old a.region ns

  abbrev walk_of : List ℕ → List ℕ
  walk_of n = filter_map (position_of (wants old chosen)) (members (format skip_causes) old n)

  -- two wants that the walk of a candidate holds
  together : (n m q : List ℕ) (i j : ℕ) → is_candidate old a.region n ≡ true → has (members (format skip_causes) old n) m ≡ true → has (members (format skip_causes) old n) q ≡ true → position_of (wants old chosen) m ≡ Some i → position_of (wants old chosen) q ≡ Some j
      → are_together (walks old (wants old chosen) chosen) i j ≡ true
  unfolding are_together
  together n m q i j candidate first second here there =
      one_passes (λ walk. walk_has walk i && walk_has walk j) walk_of chosen n (passed_at (is_candidate old a.region) n ns (candidate_named old ns a.region n named_all candidate) ∙ candidate)
      (and_from (walk_has (walk_of n) i) (walk_has (walk_of n) j) (given_has (position_of (wants old chosen)) (members (format skip_causes) old n) m i first here) (given_has (position_of (wants old chosen)) (members (format skip_causes) old n) q j second there))

  all_fit : All Fits (wants old chosen)
  all_fit = all_of (wants old chosen) ns (wants_among old (is_candidate old a.region) ns)

  slots_are : slots_of old a chosen (wants old chosen) ≡ Ok made.slots
  slots_are = planned_slots old ns a made is_planned

  walks_apart : a.share ≡ true → WalksAreApart (walks old (wants old chosen) chosen) made.slots
  unfolding slots_of
  walks_apart shared =
      let ws = wants old chosen in
      let placed : plan_shared a.rows.now ws (walks old ws chosen) a.region ≡ Ok made.slots = because_ok of_plan (plan_shared a.rows.now ws (walks old ws chosen) a.region) made.slots
      (sym (ap (λ (b : Bool). because of_plan (if b then plan_shared a.rows.now ws (walks old ws chosen) a.region else slot_plan (disjoint a.rows.now ws a.region) ws a.region)) shared) ∙ slots_are) in
      share_laws.slots_apart a.rows.now ws (walks old ws chosen) a.region (Ok made.slots) (aligns_of ws all_fit) placed (spans_of ws all_fit)

  module _ (n m q : List ℕ) (s t : Slot) (candidate : is_candidate old a.region n ≡ true) (first : has (members (format skip_causes) old n) m ≡ true) (second : has (members (format skip_causes) old n) q ≡ true) (unlike : bytes_eq m q ≡ false)
      (here : find (λ x. bytes_eq x.name m) made.slots ≡ Some s) (there : find (λ x. bytes_eq x.name q) made.slots ≡ Some t) where
    shared_beside : a.share ≡ true → is_beside s t ≡ true
    shared_beside shared =
        let ws = wants old chosen in
        let ss = made.slots in
        let serve : Within a.region ws ss = plan_within old a chosen ss all_fit slots_are in
        let b : StandsAt a.region m ws ss s = stands_at a.region m ws ss s serve here in
        let c : StandsAt a.region q ws ss t = stands_at a.region q ws ss t serve there in
        let i : ℕ = slot_place m ss in
        let j : ℕ = slot_place q ss in
        let other : i ≢ j = λ same.
        let one : s ≡ t = same_Some s t (sym b.at ∙ (ap (slice_get ss) same ∙ c.at)) in
        let left : s.name ≡ m = same_name s.name m (found_name m ss s here) in
        let right : t.name ≡ q = same_name t.name q (found_name q ss t there) in
        let named_so : m ≡ q = sym left ∙ (ap (λ (x : Slot). x.name) one ∙ right) in
        false≢true (sym unlike ∙ (ap (bytes_eq m) (sym named_so) ∙ eq_refl m)) in
        let apart = walks_apart shared i j s b.within c.within other (together n m q i j candidate first second b.place c.place) in
        subst (λ (x : Slot). is_beside x t ≡ true) (get_or_from_slice_get ss i s s b.at) (subst (λ (y : Slot). is_beside (get_or ss i s) y ≡ true) (get_or_from_slice_get ss j t s c.at) apart)

    alone_beside : IsDistinct bytes_eq ns → a.share ≡ false → is_beside s t ≡ true
    alone_beside distinct alone = found_beside m q s t made.slots (alone_apart old ns a made distinct alone is_planned) unlike here there

    -- the slots of two libraries of a candidate's walk
    pub beside : IsDistinct bytes_eq ns → is_beside s t ≡ true
    beside distinct = elim (cases_Bool a.share) [
      | inl shared ↦ shared_beside shared
      | inr alone ↦ alone_beside distinct alone
    ]

-- of the valid names of a folder
pub valid_distinct : (files : base.Files) → IsDistinct bytes_eq (valid_names files)
valid_distinct files = distinct_from is_valid_name (keys files) (keys_ascend files)

pub slots_apart : (files : base.Files) (p : Prelinking) (cached : Cache) (made : RunPlan) → p.share ≡ false → planned (named files) (valid_names files) (asked_of p cached) ≡ Ok made → are_apart made.slots ≡ true
slots_apart files p cached made alone is_planned = alone_apart (named files) (valid_names files) (asked_of p cached) made (valid_distinct files) alone is_planned
