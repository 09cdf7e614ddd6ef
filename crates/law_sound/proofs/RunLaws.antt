-- A run over a folder, and what it may leave.
use Rattle.std.proofs.Common.{◌≡◌, ℕ, ◌<◌, ◌≤◌, true, false, List, [], ◌∷◌, Option, Some, None, Result, Ok, refl, sym, ap, subst, ◌∙◌, arith, inl, inr}
use Rattle.std.specs.Prelude.{◌⊎◌, map, nat_lt}
use Rattle.std.specs.List.{All}
use Rattle.std.specs.Str.{bytes_eq}
use Rattle.std.proofs.lemmas.Bool.{cases_Bool, false≢true}
use Rattle.std.proofs.lemmas.Bool.Decides.{nat_tests}
use Rattle.std.proofs.lemmas.List.Elements.{All-same, All-weaker, All-nil, All-cons}
use Rattle.pl_object.specs.declared.object.Object.{Object}
use Rattle.pl_elf.specs.declared.kind.Kind.TheVariants.{Library}
use Rattle.pl_scope.specs.Walk.{Walked}
use Rattle.pl_scope.specs.Members.{names, others, has}
use Rattle.law_sound.specs.Rule.{Row, Mark, Format, IsFormat, Files, object_at, mark_at, stamp_of, row_of, objects}
use Rattle.law_sound.proofs.Matching.{Matches, RuleAt}
use Rattle.law_sound.proofs.Books.{Book, found, list_of, meant, Good, has_stamp, own, joined, Keeps, IsFrom}
use Rattle.law_sound.specs.Plan.{Fit, is_library_at, is_current, for_library, Plan, plan_of, planned_member, planned_in, all, IsBounded}
use Rattle.law_sound.specs.History.{IsEdit}
use Rattle.pl_scope.proofs.NameLaws.{has_tail, same_name, eq_refl}
use Rattle.pl_scope.proofs.StepLaws.{walk_there}
use Rattle.pl_scope.proofs.ClosureLaws.{WalkTells, walk_is}
use Rattle.law_sound.proofs.RuleLaws.{is_other, other_is, other_library, AgreeOn, rule_from}
use Rattle.law_sound.proofs.BookLaws.{marked_at, found_same, meant_itself, meant_other, rule_from_book, own_good, own_has}
use Rattle.law_sound.proofs.PlanLaws.{IsPlannedFile, planned_is, planned_object, rule_planned, IsCurrent, current_is, current_stamp, new_stamp, all_planned, all_current}

some_same : {X : Type 0} (x y : X) → Some x ≡ Some y → x ≡ y
some_same x y h = cc

none_some : {X : Type 0} (x : X) → None ≡ Some x → ⊥
none_some x h = cc

-- ---- the folder at the start

pub keeps_start : {E : Type 0} (f : Format E) → IsFormat f → (files : Files) (last : ℕ) → ((n : List ℕ) → RuleAt f files n) → IsBounded f files last → Keeps f (λ n file. files n ≡ Some file) (own f files) last
keeps_start f laws files last rule bounded = record {
  covered = λ n file k o there marked is library. own_has f files n file k there marked ∙ there;
  good = λ n file k there marked. own_good f laws files n file there (rule n);
  stamps = bounded.stamps;
  lists = bounded.lists;
}

-- ---- files taken away, or put there without a mark

pub keeps_edit : {E : Type 0} (f : Format E) (seen : List ℕ → List ℕ → Type 0) (book : Book) (last : ℕ) (before after : Files) → Keeps f seen book last → IsFrom seen before → IsEdit f before after → Keeps f (λ n file. (after n ≡ Some file) ⊎ seen n file) book last
keeps_edit f seen book last before after keeps from edit =
    let old : (n file : List ℕ) (k : Mark) → f.mark file ≡ Some k → (after n ≡ Some file) ⊎ seen n file → seen n file = λ n file k marked s.
    elim s [
      | inl there ↦ elim (edit n file there) [ inl was ↦ from n file was | inr bare ↦ absurd (none_some k (sym bare ∙ marked)) ]
      | inr was ↦ was
    ] in
    record {
      covered = λ n file k o s marked is library. keeps.covered n file k o (old n file k marked s) marked is library;
      good = λ n file k s marked. keeps.good n file k (old n file k marked s) marked;
      stamps = λ n file k s marked. keeps.stamps n file k (old n file k marked s) marked;
      lists = λ n file k s marked. keeps.lists n file k (old n file k marked s) marked;
    }

-- ---- a book with more entries, from a stamp on

joined_old : (stamp : ℕ) (old new : Book) (n : List ℕ) (s : ℕ) → s < stamp → joined stamp old new n s ≡ old n s
joined_old stamp old new n s lt = rw (below s stamp lt) refl
  where
    below : (a b : ℕ) → a < b → nat_lt a b ≡ true
    below a b h = grind (arith, nat_tests)

joined_new : (stamp : ℕ) (old new : Book) (n : List ℕ) (s : ℕ) → stamp ≤ s → joined stamp old new n s ≡ new n s
joined_new stamp old new n s le = rw (past s stamp le) refl
  where
    past : (a b : ℕ) → b ≤ a → nat_lt a b ≡ false
    past a b h = grind (arith, nat_tests)

-- keeps a file good whose list is older
pub good_joined : {E : Type 0} (f : Format E) → IsFormat f → (book new : Book) (last stamp : ℕ) (n file : List ℕ) (k : Mark) → f.mark file ≡ Some k → All (λ r. r.stamp ≤ last) k.list → last < stamp → Good f book n file → Good f (joined stamp book new) n file
good_joined f laws book new last stamp n file k marked below lt good h =
    let list_below : All (λ r. r.stamp < stamp) (list_of (f.mark file)) = All-same (λ r. r.stamp < stamp) (list_of (f.mark file)) k.list (ap list_of marked)
    (All-weaker (λ (r : Row). r.stamp ≤ last) (λ r. r.stamp < stamp) (λ r le. omega arith) k.list below) in
    let same : (m : List ℕ) → meant f book n file m ≡ meant f (joined stamp book new) n file m = λ m. elim (cases_Bool (bytes_eq n m)) [
      | inl e ↦ rw e refl
      | inr e ↦ rw e (sym (found_same book (joined stamp book new) m stamp (list_of (f.mark file)) (λ s less. joined_old stamp book new m s less) list_below))
    ] in
    rule_from f laws (meant f (joined stamp book new) n file) (meant f book n file) n h (λ m t. same m) good

-- ---- what a list made of rows finds

found_row : (book : Book) (row : List ℕ → Row) (n : List ℕ) (ns : List (List ℕ)) → ((m : List ℕ) → (row m).name ≡ m) → (found book n (map row ns) ≡ None) ⊎ ((has ns n ≡ true) × (found book n (map row ns) ≡ book n (row n).stamp))
found_row book row n [] named = inl refl
found_row book row n (m ∷ ns) named =
    elim (cases_Bool (bytes_eq m n)) [
      | inl t ↦ inr (rw t refl, rw (named m, t) (ap (λ (k : List ℕ). book n (row k).stamp) (same_name m n t)))
      | inr t ↦ elim (found_row book row n ns named) [ inl e ↦ inl (rw (named m, t) e) | inr p ↦ inr (has_tail m n ns p.0, rw (named m, t) p.1) ]
    ]

own_cases : {E : Type 0} (f : Format E) (files : Files) (n : List ℕ) (s : ℕ) → (own f files n s ≡ None) ⊎ (own f files n s ≡ files n)
own_cases f files n s = elim (cases_Bool (has_stamp (mark_at f (files n)) s)) [ inl t ↦ inr (rw t refl) | inr t ↦ inl (rw t refl) ]

order : (a b : ℕ) → (a < b) ⊎ (b ≤ a)
order a b = elim (cases_Bool (nat_lt a b)) [ inl t ↦ inl (grind (arith, nat_tests)) | inr t ↦ inr (grind (arith, nat_tests)) ]

-- ---- a run that prelinks everything

for_library_le : {E : Type 0} (r : Result Object E) (x y : ℕ) → x ≤ y → for_library r x ≤ y
for_library_le r x y le = elim (cases_Bool (is_library_at r)) [ inl t ↦ rw t le | inr t ↦ rw t (omega arith) ]

of_library : {E : Type 0} (o : Object) (r : Result Object E) (x : ℕ) → r ≡ Ok o → o.kind ≡ Library → for_library r x ≡ x
of_library o r x h e = rw (h, e) refl

rows_below : (row : List ℕ → Row) (stamp : ℕ) (ns : List (List ℕ)) → ((m : List ℕ) → (row m).stamp ≤ stamp) → All (λ r. r.stamp ≤ stamp) (map row ns)
rows_below row stamp [] le = All-nil (λ (r : Row). r.stamp ≤ stamp)
rows_below row stamp (n ∷ ns) le = All-cons (λ (r : Row). r.stamp ≤ stamp) (row n) (map row ns) (le n) (rows_below row stamp ns le)

-- a file after the run, with its mark
record Bears {E : Type 0} (f : Format E) (before : Files) (plan : Plan) (n file : List ℕ) (k : Mark) : Type 0 where
  planned : IsPlannedFile f before plan n file
  is : k ≡ record { version = f.version; slot = for_library (objects f before n) (plan.slot n); stamp = for_library (objects f before n) (plan.stamp n); list = map (λ m. row_of f (planned_member f before plan m)) (others planned.walked) }

pub keeps_run : {E : Type 0} (f : Format E) → IsFormat f → (seen : List ℕ → List ℕ → Type 0) (book : Book) (last stamp : ℕ) (fit : Fit) (slots : List ℕ → ℕ) (before after : Files) → Keeps f seen book last → IsFrom seen before → last < stamp → ((n : List ℕ) → after n ≡ all f fit before slots stamp n)
    → Keeps f (λ n file. (after n ≡ Some file) ⊎ seen n file) (joined stamp book (own f after)) stamp
keeps_run f laws seen book last stamp fit slots before after keeps from past is_all =
    let plan : Plan = plan_of f fit before slots stamp in
    let new : Book = joined stamp book (own f after) in
    let rule : (n : List ℕ) → RuleAt f before n = rule_from_book f laws seen book last before keeps from in
    let planned : (n file : List ℕ) (k : Mark) → after n ≡ Some file → f.mark file ≡ Some k → planned_in f before plan n ≡ Some file = λ n file k there marked.
    (all_planned f laws fit before slots stamp n file k (sym (is_all n) ∙ there) marked).1 in
    let kept : (n : List ℕ) → IsCurrent f fit before slots n → after n ≡ before n = λ n c. is_all n ∙ all_current f laws fit before slots stamp n (rule n) c in
    let after_rule : (n : List ℕ) → RuleAt f after n = rule_planned f laws before after plan planned in
    let stamps : (n : List ℕ) → (IsCurrent f fit before slots n × (plan.stamp n ≡ stamp_of (mark_at f (before n)))) ⊎ (plan.stamp n ≡ stamp) = λ n.
    elim (cases_Bool (is_current f fit before slots n)) [ inl t ↦ inl (current_is f fit before slots n t, current_stamp f fit before slots stamp n t) | inr t ↦ inr (new_stamp f fit before slots stamp n t) ] in
    let old_stamp : (n : List ℕ) (c : IsCurrent f fit before slots n) → stamp_of (mark_at f (before n)) ≡ c.matches.mark.stamp = λ n c. ap (λ (x : Option (List ℕ)). stamp_of (mark_at f x)) c.matches.there ∙ ap stamp_of c.matches.marked in
    let bound : (n : List ℕ) → plan.stamp n ≤ stamp = λ n. elim (stamps n) [
      | inl p ↦ let le : p.0.matches.mark.stamp ≤ last = keeps.stamps n p.0.matches.file p.0.matches.mark (from n p.0.matches.file p.0.matches.there) p.0.matches.marked in omega (arith, p.1, old_stamp n p.0, le, past)
      | inr p ↦ omega (arith, p)
    ] in
    let mark_of : (n file : List ℕ) (k : Mark) (there : after n ≡ Some file) (marked : f.mark file ≡ Some k) → Bears f before plan n file k = λ n file k there marked.
    let p : IsPlannedFile f before plan n file = planned_is f laws before plan n file (planned n file k there marked) in
    record { planned = p; is = some_same k (record { version = f.version; slot = for_library (objects f before n) (plan.slot n); stamp = for_library (objects f before n) (plan.stamp n); list = map (λ m. row_of f (planned_member f before plan m)) (others p.walked) }) (sym marked ∙ p.mark) } in
    let new_agrees : (n file : List ℕ) (k : Mark) → after n ≡ Some file → Bears f before plan n file k → (h : Matches f (meant f new n file) n) → AgreeOn (meant f new n file) after (names h.walked) = λ n file k there b h m t.
    let view : Files = meant f new n file in
    let ws : Walked = b.planned.walked in
    let row : List ℕ → Row = λ q. row_of f (planned_member f before plan q) in
    let i : WalkTells (objects f view) n h.walked = walk_is f.walks (objects f view) n h.walked h.walks in
    let w : WalkTells (objects f before) n ws = walk_is f.walks (objects f before) n ws b.planned.walks in
    elim (cases_Bool (bytes_eq n m)) [
      | inl e ↦ subst (λ (q : List ℕ). after q ≡ view q) (same_name n m e) (there ∙ sym (meant_itself f new n file))
      | inr e ↦ elim (is_other (objects f view) n m h.walked i t) [
        | inl s ↦ absurd (false≢true (sym e ∙ (ap (λ (q : List ℕ). bytes_eq q m) s ∙ eq_refl m)))
        | inr s ↦
            let g : (g : List ℕ) × (k' : Mark) × (view m ≡ Some g) × (f.mark g ≡ Some k') = marked_at f (view m) (h.each m s) in
            let view_is : view m ≡ found new m (map row (others ws)) = meant_other f new n file m e ∙ ap (found new m) (ap list_of b.planned.mark) in
            elim (found_row new row m (others ws) (λ q. refl)) [
              | inl none ↦ absurd (none_some g.0 (sym (view_is ∙ none) ∙ g.2))
              | inr q ↦ elim (order (row m).stamp stamp) [
                | inr le ↦ elim (own_cases f after m (row m).stamp) [
                  | inl none ↦ absurd (none_some g.0 (sym (view_is ∙ (q.1 ∙ (joined_new stamp book (own f after) m (row m).stamp le ∙ none))) ∙ g.2))
                  | inr is ↦ sym (view_is ∙ (q.1 ∙ (joined_new stamp book (own f after) m (row m).stamp le ∙ is)))
                ]
                | inl lt ↦
                    let o : (o : Object) × (objects f before m ≡ Ok o) = walk_there f.walks (objects f before) n ws b.planned.walks m (other_is (objects f before) n m ws w q.0) in
                    let library : o.0.kind ≡ Library = other_library (objects f before) n m ws o.0 w q.0 o.1 in
                    let stamp_is : (row m).stamp ≡ plan.stamp m = of_library o.0 (objects f before m) (plan.stamp m) o.1 library in
                    elim (stamps m) [
                      | inl p ↦
                          let c : Matches f before m = p.0.matches in
                          let covered : book m c.mark.stamp ≡ Some c.file = keeps.covered m c.file c.mark o.0 (from m c.file c.there) c.marked (sym (ap (object_at f m) c.there) ∙ o.1) library in
                          kept m p.0 ∙ (c.there ∙ sym (view_is ∙ (q.1 ∙ (joined_old stamp book (own f after) m (row m).stamp lt ∙ (ap (book m) (stamp_is ∙ (p.1 ∙ old_stamp m p.0)) ∙ covered)))))
                      | inr p ↦ absurd (omega (arith, lt, stamp_is, p))
                    ]
              ]
            ]
      ]
    ] in
    let old_covered : (n file : List ℕ) (k : Mark) (o : Object) → seen n file → f.mark file ≡ Some k → f.reads n (f.original file) ≡ Ok o → o.kind ≡ Library → new n k.stamp ≡ Some file = λ n file k o was marked is library.
    joined_old stamp book (own f after) n k.stamp (omega (arith, keeps.stamps n file k was marked, past)) ∙ keeps.covered n file k o was marked is library in
    record {
      covered = λ n file k o s marked is library. elim s [
        | inl there ↦
            let b : Bears f before plan n file k = mark_of n file k there marked in
            let stamp_is : k.stamp ≡ plan.stamp n = ap (λ (x : Mark). x.stamp) b.is ∙ of_library o (objects f before n) (plan.stamp n) (planned_object f before after plan n file b.planned there ∙ (ap (object_at f n) there ∙ is)) library in
            elim (stamps n) [
              | inl p ↦ old_covered n file k o (from n file (sym (kept n p.0) ∙ there)) marked is library
              | inr p ↦ joined_new stamp book (own f after) n k.stamp (omega (arith, stamp_is, p)) ∙ (own_has f after n file k there marked ∙ there)
            ]
        | inr was ↦ old_covered n file k o was marked is library
      ];
      good = λ n file k s marked. elim s [
        | inl there ↦ λ h.
            let b : Bears f before plan n file k = mark_of n file k there marked in
            rule_from f laws (meant f new n file) after n h (new_agrees n file k there b h) (after_rule n)
        | inr was ↦ good_joined f laws book (own f after) last stamp n file k marked (keeps.lists n file k was marked) past (keeps.good n file k was marked)
      ];
      stamps = λ n file k s marked. elim s [
        | inl there ↦ let b : Bears f before plan n file k = mark_of n file k there marked in rw b.is (for_library_le (objects f before n) (plan.stamp n) stamp (bound n))
        | inr was ↦ omega (arith, keeps.stamps n file k was marked, past)
      ];
      lists = λ n file k s marked. elim s [
        | inl there ↦ let b : Bears f before plan n file k = mark_of n file k there marked in
            All-same (λ (r : Row). r.stamp ≤ stamp) k.list (map (λ m. row_of f (planned_member f before plan m)) (others b.planned.walked)) (ap (λ (x : Mark). x.list) b.is)
            (rows_below (λ m. row_of f (planned_member f before plan m)) stamp (others b.planned.walked) (λ m. for_library_le (objects f before m) (plan.stamp m) stamp (bound m)))
        | inr was ↦ All-weaker (λ (r : Row). r.stamp ≤ last) (λ r. r.stamp ≤ stamp) (λ r le. omega (arith, le, past)) k.list (keeps.lists n file k was marked)
      ];
    }
