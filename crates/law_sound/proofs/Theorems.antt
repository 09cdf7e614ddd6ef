-- The laws.
use Rattle.std.proofs.Common.{◌≡◌, ℕ, zero, suc, true, false, List, [], ◌∷◌, Option, Some, None, Ok, refl, sym, ap, subst, ◌∙◌, arith, inl, inr}
use Rattle.std.specs.Prelude.{◌⊎◌, Bool, map, if◌then◌else◌}
use Rattle.std.specs.Option.{option_or, option_map}
use Rattle.std.specs.List.{All, Contains}
use Rattle.std.specs.Str.{bytes_eq}
use Rattle.std.proofs.lemmas.Bool.{cases_Bool, false≢true}
use Rattle.std.proofs.lemmas.List.Elements.{All-head, All-tail}
use Rattle.pl_object.specs.declared.object.Object.{Object}
use Rattle.pl_scope.specs.Members.{names, others, has}
use Rattle.law_sound.specs.Rule.{Row, Mark, Format, IsFormat, Files, object_at, original_at, row_at, objects, is_marked, is_same, prelinked_in}
use Rattle.law_sound.specs.Plan.{Fit, is_candidate, is_current, plan_of, planned_in, all}
use Rattle.law_sound.specs.History.{IsEdit, Happened, Held, FileChange, done}
use Rattle.law_sound.specs.Laws.{CurrentIsFromScratch, RunsAreSound, RunsKeepOriginals, MixturesAreSound, RowsAreSound, EditsAreSound, OthersAreSound, NoFilesAreSound, VerifiedAreSound, HistoriesAreSound, StampsNameFiles}
use Rattle.pl_scope.proofs.NameLaws.{has_cons, same_name}
use Rattle.pl_scope.proofs.StepLaws.{err_ok}
use Rattle.pl_scope.proofs.ClosureLaws.{WalkTells, walk_is}
use Rattle.law_sound.proofs.Matching.{RuleAt, and_both, tells_back, members_are, rule_in, rule_out, row_eq_itself}
use Rattle.law_sound.proofs.RuleLaws.{is_other, AgreeOn, rule_from}
use Rattle.law_sound.proofs.Books.{Book, own, joined, Keeps, IsFrom}
use Rattle.law_sound.proofs.BookLaws.{marked_at, rule_from_book}
use Rattle.law_sound.proofs.PlanLaws.{IsPlannedFile, planned_is, IsCurrent, current_is, current_back, current_within, all_planned, all_current, rule_planned}
use Rattle.law_sound.proofs.RunLaws.{keeps_start, keeps_edit, keeps_run}

some_same : {X : Type 0} (x y : X) → Some x ≡ Some y → x ≡ y
some_same x y h = cc

none_some : {X : Type 0} (x : X) → None ≡ Some x → ⊥
none_some x h = cc

pub from_scratch : {E : Type 0} → CurrentIsFromScratch E
from_scratch f laws fit files slots stamp n rule h =
    let c : IsCurrent f fit files slots n = current_is f fit files slots n h in (
      all_current f laws fit files slots stamp n (rule_out f files rule n) c,
      λ m t. current_back f fit files slots m (current_within f laws fit files slots n m c (sym (ap (λ (ns : List (List ℕ)). has ns m) (members_are f files n c.matches.walked c.matches.walks)) ∙ t)),
    )

pub runs : {E : Type 0} → RunsAreSound E
runs f laws fit old slots stamp = rule_in f (all f fit old slots stamp) (rule_planned f laws old (all f fit old slots stamp) (plan_of f fit old slots stamp) (λ m file k there marked. (all_planned f laws fit old slots stamp m file k there marked).1))

-- the old file of a name whose new file has its original
abbrev pub HasOriginal : {E : Type 0} → Format E → Option (List ℕ) → List ℕ → Type 0
HasOriginal f old file = (before : List ℕ) × (old ≡ Some before) × (f.original file ≡ f.original before)

of_walked : {E : Type 0} (f : Format E) (n file : List ℕ) (o : Object) (old : Option (List ℕ)) → object_at f n old ≡ Ok o → f.original file ≡ original_at f old → HasOriginal f old file
of_walked f n file o None there is = absurd (err_ok (f.absent n) o there)
of_walked f n file o (Some before) there is = (before, refl, is)

of_original : {E : Type 0} (f : Format E) → IsFormat f → ((file : List ℕ) → f.mark file ≡ None → f.original file ≡ file) → (file : List ℕ) (old : Option (List ℕ)) → option_map f.original old ≡ Some file → HasOriginal f old file
of_original f laws bare file None h = absurd (none_some file h)
of_original f laws bare file (Some before) h = (before, refl, ap f.original (sym (some_same (f.original before) file h)) ∙ bare (f.original before) (laws.bare before))

pub originals : {E : Type 0} → RunsKeepOriginals E
originals f laws bare fit old slots stamp n file h = of_parts (is_candidate f fit old n) (planned_in f old (plan_of f fit old slots stamp) n) refl h
  where
    of_parts : (b : Bool) (planned : Option (List ℕ)) → planned_in f old (plan_of f fit old slots stamp) n ≡ planned → option_or (if b then planned else None) (option_map f.original (old n)) ≡ Some file → HasOriginal f (old n) file
    of_parts true (Some p) is h =
        let made : IsPlannedFile f old (plan_of f fit old slots stamp) n file = planned_is f laws old (plan_of f fit old slots stamp) n file (is ∙ h) in
        let i : WalkTells (objects f old) n made.walked = walk_is f.walks (objects f old) n made.walked made.walks in
        of_walked f n file i.object (old n) i.file made.original
    of_parts true None is h = of_original f laws bare file (old n) h
    of_parts false planned is h = of_original f laws bare file (old n) h

pub no_files : {E : Type 0} → NoFilesAreSound E
no_files f n m h t = absurd (false≢true h)

same_is : (a b : Option (List ℕ)) → is_same a b ≡ true → a ≡ b
same_is None b h = absurd (false≢true h)
same_is (Some a) None h = absurd (false≢true h)
same_is (Some a) (Some b) h = ap (λ (z : List ℕ). Some z) (same_name a b h)

pub verified : {E : Type 0} → VerifiedAreSound E
verified f files each n m h t = same_is (prelinked_in f files m) (files m) (and_both (is_marked f files m) (is_same (prelinked_in f files m) (files m)) (each n m h t)).1

pub mixtures : {E : Type 0} → MixturesAreSound E
mixtures f laws fit old mixed slots last stamp rule bounded past each =
    let after : Files = all f fit old slots stamp in
    let start : Keeps f (λ n file. old n ≡ Some file) (own f old) last = keeps_start f laws old last (rule_out f old rule) bounded in
    let keeps : Keeps f (λ n file. (after n ≡ Some file) ⊎ (old n ≡ Some file)) (joined stamp (own f old) (own f after)) stamp = keeps_run f laws (λ n file. old n ≡ Some file) (own f old) last stamp fit slots old after start (λ n file t. t) past (λ n. refl) in
    rule_in f mixed (rule_from_book f laws (λ n file. (after n ≡ Some file) ⊎ (old n ≡ Some file)) (joined stamp (own f old) (own f after)) stamp mixed keeps (λ n file t. elim (each n) [ inl e ↦ inr (sym e ∙ t) | inr e ↦ inl (sym e ∙ t) ]))

done_each : (old after mixed : Files) (changes : List FileChange) → ((n : List ℕ) → (mixed n ≡ old n) ⊎ (mixed n ≡ after n)) → All (λ c. c.file ≡ after c.name) changes → (n : List ℕ) → (done mixed changes n ≡ old n) ⊎ (done mixed changes n ≡ after n)
done_each old after mixed [] each all n = each n
done_each old after mixed (c ∷ changes) each all n =
    elim (cases_Bool (bytes_eq c.name n)) [
      | inl t ↦ inr (rw t (All-head (λ (x : FileChange). x.file ≡ after x.name) c changes all ∙ ap after (same_name c.name n t)))
      | inr t ↦ rw t (done_each old after mixed changes each (All-tail (λ (x : FileChange). x.file ≡ after x.name) c changes all) n)
    ]

pub rows : {E : Type 0} → RowsAreSound E
rows f laws fit old mixed slots last stamp changes rule bounded past each are =
    mixtures f laws fit old (done mixed changes) slots last stamp rule bounded past (done_each old (all f fit old slots stamp) mixed changes each are)

-- the rule at a name whose members all stand in a folder that meets it
pub edits : {E : Type 0} → EditsAreSound E
edits f laws before after rule edit = rule_in f after (λ n h.
    let same : (m file : List ℕ) (k : Mark) → after m ≡ Some file → f.mark file ≡ Some k → before m ≡ after m = λ m file k there marked.
    elim (edit m file there) [ inl was ↦ was ∙ sym there | inr bare ↦ absurd (none_some k (sym bare ∙ marked)) ] in
    let i : WalkTells (objects f after) n h.walked = walk_is f.walks (objects f after) n h.walked h.walks in
    let agree : AgreeOn after before (names h.walked) = λ m t. elim (is_other (objects f after) n m h.walked i t) [
      | inl e ↦ subst (λ (q : List ℕ). before q ≡ after q) e (same n h.file h.mark h.there h.marked)
      | inr s ↦ let g : (g : List ℕ) × (k : Mark) × (after m ≡ Some g) × (f.mark g ≡ Some k) = marked_at f (after m) (h.each m s) in same m g.0 g.1 g.2 g.3
    ] in
    rule_from f laws after before n h agree (rule_out f before rule n))

in_map : (row : List ℕ → Row) (ns : List (List ℕ)) (m : List ℕ) → has ns m ≡ true → Contains (map row ns) (row m)
in_map row [] m t = absurd (false≢true t)
in_map row (n ∷ ns) m t = elim (has_cons n m ns t) [
  | inl e ↦ (zero, omega arith, ap row e)
  | inr r ↦ let i : Contains (map row ns) (row m) = in_map row ns m r in (suc i.0, omega (arith, i.1), i.2)
]

pub others_write : {E : Type 0} → OthersAreSound E
others_write f laws before after rule allowed = rule_in f after (λ n h.
    let stayed : after n ≡ before n = elim (allowed.changed n) [ inl e ↦ e | inr none ↦ absurd (false≢true (sym none ∙ tells_back f after n h)) ] in
    let i : WalkTells (objects f after) n h.walked = walk_is f.walks (objects f after) n h.walked h.walks in
    let agree : AgreeOn after before (names h.walked) = λ m t. elim (is_other (objects f after) n m h.walked i t) [
      | inl e ↦ subst (λ (q : List ℕ). before q ≡ after q) e (sym stayed)
      | inr s ↦
          let listed : Contains h.mark.list (row_at f m (after m)) = subst (λ (z : List Row). Contains z (row_at f m (after m))) (sym h.list) (in_map (λ q. row_at f q (after q)) (others h.walked) m s) in
          elim (allowed.listed n h.file h.mark (row_at f m (after m)) (sym stayed ∙ h.there) h.there h.marked listed) [
            | inl e ↦ sym e
            | inr other ↦ elim other [
              | inl bare ↦ absurd (false≢true (sym bare ∙ h.each m s))
              | inr differs ↦ absurd (false≢true (sym differs ∙ row_eq_itself (row_at f m (after m))))
            ]
          ]
    ] in
    rule_from f laws after before n h agree (rule_out f before rule n))

-- ---- histories

held_now : (now : Files) (past : List Files) → IsFrom (Held now past) now
held_now now [] n file t = t
held_now now (before ∷ past) n file t = inl t

-- a run that gave no file its stamp took files away at most
run_edits : {E : Type 0} (f : Format E) → IsFormat f → (fit : Fit) (before after : Files) (slots : List ℕ → ℕ) (stamp : ℕ) → ((n : List ℕ) → RuleAt f before n) → ((n : List ℕ) → after n ≡ all f fit before slots stamp n)
    → ((n : List ℕ) → is_candidate f fit before n ≡ true → is_current f fit before slots n ≡ false → planned_in f before (plan_of f fit before slots stamp) n ≡ None) → IsEdit f before after
run_edits f laws fit before after slots stamp rule is none n file there = of_mark (f.mark file) refl
  where
    of_mark : (k : Option Mark) → f.mark file ≡ k → (before n ≡ Some file) ⊎ (f.mark file ≡ None)
    of_mark None marked = inr marked
    of_mark (Some k) marked =
        let p : (is_candidate f fit before n ≡ true) × (planned_in f before (plan_of f fit before slots stamp) n ≡ Some file) = all_planned f laws fit before slots stamp n file k (sym (is n) ∙ there) marked in
        elim (cases_Bool (is_current f fit before slots n)) [
          | inl t ↦ inl (sym (all_current f laws fit before slots stamp n (rule n) (current_is f fit before slots n t)) ∙ (sym (is n) ∙ there))
          | inr t ↦ absurd (none_some file (sym (none n p.0 t) ∙ p.1))
        ]

pub happened_keeps : {E : Type 0} (f : Format E) → IsFormat f → (now : Files) (past : List Files) (last : ℕ) → Happened f now past last → (book : Book) × Keeps f (Held now past) book last
happened_keeps f laws now [] last h = (own f now, keeps_start f laws now last (rule_out f now h.0) h.1)
happened_keeps f laws now (before ∷ past) last h =
    let i : (book : Book) × Keeps f (Held before past) book h.0 = happened_keeps f laws before past h.0 h.1 in
    let from : IsFrom (Held before past) before = held_now before past in
    let rule : (n : List ℕ) → RuleAt f before n = rule_from_book f laws (Held before past) i.0 h.0 before i.1 from in
    elim h.2 [
      | inl run ↦ elim run.counted [
        | inl e ↦ (joined run.stamp i.0 (own f now), subst (λ (s : ℕ). Keeps f (Held now (before ∷ past)) (joined run.stamp i.0 (own f now)) s) (sym e) (keeps_run f laws (Held before past) i.0 h.0 run.stamp run.fit run.slots before now i.1 from run.past run.is))
        | inr e ↦ (i.0, subst (λ (s : ℕ). Keeps f (Held now (before ∷ past)) i.0 s) (sym e.0) (keeps_edit f (Held before past) i.0 h.0 before now i.1 from (run_edits f laws run.fit before now run.slots run.stamp rule run.is e.1)))
      ]
      | inr edit ↦ (i.0, subst (λ (s : ℕ). Keeps f (Held now (before ∷ past)) i.0 s) edit.1 (keeps_edit f (Held before past) i.0 h.0 before now i.1 from edit.0))
    ]

pub histories : {E : Type 0} → HistoriesAreSound E
histories f laws now past last h =
    let k : (book : Book) × Keeps f (Held now past) book last = happened_keeps f laws now past last h in (
      record { stamps = λ n file j there marked. k.1.stamps n file j (held_now now past n file there) marked; lists = λ n file j there marked. k.1.lists n file j (held_now now past n file there) marked },
      λ taken from. rule_in f taken (rule_from_book f laws (Held now past) k.0 last taken k.1 from),
    )

pub one_file : {E : Type 0} → StampsNameFiles E
one_file f laws now past last h n a b j k o p held_a held_b mark_a mark_b reads_a reads_b lib_a lib_b same =
    let keeps : (book : Book) × Keeps f (Held now past) book last = happened_keeps f laws now past last h in
    some_same a b (sym (keeps.1.covered n a j o held_a mark_a reads_a lib_a) ∙ (ap (keeps.0 n) same ∙ keeps.1.covered n b k p held_b mark_b reads_b lib_b))
