-- Sound folders, and what a crash leaves of them.
use Rattle.std.proofs.Common.{◌≡◌, ℕ, Bool, true, false, List, [], Option, Some, None, Ok, refl, sym, ap, subst, ◌∙◌, inl, inr}
use Rattle.std.specs.Prelude.{◌||◌, if◌then◌else◌}
use Rattle.std.specs.FinMap.{get}
use Rattle.std.proofs.lemmas.Bool.{cases_Bool, cond-false}
use Rattle.pl_base.specs.Files.{Files}
use Rattle.pl_base.specs.Names.{is_valid_name}
use Rattle.pl_conflict.specs.Format.{Rule, format}
use Rattle.pl_conflict.proofs.FormatLaws.{format_kept}
use Rattle.pl_folder.specs.Disk.{Name, View, same}
use Rattle.pl_journal.specs.Meaning.{Agree, StandsBetween, mixed}
use Rattle.pl_journal.specs.Names.{cache, is_journal_name, journal}
use Rattle.pl_journal.specs.Rows.{all_done, done, done_by, done_from, recovered, rows_in}
use Rattle.pl_journal.specs.declared.change.Change.{Change}
use Rattle.pl_journal.specs.declared.row.Row.{Row}
use Rattle.pl_journal.proofs.Done.{done_is, none_done, recovered_by, row_not_own}
use Rattle.pl_rewrite.specs.Skipped.{skip_causes}
use Rattle.law_sound.proofs.Theorems.{no_files, others_write, verified}
use Rattle.pl_change.specs.Commands.{IsBefore, Meaning}
use Rattle.law_folder.specs.Laws.{EmptyIsSound, OthersStaySound, RecoveredKeepTheRule, RecoveriesStaySound, RuleIsEnough, RunsStaySound, SettledAreSound, SoundKeepTheRule, VerifiedAreSound}
use Rattle.law_folder.specs.Safe.{AreSafe, IsSafe}
use Rattle.law_folder.specs.Sound.{IsSound, KeepsTheRule, named}

-- ---- names

or_true : (b : Bool) → (true || b) ≡ true
or_true true = refl
or_true false = refl

-- a valid name is none of the journal's own
pub valid_foreign : (n : Name) → is_valid_name n ≡ true → is_journal_name n ≡ false
valid_foreign n valid = row_not_own n (ap (λ (b : Bool). b || same n cache) valid ∙ or_true (same n cache))

pub named_valid : (v : View) (n : Name) → is_valid_name n ≡ true → named v n ≡ v n
named_valid v n valid = ap (λ (b : Bool). if b then v n else None) valid

pub named_other : (v : View) (n : Name) → is_valid_name n ≡ false → named v n ≡ None
named_other v n other = ap (λ (b : Bool). if b then v n else None) other

named_same : (v w : View) → Agree v w → (n : Name) → named v n ≡ named w n
named_same v w agree n = elim (cases_Bool (is_valid_name n)) [
  | inl valid ↦ named_valid v n valid ∙ (agree n (valid_foreign n valid) ∙ sym (named_valid w n valid))
  | inr other ↦ named_other v n other ∙ sym (named_other w n other)
]

-- the rule does not look at the journal's own names
pub rule_same : (v w : View) → Agree v w → KeepsTheRule v → KeepsTheRule w
rule_same v w agree rule = let path : named v ≡ named w = λ i n. named_same v w agree n i in subst (Rule skip_causes) path rule

-- ---- sound folders

recovered_done : (v : View) (o : Option (List Row)) → rows_in (v journal) ≡ o → Agree (done (λ _. true) v) (recovered v)
unfolding done recovered
recovered_done v None is n foreign =
    ap (λ (o : Option (List Row)). done_by o (λ _. true) v n) is ∙ sym (ap (λ (o : Option (List Row)). all_done o v n) is)
recovered_done v (Some rows) is n foreign =
    done_is (λ _. true) v rows is n ∙ (sym (cond-false (is_journal_name n) None (done_from 0 rows (λ _. true) v n) foreign) ∙ sym (recovered_by v rows is n))

pub recovered_keep : RecoveredKeepTheRule
recovered_keep v sound = rule_same (done (λ _. true) v) (recovered v) (recovered_done v (rows_in (v journal)) refl) (sound (λ _. true))

none_stands : (v : View) (o : Option (List Row)) → rows_in (v journal) ≡ o → Agree (done (λ _. false) v) v
unfolding done
none_stands v None is n foreign = ap (λ (o : Option (List Row)). done_by o (λ _. false) v n) is
none_stands v (Some rows) is n foreign = done_is (λ _. false) v rows is n ∙ none_done 0 rows v n

pub sound_keep : SoundKeepTheRule
sound_keep v sound = rule_same (done (λ _. false) v) v (none_stands v (rows_in (v journal)) refl) (sound (λ _. false))

-- where there are no rows the rule is enough
pub no_rows : (v : View) → rows_in (v journal) ≡ Some [] → KeepsTheRule v → IsSound v
no_rows v none rule rows = rule_same v (done rows v) (λ n foreign. sym (done_is rows v [] none n)) rule

pub rule_enough : RuleIsEnough
rule_enough v none rule = no_rows v (ap rows_in none) rule

pub empty_sound : EmptyIsSound
empty_sound = rule_enough (λ n. None) refl empty
  where
    none : (n : Name) → ◌≡◌ {A = Option (List ℕ)} None (named (λ n. None) n)
    none n = elim (cases_Bool (is_valid_name n)) [ inl valid ↦ sym (named_valid (λ n. None) n valid) | inr other ↦ sym (named_other (λ n. None) n other) ]

    empty : KeepsTheRule (λ n. None)
    empty =
        let path : ◌≡◌ {A = Name → Option (List ℕ)} (λ n. None) (named (λ n. None)) = λ i n. none n i in
        subst (Rule skip_causes) path (no_files (format skip_causes))

pub others_sound : OthersStaySound
others_sound before after none gone sound allowed = rule_enough after gone (others_write (format skip_causes) (format_kept skip_causes) (named before) (named after) (sound_keep before sound) allowed)

pub verified_sound : VerifiedAreSound
verified_sound v none each = rule_enough v none (verified (format skip_causes) (named v) each)

-- ---- images

pub recoveries_sound : RecoveriesStaySound
recoveries_sound old v sound stands rows = let a = stands.any rows in rule_same (done a.0 old) (done rows v) (λ n foreign. sym (a.1 n foreign)) (sound a.0)

pub between_sound : (before v : View) (rows : List Change) → AreSafe rows before → StandsBetween before rows v → IsSound v
between_sound before v rows safe stands some =
    let a = stands.any some in
    rule_same (mixed 0 rows a.0 before) (done some v) (λ n foreign. sym (a.1 n foreign)) (safe a.0)

-- the files that a folder stands for
pub before_path : (old : View) (before : Files) → IsBefore old before → get before ≡ recovered old
before_path old before is = λ i n. is n i

pub before_keeps : (old : View) (before : Files) → IsSound old → IsBefore old before → KeepsTheRule (get before)
before_keeps old before sound is = subst KeepsTheRule (sym (before_path old before is)) (recovered_keep old sound)

pub run_safe : {C : Type 0} (meant : Meaning C) (old : View) (before : Files) (rows : List Change) → IsSafe meant → IsSound old → IsBefore old before → meant before ≡ Ok rows → AreSafe rows (recovered old)
run_safe meant old before rows safe sound is means = subst (AreSafe rows) (before_path old before is) (safe.safe before rows means (before_keeps old before sound is))

pub runs_sound : {C : Type 0} → RunsStaySound C
runs_sound meant old v before rows safe sound is means stands = between_sound (recovered old) v rows (run_safe meant old before rows safe sound is means) stands

pub settled_sound : SettledAreSound
settled_sound files s settled rule v image =
    let path : files ≡ v = λ i n. settled.only v image n i in
    rule_enough v (sym (settled.only v image journal) ∙ settled.no_own journal refl) (subst KeepsTheRule path rule)
