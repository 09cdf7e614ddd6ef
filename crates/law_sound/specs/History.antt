-- What a folder held from moment to moment.
use Rattle.std.specs.Prelude.{◌≡◌, ◌⊎◌, ℕ, ◌<◌, true, false, List, [], ◌∷◌, Option, Some, None, if◌then◌else◌}
use Rattle.std.specs.List.{Contains}
use Rattle.std.specs.Str.{bytes_eq}
use Rattle.law_sound.specs.Rule.{Row, Mark, Format, Files, row_at, row_eq, is_marked, matches, Rule}
use Rattle.law_sound.specs.Plan.{Fit, is_candidate, is_current, plan_of, planned_in, IsBounded, all}

-- a run that prelinks everything, with a stamp past the last one; the new last stamp is the run's, or the old one where no file got the run's
pub record IsRun {E : Type 0} (f : Format E) (before after : Files) (last now : ℕ) : Type 0 where
  pub fit : Fit
  pub slots : List ℕ → ℕ
  pub stamp : ℕ
  pub past : last < stamp
  pub is : (n : List ℕ) → after n ≡ all f fit before slots stamp n
  pub counted : (now ≡ stamp) ⊎ ((now ≡ last) × ((n : List ℕ) → is_candidate f fit before n ≡ true → is_current f fit before slots n ≡ false → planned_in f before (plan_of f fit before slots stamp) n ≡ None))

-- files taken away, or put there without a mark
abbrev pub IsEdit : {E : Type 0} → Format E → Files → Files → Type 0
IsEdit f before after = (n file : List ℕ) → after n ≡ Some file → (before n ≡ Some file) ⊎ (f.mark file ≡ None)

-- a step, with the last stamp before and after it
abbrev pub Transition : {E : Type 0} → Format E → Files → Files → ℕ → ℕ → Type 0
Transition f before after last now = (IsRun f before after last now) ⊎ ((IsEdit f before after) × (last ≡ now))

-- the folder now, the folders before it, the newest first, and the last stamp
abbrev pub Happened : {E : Type 0} → Format E → Files → List Files → ℕ → Type 0
Happened f now [] last = Rule f now × IsBounded f now last
Happened f now (before ∷ past) last = (old : ℕ) × Happened f before past old × Transition f before now old last

-- a file that the folder held at some moment
abbrev pub Held : Files → List Files → List ℕ → List ℕ → Type 0
Held now [] n file = now n ≡ Some file
Held now (before ∷ past) n file = (now n ≡ Some file) ⊎ Held before past n file

-- ---- changes of which some were made

-- a name's new file, or that it has none
pub record FileChange : Type 0 where
  pub name : List ℕ
  pub file : Option (List ℕ)

abbrev pub done : Files → List FileChange → Files
done files [] n = files n
done files (c ∷ cs) n = if bytes_eq c.name n then c.file else done files cs n

-- ---- what others may write

-- each name in a list of a file that stayed holds its old bytes, is not marked, or differs from the row; and no changed file matches
pub record IsAllowed {E : Type 0} (f : Format E) (before after : Files) : Type 0 where
  pub listed : (n file : List ℕ) (k : Mark) (r : Row) → before n ≡ Some file → after n ≡ Some file → f.mark file ≡ Some k → Contains k.list r
      → (after r.name ≡ before r.name) ⊎ ((is_marked f after r.name ≡ false) ⊎ (row_eq (row_at f r.name (after r.name)) r ≡ false))
  pub changed : (n : List ℕ) → (after n ≡ before n) ⊎ (matches f after n ≡ false)
