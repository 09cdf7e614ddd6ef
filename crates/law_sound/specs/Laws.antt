-- What is proved.
use Rattle.std.specs.Prelude.{◌≡◌, ◌⊎◌, ℕ, ◌<◌, ◌≤◌, true, List, Some, None, Ok}
use Rattle.std.specs.List.{All}
use Rattle.pl_object.specs.declared.object.Object.{Object}
use Rattle.pl_elf.specs.declared.kind.Kind.TheVariants.{Library}
use Rattle.pl_scope.specs.declared.fault.WalkFault.{WalkFault}
use Rattle.pl_scope.specs.Members.{has}
use Rattle.law_sound.specs.Rule.{Mark, Format, IsFormat, Files, members, matches, is_verified, Rule}
use Rattle.law_sound.specs.Plan.{Fit, is_current, IsBounded, all}
use Rattle.law_sound.specs.History.{IsEdit, Happened, Held, FileChange, done, IsAllowed}

-- a current name keeps its file, as a run makes it from scratch; and each member of its walk is current
abbrev pub CurrentIsFromScratch : Type 0 → Type 0
CurrentIsFromScratch E = (f : Format E) → IsFormat f → (fit : Fit) (files : Files) (slots : List ℕ → ℕ) (stamp : ℕ) (n : List ℕ) → Rule f files → is_current f fit files slots n ≡ true
    → (all f fit files slots stamp n ≡ files n) × ((m : List ℕ) → has (members f files n) m ≡ true → is_current f fit files slots m ≡ true)

-- what a run leaves meets the rule, from whatever folder
abbrev pub RunsAreSound : Type 0 → Type 0
RunsAreSound E = (f : Format E) → IsFormat f → (fit : Fit) (old : Files) (slots : List ℕ → ℕ) (stamp : ℕ) → Rule f (all f fit old slots stamp)

-- and it leaves each name its original, where a file without a mark is its own
abbrev pub RunsKeepOriginals : Type 0 → Type 0
RunsKeepOriginals E = (f : Format E) → IsFormat f → ((file : List ℕ) → f.mark file ≡ None → f.original file ≡ file) → (fit : Fit) (old : Files) (slots : List ℕ → ℕ) (stamp : ℕ) (n file : List ℕ)
    → all f fit old slots stamp n ≡ Some file → (before : List ℕ) × (old n ≡ Some before) × (f.original file ≡ f.original before)

-- every mixture of old and new files meets the rule
abbrev pub MixturesAreSound : Type 0 → Type 0
MixturesAreSound E = (f : Format E) → IsFormat f → (fit : Fit) (old mixed : Files) (slots : List ℕ → ℕ) (last stamp : ℕ)
    → Rule f old → IsBounded f old last → last < stamp
    → ((n : List ℕ) → (mixed n ≡ old n) ⊎ (mixed n ≡ all f fit old slots stamp n)) → Rule f mixed

-- so does a mixture in which any rows of the journal are done
abbrev pub RowsAreSound : Type 0 → Type 0
RowsAreSound E = (f : Format E) → IsFormat f → (fit : Fit) (old mixed : Files) (slots : List ℕ → ℕ) (last stamp : ℕ) (rows : List FileChange)
    → Rule f old → IsBounded f old last → last < stamp
    → ((n : List ℕ) → (mixed n ≡ old n) ⊎ (mixed n ≡ all f fit old slots stamp n))
    → All (λ c. c.file ≡ all f fit old slots stamp c.name) rows → Rule f (done mixed rows)

-- files taken away, or put there without a mark, keep the rule
abbrev pub EditsAreSound : Type 0 → Type 0
EditsAreSound E = (f : Format E) → IsFormat f → (before after : Files) → Rule f before → IsEdit f before after → Rule f after

-- what others may write keeps the rule
abbrev pub OthersAreSound : Type 0 → Type 0
OthersAreSound E = (f : Format E) → IsFormat f → (before after : Files) → Rule f before → IsAllowed f before after → Rule f after

-- a folder without files meets the rule
abbrev pub NoFilesAreSound : Type 0 → Type 0
NoFilesAreSound E = (f : Format E) → Rule f (λ n. None)

-- so does one in which each name that matches, and each member of its walk, is verified
abbrev pub VerifiedAreSound : Type 0 → Type 0
VerifiedAreSound E = (f : Format E) (files : Files) → ((n m : List ℕ) → matches f files n ≡ true → has (members f files n) m ≡ true → is_verified f files m ≡ true) → Rule f files

-- files each of which was held at some moment meet the rule together; and the last stamp bounds the folder
abbrev pub HistoriesAreSound : Type 0 → Type 0
HistoriesAreSound E = (f : Format E) → IsFormat f → (now : Files) (past : List Files) (last : ℕ) → Happened f now past last
    → IsBounded f now last × ((taken : Files) → ((n file : List ℕ) → taken n ≡ Some file → Held now past n file) → Rule f taken)

-- a name and a stamp name one library file over a whole history
abbrev pub StampsNameFiles : Type 0 → Type 0
StampsNameFiles E = (f : Format E) → IsFormat f → (now : Files) (past : List Files) (last : ℕ) → Happened f now past last
    → (n a b : List ℕ) (j k : Mark) (o p : Object) → Held now past n a → Held now past n b → f.mark a ≡ Some j → f.mark b ≡ Some k
    → f.reads n (f.original a) ≡ Ok o → f.reads n (f.original b) ≡ Ok p → o.kind ≡ Library → p.kind ≡ Library → j.stamp ≡ k.stamp → a ≡ b

-- it is not enough that the run's stamp is past the stamps of the marks: without the list rows mixtures are not sound. A small format shows it, made of any object
abbrev pub MarksDoNotBound : Object → Type 0
MarksDoNotBound object = ((f : Format WalkFault) → IsFormat f → (fit : Fit) (old mixed : Files) (slots : List ℕ → ℕ) (last stamp : ℕ)
    → Rule f old → ((n file : List ℕ) (k : Mark) → old n ≡ Some file → f.mark file ≡ Some k → k.stamp ≤ last) → last < stamp
    → ((n : List ℕ) → (mixed n ≡ old n) ⊎ (mixed n ≡ all f fit old slots stamp n)) → Rule f mixed) → ⊥
