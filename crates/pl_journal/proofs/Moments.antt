-- How a run of calls goes on.
use Rattle.std.proofs.Common.{◌≡◌, inl, inr, ⊎_elim, ℕ, ◌≤◌, List, [], ◌∷◌, length, ◌⊎◌, ◌<◌, sym, subst, arith, take}
use Rattle.pl_folder.specs.Disk.{Name, View, State, Disk, IsCrashImage, after, clock}
use Rattle.pl_folder.specs.Effects.{GrowsDisk, StepsDisk, StepsDiskOrNot, Waited}
use Rattle.pl_folder.specs.Seen.{Ending, Done, Broken, Undone}
use Rattle.pl_folder.specs.States.{appended}
use Rattle.pl_folder.specs.Since.{HadImage, Since, Within, Keeps}

-- before the first call
pub starts : (d : Disk) (P : View → Type 0) → Within d.now P → Keeps d d P
starts d P here = record { later = omega arith; each = λ t v had. inl had; now = here }

-- one call more
pub goes_on : (a b : Disk) (s : State) (P : View → Type 0) → Keeps a b P → Within s P → Keeps a (after s b) P
goes_on a b s P so_far here = record {
  later = omega (arith, so_far.later);
  each = λ t v had. ⊎_elim (λ now. inr (here v now.1)) (so_far.each t v) had;
  now = here;
}

pub joined : (a b c : Disk) (P : View → Type 0) → Keeps a b P → Keeps b c P → Keeps a c P
joined a b c P first second = record {
  later = omega (arith, first.later, second.later);
  each = λ t v had. ⊎_elim (first.each t v) inr (second.each t v had);
  now = second.now;
}

pub weaker : (a b : Disk) (P Q : View → Type 0) → ((v : View) → P v → Q v) → Keeps a b P → Keeps a b Q
weaker a b P Q to keeps = record {
  later = keeps.later;
  each = λ t v had. ⊎_elim inl (λ p. inr (to v p)) (keeps.each t v had);
  now = λ v image. to v (keeps.now v image);
}

-- one call from a disk
pub one_call : (d new : Disk) (s : State) (P : View → Type 0) → new ≡ after s d → Within s P → Keeps d new P
one_call d new s P is here = subst (λ e. Keeps d e P) (sym is) (record { later = omega arith; each = λ t v had. ⊎_elim (λ now. inr (here v now.1)) inl had; now = here })

pub no_call : (d new : Disk) (P : View → Type 0) → new ≡ d → Within d.now P → Keeps d new P
no_call d new P is here = subst (λ e. Keeps d e P) (sym is) (starts d P here)

module _ (d new : Disk) (P : View → Type 0) (here : Within d.now P) where
  waited : Waited d new → Keeps d new P
  waited (inl is) = no_call d new P is here
  waited (inr is) = one_call d new d.now P is here

  pub appends : (e : Ending) (name : Name) (bytes : List ℕ) → ((some : List ℕ) → Within (appended name some d.now) P) → GrowsDisk name bytes e d new → Keeps d new P
  appends Done name bytes there is = one_call d new (appended name bytes d.now) P is (there bytes)
  appends Broken name bytes there (inl is) = waited is
  appends Broken name bytes there (inr some) = one_call d new (appended name (take some.0 bytes) d.now) P some.2 (there (take some.0 bytes))
  appends Undone name bytes there is = no_call d new P is here

  pub does : (e : Ending) (step : State → State) → Within (step d.now) P → StepsDisk step e d new → Keeps d new P
  does Done step there is = one_call d new (step d.now) P is there
  does Broken step there (inl is) = waited is
  does Broken step there (inr is) = one_call d new (step d.now) P is there
  does Undone step there is = no_call d new P is here

  pub does_or_not : (e : Ending) (step : State → State) → Within (step d.now) P → StepsDiskOrNot step e d new → Keeps d new P
  does_or_not Done step there is = one_call d new (step d.now) P is there
  does_or_not Broken step there is = waited is
  does_or_not Undone step there is = no_call d new P is here

-- ---- moment by moment

none_later : (past : List State) (t : ℕ) (v : View) → length past ≤ t → HadImage past t v → ⊥
none_later [] t v le had = had
none_later (s ∷ past) t v le (inl here) = let lt : t ≤ length past = here.0 in absurd (omega arith)
none_later (s ∷ past) t v le (inr there) = none_later past t v (omega arith) there

-- each image since the start is one of the start's, or has P; and only at the start's own moment
pub since_start : (old new : Disk) (P : View → Type 0) → Keeps old new P → (v : View) → Since new (clock old) v → IsCrashImage old.now v ⊎ P v
since_start old new P keeps v had = ⊎_elim
    (λ was. ⊎_elim (λ here. inl here.1) (λ there. absurd (none_later old.past (length old.past) v (omega arith) there)) was)
    inr (keeps.each (clock old) v had)

pub after_start : (old new : Disk) (P : View → Type 0) → Keeps old new P → (t : ℕ) (v : View) → clock old < t → Since new t v → P v
after_start old new P keeps t v lt had = ⊎_elim
    (λ was. ⊎_elim (λ here. let le : t ≤ length old.past = here.0 in absurd (omega arith)) (λ there. absurd (none_later old.past t v (omega arith) there)) was)
    (λ p. p) (keeps.each t v had)
