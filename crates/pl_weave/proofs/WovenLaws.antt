-- Where the events of a weave lead its loaders.
use Rattle.std.proofs.Common.{◌≡◌, ℕ, zero, suc, List, [], ◌∷◌, map, Option, Some, None, refl, sym, subst}
use Rattle.std.specs.Prelude.{fold, slice_get}
use Rattle.pl_base.specs.Files.{Files}
use Rattle.pl_place.specs.Policy.{Choice}
use Rattle.pl_script.specs.declared.script.Event.{Event}
use Rattle.pl_script.specs.declared.script.Event.TheVariants.{Open, Rename}
use Rattle.pl_weave.specs.Laws.{WovenAreLed}
use Rattle.pl_weave.specs.Opening.{IsLed, Opened, opened, wanted}
use Rattle.pl_weave.specs.Runs.{begun}
use Rattle.pl_weave.specs.Taking.{held_file}
use Rattle.pl_weave.specs.Weaving.{Weaving, after, opened_at, opened_by, opened_once}
use Rattle.pl_weave.proofs.LedLaws.{events_lead}

-- each loader is where the files that it saw lead it
abbrev AllLed : Choice → List (List ℕ) → List (Opened (Unit {0})) → Type 0
AllLed choose [] [] = Unit {0}
AllLed choose [] (o ∷ os) = ⊥
AllLed choose (name ∷ names) [] = ⊥
AllLed choose (name ∷ names) (o ∷ os) = IsLed choose name o × AllLed choose names os

all_begun : (choose : Choice) (names : List (List ℕ)) → AllLed choose names (map (opened tt) names)
all_begun choose [] = tt
all_begun choose (name ∷ names) = (refl, all_begun choose names)

once_led : (choose : Choice) (files : Files) (name : List ℕ) (o : Opened (Unit {0})) → IsLed choose name o → IsLed choose name (opened_once choose files o)
once_led choose files name o led = by (wanted o) refl
  where
    by : (n : Option (List ℕ)) → wanted o ≡ n → IsLed choose name (opened_by choose files o n)
    by None is = led
    by (Some n) is = events_lead choose o name n (held_file files n) led is

at_led : (choose : Choice) (files : Files) (k : ℕ) (names : List (List ℕ)) (os : List (Opened (Unit {0}))) → AllLed choose names os → AllLed choose names (opened_at choose files k os)
at_led choose files k [] [] led = tt
at_led choose files k [] (o ∷ os) led = absurd led
at_led choose files k (name ∷ names) [] led = absurd led
at_led choose files zero (name ∷ names) (o ∷ os) led = (once_led choose files name o led.0, led.1)
at_led choose files (suc k) (name ∷ names) (o ∷ os) led = (led.0, at_led choose files k names os led.1)

after_led : (choose : Choice) (names : List (List ℕ)) (w : Weaving) (event : Event) → AllLed choose names w.loaders → AllLed choose names (after choose w event).loaders
after_led choose names w (Open loader) led = at_led choose w.runs.files loader names w.loaders led
after_led choose names w Rename led = led

all_led : (choose : Choice) (names : List (List ℕ)) (w : Weaving) (events : List Event) → AllLed choose names w.loaders → AllLed choose names (fold (after choose) w events).loaders
all_led choose names w [] led = led
all_led choose names w (event ∷ events) led = all_led choose names (after choose w event) events (after_led choose names w event led)

some_name : (a b : List ℕ) → ◌≡◌ {A = Option (List ℕ)} (Some a) (Some b) → a ≡ b
some_name a b e = cc

some_loader : (a b : Opened (Unit {0})) → ◌≡◌ {A = Option (Opened (Unit {0}))} (Some a) (Some b) → a ≡ b
some_loader a b e = cc

none_loader : (b : Opened (Unit {0})) → ◌≡◌ {A = Option (Opened (Unit {0}))} None (Some b) → ⊥
none_loader b e = cc

one_led : (choose : Choice) (names : List (List ℕ)) (os : List (Opened (Unit {0}))) (k : ℕ) (name : List ℕ) (o : Opened (Unit {0})) → AllLed choose names os → slice_get names k ≡ Some name → slice_get os k ≡ Some o → IsLed choose name o
one_led choose [] [] k name o led named there = absurd (none_loader o there)
one_led choose [] (p ∷ os) k name o led named there = absurd led
one_led choose (n ∷ names) [] k name o led named there = absurd led
one_led choose (n ∷ names) (p ∷ os) zero name o led named there =
    subst (λ (m : List ℕ). IsLed choose m o) (some_name n name named) (subst (λ (q : Opened (Unit {0})). IsLed choose n q) (some_loader p o there) led.0)
one_led choose (n ∷ names) (p ∷ os) (suc k) name o led named there = one_led choose names os k name o led.1 named there

pub woven_are_led : WovenAreLed
woven_are_led choose files names runs events k name o named there =
    one_led choose names (fold (after choose) (record { loaders = map (opened tt) names; runs = begun files [] runs }) events).loaders k name o (all_led choose names _ events (all_begun choose names)) named there
