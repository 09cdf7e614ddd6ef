use Rattle.std.proofs.Common.{◌≡◌, ℕ, ◌<◌, ◌-◌, List, [], ◌∷◌, length, take, drop, get_or, false, Option, refl, sym, ap, ◌∙◌, arith}
use Rattle.std.proofs.lemmas.List.{take_all}
use Rattle.std.proofs.lemmas.Option.{slice_get_read}
use Rattle.pl_cone.specs.Currency.{holds, holds_at, is_held}
use Rattle.pl_cone.specs.declared.taken.Taken.{Taken}
use Rattle.pl_cone.proofs.WalkLaws.{others_are}
use Rattle.pl_cone.proofs.currency.is_held.Goals as goal

first : (ts : List Taken) (walk : List ℕ) (t : Taken) (place : ℕ) → 0 < length walk → get_or walk 0 0 < length ts → t ≡ get_or ts (get_or walk 0 0) t → holds ts t (drop 1 walk) place ≡ is_held ts walk place
first ts [] t place some lt is = absurd (omega (arith, some))
first ts (r ∷ rows) t place some lt is = sym (ap (λ (x : Option Taken). holds_at ts x rows place) (slice_get_read ts (length ts) r t refl lt is))

none : (ts : List Taken) (walk : List ℕ) (place : ℕ) → length walk < 1 → is_held ts walk place ≡ false
none ts [] place lt = refl
none ts (r ∷ rows) place lt = absurd (omega (arith, lt))

rest_is : (walk : List ℕ) → take (length walk - 1) (drop 1 walk) ≡ drop 1 walk
rest_is [] = refl
rest_is (r ∷ rows) = take_all (length (r ∷ rows) - 1) rows (omega arith)

pub returns-in_default : goal.returns-in_default
returns-in_default c = sym (none c.args.files.now c.args.walk.now c.args.place c.in_default.len_below)

pub holds-requires : goal.holds-requires
holds-requires c = rw (rest_is c.args.walk.now) (others_are c.args.files.now c.args.walk.now c.requires)

pub returns : goal.returns
returns c =
    let some : 0 < length c.args.walk.now = c.in-len1-up.len_at_least in
    c.holds.ensures
    ∙ (ap (λ (rows : List ℕ). holds c.args.files.now c.index-files-walk.result rows c.args.place) (rest_is c.args.walk.now)
    ∙ first c.args.files.now c.args.walk.now c.index-files-walk.result c.args.place some (c.requires.within 0 0 some) c.index-files-walk.is)
