-- Calls of a folder in other words, and one after the other. What is told of the folder before them is told of it later.
use Rattle.std.proofs.Common.{◌≡◌, ℕ, Bool, true, false, refl, sym, ◌∙◌, subst, arith}
use Rattle.std.proofs.lemmas.Bool.{false≢true}
use Rattle.pl_base.specs.Counts.{Counted}
use Rattle.pl_base.proofs.CountLaws.{counted_then}
use Rattle.pl_folder.specs.Calls.{Calls}
use Rattle.pl_folder.specs.Effects.{Asks, Effect}
use Rattle.pl_folder.specs.Seen.{Seen, Ending, Done, Undone, is_broken}
use Rattle.pl_journal.specs.Parts.{Looking}

-- no call
pub no_calls : {P : Effect} (e : Ending) (a : Seen) → is_broken e ≡ false → P.files e a.files a.files → P.disk e a.disk a.disk → Calls e P a a
no_calls e a unbroken files disk = record {
  tells = refl;
  records = refl;
  referent = refl;
  files = λ _. files;
  disk = λ _. disk;
  count = record { later = omega arith; rose = λ broken. absurd (false≢true (sym unbroken ∙ broken)); quiet = λ _. refl };
}

-- the same calls
pub as_calls : {M P : Effect} (e f : Ending) {a b : Seen} → is_broken e ≡ is_broken f → Calls e M a b
    → (a.tells ≡ true → M.files e a.files b.files → P.files f a.files b.files)
    → (a.records ≡ true → M.disk e a.disk b.disk → P.disk f a.disk b.disk) → Calls f P a b
as_calls e f {a = a} {b = b} alike call files disk = record {
  tells = call.tells;
  records = call.records;
  referent = call.referent;
  files = λ told. files told (call.files told);
  disk = λ told. disk told (call.disk told);
  count = subst (λ (broken : Bool). Counted broken a.faults b.faults) alike call.count;
}

-- calls that were done, and others
pub then_calls : {M N P : Effect} (e f : Ending) {a b c : Seen} → is_broken e ≡ is_broken f → Calls Done M a b → Calls e N b c
    → (a.tells ≡ true → M.files Done a.files b.files → N.files e b.files c.files → P.files f a.files c.files)
    → (a.records ≡ true → M.disk Done a.disk b.disk → N.disk e b.disk c.disk → P.disk f a.disk c.disk) → Calls f P a c
then_calls e f {a = a} {b = b} {c = c} alike first second files disk = record {
  tells = second.tells ∙ first.tells;
  records = second.records ∙ first.records;
  referent = second.referent ∙ first.referent;
  files = λ told. files told (first.files told) (second.files (first.tells ∙ told));
  disk = λ told. disk told (first.disk told) (second.disk (first.records ∙ told));
  count = subst (λ (broken : Bool). Counted broken a.faults c.faults) alike (counted_then (is_broken e) a.faults b.faults c.faults first.count second.count);
}

-- memory lacked after all calls
pub asked_all : (n : ℕ) {a b : Seen} → Calls Done (Asks n) a b → Calls Undone (Asks n) a b
asked_all n call = as_calls Done Undone refl call (λ told same. same) (λ told made. (n, omega arith, made))

pub looked_all : {a b : Seen} → Calls Done Looking a b → Calls Undone Looking a b
looked_all call = as_calls Done Undone refl call (λ told same. same) (λ told looks. looks)
