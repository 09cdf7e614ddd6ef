-- What a `firm` makes firm.
use Rattle.std.proofs.Common.{◌≡◌, ℕ, ◌==◌, true, Option, Some, None, refl, sym, ◌∙◌, ap, subst, arith}
use Rattle.std.proofs.lemmas.Bool.{cond-true}
use Rattle.std.proofs.lemmas.Bool.Decides.{nat_tests}
use Rattle.pl_folder.specs.Calls.{Calls}
use Rattle.pl_folder.specs.Disk.{Content, Name, State, names_of}
use Rattle.pl_folder.specs.Effects.{DoesOrNot, firms}
use Rattle.pl_folder.specs.Seen.{Seen, Done}
use Rattle.pl_folder.specs.States.{firmed, firmed_at}
use Rattle.pl_stage.specs.Files.{FileIsFirm, IsFirm}

firm_at : (at : Option ℕ) (s : State) (name : Name) → names_of s name ≡ at → FileIsFirm (firmed_at at s) name
firm_at None s name is file named = let none : None ≡ Some file = sym is ∙ named in let no : ⊥ = cc in absurd no
firm_at (Some f) s name is file named =
    let both : Some f ≡ Some file = sym is ∙ named in
    let one : file ≡ f = cc in
    let hit : (file == f) ≡ true = grind (arith, nat_tests, one) in
    ap (λ (x : Content). x.is_firm) (cond-true (file == f) _ _ hit)

-- a file that was made firm is firm
pub firmed_firm : (name : Name) (s : State) → FileIsFirm (firmed name s) name
firmed_firm name s = firm_at (names_of s name) s name refl

pub firm_done : {a b : Seen} (name : Name) → Calls Done (DoesOrNot (firms name)) a b → IsFirm b name
firm_done {a = a} {b = b} name call told =
    subst (λ d. FileIsFirm d.now name) (sym (call.disk (sym call.records ∙ told))) (firmed_firm name a.disk.now)
