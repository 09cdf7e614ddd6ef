-- The members of a program's walk make a file for it: its libraries are fine, its originals link, and no window shares an address.
use Rattle.std.proofs.Common.{◌≡◌, ℕ, ◌≤◌, Bool, true, false, List, [], ◌∷◌, ◌++◌, length, map, Some, refl, sym, ap, subst, ◌∙◌, arith}
use Rattle.std.specs.Prelude.{not, if◌then◌else◌}
use Rattle.std.specs.List.{AllByRecursion, IsDistinct, flat_map, list_all}
use Rattle.std.specs.Str.{bytes_eq}
use Rattle.std.proofs.lemmas.Bool.{and_from}
use Rattle.std.proofs.lemmas.List.{length-map}
use Rattle.std.proofs.lemmas.List.Elements.{All-cons}
use Rattle.pl_base.specs.Windows.{Window, any_share}
use Rattle.pl_conflict.specs.Format.{Causes}
use Rattle.pl_conflict.specs.Prelinked as prelinked
use Rattle.pl_conflict.specs.Prelinked.{Firm, all_firm, are_set, firm_of, flat_of, has_numbers, list_of, load_window, objects_of, program_file, stored, version_of, windows_of}
use Rattle.pl_elf.specs.Headers.{loads}
use Rattle.pl_elf.specs.Kinds.{is_library}
use Rattle.pl_rewrite.specs.Fits.{resolves}
use Rattle.pl_object.specs.declared.object.Object.{Object}
use Rattle.pl_rewrite.specs.Fills.{IsProgramSet}
use Rattle.pl_rewrite.specs.Sources.{AreSources}
use Rattle.pl_rewrite.proofs.ListLaws.{set_tests}
use Rattle.pl_rewrite.proofs.WholeLaws.{file_program, prelinked_set}
use Rattle.pl_scope.specs.Members.{names}
use Rattle.pl_scope.specs.Walk.{Walked}
use Rattle.pl_scope.specs.declared.constants.TheConstants.{MAX_MEMBERS}
use Rattle.law_sound.specs.Plan.{Plan}
use Rattle.law_sound.specs.Rule.{Files}
use Rattle.pl_tls.specs.Layout.{offsets}
use Rattle.pl_form.specs.Program.{program_with}
use Rattle.pl_rewrite.proofs.FirmLaws.{firm_all}
use Rattle.law_folder.proofs.LinkLemmas.{Links, file_is, links_at}
use Rattle.law_folder.proofs.SetLemmas.{IsFine, fine_firms, fine_numbers, fine_valid, fine_windows, firm_for, firm_members, firm_names, planned, window_for}

module _ {E : Type 0} (causes : Causes E) (old : Files) (plan : Plan) where
  -- a program that has a form, with slot and stamp 0
  pub record IsFineProgram (p : List ℕ × Object) : Type 0 where
    pub firm : firm_of (planned causes old plan p.0) ≡ Some (firm_for causes old plan p)
    pub numbers : has_numbers (firm_for causes old plan p) ≡ true
    pub program : is_library p.1.kind ≡ false

  abbrev pub firms_of : List ℕ × Object → Walked → List Firm
  firms_of p ms = map (firm_for causes old plan) (p ∷ ms)

  program_windows : (p : List ℕ × Object) (ms : Walked) → IsFineProgram p → AllByRecursion (IsFine causes old plan) ms → flat_map windows_of (firms_of p ms) ≡ map load_window (loads p.1.segments) ++ map (window_for causes old plan) ms
  unfolding windows_of
  program_windows p ms first fine =
      ap (λ (b : Bool). (if b then window_for causes old plan p ∷ [] else map load_window (loads p.1.segments)) ++ flat_map windows_of (map (firm_for causes old plan) ms)) first.program
      ∙ ap (λ (ws : List Window). map load_window (loads p.1.segments) ++ ws) (fine_windows causes old plan ms fine)

  -- all that its definition asks for is there, and it makes a file
  pub record HasProgramFile (p : List ℕ × Object) (ms : Walked) : Type 0 where
    pub are : AreSources (firms_of p ms)
    pub firm : all_firm (map (planned causes old plan) (names (p ∷ ms))) ≡ Some (firms_of p ms)
    pub set : IsProgramSet (firms_of p ms)
    pub file : List ℕ
    pub made : program_file (firms_of p ms) ≡ Some file
    pub is : stored (Some file) ≡ prelinked.prelinked (map (planned causes old plan) (names (p ∷ ms)))

  pub program_filed : (p : List ℕ × Object) (ms : Walked) → IsFineProgram p → AllByRecursion (IsFine causes old plan) ms
      → any_share (map load_window (loads p.1.segments) ++ map (window_for causes old plan) ms) ≡ false → IsDistinct bytes_eq (names (p ∷ ms)) → length (names (p ∷ ms)) ≤ MAX_MEMBERS
      → resolves (objects_of (firms_of p ms)) (offsets (map (λ o. o.tls) (objects_of (firms_of p ms)))) ≡ true → HasProgramFile p ms
  program_filed p ms first fine apart distinct few link =
      let r : Firm = firm_for causes old plan p in
      let rs : List Firm = map (firm_for causes old plan) ms in
      let all : List Firm = firms_of p ms in
      let count = length-map ms (firm_for causes old plan) in
      let named = length-map ms (λ (q : List ℕ × Object). q.0) in
      let firms = All-cons (λ (x : Firm). firm_of x.member ≡ Some x) r rs first.firm (fine_firms causes old plan ms fine) in
      let are : AreSources all = record { few = omega (arith, few, count, named); firm = firms; distinct = subst (IsDistinct bytes_eq) (sym (firm_names causes old plan (p ∷ ms))) distinct } in
      let windows : any_share (flat_map windows_of all) ≡ false = ap (λ (ws : List Window). any_share ws) (program_windows p ms first fine) ∙ apart in
      let numbers : list_all has_numbers all ≡ true = and_from (has_numbers r) (list_all has_numbers rs) first.numbers (fine_numbers causes old plan ms fine) in
      let set : are_set all ≡ true = sym (set_tests all r rs true true true refl are (sym numbers) (sym (ap not windows)) (sym (fine_valid causes old plan ms fine))) in
      let l : Links all = links_at all link in
      let members_are = firm_members causes old plan (p ∷ ms) in
      let file : List ℕ = program_with r.member.original (list_of rs) (flat_of all l.gives) l.rows (version_of r.member.version) in
      let made : program_file all ≡ Some file = file_is r rs l in
      record {
        are = are;
        firm = ap all_firm (sym members_are) ∙ firm_all all are;
        set = record { first = first.program; set = set };
        file = file;
        made = made;
        is =
            ap stored (sym made)
            ∙ (file_program all r rs refl first.program
            ∙ (prelinked_set all are set
            ∙ ap prelinked.prelinked members_are));
      }
