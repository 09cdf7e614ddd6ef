-- Each call keeps what is read of the files the same as what is read of the disk.
use Rattle.std.proofs.Common.{◌≡◌, ◌⊎◌, inl, inr, ⊎_elim, ℕ, ◌+◌, ◌==◌, ◌<◌, Bool, true, false, cond, List, [], ◌∷◌, ◌++◌, Option, Some, None, is_some, unwrap_or, refl, sym, ◌∙◌, ap, subst, arith}
use Rattle.std.proofs.lemmas.Bool.{both_ways, cases_Bool, cond-true, cond-false, false≢true}
use Rattle.std.specs.Ordering.{nat_cmp}
use Rattle.std.specs.Cmp.Lexicographic.{slice_cmp, nat_list_cmp_total}
use Rattle.std.specs.FinMap.{get, insert, remove, get-insert, get-remove}
use Rattle.pl_base.specs.Files.{Files}
use Rattle.pl_base.proofs.FilesLaws.{same_name}
use Rattle.pl_folder.specs.Disk.{Name, Names, Content, State, IsBelow, IsWhole, bytes_of, kept, names_of, read, same}
use Rattle.pl_folder.specs.Effects.{files_after_append, bytes_at, files_after_create, files_after_rename}
use Rattle.pl_folder.specs.Kept.{IsApart, IsKept}
use Rattle.pl_folder.specs.States as state
use Rattle.pl_folder.specs.States.{with_file}
use Rattle.pl_folder.proofs.ImageLaws.{created_reads, created_writing, every_kept, every_owned, firmed_reads, firmed_whole, itself, names_below, not_last, other_bytes, removed_reads, removed_whole, moved_whole, settled_reads, settled_whole}

pub none_is_some : {A : Type 0} {G : Type 0} (x : A) → None ≡ Some x → G
none_is_some {A = A} x e = absurd (false≢true (ap (λ (o : Option A). is_some o) e))

-- two names that are both the same as a third
pub both_same : (n m name : Name) → same n name ≡ true → same m name ≡ true → same n m ≡ true
both_same n m name a b = ap (λ k. same n k) (same_name m name b) ∙ a

found_file : (o : Option ℕ) (files : ℕ → Content) → is_some (bytes_of files o) ≡ true → (file : ℕ) × (o ≡ Some file)
found_file None files there = absurd (false≢true there)
found_file (Some file) files there = (file, refl)

-- the file of a name that is there
file_there : (files : Files) (s : State) (name : Name) → IsKept files s → is_some (get files name) ≡ true → (file : ℕ) × (names_of s name ≡ Some file)
file_there files s name is there = found_file (names_of s name) s.files (ap (λ (o : Option (List ℕ)). is_some o) (sym (is.reads name)) ∙ there)

module _ (files : Files) (s : State) (name : Name) (is : IsKept files s) where
  pub kept_created : IsKept (files_after_create files name) (state.created name s)
  kept_created = record { reads = reads; whole = (created_writing name s is.whole).whole; apart = apart }
    where
      new_file : bytes_of (with_file s.count (record { bytes = []; is_firm = false }) s.files) (Some s.count) ≡ Some []
      new_file = ap (λ (x : Content). Some x.bytes) (cond-true (s.count == s.count) _ _ (grind arith))

      reads : (n : Name) → get (files_after_create files name) n ≡ read (state.created name s) n
      reads n = get-insert nat_list_cmp_total files name [] n ∙ ⊎_elim
          (λ hit.
          cond-true (same n name) _ _ hit
          ∙ sym new_file
          ∙ ap (bytes_of (state.created name s).files) (sym (cond-true (same n name) _ _ hit)))
          (λ missed. cond-false (same n name) _ _ missed ∙ is.reads n ∙ sym (created_reads name s is.whole n missed))
          (cases_Bool (same n name))

      fresh : (n : Name) (file : ℕ) → s.count ≡ file → names_of s n ≡ Some file → ⊥
      fresh n file e there = not_last name s.count (names_of s n) (names_below s is.whole n) (there ∙ ap (λ k. Some k) (sym e))

      count_is : (file : ℕ) → Some s.count ≡ Some file → s.count ≡ file
      count_is file e = cc

      apart : IsApart (state.created name s)
      apart n m file here there = ⊎_elim
          (λ hit. ⊎_elim
          (λ hit_too. both_same n m name hit hit_too)
          (λ missed. absurd (fresh m file (count_is file (sym (cond-true (same n name) _ _ hit) ∙ here)) (sym (cond-false (same m name) _ _ missed) ∙ there)))
          (cases_Bool (same m name)))
          (λ missed. ⊎_elim
          (λ hit. absurd (fresh n file (count_is file (sym (cond-true (same m name) _ _ hit) ∙ there)) (sym (cond-false (same n name) _ _ missed) ∙ here)))
          (λ missed_too. is.apart n m file (sym (cond-false (same n name) _ _ missed) ∙ here) (sym (cond-false (same m name) _ _ missed_too) ∙ there))
          (cases_Bool (same m name)))
          (cases_Bool (same n name))

  -- the name's file gets other bytes
  given : (bytes more : List ℕ) (file : ℕ) → names_of s name ≡ Some file → bytes_at files name ++ more ≡ bytes → (n : Name)
      → get (insert files name bytes) n ≡ bytes_of (with_file file (record { bytes = (s.files file).bytes ++ more; is_firm = false }) s.files) (names_of s n)
  given bytes more file at is_bytes n = get-insert nat_list_cmp_total files name bytes n ∙ ⊎_elim
      (λ hit.
      cond-true (same n name) _ _ hit
      ∙ ap (λ b. Some b) (sym is_bytes)
      ∙ ap (λ (o : Option (List ℕ)). Some (unwrap_or o [] ++ more)) (is.reads name ∙ ap (bytes_of s.files) at)
      ∙ sym (ap (λ (x : Content). Some x.bytes) (cond-true (file == file) _ _ (grind arith)))
      ∙ ap (bytes_of (with_file file (record { bytes = (s.files file).bytes ++ more; is_firm = false }) s.files)) (sym at ∙ ap (names_of s) (sym (same_name n name hit))))
      (λ missed.
      cond-false (same n name) _ _ missed
      ∙ is.reads n
      ∙ sym (other_bytes name s.files (record { bytes = (s.files file).bytes ++ more; is_firm = false }) file (names_of s n) (λ e. both_ways (same n name) missed (is.apart n name file e at))))
      (cases_Bool (same n name))

  appended_at : (more : List ℕ) (o : Option ℕ) → names_of s name ≡ o → is_some (get files name) ≡ true → IsKept (files_after_append files name more) (state.appended_to o more s)
  appended_at more None at there = absurd (false≢true (sym (ap (λ (o : Option (List ℕ)). is_some o) (is.reads name ∙ ap (bytes_of s.files) at)) ∙ there))
  appended_at more (Some file) at there = record { reads = given (bytes_at files name ++ more) more file at refl; whole = record { below = is.whole.below }; apart = is.apart }

  pub kept_appended : (more : List ℕ) → is_some (get files name) ≡ true → IsKept (files_after_append files name more) (state.appended name more s)
  kept_appended more there = appended_at more (names_of s name) refl there

  firmed_apart : (o : Option ℕ) → IsApart (state.firmed_at o s)
  firmed_apart None = is.apart
  firmed_apart (Some file) = is.apart

  pub kept_firmed : IsKept files (state.firmed name s)
  kept_firmed = record { reads = λ n. is.reads n ∙ sym (firmed_reads name s n); whole = firmed_whole name s is.whole; apart = firmed_apart (names_of s name) }

  pub kept_settled : IsKept files (state.settled s)
  kept_settled = record { reads = λ n. is.reads n ∙ sym (settled_reads s n); whole = settled_whole s is.whole; apart = is.apart }

  pub kept_removed : IsKept (remove files name) (state.removed name s)
  kept_removed = record { reads = reads; whole = removed_whole name s is.whole; apart = apart }
    where
      reads : (n : Name) → get (remove files name) n ≡ read (state.removed name s) n
      reads n = get-remove nat_list_cmp_total files name n ∙ ap (λ o. cond (same n name) None o) (is.reads n) ∙ sym (removed_reads name s n)

      left : (n : Name) (file : ℕ) → cond (same n name) None (names_of s n) ≡ Some file → names_of s n ≡ Some file
      left n file e = ⊎_elim (λ hit. none_is_some file (sym (cond-true (same n name) _ _ hit) ∙ e)) (λ missed. sym (cond-false (same n name) _ _ missed) ∙ e) (cases_Bool (same n name))

      apart : IsApart (state.removed name s)
      apart n m file here there = is.apart n m file (left n file here) (left m file there)

module _ (files : Files) (s : State) (from to : Name) (is : IsKept files s) where
  moved_at : (o : Option ℕ) → names_of s from ≡ o → is_some (get files from) ≡ true → IsKept (files_after_rename files from to) (state.moved o from to s)
  moved_at None at there = absurd (false≢true (sym (ap (λ (o : Option (List ℕ)). is_some o) (is.reads from ∙ ap (bytes_of s.files) at)) ∙ there))
  moved_at (Some file) at there = record { reads = reads; whole = moved_whole from to s (Some file) (subst (IsBelow s.count) at (names_below s is.whole from)) is.whole; apart = apart }
    where
      bytes_move : (b c : Bool) (o : Option ℕ) → cond b (Some (s.files file).bytes) (cond c None (bytes_of s.files o)) ≡ bytes_of s.files (cond b (Some file) (cond c None o))
      bytes_move true c o = refl
      bytes_move false true o = refl
      bytes_move false false o = refl

      reads : (n : Name) → get (files_after_rename files from to) n ≡ read (state.moved (Some file) from to s) n
      reads n =
          get-insert nat_list_cmp_total (remove files from) to (bytes_at files from) n
          ∙ ap (λ o. cond (same n to) (Some (bytes_at files from)) o) (get-remove nat_list_cmp_total files from n ∙ ap (λ o. cond (same n from) None o) (is.reads n))
          ∙ ap (λ (o : Option (List ℕ)). cond (same n to) (Some (unwrap_or o [])) (cond (same n from) None (read s n))) (is.reads from ∙ ap (bytes_of s.files) at)
          ∙ bytes_move (same n to) (same n from) (names_of s n)

      -- a name that is not `to` has another file, and is not `from`
      left : (n : Name) (g : ℕ) → cond (same n from) None (names_of s n) ≡ Some g → (names_of s n ≡ Some g) × (same n from ≡ false)
      left n g e = ⊎_elim (λ hit. none_is_some g (sym (cond-true (same n from) _ _ hit) ∙ e)) (λ missed. (sym (cond-false (same n from) _ _ missed) ∙ e, missed)) (cases_Bool (same n from))

      not_moved : (n : Name) (g : ℕ) → Some file ≡ Some g → cond (same n from) None (names_of s n) ≡ Some g → ⊥
      not_moved n g moved e = let l = left n g e in both_ways (same n from) l.1 (is.apart n from g l.0 (at ∙ moved))

      apart : IsApart (state.moved (Some file) from to s)
      apart n m g here there = ⊎_elim
          (λ hit. ⊎_elim
          (λ hit_too. both_same n m to hit hit_too)
          (λ missed. absurd (not_moved m g (sym (cond-true (same n to) _ _ hit) ∙ here) (sym (cond-false (same m to) _ _ missed) ∙ there)))
          (cases_Bool (same m to)))
          (λ missed. ⊎_elim
          (λ hit. absurd (not_moved n g (sym (cond-true (same m to) _ _ hit) ∙ there) (sym (cond-false (same n to) _ _ missed) ∙ here)))
          (λ missed_too. is.apart n m g (left n g (sym (cond-false (same n to) _ _ missed) ∙ here)).0 (left m g (sym (cond-false (same m to) _ _ missed_too) ∙ there)).0)
          (cases_Bool (same m to)))
          (cases_Bool (same n to))

  pub kept_renamed : is_some (get files from) ≡ true → IsKept (files_after_rename files from to) (state.renamed from to s)
  kept_renamed there = moved_at (names_of s from) refl there
