-- What the images of a state are after each call.
use Rattle.std.proofs.Common.{◌≡◌, ◌⊎◌, inl, inr, ⊎_elim, ℕ, ◌+◌, ◌==◌, Bool, true, false, cond, List, [], ◌∷◌, Option, Some, None, is_some, refl, sym, ◌∙◌, ap, subst, arith}
use Rattle.std.proofs.lemmas.Bool.{both_ways, cases_Bool, cond-true, cond-false, ne_eqb}
use Rattle.std.specs.Cmp.{eq_by_cmp_equiv}
use Rattle.std.specs.Cmp.Lexicographic.{nat_list_cmp_total}
use Rattle.pl_folder.specs.Disk.{Name, Names, View, Content, NameChange, Bind, Move, Unbind, State, IsCrashImage, Shows, IsBelow, IsWhole, same, kept, all_kept, names_of, bytes_of, read}
use Rattle.pl_folder.specs.States.{with_file, created, firmed, firmed_at, settled, renamed, moved, removed}
use Rattle.pl_folder.specs.Since.{Within}

pub itself : (n : Name) → same n n ≡ true
itself n = (eq_by_cmp_equiv nat_list_cmp_total).refl n

-- the whole file may stand there
whole_file : (files : ℕ → Content) (at : Option ℕ) → Shows files at (bytes_of files at)
whole_file files None = refl
whole_file files (Some file) = λ firm. refl

abbrev pub every : List NameChange → List Bool
every [] = []
every (c ∷ changes) = true ∷ every changes

pub every_kept : (changes : List NameChange) (base : Names) (n : Name) → kept (every changes) changes base n ≡ all_kept changes base n
every_kept [] base n = refl
every_kept (Bind k f ∷ changes) base n = ap (λ r. cond (same n k) (Some f) r) (every_kept changes base n)
every_kept (Move from to f ∷ changes) base n = ap (λ r. cond (same n to) (Some f) (cond (same n from) None r)) (every_kept changes base n)
every_kept (Unbind k ∷ changes) base n = ap (λ r. cond (same n k) None r) (every_kept changes base n)

-- a folder as it reads is one of its images
pub read_image : (s : State) → IsCrashImage s (read s)
read_image s = record {
  keep = every s.changes;
  shows = λ n. subst (λ at. Shows s.files at (bytes_of s.files (names_of s n))) (sym (every_kept s.changes s.base n)) (whole_file s.files (names_of s n));
}

no_changes : (keep : List Bool) (base : Names) (n : Name) → kept keep [] base n ≡ base n
no_changes [] base n = refl
no_changes (k ∷ keep) base n = refl

firm_shows : (files : ℕ → Content) → ((file : ℕ) → (files file).is_firm ≡ true) → (at : Option ℕ) (content : Option (List ℕ)) → Shows files at content → content ≡ bytes_of files at
firm_shows files firm None content is = is
firm_shows files firm (Some file) content is = is (firm file)

bytes_settled : (s : State) (at : Option ℕ) → bytes_of (settled s).files at ≡ bytes_of s.files at
bytes_settled s None = refl
bytes_settled s (Some file) = refl

pub settled_reads : (s : State) (n : Name) → read (settled s) n ≡ read s n
settled_reads s n = bytes_settled s (names_of s n)

-- after a settle the only image is what a read gave
pub settled_image : (s : State) (v : View) → IsCrashImage (settled s) v → v ≡ read s
settled_image s v image = λ i n. (firm_shows (settled s).files (λ f. refl) _ (v n) (image.shows n) ∙ ap (bytes_of (settled s).files) (no_changes image.keep (names_of s) n) ∙ settled_reads s n) i

pub settled_within : (s : State) (P : View → Type 0) → P (read s) → Within (settled s) P
settled_within s P here v image = subst P (sym (settled_image s v image)) here

pub settled_whole : (s : State) → IsWhole s → IsWhole (settled s)
settled_whole s whole = record { below = λ ks n. subst (IsBelow s.count) (every_kept s.changes s.base n ∙ sym (no_changes ks (names_of s) n)) (whole.below (every s.changes) n) }

-- the names as they read are of files that there are
pub names_below : (s : State) → IsWhole s → (n : Name) → IsBelow s.count (names_of s n)
names_below s whole n = subst (IsBelow s.count) (every_kept s.changes s.base n) (whole.below (every s.changes) n)

-- what is shown is shown of a file that is less firm
firm_less : (files : ℕ → Content) (f : ℕ) (at : Option ℕ) (content : Option (List ℕ)) → Shows (with_file f (record { bytes = (files f).bytes; is_firm = true }) files) at content → Shows files at content
firm_less files f None content shows = shows
firm_less files f (Some g) content shows = λ firm. ⊎_elim
    (λ hit.
    let path : with_file f (record { bytes = (files f).bytes; is_firm = true }) files g ≡ record { bytes = (files f).bytes; is_firm = true } = cond-true (g == f) _ _ hit in
    let eq : g ≡ f = grind (arith, hit) in
    shows (ap (λ x. x.is_firm) path) ∙ ap (λ x. Some x.bytes) path ∙ ap (λ h. Some (files h).bytes) (sym eq))
    (λ missed.
    let path : with_file f (record { bytes = (files f).bytes; is_firm = true }) files g ≡ files g = cond-false (g == f) _ _ missed in
    shows (ap (λ x. x.is_firm) path ∙ firm) ∙ ap (λ x. Some x.bytes) path)
    (cases_Bool (g == f))

firmed_image_at : (at : Option ℕ) (s : State) (v : View) → IsCrashImage (firmed_at at s) v → IsCrashImage s v
firmed_image_at None s v image = image
firmed_image_at (Some f) s v image = record { keep = image.keep; shows = λ n. firm_less s.files f _ (v n) (image.shows n) }

-- making a file firm takes images away
pub firmed_image : (name : Name) (s : State) (v : View) → IsCrashImage (firmed name s) v → IsCrashImage s v
firmed_image name s = firmed_image_at (names_of s name) s

bytes_firmed : (files : ℕ → Content) (f : ℕ) (at : Option ℕ) → bytes_of (with_file f (record { bytes = (files f).bytes; is_firm = true }) files) at ≡ bytes_of files at
bytes_firmed files f None = refl
bytes_firmed files f (Some g) = ⊎_elim
    (λ hit. let eq : g ≡ f = grind (arith, hit) in ap (λ (x : Content). Some x.bytes) (cond-true (g == f) _ _ hit) ∙ ap (λ h. Some (files h).bytes) (sym eq))
    (λ missed. ap (λ (x : Content). Some x.bytes) (cond-false (g == f) _ _ missed))
    (cases_Bool (g == f))

firmed_reads_at : (at : Option ℕ) (s : State) (n : Name) → read (firmed_at at s) n ≡ read s n
firmed_reads_at None s n = refl
firmed_reads_at (Some f) s n = bytes_firmed s.files f (names_of s n)

pub firmed_reads : (name : Name) (s : State) (n : Name) → read (firmed name s) n ≡ read s n
firmed_reads name s = firmed_reads_at (names_of s name) s

firmed_whole_at : (at : Option ℕ) (s : State) → IsWhole s → IsWhole (firmed_at at s)
firmed_whole_at None s whole = whole
firmed_whole_at (Some f) s whole = record { below = whole.below }

pub firmed_whole : (name : Name) (s : State) → IsWhole s → IsWhole (firmed name s)
firmed_whole name s = firmed_whole_at (names_of s name) s

abbrev pub AllFirm : State → Type 0
AllFirm s = (file : ℕ) → (s.files file).is_firm ≡ true

firmed_firm_at : (at : Option ℕ) (s : State) → AllFirm s → AllFirm (firmed_at at s)
firmed_firm_at None s firm g = firm g
firmed_firm_at (Some f) s firm g = ⊎_elim
    (λ hit. ap (λ (x : Content). x.is_firm) (cond-true (g == f) _ _ hit))
    (λ missed. ap (λ (x : Content). x.is_firm) (cond-false (g == f) _ _ missed) ∙ firm g)
    (cases_Bool (g == f))

pub firmed_firm : (name : Name) (s : State) → AllFirm s → AllFirm (firmed name s)
firmed_firm name s = firmed_firm_at (names_of s name) s

-- one name more is unbound, or it is not
module _ (name : Name) (s : State) where
  abbrev pub Cut : View → View → Type 0
  Cut u v = (n : Name) → v n ≡ cond (same n name) None (u n)

  cut_image : (v : View) (ks : List Bool) → ((n : Name) → Shows s.files (cond (same n name) None (kept ks s.changes s.base n)) (v n)) → (u : View) × IsCrashImage s u × Cut u v
  cut_image v ks shows = (u, record { keep = ks; shows = λ n. shown n (same n name) refl }, λ n. cut n (same n name) refl)
    where
      u : View
      u n = cond (same n name) (bytes_of s.files (kept ks s.changes s.base n)) (v n)

      shown : (n : Name) (b : Bool) → same n name ≡ b → Shows s.files (kept ks s.changes s.base n) (cond (same n name) (bytes_of s.files (kept ks s.changes s.base n)) (v n))
      shown n true is = subst (Shows s.files (kept ks s.changes s.base n)) (sym (cond-true (same n name) _ _ is)) (whole_file s.files (kept ks s.changes s.base n))
      shown n false is = subst (Shows s.files (kept ks s.changes s.base n)) (sym (cond-false (same n name) _ _ is)) (subst (λ at. Shows s.files at (v n)) (cond-false (same n name) _ _ is) (shows n))

      cut : (n : Name) (b : Bool) → same n name ≡ b → v n ≡ cond (same n name) None (cond (same n name) (bytes_of s.files (kept ks s.changes s.base n)) (v n))
      cut n true is = subst (λ at. Shows s.files at (v n)) (cond-true (same n name) _ _ is) (shows n) ∙ sym (cond-true (same n name) _ _ is)
      cut n false is = sym (cond-false (same n name) _ _ is ∙ cond-false (same n name) _ _ is)

  pub removed_image : (v : View) → IsCrashImage (removed name s) v → IsCrashImage s v ⊎ ((u : View) × IsCrashImage s u × Cut u v)
  removed_image v image = at image.keep image.shows
    where
      at : (ks : List Bool) → ((n : Name) → Shows s.files (kept ks (Unbind name ∷ s.changes) s.base n) (v n)) → IsCrashImage s v ⊎ ((u : View) × IsCrashImage s u × Cut u v)
      at [] shows = inl (record { keep = []; shows = shows })
      at (false ∷ ks) shows = inl (record { keep = ks; shows = shows })
      at (true ∷ ks) shows = inr (cut_image v ks shows)

  bytes_cut : (files : ℕ → Content) (b : Bool) (at : Option ℕ) → bytes_of files (cond b None at) ≡ cond b None (bytes_of files at)
  bytes_cut files true at = refl
  bytes_cut files false at = refl

  pub removed_reads : (n : Name) → read (removed name s) n ≡ cond (same n name) None (read s n)
  removed_reads n = bytes_cut s.files (same n name) (names_of s n)

  pub removed_whole : IsWhole s → IsWhole (removed name s)
  removed_whole whole = record { below = at }
    where
      below_cut : (b : Bool) (a : Option ℕ) → IsBelow s.count a → IsBelow s.count (cond b None a)
      below_cut true a below = tt
      below_cut false a below = below

      at : (ks : List Bool) (n : Name) → IsBelow s.count (kept ks (Unbind name ∷ s.changes) s.base n)
      at [] n = whole.below [] n
      at (false ∷ ks) n = whole.below ks n
      at (true ∷ ks) n = below_cut (same n name) _ (whole.below ks n)

-- a file gets another name, or it does not
module _ (from to : Name) (s : State) (firm : AllFirm s) where
  abbrev pub Shifted : View → View → Type 0
  Shifted u v = (n : Name) → v n ≡ cond (same n to) (read s from) (cond (same n from) None (u n))

  bytes_move : (files : ℕ → Content) (b c : Bool) (f : ℕ) (at : Option ℕ) → bytes_of files (cond b (Some f) (cond c None at)) ≡ cond b (Some (files f).bytes) (cond c None (bytes_of files at))
  bytes_move files true c f at = refl
  bytes_move files false true f at = refl
  bytes_move files false false f at = refl

  moved_image : (found : Option ℕ) → names_of s from ≡ found → (v : View) → IsCrashImage (moved found from to s) v → IsCrashImage s v ⊎ ((u : View) × IsCrashImage s u × Shifted u v)
  moved_image None is v image = inl image
  moved_image (Some f) is v image = at image.keep image.shows
    where
      at : (ks : List Bool) → ((n : Name) → Shows s.files (kept ks (Move from to f ∷ s.changes) s.base n) (v n)) → IsCrashImage s v ⊎ ((u : View) × IsCrashImage s u × Shifted u v)
      at [] shows = inl (record { keep = []; shows = shows })
      at (false ∷ ks) shows = inl (record { keep = ks; shows = shows })
      at (true ∷ ks) shows = inr (
        λ n. bytes_of s.files (kept ks s.changes s.base n),
        record { keep = ks; shows = λ n. whole_file s.files (kept ks s.changes s.base n) },
        λ n. firm_shows s.files firm _ (v n) (shows n) ∙ bytes_move s.files (same n to) (same n from) f (kept ks s.changes s.base n) ∙ ap (λ x. cond (same n to) (bytes_of s.files x) (cond (same n from) None (bytes_of s.files (kept ks s.changes s.base n)))) (sym is),
      )

  pub renamed_image : (v : View) → IsCrashImage (renamed from to s) v → IsCrashImage s v ⊎ ((u : View) × IsCrashImage s u × Shifted u v)
  renamed_image = moved_image (names_of s from) refl

  moved_reads : (found : Option ℕ) → names_of s from ≡ found → is_some (read s from) ≡ true → Shifted (read s) (read (moved found from to s))
  moved_reads None is there n = absurd (both_ways false refl (ap (λ x. is_some (bytes_of s.files x)) (sym is) ∙ there))
  moved_reads (Some f) is there n = bytes_move s.files (same n to) (same n from) f (names_of s n) ∙ ap (λ x. cond (same n to) (bytes_of s.files x) (cond (same n from) None (read s n))) (sym is)

  pub renamed_reads : is_some (read s from) ≡ true → Shifted (read s) (read (renamed from to s))
  renamed_reads = moved_reads (names_of s from) refl

  moved_firm : (found : Option ℕ) → AllFirm (moved found from to s)
  moved_firm None g = firm g
  moved_firm (Some f) g = firm g

  pub renamed_firm : AllFirm (renamed from to s)
  renamed_firm = moved_firm (names_of s from)

module _ (from to : Name) (s : State) where
  pub moved_whole : (found : Option ℕ) → IsBelow s.count found → IsWhole s → IsWhole (moved found from to s)
  moved_whole None below whole = whole
  moved_whole (Some f) below whole = record { below = at }
    where
      below_move : (b c : Bool) (a : Option ℕ) → IsBelow s.count a → IsBelow s.count (cond b (Some f) (cond c None a))
      below_move true c a is = below
      below_move false true a is = tt
      below_move false false a is = is

      at : (ks : List Bool) (n : Name) → IsBelow s.count (kept ks (Move from to f ∷ s.changes) s.base n)
      at [] n = whole.below [] n
      at (false ∷ ks) n = whole.below ks n
      at (true ∷ ks) n = below_move (same n to) (same n from) _ (whole.below ks n)

  pub renamed_whole : IsWhole s → IsWhole (renamed from to s)
  renamed_whole whole = moved_whole (names_of s from) (subst (IsBelow s.count) (every_kept s.changes s.base from) (whole.below (every s.changes) from)) whole

-- a new file, while it is written
module _ (name : Name) where
  abbrev pub Apart : View → View → Type 0
  Apart u v = (n : Name) → same n name ≡ false → v n ≡ u n

  pub record IsWriting (f : ℕ) (s : State) : Type 0 where
    pub whole : IsWhole s
    pub owned : (ks : List Bool) (n : Name) → same n name ≡ false → kept ks s.changes s.base n ≡ Some f → ⊥
    pub named : names_of s name ≡ Some f

  apart_image : (s : State) (v : View) (ks : List Bool) → ((n : Name) → same n name ≡ false → Shows s.files (kept ks s.changes s.base n) (v n)) → (u : View) × IsCrashImage s u × Apart u v
  apart_image s v ks shows = (
    λ n. cond (same n name) (bytes_of s.files (kept ks s.changes s.base n)) (v n),
    record { keep = ks; shows = λ n. shown n (same n name) refl },
    λ n missed. sym (cond-false (same n name) _ _ missed),
  )
    where
      shown : (n : Name) (b : Bool) → same n name ≡ b → Shows s.files (kept ks s.changes s.base n) (cond (same n name) (bytes_of s.files (kept ks s.changes s.base n)) (v n))
      shown n true is = subst (Shows s.files (kept ks s.changes s.base n)) (sym (cond-true (same n name) _ _ is)) (whole_file s.files (kept ks s.changes s.base n))
      shown n false is = subst (Shows s.files (kept ks s.changes s.base n)) (sym (cond-false (same n name) _ _ is)) (shows n is)

  other_file : (files : ℕ → Content) (file : Content) (f : ℕ) (at : Option ℕ) (content : Option (List ℕ)) → (at ≡ Some f → ⊥) → Shows (with_file f file files) at content → Shows files at content
  other_file files file f None content differ shows = shows
  other_file files file f (Some g) content differ shows =
      let path : with_file f file files g ≡ files g = cond-false (g == f) _ _ (ne_eqb g f (λ e. differ (ap (λ h. Some h) e))) in
      λ firm. shows (ap (λ x. x.is_firm) path ∙ firm) ∙ ap (λ x. Some x.bytes) path

  pub other_bytes : (files : ℕ → Content) (file : Content) (f : ℕ) (at : Option ℕ) → (at ≡ Some f → ⊥) → bytes_of (with_file f file files) at ≡ bytes_of files at
  other_bytes files file f None differ = refl
  other_bytes files file f (Some g) differ = ap (λ (x : Content). Some x.bytes) (cond-false (g == f) _ _ (ne_eqb g f (λ e. differ (ap (λ h. Some h) e))))

  pub not_last : (count : ℕ) (at : Option ℕ) → IsBelow count at → at ≡ Some count → ⊥
  not_last count at below is = let lt : IsBelow count (Some count) = subst (IsBelow count) is below in omega (arith, lt)

  passed : (ks : List Bool) (s : State) (n : Name) → same n name ≡ false → (below : (ks : List Bool) (n : Name) → IsBelow s.count (kept ks s.changes s.base n)) → (kept ks (created name s).changes s.base n ≡ Some s.count → ⊥)
  passed [] s n missed below is = not_last s.count _ (below [] n) is
  passed (false ∷ ks) s n missed below is = not_last s.count _ (below ks n) is
  passed (true ∷ ks) s n missed below is = not_last s.count _ (below ks n) (sym (cond-false (same n name) _ _ missed) ∙ is)

  pub created_image : (s : State) → IsWhole s → (v : View) → IsCrashImage (created name s) v → (u : View) × IsCrashImage s u × Apart u v
  created_image s whole v image = at image.keep image.shows
    where
      file : Content
      file = record { bytes = []; is_firm = false }

      at : (ks : List Bool) → ((n : Name) → Shows (created name s).files (kept ks (created name s).changes s.base n) (v n)) → (u : View) × IsCrashImage s u × Apart u v
      at [] shows = apart_image s v [] (λ n missed. other_file s.files file s.count _ (v n) (not_last s.count _ (whole.below [] n)) (shows n))
      at (false ∷ ks) shows = apart_image s v ks (λ n missed. other_file s.files file s.count _ (v n) (not_last s.count _ (whole.below ks n)) (shows n))
      at (true ∷ ks) shows = apart_image s v ks (λ n missed. other_file s.files file s.count _ (v n) (not_last s.count _ (whole.below ks n)) (subst (λ a. Shows (created name s).files a (v n)) (cond-false (same n name) _ _ missed) (shows n)))

  pub created_writing : (s : State) → IsWhole s → IsWriting s.count (created name s)
  created_writing s whole = record {
    whole = record { below = at };
    owned = λ ks n missed is. passed ks s n missed whole.below is;
    named = cond-true (same name name) _ _ (itself name);
  }
    where
      more : (a : Option ℕ) → IsBelow s.count a → IsBelow (s.count + 1) a
      more None below = tt
      more (Some f) below = omega (arith, below)

      below_bind : (b : Bool) (a : Option ℕ) → IsBelow (s.count + 1) a → IsBelow (s.count + 1) (cond b (Some s.count) a)
      below_bind true a below = omega arith
      below_bind false a below = below

      at : (ks : List Bool) (n : Name) → IsBelow (s.count + 1) (kept ks (created name s).changes s.base n)
      at [] n = more _ (whole.below [] n)
      at (false ∷ ks) n = more _ (whole.below ks n)
      at (true ∷ ks) n = below_bind (same n name) _ (more _ (whole.below ks n))

  pub every_owned : (f : ℕ) (s : State) → IsWriting f s → (n : Name) → same n name ≡ false → names_of s n ≡ Some f → ⊥
  every_owned f s writing n missed is = writing.owned (every s.changes) n missed (every_kept s.changes s.base n ∙ is)

  pub created_reads : (s : State) → IsWhole s → Apart (read s) (read (created name s))
  created_reads s whole n missed =
      ap (bytes_of (created name s).files) (cond-false (same n name) (Some s.count) (names_of s n) missed)
      ∙ other_bytes s.files (record { bytes = []; is_firm = false }) s.count (names_of s n) (not_last s.count _ (subst (IsBelow s.count) (every_kept s.changes s.base n) (whole.below (every s.changes) n)))

  -- the file's bytes are others
  module _ (f : ℕ) (s : State) (writing : IsWriting f s) (file : Content) where
    abbrev after_it : State
    after_it = record s { files = with_file f file s.files }

    pub file_image : (v : View) → IsCrashImage after_it v → (u : View) × IsCrashImage s u × Apart u v
    file_image v image = apart_image s v image.keep (λ n missed. other_file s.files file f _ (v n) (writing.owned image.keep n missed) (image.shows n))

    pub file_writing : IsWriting f after_it
    file_writing = record { whole = record { below = writing.whole.below }; owned = writing.owned; named = writing.named }

    pub file_reads : Apart (read s) (read after_it)
    file_reads n missed = other_bytes s.files file f (names_of s n) (every_owned f s writing n missed)

    pub file_read : read after_it name ≡ Some file.bytes
    file_read = ap (bytes_of after_it.files) writing.named ∙ ap (λ (x : Content). Some x.bytes) (cond-true (f == f) _ _ (grind arith))
