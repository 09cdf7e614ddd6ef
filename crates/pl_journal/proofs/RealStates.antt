-- What each call makes of the states of two disks, of which one has a settle that makes names last and no file's bytes.
use Rattle.std.proofs.Common.{◌≡◌, ◌⊎◌, inl, inr, ⊎_elim, ℕ, ◌+◌, ◌==◌, Bool, true, false, cond, List, [], ◌∷◌, ◌++◌, Option, Some, None, refl, sym, ◌∙◌, ap, subst, arith}
use Rattle.std.proofs.lemmas.Bool.{both_ways, cases_Bool, cases_lt, cases_order, cond-true, cond-false, eq-eqb, eqb-true}
use Rattle.pl_folder.specs.Disk.{Name, Names, View, Content, NameChange, Bind, Move, Unbind, State, IsCrashImage, Shows, all_kept, bytes_of, kept, names_of, read, same}
use Rattle.pl_folder.specs.States.{appended, appended_to, created, firmed, firmed_at, moved, removed, renamed, settled, with_file}
use Rattle.pl_folder.proofs.ImageLaws.{itself}
use Rattle.pl_journal.specs.RealDisk.{IsAlike, IsLeftLoose, IsLooseName, IsLooseThere, LosesLoose, names_settled}

-- a file is another one
apart_from : (file k : ℕ) → (file == k) ≡ false → file ≡ k → ⊥
apart_from file k missed e = both_ways (file == k) missed (eq-eqb file k e)

same_some : {f g : ℕ} → Some f ≡ Some g → f ≡ g
same_some e = cc

-- a name that is bound or not, by a test
bound_here : {X : Type 0} (b : Bool) (x y z : X) → cond b x y ≡ z → (x ≡ z) ⊎ (y ≡ z)
bound_here true x y z is = inl is
bound_here false x y z is = inr is

no_changes : (keep : List Bool) (base : Names) (n : Name) → kept keep [] base n ≡ base n
no_changes [] base n = refl
no_changes (k ∷ keep) base n = refl

whole_file : (files : ℕ → Content) (at : Option ℕ) → Shows files at (bytes_of files at)
whole_file files None = refl
whole_file files (Some f) = λ firm. refl

module _ (start : State) where
  -- the real disk's files are firm, but for those that were left loose
  abbrev pub ButLeft : State → State → Type 0
  ButLeft s r = (file : ℕ) → ((r.files file).is_firm ≡ true) ⊎ IsLeftLoose start s file

  -- nor is the name's file perhaps
  abbrev pub ButNamed : Name → State → State → Type 0
  ButNamed name s r = (file : ℕ) → (names_of s name ≡ Some file) ⊎ (((r.files file).is_firm ≡ true) ⊎ IsLeftLoose start s file)

  -- and the name's file is firm
  abbrev pub FirmAt : Name → State → State → Type 0
  FirmAt name s r = ButLeft s r × ((file : ℕ) → names_of s name ≡ Some file → (r.files file).is_firm ≡ true)

  -- ---- files that are left loose

  left_created : (name : Name) (s : State) (file : ℕ) → (file == s.count) ≡ false → IsLeftLoose start s file → IsLeftLoose start (created name s) file
  left_created name s file missed left = record {
    loose = left.loose;
    not_made = ⊎_elim inl (λ le. inr (⊎_elim (λ e. absurd (apart_from file s.count missed e)) (⊎_elim (λ lt. absurd (omega (arith, le, lt))) (λ lt. omega (arith, lt))) (cases_order file s.count))) left.not_made;
    bytes = ap (λ (c : Content). c.bytes) (cond-false (file == s.count) _ _ missed) ∙ left.bytes;
    names = λ n is. ⊎_elim (λ e. absurd (apart_from file s.count missed (sym (same_some e)))) (left.names n) (bound_here (same n name) _ _ _ is);
  }

  -- another file gets other bytes
  left_other : (s : State) (file k : ℕ) (c : Content) → (file == k) ≡ false → IsLeftLoose start s file → IsLeftLoose start (record s { files = with_file k c s.files }) file
  left_other s file k c missed left = record {
    loose = left.loose;
    not_made = left.not_made;
    bytes = ap (λ (c : Content). c.bytes) (cond-false (file == k) _ _ missed) ∙ left.bytes;
    names = left.names;
  }

  left_moved : (from to : Name) (f : ℕ) (s : State) (file : ℕ) → (file == f) ≡ false → IsLeftLoose start s file → IsLeftLoose start (moved (Some f) from to s) file
  left_moved from to f s file missed left = record {
    loose = left.loose;
    not_made = left.not_made;
    bytes = left.bytes;
    names = λ n is. ⊎_elim (λ e. absurd (apart_from file f missed (sym (same_some e)))) (λ is. ⊎_elim (λ none. absurd (let no : ⊥ = cc in no)) (left.names n) (bound_here (same n from) _ _ _ is)) (bound_here (same n to) _ _ _ is);
  }

  left_removed : (name : Name) (s : State) (file : ℕ) → IsLeftLoose start s file → IsLeftLoose start (removed name s) file
  left_removed name s file left = record {
    loose = left.loose;
    not_made = left.not_made;
    bytes = left.bytes;
    names = λ n is. ⊎_elim (λ none. absurd (let no : ⊥ = cc in no)) (left.names n) (bound_here (same n name) _ _ _ is);
  }

  left_settled : (s : State) (file : ℕ) → IsLeftLoose start s file → IsLeftLoose start (settled s) file
  left_settled s file left = record { loose = left.loose; not_made = left.not_made; bytes = left.bytes; names = left.names }

  -- ---- what two states share

  alike_names : {s r : State} → IsAlike start s r → names_of r ≡ names_of s
  alike_names {s = s} {r = r} alike = ap (λ (changes : List NameChange). all_kept changes r.base) alike.changes ∙ ap (all_kept s.changes) alike.base

  alike_bytes : {s r : State} → IsAlike start s r → (file : ℕ) → (r.files file).bytes ≡ (s.files file).bytes
  alike_bytes alike file = ⊎_elim (λ is. ap (λ (c : Content). c.bytes) is) (λ loose. ap (λ (c : Content). c.bytes) loose.there) (alike.files file)

  content : (c : Content) {bytes : List ℕ} {is_firm : Bool} → c.bytes ≡ bytes → c.is_firm ≡ is_firm → c ≡ record { bytes = bytes; is_firm = is_firm }
  content c same_bytes same_firm = λ i. record { bytes = same_bytes i; is_firm = same_firm i }

  -- ---- one call

  pub alike_created : (name : Name) {s r : State} → IsAlike start s r → IsAlike start (created name s) (created name r)
  alike_created name {s = s} {r = r} alike = record {
    base = alike.base;
    changes = ap (λ (k : ℕ). Bind name k ∷ r.changes) alike.count ∙ ap (λ (changes : List NameChange). Bind name s.count ∷ changes) alike.changes;
    count = ap (λ (k : ℕ). k + 1) alike.count;
    files = λ file. ⊎_elim (hit file) (missed file) (cases_Bool (file == s.count));
  }
    where
      empty : Content
      empty = record { bytes = []; is_firm = false }

      tested : (file : ℕ) (b : Bool) → (file == s.count) ≡ b → (file == r.count) ≡ b
      tested file b is = ap (λ (k : ℕ). file == k) alike.count ∙ is

      hit : (file : ℕ) → (file == s.count) ≡ true → ((created name r).files file ≡ (created name s).files file) ⊎ IsLooseThere start (created name s) (created name r) file
      hit file is = inl (cond-true (file == r.count) empty _ (tested file true is) ∙ sym (cond-true (file == s.count) empty _ is))

      named : (file : ℕ) → (file == s.count) ≡ false → IsLooseThere start s r file → (ks : List Bool) (n : Name) → kept ks (Bind name s.count ∷ s.changes) s.base n ≡ Some file → names_of start n ≡ Some file
      named file is loose [] n at = loose.names [] n at
      named file is loose (false ∷ ks) n at = loose.names ks n at
      named file is loose (true ∷ ks) n at = ⊎_elim (λ e. absurd (apart_from file s.count is (sym (same_some e)))) (loose.names ks n) (bound_here (same n name) _ _ _ at)

      missed : (file : ℕ) → (file == s.count) ≡ false → ((created name r).files file ≡ (created name s).files file) ⊎ IsLooseThere start (created name s) (created name r) file
      missed file is =
          let there : (created name r).files file ≡ r.files file = cond-false (file == r.count) _ _ (tested file false is) in
          let here : (created name s).files file ≡ s.files file = cond-false (file == s.count) _ _ is in
          ⊎_elim
          (λ equal. inl (there ∙ equal ∙ sym here))
          (λ loose. inr (record {
            there = there ∙ loose.there ∙ ap (λ (c : Content). record { bytes = c.bytes; is_firm = false }) (sym here);
            left = left_created name s file is loose.left;
            names = named file is loose;
          }))
          (alike.files file)

  -- one file gets the same bytes on both
  module _ {s r : State} (alike : IsAlike start s r) (k : ℕ) (c d : Content) (equal : d ≡ c) where
    pub alike_other : IsAlike start (record s { files = with_file k c s.files }) (record r { files = with_file k d r.files })
    alike_other = record { base = alike.base; changes = alike.changes; count = alike.count; files = λ file. ⊎_elim (hit file) (missed file) (cases_Bool (file == k)) }
      where
        hit : (file : ℕ) → (file == k) ≡ true
            → (with_file k d r.files file ≡ with_file k c s.files file) ⊎ IsLooseThere start (record s { files = with_file k c s.files }) (record r { files = with_file k d r.files }) file
        hit file is = inl (cond-true (file == k) d _ is ∙ equal ∙ sym (cond-true (file == k) c _ is))

        missed : (file : ℕ) → (file == k) ≡ false
            → (with_file k d r.files file ≡ with_file k c s.files file) ⊎ IsLooseThere start (record s { files = with_file k c s.files }) (record r { files = with_file k d r.files }) file
        missed file is =
            let there : with_file k d r.files file ≡ r.files file = cond-false (file == k) _ _ is in
            let here : with_file k c s.files file ≡ s.files file = cond-false (file == k) _ _ is in
            ⊎_elim
            (λ same_file. inl (there ∙ same_file ∙ sym here))
            (λ loose. inr (record {
              there = there ∙ loose.there ∙ ap (λ (c : Content). record { bytes = c.bytes; is_firm = false }) (sym here);
              left = left_other s file k c is loose.left;
              names = loose.names;
            }))
            (alike.files file)

  pub alike_appended : (name : Name) (bytes : List ℕ) {s r : State} → IsAlike start s r → IsAlike start (appended name bytes s) (appended name bytes r)
  alike_appended name bytes {s = s} {r = r} alike = subst (λ (o : Option ℕ). IsAlike start (appended name bytes s) (appended_to o bytes r)) (sym (ap (λ (names : Names). names name) (alike_names alike))) (at (names_of s name))
    where
      at : (o : Option ℕ) → IsAlike start (appended_to o bytes s) (appended_to o bytes r)
      at None = alike
      at (Some f) = alike_other alike f _ _ (ap (λ (first : List ℕ). record { bytes = first ++ bytes; is_firm = false }) (alike_bytes alike f))

  pub alike_firmed : (name : Name) {s r : State} → IsAlike start s r → IsAlike start (firmed name s) (firmed name r)
  alike_firmed name {s = s} {r = r} alike = subst (λ (o : Option ℕ). IsAlike start (firmed name s) (firmed_at o r)) (sym (ap (λ (names : Names). names name) (alike_names alike))) (at (names_of s name))
    where
      at : (o : Option ℕ) → IsAlike start (firmed_at o s) (firmed_at o r)
      at None = alike
      at (Some f) = alike_other alike f _ _ (ap (λ (bytes : List ℕ). record { bytes = bytes; is_firm = true }) (alike_bytes alike f))

  module _ (from to : Name) {s r : State} (alike : IsAlike start s r) where
    alike_moved : (o : Option ℕ) → ((file : ℕ) → o ≡ Some file → (r.files file).is_firm ≡ true) → IsAlike start (moved o from to s) (moved o from to r)
    alike_moved None firm = alike
    alike_moved (Some f) firm = record {
      base = alike.base;
      changes = ap (λ (changes : List NameChange). Move from to f ∷ changes) alike.changes;
      count = alike.count;
      files = λ file. ⊎_elim inl (λ loose. inr (still file loose)) (alike.files file);
    }
      where
        apart : (file : ℕ) → IsLooseThere start s r file → (file == f) ≡ false
        apart file loose = ⊎_elim
            (λ hit. absurd (both_ways (r.files file).is_firm (ap (λ (c : Content). c.is_firm) loose.there) (firm file (ap (λ (k : ℕ). Some k) (sym (eqb-true file f hit))))))
            (λ missed. missed)
            (cases_Bool (file == f))

        named : (file : ℕ) → IsLooseThere start s r file → (ks : List Bool) (n : Name) → kept ks (Move from to f ∷ s.changes) s.base n ≡ Some file → names_of start n ≡ Some file
        named file loose [] n at = loose.names [] n at
        named file loose (false ∷ ks) n at = loose.names ks n at
        named file loose (true ∷ ks) n at = ⊎_elim
            (λ e. absurd (apart_from file f (apart file loose) (sym (same_some e))))
            (λ at. ⊎_elim (λ none. absurd (let no : ⊥ = cc in no)) (loose.names ks n) (bound_here (same n from) _ _ _ at))
            (bound_here (same n to) _ _ _ at)

        still : (file : ℕ) → IsLooseThere start s r file → IsLooseThere start (moved (Some f) from to s) (moved (Some f) from to r) file
        still file loose = record { there = loose.there; left = left_moved from to f s file (apart file loose) loose.left; names = named file loose }

    pub alike_renamed : ((file : ℕ) → names_of s from ≡ Some file → (r.files file).is_firm ≡ true) → IsAlike start (renamed from to s) (renamed from to r)
    alike_renamed firm = subst (λ (o : Option ℕ). IsAlike start (renamed from to s) (moved o from to r)) (sym (ap (λ (names : Names). names from) (alike_names alike))) (alike_moved (names_of s from) firm)

  pub alike_removed : (name : Name) {s r : State} → IsAlike start s r → IsAlike start (removed name s) (removed name r)
  alike_removed name {s = s} {r = r} alike = record {
    base = alike.base;
    changes = ap (λ (changes : List NameChange). Unbind name ∷ changes) alike.changes;
    count = alike.count;
    files = λ file. ⊎_elim inl (λ loose. inr (record { there = loose.there; left = left_removed name s file loose.left; names = named file loose })) (alike.files file);
  }
    where
      named : (file : ℕ) → IsLooseThere start s r file → (ks : List Bool) (n : Name) → kept ks (Unbind name ∷ s.changes) s.base n ≡ Some file → names_of start n ≡ Some file
      named file loose [] n at = loose.names [] n at
      named file loose (false ∷ ks) n at = loose.names ks n at
      named file loose (true ∷ ks) n at = ⊎_elim (λ none. absurd (let no : ⊥ = cc in no)) (loose.names ks n) (bound_here (same n name) _ _ _ at)

  pub alike_settled : {s r : State} → IsAlike start s r → ButLeft s r → IsAlike start (settled s) (names_settled r)
  alike_settled {s = s} {r = r} alike firm = record { base = alike_names alike; changes = refl; count = alike.count; files = λ file. ⊎_elim (fine file) (left file) (firm file) }
    where
      fine : (file : ℕ) → (r.files file).is_firm ≡ true → (r.files file ≡ (settled s).files file) ⊎ IsLooseThere start (settled s) (names_settled r) file
      fine file is = inl (content (r.files file) (alike_bytes alike file) is)

      left : (file : ℕ) → IsLeftLoose start s file → (r.files file ≡ (settled s).files file) ⊎ IsLooseThere start (settled s) (names_settled r) file
      left file it = ⊎_elim (fine file)
          (λ loose. inr (record {
            there = content (r.files file) (alike_bytes alike file) loose;
            left = left_settled s file it;
            names = λ keep n at. it.names n (sym (no_changes keep (names_of s) n) ∙ at);
          }))
          (cases_Bool (r.files file).is_firm)

  -- ---- which files are firm after it

  pub settled_left : (s r : State) → ButLeft s r → ButLeft (settled s) (names_settled r)
  settled_left s r firm file = ⊎_elim inl (λ left. inr (left_settled s file left)) (firm file)

  pub removed_left : (name : Name) (s r : State) → ButLeft s r → ButLeft (removed name s) (removed name r)
  removed_left name s r firm file = ⊎_elim inl (λ left. inr (left_removed name s file left)) (firm file)

  module _ (name : Name) {s r : State} (alike : IsAlike start s r) where
    bound : names_of r name ≡ names_of s name
    bound = ap (λ (names : Names). names name) (alike_names alike)

    pub created_named : ButLeft s r → ButNamed name (created name s) (created name r)
    created_named firm file = ⊎_elim
        (λ hit. inl (cond-true (same name name) _ _ (itself name) ∙ ap (λ (k : ℕ). Some k) (sym (eqb-true file s.count hit))))
        (λ missed. inr (⊎_elim
        (λ is. inl (ap (λ (c : Content). c.is_firm) (cond-false (file == r.count) _ _ (ap (λ (k : ℕ). file == k) alike.count ∙ missed)) ∙ is))
        (λ left. inr (left_created name s file missed left))
        (firm file)))
        (cases_Bool (file == s.count))

    -- the name's file is another one, which is not firm
    pub appended_named : (bytes : List ℕ) → ButNamed name s r → ButNamed name (appended name bytes s) (appended name bytes r)
    appended_named bytes loose = subst (λ (o : Option ℕ). ButNamed name (appended name bytes s) (appended_to o bytes r)) (sym bound) (at (names_of s name) refl)
      where
        at : (o : Option ℕ) → names_of s name ≡ o → ButNamed name (appended_to o bytes s) (appended_to o bytes r)
        at None is = loose
        at (Some f) is = λ file. ⊎_elim
            (λ hit. inl (is ∙ ap (λ (k : ℕ). Some k) (sym (eqb-true file f hit))))
            (λ missed. ⊎_elim inl (λ fine. inr (⊎_elim
            (λ firm. inl (ap (λ (c : Content). c.is_firm) (cond-false (file == f) _ _ missed) ∙ firm))
            (λ left. inr (left_other s file f _ missed left))
            fine)) (loose file))
            (cases_Bool (file == f))

    firmed_by : (o : Option ℕ) → names_of s name ≡ o → ButNamed name s r → FirmAt name (firmed_at o s) (firmed_at o r)
    firmed_by None is loose = (λ file. ⊎_elim (λ named. absurd (let no : ⊥ = cc in no)) (λ fine. fine) (loose file), λ file named. absurd (let no : ⊥ = cc in no))
    firmed_by (Some f) is loose = (λ file. ⊎_elim (hit file) (missed file) (cases_Bool (file == f)), λ file named. firm file (eq-eqb file f (same_some (sym named ∙ is))))
      where
        firm : (file : ℕ) → (file == f) ≡ true → ((firmed_at (Some f) r).files file).is_firm ≡ true
        firm file is = ap (λ (c : Content). c.is_firm) (cond-true (file == f) _ _ is)

        hit : (file : ℕ) → (file == f) ≡ true → (((firmed_at (Some f) r).files file).is_firm ≡ true) ⊎ IsLeftLoose start (firmed_at (Some f) s) file
        hit file is = inl (firm file is)

        missed : (file : ℕ) → (file == f) ≡ false → (((firmed_at (Some f) r).files file).is_firm ≡ true) ⊎ IsLeftLoose start (firmed_at (Some f) s) file
        missed file is_not = ⊎_elim
            (λ named. absurd (apart_from file f is_not (same_some (sym named ∙ is))))
            (λ fine. ⊎_elim (λ it. inl (ap (λ (c : Content). c.is_firm) (cond-false (file == f) _ _ is_not) ∙ it)) (λ left. inr (left_other s file f _ is_not left)) fine)
            (loose file)

    pub firmed_named : ButNamed name s r → FirmAt name (firmed name s) (firmed name r)
    firmed_named loose = subst (λ (o : Option ℕ). FirmAt name (firmed name s) (firmed_at o r)) (sym bound) (firmed_by (names_of s name) refl loose)

    pub firmed_left : ButLeft s r → FirmAt name (firmed name s) (firmed name r)
    firmed_left firm = firmed_named (λ file. inr (firm file))

  module _ (from to : Name) {s r : State} (alike : IsAlike start s r) where
    moved_left : (o : Option ℕ) → ((file : ℕ) → o ≡ Some file → (r.files file).is_firm ≡ true) → ButLeft s r → ButLeft (moved o from to s) (moved o from to r)
    moved_left None firm left file = left file
    moved_left (Some f) firm left file = ⊎_elim
        (λ hit. inl (firm file (ap (λ (k : ℕ). Some k) (sym (eqb-true file f hit)))))
        (λ missed. ⊎_elim inl (λ it. inr (left_moved from to f s file missed it)) (left file))
        (cases_Bool (file == f))

    pub renamed_left : FirmAt from s r → ButLeft (renamed from to s) (renamed from to r)
    renamed_left firm = subst (λ (o : Option ℕ). ButLeft (renamed from to s) (moved o from to r)) (sym (ap (λ (names : Names). names from) (alike_names alike))) (moved_left (names_of s from) firm.1 firm.0)

  -- ---- images

  -- what may stand under a name: what a firm file has, or else what is seen
  abbrev picked : (ℕ → Content) → Option ℕ → Option (List ℕ) → Option (List ℕ)
  picked files None seen = seen
  picked files (Some f) seen = cond (files f).is_firm (Some (files f).bytes) seen

  module _ {s r : State} (alike : IsAlike start s r) (v : View) where
    shows_picked : (n : Name) (o : Option ℕ) → Shows r.files o (v n) → Shows s.files o (picked s.files o (v n))
    shows_picked n None shows = shows
    shows_picked n (Some f) shows = λ firm. cond-true (s.files f).is_firm _ _ firm

    loses_picked : (n : Name) (keep : List Bool) (o : Option ℕ) → kept keep s.changes s.base n ≡ o → Shows r.files o (v n) → (v n ≡ picked s.files o (v n)) ⊎ (IsLooseName start n × (picked s.files o (v n) ≡ read start n))
    loses_picked n keep None at shows = inl refl
    loses_picked n keep (Some f) at shows = ⊎_elim by_firm (λ loose. inl (sym (cond-false (s.files f).is_firm _ _ loose))) (cases_Bool (s.files f).is_firm)
      where
        by_firm : (s.files f).is_firm ≡ true → (v n ≡ picked s.files (Some f) (v n)) ⊎ (IsLooseName start n × (picked s.files (Some f) (v n) ≡ read start n))
        by_firm firm = ⊎_elim
            (λ same_file. inl (shows (ap (λ (c : Content). c.is_firm) same_file ∙ firm) ∙ ap (λ (c : Content). Some c.bytes) same_file ∙ sym (cond-true (s.files f).is_firm _ _ firm)))
            (λ loose.
            let named : names_of start n ≡ Some f = loose.names keep n at in
            inr ((f, named, loose.left.loose), cond-true (s.files f).is_firm _ _ firm ∙ ap (λ (bytes : List ℕ). Some bytes) loose.left.bytes ∙ sym (ap (bytes_of start.files) named)))
            (alike.files f)

    pub image_alike : IsCrashImage r v → (image : View) × IsCrashImage s image × LosesLoose start image v
    image_alike is = (
      λ n. picked s.files (at n) (v n),
      record { keep = is.keep; shows = λ n. shows_picked n (at n) (there n) },
      λ n. loses_picked n is.keep (at n) refl (there n),
    )
      where
        at : Name → Option ℕ
        at n = kept is.keep s.changes s.base n

        there : (n : Name) → Shows r.files (at n) (v n)
        there n = subst (λ (names : Names). Shows r.files (names n) (v n)) (ap (λ (changes : List NameChange). kept is.keep changes r.base) alike.changes ∙ ap (kept is.keep s.changes) alike.base) (is.shows n)

  -- ---- from a start all of whose files are firm

  module _ (firm : (file : ℕ) → (start.files file).is_firm ≡ true) where
    pub same_state : {s r : State} → IsAlike start s r → s ≡ r
    same_state {s = s} {r = r} alike = λ i. record { base = sym alike.base i; changes = sym alike.changes i; files = λ file. same_file file i; count = sym alike.count i }
      where
        same_file : (file : ℕ) → s.files file ≡ r.files file
        same_file file = ⊎_elim sym (λ loose. absurd (both_ways (start.files file).is_firm loose.left.loose (firm file))) (alike.files file)

    pub left_firm : (s r : State) → ButLeft s r → (file : ℕ) → (r.files file).is_firm ≡ true
    left_firm s r left file = ⊎_elim (λ is. is) (λ it. absurd (both_ways (start.files file).is_firm it.loose (firm file))) (left file)

  -- ---- the start

  pub alike_self : (s : State) → IsAlike start s s
  alike_self s = record { base = refl; changes = refl; count = refl; files = λ file. inl refl }

  pub left_self : ButLeft start start
  left_self file = ⊎_elim inl (λ loose. inr (record { loose = loose; not_made = cases_lt file start.count; bytes = refl; names = λ n is. is })) (cases_Bool (start.files file).is_firm)

  -- ---- what is lost

  module _ (image v : View) (loses : LosesLoose start image v) where
    abbrev Loses : Name → Type 0
    Loses n = (v n ≡ image n) ⊎ (IsLooseName start n × (image n ≡ read start n))

    abbrev had : (n : Name) → Loses n → Option (List ℕ)
    had n it = ⊎_elim (λ same_bytes. read start n) (λ lost. v n) it

    had_shows : (n : Name) (it : Loses n) → Shows start.files (names_of start n) (had n it)
    had_shows n (inl same_bytes) = whole_file start.files (names_of start n)
    had_shows n (inr lost) = subst (λ (o : Option ℕ). Shows start.files o (v n)) (sym lost.0.1) (λ firm. absurd (both_ways (start.files lost.0.0).is_firm lost.0.2 firm))

    had_each : (n : Name) (it : Loses n) → (v n ≡ image n) ⊎ ((image n ≡ read start n) × (v n ≡ had n it))
    had_each n (inl same_bytes) = inl same_bytes
    had_each n (inr lost) = inr (lost.1, refl)

    pub lost_so : (could : View) × IsCrashImage (names_settled start) could × ((n : Name) → (v n ≡ image n) ⊎ ((image n ≡ read start n) × (v n ≡ could n)))
    lost_so = (λ n. had n (loses n), record { keep = []; shows = λ n. had_shows n (loses n) }, λ n. had_each n (loses n))
