-- The tables of a plain recipe's file by what they hold: where they are, and that they stand one after the other.
use Rattle.std.proofs.Common.{◌≡◌, ℕ, ◌+◌, ◌<◌, ◌≤◌, Bool, true, false, List, [], ◌∷◌, ◌++◌, length, map, Ok, refl, sym, ap, subst, ◌∙◌, append_assoc, arith, inl, inr}
use Rattle.std.specs.Prelude.{filter}
use Rattle.std.specs.List.{AllByRecursion, list_any}
use Rattle.std.proofs.lemmas.Bool.{cases_Bool, false≢true}
use Rattle.std.proofs.lemmas.List.{append-nil}
use Rattle.pl_base.proofs.AnswerLaws.{ok_same}
use Rattle.pl_base.proofs.SumLaws.{plus_small}
use Rattle.pl_base.proofs.WindowLaws.{length-part}
use Rattle.pl_elf.specs.declared.segment.Segment.{Segment}
use Rattle.pl_object.specs.FilePart.{file_window, loaded}
use Rattle.pl_build.specs.declared.layout.Tables.{Tables}
use Rattle.pl_build.specs.declared.layout_plan.LayoutPlan.{LayoutPlan}
use Rattle.pl_build.specs.declared.recipe.Recipe.{Recipe}
use Rattle.pl_build.specs.declared.roles.PlacedSection.{PlacedSection}
use Rattle.pl_build.specs.declared.roles.Role.{Role}
use Rattle.pl_build.specs.declared.roles.Role.TheVariants.{Hash, GnuHash, Dynsym, Dynstr, RelaDyn, RelaPlt, Dynamic}
use Rattle.pl_build.specs.Choices.{chosen}
use Rattle.pl_build.specs.File.{made}
use Rattle.pl_build.specs.Layout.{contents, end_of, tables}
use Rattle.pl_build.specs.LayoutPlan.{plan_of, base_of, is_jump_slot, is_other}
use Rattle.law_demo.specs.Loaded.{memory_of, AreLoaded}
use Rattle.law_demo.specs.Plain.{IsPlain}
use Rattle.law_demo.specs.Planned.{is_table, planned_segments}
use Rattle.law_demo.specs.Shape.{Extent, Extents, place_in, rows_before, before_dynamic}
use Rattle.law_demo.specs.Standing.{AreStanding}
use Rattle.law_demo.proofs.FileLaws.{files_hold}
use Rattle.law_demo.proofs.HeadLaws.{base_small}
use Rattle.law_demo.proofs.HeadedLaws.{IsTable, laid_tables}
use Rattle.law_demo.proofs.LoadedLaws.{tables_loaded}
use Rattle.law_demo.proofs.RoleLaws.{plain_roles, roles_plain, roles_stand, role_of}
use Rattle.law_demo.proofs.ValueLaws.{chosen_append}

-- ---- which tables there are

abbrev role_rows : Bool → Bool → Bool → Bool → List (Bool × Role)
role_rows a b c d = (a, Hash) ∷ (b, GnuHash) ∷ (true, Dynsym) ∷ (true, Dynstr) ∷ (c, RelaDyn) ∷ (d, RelaPlt) ∷ (true, Dynamic) ∷ []

shapes : (a b c d : Bool) → filter is_table (plain_roles a b c d) ≡ chosen (role_rows a b c d)
unfolding chosen
shapes true true true true = refl
shapes true true true false = refl
shapes true true false true = refl
shapes true true false false = refl
shapes true false true true = refl
shapes true false true false = refl
shapes true false false true = refl
shapes true false false false = refl
shapes false true true true = refl
shapes false true true false = refl
shapes false true false true = refl
shapes false true false false = refl
shapes false false true true = refl
shapes false false true false = refl
shapes false false false true = refl
shapes false false false false = refl

-- ---- places of such roles

abbrev extent_of : PlacedSection → Extent
extent_of x = record { addr = x.addr; offset = x.offset; size = x.size }

no_extent : Extent
no_extent = record { addr = 0; offset = 0; size = 0 }

as_in : (x : PlacedSection) (role : Role) → x.role ≡ role → x ≡ place_in role (extent_of x)
as_in x role e = ap (λ (r : Role). place_in r (extent_of x)) e

abbrev opt : Bool → PlacedSection → List PlacedSection → List PlacedSection
opt true x xs = x ∷ xs
opt false x xs = xs

opt_chosen : (b : Bool) (x : PlacedSection) (cs : List (Bool × PlacedSection)) → opt b x (chosen cs) ≡ chosen ((b, x) ∷ cs)
unfolding chosen
opt_chosen true x cs = refl
opt_chosen false x cs = refl

record Took (b : Bool) (role : Role) (cs : List (Bool × Role)) (places : List PlacedSection) : Type 0 where
  pub extent : Extent
  pub rest : List PlacedSection
  pub is : places ≡ opt b (place_in role extent) rest
  pub roles : map role_of rest ≡ chosen cs

takes : (b : Bool) (role : Role) (cs : List (Bool × Role)) (places : List PlacedSection) → map role_of places ≡ chosen ((b, role) ∷ cs) → Took b role cs places
unfolding chosen
takes true role cs [] e = let no : ◌≡◌ {A = List Role} [] (role ∷ chosen cs) = e in absurd cc
takes true role cs (x ∷ xs) e =
    let same : ◌≡◌ {A = List Role} (x.role ∷ map role_of xs) (role ∷ chosen cs) = e in
    let head : x.role ≡ role = cc in
    let tail : map role_of xs ≡ chosen cs = cc in
    record { extent = extent_of x; rest = xs; is = ap (λ (y : PlacedSection). y ∷ xs) (as_in x role head); roles = tail }
takes false role cs places e = record { extent = no_extent; rest = places; is = refl; roles = e }

none_left : (xs : List PlacedSection) → map role_of xs ≡ chosen [] → xs ≡ chosen []
unfolding chosen
none_left [] e = refl
none_left (x ∷ xs) e = let no : ◌≡◌ {A = List Role} (x.role ∷ map role_of xs) [] = e in absurd cc

joins : (b : Bool) (role : Role) (cs : List (Bool × Role)) (places : List PlacedSection) (took : Took b role cs places) (ps : List (Bool × PlacedSection)) → took.rest ≡ chosen ps → places ≡ chosen ((b, place_in role took.extent) ∷ ps)
joins b role cs places took ps e = took.is ∙ ap (opt b (place_in role took.extent)) e ∙ opt_chosen b (place_in role took.extent) ps

abbrev pub rows_of : Recipe → Extents → List (Bool × PlacedSection)
rows_of r e = rows_before r e ++ (true, place_in Dynamic e.dynamic) ∷ []

pub record IsShaped (r : Recipe) (places : List PlacedSection) : Type 0 where
  pub extents : Extents
  pub is : places ≡ chosen (rows_of r extents)

pub shaped : (r : Recipe) (t : Tables) → IsPlain r → tables (plan_of r) ≡ Ok t → IsShaped r t.places
shaped r t plain e =
    let a : Bool = r.settings.hashes.sysv in
    let b : Bool = r.settings.hashes.gnu in
    let c : Bool = list_any is_other r.relocations in
    let d : Bool = list_any is_jump_slot r.relocations in
    let roles : map role_of t.places ≡ chosen (role_rows a b c d) = roles_stand r t plain e ∙ ap (filter is_table) (roles_plain r plain) ∙ shapes a b c d in
    let hash : Took a Hash ((b, GnuHash) ∷ (true, Dynsym) ∷ (true, Dynstr) ∷ (c, RelaDyn) ∷ (d, RelaPlt) ∷ (true, Dynamic) ∷ []) t.places = takes a Hash _ t.places roles in
    let gnu_hash : Took b GnuHash ((true, Dynsym) ∷ (true, Dynstr) ∷ (c, RelaDyn) ∷ (d, RelaPlt) ∷ (true, Dynamic) ∷ []) hash.rest = takes b GnuHash _ hash.rest hash.roles in
    let symbols : Took true Dynsym ((true, Dynstr) ∷ (c, RelaDyn) ∷ (d, RelaPlt) ∷ (true, Dynamic) ∷ []) gnu_hash.rest = takes true Dynsym _ gnu_hash.rest gnu_hash.roles in
    let strings : Took true Dynstr ((c, RelaDyn) ∷ (d, RelaPlt) ∷ (true, Dynamic) ∷ []) symbols.rest = takes true Dynstr _ symbols.rest symbols.roles in
    let others : Took c RelaDyn ((d, RelaPlt) ∷ (true, Dynamic) ∷ []) strings.rest = takes c RelaDyn _ strings.rest strings.roles in
    let slots : Took d RelaPlt ((true, Dynamic) ∷ []) others.rest = takes d RelaPlt _ others.rest others.roles in
    let dynamic : Took true Dynamic [] slots.rest = takes true Dynamic [] slots.rest slots.roles in
    let seven = joins true Dynamic [] slots.rest dynamic [] (none_left dynamic.rest dynamic.roles) in
    let six = joins d RelaPlt _ others.rest slots _ seven in
    let five = joins c RelaDyn _ strings.rest others _ six in
    let four = joins true Dynstr _ symbols.rest strings _ five in
    let three = joins true Dynsym _ gnu_hash.rest symbols _ four in
    let two = joins b GnuHash _ hash.rest gnu_hash _ three in
    record {
      extents = record { hash = hash.extent; gnu_hash = gnu_hash.extent; symbols = symbols.extent; strings = strings.extent; others = others.extent; slots = slots.extent; dynamic = dynamic.extent };
      is = joins a Hash _ t.places hash _ two;
    }

one_chosen : (x : PlacedSection) → chosen ((true, x) ∷ []) ≡ x ∷ []
unfolding chosen
one_chosen x = refl

-- the dynamic table stands last
pub dynamic_last : (r : Recipe) (e : Extents) → chosen (rows_of r e) ≡ before_dynamic r e ++ place_in Dynamic e.dynamic ∷ []
dynamic_last r e = sym (ap (λ (l : List PlacedSection). before_dynamic r e ++ l) (sym (one_chosen (place_in Dynamic e.dynamic))) ∙ chosen_append (rows_before r e) ((true, place_in Dynamic e.dynamic) ∷ []))

-- ---- what is known of each table

pub record IsGood (p : LayoutPlan) (ss : List Segment) (tables_end : ℕ) (place : PlacedSection) : Type 0 where
  pub some : 0 < place.size
  pub low : 1024 ≤ place.offset
  pub within : place.offset + place.size ≤ tables_end
  pub address : place.addr ≡ base_of p.settings + place.offset
  pub window : file_window ss (memory_of place) ≡ record { at = place.offset; size = place.size }
  pub before : List PlacedSection
  pub long : place.size ≡ length (contents p before place.role)

all_good : (p : LayoutPlan) (bytes : List ℕ) (ss : List Segment) (tables_end from : ℕ) (before places : List PlacedSection) → tables_end ≤ 1048576 → AllByRecursion (IsTable tables_end) places → AreStanding p bytes from before places → AreLoaded p bytes ss before places
    → AllByRecursion (IsGood p ss tables_end) places
all_good p bytes ss tables_end from before [] fits tables standing loaded = tt
all_good p bytes ss tables_end from before (place ∷ places) fits tables standing loaded =
    let s = standing.0 in (
      record {
        some = tables.0.some;
        low = tables.0.low;
        within = tables.0.within;
        address = s.address ∙ plus_small (base_of p.settings) place.offset (omega (arith, base_small p.settings, tables.0.within, fits));
        window = loaded.0.window;
        before = before;
        long = sym (length-part place.offset place.size bytes s.within) ∙ ap (λ (l : List ℕ). length l) s.holds;
      },
      all_good p bytes ss tables_end (place.offset + place.size) (before ++ place ∷ []) places fits tables.1 standing.1 loaded.1,
    )

-- its bytes are loaded
pub record IsHeld (p : LayoutPlan) (bytes : List ℕ) (ss : List Segment) (place : PlacedSection) : Type 0 where
  pub before : List PlacedSection
  pub holds : loaded bytes ss (memory_of place) ≡ contents p before place.role

all_held : (p : LayoutPlan) (bytes : List ℕ) (ss : List Segment) (before places : List PlacedSection) → AreLoaded p bytes ss before places → AllByRecursion (IsHeld p bytes ss) places
all_held p bytes ss before [] h = tt
all_held p bytes ss before (place ∷ places) h = (record { before = before; holds = h.0.holds }, all_held p bytes ss (before ++ place ∷ []) places h.1)

-- those of the last one, by the places before it
last_held : (p : LayoutPlan) (bytes : List ℕ) (ss : List Segment) (before places : List PlacedSection) (last : PlacedSection) → AreLoaded p bytes ss before (places ++ last ∷ []) → loaded bytes ss (memory_of last) ≡ contents p (before ++ places) last.role
last_held p bytes ss before [] last h = h.0.holds ∙ ap (λ (b : List PlacedSection). contents p b last.role) (sym (append-nil before))
last_held p bytes ss before (place ∷ places) last h =
    last_held p bytes ss (before ++ place ∷ []) places last h.1 ∙ ap (λ (b : List PlacedSection). contents p b last.role) (append_assoc before (place ∷ []) places)

-- each stands before the later ones
abbrev pub Later : List PlacedSection → Type 0
Later [] = Unit {0}
Later (x ∷ xs) = AllByRecursion (λ y. x.offset + x.size ≤ y.offset) xs × Later xs

all_behind : (p : LayoutPlan) (bytes : List ℕ) (n from : ℕ) (before places : List PlacedSection) → n ≤ from → AreStanding p bytes from before places → AllByRecursion (λ y. n ≤ y.offset) places
all_behind p bytes n from before [] le h = tt
all_behind p bytes n from before (y ∷ places) le h = (omega (arith, le, h.0.after), all_behind p bytes n (y.offset + y.size) (before ++ y ∷ []) places (omega (arith, le, h.0.after)) h.1)

all_later : (p : LayoutPlan) (bytes : List ℕ) (from : ℕ) (before places : List PlacedSection) → AreStanding p bytes from before places → Later places
all_later p bytes from before [] h = tt
all_later p bytes from before (x ∷ places) h =
    (all_behind p bytes (x.offset + x.size) (x.offset + x.size) (before ++ x ∷ []) places (omega arith) h.1, all_later p bytes (x.offset + x.size) (before ++ x ∷ []) places h.1)

-- ---- the same of rows that may be there

pub rows_all : (P : PlacedSection → Type 0) (cs : List (Bool × PlacedSection)) → AllByRecursion P (chosen cs) → AllByRecursion (λ c. c.0 ≡ true → P c.1) cs
unfolding chosen
rows_all P [] all = tt
rows_all P (c ∷ cs) all = elim (cases_Bool c.0) [
  | inl there ↦ let both = rw there at all in (λ _. both.0, rows_all P cs both.1)
  | inr missing ↦ (λ there. absurd (false≢true (sym missing ∙ there)), rows_all P cs (rw missing at all))
]

abbrev pub LaterRows : List (Bool × PlacedSection) → Type 0
LaterRows [] = Unit {0}
LaterRows (c ∷ cs) = AllByRecursion (λ d. c.0 ≡ true → d.0 ≡ true → c.1.offset + c.1.size ≤ d.1.offset) cs × LaterRows cs

all_given : (b : Bool) (n : ℕ) (cs : List (Bool × PlacedSection)) → AllByRecursion (λ d. d.0 ≡ true → n ≤ d.1.offset) cs → AllByRecursion (λ d. b ≡ true → d.0 ≡ true → n ≤ d.1.offset) cs
all_given b n [] all = tt
all_given b n (c ∷ cs) all = (λ _. all.0, all_given b n cs all.1)

all_missing : (b : Bool) (n : ℕ) (cs : List (Bool × PlacedSection)) → b ≡ false → AllByRecursion (λ d. b ≡ true → d.0 ≡ true → n ≤ d.1.offset) cs
all_missing b n [] missing = tt
all_missing b n (c ∷ cs) missing = (λ there _. absurd (false≢true (sym missing ∙ there)), all_missing b n cs missing)

pub rows_later : (cs : List (Bool × PlacedSection)) → Later (chosen cs) → LaterRows cs
unfolding chosen
rows_later [] h = tt
rows_later (c ∷ cs) h = elim (cases_Bool c.0) [
  | inl there ↦
      let both = rw there at h in
      (all_given c.0 (c.1.offset + c.1.size) cs (rows_all (λ y. c.1.offset + c.1.size ≤ y.offset) cs both.0), rows_later cs both.1)
  | inr missing ↦ (all_missing c.0 (c.1.offset + c.1.size) cs missing, rows_later cs (rw missing at h))
]

-- ---- of a file

pub record IsPlaced (r : Recipe) (bytes : List ℕ) (t : Tables) : Type 0 where
  pub shape : IsShaped r t.places
  pub fits : end_of t ≤ 1048576
  pub good : AllByRecursion (λ c. c.0 ≡ true → IsGood (plan_of r) (planned_segments (plan_of r) t) (end_of t) c.1) (rows_of r shape.extents)
  pub later : LaterRows (rows_of r shape.extents)
  pub held : AllByRecursion (λ c. c.0 ≡ true → IsHeld (plan_of r) bytes (planned_segments (plan_of r) t) c.1) (rows_of r shape.extents)
  pub dynamic : loaded bytes (planned_segments (plan_of r) t) (memory_of (place_in Dynamic shape.extents.dynamic)) ≡ contents (plan_of r) (before_dynamic r shape.extents) Dynamic

pub placed : (r : Recipe) (bytes : List ℕ) → IsPlain r → made (plan_of r) ≡ Ok bytes → (t : Tables) × (tables (plan_of r) ≡ Ok t) × IsPlaced r bytes t
placed r bytes plain e =
    let p : LayoutPlan = plan_of r in
    let held = files_hold p bytes e in
    let t : Tables = held.0 in
    let ss : List Segment = planned_segments p t in
    let l = tables_loaded r bytes plain e in
    let same : l.0 ≡ t = ok_same l.0 t (sym l.1 ∙ held.1) in
    let there : AreLoaded p bytes ss [] t.places = subst (λ (u : Tables). AreLoaded p bytes (planned_segments p u) [] u.places) same l.2 in
    let rows = laid_tables p t held.1 in
    let shape : IsShaped r t.places = shaped r t plain held.1 in
    let good : AllByRecursion (IsGood p ss (end_of t)) t.places = all_good p bytes ss (end_of t) 1024 [] t.places rows.0 rows.1 held.2 there in
    let later : Later t.places = all_later p bytes 1024 [] t.places held.2 in (
      t,
      held.1,
      record {
        shape = shape;
        fits = rows.0;
        good = rows_all (IsGood p ss (end_of t)) (rows_of r shape.extents) (subst (AllByRecursion (IsGood p ss (end_of t))) shape.is good);
        later = rows_later (rows_of r shape.extents) (subst Later shape.is later);
        held = rows_all (IsHeld p bytes ss) (rows_of r shape.extents) (subst (AllByRecursion (IsHeld p bytes ss)) shape.is (all_held p bytes ss [] t.places there));
        dynamic =
            last_held p bytes ss [] (before_dynamic r shape.extents) (place_in Dynamic shape.extents.dynamic)
            (subst (AreLoaded p bytes ss []) (shape.is ∙ dynamic_last r shape.extents) there);
      },
    )
