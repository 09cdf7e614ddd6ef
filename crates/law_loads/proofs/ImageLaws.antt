-- Where the rule holds at the loaded name, what a load starts from is the ordinary image of the originals.
use Rattle.std.proofs.Common.{◌≡◌, ℕ, Bool, true, false, List, [], ◌∷◌, map, Option, Some, Result, Ok, Err, refl, sym, ap, subst, ◌∙◌, inl, inr}
use Rattle.std.specs.Prelude.{◌&&◌, slice_index_or}
use Rattle.std.specs.Str.{bytes_eq}
use Rattle.std.proofs.lemmas.Bool.{cases_Bool, false≢true}
use Rattle.std.proofs.lemmas.List.{length-map}
use Rattle.std.proofs.lemmas.Option.{same_Some}
use Rattle.pl_form.specs.Files.{marked_in}
use Rattle.pl_base.specs.Answers.{◌>>=◌, because}
use Rattle.pl_base.specs.Memory.{Memory}
use Rattle.pl_base.proofs.AnswerLaws.{because_ok, ok_same}
use Rattle.pl_elf.specs.Kinds.{is_library, is_program}
use Rattle.pl_elf.specs.declared.kind.Kind.{Kind}
use Rattle.pl_elf.specs.declared.kind.Kind.TheVariants.{Library}
use Rattle.pl_elf.specs.declared.range.Range.{Range}
use Rattle.pl_image.specs.Image.{Image, byte_of}
use Rattle.pl_object.specs.declared.object.Object.{Object}
use Rattle.pl_place.specs.Policy.{Choice}
use Rattle.pl_scope.specs.Scope as scopes
use Rattle.pl_scope.proofs.NameLaws.{eq_refl}
use Rattle.law_sound.specs.Rule.{Files, matches}
use Rattle.law_sound.proofs.Matching.{tells_is}
use Rattle.pl_tls.specs.Layout.{offsets}
use Rattle.pl_tls.specs.declared.block.Block.{Block}
use Rattle.pl_tls.specs.declared.module.Module.{Module}
use Rattle.pl_value.specs.Ordinary.{ordinary}
use Rattle.pl_lists.specs.declared.conflict_row.ConflictRow.{ConflictRow}
use Rattle.pl_conflict.specs.Complete.{file_at, files_in, marked_conflicts, IsProgramWalk}
use Rattle.pl_conflict.specs.Format as format
use Rattle.pl_conflict.specs.Format.{Causes, mark_in, RuleAt}
use Rattle.pl_conflict.specs.Standing.{standing_image}
use Rattle.pl_conflict.proofs.FolderLaws.{fast_images}
use Rattle.pl_conflict.proofs.FormatLaws.{format_kept}
use Rattle.pl_loader.specs.Faults.{of_refusal, of_walk, of_tls}
use Rattle.pl_loader.specs.Fast.{stored, is_fast, fast_image}
use Rattle.pl_loader.specs.Loading.{objects_of, parts_of}
use Rattle.pl_loader.specs.Places.{places}
use Rattle.pl_loader.specs.Started.{block_of, blocks, of_link, start, linked, modules_of, imaged, start_at, started, load, Start, Starts}
use Rattle.pl_loader.specs.Walk.{files, member}
use Rattle.pl_loader.specs.declared.object_file.ObjectFile.{ObjectFile}
use Rattle.pl_loader.specs.declared.started.Started as code
use Rattle.pl_loader.specs.declared.fault.LoadFault.{LoadFault}
use Rattle.pl_loader.specs.declared.fault.LoadFault.TheVariants.{NotThere, BadMark}
use Rattle.law_loads.specs.Paths.{AreTaken, walk_of, IsWalkOf, folder_image, AreAt, SameMemory, linked_start, ordinary_at, ordinary_start, ordinary_load, SameAnswer}
use Rattle.law_loads.specs.Loads.{FastImagesAreOne, ImagesAreOrdinary, StartsAreOrdinary, LoadsAreOrdinary}
use Rattle.law_loads.proofs.WalkLaws.{Begins, folder_walk, begins, walks_are_one}
use Rattle.law_loads.proofs.FastLaws.{loader_fast, fast_matches, paths_are_one}
use Rattle.law_loads.proofs.PlaceLaws.{chosen_are_at}

-- ---- the image of the fast path

abbrev rows_in : Files → List ℕ → List ConflictRow
rows_in folder name = marked_conflicts (marked_in (file_at folder name))

image_same : {F : Type 0} (causes : Causes F) (folder : Files) (name : List ℕ) (all : List ObjectFile) (at : List ℕ) → IsWalkOf causes folder name all → fast_image all at ≡ folder_image folder name (walk_of all) at
image_same causes folder name all at w =
    ap (λ (rows : List ConflictRow). standing_image at (map stored all) (objects_of all) rows) (sym w.rows)
    ∙ ap (λ (fs : List (List ℕ)). standing_image at fs (objects_of all) (rows_in folder name)) (sym w.files)
    ∙ ap (λ (os : List Object). standing_image at (files_in folder (walk_of all)) os (rows_in folder name)) (sym w.objects)

-- faults that stand for themselves
by_itself : Causes LoadFault
by_itself = record { absent = NotThere; large = NotThere; bad_mark = BadMark; refused = of_refusal; walk = of_walk }

pub fast_images_are_one : {E : Type 0} → FastImagesAreOne E
fast_images_are_one folder fault file name all at is = image_same by_itself folder name all at (walks_are_one by_itself folder fault file name all is)

-- ---- the walk is a program's

blocks_same : (all : List ObjectFile) → map (λ o. o.tls) (scopes.objects (walk_of all)) ≡ blocks all
unfolding block_of
blocks_same [] = refl
blocks_same (f ∷ all) = ap (λ (bs : List (Option Block)). f.object.tls ∷ bs) (blocks_same all)

no_library : (name n : List ℕ) (kind : Kind) → n ≡ name → (bytes_eq n name && is_library kind) ≡ false → kind ≡ Library → ⊥
no_library name n kind same loadable library =
    let both : (bytes_eq name name && true) ≡ false = subst (λ (m : List ℕ). (bytes_eq m name && true) ≡ false) same (ap (λ (k : Kind). bytes_eq n name && is_library k) (sym library) ∙ loadable) in
    false≢true (sym both ∙ ap (λ (b : Bool). b && true) (eq_refl name))

program_kind : {F : Type 0} (causes : Causes F) (folder : Files) (name : List ℕ) (all : List ObjectFile) → matches (format.format causes) folder name ≡ true → (b : Begins causes folder name all) → is_program b.program.object.kind ≡ true
program_kind causes folder name all match b =
    let m = tells_is (format.format causes) folder name match in
    let same : b.first.bytes ≡ m.file = same_Some b.first.bytes m.file (sym b.first.there ∙ ap folder b.named ∙ m.there) in
    let marked : mark_in b.first.bytes ≡ Some m.mark = ap mark_in same ∙ m.marked in
    elim ((format_kept causes).kinds b.program.name b.first.bytes m.mark b.program.object marked b.first.is.object) [
      | inl library ↦ absurd (no_library name b.program.name b.program.object.kind b.named b.first.loadable library)
      | inr program ↦ ap is_program program.0
    ]

program_walk : {F : Type 0} (causes : Causes F) (folder : Files) (name : List ℕ) (all : List ObjectFile) (modules : List Module) → IsWalkOf causes folder name all → Begins causes folder name all → matches (format.format causes) folder name ≡ true → modules_of all ≡ Ok modules
    → IsProgramWalk causes folder name (walk_of all) modules
program_walk causes folder name all modules w b match given = record {
  walks = w.walks;
  program = λ o. subst (λ (fs : List ObjectFile). is_program (slice_index_or (scopes.objects (walk_of fs)) 0 o).kind ≡ true) (sym b.is) (program_kind causes folder name all match b);
  numbered = ap offsets (blocks_same all) ∙ because_ok of_tls (offsets (blocks all)) modules given;
}

-- ---- at any places

-- the originals link, and their image is the one of the fast path
record IsFastImage (all : List ObjectFile) (modules : List Module) (at : List ℕ) : Type 0 where
  memory : Memory
  linked : linked all at modules ≡ Ok memory
  same : (a : ℕ) → byte_of (fast_image all at) a ≡ memory a

link_is : (all : List ObjectFile) (modules : List Module) (at : List ℕ) (memory : Memory) → ordinary (objects_of all) (parts_of all) at modules ≡ Ok memory → linked all at modules ≡ Ok memory
unfolding linked
link_is all modules at memory is = ap (because (of_link all)) is

fast_ordinary : {F : Type 0} (causes : Causes F) (folder : Files) (name : List ℕ) (all : List ObjectFile) (modules : List Module) (at : List ℕ) → RuleAt causes folder name → IsWalkOf causes folder name all → Begins causes folder name all
    → modules_of all ≡ Ok modules → AreAt all at → is_fast all at ≡ true → IsFastImage all modules at
fast_ordinary causes folder name all modules at rule w b given placed fast =
    let test : format.is_fast causes folder name at ≡ true = sym (loader_fast causes folder name all at w.walks b placed.one_each) ∙ fast in
    let program = program_walk causes folder name all modules w b (fast_matches causes folder name at test) given in
    let image = fast_images causes folder name (walk_of all) modules at rule program placed.first (placed.one_each ∙ sym (length-map all member)) test in
    let originals : ordinary (objects_of all) (parts_of all) at modules ≡ Ok image.0 =
    ap (λ (os : List Object). ordinary os (parts_of all) at modules) (sym w.objects)
    ∙ ap (λ (os : List (List ℕ)). ordinary (scopes.objects (walk_of all)) os at modules) (sym w.originals)
    ∙ image.1 in
    record {
      memory = image.0;
      linked = link_is all modules at image.0 originals;
      same = λ a. ap (λ (i : Image). byte_of i a) (image_same causes folder name all at w) ∙ image.2 a;
    }

imaged_fast : (all : List ObjectFile) (modules : List Module) (at : List ℕ) → is_fast all at ≡ true → imaged all at modules ≡ Ok (byte_of (fast_image all at))
unfolding imaged
imaged_fast all modules at fast = rw fast refl

imaged_slow : (all : List ObjectFile) (modules : List Module) (at : List ℕ) → is_fast all at ≡ false → imaged all at modules ≡ linked all at modules
unfolding imaged
imaged_slow all modules at slow = rw slow refl

itself : {E : Type 0} (r : Result Memory E) → SameMemory r r
itself (Ok memory) = λ a. refl
itself (Err e) = refl

pub images_are_ordinary : {E F : Type 0} → ImagesAreOrdinary E F
images_are_ordinary causes folder fault file name all modules at is rule given placed =
    elim (cases_Bool (is_fast all at)) [
      | inl fast ↦
          let w = walks_are_one causes folder fault file name all is in
          let b = begins causes folder name all (folder_walk causes folder fault file name all is) in
          let image = fast_ordinary causes folder name all modules at rule w b given placed fast in
          subst (λ (r : Result Memory LoadFault). SameMemory r (linked all at modules)) (sym (imaged_fast all modules at fast))
          (subst (λ (r : Result Memory LoadFault). SameMemory (Ok (byte_of (fast_image all at))) r) (sym image.linked) image.same)
      | inr slow ↦ subst (λ (r : Result Memory LoadFault). SameMemory r (linked all at modules)) (sym (imaged_slow all modules at slow)) (itself (linked all at modules))
    ]

-- a start from some memory has one that is the same at every address
by_start_at : (all : List ObjectFile) (modules : List Module) (at : List ℕ) (s : code.Started) (r q : Result Memory LoadFault) → SameMemory r q → Starts s (r >>= λ memory. Ok (start all at modules memory))
    → (memory : Memory) × (q ≡ Ok memory) × ((a : ℕ) → byte_of s.image a ≡ memory a)
unfolding start
by_start_at all modules at s (Ok a) (Ok b) same starts =
    let whole : start all at modules a ≡ starts.0 = ok_same (start all at modules a) starts.0 starts.1 in
    (b, refl, λ address. starts.2.bytes address ∙ sym (ap (λ (t : Start). t.memory address) whole) ∙ same address)
by_start_at all modules at s (Ok a) (Err e) same starts = absurd same
by_start_at all modules at s (Err e) (Ok b) same starts = absurd same
by_start_at all modules at s (Err e) (Err f) same starts = absurd (no_start e starts.0 starts.1)
  where
    no_start : (e : LoadFault) (t : Start) → ◌≡◌ {A = Result Start LoadFault} (Err e) (Ok t) → ⊥
    no_start e t is = cc

pub starts_are_ordinary : {E F : Type 0} → StartsAreOrdinary E F
starts_are_ordinary causes folder fault file name all modules at s is rule given placed starts =
    let images = images_are_ordinary causes folder fault file name all modules at is rule given placed in
    let whole = by_start_at all modules at s (imaged all at modules) (linked all at modules) images starts in
    record { memory = whole.0; links = whole.1; bytes = whole.2 }

-- ---- the whole load

by_memory : {E : Type 0} (fault : LoadFault → E) (fast : Bool) (all : List ObjectFile) (modules : List Module) (at : List ℕ) (r q : Result Memory LoadFault) → is_fast all at ≡ fast → SameMemory r q
    → SameAnswer (because fault (r >>= λ memory. Ok (start all at modules memory))) (because fault (q >>= λ memory. Ok (linked_start fast all at modules memory)))
unfolding start linked_start
by_memory fault fast all modules at (Ok a) (Ok b) path same = record { fast = path; objects = refl; modules = refl; entry = refl; bytes = same; extents = refl }
by_memory fault fast all modules at (Ok a) (Err e) path same = absurd same
by_memory fault fast all modules at (Err e) (Ok b) path same = absurd same
by_memory fault fast all modules at (Err e) (Err f) path same = ap fault same

-- at all places of a policy the two images are one, and a test of the places tells the path
record ArePaths (fast : List ℕ → Bool) (all : List ObjectFile) : Type 0 where
  images : (modules : List Module) (at : List ℕ) → modules_of all ≡ Ok modules → AreAt all at → SameMemory (imaged all at modules) (linked all at modules)
  path : (at : List ℕ) → AreAt all at → is_fast all at ≡ fast at

by_start : {E : Type 0} (fault : LoadFault → E) (fast : List ℕ → Bool) (choose : Choice) (busy : Option Range) (all : List ObjectFile) → ArePaths fast all
    → SameAnswer (because fault (started choose busy all)) (because fault (ordinary_start fast choose busy all))
unfolding started ordinary_start
by_start fault fast choose busy all paths = by_modules (modules_of all) refl
  where
    by_places : (modules : List Module) (p : Result (List ℕ) LoadFault) → modules_of all ≡ Ok modules → places choose busy all ≡ p
        → SameAnswer (because fault (p >>= λ at. start_at all modules at)) (because fault (p >>= λ at. ordinary_at fast all modules at))
    by_places modules (Err e) given is = refl
    by_places modules (Ok at) given is =
        let placed = chosen_are_at choose busy all at is in
        by_memory fault (fast at) all modules at (imaged all at modules) (linked all at modules) (paths.path at placed) (paths.images modules at given placed)

    by_modules : (m : Result (List Module) LoadFault) → modules_of all ≡ m
        → SameAnswer (because fault (m >>= λ modules. places choose busy all >>= λ at. start_at all modules at)) (because fault (m >>= λ modules. places choose busy all >>= λ at. ordinary_at fast all modules at))
    by_modules (Err e) given = refl
    by_modules (Ok modules) given = by_places modules (places choose busy all) given refl

pub loads_are_ordinary : {E F : Type 0} → LoadsAreOrdinary E F
unfolding load ordinary_load
loads_are_ordinary {E} causes folder choose busy fault file name gives rule = by (files fault file name) refl
  where
    by : (r : Result (List ObjectFile) E) → files fault file name ≡ r
        → SameAnswer (r >>= λ all. because fault (started choose busy all)) (r >>= λ all. because fault (ordinary_start (format.is_fast causes folder name) choose busy all))
    by (Err e) is = refl
    by (Ok all) is =
        let taken : AreTaken folder fault file name all = record { gives = gives; walked = is } in
        by_start fault (format.is_fast causes folder name) choose busy all
        (record {
          images = λ modules at given placed. images_are_ordinary causes folder fault file name all modules at taken rule given placed;
          path = λ at placed. paths_are_one causes folder fault file name all at taken placed.one_each;
        })
