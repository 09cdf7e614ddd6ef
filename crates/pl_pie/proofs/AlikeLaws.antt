-- The windows of a fixed file are those of the program, but for windows without bytes.
use Rattle.std.proofs.Common.{◌≡◌, ℕ, ◌^◌, ◌<◌, Bool, true, false, List, [], ◌∷◌, ◌++◌, map, refl, sym, ap, subst, ◌∙◌, arith, inl, inr}
use Rattle.std.specs.Prelude.{◌⊎◌, ◌&&◌, not, nat_lt}
use Rattle.std.specs.List.{All, list_any}
use Rattle.std.proofs.lemmas.Bool.{cases_Bool}
use Rattle.pl_base.specs.Windows.{Window, end_of, share, any_share}
use Rattle.pl_dyn.specs.Kinds.{is_address_tag}
use Rattle.pl_dyn.specs.declared.constants.TheConstants.{DT_HASH, DT_STRTAB, DT_SYMTAB, DT_RELA, DT_RELASZ, DT_STRSZ, DT_JMPREL, DT_PLTRELSZ, DT_RELR, DT_RELRSZ, DT_GNU_HASH, DT_VERSYM, DT_VERDEF, DT_VERNEED}
use Rattle.pl_dyn.specs.declared.tags.Tag.{Tag}
use Rattle.pl_elf.specs.declared.constants.TheConstants.{SHT_SYMTAB}
use Rattle.pl_elf.specs.declared.section.Section.{Section}
use Rattle.pl_elf.specs.declared.segment.Segment.{Segment}
use Rattle.pl_object.specs.Accepted.{AreWhole}
use Rattle.pl_object.specs.FilePart.{nothing, file_window, in_file_part}
use Rattle.pl_object.specs.TableClauses.{meets}
use Rattle.pl_object.specs.Tables.{dynamic_memory, has_kind, has_tag, header_window, jmprel_memory, link_windows, main_windows, rela_memory, relr_memory, section_memory, section_window, segments_window, strings_memory, symbols_memory, symtab_windows, tables_memory, tag_memory, value}
use Rattle.pl_object.specs.declared.object.Object.{Object}
use Rattle.law_fixed.specs.Fixed.{fixed_header, fixed_section, fixed_segment}
use Rattle.law_fixed.specs.Stays.{moved_window, Stands}
use Rattle.pl_pie.proofs.AtLaws.{IsAt, new_tags, old_tags}
use Rattle.pl_pie.proofs.MemoryLaws.{Alike, dynamic_memory_moves, held_stays, nothing_alike, nothing_held, section_memory_is, symbols_memory_moves, tag_memory_is, window_stays}

-- ---- lists of windows alike, one by one

abbrev pub AllAlike : List Window → List Window → Type 0
AllAlike [] [] = Unit {0}
AllAlike [] (y ∷ ys) = ⊥
AllAlike (x ∷ xs) [] = ⊥
AllAlike (x ∷ xs) (y ∷ ys) = Alike x y × AllAlike xs ys

pub all_same : (ws : List Window) → AllAlike ws ws
all_same [] = tt
all_same (w ∷ ws) = (inl refl, all_same ws)

pub alike_append : (new old more last : List Window) → AllAlike new old → AllAlike more last → AllAlike (new ++ more) (old ++ last)
alike_append [] [] more last a b = b
alike_append [] (y ∷ ys) more last a b = absurd a
alike_append (x ∷ xs) [] more last a b = absurd a
alike_append (x ∷ xs) (y ∷ ys) more last a b = (a.0, alike_append xs ys more last a.1 b)

and_no : (b : Bool) → (b && false) ≡ false
and_no true = refl
and_no false = refl

empty_right : (v w : Window) → w.size ≡ 0 → share v w ≡ false
empty_right v w none = ap (λ (n : ℕ). nat_lt v.at (end_of w) && nat_lt w.at (end_of v) && nat_lt 0 v.size && nat_lt 0 n) none ∙ and_no (nat_lt v.at (end_of w) && nat_lt w.at (end_of v) && nat_lt 0 v.size)

empty_left : (v w : Window) → v.size ≡ 0 → share v w ≡ false
empty_left v w none =
    ap (λ (n : ℕ). nat_lt v.at (end_of w) && nat_lt w.at (end_of v) && nat_lt 0 n && nat_lt 0 w.size) none
    ∙ ap (λ (b : Bool). b && nat_lt 0 w.size) (and_no (nat_lt v.at (end_of w) && nat_lt w.at (end_of v)))

pub share_alike : (v new old : Window) → Alike new old → share v new ≡ share v old
share_alike v new old (inl same) = ap (share v) same
share_alike v new old (inr none) = empty_right v new none.0 ∙ sym (empty_right v old none.1)

pub share_first : (new old w : Window) → Alike new old → share new w ≡ share old w
share_first new old w (inl same) = ap (λ (v : Window). share v w) same
share_first new old w (inr none) = empty_left new w none.0 ∙ sym (empty_left old w none.1)

pub meets_alike : (new old : List Window) (w : Window) → AllAlike new old → meets new w ≡ meets old w
meets_alike [] [] w all = refl
meets_alike [] (y ∷ ys) w all = absurd all
meets_alike (x ∷ xs) [] w all = absurd all
meets_alike (x ∷ xs) (y ∷ ys) w all = rw (share_alike w x y all.0, meets_alike xs ys w all.1) refl

pub meets_first : (ws : List Window) (new old : Window) → Alike new old → meets ws new ≡ meets ws old
meets_first [] new old alike = refl
meets_first (w ∷ ws) new old alike = rw (share_first new old w alike, meets_first ws new old alike) refl

pub any_share_alike : (new old : List Window) → AllAlike new old → any_share new ≡ any_share old
any_share_alike [] [] all = refl
any_share_alike [] (y ∷ ys) all = absurd all
any_share_alike (x ∷ xs) [] all = absurd all
any_share_alike (x ∷ xs) (y ∷ ys) all = rw (meets_first xs x y all.0 ∙ meets_alike xs ys y all.1, any_share_alike xs ys all.1) refl

-- ---- windows of memory that move with a program, or have no bytes

abbrev pub Goes : ℕ → Window → Window → Type 0
Goes at new old = (old.at < 2 ^ 64) × ((new ≡ moved_window at old) ⊎ ((new ≡ nothing) × (old ≡ nothing)))

abbrev pub AllGo : ℕ → List Window → List Window → Type 0
AllGo at [] [] = Unit {0}
AllGo at [] (y ∷ ys) = ⊥
AllGo at (x ∷ xs) [] = ⊥
AllGo at (x ∷ xs) (y ∷ ys) = Goes at x y × AllGo at xs ys

module _ (at : ℕ) (ss : List Segment) (stands : All (Stands at) ss) where
  abbrev moved_segments : List Segment
  moved_segments = map (fixed_segment at) ss

  pub goes_alike : (new old : Window) → Goes at new old → Alike (file_window moved_segments new) (file_window ss old)
  goes_alike new old goes = elim goes.1 [
    | inl moved ↦ inl (ap (file_window moved_segments) moved ∙ window_stays at ss stands old goes.0)
    | inr none ↦ subst (λ (m : Window). Alike (file_window moved_segments m) (file_window ss old)) (sym none.0) (subst (λ (m : Window). Alike (file_window moved_segments nothing) (file_window ss m)) (sym none.1) (nothing_alike at ss stands))
  ]

  pub goes_held : (new old : Window) → Goes at new old → in_file_part moved_segments new ≡ in_file_part ss old
  goes_held new old goes = elim goes.1 [
    | inl moved ↦ ap (in_file_part moved_segments) moved ∙ held_stays at ss stands old goes.0
    | inr none ↦ ap (in_file_part moved_segments) none.0 ∙ nothing_held at ss stands ∙ ap (in_file_part ss) (sym none.1)
  ]

  pub all_alike : (news olds : List Window) → AllGo at news olds → AllAlike (map (file_window moved_segments) news) (map (file_window ss) olds)
  all_alike [] [] all = tt
  all_alike [] (y ∷ ys) all = absurd all
  all_alike (x ∷ xs) [] all = absurd all
  all_alike (x ∷ xs) (y ∷ ys) all = (goes_alike x y all.0, all_alike xs ys all.1)

  pub all_held : (news olds : List Window) → AllGo at news olds → list_any (λ w. not (in_file_part moved_segments w)) news ≡ list_any (λ w. not (in_file_part ss w)) olds
  all_held [] [] all = refl
  all_held [] (y ∷ ys) all = absurd all
  all_held (x ∷ xs) [] all = absurd all
  all_held (x ∷ xs) (y ∷ ys) all = rw (goes_held x y all.0, all_held xs ys all.1) refl

-- ---- by tags and sections

tag_below : (a z : ℕ) (ts : List Tag) → ((number : ℕ) → value number ts < 2 ^ 64) → (tag_memory a z ts).at < 2 ^ 64
unfolding tag_memory
tag_below a z ts low = elim (cases_Bool (has_tag a ts && has_tag z ts)) [
  | inl hit ↦ rw hit (low a)
  | inr miss ↦ rw miss (omega arith)
]

section_below : (number : ℕ) (ts : List Tag) (secs : List Section) → ((number : ℕ) → value number ts < 2 ^ 64) → (section_memory number ts secs).at < 2 ^ 64
unfolding section_memory
section_below number ts secs low = elim (cases_Bool (has_tag number ts)) [
  | inl hit ↦ rw hit (low number)
  | inr miss ↦ rw miss (omega arith)
]

symtabs_stay : (at : ℕ) (secs : List Section) → symtab_windows (map (fixed_section at) secs) ≡ symtab_windows secs
unfolding symtab_windows fixed_section
symtabs_stay at [] = refl
symtabs_stay at (s ∷ secs) = elim (cases_Bool (has_kind SHT_SYMTAB s)) [
  | inl hit ↦ rw hit (ap (λ (ws : List Window). section_window s ∷ ws) (symtabs_stay at secs))
  | inr miss ↦ rw miss (symtabs_stay at secs)
]

module _ (bytes : List ℕ) (o : Object) (at : ℕ) (is : IsAt bytes o at) where
  abbrev ss : List Segment
  ss = o.segments

  abbrev ts : List Tag
  ts = old_tags bytes o

  abbrev moved_tags : List Tag
  moved_tags = new_tags at bytes o

  abbrev fixed_segments : List Segment
  fixed_segments = map (fixed_segment at) o.segments

  abbrev fixed_sections : List Section
  fixed_sections = map (fixed_section at) o.sections

  whole : AreWhole o ts
  whole = (is.pie.accepted.tabled is.other).whole

  tag_goes : (a z : ℕ) → is_address_tag a ≡ true → is_address_tag z ≡ false → Goes at (tag_memory a z moved_tags) (tag_memory a z ts)
  tag_goes a z address plain = (tag_below a z ts is.values, tag_memory_is at ss is.stands a z ts address plain)

  pub strings_go : Goes at (strings_memory moved_tags) (strings_memory ts)
  unfolding is_address_tag
  strings_go = tag_goes DT_STRTAB DT_STRSZ refl refl

  pub rela_go : Goes at (rela_memory moved_tags) (rela_memory ts)
  unfolding is_address_tag
  rela_go = tag_goes DT_RELA DT_RELASZ refl refl

  pub jmprel_go : Goes at (jmprel_memory moved_tags) (jmprel_memory ts)
  unfolding is_address_tag
  jmprel_go = tag_goes DT_JMPREL DT_PLTRELSZ refl refl

  pub packed_go : Goes at (relr_memory moved_tags) (relr_memory ts)
  unfolding is_address_tag
  packed_go = tag_goes DT_RELR DT_RELRSZ refl refl

  pub section_goes : (number : ℕ) → is_address_tag number ≡ true → Goes at (section_memory number moved_tags fixed_sections) (section_memory number ts o.sections)
  section_goes number address = (section_below number ts o.sections is.values, section_memory_is at number ts o.sections address (is.values number) is.addresses)

  symbols_move : symbols_memory moved_tags fixed_sections ≡ moved_window at (symbols_memory ts o.sections)
  unfolding is_address_tag
  symbols_move = symbols_memory_moves at ts o.sections refl whole.symbols

  symbols_below : (symbols_memory ts o.sections).at < 2 ^ 64
  unfolding symbols_memory
  symbols_below = is.values DT_SYMTAB

  pub symbols_go : Goes at (symbols_memory moved_tags fixed_sections) (symbols_memory ts o.sections)
  symbols_go = (symbols_below, inl symbols_move)

  pub dynamic_goes : Goes at (dynamic_memory fixed_segments) (dynamic_memory ss)
  dynamic_goes = (is.low, inl (dynamic_memory_moves at ss whole.dynamic))

  pub tables_go : AllGo at (tables_memory moved_tags fixed_sections) (tables_memory ts o.sections)
  unfolding tables_memory is_address_tag
  tables_go = (symbols_go, (strings_go, (rela_go, (jmprel_go, (section_goes DT_HASH refl, (section_goes DT_GNU_HASH refl, (section_goes DT_VERSYM refl, (section_goes DT_VERDEF refl, (section_goes DT_VERNEED refl, tt)))))))))

  -- ---- in the file

  pub strings_alike : Alike (file_window fixed_segments (strings_memory moved_tags)) (file_window ss (strings_memory ts))
  strings_alike = goes_alike at ss is.stands _ _ strings_go

  pub rela_alike : Alike (file_window fixed_segments (rela_memory moved_tags)) (file_window ss (rela_memory ts))
  rela_alike = goes_alike at ss is.stands _ _ rela_go

  pub jmprel_alike : Alike (file_window fixed_segments (jmprel_memory moved_tags)) (file_window ss (jmprel_memory ts))
  jmprel_alike = goes_alike at ss is.stands _ _ jmprel_go

  pub packed_alike : Alike (file_window fixed_segments (relr_memory moved_tags)) (file_window ss (relr_memory ts))
  packed_alike = goes_alike at ss is.stands _ _ packed_go

  pub section_alike : (number : ℕ) → is_address_tag number ≡ true → Alike (file_window fixed_segments (section_memory number moved_tags fixed_sections)) (file_window ss (section_memory number ts o.sections))
  section_alike number address = goes_alike at ss is.stands _ _ (section_goes number address)

  pub symbols_stay : file_window fixed_segments (symbols_memory moved_tags fixed_sections) ≡ file_window ss (symbols_memory ts o.sections)
  symbols_stay = ap (file_window fixed_segments) symbols_move ∙ window_stays at ss is.stands (symbols_memory ts o.sections) symbols_below

  pub dynamic_stays : file_window fixed_segments (dynamic_memory fixed_segments) ≡ file_window ss (dynamic_memory ss)
  dynamic_stays = ap (file_window fixed_segments) (dynamic_memory_moves at ss whole.dynamic) ∙ window_stays at ss is.stands (dynamic_memory ss) is.low

  symtabs_alike : AllAlike (symtab_windows fixed_sections) (symtab_windows o.sections)
  symtabs_alike = subst (λ (ws : List Window). AllAlike ws (symtab_windows o.sections)) (sym (symtabs_stay at o.sections)) (all_same (symtab_windows o.sections))

  pub main_alike : AllAlike (main_windows (fixed_header at o.header) fixed_segments fixed_sections moved_tags) (main_windows o.header ss o.sections ts)
  unfolding main_windows fixed_header
  main_alike = (inl refl, (inl refl, (inl refl, (inl dynamic_stays, (inl symbols_stay, (rela_alike, (jmprel_alike, symtabs_alike)))))))

  pub links_alike : AllAlike (link_windows (fixed_header at o.header) fixed_segments fixed_sections moved_tags) (link_windows o.header ss o.sections ts)
  unfolding link_windows fixed_header
  links_alike =
      alike_append (header_window ∷ segments_window (fixed_header at o.header) ∷ map (file_window fixed_segments) (dynamic_memory fixed_segments ∷ tables_memory moved_tags fixed_sections))
      (header_window ∷ segments_window o.header ∷ map (file_window ss) (dynamic_memory ss ∷ tables_memory ts o.sections))
      (file_window fixed_segments (relr_memory moved_tags) ∷ symtab_windows fixed_sections) (file_window ss (relr_memory ts) ∷ symtab_windows o.sections)
      (inl refl, (inl refl, all_alike at ss is.stands (dynamic_memory fixed_segments ∷ tables_memory moved_tags fixed_sections) (dynamic_memory ss ∷ tables_memory ts o.sections) (dynamic_goes, tables_go)))
      (packed_alike, symtabs_alike)
