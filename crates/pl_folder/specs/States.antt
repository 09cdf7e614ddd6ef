-- What each call makes of the state of a disk.
use Rattle.std.specs.Prelude.{ℕ, ◌+◌, ◌==◌, true, false, cond, List, [], ◌∷◌, ◌++◌, Option, Some, None}
use Rattle.pl_folder.specs.Disk.{Name, Content, Bind, Move, Unbind, State, names_of}

abbrev pub with_file : ℕ → Content → (ℕ → Content) → ℕ → Content
with_file k file files q = cond (q == k) file (files q)

-- `create`: the name is bound to a new file, which is empty and not firm
abbrev pub created : Name → State → State
created name s = record {
  base = s.base;
  changes = Bind name s.count ∷ s.changes;
  files = with_file s.count (record { bytes = []; is_firm = false }) s.files;
  count = s.count + 1;
}

abbrev pub appended_to : Option ℕ → List ℕ → State → State
appended_to None bytes s = s
appended_to (Some file) bytes s = record s { files = with_file file (record { bytes = (s.files file).bytes ++ bytes; is_firm = false }) s.files }

-- `append`: the name's file has more bytes, and is not firm
abbrev pub appended : Name → List ℕ → State → State
appended name bytes s = appended_to (names_of s name) bytes s

abbrev pub firmed_at : Option ℕ → State → State
firmed_at None s = s
firmed_at (Some file) s = record s { files = with_file file (record { bytes = (s.files file).bytes; is_firm = true }) s.files }

-- `firm`: the name's file is firm
abbrev pub firmed : Name → State → State
firmed name s = firmed_at (names_of s name) s

abbrev pub moved : Option ℕ → Name → Name → State → State
moved None from to s = s
moved (Some file) from to s = record s { changes = Move from to file ∷ s.changes }

-- `rename`: the file of one name is moved to the other
abbrev pub renamed : Name → Name → State → State
renamed from to s = moved (names_of s from) from to s

-- `remove`: the name is unbound
abbrev pub removed : Name → State → State
removed name s = record s { changes = Unbind name ∷ s.changes }

-- `settle`: the names stand as they read, and each file is firm
abbrev pub settled : State → State
settled s = record {
  base = names_of s;
  changes = [];
  files = λ file. record { bytes = (s.files file).bytes; is_firm = true };
  count = s.count;
}
