-- The text of what a program starts from.
use Rattle.std.specs.Prelude.{ℕ, Bool, List, [], ◌∷◌, ◌++◌, codes, if◌then◌else◌}
use Rattle.std.specs.Fmt.{decimal}
use Rattle.std.specs.List.{flat_map}
use Rattle.pl_base.specs.Digits.{hex16, line_text}
use Rattle.pl_image.specs.Image.{byte_of, extents_of}
use Rattle.pl_image.specs.Lines.{text}
use Rattle.pl_loader.specs.Started.{Start}
use Rattle.pl_loader.specs.declared.placed.Placed.{Placed}
use Rattle.pl_loader.specs.declared.started.Started.{Started}
use Rattle.pl_loader.specs.declared.tls_module.TlsModule.{TlsModule}

-- an object: where it begins and ends in memory, and its name
unfoldable pub object_line : Placed → List ℕ
object_line o = line_text (codes "object " ∷ hex16 o.start ∷ codes " " ∷ hex16 o.end ∷ codes " " ∷ o.name ∷ [])

-- an object with thread-local storage: its number, how far below the thread pointer its block begins, and its name
unfoldable pub tls_line : TlsModule → List ℕ
tls_line m = line_text (codes "tls " ∷ decimal m.number ∷ codes " " ∷ hex16 m.offset ∷ codes " " ∷ m.name ∷ [])

unfoldable pub entry_line : ℕ → List ℕ
entry_line entry = line_text (codes "entry " ∷ hex16 entry ∷ [])

-- the path: from the prelinked files as they stand, or from the originals, linked
unfoldable pub path_line : Bool → List ℕ
path_line fast = line_text ((if fast then codes "fast" else codes "slow") ∷ [])

-- the lines before those of the words: the path, the objects and the modules in scope order, and the entry
unfoldable pub head_text : Bool → List Placed → List TlsModule → ℕ → List ℕ
head_text fast objects modules entry =
    path_line fast ++ flat_map object_line objects ++ flat_map tls_line modules ++ entry_line entry

abbrev pub end_text : List ℕ
end_text = line_text (codes "end" ∷ [])

unfoldable pub load_text : Start → List ℕ
load_text s = head_text s.fast s.objects s.modules s.entry ++ text s.memory s.extents ++ end_text

-- a start as the code has it
abbrev pub start_of : Started → Start
start_of s = record {
  fast = s.fast;
  objects = s.objects;
  modules = s.modules;
  entry = s.entry;
  memory = byte_of s.image;
  extents = extents_of s.image.objects;
}
