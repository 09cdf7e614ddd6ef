-- Where a real folder lies.
use Rattle.std.specs.Prelude.{ℕ, List, string_bytes}
use Rattle.pl_hostdir.specs.declared.host_folder.HostFolder.{HostFolder}

-- the path that it was made with
abbrev pub folder_path : {R F D : Type 0} → HostFolder R F D → List ℕ
folder_path folder = string_bytes folder.path
