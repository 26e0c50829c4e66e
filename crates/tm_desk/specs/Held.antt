-- What a list of files holds by name. Source: this project.
use Rattle.std.specs.Prelude.{◌≡◌, ◌≤◌, ◌<◌, ℕ, List, [], ◌∷◌, Option, None, Some, length, take, unwrap_or}
use Rattle.std.specs.Prelude.{slice_index_or, if◌then◌else◌}
use Rattle.std.specs.Str.{bytes_eq}
use Rattle.tm_desk.specs.declared.files.File.{File}

-- the bytes of the first file of this name
abbrev pub file_of : List File → List ℕ → Option (List ℕ)
file_of [] name = None
file_of (f ∷ fs) name = if bytes_eq f.name name then Some f.bytes else file_of fs name

-- the same, with an empty file under every name that the list hasn't
abbrev pub file_or_empty : List File → List ℕ → Option (List ℕ)
file_or_empty fs name = Some (unwrap_or (file_of fs name) [])

-- the place of the first file of this name, or the length where there is none
pub record IsPlace (fs : List File) (name : List ℕ) (place : ℕ) : Type 0 where
  pub within : place ≤ length fs
  pub earlier : file_of (take place fs) name ≡ None
  pub same_name : (other : File) → place < length fs → (slice_index_or fs place other).name ≡ name
