-- Files in memory, found by their paths.
use Rattle.std.proofs.Common.{◌≡◌, ℕ, List, [], ◌∷◌, Option, Some, Bool, true, false, cond, map, option_map, refl, string_bytes}
use Rattle.std.specs.Prelude.{find}
use Rattle.std.specs.Str.{bytes_eq}
use Rattle.bf_disk.specs.Source.{file_in}
use Rattle.bf_disk.specs.Stored.{seen}
use Rattle.bf_disk.specs.declared.stored.StoredFile.{StoredFile}

-- the first of two finds, or else the others
at_test : (f : StoredFile) (t : Bool) (rest : Option (List ℕ × List ℕ)) (others : Option StoredFile)
    → option_map (λ e. e.1) rest ≡ option_map (λ f. f.bytes.items) others
    → option_map (λ e. e.1) (cond t (Some (seen f)) rest) ≡ option_map (λ f. f.bytes.items) (cond t (Some f) others)
at_test f true rest others same = refl
at_test f false rest others same = same

-- the bytes of the file that is found
pub found_bytes : (files : List StoredFile) (path : List ℕ) → file_in (map seen files) path
    ≡ option_map (λ f. f.bytes.items) (find (λ f. bytes_eq (string_bytes f.path) path) files)
found_bytes [] path = refl
found_bytes (f ∷ fs) path = at_test f (bytes_eq (string_bytes f.path) path) _ _ (found_bytes fs path)
