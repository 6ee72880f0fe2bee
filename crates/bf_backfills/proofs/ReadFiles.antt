-- Files that are read one list after another.
use Rattle.std.proofs.Common.{◌≡◌, ℕ, List, [], ◌∷◌, ◌++◌, inl, inr, subst}
use Rattle.std.proofs.lemmas.List.Elements.{All-head, All-tail, All-weaker}
use Rattle.bf_command_fault.specs.declared.fault.CommandFault.{CommandFault}
use Rattle.bf_command_fault.specs.declared.fault.CommandFault.TheVariants.{CannotRead, OutOfMemory}
use Rattle.bf_disk.specs.Files.{AreReadable, Files, IsFirstUntold, IsReadable, IsUntold}
use Rattle.bf_input.specs.Inputs.{IsReadingFault}

module _ (files : Files) where
  untold_first : (xs ys : List (List ℕ)) (path : List ℕ) → IsFirstUntold files xs path → IsFirstUntold files (xs ++ ys) path
  untold_first [] ys path is = absurd is
  untold_first (x ∷ xs) ys path (inl is) = inl is
  untold_first (x ∷ xs) ys path (inr (readable, is)) = inr (readable, untold_first xs ys path is)

  untold_then : (xs ys : List (List ℕ)) (path : List ℕ) → AreReadable files xs → IsFirstUntold files ys path → IsFirstUntold files (xs ++ ys) path
  untold_then [] ys path readable is = is
  untold_then (x ∷ xs) ys path readable is = inr (All-head (λ p. IsReadable (files p)) x xs readable, untold_then xs ys path (All-tail (λ p. IsReadable (files p)) x xs readable) is)

  -- the fault is one of the first files
  pub reading_first : (xs ys : List (List ℕ)) (fault : CommandFault) → IsReadingFault files xs fault → IsReadingFault files (xs ++ ys) fault
  reading_first xs ys (CannotRead path) is = untold_first xs ys path is
  reading_first xs ys OutOfMemory is = tt
  reading_first xs ys fault is = absurd is

  -- or these can be read, and it is one of the others
  pub reading_then : (xs ys : List (List ℕ)) (fault : CommandFault) → AreReadable files xs → IsReadingFault files ys fault → IsReadingFault files (xs ++ ys) fault
  reading_then xs ys (CannotRead path) readable is = untold_then xs ys path readable is
  reading_then xs ys OutOfMemory readable is = tt
  reading_then xs ys fault readable is = absurd is

-- reading other files leaves what is told of them
module _ (before after : Files) (stays : (p : List ℕ) → after p ≡ before p) where
  pub readable_before : (xs : List (List ℕ)) → AreReadable after xs → AreReadable before xs
  readable_before xs readable = All-weaker (λ p. IsReadable (after p)) (λ p. IsReadable (before p)) (λ p is. subst IsReadable (stays p) is) xs readable

  untold_before : (xs : List (List ℕ)) (path : List ℕ) → IsFirstUntold after xs path → IsFirstUntold before xs path
  untold_before [] path is = absurd is
  untold_before (x ∷ xs) path (inl (same, untold)) = inl (same, subst IsUntold (stays x) untold)
  untold_before (x ∷ xs) path (inr (readable, is)) = inr (subst IsReadable (stays x) readable, untold_before xs path is)

  pub reading_before : (xs : List (List ℕ)) (fault : CommandFault) → IsReadingFault after xs fault → IsReadingFault before xs fault
  reading_before xs (CannotRead path) is = untold_before xs path is
  reading_before xs OutOfMemory is = tt
  reading_before xs fault is = absurd is
