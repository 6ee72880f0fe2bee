-- How a program ended.
use Rattle.std.specs.Prelude.{ℤ, Bool, true, false, Option, None, Some}
use Rattle.std.specs.declared.io.ErrorKind.{ErrorKind}
use Rattle.std.specs.declared.io.ErrorKind.TheVariants.{OutOfMemory, WouldBlock}
use Rattle.bf_try.specs.declared.answers.Exit.{Exit}

-- how a program ended: by a code, or else by a signal
abbrev pub exit_in : Option ℤ → Exit
exit_in (Some code) = Exit.Code code
exit_in None = Exit.Signal

-- EAGAIN of processes, ENOMEM of memory
abbrev pub is_want_of_room : ErrorKind → Bool
is_want_of_room WouldBlock = true
is_want_of_room OutOfMemory = true
is_want_of_room kind = false
