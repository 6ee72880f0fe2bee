-- Commands in the making.
use Rattle.std.specs.Prelude.{◌≡◌, IfOk}
use Rattle.clap.specs.Words.{App, app_of}
use Rattle.bf_grammar.specs.declared.draft.Draft.{Draft}

-- the command, if memory was there for it
abbrev pub IsDraftOf : App → Draft → Type 0
IsDraftOf app draft = IfOk draft.command (λ command. app_of command ≡ app)
